use Rattle.look_text.proofs.HeadLaw.{heads_begin}
use Rattle.look_text.proofs.laws.heads_begin_functions.Goals as goal

pub returns : goal.returns
returns c = heads_begin
