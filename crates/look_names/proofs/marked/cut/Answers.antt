use Rattle.std.proofs.lemmas.Str.Ascii.{trim_ascii_end_is}
use Rattle.look_names.proofs.marked.cut.Goals as goal

pub returns : goal.returns
returns c = trim_ascii_end_is _ _ c.trim_ascii_end.ensures.value
