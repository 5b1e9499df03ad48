use Rattle.std.proofs.Common.{◌∙◌, w64}
use Rattle.std.specs.Str.Parse.{ParsesSigned}
use Rattle.sts_text.proofs.NumberLemmas.{parsed_negative, minus_utf8}
use Rattle.sts_text.proofs.numbers.negative.Goals as goal

pub returns : goal.returns
returns c =
    let e = c.text_of.ensures (minus_utf8 c.args.word.now c.requires.minus c.requires.digits) in
    let p : ParsesSigned w64 10 c.args.word.now c.parse.result = rw e at c.parse.ensures.value.0 in
    c.ok.ensures.value ∙ parsed_negative c.args.word.now c.parse.result p c.requires.minus c.requires.digits
