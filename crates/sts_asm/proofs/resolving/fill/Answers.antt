use Rattle.std.proofs.Common.{rules, ◌≡◌, ◌<◌, ◌+◌, arith, length, get_or, take, drop, true, false, slice_set, ◌++◌, ◌∷◌, [], sym, ◌∙◌, ap}
use Rattle.std.specs.Prelude.{Ok, map}
use Rattle.std.proofs.lemmas.List.{take_more, take_more_set, drop-set-lt, length-set}
use Rattle.sts_code.specs.declared.instr.Instr.{Instr}
use Rattle.sts_asm.specs.Kept.{filled, without_names}
use Rattle.sts_asm.specs.Line.{has_names}
use Rattle.sts_asm.specs.Text.{instr_at}
use Rattle.sts_asm.proofs.InPlaceLemmas.{next_of}
use Rattle.sts_asm.proofs.KeptLemmas.{filled_more, filled_less, filled_done, parts_more}
use Rattle.sts_asm.proofs.resolving.fill.Goals.{then-has_names+in_ok-code, else-has_names}
use Rattle.sts_asm.proofs.resolving.fill.Goals as goal

-- Both branches are proved in one answer, since a search sees what a branch did only inside the `elim`, where `w` has its steps.
pub loop-at-preserved : goal.loop-at-preserved
loop-at-preserved c =
    let l = c.loop-at in
    let i = l.at in
    let read = instr_at c.args.names.now in
    let again = c.args.again.now in
    let code = l.code.items in
    let after = c.if-has_names.code.items in
    let old = c.index.result.now in
    let whole = filled read again c.args.code.now.items in
    let room : i < length code = search rules in
    let old_is : old ≡ get_or code i old = search rules in
    elim c.if-has_names.branch [
      | then-has_names+in_ok-code w ↦
          let y = w.in_ok-code.field-0 in
          let line = w.index-again-next.result in
          let here : drop l.next again ≡ line ∷ drop (l.next + 1) again = next_of again l.next line line (search rules) (search rules) in
          let is : after ≡ slice_set code i y = search rules in
          let said : read line ≡ Ok y = search rules in
          let named : has_names old ≡ true = search rules in
          let front = ap (take (i + 1)) is ∙ take_more_set code i y room in
          let more = ap (drop (i + 1)) is ∙ drop-set-lt (i + 1) code i y (omega arith) in
          let next_is : c.if-has_names.next ≡ l.next + 1 = search rules in
          record {
            read = rw next_is (filled_more read again l.next line code after i old y whole here room old_is named said front more l.invariant.read);
            left = search rules;
            size = ap length is ∙ length-set code i y ∙ l.invariant.size;
            same = parts_more c.args.names.now again l.next line code after i y old (map without_names c.args.code.now.items)
                (search rules) (search rules) room old_is named said is l.invariant.same;
          }
      | else-has_names w ↦
          let is : after ≡ code = search rules in
          let without : has_names old ≡ false = search rules in
          let front = ap (take (i + 1)) is ∙ take_more code i old room ∙ ap (λ (x : Instr). take i code ++ x ∷ []) (sym old_is) in
          let next_is : c.if-has_names.next ≡ l.next = search rules in
          record {
            read = rw next_is (filled_less read again l.next code after i old whole room old_is without front (ap (drop (i + 1)) is) l.invariant.read);
            left = search rules;
            size = ap length is ∙ l.invariant.size;
            same = rw is l.invariant.same;
          }
    ]

pub returns : goal.returns
returns c =
    let l = c.loop-at in
    record {
      steps = filled_done (instr_at c.args.names.now) (drop l.next c.args.again.now) l.code.items l.at
          (filled (instr_at c.args.names.now) c.args.again.now c.args.code.now.items) (omega arith) l.invariant.read;
      same = tt;
    }
