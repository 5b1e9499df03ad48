use Rattle.std.proofs.Common.{◌≡◌, ℕ, List, ◌∷◌, Option, Some, Bool, true, false, if◌then◌else◌, sym, ap, ◌∙◌}
use Rattle.std.specs.Prelude.{option_map}
use Rattle.sts_asm.specs.Marks.{Names}
use Rattle.sts_asm.specs.Source.{names_at}
use Rattle.look_text.specs.Names.{known, name_stop, names_some}
use Rattle.look_text.specs.NearName.{missing}
use Rattle.look_text.specs.Wanted.{after, behind, first_wrong}
use Rattle.look_text.specs.declared.wanted.Expected.{Expected}
use Rattle.look_text.proofs.NearNameLemmas.{missing_behind}
use Rattle.look_text.proofs.near_name.missing_in.Goals as goal

-- the stop among words, by whether the first one names something
first_word : (names : Names) (wanted : Expected) (word : List ℕ) (words left : List (List ℕ)) (some : Bool) (all : Option (Expected × List ℕ)) → words ≡ word ∷ left → names_some names wanted word ≡ some → missing (name_stop names wanted words) ≡ all → missing (if some then option_map (behind word) (name_stop names (after wanted word) left) else Some (first_wrong (known wanted) word)) ≡ all
first_word names wanted word words left some all same is stop =
    sym (ap (λ (ws : List (List ℕ)). missing (name_stop names wanted ws)) same
    ∙ ap (λ (b : Bool). missing (if b then option_map (behind word) (name_stop names (after wanted word) left) else Some (first_wrong (known wanted) word))) is) ∙ stop

pub loop-word-preserved : goal.loop-word-preserved
loop-word-preserved c =
    let names = names_at c.args.outline.now c.args.function in
    let word = c.in-Some.word.now in
    ap (λ (w : Expected). missing (name_stop names w c.word.new.self)) c.after-wanted.ensures
    ∙ sym (missing_behind word (name_stop names (after c.loop-word.wanted word) c.word.new.self))
    ∙ first_word names c.loop-word.wanted word c.loop-word.left c.word.new.self true _ c.in-Some.ensures
    (sym c.names_some.ensures ∙ c.if-not-names_some.false) c.loop-word.invariant

pub returns-then-not-names_some : goal.returns-then-not-names_some
returns-then-not-names_some c =
    let names = names_at c.args.outline.now c.args.function in
    ap (λ (w : Expected). Some (w, c.in-Some.word.now)) c.known.ensures
    ∙ first_word names c.loop-word.wanted c.in-Some.word.now c.loop-word.left c.word.new.self false _ c.in-Some.ensures
    (sym c.names_some.ensures ∙ c.if-not-names_some.true) c.loop-word.invariant

pub returns : goal.returns
returns c =
    sym (ap (λ (ws : List (List ℕ)). missing (name_stop (names_at c.args.outline.now c.args.function) c.loop-word.wanted ws))
    c.in_default.ensures.0) ∙ c.loop-word.invariant
