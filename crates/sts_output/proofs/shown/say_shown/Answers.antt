use Rattle.std.proofs.Common.{◌≡◌, ℕ, ◌+◌, ◌≤◌, List, [], ◌∷◌, ◌++◌, length, drop, map, sym, ap, ◌∙◌}
use Rattle.std.proofs.lemmas.List.{append-nil, at_drop_all, at_drop_more}
use Rattle.laws_words.proofs.AppendLemmas.{part_said}
use Rattle.sts_output.specs.Shown.{shown_byte}
use Rattle.sts_output.proofs.shown.say_shown.Goals as goal

-- all bytes are said
ended : (f : ℕ → ℕ) (line : List ℕ) (i : ℕ) (out all : List ℕ) → length line ≤ i → out ++ map f (drop i line) ≡ all → out ≡ all
ended f line i out all past is = sym (append-nil out) ∙ ap (λ (l : List ℕ). out ++ l) (sym (at_drop_all (map f) line i past)) ∙ is

pub loop-b-preserved : goal.loop-b-preserved
loop-b-preserved c =
    part_said c.loop-b.out.items c.push.new.self.items (c.shown_byte.result ∷ []) _ _ _ c.loop-b.invariant
    (at_drop_more (map shown_byte) c.args.line.now c.loop-b.b-index 0 c.loop-b-test.true ∙ ap
    (λ (x : ℕ). x ∷ map shown_byte (drop (c.loop-b.b-index + 1) c.args.line.now)) (sym c.shown_byte.ensures))
    c.in_ok-push.ensures.items

pub returns : goal.returns
returns c = ended shown_byte c.args.line.now c.loop-b.b-index c.loop-b.out.items _ c.loop-b-test.false c.loop-b.invariant
