use Rattle.std.proofs.Common.{◌≡◌, ℕ, ◌+◌, ◌<◌, ◌≤◌, List, length, get_or, drop, map, Option, Some, None, refl, sym, ap, ◌∙◌}
use Rattle.std.specs.Prelude.{option_and_then}
use Rattle.std.proofs.lemmas.List.{at_drop_all, at_drop_more}
use Rattle.sts_model.specs.declared.event.Event.{Event}
use Rattle.look_traces.specs.Short.{events_from, with_word}
use Rattle.look_traces.proofs.short.events_of.Goals as goal

-- the word at a place is the first of those from there on
next_word : {X : Type 0} (xs : List X) (f : X → List ℕ) (i : ℕ) (d : X) (done : List Event) → i < length xs → events_from done (map f (drop i xs)) ≡ option_and_then (λ (l : List Event). events_from l (map f (drop (i + 1) xs))) (with_word done (f (get_or xs i d)))
next_word xs f i d done less = at_drop_more (λ l. events_from done (map f l)) xs i d less

-- one word more is added, or refused
more : {X : Type 0} (xs : List X) (f : X → List ℕ) (i : ℕ) (d : X) (done : List Event) (next all : Option (List Event)) → i < length xs → with_word done (f (get_or xs i d)) ≡ next → events_from done (map f (drop i xs)) ≡ all → option_and_then (λ (l : List Event). events_from l (map f (drop (i + 1) xs))) next ≡ all
more xs f i d done next all less step is =
    sym (next_word xs f i d done less ∙ ap (λ o. option_and_then (λ (l : List Event). events_from l (map f (drop (i + 1) xs))) o) step) ∙ is

-- all words are added
ended : {X : Type 0} (xs : List X) (f : X → List ℕ) (i : ℕ) (done : List Event) (all : Option (List Event)) → length xs ≤ i → events_from done (map f (drop i xs)) ≡ all → Some done ≡ all
ended xs f i done all past is = sym (at_drop_all (λ l. events_from done (map f l)) xs i past) ∙ is

pub loop-word-init : goal.loop-word-init
loop-word-init c = rw c.new-events.ensures.items refl

pub loop-word-preserved : goal.loop-word-preserved
loop-word-preserved c = more c.args.found.now (λ w. w.now) c.loop-word.word-index _ c.loop-word.events.items
    (Some c.add_word.new.events.items) _ c.loop-word-test.true (c.in_ok-add_word.ensures.added c.if-not-branch.false) c.loop-word.invariant

pub returns-then-not-branch : goal.returns-then-not-branch
returns-then-not-branch c = more c.args.found.now (λ w. w.now) c.loop-word.word-index _ c.loop-word.events.items None _
    c.loop-word-test.true (c.in_ok-add_word.ensures.refused c.if-not-branch.true) c.loop-word.invariant

pub returns : goal.returns
returns c = ended c.args.found.now (λ w. w.now) c.loop-word.word-index c.loop-word.events.items _ c.loop-word-test.false c.loop-word.invariant
