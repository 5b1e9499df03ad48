use Rattle.std.proofs.Common.{◌≡◌, ℕ, ◌+◌, ◌<◌, List, [], ◌++◌, length, get_or, take, sym, ap, ◌∙◌}
use Rattle.std.specs.List.{flat_map}
use Rattle.std.proofs.lemmas.List.{flat_map_more, take_all, take_more}
use Rattle.ends_plain.specs.Traces.{run_events}
use Rattle.ends_plain.proofs.trace.Trace.events.Goals as goal

-- the parts of one item more
more : {X Y : Type 0} (f : X → List Y) (xs all : List X) (i : ℕ) (d : X) (old new : List Y) → all ≡ xs → i < length all → old ≡ flat_map f (take i xs) → new ≡ old ++ f (get_or all i d) → new ≡ flat_map f (take (i + 1) xs)
more {X} f xs all i d old new same less is e =
    e ∙ ap (λ l. l ++ f (get_or all i d)) is
    ∙ ap (λ (l : List X). flat_map f (take i xs) ++ f (get_or l i d)) same
    ∙ flat_map_more f [] (take i xs) (get_or xs i d)
    ∙ ap (λ (l : List X). flat_map f l) (sym (take_more xs i d (rw same at less)))

pub loop-run-init : goal.loop-run-init
loop-run-init c = c.new-events.ensures.items

pub loop-run-preserved : goal.loop-run-preserved
loop-run-preserved c = more run_events c.self.inside.runs.items c.as_slice-run-items.result.now c.loop-run.run-index _
    c.loop-run.events.items c.push_run.new.events.items c.as_slice-run-items.ensures.value c.loop-run-test.true c.loop-run.invariant
    c.in_ok-push_run.ensures

pub returns : goal.returns
returns c =
    c.in_ok-push_run-2.ensures
    ∙ ap (λ l. l ++ run_events c.self.inside.last) (c.loop-run.invariant ∙ ap (flat_map run_events)
    (take_all c.loop-run.run-index c.self.inside.runs.items (rw c.as_slice-run-items.ensures.value at c.loop-run-test.false)))
    ∙ c.self.view_is
