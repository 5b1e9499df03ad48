use Rattle.std.proofs.Common.{◌≡◌, ℕ, ◌+◌, List, [], ◌∷◌, ◌++◌, length, replicate, sym, ap, ◌∙◌, append_assoc, arith, rules}
use Rattle.std.specs.List.{flat_map}
use Rattle.std.proofs.lemmas.List.{flat_map_more, length_push, replicate_more}
use Rattle.sts_model.specs.declared.event.Event.{Event}
use Rattle.ends_plain.specs.Traces.{events_of, run_events}
use Rattle.ends_plain.specs.declared.trace.Run.{Run}
use Rattle.ends_plain.proofs.trace.Trace.push.Goals.{then-eq+then-self-lt4294967295, else-eq+in_ok-push}
use Rattle.ends_plain.proofs.trace.Trace.push.Goals as goal

-- the last run has one event more
grown : (runs : List Run) (r : Run) (e : Event) → r.event ≡ e → events_of runs (record r { count = r.count + 1 }) ≡ events_of runs r ++ e ∷ []
grown runs r e same =
    ap (λ l. flat_map run_events runs ++ l) (sym (replicate_more r.count r.event))
    ∙ sym (append_assoc (flat_map run_events runs) (replicate r.count r.event) (r.event ∷ []))
    ∙ ap (λ x. events_of runs r ++ x ∷ []) same

-- a run begins
started : (runs new : List Run) (r : Run) (e : Event) → new ≡ runs ++ r ∷ [] → events_of new (record { event = e; count = 1 }) ≡ events_of runs r ++ e ∷ []
started runs new r e is =
    ap (λ (l : List Run). flat_map run_events l ++ e ∷ []) is
    ∙ ap (λ l. l ++ e ∷ []) (sym (flat_map_more run_events [] runs r))

longer : (old new : List Event) (e : Event) (n m : ℕ) → new ≡ old ++ e ∷ [] → n ≡ length old → m ≡ n + 1 → m ≡ length new
longer old new e n m is all more =
    let long = ap length is ∙ length_push old e in
    omega (arith, all, more, long)

pub returns : goal.returns
returns c =
    rw (← c.self.view_is)
    (elim c.if-eq.branch [
      | then-eq+then-self-lt4294967295 w ↦ rw w.self-inside-is
          (grown c.self.inside.runs.items c.self.inside.last c.args.event (search rules))
      | else-eq+in_ok-push w ↦ rw w.self-inside-is
          (started c.self.inside.runs.items w.push.new.self.items c.self.inside.last c.args.event w.in_ok-push.ensures.items)
    ])

pub invariant_of-self-2 : goal.invariant_of-self-2
invariant_of-self-2 c =
    elim c.if-eq.branch [
      | then-eq+then-self-lt4294967295 w ↦ rw w.self-inside-is (longer _ _ c.args.event c.self.inside.len c.in-Some.len
          (grown c.self.inside.runs.items c.self.inside.last c.args.event (search rules)) c.self.invariant c.in-Some.ensures.1)
      | else-eq+in_ok-push w ↦ rw w.self-inside-is (longer _ _ c.args.event c.self.inside.len c.in-Some.len
          (started c.self.inside.runs.items w.push.new.self.items c.self.inside.last c.args.event w.in_ok-push.ensures.items)
          c.self.invariant c.in-Some.ensures.1)
    ]
