-- A closed table has each end of an accepted program.
use Rattle.std.proofs.Common.{◌≡◌, ℕ, inr, List, [], ◌∷◌, Bool, true, Option, Some, None, refl, sym, subst, arith, cond, length, get_or}
use Rattle.std.specs.Prelude.{count_by, nat_lt}
use Rattle.std.specs.List.{All, Contains}
use Rattle.std.proofs.lemmas.List.Sums.{sum_by-cons}
use Rattle.sts_code.specs.Program.{Program}
use Rattle.sts_model.specs.declared.event.End.{End}
use Rattle.sts_model.specs.declared.event.Event.{Event}
use Rattle.sts_model.specs.declared.event.Event.TheVariants as event
use Rattle.sts_model.specs.World.{World, State, task_at}
use Rattle.sts_plain.specs.Seen.{shown, ended_or_running}
use Rattle.sts_plain.specs.declared.misstep.PlainState.{PlainState}
use Rattle.sts_plain.specs.declared.misstep.PlainState.TheVariants as plain
use Rattle.laws_runs.specs.Runs.{In, NeverFaults}
use Rattle.laws_calls.specs.declared.table.Outside.{Outside}
use Rattle.laws_calls.specs.Outside.{only_interrupts}
use Rattle.laws_calls.specs.Tasks.{HasWay}
use Rattle.laws_calls.specs.Steps.{Table, IsTable}
use Rattle.laws_calls.specs.declared.table.Row.{Row}
use Rattle.laws_calls.specs.Covers.{AreWithin}
use Rattle.laws_calls.specs.Covers as covers
use Rattle.laws_calls.specs.Covered.{EndsAreWays}
use Rattle.laws_calls.specs.declared.table.Way.{Way}
use Rattle.ends_picks.proofs.ListLemmas.{all_ways}
use Rattle.ends_table.specs.Led.{IsClosed}
use Rattle.ends_plain.specs.Ends.{AreAll, is_end, is_interrupt}
use Rattle.ends_plain.specs.Listed.{ends_of}
use Rattle.ends_plain.specs.declared.config.Found.{Found}
use Rattle.ends_plain.specs.declared.config.Setting.{Setting}
use Rattle.ends_whole.specs.Whole.{AreAllOf}

same_interrupts : (events : List Event) → count_by covers.is_interrupt events ≡ count_by is_interrupt events
same_interrupts [] = refl
same_interrupts (e ∷ es) =
    let a = sum_by-cons (λ (y : Event). cond (covers.is_interrupt y) 1 0) e es in
    let b = sum_by-cons (λ (y : Event). cond (is_interrupt y) 1 0) e es in
    let here = one e in
    let rest = same_interrupts es in
    omega (arith, a, b, here, rest)
  where
    one : (e : Event) → cond {A = ℕ} (covers.is_interrupt e) 1 0 ≡ cond (is_interrupt e) 1 0
    one (event.Step t) = refl
    one (event.Interrupt t) = refl
    one (event.Expire s) = refl

module _ (law : EndsAreWays) (p : Program) (interrupts : ℕ) (t : Table) (root : Row) (is : IsTable p (only_interrupts interrupts) t root) (never : NeverFaults p) (ends : List PlainState) (has : (e : End) → HasWay root.ways e → Contains ends (plain.Ended e)) where
  of : (o : Option End) → ((e : End) → o ≡ Some e → HasWay root.ways e) → (end : PlainState) → ended_or_running o ≡ end → is_end end ≡ true → Contains ends end
  of None ways end same ends_so = let e : is_end plain.Running ≡ true = subst (λ x. is_end x ≡ true) (sym same) ends_so in cc
  of (Some e) ways end same ends_so = subst (λ x. Contains ends x) same (has e (ways e refl))

  pub whole : (may_expire : Bool) → AreAll p may_expire interrupts ends
  whole may_expire events end it =
      let same = same_interrupts events in
      let within : AreWithin (only_interrupts interrupts) events = inr (omega (arith, it.allowed.interrupts, same)) in
      let run = never events in
      let w : World = run.0 in
      of (task_at w 0).outcome
      (λ e. subst (λ (s : State). In (λ v. (task_at v 0).outcome ≡ Some e → HasWay root.ways e) s) run.1 (law p (only_interrupts interrupts) t root is events within e))
      end
      (subst (λ (s : State). shown s ≡ end) run.1 it.comes)
      it.ends

-- the first row of a closed table
first_row : (p : Program) (outside : Outside) (t : Table) (root : Row) → IsClosed p outside t → true ≡ nat_lt 0 (length t) → root ≡ get_or t 0 root → IsTable p outside t root
first_row p outside [] root closed some at = absurd (cc)
first_row p outside (first ∷ rows) root closed some at = subst (λ (r : Row). IsTable p outside (first ∷ rows) r) (sym at) closed

-- the ends of the ways of a closed table's first row are all ends
pub are_all : EndsAreWays → (g : Setting) (t : Table) (root : Row) (ways : List Way) (found : List Found) → IsClosed g.program (only_interrupts g.interrupts) t → true ≡ nat_lt 0 (length t) → root ≡ get_or t 0 root → ways ≡ root.ways → All (λ (way : Way). Contains (ends_of found) (plain.Ended way.end)) ways → NeverFaults g.program → AreAllOf g found
are_all law g t root ways found closed some at same have never =
    let has = λ (e : End) (way : HasWay root.ways e). all_ways (λ (d : End). Contains (ends_of found) (plain.Ended d)) ways e have (subst (λ (ws : List Way). HasWay ws e) (sym same) way) in
    whole law g.program g.interrupts t root (first_row g.program (only_interrupts g.interrupts) t root closed some at) never (ends_of found) has g.expiries
