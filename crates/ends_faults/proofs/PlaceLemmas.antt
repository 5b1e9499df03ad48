-- A table whose root row has few births keeps each run within the limits of births.
use Rattle.std.proofs.Common.{◌≡◌, ℕ, ◌+◌, ◌<◌, ◌≤◌, List, [], ◌∷◌, Bool, true, false, refl, ◌∙◌, ap, subst, arith, length, get_or}
use Rattle.std.specs.Prelude.{nat_le, ◌||◌}
use Rattle.std.proofs.lemmas.Bool.Decides.{nat_tests}
use Rattle.std.proofs.lemmas.List.Sums.{count_by-le-length}
use Rattle.sts_code.specs.Program.{Program}
use Rattle.sts_code.specs.declared.instr.Instr.TheVariants.{Open, Fork}
use Rattle.sts_model.specs.declared.event.Event.{Event}
use Rattle.sts_model.specs.World.{World, State, Running, Faulted, task_at}
use Rattle.sts_model.specs.Living.{lives}
use Rattle.sts_model.specs.Misuse.{is_crowded}
use Rattle.sts_model.specs.Standing.{standing_tasks, standing_scopes, is_standing_task, is_standing_scope}
use Rattle.sts_model.specs.Run.{after}
use Rattle.laws_runs.specs.Runs.{In, NeverFaults}
use Rattle.laws_calls.specs.declared.table.Outside.{Outside}
use Rattle.laws_calls.specs.declared.table.Row.{Row}
use Rattle.laws_calls.specs.Steps.{Table, IsTable}
use Rattle.laws_calls.proofs.FittingLemmas.{births_are_bounded}
use Rattle.ends_table.specs.Led.{IsClosed}
use Rattle.ends_faults.specs.Safe.{AreSafe}
use Rattle.ends_faults.specs.Faults.{HasPlace, HavePlaces}
use Rattle.ends_faults.proofs.TableLemmas.{safe_never_faults}

-- one birth more stays within the limits
not_crowded : (standing born : ℕ) → standing ≤ born → born < 65536 → is_crowded standing born ≡ false
not_crowded standing born less few =
    let room : nat_le 65536 standing ≡ false = grind (arith, nat_tests, less, few) in
    let born_few : nat_le 1000000 born ≡ false = grind (arith, nat_tests, few) in
    ap (λ (b : Bool). b || nat_le 1000000 born) room ∙ born_few

has_place : (p : Program) (w : World) (u : ℕ) → length w.tasks + length w.scopes < 65536 → HasPlace p w u
has_place p w u few (Open x timed joiner) at = not_crowded (standing_scopes w) (length w.scopes) (count_by-le-length is_standing_scope w.scopes) (omega (arith, few))
has_place p w u few (Fork x g h) at = not_crowded (standing_tasks w) (length w.tasks) (count_by-le-length (is_standing_task w) w.tasks) (omega (arith, few))
has_place p w u few i at = refl

in_map : (P Q : World → Type 0) (state : State) → ((w : World) → P w → Q w) → In P state → In Q state
in_map P Q (Running w) f h = f w h
in_map P Q (Faulted kind t g pc) f h = tt

have_places : (p : Program) (outside : Outside) (t : Table) (root : Row) → IsTable p outside t root → outside.cancels ≡ true → root.births + 1 < 65536 → (events : List Event) → HavePlaces p events
have_places p outside t root is cancels few events before later same =
    in_map (λ w. length w.tasks + length w.scopes ≤ 1 + root.births) (λ w. (u : ℕ) → lives (task_at w u) ≡ true → HasPlace p w u) (after p before)
    (λ w count u alive. has_place p w u (omega (arith, count, few)))
    (births_are_bounded p outside t root is cancels before)

pub never_faults : (p : Program) (outside : Outside) (t : Table) (root : Row) → IsTable p outside t root → outside.cancels ≡ true → root.births + 1 < 65536 → AreSafe p t → NeverFaults p
never_faults p outside t root is cancels few are = λ events. safe_never_faults p outside t root is cancels are events (have_places p outside t root is cancels few events)

-- a table that is closed
pub shown : (p : Program) (outside : Outside) (t : Table) (root : Row) → IsClosed p outside t → outside.cancels ≡ true → 0 < length t → root ≡ get_or t 0 root → root.births + 1 < 65536 → AreSafe p t → NeverFaults p
shown p outside [] root closed cancels some at few are = absurd (omega (arith, some))
shown p outside (first ∷ rows) root closed cancels some at few are =
    never_faults p outside (first ∷ rows) first closed cancels (subst (λ (r : Row). r.births + 1 < 65536) at few) are
