-- Runs, event by event.
use Rattle.std.proofs.Common.{◌≡◌, ℕ, ◌+◌, List, [], ◌∷◌, ◌++◌, refl, arith, fold}
use Rattle.std.proofs.lemmas.List.Sums.{fold-append}
use Rattle.sts_code.specs.Program.{Program}
use Rattle.sts_model.specs.declared.event.Event.{Event}
use Rattle.sts_model.specs.declared.event.Fault.{Fault}
use Rattle.sts_model.specs.World.{State, Faulted, opening}
use Rattle.sts_model.specs.Run.{apply, after, steps_in, sum_over, taken_from}

-- events one after another
pub after-append : (p : Program) (before later : List Event) → after p (before ++ later) ≡ fold (apply p) (after p before) later
after-append p before later = fold-append (apply p) (opening p) before later

-- a fault stays
pub fault-fold : (p : Program) (later : List Event) (kind : Fault) (t f pc : ℕ) → fold (apply p) (Faulted kind t f pc) later ≡ Faulted kind t f pc
fault-fold p [] kind t f pc = refl
fault-fold p (e ∷ es) kind t f pc = fault-fold p es kind t f pc

-- ---- steps taken

-- of one event more
pub sum_one_more : {S : Type 0} (count : S → Event → ℕ) (change : S → Event → S) (state : S) (events : List Event) (e : Event) → sum_over count change state (events ++ e ∷ []) ≡ sum_over count change state events + count (fold change state events) e
sum_one_more count change state [] e = omega arith
sum_one_more count change state (x ∷ xs) e = let h = sum_one_more count change (change state x) xs e in omega (arith, h)

pub taken_one_more : (p : Program) (state : State) (events : List Event) (e : Event) → taken_from p state (events ++ e ∷ []) ≡ taken_from p state events + steps_in p (fold (apply p) state events) e
taken_one_more p state events e = sum_one_more (steps_in p) (apply p) state events e
