-- The laws of scopes over every run.
use Rattle.std.proofs.Common.{◌≡◌, ℕ, Bool, true, false, Option, Some, None, refl}
use Rattle.sts_model.specs.declared.event.End.{End}
use Rattle.sts_model.specs.declared.record.Task.{Task}
use Rattle.sts_model.specs.World.{World, task_at, scope_at}
use Rattle.sts_model.specs.Living.{lives, sub_state}
use Rattle.laws_runs.proofs.EventLemmas.{Also}
use Rattle.laws_runs.specs.Scopes.{CancelledHasCause, LeftOutIsCancelled, JoinedIsSettled, EntriesAreOpen}
use Rattle.laws_runs.proofs.OrderlyLemmas.{Orderly, ever-orderly}

pub cancelled_has_cause : CancelledHasCause
cancelled_has_cause = ever-orderly _ (λ p w h s born. h.also.settled.caused s born)

pub joined_is_settled : JoinedIsSettled
joined_is_settled = ever-orderly _ (λ p w h s u joined still inside. h.also.settled.joined s u joined still inside)

pub entries_are_open : EntriesAreOpen
entries_are_open =
    ever-orderly _
    (λ p w h t s alive has.
    let k = h.also.entered.opens t s alive has in
    record { born = k.owner.born; owner = k.owner.owner; still = k.still; once = h.also.entered.once t s })

-- a started task that doesn't live has ended
pub has_ended : (task : Task) → task.started ≡ true → lives task ≡ false → (end : End) × (task.outcome ≡ Some end)
has_ended task started dead = by task.outcome refl
  where
    by : (o : Option End) → task.outcome ≡ o → (end : End) × (task.outcome ≡ Some end)
    by (Some end) e = (end, e)
    by None e = let alive : lives task ≡ true = rw (started, e) refl in cc

left_out : (w : World) → Also Orderly w → (s u : ℕ) → (task_at w u).scope ≡ Some s → lives (task_at w u) ≡ false → sub_state w u ≡ None → (scope_at w s).cancelled ≡ true
left_out w h s u inside dead out = by (scope_at w s).cancelled refl
  where
    by : (b : Bool) → (scope_at w s).cancelled ≡ b → b ≡ true
    by true e = refl
    by false e =
        let end = has_ended (task_at w u) (h.also.settled.started s u inside e) dead in
        let told = (h.right.told s).complete e u end.0 inside end.1 in
        let state : sub_state w u ≡ Some end.0 = rw inside told in
        cc

pub left_out_is_cancelled : LeftOutIsCancelled
left_out_is_cancelled = ever-orderly _ (λ p w h s u inside dead out. left_out w h s u inside dead out)
