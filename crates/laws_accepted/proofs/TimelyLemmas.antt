-- In every state of every run of every program: scopes and entries are orderly, and only a scope
-- with a timeout expires.
use Rattle.std.proofs.Common.{ℕ, List}
use Rattle.sts_code.specs.Program.{Program}
use Rattle.sts_model.specs.declared.event.Event.{Event}
use Rattle.sts_model.specs.World.{World, State, Running, Faulted, scope_at, opening}
use Rattle.sts_model.specs.Run.{after}
use Rattle.laws_runs.specs.Runs.{In, Leads}
use Rattle.laws_runs.proofs.EventLemmas.{Also, also-kept}
use Rattle.laws_runs.proofs.OrderlyLemmas.{Orderly, orderly-leads, orderly-opening}
use Rattle.laws_accepted.specs.Typed.{IsTimely, ExpiredIsTimed}
use Rattle.laws_accepted.proofs.Quiet.{quiet-effect, quiet-interrupt, quiet-expire}

pub record Timely (w : World) : Type 0 where
  pub orderly : Orderly w
  pub timely : (s : ℕ) → IsTimely (scope_at w s)

pub also-orderly : (w : World) → Also Timely w → Also Orderly w
also-orderly w h = record { right = h.right; also = h.also.orderly }

pub timely-leads : (p : Program) → Leads p (Also Timely) (λ w v. Timely v)
timely-leads p =
    record {
      nothing = λ w h. h.also;
      effect = λ w t i h d.
          record {
            orderly = (orderly-leads p).effect w t i (also-orderly w h) d;
            timely = λ s. (quiet-effect p w t i h.right.sound d.fine).timely s (h.also.timely s);
          };
      interrupt = λ w t h.
          record {
            orderly = (orderly-leads p).interrupt w t (also-orderly w h);
            timely = λ s. (quiet-interrupt w t).timely s (h.also.timely s);
          };
      expire = λ w s h.
          record {
            orderly = (orderly-leads p).expire w s (also-orderly w h);
            timely = λ r. (quiet-expire w s).timely r (h.also.timely r);
          };
    }

pub timely-opening : (p : Program) → In Timely (opening p)
timely-opening p = record { orderly = orderly-opening p; timely = λ s e. cc }

pub timely-after : (p : Program) (events : List Event) → In (Also Timely) (after p events)
timely-after p events = also-kept p Timely (timely-opening p) (timely-leads p) events

pub expired_is_timed : ExpiredIsTimed
expired_is_timed p events = by (after p events) (timely-after p events)
  where
    by : (state : State) → In (Also Timely) state → In (λ w. (s : ℕ) → IsTimely (scope_at w s)) state
    by (Running w) h = h.also.timely
    by (Faulted kind t f pc) h = tt
