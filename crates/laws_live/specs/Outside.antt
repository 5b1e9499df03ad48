-- Interrupts and expiries from outside, in a live view (this project's own).
use Rattle.std.specs.Prelude.{ℕ, Bool, true, ◌&&◌, not, if◌then◌else◌}
use Rattle.sts_model.specs.Misuse.{can_join}
use Rattle.sts_model.specs.Live.{Live, LiveScope}
use Rattle.laws_live.specs.Reading.{live_scope_at, lives_in, with_alive, with_live_scope}
use Rattle.laws_live.specs.Cancelling.{live_cancel}

-- sets the flag of a living task
abbrev pub live_interrupt : Live → ℕ → Live
live_interrupt v t =
    if lives_in v t then with_alive v t (λ alive. record alive { flag = true }) else v

-- may this scope expire now?
abbrev pub live_can_expire : LiveScope → Bool
live_can_expire scope = scope.timed && not scope.expired && can_join scope.phase

-- marks the scope and cancels it
abbrev pub live_expire : Live → ℕ → Live
live_expire v s =
    if live_can_expire (live_scope_at v s)
    then live_cancel (with_live_scope v s (λ scope. record scope { expired = true })) s
    else v
