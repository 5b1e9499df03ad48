-- Facts of every state of every run: completions, closed scopes, owners.
use Rattle.std.proofs.Common.{ℕ}
use Rattle.sts_model.specs.World.{World, scope_at}
use Rattle.laws_runs.specs.States.{IsTold, CompletionsAreEnds, ClosedIsEmpty, OwnersHold}
use Rattle.laws_runs.proofs.CompletionLemmas.{ToldIn}
use Rattle.laws_runs.proofs.EventLemmas.{ever}

is_told : (w : World) (s : ℕ) → ToldIn w.tasks s (scope_at w s) → IsTold w s
is_told w s h = record { ended = h.ended; subtask = h.subtask; once = h.once; complete = h.complete }

pub completions_are_ends : CompletionsAreEnds
completions_are_ends = ever _ (λ p w h s. is_told w s (h.told s))

pub closed_is_empty : ClosedIsEmpty
closed_is_empty = ever _ (λ p w h s u closed inside. h.sound.empty s u closed inside)

pub owners_hold : OwnersHold
owners_hold = ever _ (λ p w h s born still. let k = h.sound.held s born still in record { alive = k.alive; entry = k.entry })
