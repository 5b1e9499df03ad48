-- A machine after an event from outside.
use Rattle.std.proofs.Common.{◌≡◌, ℕ, ◌+◌, sym, ◌∙◌, subst, arith}
use Rattle.sts_code.specs.Program.{Program}
use Rattle.sts_model.specs.declared.event.Event.{Event}
use Rattle.sts_model.specs.declared.event.Event.TheVariants as event
use Rattle.sts_model.specs.Live.{Live}
use Rattle.laws_live.specs.Outside.{live_expire, live_interrupt}
use Rattle.laws_live.specs.Run.{live_apply, live_steps_in}
use Rattle.laws_live.specs.Stands.{IsUnmoved, InterruptsMoveNone, ExpiriesMoveNone}
use Rattle.sts_store.specs.Parts.{Parts, Unseen, live_of, unseen_of}
use Rattle.sts_machine.specs.Machine.{IsMachine}
use Rattle.sts_machine.specs.Standing.{AreStanding}
use Rattle.sts_machine.proofs.Changing.{as_are, changes-quiet, lives_quiet}
use Rattle.sts_machine.proofs.Quiet.{IsQuiet, quiet-expire, quiet-interrupt}
use Rattle.sts_machine.proofs.Stood.{room_kept}
use Rattle.sts_machine.proofs.Turning.{moved, ordered}

-- the parts k after an event that moves no task
module _ (p : Program) (m : Parts) (n : ℕ) (is : IsMachine p m n) (k : Parts) (rest : unseen_of k ≡ unseen_of m) where
  came : (e : Event) → live_of k ≡ live_apply p (live_of m) e → IsQuiet (live_of m) (live_apply p (live_of m) e) → ((i : ℕ) → IsUnmoved p (live_of m) (live_apply p (live_of m) e) i) → n ≡ n + live_steps_in p (live_of m) e → IsMachine p k n
  came e live quiet unmoved none =
      let v = live_of m in
      let x = live_apply p v e in
      let u = unseen_of m in
      let w = unseen_of k in
      let standing : AreStanding p (live_of k) w =
      subst (λ (q : Live). AreStanding p q w) (sym live)
      (subst (λ (q : Unseen). AreStanding p x q) (sym rest) (λ i alive. is.standing i (sym (lives_quiet v x i quiet) ∙ alive) ∙ sym (unmoved i).stand)) in
      moved p m n is e k n live none standing
      (λ b. room_kept v (live_of k) u w 0 b (as_are v x (live_of k) u u w 0 live rest (changes-quiet v x u 0 quiet)))

  pub interrupted : (t : ℕ) → InterruptsMoveNone → live_of k ≡ live_interrupt (live_of m) t → IsMachine p k n
  interrupted t law live = came (event.Interrupt t) live (quiet-interrupt (live_of m) t) (law p (live_of m) (ordered p m n is) t) (omega arith)

  pub expired : (s : ℕ) → ExpiriesMoveNone → live_of k ≡ live_expire (live_of m) s → IsMachine p k n
  expired s law live = came (event.Expire s) live (quiet-expire (live_of m) s) (law p (live_of m) (ordered p m n is) s) (omega arith)
