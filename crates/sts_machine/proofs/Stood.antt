-- The scopes that are recorded for tasks, after an instruction of one task and after an event from
-- outside; and the room.
use Rattle.std.proofs.Common.{◌≡◌, ℕ, suc, List, [], ◌∷◌, length, map, Bool, true, false, Option, Some, None, refl, sym, ◌∙◌, ap, subst, cond, arith, get_or-set_same, get_or-set_other}
use Rattle.std.proofs.lemmas.Bool.Decides.{nat_tests}
use Rattle.std.specs.Prelude.{option_map, unwrap_or, ◌==◌}
use Rattle.sts_code.specs.Program.{Program}
use Rattle.sts_tree.specs.declared.record.TaskNode.{TaskNode}
use Rattle.sts_rules.specs.declared.budget.Budgets.{Budgets}
use Rattle.sts_code.specs.declared.instr.Instr.{Instr}
use Rattle.sts_code.specs.declared.instr.Instr.TheVariants.{Join, Close}
use Rattle.sts_model.specs.World.{instr_at}
use Rattle.sts_model.specs.declared.event.Stand.TheVariants.{Free}
use Rattle.sts_model.specs.Live.{Live}
use Rattle.laws_live.specs.Reading.{lives_in, alive_at}
use Rattle.laws_live.specs.Waiting.{live_stand_at, live_stand_at_instr}
use Rattle.sts_store.specs.View.{Beside, tasks_from}
use Rattle.laws_live.specs.Stands.{IsUnmoved, IdleStandFree}
use Rattle.sts_store.specs.Parts.{Parts, Unseen, live_of, unseen_of, beside, stand_in, stand_of, stood_unseen}
use Rattle.sts_machine.specs.Changing.{Changes, may_wait, may_wait_next}
use Rattle.sts_machine.specs.Room.{HasRoomOf}
use Rattle.sts_machine.specs.Standing.{AreStanding, AreStandingBut}
use Rattle.sts_machine.proofs.Lists.{apart}
use Rattle.sts_machine.proofs.Changing.{inside}

-- ---- as many tasks are said to stand somewhere as were born

born_from : {E : Type 0} (b : Beside E) (n : ℕ) (xs : List (Option TaskNode)) → length (map (option_map stand_of) xs) ≡ length (tasks_from b n xs)
born_from b n [] = refl
born_from b n (x ∷ xs) = ap suc (born_from b (suc n) xs)

pub stands_born : (m : Parts) → length (unseen_of m).stands ≡ length (live_of m).tasks
stands_born m = born_from (beside m) 0 m.tree.tasks

-- ---- after an instruction

others_stand : (p : Program) (v x : Live) (u w : Unseen) (t : ℕ) → ((i : ℕ) → (i == t) ≡ false → IsUnmoved p v x i) → IdleStandFree → AreStanding p v u → Changes v u x w t → AreStandingBut p x w t
others_stand p v x u w t moved idle standing c i other lives = by (lives_in v i) refl
  where
    by : (b : Bool) → lives_in v i ≡ b → stand_in w i ≡ live_stand_at p x i
    by true e = c.others i other lives ∙ ap (λ b. cond b (stand_in u i) Free) e ∙ standing i e ∙ sym (moved i other).stand
    by false e = c.others i other lives ∙ ap (λ b. cond b (stand_in u i) Free) e ∙ sym (idle p v i e) ∙ sym (moved i other).stand

-- like `others_stand`, for the view y that was made
pub others_stood : (p : Program) (v x y : Live) (u w : Unseen) (t : ℕ) → y ≡ x → ((i : ℕ) → (i == t) ≡ false → IsUnmoved p v x i) → IdleStandFree → AreStanding p v u → Changes v u y w t → AreStandingBut p y w t
others_stood p v x y u w t same moved idle standing c =
    others_stand p v y u w t (λ i other. subst (λ (z : Live). IsUnmoved p v z i) (sym same) (moved i other)) idle standing c

pub room_kept : (v x : Live) (u w : Unseen) (t : ℕ) (b : Budgets) → Changes v u x w t → HasRoomOf b v u → HasRoomOf b x w
room_kept v x u w t b c h =
    record {
      tasks = c.tasks ∙ h.tasks;
      frames = c.frames ∙ h.frames;
      scopes = c.scopes ∙ h.scopes;
      binds = c.binds ∙ h.binds;
    }

-- ---- a task says where it stands

pub stands_anew : (p : Program) (m : Parts) (t : ℕ) → AreStandingBut p (live_of m) (unseen_of m) t → lives_in (live_of m) t ≡ true → AreStanding p (live_of m) (stood_unseen (unseen_of m) t (live_stand_at p (live_of m) t))
stands_anew p m t others lives i alive = by (i == t) refl
  where
    u : Unseen
    u = unseen_of m

    v : Live
    v = live_of m

    by : (b : Bool) → (i == t) ≡ b → stand_in (stood_unseen u t (live_stand_at p v t)) i ≡ live_stand_at p v i
    by true e =
        let same : i ≡ t = grind (arith, nat_tests) in
        let born = stands_born m in
        let less = inside v t lives in
        ap (λ n. stand_in (stood_unseen u t (live_stand_at p v t)) n) same
        ∙ ap (λ o. unwrap_or o Free) (get_or-set_same u.stands t (Some (live_stand_at p v t)) None (omega (arith, born, less)))
        ∙ ap (live_stand_at p v) (sym same)
    by false e = ap (λ o. unwrap_or o Free) (get_or-set_other u.stands t i (Some (live_stand_at p v t)) None (apart i t e)) ∙ others i e alive

-- a task that has ended needs no record
pub stood_ended : (p : Program) (v : Live) (u : Unseen) (t : ℕ) → AreStandingBut p v u t → lives_in v t ≡ false → AreStanding p v u
stood_ended p v u t others dead i alive = by (i == t) refl
  where
    by : (b : Bool) → (i == t) ≡ b → stand_in u i ≡ live_stand_at p v i
    by true e =
        let same : i ≡ t = grind (arith, nat_tests) in
        let never : true ≡ false = sym alive ∙ ap (lives_in v) same ∙ dead in
        cc
    by false e = others i e alive

-- a task at neither a `join` nor a `close` is at no scope
pub unwaiting : (p : Program) (v : Live) (t : ℕ) (i : Instr) → instr_at p (alive_at v t).frame ≡ Some i → may_wait i ≡ false → live_stand_at p v t ≡ Free
unwaiting p v t i at e = ap (live_stand_at_instr v t) at ∙ by i e
  where
    by : (j : Instr) → may_wait j ≡ false → live_stand_at_instr v t (Some j) ≡ Free
    by (Join x failed timeout interrupted) e = cc
    by (Close x) e = cc
    by j e = refl

pub unwaiting_next : (p : Program) (v : Live) (t : ℕ) (o : Option Instr) → instr_at p (alive_at v t).frame ≡ o → may_wait_next o ≡ false → live_stand_at p v t ≡ Free
unwaiting_next p v t None at e = ap (live_stand_at_instr v t) at
unwaiting_next p v t (Some i) at e = unwaiting p v t i at e
