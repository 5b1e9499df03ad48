-- Laws for every state of every run: who owns what, which scopes count, who lives.
use Rattle.std.proofs.Common.{◌≡◌, ℕ, ◌<◌, List, Bool, true, false, Option, Some, None, refl, sym, ◌∙◌, length, get_or, subst}
use Rattle.std.proofs.lemmas.Bool.{not-false}
use Rattle.sts_model.specs.declared.record.Slot.TheVariants.{Own}
use Rattle.sts_model.specs.declared.record.Scope.{Scope}
use Rattle.sts_model.specs.World.{World, task_at, scope_at, no_scope}
use Rattle.sts_model.specs.Living.{lives, is_closed}
use Rattle.sts_model.specs.Misuse.{slot}
use Rattle.sts_model.specs.Standing.{is_standing_scope, stands_in}
use Rattle.laws_runs.proofs.ListLemmas.{within}
use Rattle.laws_runs.proofs.KeptLemmas.{Kept, Holds, dead_later}

-- a scope was born, and this task owns it
pub record Owner (scopes : List Scope) (s t : ℕ) : Type 0 where
  pub born : s < length scopes
  pub owner : (get_or scopes s no_scope).owner ≡ t

pub record Sound (w : World) : Type 0 where
  -- a slot only owns scopes of its task
  pub own : (t i s : ℕ) → slot (task_at w t).frame i ≡ Own s → Owner w.scopes s t
  -- the owner of a scope was born before its subtasks
  pub born : (u s : ℕ) → (task_at w u).scope ≡ Some s → (s < length w.scopes) × ((scope_at w s).owner < u)
  -- only the root is no subtask
  pub root : (u : ℕ) → lives (task_at w u) ≡ true → (task_at w u).scope ≡ None → u ≡ 0
  -- a scope that isn't closed is held by its owner
  pub held : (s : ℕ) → s < length w.scopes → is_closed (scope_at w s).phase ≡ false → Holds (task_at w (scope_at w s).owner) s
  -- in a closed scope nothing lives
  pub empty : (s u : ℕ) → is_closed (scope_at w s).phase ≡ true → (task_at w u).scope ≡ Some s → lives (task_at w u) ≡ false

-- what lives lived before
pub alive_before : (w v : World) (u : ℕ) → Kept w v → lives (task_at v u) ≡ true → lives (task_at w u) ≡ true
alive_before w v u k e = by (lives (task_at w u)) refl
  where
    by : (b : Bool) → lives (task_at w u) ≡ b → b ≡ true
    by true h = refl
    by false h = let d = dead_later (task_at w u) (task_at v u) (k.task u) h in cc

pub sound-kept : (w v : World) → Sound w → Kept w v → Sound v
sound-kept w v o k =
    record {
      own = λ t i s e. let h = o.own t i s (k.own t i s e) in record { born = rw (k.scopes) h.born; owner = (k.scope s).same.owner ∙ h.owner };
      born = λ u s e. let h = o.born u s (sym (k.task u).same.scope ∙ e) in (rw (k.scopes) h.0, rw ((k.scope s).same.owner) h.1);
      root = λ u alive e. o.root u (alive_before w v u k alive) (sym (k.task u).same.scope ∙ e);
      held = λ s less still. held s (rw (k.scopes) at less) still (is_closed (scope_at w s).phase) refl;
      empty = λ s u closed e. empty s u closed (sym (k.task u).same.scope ∙ e) (is_closed (scope_at w s).phase) refl;
    }
  where
    held : (s : ℕ) → s < length w.scopes → is_closed (scope_at v s).phase ≡ false → (b : Bool) → is_closed (scope_at w s).phase ≡ b → Holds (task_at v (scope_at v s).owner) s
    held s less still true e = let q = (k.scope s).marks.closed e in cc
    held s less still false e = rw ((k.scope s).same.owner) (k.held (scope_at w s).owner s still (o.held s less e))

    empty : (s u : ℕ) → is_closed (scope_at v s).phase ≡ true → (task_at w u).scope ≡ Some s → (b : Bool) → is_closed (scope_at w s).phase ≡ b → lives (task_at v u) ≡ false
    empty s u closed inside true e = dead_later (task_at w u) (task_at v u) (k.task u) (o.empty s u e inside)
    empty s u closed inside false e = k.emptied u s inside e closed

-- ---- what stands

-- a scope that isn't closed was born
pub born_open : (w : World) (s : ℕ) → is_closed (scope_at w s).phase ≡ false → s < length w.scopes
born_open w s e = within is_standing_scope w.scopes s no_scope refl (rw e refl)

-- if a task doesn't count, its scope was closed
closed_around : (w : World) (q : Option ℕ) (s : ℕ) → q ≡ Some s → stands_in w q ≡ false → is_closed (scope_at w s).phase ≡ true
closed_around w q s e out = not-false (is_closed (scope_at w s).phase) (subst (λ (o : Option ℕ). stands_in w o ≡ false) e out)

-- a task in a closed scope doesn't live
pub dead_around : (w : World) (u : ℕ) → Sound w → stands_in w (task_at w u).scope ≡ false → lives (task_at w u) ≡ false
dead_around w u o out = by (task_at w u).scope refl
  where
    by : (q : Option ℕ) → (task_at w u).scope ≡ q → lives (task_at w u) ≡ false
    by None e = let stands : stands_in w (task_at w u).scope ≡ true = rw e refl in cc
    by (Some s) e = o.empty s u (closed_around w (task_at w u).scope s e out) e

-- the scope of a living task isn't closed
pub stands_alive : (w : World) (u : ℕ) → Sound w → lives (task_at w u) ≡ true → stands_in w (task_at w u).scope ≡ true
stands_alive w u o alive = by (stands_in w (task_at w u).scope) refl
  where
    by : (b : Bool) → stands_in w (task_at w u).scope ≡ b → b ≡ true
    by true e = refl
    by false e = let dead = dead_around w u o e in cc
