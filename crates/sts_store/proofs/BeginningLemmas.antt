-- A store with the root task alone.
use Rattle.std.proofs.Common.{◌≡◌, ℕ, zero, suc, List, [], ◌∷◌, length, Option, Some, None, refl, sym, ◌∙◌, ap, get_or, subst, ◌++◌}
use Rattle.std.specs.Prelude.{is_some, count_by}
use Rattle.sts_env.specs.Environments.{Records, IsWhole, keys_of}
use Rattle.sts_tree.specs.Forest.{root}
use Rattle.sts_tree.specs.declared.record.TaskNode.{TaskNode}
use Rattle.std.proofs.lemmas.Option.{same_Some}
use Rattle.sts_model.specs.Misuse.{is_binding}
use Rattle.sts_model.specs.declared.record.Entry.{Entry}
use Rattle.sts_model.specs.declared.record.Frame.{Frame}
use Rattle.sts_store.specs.declared.running.Running.{Running}
use Rattle.sts_store.specs.Parts.{Parts, no_running}
use Rattle.sts_store.specs.Sharing.{Shares, Holder, holder_of, home_at, inherited, Holds}
use Rattle.sts_store.specs.Stored.{IsStore}
use Rattle.sts_store.proofs.Views.{lives_of}

-- the root task at a frame, with nothing bound
abbrev pub root_running : Frame → Running
root_running frame = record { frame = frame; env = no_running.env }

module _ (frame : Frame) (fresh : frame.entries ≡ []) where
  abbrev pub root_held : List (Option Holder)
  root_held = Some (holder_of (root_running frame)) ∷ []

  -- a fact of the root is a fact of every living task, since only the root lives
  alone : (P : ℕ → Holder → Type 0) → P zero (holder_of (root_running frame)) → (t : ℕ) (h : Holder) → Holds root_held t h → P t h
  alone P one zero h e = subst (P zero) (same_Some (holder_of (root_running frame)) h e) one
  alone P one (suc t) h e = cc

  pub root_shares : (c : Records) → Shares c root_held [] (Some None ∷ []) (λ _. []) (λ _. [])
  root_shares c =
      record {
        whole = alone (λ t h. IsWhole c h.env) refl;
        kept = λ s k e. cc;
        tasks = alone (λ t h. keys_of c h.env ≡ [] ++ inherited c [] (home_at (Some None ∷ []) t)) refl;
        scopes = λ s k e. cc;
        nested = λ s k e. cc;
        apart = λ t u k h l e f ne held. tt;
        count = alone (λ t h. length {A = ℕ} [] ≡ count_by is_binding h.entries) (sym (ap (λ (l : List Entry). count_by is_binding l) fresh));
        behind = λ s k h e f. cc;
      }

  -- a tree with the root alone, its frame, and no bindings
  pub root_store : (m : Parts) → m.tree.tasks ≡ Some root ∷ [] → m.tree.scopes ≡ [] → m.frames.slots ≡ Some (root_running frame) ∷ [] → IsStore m
  root_store m tasks scopes slots =
      record {
        born = ap (λ (l : List (Option Running)). length l) slots ∙ sym (ap (λ (l : List (Option TaskNode)). length l) tasks);
        alive = λ t. ap (λ (l : List (Option Running)). is_some (get_or l t None)) slots ∙ by t ∙ sym (ap (λ (l : List (Option TaskNode)). lives_of (get_or l t None)) tasks);
        shared = rw (slots, scopes, tasks) (record { own = λ _. []; outside = λ _. []; shares = root_shares m.chains });
      }
    where
      by : (t : ℕ) → is_some (get_or (Some (root_running frame) ∷ []) t None) ≡ lives_of (get_or (Some root ∷ []) t None)
      by zero = refl
      by (suc t) = refl

-- ---- the view of a root task alone
