-- The end of a task in a tree: when its scope is cancelled, and the view after it.
use Rattle.std.proofs.Common.{◌≡◌, ◌≢◌, ℕ, true, false, Option, Some, None, refl, sym, ◌∙◌, ap, get_or, cond, ◌&&◌, not, get_or-set_same}
use Rattle.std.proofs.lemmas.Bool.{and_parts, not-true}
use Rattle.sts_model.specs.declared.event.End.{End}
use Rattle.sts_tree.specs.Forest.{Forest, asks}
use Rattle.sts_tree.specs.declared.record.TaskNode.{TaskNode}
use Rattle.sts_tree.specs.declared.record.ScopeNode.{ScopeNode}
use Rattle.sts_tree.proofs.HoldingLemmas.{inside_of}
use Rattle.sts_joiners.specs.Tallied.{with_end}
use Rattle.sts_tree.specs.Ending.{gone, told, told_in, ended_in, ended, asks_told, asks_in, asks_ended}
use Rattle.sts_cancel.specs.Cancelling.{cancel}
use Rattle.laws_live.specs.Effect.{live_ended, live_tell}
use Rattle.sts_store.specs.View.{Beside, view_of}
use Rattle.sts_store.specs.Agreeing.{at_end, TaskAt}
use Rattle.sts_store.proofs.ViewingLemmas.{root_seen, end_seen}
use Rattle.sts_store.specs.Ending.{finished_of, finished_in, finished}

-- the scope after its joiner was told
abbrev pub told_scope : {E : Type 0} → ScopeNode E → End → ScopeNode E
told_scope c end = record c { tally = with_end c.tally end }

-- the task's scope isn't closed and wasn't cancelled; now it is cancelled
pub record Asking {E : Type 0} (f : Forest E) (t : ℕ) (x : TaskNode) (end : End) (s : ℕ) : Type 0 where
  pub scope : ScopeNode E
  pub there : get_or f.scopes s None ≡ Some scope
  pub now : get_or (ended f t x end).scopes s None ≡ Some (told_scope scope end)
  pub word : finished f t x end ≡ cancel (ended f t x end) s (told_scope scope end)

module _ {E : Type 0} (f : Forest E) (t : ℕ) (x : TaskNode) (end : End) where
  pub asking : (s : ℕ) → x.scope ≡ Some s → asks_ended f x end ≡ true → Asking f t x end s
  asking s scope asks_now = by (get_or f.scopes s None) refl
    where
      asked : asks_told end (get_or f.scopes s None) ≡ true
      asked = sym (ap (asks_in f end) scope) ∙ asks_now

      by : (o : Option (ScopeNode E)) → get_or f.scopes s None ≡ o → Asking f t x end s
      by None at = let never : asks_told {E = E} end None ≡ true = sym (ap (asks_told end) at) ∙ asked in cc
      by (Some c) at =
          let yes : (not c.cancelled && asks c end) ≡ true = sym (ap (asks_told end) at) ∙ asked in
          let still : c.cancelled ≡ false = not-true c.cancelled (and_parts (not c.cancelled) (asks c end) yes).0 in
          let same : ended f t x end ≡ told f t x end s c =
          ap (ended_in f t x end) scope ∙ ap (told_in f t x end s) at ∙ ap (λ b. cond b (gone f t x) (told f t x end s c)) still
          in
          record {
            scope = c;
            there = at;
            now = ap (λ (g : Forest E). get_or g.scopes s None) same
                ∙ get_or-set_same f.scopes s (Some (told_scope c end)) None (inside_of f.scopes s (λ none. let never : Some c ≡ None = sym at ∙ none in cc));
            word = ap (finished_in f t x end) scope ∙ ap (finished_of f t x end s) at
                ∙ ap (λ b. cond b (cancel (ended f t x end) s (told_scope c end)) (ended f t x end)) asks_now;
          }

  -- no joiner asks, and no scope is cancelled
  pub not_asking : asks_ended f x end ≡ false → finished f t x end ≡ ended f t x end
  not_asking quiet = by x.scope
    where
      by2 : (s : ℕ) (o : Option (ScopeNode E)) → finished_of f t x end s o ≡ ended f t x end
      by2 s None = refl
      by2 s (Some c) = ap (λ b. cond b (cancel (ended f t x end) s (told_scope c end)) (ended f t x end)) quiet

      by : (o : Option ℕ) → finished_in f t x end o ≡ ended f t x end
      by None = refl
      by (Some s) = by2 s (get_or f.scopes s None)

  -- no joiner asks about the root
  pub root_asks_not : x.scope ≡ None → asks_ended f x end ≡ false
  root_asks_not scope = ap (asks_in f end) scope

  -- what is seen of it
  pub finished_seen : (b : Beside E) → TaskAt f t x → ((s : ℕ) → x.scope ≡ Some s → get_or f.scopes s None ≢ None) → view_of (at_end b t end) (finished f t x end) ≡ live_tell (live_ended (view_of b f) t end) t x.scope end
  finished_seen b is home = by x.scope refl
    where
      by2 : (s : ℕ) → x.scope ≡ Some s → (o : Option (ScopeNode E)) → get_or f.scopes s None ≡ o → view_of (at_end b t end) (finished_of f t x end s o) ≡ live_tell (live_ended (view_of b f) t end) t (Some s) end
      by2 s scope None at = absurd (home s scope at)
      by2 s scope (Some c) at = end_seen b f t s x c end is scope at

      by : (o : Option ℕ) → x.scope ≡ o → view_of (at_end b t end) (finished_in f t x end o) ≡ live_tell (live_ended (view_of b f) t end) t o end
      by None scope = root_seen b f t x end is scope
      by (Some s) scope = by2 s scope (get_or f.scopes s None) refl
