-- Readings of the lists.
use Rattle.std.proofs.Common.{◌≡◌, ◌≢◌, ℕ, ◌<◌, ◌≤◌, List, [], ◌∷◌, ◌++◌, length, Option, Some, None, refl, sym, ◌∙◌, ap, arith, get_or, false}
use Rattle.std.proofs.lemmas.List.{length-map}
use Rattle.std.specs.Prelude.{option_map}
use Rattle.sts_links.specs.Lists.{first_or, IsList}
use Rattle.sts_links.specs.declared.links.Ends.{Ends}
use Rattle.sts_links.proofs.ChainLemmas.{head_link, back_of}
use Rattle.sts_model.specs.Living.{is_in}
use Rattle.sts_tree.specs.Births.{births}
use Rattle.sts_tree.specs.Stored.{task_of, tasks_of, link_at}
use Rattle.sts_tree.specs.Forest.{is_of, lives_in, families_of, family_of}
use Rattle.sts_tree.specs.Layers.{layer_of, listed, list_in}
use Rattle.sts_tree.specs.declared.record.TaskNode.{TaskNode}
use Rattle.sts_tree.specs.declared.record.TaskRecord.{TaskRecord}
use Rattle.sts_tree.specs.declared.record.ScopeRecord.{ScopeRecord}
use Rattle.sts_tree.specs.declared.record.Subtasks.{Subtasks}
use Rattle.sts_tree.specs.declared.record.Subtasks.TheVariants.{All, Living}
use Rattle.sts_tree.proofs.BirthLemmas.{births_none}
use Rattle.sts_tree.proofs.ForkLemmas.{not_lives_of, other_scope}
use Rattle.sts_tree.proofs.HoldingLemmas.{map_at, inside_of, no_link}
use Rattle.sts_tree.proofs.Rows.{family_at}
use Rattle.sts_tree.proofs.Stores.{Stored}

-- a scope without a record has no subtasks
none_of_scope : {E : Type 0} → (slots : List (Option TaskRecord)) (rows : List (Option (ScopeRecord E))) (ready : Ends) (room s : ℕ) → Stored slots (families_of rows) ready room → get_or rows s None ≡ None → (k : ℕ) (x : TaskNode) → get_or (tasks_of slots) k None ≡ Some x → is_of s x ≡ false
none_of_scope slots rows ready room s i none k x at = by x.scope (λ r e. i.homes k r x at e)
  where
    family : get_or (families_of rows) s None ≡ None
    family = map_at family_of rows s ∙ ap (option_map family_of) none

    by : (o : Option ℕ) → ((r : ℕ) → o ≡ Some r → get_or (families_of rows) r None ≢ None) → is_in s o ≡ false
    by None h = refl
    by (Some r) h = other_scope s r (λ e. h r refl (rw (← e) family))

pub no_subtasks : {E : Type 0} → (slots : List (Option TaskRecord)) (rows : List (Option (ScopeRecord E))) (ready : Ends) (room s : ℕ) → Stored slots (families_of rows) ready room → get_or rows s None ≡ None → births (is_of s) 0 (tasks_of slots) ≡ []
no_subtasks slots rows ready room s i none = births_none (is_of s) 0 (tasks_of slots) (none_of_scope slots rows ready room s i none)

pub no_living : {E : Type 0} → (slots : List (Option TaskRecord)) (rows : List (Option (ScopeRecord E))) (ready : Ends) (room s : ℕ) → Stored slots (families_of rows) ready room → get_or rows s None ≡ None → births (lives_in s) 0 (tasks_of slots) ≡ []
no_living slots rows ready room s i none = births_none (lives_in s) 0 (tasks_of slots) (λ k x at. not_lives_of s x (none_of_scope slots rows ready room s i none k x at))

-- a link's key has a record
small_link : (slots : List (Option TaskRecord)) (m k : ℕ) → length (tasks_of slots) ≤ 1000000 → link_at slots m k ≢ None → k < 4294967296
small_link slots m k few h =
    let l = inside_of slots k (λ n. h (no_link slots m k n)) in
    let n = length-map slots (option_map task_of) in
    omega (arith, l, n, few)

pub small_first : (slots : List (Option TaskRecord)) (m : ℕ) (list : Ends) (ks : List ℕ) (k : ℕ) → length (tasks_of slots) ≤ 1000000 → IsList (link_at slots m) list ks → list.first ≡ Some k → k < 4294967296
small_first slots m list ks k few is e = small_link slots m k few (head_link (link_at slots m) None ks None k is.linked (sym is.first ∙ e))

pub small_after : (slots : List (Option TaskRecord)) (m : ℕ) (list : Ends) (front : List ℕ) (key : ℕ) (back : List ℕ) (k : ℕ) → length (tasks_of slots) ≤ 1000000 → IsList (link_at slots m) list (front ++ key ∷ back) → first_or back None ≡ Some k → k < 4294967296
small_after slots m list front key back k few is e =
    let here = back_of (link_at slots m) None front (key ∷ back) None is.linked in
    small_link slots m k few (head_link (link_at slots m) (Some key) back None k here.1 e)

no_middle : (front : List ℕ) (key : ℕ) (back : List ℕ) → [] ≡ front ++ key ∷ back → ⊥
no_middle [] key back e = cc
no_middle (x ∷ front) key back e = cc

-- the births in a list of a scope without a record
pub none_in : {E : Type 0} → (subtasks : Subtasks) (slots : List (Option TaskRecord)) (rows : List (Option (ScopeRecord E))) (ready : Ends) (room s : ℕ) → Stored slots (families_of rows) ready room → get_or rows s None ≡ None → births (listed subtasks s) 0 (tasks_of slots) ≡ []
none_in All slots rows ready room s i none = no_subtasks slots rows ready room s i none
none_in Living slots rows ready room s i none = no_living slots rows ready room s i none

-- a list of a scope with a record
pub row_in : {E : Type 0} → (subtasks : Subtasks) (slots : List (Option TaskRecord)) (rows : List (Option (ScopeRecord E))) (ready : Ends) (room s : ℕ) (row : ScopeRecord E) → Stored slots (families_of rows) ready room → get_or rows s None ≡ Some row → IsList (link_at slots (layer_of subtasks)) (list_in subtasks row) (births (listed subtasks s) 0 (tasks_of slots))
row_in All slots rows ready room s row i is = i.forks s (family_of row) (family_at rows s row is)
row_in Living slots rows ready room s row i is = i.living s (family_of row) (family_at rows s row is)

-- the list of a subtask's scope
pub list_of : {E : Type 0} → (subtasks : Subtasks) (slots : List (Option TaskRecord)) (rows : List (Option (ScopeRecord E))) (ready : Ends) (room s t : ℕ) (front back : List ℕ) → Stored slots (families_of rows) ready room → births (listed subtasks s) 0 (tasks_of slots) ≡ front ++ t ∷ back → (list : Ends) × IsList (link_at slots (layer_of subtasks)) list (front ++ t ∷ back)
list_of {E} subtasks slots rows ready room s t front back i e = by (get_or rows s None) refl
  where
    by : (o : Option (ScopeRecord E)) → get_or rows s None ≡ o → (list : Ends) × IsList (link_at slots (layer_of subtasks)) list (front ++ t ∷ back)
    by None q = absurd (no_middle front t back (sym (none_in subtasks slots rows ready room s i q) ∙ e))
    by (Some row) q = (list_in subtasks row, rw (← e) (row_in subtasks slots rows ready room s row i q))
