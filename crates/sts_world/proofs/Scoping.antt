-- Scopes as they are kept, and the view of them.
use Rattle.std.proofs.Common.{◌≡◌, ℕ, zero, suc, ◌<◌, ◌≤◌, List, [], ◌∷◌, ◌++◌, length, map, Bool, true, false, Option, Some, None, inl, inr, ◌⊎◌, refl, ap}
use Rattle.std.proofs.Common.{sym, ◌∙◌, get_or, set, take, ◌+◌, slice_index_or}
use Rattle.std.proofs.lemmas.Bool.{cases_lt}
use Rattle.std.proofs.lemmas.List.{get_or-map, get_or_past, get_or_default, map-set, map-append, length-map, take_more}
use Rattle.sts_model.specs.declared.record.Task.{Task}
use Rattle.sts_model.specs.declared.record.Scope.{Scope}
use Rattle.sts_model.specs.World.{World, with_scope, no_scope, no_task}
use Rattle.sts_code.specs.declared.instr.Joiner.{Joiner}
use Rattle.sts_model.specs.declared.event.Phase.TheVariants.{Opened}
use Rattle.sts_model.specs.declared.record.Bound.{Bound}
use Rattle.sts_model.specs.declared.record.Entry.TheVariants as entry
use Rattle.sts_model.specs.declared.record.Slot.TheVariants.{Own}
use Rattle.sts_model.specs.Effect.{open_scope}
use Rattle.sts_model.specs.Environment.{environment_of, own_bindings}
use Rattle.sts_model.specs.Living.{parent}
use Rattle.sts_model.specs.Local.{steps}
use Rattle.sts_world.specs.declared.chains.BindingLink.{BindingLink}
use Rattle.sts_world.specs.declared.scope.ScopeRecord.{ScopeRecord}
use Rattle.sts_world.specs.Chains.{bindings_of, is_within, Grows}
use Rattle.sts_world.specs.Scopes.{shown, no_record, front_of, AreWithin, IsAlike}
use Rattle.sts_world.proofs.Chaining.{chain_none, bindings_grown, grows_longer, within_more}

pub shown_at : (links : List BindingLink) (xs : List ScopeRecord) (s : ℕ) → s < length xs → get_or (map (shown links) xs) s no_scope ≡ shown links (get_or xs s no_record)
shown_at links xs s h = get_or-map (shown links) xs s no_record no_scope h

pub shown_past : (links : List BindingLink) (xs : List ScopeRecord) (s : ℕ) → length xs ≤ s → get_or (map (shown links) xs) s no_scope ≡ no_scope
shown_past links xs s h = get_or_past (map (shown links) xs) s no_scope (rw length-map h)

pub kept_environment : (links : List BindingLink) (tasks : List Task) (xs : List ScopeRecord) (o : Option ℕ) → (parent (record { tasks = tasks; scopes = map (shown links) xs }) o).environment ≡ bindings_of links (front_of xs o)
kept_environment links tasks xs None = sym (chain_none links (length links))
kept_environment links tasks xs (Some s) = by_bound (cases_lt s (length xs))
  where
    by_bound : (s < length xs) ⊎ (length xs ≤ s) → (get_or (map (shown links) xs) s no_scope).environment ≡ bindings_of links (get_or xs s no_record).front
    by_bound (inl h) = ap (λ (x : Scope). x.environment) (shown_at links xs s h)
    by_bound (inr h) = ap (λ (x : Scope). x.environment) (shown_past links xs s h) ∙ sym (ap (λ (x : ScopeRecord). bindings_of links x.front) (get_or_past xs s no_record h) ∙ chain_none links (length links))

-- more links show the same
pub shown_grown : (old new : List BindingLink) (xs : List ScopeRecord) → AreWithin old xs → Grows old new → map (shown new) xs ≡ map (shown old) xs
shown_grown old new [] h g = refl
shown_grown old new (x ∷ xs) h g =
    let first : bindings_of new x.front ≡ bindings_of old x.front = bindings_grown old new x.front (h 0) g in
    let rest : map (shown new) xs ≡ map (shown old) xs = shown_grown old new xs (λ s. h (suc s)) g in
    rw (first, rest) refl

pub within_grown : (old new : List BindingLink) (xs : List ScopeRecord) → AreWithin old xs → Grows old new → AreWithin new xs
within_grown old new xs h g = λ s. within_more (length old) (length new) (get_or xs s no_record).front (h s) (grows_longer old new g)

pub within_push : (links : List BindingLink) (xs : List ScopeRecord) (x : ScopeRecord) → AreWithin links xs → is_within (length links) x.front ≡ true → AreWithin links (xs ++ x ∷ [])
within_push links [] x h e zero = e
within_push links [] x h e (suc s) = refl
within_push links (y ∷ ys) x h e zero = h 0
within_push links (y ∷ ys) x h e (suc s) = within_push links ys x (λ r. h (suc r)) e s

-- more links, and another scope at the end
pub shown_push : (old new : List BindingLink) (xs : List ScopeRecord) (x : ScopeRecord) (y : Scope) → AreWithin old xs → Grows old new → shown new x ≡ y → map (shown new) (xs ++ x ∷ []) ≡ map (shown old) xs ++ y ∷ []
shown_push old new xs x y h g e = rw (map-append (shown new), shown_grown old new xs h g, e) refl

-- another record is another scope
pub shown_set : (links : List BindingLink) (tasks : List Task) (xs : List ScopeRecord) (s : ℕ) (x : ScopeRecord) (y : Scope) → shown links x ≡ y → record { tasks = tasks; scopes = map (shown links) (set xs s x) } ≡ with_scope (record { tasks = tasks; scopes = map (shown links) xs }) s y
shown_set links tasks xs s x y e = rw (map-set (shown links) xs s x, e) refl

-- one scope is changed, as it was found
pub shown_changed : (links : List BindingLink) (tasks : List Task) (xs : List ScopeRecord) (s : ℕ) (x y d : ScopeRecord) (change : Scope → Scope) → s < length xs → x ≡ slice_index_or xs s d → shown links y ≡ change (shown links x)
    → record { tasks = tasks; scopes = map (shown links) (set xs s y) } ≡ with_scope (record { tasks = tasks; scopes = map (shown links) xs }) s (change (get_or (map (shown links) xs) s no_scope))
shown_changed links tasks xs s x y d change bound found made =
    let here : x ≡ slice_index_or xs s no_record = found ∙ get_or_default xs s d no_record bound in
    shown_set links tasks xs s y _ (made ∙ ap change (ap (shown links) here ∙ sym (shown_at links xs s bound)))

-- a task opens a scope, which gets the task's own bindings in front of those it inherited
pub opened : (tasks : List Task) (old new : List BindingLink) (xs : List ScopeRecord) (t s slot : ℕ) (joiner : Joiner) (timed : Bool) (front rest : Option ℕ) → AreWithin old xs → Grows old new → s ≡ length xs → rest ≡ front_of xs (get_or tasks t no_task).scope → bindings_of new front ≡ own_bindings (get_or tasks t no_task) ++ bindings_of old rest → record { tasks = set tasks t (record (get_or tasks t no_task) { frame = record (steps (get_or tasks t no_task).frame 0 []) { entries = entry.Scope s ∷ (get_or tasks t no_task).frame.entries; slots = set (get_or tasks t no_task).frame.slots slot (Own s) } }); scopes = map (shown new) (xs ++ record { owner = t; joiner = joiner; timed = timed; phase = Opened; cancelled = false; expired = false; completions = []; front = front } ∷ []) } ≡ open_scope (record { tasks = tasks; scopes = map (shown old) xs }) t (get_or tasks t no_task).frame slot joiner timed
unfolding open_scope
opened tasks old new xs t s slot joiner timed front rest h g es er l =
    let w : World = record { tasks = tasks; scopes = map (shown old) xs } in
    let x : ScopeRecord = record { owner = t; joiner = joiner; timed = timed; phase = Opened; cancelled = false; expired = false; completions = []; front = front } in
    let environment : bindings_of new front ≡ environment_of (get_or tasks t no_task) w = l ∙ ap (λ (o : Option ℕ). own_bindings (get_or tasks t no_task) ++ bindings_of old o) er ∙ ap (λ (e : List Bound). own_bindings (get_or tasks t no_task) ++ e) (sym (kept_environment old tasks xs (get_or tasks t no_task).scope)) in
    let seen : shown new x ≡ record { owner = t; joiner = joiner; timed = timed; phase = Opened; cancelled = false; expired = false; completions = []; environment = environment_of (get_or tasks t no_task) w } = rw environment refl in
    rw (es, shown_push old new xs x _ h g seen, length-map xs (shown old)) refl

-- ---- scopes that are the same

pub same_shown : (here there : List BindingLink) (a b : ScopeRecord) → IsAlike a b → bindings_of here a.front ≡ bindings_of there b.front → shown here a ≡ shown there b
same_shown here there a b h e = rw (h.owner, h.joiner, h.timed, h.phase, h.cancelled, h.expired, h.completions, e) refl

-- one scope more of each
pub same_more : (f g : ScopeRecord → Scope) (a b : List ScopeRecord) (i : ℕ) (x y : ScopeRecord) → i < length a → i < length b → x ≡ get_or a i x → y ≡ get_or b i y → f x ≡ g y
    → take i (map f a) ≡ take i (map g b) → take (i + 1) (map f a) ≡ take (i + 1) (map g b)
same_more f g a b i x y la lb isx isy e rest =
    take_more (map f a) i (f x) (rw length-map la)
    ∙ (let at : get_or (map f a) i (f x) ≡ get_or (map g b) i (g y) = get_or-map f a i x (f x) la ∙ ap f (sym isx) ∙ e ∙ ap g isy ∙ sym (get_or-map g b i y (g y) lb) in
    rw (rest, at) refl)
    ∙ sym (take_more (map g b) i (g y) (rw length-map lb))
