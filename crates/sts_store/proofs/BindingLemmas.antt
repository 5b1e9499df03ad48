-- The store after a task bound a key, and after it ended its innermost binding.
use Rattle.std.proofs.Common.{◌≡◌, ◌≢◌, ℕ, suc, ◌+◌, ◌≤◌, ℤ, List, [], ◌∷◌, ◌++◌, drop, length, Bool, true, false, Option, Some, None, refl, sym, ◌∙◌, ap, subst, get_or, set, nat_eq, cond, arith}
use Rattle.std.proofs.lemmas.List.{map-set}
use Rattle.std.proofs.lemmas.List.Sums.{sum_by-cons}
use Rattle.std.specs.Prelude.{option_map, is_some, unwrap_or, count_by}
use Rattle.sts_env.specs.Environments.{Records, IsWhole, keys_of, list_of, Stays, PutsRecord, TakesRecord, KeepsWithout}
use Rattle.laws_words.specs.Keys.{NotIn}
use Rattle.sts_env.specs.declared.env.Env.{Env}
use Rattle.sts_env.specs.Sharing.{IsUnshared}
use Rattle.sts_env.proofs.UnsharedLemmas.{front_is_unshared}
use Rattle.sts_tree.proofs.HoldingLemmas.{map_at}
use Rattle.sts_model.specs.Misuse.{is_binding, innermost}
use Rattle.sts_model.specs.Local.{operand, steps}
use Rattle.sts_model.specs.declared.record.Bound.{Bound}
use Rattle.sts_model.specs.declared.record.Frame.{Frame}
use Rattle.sts_model.specs.declared.record.Entry.{Entry}
use Rattle.sts_model.specs.declared.record.Entry.TheVariants as entry
use Rattle.laws_live.specs.Effect.{live_bind, live_unbind}
use Rattle.laws_live.specs.Order.{InOrder}
use Rattle.sts_store.specs.declared.running.Running.{Running}
use Rattle.sts_store.specs.Parts.{Parts, live_of, frame_of}
use Rattle.sts_store.specs.Sharing.{AreShared, Holder, Keeper, holder_of, keeper_of, holders, keepers, homes, home_at, inherited, behind}
use Rattle.sts_store.specs.Stored.{IsStore}
use Rattle.sts_store.proofs.Views.{with_running, running_seen, Elsewhere}
use Rattle.sts_store.proofs.Writing.{Hand, frame_is}
use Rattle.sts_store.proofs.Keeping.{kept_running}
use Rattle.sts_store.proofs.Shared.{bind_shares, unbind_shares, instead}
use Rattle.sts_store.proofs.Unsharing.{sharing_of, unshared, no_holder, no_keeper}
use Rattle.sts_store.proofs.Housed.{housed, kept_of}
use Rattle.sts_store.proofs.Environments.{some_bound}

-- ---- the structure list

-- the innermost entry is a binding, which is inside of every scope
pub record BoundFirst (es : List Entry) : Type 0 where
  pub more : count_by is_binding es ≡ suc (count_by is_binding (drop 1 es))
  pub outer : (s : ℕ) → behind s (drop 1 es) ≡ behind s es

one_more : (n : ℕ) → 1 + n ≡ suc n
one_more n = omega arith

one_bound : (k : ℕ) (v : ℤ) (es : List Entry) → count_by is_binding (entry.Binding k v ∷ es) ≡ suc (count_by is_binding es)
one_bound k v es = sum_by-cons (λ x. cond (is_binding x) 1 0) (entry.Binding k v) es ∙ one_more (count_by is_binding es)

pub bound_first : (es : List Entry) → innermost is_binding es ≡ true → BoundFirst es
bound_first [] e = cc
bound_first (entry.Scope s ∷ es) e = cc
bound_first (entry.Binding k v ∷ es) e = record { more = one_bound k v es; outer = λ s. refl }

-- the bindings outside of a scope are no more than all bindings
pub fewer_behind : (es : List Entry) (s : ℕ) → count_by is_binding (behind s es) ≤ count_by is_binding es
fewer_behind [] s = omega arith
fewer_behind (entry.Binding k v ∷ es) s =
    subst (λ n. count_by is_binding (behind s es) ≤ n) (sym (one_bound k v es)) (let less = fewer_behind es s in omega (arith, less))
fewer_behind (entry.Scope r ∷ es) s = by (nat_eq r s) (fewer_behind es s)
  where
    by : (b : Bool) → count_by is_binding (behind s es) ≤ count_by is_binding es → count_by is_binding (cond b es (behind s es)) ≤ count_by is_binding es
    by true less = omega arith
    by false less = less

first_own : (l : List ℕ) (n : ℕ) → length l ≡ suc n → (k : ℕ) × ((rest : List ℕ) × (l ≡ k ∷ rest))
first_own [] n e = cc
first_own (k ∷ rest) n e = (k, (rest, refl))

-- the binding of the top operand, and the frame afterwards
abbrev pub bound_here : Frame → ℕ → Bound
bound_here f key = record { key = key; value = operand f 0 }

abbrev pub bound_frame : Frame → ℕ → Frame
bound_frame f key = record (steps f 1 []) { entries = entry.Binding key (operand f 0) ∷ f.entries }

-- the frame after its innermost entry was left
abbrev pub left_frame : Frame → Frame
left_frame f = record (steps f 0 []) { entries = drop 1 f.entries }

-- ---- what a task has is written

module _ (m : Parts) (is : IsStore m) (t : ℕ) (r q : Running) (d : Records) (at : get_or m.frames.slots t None ≡ Some r) where
  written : set (holders m) t (Some (holder_of q)) ≡ holders (with_running m t q d)
  written = sym (map-set (option_map holder_of) m.frames.slots t (Some q))

  -- the part of a task in the sharing
  held_of : (u : ℕ) (l : Running) → get_or m.frames.slots u None ≡ Some l → get_or (holders m) u None ≡ Some (holder_of l)
  held_of u l e = map_at holder_of m.frames.slots u ∙ ap (option_map holder_of) e

  pub whole_here : IsWhole m.chains r.env
  whole_here = is.shared.shares.whole t (holder_of r) (held_of t r at)

  -- ---- one more binding

  pub bound_elsewhere : ((other : Env) → IsWhole m.chains other → Stays m.chains d other) → Elsewhere m t d
  bound_elsewhere others =
      record {
        tasks = λ u l ne e. (others l.env (is.shared.shares.whole u (holder_of l) (held_of u l e))).list;
        scopes = λ s k e. (others k.environment (is.shared.shares.kept s (keeper_of k) (kept_of m s k e))).list;
      }

  pub bound_store : (key : ℕ) (value : ℤ) → IsWhole d q.env → PutsRecord m.chains d r.env q.env → ((other : Env) → IsWhole m.chains other → Stays m.chains d other) → q.frame.entries ≡ entry.Binding key value ∷ r.frame.entries → IsStore (with_running m t q d)
  bound_store key value whole puts others entries =
      let more : count_by is_binding q.frame.entries ≡ suc (count_by is_binding r.frame.entries) = ap (λ l. count_by is_binding l) entries ∙ one_bound key value r.frame.entries in
      let outer : (s : ℕ) → behind s q.frame.entries ≡ behind s r.frame.entries = λ s. ap (behind s) entries in
      let after = bind_shares is.shared.shares t puts.key (holder_of r) (holder_of q) (held_of t r at) puts.vacant whole puts.keys others more outer in
      kept_running m t r q d is at (subst (λ l. AreShared d l (keepers m) (homes m)) written (record { own = instead is.shared.own t (puts.key ∷ is.shared.own t); outside = is.shared.outside; shares = after }))

  pub bound_live : (now : Parts) → Hand m now t r → (key : ℕ) → q.frame ≡ bound_frame r.frame key → list_of d q.env ≡ bound_here r.frame key ∷ list_of m.chains r.env → ((other : Env) → IsWhole m.chains other → Stays m.chains d other) → live_of (with_running m t q d) ≡ live_bind (live_of now) t (frame_of now t) key
  bound_live now h key frame list others =
      running_seen m t r q d (λ alive. record alive { frame = bound_frame r.frame key; environment = bound_here r.frame key ∷ alive.environment }) at
      (λ flag.
      ap (λ f. record { frame = f; flag = flag; environment = list_of d q.env }) frame
      ∙ ap (λ e. record { frame = bound_frame r.frame key; flag = flag; environment = e }) list)
      (bound_elsewhere others)
      ∙ ap (λ f. live_bind (live_of m) t f key) (sym (frame_is h))
      ∙ ap (λ p. live_bind (live_of p) t (frame_of now t) key) h.same

  -- ---- one binding less

  -- a task with a binding as its last entry: its innermost record, and the rest of its own
  pub record Innermost : Type 0 where
    pub key : ℕ
    pub rest : List ℕ
    pub own : is.shared.own t ≡ key ∷ rest

  pub innermost_of : BoundFirst r.frame.entries → Innermost
  innermost_of first =
      let p = first_own (is.shared.own t) (count_by is_binding (drop 1 r.frame.entries)) (is.shared.shares.count t (holder_of r) (held_of t r at) ∙ first.more) in
      record { key = p.0; rest = p.1.0; own = p.1.1 }

  keys_here : (i : Innermost) → keys_of m.chains r.env ≡ i.key ∷ (i.rest ++ inherited m.chains (keepers m) (home_at (homes m) t))
  keys_here i = is.shared.shares.tasks t (holder_of r) (held_of t r at) ∙ ap (λ l. l ++ inherited m.chains (keepers m) (home_at (homes m) t)) i.own

  pub is_bound : Innermost → list_of m.chains r.env ≢ []
  is_bound i = some_bound m.chains r.env i.key (i.rest ++ inherited m.chains (keepers m) (home_at (homes m) t)) whole_here (keys_here i)

  -- what `unbind` made of the bindings
  pub record Unbound : Type 0 where
    pub order : InOrder (live_of m)
    pub first : BoundFirst r.frame.entries
    pub entries : q.frame.entries ≡ drop 1 r.frame.entries
    pub whole : IsWhole d q.env
    pub takes : TakesRecord m.chains d r.env q.env
    pub others : (other : Env) → IsWhole m.chains other → KeepsWithout m.chains d r.env other

  module _ (u : Unbound) where
    i : Innermost
    i = innermost_of u.first

    -- the bindings of the rest
    size : length i.rest ≡ count_by is_binding (drop 1 r.frame.entries)
    size =
        let own = ap (λ (l : List ℕ). length l) i.own in
        let count = is.shared.shares.count t (holder_of r) (held_of t r at) in
        let more = u.first.more in
        omega (arith, own, count, more)

    few : (s : ℕ) → count_by is_binding (behind s r.frame.entries) ≤ length i.rest
    few s =
        let less = fewer_behind (drop 1 r.frame.entries) s in
        let outer : count_by is_binding (behind s (drop 1 r.frame.entries)) ≡ count_by is_binding (behind s r.frame.entries) = ap (λ l. count_by is_binding l) (u.first.outer s) in
        let same = size in
        omega (arith, less, outer, same)

    alone : IsUnshared m.chains (sharing_of (holders m) (keepers m) (homes m) is.shared.own is.shared.outside) t i.key
    alone = unshared m.chains (holders m) (keepers m) (homes m) is.shared.own is.shared.outside is.shared.shares (housed m is u.order) front_is_unshared t i.key i.rest (holder_of r) (held_of t r at) i.own few

    same_key : i.key ≡ u.takes.key
    same_key = by i.key u.takes.key _ _ (sym (keys_here i) ∙ u.takes.keys)
      where
        by : (a b : ℕ) (xs ys : List ℕ) → (a ∷ xs) ≡ (b ∷ ys) → a ≡ b
        by a b xs ys e = cc

    stays : (other : Env) → IsWhole m.chains other → NotIn i.key (keys_of m.chains other) → Stays m.chains d other
    stays other whole apart = u.others other whole u.takes.key u.takes.front (subst (λ k. NotIn k (keys_of m.chains other)) same_key apart)

    tasks_stay : (v : ℕ) (l : Holder) → v ≢ t → get_or (holders m) v None ≡ Some l → Stays m.chains d l.env
    tasks_stay v l ne e =
        stays l.env (is.shared.shares.whole v l e)
        (subst (λ (o : Option Holder). NotIn i.key (keys_of m.chains (unwrap_or o no_holder).env)) e
        (alone.tasks v (ap (λ (o : Option Holder). is_some o) e) ne))

    scopes_stay : (s : ℕ) (k : Keeper) → get_or (keepers m) s None ≡ Some k → Stays m.chains d k.kept
    scopes_stay s k e =
        stays k.kept (is.shared.shares.kept s k e)
        (subst (λ (o : Option Keeper). NotIn i.key (keys_of m.chains (unwrap_or o no_keeper).kept)) e
        (alone.scopes s (ap (λ (o : Option Keeper). is_some o) e)))

    unbound_elsewhere : Elsewhere m t d
    unbound_elsewhere =
        record {
          tasks = λ v l ne e. (tasks_stay v (holder_of l) ne (held_of v l e)).list;
          scopes = λ s k e. (scopes_stay s (keeper_of k) (kept_of m s k e)).list;
        }

    pub unbound_live : (now : Parts) → Hand m now t r → q.frame ≡ left_frame r.frame → drop 1 (list_of m.chains r.env) ≡ list_of d q.env → live_of (with_running m t q d) ≡ live_unbind (live_of now) t (frame_of now t)
    unbound_live now h frame list =
        running_seen m t r q d (λ alive. record alive { frame = left_frame r.frame; environment = drop 1 alive.environment }) at
        (λ flag.
        ap (λ f. record { frame = f; flag = flag; environment = list_of d q.env }) frame
        ∙ ap (λ e. record { frame = left_frame r.frame; flag = flag; environment = e }) (sym list))
        unbound_elsewhere
        ∙ ap (λ f. live_unbind (live_of m) t f) (sym (frame_is h))
        ∙ ap (λ p. live_unbind (live_of p) t (frame_of now t)) h.same

    pub unbound_store : IsStore (with_running m t q d)
    unbound_store =
        let less : count_by is_binding r.frame.entries ≡ suc (count_by is_binding q.frame.entries) = u.first.more ∙ ap (λ l. suc (count_by is_binding l)) (sym u.entries) in
        let outer : (s : ℕ) → behind s q.frame.entries ≡ behind s r.frame.entries = λ s. ap (behind s) u.entries ∙ u.first.outer s in
        let keys : keys_of m.chains r.env ≡ i.key ∷ keys_of d q.env = u.takes.keys ∙ ap (λ k. k ∷ keys_of d q.env) (sym same_key) in
        let after = unbind_shares is.shared.shares t i.key (holder_of r) (holder_of q) i.rest (held_of t r at) i.own u.whole keys tasks_stay scopes_stay less outer (λ s. fewer_behind q.frame.entries s) in
        kept_running m t r q d is at (subst (λ l. AreShared d l (keepers m) (homes m)) written (record { own = instead is.shared.own t i.rest; outside = is.shared.outside; shares = after }))
