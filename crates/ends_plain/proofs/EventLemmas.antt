-- Lists of the events that pass a test.
use Rattle.std.proofs.Common.{◌≡◌, ℕ, ◌+◌, ◌<◌, ◌≤◌, ◌⊎◌, List, [], ◌∷◌, ◌++◌, length, refl, arith, inl, inr, Bool, true, false, subst, sym}
use Rattle.std.specs.List.{Contains}
use Rattle.std.proofs.Math.Dec.{ltb}
use Rattle.std.proofs.lemmas.Bool.{ltb-true, ltb-false, and_right, and_left}
use Rattle.std.proofs.lemmas.List.{get_or_past}
use Rattle.std.proofs.lemmas.List.Elements.{Contains-append_left, Contains-append_right, Contains-append_cases, Contains-push}
use Rattle.sts_code.proofs.ListLemmas.{sole}
use Rattle.sts_model.specs.declared.event.Event.{Event}
use Rattle.sts_model.specs.declared.event.Event.TheVariants as event
pub use Rattle.laws_words.proofs.NumberLemmas.{split}
use Rattle.sts_model.specs.World.{World, task_at, scope_at, no_task, no_scope, Running}
use Rattle.sts_model.specs.Living.{lives}
use Rattle.sts_model.specs.Waiting.{can_step, can_go, stand_at}
use Rattle.sts_model.specs.Outside.{can_expire}
use Rattle.ends_plain.specs.declared.config.Setting.{Setting}
use Rattle.ends_plain.specs.declared.events.Listing.{Listing}
use Rattle.ends_plain.specs.declared.events.Listing.TheVariants.{Steps, Interrupts, Expiries}
use Rattle.ends_plain.specs.Listings.{born_of, event_of, is_listed}
use Rattle.ends_plain.specs.Configs.{AreThose, steps_now, interrupts_now, expires_now, can_come}

-- what holds of each element, and of one more
pub each_push : {X : Type 0} (Holds : X → Type 0) (xs : List X) (x : X) → ((y : X) → Contains xs y → Holds y) → Holds x → (y : X) → Contains (xs ++ x ∷ []) y → Holds y
each_push Holds xs x all here y there = by (Contains-append_cases xs (x ∷ []) y there)
  where
    by : Contains xs y ⊎ Contains (x ∷ []) y → Holds y
    by (inl h) = all y h
    by (inr h) = rw (sole x y h.0 h.1 h.2) here

-- those of the first n numbers that pass
pub record Below (mk : ℕ → Event) (test : Event → Bool) (n : ℕ) (es : List Event) : Type 0 where
  pub all : (k : ℕ) → k < n → test (mk k) ≡ true → Contains es (mk k)
  pub only : (e : Event) → Contains es e → test e ≡ true

pub below_none : (mk : ℕ → Event) (test : Event → Bool) → Below mk test 0 []
below_none mk test = record { all = λ k less. absurd (omega arith); only = λ e h. let less : h.0 < 0 = h.1 in absurd (omega arith) }

pub below_push : (mk : ℕ → Event) (test : Event → Bool) (n : ℕ) (es : List Event) → test (mk n) ≡ true → Below mk test n es → Below mk test (n + 1) (es ++ mk n ∷ [])
below_push mk test n es pass h = record { all = λ k less e. more k e (split k n less); only = each_push (λ e. test e ≡ true) es (mk n) h.only pass }
  where
    more : (k : ℕ) → test (mk k) ≡ true → (k < n) ⊎ (k ≡ n) → Contains (es ++ mk n ∷ []) (mk k)
    more k e (inl less) = Contains-append_left es (mk n ∷ []) (mk k) (h.all k less e)
    more k e (inr same) = rw same (Contains-push es (mk n))

pub below_skip : (mk : ℕ → Event) (test : Event → Bool) (n : ℕ) (es : List Event) → test (mk n) ≡ false → Below mk test n es → Below mk test (n + 1) es
below_skip mk test n es pass h = record { all = λ k less e. more k e (split k n less); only = h.only }
  where
    more : (k : ℕ) → test (mk k) ≡ true → (k < n) ⊎ (k ≡ n) → Contains es (mk k)
    more k e (inl less) = h.all k less e
    more k e (inr same) = let f : test (mk n) ≡ true = rw same at e in cc

-- ---- what was never born

pub unborn_task : (w : World) (t : ℕ) → length w.tasks ≤ t → lives (task_at w t) ≡ false
unborn_task w t h = rw (get_or_past w.tasks t no_task h) refl

pub unborn_scope : (w : World) (s : ℕ) → length w.scopes ≤ s → can_expire (scope_at w s) ≡ false
unborn_scope w s h = rw (get_or_past w.scopes s no_scope h) refl

born : (k n : ℕ) (b : Bool) → b ≡ true → (n ≤ k → b ≡ false) → k < n
born k n b e past = by (ltb k n) refl
  where
    by : (x : Bool) → ltb k n ≡ x → k < n
    by true h = ltb-true k n h
    by false h = let f : b ≡ false = past (ltb-false k n h) in cc

-- those of the numbers of all births are all that can come
pub all_those : (l : Listing) (w : World) (es : List Event) → Below (event_of l) (is_listed l w) (born_of l w) es → AreThose (is_listed l w) es
all_those l w es h = record { all = λ e pass. by e (number l e pass) pass; only = h.only }
  where
    number : (l : Listing) (e : Event) → is_listed l w e ≡ true → (k : ℕ) × (k < born_of l w) × (e ≡ event_of l k)
    number (Steps p) (event.Step t) pass = (t, born t (length w.tasks) (can_step p.now w t) pass (λ past. and_left (lives (task_at w t)) (can_go w (task_at w t) (stand_at p.now w t)) (unborn_task w t past)), refl)
    number (Interrupts left) (event.Interrupt t) pass = (t, born t (length w.tasks) (interrupts_now left w (event.Interrupt t)) pass (λ past. and_right (ltb 0 left) (lives (task_at w t)) (unborn_task w t past)), refl)
    number (Expiries may) (event.Expire s) pass = (s, born s (length w.scopes) (expires_now may w (event.Expire s)) pass (λ past. and_right may (can_expire (scope_at w s)) (unborn_scope w s past)), refl)
    number (Steps p) (event.Interrupt t) pass = cc
    number (Steps p) (event.Expire s) pass = cc
    number (Interrupts left) (event.Step t) pass = cc
    number (Interrupts left) (event.Expire s) pass = cc
    number (Expiries may) (event.Step t) pass = cc
    number (Expiries may) (event.Interrupt t) pass = cc

    by : (e : Event) → (k : ℕ) × (k < born_of l w) × (e ≡ event_of l k) → is_listed l w e ≡ true → Contains es e
    by e k pass = subst (λ x. Contains es x) (sym k.2) (h.all k.0 k.1 (subst (λ x. is_listed l w x ≡ true) k.2 pass))

-- ---- all three together

pub all_three : (g : Setting) (left : ℕ) (w : World) (xs ys zs : List Event) → AreThose (steps_now g.program w) xs → AreThose (interrupts_now left w) ys → AreThose (expires_now g.expiries w) zs
    → AreThose (can_come g left (Running w)) ((xs ++ ys) ++ zs)
all_three g left w xs ys zs hx hy hz = record { all = every; only = λ e c. apart e (Contains-append_cases (xs ++ ys) zs e c) }
  where
    every : (e : Event) → can_come g left (Running w) e ≡ true → Contains ((xs ++ ys) ++ zs) e
    every (event.Step t) pass = Contains-append_left (xs ++ ys) zs (event.Step t) (Contains-append_left xs ys (event.Step t) (hx.all (event.Step t) pass))
    every (event.Interrupt t) pass = Contains-append_left (xs ++ ys) zs (event.Interrupt t) (Contains-append_right xs ys (event.Interrupt t) (hy.all (event.Interrupt t) pass))
    every (event.Expire s) pass = Contains-append_right (xs ++ ys) zs (event.Expire s) (hz.all (event.Expire s) pass)

    stepping : (e : Event) → steps_now g.program w e ≡ true → can_come g left (Running w) e ≡ true
    stepping (event.Step t) pass = pass
    stepping (event.Interrupt t) pass = cc
    stepping (event.Expire s) pass = cc

    interrupting : (e : Event) → interrupts_now left w e ≡ true → can_come g left (Running w) e ≡ true
    interrupting (event.Step t) pass = cc
    interrupting (event.Interrupt t) pass = pass
    interrupting (event.Expire s) pass = cc

    expiring : (e : Event) → expires_now g.expiries w e ≡ true → can_come g left (Running w) e ≡ true
    expiring (event.Step t) pass = cc
    expiring (event.Interrupt t) pass = cc
    expiring (event.Expire s) pass = pass

    first_two : (e : Event) → Contains xs e ⊎ Contains ys e → can_come g left (Running w) e ≡ true
    first_two e (inl c) = stepping e (hx.only e c)
    first_two e (inr c) = interrupting e (hy.only e c)

    apart : (e : Event) → Contains (xs ++ ys) e ⊎ Contains zs e → can_come g left (Running w) e ≡ true
    apart e (inl c) = first_two e (Contains-append_cases xs ys e c)
    apart e (inr c) = expiring e (hz.only e c)
