-- The record at each birth, when an entry or the table changes.
use Rattle.std.proofs.Common.{◌≡◌, ◌≢◌, ℕ, zero, suc, ◌+◌, ◌<◌, ◌≤◌, ◌-◌, ◌/◌, inl, inr, List, [], ◌∷◌, ◌++◌, length, Option, Some, None, refl, sym, ◌∙◌, ap}
use Rattle.std.proofs.Common.{arith, get_or, set, nat_eq, Bool, true, false, nat_lt, length-set, get_or-set_same, get_or-set_other, length-append, subst}
use Rattle.std.proofs.Math.Seq.{get_or-append_seam}
use Rattle.std.proofs.lemmas.Bool.Decides.{nat_tests}
use Rattle.std.proofs.lemmas.List.{ext_get_or, get_or_append_left, get_or_past}
use Rattle.std.proofs.lemmas.Option.{same_Some}
use Rattle.laws_words.proofs.ListLemmas.{read_within}
use Rattle.sts_records.specs.Holes.{Holes, key_at}
use Rattle.sts_records.specs.Pages.{Comes, Goes, HasPagesFor, KeepsKeys}
use Rattle.sts_records.specs.Slots.{AreGiven, birth_of, births, body_of, slots}
use Rattle.sts_records.specs.Places.{Entry, Places, Updates, get}
use Rattle.sts_records.specs.declared.pages.Pages.{Pages}
use Rattle.sts_records.proofs.Cells.{came, stayed}

-- ---- keys that births were given

pub given_more : (keys : List ℕ) (at : ℕ → Option ℕ) (key : ℕ) → AreGiven keys at → AreGiven (keys ++ key ∷ []) at
given_more keys at key g k b is =
    let o = g k b is in
    let less = o.0 in
    let long = length-append keys (key ∷ []) in
    (omega (arith, less, long), get_or_append_left keys (key ∷ []) 0 b less ∙ o.1)

pub given_pushed : (keys : List ℕ) (at after : ℕ → Option ℕ) (key birth : ℕ) → birth ≡ length keys → Comes at after key birth → AreGiven keys at → AreGiven (keys ++ key ∷ []) after
given_pushed keys at after key birth last c g k b is =
    came at after key birth k b c is
    (λ p q.
    let long = length-append keys (key ∷ []) in
    (omega (arith, long, q, last), ap (λ (n : ℕ). get_or (keys ++ key ∷ []) n 0) (q ∙ last) ∙ (get_or-append_seam keys key [] 0 ∙ sym p)))
    (λ p q. given_more keys at key g k b q)

pub given_less : (keys : List ℕ) (at after : ℕ → Option ℕ) (key birth : ℕ) → Goes at after key birth → AreGiven keys at → AreGiven keys after
given_less keys at after key birth l g k b is = g k b (stayed at after key birth k b l is)

-- the latest block, before the next one is begun
pub same_latest : (p : Pages) (birth : ℕ) (at : ℕ → Option ℕ) → KeepsKeys p (birth / 4096) at → KeepsKeys p ((birth + 1 - 1) / 4096) at
same_latest p birth at kept =
    let e : birth + 1 - 1 ≡ birth = omega arith in
    rw e kept

-- the cells of the records that are left
pub less_kept : (p : Pages) (latest key birth : ℕ) (at after : ℕ → Option ℕ) → Goes at after key birth → KeepsKeys p latest at → KeepsKeys p latest after
less_kept p latest key birth at after g kept = record { page = kept.page; kept = λ k b is. kept.kept k b (stayed at after key birth k b g is); own = kept.own; reserved = kept.reserved; few = kept.few; below = kept.below; long = kept.long }

-- there are pages for fewer records
pub has_pages : (p q : Pages) (few many : ℕ) → q.pages ≡ p.pages → few ≤ many → HasPagesFor p many → HasPagesFor q few
has_pages p q few many e le (inl less) = inl (omega (arith, e, le, less))
has_pages p q few many e le (inr all) = inr (omega (arith, e, all))

module _ {T : Type 0} where
  pub length-slots : (b : ℕ) (keys : List ℕ) (entries : List (Option (Entry T))) → length (slots b keys entries) ≡ length keys
  length-slots b [] entries = refl
  length-slots b (k ∷ keys) entries = ap suc (length-slots (suc b) keys entries)

  pub slot_from : (b : ℕ) (keys : List ℕ) (entries : List (Option (Entry T))) (i : ℕ) → i < length keys → get_or (slots b keys entries) i None ≡ body_of (b + i) (get_or entries (get_or keys i 0) None)
  slot_from b [] entries i less = absurd (omega arith)
  slot_from b (k ∷ keys) entries zero less = let e : b + 0 ≡ b = omega arith in rw e refl
  slot_from b (k ∷ keys) entries (suc i) less =
      let e : b + suc i ≡ suc b + i = omega arith in
      rw e (slot_from (suc b) keys entries i (omega arith))

  -- within the table
  pub slot_is : (keys : List ℕ) (entries : List (Option (Entry T))) (i : ℕ) → i < length keys → get_or (slots 0 keys entries) i None ≡ body_of i (get_or entries (get_or keys i 0) None)
  slot_is keys entries i less = let e : 0 + i ≡ i = omega arith in rw e at (slot_from 0 keys entries i less)

  -- past it
  pub slot_past : (keys : List ℕ) (entries : List (Option (Entry T))) (i : ℕ) → length keys ≤ i → get_or (slots 0 keys entries) i None ≡ None
  slot_past keys entries i le = let n = length-slots 0 keys entries in get_or_past (slots 0 keys entries) i None (omega (arith, n))

  -- a birth with a record: its key, and its entry
  pub record Stands (keys : List ℕ) (entries : List (Option (Entry T))) (birth : ℕ) : Type 0 where
    pub less : birth < length keys
    pub entry : Entry T
    pub is : get_or entries (get_or keys birth 0) None ≡ Some entry
    pub own : entry.birth ≡ birth
    pub body : get_or (slots 0 keys entries) birth None ≡ Some entry.body

  body_some : (b : ℕ) (o : Option (Entry T)) → body_of b o ≢ None → (e : Entry T) × (o ≡ Some e) × (e.birth ≡ b) × (body_of b o ≡ Some e.body)
  body_some b None h = absurd (h refl)
  body_some b (Some e) h = by (nat_eq e.birth b) refl
    where
      by : (t : Bool) → nat_eq e.birth b ≡ t → (x : Entry T) × (Some e ≡ Some x) × (x.birth ≡ b) × (body_of b (Some e) ≡ Some x.body)
      by true q = (e, refl, grind (arith, nat_tests), rw q refl)
      by false q = absurd (h (rw q refl))

  pub stands : (keys : List ℕ) (entries : List (Option (Entry T))) (birth : ℕ) → get_or (slots 0 keys entries) birth None ≢ None → Stands keys entries birth
  stands keys entries birth h = by (nat_lt birth (length keys)) refl
    where
      by : (t : Bool) → nat_lt birth (length keys) ≡ t → Stands keys entries birth
      by true q =
          let less : birth < length keys = grind (arith, nat_tests) in
          let at = slot_is keys entries birth less in
          let s = body_some birth (get_or entries (get_or keys birth 0) None) (λ e. h (at ∙ e)) in
          record { less = less; entry = s.0; is = s.1; own = s.2; body = at ∙ s.3 }
      by false q = absurd (h (slot_past keys entries birth (grind (arith, nat_tests))))

  -- two tables of one length, alike but at one birth
  pub written : (keys : List ℕ) (old new : List (Option (Entry T))) (birth : ℕ) (o : Option T) → birth < length keys → body_of birth (get_or new (get_or keys birth 0) None) ≡ o → ((i : ℕ) → i ≢ birth → body_of i (get_or new (get_or keys i 0) None) ≡ body_of i (get_or old (get_or keys i 0) None)) → slots 0 keys new ≡ set (slots 0 keys old) birth o
  written keys old new birth o less here others =
      ext_get_or None _ _ (length-slots 0 keys new ∙ sym (length-set (slots 0 keys old) birth o ∙ length-slots 0 keys old))
      (λ i l. let inside : i < length keys = rw (length-slots 0 keys new) at l in by i inside (nat_eq i birth) refl)
    where
      by : (i : ℕ) → i < length keys → (t : Bool) → nat_eq i birth ≡ t → get_or (slots 0 keys new) i None ≡ get_or (set (slots 0 keys old) birth o) i None
      by i inside true q =
          let s : i ≡ birth = grind (arith, nat_tests) in
          let n = length-slots 0 keys old in
          let l : birth < length (slots 0 keys old) = rw n less in
          rw (s, get_or-set_same (slots 0 keys old) birth o None l) (slot_is keys new birth less ∙ here)
      by i inside false q =
          let s : i ≢ birth = grind (arith, nat_tests) in
          rw (get_or-set_other (slots 0 keys old) birth i o None s) (slot_is keys new i inside ∙ others i s ∙ sym (slot_is keys old i inside))

  body_other : (i b : ℕ) (x : T) → i ≢ b → body_of i (Some (record { birth = b; body = x })) ≡ None
  body_other i b x ne = let q : nat_eq b i ≡ false = grind (arith, nat_tests) in rw q refl

  body_own : (b : ℕ) (x : T) → body_of b (Some (record { birth = b; body = x })) ≡ Some x
  body_own b x = let q : nat_eq b b ≡ true = grind (arith, nat_tests) in rw q refl

  -- the records of other births stay, if only the entry at the key of this birth changes, and it isn't theirs
  others_stay : (keys : List ℕ) (old new : List (Option (Entry T))) (birth : ℕ) (e : Entry T) → get_or old (get_or keys birth 0) None ≡ Some e → e.birth ≡ birth → ((i : ℕ) → i ≢ birth → body_of i (get_or new (get_or keys birth 0) None) ≡ None) → ((j : ℕ) → j ≢ get_or keys birth 0 → get_or new j None ≡ get_or old j None) → (i : ℕ) → i ≢ birth → body_of i (get_or new (get_or keys i 0) None) ≡ body_of i (get_or old (get_or keys i 0) None)
  others_stay keys old new birth e was own none others i ne = by (nat_eq (get_or keys i 0) (get_or keys birth 0)) refl
    where
      by : (t : Bool) → nat_eq (get_or keys i 0) (get_or keys birth 0) ≡ t → body_of i (get_or new (get_or keys i 0) None) ≡ body_of i (get_or old (get_or keys i 0) None)
      by true q =
          let s : get_or keys i 0 ≡ get_or keys birth 0 = grind (arith, nat_tests) in
          let r : nat_eq e.birth i ≡ false = grind (arith, nat_tests) in
          let gone : body_of i (Some e) ≡ None = rw r refl in
          ap (λ n. body_of i (get_or new n None)) s ∙ none i ne ∙ sym (ap (λ n. body_of i (get_or old n None)) s ∙ ap (body_of i) was ∙ gone)
      by false q = let s : get_or keys i 0 ≢ get_or keys birth 0 = grind (arith, nat_tests) in ap (body_of i) (others (get_or keys i 0) s)

  -- the entry of one birth is replaced by another of that birth
  pub rewritten : (keys : List ℕ) (old new : List (Option (Entry T))) (birth : ℕ) (e : Entry T) (x : T) → birth < length keys → get_or old (get_or keys birth 0) None ≡ Some e → e.birth ≡ birth → get_or new (get_or keys birth 0) None ≡ Some (record { birth = birth; body = x }) → ((j : ℕ) → j ≢ get_or keys birth 0 → get_or new j None ≡ get_or old j None) → slots 0 keys new ≡ set (slots 0 keys old) birth (Some x)
  rewritten keys old new birth e x less was own is others =
      written keys old new birth (Some x) less (rw is (body_own birth x))
      (others_stay keys old new birth e was own (λ i ne. ap (body_of i) is ∙ body_other i birth x ne) others)

  -- the entry of one birth is discarded
  pub emptied : (keys : List ℕ) (old new : List (Option (Entry T))) (birth : ℕ) (e : Entry T) → birth < length keys → get_or old (get_or keys birth 0) None ≡ Some e → e.birth ≡ birth → get_or new (get_or keys birth 0) None ≡ None → ((j : ℕ) → j ≢ get_or keys birth 0 → get_or new j None ≡ get_or old j None) → slots 0 keys new ≡ set (slots 0 keys old) birth None
  emptied keys old new birth e less was own is others =
      written keys old new birth None less (rw is refl) (others_stay keys old new birth e was own (λ i ne. ap (body_of i) is) others)

  -- what a look-up finds
  pub some_at : (keys : List ℕ) (entries : List (Option (Entry T))) (birth k : ℕ) (x : Entry T) → birth < length keys → k ≡ get_or keys birth 0 → Some x ≡ get_or entries k None → x.birth ≡ birth → Some x.body ≡ get_or (slots 0 keys entries) birth None
  some_at keys entries birth k x less e h own = let q : nat_eq x.birth birth ≡ true = grind (arith, nat_tests) in rw (slot_is keys entries birth less, ← e, ← h) (rw q refl)

  -- a vacant key gets the entry of the next birth
  same_entries : (b n : ℕ) (keys : List ℕ) (old new : List (Option (Entry T))) (k : ℕ) (x : T) → b + length keys ≤ n → get_or old k None ≡ None → get_or new k None ≡ Some (record { birth = n; body = x }) → ((j : ℕ) → j ≢ k → get_or new j None ≡ get_or old j None) → slots b keys new ≡ slots b keys old
  same_entries b n [] old new k x le was is others = refl
  same_entries b n (j ∷ keys) old new k x le was is others = by (nat_eq j k) refl (same_entries (suc b) n keys old new k x (omega arith) was is others)
    where
      by : (t : Bool) → nat_eq j k ≡ t → slots (suc b) keys new ≡ slots (suc b) keys old → slots b (j ∷ keys) new ≡ slots b (j ∷ keys) old
      by true q rest =
          let s : j ≡ k = grind (arith, nat_tests) in
          rw (s, is, was, body_other b n x (omega arith), rest) refl
      by false q rest = let s : j ≢ k = grind (arith, nat_tests) in rw (others j s, rest) refl

  more_keys : (b : ℕ) (keys : List ℕ) (entries : List (Option (Entry T))) (k : ℕ) → slots b (keys ++ k ∷ []) entries ≡ slots b keys entries ++ body_of (b + length keys) (get_or entries k None) ∷ []
  more_keys b [] entries k = let e : b + 0 ≡ b = omega arith in rw e refl
  more_keys b (j ∷ keys) entries k =
      let e : b + suc (length keys) ≡ suc b + length keys = omega arith in
      rw e (ap (λ l. body_of b (get_or entries j None) ∷ l) (more_keys (suc b) keys entries k))

  pub born : (keys : List ℕ) (old new : List (Option (Entry T))) (k : ℕ) (x : T) → get_or old k None ≡ None → get_or new k None ≡ Some (record { birth = length keys; body = x }) → ((j : ℕ) → j ≢ k → get_or new j None ≡ get_or old j None) → slots 0 (keys ++ k ∷ []) new ≡ slots 0 keys old ++ Some x ∷ []
  born keys old new k x was is others =
      let e : 0 + length keys ≡ length keys = omega arith in
      rw (more_keys 0 keys new k, e, same_entries 0 (length keys) keys old new k x (omega arith) was is others, is, body_own (length keys) x) refl

  -- a birth without a record: no entry is of this birth
  pub skipped : (keys : List ℕ) (entries : List (Option (Entry T))) (k : ℕ) → AreGiven keys (births entries) → slots 0 (keys ++ k ∷ []) entries ≡ slots 0 keys entries ++ None ∷ []
  skipped keys entries k given =
      let e : 0 + length keys ≡ length keys = omega arith in
      rw (more_keys 0 keys entries k, e, no_body (get_or entries k None) (λ x is. (given k x.birth (ap birth_of is)).0)) refl
    where
      no_body : (o : Option (Entry T)) → ((x : Entry T) → o ≡ Some x → x.birth < length keys) → body_of (length keys) o ≡ None
      no_body None h = refl
      no_body (Some x) h =
          let less = h x refl in
          let q : nat_eq x.birth (length keys) ≡ false = grind (arith, nat_tests) in
          rw q refl

  -- ---- births of entries

  pub birth_is : (keys : List ℕ) (entries : List (Option (Entry T))) (birth : ℕ) → (s : Stands keys entries birth) → births entries (get_or keys birth 0) ≡ Some birth
  birth_is keys entries birth s = ap birth_of s.is ∙ ap (λ (n : ℕ). Some n) s.own

  -- no entries
  pub no_entries : (p : Pages) (entries : List (Option (Entry T))) → entries ≡ [] → KeepsKeys p 0 (λ _. None) → KeepsKeys p 0 (births entries)
  no_entries p entries none kept = subst (λ (l : List (Option (Entry T))). KeepsKeys p 0 (births l)) (sym none) kept

  -- an entry of a new birth
  pub comes : (keys : List ℕ) (places after : Places T) (key birth : ℕ) (x : T) → birth ≡ length keys → AreGiven keys (births places.slots) → get places key ≡ None → Updates places after key (Some (record { birth = birth; body = x })) → Comes (births places.slots) (births after.slots) key birth
  comes keys places after key birth x last given vacant u = record {
    was = ap birth_of vacant;
    is = ap birth_of u.changed;
    others = λ k ne. ap birth_of (u.others k ne);
    fresh = λ k b is e. (let less = (given k b is).0 in omega (arith, less, e, last));
  }

  -- a look-up that finds the record
  pub found : (keys : List ℕ) (entries : List (Option (Entry T))) (birth key : ℕ) (e : Entry T) → AreGiven keys (births entries) → get_or entries key None ≡ Some e → e.birth ≡ birth → get_or (slots 0 keys entries) birth None ≡ Some e.body
  found keys entries birth key e given is own =
      let g = given key birth (ap birth_of is ∙ ap (λ (n : ℕ). Some n) own) in
      sym (some_at keys entries birth key e g.0 (sym g.1) (sym is) own)

  -- a look-up that finds no record, or one of another birth
  pub not_found : (keys : List ℕ) (entries : List (Option (Entry T))) (birth key : ℕ) → ((k : ℕ) → births entries k ≡ Some birth → key ≡ k) → (births entries key ≡ Some birth → ⊥) → get_or (slots 0 keys entries) birth None ≡ None
  not_found keys entries birth key leads other = by (nat_lt birth (length keys)) refl
    where
      hole : (o : Option (Entry T)) → get_or entries (get_or keys birth 0) None ≡ o → body_of birth o ≡ None
      hole None q = refl
      hole (Some e) q = own (nat_eq e.birth birth) refl
        where
          own : (t : Bool) → nat_eq e.birth birth ≡ t → body_of birth (Some e) ≡ None
          own true r =
              let s : e.birth ≡ birth = grind (arith, nat_tests) in
              let is : births entries (get_or keys birth 0) ≡ Some birth = ap birth_of q ∙ ap (λ (n : ℕ). Some n) s in
              absurd (other (ap (births entries) (leads (get_or keys birth 0) is) ∙ is))
          own false r = rw r refl

      by : (t : Bool) → nat_lt birth (length keys) ≡ t → get_or (slots 0 keys entries) birth None ≡ None
      by true q = slot_is keys entries birth (grind (arith, nat_tests)) ∙ hole (get_or entries (get_or keys birth 0) None) refl
      by false q = slot_past keys entries birth (grind (arith, nat_tests))

  pub none_of : (entries : List (Option (Entry T))) (key birth : ℕ) → get_or entries key None ≡ None → births entries key ≡ Some birth → ⊥
  none_of entries key birth is at = let no : None ≡ Some birth = sym (ap birth_of is) ∙ at in cc

  pub other_of : (entries : List (Option (Entry T))) (key birth : ℕ) (e : Entry T) → get_or entries key None ≡ Some e → e.birth ≢ birth → births entries key ≡ Some birth → ⊥
  other_of entries key birth e is ne at =
      let same : Some e.birth ≡ Some birth = sym (ap birth_of is) ∙ at in
      ne cc

  -- what a look-up of a birth finds, by its key
  pub looked_up : (keys : List ℕ) (entries : List (Option (Entry T))) (birth key : ℕ) → AreGiven keys (births entries) → ((k : ℕ) → births entries k ≡ Some birth → key ≡ k) → body_of birth (get_or entries key None) ≡ get_or (slots 0 keys entries) birth None
  looked_up keys entries birth key given leads = by (get_or entries key None) refl
    where
      by : (o : Option (Entry T)) → get_or entries key None ≡ o → body_of birth o ≡ get_or (slots 0 keys entries) birth None
      by None q = sym (not_found keys entries birth key leads (none_of entries key birth q))
      by (Some e) q = own (nat_eq e.birth birth) refl
        where
          own : (t : Bool) → nat_eq e.birth birth ≡ t → body_of birth (Some e) ≡ get_or (slots 0 keys entries) birth None
          own true r =
              let s : e.birth ≡ birth = grind (arith, nat_tests) in
              rw r (sym (found keys entries birth key e given q s))
          own false r =
              let s : e.birth ≢ birth = grind (arith, nat_tests) in
              rw r (sym (not_found keys entries birth key leads (other_of entries key birth e q s)))

  -- the record at a key
  pub at_key : (entries : List (Option (Entry T))) (key k : ℕ) (e : Entry T) → key ≡ k → get_or entries k None ≡ Some e → get_or entries key None ≡ Some e
  at_key entries key k e same is = ap (λ (n : ℕ). get_or entries n None) same ∙ is

  pub is_at_key : (entries : List (Option (Entry T))) (key k : ℕ) (e : Entry T) → key ≡ k → get_or entries k None ≡ Some e → get_or entries key None ≢ None
  is_at_key entries key k e same is none =
      let no : Some e ≡ None = sym (at_key entries key k e same is) ∙ none in
      cc

  -- an entry that is written over keeps its birth
  rewritten_births : (entries : List (Option (Entry T))) (k : ℕ) (e : Entry T) (x : T) → get_or entries k None ≡ Some e → k < length entries → (j : ℕ) → births (set entries k (Some (record { birth = e.birth; body = x }))) j ≡ births entries j
  rewritten_births entries k e x is inside j = by (nat_eq j k) refl
    where
      by : (t : Bool) → nat_eq j k ≡ t → births (set entries k (Some (record { birth = e.birth; body = x }))) j ≡ births entries j
      by true q =
          let s : j ≡ k = grind (arith, nat_tests) in
          rw (s, get_or-set_same entries k (Some (record { birth = e.birth; body = x })) None inside, is) refl
      by false q = let s : j ≢ k = grind (arith, nat_tests) in ap birth_of (get_or-set_other entries k j _ None s)

  same_births : (entries : List (Option (Entry T))) (k : ℕ) (e : Entry T) (x : T) → get_or entries k None ≡ Some e → k < length entries → births (set entries k (Some (record { birth = e.birth; body = x }))) ≡ births entries
  same_births entries k e x is inside = λ i. λ j. rewritten_births entries k e x is inside j i

  pub lent_given : (keys : List ℕ) (entries : List (Option (Entry T))) (k : ℕ) (e : Entry T) (x : T) → get_or entries k None ≡ Some e → k < length entries → AreGiven keys (births entries) → AreGiven keys (births (set entries k (Some (record { birth = e.birth; body = x }))))
  lent_given keys entries k e x is inside g =
      subst (λ (at : ℕ → Option ℕ). AreGiven keys at) (sym (same_births entries k e x is inside)) g

  pub lent_kept : (p : Pages) (entries : List (Option (Entry T))) (latest k : ℕ) (e : Entry T) (x : T) → get_or entries k None ≡ Some e → k < length entries → KeepsKeys p latest (births entries) → KeepsKeys p latest (births (set entries k (Some (record { birth = e.birth; body = x }))))
  lent_kept p entries latest k e x is inside kept =
      subst (λ (at : ℕ → Option ℕ). KeepsKeys p latest at) (sym (same_births entries k e x is inside)) kept

  -- if a birth has a record, its key leads to an entry with that birth
  pub key_is : (keys : List ℕ) (entries : List (Option (Entry T))) (birth key : ℕ) → key_at (slots 0 keys entries) keys birth ≡ Some key → (e : Entry T) × (get_or entries key None ≡ Some e) × (e.birth ≡ birth) × (birth < length keys)
  key_is keys entries birth key h = by (get_or (slots 0 keys entries) birth None) refl
    where
      by : (o : Option T) → get_or (slots 0 keys entries) birth None ≡ o → (e : Entry T) × (get_or entries key None ≡ Some e) × (e.birth ≡ birth) × (birth < length keys)
      by None q = let no : None ≡ Some key = rw q at h in cc
      by (Some x) q =
          let s = stands keys entries birth (λ n. let no : Some x ≡ None = sym q ∙ n in cc) in
          let same : Some (get_or keys birth 0) ≡ Some key = rw q at h in
          let k : get_or keys birth 0 ≡ key = cc in
          (s.entry, rw k at s.is, s.own, s.less)

  pub key_some : (all : List (Option T)) (keys : List ℕ) (birth key : ℕ) (x : T) → Some x ≡ get_or all birth None → key ≡ get_or keys birth 0 → Some key ≡ key_at all keys birth
  key_some all keys birth key x h e = rw (← h, e) refl

  -- the body of a record is replaced
  pub lent : (keys : List ℕ) (entries : List (Option (Entry T))) (birth : ℕ) (w : T) (room : ℕ) (s : Stands keys entries birth) → ◌≡◌ {A = Holes T} (record { slots = slots 0 keys (set entries (get_or keys birth 0) (Some (record { birth = s.entry.birth; body = w }))); keys = keys; room = room }) (record { slots = set (slots 0 keys entries) birth (Some w); keys = keys; room = room })
  lent keys entries birth w room s =
      let k : ℕ = get_or keys birth 0 in
      let less : k < length entries = read_within entries k s.entry s.is in
      let here = get_or-set_same entries k (Some (record { birth = s.entry.birth; body = w })) None less in
      ap (λ (l : List (Option T)). record { slots = l; keys = keys; room = room })
      (rewritten keys entries _ birth s.entry w s.less s.is s.own (here ∙ (rw s.own refl)) (λ j ne. get_or-set_other entries k j _ None ne))

-- two records at one key are one
pub is_entry : {X : Type 0} → {o : Option X} → {a b : X} → o ≡ Some a → o ≡ Some b → a ≡ b
is_entry e f = same_Some _ _ (sym e ∙ f)
