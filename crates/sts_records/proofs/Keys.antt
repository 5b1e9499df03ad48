-- Cells of records, when a record comes, goes, or is written over.
use Rattle.std.proofs.Common.{◌≡◌, ◌≢◌, ℕ, zero, suc, ◌<◌, ◌≤◌, List, [], ◌∷◌, ◌++◌, length, Option, Some, None, refl, sym, ◌∙◌, ap, arith, get_or, set, nat_eq}
use Rattle.std.specs.Prelude.{⊤}
use Rattle.std.proofs.Common.{nat_lt, Bool, true, false, get_or-set_same, get_or-set_other, cond, count_by, is_some}
use Rattle.std.proofs.Math.Seq.{get_or-append_seam}
use Rattle.std.proofs.lemmas.Bool.Decides.{nat_tests}
use Rattle.std.proofs.lemmas.List.{get_or-map, get_or_append_left, get_or_past, length-map, length_push, map-set}
use Rattle.std.proofs.lemmas.List.Elements.{All-set}
use Rattle.std.proofs.lemmas.List.Sums.{sum_by-cons}
use Rattle.slab.specs.Slab.{Slab, Updates as Changes, slab_len}
use Rattle.sts_records.specs.Cells.{AreWhole, IsSound, Lays, entry_of, entry_with, slots_of}
use Rattle.sts_records.specs.PlaceLends.{with_body}
use Rattle.sts_records.specs.Places.{Entry, Updates}
use Rattle.sts_records.specs.Slots.{body_of}
use Rattle.sts_records.specs.declared.places.Cell.{Cell}
use Rattle.laws_words.proofs.OptionLemmas.{has_some}

pub some_of : {X : Type 0} → (o : Option X) → o ≢ None → (x : X) × (o ≡ Some x)
some_of None h = absurd (h refl)
some_of (Some x) h = (x, refl)

-- what was read twice
pub same_read : {X : Type 0} → (xs : List X) (k : ℕ) (x y : X) → k < length xs → x ≡ get_or xs k x → y ≡ get_or xs k y → x ≡ y
same_read [] k x y less one two = absurd (omega (arith, less))
same_read (z ∷ xs) zero x y less one two = one ∙ sym two
same_read (z ∷ xs) (suc k) x y less one two = same_read xs k x y (omega (arith, less)) one two

-- lists that have something at the same places have as much
same_count : {X Y : Type 0} → (xs : List (Option X)) (ys : List (Option Y)) → ((k : ℕ) → is_some (get_or xs k None) ≡ is_some (get_or ys k None)) → count_by is_some xs ≡ count_by is_some ys
same_count [] [] same = refl
same_count {X = X} {Y = Y} [] (y ∷ ys) same =
    let rest = same_count {X = X} {Y = Y} [] ys (λ k. same (suc k)) in
    let none : ℕ = 0 in
    let first : cond (is_some y) 1 none ≡ none = rw (← same 0) refl in
    let cons = sum_by-cons (λ (o : Option Y). cond (is_some o) 1 0) y ys in
    omega (arith, rest, first, cons)
same_count {X = X} {Y = Y} (x ∷ xs) [] same =
    let rest = same_count {X = X} {Y = Y} xs [] (λ k. same (suc k)) in
    let none : ℕ = 0 in
    let first : cond (is_some x) 1 none ≡ none = rw (same 0) refl in
    let cons = sum_by-cons (λ (o : Option X). cond (is_some o) 1 0) x xs in
    omega (arith, rest, first, cons)
same_count {X = X} {Y = Y} (x ∷ xs) (y ∷ ys) same =
    let rest = same_count xs ys (λ k. same (suc k)) in
    let none : ℕ = 0 in
    let first : cond (is_some x) 1 none ≡ cond (is_some y) 1 none = ap (λ (t : Bool). cond t 1 none) (same 0) in
    let one = sum_by-cons (λ (o : Option X). cond (is_some o) 1 0) x xs in
    let two = sum_by-cons (λ (o : Option Y). cond (is_some o) 1 0) y ys in
    omega (arith, rest, first, one, two)

module _ {T : Type 0} where
  -- ---- one cell

  -- a record has a birth and a body
  pub parts : (b : Option ℕ) (x : Option T) (e : Entry T) → entry_with b x ≡ Some e → (b ≡ Some e.birth) × (x ≡ Some e.body)
  parts None x e is = absurd (cc)
  parts (Some n) None e is = absurd (cc)
  parts (Some n) (Some x) e is =
      let same : ◌≡◌ {A = Entry T} (record { birth = n; body = x }) e = cc in
      (ap (λ (y : Entry T). Some y.birth) same, ap (λ (y : Entry T). Some y.body) same)

  pub with_other : (b : Option ℕ) (x w : T) → entry_with b (Some w) ≡ with_body (entry_with b (Some x)) w
  with_other None x w = refl
  with_other (Some n) x w = refl

  -- what a look-up for a birth finds
  pub body_at : (b : ℕ) (o : Option ℕ) (x : Option T) → o ≡ Some b → body_of b (entry_with o x) ≡ x
  body_at b o None is = rw is refl
  body_at b o (Some x) is =
      let q : nat_eq b b ≡ true = grind (arith, nat_tests) in
      rw is (rw q refl)

  pub body_not : (b : ℕ) (o : Option ℕ) (x : Option T) → o ≢ Some b → body_of b (entry_with o x) ≡ None
  body_not b None x ne = refl
  body_not b (Some n) None ne = refl
  body_not b (Some n) (Some x) ne = by (nat_eq n b) refl
    where
      by : (t : Bool) → nat_eq n b ≡ t → body_of b (entry_with (Some n) (Some x)) ≡ None
      by true q = let s : n ≡ b = grind (arith, nat_tests) in absurd (ne (ap (λ (m : ℕ). Some m) s))
      by false q = rw q refl

  -- ---- all cells

  -- a key with a record has a cell
  pub inside_cells : (cells : List (Cell T)) (key : ℕ) → get_or (slots_of cells) key None ≢ None → key < length cells
  inside_cells cells key some = by (nat_lt key (length cells)) refl
    where
      by : (t : Bool) → nat_lt key (length cells) ≡ t → key < length cells
      by true q = grind (arith, nat_tests)
      by false q =
          let long = length-map cells entry_of in
          let le : length cells ≤ key = grind (arith, nat_tests) in
          absurd (some (get_or_past (slots_of cells) key None (omega (arith, long, le))))

  -- the record of a cell that was read
  pub read : (cells : List (Cell T)) (key : ℕ) (c : Cell T) → key < length cells → c ≡ get_or cells key c → get_or (slots_of cells) key None ≡ entry_of c
  read cells key c less is = get_or-map entry_of cells key c None less ∙ ap entry_of (sym is)

  pub whole_set : (cells : List (Cell T)) (key : ℕ) (c : Cell T) → (c.birth ≢ None → c.body ≢ None) → AreWhole cells → AreWhole (set cells key c)
  whole_set cells key c own whole = All-set (λ (d : Cell T). d.birth ≢ None → d.body ≢ None) cells key c own whole

  -- a record was found in the cell that was read
  pub record Found (cells : List (Cell T)) (key : ℕ) (c : Cell T) : Type 0 where
    pub less : key < length cells
    pub is : get_or (slots_of cells) key None ≡ entry_of c
    pub entry : Entry T
    pub birth : c.birth ≡ Some entry.birth
    pub body : c.body ≡ Some entry.body

  pub found : (cells : List (Cell T)) (key : ℕ) (c : Cell T) → get_or (slots_of cells) key None ≢ None → c ≡ get_or cells key c → Found cells key c
  found cells key c some at =
      let less = inside_cells cells key some in
      let is = read cells key c less at in
      let e = some_of (entry_of c) (λ none. some (is ∙ none)) in
      let both = parts c.birth c.body e.0 e.1 in
      record { less = less; is = is; entry = e.0; birth = both.0; body = both.1 }

  -- ---- what changes

  pub updates_set : (slots : List (Option (Entry T))) (key room : ℕ) (o : Option (Entry T)) → key < length slots → Updates (record { slots = slots; capacity = room }) (record { slots = set slots key o; capacity = room }) key o
  updates_set slots key room o less = record {
    changed = get_or-set_same slots key o None less;
    others = λ other ne. get_or-set_other slots key other o None ne;
  }

  pub lays_updates : (old new : List (Option (Entry T))) (key room : ℕ) (e : Entry T) → Lays old new key e → Updates (record { slots = old; capacity = room }) (record { slots = new; capacity = room }) key (Some e)
  lays_updates old new key room e l = record { changed = l.here; others = l.others }

  pub lays_set : (slots : List (Option (Entry T))) (key : ℕ) (e : Entry T) → key < length slots → Lays slots (set slots key (Some e)) key e
  lays_set slots key e less = record {
    here = get_or-set_same slots key (Some e) None less;
    others = λ other ne. get_or-set_other slots key other (Some e) None ne;
  }

  lays_body : (cells : List (Cell T)) (key birth : ℕ) (o : Option T) (x : T) → o ≡ Some x → key < length cells → Lays (slots_of cells) (slots_of (set cells key (record { birth = Some birth; body = o }))) key (record { birth = birth; body = x })
  lays_body cells key birth o x is less =
      let long = length-map cells entry_of in
      rw (map-set, is) (lays_set (slots_of cells) key (record { birth = birth; body = x }) (omega (arith, less, long)))

  -- the body that lies at a key becomes the record of a birth; the cell was read twice
  pub revived : (cells : List (Cell T)) (key birth : ℕ) (c d : Cell T) → key < length cells → c ≡ get_or cells key c → d ≡ get_or cells key d → is_some c.body ≡ true → (x : T) × Lays (slots_of cells) (slots_of (set cells key (record { birth = Some birth; body = d.body }))) key (record { birth = birth; body = x })
  revived cells key birth c d less one two some =
      let x = has_some d.body (ap (λ (e : Cell T). is_some e.body) (same_read cells key d c less two one) ∙ some) in
      (x.0, lays_body cells key birth d.body x.0 x.1 less)

  -- a record comes at the end, behind cells without one
  pub lays_push : (old slots : List (Option (Entry T))) (key : ℕ) (e : Entry T) → ((k : ℕ) → get_or slots k None ≡ get_or old k None) → length slots ≡ key → Lays old (slots ++ Some e ∷ []) key e
  lays_push old slots key e same long = record {
    here = rw (← long) (get_or-append_seam slots (Some e) [] None);
    others = λ other ne. by other ne (nat_lt other (length slots)) refl ∙ same other;
  }
    where
      by : (other : ℕ) → other ≢ key → (t : Bool) → nat_lt other (length slots) ≡ t → get_or (slots ++ Some e ∷ []) other None ≡ get_or slots other None
      by other ne true q = get_or_append_left slots (Some e ∷ []) None other (grind (arith, nat_tests))
      by other ne false q =
          let le : length slots ≤ other = grind (arith, nat_tests) in
          let more = length_push slots (Some e) in
          get_or_past (slots ++ Some e ∷ []) other None (omega (arith, le, ne, more, long)) ∙ sym (get_or_past slots other None le)

  -- one more cell without a record
  pub same_push : (old slots : List (Option (Entry T))) → ((k : ℕ) → get_or slots k None ≡ get_or old k None) → (k : ℕ) → get_or (slots ++ None ∷ []) k None ≡ get_or old k None
  same_push old slots same k = by slots k ∙ same k
    where
      by : (slots : List (Option (Entry T))) (k : ℕ) → get_or (slots ++ None ∷ []) k None ≡ get_or slots k None
      by [] zero = refl
      by [] (suc k) = refl
      by (s ∷ slots) zero = refl
      by (s ∷ slots) (suc k) = by slots k

  -- ---- keys

  -- there are as many records as keys
  pub as_keys : (keys : Slab ⊤) (slots : List (Option (Entry T))) (room : ℕ) → IsSound keys slots room → count_by is_some slots ≡ slab_len keys
  as_keys keys slots room s = sym (same_count keys.slots slots s.same)

  -- a key that the slab doesn't have has no record
  pub vacant_at : (keys : Slab ⊤) (slots : List (Option (Entry T))) (room key : ℕ) → IsSound keys slots room → get_or keys.slots key None ≡ None → get_or slots key None ≡ None
  vacant_at keys slots room key s none = by (get_or slots key None) refl
    where
      by : (o : Option (Entry T)) → get_or slots key None ≡ o → get_or slots key None ≡ None
      by None is = is
      by (Some e) is =
          let same = s.same key in
          let no : false ≡ true = rw (none, is) at same in
          cc

  -- the slab has the key of a record
  pub key_at : (keys : Slab ⊤) (slots : List (Option (Entry T))) (room key : ℕ) → IsSound keys slots room → get_or slots key None ≢ None → is_some (get_or keys.slots key None) ≡ true
  key_at keys slots room key s some =
      let e = some_of (get_or slots key None) some in
      s.same key ∙ ap is_some e.1

  pub sound_come : (keys after : Slab ⊤) (old new : List (Option (Entry T))) (room key : ℕ) (e : Entry T) (x : ⊤) → Changes keys after key (Some x) → after.capacity ≡ keys.capacity → Lays old new key e → IsSound keys old room → IsSound after new room
  sound_come keys after old new room key e x u same lays s = record {
    same = λ k. by k (nat_eq k key) refl;
    alike = s.alike ∙ sym same;
    small = rw same s.small;
  }
    where
      by : (k : ℕ) (t : Bool) → nat_eq k key ≡ t → is_some (get_or after.slots k None) ≡ is_some (get_or new k None)
      by k true q = let is : k ≡ key = grind (arith, nat_tests) in rw (is, u.changed, lays.here) refl
      by k false q =
          let ne : k ≢ key = grind (arith, nat_tests) in
          rw (u.others k ne, lays.others k ne) (s.same k)

  pub sound_go : (keys after : Slab ⊤) (slots : List (Option (Entry T))) (room key : ℕ) → key < length slots → Changes keys after key None → after.capacity ≡ keys.capacity → IsSound keys slots room → IsSound after (set slots key None) room
  sound_go keys after slots room key less u same s = record {
    same = λ k. by k (nat_eq k key) refl;
    alike = s.alike ∙ sym same;
    small = rw same s.small;
  }
    where
      by : (k : ℕ) (t : Bool) → nat_eq k key ≡ t → is_some (get_or after.slots k None) ≡ is_some (get_or (set slots key None) k None)
      by k true q = let is : k ≡ key = grind (arith, nat_tests) in rw (is, u.changed, get_or-set_same slots key None None less) refl
      by k false q =
          let ne : k ≢ key = grind (arith, nat_tests) in
          rw (u.others k ne, get_or-set_other slots key k None None ne) (s.same k)

  -- another body is written at a key with a record
  pub sound_rewrite : (keys : Slab ⊤) (slots : List (Option (Entry T))) (room key : ℕ) (x : Entry T) → get_or slots key None ≢ None → key < length slots → IsSound keys slots room → IsSound keys (set slots key (Some x)) room
  sound_rewrite keys slots room key x some less s = record {
    same = λ k. by k (nat_eq k key) refl;
    alike = s.alike;
    small = s.small;
  }
    where
      by : (k : ℕ) (t : Bool) → nat_eq k key ≡ t → is_some (get_or keys.slots k None) ≡ is_some (get_or (set slots key (Some x)) k None)
      by k true q = let is : k ≡ key = grind (arith, nat_tests) in rw (is, get_or-set_same slots key (Some x) None less) (key_at keys slots room key s some)
      by k false q =
          let ne : k ≢ key = grind (arith, nat_tests) in
          rw (get_or-set_other slots key k (Some x) None ne) (s.same k)
