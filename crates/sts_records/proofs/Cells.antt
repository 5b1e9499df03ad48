-- Cells when a record comes or goes, and when a block begins.
use Rattle.std.proofs.Common.{◌≡◌, ◌≢◌, ℕ, zero, suc, ◌+◌, ◌-◌, ◌*◌, ◌/◌, ◌<◌, ◌≤◌, List, [], ◌∷◌, length, Option, Some, None, refl, sym, ◌∙◌, ap, arith}
use Rattle.std.proofs.Common.{get_or, set, nat_eq, Bool, true, false, get_or-set_same, get_or-set_other, length-set, vec_capacity, cond, count_by, is_some}
use Rattle.std.proofs.lemmas.Bool.Decides.{nat_tests}
use Rattle.std.proofs.lemmas.List.Sums.{sum_by-cons}
use Rattle.std.proofs.lemmas.Option.{same_Some}
use Rattle.laws_words.proofs.OptionLemmas.{not_none}
use Rattle.sts_records.specs.Pages.{Comes, Extends, Goes, HasPage, IsKept, KeepsKeys, cell_of, page_of, start_of}
use Rattle.sts_records.specs.declared.pages.Pages.{Pages}

-- ---- records

-- the record at a key, after one came
pub came : {A : Type 0} → (at after : ℕ → Option ℕ) (key birth k b : ℕ) → Comes at after key birth → after k ≡ Some b → (k ≡ key → b ≡ birth → A) → (k ≢ key → at k ≡ Some b → A) → A
came {A = A} at after key birth k b c is same other = by (nat_eq k key) refl
  where
    by : (t : Bool) → nat_eq k key ≡ t → A
    by true q =
        let s : k ≡ key = grind (arith, nat_tests) in
        same s (same_Some b birth (sym is ∙ (ap after s ∙ c.is)))
    by false q =
        let s : k ≢ key = grind (arith, nat_tests) in
        other s (sym (c.others k s) ∙ is)

-- the record at a key, after one went
pub stayed : (at after : ℕ → Option ℕ) (key birth k b : ℕ) → Goes at after key birth → after k ≡ Some b → at k ≡ Some b
stayed at after key birth k b g is =
    let other : k ≢ key = λ s. not_none (after k) b is (ap after s ∙ g.gone) in
    sym (g.others k other) ∙ is

-- ---- pages

-- the cell of a birth, by its block's page
pub cell_in : (offsets cells : List ℕ) (b : ℕ) (h : HasPage offsets cells (b / 4096)) → (1003520 ≤ get_or offsets (b / 4096) 0 + b) × (cell_of offsets b < length cells) × (cell_of offsets b / 4096 ≡ h.page)
cell_in offsets cells b h =
    let start = h.start in
    let inside = h.inside in
    (omega (arith, start), omega (arith, start, inside), omega (arith, start))

-- the cells of two births of one block
same_block : (offsets : List ℕ) (b c : ℕ) → b / 4096 ≡ c / 4096 → 1003520 ≤ get_or offsets (b / 4096) 0 + b → 1003520 ≤ get_or offsets (c / 4096) 0 + c → cell_of offsets b ≡ cell_of offsets c → b ≡ c
same_block offsets b c e above below f =
    let o : get_or offsets (b / 4096) 0 ≡ get_or offsets (c / 4096) 0 = ap (λ (n : ℕ). get_or offsets n 0) e in
    omega (arith, o, f, above, below)

-- the cells of two births of blocks with pages of their own
other_block : (offsets cells : List ℕ) (b c : ℕ) → HasPage offsets cells (b / 4096) → HasPage offsets cells (c / 4096) → start_of offsets (b / 4096) ≢ start_of offsets (c / 4096) → cell_of offsets b ≢ cell_of offsets c
other_block offsets cells b c h i ne e =
    let p = h.start in
    let q = i.start in
    let one = (cell_in offsets cells b h).2 in
    let two = (cell_in offsets cells c i).2 in
    let same : h.page ≡ i.page = sym one ∙ (ap (λ (n : ℕ). n / 4096) e ∙ two) in
    ne (omega (arith, p, q, same))

-- a record comes, whose birth is of the latest block
pub put : (offsets cells : List ℕ) (at after : ℕ → Option ℕ) (key birth latest : ℕ) (cells' : List ℕ)
    → ((block : ℕ) → block ≤ latest → HasPage offsets cells block)
    → ((k b : ℕ) → at k ≡ Some b → IsKept offsets cells latest k b)
    → birth / 4096 ≡ latest → Comes at after key birth → cells' ≡ set cells (cell_of offsets birth) key
    → (k b : ℕ) → after k ≡ Some b → IsKept offsets cells' latest k b
put offsets cells at after key birth latest cells' page kept last c wrote k b is =
    came at after key birth k b c is (λ s e. rw (s, e) new) (λ s e. old e)
  where
    mine : HasPage offsets cells (birth / 4096)
    mine = page (birth / 4096) (omega (arith, last))

    new : IsKept offsets cells' latest key birth
    new = record {
      begun = omega (arith, last);
      cell = rw wrote (get_or-set_same cells (cell_of offsets birth) key 0 (cell_in offsets cells birth mine).1);
      apart = λ ne. absurd (ne last);
    }

    old : at k ≡ Some b → IsKept offsets cells' latest k b
    old e =
        let was = kept k b e in
        let h = page (b / 4096) was.begun in
        let ne : cell_of offsets b ≢ cell_of offsets birth = (λ f. by (nat_eq (b / 4096) latest) refl f) in
        record { begun = was.begun; cell = rw wrote (get_or-set_other cells (cell_of offsets birth) (cell_of offsets b) key 0 ne ∙ was.cell); apart = was.apart }
      where
        by : (t : Bool) → nat_eq (b / 4096) latest ≡ t → cell_of offsets b ≡ cell_of offsets birth → ⊥
        by true q f =
            let s : b / 4096 ≡ latest = grind (arith, nat_tests) in
            let h = page (b / 4096) (kept k b e).begun in
            c.fresh k b e (same_block offsets b birth (s ∙ sym last) (cell_in offsets cells b h).0 (cell_in offsets cells birth mine).0 f)
        by false q f =
            let s : b / 4096 ≢ latest = grind (arith, nat_tests) in
            let h = page (b / 4096) (kept k b e).begun in
            let apart = (kept k b e).apart s in
            other_block offsets cells b birth h mine (λ g. apart (g ∙ ap (start_of offsets) last)) f

-- a block begins, with a page in which no record has its cell
module _ (offsets cells : List ℕ) (at : ℕ → Option ℕ) (block latest page o : ℕ) (cells' : List ℕ)
    (has : (b : ℕ) → b ≤ latest → HasPage offsets cells b)
    (kept : (k b : ℕ) → at k ≡ Some b → IsKept offsets cells latest k b)
    (next : block ≡ latest + 1) (room : block < length offsets)
    (start : o + 4096 * block ≡ 4096 * page + 1003520) (long : 4096 * page + 4096 ≤ length cells')
    (ext : Extends cells cells') where
  left : (b : ℕ) → b ≤ latest → get_or (set offsets block o) b 0 ≡ get_or offsets b 0
  left b le = get_or-set_other offsets block b o 0 (λ e. omega (arith, e, le, next))

  here : get_or (set offsets block o) block 0 ≡ o
  here = get_or-set_same offsets block o 0 room

  pub begin_page : (b : ℕ) → b ≤ block → HasPage (set offsets block o) cells' b
  begin_page b le = by (nat_eq b block) refl
    where
      by : (t : Bool) → nat_eq b block ≡ t → HasPage (set offsets block o) cells' b
      by true q =
          let s : b ≡ block = grind (arith, nat_tests) in
          rw s (record { page = page; start = rw here start; inside = long })
      by false q =
          let s : b ≢ block = grind (arith, nat_tests) in
          let before : b ≤ latest = omega (arith, le, s, next) in
          let h = has b before in
          let inside = h.inside in
          let more = ext.long in
          record { page = h.page; start = rw (left b before) h.start; inside = omega (arith, inside, more) }

  pub begin_kept : ((k b : ℕ) → at k ≡ Some b → cell_of offsets b / 4096 ≢ page) → (k b : ℕ) → at k ≡ Some b → IsKept (set offsets block o) cells' block k b
  begin_kept unused k b is =
      let was = kept k b is in
      let begun = was.begun in
      let h = has (b / 4096) begun in
      let c = cell_in offsets cells b h in
      let same : cell_of (set offsets block o) b ≡ cell_of offsets b = ap (λ (n : ℕ). n + b - 1003520) (left (b / 4096) begun) in
      record {
        begun = omega (arith, begun, next);
        cell = rw same (ext.same (cell_of offsets b) c.1 ∙ was.cell);
        apart = λ ne e. (
            let p = h.start in
            let own = c.2 in
            let mine = left (b / 4096) begun in
            let new = here in
            unused k b is (own ∙ omega (arith, e, p, mine, new, start)));
      }

  pub begin_own : o ≡ 1003520 → ((b : ℕ) → b ≤ latest → get_or offsets b 0 ≡ 1003520) → (b : ℕ) → b ≤ block → get_or (set offsets block o) b 0 ≡ 1003520
  begin_own e all b le = by (nat_eq b block) refl
    where
      by : (t : Bool) → nat_eq b block ≡ t → get_or (set offsets block o) b 0 ≡ 1003520
      by true q =
          let s : b ≡ block = grind (arith, nat_tests) in
          rw s (here ∙ e)
      by false q =
          let s : b ≢ block = grind (arith, nat_tests) in
          let before : b ≤ latest = omega (arith, le, s, next) in
          left b before ∙ all b before

-- if each block has a page of its own, no record has its cell in that of a later block
pub own_unused : (offsets cells : List ℕ) (at : ℕ → Option ℕ) (latest block : ℕ)
    → ((b : ℕ) → b ≤ latest → get_or offsets b 0 ≡ 1003520)
    → ((k b : ℕ) → at k ≡ Some b → IsKept offsets cells latest k b)
    → latest < block → (k : ℕ) → page_of offsets (at k) ≢ Some block
own_unused offsets cells at latest block own kept later k = by (at k) refl
  where
    by : (o : Option ℕ) → at k ≡ o → page_of offsets o ≢ Some block
    by None q e = cc
    by (Some b) q e =
        let begun = (kept k b q).begun in
        let offset = own (b / 4096) begun in
        let page : cell_of offsets b / 4096 ≡ block = same_Some _ _ e in
        omega (arith, begun, offset, page, later)

-- a record comes, whose birth is of the latest block: the pages afterwards
pub put_kept : (p q : Pages) (at after : ℕ → Option ℕ) (key birth : ℕ) → KeepsKeys p (birth / 4096) at → Comes at after key birth → q.offsets ≡ p.offsets → q.cells.items ≡ set p.cells.items (cell_of p.offsets birth) key → vec_capacity q.cells ≡ vec_capacity p.cells → q.pages ≡ p.pages → KeepsKeys q (birth / 4096) after
put_kept p q at after key birth kept comes offsets wrote capacity same =
    let reserved = kept.reserved in
    record {
      page = λ block le. (
          let h = kept.page block le in
          rw (offsets, wrote) (record { page = h.page; start = h.start; inside = rw length-set h.inside }));
      kept = rw (offsets, wrote) (put p.offsets p.cells.items at after key birth (birth / 4096) (set p.cells.items (cell_of p.offsets birth) key) kept.page kept.kept refl comes refl);
      own = λ all. rw offsets (kept.own (sym same ∙ all));
      reserved = omega (arith, reserved, capacity, same);
      few = rw same kept.few;
      below = kept.below;
      long = rw offsets kept.long;
    }

-- a block may begin with this page: no record has its cell there, and it is the block's own if each block has one
abbrev pub IsFree : Pages → (ℕ → Option ℕ) → (block page : ℕ) → Type 0
IsFree p at block page = ((k : ℕ) → page_of p.offsets (at k) ≢ Some page) × (p.pages ≡ 245 → page ≡ block)

pub own_free : (p : Pages) (at : ℕ → Option ℕ) (block : ℕ) → 0 < block → KeepsKeys p (block - 1) at → p.pages ≡ 245 → IsFree p at block block
own_free p at block some keys all = (own_unused p.offsets p.cells.items at (block - 1) block (keys.own all) keys.kept (omega (arith, some)), λ _. refl)

-- a block begins: the pages afterwards
pub begins : (p q : Pages) (at : ℕ → Option ℕ) (block page : ℕ) → (0 < block) × (block < 245) → KeepsKeys p (block - 1) at → IsFree p at block page → page * 4096 + 4096 ≤ length q.cells.items → Extends p.cells.items q.cells.items → vec_capacity q.cells ≡ vec_capacity p.cells → q.offsets ≡ set p.offsets block (page * 4096 + 1003520 - block * 4096) → q.pages ≡ p.pages → KeepsKeys q block at
begins p q at block page within keys free long ext capacity offsets same =
    let some = within.0 in
    let few = within.1 in
    let all = keys.long in
    let reserved = keys.reserved in
    record {
      page = rw offsets (begin_page p.offsets p.cells.items at block latest page o q.cells.items keys.page keys.kept next room start enough ext);
      kept = rw offsets (begin_kept p.offsets p.cells.items at block latest page o q.cells.items keys.page keys.kept next room start enough ext unused);
      own = λ e. (
          let same_page = free.1 (sym same ∙ e) in
          rw offsets (begin_own p.offsets p.cells.items at block latest page o q.cells.items keys.page keys.kept next room start enough ext
          (omega (arith, same_page, few)) (keys.own (sym same ∙ e))));
      reserved = omega (arith, reserved, capacity, same);
      few = rw same keys.few;
      below = few;
      long = rw offsets (length-set p.offsets block o ∙ all);
    }
  where
    latest : ℕ
    latest = block - 1

    o : ℕ
    o = page * 4096 + 1003520 - block * 4096

    next : block ≡ block - 1 + 1
    next = let some = within.0 in omega (arith, some)

    room : block < length p.offsets
    room =
        let few = within.1 in
        let all = keys.long in
        omega (arith, few, all)

    start : page * 4096 + 1003520 - block * 4096 + 4096 * block ≡ 4096 * page + 1003520
    start = let few = within.1 in omega (arith, few)

    enough : 4096 * page + 4096 ≤ length q.cells.items
    enough = omega (arith, long)

    unused : (k b : ℕ) → at k ≡ Some b → cell_of p.offsets b / 4096 ≢ page
    unused k b is e = free.0 k (ap (page_of p.offsets) is ∙ ap (λ (n : ℕ). Some n) e)

-- ---- more pages than records

abbrev sum_to : ℕ → (ℕ → ℕ) → ℕ
sum_to zero f = 0
sum_to (suc n) f = sum_to n f + f n

-- 1 if this is the number
abbrev one_if : Option ℕ → ℕ → ℕ
one_if None p = 0
one_if (Some q) p = cond (nat_eq q p) 1 0

-- how many of these lead to a number
abbrev hits : {X : Type 0} → (Option X → Option ℕ) → List (Option X) → ℕ → ℕ
hits f [] p = 0
hits f (x ∷ xs) p = one_if (f x) p + hits f xs p

sum_add : (n : ℕ) (f g : ℕ → ℕ) → sum_to n (λ p. f p + g p) ≡ sum_to n f + sum_to n g
sum_add zero f g = refl
sum_add (suc n) f g =
    let rest = sum_add n f g in
    let sum : sum_to n (λ p. f p + g p) + (f n + g n) ≡ (sum_to n f + f n) + (sum_to n g + g n) = omega (arith, rest) in
    sum

all_le : (n : ℕ) (f : ℕ → ℕ) → ((p : ℕ) → p < n → 1 ≤ f p) → n ≤ sum_to n f
all_le zero f h = omega arith
all_le (suc n) f h =
    let rest = all_le n f (λ p l. h p (omega (arith, l))) in
    let last = h n (omega arith) in
    let sum : suc n ≤ sum_to n f + f n = omega (arith, rest, last) in
    sum

-- one record is in one page
none_yet : (n q : ℕ) → n ≤ q → sum_to n (one_if (Some q)) ≡ 0
none_yet zero q le = refl
none_yet (suc n) q le =
    let rest = none_yet n q (omega (arith, le)) in
    let t : nat_eq q n ≡ false = grind (arith, nat_tests) in
    let last : one_if (Some q) n ≡ 0 = rw t refl in
    let sum : sum_to n (one_if (Some q)) + one_if (Some q) n ≡ 0 = omega (arith, rest, last) in
    sum

one_le : (n q : ℕ) → sum_to n (one_if (Some q)) ≤ 1
one_le zero q = omega arith
one_le (suc n) q = by (nat_eq q n) refl (one_le n q)
  where
    by : (t : Bool) → nat_eq q n ≡ t → sum_to n (one_if (Some q)) ≤ 1 → sum_to n (one_if (Some q)) + one_if (Some q) n ≤ 1
    by true t more =
        let s : q ≡ n = grind (arith, nat_tests) in
        let rest = none_yet n q (omega (arith, s)) in
        let last : one_if (Some q) n ≡ 1 = rw t refl in
        omega (arith, rest, last)
    by false t more =
        let last : one_if (Some q) n ≡ 0 = rw t refl in
        omega (arith, more, last)

no_hits : (n : ℕ) → sum_to n (one_if None) ≡ 0
no_hits zero = refl
no_hits (suc n) =
    let rest = no_hits n in
    let sum : sum_to n (one_if None) + 0 ≡ 0 = omega (arith, rest) in
    sum

hit : {X : Type 0} → (f : Option X → Option ℕ) (xs : List (Option X)) (p k : ℕ) → f None ≡ None → f (get_or xs k None) ≡ Some p → 1 ≤ hits f xs p
hit f [] p k none is = absurd (not_none (f None) p is none)
hit f (x ∷ xs) p zero none is =
    let t : nat_eq p p ≡ true = grind (arith, nat_tests) in
    let one : one_if (f x) p ≡ 1 = ap (λ (o : Option ℕ). one_if o p) is ∙ (rw t refl) in
    let sum : 1 ≤ one_if (f x) p + hits f xs p = omega (arith, one) in
    sum
hit f (x ∷ xs) p (suc k) none is =
    let rest = hit f xs p k none is in
    let sum : 1 ≤ one_if (f x) p + hits f xs p = omega (arith, rest) in
    sum

few_hits : {X : Type 0} → (f : Option X → Option ℕ) (xs : List (Option X)) (n : ℕ) → f None ≡ None → sum_to n (hits f xs) ≤ count_by is_some xs
few_hits f [] n none = let z = zeros n in omega (arith, z)
  where
    zeros : (n : ℕ) → sum_to n (λ _. 0) ≡ 0
    zeros zero = refl
    zeros (suc n) =
        let rest = zeros n in
        let sum : sum_to n (λ _. 0) + 0 ≡ 0 = omega (arith, rest) in
        sum
few_hits f (None ∷ xs) n none =
    let rest = few_hits f xs n none in
    let add = sum_add n (one_if (f None)) (hits f xs) in
    let no : sum_to n (one_if (f None)) ≡ 0 = rw none (no_hits n) in
    omega (arith, rest, add, no)
few_hits {X = X} f (Some x ∷ xs) n none =
    let rest = few_hits f xs n none in
    let add = sum_add n (one_if (f (Some x))) (hits f xs) in
    let one = by (f (Some x)) in
    let first : ℕ = 1 in
    let cons : count_by is_some (Some x ∷ xs) ≡ first + count_by is_some xs = sum_by-cons (λ (o : Option X). cond (is_some o) 1 0) (Some x) xs in
    let sum : sum_to n (λ p. one_if (f (Some x)) p + hits f xs p) ≤ count_by is_some (Some x ∷ xs) = omega (arith, rest, add, one, cons) in
    sum
  where
    by : (o : Option ℕ) → sum_to n (one_if o) ≤ 1
    by None = let no = no_hits n in omega (arith, no)
    by (Some q) = one_le n q

-- if each page has a record, there are as many records
pub pages_le : {X : Type 0} → (f : Option X → Option ℕ) (xs : List (Option X)) (n : ℕ) → f None ≡ None → ((p : ℕ) → p < n → (k : ℕ) × (f (get_or xs k None) ≡ Some p)) → n ≤ count_by is_some xs
pages_le f xs n none used =
    let all = all_le n (hits f xs) (λ p l. let u = used p l in hit f xs p u.0 none u.1) in
    let few = few_hits f xs n none in
    omega (arith, all, few)

-- what holds below a number, and at it
pub one_more : (P : ℕ → Type 0) (n : ℕ) → ((p : ℕ) → p < n → P p) → P n → (p : ℕ) → p < n + 1 → P p
one_more P n below here p less = by (nat_eq p n) refl
  where
    by : (t : Bool) → nat_eq p n ≡ t → P p
    by true q = let s : p ≡ n = grind (arith, nat_tests) in rw s here
    by false q = let s : p ≢ n = grind (arith, nat_tests) in below p (omega (arith, less, s))
