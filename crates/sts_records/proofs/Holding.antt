-- What the calls on held records make of the fields.
use Rattle.std.proofs.Common.{◌≡◌, ◌≢◌, ℕ, ◌+◌, ◌-◌, ◌/◌, ◌<◌, ◌≤◌, ◌^◌, List, [], ◌∷◌, ◌++◌, length, Option, Some, None, refl, ap, arith}
use Rattle.std.proofs.Common.{get_or, set, length-append}
use Rattle.laws_words.proofs.ListLemmas.{read_within, count_kept}
use Rattle.sts_records.specs.Pages.{Comes, Goes, HasPagesFor, KeepsKeys}
use Rattle.sts_records.specs.Places.{HasRoomFor, Places, Updates, filled, get}
use Rattle.sts_records.specs.Slots.{AreGiven, birth_of, births, slots}
use Rattle.sts_records.specs.declared.held.Held.TheInside.{Inside}
use Rattle.sts_records.specs.declared.pages.Pages.{Pages}
use Rattle.sts_records.proofs.Slots.{Stands, at_key, birth_is, born, comes, emptied, given_less, given_more, given_pushed, has_pages, is_at_key}
use Rattle.sts_records.proofs.Slots.{length-slots, lent_given, lent_kept, less_kept, no_entries, same_latest, stands}

-- the invariant of these fields
abbrev pub Keeps : {T : Type 0} → Pages → Places T → List ℕ → ℕ → ℕ → Type 0
Keeps pages places keys birth room =
    HasRoomFor places room × (filled places + room < 2 ^ 32) × (birth ≡ length keys) × (birth ≤ 1000000)
    × AreGiven keys (births places.slots) × KeepsKeys pages (birth / 4096) (births places.slots) × HasPagesFor pages (filled places + room)

-- without records
pub keeps_none : {T : Type 0} (pages : Pages) (places : Places T) (keys : List ℕ) (room : ℕ) → room < 2 ^ 32 → places.slots ≡ [] → room ≤ places.capacity → keys ≡ [] → KeepsKeys pages 0 (λ _. None) → HasPagesFor pages room → Keeps pages places keys 0 room
keeps_none pages places keys room fits none capacity unborn kept has =
    let total : filled places + room ≡ room = rw none (omega arith) in (
      omega (arith, total, capacity),
      omega (arith, total, fits),
      rw unborn refl,
      omega arith,
      rw (none, unborn) (λ key b is. absurd (let no = is in cc)),
      no_entries pages places.slots none kept,
      rw total has,
    )

module _ {T : Type 0} (h : Inside T) (i : Keeps h.pages h.places h.given.keys h.born h.room) where
  -- ---- a birth that has a record

  -- the page of the birth knows it, and gives this key
  pub asks : (birth : ℕ) → Stands h.given.keys h.places.slots birth → (latest : ℕ) × (at : ℕ → Option ℕ) × KeepsKeys h.pages latest at × (birth / 4096 ≤ latest)
  asks birth s =
      let less = s.less in
      let last = i.2 in
      (h.born / 4096, births h.places.slots, i.5, omega (arith, less, last))

  pub answered : (birth key : ℕ) → Stands h.given.keys h.places.slots birth → ((latest : ℕ) (at : ℕ → Option ℕ) (k : ℕ) → KeepsKeys h.pages latest at → at k ≡ Some birth → key ≡ k) → key ≡ get_or h.given.keys birth 0
  answered birth key s read = read (h.born / 4096) (births h.places.slots) (get_or h.given.keys birth 0) i.5 (birth_is h.given.keys h.places.slots birth s)

  -- another body is written into its record
  pub lent_keeps : (birth : ℕ) (w : T) (s : Stands h.given.keys h.places.slots birth) → Keeps h.pages (record h.places { slots = set h.places.slots (get_or h.given.keys birth 0) (Some (record { birth = s.entry.birth; body = w })) }) h.given.keys h.born h.room
  lent_keeps birth w s =
      let entries = h.places.slots in
      let k : ℕ = get_or h.given.keys birth 0 in
      let inside : k < length entries = read_within entries k s.entry s.is in
      let many = count_kept entries k s.entry (record { birth = s.entry.birth; body = w }) s.is in
      rw many (
        i.0,
        i.1,
        i.2,
        i.3,
        lent_given h.given.keys entries k s.entry w s.is inside i.4,
        lent_kept h.pages entries (h.born / 4096) k s.entry w s.is inside i.5,
        i.6,
      )

  -- its record is discarded
  module _ (after : Places T) (key birth : ℕ) (s : Stands h.given.keys h.places.slots birth) (at : key ≡ get_or h.given.keys birth 0) (u : Updates h.places after key None) where
    goes : Goes (births h.places.slots) (births after.slots) key birth
    goes = record {
      was = rw at (birth_is h.given.keys h.places.slots birth s);
      gone = ap birth_of u.changed;
      others = λ k ne. ap birth_of (u.others k ne);
    }

    pub discarded_keeps : filled after + 1 ≡ filled h.places → after.capacity ≡ h.places.capacity → Keeps h.pages after h.given.keys h.born (h.room + 1)
    discarded_keeps long capacity =
        let fits = i.0 in
        let few = i.1 in
        let total : filled after + (h.room + 1) ≡ filled h.places + h.room = omega (arith, long) in (
          omega (arith, fits, long, capacity),
          omega (arith, few, long),
          i.2,
          i.3,
          given_less h.given.keys (births h.places.slots) (births after.slots) key birth goes i.4,
          less_kept h.pages (h.born / 4096) key birth (births h.places.slots) (births after.slots) goes i.5,
          rw total i.6,
        )

    pub discarded_slots : slots 0 h.given.keys after.slots ≡ set (slots 0 h.given.keys h.places.slots) birth None
    discarded_slots =
        emptied h.given.keys h.places.slots after.slots birth s.entry s.less s.is s.own (rw (← at) u.changed) (rw (← at) u.others)

  -- ---- the next birth

  pub next_few : length (slots 0 h.given.keys h.places.slots) < 1000000 → (0 < h.born + 1) × (h.born + 1 ≤ 1000000)
  next_few few =
      let n = length-slots 0 h.given.keys h.places.slots in
      let last = i.2 in
      (omega arith, omega (arith, few, n, last))

  -- it has no record
  pub skipped_keeps : length (slots 0 h.given.keys h.places.slots) < 1000000 → (pages : Pages) (keys : List ℕ) → keys ≡ h.given.keys ++ 0 ∷ [] → KeepsKeys pages ((h.born + 1) / 4096) (births h.places.slots) → pages.pages ≡ h.pages.pages → Keeps pages h.places keys (h.born + 1) h.room
  skipped_keeps few pages keys more kept same =
      let last = i.2 in
      let long = length-append h.given.keys (0 ∷ []) in (
        i.0,
        i.1,
        rw more (omega (arith, last, long)),
        (next_few few).1,
        rw more (given_more h.given.keys (births h.places.slots) 0 i.4),
        kept,
        rw same i.6,
      )

-- the record of the next birth came at a key
pub record Came {T : Type 0} (h : Inside T) (after : Places T) (key : ℕ) (x : T) : Type 0 where
  pub is : Keeps h.pages h.places h.given.keys h.born h.room
  pub vacant : get h.places key ≡ None
  pub updates : Updates h.places after key (Some (record { birth = h.born; body = x }))
  pub long : filled after ≡ filled h.places + 1
  pub capacity : after.capacity ≡ h.places.capacity

pub came : {T : Type 0} (h : Inside T) → Keeps h.pages h.places h.given.keys h.born h.room → {after : Places T} {key : ℕ} {x : T} → get h.places key ≡ None → Updates h.places after key (Some (record { birth = h.born; body = x })) → filled after ≡ filled h.places + 1 → after.capacity ≡ h.places.capacity → Came h after key x
came h is vacant updates long capacity = record { is = is; vacant = vacant; updates = updates; long = long; capacity = capacity }

module _ {T : Type 0} {h : Inside T} {after : Places T} {key : ℕ} {x : T} (c : Came h after key x) where
  here : Comes (births h.places.slots) (births after.slots) key h.born
  here = comes h.given.keys h.places after key h.born x c.is.2 c.is.4 c.vacant c.updates

  -- what the pages have to know before the next block begins
  pub put_keys : (pages : Pages) → ((at all : ℕ → Option ℕ) → KeepsKeys h.pages (h.born / 4096) at → Comes at all key h.born → KeepsKeys pages (h.born / 4096) all) → KeepsKeys pages ((h.born + 1 - 1) / 4096) (births after.slots)
  put_keys pages put = same_latest pages h.born (births after.slots) (put (births h.places.slots) (births after.slots) c.is.5 here)

  pub put_room : (pages : Pages) → 0 < h.room → pages.pages ≡ h.pages.pages → HasPagesFor pages (filled after)
  put_room pages some same =
      let long = c.long in
      has_pages h.pages pages (filled after) (filled h.places + h.room) same (omega (arith, long, some)) c.is.6

  pub pushed_keeps : length (slots 0 h.given.keys h.places.slots) < 1000000 → 0 < h.room → (pages : Pages) (keys : List ℕ) → keys ≡ h.given.keys ++ key ∷ [] → KeepsKeys pages ((h.born + 1) / 4096) (births after.slots) → pages.pages ≡ h.pages.pages → Keeps pages after keys (h.born + 1) (h.room - 1)
  pushed_keeps few some pages keys more kept same =
      let fits = c.is.0 in
      let below = c.is.1 in
      let last = c.is.2 in
      let long = c.long in
      let capacity = c.capacity in
      let one = length-append h.given.keys (key ∷ []) in
      let total : filled after + (h.room - 1) ≡ filled h.places + h.room = omega (arith, long, some) in (
        omega (arith, fits, long, capacity, some),
        omega (arith, below, long, some),
        rw more (omega (arith, last, one)),
        (next_few h c.is few).1,
        rw more (given_pushed h.given.keys (births h.places.slots) (births after.slots) key h.born last here c.is.4),
        kept,
        rw (total, same) c.is.6,
      )

  pub pushed_slots : slots 0 (h.given.keys ++ key ∷ []) after.slots ≡ slots 0 h.given.keys h.places.slots ++ Some x ∷ []
  pushed_slots =
      let last = c.is.2 in
      let changed = c.updates.changed in
      born h.given.keys h.places.slots after.slots key x c.vacant (rw last at changed) c.updates.others

-- the key that was read leads to the record of the birth
pub record Led {T : Type 0} (h : Inside T) (birth key : ℕ) : Type 0 where
  pub stands : Stands h.given.keys h.places.slots birth
  pub at : key ≡ get_or h.given.keys birth 0
  pub is : get_or h.places.slots key None ≡ Some stands.entry

module _ {T : Type 0} (h : Inside T) where
  pub led : (birth key : ℕ) → get_or (slots 0 h.given.keys h.places.slots) birth None ≢ None → key ≡ get_or h.given.keys birth 0 → Led h birth key
  led birth key there at =
      let s = stands h.given.keys h.places.slots birth there in
      record { stands = s; at = at; is = at_key h.places.slots key (get_or h.given.keys birth 0) s.entry at s.is }

  pub led_some : (birth key : ℕ) → get_or (slots 0 h.given.keys h.places.slots) birth None ≢ None → key ≡ get_or h.given.keys birth 0 → get_or h.places.slots key None ≢ None
  led_some birth key there at =
      let s = stands h.given.keys h.places.slots birth there in
      is_at_key h.places.slots key (get_or h.given.keys birth 0) s.entry at s.is
