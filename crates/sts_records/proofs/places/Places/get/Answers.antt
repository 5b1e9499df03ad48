use Rattle.std.proofs.Common.{◌≡◌, ◌≢◌, ℕ, ◌<◌, ◌≤◌, List, length, Option, Some, None, true, false, sym, ◌∙◌, ap, arith, get_or, subst, eqb}
use Rattle.std.specs.Option.{option_eq}
use Rattle.std.proofs.lemmas.Bool.{ltb-false, ltb-true}
use Rattle.std.proofs.lemmas.Bool.Decides.{nat_tests}
use Rattle.std.proofs.lemmas.List.{get_or_past, length-map}
use Rattle.std.proofs.lemmas.List.Elements.{All-get_or}
use Rattle.sts_records.specs.Cells.{AreWhole, entry_of, slots_of}
use Rattle.sts_records.specs.Slots.{body_of}
use Rattle.sts_records.specs.declared.places.Cell.{Cell}
use Rattle.sts_records.proofs.Keys.{body_at, body_not, read}
use Rattle.laws_words.proofs.OptionLemmas.{not_none}
use Rattle.sts_records.proofs.places.Places.get.Goals.{in_default-via-in-Some+else-eq, in_default-via-in_default}
use Rattle.sts_records.proofs.places.Places.get.Goals as goal

birth_is : (o : Option ℕ) (b : ℕ) → option_eq eqb o (Some b) ≡ true → o ≡ Some b
birth_is None b e = absurd (cc)
birth_is (Some n) b e = let same : n ≡ b = grind (arith, nat_tests) in ap (λ (m : ℕ). Some m) same

own : (b : ℕ) → option_eq eqb (Some b) (Some b) ≡ true
own b = let same : eqb b b ≡ true = grind (arith, nat_tests) in same

birth_not : (o : Option ℕ) (b : ℕ) → option_eq eqb o (Some b) ≡ false → o ≢ Some b
birth_not o b e is = let no : false ≡ true = sym e ∙ (ap (λ (p : Option ℕ). option_eq eqb p (Some b)) is ∙ own b) in cc

-- a cell with a birth has a body
has_body : {T : Type 0} (cells all : List (Cell T)) (key birth : ℕ) (c : Cell T) → all ≡ cells → key < length all → c ≡ get_or all key c → AreWhole cells → c.birth ≡ Some birth → c.body ≢ None
has_body {T} cells all key birth c e less is whole same =
    let at = All-get_or (λ (d : Cell T). d.birth ≢ None → d.body ≢ None) cells key c (rw e at less) whole in
    subst (λ (d : Cell T). d.birth ≢ None → d.body ≢ None) (sym (rw e at is)) at (not_none c.birth birth same)

-- what lies in the cell
found : {T : Type 0} (cells all : List (Cell T)) (key : ℕ) (c : Cell T) → all ≡ cells → key < length all → c ≡ get_or all key c → get_or (slots_of cells) key None ≡ entry_of c
found cells all key c e less is = read cells key c (rw e at less) (rw e at is)

-- a record of another birth
other : {T : Type 0} (cells all : List (Cell T)) (key birth : ℕ) (c : Cell T) → all ≡ cells → key < length all → c ≡ get_or all key c → option_eq eqb c.birth (Some birth) ≡ false → body_of birth (get_or (slots_of cells) key None) ≡ None
other cells all key birth c e less is differs = ap (body_of birth) (found cells all key c e less is) ∙ body_not birth c.birth c.body (birth_not c.birth birth differs)

past : {T : Type 0} (cells all : List (Cell T)) (key birth : ℕ) → all ≡ cells → length all ≤ key → body_of birth (get_or (slots_of cells) key None) ≡ None
past cells all key birth e le =
    let long = length-map cells entry_of in
    let same = ap length e in
    ap (body_of birth) (get_or_past (slots_of cells) key None (omega (arith, long, le, same)))

pub body_in-requires : goal.body_in-requires
body_in-requires g c =
    let cell = c.in-Some.cell.now in
    let some = c.in-Some.ensures.lookup in
    has_body c.self.inside.cells.items c.deref.result.now c.args.key c.args.birth cell c.deref.ensures.value
    (ltb-true c.args.key (length c.deref.result.now) (sym some.0)) some.1 c.self.invariant.1
    (birth_is cell.birth c.args.birth (sym c.eq.ensures ∙ c.if-eq.true))

pub returns-in-Some : goal.returns-in-Some
returns-in-Some g c =
    let cell = c.in-Some.cell.now in
    let some = c.in-Some.ensures.lookup in
    let is = found c.self.inside.cells.items c.deref.result.now c.args.key cell c.deref.ensures.value
    (ltb-true c.args.key (length c.deref.result.now) (sym some.0)) some.1 in
    rw (← c.self.view_is) (sym (ap (body_of c.args.birth) is ∙ body_at c.args.birth cell.birth cell.body
    (birth_is cell.birth c.args.birth (sym c.eq.ensures ∙ c.if-eq.true)) ∙ c.body_in.ensures))

pub returns-in_default : goal.returns-in_default
returns-in_default g c =
    elim c.in_default.branch [
      | in_default-via-in-Some+else-eq w ↦
          let some = w.in-Some.ensures.lookup in
          let less = ltb-true c.args.key (length c.deref.result.now) (sym some.0) in
          rw (← c.self.view_is) (sym (other c.self.inside.cells.items c.deref.result.now c.args.key c.args.birth w.in-Some.cell.now
          c.deref.ensures.value less some.1 (sym w.eq.ensures ∙ w.if-eq.false)))
      | in_default-via-in_default w ↦
          let beyond = ltb-false c.args.key (length c.deref.result.now) (sym w.in_default.ensures.lookup.0) in
          rw (← c.self.view_is) (sym (past c.self.inside.cells.items c.deref.result.now c.args.key c.args.birth c.deref.ensures.value beyond))
    ]
