use Rattle.std.proofs.Common.{◌≡◌, ◌≢◌, ℕ, ◌<◌, ◌≤◌, List, [], ◌∷◌, ◌++◌, length, Option, Some, None, refl, sym, ◌∙◌, ap, arith, get_or, subst}
use Rattle.std.proofs.lemmas.List.{length-map, length_push, map-append, map-set}
use Rattle.std.proofs.lemmas.List.Elements.{All-push}
use Rattle.sts_records.specs.Cells.{AreWhole, Lays, entry_of, slots_of}
use Rattle.sts_records.specs.Places.{Entry}
use Rattle.sts_records.specs.declared.places.Cell.{Cell}
use Rattle.sts_records.proofs.Keys.{lays_push, lays_set, same_push, whole_set}
use Rattle.laws_words.proofs.OptionLemmas.{not_none}
use Rattle.sts_records.proofs.places.put.Goals as goal

slots_push : {T : Type 0} (cells new : List (Cell T)) (c : Cell T) → new ≡ cells ++ c ∷ [] → slots_of new ≡ slots_of cells ++ entry_of c ∷ []
slots_push cells new c e = ap slots_of e ∙ map-append entry_of cells (c ∷ [])

-- a cell without a record at the end changes no slot
same_cell : {T : Type 0} (old : List (Option (Entry T))) (cells new : List (Cell T)) (c : Cell T) → new ≡ cells ++ c ∷ [] → entry_of c ≡ None → ((k : ℕ) → get_or (slots_of cells) k None ≡ get_or old k None) → (k : ℕ) → get_or (slots_of new) k None ≡ get_or old k None
same_cell {T} old cells new c e none same k =
    ap (λ (l : List (Option (Entry T))). get_or l k None) (slots_push cells new c e ∙ ap (λ (o : Option (Entry T)). slots_of cells ++ o ∷ []) none)
    ∙ same_push old (slots_of cells) same k

lays_cell : {T : Type 0} (old : List (Option (Entry T))) (cells new : List (Cell T)) (key birth : ℕ) (body : T) → new ≡ cells ++ record { birth = Some birth; body = Some body } ∷ [] → ((k : ℕ) → get_or (slots_of cells) k None ≡ get_or old k None) → length cells ≡ key → Lays old (slots_of new) key (record { birth = birth; body = body })
lays_cell {T} old cells new key birth body e same long =
    subst (λ (l : List (Option (Entry T))). Lays old l key (record { birth = birth; body = body })) (sym (slots_push cells new (record { birth = Some birth; body = Some body }) e))
    (lays_push old (slots_of cells) key (record { birth = birth; body = body }) same (length-map cells entry_of ∙ long))

whole_push : {T : Type 0} (cells new : List (Cell T)) (c : Cell T) → new ≡ cells ++ c ∷ [] → (c.birth ≢ None → c.body ≢ None) → AreWhole cells → AreWhole new
whole_push {T} cells new c e own whole = subst AreWhole (sym e) (All-push (λ (d : Cell T). d.birth ≢ None → d.body ≢ None) cells c whole own)

longer : {T : Type 0} (cells new : List (Cell T)) (c : Cell T) (n : ℕ) → new ≡ cells ++ c ∷ [] → length cells < n → length new ≤ n
longer cells new c n e less =
    let same = ap length e in
    let more = length_push cells c in
    omega (arith, same, more, less)

pub returns-then-key-len-clause-lays : goal.returns-then-key-len-clause-lays
returns-then-key-len-clause-lays g c =
    let cells = c.args.cells.now.items in
    let less = c.if-key-len.true in
    let long = c.len.ensures in
    let mapped = length-map cells entry_of in
    rw map-set (lays_set (slots_of cells) c.args.key (record { birth = c.args.birth; body = c.args.body }) (omega (arith, less, long, mapped)))

pub returns-then-key-len-clause-whole : goal.returns-then-key-len-clause-whole
returns-then-key-len-clause-whole g c whole = whole_set c.args.cells.now.items c.args.key
    (record { birth = Some c.args.birth; body = Some c.args.body }) (λ _. not_none (Some c.args.body) c.args.body refl) whole

pub loop-cells-preserved : goal.loop-cells-preserved
loop-cells-preserved g c =
    let cells = c.loop-cells.cells.items in
    let new = c.push_reserved.new.self.items in
    let e = c.push_reserved.ensures.items in
    record {
      same = same_cell (slots_of c.args.cells.now.items) cells new (record { birth = None; body = None }) e refl c.loop-cells.invariant.same;
      whole = λ w. whole_push cells new (record { birth = None; body = None }) e (λ some. absurd (some refl)) (c.loop-cells.invariant.whole w);
      capacity = c.push_reserved.ensures.capacity ∙ c.loop-cells.invariant.capacity;
      upto = longer cells new (record { birth = None; body = None }) c.args.key e (omega (arith, c.len-in-loop-cells.ensures, c.loop-cells-test.true));
    }

pub returns-clause-lays : goal.returns-clause-lays
returns-clause-lays g c = lays_cell (slots_of c.args.cells.now.items) c.loop-cells.cells.items c.push_reserved-2.new.self.items c.args.key
    c.args.birth c.args.body c.push_reserved-2.ensures.items c.loop-cells.invariant.same
    (omega (arith, c.loop-cells.invariant.upto, c.len-in-loop-cells.ensures, c.loop-cells-test.false))

pub returns-clause-whole : goal.returns-clause-whole
returns-clause-whole g c w = whole_push c.loop-cells.cells.items c.push_reserved-2.new.self.items
    (record { birth = Some c.args.birth; body = Some c.args.body }) c.push_reserved-2.ensures.items
    (λ _. not_none (Some c.args.body) c.args.body refl) (c.loop-cells.invariant.whole w)
