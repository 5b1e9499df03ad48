-- Names that are kept as lists lead from one state to another that is alike.
use Rattle.std.proofs.Common.{◌≡◌, ℕ, zero, suc, ◌<◌, ◌≤◌, ◌+◌, List, [], ◌∷◌, ◌++◌, Bool, true, false, refl, sym, ◌∙◌, ap, length, arith, map, reverse}
use Rattle.std.specs.Prelude.{Some, slice_get}
use Rattle.std.proofs.lemmas.List.{reverse-append, get_or_past}
use Rattle.std.specs.List.{list_any}
use Rattle.std.proofs.Math.Dec.{ltb}
use Rattle.std.proofs.lemmas.Bool.{ltb-true, or_parts}
use Rattle.std.proofs.lemmas.Bool.Decides.{nat_tests}
use Rattle.sts_code.specs.Program.{Program, Routine, routine, no_routine}
use Rattle.sts_code.specs.declared.instr.Instr.{Instr}
use Rattle.sts_model.specs.declared.record.Frame.{Frame}
use Rattle.sts_model.specs.declared.record.Scope.{Scope}
use Rattle.sts_model.specs.World.{World, State, Running}
use Rattle.laws_names.specs.Names.{Names, IsOneToOne, IsSameScope, ReadsNothing, is_reading, named_frame, named_slot, named_entry, named_completion}
use Rattle.laws_names.proofs.MadeLemmas.{AreSame, alike_made}
use Rattle.laws_names.proofs.NameLemmas.{map_push}
use Rattle.ends_plain.specs.declared.names.NameLists.{NameLists}
use Rattle.ends_plain.specs.Configs.{HasNames}
use Rattle.ends_plain.specs.Named.{name_in, names_of, IsNaming, AreNames, AllTasksSame, AllScopesSame, AreRenamed}

-- ---- lists of names

past : (names back : List ℕ) (births : ℕ) → IsNaming names back births → (k : ℕ) → births ≤ k → name_in names k ≡ k
past names back births h k more = get_or_past names k k (let many = h.as_many in omega (arith, many, more))

one_to_one : (names back : List ℕ) (births : ℕ) → IsNaming names back births → IsOneToOne (name_in names)
one_to_one names back births h a b e = by (ltb a births) refl (ltb b births) refl
  where
    by : (x : Bool) → ltb a births ≡ x → (y : Bool) → ltb b births ≡ y → a ≡ b
    by true f true g =
        let here = h.leads_back a (ltb-true a births f) in
        let there = h.leads_back b (ltb-true b births g) in
        sym here.1 ∙ ap (name_in back) e ∙ there.1
    by true f false g =
        let here = (h.leads_back a (ltb-true a births f)).0 in
        let more : births ≤ b = grind (arith, nat_tests) in
        let same = past names back births h b more in
        omega (arith, here, more, same, e)
    by false f true g =
        let there = (h.leads_back b (ltb-true b births g)).0 in
        let more : births ≤ a = grind (arith, nat_tests) in
        let same = past names back births h a more in
        omega (arith, there, more, same, e)
    by false f false g =
        let here : births ≤ a = grind (arith, nat_tests) in
        let there : births ≤ b = grind (arith, nat_tests) in
        sym (past names back births h a here) ∙ e ∙ past names back births h b there

pub renamed : (names back : NameLists) (w v : World) → AreNames names back w v → AllTasksSame (names_of names) w v (length w.tasks) → AllScopesSame (names_of names) w v (length w.scopes) → AreRenamed w v
renamed names back w v h tasks scopes =
    let all : AreSame (names_of names) w v = record {
      named = record {
        tasks_born = sym h.tasks_born;
        scopes_born = sym h.scopes_born;
        task_names = one_to_one names.tasks.items back.tasks.items (length w.tasks) h.tasks;
        scope_names = one_to_one names.scopes.items back.scopes.items (length w.scopes) h.scopes;
        later_tasks = past names.tasks.items back.tasks.items (length w.tasks) h.tasks;
        later_scopes = past names.scopes.items back.scopes.items (length w.scopes) h.scopes;
        root = h.root;
      };
      task = tasks;
      scope = scopes;
    } in
    record { names = names_of names; alike = alike_made (names_of names) w v all }

-- ---- programs that read nothing

none_there : (q : Instr → Bool) (code : List Instr) → list_any q code ≡ false → (k : ℕ) (i : Instr) → slice_get code k ≡ Some i → q i ≡ false
none_there q [] none k i e = cc
none_there q (x ∷ xs) none zero i e = let same : x ≡ i = cc in ap q (sym same) ∙ (or_parts (q x) (list_any q xs) none).0
none_there q (x ∷ xs) none (suc k) i e = none_there q xs (or_parts (q x) (list_any q xs) none).1 k i e

-- none of the first n functions reads a scoped value
pub record QuietBelow (p : Program) (n : ℕ) : Type 0 where
  pub quiet : (j : ℕ) → j < n → list_any is_reading (routine p j).code ≡ false

pub reads_nothing : (p : Program) → QuietBelow p (length p.routines) → ReadsNothing p
reads_nothing p h f i e = by (ltb f.function (length p.routines)) refl
  where
    by : (b : Bool) → ltb f.function (length p.routines) ≡ b → is_reading i ≡ false
    by true less = none_there is_reading (routine p f.function).code (h.quiet f.function (ltb-true f.function (length p.routines) less)) f.pc i e
    by false more =
        let none = ap (λ (r : Routine). r.code) (get_or_past p.routines f.function no_routine (grind (arith, nat_tests))) in
        none_there is_reading (routine p f.function).code (ap (list_any is_reading) none) f.pc i e

-- ---- tasks and states

pub same_frame : (n : Names) (f g : Frame) → f.function ≡ g.function → f.pc ≡ g.pc → f.operands ≡ g.operands → f.locals ≡ g.locals → f.loops ≡ g.loops → g.entries ≡ map (named_entry n) f.entries → g.slots ≡ map (named_slot n) f.slots → g ≡ named_frame n f
same_frame n f g function pc operands locals loops entries slots =
    λ i. record {
      function = sym function i;
      pc = sym pc i;
      operands = sym operands i;
      locals = sym locals i;
      loops = sym loops i;
      entries = entries i;
      slots = slots i;
    }

pub same_scope : (n : Names) (x y : Scope) → n.tasks x.owner ≡ y.owner → x.joiner ≡ y.joiner → x.timed ≡ y.timed → x.phase ≡ y.phase → x.cancelled ≡ y.cancelled → x.expired ≡ y.expired → y.completions ≡ map (named_completion n) x.completions → IsSameScope n x y
same_scope n x y owner joiner timed phase cancelled expired completions = cc

map_reverse : {X : Type 0} (f : X → X) (xs : List X) → map f (reverse xs) ≡ reverse (map f xs)
map_reverse f [] = refl
map_reverse f (x ∷ xs) =
    ap (map f) (reverse-append (x ∷ []) xs) ∙ map_push f (reverse xs) x ∙ ap (λ l. l ++ f x ∷ []) (map_reverse f xs) ∙ sym (reverse-append (f x ∷ []) (map f xs))

-- the entries of stacks, which are kept in the other direction
pub stacks_named : {X : Type 0} (f : X → X) (ours theirs here there : List X) → reverse here ≡ ours → reverse there ≡ theirs → there ≡ map f here → theirs ≡ map f ours
stacks_named f ours theirs here there ourselves others same = sym others ∙ ap reverse same ∙ sym (map_reverse f here) ∙ ap (map f) ourselves

pub has_names : (p : Program) (x y : State) (w v : World) → x ≡ Running w → y ≡ Running v → AreRenamed w v → ReadsNothing p → HasNames p x y
has_names p x y w v here there r quiet = record { quiet = quiet; names = r.names; alike = rw (here, there) r.alike }

-- ---- loops
