-- One place of the pass over a function: each exit of the body, and how the pass goes on.
use Rattle.std.proofs.Common.{◌≡◌, ◌≢◌, ℕ, ◌+◌, ◌<◌, ◌≤◌, ◌↔◌, IsTrue, IfSome, Bool, true, false, List, [], ◌∷◌, length, Option, Some, None, Ok, Err, get_or, set}
use Rattle.std.specs.Prelude.{Result, IsErrAnd, MatchResult}
use Rattle.std.proofs.Common.{replicate, refl, sym, ap, ◌∙◌, subst, arith, get_or-set_same, get_or-set_other, length-set}
use Rattle.std.specs.List.{All}
use Rattle.std.proofs.lemmas.List.{length-replicate, get_or-replicate}
use Rattle.sts_code.specs.Program.{Program, routine, instr_at}
use Rattle.sts_code.specs.declared.instr.Instr.{Instr}
use Rattle.sts_code.specs.declared.instr.Instr.TheVariants.{Ret}
use Rattle.sts_rules.specs.declared.typing.Cause.{Cause}
use Rattle.sts_rules.specs.declared.typing.Cause.TheVariants.{StatesDiffer, DeadCode}
use Rattle.sts_rules.specs.TypeState.{TypeState, entry}
use Rattle.sts_rules.specs.Causes.{least_cause}
use Rattle.sts_rules.specs.Edges.{edges, follows, back_of, typing}
use Rattle.sts_rules.specs.Flow.{IsAlone, TurnKeeps, IsAccepted, IsRefusal}
use Rattle.sts_rules.specs.Refusal.{size}
use Rattle.sts_types.specs.declared.arrival.Arrival.{Arrival}
use Rattle.sts_types.specs.declared.arrival.Arrival.TheVariants.{Nothing, One, Several}
use Rattle.sts_types.specs.Arrivals.{Arrive, at_height, filled, none}
use Rattle.sts_types.specs.Room.{HasRoom}
use Rattle.sts_types.specs.Simple.{IsShort}
use Rattle.sts_types.proofs.Arriving.{all_places}
use Rattle.sts_types.proofs.EdgeLemmas.{instr_there, refused_there, edges_there}
use Rattle.sts_types.proofs.Fitting.{fits}
use Rattle.sts_types.proofs.Laws.{laws, back_down}
use Rattle.sts_types.specs.Passing.{Passed}
use Rattle.sts_types.specs.Tables.{AreTablesOf}
use Rattle.sts_types.specs.declared.pass.TypeError.{TypeError}
use Rattle.sts_types.specs.declared.pass.TypeError.TheVariants.{Memory, Refused}
use Rattle.sts_types.specs.Typing.{Typing, IsTypingTo, TellsTo}
use Rattle.sts_types.proofs.Passing.{all_alone, begin, is_dead, has_two, has_edge_cause, has_turn_cause, turn_differs, turn_same, no_turn, goes_on}
use Rattle.sts_types.proofs.RoomLemmas.{has_room}
use Rattle.sts_types.proofs.SimpleLemmas.{short_arrives, short_back, short_place}
use Rattle.sts_rules.proofs.VerdictLemmas.{clear_excludes}

-- the state of a place in a table that didn't change
pub loaded_is : {X : Type 0} (table new : List (Arrival TypeState)) (k : ℕ) (s : TypeState) (r a : Arrival X) → new ≡ table → get_or table k Nothing ≡ filled s r → r ≡ a → get_or new k Nothing ≡ filled s a
loaded_is table new k s r a e l is = ap (λ t. get_or t k Nothing) e ∙ l ∙ ap (filled s) is

pub least_is : (p : Program) (f k : ℕ) (i : Instr) (s s' : TypeState) (r o : Option Cause) → s' ≡ s → r ≡ least_cause p f k i s' → r ≡ o → least_cause p f k i s ≡ o
least_is p f k i s s' r o e m is = ap (λ x. least_cause p f k i x) (sym e) ∙ sym m ∙ is

pub back_is : (i : Instr) (s s' : TypeState) (r o : Option ℕ) → s' ≡ s → r ≡ back_of i s' → r ≡ o → back_of i s ≡ o
back_is i s s' r o e m is = ap (λ x. back_of i x) (sym e) ∙ sym m ∙ is

-- what is said of the place where a turn began
pub turn_of : (i : Instr) (s s' : TypeState) (r : Option ℕ) (q : ℕ) (P : ℕ → Type 0) → s' ≡ s → r ≡ back_of i s' → r ≡ Some q → IfSome (back_of i s) P → P q
turn_of i s s' r q P same e is h = subst (λ o. IfSome o P) (back_is i s s' r (Some q) same e is) h

pub turn_fits : (i : Instr) (s s' : TypeState) (n : ℕ) → s' ≡ s → IfSome (back_of i s) (λ q. (q < 4294967296) × (q < n)) → IfSome (back_of i s') (λ q. q < 4294967296)
turn_fits i s s' n same h = subst (λ x. IfSome (back_of i x) (λ q. q < 4294967296)) (sym same) (by (back_of i s) h)
  where
    by : (o : Option ℕ) → IfSome o (λ q. (q < 4294967296) × (q < n)) → IfSome o (λ q. q < 4294967296)
    by None h = tt
    by (Some q) h = h.0

begins : (p : Program) (f : ℕ) (code : List Instr) (table : List (Arrival TypeState)) (s : TypeState) → code ≡ (routine p f).code → 0 < length code → table ≡ replicate (length code) Nothing → s ≡ entry p f → Passed (typing p f) (size p f) (set table 0 (One s)) 0
begins p f code table s is some empty first =
    let long : length table ≡ length code = ap length empty ∙ length-replicate (length code) Nothing in
    let inside : 0 < length table = omega arith in
    let size_is : length code ≡ size p f = ap length is in
    let positive : 0 < size p f = omega arith in
    begin (typing p f) (size p f) (laws p f) (set table 0 (One s)) positive (length-set table 0 (One s) ∙ long ∙ size_is) (get_or-set_same table 0 (One s) Nothing inside ∙ ap One first)
    (λ pc pos within. (let ne : pc ≢ 0 = omega arith in let short : pc < length code = omega arith in get_or-set_other table 0 pc (One s) Nothing ne ∙ ap (λ ys. get_or ys pc Nothing) empty ∙ get_or-replicate (length code) pc Nothing Nothing short))

-- the table at the start
pub starts : (p : Program) (f : ℕ) (code : List Instr) (table : List (Arrival TypeState)) (s : TypeState) → code ≡ (routine p f).code → 0 < length code → table ≡ set (replicate (length code) Nothing) 0 (One s) → s ≡ entry p f → Passed (typing p f) (size p f) table 0
starts p f code table s is some begun first = subst (λ t. Passed (typing p f) (size p f) t 0) (sym begun) (begins p f code (replicate (length code) Nothing) s is some refl first)

-- if no place has a cause, none is refused
pub never_refused : (p : Program) (f k : ℕ) (e : TypeError) (pc : ℕ) (c : Cause) → TellsTo p f k e → e ≡ Refused pc c → IsAccepted (typing p f) k → ⊥
never_refused p f k e pc c tells is clear =
    let refusal : IsRefusal (typing p f) k pc c = subst (TellsTo p f k) is tells in
    clear_excludes (typing p f) pc c (clear pc refusal.0) refusal.1

-- the first place with a cause is the same among more places
pub tells_more : {A : Type 0} (p : Program) (f k n : ℕ) (e : TypeError) (r : Result A TypeError) (P : A → Type 0) → k ≤ n → TellsTo p f k e → IsErrAnd r (λ x. x ≡ e) → MatchResult r P (TellsTo p f n)
tells_more p f k n e (Ok x) P le tells is = absurd is
tells_more p f k n e (Err x) P le tells is = subst (TellsTo p f n) (sym is) (more e tells)
  where
    more : (y : TypeError) → TellsTo p f k y → TellsTo p f n y
    more Memory t = tt
    more (Refused pc c) t = (omega (arith, t.0), t.1, t.2)

-- the typestates of a pass over the first places are their typing
pub is_typing : (p : Program) (f k : ℕ) (code : List Instr) (table : List (Arrival TypeState)) (t : Typing) → code ≡ (routine p f).code → k ≤ size p f → Passed (typing p f) (size p f) table k → length t.states ≡ length table → ((pc : ℕ) (s : TypeState) → get_or table pc Nothing ≡ One s → get_or t.states pc none ≡ s) → AreTablesOf code t.loops → IsTypingTo p f k t
is_typing p f k code table t is le passed long each loops = record {
  clear = passed.clear;
  long = long ∙ passed.holds.0;
  alone = λ pc lt. (let a = all_alone (typing p f) (size p f) (laws p f) table k le passed pc lt in subst (IsAlone (typing p f) pc) (sym (each pc a.0 a.1.0)) a.1.1);
  loops = subst (λ xs. AreTablesOf xs t.loops) is loops;
}

module _ (p : Program) (f : ℕ) (code : List Instr) (is : code ≡ (routine p f).code) (table : List (Arrival TypeState)) (k : ℕ) (within : k < length code) (at : Passed (typing p f) (size p f) table k) where
  inside : k < size p f
  inside = omega (arith, ap length is)

  pub dead_here : get_or table k Nothing ≡ Nothing → IsRefusal (typing p f) (k + 1) k DeadCode
  dead_here e = (omega arith, is_dead (typing p f) (size p f) (laws p f) table k inside at e, at.clear)

  pub several_here : get_or table k Nothing ≡ Several → IsRefusal (typing p f) (k + 1) k StatesDiffer
  several_here e = (omega arith, has_two (typing p f) (size p f) (laws p f) table k inside at e, at.clear)

-- the pass has come to the place k, where s is the only typestate that has arrived and i the instruction
pub record IsHere (p : Program) (f : ℕ) (code : List Instr) (table : List (Arrival TypeState)) (k : ℕ) (s : TypeState) (i : Instr) : Type 0 where
  pub is : code ≡ (routine p f).code
  pub within : k < length code
  pub at : Passed (typing p f) (size p f) table k
  pub one : get_or table k Nothing ≡ One s
  pub instr : i ≡ get_or code k Ret

module _ {p : Program} {f : ℕ} {code : List Instr} {table : List (Arrival TypeState)} {k : ℕ} {s : TypeState} {i : Instr} (h : IsHere p f code table k s i) where
  here : k < size p f
  here = omega (arith, h.within, ap length h.is)

  pub cause_here : (c : Cause) → least_cause p f k i s ≡ Some c → IsRefusal (typing p f) (k + 1) k c
  cause_here c e =
      let refuses = refused_there p f code h.is k h.within s i Ret h.instr c e in
      (omega arith, has_edge_cause (typing p f) (size p f) (laws p f) table k here h.at s h.one c refuses, h.at.clear)

  module _ (none : least_cause p f k i s ≡ None) where
    fine : edges p f k s ≡ Ok (follows p (routine p f).code k i s)
    fine = edges_there p f code h.is k h.within s i Ret h.instr none

    pub room : HasRoom p i s
    room = has_room p f k i s (fits p f k i s none)

    pub places : (loops : List Instr) (n : ℕ) → loops ≡ code → n ≡ length table → All (λ e. e.0 < n) (follows p loops k i s)
    places loops n same count =
        let all = all_places (follows p (routine p f).code k i s) (size p f) (λ to x l. ((laws p f).up k s _ to x fine l).1) in
        subst (λ m. All (λ e. e.0 < m) (follows p loops k i s)) (sym h.at.holds.0 ∙ sym count) (subst (λ c. All (λ e. e.0 < size p f) (follows p c k i s)) (sym h.is ∙ sym same) all)

    back_here : (q : ℕ) → back_of i s ≡ Some q → q ≤ k
    back_here q b = back_down p f k i s q (fits p f k i s none) b

    pub back_fits : k < 4096 → IfSome (back_of i s) (λ q. (q < 4294967296) × (q < length table))
    back_fits small = by (back_of i s) refl
      where
        long : k < length table
        long = omega (arith, here, h.at.holds.0)

        by : (o : Option ℕ) → back_of i s ≡ o → IfSome o (λ q. (q < 4294967296) × (q < length table))
        by None e = tt
        by (Some q) e = let le = back_here q e in (omega arith, omega (arith, long))

    back_there : (o : Option ℕ) → back_of i s ≡ o → back_of (instr_at (routine p f).code k) s ≡ o
    back_there o b = ap (λ j. back_of j s) (sym (instr_there p f code h.is k h.within s i Ret h.instr)) ∙ b

    pub no_turn_here : back_of i s ≡ None → TurnKeeps (typing p f) k s
    no_turn_here e = no_turn (typing p f) (size p f) (laws p f) table k here h.at s h.one (back_there None e)

    module _ (b : Bool) (tests : IsTrue b ↔ IfSome (back_of i s) (λ q. get_or table q Nothing ≡ One s)) where
      pub turn_here : b ≡ false → IsRefusal (typing p f) (k + 1) k StatesDiffer
      turn_here differs = by (back_of i s) refl tests
        where
          by : (o : Option ℕ) → back_of i s ≡ o → (IsTrue b ↔ IfSome o (λ q. get_or table q Nothing ≡ One s)) → IsRefusal (typing p f) (k + 1) k StatesDiffer
          by None e t = let u = t.1 tt in cc
          by (Some q) e t =
              let other : get_or table q Nothing ≢ One s = λ same. (let yes : b ≡ true = t.1 same in cc) in
              let d' = turn_differs (typing p f) (size p f) (laws p f) table k here h.at s h.one _ q fine (back_there (Some q) e) other in
              (omega arith, has_turn_cause (typing p f) (size p f) (laws p f) table k here h.at s h.one _ fine d', h.at.clear)

      pub keeps_here : b ≡ true → TurnKeeps (typing p f) k s
      keeps_here kept = by (back_of i s) refl tests
        where
          by : (o : Option ℕ) → back_of i s ≡ o → (IsTrue b ↔ IfSome o (λ q. get_or table q Nothing ≡ One s)) → TurnKeeps (typing p f) k s
          by None e t = no_turn_here e
          by (Some q) e t = turn_same (typing p f) (size p f) (laws p f) table k here h.at s h.one _ q fine (back_there (Some q) e) (t.0 kept)

    pub goes_on_here : (loops : List Instr) (after : List (Arrival TypeState)) → loops ≡ code → TurnKeeps (typing p f) k s → Arrive table (follows p loops k i s) after → Passed (typing p f) (size p f) after (k + 1)
    goes_on_here loops after same keeps arrives = goes_on (typing p f) (size p f) (laws p f) table k here h.at s h.one _ after fine keeps (subst (λ c. Arrive table (follows p c k i s) after) (same ∙ h.is) arrives)

  module _ {n : ℕ} (short : IsShort p f k i s n) where
    -- the short way leads to a place of the table, and goes on there
    pub short_leads : (loops : List Instr) → loops ≡ code → k + 1 < length table
    short_leads loops same = short_place p f loops k i s n (length table) short (places short.none loops (length table) same refl)

    pub goes_on_short : (loops : List Instr) (after : List (Arrival TypeState)) → loops ≡ code → Arrive table ((k + 1, at_height n s) ∷ []) after → Passed (typing p f) (size p f) after (k + 1)
    goes_on_short loops after same arrives = goes_on_here short.none loops after same (no_turn_here short.none (short_back p f k i s n short)) (short_arrives p f loops k i s n table after short arrives)
