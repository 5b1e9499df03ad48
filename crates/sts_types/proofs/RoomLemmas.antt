-- If no cause holds, there is room for what the instruction adds.
use Rattle.std.proofs.Common.{◌≡◌, ℕ, ◌+◌, ◌-◌, ◌<◌, ◌≤◌, Bool, true, false, ◌&&◌, ◌||◌, not, Option, Some, None, IfSome, is_some, leb, ltb, refl, arith}
use Rattle.std.proofs.Common.{leb-false, ltb-false}
use Rattle.std.proofs.lemmas.Bool.{not-false, or_parts}
use Rattle.laws_words.proofs.BoolLemmas.{other_true, other_false}
use Rattle.sts_code.specs.Program.{Program}
use Rattle.sts_code.specs.declared.instr.Instr.{Instr}
use Rattle.sts_code.specs.declared.instr.Instr.TheVariants.{Join}
use Rattle.sts_code.specs.declared.instr.Joiner.{Joiner}
use Rattle.sts_code.specs.declared.instr.Joiner.TheVariants.{AllSucceed, AnySucceeds, AwaitOk, AwaitAll, Until}
use Rattle.sts_rules.specs.declared.typing.SlotKind.{SlotKind}
use Rattle.sts_rules.specs.declared.typing.SlotKind.TheVariants.{Empty, Own, Lent, Sub}
use Rattle.sts_rules.specs.declared.typing.TypedScope.{TypedScope}
use Rattle.sts_code.specs.Facts.{pops, pushes, can_fail, is_await_all, same}
use Rattle.sts_rules.specs.TypeState.{TypeState, kind, scope_in}
use Rattle.sts_rules.specs.Causes.{is_own, is_lent, passes, can_join, join_overflows}
use Rattle.sts_rules.specs.Edges.{joiner_of, ok_pushes}
use Rattle.sts_rules.specs.Fits.{Fits}
use Rattle.sts_types.specs.Room.{HasRoom, JoinHasRoom}

-- a slot that is or_parts of the others is the task's own
pub is_owned : (k : SlotKind) → not (is_own k || is_lent k) ≡ false → is_lent k ≡ false → is_own k ≡ true
is_owned Empty a b = cc
is_owned Own a b = refl
is_owned Lent a b = cc
is_owned (Sub x state) a b = cc

less : (h : ℕ) (b : Bool) → leb 32 h ≡ b → b && true ≡ false → h < 32
less h true is f = cc
less h false is f = leb-false 32 h is

-- the ok outcome finds room under each joiner
room_for : (h : ℕ) (j : Joiner) → h ≤ 32 → leb 32 h && not (is_await_all j) ≡ false → h + ok_pushes j ≤ 32
room_for h AwaitAll le e = omega arith
room_for h AwaitOk le e = omega arith
room_for h AllSucceed le e = let lt = less h (leb 32 h) refl e in omega arith
room_for h AnySucceeds le e = let lt = less h (leb 32 h) refl e in omega arith
room_for h (Until p) le e = let lt = less h (leb 32 h) refl e in omega arith

-- the failed outcome has room, if there is one
room_failed : (h : ℕ) (failed : Option ℕ) (j : Joiner) → leb 32 h && not (is_await_all j) ≡ false → same (is_some failed) (can_fail j) ≡ true → IfSome failed (λ _. h < 32)
room_failed h None j e f = tt
room_failed h (Some to) AllSucceed e f = less h (leb 32 h) refl e
room_failed h (Some to) AnySucceeds e f = less h (leb 32 h) refl e
room_failed h (Some to) AwaitOk e f = less h (leb 32 h) refl e
room_failed h (Some to) AwaitAll e f = cc
room_failed h (Some to) (Until p) e f = cc

joins : (h : ℕ) (failed timeout : Option ℕ) (o : Option TypedScope) → h ≤ 32 → leb 32 h && passes (λ scope. not (is_await_all scope.joiner)) o ≡ false → passes can_join o ≡ true
    → passes (λ scope. not (same (is_some failed) (can_fail scope.joiner)) || not (same (is_some timeout) scope.timed)) o ≡ false
    → (h + ok_pushes (joiner_of o) ≤ 32) × IfSome failed (λ _. h < 32)
joins h failed timeout None le room legal fit = cc
joins h failed timeout (Some r) le room legal fit =
    (room_for h r.joiner le room, room_failed h failed r.joiner room (not-false _ (or_parts (not (same (is_some failed) (can_fail r.joiner))) _ fit).0))

swapped : (a b c : Bool) → b ≡ true → a && (b && c) ≡ false → a && c ≡ false
swapped a true c e f = f
swapped a false c e f = cc

outcomes : (p : Program) (f pc : ℕ) (i : Instr) (s : TypeState) → Fits p f pc i s → JoinHasRoom i s
outcomes p f pc (Join x failed timeout interrupted) s fit =
    let few : s.height ≤ 32 = omega (arith, ltb-false 32 (s.height - 0 + 0) (or_parts (ltb 32 (s.height - 0 + 0)) _ fit.room).0) in
    let own : is_own (kind s x) ≡ true = is_owned (kind s x) (or_parts _ false fit.slots).0 fit.own in
    let legal : passes can_join (scope_in s.entries x) ≡ true = other_true (is_own (kind s x)) _ fit.legal own in
    let room : leb 32 s.height && passes (λ scope. not (is_await_all scope.joiner)) (scope_in s.entries x) ≡ false = swapped (leb 32 s.height) (is_own (kind s x)) _ own (or_parts (ltb 32 (s.height - 0 + 0)) _ fit.room).1 in
    joins s.height failed timeout (scope_in s.entries x) few room legal (other_false (is_own (kind s x)) _ fit.joins own)
outcomes p f pc _ s fit = tt

pub has_room : (p : Program) (f pc : ℕ) (i : Instr) (s : TypeState) → Fits p f pc i s → HasRoom p i s
has_room p f pc i s fit =
    record {
      operands = ltb-false 32 (s.height - pops p i + pushes i) (or_parts (ltb 32 (s.height - pops p i + pushes i)) (join_overflows s i) fit.room).0;
      outcomes = outcomes p f pc i s fit;
      loops = fit.depth;
      entries = fit.nesting;
    }
