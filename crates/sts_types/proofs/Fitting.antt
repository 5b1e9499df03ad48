-- No cause is found: each test of a cause says no.
use Rattle.std.proofs.Common.{◌≡◌, ℕ, Bool, true, false, Option, Some, None, cond, refl, ap, ◌∙◌, is_some, List}
use Rattle.sts_code.specs.Program.{Program, routine}
use Rattle.sts_code.specs.declared.instr.Instr.{Instr}
use Rattle.sts_rules.specs.declared.typing.Cause.{Cause}
use Rattle.sts_rules.specs.declared.typing.Cause.TheVariants.{StackUnder, StackOver, FallsOff, BackJump, LoopMismatch, LoopDepth, SlotKind, SlotBusy}
use Rattle.sts_rules.specs.declared.typing.Cause.TheVariants.{WrongThread, IllegalState, Structure, Nesting, Unbound, JoinEdges}
use Rattle.sts_rules.specs.TypeState.{TypeState}
use Rattle.sts_rules.specs.Causes.{causes, holds, least_cause}
use Rattle.sts_rules.specs.Causes as test
use Rattle.sts_rules.specs.Fits.{Fits}
use Rattle.sts_types.proofs.CauseLemmas.{none_found}

pub fits : (p : Program) (f pc : ℕ) (i : Instr) (s : TypeState) → least_cause p f pc i s ≡ None → Fits p f pc i s
fits p f pc i s e =
    let no = none_found (holds p f pc i s) causes e in
    record {
      operands = no 0;
      room = no 1;
      inside = no 2;
      forward = no 3;
      loops = no 4;
      depth = no 5;
      slots = no 6;
      free = no 7;
      own = no 8;
      legal = no 9;
      structure = no 10;
      nesting = no 11;
      bound = no 12;
      joins = no 13;
    }

-- ---- the lowest-numbered cause, found in parts

-- the first of three that holds
abbrev pub one_of : (x y z : Bool) (a b c : Cause) → Option Cause → Option Cause
one_of x y z a b c rest = cond x (Some a) (cond y (Some b) (cond z (Some c) rest))

-- it is the answer if it is found
pub found : (x y z : Bool) (a b c : Cause) (o rest : Option Cause) → o ≡ one_of x y z a b c None → is_some o ≡ true → o ≡ one_of x y z a b c rest
found true y z a b c o rest e t = e
found false true z a b c o rest e t = e
found false false true a b c o rest e t = e
found false false false a b c o rest e t = let no : is_some o ≡ false = ap is_some e in cc

-- and else the rest is
pub missed : (x y z : Bool) (a b c : Cause) (o rest : Option Cause) → o ≡ one_of x y z a b c None → is_some o ≡ false → rest ≡ one_of x y z a b c rest
missed true y z a b c o rest e f = let yes : is_some o ≡ true = ap is_some e in cc
missed false true z a b c o rest e f = let yes : is_some o ≡ true = ap is_some e in cc
missed false false true a b c o rest e f = let yes : is_some o ≡ true = ap is_some e in cc
missed false false false a b c o rest e f = refl

pub past : (b : Bool) (c : Cause) (rest : Option Cause) → b ≡ false → rest ≡ cond b (Some c) rest
past true c rest e = cc
past false c rest e = refl

here : (b : Bool) (c : Cause) (rest : Option Cause) → b ≡ true → Some c ≡ cond b (Some c) rest
here true c rest e = refl
here false c rest e = cc

module _ (p : Program) (f pc : ℕ) (i : Instr) (s : TypeState) where
  -- the lowest-numbered cause from V3 to V5, if one holds there
  abbrev pub lead : List Instr → Option Cause → Option Cause
  lead code rest = one_of (test.falls_off code pc i) (test.jumps_back pc i) (test.mismatches code pc i s) FallsOff BackJump LoopMismatch rest

  -- the same from V9 to V11
  abbrev pub slot : Option Cause → Option Cause
  slot rest = one_of (test.has_wrong_slot i s) (test.has_busy_slot i s) (test.is_strangers i s) SlotKind SlotBusy WrongThread rest

  abbrev pub late : Option Cause
  late = one_of (test.is_nested i s) (test.is_unbound p f i s) (test.misjoins i s) Nesting Unbound JoinEdges None

  abbrev pub after_slots : Option Cause
  after_slots = cond (test.is_illegal p.profile i s) (Some IllegalState) (cond (test.breaks_structure i s) (Some Structure) late)

  abbrev pub after_leads : Option Cause
  after_leads = cond (test.is_too_deep i s) (Some LoopDepth) (slot after_slots)

  pub under_found : test.lacks_operands p i s ≡ true → Some StackUnder ≡ least_cause p f pc i s
  under_found e = here _ StackUnder _ e

  pub over_found : test.lacks_operands p i s ≡ false → test.overflows p i s ≡ true → Some StackOver ≡ least_cause p f pc i s
  over_found some_operands e = here _ StackOver _ e ∙ past _ StackUnder _ some_operands

  -- the first two causes don't hold, and o is what is found of the next three
  pub record IsLed (code : List Instr) (o : Option Cause) : Type 0 where
    pub same : code ≡ (routine p f).code
    pub some_operands : test.lacks_operands p i s ≡ false
    pub room : test.overflows p i s ≡ false
    pub is : o ≡ lead code None

  -- nor do these and V6, and o' is what is found of the three after it
  pub record IsSlotted (code : List Instr) (o o' : Option Cause) : Type 0 where
    pub led : IsLed code o
    pub none : is_some o ≡ false
    pub flat : test.is_too_deep i s ≡ false
    pub is : o' ≡ slot None

  module _ {code : List Instr} {o : Option Cause} (h : IsLed code o) where
    lead_is : o ≡ lead (routine p f).code None
    lead_is = h.is ∙ ap (λ c. lead c None) h.same

    first_two : (rest : Option Cause) → rest ≡ cond (test.lacks_operands p i s) (Some StackUnder) (cond (test.overflows p i s) (Some StackOver) rest)
    first_two rest = past _ StackOver rest h.room ∙ past _ StackUnder _ h.some_operands

    pub lead_found : is_some o ≡ true → o ≡ least_cause p f pc i s
    lead_found t = found _ _ _ FallsOff BackJump LoopMismatch o after_leads lead_is t ∙ first_two (lead (routine p f).code after_leads)

    pub lead_missed : is_some o ≡ false → after_leads ≡ least_cause p f pc i s
    lead_missed t = missed _ _ _ FallsOff BackJump LoopMismatch o after_leads lead_is t ∙ first_two (lead (routine p f).code after_leads)

    pub depth_found : is_some o ≡ false → test.is_too_deep i s ≡ true → Some LoopDepth ≡ least_cause p f pc i s
    depth_found none deep = here _ LoopDepth (slot after_slots) deep ∙ lead_missed none

  module _ {code : List Instr} {o o' : Option Cause} (h : IsSlotted code o o') where
    after_depth : slot after_slots ≡ least_cause p f pc i s
    after_depth = past _ LoopDepth (slot after_slots) h.flat ∙ lead_missed h.led h.none

    pub slot_found : is_some o' ≡ true → o' ≡ least_cause p f pc i s
    slot_found t = found _ _ _ SlotKind SlotBusy WrongThread o' after_slots h.is t ∙ after_depth

    slot_passed : is_some o' ≡ false → after_slots ≡ least_cause p f pc i s
    slot_passed t = missed _ _ _ SlotKind SlotBusy WrongThread o' after_slots h.is t ∙ after_depth

    pub illegal_found : is_some o' ≡ false → test.is_illegal p.profile i s ≡ true → Some IllegalState ≡ least_cause p f pc i s
    illegal_found t illegal = here _ IllegalState (cond (test.breaks_structure i s) (Some Structure) late) illegal ∙ slot_passed t

    pub structure_found : is_some o' ≡ false → test.is_illegal p.profile i s ≡ false → test.breaks_structure i s ≡ true → Some Structure ≡ least_cause p f pc i s
    structure_found t legal broken = here _ Structure late broken ∙ past _ IllegalState _ legal ∙ slot_passed t

    pub slot_missed : is_some o' ≡ false → test.is_illegal p.profile i s ≡ false → test.breaks_structure i s ≡ false → late ≡ least_cause p f pc i s
    slot_missed t legal ordered = past _ Structure late ordered ∙ past _ IllegalState _ legal ∙ slot_passed t
