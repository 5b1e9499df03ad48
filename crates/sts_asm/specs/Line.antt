-- The instructions by their words: the instruction table as it is read (this project's own).
use Rattle.std.specs.Prelude.{ℕ, ◌^◌, ◌-◌, Bool, true, false, List, [], ◌∷◌, Option, Some, None}
use Rattle.std.specs.Prelude.{Result, Err, pos, map}
use Rattle.std.specs.List.{list_any}
use Rattle.std.specs.Option.{option_or}
use Rattle.sts_code.specs.declared.instr.Instr.{Instr}
use Rattle.sts_code.specs.declared.instr.Instr.TheVariants as i
use Rattle.sts_code.specs.declared.instr.Joiner.TheVariants.{AwaitAll}
use Rattle.sts_code.specs.declared.instr.Kind.TheVariants.{S}
use Rattle.sts_code.specs.Shape.{Operand, Label, MaybeLabel, Function, shape}
use Rattle.sts_asm.specs.declared.fault.AsmKind.{AsmKind}
use Rattle.sts_asm.specs.declared.fault.AsmKind.TheVariants.{UnknownWord}
use Rattle.sts_asm.specs.declared.mnemonic.Operandless.{Operandless}
use Rattle.sts_asm.specs.declared.mnemonic.Operandless.TheVariants as operandless
use Rattle.sts_asm.specs.declared.mnemonic.Numbered.{Numbered}
use Rattle.sts_asm.specs.declared.mnemonic.Numbered.TheVariants as numbered
use Rattle.sts_asm.specs.declared.mnemonic.Slotted.{Slotted}
use Rattle.sts_asm.specs.declared.mnemonic.Slotted.TheVariants as slotted
use Rattle.sts_asm.specs.declared.mnemonic.Targeted.{Targeted}
use Rattle.sts_asm.specs.declared.mnemonic.Targeted.TheVariants as targeted
use Rattle.sts_asm.specs.declared.mnemonic.Mnemonic.{Mnemonic}
use Rattle.sts_asm.specs.declared.mnemonic.Mnemonic.TheVariants.{Plain, WithNumber, WithSlot}
use Rattle.sts_asm.specs.declared.mnemonic.Mnemonic.TheVariants.{WithTarget, Push, Times, Open}
use Rattle.sts_asm.specs.declared.mnemonic.Mnemonic.TheVariants.{Fork, Join, Case, Tally}
use Rattle.sts_asm.specs.Fault.{◌>>=◌}
use Rattle.sts_asm.specs.Marks.{Names}
use Rattle.sts_asm.specs.Operand.{looked_up, number_at, value_at, slot_at, handle_at, target_at}
use Rattle.sts_asm.specs.Operand.{function_at, maybe_target_at, joiner_at, timed_at, kind_at}
use Rattle.sts_asm.specs.Operand.{finished}

-- ---- forms

-- the instruction without operands
abbrev pub without_operands : Operandless → Instr
without_operands operandless.Pop = i.Pop
without_operands operandless.Dup = i.Dup
without_operands operandless.Swap = i.Swap
without_operands operandless.Add = i.Add
without_operands operandless.Sub = i.Sub
without_operands operandless.Mul = i.Mul
without_operands operandless.Lt = i.Lt
without_operands operandless.Eq = i.Eq
without_operands operandless.Next = i.Next
without_operands operandless.Unbind = i.Unbind
without_operands operandless.Interrupted = i.Interrupted
without_operands operandless.Ret = i.Ret
without_operands operandless.Fail = i.Fail

-- the instruction with this local or key
abbrev pub with_number : Numbered → ℕ → Instr
with_number numbered.Load x = i.Load x
with_number numbered.Store x = i.Store x
with_number numbered.Bind k = i.Bind k
with_number numbered.Read k = i.Read k
with_number numbered.Bound k = i.Bound k
with_number numbered.OrElse k = i.OrElse k

-- the instruction with this slot
abbrev pub with_slot : Slotted → ℕ → Instr
with_slot slotted.Close s = i.Close s
with_slot slotted.Cancelled s = i.Cancelled s
with_slot slotted.Get h = i.Get h
with_slot slotted.Except h = i.Except h
with_slot slotted.Total s = i.Total s
with_slot slotted.Forget h = i.Forget h

-- the instruction with this target
abbrev pub with_target : Targeted → ℕ → Instr
with_target targeted.Div to = i.Div to
with_target targeted.Jmp to = i.Jmp to
with_target targeted.Jz to = i.Jz to

-- ---- first words

-- an instruction with this mnemonic; its operands don't matter
abbrev pub sample : Mnemonic → Instr
sample (Plain instr) = instr
sample (WithNumber m) = with_number m 0
sample (WithSlot m) = with_slot m 0
sample (WithTarget m) = with_target m 0
sample Push = i.Push (pos 0)
sample Times = i.Times 0
sample Open = i.Open 0 false AwaitAll
sample Fork = i.Fork 0 0 None
sample Join = i.Join 0 None None 0
sample Case = i.Case 0 0 0
sample Tally = i.Tally 0 S

-- the first word and its mnemonic
abbrev pub by_word : Mnemonic → List ℕ × Mnemonic
by_word m = ((shape (sample m)).word, m)

-- instructions without operands
abbrev pub plain_words : List (List ℕ × Mnemonic)
plain_words =
    map (λ instr. by_word (Plain instr))
    (i.Pop ∷ i.Dup ∷ i.Swap ∷ i.Add ∷ i.Sub ∷ i.Mul ∷ i.Lt ∷ i.Eq ∷ i.Next ∷ i.Unbind
    ∷ i.Interrupted ∷ i.Ret ∷ i.Fail ∷ [])

-- instructions of one local or key
abbrev pub numbered_words : List (List ℕ × Mnemonic)
numbered_words =
    map (λ m. by_word (WithNumber m))
    (numbered.Load ∷ numbered.Store ∷ numbered.Bind ∷ numbered.Read ∷ numbered.Bound
    ∷ numbered.OrElse ∷ [])

-- instructions of one slot
abbrev pub slotted_words : List (List ℕ × Mnemonic)
slotted_words =
    map (λ m. by_word (WithSlot m))
    (slotted.Close ∷ slotted.Cancelled ∷ slotted.Get ∷ slotted.Except ∷ slotted.Total
    ∷ slotted.Forget ∷ [])

-- instructions of one label, and all others
abbrev pub other_words : List (List ℕ × Mnemonic)
other_words =
    map by_word
    (Push ∷ WithTarget targeted.Jz ∷ WithTarget targeted.Jmp ∷ WithTarget targeted.Div ∷ Times
    ∷ Open ∷ Fork ∷ Join ∷ Case ∷ Tally ∷ [])

-- what the first word of an instruction says
abbrev pub mnemonic_of : List ℕ → Option Mnemonic
mnemonic_of word =
    option_or (looked_up other_words word)
    (option_or (looked_up plain_words word)
    (option_or (looked_up numbered_words word) (looked_up slotted_words word)))

-- ---- with their operands

-- a slot, a joiner, and `timed` or nothing
abbrev pub open_at : List (List ℕ) → Result Instr AsmKind
open_at words =
    slot_at words >>= λ s. joiner_at s.1 >>= λ j. timed_at j.1
    >>= λ t. finished (i.Open s.0 t.0 j.0) t.1

-- a slot, a function, and a slot or `_`
abbrev pub fork_at : Option Names → List (List ℕ) → Result Instr AsmKind
fork_at names words =
    slot_at words >>= λ s. function_at names s.1 >>= λ f. handle_at f.1
    >>= λ h. finished (i.Fork s.0 f.0 h.0) h.1

-- a slot, two labels that may be left out by `-`, and a label
abbrev pub join_at : Option Names → List (List ℕ) → Result Instr AsmKind
join_at names words =
    slot_at words >>= λ s. maybe_target_at names s.1 >>= λ f. maybe_target_at names f.1
    >>= λ t. target_at names t.1 >>= λ r. finished (i.Join s.0 f.0 t.0 r.0) r.1

-- a slot and two labels
abbrev pub case_at : Option Names → List (List ℕ) → Result Instr AsmKind
case_at names words =
    slot_at words >>= λ h. target_at names h.1 >>= λ s. target_at names s.1
    >>= λ f. finished (i.Case h.0 s.0 f.0) f.1

-- a slot and a state
abbrev pub tally_at : List (List ℕ) → Result Instr AsmKind
tally_at words = slot_at words >>= λ s. kind_at s.1 >>= λ k. finished (i.Tally s.0 k.0) k.1

-- the instruction of a mnemonic and its operands
abbrev pub operated : Option Names → Mnemonic → List (List ℕ) → Result Instr AsmKind
operated names (Plain instr) words = finished instr words
operated names (WithNumber m) words = number_at 255 words >>= λ x. finished (with_number m x.0) x.1
operated names (WithSlot m) words = slot_at words >>= λ s. finished (with_slot m s.0) s.1
operated names (WithTarget m) words =
    target_at names words >>= λ to. finished (with_target m to.0) to.1
operated names Push words = value_at words >>= λ k. finished (i.Push k.0) k.1
operated names Times words = number_at (2 ^ 16 - 1) words >>= λ n. finished (i.Times n.0) n.1
operated names Open words = open_at words
operated names Fork words = fork_at names words
operated names Join words = join_at names words
operated names Case words = case_at names words
operated names Tally words = tally_at words

-- a first word that is no instruction's is the first fault
abbrev pub known : Option Names → Option Mnemonic → List (List ℕ) → Result Instr AsmKind
known names None words = Err UnknownWord
known names (Some m) words = operated names m words

-- the instruction that words spell, or the first place that is wrong
abbrev pub instr_of : Option Names → List (List ℕ) → Result Instr AsmKind
instr_of names [] = Err UnknownWord
instr_of names (word ∷ rest) = known names (mnemonic_of word) rest

-- does an operand name a label or a function?
abbrev pub is_reference : Operand → Bool
is_reference (Label to) = true
is_reference (MaybeLabel to) = true
is_reference (Function f) = true
is_reference _ = false

-- does an instruction name a label or a function?
abbrev pub has_names : Instr → Bool
has_names instr = list_any is_reference (shape instr).operands
