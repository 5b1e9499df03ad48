-- What is expected at each place of a line, and where a line stops being as expected (this
-- project's own).
use Rattle.std.specs.Prelude.{ℕ, ◌^◌, ◌-◌, ◌==◌, Bool, false, ◌||◌, List, [], ◌∷◌, codes}
use Rattle.std.specs.Prelude.{Option, Some, None, is_some, if◌then◌else◌}
use Rattle.std.specs.Str.{bytes_eq}
use Rattle.sts_code.specs.Name.{is_name}
use Rattle.sts_text.specs.Number.{number, number_up_to}
use Rattle.sts_asm.specs.Line.{mnemonic_of}
use Rattle.sts_asm.specs.Operand.{looked_up, slot, handle, joiners, kinds_counted}
use Rattle.sts_asm.specs.Outline.{label_of}
use Rattle.sts_asm.specs.declared.fault.AsmKind.{AsmKind}
use Rattle.sts_asm.specs.declared.fault.AsmKind.TheVariants.{UnknownWord, BadNumber}
use Rattle.sts_asm.specs.declared.fault.AsmKind.TheVariants.{BadOperands, DuplicateLabel}
use Rattle.sts_asm.specs.declared.mnemonic.Mnemonic.{Mnemonic}
use Rattle.sts_asm.specs.declared.mnemonic.Mnemonic.TheVariants as m
use Rattle.look_text.specs.declared.wanted.Expected.{Expected}
use Rattle.look_text.specs.declared.wanted.Expected.TheVariants as w

-- ---- words

-- 1 or 2
abbrev pub is_profile : Option ℕ → Bool
is_profile None = false
is_profile (Some n) = n == 1 || n == 2

-- a condition of `until`
abbrev pub is_condition : List ℕ → Bool
is_condition word =
    bytes_eq word (codes "failed") || (bytes_eq word (codes "success")
    || bytes_eq word (codes "atleast"))

abbrev pub is_joiner : List ℕ → Bool
is_joiner word = bytes_eq word (codes "until") || is_some (looked_up joiners word)

-- a name, or `-` for none
abbrev pub is_maybe_name : List ℕ → Bool
is_maybe_name word = bytes_eq word (codes "-") || is_name word

-- a word that some line begins with
abbrev pub begins_line : List ℕ → Bool
begins_line word =
    bytes_eq word (codes "func") || (bytes_eq word (codes "end")
    || (bytes_eq word (codes "profile") || (is_some (label_of word)
    || is_some (mnemonic_of word))))

-- is the word what is expected?
abbrev pub fits : Expected → List ℕ → Bool
fits w.First word = begins_line word
fits w.Inner word = false
fits w.Outer word = false
fits w.NewLabel word = false
fits w.KnownLabel word = false
fits w.KnownFunction word = false
fits w.Nothing word = false
fits w.Byte word = is_some (number_up_to 255 word)
fits w.Value word = is_some (number word)
fits w.Turns word = is_some (number_up_to (2 ^ 16 - 1) word)
fits w.Slot word = is_some (slot word)
fits w.Label word = is_name word
fits w.OpenSlot word = is_some (slot word)
fits w.Joiner word = is_joiner word
fits w.Condition word = is_condition word
fits w.Count word = is_some (number_up_to (2 ^ 32 - 1) word)
fits w.Least word = is_some (number word)
fits w.Timed word = bytes_eq word (codes "timed")
fits w.ForkSlot word = is_some (slot word)
fits w.Function word = is_name word
fits w.Handle word = is_some (handle word)
fits w.JoinSlot word = is_some (slot word)
fits w.JoinFailed word = is_maybe_name word
fits w.JoinTimeout word = is_maybe_name word
fits w.JoinInterrupted word = is_name word
fits w.CaseSlot word = is_some (slot word)
fits w.CaseSuccess word = is_name word
fits w.CaseFailed word = is_name word
fits w.TallySlot word = is_some (slot word)
fits w.State word = is_some (looked_up kinds_counted word)
fits w.Name word = is_name word
fits w.Args word = is_some (number_up_to 255 word)
fits w.Needs word = bytes_eq word (codes "needs")
fits w.Key word = is_some (number_up_to 15 word)
fits w.Profile word = is_profile (number_up_to 2 word)

-- ---- what comes next

-- what is expected after the first word of an instruction
abbrev pub of_mnemonic : Option Mnemonic → Expected
of_mnemonic None = w.Nothing
of_mnemonic (Some (m.Plain instr)) = w.Nothing
of_mnemonic (Some (m.WithNumber form)) = w.Byte
of_mnemonic (Some (m.WithSlot form)) = w.Slot
of_mnemonic (Some (m.WithTarget form)) = w.Label
of_mnemonic (Some m.Push) = w.Value
of_mnemonic (Some m.Times) = w.Turns
of_mnemonic (Some m.Open) = w.OpenSlot
of_mnemonic (Some m.Fork) = w.ForkSlot
of_mnemonic (Some m.Join) = w.JoinSlot
of_mnemonic (Some m.Case) = w.CaseSlot
of_mnemonic (Some m.Tally) = w.TallySlot

-- what is expected after the first word of a line in a function: nothing after a label
abbrev pub after_inner : List ℕ → Expected
after_inner word = if is_some (label_of word) then w.Nothing else of_mnemonic (mnemonic_of word)

-- what is expected after the first word of a line
abbrev pub after_first : List ℕ → Expected
after_first word =
    if bytes_eq word (codes "func") then w.Name
    else (if bytes_eq word (codes "end") then w.Nothing
    else (if bytes_eq word (codes "profile") then w.Profile
    else after_inner word))

-- what is expected after a word that is as expected
abbrev pub after : Expected → List ℕ → Expected
after w.First word = after_first word
after w.OpenSlot word = w.Joiner
after w.Joiner word = if bytes_eq word (codes "until") then w.Condition else w.Timed
after w.Condition word = if bytes_eq word (codes "atleast") then w.Least else w.Count
after w.Count word = w.Timed
after w.Least word = w.Timed
after w.ForkSlot word = w.Function
after w.Function word = w.Handle
after w.JoinSlot word = w.JoinFailed
after w.JoinFailed word = w.JoinTimeout
after w.JoinTimeout word = w.JoinInterrupted
after w.CaseSlot word = w.CaseSuccess
after w.CaseSuccess word = w.CaseFailed
after w.TallySlot word = w.State
after w.Name word = w.Args
after w.Args word = w.Needs
after w.Needs word = w.Key
after w.Key word = w.Key
after wanted word = w.Nothing

-- ---- where it stops

-- the words before the wrong one, the wrong word itself (none, if a word is missing), and what is
-- expected there
pub record Stop : Type 0 where
  pub before : List (List ℕ)
  pub word : Option (List ℕ)
  pub wanted : Expected

abbrev pub behind : List ℕ → Stop → Stop
behind word s = record { before = word ∷ s.before; word = s.word; wanted = s.wanted }

-- the first word that isn't what is expected there
abbrev pub stop : Expected → List (List ℕ) → Stop
stop wanted [] = record { before = []; word = None; wanted = wanted }
stop wanted (word ∷ rest) =
    if fits wanted word then behind word (stop (after wanted word) rest)
    else record { before = []; word = Some word; wanted = wanted }

-- ---- the place of a fault

-- what is expected instead of a first word that isn't allowed there; it depends on whether a
-- function is open
abbrev pub in_place_of : Bool → Expected
in_place_of inside = if inside then w.Inner else w.Outer

-- the first word is wrong
abbrev pub first_wrong : Expected → List ℕ → Stop
first_wrong wanted word = record { before = []; word = Some word; wanted = wanted }

-- the place where the words of a line are wrong, for the faults that are about one word; a function
-- is open before the line or not
abbrev pub wrong_place : AsmKind → Bool → List (List ℕ) → Option Stop
wrong_place BadNumber inside words = Some (stop w.First words)
wrong_place BadOperands inside words = Some (stop w.First words)
wrong_place UnknownWord inside (word ∷ rest) = Some (first_wrong (in_place_of inside) word)
wrong_place DuplicateLabel inside (word ∷ rest) = Some (first_wrong w.NewLabel word)
wrong_place kind inside words = None
