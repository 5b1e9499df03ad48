-- The fault of a line (this project's own).
use Rattle.std.proofs.Common.{◌≡◌, refl}
use Rattle.sts_asm.specs.declared.fault.AsmKind.{AsmKind}
use Rattle.sts_asm.specs.declared.fault.AsmKind.TheVariants as kind
use Rattle.sts_asm.specs.declared.fault.LineKind.{LineKind}
use Rattle.sts_asm.specs.declared.fault.LineKind.TheVariants.{NotAscii, UnknownWord, BadNumber}
use Rattle.sts_asm.specs.declared.fault.LineKind.TheVariants.{BadOperands, UnknownLabel}
use Rattle.sts_asm.specs.declared.fault.LineKind.TheVariants.{DuplicateLabel, Unclosed, Memory}

-- its kind
abbrev pub kind_of : LineKind → AsmKind
kind_of NotAscii = kind.NotAscii
kind_of UnknownWord = kind.UnknownWord
kind_of BadNumber = kind.BadNumber
kind_of BadOperands = kind.BadOperands
kind_of UnknownLabel = kind.UnknownLabel
kind_of DuplicateLabel = kind.DuplicateLabel
kind_of Unclosed = kind.Unclosed
kind_of Memory = kind.Memory

-- the fault of a line that has this kind; no line has the other kinds
abbrev pub line_kind : AsmKind → LineKind
line_kind kind.NotAscii = NotAscii
line_kind kind.UnknownWord = UnknownWord
line_kind kind.BadNumber = BadNumber
line_kind kind.BadOperands = BadOperands
line_kind kind.UnknownLabel = UnknownLabel
line_kind kind.DuplicateLabel = DuplicateLabel
line_kind kind.Unclosed = Unclosed
line_kind _ = Memory

-- a fault is found by its kind
pub line_kind_of : (fault : LineKind) → line_kind (kind_of fault) ≡ fault
line_kind_of NotAscii = refl
line_kind_of UnknownWord = refl
line_kind_of BadNumber = refl
line_kind_of BadOperands = refl
line_kind_of UnknownLabel = refl
line_kind_of DuplicateLabel = refl
line_kind_of Unclosed = refl
line_kind_of Memory = refl
