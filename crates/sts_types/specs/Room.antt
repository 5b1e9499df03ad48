-- The room that is left if no cause holds (this project's own).
use Rattle.std.specs.Prelude.{◌≡◌, ◌+◌, ◌-◌, ◌<◌, ◌≤◌, false, IfSome}
use Rattle.sts_code.specs.Program.{Program}
use Rattle.sts_code.specs.declared.limits.TheConstants.{MAX_OPERANDS}
use Rattle.sts_code.specs.declared.instr.Instr.{Instr}
use Rattle.sts_code.specs.declared.instr.Instr.TheVariants.{Join}
use Rattle.sts_code.specs.Facts.{pops, pushes}
use Rattle.sts_rules.specs.TypeState.{TypeState, scope_in}
use Rattle.sts_rules.specs.Causes.{is_too_deep, is_nested}
use Rattle.sts_rules.specs.Edges.{joiner_of, ok_pushes}

-- the outcomes of `join` find room
abbrev pub JoinHasRoom : Instr → TypeState → Type 0
JoinHasRoom (Join x failed timeout interrupted) s =
    (s.height + ok_pushes (joiner_of (scope_in s.entries x)) ≤ MAX_OPERANDS)
    × IfSome failed (λ _. s.height < MAX_OPERANDS)
JoinHasRoom _ s = Unit {0}

-- there is room for what the instruction adds
pub record HasRoom (p : Program) (i : Instr) (s : TypeState) : Type 0 where
  pub operands : s.height - pops p i + pushes i ≤ MAX_OPERANDS
  pub outcomes : JoinHasRoom i s
  pub loops : is_too_deep i s ≡ false
  pub entries : is_nested i s ≡ false
