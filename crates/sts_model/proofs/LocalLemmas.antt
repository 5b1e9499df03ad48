-- Local instructions.
use Rattle.std.proofs.Common.{◌≡◌, ℕ, ◌≤◌, ℤ, pos, negsuc, arith, true, refl}
use Rattle.sts_code.specs.declared.instr.Instr.{Instr}
use Rattle.sts_model.specs.Local.{clipped, is_local, stays_in_frame}

-- a loop makes at most as many turns as it allows
pub clipped_few : (n : ℕ) (v : ℤ) → clipped n v ≤ n
clipped_few n (pos k) = omega arith
clipped_few n (negsuc k) = omega arith

pub local_stays : (i : Instr) → is_local i ≡ true → stays_in_frame i ≡ true
local_stays i e = rw e refl
