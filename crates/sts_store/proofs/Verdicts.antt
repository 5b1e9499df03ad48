-- Which answers of `join` push something.
use Rattle.std.proofs.Common.{◌≡◌, ℕ, ℤ, false, Some, refl}
use Rattle.sts_code.specs.declared.instr.Joiner.{Joiner}
use Rattle.sts_code.specs.declared.instr.Joiner.TheVariants.{AwaitAll}
use Rattle.sts_model.specs.declared.event.Verdict.TheVariants as verdict
use Rattle.sts_model.specs.Told.{Told, result_told}
use Rattle.sts_code.specs.Facts.{is_await_all}

pub ok_pushes : (joiner : Joiner) (told : Told) (n : ℕ) (v : ℤ) → result_told joiner told n ≡ verdict.Ok (Some v) → is_await_all joiner ≡ false
ok_pushes AwaitAll told n v e = cc
ok_pushes _ told n v e = refl
