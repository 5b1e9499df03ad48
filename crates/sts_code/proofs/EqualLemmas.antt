-- `==` on the parts of instructions is true if and only if they are the same.
use Rattle.std.proofs.Common.{◌≡◌, Bool, true, false, refl, arith}
use Rattle.std.proofs.lemmas.Bool.Decides.{Decides-int_eq}
use Rattle.std.specs.contracts.prelude.BoolPartialEq.TheImpl as bool_eq
use Rattle.sts_code.specs.declared.instr.Pred.{Pred}
use Rattle.sts_code.specs.declared.instr.Pred.TheVariants as pred
use Rattle.sts_code.specs.declared.instr.Joiner.{Joiner}
use Rattle.sts_code.specs.declared.instr.Joiner.TheVariants.{Until}
use Rattle.sts_code.specs.contracts.instr.PredPartialEq.TheImpl as pred_eq
use Rattle.sts_code.specs.contracts.instr.JoinerPartialEq.TheImpl as joiner_eq

pub pred-to : (a b : Pred) → pred_eq.eq-value.it a b ≡ true → a ≡ b
pred-to (pred.AtLeast x) (pred.AtLeast y) e = let h = (Decides-int_eq x y).0 e in cc
pred-to a b e = grind arith

pub pred-from : (a : Pred) → pred_eq.eq-value.it a a ≡ true
pred-from (pred.AtLeast x) = (Decides-int_eq x x).1 refl
pred-from a = grind arith

pub joiner-to : (a b : Joiner) → joiner_eq.eq-value.it a b ≡ true → a ≡ b
joiner-to (Until x) (Until y) e = let h = pred-to x y e in cc
joiner-to a b e = grind arith

pub joiner-from : (a : Joiner) → joiner_eq.eq-value.it a a ≡ true
joiner-from (Until x) = pred-from x
joiner-from a = grind arith

pub bool-to : (a b : Bool) → bool_eq.ghosts.eq a b ≡ true → a ≡ b
bool-to true true e = refl
bool-to false false e = refl
bool-to true false e = cc
bool-to false true e = cc

pub bool-from : (a : Bool) → bool_eq.ghosts.eq a a ≡ true
bool-from true = refl
bool-from false = refl
