-- The effect of instructions on a path.
use Rattle.std.proofs.Common.{◌≡◌, ◌+◌, ℕ, [], ◌∷◌, ◌++◌, true, false, refl, sym, ◌∙◌}
use Rattle.sts_code.specs.declared.instr.Instr.{Instr}
use Rattle.sts_code.specs.declared.instr.Instr.TheVariants.{Times, Next, Ret, Fail}
use Rattle.sts_code.specs.Facts.{targets}
use Rattle.sts_rules.specs.Around.{next_place}
use Rattle.sts_rules.specs.Budget.{shape_of}
use Rattle.sts_rules.specs.ControlPaths.{GoesTo, Repeats, EndsTurn, EndsPath}
use Rattle.sts_budget.specs.Handing.{turns_of}
use Rattle.look_refusal.specs.Search.{ends_turn, ends_path}

-- it goes on without a loop, opens one, ends a turn of one, or ends the path
pub data Kind (pc : ℕ) (i : Instr) : Type 0 where
  goes : ends_turn i ≡ false → ends_path i ≡ false → turns_of i ≡ 0 → shape_of pc i ≡ GoesTo (targets i ++ next_place pc i) → Kind pc i
  opens : ends_turn i ≡ false → ends_path i ≡ false → shape_of pc i ≡ Repeats (turns_of i) → Kind pc i
  turns : ends_turn i ≡ true → ends_path i ≡ false → turns_of i ≡ 0 → targets i ++ next_place pc i ≡ (pc + 1) ∷ [] → shape_of pc i ≡ EndsTurn → Kind pc i
  ends : ends_turn i ≡ false → ends_path i ≡ true → targets i ++ next_place pc i ≡ [] → shape_of pc i ≡ EndsPath → Kind pc i

pub kind : (pc : ℕ) (i : Instr) → Kind pc i
kind pc (Times n) = opens refl refl refl
kind pc Next = turns refl refl refl refl refl
kind pc Ret = ends refl refl refl refl
kind pc Fail = ends refl refl refl refl
kind pc _ = goes refl refl refl refl

-- what ends a path
pub path_ends : (pc : ℕ) (i : Instr) → ends_path i ≡ true → shape_of pc i ≡ EndsPath
path_ends pc i e = by (kind pc i)
  where
    by : Kind pc i → shape_of pc i ≡ EndsPath
    by (goes t p n s) = let no : true ≡ false = sym e ∙ p in absurd (cc)
    by (opens t p s) = let no : true ≡ false = sym e ∙ p in absurd (cc)
    by (turns t p n a s) = let no : true ≡ false = sym e ∙ p in absurd (cc)
    by (ends t p a s) = s

pub ends_paths : (pc : ℕ) (i : Instr) → shape_of pc i ≡ EndsPath → ends_path i ≡ true
ends_paths pc i e = by (kind pc i)
  where
    by : Kind pc i → ends_path i ≡ true
    by (goes t p n s) = let no : EndsPath ≡ GoesTo (targets i ++ next_place pc i) = sym e ∙ s in absurd (cc)
    by (opens t p s) = let no : EndsPath ≡ Repeats (turns_of i) = sym e ∙ s in absurd (cc)
    by (turns t p n a s) = let no : EndsPath ≡ EndsTurn = sym e ∙ s in absurd (cc)
    by (ends t p a s) = p
