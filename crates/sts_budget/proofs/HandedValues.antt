-- The value that an instruction hands on, by what the code finds it to be.
use Rattle.std.proofs.Common.{◌≡◌, ℕ, ◌+◌, ◌<◌, min, List, [], length, get_or, true, refl, sym, ap, ◌∙◌}
use Rattle.sts_code.specs.Program.{instr_at}
use Rattle.sts_code.specs.declared.instr.Instr.{Instr}
use Rattle.sts_code.specs.declared.instr.Instr.TheVariants.{Push, Next}
use Rattle.sts_rules.specs.declared.budget.Budgets.{Budgets}
use Rattle.sts_budget.specs.declared.change.Resource.{Resource}
use Rattle.sts_budget.specs.declared.change.Resource.TheVariants.{Steps, Tasks, Scopes, Binds}
use Rattle.sts_budget.specs.declared.change.SumChange.{SumChange}
use Rattle.sts_budget.specs.declared.layout.Layout.{Layout}
use Rattle.sts_budget.specs.Change.{source_of, added_of, change_of, depth_of, own_step}
use Rattle.sts_budget.specs.Handing.{is_ordinary, value_by, handed_value}
use Rattle.sts_budget.specs.Layout.{EntryNames}
use Rattle.sts_budget.specs.Ready.{names_in}
use Rattle.sts_budget.specs.Table.{read}
use Rattle.std.proofs.lemmas.List.{get_or_default}

value_of_other : (k : Resource) (earlier : List Budgets) (code : List Instr) (l : Layout) (best : ℕ → ℕ → ℕ) (pc d : ℕ) (i : Instr) → (i ≡ Next → ⊥) → value_by k earlier code l best pc i d ≡ best pc (source_of (change_of k earlier i (names_in l pc)) (depth_of k (names_in l pc)) d) + added_of (change_of k earlier i (names_in l pc)) (depth_of k (names_in l pc)) d
value_of_other k earlier code l best pc d Next h = absurd (h refl)
value_of_other k earlier code l best pc d _ h = refl

pub value_of_ordinary : (k : Resource) (earlier : List Budgets) (code : List Instr) (l : Layout) (best : ℕ → ℕ → ℕ) (pc d : ℕ) (i : Instr) → is_ordinary i ≡ true → value_by k earlier code l best pc i d ≡ best pc d + own_step k
value_of_ordinary Steps earlier code l best pc d (Push v) h = refl
value_of_ordinary Steps earlier code l best pc d _ h = cc
value_of_ordinary Tasks earlier code l best pc d (Push v) h = refl
value_of_ordinary Tasks earlier code l best pc d _ h = cc
value_of_ordinary Scopes earlier code l best pc d (Push v) h = refl
value_of_ordinary Scopes earlier code l best pc d _ h = cc
value_of_ordinary Binds earlier code l best pc d (Push v) h = refl
value_of_ordinary Binds earlier code l best pc d _ h = cc

module _ (k : Resource) (earlier : List Budgets) (code : List Instr) (l : Layout) (best : List (List ℕ)) (pc d : ℕ) (within : pc < length best) (i : Instr) (instr : i ≡ instr_at code pc) (row : List ℕ) (reads : row ≡ get_or best pc row) where
  here : row ≡ get_or best pc []
  here = reads ∙ get_or_default best pc row [] within

  -- it counts one step, and changes nothing else
  pub hands_own : (own v : ℕ) → is_ordinary i ≡ true → own ≡ own_step k → v ≡ min (get_or row d 0 + own) 18446744073709551615 → v ≡ min (handed_value k earlier code l (read best) pc d) 18446744073709551615
  hands_own own v ordinary own_is is =
      is
      ∙ ap (λ r. min (get_or r d 0 + own) 18446744073709551615) here
      ∙ ap (λ n. min (read best pc d + n) 18446744073709551615) own_is
      ∙ ap (λ n. min n 18446744073709551615) (sym (value_of_ordinary k earlier code l (read best) pc d i ordinary))
      ∙ ap (λ j. min (value_by k earlier code l (read best) pc j d) 18446744073709551615) instr

  -- it changes the sums over the open entries
  pub hands_changed : (names : EntryNames) (change : SumChange) (depth v : ℕ) → (i ≡ Next → ⊥) → names ≡ names_in l pc → change ≡ change_of k earlier i names → depth ≡ depth_of k names → v ≡ min (get_or row (source_of change depth d) 0 + added_of change depth d) 18446744073709551615 → v ≡ min (handed_value k earlier code l (read best) pc d) 18446744073709551615
  hands_changed names change depth v other named changed deep is =
      is
      ∙ ap (λ r. min (get_or r (source_of change depth d) 0 + added_of change depth d) 18446744073709551615) here
      ∙ ap (λ x. min (read best pc (source_of x depth d) + added_of x depth d) 18446744073709551615) (changed ∙ ap (change_of k earlier i) named)
      ∙ ap (λ n. min (read best pc (source_of (change_of k earlier i (names_in l pc)) n d) + added_of (change_of k earlier i (names_in l pc)) n d) 18446744073709551615) (deep ∙ ap (depth_of k) named)
      ∙ ap (λ n. min n 18446744073709551615) (sym (value_of_other k earlier code l (read best) pc d i other))
      ∙ ap (λ j. min (value_by k earlier code l (read best) pc j d) 18446744073709551615) instr
