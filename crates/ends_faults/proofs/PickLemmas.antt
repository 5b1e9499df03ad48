-- A subtask whose state passes a test in each pick that fits.
use Rattle.std.proofs.Common.{◌≡◌, ℕ, zero, suc, List, [], ◌∷◌, Bool, true, false, Option, Some, None, refl, sym, ◌∙◌, ap, subst, not, get_or, set}
use Rattle.std.specs.Prelude.{slice_get}
use Rattle.sts_model.specs.declared.event.End.{End}
use Rattle.laws_calls.specs.declared.table.Part.{Part}
use Rattle.laws_calls.specs.declared.table.Seen.{Seen}
use Rattle.laws_calls.specs.Tasks.{AllTwo, May}
use Rattle.laws_calls.specs.Fitting.{Fits}
use Rattle.laws_calls.specs.Steps.{parts_with}
use Rattle.laws_calls.proofs.FittingLemmas.{kept_way, no}
use Rattle.ends_faults.specs.Safe.{Always, without}

module _ (test : Option End → Bool) where
  may_other : (part : Part) (q : Option End) → May part q → test q ≡ false → May (without test part) q
  may_other part None k e = k
  may_other part (Some e) k d = kept_way (λ (end : End). not (test (Some end))) part.ways e (ap not d) k

  picks_other : (parts : List Part) (pick : List (Option End)) (i : ℕ) (part : Part) → slice_get parts i ≡ Some part → AllTwo May parts pick → test (get_or pick i None) ≡ false → AllTwo May (set parts i (without test part)) pick
  picks_other [] pick i part e k d = cc
  picks_other (a ∷ parts) (q ∷ pick) zero part e k d = let same : a ≡ part = cc in (may_other part q (subst (λ (z : Part). May z q) same k.0) d, k.1)
  picks_other (a ∷ parts) (q ∷ pick) (suc i) part e k d = (k.0, picks_other parts pick i part e k.1 d)
  picks_other (a ∷ parts) [] i part e k d = absurd k

  -- a pick in which it fails fits the scope without the ways that pass
  fits_other : (x : Seen) (i : ℕ) (part : Part) (pick : List (Option End)) → slice_get x.parts i ≡ Some part → Fits x pick → test (get_or pick i None) ≡ false → Fits (parts_with x i (without test part)) pick
  fits_other x i part pick e k d = record { picks = picks_other x.parts pick i part e k.picks d; counts = k.counts; asked = k.asked }

  -- so if none fits that, it passes in each
  pub always_not : (x : Seen) (i : ℕ) (part : Part) (fits : Bool) → slice_get x.parts i ≡ Some part → ((pick : List (Option End)) → Fits (parts_with x i (without test part)) pick → fits ≡ true) → fits ≡ false → Always test x i
  always_not x i part fits e has none = λ pick k. by pick k (test (get_or pick i None)) refl
    where
      by : (pick : List (Option End)) → Fits x pick → (b : Bool) → test (get_or pick i None) ≡ b → test (get_or pick i None) ≡ true
      by pick k true d = d
      by pick k false d = absurd (no (sym (has pick (fits_other x i part pick e k d)) ∙ none))
