-- What is kept of a function whose names were looked up when it ended.
use Rattle.std.proofs.Common.{◌≡◌, true, false, List, [], refl, ap, sym, subst}
use Rattle.std.specs.Prelude.{Result, Ok, Err, OnErr, map}
use Rattle.std.specs.Result.{is_ok}
use Rattle.sts_asm.specs.declared.fault.AsmError.{AsmError}
use Rattle.sts_asm.specs.Fault.{StepsAt}
use Rattle.sts_asm.specs.Marks.{Mark}
use Rattle.sts_asm.specs.Outline.{Sentence, Draft}
use Rattle.sts_asm.specs.Text.{instr_at}
use Rattle.sts_asm.specs.Kept.{Kept, IsShortened, IsKept, are_naming, without_names, filled, routine_of}
use Rattle.sts_asm.proofs.KeptLemmas.{settled_known, settled_unknown}

-- they were all known
pub settled_then : {X : Type 0} (r : Result X AsmError) (functions : List Mark) (d : Draft) (k new : Kept) (labels : List Mark) (again : List Sentence) → is_ok r ≡ true → again ≡ [] → new ≡ record k { code = new.code } → StepsAt r new.code (filled (instr_at (record { labels = k.labels; functions = functions })) k.again k.code) → IsShortened d k → IsKept functions d (record new { labels = labels; again = again })
settled_then (Ok x) functions d k new labels again b none same h s =
    let kept : IsKept functions d (record k { labels = labels; again = []; code = new.code }) = settled_known functions d k new.code s h in
    rw none (subst (λ (x : Kept). IsKept functions d (record x { labels = labels; again = [] })) (sym same) kept)
settled_then (Err e) functions d k new labels again b none same h s = absurd (cc)

-- one of them wasn't
pub settled_else : {X : Type 0} (r : Result X AsmError) (functions : List Mark) (d : Draft) (k new : Kept) → is_ok r ≡ false → new ≡ record k { code = new.code } → OnErr r (are_naming k.again ≡ true → map without_names new.code ≡ map without_names k.code) → IsShortened d k → IsKept functions d new
settled_else (Ok x) functions d k new b same h s = absurd (cc)
settled_else (Err e) functions d k new b same h s = subst (λ (x : Kept). IsKept functions d x) (sym same) (settled_unknown functions d k new.code s h)

-- the routine of a function whose instructions were filled
pub routine_filled : (functions : List Mark) (k new : Kept) → filled (instr_at (record { labels = k.labels; functions = functions })) k.again k.code ≡ Ok new.code → new ≡ record k { code = new.code } → routine_of functions k ≡ Ok (record { name = new.name; args = new.args; needs = new.needs; code = new.code })
routine_filled functions k new e same =
    let name : new.name ≡ k.name = ap (λ (x : Kept). x.name) same in
    let args : new.args ≡ k.args = ap (λ (x : Kept). x.args) same in
    let needs : new.needs ≡ k.needs = ap (λ (x : Kept). x.needs) same in
    rw (e, name, args, needs) refl
