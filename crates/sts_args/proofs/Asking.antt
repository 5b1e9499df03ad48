-- The request of a command with a known name.
use Rattle.std.proofs.Common.{◌≡◌, ◌∙◌, ◌&&◌, ◌||◌, Bool, true, false, List, ◌∷◌, [], Some, None, option_map, ap, sym, subst, codes, refl}
use Rattle.std.specs.Prelude.{Option, IfSome, is_some, if◌then◌else◌}
use Rattle.std.specs.List.{list_all}
use Rattle.std.specs.Borrow.{Bor}
use Rattle.std.specs.Str.{bytes_eq}
use Rattle.std.proofs.lemmas.Slice.Eq.{bytes_eq-Decides}
use Rattle.clap.specs.Words.{Row, Text, first_of}
use Rattle.sts_args.specs.declared.asked.Line.{Line}
use Rattle.sts_args.specs.declared.asked.Line.TheVariants as line
use Rattle.sts_args.specs.Asked.{IsGiven, asked, options, options_at, takes_trace, workers_at}
use Rattle.sts_args.specs.Refused.{has_workers, is_whole}

-- what holds of the written name holds of the given name
of_name : (P : Text → Type 0) (name word : Text) → true ≡ bytes_eq name word → P word → P name
of_name P name word same h = subst P (sym ((bytes_eq-Decides name word).0 (sym same))) h

pub verify_given : (name : Text) (rows : List Row) (file : Bor Text) → true ≡ bytes_eq name (codes "verify")
    → first_of (codes "FILE") rows ≡ Some file.now → IsGiven (name, rows) (line.Verify file)
verify_given name rows file same h =
    of_name (λ n. IsGiven (n, rows) (line.Verify file)) name (codes "verify") same record { files = rw h refl; options = refl }

pub list_given : (name : Text) (rows : List Row) (file : Bor Text) → true ≡ bytes_eq name (codes "list")
    → first_of (codes "FILE") rows ≡ Some file.now → IsGiven (name, rows) (line.List file)
list_given name rows file same h =
    of_name (λ n. IsGiven (n, rows) (line.List file)) name (codes "list") same record { files = rw h refl; options = refl }

pub run_given : (r : Option Line) (name : Text) (rows : List Row) (file : Text) → true ≡ bytes_eq name (codes "run")
    → first_of (codes "FILE") rows ≡ Some file → IfSome r (λ l. asked l ≡ Some (codes "run", file ∷ []))
    → IfSome r (λ l. options l ≡ options_at rows) → IfSome r (IsGiven (name, rows))
run_given (Some l) name rows file same h files given =
    of_name (λ n. IsGiven (n, rows) l) name (codes "run") same record { files = files ∙ rw h refl; options = given }
run_given None name rows file same h files given = tt

pub run_lacks : (name : Text) (rows : List Row) (file : Text) → true ≡ bytes_eq name (codes "run")
    → first_of (codes "FILE") rows ≡ Some file → is_some (workers_at rows) ≡ false → is_whole (Some (name, rows)) ≡ false
run_lacks name rows file same h lacks = of_name (λ n. is_whole (Some (n, rows)) ≡ false) name (codes "run") same (rw h lacks)

-- with a part missing
lacks_part : (x y w : Bool) → y ≡ false → ((x && (y && true)) && w) ≡ false
lacks_part x true w h = cc
lacks_part true false w h = refl
lacks_part false false w h = refl

-- no command, or one whose trace is missing
lacks_trace : (v l t r w : Bool) (p : Text → Bool) (a b : Text) → false ≡ v → false ≡ l → false ≡ r → (t && p b) ≡ false
    → ((v || (l || (t || r))) && (list_all p (if t then a ∷ b ∷ [] else (a ∷ [])) && w)) ≡ false
lacks_trace true l t r w p a b not_v not_l not_r h = cc
lacks_trace false true t r w p a b not_v not_l not_r h = cc
lacks_trace false false t true w p a b not_v not_l not_r h = cc
lacks_trace false false true false w p a b not_v not_l not_r h = lacks_part (p a) (p b) w h
lacks_trace false false false false w p a b not_v not_l not_r h = refl

is_some_now : (trace : Option (Bor Text)) → is_some (option_map (λ t. t.now) trace) ≡ is_some trace
is_some_now None = refl
is_some_now (Some t) = refl

pub replay_lacks : (name : Text) (rows : List Row) (trace : Option (Bor Text)) → false ≡ bytes_eq name (codes "verify")
    → false ≡ bytes_eq name (codes "list") → false ≡ bytes_eq name (codes "run")
    → option_map (λ t. t.now) trace ≡ first_of (codes "TRACE") rows
    → (takes_trace name && is_some trace) ≡ false → is_whole (Some (name, rows)) ≡ false
replay_lacks name rows trace not_v not_l not_r given lacks =
    lacks_trace (bytes_eq name (codes "verify")) (bytes_eq name (codes "list")) (takes_trace name) (bytes_eq name (codes "run"))
    (has_workers name rows) (λ id. is_some (first_of id rows)) (codes "FILE") (codes "TRACE") not_v not_l not_r
    (ap (λ (t : Option Text). takes_trace name && is_some t) (sym given) ∙ ap (λ b. takes_trace name && b) (is_some_now trace) ∙ lacks)
