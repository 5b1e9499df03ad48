use Rattle.std.proofs.Common.{◌≡◌, ℕ, ◌+◌, ◌≤◌, true, List, [], ◌∷◌, ◌++◌, length, refl, sym, ◌∙◌, ap, arith, append_assoc, append-nil, length-append}
use Rattle.std.specs.Prelude.{None, codes, Ok}
use Rattle.std.specs.List.{flat_map, AllByRecursion}
use Rattle.sts_code.specs.Name.{is_name}
use Rattle.sts_code.specs.Program.{Program, Routine}
use Rattle.sts_code.specs.declared.profile.Profile.{Profile}
use Rattle.sts_code.specs.declared.profile.Profile.TheVariants.{One, Two}
use Rattle.sts_text.specs.Words.{lines}
use Rattle.sts_asm.specs.Marks.{Mark}
use Rattle.sts_asm.specs.Outline.{Draft, Outline, empty, with_function, lines_read, outline_of}
use Rattle.sts_list.specs.Listing.{code_lines, function_lines, header, profile_line, listing}
use Rattle.sts_list.proofs.SpellingLemmas.{concrete}
use Rattle.sts_list.proofs.LineLemmas.{IsGood, words_said, with_current}
use Rattle.sts_list.proofs.HeaderLemmas.{draft_of, header_line_read}
use Rattle.sts_list.proofs.CodeLemmas.{marks_of, sentences, line_after, code_read}

-- a function as a program that passed its checks has it
pub record IsGoodRoutine (p : Program) (r : Routine) : Type 0 where
  pub name : is_name r.name ≡ true
  pub args : r.args ≤ 255
  pub needs : length r.needs ≡ 16
  pub short : length r.code ≤ 4096
  pub code : AllByRecursion (IsGood p) r.code

-- the draft that a function is read as, if its header is at this line
abbrev pub draft_at : Program → ℕ → Routine → Draft
draft_at p at r = record { name = r.name; args = r.args; needs = r.needs; labels = marks_of r.code 0 r.code; code = sentences p r.code (at + 1) 0 r.code }

abbrev pub line_below : ℕ → Routine → ℕ
line_below at r = line_after r.code (at + 1) 0 r.code + 1

abbrev pub with_done : Outline → Draft → Outline
with_done o d = record { profile = o.profile; functions = o.functions ++ record { name = d.name; at = length o.done } ∷ []; done = o.done ++ d ∷ []; current = None }

end_read : (at : ℕ) (o : Outline) (d : Draft) (rest : List ℕ) → lines_read at (with_current o d) (lines (codes "end\n" ++ rest)) ≡ lines_read (at + 1) (record { profile = o.profile; functions = o.functions; done = o.done ++ d ∷ []; current = None }) (lines rest)
end_read at o d rest = words_said at (with_current o d) (record { profile = o.profile; functions = o.functions; done = o.done ++ d ∷ []; current = None }) (codes "end") [] rest (concrete (codes "end") refl refl) tt refl

-- the lines of a function are read as the function
pub function_read : (p : Program) (at : ℕ) (r : Routine) (o : Outline) (tail : List ℕ) → IsGoodRoutine p r → o.current ≡ None → lines_read at o (lines (function_lines p r ++ tail)) ≡ lines_read (line_below at r) (with_done o (draft_at p at r)) (lines tail)
function_read p at r o tail g none =
    let more = codes "end\n" ++ tail in
    let shape : function_lines p r ++ tail ≡ header r ++ (code_lines p r.code 0 r.code ++ more) =
    append_assoc (header r ++ code_lines p r.code 0 r.code) (codes "end\n") tail ∙ append_assoc (header r) (code_lines p r.code 0 r.code) more in
    let opened : Outline = with_function o (draft_of r) in
    ap (λ (text : List ℕ). lines_read at o (lines text)) shape
    ∙ header_line_read at o r (code_lines p r.code 0 r.code ++ more) none g.name g.args g.needs
    ∙ code_read p r.code (at + 1) 0 r.code opened (draft_of r) more g.code (let s = g.short in omega arith) refl (λ q past near. refl)
    ∙ end_read (line_after r.code (at + 1) 0 r.code) opened (draft_at p at r) tail

-- ---- all functions

abbrev pub drafts : Program → ℕ → List Routine → List Draft
drafts p at [] = []
drafts p at (r ∷ rest) = draft_at p at r ∷ drafts p (line_below at r) rest

abbrev pub names_from : ℕ → List Routine → List Mark
names_from n [] = []
names_from n (r ∷ rest) = record { name = r.name; at = n } ∷ names_from (n + 1) rest

abbrev pub last_line : ℕ → List Routine → ℕ
last_line at [] = at
last_line at (r ∷ rest) = last_line (line_below at r) rest

abbrev pub with_all : Outline → List Mark → List Draft → Outline
with_all o names ds = record { profile = o.profile; functions = o.functions ++ names; done = o.done ++ ds; current = None }

with_all_none : (o : Outline) → o.current ≡ None → with_all o [] [] ≡ o
with_all_none o e = rw (append-nil o.functions, append-nil o.done, ← e) refl

with_all_more : (o : Outline) (d : Draft) (names : List Mark) (ds : List Draft) → with_all (with_done o d) names ds ≡ with_all o (record { name = d.name; at = length o.done } ∷ names) (d ∷ ds)
with_all_more o d names ds = rw (append_assoc o.functions (record { name = d.name; at = length o.done } ∷ []) names, append_assoc o.done (d ∷ []) ds) refl

pub functions_read : (p : Program) (at : ℕ) (rs : List Routine) (o : Outline) (n : ℕ) → AllByRecursion (IsGoodRoutine p) rs → o.current ≡ None → length o.done ≡ n → lines_read at o (lines (flat_map (function_lines p) rs)) ≡ lines_read (last_line at rs) (with_all o (names_from n rs) (drafts p at rs)) (lines [])
functions_read p at [] o n g none count = ap (λ (q : Outline). lines_read at q (lines [])) (sym (with_all_none o none))
functions_read p at (r ∷ rest) o n g none count =
    let d = draft_at p at r in
    let counted : length (with_done o d).done ≡ n + 1 = rw (length-append o.done (d ∷ []), count) refl in
    function_read p at r o (flat_map (function_lines p) rest) g.0 none
    ∙ functions_read p (line_below at r) rest (with_done o d) (n + 1) g.1 refl counted
    ∙ ap (λ (q : Outline). lines_read (last_line (line_below at r) rest) q (lines [])) (with_all_more o d (names_from (n + 1) rest) (drafts p (line_below at r) rest) ∙ ap (λ (k : ℕ). with_all o (record { name = r.name; at = k } ∷ names_from (n + 1) rest) (drafts p at (r ∷ rest))) count)

-- ---- the whole listing

nothing_read : (at : ℕ) (o : Outline) → lines_read at o (lines []) ≡ Ok o
unfolding lines_read
nothing_read at o = refl

-- the first line of the functions
abbrev pub first_line : Profile → ℕ
first_line One = 1
first_line Two = 2

abbrev pub outline_with : Program → Outline
outline_with p = record { profile = p.profile; functions = names_from 0 p.routines; done = drafts p (first_line p.profile) p.routines; current = None }

listing_lines : (p : Program) (profile : Profile) (rs : List Routine) → AllByRecursion (IsGoodRoutine p) rs → lines_read 1 empty (lines (profile_line profile ++ flat_map (function_lines p) rs)) ≡ Ok (record { profile = profile; functions = names_from 0 rs; done = drafts p (first_line profile) rs; current = None })
listing_lines p One rs g = functions_read p 1 rs empty 0 g refl refl ∙ nothing_read (last_line 1 rs) (record { profile = One; functions = names_from 0 rs; done = drafts p 1 rs; current = None })
listing_lines p Two rs g =
    words_said 1 empty (record empty { profile = Two }) (codes "profile") (codes "2" ∷ []) (flat_map (function_lines p) rs) (concrete (codes "profile") refl refl) (concrete (codes "2") refl refl, tt) refl
    ∙ functions_read p 2 rs (record empty { profile = Two }) 0 g refl refl
    ∙ nothing_read (last_line 2 rs) (record { profile = Two; functions = names_from 0 rs; done = drafts p 2 rs; current = None })

-- a listing is read as the functions that it lists
pub listing_outlined : (p : Program) → AllByRecursion (IsGoodRoutine p) p.routines → outline_of (listing p) ≡ Ok (outline_with p)
listing_outlined p g = rw (listing_lines p p.profile p.routines g) refl
