use Rattle.std.proofs.Common.{◌≡◌, ℕ, Bool, true, false, List, ◌++◌, refl, sym, ◌∙◌, ap}
use Rattle.std.specs.Prelude.{Option, Some, None, Result, Ok, Err}
use Rattle.sts_code.specs.declared.instr.Instr.{Instr}
use Rattle.sts_code.specs.declared.instr.Instr.TheVariants as i
use Rattle.sts_asm.specs.declared.fault.AsmKind.{AsmKind}
use Rattle.sts_asm.specs.Marks.{Mark, Names}
use Rattle.sts_asm.specs.Line.{has_names, instr_of}
use Rattle.sts_asm.specs.Kept.{is_naming_read}
use Rattle.sts_asm.specs.Table.{Spells, IsMaybeLabel}
use Rattle.sts_asm.proofs.MarkLemmas.{marked_later}
use Rattle.sts_asm.proofs.TableLemmas.{spelled_read, read_spelled}

pub bool_cases : {P : Type 0} (b : Bool) → (b ≡ true → P) → (b ≡ false → P) → P
bool_cases true f g = f refl
bool_cases false f g = g refl

-- ---- an instruction that names nothing

-- the words of an instruction without names spell it, whatever the names
nameless_spelled : (known names : Option Names) (instr : Instr) (words : List (List ℕ)) → has_names instr ≡ false → Spells known instr words → Spells names instr words
nameless_spelled known names (i.Div to) words without spelled = cc
nameless_spelled known names (i.Jmp to) words without spelled = cc
nameless_spelled known names (i.Jz to) words without spelled = cc
nameless_spelled known names (i.Fork s f h) words without spelled = cc
nameless_spelled known names (i.Join s f t r) words without spelled = cc
nameless_spelled known names (i.Case h s f) words without spelled = cc
nameless_spelled known names _ words without spelled = spelled

-- an instruction without names is read alike, whatever the names
read_alike : (known names : Option Names) (instr : Instr) (words : List (List ℕ)) → has_names instr ≡ false → instr_of known words ≡ Ok instr → instr_of names words ≡ Ok instr
read_alike known names instr words e h = spelled_read names instr words (nameless_spelled known names instr words e (read_spelled known words instr h))

pub nameless : (names : Option Names) (instr : Instr) (words : List (List ℕ)) → has_names instr ≡ false → instr_of None words ≡ Ok instr → instr_of names words ≡ Ok instr
nameless names = read_alike None names

named_stays : (names : Names) (words : List (List ℕ)) (i j : Instr) → instr_of None words ≡ Ok i → has_names i ≡ true → instr_of (Some names) words ≡ Ok j → has_names j ≡ true
named_stays names words i j h e said =
    bool_cases (has_names j) (λ n. n)
    (λ n.
    let again : instr_of None words ≡ Ok j = read_alike (Some names) None j words n said in
    let both = sym h ∙ again in
    let is : i ≡ j = cc in
    let no : true ≡ false = sym e ∙ ap has_names is ∙ n in
    absurd (cc))

-- an instruction that names something also names something when its names are looked up
pub named_again : (names : Names) (words : List (List ℕ)) (first : Result Instr AsmKind) (j : Instr) → instr_of None words ≡ first → is_naming_read first ≡ true → instr_of (Some names) words ≡ Ok j → has_names j ≡ true
named_again names words (Ok i) j h e said = named_stays names words i j h e said
named_again names words (Err k) j h e said = absurd (cc)

-- ---- more functions

later_maybe : (labels functions all : List Mark) (to : Option ℕ) (word : List ℕ) → IsMaybeLabel (Some (record { labels = labels; functions = functions })) to word → IsMaybeLabel (Some (record { labels = labels; functions = all })) to word
later_maybe labels functions all None word h = h
later_maybe labels functions all (Some to) word h = h

later_spelled : (labels functions later : List Mark) (instr : Instr) (words : List (List ℕ)) → Spells (Some (record { labels = labels; functions = functions })) instr words → Spells (Some (record { labels = labels; functions = functions ++ later })) instr words
later_spelled labels fs later (i.Fork x f h) words (r, e, (o, s, a, p, (o1, s1, a1, (w1, b1, c1), more))) =
    (r, e, (o, s, a, p, (o1, s1, a1, (w1, b1, (c1.0, marked_later fs later w1 f c1.1)), more)))
later_spelled labels fs later (i.Join x f t to) words (r, e, (o, s, a, p, (o1, s1, a1, (w1, b1, c1), (o2, s2, a2, (w2, b2, c2), more)))) =
    (r, e, (o, s, a, p, (o1, s1, a1, (w1, b1, later_maybe labels fs (fs ++ later) f w1 c1), (o2, s2, a2, (w2, b2, later_maybe labels fs (fs ++ later) t w2 c2), more))))
later_spelled labels fs later _ words spelled = spelled

-- an instruction whose names are known is read alike when more functions are known
pub later_read : (labels functions later : List Mark) (words : List (List ℕ)) (instr : Instr) → instr_of (Some (record { labels = labels; functions = functions })) words ≡ Ok instr → instr_of (Some (record { labels = labels; functions = functions ++ later })) words ≡ Ok instr
later_read labels fs later words instr h =
    let known : Option Names = Some (record { labels = labels; functions = fs }) in
    let names : Option Names = Some (record { labels = labels; functions = fs ++ later }) in
    spelled_read names instr words (later_spelled labels fs later instr words (read_spelled known words instr h))
