use Rattle.std.proofs.Common.{◌≡◌, ℕ, ◌+◌, ◌<◌, List, [], ◌∷◌, ◌++◌, Bool, true, false, if◌then◌else◌, length, get_or, drop, map, refl, sym, ap, ◌∙◌, append_assoc}
use Rattle.std.specs.Prelude.{filter}
use Rattle.std.proofs.lemmas.List.{at_drop_more, map_push}
use Rattle.look_names.specs.Marked.{begins_function}
use Rattle.look_names.proofs.names.function_lines.Goals.{then-begins_function+in_ok-push, else-begins_function}
use Rattle.look_names.proofs.names.function_lines.Goals as goal

module _ {X : Type 0} (xs : List X) (f : X → List ℕ) (p : List ℕ → Bool) (i : ℕ) (d : X) (less : i < length xs) (old new : List X) (all : List (List ℕ)) (is : map f old ++ filter p (map f (drop i xs)) ≡ all) where
  abbrev rest : List (List ℕ)
  rest = filter p (map f (drop (i + 1) xs))

  next : (b : Bool) → p (f (get_or xs i d)) ≡ b → filter p (map f (drop i xs)) ≡ (if b then f (get_or xs i d) ∷ rest else rest)
  next b h = at_drop_more (λ l. filter p (map f l)) xs i d less ∙ ap (λ (c : Bool). if c then f (get_or xs i d) ∷ rest else rest) h

  -- one line more is found
  found : p (f (get_or xs i d)) ≡ true → new ≡ old ++ get_or xs i d ∷ [] → map f new ++ rest ≡ all
  found h more =
      ap (λ l. map f l ++ rest) more ∙ ap (λ l. l ++ rest) (map_push f old (get_or xs i d))
      ∙ append_assoc (map f old) (f (get_or xs i d) ∷ []) rest ∙ ap (λ l. map f old ++ l) (sym (next true h)) ∙ is

  -- the next line is passed over
  passed : p (f (get_or xs i d)) ≡ false → new ≡ old → map f new ++ rest ≡ all
  passed h same = ap (λ l. map f l ++ rest) same ∙ ap (λ l. map f old ++ l) (sym (next false h)) ∙ is

pub loop-line-preserved : goal.loop-line-preserved
loop-line-preserved c =
    let lines = c.args.text_lines.now in
    let at = c.loop-line.line-index in
    let old = c.loop-line.found.items in
    elim c.if-begins_function.branch [
      | then-begins_function+in_ok-push w ↦ rw w.found-is (found lines (λ l. l.now) begins_function at _ c.loop-line-test.true old
          w.push.new.self.items _ c.loop-line.invariant (sym c.begins_function.ensures ∙ w.if-begins_function.true)
          w.in_ok-push.ensures.items)
      | else-begins_function w ↦ rw w.found-is (passed lines (λ l. l.now) begins_function at _ c.loop-line-test.true old old _
          c.loop-line.invariant (sym c.begins_function.ensures ∙ w.if-begins_function.false) refl)
    ]
