-- The columns of a list of events, one after another.
use Rattle.std.proofs.Common.{◌≡◌, append_assoc, ℕ, ◌+◌, ◌<◌, ◌≤◌, List, Bool, ◌++◌, length, arith, ap, ap₂, sym, ◌∙◌, take, drop, get_or}
use Rattle.std.specs.Prelude.{◌==◌, true, false, if◌then◌else◌}
use Rattle.std.proofs.Math.Nat.{le_refl}
use Rattle.std.proofs.lemmas.List.{take_more, length-take-le, drop_more}
use Rattle.sts_code.specs.Program.{Program}
use Rattle.sts_model.specs.declared.event.Event.{Event}
use Rattle.sts_model.specs.Run.{counts}
use Rattle.look_lines.specs.Watched.{Watched, watched}
use Rattle.look_lines.specs.declared.watch.Applied.{Applied}
use Rattle.look_tell.specs.Story.{after_events}
use Rattle.look_drawing.specs.Column.{maybe_column, one_more}
use Rattle.look_picture.specs.Picture.{columns_from, count_from}
use Rattle.look_picture.specs.Told.{event_words}

-- an event with this number, which counts or not
abbrev pub applied_of : ℕ → Event → Bool → Applied
applied_of n e is_counted = record { number = n; event = e; is_counted = is_counted }

-- an event with this number, at this state
abbrev pub numbered_at : Watched → ℕ → Event → Applied
numbered_at w n e = applied_of n e (counts w.program w.state e)

-- an event with this number, if these events came before
abbrev pub numbered : Program → List Event → ℕ → Event → Applied
numbered p done n e = numbered_at (watched p done) n e

-- the columns of the rest begin with that of the first event, if it has one
pub columns_next : (text : List ℕ) (brief : Bool) (p : Program) (n : ℕ) (es : List Event) (i : ℕ) (d : Event) → i < length es → columns_from text brief p n (take i es) (drop i es) ≡ maybe_column text (event_words text brief (i + 1) (after_events p (take i es)) (get_or es i d)) (watched p (take i es)) (watched p (take (i + 1) es)) brief n (numbered p (take i es) (i + 1) (get_or es i d)) ++ columns_from text brief p (one_more (event_words text brief (i + 1) (after_events p (take i es)) (get_or es i d)) n) (take (i + 1) es) (drop (i + 1) es)
columns_next text brief p n es i d inside =
    let long : length (take i es) ≡ i = length-take-le i es (omega (arith, inside)) in
    let e = get_or es i d in
    let line = λ (m : ℕ). event_words text brief (m + 1) (after_events p (take i es)) e in
    ap (columns_from text brief p n (take i es)) (drop_more es i d inside)
    ∙ ap₂ (λ (m : ℕ) done. maybe_column text (line m) (watched p (take i es)) (watched p done) brief n (numbered p (take i es) (m + 1) e) ++ columns_from text brief p (one_more (line m) n) done (drop (i + 1) es)) long (sym (take_more es i d inside))

-- the number of columns after one event more
pub count_next : (text : List ℕ) (brief : Bool) (p : Program) (n : ℕ) (es : List Event) (i : ℕ) (d : Event) → i < length es → count_from text brief p n (take i es) (drop i es) ≡ count_from text brief p (one_more (event_words text brief (i + 1) (after_events p (take i es)) (get_or es i d)) n) (take (i + 1) es) (drop (i + 1) es)
count_next text brief p n es i d inside =
    let long : length (take i es) ≡ i = length-take-le i es (omega (arith, inside)) in
    let e = get_or es i d in
    ap (count_from text brief p n (take i es)) (drop_more es i d inside)
    ∙ ap₂ (λ (m : ℕ) done. count_from text brief p (one_more (event_words text brief (m + 1) (after_events p (take i es)) e) n) done (drop (i + 1) es)) long (sym (take_more es i d inside))

-- one column more at most
few_if : (is_none : Bool) (n : ℕ) → (if is_none then n else n + 1) ≤ n + 1
few_if true n = omega arith
few_if false n = le_refl (n + 1)

pub one_more_few : (words : List ℕ) (n : ℕ) → one_more words n ≤ n + 1
one_more_few words n = few_if (length words == 0) n

-- the same for the number of columns, by the words of the event
pub count_after : (text : List ℕ) (brief : Bool) (p : Program) (n : ℕ) (es : List Event) (i : ℕ) (d : Event) (words : List ℕ) (m : ℕ) → i < length es → words ≡ event_words text brief (i + 1) (after_events p (take i es)) (get_or es i d) → m ≡ one_more words n → count_from text brief p m (take (i + 1) es) (drop (i + 1) es) ≡ count_from text brief p n (take i es) (drop i es)
count_after text brief p n es i d words m inside said more =
    ap (λ (k : ℕ). count_from text brief p k (take (i + 1) es) (drop (i + 1) es)) (more ∙ ap (λ (xs : List ℕ). one_more xs n) said)
    ∙ sym (count_next text brief p n es i d inside)

-- what was drawn before an event, its column and the columns of the rest are those from the event on
pub column_after : (text : List ℕ) (brief : Bool) (p : Program) (n : ℕ) (es : List Event) (i : ℕ) (d : Event) (words : List ℕ) (m : ℕ) (b w : Watched) (a : Applied) (out new : List ℕ) → i < length es → words ≡ event_words text brief (i + 1) (after_events p (take i es)) (get_or es i d) → m ≡ one_more words n → b ≡ watched p (take i es) → w ≡ watched p (take (i + 1) es) → a ≡ numbered p (take i es) (i + 1) (get_or es i d) → new ≡ out ++ maybe_column text words b w brief n a → new ++ columns_from text brief p m (take (i + 1) es) (drop (i + 1) es) ≡ out ++ columns_from text brief p n (take i es) (drop i es)
column_after text brief p n es i d words m b w a out new inside said more before after applied made =
    let e = get_or es i d in
    let line = event_words text brief (i + 1) (after_events p (take i es)) e in
    let column = maybe_column text line (watched p (take i es)) (watched p (take (i + 1) es)) brief n in
    let rest = λ (k : ℕ). columns_from text brief p k (take (i + 1) es) (drop (i + 1) es) in
    let here =
    ap (λ (xs : List ℕ). maybe_column text xs b w brief n a) said
    ∙ ap₂ (λ (x y : Watched). maybe_column text line x y brief n a) before after
    ∙ ap column applied in
    ap₂ (λ (xs : List ℕ) (k : ℕ). xs ++ rest k) (made ∙ ap (λ xs. out ++ xs) here) (more ∙ ap (λ (xs : List ℕ). one_more xs n) said)
    ∙ append_assoc out (column (numbered p (take i es) (i + 1) e)) (rest (one_more line n))
    ∙ ap (λ xs. out ++ xs) (sym (columns_next text brief p n es i d inside))
