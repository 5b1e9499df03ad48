use Rattle.std.proofs.Common.{◌≡◌, ℕ, ◌+◌, ◌<◌, ◌≤◌, List, ◌++◌, length, get_or, take, sym, ap, ◌∙◌}
use Rattle.std.specs.List.{flat_map}
use Rattle.std.proofs.lemmas.List.{flat_map_more, take_all, take_more}
use Rattle.look_accepted.specs.Lines.{note_line}
use Rattle.look_accepted.proofs.lines.note_lines.Goals as goal

-- the lines of one item more
more : {X Y : Type 0} (f : X → List Y) (xs : List X) (i : ℕ) (d : X) (start old new : List Y) → i < length xs → old ≡ start ++ flat_map f (take i xs) → new ≡ old ++ f (get_or xs i d) → new ≡ start ++ flat_map f (take (i + 1) xs)
more {X} f xs i d start old new less is e =
    e ∙ ap (λ l. l ++ f (get_or xs i d)) is
    ∙ flat_map_more f start (take i xs) (get_or xs i d)
    ∙ ap (λ (l : List X). start ++ flat_map f l) (sym (take_more xs i d less))

all : {X Y : Type 0} (f : X → List Y) (xs : List X) (i : ℕ) (start new : List Y) → length xs ≤ i → new ≡ start ++ flat_map f (take i xs) → new ≡ start ++ flat_map f xs
all {X} f xs i start new past is = is ∙ ap (λ (l : List X). start ++ flat_map f l) (take_all i xs past)

pub loop-note-preserved : goal.loop-note-preserved
loop-note-preserved c = more (note_line c.args.outline.now c.args.program.now) c.args.notes.now c.loop-note.note-index _
    c.args.out.now.items c.loop-note.out.items c.say_note.new.out.items c.loop-note-test.true c.loop-note.invariant c.in_ok-say_note.ensures

pub returns : goal.returns
returns c = all (note_line c.args.outline.now c.args.program.now) c.args.notes.now c.loop-note.note-index c.args.out.now.items
    c.loop-note.out.items c.loop-note-test.false c.loop-note.invariant
