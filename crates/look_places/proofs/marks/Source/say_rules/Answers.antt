use Rattle.std.proofs.Common.{◌≡◌, ℕ, ◌+◌, ◌<◌, List, ◌++◌, length, get_or, take, sym, ap, ◌∙◌}
use Rattle.std.specs.List.{flat_map}
use Rattle.std.proofs.lemmas.List.{flat_map_more, take_more}
use Rattle.look_accepted.specs.declared.notes.Note.{Note}
use Rattle.look_places.specs.Reports as def
use Rattle.look_places.proofs.marks.Source.say_rules.Goals as goal

-- one note more
more : (f : Note → List ℕ) (xs : List Note) (i : ℕ) (d : Note) (start old new : List ℕ) → i < length xs → old ≡ start ++ flat_map f (take i xs) → new ≡ old ++ f (get_or xs i d) → new ≡ start ++ flat_map f (take (i + 1) xs)
more f xs i d start old new less is e =
    e ∙ ap (λ (l : List ℕ). l ++ f (get_or xs i d)) is ∙ flat_map_more f start (take i xs) (get_or xs i d)
    ∙ ap (λ (l : List Note). start ++ flat_map f l) (sym (take_more xs i d less))

pub loop-note-preserved : goal.loop-note-preserved
loop-note-preserved c = more (def.rule_note c.args.self.now c.args.program.now) c.args.notes.now c.loop-note.note-index _
    c.args.out.now.items c.loop-note.out.items c.say_rule.new.out.items c.loop-note-test.true c.loop-note.invariant c.in_ok-say_rule.ensures
