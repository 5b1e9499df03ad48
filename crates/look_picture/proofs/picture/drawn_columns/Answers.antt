use Rattle.std.proofs.Common.{◌≡◌, ℕ, Bool, List, ◌++◌, ◌∙◌, ap, append_assoc, sym, take, drop}
use Rattle.std.specs.String.{string_bytes}
use Rattle.sts_code.specs.Program.{Program}
use Rattle.sts_model.specs.declared.event.Event.{Event}
use Rattle.look_lines.specs.Watched.{Watched, watched}
use Rattle.look_tell.specs.Story.{after_events}
use Rattle.look_drawing.specs.Column as column
use Rattle.look_picture.specs.Picture as def
use Rattle.look_drawing.proofs.WatchingLemmas.{held_watched}
use Rattle.look_picture.proofs.picture.drawn_columns.Goals as goal

-- the first column and then the others
columns_said : (text : List ℕ) (brief : Bool) (p : Program) (m : Watched) (n : ℕ) (es : List Event) (before one two : List ℕ) → m ≡ watched p (take n es) → one ≡ before ++ column.first_column text m → two ≡ one ++ def.columns_from text brief m.program 0 (take n es) (drop n es) → two ≡ before ++ def.columns text brief p n es
columns_said text brief p m n es before one two behind first others =
    let start : List ℕ = column.first_column text (watched p (take n es)) in
    let rest : List ℕ = def.columns_from text brief p 0 (take n es) (drop n es) in
    others ∙ ap (λ (w : Watched). one ++ def.columns_from text brief w.program 0 (take n es) (drop n es)) behind
    ∙ ap (λ (xs : List ℕ). xs ++ rest) (first ∙ ap (λ (w : Watched). before ++ column.first_column text w) behind)
    ∙ append_assoc before start rest

pub first_column-requires-clause-held : goal.first_column-requires-clause-held
first_column-requires-clause-held c =
    held_watched c.args.program.now (take c.args.skipped c.args.events.now) c.args.before.now c.requires.behind

pub event_columns-requires-clause-behind : goal.event_columns-requires-clause-behind
event_columns-requires-clause-behind c =
    c.requires.behind
    ∙ ap (λ (w : Watched). watched w.program (take c.args.skipped c.args.events.now)) (sym c.requires.behind)

pub event_columns-requires-clause-told : goal.event_columns-requires-clause-told
event_columns-requires-clause-told c =
    c.in_ok-story.ensures
    ∙ ap (λ (w : Watched). after_events w.program (take c.args.skipped c.args.events.now)) (sym c.requires.behind)

pub returns-clause-counted : goal.returns-clause-counted
returns-clause-counted c =
    c.in_ok-count.ensures.counted
    ∙ ap (λ (w : Watched). def.count c.args.manner.names.now c.args.manner.brief w.program c.args.skipped c.args.events.now) c.requires.behind

pub returns-clause-told : goal.returns-clause-told
returns-clause-told c =
    c.in_ok-count.ensures.told ∙ ap (λ (w : Watched). after_events w.program c.args.events.now) c.requires.behind

pub returns-clause-drawn : goal.returns-clause-drawn
returns-clause-drawn c =
    columns_said c.args.manner.names.now c.args.manner.brief c.args.program.now c.args.before.now c.args.skipped c.args.events.now
    (string_bytes c.args.out.now) (string_bytes c.first_column.new.out) (string_bytes c.event_columns.new.out)
    c.requires.behind c.in_ok-first_column.ensures c.in_ok-count.ensures.drawn
