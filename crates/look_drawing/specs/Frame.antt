-- What is round the columns of a picture: its size, its description, the grid and the legend (this
-- project's own).
use Rattle.std.specs.Prelude.{ℕ, ◌*◌, Bool, false, if◌then◌else◌, List, ◌++◌, length, codes}
use Rattle.std.specs.Fmt.{decimal}
use Rattle.look_lines.specs.View.{view_lines}
use Rattle.look_lines.specs.Watched.{Watched}
use Rattle.look_drawing.specs.declared.marks.Mark.{Mark}
use Rattle.look_drawing.specs.Legend.{legend}
use Rattle.look_drawing.specs.Place.{columns_width, height, lane, width}
use Rattle.look_drawing.specs.Style.{style}
use Rattle.look_drawing.specs.Writing.{text_at}

-- the classes of a picture; the style draws narrower marks in a brief one
abbrev pub classes : Bool → List ℕ
classes brief = if brief then codes "sts-run sts-brief" else codes "sts-run"

unfoldable pub svg_start : List ℕ → ℕ → ℕ → List ℕ
svg_start class wide high =
    codes "<svg xmlns='http://www.w3.org/2000/svg' class='" ++ (class
    ++ (codes "' role='img' viewBox='0 0 " ++ (decimal wide ++ (codes " " ++ (decimal high
    ++ (codes "' width='" ++ (decimal wide ++ (codes "' height='" ++ (decimal high
    ++ codes "'>\n<title>")))))))))

-- the size of a picture of these many columns, with a heading of these many letters and these many
-- keys
abbrev pub sized : Watched → Bool → ℕ → ℕ → ℕ → List ℕ
sized m brief columns letters keys =
    svg_start (classes brief) (width brief columns letters) (height (length m.last.tasks) keys)

-- the lines of all tasks and scopes
unfoldable pub standing_lines : Watched → List ℕ
standing_lines m = view_lines (record { each = false; full = false; living = false }) m

unfoldable pub description_start : List ℕ
description_start = codes "</title>\n<desc>"

unfoldable pub description_end : List ℕ
description_end = codes "</desc>\n"

-- the description for readers who don't see the picture: after the state of the run, all tasks and
-- scopes
abbrev pub description : Watched → List ℕ
description m = description_start ++ (standing_lines m ++ description_end)

-- the size, this heading as the title, and all tasks and scopes
abbrev pub head : List ℕ → Watched → Bool → ℕ → ℕ → List ℕ
head heading m brief columns keys =
    sized m brief columns (length heading) keys ++ (heading ++ description m)

-- the style, and the grid behind the lanes
abbrev pub grid : List ℕ → ℕ → ℕ → List ℕ
grid style wide high =
    style ++ (codes "<rect class='ground' x='208' y='46' width='" ++ (decimal wide
    ++ (codes "' height='" ++ (decimal high ++ codes "'/>\n"))))

-- the style, and the grid behind these many columns and lanes
abbrev pub grid_of : Bool → ℕ → ℕ → List ℕ
grid_of brief columns tasks = grid style (columns_width brief columns) (52 * tasks)

-- the grid behind these many columns, and this heading above it
abbrev pub backdrop : List ℕ → Watched → Bool → ℕ → List ℕ
backdrop heading m brief columns =
    grid_of brief columns (length m.last.tasks)
    ++ text_at (codes "heading") 12 22 heading

-- the group of the legend, from this height on
abbrev pub foot_start : ℕ → List ℕ
foot_start y = codes "<g transform='translate(12 " ++ decimal y ++ codes ")'>\n"

abbrev pub foot_end : List ℕ
foot_end = codes "</g>\n</svg>\n"

abbrev pub foot : ℕ → List Mark → List ℕ
foot tasks keys = foot_start (lane tasks) ++ (legend keys ++ foot_end)
