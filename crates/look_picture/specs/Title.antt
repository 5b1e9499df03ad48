-- The names of the files of a picture, before the state of the run (this project's own).
use Rattle.std.specs.Prelude.{ℕ, List, [], ◌++◌, codes, Option, Some, None}
use Rattle.look_picture.specs.declared.title.FileNames.{FileNames}
use Rattle.look_drawing.specs.Writing.{escaped_words}

-- `sum.sts, sum.trace: `
abbrev pub names_words : FileNames → List ℕ
names_words files =
    escaped_words files.text.now ++ (codes ", " ++ (escaped_words files.trace.now ++ codes ": "))

-- the names, if the text and the trace are files
abbrev pub title_words : Option FileNames → List ℕ
title_words None = []
title_words (Some files) = names_words files
