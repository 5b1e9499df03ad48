-- The elements of a picture, and the escapes of their words (this project's own).
use Rattle.std.specs.Prelude.{ℕ, List, [], ◌++◌, ◌*◌, ◌/◌, ◌==◌, nat_lt, max, length, codes, encode_utf8, chars, if◌then◌else◌}
use Rattle.std.specs.List.{flat_map}
use Rattle.std.specs.Fmt.{decimal}
use Rattle.look_drawing.specs.declared.marks.Mark.{Mark}
use Rattle.look_drawing.specs.declared.writing.Room.{Room}
use Rattle.look_drawing.specs.Marks.{begins, shape}

-- a mark at a point, up to the words that describe it
unfoldable pub mark_start : Mark → ℕ → ℕ → List ℕ
mark_start m x y =
    begins m ++ codes " d='M" ++ decimal x ++ codes " " ++ decimal y ++ shape m
    ++ codes "'><title>"

abbrev pub mark_end : List ℕ
mark_end = codes "</title></path>\n"

-- a mark at a point, and the words that describe it
abbrev pub mark_at : Mark → ℕ → ℕ → List ℕ → List ℕ
mark_at m x y words = mark_start m x y ++ (words ++ mark_end)

-- a text of a class begins at a point
unfoldable pub text_start : List ℕ → ℕ → ℕ → List ℕ
text_start class x y =
    codes "<text class='" ++ class ++ codes "' x='" ++ decimal x
    ++ codes "' y='" ++ decimal y ++ codes "'>"

abbrev pub text_end : List ℕ
text_end = codes "</text>\n"

-- these words as a text of a class at a point
abbrev pub text_at : List ℕ → ℕ → ℕ → List ℕ → List ℕ
text_at class x y words = text_start class x y ++ (words ++ text_end)

-- a character of a text, or its escape if it means something in XML
abbrev pub escaped_char : ℕ → List ℕ
escaped_char c =
    if c == 60 then codes "&lt;"
    else (if c == 62 then codes "&gt;"
    else (if c == 38 then codes "&amp;" else encode_utf8 c))

-- a text of one byte for each character
abbrev pub escaped : List ℕ → List ℕ
escaped text = flat_map escaped_char text

-- a line of such a text
abbrev pub escaped_line : List ℕ → List ℕ
escaped_line text = escaped text ++ codes "\n"

-- any text
abbrev pub escaped_words : List ℕ → List ℕ
escaped_words text = escaped (chars text)

-- the size of letters that are more than a room has: so small that they fit, but at least a pixel
abbrev pub small : ℕ → Room → ℕ
small letters room = max 1 (room.letters * room.size / letters)

-- the attribute of a size of letters
unfoldable pub sized : ℕ → List ℕ
sized size = codes " style='font-size:" ++ decimal size ++ codes "px'"

-- the attribute of words of more letters than their room has: they are written smaller
abbrev pub shrunk : ℕ → Room → List ℕ
shrunk letters room =
    if nat_lt room.letters letters then sized (small letters room) else []

-- a text of a class at a point, before its further attributes
unfoldable pub text_place : List ℕ → ℕ → ℕ → List ℕ
text_place class x y =
    codes "<text class='" ++ class ++ codes "' x='" ++ decimal x
    ++ codes "' y='" ++ decimal y ++ codes "'"

-- a text of a class and of these many letters begins at a point, and fits into its room
abbrev pub fitted_start : List ℕ → ℕ → ℕ → ℕ → Room → List ℕ
fitted_start class x y letters room =
    text_place class x y ++ (shrunk letters room ++ codes ">")

-- words of a class at a point, which fit into their room
abbrev pub fitted_text : List ℕ → ℕ → ℕ → List ℕ → Room → List ℕ
fitted_text class x y words room =
    fitted_start class x y (length words) room ++ (escaped words ++ text_end)
