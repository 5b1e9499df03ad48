-- The legend of a picture: the marks that the picture has, and what they mean (this project's own).
use Rattle.std.specs.Prelude.{ℕ, ◌+◌, Bool, List, [], ◌∷◌, ◌++◌, codes, filter, is_some}
use Rattle.memchr.specs.Find.{first_of, matches}
use Rattle.look_drawing.specs.declared.marks.Mark.{Mark}
use Rattle.look_drawing.specs.declared.marks.Mark.TheVariants as mark
use Rattle.look_drawing.specs.Marks.{begins, meaning}
use Rattle.look_drawing.specs.Place.{key_x, key_y}
use Rattle.look_drawing.specs.Writing.{mark_at, text_at}

-- all marks, in the order of the legend
unfoldable pub marks : List Mark
marks =
    mark.Ready ∷ mark.Waits ∷ mark.Step ∷ mark.Fork ∷ mark.Success ∷ mark.Failed ∷ mark.Unheard ∷ mark.NeverStarted ∷ mark.Interrupted ∷ mark.Bracket ∷ mark.Edge ∷ mark.Closing ∷ mark.Expired ∷ mark.Cancelled ∷ mark.QuietCancel ∷ mark.Fault ∷ mark.Idle ∷ []

-- is the mark anywhere in these columns?
abbrev pub is_drawn : List ℕ → Mark → Bool
is_drawn columns m = is_some (first_of (matches columns (begins m) 0))

-- the marks that these columns have
unfoldable pub keys : List ℕ → List Mark
keys columns = filter (is_drawn columns) marks

-- the mark of the key of this number, and the words next to it
abbrev pub key_mark : ℕ → Mark → List ℕ
key_mark n m = mark_at m (key_x n) (key_y n) (meaning m)

abbrev pub key_text : ℕ → List ℕ → List ℕ
key_text n words = text_at (codes "key") (key_x n + 32) (key_y n + 4) words

-- a mark, and what it means
abbrev pub key : ℕ → Mark → List ℕ
key n m = key_mark n m ++ key_text n (meaning m)

-- the keys of these marks, numbered from n on
abbrev pub legend_from : ℕ → List Mark → List ℕ
legend_from n [] = []
legend_from n (m ∷ ms) = key n m ++ legend_from (n + 1) ms

abbrev pub legend : List Mark → List ℕ
legend keys = legend_from 0 keys
