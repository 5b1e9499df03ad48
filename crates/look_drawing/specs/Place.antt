-- The positions of a picture's columns, lanes and brackets, in pixels (this project's own).
use Rattle.std.specs.Prelude.{ℕ, ◌+◌, ◌*◌, ◌/◌, ◌%◌, Bool, false, not, ◌&&◌, ◌==◌, nat_lt, min, max, if◌then◌else◌, take, count_by}
use Rattle.sts_model.specs.declared.record.Scope.{Scope}
use Rattle.sts_model.specs.declared.record.Entry.{Entry}
use Rattle.sts_model.specs.declared.record.Entry.TheVariants as entry
use Rattle.sts_model.specs.Living.{is_closed}
use Rattle.sts_model.specs.World.{World, scope_at}

-- the middle of the n-th column; column 0 is before the first event
abbrev pub column : Bool → ℕ → ℕ
column brief n = if brief then 208 + 16 * n else 208 + 24 * n

-- the width of these many columns and of the one before them
abbrev pub columns_width : Bool → ℕ → ℕ
columns_width brief n = if brief then 16 * n + 16 else 24 * n + 24

-- the height of the middle of the number over the n-th column; in a brief picture it is lower and
-- higher by turns
abbrev pub number_line : Bool → ℕ → ℕ
number_line brief n = if brief && (n % 2 == 1) then 30 else 40

-- the middle of a task's lane
abbrev pub lane : ℕ → ℕ
lane t = 72 + 52 * t

-- the heights of the flash for an interrupt and of the word for a step, over a task's lane
abbrev pub over_lane : ℕ → ℕ
over_lane t = 59 + 52 * t

abbrev pub word_line : ℕ → ℕ
word_line t = 64 + 52 * t

-- is it a scope of this task, and not closed?
abbrev pub is_open_of : ℕ → Scope → Bool
is_open_of t scope = (scope.owner == t) && not (is_closed scope.phase)

-- is it an entry of a scope that was born before s?
abbrev pub is_before : ℕ → Entry → Bool
is_before s (entry.Binding k v) = false
is_before s (entry.Scope r) = nat_lt r s

-- the number of scopes of its owner that a scope is in
abbrev pub depth : World → ℕ → ℕ
depth w s = count_by (is_open_of (scope_at w s).owner) (take s w.scopes)

-- the bracket of a scope of this task, by the number of the task's scopes that it is in. It is
-- below the task's lane, and lower if it is in another; from the third scope on all have the same height
abbrev pub bracket_at : ℕ → ℕ → ℕ
bracket_at owner depth = lane owner + 14 + 9 * min depth 2

abbrev pub bracket : World → ℕ → ℕ
bracket w s = bracket_at (scope_at w s).owner (depth w s)

-- the width of a picture of these many columns, with a heading of these many letters
abbrev pub width : Bool → ℕ → ℕ → ℕ
width brief columns letters = max (column brief columns + 168) (max 480 (24 + 9 * letters))

-- the place of a key of the legend, by its number, from the legend's left and from its top; there are
-- two in a row
abbrev pub key_x : ℕ → ℕ
key_x n = 232 * (n % 2)

abbrev pub key_y : ℕ → ℕ
key_y n = 20 * (n / 2)

-- the height of a picture of these many tasks, with these many keys in its legend
abbrev pub height : ℕ → ℕ → ℕ
height tasks keys = lane tasks + 20 * ((keys + 1) / 2)
