-- The bytes of a line as they are shown to a person (this project's own).
use Rattle.std.specs.Prelude.{ℕ, ◌&&◌, nat_le, if◌then◌else◌}

-- A byte that is no printable ASCII is shown as `?`. A tab is, too: shown as a space, it would make
-- a wrong line look right.
abbrev pub shown_byte : ℕ → ℕ
shown_byte b = if nat_le 32 b && nat_le b 126 then b else 63
