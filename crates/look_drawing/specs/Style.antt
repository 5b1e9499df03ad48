-- The style that all pictures share. It is chosen freely, and nothing is proved from it (this
-- project's own).
use Rattle.std.specs.Prelude.{ℕ, List}
use Rattle.look_drawing.specs.declared.style.TheConstants.{STYLE}

-- the style, in light and dark, and the ground
unfoldable pub style : List ℕ
style = STYLE.now
