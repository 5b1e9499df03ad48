-- The words at the dots of steps (this project's own).
use Rattle.std.specs.Prelude.{ℕ, List, [], codes, Option, Some, None, if◌then◌else◌}
use Rattle.sts_code.specs.Program.{Program}
use Rattle.sts_code.specs.declared.instr.Instr.{Instr}
use Rattle.sts_code.specs.declared.instr.Instr.TheVariants as instr
use Rattle.sts_model.specs.Living.{lives}
use Rattle.sts_model.specs.World.{World, instr_at, task_at}
use Rattle.look_drawing.specs.Place.{word_line}
use Rattle.look_drawing.specs.Writing.{text_at}

-- the word of an instruction by which a task deals with a scope, or ends
abbrev pub word_of : Option Instr → Option (List ℕ)
word_of (Some (instr.Open s timed joiner)) = Some (codes "open")
word_of (Some (instr.Fork s g h)) = Some (codes "fork")
word_of (Some (instr.Join s failed timeout interrupted)) = Some (codes "join")
word_of (Some (instr.Close s)) = Some (codes "close")
word_of (Some instr.Ret) = Some (codes "ret")
word_of (Some instr.Fail) = Some (codes "fail")
word_of _ = None

-- the word of the next instruction of a living task
abbrev pub next_word : Program → World → ℕ → Option (List ℕ)
next_word p w t =
    if lives (task_at w t) then word_of (instr_at p (task_at w t).frame) else None

-- over the dot of a step
abbrev pub step_word : ℕ → ℕ → Option (List ℕ) → List ℕ
step_word x t None = []
step_word x t (Some word) = text_at (codes "word") x (word_line t) word
