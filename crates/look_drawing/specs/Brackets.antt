-- The scopes in a column (this project's own).
use Rattle.std.specs.Prelude.{ℕ, ◌+◌, Bool, true, false, not, ◌&&◌, if◌then◌else◌, List, ◌∷◌, [], ◌++◌, codes}
use Rattle.std.specs.Fmt.{decimal}
use Rattle.sts_model.specs.declared.event.Phase.{Phase}
use Rattle.sts_model.specs.declared.event.Phase.TheVariants as phase
use Rattle.sts_model.specs.declared.record.Scope.{Scope}
use Rattle.sts_model.specs.Living.{is_closed}
use Rattle.sts_model.specs.World.{World, scope_at}
use Rattle.look_lines.specs.Lines.{phase_word, scope_place}
use Rattle.look_drawing.specs.declared.marks.Mark.{Mark}
use Rattle.look_drawing.specs.declared.marks.Mark.TheVariants as mark
use Rattle.look_drawing.specs.Place.{bracket}
use Rattle.look_drawing.specs.Writing.{mark_at, text_end, text_start}

-- a mark of a scope, described by the scope's place and this word
abbrev pub scope_mark : Mark → World → ℕ → ℕ → List ℕ → List ℕ
scope_mark m w x s word =
    mark_at m x (bracket w s) (scope_place s (scope_at w s) ++ (codes " " ++ word))

-- the scope's number, at the place of its opening
abbrev pub scope_number : World → ℕ → ℕ → List ℕ
scope_number w x s = text_start (codes "label") (x + 4) (bracket w s + 3) ++ (decimal s ++ text_end)

abbrev pub line_mark : Phase → Mark
line_mark phase.Closing = mark.Closing
line_mark _ = mark.Bracket

-- a scope that isn't closed: its number in its first column, a line in each later one
abbrev pub span : World → World → ℕ → ℕ → List ℕ
span before w x s =
    if is_closed (scope_at w s).phase then []
    else (if is_closed (scope_at before s).phase then scope_number w x s
    else scope_mark (line_mark (scope_at w s).phase) w x s (phase_word (scope_at w s).phase))

-- the two phases are the same
abbrev pub same_phase : Phase → Phase → Bool
same_phase phase.Opened phase.Opened = true
same_phase phase.Attempted phase.Attempted = true
same_phase phase.Joined phase.Joined = true
same_phase phase.Closing phase.Closing = true
same_phase phase.Closed phase.Closed = true
same_phase a b = false

-- its phase is another one than in the column before
abbrev pub has_moved : World → World → ℕ → Bool
has_moved before w s =
    not (same_phase (scope_at before s).phase (scope_at w s).phase)

-- its time was up since the column before
abbrev pub has_expired : World → World → ℕ → Bool
has_expired before w s = (scope_at w s).expired && not (scope_at before s).expired

-- it was cancelled since the column before
abbrev pub was_cancelled : World → World → ℕ → Bool
was_cancelled before w s = (scope_at w s).cancelled && not (scope_at before s).cancelled

-- a mark of a scope, if it is to be shown
abbrev pub mark_if : Bool → Mark → World → ℕ → ℕ → List ℕ → List ℕ
mark_if is_shown m w x s word = if is_shown then scope_mark m w x s word else []

-- the mark of a cancel, by the scope's phase after it. If a `close` cancels a scope and closes it at
-- once, no subtask lives that the cancel could interrupt: its mark is quiet
abbrev pub cancel_mark : Phase → Mark
cancel_mark p = if is_closed p then mark.QuietCancel else mark.Cancelled

abbrev pub cancel_edge : World → World → ℕ → ℕ → List ℕ
cancel_edge before w x s =
    if was_cancelled before w s
    then scope_mark (cancel_mark (scope_at w s).phase) w x s (codes "cancelled") else []

-- the mark for a change of its phase
abbrev pub phase_edge : World → World → ℕ → ℕ → List ℕ
phase_edge before w x s =
    mark_if (has_moved before w s) mark.Edge w x s (phase_word (scope_at w s).phase)

abbrev pub expiry_edge : World → World → ℕ → ℕ → List ℕ
expiry_edge before w x s = mark_if (has_expired before w s) mark.Expired w x s (codes "expired")

-- the marks for a change of its phase, for an expiry and for a cancel
abbrev pub edges : World → World → ℕ → ℕ → List ℕ
edges before w x s =
    phase_edge before w x s ++ (expiry_edge before w x s ++ cancel_edge before w x s)

-- nothing of a scope that was closed before
abbrev pub scope_cell : World → World → ℕ → ℕ → List ℕ
scope_cell before w x s =
    if is_closed (scope_at before s).phase && is_closed (scope_at w s).phase then []
    else span before w x s ++ edges before w x s

-- the cells of these scopes, numbered from s on
abbrev pub scope_cells : World → World → ℕ → List Scope → ℕ → List ℕ
scope_cells before w x [] s = []
scope_cells before w x (scope ∷ scopes) s =
    scope_cell before w x s ++ scope_cells before w x scopes (s + 1)
