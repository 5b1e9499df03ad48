-- The instruction set on one page: the word, the operands, what is popped and pushed, and where it
-- goes on (this project's own).
use Rattle.std.specs.Prelude.{ℕ, ℤ, List, [], ◌∷◌, Bool, true, false, Option, Some, None}
use Rattle.std.specs.Prelude.{codes, option_to_list}
use Rattle.sts_code.specs.declared.instr.Instr.{Instr}
use Rattle.sts_code.specs.declared.instr.Instr.TheVariants as i
use Rattle.sts_code.specs.declared.instr.Joiner.{Joiner}
use Rattle.sts_code.specs.declared.instr.Kind.{Kind}

-- An instruction may use a slot in one of these roles. The slot has to hold a scope that the task
-- opened, any scope, or a subtask; or the instruction fills it.
pub data Role : Type 0 where
  Owner : Role
  AnyScope : Role
  Subtask : Role
  Fill : Role

-- an operand with its value
pub data Operand : Type 0 where
  Value : (value : ℤ) → Operand
  Local : (x : ℕ) → Operand
  Turns : (n : ℕ) → Operand
  Label : (to : ℕ) → Operand
  MaybeLabel : (to : Option ℕ) → Operand
  InSlot : (role : Role) (x : ℕ) → Operand
  Handle : (h : Option ℕ) → Operand
  Function : (f : ℕ) → Operand
  State : (kind : Kind) → Operand
  Key : (k : ℕ) → Operand
  Rule : (joiner : Joiner) → Operand
  Timed : (timed : Bool) → Operand

-- where it goes on
pub data Flow : Type 0 where
  Steps : Flow
  Leaves : Flow
  Branches : Flow
  Ends : Flow

pub record Shape : Type 0 where
  pub word : List ℕ
  pub operands : List Operand
  pub pops : ℕ
  pub pushes : ℕ
  pub flow : Flow

abbrev pub row : List ℕ → List Operand → (pops pushes : ℕ) → Flow → Shape
row word operands pops pushes flow =
    record { word = word; operands = operands; pops = pops; pushes = pushes; flow = flow }

abbrev pub shape : Instr → Shape
shape (i.Push k) = row (codes "push") (Value k ∷ []) 0 1 Steps
shape i.Pop = row (codes "pop") [] 1 0 Steps
shape i.Dup = row (codes "dup") [] 1 2 Steps
shape i.Swap = row (codes "swap") [] 2 2 Steps
shape (i.Load x) = row (codes "load") (Local x ∷ []) 0 1 Steps
shape (i.Store x) = row (codes "store") (Local x ∷ []) 1 0 Steps
shape i.Add = row (codes "add") [] 2 1 Steps
shape i.Sub = row (codes "sub") [] 2 1 Steps
shape i.Mul = row (codes "mul") [] 2 1 Steps
shape i.Lt = row (codes "lt") [] 2 1 Steps
shape i.Eq = row (codes "eq") [] 2 1 Steps
shape (i.Div to) = row (codes "div") (Label to ∷ []) 2 1 Branches
shape (i.Jmp to) = row (codes "jmp") (Label to ∷ []) 0 0 Leaves
shape (i.Jz to) = row (codes "jz") (Label to ∷ []) 1 0 Branches
shape (i.Times n) = row (codes "times") (Turns n ∷ []) 1 0 Branches
shape i.Next = row (codes "next") [] 0 0 Branches
shape (i.Open s timed joiner) =
    row (codes "open") (InSlot Fill s ∷ Rule joiner ∷ Timed timed ∷ []) 0 0 Steps
shape (i.Fork s f h) =
    row (codes "fork") (InSlot Owner s ∷ Function f ∷ Handle h ∷ []) 0 0 Steps
shape (i.Join s failed timeout interrupted) =
    row (codes "join")
    (InSlot Owner s ∷ MaybeLabel failed ∷ MaybeLabel timeout ∷ Label interrupted ∷ []) 0 0 Branches
shape (i.Close s) = row (codes "close") (InSlot Owner s ∷ []) 0 0 Steps
shape (i.Cancelled s) = row (codes "cancelled") (InSlot AnyScope s ∷ []) 0 1 Steps
shape (i.Case h success failed) =
    row (codes "case") (InSlot Subtask h ∷ Label success ∷ Label failed ∷ []) 0 0 Branches
shape (i.Get h) = row (codes "get") (InSlot Subtask h ∷ []) 0 1 Steps
shape (i.Except h) = row (codes "except") (InSlot Subtask h ∷ []) 0 1 Steps
shape (i.Tally s kind) = row (codes "tally") (InSlot Owner s ∷ State kind ∷ []) 0 1 Steps
shape (i.Total s) = row (codes "total") (InSlot Owner s ∷ []) 0 1 Steps
shape (i.Forget h) = row (codes "forget") (InSlot Subtask h ∷ []) 0 0 Steps
shape (i.Bind k) = row (codes "bind") (Key k ∷ []) 1 0 Steps
shape i.Unbind = row (codes "unbind") [] 0 0 Steps
shape (i.Read k) = row (codes "read") (Key k ∷ []) 0 1 Steps
shape (i.Bound k) = row (codes "bound") (Key k ∷ []) 0 1 Steps
shape (i.OrElse k) = row (codes "orelse") (Key k ∷ []) 1 1 Steps
shape i.Interrupted = row (codes "interrupted") [] 0 1 Steps
shape i.Ret = row (codes "ret") [] 1 0 Ends
shape i.Fail = row (codes "fail") [] 1 0 Ends

-- ---- read off a row

-- the places that an operand names
abbrev pub places : Operand → List ℕ
places (Label to) = to ∷ []
places (MaybeLabel to) = option_to_list to
places _ = []

abbrev pub follows : Flow → Bool
follows Leaves = false
follows Ends = false
follows _ = true

-- the slot with this role
abbrev pub slot_for : Role → List Operand → Option ℕ
slot_for role [] = None
slot_for Owner (InSlot Owner x ∷ rest) = Some x
slot_for Subtask (InSlot Subtask x ∷ rest) = Some x
slot_for Fill (InSlot Fill x ∷ rest) = Some x
slot_for Fill (Handle h ∷ rest) = h
slot_for role (operand ∷ rest) = slot_for role rest
