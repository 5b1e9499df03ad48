-- What contracts see of a program (this project's own).
use Rattle.std.specs.Prelude.{ℕ, List, [], Bool, slice_index_or}
use Rattle.sts_code.specs.declared.instr.Instr.{Instr}
use Rattle.sts_code.specs.declared.instr.Instr.TheVariants.{Ret}
use Rattle.sts_code.specs.declared.profile.Profile.{Profile}

-- a function: its name's bytes, how many arguments it takes, which keys it needs, and its
-- instructions
pub record Routine : Type 0 where
  pub name : List ℕ
  pub args : ℕ
  pub needs : List Bool
  pub code : List Instr

pub record Program : Type 0 where
  pub profile : Profile
  pub routines : List Routine

-- the routine that is read if there is no such function
abbrev pub no_routine : Routine
no_routine = record { name = []; args = 0; needs = []; code = [] }

abbrev pub routine : Program → ℕ → Routine
routine p i = slice_index_or p.routines i no_routine

-- the instruction at a place; past the end it doesn't matter
abbrev pub instr_at : List Instr → ℕ → Instr
instr_at code pc = slice_index_or code pc Ret
