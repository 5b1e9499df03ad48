-- A scope as it is kept, with the place of its environment (this project's own).
use Rattle.std.specs.Prelude.{◌≡◌, ℕ, List, [], length, true, Option, None, Some, false}
use Rattle.std.specs.Prelude.{slice_index_or}
use Rattle.sts_code.specs.declared.instr.Joiner.TheVariants.{AwaitAll}
use Rattle.sts_model.specs.declared.event.Phase.TheVariants.{Closed}
use Rattle.sts_model.specs.declared.record.Scope.{Scope}
use Rattle.sts_world.specs.Chains.{bindings_of, is_within}
use Rattle.sts_world.specs.declared.chains.BindingLink.{BindingLink}
use Rattle.sts_world.specs.declared.scope.ScopeRecord.{ScopeRecord}

-- the scope, with its environment spelled out
abbrev pub shown : List BindingLink → ScopeRecord → Scope
shown links s =
    record {
      owner = s.owner;
      joiner = s.joiner;
      timed = s.timed;
      phase = s.phase;
      cancelled = s.cancelled;
      expired = s.expired;
      completions = s.completions;
      environment = bindings_of links s.front;
    }

-- the scope that is read if none was born
abbrev pub no_record : ScopeRecord
no_record =
    record {
      owner = 0;
      joiner = AwaitAll;
      timed = false;
      phase = Closed;
      cancelled = false;
      expired = false;
      completions = [];
      front = None;
    }

-- the place of the environment that a scope keeps
abbrev pub front_of : List ScopeRecord → Option ℕ → Option ℕ
front_of scopes None = None
front_of scopes (Some s) = (slice_index_or scopes s no_record).front

-- each scope's environment has only links that exist
abbrev pub AreWithin : List BindingLink → List ScopeRecord → Type 0
AreWithin links scopes =
    (s : ℕ) → is_within (length links) (slice_index_or scopes s no_record).front ≡ true

-- the scope has all that the record says, except its environment
pub record IsShown (s : ScopeRecord) (scope : Scope) : Type 0 where
  pub owner : scope.owner ≡ s.owner
  pub joiner : scope.joiner ≡ s.joiner
  pub timed : scope.timed ≡ s.timed
  pub phase : scope.phase ≡ s.phase
  pub cancelled : scope.cancelled ≡ s.cancelled
  pub expired : scope.expired ≡ s.expired
  pub completions : scope.completions ≡ s.completions

-- the two scopes differ at most in the places of their environments
abbrev pub IsAlike : ScopeRecord → ScopeRecord → Type 0
IsAlike a b = IsShown b (shown [] a)
