-- Readings of the records of an environment.
use Rattle.std.proofs.Common.{◌≡◌, ◌≢◌, ℕ, zero, suc, List, [], ◌∷◌, Option, Some, None, sym, ◌∙◌}
use Rattle.sts_env.specs.Environments.{Records, AreWhole, keys, bindings, keys_of, list_of, IsWhole, record_at}
use Rattle.sts_env.specs.declared.env.Env.{Env}
use Rattle.sts_env.specs.declared.env.Record.{Record}
use Rattle.sts_env.proofs.WalkLemmas.{front_of, bindings_cons}

-- an environment with a record has a binding
has_binding : (at : ℕ → Option Record) (n : ℕ) (front : Option ℕ) (k : ℕ) (rest : List ℕ) → AreWhole at n front → keys at n front ≡ k ∷ rest → bindings at n front ≢ []
has_binding at zero front k rest w e = λ no. cc
has_binding at (suc n) None k rest w e = λ no. cc
has_binding at (suc n) (Some x) k rest w e =
    let f = front_of at n x w in
    λ no. let some = sym (bindings_cons at n x f.r f.is) ∙ no in cc

pub some_bound : (c : Records) (env : Env) (k : ℕ) (rest : List ℕ) → IsWhole c env → keys_of c env ≡ k ∷ rest → list_of c env ≢ []
some_bound c env k rest w e = has_binding (record_at c) env.length env.front k rest w e
