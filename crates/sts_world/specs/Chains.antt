-- Environments that share their bindings: each binding is a link, which names the next older link
-- (this project's own).
use Rattle.std.specs.Prelude.{◌≡◌, ℕ, zero, suc, pos, List, [], ◌∷◌, ◌++◌, length, nat_lt}
use Rattle.std.specs.Prelude.{slice_index_or, Bool, true, Option, Some, None, if◌then◌else◌}
use Rattle.sts_model.specs.declared.record.Bound.{Bound}
use Rattle.sts_model.specs.Living.{is_in}
use Rattle.sts_world.specs.declared.chains.BindingLink.{BindingLink}

-- the link that is read if there is none
abbrev pub no_link : BindingLink
no_link = record { bound = record { key = 0; value = pos 0 }; behind = None }

abbrev pub link_at : List BindingLink → ℕ → BindingLink
link_at links i = slice_index_or links i no_link

-- the bindings from this link on, innermost first, among the first n links
abbrev pub chain : List BindingLink → ℕ → Option ℕ → List Bound
chain links zero front = []
chain links (suc n) front =
    if is_in n front then (link_at links n).bound ∷ chain links n (link_at links n).behind
    else chain links n front

-- the same among all of them
abbrev pub bindings_of : List BindingLink → Option ℕ → List Bound
bindings_of links front = chain links (length links) front

-- is the link one of the first n, if there is one?
abbrev pub is_within : ℕ → Option ℕ → Bool
is_within n None = true
is_within n (Some i) = nat_lt i n

-- the links of before are the first ones
pub record Grows (old new : List BindingLink) : Type 0 where
  pub more : List BindingLink
  pub same : new ≡ old ++ more
