-- A search so far (this project's own).
use Rattle.std.specs.Prelude.{◌≡◌, ℕ, List, Option}
use Rattle.ends_search.specs.Search.{IsSpace}
use Rattle.ends_search.specs.declared.origin.Origin.{Origin}
use Rattle.ends_plain.specs.declared.config.Config.{Config}
use Rattle.ends_plain.specs.declared.config.Asked.{Asked}
use Rattle.ends_plain.specs.Configs.{next_kept, tries, start, is_last, IsLike}

-- A search from the start of the program. It went on from each of the first `closed` states. Each
-- event that it took there leads to one of the states, or to one that is alike.
pub record IsExplored (a : Asked) (first : Config) (origins : List Origin) (closed : ℕ)
    (kept : List Config) (marks : List (Option ℕ)) : Type 0 where
  pub begins : first ≡ start a.setting
  pub space : IsSpace (next_kept a) (tries a.setting) (IsLike a) is_last first origins closed
      kept marks
