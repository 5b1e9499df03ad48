-- Lists of keys in a store of links, and the lists that a change of links leaves alone.
-- This project's own.
use Rattle.std.specs.Prelude.{◌≡◌, ◌≢◌, ℕ, List, [], ◌∷◌, Option, Some, None}
use Rattle.std.specs.List.{last_or}
use Rattle.laws_words.specs.Keys.{NotIn}
use Rattle.sts_links.specs.declared.links.Link.{Link}
use Rattle.sts_links.specs.declared.links.Ends.{Ends}

-- the first key, or else what comes after the keys
abbrev pub first_or : List ℕ → Option ℕ → Option ℕ
first_or [] next = next
first_or (k ∷ ks) next = Some k

-- no key comes twice
abbrev pub AreDistinct : List ℕ → Type 0
AreDistinct [] = Unit {0}
AreDistinct (x ∷ xs) = NotIn x xs × AreDistinct xs

-- the two lists have no key in common
abbrev pub AreApart : List ℕ → List ℕ → Type 0
AreApart xs [] = Unit {0}
AreApart xs (y ∷ ys) = NotIn y xs × AreApart xs ys

-- the links go along these keys both ways, from what comes before them to what comes after them
abbrev pub AreLinked : (ℕ → Option Link) → Option ℕ → List ℕ → Option ℕ → Type 0
AreLinked at before [] after = Unit {0}
AreLinked at before (k ∷ ks) after =
    (at k ≡ Some (record { before = before; after = first_or ks after }))
    × AreLinked at (Some k) ks after

-- these ends are those of the list of these keys, in this order
pub record IsList (at : ℕ → Option Link) (list : Ends) (keys : List ℕ) : Type 0 where
  pub first : list.first ≡ first_or keys None
  pub last : list.last ≡ last_or None keys
  pub linked : AreLinked at None keys None
  pub distinct : AreDistinct keys

-- the link with another key after it
abbrev pub with_after : Option ℕ → Link → Link
with_after key link = record link { after = key }

-- the link with another key before it
abbrev pub with_before : Option ℕ → Link → Link
with_before key link = record link { before = key }

-- the link of this key, if there is one, is changed in this way, and no other link is
pub record Relinks (old new : ℕ → ℕ → Option Link) (change : Link → Link) (layer : ℕ)
    (key : Option ℕ) : Type 0 where
  pub changed : (k : ℕ) (link : Link) → key ≡ Some k → old layer k ≡ Some link
      → new layer k ≡ Some (change link)
  pub others : (m j : ℕ) → (m ≡ layer → key ≢ Some j) → new m j ≡ old m j

-- only links of these keys, in this layer, are changed
abbrev pub Differs : (old new : ℕ → ℕ → Option Link) → ℕ → List ℕ → Type 0
Differs old new layer keys = (m j : ℕ) → (m ≡ layer → NotIn j keys) → new m j ≡ old m j

-- a list keeps its keys if it is in another layer, or has none of these keys
abbrev pub KeepsOthers : (old new : ℕ → ℕ → Option Link) → ℕ → List ℕ → Type 0
KeepsOthers old new layer keys =
    (m : ℕ) (list : Ends) (others : List ℕ) → IsList (old m) list others
    → (m ≡ layer → AreApart others keys) → IsList (new m) list others

-- the list has these keys now, only their links in this layer are changed, and each other list has
-- the keys that it had
pub record BecomesList (old new : ℕ → ℕ → Option Link) (layer : ℕ) (result : Ends) (keys : List ℕ)
    : Type 0 where
  pub is_list : IsList (new layer) result keys
  pub links : Differs old new layer keys
  pub others : KeepsOthers old new layer keys

-- one of two, by whether there is a key
abbrev pub if_none : Option ℕ → (when_none when_some : Option ℕ) → Option ℕ
if_none None when_none when_some = when_none
if_none (Some k) when_none when_some = when_some

-- the next key, by this link
abbrev pub after_of : Option Link → Option ℕ
after_of None = None
after_of (Some link) = link.after
