-- Environments that share their bindings, after more links are added.
use Rattle.std.proofs.Common.{◌≡◌, ◌≢◌, ℕ, zero, suc, ◌<◌, ◌≤◌, List, [], ◌∷◌, ◌++◌, length, Bool, true, false, Option, Some, None, eqb, refl, ap, sym, ◌∙◌}
use Rattle.std.proofs.Common.{arith, get_or, append_assoc}
use Rattle.std.specs.Prelude.{is_none}
use Rattle.std.proofs.Math.Seq.{get_or-append_seam}
use Rattle.std.proofs.lemmas.Bool.{eqb-true, eqb-false, eq-eqb, ne_eqb, ltb-true, lt-ltb}
use Rattle.std.proofs.lemmas.List.{get_or_append_left, get_or_default, length-append}
use Rattle.sts_code.proofs.OptionLemmas.{is_nothing}
use Rattle.sts_model.specs.declared.record.Bound.{Bound}
use Rattle.sts_model.specs.Environment.{read}
use Rattle.sts_world.specs.declared.chains.BindingLink.{BindingLink}
use Rattle.sts_world.specs.Chains.{chain, link_at, no_link, bindings_of, is_within, Grows}

-- the link that was read
pub read_link : (links : List BindingLink) (place : ℕ) (l : BindingLink) → place < length links → l ≡ get_or links place l → l ≡ link_at links place
read_link links place l bound is = is ∙ get_or_default links place l no_link bound

pub chain_none : (links : List BindingLink) (n : ℕ) → chain links n None ≡ []
chain_none links zero = refl
chain_none links (suc n) = chain_none links n

-- a link that isn't among them
pub chain_past : (links : List BindingLink) (n i : ℕ) → n ≤ i → chain links n (Some i) ≡ []
chain_past links zero i h = refl
chain_past links (suc n) i h = rw (ne_eqb i n (λ e. absurd (omega (arith, e)))) (chain_past links n i (omega arith))

-- a link that is
pub chain_link : (links : List BindingLink) (n i : ℕ) → i < n → chain links n (Some i) ≡ (link_at links i).bound ∷ chain links i (link_at links i).behind
chain_link links zero i h = absurd (omega arith)
chain_link links (suc n) i h = by_test (eqb i n) refl (λ less. chain_link links n i less)
  where
    by_test : (b : Bool) → eqb i n ≡ b → (i < n → chain links n (Some i) ≡ (link_at links i).bound ∷ chain links i (link_at links i).behind) → chain links (suc n) (Some i) ≡ (link_at links i).bound ∷ chain links i (link_at links i).behind
    by_test true e rest = let same : i ≡ n = eqb-true i n e in rw (e, same) refl
    by_test false e rest = let apart : i ≢ n = eqb-false i n e in rw e (rest (omega arith))

-- more links change nothing
chain_more : (links more : List BindingLink) (n : ℕ) (front : Option ℕ) → n ≤ length links → chain (links ++ more) n front ≡ chain links n front
chain_more links more zero front h = refl
chain_more links more (suc n) front h =
    rw (get_or_append_left links more no_link n (omega arith), chain_more links more n front (omega arith), chain_more links more n (link_at links n).behind (omega arith)) refl

pub chain_within : (links : List BindingLink) (m n : ℕ) (front : Option ℕ) → is_within m front ≡ true → m ≤ n → chain links n front ≡ chain links m front
chain_within links m n None h le = chain_none links n ∙ sym (chain_none links m)
chain_within links m n (Some i) h le =
    let less : i < m = ltb-true i m h in
    chain_link links n i (omega arith) ∙ sym (chain_link links m i less)

pub within_more : (m n : ℕ) (front : Option ℕ) → is_within m front ≡ true → m ≤ n → is_within n front ≡ true
within_more m n None h le = refl
within_more m n (Some i) h le = let less : i < m = ltb-true i m h in lt-ltb i n (omega arith)

pub grows_longer : (old new : List BindingLink) → Grows old new → length old ≤ length new
grows_longer old new g = omega (arith, ap length g.same, length-append old g.more)

pub bindings_grown : (old new : List BindingLink) (front : Option ℕ) → is_within (length old) front ≡ true → Grows old new → bindings_of new front ≡ bindings_of old front
bindings_grown old new front h g =
    rw g.same (chain_within (old ++ g.more) (length old) (length (old ++ g.more)) front h (omega (arith, length-append old g.more)) ∙ chain_more old g.more (length old) front (omega arith))

-- the link that was put last
bindings_last : (links : List BindingLink) (l : BindingLink) → is_within (length links) l.behind ≡ true → bindings_of (links ++ l ∷ []) (Some (length links)) ≡ l.bound ∷ bindings_of links l.behind
bindings_last links l h =
    let longer : length links < length (links ++ l ∷ []) = simp length-append (omega arith) in
    chain_link (links ++ l ∷ []) (length (links ++ l ∷ [])) (length links) longer
    ∙ rw (get_or-append_seam links l [] no_link, chain_more links (l ∷ []) (length links) l.behind (omega arith)) refl

pub bindings_put : (links : List BindingLink) (l : BindingLink) (place : ℕ) → place ≡ length links → is_within (length links) l.behind ≡ true → bindings_of (links ++ l ∷ []) (Some place) ≡ l.bound ∷ bindings_of links l.behind
bindings_put links l place e h = rw e (bindings_last links l h)

-- a link that was there
pub bindings_found : (links : List BindingLink) (place : ℕ) (bound : Bound) (behind : Option ℕ) → place < length links → link_at links place ≡ record { bound = bound; behind = behind } → is_within place behind ≡ true → bindings_of links (Some place) ≡ bound ∷ bindings_of links behind
bindings_found links place bound behind h e older =
    chain_link links (length links) place h ∙ rw (e, chain_within links place (length links) behind older (omega arith)) refl

-- ---- an environment in front of another

pub record Extends (old new : List BindingLink) (front rest : Option ℕ) (bounds : List Bound) : Type 0 where
  pub within : is_within (length new) front ≡ true
  pub grows : Grows old new
  pub list : bindings_of new front ≡ bounds ++ bindings_of old rest

grown : (a b c : List BindingLink) → Grows a b → Grows b c → Grows a c
grown a b c g h = record { more = g.more ++ h.more; same = h.same ∙ ap (λ (l : List BindingLink). l ++ h.more) g.same ∙ append_assoc a g.more h.more }

pub extends_put : {old self new : List BindingLink} {front rest : Option ℕ} {bounds more : List Bound} (place : ℕ) (b : Bound) → Extends old self front rest bounds → more ≡ b ∷ bounds → place < length new → Grows self new → bindings_of new (Some place) ≡ b ∷ bindings_of self front → Extends old new (Some place) rest more
extends_put {old} {self} {new} {front} {rest} {bounds} {more} place b e more_is less grows list =
    record {
      within = lt-ltb place (length new) less;
      grows = grown old self new e.grows grows;
      list = list ∙ ap (λ (l : List Bound). b ∷ l) e.list ∙ ap (λ (l : List Bound). l ++ bindings_of old rest) (sym more_is);
    }

pub extends_same : {old self : List BindingLink} {front rest : Option ℕ} {bounds more : List Bound} → Extends old self front rest bounds → more ≡ bounds → Extends old self front rest more
extends_same e same = rw same e

-- ---- reading a key from a link on

pub read_past : (links : List BindingLink) (n i k : ℕ) (at : Option ℕ) → at ≡ Some i → n ≤ i → read (chain links n at) k ≡ None
read_past links n i k at e h = rw (e, chain_past links n i h) refl

pub read_none : (links : List BindingLink) (n k : ℕ) (at : Option ℕ) → at ≡ None → read (chain links n at) k ≡ None
read_none links n k at e = rw (e, chain_none links n) refl

pub read_here : (links : List BindingLink) (n i k : ℕ) (at : Option ℕ) → at ≡ Some i → i < n → (link_at links i).bound.key ≡ k → read (chain links n at) k ≡ Some (link_at links i).bound.value
read_here links n i k at e h same = rw (e, chain_link links n i h, eq-eqb (link_at links i).bound.key k same) refl

pub read_next : (links : List BindingLink) (n i k : ℕ) (at : Option ℕ) → at ≡ Some i → i < n → (link_at links i).bound.key ≢ k → read (chain links n at) k ≡ read (chain links i (link_at links i).behind) k
read_next links n i k at e h apart = rw (e, chain_link links n i h, ne_eqb (link_at links i).bound.key k apart) refl

-- ---- two environments, link by link

chain_at : (links : List BindingLink) (n i : ℕ) (front : Option ℕ) (l : BindingLink) → front ≡ Some i → i < n → l ≡ link_at links i → chain links n front ≡ l.bound ∷ chain links i l.behind
chain_at links n i front l e h is = rw (e, is) (chain_link links n i h)

pub same_front : (here there : List BindingLink) (n m i j : ℕ) (front front_there : Option ℕ) (l k : BindingLink) → front ≡ Some i → front_there ≡ Some j → i < n → j < m → l ≡ link_at here i → k ≡ link_at there j → l.bound ≡ k.bound
    → chain here i l.behind ≡ chain there j k.behind → chain here n front ≡ chain there m front_there
same_front here there n m i j front front_there l k e f lessi lessj isl isk bound rest =
    chain_at here n i front l e lessi isl ∙ (let step : l.bound ∷ chain here i l.behind ≡ k.bound ∷ chain there j k.behind = cc in step) ∙ sym (chain_at there m j front_there k f lessj isk)

pub both_none : (here there : List BindingLink) (n m : ℕ) (front front_there : Option ℕ) → front ≡ None → is_none front_there ≡ true → chain here n front ≡ chain there m front_there
both_none here there n m front front_there e f = rw (e, is_nothing front_there f) (chain_none here n ∙ sym (chain_none there m))
