-- How a search grows, and that it finds all points and their rules.
use Rattle.std.proofs.Common.{◌≡◌, ℕ, ◌+◌, ◌<◌, ◌≤◌, ◌⊎◌, inl, inr, zero, suc, true, List, [], ◌∷◌, ◌++◌, length, Option, Some, None, Ok, refl, ap, sym, ◌∙◌, subst, arith, append_assoc}
use Rattle.std.proofs.Common.{get_or-set_same, get_or-set_other, length-set}
use Rattle.std.specs.Prelude.{slice_index_or, slice_set, replicate, MatchOption, is_some}
use Rattle.std.specs.List.{Contains}
use Rattle.std.proofs.Math.ListN.{get_or-append}
use Rattle.std.proofs.lemmas.Bool.{cases_eq}
use Rattle.std.proofs.lemmas.List.{append-nil, get_or_default, length-replicate}
use Rattle.std.proofs.lemmas.List.Elements.{Contains-append_left, Contains-get_or, Contains-push, Contains-push_cases}
use Rattle.laws_words.proofs.NumberLemmas.{split}
use Rattle.sts_code.specs.Program.{Program, routine, instr_at}
use Rattle.sts_code.specs.declared.instr.Instr.{Instr}
use Rattle.sts_rules.specs.Edges.{edges, back_of}
use Rattle.sts_rules.specs.Refusal.{size}
use Rattle.sts_types.specs.Typing.{Typing}
use Rattle.sts_types.proofs.AmongLemmas.{among_left, among_right}
use Rattle.sts_budget.proofs.LeadLemmas.{among_of}
use Rattle.look_accepted.specs.declared.point.Point.{Point}
use Rattle.look_accepted.specs.declared.reliance.Reliance.{Reliance}
use Rattle.look_accepted.specs.Nodes.{Node, Comes, first, along, turn, node_along}
use Rattle.look_accepted.specs.Notes.{AreRules, IsPlain}
use Rattle.look_accepted.specs.Points.{node_at, first_point, along as point_along, IsAlong, Follows, IsTyped, Grows, Adds, noted}
use Rattle.look_accepted.specs.Relying.{Relies, relies, relied_on, relied_on_at}
use Rattle.look_accepted.proofs.Following.{first_is, within, comes_on, along_edge, by_turn}

-- ---- points that were added

still : (old new : List Point) (x : Point) → Grows old new → Contains old x → Contains new x
still old new x g c = subst (λ (xs : List Point). Contains xs x) (sym g.same) (Contains-append_left old g.more x c)

pub adds_none : (old : List Point) (P : Point → Type 0) → ((x : Point) → P x → Contains old x) → Adds old P old
adds_none old P has = record { grows = record { more = []; same = sym (append-nil old) }; there = has; only = λ x c. inl c }

pub adds_one : (old new : List Point) (x : Point) → new ≡ old ++ x ∷ [] → Adds old (λ y. x ≡ y) new
adds_one old new x is = record {
  grows = record { more = x ∷ []; same = is };
  there = λ y same. subst (λ (xs : List Point). Contains xs y) (sym is) (subst (Contains (old ++ x ∷ [])) same (Contains-push old x));
  only = λ y c. Contains-push_cases old x y (subst (λ (xs : List Point). Contains xs y) is c);
}

-- one kind after another
pub adds_both : {a b c : List Point} {P Q R : Point → Type 0} → Adds a P b → Adds b Q c → ((x : Point) → R x → P x ⊎ Q x) → ((x : Point) → P x ⊎ Q x → R x) → Adds a R c
adds_both {a} {b} {c} g h from into = record {
  grows = record { more = g.grows.more ++ h.grows.more; same = h.grows.same ∙ ap (λ (xs : List Point). xs ++ h.grows.more) g.grows.same ∙ append_assoc a g.grows.more h.grows.more };
  there = λ x is. elim (from x is) [ inl p ↦ still b c x h.grows (g.there x p) | inr q ↦ h.there x q ];
  only = λ x has. elim (h.only x has) [
    | inl old ↦ elim (g.only x old) [ inl older ↦ inl older | inr p ↦ inr (into x (inl p)) ]
    | inr q ↦ inr (into x (inr q))
  ];
}

-- one place more
pub adds_along : (t : Typing) (i : Instr) (x : Point) (before : List ℕ) (to : ℕ) {a b c : List Point} → Adds a (IsAlong t i x before) b → Adds b (λ y. point_along t i x to ≡ y) c → Adds a (IsAlong t i x (before ++ to ∷ [])) c
adds_along t i x before to g h = adds_both g h from into
  where
    from : (y : Point) → IsAlong t i x (before ++ to ∷ []) y → IsAlong t i x before y ⊎ (point_along t i x to ≡ y)
    from y k = elim (among_of before (to ∷ []) k.0 k.1.0) [
      | inl m ↦ inl (k.0, (m, k.1.1))
      | inr m ↦ elim m [ inl e ↦ inr (ap (point_along t i x) e ∙ sym k.1.1) | inr m ↦ absurd m ]
    ]

    into : (y : Point) → IsAlong t i x before y ⊎ (point_along t i x to ≡ y) → IsAlong t i x (before ++ to ∷ []) y
    into y (inl k) = (k.0, (among_left before (to ∷ []) k.0 k.1.0, k.1.1))
    into y (inr e) = (to, (among_right before (to ∷ []) to (inl refl), sym e))

-- ---- rules that were noted

-- the rules by place, with one more
record Notes (before : List (Option Reliance)) (pc : ℕ) (rule : Option Reliance) (after : List (Option Reliance)) : Type 0 where
  long : length after ≡ length before
  kept : (q : ℕ) → is_some (slice_index_or before q None) ≡ true → is_some (slice_index_or after q None) ≡ true
  here : is_some rule ≡ true → is_some (slice_index_or after pc None) ≡ true
  only : (q : ℕ) (r : Reliance) → slice_index_or after q None ≡ Some r → (slice_index_or before q None ≡ Some r) ⊎ ((q ≡ pc) × (rule ≡ Some r))

notes : (before : List (Option Reliance)) (pc : ℕ) (rule : Option Reliance) → pc < length before → Notes before pc rule (noted before pc rule)
notes before pc None less = record { long = refl; kept = λ q is. is; here = λ e. cc; only = λ q r e. inl e }
notes before pc (Some r) less =
    let there = get_or-set_same before pc (Some r) None less in
    record {
      long = length-set before pc (Some r);
      kept = λ q is. elim (cases_eq q pc) [ inl same ↦ simp same (ap is_some there) | inr other ↦ ap is_some (get_or-set_other before pc q (Some r) None other) ∙ is ];
      here = λ e. ap is_some there;
      only = λ q s e. elim (cases_eq q pc) [ inl same ↦ inr (same, sym there ∙ (simp same at e)) | inr other ↦ inl (sym (get_or-set_other before pc q (Some r) None other) ∙ e) ];
    }

no_rule : (n pc : ℕ) → slice_index_or (replicate {A = Option Reliance} n None) pc None ≡ None
no_rule zero pc = refl
no_rule (suc n) zero = refl
no_rule (suc n) (suc pc) = no_rule n pc

-- ---- a search that goes on

module _ (p : Program) (f : ℕ) (t : Typing) where
  -- the points after this one are there, and so is its rule
  pub record IsDone (points : List Point) (rules : List (Option Reliance)) (x : Point) : Type 0 where
    pub next : (y : Point) → Follows t (instr_at (routine p f).code x.pc) x y → Contains points y
    pub rule : is_some (relied_on_at p f (node_at t x)) ≡ true → is_some (slice_index_or rules x.pc None) ≡ true

  -- the first ones are done
  pub record IsSearched (count : ℕ) (points : List Point) (rules : List (Option Reliance)) : Type 0 where
    pub found : (x : Point) → Contains points x → Comes p f (node_at t x)
    pub begins : Contains points (first_point p f)
    pub long : length rules ≡ size p f
    pub some : (pc : ℕ) (r : Reliance) → slice_index_or rules pc None ≡ Some r → Relies p f pc r
    pub done : (k : ℕ) (d : Point) → k < count → IsDone points rules (slice_index_or points k d)

module _ {p : Program} {f : ℕ} {t : Typing} (typed : IsTyped p f t) where
  pub searched_first : (none points : List Point) (x : Point) (rules : List (Option Reliance)) → none ≡ [] → x ≡ first_point p f → Adds none (λ y. x ≡ y) points → rules ≡ replicate (size p f) None → IsSearched p f t 0 points rules
  searched_first none points x rules nothing is a empty = record {
    found = λ y c. elim (a.only y c) [
      | inl old ↦ absurd (omega (arith, old.1, ap (length {A = Point}) nothing))
      | inr e ↦ subst (λ (z : Point). Comes p f (node_at t z)) (sym is ∙ e) (subst (Comes p f) (sym (first_is typed)) first)
    ];
    begins = a.there (first_point p f) is;
    long = ap length empty ∙ length-replicate (size p f) None;
    some = λ pc r e. (let none' : None ≡ Some r = sym (no_rule (size p f) pc) ∙ ap (λ (xs : List (Option Reliance)). slice_index_or xs pc None) (sym empty) ∙ e in absurd (cc));
    done = λ k d less. absurd (omega (arith, less));
  }

  module _ (at : ℕ) (points : List Point) (rules : List (Option Reliance)) (h : IsSearched p f t at points rules) where
    pub comes_here : (x : Point) → at < length points → x ≡ slice_index_or points at x → Comes p f (node_at t x)
    comes_here x less read = subst (λ (y : Point). Comes p f (node_at t y)) (sym read) (h.found (slice_index_or points at x) (Contains-get_or points at x less))

    -- one point more
    pub searched_more : (x : Point) (new : List Point) (after : List (Option Reliance)) → at < length points → x ≡ slice_index_or points at x → Adds points (Follows t (instr_at (routine p f).code x.pc) x) new → after ≡ noted rules x.pc (relied_on_at p f (node_at t x)) → IsSearched p f t (at + 1) new after
    searched_more x new after less read a is = subst (IsSearched p f t (at + 1) new) (sym is) (record {
      found = λ y c. elim (a.only y c) [ inl o ↦ h.found y o | inr g ↦ comes_on typed x comes y g ];
      begins = still points new (first_point p f) a.grows h.begins;
      long = n.long ∙ h.long;
      some = λ pc r e. elim (n.only pc r e) [
        | inl old ↦ h.some pc r old
        | inr k ↦ relies (node_at t x) comes (sym k.0) (ap (λ (q : ℕ). relied_on (instr_at (routine p f).code q) (node_at t x).state x.mark) k.0 ∙ k.1)
      ];
      done = λ k d lk. done k d (split k at lk);
    })
      where
        comes : Comes p f (node_at t x)
        comes = comes_here x less read

        n : Notes rules x.pc (relied_on_at p f (node_at t x)) (noted rules x.pc (relied_on_at p f (node_at t x)))
        n = notes rules x.pc (relied_on_at p f (node_at t x)) (omega (arith, within typed x comes, h.long))

        older : (k : ℕ) (d : Point) → k < length points → slice_index_or new k d ≡ slice_index_or points k d
        older k d lk = ap (λ (xs : List Point). slice_index_or xs k d) a.grows.same ∙ get_or-append points a.grows.more d k lk

        done : (k : ℕ) (d : Point) → (k < at) ⊎ (k ≡ at) → IsDone p f t new (noted rules x.pc (relied_on_at p f (node_at t x))) (slice_index_or new k d)
        done k d (inl l) =
            let was = h.done k d l in
            subst (IsDone p f t new (noted rules x.pc (relied_on_at p f (node_at t x)))) (sym (older k d (omega (arith, l, less))))
            (record { next = λ y g. still points new y a.grows (was.next y g); rule = λ some. n.kept (slice_index_or points k d).pc (was.rule some) })
        done k d (inr l) =
            let same : x ≡ slice_index_or new k d = read ∙ get_or_default points at x d less ∙ sym (older at d less) ∙ ap (λ (j : ℕ). slice_index_or new j d) (sym l) in
            subst (IsDone p f t new (noted rules x.pc (relied_on_at p f (node_at t x)))) same (record { next = a.there; rule = n.here })

    -- if all points are done, all rules are there
    pub all_found : length points ≤ at → AreRules p f rules
    all_found past = record { long = h.long; each = λ pc less. each pc (slice_index_or rules pc None) refl }
      where
        done : (x : Point) → Contains points x → IsDone p f t points rules x
        done x c = subst (IsDone p f t points rules) c.2 (h.done c.0 x (omega (arith, past, c.1)))

        all : (n : Node) → Comes p f n → (x : Point) × (Contains points x × (node_at t x ≡ n))
        all n first = (first_point p f, (h.begins, first_is typed))
        all n (along m out to s comes e l) =
            let b = all m comes in
            let x = b.0 in
            let g = along_edge typed x (h.found x b.1.0) out to s (subst (λ (k : Node). edges p f k.pc k.state ≡ Ok out) (sym b.1.1) e) l in
            (g.0, ((done x b.1.0).next g.0 g.1.0, g.1.1 ∙ ap (λ (k : Node). node_along (instr_at (routine p f).code k.pc) k to s) b.1.1))
        all n (turn m q comes back) =
            let b = all m comes in
            let x = b.0 in
            let g = by_turn typed x (h.found x b.1.0) q (subst (λ (k : Node). back_of (instr_at (routine p f).code k.pc) k.state ≡ Some q) (sym b.1.1) back) in
            (g.0, ((done x b.1.0).next g.0 g.1.0, g.1.1 ∙ ap (λ (k : Node). record k { pc = q }) b.1.1))

        is_plain : (pc : ℕ) → slice_index_or rules pc None ≡ None → IsPlain p f pc
        is_plain pc e r (relies n comes at rule) =
            let a = all n comes in
            let relied : is_some (relied_on_at p f (node_at t a.0)) ≡ true =
            ap (λ (m : Node). is_some (relied_on_at p f m)) a.1.1 ∙ ap (λ (q : ℕ). is_some (relied_on (instr_at (routine p f).code q) n.state n.mark)) at ∙ ap is_some rule in
            let has = ap (λ (q : ℕ). is_some (slice_index_or rules q None)) (sym (ap (λ (m : Node). m.pc) a.1.1 ∙ at)) ∙ (done a.0 a.1.0).rule relied in
            let hasn't = ap is_some e in
            absurd (cc)

        each : (pc : ℕ) (o : Option Reliance) → slice_index_or rules pc None ≡ o → MatchOption o (IsPlain p f pc) (Relies p f pc)
        each pc None e = is_plain pc e
        each pc (Some r) e = h.some pc r e
