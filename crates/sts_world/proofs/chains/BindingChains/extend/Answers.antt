use Rattle.std.proofs.Common.{◌≡◌, ℕ, ℤ, ◌+◌, ◌<◌, List, [], ◌∷◌, ◌++◌, length, take, reverse, filter_map, get_or, refl, sym, ap, ◌∙◌, rules, w64}
use mir.Val.{SFits}
use Rattle.std.proofs.lemmas.Int.{to_z-of_z}
use Rattle.std.proofs.lemmas.List.{reverse-append, take_more}
use Rattle.sts_model.specs.Environment.{bound_of}
use Rattle.sts_model.specs.declared.record.Entry.{Entry}
use Rattle.sts_model.specs.declared.record.Entry.TheVariants.{Binding, Scope}
use Rattle.sts_world.specs.Chains.{bindings_of}
use Rattle.sts_world.proofs.Chaining.{extends_put, extends_same}
use Rattle.sts_world.proofs.chains.BindingChains.extend.Goals.{in-Binding+in_ok-put, in_default}
use Rattle.sts_world.proofs.chains.BindingChains.extend.Goals as goal

-- the bindings of one entry more
more : (xs : List Entry) (i : ℕ) (read x : Entry) → i < length xs → read ≡ get_or xs i read → x ≡ read → filter_map bound_of (reverse (take (i + 1) xs)) ≡ filter_map bound_of (x ∷ reverse (take i xs))
more xs i read x less is same =
    ap (λ (l : List Entry). filter_map bound_of (reverse l)) (take_more xs i read less ∙ ap (λ (y : Entry). take i xs ++ y ∷ []) (sym (same ∙ is)))
    ∙ ap (filter_map bound_of) (reverse-append (take i xs) (x ∷ []))

skipped : (x : Entry) (rest : List Entry) → ((k : ℕ) (v : ℤ) → x ≡ Binding k v → ⊥) → filter_map bound_of (x ∷ rest) ≡ filter_map bound_of rest
skipped (Scope s) rest other = refl
skipped (Binding k v) rest other = absurd (other k v refl)

-- what this entry adds
step : (c : goal.Joined-get) (x : Entry) → x ≡ c.get.result
    → filter_map bound_of (reverse (take (c.loop-entry.entry-index + 1) c.as_slice-entry-items.result.now))
    ≡ filter_map bound_of (x ∷ reverse (take c.loop-entry.entry-index c.as_slice-entry-items.result.now))
step c x same = more c.as_slice-entry-items.result.now c.loop-entry.entry-index c.entry-item.result x c.loop-entry-test.true c.entry-item.is
    (same ∙ c.get.ensures)

pub loop-entry-preserved : goal.loop-entry-preserved
loop-entry-preserved c = elim c.match-get.branch [
  | in-Binding+in_ok-put w ↦
      let fits : SFits w64 w.in-Binding.value = search rules in
      let before = bindings_of c.loop-entry.self c.loop-entry.front in
      let list = w.in_ok-put.ensures.list ∙ ap (λ (z : ℤ). record { key = w.in-Binding.key; value = z } ∷ before) (to_z-of_z w64 _ fits) in
      rw (w.self-is, w.front-is) (extends_put _ _ c.loop-entry.invariant
      (step c (Binding w.in-Binding.key w.in-Binding.value) (sym w.in-Binding.is)) w.in_ok-put.ensures.within w.put.ensures.grows list)
  | in_default w ↦
      let rest = reverse (take c.loop-entry.entry-index c.as_slice-entry-items.result.now) in
      let same = step c c.get.result refl ∙ skipped c.get.result rest w.in_default.not-Binding in
      rw (w.self-is, w.front-is) (extends_same c.loop-entry.invariant same)
]
