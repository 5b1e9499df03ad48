-- The effect of an instruction on its own task: it goes on along a control path, with the entries
-- of the next point.
use Rattle.std.proofs.Common.{◌≡◌, ℕ, zero, suc, ◌+◌, ◌<◌, ◌≤◌, ◌⊎◌, inl, inr, List, [], ◌∷◌, ◌++◌, Bool, true, false, Option, Some, None, refl, sym, ◌∙◌, ap}
use Rattle.std.proofs.Common.{subst, length, arith, cond, get_or, set, drop, take, not, ◌||◌, get_or-set_same}
use Rattle.std.specs.Prelude.{◌==◌, is_some, unwrap_or, option_to_list, slice_index_or}
use Rattle.std.proofs.lemmas.Bool.{cond_both, or_parts, not-false}
use Rattle.std.proofs.lemmas.Bool.Decides.{nat_tests}
use Rattle.sts_code.specs.Program.{Program, instr_at}
use Rattle.sts_code.specs.declared.instr.Instr.{Instr}
use Rattle.sts_code.specs.declared.instr.Instr.TheVariants.{Open, Join, Close, Bind, Unbind}
use Rattle.sts_code.specs.declared.instr.Joiner.{Joiner}
use Rattle.sts_code.specs.declared.instr.Joiner.TheVariants.{AwaitAll, Until}
use Rattle.sts_rules.specs.declared.budget.Budgets.{Budgets}
use Rattle.sts_model.specs.declared.event.End.{End}
use Rattle.sts_model.specs.declared.event.End.TheVariants.{Success, Failed}
use Rattle.sts_model.specs.declared.event.Phase.TheVariants.{Attempted, Joined}
use Rattle.sts_model.specs.declared.event.Verdict.{Verdict}
use Rattle.sts_model.specs.declared.event.Verdict.TheVariants as verdict
use Rattle.sts_model.specs.declared.record.Entry.{Entry}
use Rattle.sts_model.specs.declared.record.Entry.TheVariants as entry
use Rattle.sts_model.specs.declared.record.Slot.{Slot}
use Rattle.sts_model.specs.declared.record.Slot.TheVariants as slots
use Rattle.sts_model.specs.declared.record.Frame.{Frame}
use Rattle.sts_model.specs.declared.record.Task.{Task}
use Rattle.sts_model.specs.World.{World, task_at, scope_at, no_task, code}
use Rattle.sts_model.specs.Local.{goes, steps, operand}
use Rattle.sts_model.specs.Joining.{result_of}
use Rattle.sts_model.specs.Living.{any_lives, ends, subtask_count, is_in, is_subtask}
use Rattle.sts_model.specs.Misuse.{slot, is_empty, is_binding, is_entry_of, innermost, joins_wrongly}
use Rattle.sts_code.specs.Facts.{can_fail, same}
use Rattle.sts_model.specs.Effect.{with_phase, joined, join_verdict, join_scope, cleared, is_of, case_target}
use Rattle.sts_rules.specs.ControlPaths.{OpenEntry, OpenScope, OpenBinding, Among, Follows}
use Rattle.sts_rules.specs.Budget.{entries_of}
use Rattle.laws_runs.proofs.ListLemmas.{at_set}
use Rattle.laws_runs.proofs.SoundLemmas.{Sound}
use Rattle.laws_runs.proofs.EntryLemmas.{times_in}
use Rattle.laws_runs.proofs.FrameLemmas.{Leaves}
use Rattle.laws_accepted.specs.Points.{Opens, Zips, loops_of, skeleton_of}
use Rattle.laws_accepted.specs.Costs.{Peak, subtask_shares, share_in}
use Rattle.laws_accepted.proofs.Sums.{sum-none}
use Rattle.laws_accepted.proofs.Flow.{GoesOn, goes_to}
use Rattle.laws_accepted.proofs.Points.{zips_map, not_in_rest}
use Rattle.laws_accepted.proofs.Turns.{Turned, alike-scope, turned-frame}
use Rattle.laws_accepted.proofs.Good.{Entering}
use Rattle.laws_accepted.proofs.JoinRows.{as_same}

-- the task t goes on with another frame, at the next point of a path
pub record Moves (p : Program) (budgets : List Budgets) (w v : World) (t : ℕ) (i : Instr) : Type 0 where
  pub frame : Frame
  pub turned : Turned w v t (record (task_at w t) { frame = frame })
  pub goes : GoesOn p budgets (task_at w t).frame frame
  pub function : frame.function ≡ (task_at w t).frame.function
  pub size : length frame.slots ≡ length (task_at w t).frame.slots
  pub entries : Entering budgets w.tasks (task_at w t).frame i frame

-- ---- instructions that leave entries and slots alone

pub entering_same : (budgets : List Budgets) (tasks : List Task) (f g : Frame) (i : Instr) → Leaves f g None → ((os : List OpenEntry) → entries_of i os ≡ os) → Entering budgets tasks f i g
entering_same budgets tasks f g i h keeps os z sl = (
  subst (λ es. Zips budgets (take f.function budgets) tasks (slot g) es (entries_of i os)) (sym h.entries)
      (subst (λ qs. Zips budgets (take f.function budgets) tasks (slot g) f.entries qs) (sym (keeps os))
      (subst (λ xs. Zips budgets (take f.function budgets) tasks (λ x. slice_index_or xs x slots.Empty) f.entries os) (sym h.slots) z)),
  λ x s e. subst (λ qs. Opens x qs) (sym (keeps os)) (sl x s (ap (λ xs. slice_index_or xs x slots.Empty) (sym h.slots) ∙ e)),
)

pub moves_same : (p : Program) (budgets : List Budgets) (w v : World) (t : ℕ) (i : Instr) (g : Frame) → Turned w v t (record (task_at w t) { frame = g }) → GoesOn p budgets (task_at w t).frame g → Leaves (task_at w t).frame g None → ((os : List OpenEntry) → entries_of i os ≡ os) → Moves p budgets w v t i
moves_same p budgets w v t i g turned goes_on h keeps =
    record {
      frame = g;
      turned = turned;
      goes = goes_on;
      function = h.function;
      size = ap (λ (xs : List Slot). length xs) h.slots;
      entries = entering_same budgets w.tasks (task_at w t).frame g i h keeps;
    }

-- to the next place, with other operands
pub moves_next : (p : Program) (budgets : List Budgets) (w v : World) (t : ℕ) (i : Instr) (n : ℕ) (pushed : _) → Turned w v t (record (task_at w t) { frame = steps (task_at w t).frame n pushed }) → Follows (skeleton_of p budgets (task_at w t).frame) (task_at w t).frame.pc (loops_of (task_at w t).frame.loops) ((task_at w t).frame.pc + 1) (loops_of (task_at w t).frame.loops) → ((os : List OpenEntry) → entries_of i os ≡ os) → Moves p budgets w v t i
moves_next p budgets w v t i n pushed turned on keeps = moves_same p budgets w v t i (steps (task_at w t).frame n pushed) turned on (record { function = refl; entries = refl; slots = refl }) keeps

-- ---- case and join

pub case_among : (q : Option End) (success failed next : ℕ) → Among (success ∷ failed ∷ next ∷ []) (case_target q success failed next)
case_among None success failed next = inr (inr (inl refl))
case_among (Some (Success v)) success failed next = inl refl
case_among (Some (Failed c)) success failed next = inr (inl refl)

abbrev Targets : Option ℕ → Option ℕ → ℕ → ℕ → List ℕ
Targets failed timeout interrupted next = (option_to_list failed ++ (option_to_list timeout ++ interrupted ∷ [])) ++ next ∷ []

among_failed : (failed timeout : Option ℕ) (interrupted next : ℕ) → is_some failed ≡ true → Among (Targets failed timeout interrupted next) (unwrap_or failed 0)
among_failed (Some q) timeout interrupted next e = inl refl
among_failed None timeout interrupted next e = cc

among_timeout : (failed timeout : Option ℕ) (interrupted next : ℕ) → is_some timeout ≡ true → Among (Targets failed timeout interrupted next) (unwrap_or timeout 0)
among_timeout (Some q) (Some r) interrupted next e = inr (inl refl)
among_timeout None (Some r) interrupted next e = inl refl
among_timeout failed None interrupted next e = cc

among_interrupted : (failed timeout : Option ℕ) (interrupted next : ℕ) → Among (Targets failed timeout interrupted next) interrupted
among_interrupted (Some q) (Some r) interrupted next = inr (inr (inl refl))
among_interrupted None (Some r) interrupted next = inr (inl refl)
among_interrupted (Some q) None interrupted next = inr (inl refl)
among_interrupted None None interrupted next = inl refl

among_next : (failed timeout : Option ℕ) (interrupted next : ℕ) → Among (Targets failed timeout interrupted next) next
among_next (Some q) (Some r) interrupted next = inr (inr (inr (inl refl)))
among_next None (Some r) interrupted next = inr (inr (inl refl))
among_next (Some q) None interrupted next = inr (inr (inl refl))
among_next None None interrupted next = inr (inl refl)

-- only a joiner that can fail answers with a failure
failed_can : (j : Joiner) (es : List End) (n : ℕ) (c : _) → result_of j es n ≡ verdict.Failed c → can_fail j ≡ true
failed_can AwaitAll es n c e = cc
failed_can (Until q) es n c e = cc
failed_can _ es n c e = refl

module _ (p : Program) (budgets : List Budgets) (w : World) (t x : ℕ) (failed timeout : Option ℕ) (interrupted : ℕ) (born : t < length w.tasks) (at : instr_at (code p (task_at w t).frame) (task_at w t).frame.pc ≡ Join x failed timeout interrupted) where
  moves_join_to : (v : World) (g : Frame) → Turned w v t (record (task_at w t) { frame = g }) → Among (Targets failed timeout interrupted ((task_at w t).frame.pc + 1)) g.pc → g.loops ≡ (task_at w t).frame.loops → Leaves (task_at w t).frame g None → Moves p budgets w v t (Join x failed timeout interrupted)
  moves_join_to v g turned among loops h =
      moves_same p budgets w v t (Join x failed timeout interrupted) g turned
      (subst (λ ls. Follows (skeleton_of p budgets (task_at w t).frame) (task_at w t).frame.pc (loops_of (task_at w t).frame.loops) g.pc (loops_of ls)) (sym loops)
      (goes_to p budgets (task_at w t).frame (Join x failed timeout interrupted) (Targets failed timeout interrupted ((task_at w t).frame.pc + 1)) g.pc at refl among))
      h (λ os. refl)

  moves_joined : (s : ℕ) (g : Frame) → Among (Targets failed timeout interrupted ((task_at w t).frame.pc + 1)) g.pc → g.loops ≡ (task_at w t).frame.loops → Leaves (task_at w t).frame g None → Moves p budgets w (joined w t s g) t (Join x failed timeout interrupted)
  moves_joined s g among loops h =
      moves_join_to (joined w t s g) g (turned-frame w (with_phase w s Joined) t g (task_at w t).flag born (alike-scope w s (record (scope_at w s) { phase = Joined }))) among loops h

  moves_verdict : (s : ℕ) (q : Verdict) → ((c : _) → q ≡ verdict.Failed c → is_some failed ≡ true) → Moves p budgets w (join_verdict q w t s (task_at w t).frame (unwrap_or failed 0)) t (Join x failed timeout interrupted)
  moves_verdict s (verdict.Ok None) can = moves_joined s (steps (task_at w t).frame 0 []) (among_next failed timeout interrupted ((task_at w t).frame.pc + 1)) refl (record { function = refl; entries = refl; slots = refl })
  moves_verdict s (verdict.Ok (Some y)) can = moves_joined s (steps (task_at w t).frame 0 (y ∷ [])) (among_next failed timeout interrupted ((task_at w t).frame.pc + 1)) refl (record { function = refl; entries = refl; slots = refl })
  moves_verdict s (verdict.Failed c) can = moves_joined s (goes (task_at w t).frame (unwrap_or failed 0) 0 (c ∷ [])) (among_failed failed timeout interrupted ((task_at w t).frame.pc + 1) (can c refl)) refl (record { function = refl; entries = refl; slots = refl })

  -- a join with targets that fit its scope; only a scope with a timeout expires
  pub moves_join : (s : ℕ) → joins_wrongly (task_at w t).frame failed timeout (scope_at w s) ≡ false → ((scope_at w s).expired ≡ true → (scope_at w s).timed ≡ true) → Moves p budgets w (join_scope w t (task_at w t).frame s (unwrap_or failed 0) (unwrap_or timeout 0) interrupted) t (Join x failed timeout interrupted)
  unfolding join_scope
  moves_join s right timely =
      let a = or_parts _ (not (same (is_some timeout) (scope_at w s).timed)) right in
      let b = or_parts _ (not (same (is_some failed) (can_fail (scope_at w s).joiner))) a.0 in
      let q : Verdict = result_of (scope_at w s).joiner (ends (scope_at w s)) (subtask_count w s) in
      cond_both (scope_at w s).expired _ _ (λ (v : World). Moves p budgets w v t (Join x failed timeout interrupted))
      (λ e. moves_joined s (goes (task_at w t).frame (unwrap_or timeout 0) 0 []) (among_timeout failed timeout interrupted ((task_at w t).frame.pc + 1) (as_same (is_some timeout) (scope_at w s).timed a.1 (timely e))) refl (record { function = refl; entries = refl; slots = refl }))
      (λ e.
      cond_both ((scope_at w s).cancelled || not (any_lives w s)) _ _ (λ (v : World). Moves p budgets w v t (Join x failed timeout interrupted))
      (λ h. moves_verdict s q (λ c k. as_same (is_some failed) (can_fail (scope_at w s).joiner) b.1 (failed_can (scope_at w s).joiner (ends (scope_at w s)) (subtask_count w s) c k)))
      (λ h. moves_join_to _ (goes (task_at w t).frame interrupted 0 [])
      (turned-frame w (with_phase w s Attempted) t (goes (task_at w t).frame interrupted 0 []) false born (alike-scope w s (record (scope_at w s) { phase = Attempted })))
      (among_interrupted failed timeout interrupted ((task_at w t).frame.pc + 1)) refl (record { function = refl; entries = refl; slots = refl })))

-- ---- bindings

pub entering_bind : (budgets : List Budgets) (tasks : List Task) (f : Frame) (k : ℕ) → Entering budgets tasks f (Bind k) (record (steps f 1 []) { entries = entry.Binding k (operand f 0) ∷ f.entries })
entering_bind budgets tasks f k os z sl = ((tt, z), sl)

unbind_zips : (budgets earlier : List Budgets) (tasks : List Task) (own : ℕ → Slot) (es : List Entry) (os : List OpenEntry) → innermost is_binding es ≡ true → Zips budgets earlier tasks own es os → ((x s : ℕ) → own x ≡ slots.Own s → Opens x os) → Zips budgets earlier tasks own (drop 1 es) (drop 1 os) × ((x s : ℕ) → own x ≡ slots.Own s → Opens x (drop 1 os))
unbind_zips budgets earlier tasks own [] os first z sl = cc
unbind_zips budgets earlier tasks own (entry.Scope s ∷ es) os first z sl = cc
unbind_zips budgets earlier tasks own (entry.Binding k y ∷ es) [] first z sl = absurd z
unbind_zips budgets earlier tasks own (entry.Binding k y ∷ es) (OpenScope x fs ∷ os) first z sl = absurd z.0
unbind_zips budgets earlier tasks own (entry.Binding k y ∷ es) (OpenBinding ∷ os) first z sl = (z.1, sl)

pub entering_unbind : (budgets : List Budgets) (tasks : List Task) (f : Frame) → not (innermost is_binding f.entries) ≡ false → Entering budgets tasks f Unbind (record (steps f 0 []) { entries = drop 1 f.entries })
entering_unbind budgets tasks f first os z sl = unbind_zips budgets (take f.function budgets) tasks (slot f) f.entries os (not-false (innermost is_binding f.entries) first) z sl

-- ---- slots that are written

-- a slot that owned nothing gets a content that owns nothing
pub entering_write : (budgets : List Budgets) (tasks : List Task) (f g : Frame) (i : Instr) (h : ℕ) (y : Slot) → g.entries ≡ f.entries → g.slots ≡ set f.slots h y → ((s : ℕ) → y ≡ slots.Own s → ⊥) → ((s : ℕ) → slot f h ≡ slots.Own s → ⊥) → ((os : List OpenEntry) → entries_of i os ≡ os) → Entering budgets tasks f i g
entering_write budgets tasks f g i h y entries written never before keeps os z sl =
    let old : (x s : ℕ) → get_or (set f.slots h y) x slots.Empty ≡ slots.Own s → slot f x ≡ slots.Own s =
    λ x s. at_set (λ (q : Slot). q ≡ slots.Own s → slot f x ≡ slots.Own s) f.slots h x y slots.Empty (λ e d. absurd (never s d)) (λ d. d)
    in
    let new : (x s : ℕ) → slot f x ≡ slots.Own s → get_or (set f.slots h y) x slots.Empty ≡ slots.Own s =
    λ x s mine. at_set (λ (q : Slot). q ≡ slots.Own s) f.slots h x y slots.Empty (λ e. absurd (before s (rw e at mine))) mine
    in (
      subst (λ es. Zips budgets (take f.function budgets) tasks (slot g) es (entries_of i os)) (sym entries)
          (subst (λ qs. Zips budgets (take f.function budgets) tasks (slot g) f.entries qs) (sym (keeps os))
          (subst (λ xs. Zips budgets (take f.function budgets) tasks (λ x. slice_index_or xs x slots.Empty) f.entries os) (sym written)
          (zips_map budgets (take f.function budgets) tasks tasks (slot f) (λ x. get_or (set f.slots h y) x slots.Empty) f.entries os (λ x s has mine. new x s mine) (λ k s has. refl) z))),
      λ x s e. subst (λ qs. Opens x qs) (sym (keeps os)) (sl x s (old x s (ap (λ xs. slice_index_or xs x slots.Empty) (sym written) ∙ e))),
    )

-- ---- open

-- no task is in a scope that wasn't born
pub lent_nothing : (k : Peak) (budgets : List Budgets) (w : World) → Sound w → subtask_shares k budgets w.tasks (length w.scopes) ≡ 0
lent_nothing k budgets w o = sum-none (share_in k budgets (length w.scopes)) w.tasks no_task (λ u less. by u (task_at w u).scope refl)
  where
    by : (u : ℕ) (q : Option ℕ) → (task_at w u).scope ≡ q → share_in k budgets (length w.scopes) (task_at w u) ≡ 0
    by u None e = rw e refl
    by u (Some r) e =
        let low = (o.born u r e).0 in
        let out : (r == length w.scopes) ≡ false = grind (arith, nat_tests) in
        let no : is_subtask (length w.scopes) (task_at w u) ≡ false = rw e out in
        rw no refl

pub entering_open : (budgets : List Budgets) (w : World) (f : Frame) (x : ℕ) (joiner : Joiner) (timed : Bool) → Sound w → length f.slots ≡ 16 → x < 16 → is_empty (slot f x) ≡ true → Entering budgets w.tasks f (Open x timed joiner) (record (steps f 0 []) { entries = entry.Scope (length w.scopes) ∷ f.entries; slots = set f.slots x (slots.Own (length w.scopes)) })
entering_open budgets w f x joiner timed o size low empty os z sl =
    let n : ℕ = length w.scopes in
    let new : (y s : ℕ) → slot f y ≡ slots.Own s → get_or (set f.slots x (slots.Own n)) y slots.Empty ≡ slots.Own s =
    λ y s mine. at_set (λ (q : Slot). q ≡ slots.Own s) f.slots x y (slots.Own n) slots.Empty (λ e. absurd (not_empty (slot f x) s empty (rw e at mine))) mine
    in (
      (
        (get_or-set_same f.slots x (slots.Own n) slots.Empty (omega (arith, size, low)), λ k. sym (lent_nothing k budgets w o)),
        zips_map budgets (take f.function budgets) w.tasks w.tasks (slot f) (λ y. get_or (set f.slots x (slots.Own n)) y slots.Empty) f.entries os (λ y s has mine. new y s mine) (λ k s has. refl) z,
      ),
      λ y s. at_set (λ (q : Slot). q ≡ slots.Own s → (x ≡ y) ⊎ Opens y os) f.slots x y (slots.Own n) slots.Empty (λ e d. inl (sym e)) (λ d. inr (sl y s d)),
    )
  where
    not_empty : (q : Slot) (s : ℕ) → is_empty q ≡ true → q ≡ slots.Own s → ⊥
    not_empty q s e d = let none : false ≡ true = ap is_empty (sym d) ∙ e in cc

-- ---- close

cleared_at : (w : World) (s : ℕ) (xs : List Slot) (x : ℕ) → get_or (cleared w s xs) x slots.Empty ≡ cond (is_of w s (get_or xs x slots.Empty)) slots.Empty (get_or xs x slots.Empty)
cleared_at w s [] x = refl
cleared_at w s (y ∷ ys) zero = refl
cleared_at w s (y ∷ ys) (suc x) = cleared_at w s ys x

-- a slot that owns a scope afterwards owned it before, and it is another scope
cleared_old : (w : World) (s : ℕ) (xs : List Slot) (x r : ℕ) → get_or (cleared w s xs) x slots.Empty ≡ slots.Own r → (get_or xs x slots.Empty ≡ slots.Own r) × (r ≡ s → ⊥)
cleared_old w s xs x r e = by (get_or xs x slots.Empty) (sym (cleared_at w s xs x) ∙ e)
  where
    by : (q : Slot) → cond (is_of w s q) slots.Empty q ≡ slots.Own r → (q ≡ slots.Own r) × (r ≡ s → ⊥)
    by slots.Empty d = cc
    by (slots.Lent y) d = cc
    by (slots.Sub y) d = cond_both (is_in s (task_at w y).scope) slots.Empty (slots.Sub y) (λ q. q ≡ slots.Own r → (slots.Sub y ≡ slots.Own r) × (r ≡ s → ⊥)) (λ h k. cc) (λ h k. cc) d
    by (slots.Own y) d = own (y == s) refl d
      where
        own : (b : Bool) → (y == s) ≡ b → cond b slots.Empty (slots.Own y) ≡ slots.Own r → (slots.Own y ≡ slots.Own r) × (r ≡ s → ⊥)
        own true h k = cc
        own false h k = (k, λ same_r. let q : y ≡ r = cc in let j : (y == s) ≡ true = grind (arith, nat_tests) in cc)

cleared_new : (w : World) (s : ℕ) (xs : List Slot) (x r : ℕ) → (r ≡ s → ⊥) → get_or xs x slots.Empty ≡ slots.Own r → get_or (cleared w s xs) x slots.Empty ≡ slots.Own r
cleared_new w s xs x r other e =
    let out : (r == s) ≡ false = grind (arith, nat_tests) in
    let a : cond (is_of w s (get_or xs x slots.Empty)) slots.Empty (get_or xs x slots.Empty) ≡ slots.Own r = rw (e, out) refl in
    cleared_at w s xs x ∙ a

close_zips : (budgets earlier : List Budgets) (w : World) (xs : List Slot) (s : ℕ) (es : List Entry) (os : List OpenEntry) → innermost (is_entry_of s) es ≡ true → times_in s es ≤ 1
    → Zips budgets earlier w.tasks (λ x. slice_index_or xs x slots.Empty) es os → ((x r : ℕ) → slice_index_or xs x slots.Empty ≡ slots.Own r → Opens x os)
    → (u : World) → Zips budgets earlier w.tasks (λ x. slice_index_or (cleared u s xs) x slots.Empty) (drop 1 es) (drop 1 os) × ((x r : ℕ) → slice_index_or (cleared u s xs) x slots.Empty ≡ slots.Own r → Opens x (drop 1 os))
close_zips budgets earlier w xs s [] os first once z sl u = cc
close_zips budgets earlier w xs s (entry.Binding k y ∷ es) os first once z sl u = cc
close_zips budgets earlier w xs s (entry.Scope r ∷ es) [] first once z sl u = absurd z
close_zips budgets earlier w xs s (entry.Scope r ∷ es) (OpenBinding ∷ os) first once z sl u = absurd z.0
close_zips budgets earlier w xs s (entry.Scope r ∷ es) (OpenScope y fs ∷ os) first once z sl u =
    let same_r : r ≡ s = grind (arith, nat_tests) in
    let only : times_in s (entry.Scope s ∷ es) ≤ 1 = rw same_r at once in (
      zips_map budgets earlier w.tasks w.tasks (λ x. slice_index_or xs x slots.Empty) (λ x. slice_index_or (cleared u s xs) x slots.Empty) es os
          (λ x q has mine. cleared_new u s xs x q (λ e. not_in_rest s es only (rw e at has)) mine) (λ k q has. refl) z.1,
      λ x q e.
          let old = cleared_old u s xs x q e in
          rest x q old.0 old.1 (sl x q old.0),
    )
  where
    rest : (x q : ℕ) → slice_index_or xs x slots.Empty ≡ slots.Own q → (q ≡ s → ⊥) → (y ≡ x) ⊎ Opens x os → Opens x os
    rest x q mine other (inl e) =
        let there : slice_index_or xs x slots.Empty ≡ slots.Own r = rw e at z.0.0 in
        let same_r : r ≡ s = grind (arith, nat_tests) in
        let k : q ≡ r = cc in
        absurd (other (k ∙ same_r))
    rest x q mine other (inr h) = h

pub entering_close : (budgets : List Budgets) (w u : World) (f : Frame) (x s : ℕ) → not (innermost (is_entry_of s) f.entries) ≡ false → times_in s f.entries ≤ 1 → Entering budgets w.tasks f (Close x) (record (steps f 0 []) { entries = drop 1 f.entries; slots = cleared u s f.slots })
entering_close budgets w u f x s first once os z sl = close_zips budgets (take f.function budgets) w f.slots s f.entries os (not-false (innermost (is_entry_of s) f.entries) first) once z sl u
