-- A task comes to its end.
use Rattle.std.proofs.Common.{◌≡◌, ℕ, List, ◌≤◌, ◌<◌, ◌⊎◌, inl, inr, [], ◌∷◌, ◌++◌, map, Bool, true, false, Option, Some, None, refl, sym, ◌∙◌, ap, subst}
use Rattle.std.proofs.Common.{length, arith, cond, nat_eq, length-set, get_or-set_same, get_or-set_other}
use Rattle.std.specs.Prelude.{slice_get}
use Rattle.std.proofs.lemmas.Bool.Decides.{nat_tests}
use Rattle.laws_runs.proofs.CauseLemmas.{cancel-others}
use Rattle.sts_code.specs.Program.{Program}
use Rattle.sts_code.specs.declared.instr.Instr.{Instr}
use Rattle.sts_model.specs.declared.event.End.{End}
use Rattle.sts_model.specs.declared.event.Phase.TheVariants.{Closing}
use Rattle.sts_model.specs.declared.record.Completion.{Completion}
use Rattle.sts_model.specs.declared.record.Frame.{Frame}
use Rattle.sts_model.specs.declared.record.Scope.{Scope}
use Rattle.sts_model.specs.declared.record.Task.{Task}
use Rattle.sts_model.specs.World.{World, task_at, scope_at, no_task, no_scope, with_scope}
use Rattle.sts_model.specs.Local.{steps}
use Rattle.sts_model.specs.Living.{lives, ends, ends_of, completion_of}
use Rattle.sts_model.specs.Cancelling.{cancel}
use Rattle.sts_model.specs.Joining.{cancels}
use Rattle.sts_model.specs.Misuse.{is_joined}
use Rattle.sts_model.specs.Effect.{told, decide, tell, ended, end_task}
use Rattle.laws_runs.specs.Runs.{Does}
use Rattle.laws_runs.specs.Scopes.{is_leaving}
use Rattle.laws_runs.proofs.ListLemmas.{at_set}
use Rattle.laws_runs.proofs.EffectLemmas.{endless, frame-cancel, still-decide}
use Rattle.laws_runs.proofs.StillLemmas.{Still}
use Rattle.laws_runs.proofs.StayLemmas.{ended_is_dead}
use Rattle.laws_runs.proofs.CompletionLemmas.{completion-front, completion-new, completion-either}
use Rattle.laws_runs.proofs.EventLemmas.{Next}
use Rattle.laws_runs.proofs.BirthLemmas.{born_alive}
use Rattle.laws_calls.specs.Outside.{Outside}
use Rattle.laws_calls.specs.Tasks.{HasWay, May, Part, Seen, Knowledge, Unseen, ByJoiner, Heard, bare, nothing, Late}
use Rattle.laws_calls.specs.Steps.{Row, Table, IsTable, end_by}
use Rattle.laws_calls.specs.Covers.{subs, PartFits, ScopeFits, SeenFits, IsRight}
use Rattle.laws_calls.specs.Covers.{IsTimely, IsCovered, Watched, watched_root, watched_sub, Covers, HasState, alive_in}
use Rattle.laws_calls.proofs.Lists.{all_map, no}
use Rattle.laws_calls.proofs.Turns.{Facts, FlagsHaveCause, alive_later, covered_before, seen_same, task_same, sub_born}
use Rattle.laws_calls.proofs.Moves.{covers_on, subs_same}
use Rattle.laws_calls.proofs.Phases.{at_cancelled}
use Rattle.laws_calls.specs.Triggers.{triggers}
use Rattle.laws_calls.specs.Fitting.{most, MayCount, Answers}
use Rattle.laws_calls.proofs.Early.{order_told}
use Rattle.laws_calls.proofs.Possible.{joined_on, counts_told, few_told}
use Rattle.laws_calls.proofs.Alone.{instr_of}

-- ---- what the end changes

-- the joiner of the scope was told
pub record IsTold (w v : World) (u : ℕ) (end : End) (s : ℕ) : Type 0 where
  pub inside : (task_at w u).scope ≡ Some s
  pub free : (scope_at w s).cancelled ≡ false
  pub phase : (scope_at v s).phase ≡ (scope_at w s).phase
  pub completions : (scope_at v s).completions ≡ (scope_at w s).completions ++ record { task = u; end = end } ∷ []

-- the task u has ended, and no other scope than its own was changed
pub record Ended (w v : World) (u : ℕ) (end : End) : Type 0 where
  pub count : length v.tasks ≡ length w.tasks
  pub opened : length v.scopes ≡ length w.scopes
  pub here : (task_at v u).outcome ≡ Some end
  pub outcome : (k : ℕ) → (k ≡ u → ⊥) → (task_at v k).outcome ≡ (task_at w k).outcome
  pub frame : (k : ℕ) → (k ≡ u → ⊥) → (task_at v k).frame ≡ (task_at w k).frame
  pub scope : (k : ℕ) → (task_at v k).scope ≡ (task_at w k).scope
  pub timely : (s : ℕ) → IsTimely (scope_at w s) → IsTimely (scope_at v s)
  pub scopes : (s : ℕ) → (scope_at v s ≡ scope_at w s) ⊎ IsTold w v u end s

module _ (w : World) (u : ℕ) (end : End) (born : u < length w.tasks) where
  abbrev f : Frame
  f = (task_at w u).frame

  abbrev w1 : World
  w1 = ended w u f end

  abbrev x : Task
  x = record (task_at w u) { frame = steps f 1 []; outcome = Some end }

  -- no joiner is told
  untold : Ended w w1 u end
  untold =
      record {
        count = length-set w.tasks u x;
        opened = refl;
        here = ap (λ (y : Task). y.outcome) (get_or-set_same w.tasks u x no_task born);
        outcome = λ k other. ap (λ (y : Task). y.outcome) (get_or-set_other w.tasks u k x no_task other);
        frame = λ k other. ap (λ (y : Task). y.frame) (get_or-set_other w.tasks u k x no_task other);
        scope = λ k. at_set (λ (y : Task). y.scope ≡ (task_at w k).scope) w.tasks u k x no_task (λ e. rw e refl) refl;
        timely = λ s k. k;
        scopes = λ s. inl refl;
      }

  module _ (s : ℕ) (inside : (task_at w u).scope ≡ Some s) (born_s : s < length w.scopes) (free : (scope_at w s).cancelled ≡ false) where
    abbrev y : Scope
    y = told (scope_at w s) u end

    abbrev w2 : World
    w2 = with_scope w1 s y

    abbrev w3 : World
    w3 = decide w2 s

    same_frame : (k : ℕ) → (task_at w3 k).frame ≡ (task_at w2 k).frame
    same_frame k = by (cancels (scope_at w2 s).joiner (ends (scope_at w2 s)))
      where
        by : (b : Bool) → (task_at (cond b (cancel w2 s) w2) k).frame ≡ (task_at w2 k).frame
        by true = frame-cancel w2 s k
        by false = refl

    -- what a cancel doesn't change
    same_scope : (P : Scope → Type 0) (r : ℕ) → P (scope_at w2 r) → P (record (scope_at w2 r) { cancelled = true }) → P (scope_at w3 r)
    same_scope P r old new = by (cancels (scope_at w2 s).joiner (ends (scope_at w2 s)))
      where
        by : (b : Bool) → P (scope_at (cond b (cancel w2 s) w2) r)
        by true = at_cancelled P w2 s r old new
        by false = old

    other_scope : (r : ℕ) → (r ≡ s → ⊥) → scope_at w3 r ≡ scope_at w r
    other_scope r other = by (cancels (scope_at w2 s).joiner (ends (scope_at w2 s)))
      where
        old : scope_at w2 r ≡ scope_at w r
        old = get_or-set_other w.scopes s r y no_scope other

        by : (b : Bool) → scope_at (cond b (cancel w2 s) w2) r ≡ scope_at w r
        by true = cancel-others w2 s r other ∙ old
        by false = old

    here_told : scope_at w2 s ≡ y
    here_told = get_or-set_same w.scopes s y no_scope born_s

    still : Still w2 w3
    still = still-decide w2 s

    is_told : IsTold w w3 u end s
    is_told =
        record {
          inside = inside;
          free = free;
          phase = same_scope (λ (z : Scope). z.phase ≡ (scope_at w s).phase) s (ap (λ (z : Scope). z.phase) here_told) (ap (λ (z : Scope). z.phase) here_told);
          completions = still.completions s ∙ ap (λ (z : Scope). z.completions) here_told;
        }

    old_timely : (r : ℕ) → IsTimely (scope_at w r) → IsTimely (scope_at w2 r)
    old_timely r k = at_set (λ (z : Scope). IsTimely z) w.scopes s r y no_scope (λ e. subst (λ i. IsTimely (scope_at w i)) e k) k

    -- the joiner of its scope is told
    telling : Ended w w3 u end
    telling =
        record {
          count = still.kept.tasks ∙ untold.count;
          opened = still.kept.scopes ∙ length-set w.scopes s y;
          here = still.outcome u ∙ untold.here;
          outcome = λ k other. still.outcome k ∙ untold.outcome k other;
          frame = λ k other. same_frame k ∙ untold.frame k other;
          scope = λ k. (still.kept.task k).same.scope ∙ untold.scope k;
          timely = λ r k. same_scope (λ (z : Scope). IsTimely z) r (old_timely r k) (old_timely r k);
          scopes = λ r. by r (nat_eq r s) refl;
        }
      where
        by : (r : ℕ) (b : Bool) → nat_eq r s ≡ b → (scope_at w3 r ≡ scope_at w r) ⊎ IsTold w w3 u end r
        by r true e = let same : r ≡ s = grind (arith, nat_tests) in inr (subst (λ i. IsTold w w3 u end i) (sym same) is_told)
        by r false e = inl (other_scope r (grind (arith, nat_tests)))

  pub has_ended : ((s : ℕ) → (task_at w u).scope ≡ Some s → s < length w.scopes) → Ended w (end_task w u f end) u end
  unfolding end_task
  has_ended born_in = by (task_at w u).scope refl
    where
      by_cancelled : (s : ℕ) → (task_at w u).scope ≡ Some s → (b : Bool) → (scope_at w s).cancelled ≡ b → Ended w (cond b w1 (decide (with_scope w1 s (told (scope_at w s) u end)) s)) u end
      by_cancelled s e true gone = untold
      by_cancelled s e false free = telling s e (born_in s e) free

      by : (q : Option ℕ) → (task_at w u).scope ≡ q → Ended w (tell w1 u q end) u end
      by None e = untold
      by (Some s) e = by_cancelled s e (scope_at w s).cancelled refl

ends_more : (cs : List Completion) (c : Completion) → ends_of (cs ++ c ∷ []) ≡ ends_of cs ++ c.end ∷ []
ends_more [] c = refl
ends_more (x ∷ cs) c = ap (λ (es : List End). x.end ∷ es) (ends_more cs c)

-- ---- the table

module _ (p : Program) (outside : Outside) (t : Table) (root : Row) (is : IsTable p outside t root) (w v : World) (h : Facts w) (n : Next w v) (flags : FlagsHaveCause outside w v) (u : ℕ) (end : End) (alive : lives (task_at w u) ≡ true) (o : Ended w v u end) where
  same_subs : (s : ℕ) → subs v s ≡ subs w s
  same_subs s = subs_same w v s o.count o.scope

  -- the end that the joiner was told of is one of the part
  part_told : (rows : ℕ → Row) → HasWay (rows u).ways end → (s : ℕ) → IsTold w v u end s → (i : ℕ) (part : Part) → i < length w.tasks → PartFits rows (alive_in w) (scope_at w s) i part → PartFits rows (alive_in v) (scope_at v s) i part
  part_told rows way s told i part born f =
      record {
        may = subst (λ cs. May part (completion_of cs i)) (sym told.completions) (may (nat_eq i u) refl);
        whole = λ lives_i free e way2. f.whole (alive_later (task_at w i) (task_at v i) (n.later.task i born) lives_i) told.free e way2;
      }
    where
      none_yet : (q : Option End) → completion_of (scope_at w s).completions u ≡ q → completion_of (scope_at w s).completions u ≡ None
      none_yet None e = e
      none_yet (Some z) e = absurd (endless (task_at w u) z alive ((h.right.told s).ended u z e))

      old : (other : i ≡ u → ⊥) → (q : Option End) → completion_of ((scope_at w s).completions ++ record { task = u; end = end } ∷ []) i ≡ q → (r : Option End) → completion_of (scope_at w s).completions i ≡ r → q ≡ r
      old other q e (Some z) e2 = sym e ∙ completion-front (scope_at w s).completions (record { task = u; end = end } ∷ []) i z e2
      old other None e None e2 = refl
      old other (Some z) e None e2 = either (completion-either (scope_at w s).completions (record { task = u; end = end }) i z e)
        where
          either : (completion_of (scope_at w s).completions i ≡ Some z) ⊎ ((i ≡ u) × (z ≡ end)) → Some z ≡ None
          either (inl e3) = sym e3 ∙ e2
          either (inr e3) = absurd (other e3.0)

      may : (b : Bool) → nat_eq i u ≡ b → May part (completion_of ((scope_at w s).completions ++ record { task = u; end = end } ∷ []) i)
      may true e =
          let same : i ≡ u = grind (arith, nat_tests) in
          let mine : HasWay part.ways end = f.whole (subst (λ k. lives (task_at w k) ≡ true) (sym same) alive) told.free end (subst (λ k. HasWay (rows k).ways end) (sym same) way) in
          let none : completion_of (scope_at w s).completions u ≡ None = none_yet (completion_of (scope_at w s).completions u) refl in
          subst (λ k. May part (completion_of ((scope_at w s).completions ++ record { task = u; end = end } ∷ []) k)) (sym same)
          (subst (λ q. May part q) (sym (completion-new (scope_at w s).completions (record { task = u; end = end }) none)) mine)
      may false e =
          let other : i ≡ u → ⊥ = grind (arith, nat_tests) in
          subst (λ q. May part q) (sym (old other (completion_of ((scope_at w s).completions ++ record { task = u; end = end } ∷ []) i) refl (completion_of (scope_at w s).completions i) refl)) f.may

  -- a scope whose joiner was told; what its owner knows of it stays
  seen_told : (rows : ℕ → Row) → HasWay (rows u).ways end → (s : ℕ) (x : Seen) → s < length w.scopes → IsTold w v u end s → SeenFits rows w s x → SeenFits rows v s x
  seen_told rows way s x born told k =
      subst (λ us. ScopeFits rows (alive_in v) (scope_at v s) us x) (sym (same_subs s))
      (record {
        joiner = k.joiner ∙ sym (n.later.scope s born).same.joiner;
        timed = k.timed ∙ sym (n.later.scope s born).same.timed;
        environment = k.environment ∙ sym (n.later.scope s born).same.environment;
        phase = phase k.phase;
        known = known x.knowledge k.known;
        on_time = λ is joined. (n.later.scope s born).moves.timely (joined_on (scope_at w s).phase x.phase k.phase joined) ∙ k.on_time is joined;
        counts = counts x.knowledge k.known k.counts;
        asked = inl (unasked k.phase k.asked);
        order = λ e. order_told x.has_failure (scope_at w s) (scope_at v s) (subs w s) x.parts (record { task = u; end = end } ∷ []) told.completions (k.order e);
        parts = all_map (PartFits rows (alive_in w) (scope_at w s)) (PartFits rows (alive_in v) (scope_at v s)) (subs w s) x.parts (λ i part at e. part_told rows way s told i part (sub_born w s i at) e) k.parts;
      })
    where
      phase : ((scope_at w s).phase ≡ x.phase) ⊎ ((scope_at w s).phase ≡ Closing) → ((scope_at v s).phase ≡ x.phase) ⊎ ((scope_at v s).phase ≡ Closing)
      phase (inl e) = inl (told.phase ∙ e)
      phase (inr e) = inr (told.phase ∙ e)

      -- nothing was asked, since u lives
      unasked : ((scope_at w s).phase ≡ x.phase) ⊎ ((scope_at w s).phase ≡ Closing) → (x.asked ≡ nothing) ⊎ ((is_joined x.phase ≡ true) × Answers x.asked (map (completion_of (scope_at w s).completions) (subs w s))) → x.asked ≡ nothing
      unasked same (inl e) = e
      unasked (inl same) (inr a) = let dead = h.settled s u (ap is_joined same ∙ a.0) told.free told.inside in absurd (no (sym alive ∙ dead))
      unasked (inr same) (inr a) = let gone = (h.caused s born).leaving (ap is_leaving same) in absurd (no (sym gone ∙ told.free))

      few : triggers x.joiner (ends (scope_at v s)) ≤ most x.joiner
      few =
          subst (λ (l : List End). triggers x.joiner l ≤ most x.joiner) (sym (ap ends_of told.completions ∙ ends_more (scope_at w s).completions (record { task = u; end = end })))
          (few_told x.joiner (ends (scope_at w s)) end (λ e. ap ends_of ((h.caused s born).asked told.free (ap (λ j. cancels j (ends (scope_at w s))) (sym k.joiner) ∙ e))))

      counts : (q : Knowledge) → IsRight q (scope_at w s) → MayCount q x.phase x.joiner (triggers x.joiner (ends (scope_at w s))) → MayCount q x.phase x.joiner (triggers x.joiner (ends (scope_at v s)))
      counts Unseen r m = counts_told x.phase x.joiner (triggers x.joiner (ends (scope_at w s))) (triggers x.joiner (ends (scope_at v s))) m few
      counts Late r m = let gone : (scope_at w s).cancelled ≡ true = r.0 in absurd (no (sym gone ∙ told.free))
      counts ByJoiner r m = let gone : (scope_at w s).cancelled ≡ true = r in absurd (no (sym gone ∙ told.free))
      counts Heard r m = let dead = h.settled s u r.1 told.free told.inside in absurd (no (sym alive ∙ dead))

      known : (q : Knowledge) → IsRight q (scope_at w s) → IsRight q (scope_at v s)
      known Unseen r = tt
      known Late r = let gone : (scope_at w s).cancelled ≡ true = r.0 in absurd (no (sym gone ∙ told.free))
      known ByJoiner r = let gone : (scope_at w s).cancelled ≡ true = r in absurd (no (sym gone ∙ told.free))
      known Heard r = let dead = h.settled s u r.1 told.free told.inside in absurd (no (sym alive ∙ dead))

  module _ (i : Instr) (d : Does p w u i) (is_end : end_by i (bare (task_at w u).frame) ≡ Some end) (c : Covers p outside t root w) where
    -- the end of a task that is covered is a way of its row
    way : IsCovered outside w u → HasWay (c.rows u).ways end
    way owed =
        let old : HasState outside c.rows c.left w u = c.tasks u alive owed in
        is.ends (c.rows u) old.0 i end (c.listed u) old.1.there (instr_of p (task_at w u).frame old.0 i old.1.fits.frame d.at)
        (subst (λ (z : Frame). end_by i z ≡ Some end) old.1.fits.frame is_end)

    other_covered : (k : ℕ) → lives (task_at v k) ≡ true → IsCovered outside v k → (k ≡ u → ⊥) → HasState outside c.rows c.left v k
    other_covered k lives_k owed other =
        let born : k < length w.tasks = (let b = born_alive v k lives_k in let m = o.count in omega (arith, b, m)) in
        let before : lives (task_at w k) ≡ true = alive_later (task_at w k) (task_at v k) (n.later.task k born) lives_k in
        let seen : IsCovered outside w k = covered_before w v h n outside k born owed in
        let old : HasState outside c.rows c.left w k = c.tasks k before seen in (
          old.0,
          task_same w v h n outside flags c.rows c.rows k old.0 before owed (o.frame k other) (λ j less. refl)
              (λ s y less owner e. keeps s y less owner seen e (o.scopes s))
              (λ s j z less owner e. subst (λ us. slice_get us j ≡ Some z) (sym (same_subs s)) e)
              old.1,
          old.2,
        )
      where
        inside_covered : (s : ℕ) → (scope_at w s).owner ≡ k → IsTold w v u end s → IsCovered outside w k → IsCovered outside w u
        inside_covered s owner told (inl wide) = inl wide
        inside_covered s owner told (inr watched) = inr (watched_sub s told.inside told.free (subst (λ j. Watched w j) (sym owner) watched))

        keeps : (s : ℕ) (y : Seen) → s < length w.scopes → (scope_at w s).owner ≡ k → IsCovered outside w k → SeenFits c.rows w s y → (scope_at v s ≡ scope_at w s) ⊎ IsTold w v u end s → SeenFits c.rows v s y
        keeps s y less owner seen e (inl same) = seen_same w v h n c.rows c.rows s y same (same_subs s) (λ j less2. refl) e
        keeps s y less owner seen e (inr told) = seen_told c.rows (way (inside_covered s owner told seen)) s y less told e

    covered : (k : ℕ) → lives (task_at v k) ≡ true → IsCovered outside v k → HasState outside c.rows c.left v k
    covered k lives_k owed = other_covered k lives_k owed (λ same. no (sym lives_k ∙ subst (λ j. lives (task_at v j) ≡ false) (sym same) (ended_is_dead (task_at v u) end o.here)))

    root_ended : (e : End) → (task_at v 0).outcome ≡ Some e → (b : Bool) → nat_eq 0 u ≡ b → HasWay root.ways e
    root_ended e is2 true q =
        let same : 0 ≡ u = grind (arith, nat_tests) in
        let one : Some end ≡ Some e = sym o.here ∙ ap (λ j. (task_at v j).outcome) (sym same) ∙ is2 in
        let at : end ≡ e = cc in
        let mine : HasWay (c.rows 0).ways end = subst (λ j. HasWay (c.rows j).ways end) (sym same) (way (subst (λ j. IsCovered outside w j) same (inr watched_root))) in
        subst (λ z. HasWay root.ways z) at (subst (λ (row : Row). HasWay row.ways end) c.first mine)
    root_ended e is2 false q = let other : 0 ≡ u → ⊥ = grind (arith, nat_tests) in c.ended e (sym (o.outcome 0 other) ∙ is2)

    pub covers_ended : Covers p outside t root v
    covers_ended = covers_on c v o.count o.opened (λ s. o.timely s (c.timely s)) covered (λ e is2. root_ended e is2 (nat_eq 0 u) refl)

pub end_covered : (p : Program) (outside : Outside) (t : Table) (root : Row) → IsTable p outside t root → (w : World) (h : Facts w) (u : ℕ) (i : Instr) (end : End) → Does p w u i → end_by i (bare (task_at w u).frame) ≡ Some end → Covers p outside t root w
    → Next w (end_task w u (task_at w u).frame end) → FlagsHaveCause outside w (end_task w u (task_at w u).frame end) → Covers p outside t root (end_task w u (task_at w u).frame end)
end_covered p outside t root is w h u i end d is_end c n flags =
    covers_ended p outside t root is w (end_task w u (task_at w u).frame end) h n flags u end d.alive (has_ended w u end (born_alive w u d.alive) (λ s e. (h.right.sound.born u s e).0)) i d is_end c
