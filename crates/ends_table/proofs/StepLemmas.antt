-- The states to which each instruction leads.
use Rattle.std.proofs.Common.{◌≡◌, ℕ, pos, List, [], ◌∷◌, Bool, true, false, Option, Some, refl, sym, ◌∙◌, subst, is_some}
use Rattle.std.specs.Prelude.{unwrap_or, slice_get, drop}
use Rattle.sts_code.specs.Program.{Program}
use Rattle.sts_code.specs.declared.instr.Instr.{Instr}
use Rattle.sts_code.specs.declared.instr.Instr.TheVariants.{Open, Fork, Join, Close, Cancelled, Case, Get, Except, Tally, Total, Bind, Unbind, Read, Bound}
use Rattle.sts_code.specs.declared.instr.Instr.TheVariants.{OrElse, Interrupted, Ret, Fail}
use Rattle.sts_code.specs.declared.instr.Joiner.{Joiner}
use Rattle.sts_code.specs.declared.instr.Kind.{Kind}
use Rattle.sts_model.specs.declared.event.End.TheVariants.{Success, Failed}
use Rattle.sts_model.specs.declared.record.Entry.TheVariants as entry
use Rattle.sts_model.specs.Local.{stays_in_frame, operand, steps, truth}
use Rattle.sts_model.specs.Environment.{read}
use Rattle.laws_calls.specs.declared.table.Held.TheVariants as held
use Rattle.laws_calls.specs.declared.table.Outside.{Outside}
use Rattle.laws_calls.specs.Outside.{may_flag, per_birth}
use Rattle.laws_calls.specs.Tasks.{at_place, held_at, bindings}
use Rattle.laws_calls.specs.declared.table.Call.{Call}
use Rattle.laws_calls.specs.declared.table.Own.{Own}
use Rattle.laws_calls.specs.declared.table.Seen.{Seen}
use Rattle.laws_calls.specs.declared.table.Part.{Part}
use Rattle.laws_calls.specs.Steps.{Table, Leads, LeadsBy, Forks, born_by, Owns, Knows, to, alone, pushes, forked, opened, closed, local_step, read_step}
use Rattle.laws_calls.specs.Steps.{bound_step, or_else_step, bind_step, unbind_step, calm_step, interrupted_step, lent_step, lent_cancelled_step, going_step}
use Rattle.laws_calls.specs.Steps.{cancelled_step, expired_step, open_step, unstarted_step, close_step, attempted_step, timeout_step, by_one_step}
use Rattle.laws_calls.specs.Steps.{by_count_step, heard_step, none_step, success_step, failure_step, missed_step, get_step, except_step, tally_step, total_step}
use Rattle.laws_calls.specs.Steps.{is_cancelled, may_decide, may_be_late, with_seen, after_cancel, after_expiry}
use Rattle.ends_table.specs.Answered.{TalliesLead, TotalsLead}
use Rattle.ends_table.specs.Led.{AllLead, LooksLead, AttemptLeads, JoinsLead, CasesLead, ReadsLead, read_of}

module _ (p : Program) (outside : Outside) (c : Call) (states : List Own) (own : Own) where
  -- ---- what a slot holds

  -- a slot holds one scope
  owned : (P : ℕ → Seen → Type 0) (x a b : ℕ) (s r : Seen) → Owns own x a s → Owns own x b r → P a s → P b r
  owned P x a b s r o q h =
      let e : held.Own a ≡ held.Own b = sym o.holds ∙ q.holds in
      let same : a ≡ b = cc in
      let there : at_place own.scopes b ≡ Some s = subst (λ k. at_place own.scopes k ≡ Some s) same o.there in
      let e2 : Some s ≡ Some r = sym there ∙ q.there in
      let one : s ≡ r = cc in
      subst (λ k. P b k) one (subst (λ k. P k s) same h)

  -- a slot holds one subtask
  knows : (P : ℕ → Seen → ℕ → Part → Type 0) (x a b : ℕ) (s r : Seen) (i j : ℕ) (y z : Part) → Knows own x a s i y → Knows own x b r j z → P a s i y → P b r j z
  knows P x a b s r i j y z o q h =
      let e : held.Sub a i ≡ held.Sub b j = sym o.holds ∙ q.holds in
      let same : a ≡ b = cc in
      let same2 : i ≡ j = cc in
      let there : at_place own.scopes b ≡ Some s = subst (λ k. at_place own.scopes k ≡ Some s) same o.there in
      let e2 : Some s ≡ Some r = sym there ∙ q.there in
      let one : s ≡ r = cc in
      let known : slice_get r.parts j ≡ Some y = subst (λ k. slice_get r.parts k ≡ Some y) same2 (subst (λ k. slice_get k.parts i ≡ Some y) one o.known) in
      let e3 : Some y ≡ Some z = sym known ∙ q.known in
      let part : y ≡ z = cc in
      subst (λ k. P b r j k) part (subst (λ k. P b r k y) same2 (subst (λ k. P b k i y) one (subst (λ k. P k s i y) same h)))

  -- ---- the frame alone

  -- an instruction that stays in the frame makes no birth
  local_none : (i : Instr) → stays_in_frame i ≡ true → born_by outside i ≡ 0
  local_none (Open x timed joiner) e = cc
  local_none (Fork x g h) e = cc
  local_none i e = refl

  pub local_leads : (i : Instr) → stays_in_frame i ≡ true → Leads states (alone p own i) → AllLead p outside c states own i
  local_leads i e h next (local_step stays) = subst (λ n. LeadsBy n states (alone p own i)) (sym (local_none i e)) h
  local_leads i e h next read_step = cc
  local_leads i e h next bound_step = cc
  local_leads i e h next or_else_step = cc
  local_leads i e h next bind_step = cc
  local_leads i e h next unbind_step = cc
  local_leads i e h next calm_step = cc
  local_leads i e h next (interrupted_step may) = cc
  local_leads i e h next (lent_step holds) = cc
  local_leads i e h next (lent_cancelled_step holds may) = cc
  local_leads i e h next (going_step place seen pick o free fits less) = cc
  local_leads i e h next (cancelled_step place seen o may) = cc
  local_leads i e h next (expired_step place seen o may timed) = cc
  local_leads i e h next open_step = cc
  local_leads i e h next (unstarted_step place seen o gone) = cc
  local_leads i e h next close_step = cc
  local_leads i e h next (attempted_step place seen may o unseen some) = cc
  local_leads i e h next (timeout_step place seen o may timed) = cc
  local_leads i e h next (by_one_step place seen j part end o may one way counts) = cc
  local_leads i e h next (by_count_step place seen o may many) = cc
  local_leads i e h next (heard_step place seen o free none) = cc
  local_leads i e h next (none_step place seen j part end o free any way fails early) = cc
  local_leads i e h next (success_step place seen j part counting k) = cc
  local_leads i e h next (failure_step place seen j part counting k) = cc
  local_leads i e h next (missed_step place seen j part k may) = cc
  local_leads i e h next (get_step place seen j part v k way) = cc
  local_leads i e h next (except_step place seen j part v k way) = cc
  local_leads i e h next (tally_step place seen pick o fits) = cc
  local_leads i e h next (total_step place seen pick o fits) = cc

  pub read_leads : (k : ℕ) → Leads states (pushes own 0 (unwrap_or (read (bindings c own) k) (pos 0))) → AllLead p outside c states own (Read k)
  read_leads k h next (local_step e) = cc
  read_leads k h next read_step = h

  pub bound_leads : (k : ℕ) → Leads states (pushes own 0 (truth (is_some (read (bindings c own) k)))) → AllLead p outside c states own (Bound k)
  bound_leads k h next (local_step e) = cc
  bound_leads k h next bound_step = h

  pub or_else_leads : (k : ℕ) → Leads states (pushes own 1 (unwrap_or (read (bindings c own) k) (operand own.frame 0))) → AllLead p outside c states own (OrElse k)
  or_else_leads k h next (local_step e) = cc
  or_else_leads k h next or_else_step = h

  pub bind_leads : (k : ℕ) → Leads states (to own (record (steps own.frame 1 []) { entries = entry.Binding k (operand own.frame 0) ∷ own.frame.entries })) → AllLead p outside c states own (Bind k)
  bind_leads k h next (local_step e) = cc
  bind_leads k h next bind_step = h

  pub unbind_leads : Leads states (to own (record (steps own.frame 0 []) { entries = drop 1 own.frame.entries })) → AllLead p outside c states own Unbind
  unbind_leads h next (local_step e) = cc
  unbind_leads h next unbind_step = h

  pub interrupted_leads : Leads states (pushes own 0 (truth false)) → (may_flag outside ≡ true → Leads states (pushes own 0 (truth true))) → AllLead p outside c states own Interrupted
  interrupted_leads h k next (local_step e) = cc
  interrupted_leads h k next calm_step = h
  interrupted_leads h k next (interrupted_step may) = k may

  pub ret_leads : AllLead p outside c states own Ret
  ret_leads next (local_step e) = cc

  pub fail_leads : AllLead p outside c states own Fail
  fail_leads next (local_step e) = cc

  -- ---- scopes

  pub open_leads : (x : ℕ) (joiner : Joiner) (timed : Bool) → LeadsBy (per_birth outside) states (opened c own x joiner timed) → AllLead p outside c states own (Open x timed joiner)
  open_leads x joiner timed h next (local_step e) = cc
  open_leads x joiner timed h next open_step = h

  pub close_leads : (x : ℕ) → Leads states (closed own) → AllLead p outside c states own (Close x)
  close_leads x h next (local_step e) = cc
  close_leads x h next close_step = h

  pub fork_leads : (x g : ℕ) (q : Option ℕ) (place : ℕ) (seen : Seen) → Owns own x place seen → (is_cancelled seen.knowledge ≡ true → LeadsBy (per_birth outside) states (forked p own place seen [] g q)) → AllLead p outside c states own (Fork x g q)
  fork_leads x g q place seen o h next (local_step e) = cc
  fork_leads x g q place seen o h next (unstarted_step place2 seen2 k gone) = owned (λ a s. is_cancelled s.knowledge ≡ true → LeadsBy (per_birth outside) states (forked p own a s [] g q)) x place place2 seen seen2 o k h gone

  -- an instruction is one `fork`
  pub fork_starts : (t : Table) (x g : ℕ) (q : Option ℕ) (place : ℕ) (seen : Seen) → Owns own x place seen → (is_cancelled seen.knowledge ≡ false → (y : ℕ) → Forks p outside t states own y g q place seen) → (y k place2 : ℕ) (h : Option ℕ) (seen2 : Seen) → Fork x g q ≡ Fork y k h → Owns own y place2 seen2 → is_cancelled seen2.knowledge ≡ false → (z : ℕ) → Forks p outside t states own z k h place2 seen2
  fork_starts t x g q place seen o starts y k place2 h seen2 is o2 free z =
      let slots : y ≡ x = cc in
      let functions : g ≡ k = cc in
      let handles : q ≡ h = cc in
      let owns : Owns own x place2 seen2 = subst (λ (n : ℕ). Owns own n place2 seen2) slots o2 in
      let forks : Forks p outside t states own z g q place2 seen2 = owned (λ a s. is_cancelled s.knowledge ≡ false → (n : ℕ) → Forks p outside t states own n g q a s) x place place2 seen seen2 o owns starts free z in
      subst (λ (n : Option ℕ). Forks p outside t states own z k n place2 seen2) handles (subst (λ (n : ℕ). Forks p outside t states own z n q place2 seen2) functions forks)

  not_lent : (x place : ℕ) (seen : Seen) → held_at own x ≡ held.Lent → Owns own x place seen → ⊥
  not_lent x place seen holds o = let e : held.Lent ≡ held.Own place = sym holds ∙ o.holds in cc

  pub lent_leads : (x : ℕ) → held_at own x ≡ held.Lent → Leads states (pushes own 0 (truth false)) → (outside.cancels ≡ true → Leads states (pushes own 0 (truth true))) → AllLead p outside c states own (Cancelled x)
  lent_leads x holds h k next (local_step e) = cc
  lent_leads x holds h k next (lent_step again) = h
  lent_leads x holds h k next (lent_cancelled_step again may) = k may
  lent_leads x holds h k next (going_step place seen pick o free fits less) = h
  lent_leads x holds h k next (cancelled_step place seen o may) = absurd (not_lent x place seen holds o)
  lent_leads x holds h k next (expired_step place seen o may timed) = absurd (not_lent x place seen holds o)

  pub looks_lead : (x place : ℕ) (seen : Seen) → Owns own x place seen → LooksLead states own place seen → AllLead p outside c states own (Cancelled x)
  looks_lead x place seen o h next (local_step e) = cc
  looks_lead x place seen o h next (lent_step holds) = absurd (not_lent x place seen holds o)
  looks_lead x place seen o h next (lent_cancelled_step holds may) = absurd (not_lent x place seen holds o)
  looks_lead x place seen o h next (going_step place2 seen2 pick q free fits less) = owned (λ a s. is_cancelled s.knowledge ≡ false → Leads states (pushes own 0 (truth false))) x place place2 seen seen2 o q h.going free
  looks_lead x place seen o h next (cancelled_step place2 seen2 q may) = owned (λ a s. may_decide s.knowledge ≡ true → Leads states (pushes (with_seen own a (after_cancel s)) 0 (truth true))) x place place2 seen seen2 o q h.cancelled may
  looks_lead x place seen o h next (expired_step place2 seen2 q may timed) = owned (λ a s. may_be_late s.knowledge ≡ true → s.timed ≡ true → Leads states (pushes (with_seen own a (after_expiry s)) 0 (truth true))) x place place2 seen seen2 o q h.expired may timed

  pub joins_lead : (x to_i : ℕ) (failed timeout : Option ℕ) (place : ℕ) (seen : Seen) → Owns own x place seen → JoinsLead states own place seen (unwrap_or failed 0) (unwrap_or timeout 0) → (may_flag outside ≡ true → AttemptLeads states own place seen to_i) → AllLead p outside c states own (Join x failed timeout to_i)
  joins_lead x to_i failed timeout place seen o h k next (local_step e) = cc
  joins_lead x to_i failed timeout place seen o h k next (attempted_step place2 seen2 may q unseen some) =
      owned (λ a s. AttemptLeads states own a s to_i) x place place2 seen seen2 o q (k may) unseen some
  joins_lead x to_i failed timeout place seen o h k next (timeout_step place2 seen2 q may timed) =
      (owned (λ a s. JoinsLead states own a s (unwrap_or failed 0) (unwrap_or timeout 0)) x place place2 seen seen2 o q h).late may timed
  joins_lead x to_i failed timeout place seen o h k next (by_one_step place2 seen2 j part end q may one way counts) =
      (owned (λ a s. JoinsLead states own a s (unwrap_or failed 0) (unwrap_or timeout 0)) x place place2 seen seen2 o q h).by_one may one j part end way counts
  joins_lead x to_i failed timeout place seen o h k next (by_count_step place2 seen2 q may many) =
      (owned (λ a s. JoinsLead states own a s (unwrap_or failed 0) (unwrap_or timeout 0)) x place place2 seen seen2 o q h).by_count may many
  joins_lead x to_i failed timeout place seen o h k next (heard_step place2 seen2 q free none) =
      (owned (λ a s. JoinsLead states own a s (unwrap_or failed 0) (unwrap_or timeout 0)) x place place2 seen seen2 o q h).heard free none
  joins_lead x to_i failed timeout place seen o h k next (none_step place2 seen2 j part end q free any way fails early) =
      (owned (λ a s. JoinsLead states own a s (unwrap_or failed 0) (unwrap_or timeout 0)) x place place2 seen seen2 o q h).none free any j part end way fails early

  -- ---- subtasks

  pub cases_lead : (x good bad place : ℕ) (seen : Seen) (i : ℕ) (part : Part) → Knows own x place seen i part → CasesLead states own place seen i part good bad → AllLead p outside c states own (Case x good bad)
  cases_lead x good bad place seen i part o h next (local_step e) = cc
  cases_lead x good bad place seen i part o h next (success_step place2 seen2 j part2 counting q) =
      (knows (λ a s k y. CasesLead states own a s k y good bad) x place place2 seen seen2 i j part part2 o q h).success counting
  cases_lead x good bad place seen i part o h next (failure_step place2 seen2 j part2 counting q) =
      (knows (λ a s k y. CasesLead states own a s k y good bad) x place place2 seen seen2 i j part part2 o q h).failure counting
  cases_lead x good bad place seen i part o h next (missed_step place2 seen2 j part2 q may) =
      (knows (λ a s k y. CasesLead states own a s k y good bad) x place place2 seen seen2 i j part part2 o q h).unended may

  get_leads : (x place : ℕ) (seen : Seen) (i : ℕ) (part : Part) → Knows own x place seen i part → ReadsLead states own place seen i part true → AllLead p outside c states own (Get x)
  get_leads x place seen i part o h next (local_step e) = cc
  get_leads x place seen i part o h next (get_step place2 seen2 j part2 v q way) =
      knows (λ a s k y. ReadsLead states own a s k y true) x place place2 seen seen2 i j part part2 o q h (Success v) way refl

  except_leads : (x place : ℕ) (seen : Seen) (i : ℕ) (part : Part) → Knows own x place seen i part → ReadsLead states own place seen i part false → AllLead p outside c states own (Except x)
  except_leads x place seen i part o h next (local_step e) = cc
  except_leads x place seen i part o h next (except_step place2 seen2 j part2 v q way) =
      knows (λ a s k y. ReadsLead states own a s k y false) x place place2 seen seen2 i j part part2 o q h (Failed v) way refl

  pub reads_lead : (succeeds : Bool) (x place : ℕ) (seen : Seen) (i : ℕ) (part : Part) → Knows own x place seen i part → ReadsLead states own place seen i part succeeds → AllLead p outside c states own (read_of succeeds x)
  reads_lead true x place seen i part o h = get_leads x place seen i part o h
  reads_lead false x place seen i part o h = except_leads x place seen i part o h

  -- ---- answers

  pub tallies_lead : (x place : ℕ) (kind : Kind) (seen : Seen) → Owns own x place seen → TalliesLead states own place seen kind → AllLead p outside c states own (Tally x kind)
  tallies_lead x place kind seen o h next (local_step e) = cc
  tallies_lead x place kind seen o h next (tally_step place2 seen2 pick q fits) =
      (owned (λ a s. TalliesLead states own a s kind) x place place2 seen seen2 o q h) pick fits

  pub totals_lead : (x place : ℕ) (seen : Seen) → Owns own x place seen → TotalsLead states own place seen → AllLead p outside c states own (Total x)
  totals_lead x place seen o h next (local_step e) = cc
  totals_lead x place seen o h next (total_step place2 seen2 pick q fits) =
      (owned (λ a s. TotalsLead states own a s) x place place2 seen seen2 o q h) pick fits
