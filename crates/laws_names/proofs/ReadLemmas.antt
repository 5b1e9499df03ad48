-- What is read of tasks and scopes, and which step is a misuse, in two states that are alike.
use Rattle.std.proofs.Common.{◌≡◌, ℕ, List, [], ◌∷◌, Bool, true, false, Option, Some, None, refl, sym, ◌∙◌, ap, length, cond, count_by, ◌&&◌, ◌||◌, not, map}
use Rattle.std.specs.Prelude.{◌-◌, ◌==◌, nat_lt, option_map}
use Rattle.std.proofs.Math.ListN.{get_or-map}
use Rattle.laws_words.proofs.ListLemmas.{any_count}
use Rattle.sts_code.specs.Facts.{owners_slot, subtask_slot, filled_slot}
use Rattle.sts_code.specs.Program.{Program}
use Rattle.sts_code.specs.declared.instr.Instr.{Instr}
use Rattle.sts_code.specs.declared.instr.Instr.TheVariants as instr
use Rattle.sts_code.specs.declared.instr.Kind.{Kind}
use Rattle.sts_code.specs.declared.instr.Kind.TheVariants.{S, F, U}
use Rattle.sts_model.specs.declared.event.End.{End}
use Rattle.sts_model.specs.declared.event.Fault.{Fault}
use Rattle.sts_model.specs.declared.event.Fault.TheVariants.{IllegalState, WrongThread, Structure, Operand}
use Rattle.sts_model.specs.declared.event.Stand.{Stand}
use Rattle.sts_model.specs.declared.event.Stand.TheVariants.{Free, AtJoin, AtClose}
use Rattle.sts_model.specs.declared.record.Entry.{Entry}
use Rattle.sts_model.specs.declared.record.Entry.TheVariants as entry
use Rattle.sts_model.specs.declared.record.Frame.{Frame}
use Rattle.sts_model.specs.declared.record.Scope.{Scope}
use Rattle.sts_model.specs.declared.record.Slot.{Slot}
use Rattle.sts_model.specs.declared.record.Slot.TheVariants.{Empty, Own, Lent, Sub}
use Rattle.sts_model.specs.declared.record.Task.{Task}
use Rattle.sts_model.specs.World.{World, task_at, scope_at, instr_at}
use Rattle.sts_model.specs.Joining.{total_of, is_success, is_failure}
use Rattle.sts_model.specs.Living.{lives, is_subtask, is_living_subtask, any_lives, subtask_count, parent, scope_of, sub_state, completion_of, ends}
use Rattle.sts_model.specs.Standing.{is_standing_scope, stands_in, is_standing_task, standing_tasks, standing_scopes}
use Rattle.sts_model.specs.Effect.{tally, total, is_of, cleared}
use Rattle.sts_model.specs.Misuse.{slot, at_slot, at_own, at_sub, is_scope, is_sub, is_empty, is_lent, has_wrong_slot, is_strangers, breaks_loop, misjoins, joins_wrongly}
use Rattle.sts_model.specs.Misuse.{has_no_room, is_illegal, is_opened, can_join, is_readable, has_succeeded, has_failed}
use Rattle.sts_model.specs.Misuse.{breaks_structure, is_binding, is_entry_of, innermost, binds_after, misuses_operand, fault_of, fault_at, misuse}
use Rattle.sts_model.specs.Waiting.{can_step, can_go, stand_at_instr, stands_at_join, stands_at_close, is_closing}
use Rattle.laws_names.specs.Names.{Names, IsAlike, live_part, plain_part, named_slot, named_entry, named_frame, named_task, named_completion, is_reading, ReadsNothing, IsSameScope}
use Rattle.laws_names.proofs.NameLemmas.{same_test, in_named, map_length, sum_same, ends_named, completion_named}
use Rattle.laws_names.proofs.AlikeLemmas.{part_is, same_lives, same_scope, same_alive}

-- ---- counts

count_alike : (n : Names) (w v : World) → IsAlike n w v → (q r : Task → Bool) → ((x : Task) → q (live_part x) ≡ q x) → ((x : Task) → r (live_part x) ≡ r x) → ((x : Task) → q (named_task n x) ≡ r x)
    → count_by q v.tasks ≡ count_by r w.tasks
count_alike n w v a q r there here same =
    let one : Bool → ℕ = λ (b : Bool). cond b 1 0 in
    sum_same (λ x. one (q x)) (λ x. one (q (live_part x))) (λ x. ap one (sym (there x))) v.tasks
    ∙ a.task_sums (λ x. one (q x))
    ∙ sum_same (λ x. one (q (named_task n (live_part x)))) (λ x. one (r x)) (λ x. ap one (same (live_part x) ∙ here x)) w.tasks

pub any_lives_same : (n : Names) (w v : World) → IsAlike n w v → (s : ℕ) → any_lives v (n.scopes s) ≡ any_lives w s
any_lives_same n w v a s =
    any_count (is_living_subtask (n.scopes s)) v.tasks
    ∙ ap (λ m. nat_lt 0 m) (count_alike n w v a (is_living_subtask (n.scopes s)) (is_living_subtask s) (λ x. part_is (is_living_subtask (n.scopes s)) (λ z. refl) x) (λ x. part_is (is_living_subtask s) (λ z. refl) x)
    (λ x. ap (λ b. b && lives x) (in_named n.scopes a.named.scope_names s x.scope)))
    ∙ sym (any_count (is_living_subtask s) w.tasks)

pub subtask_count_same : (n : Names) (w v : World) → IsAlike n w v → (s : ℕ) → subtask_count v (n.scopes s) ≡ subtask_count w s
subtask_count_same n w v a s =
    count_alike n w v a (is_subtask (n.scopes s)) (is_subtask s) (λ x. part_is (is_subtask (n.scopes s)) (λ z. refl) x) (λ x. part_is (is_subtask s) (λ z. refl) x) (λ x. in_named n.scopes a.named.scope_names s x.scope)

stands_same : (n : Names) (w v : World) → IsAlike n w v → (o : Option ℕ) → stands_in v (option_map n.scopes o) ≡ stands_in w o
stands_same n w v a None = refl
stands_same n w v a (Some s) = ap is_standing_scope (a.scope s)

standing_tasks_same : (n : Names) (w v : World) → IsAlike n w v → standing_tasks v ≡ standing_tasks w
standing_tasks_same n w v a =
    count_alike n w v a (is_standing_task v) (is_standing_task w) (λ x. part_is (is_standing_task v) (λ z. refl) x) (λ x. part_is (is_standing_task w) (λ z. refl) x) (λ x. stands_same n w v a x.scope)

standing_scopes_same : (n : Names) (w v : World) → IsAlike n w v → standing_scopes v ≡ standing_scopes w
standing_scopes_same n w v a = a.scope_sums (λ x. cond (is_standing_scope x) 1 0)

-- ---- ends

pub ends_same : (n : Names) (w v : World) → IsAlike n w v → (s : ℕ) → ends (scope_at v (n.scopes s)) ≡ ends (scope_at w s)
ends_same n w v a s = ap ends (a.scope s) ∙ ends_named n (scope_at w s).completions

parent_same : (n : Names) (w v : World) → IsAlike n w v → (o : Option ℕ) → IsSameScope n (parent w o) (parent v (option_map n.scopes o))
parent_same n w v a None = ap (λ m. plain_part (record (parent w None) { owner = m })) (sym a.named.root)
parent_same n w v a (Some s) = a.scope s

scope_of_same : (n : Names) (w v : World) → IsAlike n w v → (t : ℕ) → IsSameScope n (scope_of w t) (scope_of v (n.tasks t))
scope_of_same n w v a t =
    ap (λ (o : Option ℕ). plain_part (parent v o)) (same_scope n (task_at w t) (task_at v (n.tasks t)) (a.task t)) ∙ parent_same n w v a (task_at w t).scope

pub sub_state_same : (n : Names) (w v : World) → IsAlike n w v → (t : ℕ) → sub_state v (n.tasks t) ≡ sub_state w t
sub_state_same n w v a t = ap (λ (x : Scope). completion_of x.completions (n.tasks t)) (scope_of_same n w v a t) ∙ completion_named n a.named.task_names (scope_of w t).completions t

pub tally_same : (n : Names) (w v : World) → IsAlike n w v → (s : ℕ) (k : Kind) → tally v (n.scopes s) k ≡ tally w s k
tally_same n w v a s S = ap (λ (es : List End). count_by is_success es) (ends_same n w v a s)
tally_same n w v a s F = ap (λ (es : List End). count_by is_failure es) (ends_same n w v a s)
tally_same n w v a s U =
    ap (λ m. m - length (scope_at v (n.scopes s)).completions) (subtask_count_same n w v a s)
    ∙ ap (λ m. subtask_count w s - m) (ap (λ (x : Scope). length x.completions) (a.scope s) ∙ map_length (named_completion n) (scope_at w s).completions)

pub total_same : (n : Names) (w v : World) → IsAlike n w v → (s : ℕ) → total v (n.scopes s) ≡ total w s
total_same n w v a s = ap total_of (ends_same n w v a s)

-- ---- slots

pub slot_named : (n : Names) (f : Frame) (x : ℕ) → slot (named_frame n f) x ≡ named_slot n (slot f x)
slot_named n f x = get_or-map (named_slot n) f.slots x Empty

is_of_same : (n : Names) (w v : World) → IsAlike n w v → (s : ℕ) (x : Slot) → is_of v (n.scopes s) (named_slot n x) ≡ is_of w s x
is_of_same n w v a s Empty = refl
is_of_same n w v a s (Own r) = same_test n.scopes a.named.scope_names r s
is_of_same n w v a s (Lent r) = refl
is_of_same n w v a s (Sub t) = is_subtask_same (task_at w t) (task_at v (n.tasks t)) (same_scope n (task_at w t) (task_at v (n.tasks t)) (a.task t))
  where
    is_subtask_same : (x y : Task) → y.scope ≡ option_map n.scopes x.scope → is_subtask (n.scopes s) y ≡ is_subtask s x
    is_subtask_same x y e = ap (λ (o : Option ℕ). is_subtask (n.scopes s) (record y { scope = o })) e ∙ in_named n.scopes a.named.scope_names s x.scope

pub cleared_same : (n : Names) (w v : World) → IsAlike n w v → (s : ℕ) (xs : List Slot) → cleared v (n.scopes s) (map (named_slot n) xs) ≡ map (named_slot n) (cleared w s xs)
cleared_same n w v a s [] = refl
cleared_same n w v a s (x ∷ xs) =
    ap (λ (b : Bool). cond b Empty (named_slot n x) ∷ cleared v (n.scopes s) (map (named_slot n) xs)) (is_of_same n w v a s x)
    ∙ ap (λ (l : List Slot). cond (is_of w s x) Empty (named_slot n x) ∷ l) (cleared_same n w v a s xs)
    ∙ ap (λ (y : Slot). y ∷ map (named_slot n) (cleared w s xs)) (by (is_of w s x))
  where
    by : (b : Bool) → cond b Empty (named_slot n x) ≡ named_slot n (cond b Empty x)
    by true = refl
    by false = refl

at_slot_named : (n : Names) (f : Frame) (o : Option ℕ) (test : Slot → Bool) → ((x : Slot) → test (named_slot n x) ≡ test x) → at_slot (named_frame n f) o test ≡ at_slot f o test
at_slot_named n f None test same = refl
at_slot_named n f (Some x) test same = ap test (slot_named n f x) ∙ same (slot f x)

-- the slots pass the same tests
record TestedAlike (x y : Slot) : Type 0 where
  pub scope : is_scope x ≡ is_scope y
  pub sub : is_sub x ≡ is_sub y
  pub empty : is_empty x ≡ is_empty y
  pub lent : is_lent x ≡ is_lent y

tested_alike : (n : Names) (x : Slot) → TestedAlike (named_slot n x) x
tested_alike n Empty = record { scope = refl; sub = refl; empty = refl; lent = refl }
tested_alike n (Own s) = record { scope = refl; sub = refl; empty = refl; lent = refl }
tested_alike n (Lent s) = record { scope = refl; sub = refl; empty = refl; lent = refl }
tested_alike n (Sub t) = record { scope = refl; sub = refl; empty = refl; lent = refl }

-- the slots that an instruction needs, of another kind than they are
abbrev slots_wrong : Frame → Option ℕ → Option ℕ → Option ℕ → Bool
slots_wrong f own sub filled = at_slot f own (λ x. not (is_scope x)) || at_slot f sub (λ x. not (is_sub x)) || at_slot f filled (λ x. not (is_empty x))

slots_wrong_named : (n : Names) (f : Frame) (own sub filled : Option ℕ) → slots_wrong (named_frame n f) own sub filled ≡ slots_wrong f own sub filled
slots_wrong_named n f own sub filled =
    rw (at_slot_named n f own (λ x. not (is_scope x)) (λ x. ap not (tested_alike n x).scope), at_slot_named n f sub (λ x. not (is_sub x)) (λ x. ap not (tested_alike n x).sub), at_slot_named n f filled (λ x. not (is_empty x)) (λ x. ap not (tested_alike n x).empty)) refl

wrong_slot_same : (n : Names) (f : Frame) (i : Instr) → has_wrong_slot (named_frame n f) i ≡ has_wrong_slot f i
wrong_slot_same n f (instr.Cancelled s) = ap not (ap is_scope (slot_named n f s) ∙ (tested_alike n (slot f s)).scope)
wrong_slot_same n f i = slots_wrong_named n f (owners_slot i) (subtask_slot i) (filled_slot i)

strangers_same : (n : Names) (f : Frame) (i : Instr) → is_strangers (named_frame n f) i ≡ is_strangers f i
strangers_same n f i = at_slot_named n f (owners_slot i) is_lent (λ x. (tested_alike n x).lent)

own_same : (n : Names) (w v : World) (f : Frame) (x : ℕ) (here there : ℕ → Scope → Bool) → ((s : ℕ) → there (n.scopes s) (scope_at v (n.scopes s)) ≡ here s (scope_at w s)) → at_own v (slot (named_frame n f) x) there ≡ at_own w (slot f x) here
own_same n w v f x here there same = ap (λ (z : Slot). at_own v z there) (slot_named n f x) ∙ by (slot f x)
  where
    by : (z : Slot) → at_own v (named_slot n z) there ≡ at_own w z here
    by Empty = refl
    by (Own s) = same s
    by (Lent s) = refl
    by (Sub t) = refl

sub_same : (n : Names) (w v : World) (f : Frame) (x : ℕ) (here there : ℕ → Scope → Bool) → ((t : ℕ) → there (n.tasks t) (scope_of v (n.tasks t)) ≡ here t (scope_of w t)) → at_sub v (slot (named_frame n f) x) there ≡ at_sub w (slot f x) here
sub_same n w v f x here there same = ap (λ (z : Slot). at_sub v z there) (slot_named n f x) ∙ by (slot f x)
  where
    by : (z : Slot) → at_sub v (named_slot n z) there ≡ at_sub w z here
    by Empty = refl
    by (Own s) = refl
    by (Lent s) = refl
    by (Sub t) = same t

-- ---- misuse

loops_same : (p : Program) (n : Names) (f : Frame) (i : Instr) → breaks_loop p (named_frame n f) i ≡ breaks_loop p f i
loops_same p n f (instr.Times k) = refl
loops_same p n f instr.Next = refl
loops_same p n f i = refl

misjoins_same : (n : Names) (w v : World) → IsAlike n w v → (f : Frame) (i : Instr) → misjoins v (named_frame n f) i ≡ misjoins w f i
misjoins_same n w v a f (instr.Join s failed timeout interrupted) =
    own_same n w v f s (λ _ scope. joins_wrongly f failed timeout scope) (λ _ scope. joins_wrongly (named_frame n f) failed timeout scope) (λ m. ap (λ (x : Scope). joins_wrongly f failed timeout x) (a.scope m))
misjoins_same n w v a f i = refl

room_same : (n : Names) (w v : World) → IsAlike n w v → (f : Frame) (i : Instr) → has_no_room v (named_frame n f) i ≡ has_no_room w f i
room_same n w v a f (instr.Open s timed j) = rw (map_length (named_entry n) f.entries, standing_scopes_same n w v a, a.named.scopes_born) refl
room_same n w v a f (instr.Bind k) = rw (map_length (named_entry n) f.entries) refl
room_same n w v a f (instr.Fork s g h) = rw (standing_tasks_same n w v a, a.named.tasks_born) refl
room_same n w v a f i = refl

legal_same : (p : Program) (n : Names) (w v : World) → IsAlike n w v → (f : Frame) (i : Instr) → is_illegal p v (named_frame n f) i ≡ is_illegal p w f i
legal_same p n w v a f (instr.Fork s g h) = own_same n w v f s (λ _ scope. not (is_opened scope.phase)) (λ _ scope. not (is_opened scope.phase)) (λ m. ap (λ (x : Scope). not (is_opened x.phase)) (a.scope m))
legal_same p n w v a f (instr.Join s failed timeout i) = own_same n w v f s (λ _ scope. not (can_join scope.phase)) (λ _ scope. not (can_join scope.phase)) (λ m. ap (λ (x : Scope). not (can_join x.phase)) (a.scope m))
legal_same p n w v a f (instr.Close s) =
    own_same n w v f s (λ m scope. is_opened scope.phase && nat_lt 0 (subtask_count w m)) (λ m scope. is_opened scope.phase && nat_lt 0 (subtask_count v m))
    (λ m. ap (λ (x : Scope). is_opened x.phase && nat_lt 0 (subtask_count v (n.scopes m))) (a.scope m) ∙ ap (λ c. is_opened (scope_at w m).phase && nat_lt 0 c) (subtask_count_same n w v a m))
legal_same p n w v a f (instr.Tally s k) = own_same n w v f s (λ _ scope. not (is_readable p.profile scope)) (λ _ scope. not (is_readable p.profile scope)) (λ m. ap (λ (x : Scope). not (is_readable p.profile x)) (a.scope m))
legal_same p n w v a f (instr.Total s) = own_same n w v f s (λ _ scope. not (is_readable p.profile scope)) (λ _ scope. not (is_readable p.profile scope)) (λ m. ap (λ (x : Scope). not (is_readable p.profile x)) (a.scope m))
legal_same p n w v a f (instr.Get h) =
    sub_same n w v f h (λ t scope. not (is_readable p.profile scope && has_succeeded (sub_state w t))) (λ t scope. not (is_readable p.profile scope && has_succeeded (sub_state v t)))
    (λ t. ap (λ (x : Scope). not (is_readable p.profile x && has_succeeded (sub_state v (n.tasks t)))) (scope_of_same n w v a t) ∙ ap (λ (o : Option End). not (is_readable p.profile (scope_of w t) && has_succeeded o)) (sub_state_same n w v a t))
legal_same p n w v a f (instr.Except h) =
    sub_same n w v f h (λ t scope. not (is_readable p.profile scope && has_failed (sub_state w t))) (λ t scope. not (is_readable p.profile scope && has_failed (sub_state v t)))
    (λ t. ap (λ (x : Scope). not (is_readable p.profile x && has_failed (sub_state v (n.tasks t)))) (scope_of_same n w v a t) ∙ ap (λ (o : Option End). not (is_readable p.profile (scope_of w t) && has_failed o)) (sub_state_same n w v a t))
legal_same p n w v a f i = refl

binds_named : (n : Names) (w v : World) → IsAlike n w v → (s : ℕ) (es : List Entry) → binds_after (n.scopes s) (map (named_entry n) es) ≡ binds_after s es
binds_named n w v a s [] = refl
binds_named n w v a s (entry.Binding k x ∷ es) = refl
binds_named n w v a s (entry.Scope r ∷ es) =
    ap (λ b. cond b false (binds_after (n.scopes s) (map (named_entry n) es))) (same_test n.scopes a.named.scope_names r s)
    ∙ ap (λ b. cond (r == s) false b) (binds_named n w v a s es)

entry_named : (n : Names) (w v : World) → IsAlike n w v → (s : ℕ) (es : List Entry) → innermost (is_entry_of (n.scopes s)) (map (named_entry n) es) ≡ innermost (is_entry_of s) es
entry_named n w v a s [] = refl
entry_named n w v a s (entry.Binding k x ∷ es) = refl
entry_named n w v a s (entry.Scope r ∷ es) = same_test n.scopes a.named.scope_names r s

binding_named : (n : Names) (es : List Entry) → innermost is_binding (map (named_entry n) es) ≡ innermost is_binding es
binding_named n [] = refl
binding_named n (entry.Binding k x ∷ es) = refl
binding_named n (entry.Scope r ∷ es) = refl

structure_same : (n : Names) (w v : World) → IsAlike n w v → (f : Frame) (i : Instr) → breaks_structure v (named_frame n f) i ≡ breaks_structure w f i
structure_same n w v a f (instr.Fork s g h) = own_same n w v f s (λ m _. binds_after m f.entries) (λ m _. binds_after m (named_frame n f).entries) (λ m. binds_named n w v a m f.entries)
structure_same n w v a f (instr.Close s) = own_same n w v f s (λ m _. not (innermost (is_entry_of m) f.entries)) (λ m _. not (innermost (is_entry_of m) (named_frame n f).entries)) (λ m. ap not (entry_named n w v a m f.entries))
structure_same n w v a f instr.Unbind = ap not (binding_named n f.entries)
structure_same n w v a f instr.Ret = ap (λ m. nat_lt 0 m) (map_length (named_entry n) f.entries)
structure_same n w v a f instr.Fail = ap (λ m. nat_lt 0 m) (map_length (named_entry n) f.entries)
structure_same n w v a f i = refl

-- the fault of an instruction without its reading of a scoped value
abbrev fault_but : Bool → Bool → Bool → Bool → Option Fault
fault_but operand stranger illegal structure =
    cond operand (Some Operand) (cond stranger (Some WrongThread) (cond illegal (Some IllegalState) (cond structure (Some Structure) None)))

fault_is : (p : Program) (w : World) (t : ℕ) (f : Frame) (i : Instr) → is_reading i ≡ false → fault_of p w t f i ≡ fault_but (misuses_operand p w f i) (is_strangers f i) (is_illegal p w f i) (breaks_structure w f i)
fault_is p w t f (instr.Read k) quiet = cc
fault_is p w t f i quiet = refl

operand_same : (p : Program) (n : Names) (w v : World) → IsAlike n w v → (f : Frame) (i : Instr) → misuses_operand p v (named_frame n f) i ≡ misuses_operand p w f i
operand_same p n w v a f i = rw (loops_same p n f i, wrong_slot_same n f i, misjoins_same n w v a f i, room_same n w v a f i) refl

fault_same : (p : Program) (n : Names) (w v : World) → IsAlike n w v → (t : ℕ) (f : Frame) (i : Instr) → is_reading i ≡ false → fault_of p v (n.tasks t) (named_frame n f) i ≡ fault_of p w t f i
fault_same p n w v a t f i quiet =
    fault_is p v (n.tasks t) (named_frame n f) i quiet
    ∙ ap (λ b. fault_but b (is_strangers (named_frame n f) i) (is_illegal p v (named_frame n f) i) (breaks_structure v (named_frame n f) i)) (operand_same p n w v a f i)
    ∙ ap (λ b. fault_but (misuses_operand p w f i) b (is_illegal p v (named_frame n f) i) (breaks_structure v (named_frame n f) i)) (strangers_same n f i)
    ∙ ap (λ b. fault_but (misuses_operand p w f i) (is_strangers f i) b (breaks_structure v (named_frame n f) i)) (legal_same p n w v a f i)
    ∙ ap (λ b. fault_but (misuses_operand p w f i) (is_strangers f i) (is_illegal p w f i) b) (structure_same n w v a f i)
    ∙ sym (fault_is p w t f i quiet)

fault_at_same : (p : Program) (n : Names) (w v : World) → IsAlike n w v → (t : ℕ) (f : Frame) (o : Option Instr) → ((i : Instr) → o ≡ Some i → is_reading i ≡ false) → fault_at p v (n.tasks t) (named_frame n f) o ≡ fault_at p w t f o
fault_at_same p n w v a t f None quiet = refl
fault_at_same p n w v a t f (Some i) quiet = fault_same p n w v a t f i (quiet i refl)

pub misuse_same : (p : Program) → ReadsNothing p → (n : Names) (w v : World) → IsAlike n w v → (t : ℕ) → lives (task_at w t) ≡ true → misuse p v (n.tasks t) ≡ misuse p w t
misuse_same p quiet n w v a t alive =
    let f = (task_at w t).frame in
    ap (λ (x : Task). fault_at p v (n.tasks t) x.frame (instr_at p x.frame)) (same_alive n (task_at w t) (task_at v (n.tasks t)) (a.task t) alive)
    ∙ fault_at_same p n w v a t f (instr_at p f) (λ i e. quiet f i e)

-- ---- who can step

abbrev named_stand : Names → Stand → Stand
named_stand n Free = Free
named_stand n (AtJoin s) = AtJoin (n.scopes s)
named_stand n (AtClose s) = AtClose (n.scopes s)

join_named : (n : Names) (m : Option Fault) (x : Slot) → stands_at_join m (named_slot n x) ≡ named_stand n (stands_at_join m x)
join_named n None Empty = refl
join_named n None (Own s) = refl
join_named n None (Lent s) = refl
join_named n None (Sub t) = refl
join_named n (Some k) x = refl

close_named : (n : Names) (w v : World) → IsAlike n w v → (x : Slot) → stands_at_close v (named_slot n x) ≡ named_stand n (stands_at_close w x)
close_named n w v a Empty = refl
close_named n w v a (Own s) = ap (λ (x : Scope). cond (is_closing x.phase) (AtClose (n.scopes s)) Free) (a.scope s) ∙ by (is_closing (scope_at w s).phase)
  where
    by : (b : Bool) → cond b (AtClose (n.scopes s)) Free ≡ named_stand n (cond b (AtClose s) Free)
    by true = refl
    by false = refl
close_named n w v a (Lent s) = refl
close_named n w v a (Sub t) = refl

stand_same : (p : Program) → ReadsNothing p → (n : Names) (w v : World) → IsAlike n w v → (t : ℕ) → lives (task_at w t) ≡ true → (o : Option Instr) → stand_at_instr p v (n.tasks t) o ≡ named_stand n (stand_at_instr p w t o)
stand_same p quiet n w v a t alive (Some (instr.Join x failed timeout interrupted)) =
    ap (λ (m : Option Fault). stands_at_join m (slot (task_at v (n.tasks t)).frame x)) (misuse_same p quiet n w v a t alive)
    ∙ ap (λ (y : Task). stands_at_join (misuse p w t) (slot y.frame x)) (same_alive n (task_at w t) (task_at v (n.tasks t)) (a.task t) alive)
    ∙ ap (λ (z : Slot). stands_at_join (misuse p w t) z) (slot_named n (task_at w t).frame x)
    ∙ join_named n (misuse p w t) (slot (task_at w t).frame x)
stand_same p quiet n w v a t alive (Some (instr.Close x)) =
    ap (λ (y : Task). stands_at_close v (slot y.frame x)) (same_alive n (task_at w t) (task_at v (n.tasks t)) (a.task t) alive)
    ∙ ap (λ (z : Slot). stands_at_close v z) (slot_named n (task_at w t).frame x)
    ∙ close_named n w v a (slot (task_at w t).frame x)
stand_same p quiet n w v a t alive o = refl

go_same : (n : Names) (w v : World) → IsAlike n w v → (x y : Task) → y.flag ≡ x.flag → (st : Stand) → can_go v y (named_stand n st) ≡ can_go w x st
go_same n w v a x y flag Free = refl
go_same n w v a x y flag (AtJoin s) =
    ap (λ (z : Scope). z.expired || z.cancelled || not (any_lives v (n.scopes s)) || y.flag) (a.scope s)
    ∙ ap (λ b. (scope_at w s).expired || (scope_at w s).cancelled || not b || y.flag) (any_lives_same n w v a s)
    ∙ ap (λ b. (scope_at w s).expired || (scope_at w s).cancelled || not (any_lives w s) || b) flag
go_same n w v a x y flag (AtClose s) = ap not (any_lives_same n w v a s)

pub can_step_same : (p : Program) → ReadsNothing p → (n : Names) (w v : World) → IsAlike n w v → (t : ℕ) → can_step p v (n.tasks t) ≡ can_step p w t
can_step_same p quiet n w v a t =
    ap (λ b. b && can_go v y (stand_at_instr p v (n.tasks t) (instr_at p y.frame))) (same_lives n x y (a.task t)) ∙ by (lives x) refl
  where
    x : Task
    x = task_at w t

    y : Task
    y = task_at v (n.tasks t)

    by : (b : Bool) → lives x ≡ b → (b && can_go v y (stand_at_instr p v (n.tasks t) (instr_at p y.frame))) ≡ (b && can_go w x (stand_at_instr p w t (instr_at p x.frame)))
    by false e = refl
    by true e =
        let same = same_alive n x y (a.task t) e in
        ap (λ (z : Task). can_go v y (stand_at_instr p v (n.tasks t) (instr_at p z.frame))) same
        ∙ ap (λ (st : Stand). can_go v y st) (stand_same p quiet n w v a t e (instr_at p x.frame))
        ∙ go_same n w v a x y (ap (λ (z : Task). z.flag) same) (stand_at_instr p w t (instr_at p x.frame))
