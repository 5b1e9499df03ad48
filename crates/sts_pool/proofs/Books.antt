-- Each call keeps the facts of a book.
use Rattle.std.proofs.Common.{◌≡◌, ℕ, ◌+◌, ◌≤◌, ◌<◌, ◌^◌, List, [], ◌∷◌, ◌++◌, length, Bool, true, false, not, Option, Some, None, inl, inr, refl, sym, ◌∙◌, subst, cond, is_some, ◌==◌, ◌&&◌, arith, length-append, count_by, filter}
use Rattle.std.proofs.lemmas.Bool.{and_parts, and_from, and_left, and_right, cond-true, not-true, not_from_false, not_from_true}
use Rattle.std.proofs.lemmas.List.{length-replicate}
use Rattle.std.proofs.lemmas.List.Filters.{length-filter_both}
use Rattle.std.proofs.lemmas.List.Folds.{sum_by-replicate}
use Rattle.std.proofs.lemmas.List.Sums.{length-filter}
use Rattle.std.specs.List.{IsDistinct}
use Rattle.std.specs.Prelude.{MatchBool, unwrap_or}
use Rattle.sts_code.specs.Program.{Program}
use Rattle.sts_rules.specs.declared.budget.Budgets.{Budgets}
use Rattle.sts_rules.specs.Refusal.{IsBudgetOf}
use Rattle.sts_model.specs.declared.event.End.{End}
use Rattle.sts_model.specs.declared.event.Event.{Event}
use Rattle.sts_model.specs.declared.event.Event.TheVariants as event
use Rattle.sts_model.specs.declared.record.Frame.{Frame}
use Rattle.sts_model.specs.Live.{Live, LiveTask}
use Rattle.sts_model.specs.Run.{after, counts, is_step, taken}
use Rattle.sts_model.specs.World.{task_at}
use Rattle.laws_runs.specs.Runs.{In}
use Rattle.laws_live.specs.Reading.{task_in, no_live_task, lives_in, with_live_frame}
use Rattle.laws_live.specs.Run.{live_apply, live_steps_in}
use Rattle.laws_live.specs.Seen.{TurnsAreSeen}
use Rattle.laws_live.specs.Waiting.{live_can_go, live_can_step, live_stand_at}
use Rattle.laws_live.specs.Stands.{StandsStay}
use Rattle.laws_live.specs.Waking.{is_step_of}
use Rattle.laws_accepted.specs.Accepted.{main_of}
use Rattle.laws_accepted.specs.EveryRun.{RunsWell}
use Rattle.laws_accepted.specs.Views.{ViewsAreWithin}
use Rattle.sts_machine.specs.Laws.{MainBudget}
use Rattle.sts_machine.specs.Machine.{Seen, Stands}
use Rattle.sts_machine.specs.Slice.{steps_of}
use Rattle.sts_machine.specs.Turned.{Picks, turned}
use Rattle.sts_machine.specs.declared.turned.Turned.TheVariants.{Stepped, Idle}
use Rattle.sts_machine.proofs.LivesLemmas.{lives_written}
use Rattle.sts_machine.proofs.MainLemmas.{main_budget}
use Rattle.sts_pool.specs.Book.{BookSeen, HasBookRoom, IsBook, is_free}
use Rattle.sts_pool.specs.Outside.{outside_entries}
use Rattle.sts_pool.specs.Report.{IsBounded, IsReport, IsUnfinished}
use Rattle.sts_pool.proofs.OutsideLemmas.{entries_more}
use Rattle.sts_pool.proofs.Outs.{among, among_more, apart_more, apart_without, few_from_apart, same_from, was_among, without}

-- ---- a new one

pub opening_book : (m : Seen) → Stands m [] → m.steps ≡ 0 → IsBook m [] []
unfolding IsDistinct
opening_book m stands none =
    record {
      stands = stands;
      counted = omega (arith, none);
      most = omega arith;
      apart = tt;
      living = λ t h. absurd (cc);
    }

-- ---- an event more

-- steps come from no outside
pub still_entries : (journal : List Event) (n t : ℕ) → outside_entries (journal ++ steps_of n t) ≡ outside_entries journal
still_entries journal n t =
    let more = entries_more journal (steps_of n t) in
    let none = sum_by-replicate (λ x. cond (not (is_step x)) 1 0) n (event.Step t) in
    omega (arith, more, none)

pub still_entries_one : (journal : List Event) (t : ℕ) → outside_entries (journal ++ event.Step t ∷ []) ≡ outside_entries journal
still_entries_one journal t = let more = entries_more journal (event.Step t ∷ []) in omega (arith, more)

module _ (m x : Seen) (journal : List Event) (out : List ℕ) (e : Event) (is : IsBook m journal out) (stay : StandsStay m.program) (stands : (events : List Event) → Stands m events → Stands x (events ++ e ∷ [])) (live : x.live ≡ live_apply m.program m.live e) (steps : x.steps ≡ m.steps + live_steps_in m.program m.live e) where
  -- an event that is recorded moves no task that is out
  moved : live_steps_in m.program m.live e + outside_entries (e ∷ []) ≡ 1 → outside_entries journal + outside_entries (e ∷ []) ≤ 4096 → ((t : ℕ) → among out t ≡ true → is_step_of t e ≡ false) → IsBook x (journal ++ e ∷ []) out
  moved one few others =
      let more = entries_more journal (e ∷ []) in
      let long = length-append journal (e ∷ []) in
      let counted = is.counted in
      record {
        stands = stands journal is.stands;
        counted = omega (arith, counted, steps, one, more, long);
        most = omega (arith, few, more);
        apart = is.apart;
        living = λ t h. rw live ((stay journal m.live m.steps is.stands e t (others t h)).alive (is.living t h));
      }

-- a step of a task that can step and isn't out
pub stepped_book : (m x : Seen) (journal : List Event) (out : List ℕ) (t : ℕ) → IsBook m journal out → StandsStay m.program → ((events : List Event) → Stands m events → Stands x (events ++ event.Step t ∷ [])) → x.live ≡ live_apply m.program m.live (event.Step t) → x.steps ≡ m.steps + live_steps_in m.program m.live (event.Step t) → live_can_step m.program m.live t ≡ true → among out t ≡ false → IsBook x (journal ++ event.Step t ∷ []) out
stepped_book m x journal out t is stay stands live steps can absent =
    let one = cond-true {A = ℕ} (live_can_step m.program m.live t) 1 0 can in
    let most = is.most in
    moved m x journal out (event.Step t) is stay stands live steps (omega (arith, one)) (omega (arith, most)) others
  where
    others : (u : ℕ) → among out u ≡ true → (u == t) ≡ false
    others u h = other (u == t) refl
      where
        other : (b : Bool) → (u == t) ≡ b → (u == t) ≡ false
        other false e = e
        other true e = let here : among out u ≡ false = rw (same_from u t e) absent in absurd (cc)

-- an interrupt or an expiry, if there is room for one more
pub outside_book : (m x : Seen) (journal : List Event) (out : List ℕ) (e : Event) → IsBook m journal out → StandsStay m.program → ((events : List Event) → Stands m events → Stands x (events ++ e ∷ [])) → x.live ≡ live_apply m.program m.live e → x.steps ≡ m.steps + live_steps_in m.program m.live e → is_step e ≡ false → outside_entries journal + 1 ≤ 4096 → IsBook x (journal ++ e ∷ []) out
outside_book m x journal out (event.Step t) is stay stands live steps from few = absurd (cc)
outside_book m x journal out (event.Interrupt t) is stay stands live steps from few =
    moved m x journal out (event.Interrupt t) is stay stands live steps (omega arith) (omega (arith, few)) (λ u h. refl)
outside_book m x journal out (event.Expire s) is stay stands live steps from few =
    moved m x journal out (event.Expire s) is stay stands live steps (omega arith) (omega (arith, few)) (λ u h. refl)

-- ---- a task out, and back

pub lives : (p : Program) (v : Live) (t : ℕ) → live_can_step p v t ≡ true → lives_in v t ≡ true
lives p v t can = (and_parts (lives_in v t) (live_can_go v t (live_stand_at p v t)) can).0

pub out_book : (m : Seen) (journal : List Event) (out : List ℕ) (t : ℕ) → IsBook m journal out → among out t ≡ false → lives_in m.live t ≡ true → IsBook m journal (out ++ t ∷ [])
out_book m journal out t is absent alive =
    record {
      stands = is.stands;
      counted = is.counted;
      most = is.most;
      apart = apart_more out t is.apart absent;
      living = λ q h. elim (among_more out t q h) [ inl k ↦ is.living q k | inr e ↦ subst (λ u. lives_in m.live u ≡ true) e alive ];
    }

pub released_book : (m : Seen) (journal : List Event) (out : List ℕ) (t : ℕ) → IsBook m journal out → IsBook m journal (without t out)
released_book m journal out t is =
    record {
      stands = is.stands;
      counted = is.counted;
      most = is.most;
      apart = apart_without t out is.apart;
      living = λ q h. is.living q (was_among t q out h);
    }

-- a task that was picked is free; if none was picked, none is free
pub picked : (b : BookSeen) (o : Option ℕ) → Picks (is_free b) o → MatchBool (is_some o) ((t : ℕ) × (is_free b t ≡ true)) ((t : ℕ) → is_free b t ≡ false)
picked b (Some t) h = (t, h)
picked b None h = h

pub back_book : (m x : Seen) (journal : List Event) (out : List ℕ) (n t : ℕ) (f : Frame) → IsBook m journal out → ((events : List Event) → Stands m events → Stands x (events ++ steps_of n t)) → x.live ≡ with_live_frame m.live t f → x.steps ≡ m.steps + n → IsBook x (journal ++ steps_of n t) (without t out)
back_book m x journal out n t f is stands live steps =
    let none = still_entries journal n t in
    let long = length-append journal (steps_of n t) in
    let many : length (steps_of n t) ≡ n = length-replicate n (event.Step t) in
    let counted = is.counted in
    let most = is.most in
    record {
      stands = stands journal is.stands;
      counted = omega (arith, none, long, many, counted, steps);
      most = omega (arith, none, most);
      apart = apart_without t out is.apart;
      living = λ q h. rw live (lives_written m.live t f q ∙ is.living q (was_among t q out h));
    }

-- local steps in place leave the tasks that are out as they are
pub ran_book : (m x : Seen) (journal : List Event) (out : List ℕ) (n t : ℕ) (f : Frame) → IsBook m journal out → ((events : List Event) → Stands m events → Stands x (events ++ steps_of n t)) → x.live ≡ with_live_frame m.live t f → x.steps ≡ m.steps + n → IsBook x (journal ++ steps_of n t) out
ran_book m x journal out n t f is stands live steps =
    let back = back_book m x journal out n t f is stands live steps in
    record {
      stands = back.stands;
      counted = back.counted;
      most = back.most;
      apart = is.apart;
      living = λ q h. rw live (lives_written m.live t f q ∙ is.living q h);
    }

-- ---- room

-- no more entries than the journal has room for
pub entries_few : (m : Seen) (events : List Event) (out : List ℕ) → IsBook m events out → (main : MainBudget m.program) → length events ≤ main.budget.steps + 4096
entries_few m events out is main =
    let few = (main.runs_well events).steps in
    let same = is.stands.steps in
    let counted = is.counted in
    let most = is.most in
    omega (arith, few, same, counted, most)

-- the tasks that are out are no more than the tasks that count
out_few : (m : Seen) (events : List Event) (out : List ℕ) → IsBook m events out → (c : Budgets) → IsBudgetOf m.program (main_of m.program) c → ViewsAreWithin m.program → length out ≤ c.tasks
out_few m events out is c printed within =
    let few = (within c printed events m.live m.steps is.stands).tasks in
    let most = few_from_apart out m.live.tasks is.apart (λ t h. stands (task_in m.live t) (is.living t h)) in
    omega (arith, few, most)
  where
    stands : (o : Option LiveTask) → is_some (unwrap_or o no_live_task).alive ≡ true → is_some o ≡ true
    stands None h = h
    stands (Some task) h = refl

-- the laws and the room go over to a machine of the same program
pub room_kept : (p q : Program) (j k l n : ℕ) → q ≡ p → j ≤ l → k ≤ n → HasBookRoom p j k → HasBookRoom q l n
room_kept p q j k l n same more most room =
    let journal = room.journal_room in
    let out = room.out_room in
    subst (λ z. HasBookRoom z l n) (sym same)
    (record { main = room.main; few = room.few; stay = room.stay; turns = room.turns; within = room.within; journal_room = omega (arith, journal, more); out_room = omega (arith, out, most) })

-- before the first event there is room by this budget of `main`
pub opening_room : (p q : Program) (budget : Budgets) (out : ℕ) → q ≡ p → IsBudgetOf p (main_of p) budget → ((events : List Event) → RunsWell p budget events) → StandsStay p → TurnsAreSeen p → ViewsAreWithin p → budget.steps < 2 ^ 32 → budget.tasks ≤ out → HasBookRoom q (budget.steps + 4096) out
opening_room p q budget out same printed runs_well stay turns within few most =
    subst (λ z. HasBookRoom z (budget.steps + 4096) out) (sym same)
    (record { main = main_budget p budget printed runs_well; few = few; stay = stay; turns = turns; within = within; journal_room = omega arith; out_room = most })

-- if it is still a book with these entries, the journal had room for them
pub entries_fit : (m x : Seen) (journal events : List Event) (out : List ℕ) (j k : ℕ) → x.program ≡ m.program → HasBookRoom m.program j k → IsBook x (journal ++ events) out → length journal + length events ≤ j
entries_fit m x journal events out j k same room is =
    let there = room_kept m.program x.program j k j k same (omega arith) (omega arith) room in
    let few = entries_few x (journal ++ events) out is there.main in
    let long = length-append journal events in
    let enough = there.journal_room in
    omega (arith, few, long, enough)

-- if it is still a book with this task, the list of those that are out had room for it
pub out_fits : (m : Seen) (journal : List Event) (out : List ℕ) (t j k : ℕ) → HasBookRoom m.program j k → IsBook m journal (out ++ t ∷ []) → length out + 1 ≤ k
out_fits m journal out t j k room is =
    let few = out_few m journal (out ++ t ∷ []) is room.main.budget room.main.printed room.within in
    let long = length-append out (t ∷ []) in
    let enough = room.out_room in
    omega (arith, few, long, enough)

-- ---- which turn is a step

pub stepped_from : (c : Bool) → Stepped ≡ turned c → c ≡ true
stepped_from true e = refl
stepped_from false e = absurd (cc)

pub idle_from : (c : Bool) → Idle ≡ turned c → c ≡ false
idle_from true e = absurd (cc)
idle_from false e = refl

-- the view says whether a step of a task counts
pub step_seen : (m : Seen) (journal : List Event) → Stands m journal → TurnsAreSeen m.program → (t : ℕ) → counts m.program (after m.program journal) (event.Step t) ≡ live_can_step m.program m.live t
step_seen m journal stands seen t = (seen journal m.live m.steps (event.Step t) stands).count

-- a test that answers alike picks alike
pub picks_alike : (a b : ℕ → Bool) (o : Option ℕ) → ((t : ℕ) → b t ≡ a t) → Picks a o → Picks b o
picks_alike a b (Some t) same picks = same t ∙ picks
picks_alike a b None same picks = λ t. same t ∙ picks t

-- who is free can step, and isn't out
pub free_parts : (can : Bool) (out : List ℕ) (t : ℕ) → (can && not (among out t)) ≡ true → (can ≡ true) × (among out t ≡ false)
free_parts can out t free = let both = and_parts can (not (among out t)) free in (both.0, not-true _ both.1)

-- a task that isn't out is free if it can step
pub still_free : (r can : Bool) (out : List ℕ) (t : ℕ) → r ≡ can → among out t ≡ false → r ≡ (can && not (among out t))
still_free r true out t e absent = e ∙ sym (not_from_false (among out t) absent)
still_free r false out t e absent = e

-- a task may not turn if it is out
pub out_no_turn : (can out : Bool) → out ≡ true → (can && not out) ≡ false
out_no_turn can out is = and_right can (not out) (not_from_true out is)

pub idle_no_turn : (can out : Bool) → can ≡ false → (can && not out) ≡ false
idle_no_turn can out idle = and_left can (not out) idle

pub turns : (can out : Bool) → can ≡ true → out ≡ false → (can && not out) ≡ true
turns can out is absent = and_from can (not out) is (not_from_false out absent)

-- ---- what is reported

-- an entry is a step, or came from outside
pub steps_and_outside : (journal : List Event) → count_by is_step journal + outside_entries journal ≡ length journal
steps_and_outside journal =
    let steps : length (filter is_step journal) ≡ count_by is_step journal = length-filter is_step journal in
    let others : length (filter (λ e. not (is_step e)) journal) ≡ outside_entries journal = length-filter (λ e. not (is_step e)) journal in
    let both : length (filter is_step journal) + length (filter (λ e. not (is_step e)) journal) ≡ length journal = length-filter_both is_step (λ e. not (is_step e)) (λ e. refl) journal in
    omega (arith, steps, others, both)

-- the steps of a machine are the steps among its events
pub steps_counted : (m : Seen) (events : List Event) (out : List ℕ) → IsBook m events out → m.steps ≡ count_by is_step events
steps_counted m events out is =
    let counted = is.counted in
    let all = steps_and_outside events in
    omega (arith, counted, all)

pub reports : (m : Seen) (events : List Event) (out : List ℕ) (end : Option End) (o : End) → IsBook m events out → MainBudget m.program → In (λ w. end ≡ (task_at w 0).outcome) (after m.program events) → end ≡ Some o → IsReport m.program events o
reports m events out end o is main ended some =
    let s = is.stands in
    let here : end ≡ (task_at s.world 0).outcome = subst (In (λ w. end ≡ (task_at w 0).outcome)) s.runs ended in
    let same : taken m.program events ≡ m.steps = s.steps in
    let counted : length events ≡ m.steps + outside_entries events = is.counted in
    let all = steps_and_outside events in
    record {
      world = s.world;
      runs = s.runs;
      ended = sym here ∙ some;
      steps = omega (arith, same, counted, all);
      bounded = λ c printed. subst (λ d. IsBounded m.program events d) (sym (main.alone c printed))
          (record { steps = (main.runs_well events).steps; entries = entries_few m events out is main });
    }

-- or the root lives
pub unfinished : (m : Seen) (events : List Event) (end : Option End) → Stands m events → In (λ w. end ≡ (task_at w 0).outcome) (after m.program events) → end ≡ None → IsUnfinished m.program events
unfinished m events end s ended none =
    let here : end ≡ (task_at s.world 0).outcome = subst (In (λ w. end ≡ (task_at w 0).outcome)) s.runs ended in
    record { world = s.world; runs = s.runs; lives = sym here ∙ none }
