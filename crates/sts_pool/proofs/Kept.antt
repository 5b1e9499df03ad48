-- A book keeps its facts, whether its journal is written or only counted.
use Rattle.std.proofs.Common.{◌≡◌, ℕ, ◌+◌, ◌≤◌, ◌<◌, ◌^◌, List, [], ◌∷◌, ◌++◌, length, Bool, true, false, not, ◌&&◌, Option, Some, None, refl, sym, ap, ◌∙◌, subst, cond, vec_len, vec_capacity, count_by, rules, arith, append-nil}
use Rattle.std.proofs.lemmas.Bool.{both_ways, cond-true}
use Rattle.std.proofs.lemmas.List.Folds.{sum_by-replicate}
use Rattle.std.specs.Prelude.{IfSome, option_map}
use Rattle.sts_code.specs.Program.{Program}
use Rattle.sts_model.specs.declared.event.End.{End}
use Rattle.sts_model.specs.declared.event.Event.{Event}
use Rattle.sts_model.specs.declared.event.Event.TheVariants as event
use Rattle.sts_model.specs.declared.record.Frame.{Frame}
use Rattle.sts_model.specs.Live.{Live}
use Rattle.sts_model.specs.Run.{after, counts, is_step}
use Rattle.sts_model.specs.World.{task_at}
use Rattle.laws_runs.specs.Runs.{In}
use Rattle.laws_live.specs.Reading.{lives_in, with_live_frame}
use Rattle.laws_live.specs.Run.{live_apply, live_steps_in}
use Rattle.laws_live.specs.Waiting.{live_can_step}
use Rattle.sts_machine.specs.Machine.{Seen, Stands}
use Rattle.sts_machine.specs.Slice.{steps_of}
use Rattle.sts_machine.specs.Turned.{turned}
use Rattle.sts_pool.specs.Book.{BookSeen, HasBookRoom, IsBook, IsJournal, IsKept, MayBe, OfJournal, Records, book_of, is_free, may_turn}
use Rattle.sts_pool.specs.Journal.{HasRoomFor, Holds, IsRecorded, written}
use Rattle.sts_pool.specs.Outside.{outside_entries}
use Rattle.sts_pool.specs.Report.{IsReport}
use Rattle.sts_pool.specs.declared.journal.Journal.{Journal}
use Rattle.sts_pool.specs.declared.journal.Journal.TheVariants.{Written, Counted}
use Rattle.sts_pool.proofs.OutsideLemmas.{entries_more, one_outside}
use Rattle.sts_pool.proofs.Books.{back_book, entries_few, entries_fit, free_parts, lives, opening_book, out_book, out_fits, outside_book, ran_book, released_book, reports, room_kept, stepped_book, steps_counted, still_entries, still_entries_one}
use Rattle.sts_pool.proofs.Outs.{among, without}

-- ---- a journal of either kind

-- if it holds events with room for more, there is room for more
fits : (j : Journal) (events : List Event) (room more : ℕ) → Holds j events room → length events + more ≤ room → HasRoomFor j more
fits (Written v) events room more holds few =
    let same : length v.items ≡ length events = ap length holds.0 in
    let enough : room ≤ vec_capacity v = holds.1 in
    let long : vec_len v ≡ length v.items = search rules in
    omega (arith, same, enough, few, long)
fits Counted events room more holds few = tt

-- what was recorded is held
held : (j l : Journal) (events more : List Event) (room : ℕ) → IsRecorded j l more → Holds j events room → Holds l (events ++ more) room
held (Written v) (Written w) events more room recorded holds =
    let enough : room ≤ vec_capacity v = holds.1 in
    let kept : vec_capacity v ≤ vec_capacity w = recorded.1 in
    (recorded.0 ∙ ap (λ es. es ++ more) holds.0, omega (arith, enough, kept))
held Counted Counted events more room recorded holds = tt
held (Written v) Counted events more room recorded holds = absurd recorded
held Counted (Written w) events more room recorded holds = absurd recorded

-- and written, if the journal is
pub written_more : (j l : Journal) (more : List Event) → IsRecorded j l more → written l ≡ option_map (λ journal. journal ++ more) (written j)
written_more (Written v) (Written w) more recorded = ap Some recorded.0
written_more Counted Counted more recorded = refl
written_more (Written v) Counted more recorded = absurd recorded
written_more Counted (Written w) more recorded = absurd recorded

-- ---- what is known of a kept book

pub may_be : (m : Seen) (j : Journal) (n : ℕ) (out : List ℕ) (k : ℕ) (is : IsKept m j n out k) → MayBe (book_of m (written j) n out) is.events
may_be m j n out k is =
    let counted : length is.events ≡ m.steps + outside_entries is.events = is.book.counted in
    let entries : outside_entries is.events ≡ n = is.entries in
    record { stands = is.book.stands; outside = entries; counted = omega (arith, counted, entries) }

-- so few entries that a number of 64 bits counts them
pub countable : (m : Seen) (j : Journal) (n : ℕ) (out : List ℕ) (k : ℕ) → IsKept m j n out k → m.steps + n < 2 ^ 64
countable m j n out k is =
    let few = entries_few m is.events out is.book is.room.main in
    let small = is.room.few in
    let counted : length is.events ≡ m.steps + outside_entries is.events = is.book.counted in
    let entries : outside_entries is.events ≡ n = is.entries in
    omega (arith, few, small, counted, entries)

-- no more outside events came than may
pub most_entries : (m : Seen) (j : Journal) (n : ℕ) (out : List ℕ) (k : ℕ) (b : BookSeen) → book_of m (written j) n out ≡ b → IsKept m j n out k → b.outside ≤ 4096
most_entries m j n out k b view is =
    let most = is.book.most in
    let entries : outside_entries is.events ≡ n = is.entries in
    let same : n ≡ b.outside = ap (λ (x : BookSeen). x.outside) view in
    omega (arith, most, entries, same)

-- one more may come to a book that isn't full
pub few_more : (m : Seen) (j : Journal) (n : ℕ) (out : List ℕ) (k : ℕ) (b : BookSeen) (full : Bool) → book_of m (written j) n out ≡ b → IsKept m j n out k → (b.outside ≡ 4096 → full ≡ true) → full ≡ false → n + 1 ≤ 4096
few_more m j n out k b full view is filled free =
    let most = is.book.most in
    let entries : outside_entries is.events ≡ n = is.entries in
    let other : n ≡ 4096 → ⊥ = λ e. both_ways full free (filled (sym (ap (λ (x : BookSeen). x.outside) view) ∙ e)) in
    omega (arith, most, entries, other)

-- the entries that are written may be the journal's
pub shown : (m : Seen) (j : Journal) (n : ℕ) (out : List ℕ) (k : ℕ) → IsKept m j n out k → IfSome (written j) (MayBe (book_of m (written j) n out))
shown m (Written v) n out k is = subst (MayBe (book_of m (Some v.items) n out)) (sym is.holds.0) (may_be m (Written v) n out k is)
shown m Counted n out k is = tt

-- a fact of all events that may be the journal's is a fact of the journal
of_journal : (m : Seen) (j : Journal) (n : ℕ) (out : List ℕ) (k : ℕ) (P : List Event → Type 0) → IsKept m j n out k → ((events : List Event) → MayBe (book_of m (written j) n out) events → P events) → OfJournal (book_of m (written j) n out) P
of_journal m (Written v) n out k P is all = all v.items (shown m (Written v) n out k is)
of_journal m Counted n out k P is all = all

pub told : (m : Seen) (j : Journal) (n : ℕ) (out : List ℕ) (k : ℕ) (b : BookSeen) → book_of m (written j) n out ≡ b → (Q : BookSeen → List Event → Type 0) → IsKept m j n out k
    → ((events : List Event) → MayBe (book_of m (written j) n out) events → Q (book_of m (written j) n out) events) → OfJournal b (Q b)
told m j n out k b view Q is all =
    subst (λ z. OfJournal z (Q z)) view (of_journal m j n out k (Q (book_of m (written j) n out)) is all)

-- the answer to a step of a task
pub told_turn : (m : Seen) (j : Journal) (n : ℕ) (out : List ℕ) (k : ℕ) (b : BookSeen) (t : ℕ) (counted : Bool) → book_of m (written j) n out ≡ b → IsKept m j n out k
    → ((events : List Event) → Stands m events → (counts m.program (after m.program events) (event.Step t) && not (among out t)) ≡ counted) → OfJournal b (λ events. turned counted ≡ turned (may_turn b events t))
told_turn m j n out k b t counted view is may =
    told m j n out k b view (λ z events. turned counted ≡ turned (may_turn z events t)) is (λ events known. sym (ap turned (may events known.stands)))

-- an event was recorded
pub records : (m x : Seen) (j l : Journal) (n c : ℕ) (out left : List ℕ) (more : List Event) (b : BookSeen) → book_of m (written j) n out ≡ b → IsRecorded j l more → x.steps ≡ m.steps + count_by is_step more → c ≡ n + outside_entries more
    → ((events : List Event) → Stands m events → Stands x (events ++ more)) → Records b (book_of x (written l) c left) more
records m x j l n c out left more b view recorded steps counted stands =
    subst (λ z. Records z (book_of x (written l) c left) more) view
    (record { written = written_more j l more recorded; steps = steps; outside = counted; stands = stands })

-- a step that was taken is counted
pub one_step : (p : Program) (v : Live) (t before now : ℕ) → now ≡ before + live_steps_in p v (event.Step t) → live_can_step p v t ≡ true → now ≡ before + count_by is_step (event.Step t ∷ [])
one_step p v t before now steps can =
    let one = cond-true {A = ℕ} (live_can_step p v t) 1 0 can in
    omega (arith, steps, one)

pub counted_step : (m : Seen) (t now : ℕ) → live_can_step m.program m.live t ≡ true → now ≡ m.steps + 1 → now ≡ m.steps + live_steps_in m.program m.live (event.Step t)
counted_step m t now can steps =
    let one = cond-true {A = ℕ} (live_can_step m.program m.live t) 1 0 can in
    omega (arith, steps, one)

pub counts_one : (t before now : ℕ) → now ≡ before + 1 → now ≡ before + count_by is_step (event.Step t ∷ [])
counts_one t before now steps = omega (arith, steps)

-- those of a slice are
pub all_steps : (c t before now : ℕ) → now ≡ before + c → now ≡ before + count_by is_step (steps_of c t)
all_steps c t before now steps =
    let all = sum_by-replicate (λ x. cond (is_step x) 1 0) c (event.Step t) in
    omega (arith, steps, all)

-- and an event from outside is no step
pub no_step : (p : Program) (v : Live) (e : Event) (before now : ℕ) → now ≡ before + live_steps_in p v e → is_step e ≡ false → now ≡ before + count_by is_step (e ∷ [])
no_step p v (event.Step t) before now steps outer = absurd (cc)
no_step p v (event.Interrupt t) before now steps outer = omega (arith, steps)
no_step p v (event.Expire s) before now steps outer = omega (arith, steps)

-- steps come from no outside
pub none_outside : (c t n : ℕ) → n ≡ n + outside_entries (steps_of c t)
none_outside c t n =
    let none : outside_entries (steps_of c t) ≡ outside_entries [] = still_entries [] c t in
    omega (arith, none)

-- ---- what a kept book becomes

-- the room goes over to a machine of the same program
same_room : (m x : Seen) (j k : ℕ) → x.program ≡ m.program → HasBookRoom m.program j k → HasBookRoom x.program j k
same_room m x j k same room = room_kept m.program x.program j k j k same (omega arith) (omega arith) room

-- before the first event
pub opening_kept : (m : Seen) (j : Journal) (room k : ℕ) → Stands m [] → m.steps ≡ 0 → Holds j [] room → HasBookRoom m.program room k → IsKept m j 0 [] k
opening_kept m j room k stands none holds has = record { events = []; book = opening_book m stands none; entries = refl; journal_room = room; holds = holds; room = has }

pub opening_journal : (m : Seen) (j : Journal) (room : ℕ) (out : List ℕ) → Stands m [] → m.steps ≡ 0 → Holds j [] room → IsJournal (book_of m (written j) 0 out) []
opening_journal m (Written v) room out stands none holds = record { may = record { stands = stands; outside = refl; counted = omega (arith, none) }; written = holds.0 }
opening_journal m Counted room out stands none holds = record { may = record { stands = stands; outside = refl; counted = omega (arith, none) }; written = tt }

-- if more events lead to a book, there is room for them
more_fits : (m x : Seen) (j : Journal) (n : ℕ) (out left : List ℕ) (k c : ℕ) (more : List Event) (is : IsKept m j n out k) → x.program ≡ m.program → length more ≡ c → IsBook x (is.events ++ more) left → HasRoomFor j c
more_fits m x j n out left k c more is same long book =
    let few = entries_fit m x is.events more left is.journal_room k same is.room book in
    fits j is.events is.journal_room c is.holds (omega (arith, few, long))

-- and once they are recorded it is kept
more_kept : (m x : Seen) (j l : Journal) (n c : ℕ) (out left : List ℕ) (k : ℕ) (more : List Event) (is : IsKept m j n out k) → x.program ≡ m.program → IsRecorded j l more → outside_entries (is.events ++ more) ≡ c → IsBook x (is.events ++ more) left → IsKept x l c left k
more_kept m x j l n c out left k more is same recorded entries book =
    record {
      events = is.events ++ more;
      book = book;
      entries = entries;
      journal_room = is.journal_room;
      holds = held j l is.events more is.journal_room recorded is.holds;
      room = same_room m x is.journal_room k same is.room;
    }

-- the journal has room for these entries, and once they are recorded, the book is kept
pub record Grows (j : Journal) (more : List Event) (x : Seen) (c : ℕ) (left : List ℕ) (k : ℕ) : Type 0 where
  pub fits : (count : ℕ) → length more ≡ count → HasRoomFor j count
  pub kept : (l : Journal) → IsRecorded j l more → IsKept x l c left k

grows : (m x : Seen) (j : Journal) (n c : ℕ) (out left : List ℕ) (k : ℕ) (more : List Event) (is : IsKept m j n out k) → x.program ≡ m.program → outside_entries (is.events ++ more) ≡ c → IsBook x (is.events ++ more) left → Grows j more x c left k
grows m x j n c out left k more is same entries book =
    record {
      fits = λ count long. more_fits m x j n out left k count more is same long book;
      kept = λ l recorded. more_kept m x j l n c out left k more is same recorded entries book;
    }

-- by a step of a task that can step and isn't out
pub step_grows : (m x : Seen) (j : Journal) (n : ℕ) (out : List ℕ) (k t : ℕ) → IsKept m j n out k → x.program ≡ m.program → ((events : List Event) → Stands m events → Stands x (events ++ event.Step t ∷ [])) → x.live ≡ live_apply m.program m.live (event.Step t) → x.steps ≡ m.steps + live_steps_in m.program m.live (event.Step t)
    → live_can_step m.program m.live t ≡ true → among out t ≡ false → Grows j (event.Step t ∷ []) x n out k
step_grows m x j n out k t is same stands live steps can absent =
    grows m x j n n out out k (event.Step t ∷ []) is same (still_entries_one is.events t ∙ is.entries)
    (stepped_book m x is.events out t is.book is.room.stay stands live steps can absent)

-- by an event from outside
pub event_grows : (m x : Seen) (j : Journal) (n : ℕ) (out : List ℕ) (k : ℕ) (e : Event) → IsKept m j n out k → n + 1 ≤ 4096 → is_step e ≡ false → x.program ≡ m.program → ((events : List Event) → Stands m events → Stands x (events ++ e ∷ [])) → x.live ≡ live_apply m.program m.live e
    → x.steps ≡ m.steps + live_steps_in m.program m.live e → Grows j (e ∷ []) x (n + 1) out k
event_grows m x j n out k e is few outer same stands live steps =
    let more = entries_more is.events (e ∷ []) in
    let one = one_outside e n outer in
    let entries : outside_entries is.events ≡ n = is.entries in
    grows m x j n (n + 1) out out k (e ∷ []) is same (omega (arith, more, one, entries))
    (outside_book m x is.events out e is.book is.room.stay stands live steps outer (omega (arith, entries, few)))

-- by the steps of a task, after which these tasks are out
steps_grow : (m x : Seen) (j : Journal) (n : ℕ) (out left : List ℕ) (k c t : ℕ) (is : IsKept m j n out k) → x.program ≡ m.program → IsBook x (is.events ++ steps_of c t) left → Grows j (steps_of c t) x n left k
steps_grow m x j n out left k c t is same book = grows m x j n n out left k (steps_of c t) is same (still_entries is.events c t ∙ is.entries) book

-- by a slice that came back
pub back_grows : (m x : Seen) (j : Journal) (n : ℕ) (out : List ℕ) (k c t : ℕ) (f : Frame) → IsKept m j n out k → x.program ≡ m.program → ((events : List Event) → Stands m events → Stands x (events ++ steps_of c t)) → x.live ≡ with_live_frame m.live t f → x.steps ≡ m.steps + c → Grows j (steps_of c t) x n (without t out) k
back_grows m x j n out k c t f is same stands live steps = steps_grow m x j n out (without t out) k c t is same (back_book m x is.events out c t f is.book stands live steps)

-- by local steps in place
pub ran_grows : (m x : Seen) (j : Journal) (n : ℕ) (out : List ℕ) (k c t : ℕ) (f : Frame) → IsKept m j n out k → x.program ≡ m.program → ((events : List Event) → Stands m events → Stands x (events ++ steps_of c t)) → x.live ≡ with_live_frame m.live t f → x.steps ≡ m.steps + c → Grows j (steps_of c t) x n out k
ran_grows m x j n out k c t f is same stands live steps = steps_grow m x j n out out k c t is same (ran_book m x is.events out c t f is.book stands live steps)

-- nothing was recorded
pub records_none : (b x : BookSeen) → b ≡ x → Records b x []
records_none b x same =
    subst (λ z. Records b z []) same
    (record {
      written = none b.journal;
      steps = omega arith;
      outside = omega arith;
      stands = λ before h. subst (Stands b.machine) (sym (append-nil before)) h;
    })
  where
    none : (o : Option (List Event)) → o ≡ option_map (λ journal. journal ++ []) o
    none None = refl
    none (Some es) = ap Some (sym (append-nil es))

-- one more task is out, since there was room for it
pub out_kept : (m : Seen) (j : Journal) (n : ℕ) (out : List ℕ) (k t : ℕ) → IsKept m j n out k → among out t ≡ false → lives_in m.live t ≡ true → IsKept m j n (out ++ t ∷ []) k
out_kept m j n out k t is absent alive =
    record {
      events = is.events;
      book = out_book m is.events out t is.book absent alive;
      entries = is.entries;
      journal_room = is.journal_room;
      holds = is.holds;
      room = is.room;
    }

-- a task that is free can step, and isn't out
pub free_in : (m : Seen) (j : Journal) (n : ℕ) (out : List ℕ) (t : ℕ) (b : BookSeen) → book_of m (written j) n out ≡ b → is_free b t ≡ true → (live_can_step m.program m.live t ≡ true) × (among out t ≡ false)
free_in m j n out t b view free =
    free_parts (live_can_step m.program m.live t) out t (subst (λ (x : BookSeen). is_free x t ≡ true) (sym view) free)

-- it is taken out
pub claimed : (m : Seen) (j : Journal) (n : ℕ) (out : List ℕ) (k t : ℕ) (b : BookSeen) → book_of m (written j) n out ≡ b → IsKept m j n out k → is_free b t ≡ true → IsKept m j n (out ++ t ∷ []) k
claimed m j n out k t b view is free =
    let parts = free_in m j n out t b view free in
    out_kept m j n out k t is parts.1 (lives m.program m.live t parts.0)

pub out_kept_fits : (m : Seen) (j : Journal) (n : ℕ) (out : List ℕ) (k t : ℕ) → IsKept m j n (out ++ t ∷ []) k → length out + 1 ≤ k
out_kept_fits m j n out k t is = out_fits m is.events out t is.journal_room k is.room is.book

-- a task is not out any more
pub released_kept : (m : Seen) (j : Journal) (n : ℕ) (out : List ℕ) (k t : ℕ) → IsKept m j n out k → IsKept m j n (without t out) k
released_kept m j n out k t is =
    record {
      events = is.events;
      book = released_book m is.events out t is.book;
      entries = is.entries;
      journal_room = is.journal_room;
      holds = is.holds;
      room = is.room;
    }

-- ---- what is reported

-- how it ended, if its root has, after all events that may be the journal's
pub ends : (m : Seen) (j : Journal) (n : ℕ) (out : List ℕ) (k : ℕ) (end : Option End) (o : End) → IsKept m j n out k → ((events : List Event) → Stands m events → In (λ w. end ≡ (task_at w 0).outcome) (after m.program events)) → end ≡ Some o
    → (events : List Event) → MayBe (book_of m (written j) n out) events → IsReport m.program events o × (m.steps ≡ count_by is_step events)
ends m j n out k end o is ended some events may =
    let entries : outside_entries is.events ≡ n = is.entries in
    let from : outside_entries events ≡ n = may.outside in
    let counted : length events ≡ m.steps + n = may.counted in
    let most = is.book.most in
    let book : IsBook m events out = record { stands = may.stands; counted = omega (arith, counted, from); most = omega (arith, most, entries, from); apart = is.book.apart; living = is.book.living } in
    (reports m events out end o book is.room.main (ended events may.stands) some, steps_counted m events out book)
