-- A book that asks its outside: the interrupts and expiries of its journal came from there.
use Rattle.std.proofs.Common.{◌≡◌, ℕ, zero, suc, ◌+◌, List, [], ◌∷◌, ◌++◌, Option, Some, None, Bool, true, false, if◌then◌else◌, inl, inr, refl, sym, ap, ◌∙◌, subst, count_by, append_assoc, append-nil, length-append, arith}
use Rattle.std.specs.Prelude.{IfErr, IfNone, IfOk, IfSome, OnErr, Result, Ok, Err, is_some, option_map, unwrap_or}
use Rattle.sts_code.specs.Program.{Program}
use Rattle.sts_machine.specs.Slice.{steps_of}
use Rattle.sts_model.specs.declared.event.Event.{Event}
use Rattle.sts_model.specs.declared.event.Event.TheVariants.{Step}
use Rattle.sts_model.specs.Run.{is_step}
use Rattle.sts_pool.specs.Asked.{HasGiven, IsAsked}
use Rattle.sts_pool.specs.Book.{BookSeen, IsJournal, MayBe, Records}
use Rattle.sts_pool.specs.Journal.{opened}
use Rattle.sts_pool.specs.Outside as outside
use Rattle.sts_pool.specs.Outside.{Gave, IsGiven, IsOutside}
use Rattle.sts_pool.specs.Report.{EndsUnfinished, IsReport, IsReportOf, IsUnfinished}
use Rattle.sts_pool.specs.declared.report.PoolError.{PoolError}
use Rattle.sts_pool.specs.declared.report.PoolError.TheVariants.{Unfinished}
use Rattle.sts_pool.specs.declared.report.Report.{Report}
use Rattle.sts_pool.proofs.Books.{steps_and_outside}
use Rattle.sts_pool.proofs.OutsideLemmas.{entries_more}

-- ---- the journal of a book

written_on : (o : Option (List Event)) (events more : List Event) → IfSome o (λ es. es ≡ events) → IfSome (option_map (λ journal. journal ++ more) o) (λ es. es ≡ events ++ more)
written_on (Some es) events more is = ap (λ xs. xs ++ more) is
written_on None events more is = is

-- it goes on by what was recorded
pub journal_more : (b x : BookSeen) (events more : List Event) → IsJournal b events → Records b x more → IsJournal x (events ++ more)
journal_more b x events more is records =
    let was = is.may.counted in
    let came = is.may.outside in
    let steps = records.steps in
    let outer = records.outside in
    let long = length-append events more in
    let entries = entries_more events more in
    let all = steps_and_outside more in
    record {
      may =
          record {
            stands = records.stands events is.may.stands;
            outside = omega (arith, came, outer, entries);
            counted = omega (arith, was, steps, outer, long, all);
          };
      written = subst (λ o. IfSome o (λ es. es ≡ events ++ more)) (sym records.written) (written_on b.journal events more is.written);
    }

-- it doesn't depend on which tasks are out
pub journal_beside : (b : BookSeen) (out : List ℕ) (events : List Event) → IsJournal b events → IsJournal (record b { out = out }) events
journal_beside b out events is =
    record {
      may = record { stands = is.may.stands; outside = is.may.outside; counted = is.may.counted };
      written = is.written;
    }

-- ---- what an outside gave

-- a fact of the outside, if there is one, that follows from another
if_some : {O : Type 0} (first : Option O) (P Q : O → Type 0) → ((o : O) → P o → Q o) → IfSome first P → IfSome first Q
if_some (Some o) P Q more is = more o is
if_some None P Q more is = is

-- steps come from no outside
gave_steps : {O : Type 0} (gives : O → ℕ → Option Event → O → Type 0) (first : O) (c t : ℕ) (journal : List Event) (now : O) → Gave gives first journal now → Gave gives first (journal ++ steps_of c t) now
gave_steps gives first zero t journal now gave = subst (λ es. Gave gives first es now) (sym (append-nil journal)) gave
gave_steps gives first (suc c) t journal now gave =
    let one = outside.step journal now t gave in
    let all = gave_steps gives first c t (journal ++ Step t ∷ []) now one in
    rw append_assoc at all

-- ---- the book that is left

-- other tasks may be out
given_beside : {O : Type 0} (gives : O → ℕ → Option Event → O → Type 0) (first : Option O) (b : BookSeen) (out : List ℕ) → HasGiven gives first b → HasGiven gives first (record b { out = out })
given_beside gives first b out has = record { events = has.events; journal = journal_beside b out has.events has.journal; given = has.given }

-- its entries, if they are written
entries_held : (o : Option (List Event)) (events : List Event) → IfSome o (λ es. es ≡ events) → unwrap_or o [] ≡ (if is_some o then events else [])
entries_held (Some es) events same = same
entries_held None events same = refl

-- a book that is opened with a journal has one
pub opened_written : (w : Bool) → is_some (opened w) ≡ w
opened_written true = refl
opened_written false = refl

-- its report
pub report_given : {O E : Type 0} (gives : O → ℕ → Option Event → O → Type 0) (o : O) (b : BookSeen) (p : Program) (w : Bool) (r : Result Report E) → b.program ≡ p → is_some b.journal ≡ w → HasGiven gives (Some o) b
    → IfOk r (λ r. (events : List Event) → MayBe b events → IsReport b.program events r.end × (r.steps ≡ count_by is_step events)) → IfOk r (λ r. r.journal.items ≡ unwrap_or b.journal []) → IfOk r (IsReportOf w p (IsGiven gives o))
report_given gives o b p w (Ok r) ours written has ended held =
    let told = ended has.events has.journal.may in
    record {
      journal = has.events;
      report = subst (λ q. IsReport q has.events r.end) ours told.0;
      steps = told.1;
      came = has.given;
      held = subst (λ k. r.journal.items ≡ (if k then has.events else [])) written (held ∙ entries_held b.journal has.events has.journal.written);
    }
report_given gives o b p w (Err e) ours written has ended held = tt

-- and if its root lives
unfinished_given : {O : Type 0} (gives : O → ℕ → Option Event → O → Type 0) (o : O) (b : BookSeen) (p : Program) → b.program ≡ p → HasGiven gives (Some o) b → ((events : List Event) → MayBe b events → IsUnfinished b.program events) → EndsUnfinished p (IsGiven gives o)
unfinished_given gives o b p ours has lives =
    record {
      journal = has.events;
      unfinished = subst (λ q. IsUnfinished q has.events) ours (lives has.events has.journal.may);
      came = has.given;
    }

-- and so if a run ends with that error
pub error_given : {O R : Type 0} (gives : O → ℕ → Option Event → O → Type 0) (o : O) (b : BookSeen) (p : Program) (r : Result R PoolError) → b.program ≡ p → HasGiven gives (Some o) b
    → OnErr r ((events : List Event) → MayBe b events → IsUnfinished b.program events) → IfErr r (λ e. e ≡ Unfinished → EndsUnfinished p (IsGiven gives o))
error_given gives o b p (Ok a) ours has told = tt
error_given gives o b p (Err e) ours has told = λ is. unfinished_given gives o b p ours has told

-- ---- a book with its outside

-- a journal stays written
still_written : (o : Option (List Event)) (more : List Event) → is_some (option_map (λ journal. journal ++ more) o) ≡ is_some o
still_written (Some es) more = refl
still_written None more = refl

module _ {O : Type 0} (gives : O → ℕ → Option Event → O → Type 0) (p : Program) (w : Bool) (first : Option O) where
  -- before the first event
  pub opening_asked : (b : BookSeen) (now : O) → b.program ≡ p → is_some b.journal ≡ w → IsJournal b [] → IfSome first (λ o. o ≡ now) → IsAsked gives p w first b now false
  opening_asked b now ours written opening same =
      record {
        program = ours;
        written = written;
        events = [];
        journal = opening;
        gave = if_some first (λ o. o ≡ now) (λ o. Gave gives o [] now) (λ o e. subst (λ z. Gave gives o [] z) e outside.opening) same;
        spent = λ e. absurd (cc);
      }

  -- after these entries
  more_asked : (b x : BookSeen) (now later : O) (s : Bool) (more : List Event) → x.program ≡ b.program → Records b x more → ((o : O) (events : List Event) → IsJournal b events → Gave gives o events now → Gave gives o (events ++ more) later) → IsAsked gives p w first b now s → IsAsked gives p w first x later false
  more_asked b x now later s more same records goes is =
      record {
        program = same ∙ is.program;
        written = ap is_some records.written ∙ (still_written b.journal more ∙ is.written);
        events = is.events ++ more;
        journal = journal_more b x is.events more is.journal records;
        gave = if_some first (λ o. Gave gives o is.events now) (λ o. Gave gives o (is.events ++ more) later) (λ o gave. goes o is.events is.journal gave) is.gave;
        spent = λ e. absurd (cc);
      }

  -- after an event that it gave
  pub event_asked : (b x : BookSeen) (now later : O) (s : Bool) (n : ℕ) (e : Event) (answer : Option Event) → x.program ≡ b.program → Records b x (e ∷ []) → IsOutside e → answer ≡ Some e → n ≡ b.machine.steps + b.outside → gives now n answer later → IsAsked gives p w first b now s
      → IsAsked gives p w first x later false
  event_asked b x now later s n e answer same records outer some long gave is =
      more_asked b x now later s (e ∷ []) same records
      (λ o events journal before. outside.event events now later e before outer
      (subst (λ k. gives now k (Some e) later) (long ∙ sym journal.may.counted) (subst (λ a. gives now n a later) some gave)))
      is

  -- with the same book
  still_asked : (b : BookSeen) (now later : O) {s : Bool} (left : Bool) (is : IsAsked gives p w first b now s) → ((o : O) → Gave gives o is.events now → Gave gives o is.events later) → (left ≡ true → HasGiven gives first b) → IsAsked gives p w first b later left
  still_asked b now later left is goes spent =
      record {
        program = is.program;
        written = is.written;
        events = is.events;
        journal = is.journal;
        gave = if_some first (λ o. Gave gives o is.events now) (λ o. Gave gives o is.events later) goes is.gave;
        spent = spent;
      }

  has_given : (b : BookSeen) (now : O) (s : Bool) (is : IsAsked gives p w first b now s) → ((o : O) → Gave gives o is.events now → IsGiven gives o is.events) → HasGiven gives first b
  has_given b now s is given =
      record {
        events = is.events;
        journal = is.journal;
        given = if_some first (λ o. Gave gives o is.events now) (λ o. IsGiven gives o is.events) given is.gave;
      }

  -- if it gave nothing, it has nothing to give
  pub nothing_given : (b : BookSeen) (now later : O) (s : Bool) (n : ℕ) (answer : Option Event) → answer ≡ None → n ≡ b.machine.steps + b.outside → gives now n answer later → IsAsked gives p w first b now s → HasGiven gives first b
  nothing_given b now later s n answer none long gave is =
      let here = subst (λ k. gives now k None later) (long ∙ sym is.journal.may.counted) (subst (λ a. gives now n a later) none gave) in
      has_given b now s is (λ o before. record { left = now; gave = before; spent = inl (later, here) })

  pub nothing_asked : (b : BookSeen) (now later : O) (s : Bool) (n : ℕ) (answer : Option Event) → answer ≡ None → n ≡ b.machine.steps + b.outside → gives now n answer later → IsAsked gives p w first b now s → IsAsked gives p w first b later true
  nothing_asked b now later s n answer none long gave is =
      let here = subst (λ k. gives now k None later) (long ∙ sym is.journal.may.counted) (subst (λ a. gives now n a later) none gave) in
      still_asked b now later true is (λ o before. outside.nothing is.events now later before here) (λ e. nothing_given b now later s n answer none long gave is)

  -- nor if the book is full
  pub full_given : (b : BookSeen) (now : O) (s : Bool) → b.outside ≡ 4096 → IsAsked gives p w first b now s → HasGiven gives first b
  full_given b now s full is = has_given b now s is (λ o gave. record { left = now; gave = gave; spent = inr (is.journal.may.outside ∙ full) })

  pub full_asked : (b : BookSeen) (now : O) (s : Bool) → b.outside ≡ 4096 → IsAsked gives p w first b now s → IsAsked gives p w first b now true
  full_asked b now s full is = still_asked b now now true is (λ o gave. gave) (λ e. full_given b now s full is)

  -- it may have something to give again
  stays_asked : (b x : BookSeen) (now : O) (s : Bool) → x ≡ b → IsAsked gives p w first b now s → IsAsked gives p w first x now false
  stays_asked b x now s same is =
      subst (λ z. IsAsked gives p w first z now false) (sym same) (still_asked b now now false is (λ o gave. gave) (λ e. absurd (cc)))

  -- after a step
  pub stepped_asked : (b x : BookSeen) (now : O) (s : Bool) (t : ℕ) → x.program ≡ b.program → Records b x (Step t ∷ []) → IsAsked gives p w first b now s → IsAsked gives p w first x now false
  stepped_asked b x now s t same records is =
      more_asked b x now now s (Step t ∷ []) same records (λ o events journal before. outside.step events now t before) is

  -- after steps of a task
  pub ran_asked : (b x : BookSeen) (now : O) (s : Bool) (c t : ℕ) → x.program ≡ b.program → Records b x (steps_of c t) → IsAsked gives p w first b now s → IsAsked gives p w first x now false
  ran_asked b x now s c t same records is =
      more_asked b x now now s (steps_of c t) same records (λ o events journal before. gave_steps gives o c t events now before) is

  -- after a slice was given back
  pub back_asked : (b x : BookSeen) (now : O) (s : Bool) (c t : ℕ) (r : Bool) → x.program ≡ b.program → (r ≡ true → Records b x (steps_of c t)) → (r ≡ false → x ≡ b) → IsAsked gives p w first b now s → IsAsked gives p w first x now false
  back_asked b x now s c t true same records stays is = ran_asked b x now s c t same (records refl) is
  back_asked b x now s c t false same records stays is = stays_asked b x now s (stays refl) is

  -- whatever tasks are out
  pub beside_asked : (b x : BookSeen) (out : List ℕ) (now : O) (s : Bool) → x ≡ record b { out = out } → IsAsked gives p w first b now s → IsAsked gives p w first x now s
  beside_asked b x out now s same is =
      subst (λ z. IsAsked gives p w first z now s) (sym same)
      (record {
        program = is.program;
        written = is.written;
        events = is.events;
        journal = journal_beside b out is.events is.journal;
        gave = is.gave;
        spent = λ e. given_beside gives first b out (is.spent e);
      })

  pub claimed_asked : {A : Type 0} (b x : BookSeen) (now : O) (s : Bool) (r : Option A) (Q : Type 0) (out : A → List ℕ) → IfNone r ((x ≡ b) × Q) → IfSome r (λ a. x ≡ record b { out = out a }) → IsAsked gives p w first b now s → IsAsked gives p w first x now s
  claimed_asked b x now s (Some a) Q out none some is = beside_asked b x (out a) now s some is
  claimed_asked b x now s None Q out none some is = subst (λ z. IsAsked gives p w first z now s) (sym none.0) is
