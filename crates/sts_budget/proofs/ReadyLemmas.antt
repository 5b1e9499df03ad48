-- The typing of a function fits its code.
use Rattle.std.proofs.Common.{◌≡◌, ℕ, ◌<◌, List, Option, None, [], ◌∷◌, length, slice_get, refl, sym, ap, ◌∙◌, subst, arith, unwrap_or, get_or, ◌≤◌}
use Rattle.sts_code.specs.Checks.{program_fault}
use Rattle.sts_code.specs.Loops.{is_times}
use Rattle.sts_code.specs.Program.{Program, routine, instr_at}
use Rattle.sts_code.specs.declared.instr.Instr.{Instr}
use Rattle.sts_code.specs.declared.instr.Instr.TheVariants.{Fork}
use Rattle.sts_rules.specs.declared.budget.Budgets.{Budgets}
use Rattle.sts_rules.specs.TypeState.{TypeState}
use Rattle.sts_types.specs.Arrivals.{none}
use Rattle.sts_types.specs.Typing.{Typing, IsTyping}
use Rattle.sts_budget.specs.declared.layout.Layout.{Layout}
use Rattle.sts_budget.specs.Change.{ForksEarlier}
use Rattle.sts_budget.specs.Known.{NamesRight}
use Rattle.sts_budget.specs.Layout.{IsDeepest}
use Rattle.sts_budget.specs.Ready.{IsLaidFor, first_of, names_in}
use Rattle.sts_budget.specs.TypedNames.{names}
use Rattle.sts_budget.proofs.CheckedLemmas.{IsChecked, is_checked}
use Rattle.sts_budget.proofs.Named.{led, knows_names, named_long}
use Rattle.sts_budget.proofs.TypedLemmas.{fits, structured, opened}

-- each fork is of an earlier function
forks : (f pc : ℕ) (i : Instr) → ((x g : ℕ) (h : Option ℕ) → i ≡ Fork x g h → g < f) → ForksEarlier f i
forks f pc (Fork x g h) e = e x g h refl
forks f pc _ e = tt

first_is : (hs : List ℕ) → slice_get hs 0 ≡ first_of hs
first_is [] = refl
first_is (h ∷ hs) = refl

-- the names of a typing are those of the typestates that reach its places
pub names_right : (p : Program) (f : ℕ) (l : Layout) → program_fault p.routines ≡ None → f < length p.routines → IsTyping p f l.typing.now → NamesRight p f (names_in l)
names_right p f l fine in_program is pc s r =
    let c = is_checked p f fine in_program in
    ap (λ (x : TypeState). names x.entries) ((is.alone pc (fits p f is.clear c.some_code c.bounds [] pc s r).1).1 s r)

pub is_ready : (p : Program) (f : ℕ) (earlier : List Budgets) (code : List Instr) (l : Layout) → program_fault p.routines ≡ None → f < length p.routines → length earlier ≡ f → code ≡ (routine p f).code → IsTyping p f l.typing.now → IsDeepest l.typing.now l.deepest → IsLaidFor earlier code l
is_ready p f earlier code l fine in_program long is t deepest = subst (λ xs. IsLaidFor earlier xs l) (sym is) ready
  where
    c : IsChecked p f
    c = is_checked p f fine in_program

    ready : IsLaidFor earlier (routine p f).code l
    ready = record {
      good = structured p f t.clear c.some_code c.bounds earlier;
      known = knows_names p f t.clear c.some_code c.bounds earlier (names_in l) (names_right p f l fine in_program t);
      led = led p f t.clear c.some_code c.bounds earlier;
      heads = λ pc lt. (t.loops.heads pc lt ∙ first_is _);
      ends = λ h n i. (
          let o = opened p f t.clear c.some_code c.bounds earlier h n i in
          ap (λ q. unwrap_or q 0) (t.loops.ends h (omega (arith, o.later, o.within)) (ap is_times i)));
      heads_long = t.loops.heads_long;
      ends_long = t.loops.ends_long;
      states_long = t.long;
      forks = λ pc. subst (λ n. ForksEarlier n (instr_at (routine p f).code pc)) (sym long) (forks f pc (instr_at (routine p f).code pc) (c.earlier pc));
      turns = c.few;
      short = c.short;
      deep = λ pc. subst (λ n. n ≤ l.deepest) (sym (named_long (get_or l.typing.now.states pc none).entries)) (deepest.0 pc);
      few = deepest.1;
    }

-- the layout of a typing is ready
pub is_typed_ready : (p : Program) (f : ℕ) (earlier : List Budgets) (code : List Instr) (l : Layout) (t : Typing) → program_fault p.routines ≡ None → f < length p.routines → length earlier ≡ f → code ≡ (routine p f).code → l.typing.now ≡ t → IsTyping p f t → IsDeepest t l.deepest → IsLaidFor earlier code l
is_typed_ready p f earlier code l t fine in_program long is same typed deepest = is_ready p f earlier code l fine in_program long is (subst (IsTyping p f) (sym same) typed) (subst (λ x. IsDeepest x l.deepest) (sym same) deepest)
