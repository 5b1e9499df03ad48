-- The joiner was told of one end more.
use Rattle.std.proofs.Common.{◌≡◌, ℕ, ◌+◌, ◌≤◌, List, ◌++◌, length, Option, Some, None, refl, sym, ◌∙◌, ap, arith, get_or, set, get_or-set_same, Bool, true, false, cond}
use Rattle.std.proofs.lemmas.List.{set-set, set-get_or}
use Rattle.sts_joiners.specs.Tallied.{ends_told, with_end}
use Rattle.sts_links.specs.Lists.{IsList, BecomesList}
use Rattle.sts_links.specs.declared.links.Link.{Link}
use Rattle.sts_links.specs.declared.links.Ends.{Ends}
use Rattle.sts_model.specs.declared.event.End.{End}
use Rattle.sts_tree.specs.Births.{births}
use Rattle.sts_tree.specs.Ending.{gone, told, told_in, ended, ended_in}
use Rattle.sts_tree.specs.Forest.{Forest, is_of, lives_in, Family, IsForest, ready_of}
use Rattle.sts_tree.specs.Steps.{with_task, with_scope}
use Rattle.sts_tree.specs.Stored.{tasks_of, link_at}
use Rattle.sts_tree.specs.declared.record.TaskNode.{TaskNode}
use Rattle.sts_tree.specs.declared.record.TaskRecord.{TaskRecord}
use Rattle.sts_tree.specs.declared.record.ScopeNode.{ScopeNode}
use Rattle.sts_tree.proofs.ForkLemmas.{stays_some}
use Rattle.sts_tree.proofs.HoldingLemmas.{inside_of}
use Rattle.sts_tree.proofs.Removing.{Ending, EndsIn, ends_in, fewer, spared}
use Rattle.sts_tree.proofs.StepLemmas.{at_set}
use Rattle.sts_joiners.proofs.TellLemmas.{one_told}

pub told_one : (at : ℕ → ℕ → Option Link) (tasks : List (Option TaskNode)) (families : List (Option Family)) (ready : Ends) (keys : List ℕ) (room s : ℕ) (f g : Family) → IsForest at tasks families ready keys room → get_or families s None ≡ Some f → g.forks ≡ f.forks → g.fork_count ≡ f.fork_count → g.living ≡ f.living → g.ends + length (births (lives_in s) 0 tasks) ≤ length (births (is_of s) 0 tasks) → IsForest at tasks (set families s (Some g)) ready keys room
told_one at tasks families ready keys room s f g i there forks count living fits =
    let counts = i.counts s f there in
    record {
      forks = at_set families s f g (λ r h. IsList (at 0) h.forks (births (is_of r) 0 tasks)) there (rw forks (i.forks s f there)) (λ r h ne q. i.forks r h q);
      living = at_set families s f g (λ r h. IsList (at 1) h.living (births (lives_in r) 0 tasks)) there (rw living (i.living s f there)) (λ r h ne q. i.living r h q);
      counts = at_set families s f g (λ r h. h.fork_count ≡ length (births (is_of r) 0 tasks)) there (count ∙ counts) (λ r h ne q. i.counts r h q);
      told = at_set families s f g (λ r h. h.ends + length (births (lives_in r) 0 tasks) ≤ h.fork_count) there (omega (arith, count, counts, fits)) (λ r h ne q. i.told r h q);
      is_ready = i.is_ready;
      flags = i.flags;
      homes = λ t r x is e. stays_some families s r f g there (i.homes t r x is e);
      few = i.few;
      born = i.born;
    }

-- a subtask has ended, and the joiner of its scope was told of it
pub tells_in : {slots new : List (Option TaskRecord)} {families : List (Option Family)} {ready : Ends} {room t s : ℕ} {r q : TaskRecord} {f : Family} (e : Ending slots families ready room t s r q f) (living : Ends) (h : Family) → BecomesList (link_at (set slots t (Some q))) (link_at new) 1 living ((fewer e).front ++ (fewer e).back) → tasks_of new ≡ tasks_of (set slots t (Some q)) → h.forks ≡ f.forks → h.fork_count ≡ f.fork_count → h.living ≡ living → h.ends ≤ f.ends + 1 → EndsIn slots new families ready room t s h q.task
tells_in {slots} {new} {families} {ready} {room} {t} {s} {r} {q} {f} e living h list tasks forks count same more =
    let g : Family = record f { living = living } in
    let a = ends_in e new living list tasks in
    let there : get_or (set families s (Some g)) s None ≡ Some g = get_or-set_same families s (Some g) None (inside_of families s (λ n. let no : Some f ≡ None = sym e.there ∙ n in cc)) in
    let fits = spared e in
    let told : h.ends + length (births (lives_in s) 0 (tasks_of new)) ≤ length (births (is_of s) 0 (tasks_of new)) = rw a.tasks (omega (arith, fits, more)) in
    let one = told_one (link_at new) (tasks_of new) (set families s (Some g)) ready (ready_of new ready) room s g h a.is there forks count same told in
    record { is = rw (set-set families s (Some g) (Some h)) at one; tasks = a.tasks; keys_are = a.keys_are }

module _ {E : Type 0} where
  pub one_more : (c d : ScopeNode E) (end : End) → d ≡ cond c.cancelled c (record c { tally = with_end c.tally end }) → ends_told d.tally ≤ ends_told c.tally + 1
  one_more c d end e = by c.cancelled e
    where
      by : (b : Bool) → d ≡ cond b c (record c { tally = with_end c.tally end }) → ends_told d.tally ≤ ends_told c.tally + 1
      by true q = rw q (omega arith)
      by false q = rw (q, one_told c.tally end) (omega arith)

  -- the whole value, from the task's state and the scope
  pub is_ended : (f : Forest E) (t s : ℕ) (x : TaskNode) (end : End) (state : Option End) (c d : ScopeNode E) → x.scope ≡ Some s → get_or f.scopes s None ≡ Some c → state ≡ cond c.cancelled x.state (Some end) → d ≡ cond c.cancelled c (record c { tally = with_end c.tally end }) → with_scope (with_task f t (record x { lives = false; state = state })) s d ≡ ended f t x end
  is_ended f t s x end state c d scope there state_is d_is =
      by c.cancelled refl ∙ sym (ap (λ o. ended_in f t x end o) scope ∙ ap (λ o. told_in f t x end s o) there)
    where
      by : (b : Bool) → c.cancelled ≡ b → with_scope (with_task f t (record x { lives = false; state = state })) s d ≡ told_in f t x end s (Some c)
      by true q =
          let m : state ≡ x.state = state_is ∙ (rw q refl) in
          let n : d ≡ c = d_is ∙ (rw q refl) in
          let kept : set f.scopes s (Some c) ≡ f.scopes = ap (λ o. set f.scopes s o) (sym there) ∙ set-get_or f.scopes s None in
          let e : with_scope (with_task f t (record x { lives = false; state = state })) s d ≡ gone f t x = rw (m, n, kept) refl in
          e ∙ (rw q refl)
      by false q =
          let m : state ≡ Some end = state_is ∙ (rw q refl) in
          let n : d ≡ record c { tally = with_end c.tally end } = d_is ∙ (rw q refl) in
          let e : with_scope (with_task f t (record x { lives = false; state = state })) s d ≡ told f t x end s c = rw (m, n) refl in
          e ∙ (rw q refl)
