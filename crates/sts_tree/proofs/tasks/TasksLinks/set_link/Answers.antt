use Rattle.std.proofs.Common.{◌≡◌, ◌≢◌, ℕ, ◌<◌, List, Bool, true, false, cond, Option, Some, None, refl, sym, ◌∙◌, ap, arith, set, get_or, get_or-set_same, get_or-set_other, nat_eq, nat_lt}
use Rattle.std.proofs.lemmas.Bool.Decides.{nat_tests}
use Rattle.sts_links.specs.declared.links.Link.{Link}
use Rattle.sts_tree.specs.declared.record.TaskRecord.{TaskRecord}
use Rattle.sts_tree.proofs.HoldingLemmas.{inside_of, unseen}
use Rattle.sts_tree.specs.Stored.{link_at, link_of, no_link, task_of}
use Rattle.sts_tree.proofs.tasks.TasksLinks.set_link.Goals as goal

pub returns-clause-rest : goal.returns-clause-rest
returns-clause-rest c = record
    { tasks = unseen task_of c.args.self.now.held.slots c.args.key c.at.result.now _ c.at.ensures.value refl; keys = refl; room = refl }

in_layers : (l : ℕ) (o : Option TaskRecord) → link_of l o ≢ None → l < 3
in_layers l None h = absurd (h refl)
in_layers l (Some r) h = by (nat_lt l 3) refl
  where
    by : (b : Bool) → nat_lt l 3 ≡ b → l < 3
    by true q = grind (arith, nat_tests)
    by false q = absurd (h (rw q refl))

-- the link of another key, or in another layer
other : (slots : List (Option TaskRecord)) (key layer m j : ℕ) (r : TaskRecord) (link : Link) → get_or slots key None ≡ Some r → (m ≡ layer → j ≢ key) → link_at (set slots key (Some (record r { links = set r.links layer link }))) m j ≡ link_at slots m j
other slots key layer m j r link at apart = by (nat_eq j key) refl
  where
    by : (b : Bool) → nat_eq j key ≡ b → link_at (set slots key (Some (record r { links = set r.links layer link }))) m j ≡ link_at slots m j
    by true q =
        let same : j ≡ key = grind (arith, nat_tests) in
        let inside = inside_of slots key (λ n. let no : Some r ≡ None = sym at ∙ n in cc) in
        rw same (
        ap (link_of m) (get_or-set_same slots key (Some (record r { links = set r.links layer link })) None inside)
        ∙ ap (λ (x : Link). cond (nat_lt m 3) (Some x) None) (get_or-set_other r.links layer m link no_link (λ e. apart e same))
        ∙ ap (link_of m) (sym at)
        )
    by false q =
        let ne : j ≢ key = grind (arith, nat_tests) in
        ap (link_of m) (get_or-set_other slots key j (Some (record r { links = set r.links layer link })) None ne)

pub at-requires : goal.at-requires
at-requires c none = c.requires (ap (link_of c.args.layer) none)

pub bounds-at-layer : goal.bounds-at-layer
bounds-at-layer c = in_layers c.args.layer (get_or c.args.self.now.held.slots c.args.key None) c.requires

pub returns-clause-others : goal.returns-clause-others
returns-clause-others c m j apart = other c.args.self.now.held.slots c.args.key c.args.layer m j c.at.result.now c.args.link c.at.ensures.value apart
