use Rattle.std.proofs.Common.{rules, ◌<◌, ◌∙◌, length, refl, sym, ap, subst}
use Rattle.sts_types.specs.declared.arrival.Arrival.TheVariants.{One}
use Rattle.sts_types.specs.Arrivals.{IsMarked, arrival_of, state_of}
use Rattle.sts_types.proofs.Marking.{within_marks, read_at, marked_one, like_itself}
use Rattle.sts_types.proofs.arrivals.Arrivals.load.Goals as goal

pub index-requires : goal.index-requires
index-requires c =
    let within : c.args.place < length c.self.inside.marks.items = within_marks c.self.inside.kept.items c.self.inside.marks.items
    c.args.self.now.table c.args.place (ap (λ a. a.table) c.self.view_is) c.requires in
    search (rules, within)

pub come_to-requires-clause-mark : goal.come_to-requires-clause-mark
come_to-requires-clause-mark c =
    let within = within_marks c.self.inside.kept.items c.self.inside.marks.items c.args.self.now.table c.args.place
    (ap (λ a. a.table) c.self.view_is) c.requires in
    marked_one c.self.inside.kept.items c.as_slice.result.now c.self.inside.marks.items c.args.place c.index.result.now c.in-One.mark
    c.as_slice.ensures.value c.self.invariant.0 within c.index.ensures c.in-One.is

pub invariant_of-self : goal.invariant_of-self
invariant_of-self c =
    let kept = c.self.inside.kept.items in
    let within =
    within_marks kept c.self.inside.marks.items c.args.self.now.table c.args.place (ap (λ a. a.table) c.self.view_is) c.requires in
    let marked : IsMarked (length kept) (One c.in-One.mark) = marked_one kept kept c.self.inside.marks.items c.args.place c.index.result.now
    c.in-One.mark refl c.self.invariant.0 within c.index.ensures c.in-One.is in (
      c.self.invariant.0,
      subst (λ n. n < length kept) (sym c.come_to.ensures.like) marked.0,
      like_itself kept c.as_slice.result.now c.come_to.new.state c.come_to.new.like c.in-One.mark c.as_slice.ensures.value
          c.come_to.ensures.state c.come_to.ensures.like,
      marked,
    )

pub returns-in-Nothing-clause-loaded : goal.returns-in-Nothing-clause-loaded
returns-in-Nothing-clause-loaded c =
    read_at c.self.inside.kept.items c.self.inside.marks.items c.args.self.now.table c.args.place c.index.result.now
    (ap (λ a. a.table) c.self.view_is) c.requires c.index.ensures
    ∙ ap (arrival_of c.self.inside.kept.items) c.in-Nothing.is

pub returns-in-Several-clause-loaded : goal.returns-in-Several-clause-loaded
returns-in-Several-clause-loaded c =
    read_at c.self.inside.kept.items c.self.inside.marks.items c.args.self.now.table c.args.place c.index.result.now
    (ap (λ a. a.table) c.self.view_is) c.requires c.index.ensures
    ∙ ap (arrival_of c.self.inside.kept.items) c.in-Several.is

pub returns-in-One-clause-loaded : goal.returns-in-One-clause-loaded
returns-in-One-clause-loaded c =
    read_at c.self.inside.kept.items c.self.inside.marks.items c.args.self.now.table c.args.place c.index.result.now
    (ap (λ a. a.table) c.self.view_is) c.requires c.index.ensures
    ∙ ap (arrival_of c.self.inside.kept.items) c.in-One.is
    ∙ ap (λ l. One (state_of l c.in-One.mark)) (sym c.as_slice.ensures.value)
    ∙ ap One (sym c.come_to.ensures.state)
