use Rattle.std.proofs.Common.{rules, arith, get_or, ◌≡◌, ◌<◌, ◌∙◌, ℕ, List, length, map, slice_get, slice_set, Some, subst, sym, ap}
use Rattle.sts_rules.specs.Edges.{follows}
use Rattle.sts_rules.specs.TypeState.{TypeState}
use Rattle.sts_types.specs.declared.arrival.Arrival.TheVariants.{One}
use Rattle.sts_types.specs.Arrivals.{ArriveAt, IsMarked, arrival_of, state_of}
use Rattle.sts_types.proofs.Arriving.{place_within}
use Rattle.sts_types.proofs.Marking.{more_kept, mark_holds, marks_hold, arrived, goes_there, within_marks, marked_there, longer_kept, same_kept, kept_itself}
use Rattle.sts_types.proofs.arrivals.Arrivals.arrive_along.Goals.{In-Some, After-keep}
use Rattle.sts_types.proofs.arrivals.Arrivals.arrive_along.Goals as goal

-- the edges of the instruction
abbrev edges : In-Some → List (ℕ × TypeState)
edges c = follows c.args.site.now.program.now c.args.site.now.loops.now c.args.site.now.pc c.args.site.now.instr c.args.self.now.state

-- the typestate went along the edge of this number
there : (c : In-Some) → slice_get (edges c) c.args.number ≡ Some (c.in-Some.to, c.edge.new.state)
there c =
    let at = c.args.site.now in
    let out = λ (s : TypeState). slice_get (follows at.program.now at.loops.now at.pc at.instr s) c.args.number in
    ap out (sym (ap (λ a. a.state) c.self.view_is))
    ∙ goes_there (out c.self.inside.state) c.self.inside.state c.edge.result c.edge.new.state c.in-Some.to c.edge.ensures c.in-Some.is

-- its end is a place of the table, and has a mark
in_table : (c : In-Some) → c.in-Some.to < length c.args.self.now.table
in_table c = place_within (edges c) c.args.number c.in-Some.to (length c.args.self.now.table) c.edge.new.state (there c) c.requires.places

within : (c : In-Some) → c.in-Some.to < length c.self.inside.marks.items
within c = within_marks c.self.inside.kept.items c.self.inside.marks.items c.args.self.now.table c.in-Some.to (ap (λ a. a.table) c.self.view_is) (in_table c)

-- where the pass started stays the same
start_kept : (c : After-keep) → state_of c.keep.new.kept.items c.self.inside.start ≡ c.args.self.now.start
start_kept c =
    same_kept c.self.inside.kept.items c.keep.ensures.more.0 c.keep.new.kept.items c.self.inside.start c.keep.ensures.more.1 c.self.invariant.3.0
    ∙ ap (λ a. a.start) c.self.view_is

pub invariant_of-self-in-Some : goal.invariant_of-self-in-Some
invariant_of-self-in-Some c =
    let kept = c.self.inside.kept.items in
    let now = c.keep.new.kept.items in
    let more = c.keep.ensures.more in (
      marks_hold kept more.0 now c.self.inside.marks.items c.in-Some.to c.merged.result more.1 c.self.invariant.0
          (subst (λ l. IsMarked (length l) c.merged.result) c.as_slice.ensures.value c.merged.ensures.marked),
      c.in-Ok.ensures.like.0,
      sym c.in-Ok.ensures.like.1,
      mark_holds kept more.0 now (One c.self.inside.start) more.1 c.self.invariant.3,
    )

pub returns-in-Ok-clause-table : goal.returns-in-Ok-clause-table
returns-in-Ok-clause-table c =
    let h = goal.at.returns-in-Ok-clause-table c in
    let now = c.keep.new.kept.items in
    let marks = c.self.inside.marks.items in
    let more = c.keep.ensures.more in
    let view : map (arrival_of now) marks ≡ c.args.self.now.table =
    ap (λ l. map (arrival_of l) marks) more.1 ∙ more_kept c.self.inside.kept.items more.0 marks c.self.invariant.0 ∙ ap (λ a. a.table) c.self.view_is in
    let same = ap (λ h. state_of now (record { height = h; like = c.in-Ok.like })) c.height-height.ensures.value ∙ c.in-Ok.ensures.like.1 in
    subst (λ o. ArriveAt c.args.self.now.table o (map (arrival_of now) (slice_set marks c.in-Some.to c.merged.result))) (sym (there h.In-Some))
    (arrived now c.as_slice.result.now marks c.args.self.now.table c.in-Some.to c.index-in-Some.result.now c.merged.result _ c.edge.new.state
    c.as_slice.ensures.value view (in_table h.In-Some) c.index-in-Some.ensures same c.merged.ensures.merged)

pub keep-requires-clause-near : goal.keep-requires-clause-near
keep-requires-clause-near c = c.near-near.ensures (length c.self.inside.kept.items) c.self.invariant.0 c.self.invariant.1

pub index-requires-in-Some : goal.index-requires-in-Some
index-requires-in-Some c = let lt = within (goal.at.index-requires-in-Some c).In-Some in search (rules, lt)

pub index_mut-requires : goal.index_mut-requires
index_mut-requires c = let lt = within (goal.at.index_mut-requires c).In-Some in search (rules, lt)

pub merged-requires-clause-before : goal.merged-requires-clause-before
merged-requires-clause-before c =
    marked_there c.self.inside.kept.items c.keep.ensures.more.0 c.keep.new.kept.items c.as_slice.result.now c.self.inside.marks.items
    c.in-Some.to c.index-in-Some.result.now c.keep.ensures.more.1 c.as_slice.ensures.value c.self.invariant.0 (within
    (goal.at.merged-requires-clause-before c).In-Some)
    c.index-in-Some.ensures

pub near-near-requires : goal.near-near-requires
near-near-requires c = within (goal.at.near-near-requires c).In-Some

pub index-requires : goal.index-requires
index-requires c =
    let more = c.keep.ensures.more in
    let within : c.self.inside.like < length c.keep.new.kept.items =
    omega (arith, c.self.invariant.1, longer_kept c.self.inside.kept.items more.0 c.keep.new.kept.items more.1) in
    search (rules, within)

pub invariant_of-self : goal.invariant_of-self
invariant_of-self c =
    let kept = c.self.inside.kept.items in
    let now = c.keep.new.kept.items in
    let more = c.keep.ensures.more in
    let within : c.self.inside.like < length now = omega (arith, c.self.invariant.1, longer_kept kept more.0 now more.1) in (
      λ k d lt. mark_holds kept more.0 now (get_or c.self.inside.marks.items k d) more.1 (c.self.invariant.0 k d lt),
      within,
      kept_itself now c.self.inside.like c.index.result.now c.copy_from.new.self within c.index.ensures c.copy_from.ensures,
      mark_holds kept more.0 now (One c.self.inside.start) more.1 c.self.invariant.3,
    )

pub returns-in-Err-clause-start : goal.returns-in-Err-clause-start
returns-in-Err-clause-start c = start_kept (goal.at.returns-in-Err-clause-start c).After-keep

pub returns-in-Ok-clause-start : goal.returns-in-Ok-clause-start
returns-in-Ok-clause-start c = start_kept (goal.at.returns-in-Ok-clause-start c).After-keep
