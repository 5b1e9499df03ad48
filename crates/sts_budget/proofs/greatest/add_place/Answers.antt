use Rattle.std.proofs.Common.{◌≡◌, ◌<◌, ◌+◌, pos, ℕ, get_or, length, ap, ◌∙◌, arith}
use Rattle.sts_code.specs.declared.instr.Instr.TheVariants.{Push, Ret, Times}
use Rattle.sts_code.specs.Program.{instr_at}
use Rattle.sts_rules.specs.Budget.{skeleton, shape_of}
use Rattle.sts_budget.specs.Change.{depth_of, own_step}
use Rattle.sts_budget.specs.Handing.{base_of, bases_after}
use Rattle.sts_budget.specs.Last.{sum_at}
use Rattle.sts_budget.specs.Ready.{end_in, names_in}
use Rattle.sts_budget.specs.Table.{read}
use Rattle.std.proofs.lemmas.List.{get_or_default}
use Rattle.sts_budget.proofs.LastTurns.{head_small, full_is, over, topped_next, limit_small, base_small}
use Rattle.sts_budget.proofs.greatest.add_place.Goals.{After-sum_at, After-turn_end-end, After-open_loop}
use Rattle.sts_budget.proofs.greatest.add_place.Goals as goal

-- the greatest sum of the place
sum_is : (g : _) (c : After-sum_at g) → c.base_at.result + c.sum_at.result ≡ sum_at c.args.pass.now.resource c.args.pass.now.earlier.now c.args.pass.now.code.now c.args.pass.now.layout.now c.args.best.now c.args.pc
sum_is g c =
    let p = c.args.pass.now in
    let row : c.sum_at.result ≡ read c.args.best.now c.args.pc (depth_of p.resource (names_in p.layout.now c.args.pc)) = c.sum_at.ensures ∙ ap (λ d. read c.args.best.now c.args.pc d) c.requires.depth in
    ap (λ b. b + c.sum_at.result) (c.base_at.ensures ∙ ap (λ xs. base_of xs c.args.head) c.as_slice.ensures.value) ∙ ap (λ r. base_of c.args.top.now.bases.items c.args.head + r) row
    ∙ full_is p.resource p.earlier.now p.code.now p.layout.now c.requires.ready c.args.best.now c.requires.whole c.args.pc c.requires.in_code c.args.top.now.bases.items c.requires.so_far.0 c.args.head _ c.requires.head

pub base_at-requires : goal.base_at-requires
base_at-requires g c =
    let h = head_small c.args.pass.now.resource c.args.pass.now.earlier.now c.args.pass.now.code.now c.args.pass.now.layout.now
    c.requires.ready c.args.best.now c.requires.whole c.args.pc c.requires.in_code c.args.top.now.bases.items c.requires.so_far.0
    c.args.head _ c.requires.head in
    rw c.as_slice.ensures.value h

pub sum_at-requires : goal.sum_at-requires
sum_at-requires g c =
    let depth : c.args.depth ≡ depth_of c.args.pass.now.resource (names_in c.args.pass.now.layout.now c.args.pc) = c.requires.depth in
    let fits = c.requires.fits c.args.pc in
    (omega (arith, c.requires.small), (omega (arith, c.requires.whole.long, c.requires.in_code), omega arith))

pub overflow_add-full : goal.overflow_add-full
overflow_add-full g c =
    let base : c.base_at.result ≡ base_of c.args.top.now.bases.items c.args.head =
    c.base_at.ensures ∙ ap (λ xs. base_of xs c.args.head) c.as_slice.ensures.value in
    let low = base_small c.args.top.now.bases.items c.args.head c.requires.so_far.0.small in
    omega (arith, c.sum_at.type_inv)

pub returns-then-full-pass-clause-over : goal.returns-then-full-pass-clause-over
returns-then-full-pass-clause-over g c = λ t.
    (let p = c.args.pass.now in
    let full = sum_is g (goal.at.returns-then-full-pass-clause-over g c).After-sum_at in
    over p.resource p.earlier.now p.code.now p.layout.now c.requires.ready c.args.best.now c.requires.whole c.args.pc _ c.requires.in_code
    (omega arith))

pub turn_end-end-requires : goal.turn_end-end-requires
turn_end-end-requires g c =
    let p = c.args.pass.now in
    let depth : c.args.depth ≡ depth_of p.resource (names_in p.layout.now c.args.pc) = c.requires.depth in
    let fits = c.requires.fits c.args.pc in
    let inside : (n : ℕ) → instr_at p.code.now c.args.pc ≡ Times n → end_in p.layout.now c.args.pc < length c.args.best.now =
    λ n t. (let lp = c.requires.ready.good.loop c.args.pc n (ap (shape_of c.args.pc) t) in
    omega (arith, lp.2, c.requires.ready.ends c.args.pc n t, c.requires.whole.long)) in
    (omega (arith, c.requires.small), (c.requires.in_code, (omega (arith, c.requires.ready.ends_long), (inside, omega arith))))

-- the sum at the end of a turn of a loop that opens there
turn_is : (g : _) (c : After-turn_end-end g) (n : ℕ) → instr_at c.args.pass.now.code.now c.args.pc ≡ Times n → (n < 65536) × (c.turn_end-end.result ≡ read c.args.best.now ((skeleton c.args.pass.now.earlier.now c.args.pass.now.code.now).mate c.args.pc) (depth_of c.args.pass.now.resource (names_in c.args.pass.now.layout.now c.args.pc)))
turn_is g c n t =
    let p = c.args.pass.now in (
      c.requires.ready.turns c.args.pc n t,
      c.turn_end-end.ensures n t ∙ ap (λ q. read c.args.best.now q c.args.depth) (c.requires.ready.ends c.args.pc n t)
          ∙ ap (λ d. read c.args.best.now ((skeleton p.earlier.now p.code.now).mate c.args.pc) d) c.requires.depth,
    )

-- the bases afterwards
bases_are : (g : _) (c : After-open_loop g) → c.open_loop.new.bases.items ≡ bases_after (instr_at c.args.pass.now.code.now c.args.pc) c.args.pc (own_step c.args.pass.now.resource) (c.base_at.result + c.sum_at.result) c.turn_end-end.result c.args.top.now.bases.items
bases_are g c =
    let code = c.args.pass.now.code.now in
    let full = c.base_at.result + c.sum_at.result in
    let instr : get_or code c.args.pc (Push (pos 0)) ≡ instr_at code c.args.pc = get_or_default code c.args.pc _ Ret c.requires.in_code in
    c.open_loop.ensures ∙ ap (λ i. bases_after i c.args.pc c.own_step.result full c.turn_end-end.result c.args.top.now.bases.items) instr
    ∙ ap (λ o. bases_after (instr_at code c.args.pc) c.args.pc o full c.turn_end-end.result c.args.top.now.bases.items) c.own_step.ensures

pub returns-clause-next : goal.returns-clause-next
returns-clause-next g c = λ yes.
    (let h = goal.at.returns-clause-next g c in
    let p = c.args.pass.now in
    let small : p.most < 4294967296 = omega (arith, c.requires.most, limit_small p.resource) in
    topped_next p.resource p.earlier.now p.code.now p.layout.now c.requires.ready c.args.best.now c.requires.whole c.args.pc _ c.turn_end-end.result p.most
    c.args.top.now.bases.items c.open_loop.new.bases.items c.args.top.now.greatest _ c.requires.in_code c.requires.so_far (sum_is g h.After-sum_at)
    c.if-full-pass.false small c.turn_end-end.type_inv (turn_is g h.After-turn_end-end) (bases_are g h.After-open_loop) c.max-top.ensures)
