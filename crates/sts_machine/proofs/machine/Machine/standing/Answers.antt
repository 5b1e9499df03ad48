use Rattle.std.proofs.Common.{◌≡◌, ◌∙◌, ap, subst, arith}
use Rattle.laws_accepted.specs.Views.{BindingsAreSeen}
use Rattle.sts_machine.specs.Machine.{Seen}
use Rattle.sts_machine.specs.Numbers.{standing_of}
use Rattle.sts_machine.specs.Room.{HasRoomOf}
use Rattle.sts_machine.specs.declared.standing.Standing.{Standing}
use Rattle.sts_machine.proofs.Telling.{KnowsRoom, room_by, rest_of, taken_off, add_up, standing_there}
use Rattle.sts_machine.proofs.machine.Machine.standing.Goals as goal
use Rattle.sts_machine.proofs.machine.Machine.standing.Goals.{After-main_budgets-budgets, After-room-room}

-- the room by the budgets, and the numbers that it leaves
left : (c : After-main_budgets-budgets) → HasRoomOf c.main_budgets-budgets.result c.args.self.now.live c.args.self.now.unseen
left c = room_by _ c.args.self.now c.self.view_is c.self.invariant.room c.main_budgets-budgets.result c.main_budgets-budgets.ensures

rest : (c : After-room-room) → rest_of c.main_budgets-budgets.result c.room-room.result ≡ standing_of c.args.self.now.live
rest c =
    ap (rest_of c.main_budgets-budgets.result) c.room-room.ensures
    ∙ taken_off c.main_budgets-budgets.result c.args.self.now.live c.args.self.now.unseen (left (goal.at.After-room-room c).After-main_budgets-budgets)

pub overflow_sub-result : goal.overflow_sub-result
overflow_sub-result c =
    let all = (left (goal.at.overflow_sub-result c).After-main_budgets-budgets).tasks in
    omega (arith, all, ap (λ (r : Standing). r.tasks) c.room-room.ensures)

pub overflow_sub-result-2 : goal.overflow_sub-result-2
overflow_sub-result-2 c =
    let all = (left (goal.at.overflow_sub-result-2 c).After-main_budgets-budgets).scopes in
    omega (arith, all, ap (λ (r : Standing). r.scopes) c.room-room.ensures)

pub overflow_sub-result-3 : goal.overflow_sub-result-3
overflow_sub-result-3 c =
    let all = (left (goal.at.overflow_sub-result-3 c).After-main_budgets-budgets).binds in
    omega (arith, all, ap (λ (r : Standing). r.binds) c.room-room.ensures)

pub returns-clause-seen : goal.returns-clause-seen
returns-clause-seen c = rest (goal.at.returns-clause-seen c).After-room-room

pub returns-clause-stands : goal.returns-clause-stands
returns-clause-stands c =
    let m = c.args.self.now in
    let bindings = subst (λ (s : Seen). BindingsAreSeen s.program) c.self.view_is c.bindings_are_seen.ensures in
    λ events h.
    standing_there m.program events m.live m.steps h c.standing_is_seen.ensures bindings (rest_of c.main_budgets-budgets.result c.room-room.result)
    (rest (goal.at.returns-clause-stands c).After-room-room)

pub returns-clause-adds_up : goal.returns-clause-adds_up
returns-clause-adds_up c =
    let m = c.args.self.now in
    let room : KnowsRoom m = subst KnowsRoom c.self.view_is c.self.invariant.room in
    λ budget is.
    add_up budget m.live m.unseen (rest_of c.main_budgets-budgets.result c.room-room.result)
    (rest (goal.at.returns-clause-adds_up c).After-room-room) (room budget is)
