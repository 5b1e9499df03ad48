use Rattle.look_views.proofs.frames.frame.Goals as goal

pub returns : goal.returns
returns c =
    let one = c.with_list-shown.ensures _ _ c.object_of.ensures c.bound.ensures in
    let locals = rw c.frame-frame.ensures at c.integers.ensures in
    let two = c.with_list-shown-2.ensures _ _ one locals in
    let operands = rw (c.as_slice.ensures, c.frame-frame.ensures) at c.operands.ensures in
    c.with_list.ensures _ _ two operands
