use Rattle.std.specs.String.{string_bytes}
use Rattle.look_refusal.specs.Differences.{way_words}
use Rattle.look_refusal.proofs.PartLemmas.{none_said, slot_said}
use Rattle.look_refusal.proofs.differences.Compared.write_slots.Goals as goal

pub loop-slot-init : goal.loop-slot-init
loop-slot-init c =
    let t = c.args.self.now in
    let m = t.meeting.now in
    none_said m (way_words t m.one) (way_words t m.other) (string_bytes c.args.out.now)

pub loop-slot-preserved : goal.loop-slot-preserved
loop-slot-preserved c =
    let l = c.loop-slot in
    let t = c.args.self.now in
    let m = t.meeting.now in
    slot_said m (way_words t m.one) (way_words t m.other) l.slot (string_bytes c.args.out.now) (string_bytes l.out)
    (string_bytes c.write_difference.new.out) l.invariant c.in_ok-write_difference.ensures
