use Rattle.std.specs.String.{string_bytes}
use Rattle.std.proofs.lemmas.Result.{on_ok_weaker}
use Rattle.look_refusal.specs.Differences.{way_words}
use Rattle.look_refusal.proofs.PartLemmas.{all_said}
use Rattle.look_refusal.proofs.differences.Compared.write_differences.Goals as goal

pub returns : goal.returns
returns c =
    let t = c.args.self.now in
    let m = t.meeting.now in
    on_ok_weaker c.write_slots.result
    (all_said m (way_words t m.one) (way_words t m.other) (string_bytes c.args.out.now) (string_bytes c.write_difference.new.out)
    (string_bytes c.write_difference-2.new.out) (string_bytes c.write_difference-3.new.out) (string_bytes c.write_slots.new.out)
    c.in_ok-write_difference.ensures c.in_ok-write_difference-2.ensures c.in_ok-write_difference-3.ensures) c.write_slots.ensures
