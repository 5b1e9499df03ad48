use Rattle.std.proofs.Common.{◌≡◌, ◌∙◌, sym, length, false, arith}
use Rattle.std.specs.List.{list_any}
use Rattle.ends_plain.specs.Listed.{is_faulty}
use Rattle.ends_plain.proofs.ListedLemmas.{sound, all_listed, none_of}
use Rattle.ends_plain.proofs.exploration.Exploration.ends.Goals.{then-is_closed+then-self, then-is_closed+else-self, else-is_closed}
use Rattle.ends_plain.proofs.exploration.Exploration.ends.Goals as goal

pub list-requires : goal.list-requires
list-requires c = c.self.invariant.space

pub returns-clause-sound : goal.returns-clause-sound
returns-clause-sound c =
    let x = c.self.inside in
    rw (← c.self.view_is) (sound x.asked.setting x.space.first c.in_ok-found.found.items c.self.invariant.begins c.in_ok-found.ensures.shown)

pub returns-clause-complete : goal.returns-clause-complete
returns-clause-complete c whole =
    let x = c.self.inside in
    let found = c.in_ok-found.found.items in
    let all = λ (over : x.space.closed ≡ length x.space.origins.items) (calm : x.asked.exact ≡ false → list_any is_faulty found ≡ false).
    all_listed x.asked _ _ _ _ _ found c.self.invariant over c.in_ok-found.ensures.all calm in
    rw (← c.self.view_is)
    (elim c.if-is_closed.branch [
      | then-is_closed+then-self w ↦ all (grind arith) (λ loose. cc)
      | then-is_closed+else-self w ↦ all (grind arith) (λ loose.
          none_of found w.as_slice.result.now w.has_fault.result w.as_slice.ensures.value w.has_fault.ensures (sym w.whole-is ∙ whole))
      | else-is_closed w ↦ cc
    ])
