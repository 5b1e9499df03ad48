use Rattle.std.proofs.Common.{sym, ◌∙◌}
use Rattle.look_calls.proofs.walk.with_event.Goals as goal

pub returns-in_ok-more : goal.returns-in_ok-more
returns-in_ok-more c = record {
  comes = sym c.can_come.ensures ∙ c.if-can_come.true;
  leads = c.in_ok-more.ensures.leads;
  trace = c.in_ok-more.ensures.trace;
}
