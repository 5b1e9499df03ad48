use Rattle.sts_world.proofs.Outcomes.{cancel_born, cancel_lives, cancel_more, close_waits, close_ends}
use Rattle.sts_world.proofs.world.World.close.Goals as goal

pub end_close-requires-clause-born : goal.end_close-requires-clause-born
end_close-requires-clause-born c = cancel_born c.args.self.now c.cancel.new.self c.args.s c.args.t c.cancel.ensures c.requires.born

pub end_close-requires-clause-lives : goal.end_close-requires-clause-lives
end_close-requires-clause-lives c = cancel_lives c.args.self.now c.cancel.new.self c.args.s c.args.t c.cancel.ensures c.requires.lives

pub end_close-requires-clause-more : goal.end_close-requires-clause-more
end_close-requires-clause-more c = cancel_more c.args.self.now c.cancel.new.self c.args.s c.args.t c.cancel.ensures c.requires.more

pub returns-then-any_lives : goal.returns-then-any_lives
returns-then-any_lives c = close_waits c.args.self.now c.cancel.new.self c.set_phase.new.self c.args.t c.args.s _ c.cancel.ensures (cc) c.set_phase.ensures

pub returns-else-any_lives : goal.returns-else-any_lives
returns-else-any_lives c = close_ends c.args.self.now c.cancel.new.self c.end_close.new.self c.args.t c.args.s c.cancel.ensures (cc) c.end_close.ensures
