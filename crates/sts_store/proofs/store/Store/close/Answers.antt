use Rattle.std.proofs.Common.{◌∙◌, sym, ap}
use Rattle.laws_live.specs.Effect.{live_closed}
use Rattle.laws_live.specs.Reading.{alive_at, live_any_lives}
use Rattle.sts_store.specs.Parts.{live_of, frame_of}
use Rattle.sts_store.proofs.CloseLemmas.{close_begins, close_ends}
use Rattle.sts_store.proofs.store.Store.close.Goals as goal

pub returns-then-any_lives-clause-live : goal.returns-then-any_lives-clause-live
returns-then-any_lives-clause-live c =
    let now = c.args.self.now in
    c.begin_close.ensures.live ∙ sym (close_begins (live_of now) c.args.t (frame_of now c.args.t) c.args.s (sym c.any_lives.ensures ∙ c.if-any_lives.true))

pub take_out-requires-clause-ended : goal.take_out-requires-clause-ended
take_out-requires-clause-ended c = ap (λ v. live_any_lives v c.args.s) c.stand.ensures.live ∙ sym c.any_lives.ensures ∙ c.if-any_lives.false

pub returns-else-any_lives-clause-live : goal.returns-else-any_lives-clause-live
returns-else-any_lives-clause-live c =
    let now = c.args.self.now in
    c.take_out.ensures.live
    ∙ ap (λ v. live_closed v c.args.t (alive_at v c.args.t).frame c.args.s) c.stand.ensures.live
    ∙ sym (close_ends (live_of now) c.args.t (frame_of now c.args.t) c.args.s (sym c.any_lives.ensures ∙ c.if-any_lives.false))
