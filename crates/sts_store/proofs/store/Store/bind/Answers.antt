use Rattle.std.proofs.Common.{◌+◌, ◌<◌, ◌^◌, ◌∷◌, length, ap, ◌∙◌, rules, w64}
use mir.Val.{SFits}
use Rattle.std.proofs.lemmas.Int.{to_z-of_z}
use Rattle.sts_env.specs.Environments.{list_of}
use Rattle.sts_model.specs.Local.{operand}
use Rattle.sts_model.specs.declared.record.Frame.{Frame}
use Rattle.sts_store.specs.contracts.store.Store.{the_view}
use Rattle.sts_store.specs.declared.running.Running.{Running}
use Rattle.sts_store.proofs.BindingLemmas.{whole_here, bound_store, bound_live}
use Rattle.sts_store.proofs.Writing.{hand_of, living, has_frame, at_hand}
use Rattle.sts_store.proofs.store.Store.bind.Goals as goal

pub at-running-requires : goal.at-running-requires
at-running-requires c = has_frame (living (the_view c.self.inside) c.args.self.now c.self.invariant c.self.view_is c.args.t c.requires.lives)

pub bind-running-requires-clause-whole : goal.bind-running-requires-clause-whole
bind-running-requires-clause-whole c =
    whole_here (the_view c.self.inside) c.self.invariant c.args.t c.at-running.result.now c.at-running.result.now c.self.inside.chains
    c.at-running.ensures.value

pub enter_binding-requires-clause-more : goal.enter_binding-requires-clause-more
enter_binding-requires-clause-more c =
    let h = hand_of c.self.invariant c.self.view_is c.args.t c.requires.lives c.at-running.ensures.value in
    at_hand h (λ f. f.pc + 1 < 2 ^ 32) c.requires.more

pub enter_binding-requires-clause-room : goal.enter_binding-requires-clause-room
enter_binding-requires-clause-room c =
    let h = hand_of c.self.invariant c.self.view_is c.args.t c.requires.lives c.at-running.ensures.value in
    at_hand h (λ f. length f.entries < 16) c.requires.entries

pub invariant_of-self : goal.invariant_of-self
invariant_of-self c =
    let q : Running = record { frame = c.enter_binding.new.frame; env = c.bind-running.result } in
    bound_store (the_view c.self.inside) c.self.invariant c.args.t c.at-running.result.now q c.bind-running.new.self c.at-running.ensures.value
    c.args.key (operand c.at-running.result.now.frame 0)
    c.bind-running.ensures.whole c.bind-running.ensures.puts c.bind-running.ensures.others
    (ap (λ (f : Frame). f.entries) c.enter_binding.ensures)

pub returns-clause-live : goal.returns-clause-live
returns-clause-live c =
    let h = hand_of c.self.invariant c.self.view_is c.args.t c.requires.lives c.at-running.ensures.value in
    let q : Running = record { frame = c.enter_binding.new.frame; env = c.bind-running.result } in
    let fits : SFits w64 c.operand-value.result = search rules in
    let value = to_z-of_z w64 c.operand-value.result fits ∙ c.operand-value.ensures in
    bound_live (the_view c.self.inside) c.self.invariant c.args.t c.at-running.result.now q c.bind-running.new.self c.at-running.ensures.value
    c.args.self.now h c.args.key c.enter_binding.ensures
    (c.bind-running.ensures.list
    ∙ ap (λ v. record { key = c.args.key; value = v } ∷ list_of c.self.inside.chains c.at-running.result.now.env) value)
    c.bind-running.ensures.others
