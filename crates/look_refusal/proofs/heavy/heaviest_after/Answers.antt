use Rattle.std.proofs.lemmas.Result.{IfOk-weaker}
use Rattle.sts_budget.proofs.ReadyLemmas.{is_typed_ready}
use Rattle.look_refusal.proofs.PointLemmas.{of_typed, on_paths}
use Rattle.look_refusal.proofs.heavy.heaviest_after.Goals as goal

pub heaviest_found-requires-clause-ready : goal.heaviest_found-requires-clause-ready
heaviest_found-requires-clause-ready c = is_typed_ready c.args.program.now c.args.function c.args.earlier.now c.code_of-code.result.now
    c.lay_out-layout.result c.in_ok-typing.typing c.code_of-code.ensures.checked c.requires.in_program c.requires.long
    c.code_of-code.ensures.value c.lay_out-layout.ensures.typing (c.in_ok-typing.ensures {u = tt}) c.lay_out-layout.ensures.deepest

pub heaviest_found-requires-clause-lie : goal.heaviest_found-requires-clause-lie
heaviest_found-requires-clause-lie c = on_paths c.args.program.now c.args.function c.args.earlier.now c.code_of-code.result.now
    c.code_of-code.ensures.checked c.requires.in_program c.requires.typed c.code_of-code.ensures.value

pub returns : goal.returns
returns c =
    IfOk-weaker c.heaviest_found.result _ _
    (of_typed (record {
      resource = c.args.resource;
      earlier = c.args.earlier;
      code = c.code_of-code.result;
      layout = record { ref_ptr = _; now = c.lay_out-layout.result };
    })
    c.args.program.now c.args.function c.in_ok-typing.typing c.code_of-code.ensures.checked c.requires.in_program c.requires.long c.requires.right
    c.code_of-code.ensures.value c.lay_out-layout.ensures.typing (c.in_ok-typing.ensures {u = tt}) c.lay_out-layout.ensures.deepest)
    c.heaviest_found.ensures
