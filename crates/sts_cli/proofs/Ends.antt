-- The output for the bytes that were read.
use Rattle.std.proofs.Common.{List, [], ℕ, Option, inl, inr}
use Rattle.sts_output.specs.Joined.{halves_of}
use Rattle.sts_output.specs.Output.{Output, IsOutputOf}
use Rattle.sts_output.specs.Taking.{IsTakenOf}
use Rattle.sts_cli.specs.Ending.{IsOfText, IsOfTextAndTrace, IsOfInput, shown, failed}
use Rattle.sts_output.specs.Streams.{most_of_a_text, most_of_a_stream}
use Rattle.sts_output.specs.declared.mode.Mode.{Mode}
use Rattle.sts_output.specs.declared.mode.Mode.TheVariants as mode
use Rattle.sts_output.specs.declared.taking.TakeError.TheVariants.{Memory}

pub of_text : (m : Mode) (file : Option (List ℕ)) (text : List ℕ) (o : Output) → IsTakenOf file most_of_a_text text → IsOutputOf m text [] o → IsOfText m file o
of_text m file text o taken (inl shows) = shown text taken shows
of_text m file text o taken (inr memory) = failed Memory memory

pub of_text_and_trace : (m : Mode) (file trace_file : Option (List ℕ)) (text trace : List ℕ) (o : Output) → IsTakenOf file most_of_a_text text
    → IsTakenOf trace_file most_of_a_stream trace → IsOutputOf m text trace o → IsOfTextAndTrace m file trace_file o
of_text_and_trace m file trace_file text trace o taken traced (inl shows) = shown text trace taken traced shows
of_text_and_trace m file trace_file text trace o taken traced (inr memory) = failed Memory memory

pub of_input : (input : Option (List ℕ)) (bytes : List ℕ) (o : Output) → IsTakenOf input most_of_a_stream bytes
    → IsOutputOf mode.Plain (halves_of bytes).text (halves_of bytes).trace o → IsOfInput input o
of_input input bytes o taken (inl shows) = shown bytes taken shows
of_input input bytes o taken (inr memory) = failed Memory memory
