-- Why a command line asks for nothing.
use Rattle.std.proofs.Common.{◌≡◌, ◌⊎◌, List, [], length, ◌<◌, sym, subst, inl, inr, ◌∙◌}
use Rattle.clap.specs.Words.{Text, IsAmong, fault_of, subcommand_of}
use Rattle.clap.specs.declared.error.kind.ErrorKind.{ErrorKind}
use Rattle.clap.specs.declared.error.kind.ErrorKind.TheVariants as kind
use Rattle.sts_args.specs.declared.asked.LineError.{LineError}
use Rattle.sts_args.specs.declared.asked.LineError.TheVariants as error
use Rattle.sts_args.specs.Command.{program}
use Rattle.sts_args.specs.Refused.{BlamesUnless, Refuses, TellsKind, is_whole}

-- a command with something missing is refused
pub refuses_blamed : (words : List Text) (e : LineError) → 1 < length words → fault_of program words ≡ []
    → BlamesUnless (is_whole (subcommand_of program words)) e → Refuses words e
refuses_blamed words error.Memory more none h = tt
refuses_blamed words (error.Help text) more none h = absurd h
refuses_blamed words (error.Usage text) more none h = (more, inr (none, h))

-- what `clap` refuses is refused
pub refuses_told : (words : List Text) (k : ErrorKind) (e : LineError) → 1 < length words → TellsKind k e
    → (k ≡ kind.OutOfMemory) ⊎ IsAmong k (fault_of program words) → Refuses words e
refuses_told words k error.Memory more h among = tt
refuses_told words k (error.Help text) more h (inl memory) = let bad : kind.DisplayHelp ≡ kind.OutOfMemory = sym h ∙ memory in cc
refuses_told words k (error.Help text) more h (inr among) = (more, subst (λ x. IsAmong x (fault_of program words)) h among)
refuses_told words k (error.Usage text) more h (inl memory) = absurd (h.1 memory)
refuses_told words k (error.Usage text) more h (inr among) = (more, inl (k, among, h.0))
