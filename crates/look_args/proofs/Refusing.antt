-- Why a command line asks for nothing.
use Rattle.std.proofs.Common.{◌≡◌, ◌⊎◌, List, [], sym, subst, inl, inr, ◌∙◌}
use Rattle.clap.specs.Words.{Text, IsAmong, fault_of, subcommand_of}
use Rattle.clap.specs.declared.error.kind.ErrorKind.{ErrorKind}
use Rattle.clap.specs.declared.error.kind.ErrorKind.TheVariants as kind
use Rattle.sts_args.specs.declared.asked.LineError.{LineError}
use Rattle.sts_args.specs.declared.asked.LineError.TheVariants as error
use Rattle.sts_args.specs.Refused.{BlamesUnless}
use Rattle.look_args.specs.Asked.{Refuses, TellsKind, is_whole}
use Rattle.look_args.specs.Command.{program}

-- a command with something missing is refused
pub refuses_blamed : (words : List Text) (e : LineError) → fault_of program words ≡ []
    → BlamesUnless (is_whole (subcommand_of program words)) e → Refuses words e
refuses_blamed words error.Memory none h = tt
refuses_blamed words (error.Help text) none h = absurd h
refuses_blamed words (error.Usage text) none h = inr (none, h)

-- what `clap` refuses is refused
pub refuses_told : (words : List Text) (k : ErrorKind) (e : LineError) → TellsKind k e
    → (k ≡ kind.OutOfMemory) ⊎ IsAmong k (fault_of program words) → Refuses words e
refuses_told words k error.Memory h among = tt
refuses_told words k (error.Help text) (inl h) (inl memory) = let bad : kind.DisplayHelp ≡ kind.OutOfMemory = sym h ∙ memory in cc
refuses_told words k (error.Help text) (inr h) (inl memory) = let bad : kind.DisplayVersion ≡ kind.OutOfMemory = sym h ∙ memory in cc
refuses_told words k (error.Help text) (inl h) (inr among) = inl (subst (λ x. IsAmong x (fault_of program words)) h among)
refuses_told words k (error.Help text) (inr h) (inr among) = inr (subst (λ x. IsAmong x (fault_of program words)) h among)
refuses_told words k (error.Usage text) h (inl memory) = absurd (h.2 memory)
refuses_told words k (error.Usage text) h (inr among) = inl (k, among, h.0, h.1)
