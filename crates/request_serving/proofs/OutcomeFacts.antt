-- Lemmas on what is printed of outcomes.
use Rattle.std.proofs.Common.{inl, inr, ℕ, List}
use Rattle.std.specs.Prelude.{Option}
use Rattle.tso_ops.specs.Values.{ProgramValue}
use Rattle.trace_reports.specs.declared.answers.Answer.{Answer}
use Rattle.text_streams.proofs.ReadingFacts.{reads_more}
use Rattle.request_options.specs.declared.outcomes.OutcomeOptions.{OutcomeOptions}
use Rattle.outcome_reports.specs.Outcomes.{IsOutcomes, IsOutcomesOfReader, IsWrittenOfProgram}
use Rattle.outcome_reports.specs.SeenTraces.{CountsSeen, IsSeenOf, IsSeenOfReaders}
use Rattle.request_texts.specs.OpenedFiles.{HasKnown}
use Rattle.request_texts.proofs.KnownFacts.{known_reads}

-- a program of which less may be known than its reader has
pub outcomes_of_known : (options : OutcomeOptions) (program programs : Option (List ℕ)) → HasKnown program programs → (text : List ℕ) (verdict : Answer) →
    IsOutcomesOfReader options programs text verdict → IsOutcomesOfReader options program text verdict
outcomes_of_known options program programs has text verdict = known_reads program programs has (λ bytes. IsWrittenOfProgram (IsOutcomes options) bytes text verdict)

-- likewise of a stream
seen_of_stream : (limit : ℕ) (stream streams : Option (List ℕ)) → HasKnown stream streams → (program : ProgramValue) (text : List ℕ) (verdict : Answer) →
    IsSeenOf limit streams program text verdict → IsSeenOf limit stream program text verdict
seen_of_stream limit stream streams has program text verdict (inl counts) = inl (known_reads stream streams has (λ bytes. CountsSeen program bytes text verdict) counts)
seen_of_stream limit stream streams has program text verdict (inr refused) = inr refused

said_of_stream : (limit : ℕ) (stream streams : Option (List ℕ)) → HasKnown stream streams → (text : List ℕ) (verdict : Answer) (bytes : List ℕ) →
    IsWrittenOfProgram (IsSeenOf limit streams) bytes text verdict → IsWrittenOfProgram (IsSeenOf limit stream) bytes text verdict
said_of_stream limit stream streams has text verdict bytes (inl (program, spells, says)) = inl (program, spells, seen_of_stream limit stream streams has program text verdict says)
said_of_stream limit stream streams has text verdict bytes (inr refused) = inr refused

pub seen_of_known : (limit : ℕ) (program programs stream streams : Option (List ℕ)) → HasKnown program programs → HasKnown stream streams → (text : List ℕ) (verdict : Answer) →
    IsSeenOfReaders limit programs streams text verdict → IsSeenOfReaders limit program stream text verdict
seen_of_known limit program programs stream streams has also text verdict seen =
    known_reads program programs has (λ bytes. IsWrittenOfProgram (IsSeenOf limit stream) bytes text verdict)
    (reads_more (said_of_stream limit stream streams also text verdict) programs seen)
