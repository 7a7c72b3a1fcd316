-- Lemmas on what is said of the program that a reader has.
use Rattle.std.proofs.Common.{◌≡◌, ◌≢◌, ℕ, List, take, IfSome, inl, inr}
use Rattle.std.specs.Prelude.{Option}
use Rattle.tso_ops.specs.Values.{ProgramValue}
use Rattle.tso_text.specs.declared.faults.TextFault.{TextFault}
use Rattle.tso_text.specs.declared.faults.Why.TheVariants.{OutOfMemory}
use Rattle.tso_text.specs.Refusals.{IsProgramRefusal}
use Rattle.tso_text.specs.Texts.{SpellsProgram}
use Rattle.trace_streams.specs.Limits.{trace_read_limit}
use Rattle.tso_text.proofs.TextLaws.{program_laws}
use Rattle.trace_streams.proofs.InputFacts.{refused_of_prefix, spelled_of_prefix}
use Rattle.text_streams.specs.Readings.{ReadsAs}
use Rattle.trace_reports.specs.RefusalLines.{refusal_text}
use Rattle.text_streams.proofs.ReadingFacts.{reads_as}
use Rattle.trace_reports.specs.declared.answers.Answer.{Answer}
use Rattle.trace_reports.specs.declared.answers.Answer.TheVariants.{Refused}
use Rattle.outcome_reports.specs.Outcomes.{IsWrittenOfProgram}

module _ (Says : ProgramValue → List ℕ → Answer → Type 0) where
  -- What is said of the bytes up to one past the limit is said of all.
  said_of_prefix : (text : List ℕ) (verdict : Answer) (input : List ℕ) → IsWrittenOfProgram Says (take trace_read_limit input) text verdict → IsWrittenOfProgram Says input text verdict
  said_of_prefix text verdict input (inl p) = inl (p.0, spelled_of_prefix program_laws input p.0 p.1, p.2)
  said_of_prefix text verdict input (inr p) = inr (p.0, p.1, refused_of_prefix program_laws input p.0 p.1 p.2, p.3, p.4)

  rendered_as : (remaining : Option (List ℕ)) (bytes seen text : List ℕ) (verdict : Answer) → IfSome remaining (λ all. bytes ≡ take trace_read_limit all) → seen ≡ bytes →
      IsWrittenOfProgram Says seen text verdict → ReadsAs remaining (λ b. IsWrittenOfProgram Says b text verdict)
  rendered_as remaining bytes seen text verdict prefix same is = reads_as (λ b. IsWrittenOfProgram Says b text verdict) trace_read_limit (said_of_prefix text verdict) remaining bytes seen prefix same is

  pub said_of_program : (remaining : Option (List ℕ)) (bytes seen text : List ℕ) (verdict : Answer) (program : ProgramValue) → IfSome remaining (λ all. bytes ≡ take trace_read_limit all) → seen ≡ bytes →
      SpellsProgram seen program → Says program text verdict → ReadsAs remaining (λ b. IsWrittenOfProgram Says b text verdict)
  said_of_program remaining bytes seen text verdict program prefix same spells says = rendered_as remaining bytes seen text verdict prefix same (inl (program, spells, says))

  pub said_of_refusal : (remaining : Option (List ℕ)) (bytes seen text : List ℕ) (verdict : Answer) (fault : TextFault) → IfSome remaining (λ all. bytes ≡ take trace_read_limit all) → seen ≡ bytes →
      (fault.why ≢ OutOfMemory → IsProgramRefusal seen fault.line fault.why) → fault.why ≢ OutOfMemory → text ≡ refusal_text fault.line fault.why → verdict ≡ Refused → ReadsAs remaining (λ b. IsWrittenOfProgram Says b text verdict)
  said_of_refusal remaining bytes seen text verdict fault prefix same refusal other line refused = rendered_as remaining bytes seen text verdict prefix same (inr (fault.line, fault.why, refusal other, line, refused))
