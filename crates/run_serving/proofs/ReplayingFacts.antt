-- Lemmas on what is printed of a replay.
use Rattle.std.proofs.Common.{◌≡◌, ◌∙◌, ◌⊎◌, ℕ, List, take, Some, None, IfSome, ap, subst, sym, inl, inr}
use Rattle.std.specs.Prelude.{MatchOption, Option}
use Rattle.command_line.specs.Requests.{replaying}
use Rattle.command_line.specs.declared.options.RunOptions.{RunOptions}
use Rattle.tso_ops.specs.Values.{ProgramValue}
use Rattle.tso_text.specs.declared.faults.Why.{Why}
use Rattle.tso_text.specs.Refusals.{IsProgramRefusal, IsRefusedProgram, IsScheduleRefusal}
use Rattle.tso_text.specs.Texts.{SpellsProgram, SpellsSchedule}
use Rattle.tso_text.proofs.TextLaws.{AreTextLaws, program_laws}
use Rattle.text_streams.specs.Readings.{ReadsAs}
use Rattle.text_streams.specs.Streams.{LosesPrefix}
use Rattle.text_streams.proofs.ReadingFacts.{reads_as}
use Rattle.trace_streams.specs.Limits.{trace_read_limit}
use Rattle.trace_streams.proofs.InputFacts.{refused_of_prefix, spelled_of_prefix}
use Rattle.request_texts.specs.OpenedFiles.{HasKnown, HasRefusedFirstText, TakesInput, text_bytes}
use Rattle.request_texts.proofs.KnownFacts.{known_reads}
use Rattle.request_texts.proofs.PairFacts.{at_known}
use Rattle.run_serving.specs.Printing.{IsPrintedOf}
use Rattle.run_serving.specs.Replaying.{IsReplayOf, IsReplayText, IsScheduledText}

-- ---- what was read of a text

-- What is printed of the bytes up to one past the limit is printed of all, for texts of each kind.
module _ {V : Type 0} {Spells : List ℕ → V → Type 0} {IsRefusal : List ℕ → ℕ → Why → Type 0} (laws : AreTextLaws Spells IsRefusal) (Prints : V → List ℕ → ℕ → Type 0) where
  printed_of_prefix : (text : List ℕ) (status : ℕ) (input : List ℕ) → IsPrintedOf Spells IsRefusal Prints (take trace_read_limit input) text status → IsPrintedOf Spells IsRefusal Prints input text status
  printed_of_prefix text status input (inl p) = inl (p.0, spelled_of_prefix laws input p.0 p.1, p.2)
  printed_of_prefix text status input (inr p) = inr (p.0, p.1, refused_of_prefix laws input p.0 p.1 p.2, p.3, p.4)

  pub printed_as : (remaining : Option (List ℕ)) (bytes seen text : List ℕ) (status : ℕ) → IfSome remaining (λ all. bytes ≡ take trace_read_limit all) → seen ≡ bytes →
      IsPrintedOf Spells IsRefusal Prints seen text status → ReadsAs remaining (λ b. IsPrintedOf Spells IsRefusal Prints b text status)
  printed_as remaining bytes seen text status prefix same is =
      reads_as (λ b. IsPrintedOf Spells IsRefusal Prints b text status) trace_read_limit (printed_of_prefix text status) remaining bytes seen prefix same is

-- ---- a schedule of which less may be known than its reader has

-- what is printed of a value may be another text of the same value's, as far as that is known
printed_more : {V : Type 0} (Spells : List ℕ → V → Type 0) (IsRefusal : List ℕ → ℕ → Why → Type 0) {A B : V → List ℕ → ℕ → Type 0} → ((v : V) (text : List ℕ) (status : ℕ) → A v text status → B v text status) →
    (text : List ℕ) (status : ℕ) (bytes : List ℕ) → IsPrintedOf Spells IsRefusal A bytes text status → IsPrintedOf Spells IsRefusal B bytes text status
printed_more Spells IsRefusal implied text status bytes (inl p) = inl (p.0, p.1, implied p.0 text status p.2)
printed_more Spells IsRefusal implied text status bytes (inr p) = inr p

scheduled_known : (options : RunOptions) (schedule schedules : Option (List ℕ)) → HasKnown schedule schedules → (text : List ℕ) (status : ℕ) (bytes : List ℕ) →
    IsPrintedOf SpellsProgram IsProgramRefusal (IsScheduledText options schedules) bytes text status → IsPrintedOf SpellsProgram IsProgramRefusal (IsScheduledText options schedule) bytes text status
scheduled_known options schedule schedules also text status =
    let scheduled : (p : ProgramValue) (text : List ℕ) (status : ℕ) → IsScheduledText options schedules p text status → IsScheduledText options schedule p text status =
    λ p text status. known_reads schedule schedules also (λ bytes. IsPrintedOf SpellsSchedule IsScheduleRefusal (IsReplayOf options p) bytes text status) in
    printed_more SpellsProgram IsProgramRefusal scheduled text status

-- what was printed of the program that was read, by a schedule of which less may be known
pub replayed : (options : RunOptions) (programs schedule schedules : Option (List ℕ)) → HasKnown schedule schedules → (bytes seen text : List ℕ) (status : ℕ) → IfSome programs (λ all. bytes ≡ take trace_read_limit all) → seen ≡ bytes →
    IsPrintedOf SpellsProgram IsProgramRefusal (IsScheduledText options schedules) seen text status → IsReplayText options programs schedule text status
replayed options programs schedule schedules also bytes seen text status prefix same is =
    printed_as program_laws (IsScheduledText options schedule) programs bytes seen text status prefix same (scheduled_known options schedule schedules also text status seen is)

-- ---- a program that is refused, by what was read of it

refused_first : (all : List ℕ) → IsRefusedProgram all → IsRefusedProgram (take trace_read_limit all)
refused_first all refused = elim (program_laws.either (take trace_read_limit all)) [
  | inl spelled ↦ absurd (program_laws.not_both all spelled.0 refused.0 refused.1 (spelled_of_prefix program_laws all spelled.0 spelled.1) refused.2)
  | inr is ↦ is
]

refused_by_read : {X : Type 0} (programs : Option (List ℕ)) (bytes seen : List ℕ) → IfSome programs (λ all. bytes ≡ take trace_read_limit all) → seen ≡ bytes → (IsRefusedProgram seen → X) →
    IfSome programs (λ all. IsRefusedProgram all → X)
refused_by_read None bytes seen prefix same holds = tt
refused_by_read (Some all) bytes seen prefix same holds = λ refused. holds (subst IsRefusedProgram (sym (same ∙ prefix)) (refused_first all refused))

-- then standard input is untouched, where the program is in a file
pub unread_schedule : {V : Type 0} (options : RunOptions) (program schedule : Option (List ℕ)) (input : Option (List ℕ)) (files : List ℕ → Option (List ℕ)) (before mid after : V) (bytes seen : List ℕ) →
    IfSome (text_bytes program input files) (λ all. bytes ≡ take trace_read_limit all) → seen ≡ bytes → (IsRefusedProgram seen → after ≡ mid) → IfSome program (λ _. mid ≡ before) →
    HasRefusedFirstText (replaying options program schedule) files → after ≡ before
unread_schedule options None schedule input files before mid after bytes seen prefix same unread first refused = absurd refused
unread_schedule options (Some name) schedule input files before mid after bytes seen prefix same unread first refused =
    at_known (files name) IsRefusedProgram (after ≡ mid) (refused_by_read (files name) bytes seen prefix same unread) refused ∙ first

-- what a replay takes of standard input
pub takes_replayed : {V : Type 0} (remaining : V → Option (List ℕ)) (options : RunOptions) (program schedule : Option (List ℕ)) (before after : V) →
    MatchOption program (LosesPrefix trace_read_limit (remaining before) (remaining after)) (λ _. (after ≡ before) ⊎ LosesPrefix trace_read_limit (remaining before) (remaining after)) →
    TakesInput (replaying options program schedule) (remaining before) (remaining after)
takes_replayed remaining options None schedule before after takes = takes
takes_replayed remaining options (Some name) schedule before after (inl same) = inl (ap remaining same)
takes_replayed remaining options (Some name) schedule before after (inr takes) = inr takes
