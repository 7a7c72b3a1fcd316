-- No record of a lawful unit is called a violation.
use Rattle.std.proofs.Common.{◌≡◌, ◌≢◌, ◌&&◌, inl, inr, ℕ, true, List, Option, None, Some, IfSome, ap, refl, subst, sym, ◌∙◌, arith}
use Rattle.std.proofs.lemmas.Bool.{false≢true}
use Rattle.tso_ops.specs.Values.{ProgramValue}
use Rattle.tso_ops.specs.declared.settings.Order.{Order}
use Rattle.command_line.specs.Requests.{Asked, repeating, replaying, running}
use Rattle.command_line.specs.declared.options.Printing.{Printing}
use Rattle.command_line.specs.declared.options.Printing.TheVariants.{Report, Trace, Explanation}
use Rattle.command_line.specs.declared.options.RunOptions.{RunOptions}
use Rattle.command_line.specs.declared.options.UnitKind.{UnitKind}
use Rattle.command_line.specs.declared.options.UnitKind.TheVariants.{Serial, Buffer}
use Rattle.command_line.specs.declared.options.UnitOptions.{UnitOptions}
use Rattle.tso_report.specs.Campaigns.{is_lawful_under}
use Rattle.text_streams.specs.Readings.{ReadsAs}
use Rattle.text_streams.specs.WrittenTexts.{LeavesAtFault}
use Rattle.text_streams.specs.declared.faults.Fault.{Fault}
use Rattle.tso_text.specs.declared.faults.Why.{Why}
use Rattle.tso_text.specs.Texts.{SpellsProgram, SpellsSchedule}
use Rattle.tso_text.specs.Refusals.{IsProgramRefusal, IsScheduleRefusal}
use Rattle.tso_text.proofs.TextLaws.{program_laws}
use Rattle.unit_core.specs.declared.accounts.Account.{Account}
use Rattle.unit_core.specs.Records.{RecordedValue, is_within}
use Rattle.run_serving.specs.BenchUnits.{is_lawful_kind, is_lawful_under_all, order_of_kind}
use Rattle.request_serving.specs.Endings.{EndsAsAsked, EndsByText, EndsRun, EndsRunTimes, Outputs}
use Rattle.request_serving.specs.LawfulRequests.{RunsLawfully, SpellsForLawfulUnit, runs_on_lawful_unit}
use Rattle.request_texts.specs.OpenedFiles.{text_bytes}
use Rattle.run_serving.specs.Printing.{IsPrintedOf, IsRenderedRecord, unit_of}
use Rattle.run_serving.specs.Replaying.{IsReplayOf, IsReplayText, IsScheduledText}
use Rattle.run_serving.specs.Running.{AreRunTraces, IsRunPrinted, IsRunText, IsRunTimesText, LeavesRunTimes}
use Rattle.trace_reports.specs.Statuses.{status_of}

-- a unit that is lawful for programs of each memory model is lawful for those of this one
kind_lawful : (kind : UnitKind) (order : Order) → is_lawful_under_all kind ≡ true → (is_lawful_kind kind && is_within (order_of_kind kind) order) ≡ true
kind_lawful Serial order lawful = refl
kind_lawful Buffer order lawful = refl
kind_lawful kind order lawful = absurd (false≢true lawful)

-- the unit of the options is lawful for each program that bytes spell, which are all bytes of a reader where these are known
abbrev IsLawfulForEach : UnitOptions → Option (List ℕ) → Type 0
IsLawfulForEach options programs = (bytes : List ℕ) (program : ProgramValue) → IfSome programs (λ all. bytes ≡ all) → SpellsProgram bytes program → is_lawful_under program.setting.order (unit_of options) ≡ true

for_all : (options : UnitOptions) (programs : Option (List ℕ)) → is_lawful_under_all options.kind ≡ true → IsLawfulForEach options programs
for_all options programs lawful = λ bytes program all spelled. kind_lawful options.kind program.setting.order lawful

-- the bytes spell one program
for_text : (options : UnitOptions) (programs : Option (List ℕ)) → SpellsForLawfulUnit options programs → IsLawfulForEach options programs
for_text options programs is = λ bytes program all spelled.
    let whole : bytes ≡ is.bytes = subst (λ known. IfSome known (λ all. bytes ≡ all)) is.has all in
    let same = program_laws.one_value is.bytes program is.program (subst (λ b. SpellsProgram b program) whole spelled) is.spelled in
    ap (λ (p : ProgramValue). is_lawful_under p.setting.order (unit_of options)) same ∙ is.lawful

-- it holds of some bytes, which are all of a reader's where these are known
whole_read : {Is : List ℕ → Type 0} (remaining : Option (List ℕ)) → ReadsAs remaining Is → (bytes : List ℕ) × IfSome remaining (λ all. bytes ≡ all) × Is bytes
whole_read None reads = (reads.bytes, tt, reads.of_read)
whole_read (Some all) reads = (all, refl, reads.of_all)

-- what is printed of a lawful record doesn't end as a violation
record_status : (printing : Printing) (r : RecordedValue) (account : Account) (text : List ℕ) (status : ℕ) → r.lawful ≡ true → IsRenderedRecord printing r account text status → status ≢ 3
record_status Trace r account text status lawful prints = λ three. omega (arith, prints.1, three)
record_status Report r account text status lawful prints = λ three.
    let ends : status ≡ 0 = prints.5 ∙ ap status_of (prints.3 lawful) in
    omega (arith, ends, three)
record_status Explanation r account text status lawful prints = λ three.
    let ends : status ≡ 0 = prints.3 ∙ ap status_of (prints.2 lawful) in
    omega (arith, ends, three)

-- what is printed of bytes ends so where what is printed of each value that they may spell does
printed_status : {V : Type 0} (Spells : List ℕ → V → Type 0) (IsRefusal : List ℕ → ℕ → Why → Type 0) (Prints : V → List ℕ → ℕ → Type 0) (bytes text : List ℕ) (status : ℕ) →
    ((v : V) → Spells bytes v → Prints v text status → status ≢ 3) → IsPrintedOf Spells IsRefusal Prints bytes text status → status ≢ 3
printed_status Spells IsRefusal Prints bytes text status each (inl p) = each p.0 p.1 p.2
printed_status Spells IsRefusal Prints bytes text status each (inr p) = λ three. omega (arith, p.4, three)

run_status : (options : RunOptions) (programs : Option (List ℕ)) (text : List ℕ) (status : ℕ) → IsLawfulForEach options.unit programs → IsRunText options programs text status → status ≢ 3
run_status options programs text status lawful run =
    let whole = whole_read programs run in
    printed_status SpellsProgram IsProgramRefusal (IsRunPrinted options) whole.0 text status (λ program spelled printed.
    record_status options.printing printed.recorded printed.account printed.prints.presented status (printed.runs.recorded.lawful ∙ lawful whole.0 program whole.1 spelled) printed.prints.presents) whole.2

scheduled_status : (options : RunOptions) (schedules : Option (List ℕ)) (program : ProgramValue) (text : List ℕ) (status : ℕ) → is_lawful_under program.setting.order (unit_of options.unit) ≡ true →
    IsScheduledText options schedules program text status → status ≢ 3
scheduled_status options schedules program text status lawful scheduled =
    let whole = whole_read schedules scheduled in
    printed_status SpellsSchedule IsScheduleRefusal (IsReplayOf options program) whole.0 text status (λ schedule spelled printed.
    let replays = printed.replays in
    let same : (replays.new.lawful && is_within replays.new.order program.setting.order) ≡ true = rw (replays.lawful, replays.order) lawful in
    record_status options.printing printed.recorded printed.account printed.prints.presented status (replays.recorded.lawful ∙ same) printed.prints.presents) whole.2

replay_status : (options : RunOptions) (programs schedules : Option (List ℕ)) (text : List ℕ) (status : ℕ) → IsLawfulForEach options.unit programs → IsReplayText options programs schedules text status →
    status ≢ 3
replay_status options programs schedules text status lawful replay =
    let whole = whole_read programs replay in
    printed_status SpellsProgram IsProgramRefusal (IsScheduledText options schedules) whole.0 text status (λ program spelled. scheduled_status options schedules program text status (lawful whole.0 program whole.1 spelled)) whole.2

-- a text that doesn't end as a violation, or a fault
text_status : (is_text : List ℕ → ℕ → Type 0) (leaves : Option (List ℕ) → Option (List ℕ) → Fault → Type 0) (o : Outputs) (status : ℕ) → ((text : List ℕ) (said : ℕ) → is_text text said → said ≢ 3) →
    EndsByText is_text leaves o status → status ≢ 3
text_status is_text leaves o status each (inl (said, writes, kept, ends)) = λ three. each writes.0 said writes.1 (sym ends ∙ three)
text_status is_text leaves o status each (inr fault) = λ three. omega (arith, fault.2.1, three)

ran_status : (options : RunOptions) (programs : Option (List ℕ)) (o : Outputs) (status : ℕ) → IsLawfulForEach options.unit programs → EndsRun options programs o status → status ≢ 3
ran_status options programs o status lawful (inl ends) = text_status (IsRunText options programs) (LeavesAtFault (IsRunText options programs)) o status (λ text said. run_status options programs text said lawful) ends
ran_status options programs o status lawful (inr ends) = λ three. omega (arith, ends.1, three)

replayed_status : (options : RunOptions) (programs schedules : Option (List ℕ)) (o : Outputs) (status : ℕ) → IsLawfulForEach options.unit programs →
    EndsByText (IsReplayText options programs schedules) (LeavesAtFault (IsReplayText options programs schedules)) o status → status ≢ 3
replayed_status options programs schedules o status lawful =
    text_status (IsReplayText options programs schedules) (LeavesAtFault (IsReplayText options programs schedules)) o status (λ text said. replay_status options programs schedules text said lawful)

-- more runs than one don't end as a violation
repeated_status : (unit : UnitOptions) (times : ℕ) (programs : Option (List ℕ)) (o : Outputs) (status : ℕ) → EndsRunTimes unit times programs o status → status ≢ 3
repeated_status unit times programs o status (inl ends) =
    text_status (IsRunTimesText unit times programs) (λ old new fault. LeavesRunTimes unit times programs old new) o status (λ text said is.
    let whole = whole_read programs is in
    printed_status SpellsProgram IsProgramRefusal (λ program text status. AreRunTraces unit program times text × (status ≡ 0)) whole.0 text said (λ program spelled printed three. omega (arith, printed.1, three)) whole.2) ends
repeated_status unit times programs o status (inr ends) = λ three. omega (arith, ends.1, three)

pub lawful_status : (asked : Asked) (input : Option (List ℕ)) (files : List ℕ → Option (List ℕ)) (o : Outputs) (status : ℕ) →
    EndsAsAsked asked input files o status → runs_on_lawful_unit asked ≡ true → status ≢ 3
lawful_status (replaying options program schedule) input files o status ends lawful =
    replayed_status options (text_bytes program input files) (text_bytes schedule input files) o status (for_all options.unit _ lawful) ends
lawful_status (running options seed turns program) input files o status ends lawful = ran_status options (text_bytes program input files) o status (for_all options.unit _ lawful) ends
lawful_status (repeating unit seed turns times program) input files o status ends lawful = repeated_status unit times (text_bytes program input files) o status ends
lawful_status asked input files o status ends lawful = absurd (false≢true lawful)

pub known_status : (asked : Asked) (input : Option (List ℕ)) (files : List ℕ → Option (List ℕ)) (o : Outputs) (status : ℕ) →
    EndsAsAsked asked input files o status → RunsLawfully asked input files → status ≢ 3
known_status (replaying options program schedule) input files o status ends lawful =
    replayed_status options (text_bytes program input files) (text_bytes schedule input files) o status (for_text options.unit _ lawful) ends
known_status (running options seed turns program) input files o status ends lawful = ran_status options (text_bytes program input files) o status (for_text options.unit _ lawful) ends
known_status (repeating unit seed turns times program) input files o status ends lawful = repeated_status unit times (text_bytes program input files) o status ends
known_status asked input files o status ends lawful = absurd lawful
