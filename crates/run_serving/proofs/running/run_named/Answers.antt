use Rattle.std.proofs.Common.{rules}
use Rattle.text_streams.specs.WrittenTexts.{LeavesAtFault}
use Rattle.text_streams.proofs.StreamFacts.{leaves_prefix}
use Rattle.trace_streams.specs.Limits.{trace_read_limit}
use Rattle.tso_text.proofs.TextLaws.{program_laws}
use Rattle.request_texts.specs.OpenedFiles.{name_in, text_bytes}
use Rattle.request_texts.proofs.KnownFacts.{known_prefix}
use Rattle.run_serving.specs.Running.{IsRunPrinted, IsRunText}
use Rattle.run_serving.proofs.ReplayingFacts.{printed_as}
use Rattle.run_serving.proofs.running.run_named.Goals as goal

pub returns-in_err-write_text-clause-fault : goal.returns-in_err-write_text-clause-fault
returns-in_err-write_text-clause-fault g c =
    let options = c.args.request.now.options in
    let programs = text_bytes (name_in c.args.request.now.program) (g.R.Read.remaining c.args.reader.now) (g.O.Environment.bytes c.args.files.now) in
    let prefix = known_prefix trace_read_limit _ programs _ (c.in_ok-program.ensures.known (g.R.Read.remaining c.args.reader.now)) c.in_ok-input.ensures.prefix in
    let is = printed_as program_laws (IsRunPrinted options) programs _ _ _ _ prefix c.deref.ensures.value c.in_ok-printed.ensures.text in
    let leaves : LeavesAtFault (IsRunText options programs) (g.W.Write.contents c.args.writer.now) (g.W.Write.contents c.write_text.new.writer) c.in_err-write_text.field-0.0 =
    leaves_prefix (IsRunText options programs) _ _ _ _ _ c.in_err-write_text.field-0.0 is c.deref-2.ensures.value c.in_err-write_text.ensures.prefix c.in_err-write_text.ensures.fault in
    search (rules, leaves)

pub returns-clause-text : goal.returns-clause-text
returns-clause-text g c =
    let programs = text_bytes (name_in c.args.request.now.program) (g.R.Read.remaining c.args.reader.now) (g.O.Environment.bytes c.args.files.now) in
    let prefix = known_prefix trace_read_limit _ programs _ (c.in_ok-program.ensures.known (g.R.Read.remaining c.args.reader.now)) c.in_ok-input.ensures.prefix in (
      c.in_ok-printed.printed.text.items,
      printed_as program_laws (IsRunPrinted c.args.request.now.options) programs _ _ _ _ prefix c.deref.ensures.value c.in_ok-printed.ensures.text,
      rw c.deref-2.ensures.value at c.in_ok-write_text.ensures.whole,
    )
