use Rattle.std.proofs.Common.{rules}
use Rattle.command_line.specs.Requests.{files_of}
use Rattle.text_streams.specs.Streams.{LosesPrefix}
use Rattle.text_streams.specs.WrittenTexts.{LeavesAtFault}
use Rattle.text_streams.proofs.StreamFacts.{leaves_prefix}
use Rattle.trace_streams.specs.Limits.{trace_read_limit}
use Rattle.request_texts.specs.OpenedFiles.{text_bytes}
use Rattle.request_texts.proofs.KnownFacts.{known_prefix}
use Rattle.request_texts.proofs.PairFacts.{first_unread, second_known, taken, untouched}
use Rattle.run_serving.specs.Replaying.{IsReplayText}
use Rattle.run_serving.proofs.ReplayingFacts.{replayed, takes_replayed, unread_schedule}
use Rattle.run_serving.proofs.replaying.replay_named.Goals as goal

-- ---- what is printed

pub returns-in_err-write_text-clause-fault : goal.returns-in_err-write_text-clause-fault
returns-in_err-write_text-clause-fault g c =
    let input = g.R.Read.remaining c.args.reader.now in
    let files = g.O.Environment.bytes c.args.files.now in
    let programs = text_bytes (files_of c.args.texts).0 input files in
    let schedules = text_bytes (files_of c.args.texts).1 input files in
    let prefix = known_prefix trace_read_limit _ programs _ (c.in_ok-opened.ensures.first_known input) c.in_ok-program.ensures.prefix in
    let known = second_known c.args.texts c.in_ok-opened.opened.first c.in_ok-opened.opened.second c.in_ok-opened.ensures.which c.args.reader.now c.read_text.new.reader c.replay_text.new.reader c.in_ok-program.ensures.unread
    g.R.Read.remaining g.O.File.Read.remaining files c.in_ok-opened.ensures.second_known in
    let is = replayed c.args.options.now programs schedules _ known _ _ _ _ prefix c.deref.ensures.value c.in_ok-printed.ensures.text in
    let leaves : LeavesAtFault (IsReplayText c.args.options.now programs schedules) (g.W.Write.contents c.args.writer.now) (g.W.Write.contents c.write_text.new.writer) c.in_err-write_text.field-0.0 =
    leaves_prefix (IsReplayText c.args.options.now programs schedules) _ _ _ _ _ c.in_err-write_text.field-0.0 is c.deref-2.ensures.value c.in_err-write_text.ensures.prefix c.in_err-write_text.ensures.fault in
    search (rules, leaves)

pub returns-clause-text : goal.returns-clause-text
returns-clause-text g c =
    let input = g.R.Read.remaining c.args.reader.now in
    let files = g.O.Environment.bytes c.args.files.now in
    let programs = text_bytes (files_of c.args.texts).0 input files in
    let schedules = text_bytes (files_of c.args.texts).1 input files in
    let prefix = known_prefix trace_read_limit _ programs _ (c.in_ok-opened.ensures.first_known input) c.in_ok-program.ensures.prefix in
    let known = second_known c.args.texts c.in_ok-opened.opened.first c.in_ok-opened.opened.second c.in_ok-opened.ensures.which c.args.reader.now c.read_text.new.reader c.replay_text.new.reader c.in_ok-program.ensures.unread
    g.R.Read.remaining g.O.File.Read.remaining files c.in_ok-opened.ensures.second_known in (
      c.in_ok-printed.printed.text.items,
      replayed c.args.options.now programs schedules _ known _ _ _ _ prefix c.deref.ensures.value c.in_ok-printed.ensures.text,
      rw c.deref-2.ensures.value at c.in_ok-write_text.ensures.whole,
    )

-- ---- what is read of standard input

pub returns-in_err-write_text-clause-unread : goal.returns-in_err-write_text-clause-unread
returns-in_err-write_text-clause-unread g c = untouched c.args.texts c.in_ok-opened.opened.first c.in_ok-opened.opened.second c.in_ok-opened.ensures.which _ _ _ c.in_ok-program.ensures.unread c.in_ok-printed.ensures.unread

pub returns-clause-unread : goal.returns-clause-unread
returns-clause-unread g c = untouched c.args.texts c.in_ok-opened.opened.first c.in_ok-opened.opened.second c.in_ok-opened.ensures.which _ _ _ c.in_ok-program.ensures.unread c.in_ok-printed.ensures.unread

pub returns-in_err-printed-clause-unread_after_refusal : goal.returns-in_err-printed-clause-unread_after_refusal
returns-in_err-printed-clause-unread_after_refusal g c =
    let input = g.R.Read.remaining c.args.reader.now in
    let files = g.O.Environment.bytes c.args.files.now in
    let texts = files_of c.args.texts in
    let prefix = known_prefix trace_read_limit _ (text_bytes texts.0 input files) _ (c.in_ok-opened.ensures.first_known input) c.in_ok-program.ensures.prefix in
    let first = first_unread c.args.texts c.in_ok-opened.opened.first c.in_ok-opened.opened.second c.in_ok-opened.ensures.which c.args.reader.now c.read_text.new.reader c.replay_text.new.reader c.in_ok-program.ensures.unread in
    unread_schedule c.args.options.now texts.0 texts.1 input files _ _ _ _ _ prefix c.deref.ensures.value c.in_err-printed.ensures.unread_after_refusal first

pub returns-in_err-write_text-clause-unread_after_refusal : goal.returns-in_err-write_text-clause-unread_after_refusal
returns-in_err-write_text-clause-unread_after_refusal g c =
    let input = g.R.Read.remaining c.args.reader.now in
    let files = g.O.Environment.bytes c.args.files.now in
    let texts = files_of c.args.texts in
    let prefix = known_prefix trace_read_limit _ (text_bytes texts.0 input files) _ (c.in_ok-opened.ensures.first_known input) c.in_ok-program.ensures.prefix in
    let first = first_unread c.args.texts c.in_ok-opened.opened.first c.in_ok-opened.opened.second c.in_ok-opened.ensures.which c.args.reader.now c.read_text.new.reader c.replay_text.new.reader c.in_ok-program.ensures.unread in
    unread_schedule c.args.options.now texts.0 texts.1 input files _ _ _ _ _ prefix c.deref.ensures.value c.in_ok-printed.ensures.unread_after_refusal first

pub returns-clause-unread_after_refusal : goal.returns-clause-unread_after_refusal
returns-clause-unread_after_refusal g c =
    let input = g.R.Read.remaining c.args.reader.now in
    let files = g.O.Environment.bytes c.args.files.now in
    let texts = files_of c.args.texts in
    let prefix = known_prefix trace_read_limit _ (text_bytes texts.0 input files) _ (c.in_ok-opened.ensures.first_known input) c.in_ok-program.ensures.prefix in
    let first = first_unread c.args.texts c.in_ok-opened.opened.first c.in_ok-opened.opened.second c.in_ok-opened.ensures.which c.args.reader.now c.read_text.new.reader c.replay_text.new.reader c.in_ok-program.ensures.unread in
    unread_schedule c.args.options.now texts.0 texts.1 input files _ _ _ _ _ prefix c.deref.ensures.value c.in_ok-printed.ensures.unread_after_refusal first

pub returns-clause-taken : goal.returns-clause-taken
returns-clause-taken g c = λ reads.
    let remaining = g.R.Read.remaining in
    takes_replayed remaining c.args.options.now (files_of c.args.texts).0 (files_of c.args.texts).1 c.args.reader.now c.replay_text.new.reader
    (taken c.args.texts c.in_ok-opened.opened.first c.in_ok-opened.opened.second c.in_ok-opened.ensures.which c.args.reader.now c.read_text.new.reader c.replay_text.new.reader c.in_ok-program.ensures.unread
    (λ old new. LosesPrefix trace_read_limit (remaining old) (remaining new)) (λ old new. LosesPrefix trace_read_limit (remaining old) (remaining new)) c.in_ok-printed.ensures.unread c.in_ok-program.ensures.taken c.in_ok-printed.ensures.taken)
