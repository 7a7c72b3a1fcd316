use Rattle.trace_streams.specs.Limits.{trace_read_limit}
use Rattle.request_texts.specs.OpenedFiles.{name_in, text_bytes}
use Rattle.request_texts.proofs.KnownFacts.{known_prefix}
use Rattle.run_serving.proofs.RepeatingFacts.{on_err, refusal_left, refusal_printed, times_left_by, times_text}
use Rattle.run_serving.proofs.repeating.repeat_named.Goals as goal

pub returns-in_err-repeat-in-Ok-clause-left : goal.returns-in_err-repeat-in-Ok-clause-left
returns-in_err-repeat-in-Ok-clause-left g c =
    let programs = text_bytes (name_in c.args.request.now.program) (g.R.Read.remaining c.args.reader.now) (g.O.Environment.bytes c.args.files.now) in
    let prefix = known_prefix trace_read_limit _ programs _ (c.in_ok-program.ensures.known (g.R.Read.remaining c.args.reader.now)) c.in_ok-input.ensures.prefix in
    on_err _ _ (times_left_by c.args.request.now.unit programs _ _ prefix c.deref.ensures.value c.in-Ok.program c.in-Ok.ensures.found c.args.request.now.times _ _ c.in_err-repeat-in-Ok.ensures.left)

pub returns-in-Ok-clause-whole : goal.returns-in-Ok-clause-whole
returns-in-Ok-clause-whole g c =
    let programs = text_bytes (name_in c.args.request.now.program) (g.R.Read.remaining c.args.reader.now) (g.O.Environment.bytes c.args.files.now) in
    let prefix = known_prefix trace_read_limit _ programs _ (c.in_ok-program.ensures.known (g.R.Read.remaining c.args.reader.now)) c.in_ok-input.ensures.prefix in
    let whole = c.in_ok-repeat-in-Ok.ensures.whole in
    (whole.0, times_text c.args.request.now.unit programs _ _ prefix c.deref.ensures.value c.in-Ok.program c.in-Ok.ensures.found c.args.request.now.times whole.0 whole.1, whole.2)

pub returns-in_err-write_text-in-Err-clause-left : goal.returns-in_err-write_text-in-Err-clause-left
returns-in_err-write_text-in-Err-clause-left g c =
    let programs = text_bytes (name_in c.args.request.now.program) (g.R.Read.remaining c.args.reader.now) (g.O.Environment.bytes c.args.files.now) in
    let prefix = known_prefix trace_read_limit _ programs _ (c.in_ok-program.ensures.known (g.R.Read.remaining c.args.reader.now)) c.in_ok-input.ensures.prefix in
    let told = c.in_ok-printed-in-Err.ensures in
    on_err _ _ (refusal_left c.args.request.now.unit programs _ _ prefix c.deref.ensures.value c.in-Err.fault.line c.in-Err.fault.why (c.in-Err.ensures.refused told.0)
    c.args.request.now.times _ _ c.in_ok-printed-in-Err.printed.text.items c.deref-in-Err.result.now c.in_ok-printed-in-Err.printed.status told.1 told.2 c.deref-in-Err.ensures.value c.in_err-write_text-in-Err.ensures.prefix)

pub returns-clause-whole : goal.returns-clause-whole
returns-clause-whole g c =
    let programs = text_bytes (name_in c.args.request.now.program) (g.R.Read.remaining c.args.reader.now) (g.O.Environment.bytes c.args.files.now) in
    let prefix = known_prefix trace_read_limit _ programs _ (c.in_ok-program.ensures.known (g.R.Read.remaining c.args.reader.now)) c.in_ok-input.ensures.prefix in
    let told = c.in_ok-printed-in-Err.ensures in (
      c.in_ok-printed-in-Err.printed.text.items,
      refusal_printed c.args.request.now.unit programs _ _ prefix c.deref.ensures.value c.in-Err.fault.line c.in-Err.fault.why (c.in-Err.ensures.refused told.0) c.args.request.now.times _ _ told.1 told.2,
      rw c.deref-in-Err.ensures.value at c.in_ok-write_text-in-Err.ensures.whole,
    )
