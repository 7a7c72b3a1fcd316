use Rattle.tso_ops.specs.Settings.{setting_of}
use Rattle.tso_text.proofs.ReadersFacts.{too_long, preamble_refused, begun_spells, begun_refused}
use Rattle.tso_text.proofs.readers.read_lists.Goals as goal

pub returns-then-text-gt-MAX_TEXT_BYTES-clause-refused : goal.returns-then-text-gt-MAX_TEXT_BYTES-clause-refused
returns-then-text-gt-MAX_TEXT_BYTES-clause-refused g c other = too_long g.T.Form.format c.args.text.now c.if-text-gt-MAX_TEXT_BYTES.true

pub returns-in-Err-clause-refused : goal.returns-in-Err-clause-refused
returns-in-Err-clause-refused g c other =
    preamble_refused g.T.Form.format c.args.text.now c.in-Err.fault.line c.in-Err.fault.why c.if-text-gt-MAX_TEXT_BYTES.false (c.in-Err.ensures.refused other)

pub returns-in-Ok-read_body-clause-found : goal.returns-in-Ok-read_body-clause-found
returns-in-Ok-read_body-clause-found g c =
    begun_spells g.T.Form.format c.args.text.now (setting_of c.in-Ok.begun.0) c.in-Ok.begun.1 c.in-Ok.begun.2.now _ c.if-text-gt-MAX_TEXT_BYTES.false c.in-Ok.ensures.begun c.in-Ok-read_body.ensures.found

pub returns-in-Err-read_body-clause-refused : goal.returns-in-Err-read_body-clause-refused
returns-in-Err-read_body-clause-refused g c other =
    begun_refused g.T.Form.format c.args.text.now (setting_of c.in-Ok.begun.0) c.in-Ok.begun.1 c.in-Ok.begun.2.now c.in-Err-read_body.fault.line c.in-Err-read_body.fault.why c.if-text-gt-MAX_TEXT_BYTES.false c.in-Ok.ensures.begun
    (c.in-Err-read_body.ensures.refused other)
