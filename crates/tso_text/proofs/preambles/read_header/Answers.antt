use Rattle.std.proofs.Common.{sym, ◌∙◌, subst}
use Rattle.tso_text.proofs.PreambleFacts.{alone_begun, alone_refused, alone_other, alone_none}
use Rattle.tso_text.proofs.preambles.read_header.Goals as goal
use Rattle.tso_text.proofs.preambles.read_header.Goals.{in_default-via-in-Ok+else-eq, in_default-via-in_default}
use Rattle.line_text.specs.Lines.{parts_of}
use Rattle.tso_text.specs.Internal.Preambles.{header_alone}
use Rattle.tso_text.specs.Lines.{whole_lines}
use Rattle.tso_text.specs.Internal.Begun.{HasBegun}

pub returns-in-Ok-clause-begun : goal.returns-in-Ok-clause-begun
returns-in-Ok-clause-begun c =
    subst (λ s. HasBegun (header_alone c.args.header.now (whole_lines (parts_of c.args.text.now))) c.args.text.now s 1 c.in-Ok.rest.now) (sym c.of_order.ensures)
    (alone_begun c.args.header.now c.args.text.now c.in-Ok.line.now c.in-Ok.rest.now c.in-Ok.ensures.line (sym c.eq.ensures ∙ c.if-eq.true) c.in-Ok.ensures.shorter)

pub returns-in_default-clause-refused : goal.returns-in_default-clause-refused
returns-in_default-clause-refused c = elim c.in_default.branch [
  | in_default-via-in-Ok+else-eq w ↦ alone_refused c.args.header.now c.args.text.now (alone_other c.args.header.now c.args.text.now w.in-Ok.line.now w.in-Ok.rest.now w.in-Ok.ensures.line (sym w.eq.ensures ∙ w.if-eq.false))
  | in_default-via-in_default w ↦ alone_refused c.args.header.now c.args.text.now (alone_none c.args.header.now c.args.text.now w.in_default.ensures.none)
]
