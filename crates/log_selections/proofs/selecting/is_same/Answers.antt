use Rattle.std.proofs.Common.{◌∙◌, string_bytes, subst, sym}
use Rattle.std.proofs.lemmas.Slice.Eq.{bytes_eq-Decides}
use Rattle.tso_text.proofs.TextLaws.{trace_laws}
use Rattle.tso_text.specs.Texts.{SpellsTrace}
use Rattle.log_selections.proofs.selecting.is_same.Goals as goal

pub returns : goal.returns
returns c same =
    let texts = (bytes_eq-Decides (string_bytes c.in_ok-print_trace.field-0) (string_bytes c.in_ok-print_trace-2.field-0)).0 (sym c.eq.ensures ∙ same) in (
      c.in_ok-print_trace.ensures.spelled.0,
      trace_laws.one_value (string_bytes c.in_ok-print_trace.field-0) c.args.trace.now c.args.other.now c.in_ok-print_trace.ensures.spelled
          (subst (λ text. SpellsTrace text c.args.other.now) (sym texts) c.in_ok-print_trace-2.ensures.spelled),
    )
