use Rattle.std.proofs.Common.{◌∙◌, ap, arith, false, sym, true}
use Rattle.std.specs.Prelude.{count_by, is_none, nat_le}
use Rattle.std.proofs.lemmas.Bool.{eqb-false, le-leb, lt-leb}
use Rattle.std.proofs.lemmas.Bool.Decides.{nat_tests}
use Rattle.command_line.proofs.FoundLemmas.{several_found}
use Rattle.command_line.proofs.found.batch_texts.Goals as goal

pub returns-then-inputs_among-gt1 : goal.returns-then-inputs_among-gt1
returns-then-inputs_among-gt1 c =
    several_found c.args.names.now c.in_ok-texts.texts.items (λ e. grind (arith, nat_tests, e)) c.in_ok-texts.ensures false
    (ap (λ n. nat_le n 1) (sym (c.inputs_among.ensures ∙ ap (count_by is_none) c.deref.ensures.value)) ∙ lt-leb c.inputs_among.result 1 c.if-inputs_among-gt1.true)

pub returns : goal.returns
returns c =
    several_found c.args.names.now c.in_ok-texts.texts.items (eqb-false _ _ (sym c.if-is_empty.ensures)) c.in_ok-texts.ensures true
    (ap (λ n. nat_le n 1) (sym (c.inputs_among.ensures ∙ ap (count_by is_none) c.deref.ensures.value)) ∙ le-leb c.inputs_among.result 1 c.if-inputs_among-gt1.false)
