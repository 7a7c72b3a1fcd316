use Rattle.std.proofs.Common.{sym, ◌∙◌, arith, ◌+◌, drop, get_or}
use Rattle.std.proofs.lemmas.Bool.{eqb-false, eqb-true}
use Rattle.std.proofs.lemmas.List.{drop_more, drop_all}
use Rattle.run_lines.proofs.HexadecimalFacts.{hexadecimal-none, hexadecimal-some, hexadecimal_after-digit, hexadecimal_after-nil, hexadecimal_after-refused, hexadecimal_with-fits}
use Rattle.run_lines.proofs.numerals.hexadecimal_of.Goals as goal

pub returns-then-is_empty : goal.returns-then-is_empty
returns-then-is_empty c = hexadecimal-none c.args.digits.now (eqb-true _ _ (sym c.is_empty.ensures ∙ c.if-is_empty.true))

pub loop-byte-init : goal.loop-byte-init
loop-byte-init c = record { read = hexadecimal-some c.args.digits.now (eqb-false _ _ (sym c.is_empty.ensures ∙ c.if-is_empty.false)); fits = omega arith }

pub returns-in_err-value : goal.returns-in_err-value
returns-in_err-value c =
    let digits = c.args.digits.now in
    let i = c.loop-byte.byte-index in
    let refused = hexadecimal_after-refused c.loop-byte.value _ (drop (i + 1) digits) (sym c.with_hexadecimal.ensures ∙ c.in_err-value.was) in
    c.from_residual.ensures ∙ sym (c.loop-byte.invariant.read ∙ rw (drop_more digits i 0 c.loop-byte-test.true) refused)

pub loop-byte-preserved : goal.loop-byte-preserved
loop-byte-preserved c =
    let digits = c.args.digits.now in
    let i = c.loop-byte.byte-index in
    let taken = sym c.with_hexadecimal.ensures ∙ c.in_ok-value.was in
    record {
      read = c.loop-byte.invariant.read ∙ rw (drop_more digits i 0 c.loop-byte-test.true) (hexadecimal_after-digit c.loop-byte.value c.in_ok-value.value _ (drop (i + 1) digits) taken);
      fits = hexadecimal_with-fits c.loop-byte.value (get_or digits i 0) c.in_ok-value.value taken;
    }

pub returns : goal.returns
returns c = sym (c.loop-byte.invariant.read ∙ rw (drop_all c.loop-byte.byte-index c.args.digits.now c.loop-byte-test.false) (hexadecimal_after-nil c.loop-byte.value c.loop-byte.invariant.fits))
