use Rattle.std.proofs.Common.{sym, ◌∙◌, refl, arith, ◌+◌, drop, get_or}
use Rattle.std.proofs.lemmas.List.{drop_more, drop_all}
use Rattle.line_text.proofs.NumberFacts.{number-not_canonical, number-canonical, number_after-nil, number_after-digit, number_after-refused, number_with-fits}
use Rattle.line_text.proofs.numbers.number_of.Goals as goal

pub returns-then-not-is_canonical : goal.returns-then-not-is_canonical
returns-then-not-is_canonical c = sym (number-not_canonical c.args.token.now (sym c.is_canonical.ensures ∙ c.if-not-is_canonical.true))

pub loop-byte-init : goal.loop-byte-init
loop-byte-init c = record { read = refl; fits = omega arith }

pub returns-in_err-value : goal.returns-in_err-value
returns-in_err-value c =
    let token = c.args.token.now in
    let i = c.loop-byte.byte-index in
    let refused = number_after-refused c.loop-byte.value _ (drop (i + 1) token) (sym c.with_digit.ensures ∙ c.in_err-value.was) in
    c.from_residual.ensures
    ∙ sym (number-canonical token (sym c.is_canonical.ensures ∙ c.if-not-is_canonical.false) ∙ c.loop-byte.invariant.read ∙ rw (drop_more token i 0 c.loop-byte-test.true) refused)

pub loop-byte-preserved : goal.loop-byte-preserved
loop-byte-preserved c =
    let token = c.args.token.now in
    let i = c.loop-byte.byte-index in
    let taken = sym c.with_digit.ensures ∙ c.in_ok-value.was in
    record {
      read = c.loop-byte.invariant.read ∙ rw (drop_more token i 0 c.loop-byte-test.true) (number_after-digit c.loop-byte.value c.in_ok-value.value _ (drop (i + 1) token) taken);
      fits = number_with-fits c.loop-byte.value (get_or token i 0) c.in_ok-value.value taken;
    }

pub returns : goal.returns
returns c =
    let token = c.args.token.now in
    sym (number-canonical token (sym c.is_canonical.ensures ∙ c.if-not-is_canonical.false) ∙ c.loop-byte.invariant.read
    ∙ rw (drop_all c.loop-byte.byte-index token c.loop-byte-test.false) (number_after-nil c.loop-byte.value c.loop-byte.invariant.fits))
