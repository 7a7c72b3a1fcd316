use Rattle.std.proofs.Common.{◌≡◌, inl, inr, ◌%◌, subst, arith}
use Rattle.std.specs.Int.{trailing_zeros, w64}
use Rattle.bitsets.specs.Rows.{HasBit}
use Rattle.bitsets.proofs.WordFacts.{HasBit-lowest, HasBit-zero, clear_less}
use Rattle.bitsets.proofs.FillFacts.{SetsRows, SetsRows-start, SetsRows-step, SetsRows-end, Tells-start, Tells-step}
use Rattle.bitsets.proofs.tables.set_words.Goals as goal

pub set_word-fresh-requires-clause-row : goal.set_word-fresh-requires-clause-row
set_word-fresh-requires-clause-row c =
    let low = HasBit-lowest c.loop-left.left (omega arith) (omega arith) in
    omega (arith, c.requires.within (trailing_zeros w64 c.loop-left.left) low.0 (c.loop-left.invariant.0.some _ low.0 low.1))

pub returns-then-given-eq0-clause-added : goal.returns-then-given-eq0-clause-added
returns-then-given-eq0-clause-added c = record {
  bits = λ y x h. (λ s. inl s, λ s. elim s [ inl o ↦ o | inr g ↦ absurd (HasBit-zero (x % 64) (subst (λ n. HasBit n (x % 64)) (omega arith) g.3)) ]);
}

pub returns-then-given-eq0-clause-some : goal.returns-then-given-eq0-clause-some
returns-then-given-eq0-clause-some c = λ k h b. absurd (HasBit-zero k b)

pub returns-then-given-eq0-clause-fresh : goal.returns-then-given-eq0-clause-fresh
returns-then-given-eq0-clause-fresh c = λ y x hj b hi g. absurd (HasBit-zero (x % 64) (subst (λ n. HasBit n (x % 64)) (omega arith) g))

pub loop-left-init : goal.loop-left-init
loop-left-init c =
    let a = c.args in
    (SetsRows-start a.table.now a.width a.j a.rows a.i a.given, Tells-start a.table.now a.width a.j a.rows a.i a.given)

pub loop-left-smaller : goal.loop-left-smaller
loop-left-smaller c =
    let low = HasBit-lowest c.loop-left.left (omega arith) (omega arith) in
    clear_less c.loop-left.left (trailing_zeros w64 c.loop-left.left) low.0 low.1

pub loop-left-preserved : goal.loop-left-preserved
loop-left-preserved c =
    let a = c.args in (
      SetsRows-step a.table.now c.loop-left.table c.set_word-fresh.new.table a.width a.j a.rows a.i a.given c.loop-left.left
          c.loop-left.invariant.0 (omega arith) (omega arith) c.set_word-fresh.ensures.added,
      Tells-step a.table.now c.loop-left.table c.set_word-fresh.new.table a.width a.j a.rows a.i a.given c.loop-left.left c.loop-left.fresh c.set_word-fresh.result
          c.loop-left.invariant.1 c.requires.column (omega arith) (omega arith) c.set_word-fresh.ensures.added c.set_word-fresh.ensures.fresh,
    )

pub returns-clause-added : goal.returns-clause-added
returns-clause-added c =
    let a = c.args in
    let done : c.loop-left.left ≡ 0 = omega arith in
    SetsRows-end a.table.now c.loop-left.table a.width a.j a.rows a.i a.given
    (subst (λ n. SetsRows a.table.now c.loop-left.table a.width a.j a.rows a.i a.given n) done c.loop-left.invariant.0)

pub returns-clause-some : goal.returns-clause-some
returns-clause-some c = c.loop-left.invariant.1.only

pub returns-clause-fresh : goal.returns-clause-fresh
returns-clause-fresh c = λ y x hj b hi g.
    let done : c.loop-left.left ≡ 0 = omega arith in
    c.loop-left.invariant.1.had y x hj b (λ l. HasBit-zero (y % 64) (subst (λ n. HasBit n (y % 64)) done l)) hi g
