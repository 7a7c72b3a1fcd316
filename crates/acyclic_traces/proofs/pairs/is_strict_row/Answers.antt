use Rattle.std.proofs.Common.{◌≡◌, ◌-◌, inl, inr, ℕ, get_or, refl, arith}
use Rattle.std.specs.Int.{bit_not, trailing_zeros, w64}
use Rattle.std.specs.Prelude.{bit_and}
use Rattle.std.proofs.lemmas.Bool.{both_ways}
use Rattle.std.proofs.lemmas.Nat.{and_le_l}
use Rattle.bitsets.proofs.WordFacts.{HasBit-and, HasBit-lowest}
use Rattle.acyclic_traces.specs.Internal.Pairs.{HasPair}
use Rattle.acyclic_traces.specs.Internal.Rows.{IsCovered}
use Rattle.acyclic_traces.proofs.PairFacts.{covered, looked_start, looked_more, looked_without, looked_less, looked_all}
use Rattle.acyclic_traces.proofs.pairs.is_strict_row.Goals as goal

pub loop-left-init : goal.loop-left-init
loop-left-init c = (λ k bit. bit, looked_start (get_or c.args.rows.now c.args.u 0) (IsCovered c.args.rows.now c.args.u))

pub loop-left-smaller : goal.loop-left-smaller
loop-left-smaller c = looked_less c.loop-left.left _ (omega arith)

pub loop-left-preserved : goal.loop-left-preserved
loop-left-preserved c =
    let rows = c.args.rows.now in
    let u = c.args.u in
    let row = get_or rows u 0 in
    let left = c.loop-left.left in
    let v = trailing_zeros w64 left in
    let later = get_or rows v 0 in
    let none : bit_and later (bit_not w64 row) ≡ 0 = omega (arith, c.if-later-row-ne0.false) in
    let within = λ (w : ℕ) (has : HasPair rows v w). covered later row w (omega (arith, c.type_inv.rows v)) (omega (arith, c.type_inv.rows u)) none has in
    let pair : HasPair rows u v = c.loop-left.invariant.0 v (HasBit-lowest left (omega arith) (omega arith)).1 in (
      λ k bit. c.loop-left.invariant.0 k ((HasBit-and left (left - 1) k).0 ((HasBit-and (bit_and left (left - 1)) (bit_not w64 later) k).0 bit).0).0,
      looked_without row (bit_and left (left - 1)) later (IsCovered rows u) (omega (arith, and_le_l left (left - 1))) (omega (arith, c.type_inv.rows v))
          (λ k has. record { by = v; pair = pair; reaches = inr has; within = within })
          (looked_more row left (IsCovered rows u) (omega arith) (omega arith) (record { by = v; pair = pair; reaches = inl refl; within = within }) c.loop-left.invariant.1),
    )

pub returns : goal.returns
returns c = λ shown. record {
  irreflexive = λ self. both_ways c.has_pair.result c.if-has_pair.false (c.has_pair.ensures.1 self);
  covered = looked_all (get_or c.args.rows.now c.args.u 0) c.loop-left.left (IsCovered c.args.rows.now c.args.u) (omega (arith, c.loop-left-test.false)) c.loop-left.invariant.1;
}
