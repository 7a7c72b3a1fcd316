use Rattle.std.proofs.Common.{◌≡◌, ◌<◌, ◌≤◌, inl, inr, ℕ, ◌-◌, ◌*◌, ◌%◌, ◌^◌, List, length, get_or, set, subst, sym, arith, ◌∙◌}
use Rattle.std.specs.Prelude.{bit_or}
use Rattle.std.proofs.lemmas.Bool.{cases_eq}
use Rattle.std.proofs.lemmas.List.{length-set}
use Rattle.bitsets.specs.Rows.{HasBit}
use Rattle.bitsets.proofs.WordFacts.{HasBit-or}
use Rattle.tso_ops.specs.Events.{event_total}
use Rattle.tso_ops.proofs.NumberFacts.{event_at-within}
use Rattle.tso_rules.specs.Rows.{IsLater}
use Rattle.acyclic_traces.specs.Internal.Pairs.{HasPair}
use Rattle.acyclic_traces.proofs.PairFacts.{own_bit}
use Rattle.acyclic_traces.proofs.OrderFacts.{later_from, written_pair, other_pair, later_pair}
use Rattle.acyclic_traces.proofs.program_order.put_order.Goals as goal

pub loop-u-init : goal.loop-u-init
loop-u-init c = (
  c.requires.sized,
  λ v past low. absurd (omega (arith, past, low, c.node_count-u.ensures.count)),
  λ u v past later. absurd (let within : u ≤ event_total c.args.trace.now = (later_from c.args.trace.now u v later).1 in omega (arith, past, within, c.node_count-u.ensures.count)),
)

pub loop-u-preserved : goal.loop-u-preserved
loop-u-preserved c =
    let t = c.args.trace.now in
    let rows = c.loop-u.rows in
    let u : ℕ = c.loop-u.u - 1 in
    let word = bit_or c.later_word-later.result c.joined_rows.result in
    let more : List ℕ = set rows u word in
    let first = bit_or (get_or more 0 0) (1 * 2 ^ u % 2 ^ 64) in
    let before = c.loop-u.invariant in
    let sized : length more ≡ 64 = length-set rows u word ∙ before.0 in
    let low : u < 64 = omega (arith, c.requires.few, c.loop-u-test.true) in (
      length-set more 0 first ∙ sized,
      λ v past within. written_pair more 0 first v (omega (arith, sized)) ((HasBit-or (get_or more 0 0) (1 * 2 ^ u % 2 ^ 64) v).1 (elim (cases_eq v u) [
        | inl same ↦ inr (subst (HasBit (1 * 2 ^ u % 2 ^ 64)) (sym same) (own_bit u low))
        | inr other ↦ inl (other_pair rows u word 0 v (λ same. omega (arith, same, c.loop-u-test.true)) (before.1 v (omega (arith, past, other)) within))
      ])),
      λ x v past later. other_pair more 0 first x v (λ none. let some : 0 < x = (later_from t x v later).0 in omega (arith, none, some)) (elim (cases_eq x u) [
        | inl same ↦ subst (λ n. HasPair more n v) (sym same)
            (later_pair t rows u c.later_word-later.result c.joined_rows.result c.requires.few before.0 low
            (λ k k_low edge. (c.later_word-later.ensures k k_low).1 (subst (IsLater t u) (omega arith) edge)) v (subst (λ n. IsLater t n v) same later))
        | inr other ↦ other_pair rows u word x v other (before.2 x v (omega (arith, past, other)) later)
      ]),
    )

pub returns-clause-order : goal.returns-clause-order
returns-clause-order c = λ u v given. elim given [
  | inl init ↦ (let at = event_at-within c.args.trace.now v init.1.0 init.1.1 in
      let some : 0 < v = at.0 in
      let most : v ≤ event_total c.args.trace.now = at.1 in
      subst (λ n. HasPair c.loop-u.rows n v) (sym init.0) (c.loop-u.invariant.1 v (omega (arith, some, c.loop-u-test.false)) (omega (arith, most))))
  | inr later ↦ (let some : 0 < u = (later_from c.args.trace.now u v later).0 in c.loop-u.invariant.2 u v (omega (arith, some, c.loop-u-test.false)) later)
]
