use Rattle.std.proofs.Common.{◌≡◌, inl, inr, ℕ, ◌<◌, List, [], length, get_or, sym, subst, arith}
use Rattle.std.specs.Prelude.{Contains}
use Rattle.std.specs.Global.{Vec}
use Rattle.std.proofs.lemmas.Bool.{cases_eq, cases_lt}
use Rattle.std.proofs.lemmas.Bool.Decides.{nat_tests}
use Rattle.std.proofs.lemmas.List.{get_or_past, length-map}
use Rattle.std.proofs.lemmas.List.Elements.{Contains-get_or}
use Rattle.tso_ops.specs.Values.{rows}
use Rattle.tso_rules.proofs.VectorFacts.{row_at}
use Rattle.chain_rules.proofs.rounds.are_empty.Goals as goal

none_in : (list : List ℕ) (v : ℕ) → length list ≡ 0 → Contains list v → ⊥
none_in list v empty has = (let low = has.1 in omega (arith, low, empty))

pub returns-then-not-is_empty-clause-some : goal.returns-then-not-is_empty-clause-some
returns-then-not-is_empty-clause-some c = λ e.
    let made = c.args.made.now in
    let items = c.row-item.result.items in
    let row = row_at made c.loop-row.row-index c.row-item.result c.loop-row-test.true c.row-item.is in
    let some : 0 < length items = grind (arith, nat_tests, c.is_empty.ensures, c.if-not-is_empty.true, c.row-item.result.ok.0) in
    (c.loop-row.row-index, get_or items 0 0, c.loop-row-test.true, subst (λ list. Contains list (get_or items 0 0)) row (Contains-get_or items 0 0 some))

pub loop-row-preserved : goal.loop-row-preserved
loop-row-preserved c = λ i v low has.
    let made = c.args.made.now in
    let items = c.row-item.result.items in
    let row = row_at made c.loop-row.row-index c.row-item.result c.loop-row-test.true c.row-item.is in
    let none : length items ≡ 0 = grind (arith, nat_tests, c.is_empty.ensures, c.if-not-is_empty.false, c.row-item.result.ok.0) in
    elim (cases_eq i c.loop-row.row-index) [
      | inl e ↦ none_in items v none (subst (λ list. Contains list v) (sym row) (subst (λ n. Contains (get_or (rows made) n []) v) e has))
      | inr ne ↦ c.loop-row.invariant i v (omega (arith, low, ne)) has
    ]

pub returns-clause-none : goal.returns-clause-none
returns-clause-none c = λ e i v has.
    let made = c.args.made.now in
    let size = length-map made (λ (v : Vec ℕ). v.items) in
    elim (cases_lt i c.loop-row.row-index) [
      | inl low ↦ c.loop-row.invariant i v low has
      | inr past ↦ (let none : get_or (rows made) i [] ≡ [] = get_or_past (rows made) i [] (omega (arith, past, c.loop-row-test.false, size)) in
          let in_none = subst (λ list. Contains list v) none has in let low : in_none.0 < 0 = in_none.1 in omega (arith, low))
    ]
