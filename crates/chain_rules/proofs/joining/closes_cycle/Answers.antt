use Rattle.std.proofs.Common.{◌≡◌, ◌∙◌, ℕ, ◌<◌, [], length, get_or, inl, inr, refl, sym, ap, subst, arith}
use Rattle.std.specs.Prelude.{Contains}
use Rattle.std.proofs.lemmas.Bool.{both_ways, false≢true, cases_eq}
use Rattle.std.proofs.lemmas.List.{length-map}
use Rattle.std.specs.Global.{Vec}
use Rattle.tso_ops.specs.Values.{rows}
use Rattle.chain_reach.specs.Leading.{Leads}
use Rattle.tso_rules.proofs.VectorFacts.{row_at}
use Rattle.chain_rules.proofs.JoinedFacts.{listed_at}
use Rattle.chain_rules.proofs.joining.closes_cycle.Goals as goal

pub one_leads_to-requires-clause-to : goal.one_leads_to-requires-clause-to
one_leads_to-requires-clause-to c =
    c.requires.numbers_within c.loop-i.i (let size = length-map c.args.made.now (λ (v : Vec ℕ). v.items) in omega (arith, c.loop-i-test.true, c.requires.count, size))

pub one_leads_to-requires-clause-from : goal.one_leads_to-requires-clause-from
one_leads_to-requires-clause-from c = λ v has.
    let made = c.args.made.now in
    let i = c.loop-i.i in
    let low : i < length (rows made) = (let size = length-map made (λ (v : Vec ℕ). v.items) in omega (arith, c.loop-i-test.true, size)) in
    let row : c.deref.result.now ≡ get_or (rows made) i [] = c.deref.ensures.value ∙ row_at made i c.index-made-i.result c.loop-i-test.true c.index-made-i.is in
    c.requires.within (get_or c.args.numbers.now i 0) v (listed_at c.args.numbers.now (rows made) i v c.deref.result.now low c.requires.count row has)

pub returns-then-one_leads_to : goal.returns-then-one_leads_to
returns-then-one_leads_to c =
    let made = c.args.made.now in
    let i = c.loop-i.i in
    let low : i < length (rows made) = (let size = length-map made (λ (v : Vec ℕ). v.items) in omega (arith, c.loop-i-test.true, size)) in
    let row : c.deref.result.now ≡ get_or (rows made) i [] = c.deref.ensures.value ∙ row_at made i c.index-made-i.result c.loop-i-test.true c.index-made-i.is in
    let found = c.one_leads_to.ensures.0 c.if-one_leads_to.true in
    record { closes = (λ is. (get_or c.args.numbers.now i 0, found.0, listed_at c.args.numbers.now (rows made) i found.0 c.deref.result.now low c.requires.count row found.1, found.2), λ closes. refl) }

pub loop-i-preserved : goal.loop-i-preserved
loop-i-preserved c = λ u v listed leads.
    let made = c.args.made.now in
    let i = c.loop-i.i in
    let row : c.deref.result.now ≡ get_or (rows made) i [] = c.deref.ensures.value ∙ row_at made i c.index-made-i.result c.loop-i-test.true c.index-made-i.is in
    elim (cases_eq listed.0 i) [
      | inl e ↦ (let at : get_or c.args.numbers.now i 0 ≡ u = ap (λ n. get_or c.args.numbers.now n 0) (sym e) ∙ listed.2 in
          let has : Contains c.deref.result.now v = subst (λ list. Contains list v) (sym row) (subst (λ n. Contains (get_or (rows made) n []) v) e listed.3) in
          both_ways c.one_leads_to.result c.if-one_leads_to.false (c.one_leads_to.ensures.1 (v, has, subst (λ n. Leads c.args.reach.now v n) (sym at) leads)))
      | inr ne ↦ (let low = listed.1 in c.loop-i.invariant u v (listed.0, omega (arith, low, ne), listed.2, listed.3) leads)
    ]

pub returns : goal.returns
returns c =
    record {
      closes = (
        λ is. absurd (false≢true is),
        λ found. absurd (let listed = found.2 in let low = listed.1 in
            let size = length-map c.args.made.now (λ (v : Vec ℕ). v.items) in
            c.loop-i.invariant found.0 found.1 (listed.0, omega (arith, low, c.loop-i-test.false, c.requires.count, size), listed.2, listed.3) found.3),
      );
    }
