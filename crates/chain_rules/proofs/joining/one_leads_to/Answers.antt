use Rattle.std.proofs.Common.{◌≤◌, length, get_or, inl, inr, refl, sym, subst, arith}
use Rattle.std.specs.Prelude.{Contains}
use Rattle.std.proofs.lemmas.Bool.{both_ways, false≢true}
use Rattle.std.proofs.lemmas.List.{take_more, take_all}
use Rattle.std.proofs.lemmas.List.Elements.{Contains-get_or, Contains-push_cases}
use Rattle.chain_reach.specs.Leading.{Leads}
use Rattle.std.proofs.Common.{take}
use Rattle.chain_rules.proofs.joining.one_leads_to.Goals as goal

pub leads-requires-clause-from : goal.leads-requires-clause-from
leads-requires-clause-from c = c.requires.from (get_or c.args.row.now c.loop-v.v-index 0) (Contains-get_or c.args.row.now c.loop-v.v-index 0 c.loop-v-test.true)

pub returns-then-leads : goal.returns-then-leads
returns-then-leads c =
    let row = c.args.row.now in
    let i = c.loop-v.v-index in
    (λ is. (get_or row i 0, Contains-get_or row i 0 c.loop-v-test.true, c.leads.ensures.0 c.if-leads.true), λ found. refl)

pub loop-v-preserved : goal.loop-v-preserved
loop-v-preserved c = λ v has leads.
    let row = c.args.row.now in
    let i = c.loop-v.v-index in
    elim (Contains-push_cases (take i row) (get_or row i 0) v (subst (λ list. Contains list v) (take_more row i 0 c.loop-v-test.true) has)) [
      | inl before ↦ c.loop-v.invariant v before leads
      | inr e ↦ both_ways c.leads.result c.if-leads.false (c.leads.ensures.1 (subst (λ n. Leads c.args.reach.now n c.args.u) (sym e) leads))
    ]

pub returns : goal.returns
returns c =
    let row = c.args.row.now in
    let all : length row ≤ c.loop-v.v-index = omega (arith, c.loop-v-test.false) in
    (λ is. absurd (false≢true is), λ found. absurd (c.loop-v.invariant found.0 (subst (λ list. Contains list found.0) (sym (take_all c.loop-v.v-index row all)) found.1) found.2))
