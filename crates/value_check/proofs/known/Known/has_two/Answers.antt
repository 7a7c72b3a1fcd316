use Rattle.std.proofs.Common.{◌≡◌, ◌∙◌, nat_eq, suc, ap, sym, subst, arith}
use Rattle.std.proofs.lemmas.Bool.{eq-eqb, false≢true}
use borrow.Author.Tests.{eqb-true}
use Rattle.tso_ops.specs.Events.{IsEvent}
use Rattle.value_check.proofs.AnswerFacts.{is_false, no_index, refuses}
use Rattle.value_check.proofs.CellFacts.{event_of_index}
use Rattle.value_check.proofs.EventFacts.{false_not, not_true}
use Rattle.value_check.proofs.known.Known.has_two.Goals as goal

pub returns-in_default : goal.returns-in_default
returns-in_default c = λ t steps known. refuses (λ two. no_index t c.args.self.now known.tables c.args.first c.in_default.ensures two.0)

pub returns-in_default-index_of : goal.returns-in_default-index_of
returns-in_default-index_of c = λ t steps known. refuses (λ two. no_index t c.args.self.now known.tables c.args.second c.in_default-index_of.ensures two.1)

pub returns : goal.returns
returns c = λ t steps known.
    let k = c.args.self.now in
    let u = c.in-Some.u in
    let v = c.in-Some-index_of.v in
    let first = c.in-Some.ensures.0 in
    let second = c.in-Some-index_of.ensures.0 in (
      λ is. (
        subst (IsEvent t) (sym first) (event_of_index t k known.tables u c.in-Some.ensures.1),
        subst (IsEvent t) (sym second) (event_of_index t k known.tables v c.in-Some-index_of.ensures.1),
        λ same. (let one : u ≡ v = omega (arith, first, second, same) in false≢true (sym (not_true (nat_eq u v) is) ∙ eq-eqb u v one)),
      ),
      λ two. false_not (nat_eq u v) (is_false (nat_eq u v) (λ is. two.2 (first ∙ ap suc (eqb-true u v is) ∙ sym second))),
    )
