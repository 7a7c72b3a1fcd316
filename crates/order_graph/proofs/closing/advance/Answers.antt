use Rattle.std.proofs.Common.{◌/◌, inl, inr, IsTrue, not, refl, sym, subst, arith}
use Rattle.std.proofs.lemmas.Bool.{cases_eq, ne_eqb}
use Rattle.order_graph.proofs.ClosingFacts.{Advances, Advances-step, Advances-some}
use Rattle.order_graph.proofs.closing.advance.Goals as goal

pub loop-j-preserved : goal.loop-j-preserved
loop-j-preserved c =
    let a = c.args in
    Advances-step a.reached.now a.transposed.words.now a.seen.now c.loop-j.seen c.set_word-fresh.new.table a.levels.now c.loop-j.levels c.set_word.new.table a.transposed.width a.start a.row (a.start / 64) c.loop-j.j
    c.loop-j.all _ c.set_word-fresh.result c.loop-j.invariant (omega arith) refl c.set_word-fresh.ensures.added c.set_word-fresh.ensures.fresh c.set_word.ensures.added

pub returns-clause-some : goal.returns-clause-some
returns-clause-some c = λ y h l p.
    let a = c.args in
    elim (cases_eq c.loop-j.all 0) [
      | inl none ↦ absurd (Advances-some a.reached.now a.transposed.words.now a.seen.now c.loop-j.seen a.levels.now c.loop-j.levels a.transposed.width a.start a.row (a.start / 64) c.loop-j.j (omega arith)
          (subst (λ n. Advances a.reached.now a.transposed.words.now a.seen.now c.loop-j.seen a.levels.now c.loop-j.levels a.transposed.width a.start a.row (a.start / 64) c.loop-j.j n) none c.loop-j.invariant) y h l p)
      | inr some ↦ subst (λ b. IsTrue (not b)) (sym (ne_eqb c.loop-j.all 0 some)) refl
    ]
