use Rattle.std.proofs.Common.{◌-◌, sym, subst, arith}
use Rattle.std.specs.Prelude.{bit_and}
use Rattle.bitsets.proofs.ListFacts.{Listed, Listed-start, Listed-step, Listed-end}
use Rattle.bitsets.proofs.WordFacts.{drop_less}
use Rattle.bitsets.proofs.lists.push_marked.Goals as goal

pub loop-left-init : goal.loop-left-init
loop-left-init c = Listed-start c.args.marks.now c.args.list.now.items c.args.j c.word_at-left.result c.word_at-left.ensures c.requires.before

pub loop-left-smaller : goal.loop-left-smaller
loop-left-smaller c = drop_less c.loop-left.left (omega arith)

pub loop-left-preserved : goal.loop-left-preserved
loop-left-preserved c =
    subst (λ xs. Listed c.args.marks.now xs c.args.j (bit_and c.loop-left.left (c.loop-left.left - 1))) (sym c.in_ok-push.ensures.items)
    (Listed-step c.args.marks.now c.loop-left.list.items c.args.j c.loop-left.left c.loop-left.invariant (omega arith) (omega arith))

pub returns : goal.returns
returns c = Listed-end c.args.marks.now c.loop-left.list.items c.args.j c.loop-left.left (omega arith) c.loop-left.invariant
