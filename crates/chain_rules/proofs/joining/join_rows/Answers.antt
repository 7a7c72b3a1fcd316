use Rattle.std.proofs.Common.{◌≡◌, ◌∙◌, ℕ, ◌<◌, [], length, get_or, sym, subst, arith}
use Rattle.std.proofs.lemmas.List.{length-map}
use Rattle.std.specs.Global.{Vec}
use Rattle.tso_ops.specs.Values.{rows}
use Rattle.chain_reach.specs.Groups.{node_count}
use Rattle.chain_rules.specs.Internal.Joined.{JoinsRow}
use Rattle.tso_rules.proofs.VectorFacts.{row_at}
use Rattle.chain_rules.proofs.JoinedFacts.{JoinsBelow-start, JoinsBelow-step, JoinsBelow-end, next_rank, listed_at}
use Rattle.chain_rules.proofs.joining.join_rows.Goals as goal

pub loop-i-init : goal.loop-i-init
loop-i-init c = JoinsBelow-start c.args.reach.now c.args.numbers.now (rows c.args.made.now)

pub join_row-requires-clause-from : goal.join_row-requires-clause-from
join_row-requires-clause-from c =
    subst (λ g. get_or c.args.numbers.now c.loop-i.i 0 < node_count g) (sym c.loop-i.invariant.chains)
    (c.requires.numbers_within c.loop-i.i (let size = length-map c.args.made.now (λ (v : Vec ℕ). v.items) in omega (arith, c.loop-i-test.true, c.requires.count, size)))

pub join_row-requires-clause-to : goal.join_row-requires-clause-to
join_row-requires-clause-to c = λ v has.
    let made = c.args.made.now in
    let i = c.loop-i.i in
    let low : i < length (rows made) = (let size = length-map made (λ (v : Vec ℕ). v.items) in omega (arith, c.loop-i-test.true, size)) in
    let row : c.deref.result.now ≡ get_or (rows made) i [] = c.deref.ensures.value ∙ row_at made i c.index-made-i.result c.loop-i-test.true c.index-made-i.is in
    subst (λ g. v < node_count g) (sym c.loop-i.invariant.chains)
    (c.requires.within (get_or c.args.numbers.now i 0) v (listed_at c.args.numbers.now (rows made) i v c.deref.result.now low c.requires.count row has))

pub loop-i-preserved : goal.loop-i-preserved
loop-i-preserved c =
    let made = c.args.made.now in
    let i = c.loop-i.i in
    let row : c.deref.result.now ≡ get_or (rows made) i [] = c.deref.ensures.value ∙ row_at made i c.index-made-i.result c.loop-i-test.true c.index-made-i.is in
    JoinsBelow-step c.args.reach.now c.loop-i.reach c.join_row.new.reach c.args.numbers.now (rows made) i c.loop-i.invariant
    (subst (λ list. JoinsRow c.loop-i.reach c.join_row.new.reach (get_or c.args.numbers.now i 0) list) row c.join_row.ensures)

pub returns-clause-joined : goal.returns-clause-joined
returns-clause-joined c =
    let size = length-map c.args.made.now (λ (v : Vec ℕ). v.items) in
    JoinsBelow-end c.args.reach.now c.loop-i.reach c.args.numbers.now (rows c.args.made.now) c.loop-i.i c.loop-i.invariant (omega (arith, c.loop-i.auto.i-end, c.loop-i-test.false, c.requires.count, size))

pub returns-clause-next : goal.returns-clause-next
returns-clause-next c = λ t k rank least.
    let size = length-map c.args.made.now (λ (v : Vec ℕ). v.items) in
    next_rank t k c.args.reach.now c.loop-i.reach c.args.numbers.now (rows c.args.made.now) c.loop-i.i c.loop-i.invariant (omega (arith, c.loop-i.auto.i-end, c.loop-i-test.false, c.requires.count, size))
    c.chains-chains.ensures.transitive c.chains-chains.ensures.ordered rank least
