use Rattle.std.proofs.Common.{◌≡◌, ◌<◌, ◌+◌, ◌*◌, inl, inr, refl, subst, arith, rules}
use Rattle.std.specs.Int.{trailing_zeros, w64}
use Rattle.bitsets.proofs.WordFacts.{HasBit-lowest}
use Rattle.order_graph.proofs.AllPaths.{Joining, Joining-start, Joining-step, Joining-end, left_less}
use Rattle.order_graph.proofs.all_paths.join_word.Goals as goal

pub loop-left-init : goal.loop-left-init
loop-left-init c =
    let a = c.args in
    Joining-start a.nodes a.edges.width a.edges.words.now a.paths.now a.transposed.now a.x a.j c.requires.paths c.requires.transposed (search rules)

pub join-requires-clause-to : goal.join-requires-clause-to
join-requires-clause-to c =
    let a = c.args in
    let low = HasBit-lowest c.loop-left.left (omega arith) (omega arith) in
    let bound : trailing_zeros w64 c.loop-left.left < 64 = low.0 in
    c.requires.edges.within a.x (64 * a.j + trailing_zeros w64 c.loop-left.left) c.requires.row (omega arith) (c.loop-left.invariant.given (trailing_zeros w64 c.loop-left.left) low.0 low.1)

pub loop-left-smaller : goal.loop-left-smaller
loop-left-smaller c =
    let a = c.args in
    let v = 64 * a.j + trailing_zeros w64 c.loop-left.left in
    let low = HasBit-lowest c.loop-left.left (omega arith) (omega arith) in
    let bound : trailing_zeros w64 c.loop-left.left < 64 = low.0 in
    left_less a.edges.width c.join.new.table a.x a.j c.loop-left.left (omega arith) (omega arith) (search rules) ((c.join.ensures.added.bits a.x v (omega arith)).1 (inr (c.requires.row, inl refl, inl refl)))

pub loop-left-preserved : goal.loop-left-preserved
loop-left-preserved c =
    let a = c.args in
    Joining-step a.nodes a.edges.width a.edges.words.now a.paths.now c.loop-left.paths c.join.new.table c.loop-left.transposed c.join.new.transposed a.x a.j c.loop-left.left c.requires.edges c.loop-left.invariant
    c.requires.row c.requires.word (omega arith) (omega arith) (search rules) c.join.ensures.added c.join.ensures.transposed

pub returns-clause-joined : goal.returns-clause-joined
returns-clause-joined c =
    let a = c.args in
    let done : c.loop-left.left ≡ 0 = omega arith in
    Joining-end a.nodes a.edges.width a.edges.words.now a.paths.now c.loop-left.paths c.loop-left.transposed a.x a.j
    (subst (λ n. Joining a.nodes a.edges.width a.edges.words.now a.paths.now c.loop-left.paths c.loop-left.transposed a.x a.j n) done c.loop-left.invariant)
