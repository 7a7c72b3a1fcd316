use Rattle.std.proofs.Common.{◌≡◌, ◌<◌, ◌*◌, ◌%◌, ◌^◌, ℕ, suc, get_or, subst, sym, ◌∙◌, arith}
use Rattle.std.specs.Int.{bit_not, w64}
use Rattle.std.specs.Prelude.{bit_and}
use Rattle.std.proofs.lemmas.Bool.{or_parts}
use Rattle.bitsets.specs.Rows.{HasBit}
use Rattle.tso_ops.specs.Events.{event_total, IsStore}
use Rattle.tso_ops.proofs.NumberFacts.{IsStore-within}
use Rattle.tso_ops.proofs.SwapFacts.{IsSwapLoad-within}
use Rattle.acyclic_traces.specs.Internal.Pairs.{HasPair}
use Rattle.acyclic_traces.proofs.ReadFacts.{other_bit, before_given, closed_for_swap}
use Rattle.acyclic_traces.proofs.swaps.add_by_swap.Goals as goal

pub overflow_shl-others : goal.overflow_shl-others
overflow_shl-others c = let low = IsSwapLoad-within c.args.trace.now c.args.l c.in-Some.ensures.0 in omega (arith, low.1, c.in-Some.ensures.1, c.requires)

pub earlier-requires : goal.earlier-requires
earlier-requires c = let low = IsSwapLoad-within c.args.trace.now c.args.l c.in-Some.ensures.0 in omega (arith, low.1, c.in-Some.ensures.1, c.requires)

pub add_before-by_before-requires : goal.add_before-by_before-requires
add_before-by_before-requires c = let low = IsSwapLoad-within c.args.trace.now c.args.l c.in-Some.ensures.0 in omega (arith, low.0, c.requires)

pub later-requires : goal.later-requires
later-requires c = let low = IsSwapLoad-within c.args.trace.now c.args.l c.in-Some.ensures.0 in omega (arith, low.0, c.requires)

pub add_after-by_after-requires : goal.add_after-by_after-requires
add_after-by_after-requires c = let low = IsSwapLoad-within c.args.trace.now c.args.l c.in-Some.ensures.0 in omega (arith, low.1, c.in-Some.ensures.1, c.requires)

pub returns-clause-closed : goal.returns-clause-closed
returns-clause-closed c = λ nothing.
    let t = c.args.trace.now in
    let l = c.args.l in
    let rows = c.args.pairs.now in
    let store = c.in-Some.store in
    let is : store ≡ suc l = c.in-Some.ensures.1 in
    let within = IsSwapLoad-within t l c.in-Some.ensures.0 in
    let low : store < 64 = omega (arith, within.1, is, c.requires) in
    let none = or_parts c.add_before-by_before.result c.add_after-by_after.result nothing in
    let same : c.add_before-by_before.new.self ≡ rows = c.add_before-by_before.ensures.same none.0 in
    let others = bit_and c.word_at.result (bit_not w64 (1 * 2 ^ store % 2 ^ 64)) in
    closed_for_swap t rows l others
    (λ u to other.
    let u_low : u < suc (event_total t) = IsStore-within t u to in
    other_bit c.all_store_words.result.now (IsStore t) c.word_at.result store u low (omega (arith, u_low, c.requires)) c.all_store_words.ensures c.word_at.ensures to (λ e. other (e ∙ is)))
    (λ u of has. before_given rows c.earlier.result others store l c.earlier.ensures (c.add_before-by_before.ensures.has none.0) u of (subst (HasPair rows u) (sym is) has))
    (λ v both. subst (λ n. HasPair rows n v) is
    (subst (λ now. (x : ℕ) → HasBit (bit_and (get_or now l 0) others) x → HasPair now store x) same (rw c.later.ensures at (c.add_after-by_after.ensures.has none.1)) v both))
