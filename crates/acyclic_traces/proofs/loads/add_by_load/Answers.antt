use Rattle.std.proofs.Common.{◌≡◌, ◌↔◌, ◌<◌, ◌≤◌, ◌*◌, ◌%◌, ◌^◌, ◌||◌, ℕ, suc, Some, get_or, sym, subst, ◌∙◌, arith}
use Rattle.std.specs.Int.{bit_not, w64}
use Rattle.std.specs.Prelude.{bit_and, bit_or}
use Rattle.std.proofs.lemmas.Bool.{or_parts}
use Rattle.std.proofs.lemmas.Nat.{and_le_l}
use Rattle.bitsets.specs.Rows.{HasBit}
use Rattle.tso_ops.specs.Events.{event_total, IsStoreTo, IsEventOf}
use Rattle.tso_ops.proofs.NumberFacts.{IsStore-within, HasSource-within}
use Rattle.tso_ops.proofs.TableFacts.{source_load}
use Rattle.tso_rules.proofs.BaseFacts.{store_to}
use Rattle.acyclic_traces.specs.Internal.Pairs.{HasPair}
use Rattle.acyclic_traces.proofs.ReadFacts.{other_bit, upto_bit, earlier_own, own_earlier, read_given, seen_given, closed_for_reads}
use Rattle.acyclic_traces.proofs.loads.add_by_load.Goals as goal

pub overflow_shl-others : goal.overflow_shl-others
overflow_shl-others c = let low = HasSource-within c.args.trace.now c.args.l c.in-Some.s c.in-Some.ensures.is in omega (arith, low.1, c.requires)

pub overflow_shl-s : goal.overflow_shl-s
overflow_shl-s c = let low = HasSource-within c.args.trace.now c.args.l c.in-Some.s c.in-Some.ensures.is in omega (arith, low.1, c.requires)

pub add_before-read-requires : goal.add_before-read-requires
add_before-read-requires c = let low = HasSource-within c.args.trace.now c.args.l c.in-Some.s c.in-Some.ensures.is in omega (arith, low.0, c.requires)

pub earlier-requires : goal.earlier-requires
earlier-requires c = let low = HasSource-within c.args.trace.now c.args.l c.in-Some.s c.in-Some.ensures.is in omega (arith, low.0, c.requires)

pub add_before-by_seen-requires : goal.add_before-by_seen-requires
add_before-by_seen-requires c = let low = HasSource-within c.args.trace.now c.args.l c.in-Some.s c.in-Some.ensures.is in omega (arith, low.1, c.requires)

pub later-requires : goal.later-requires
later-requires c = let low = HasSource-within c.args.trace.now c.args.l c.in-Some.s c.in-Some.ensures.is in omega (arith, low.1, c.requires)

pub add_after-by_unseen-requires : goal.add_after-by_unseen-requires
add_after-by_unseen-requires c = let low = HasSource-within c.args.trace.now c.args.l c.in-Some.s c.in-Some.ensures.is in omega (arith, low.0, c.requires)

pub returns-clause-closed : goal.returns-clause-closed
returns-clause-closed c = λ nothing.
    let t = c.args.trace.now in
    let l = c.args.l in
    let s = c.in-Some.s in
    let rows = c.args.pairs.now in
    let event = c.in-Some-event.event in
    let at = sym c.event.ensures ∙ c.in-Some-event.is in
    let within = HasSource-within t l s c.in-Some.ensures.is in
    let s_low : s < 64 = omega (arith, within.1, c.requires) in
    let none = or_parts (c.add_before-read.result || c.add_before-by_seen.result) c.add_after-by_unseen.result nothing in
    let first = or_parts c.add_before-read.result c.add_before-by_seen.result none.0 in
    let same : c.add_before-read.new.self ≡ rows = c.add_before-read.ensures.same first.0 in
    let still : c.add_before-by_seen.new.self ≡ rows = c.add_before-by_seen.ensures.same first.1 ∙ same in
    let others = bit_and c.word_at.result (bit_not w64 (1 * 2 ^ s % 2 ^ 64)) in
    let own = bit_and c.word_at-2.result (bit_not w64 c.word_above.result) in
    let own_is = λ (k : ℕ) (low : k < 64). upto_bit c.processor_words.result.now (IsEventOf t event.proc) c.word_at-2.result c.word_above.result l k low (omega arith) c.processor_words.ensures c.word_at-2.ensures c.word_above.ensures in
    closed_for_reads t rows l s others own
    (λ v has. let both : Some v ≡ Some s = sym (c.source_number.ensures.all v has) ∙ c.in-Some.is in cc)
    (λ u store to other.
    let low : u < suc (event_total t) = IsStore-within t u store in
    other_bit c.store_words.result.now (IsStoreTo t event.a) c.word_at.result s u s_low (omega (arith, low, c.requires)) c.store_words.ensures c.word_at.ensures (store_to t l u event at store to) other)
    (λ u earlier.
    let of = earlier_own t u l event at earlier in
    let most : u ≤ l = of.1 in
    (own_is u (omega (arith, most, within.0, c.requires))).1 of)
    (λ mine store. let of = (own_is s s_low).0 mine in own_earlier t s l event at (source_load t l s c.in-Some.ensures.is) store of.0 of.1)
    (read_given rows own s l (omega (arith, and_le_l c.word_at-2.result (bit_not w64 c.word_above.result))) s_low (c.add_before-read.ensures.has first.0))
    (seen_given rows c.earlier.result own others s l (subst (λ now. (u : ℕ) → HasBit c.earlier.result u ↔ HasPair now u l) same c.earlier.ensures)
    (subst (λ now. (u : ℕ) → HasBit (bit_and (bit_or c.earlier.result own) others) u → HasPair now u s) same (c.add_before-by_seen.ensures.has first.1)))
    (subst (λ now. (v : ℕ) → HasBit (bit_and (get_or now s 0) others) v → HasPair now l v) still (rw c.later.ensures at (c.add_after-by_unseen.ensures.has none.1)))
