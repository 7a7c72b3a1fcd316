use Rattle.std.proofs.Common.{◌≡◌, ◌≢◌, ◌∙◌, ◌<◌, ℕ, suc, length, slice_index, sym, subst, arith}
use Rattle.std.proofs.lemmas.List.{with_items_is}
use Rattle.tso_ops.specs.Events.{event_total}
use Rattle.order_check.specs.Refusals.{IsFirst}
use Rattle.order_check.specs.Internal.Places.{ArePlaces}
use Rattle.order_check.proofs.PlaceFacts.{are_places, distinct_of_places, is_missing, listed_within}
use Rattle.order_check.proofs.places.places_of.Goals as goal

pub enter_places-requires-clause-within : goal.enter_places-requires-clause-within
enter_places-requires-clause-within c = λ k n at.
    omega (arith, listed_within c.args.trace.now c.args.order.now c.in_default.ensures k n at, c.node_count.ensures.count, c.in_ok-places.ensures.len, c.deref_mut.ensures.len)

pub returns-in-Some-first_missing : goal.returns-in-Some-first_missing
returns-in-Some-first_missing c =
    let t = c.args.trace.now in
    let order = c.args.order.now in
    let places = c.enter_places.new.places in
    let has = c.in_default-enter_places.ensures.told in
    let long : length places ≡ suc (event_total t) = omega (arith, c.in_default-enter_places.ensures.long, c.deref_mut.ensures.len, c.in_ok-places.ensures.len, c.node_count.ensures.count) in
    let read : c.deref.result.now ≡ places = c.deref.ensures.value ∙ with_items_is c.in_ok-places.places places (omega arith) in (
      c.in_default.ensures,
      distinct_of_places order places (λ k n at. omega (arith, long, listed_within t order c.in_default.ensures k n at)) has,
      is_missing t order places c.in_default.ensures has long c.in-Some-first_missing.n
          (subst (λ xs. IsFirst (λ m. (0 < m) × (m < length xs) × (slice_index xs m ≡ 0)) c.in-Some-first_missing.n) read c.in-Some-first_missing.ensures),
    )

pub returns-in-None : goal.returns-in-None
returns-in-None c =
    let t = c.args.trace.now in
    let order = c.args.order.now in
    let places = c.enter_places.new.places in
    let has = c.in_default-enter_places.ensures.told in
    let long : length places ≡ suc (event_total t) = omega (arith, c.in_default-enter_places.ensures.long, c.deref_mut.ensures.len, c.in_ok-places.ensures.len, c.node_count.ensures.count) in
    let kept = with_items_is c.in_ok-places.places places (omega arith) in
    let read : c.deref.result.now ≡ places = c.deref.ensures.value ∙ kept in
    subst (ArePlaces t order) (sym kept)
    (are_places t order places c.in_default.ensures has long (subst (λ xs. (n : ℕ) → 0 < n → n < length xs → slice_index xs n ≢ 0) read c.in-None.ensures))
