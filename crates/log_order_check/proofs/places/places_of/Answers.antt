use Rattle.std.proofs.Common.{◌≡◌, ◌≢◌, ◌∙◌, ◌<◌, ℕ, suc, length, slice_index, sym, subst, arith}
use Rattle.std.proofs.lemmas.List.{with_items_is}
use Rattle.std.proofs.lemmas.Option.{slice_get_within}
use Rattle.tso_ops.specs.Events.{event_total}
use Rattle.order_check.specs.Refusals.{IsFirst}
use Rattle.order_check.specs.Internal.Places.{ArePlaces}
use Rattle.order_check.proofs.PlaceFacts.{are_places, distinct_of_places, is_missing}
use Rattle.program_chains.proofs.EventFacts.{total}
use Rattle.log_order_check.proofs.places.places_of.Goals as goal

pub overflow_add-result-in-Some-enter_places : goal.overflow_add-result-in-Some-enter_places
overflow_add-result-in-Some-enter_places c =
    let repeated = c.in-Some-enter_places.ensures.told.0 in
    omega (arith, slice_get_within c.args.order.now c.in-Some-enter_places.k repeated.0 repeated.1)

pub returns-in-Some-enter_places : goal.returns-in-Some-enter_places
returns-in-Some-enter_places c = λ t are. (c.in_default.ensures.told t (sym (total t c.args.events.now are)), (c.in-Some-enter_places.k, omega arith, c.in-Some-enter_places.ensures.told))

pub returns-in-Some-first_missing : goal.returns-in-Some-first_missing
returns-in-Some-first_missing c = λ t are.
    let order = c.args.order.now in
    let places = c.enter_places.new.places in
    let has = c.in_default-enter_places.ensures.told in
    let count = total t c.args.events.now are in
    let events = c.in_default.ensures.told t (sym count) in
    let long : length places ≡ suc (event_total t) = omega (arith, c.in_default-enter_places.ensures.long, c.deref_mut.ensures.len, c.in_ok-places.ensures.len, count) in
    let read : c.deref.result.now ≡ places = c.deref.ensures.value ∙ with_items_is c.in_ok-places.places places (omega arith) in (
      events,
      distinct_of_places order places (λ k n at. omega (arith, long, count, c.in_default.ensures.within k n at)) has,
      is_missing t order places events has long c.in-Some-first_missing.n
          (subst (λ xs. IsFirst (λ m. (0 < m) × (m < length xs) × (slice_index xs m ≡ 0)) c.in-Some-first_missing.n) read c.in-Some-first_missing.ensures),
    )

pub returns-in-None : goal.returns-in-None
returns-in-None c = λ t are.
    let order = c.args.order.now in
    let places = c.enter_places.new.places in
    let has = c.in_default-enter_places.ensures.told in
    let count = total t c.args.events.now are in
    let long : length places ≡ suc (event_total t) = omega (arith, c.in_default-enter_places.ensures.long, c.deref_mut.ensures.len, c.in_ok-places.ensures.len, count) in
    let kept = with_items_is c.in_ok-places.places places (omega arith) in
    let read : c.deref.result.now ≡ places = c.deref.ensures.value ∙ kept in
    subst (ArePlaces t order) (sym kept)
    (are_places t order places (c.in_default.ensures.told t (sym count)) has long (subst (λ xs. (n : ℕ) → 0 < n → n < length xs → slice_index xs n ≢ 0) read c.in-None.ensures))
