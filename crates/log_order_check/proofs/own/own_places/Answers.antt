use Rattle.std.proofs.Common.{◌≡◌, ◌∙◌, ◌<◌, ◌+◌, ◌∷◌, [], refl, ap, subst, sym, ℕ, suc, length, Some, slice_index, max, arith}
use Rattle.std.specs.Prelude.{unwrap_or}
use Rattle.std.specs.HashMap.{Updates}
use Rattle.std.proofs.lemmas.List.{get_or_default, length-append}
use Rattle.program_chains.specs.declared.events.LogEvent.{LogEvent}
use Rattle.program_chains.specs.Internal.Keys.{event_in, no_event}
use Rattle.program_chains.proofs.EventFacts.{at_number}
use Rattle.log_order_check.specs.Internal.Most.{IsMost}
use Rattle.log_order_check.specs.Internal.Passed.{IsStoreToUpTo}
use Rattle.log_order_check.specs.Internal.Tables.{IsOwnStore, pair_looked_up, same_pair}
use Rattle.log_order_check.proofs.OwnFacts.{each_more, most_first, own_here, stores_kept, stores_met}
use Rattle.log_order_check.proofs.own.own_places.Goals as goal
use Rattle.log_order_check.proofs.own.own_places.Goals.{then-not-event+in_ok-insert, else-not-event}

pub loop-x-init : goal.loop-x-init
loop-x-init c = record {
  sized = ap length c.in_ok-own.ensures.items;
  stores = λ t are key.
      let empty = c.new-stores.ensures.empty in
      let none : pair_looked_up c.new-stores.result key ≡ 0 = rw empty refl in
      subst (IsMost (IsStoreToUpTo t 0 key) c.args.places.now) (sym none) (most_first t c.args.places.now _);
  each = λ t are y below. absurd (omega arith);
}

pub loop-x-preserved : goal.loop-x-preserved
loop-x-preserved c =
    let events = c.args.events.now in
    let places = c.args.places.now in
    let x = c.loop-x.x in
    let e = event_in events x in
    let stores = c.loop-x.stores in
    let within = c.loop-x-test.true in
    let pushed = c.in_ok-push.ensures.items in
    let read = get_or_default events x _ no_event within in
    let most : c.unwrap_or-most.result ≡ pair_looked_up stores (e.proc, e.a) =
    c.unwrap_or-most.ensures ∙ ap (λ o. unwrap_or o 0) (c.copied.ensures ∙ c.get.ensures.value) ∙ ap (λ (y : LogEvent). pair_looked_up stores (y.processor, y.address)) read in
    record {
      sized = ap length pushed ∙ length-append c.loop-x.own.items (c.unwrap_or-most.result ∷ []) ∙ ap (λ n. n + 1) c.loop-x.invariant.sized;
      stores = λ t are key.
          let at = at_number t events are x within in
          let before = c.loop-x.invariant.stores t are in
          let next : suc x ≡ x + 1 = omega arith in
          subst (λ n. IsMost (IsStoreToUpTo t n key) places (pair_looked_up c.if-not-event.stores key)) next (elim c.if-not-event.branch [
            | then-not-event+in_ok-insert w ↦
                let store = sym (ap (λ (y : LogEvent). y.load) read) ∙ w.if-not-event.true in
                let is_place : w.place_in.result ≡ slice_index places (suc x) = w.place_in.ensures ∙ ap (slice_index places) (sym next) in
                let value : Some w.max.result ≡ Some (max (pair_looked_up stores (e.proc, e.a)) w.place_in.result) = ap Some (w.max.ensures ∙ ap (λ m. max m w.place_in.result) most) in
                let updates : Updates same_pair stores w.insert.new.self (e.proc, e.a) (Some (max (pair_looked_up stores (e.proc, e.a)) w.place_in.result)) =
                subst (Updates same_pair stores w.insert.new.self (e.proc, e.a)) value
                (subst (λ (y : LogEvent). Updates same_pair stores w.insert.new.self (y.processor, y.address) (Some w.max.result)) read w.in_ok-insert.ensures.updates) in
                rw w.stores-is (stores_met t places x e at stores w.insert.new.self w.place_in.result is_place store updates before key)
            | else-not-event w ↦
                let load = sym (ap (λ (y : LogEvent). y.load) read) ∙ w.if-not-event.false in
                rw w.stores-is (stores_kept t places x e at key (pair_looked_up stores key) load (before key))
          ]);
      each = λ t are.
          let at = at_number t events are x within in
          let here : IsMost (IsOwnStore t (suc x)) places c.unwrap_or-most.result =
          subst (IsMost (IsOwnStore t (suc x)) places) (sym most) (own_here t places x e at (pair_looked_up stores (e.proc, e.a)) (c.loop-x.invariant.stores t are (e.proc, e.a))) in
          subst (λ xs. (y : ℕ) → y < x + 1 → IsMost (IsOwnStore t (suc y)) places (slice_index xs y)) (sym pushed)
          (each_more (λ y m. IsMost (IsOwnStore t (suc y)) places m) c.loop-x.own.items 0 c.unwrap_or-most.result x c.loop-x.invariant.sized here (c.loop-x.invariant.each t are));
    }
