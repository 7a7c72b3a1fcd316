-- What the lines of an order say is true of each order that meets the axioms.
use Rattle.std.proofs.Common.{◌≡◌, ⊎_elim, inl, inr, ap, sym, ℕ, zero, suc, ◌<◌, List, Some, arith, IsTrue}
use Rattle.std.proofs.lemmas.Bool.Decides.{nat_tests}
use Rattle.tso_ops.specs.Values.{TraceValue}
use Rattle.tso_ops.specs.Limits.{IsTrace}
use Rattle.tso_ops.specs.Events.{IsLoad, HasSource, Earlier, SameValue}
use Rattle.tso_ops.proofs.NumberFacts.{event_above_zero, load_event, store_event}
use Rattle.tso_ops.proofs.TableFacts.{one_source}
use Rattle.tso_model.specs.Axioms.{place, IsBefore, IsUpTo, IsVisible, ReadsGreatest}
use Rattle.tso_model.proofs.Places.{place-with_init, before_not_up_to}
use Rattle.trace_explanation.specs.Names.{source_of}
use Rattle.trace_explanation.proofs.SourceFacts.{source-number}
use Rattle.decision_explanation.specs.Claims.{EntrySays}
use Rattle.decision_explanation.specs.Orders.{is_forwarded}

-- the test whether a store comes after a load
forwarded-to : (order : List ℕ) (l k : ℕ) → 0 < l → IsTrue (is_forwarded order l (suc k)) → IsBefore order l (suc k)
forwarded-to order l k above is =
    let less : place order l < place order (suc k) = grind (arith, nat_tests) in
    omega (arith, less, place-with_init order l above, place-with_init order (suc k) (omega arith))

forwarded-from : (order : List ℕ) (l k : ℕ) → 0 < l → IsBefore order l (suc k) → IsTrue (is_forwarded order l (suc k))
forwarded-from order l k above before =
    let less : place order l < place order (suc k) = omega (arith, before, place-with_init order l above, place-with_init order (suc k) (omega arith)) in
    grind (arith, nat_tests)

module _ (t : TraceValue) (order : List ℕ) (trace : IsTrace t) (l : ℕ) (load : IsLoad t l) where
  -- the source of the load is what the definition finds
  source_found : (s : ℕ) → HasSource t l s → source_of t l ≡ Some s
  source_found s source = sym (source-number t l (Some s) source (λ r other. ap Some (one_source t trace l s r source other)))

  -- a load sees an own store alone where that comes after it
  own_store : (s : ℕ) → IsVisible t order s l → IsBefore order l s → Earlier t s l
  own_store s visible before =
      ⊎_elim (λ up_to. absurd (before_not_up_to order l s (event_above_zero t l (load_event t l load)) before up_to)) (λ earlier. earlier) visible.2

  by_store : (s : ℕ) → IsVisible t order s l → SameValue t s l → ((other : ℕ) → IsVisible t order other l → IsUpTo order other s) → (r : ℕ) × (source_of t l ≡ Some r) × EntrySays t order l r
  by_store zero visible value greatest = let above = event_above_zero t zero (store_event t zero visible.0) in absurd (omega arith)
  by_store (suc k) visible value greatest =
      let above = event_above_zero t l (load_event t l load) in (
        suc k,
        source_found (suc k) (load, visible.0, visible.1, value),
        (visible, value, greatest, (forwarded-to order l k above, forwarded-from order l k above), own_store (suc k) visible),
      )

  pub entry_says : ReadsGreatest t order l → (s : ℕ) × (source_of t l ≡ Some s) × EntrySays t order l s
  entry_says (inl (first, none)) = (0, source_found 0 (load, first), (first, none))
  entry_says (inr (s, visible, value, greatest)) = by_store s visible value greatest
