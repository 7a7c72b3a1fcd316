-- Lemmas on the numbers that a row of new edges rests on.
use Rattle.std.proofs.Common.{◌≡◌, ◌↔◌, inl, inr, ℕ, suc, ◌<◌, ◌≤◌, Option, Some, None, List, length, get_or, sym, ap, subst, ◌∙◌, arith}
use Rattle.std.specs.Prelude.{Contains, MatchOption}
use Rattle.std.proofs.lemmas.Option.{same_Some}
use Rattle.std.proofs.lemmas.List.{get_or_default}
use Rattle.std.proofs.lemmas.List.Elements.{Contains-get_or}
use Rattle.bitsets.proofs.MarkFacts.{BySteps}
use Rattle.order_graph.specs.Digraphs.{Digraph, IsEdge}
use Rattle.order_paths.specs.Paths.{Reaches}
use Rattle.order_paths.proofs.Reach.{Reaches-edge, Reaches-mono}
use Rattle.tso_ops.specs.Values.{TraceValue}
use Rattle.tso_ops.specs.Events.{event_total, IsEvent, IsSwapLoad, HasSource}
use Rattle.tso_ops.proofs.NumberFacts.{event_above_zero, load_event, store_event, IsEvent-within, HasSource-within}
use Rattle.tso_ops.proofs.SwapFacts.{IsSwapLoad-within}
use Rattle.tso_ops.proofs.TableFacts.{source_load}
use Rattle.tso_cert.specs.declared.rules.InferredRule.{InferredRule}
use Rattle.tso_cert.specs.declared.rules.InferredRule.TheVariants.{LoadPast, StorePast, SwapBefore, SwapAfter}
use Rattle.tso_model.specs.Rules.{InferredBy}
use Rattle.tso_model.specs.NewEdges.{IsNew}
use Rattle.tso_rules.specs.Affected.{RestsOn, IsAffected}

-- the number of the store of a swap, where the load is one of a swap
pub swap_is : (t : TraceValue) (x : ℕ) (o : Option ℕ) → MatchOption o (IsSwapLoad t x → ⊥) (λ s. IsSwapLoad t x × (s ≡ suc x)) → (v : ℕ) →
    (o ≡ Some v) ↔ (IsSwapLoad t x × (v ≡ suc x))
swap_is t x None none v = (λ e. absurd cc, λ is. absurd (none is.0))
swap_is t x (Some s) found v = (λ e. (found.0, sym (same_Some s v e) ∙ found.1), λ is. ap Some (found.1 ∙ sym is.1))

-- what rests on a number is the number of an event
pub rests_within : (t : TraceValue) (x u : ℕ) → RestsOn t x u → u < suc (event_total t)
rests_within t x u (inl is) = subst (λ n. n < suc (event_total t)) (sym is.0) (IsEvent-within t x is.1)
rests_within t x u (inr (inl source)) = (HasSource-within t u x source).0
rests_within t x u (inr (inr swap)) = subst (λ n. n < suc (event_total t)) (sym swap.1) (IsSwapLoad-within t x swap.0).1

-- row u rests on the number at place k of the list
abbrev pub RestsAt : TraceValue → List ℕ → ℕ → ℕ → Type 0
RestsAt t grown k u = (k < length grown) × RestsOn t (get_or grown k 0) u

-- the rows that rest on the numbers at the places of the list are those affected
pub affected_is : (t : TraceValue) (grown : List ℕ) (count : ℕ) → length grown ≤ count → (u : ℕ) → BySteps (RestsAt t grown) count u ↔ IsAffected t grown u
affected_is t grown count whole u = (
  λ by. (get_or grown by.0 0, Contains-get_or grown by.0 0 by.2.0, by.2.1),
  λ is. let k = is.1.0 in
      let low : k < length grown = is.1.1 in
      (k, omega (arith, low, whole), (low, subst (λ x. RestsOn t x u) (sym (get_or_default grown k 0 is.0 low ∙ is.1.2)) is.2)),
)

-- a rule that gives an edge asks for a path from a number that the row rests on
pub rests_on_start : (t : TraceValue) (rule : InferredRule) (l u v x y : ℕ) → InferredBy t rule l u v x y → RestsOn t x u
rests_on_start t LoadPast l u v x y by = inl (sym by.4, subst (IsEvent t) (sym by.4) (store_event t u by.0))
rests_on_start t StorePast l u v x y by = inr (inl (subst (λ n. HasSource t n x) (sym by.0) by.3))
rests_on_start t SwapBefore l u v x y by = inl (sym by.4, subst (IsEvent t) (sym by.4) (store_event t u by.2))
rests_on_start t SwapAfter l u v x y by = inr (inr (subst (IsSwapLoad t) (sym by.4) by.0, by.1 ∙ ap suc (sym by.4)))

-- no rule gives an edge from `init`
pub from_init : (t : TraceValue) (rule : InferredRule) (l v x y : ℕ) → InferredBy t rule l 0 v x y → ⊥
from_init t LoadPast l v x y by = let low = event_above_zero t 0 (store_event t 0 by.0) in omega (arith, low)
from_init t StorePast l v x y by = let low = event_above_zero t l (load_event t l (source_load t l x by.3)) in let at = by.0 in omega (arith, low, at)
from_init t SwapBefore l v x y by = let low = event_above_zero t 0 (store_event t 0 by.2) in omega (arith, low)
from_init t SwapAfter l v x y by = let at = by.1 in omega (arith, at)

-- a row that rests on no number that reaches more than before gives no edge that it didn't give before
pub unaffected : (t : TraceValue) (grown : List ℕ) (old new : Digraph) (u : ℕ) → ((x y : ℕ) → IsEdge old x y → IsEdge new x y) →
    ((x y : ℕ) → (Contains grown x → ⊥) → Reaches (IsEdge new) x y → Reaches (IsEdge old) x y) → ((v : ℕ) → IsNew t (IsEdge old) u v → IsEdge new u v) →
    (IsAffected t grown u → ⊥) → (v : ℕ) → IsNew t (IsEdge new) u v → ⊥
unaffected t grown old new u more kept added apart v is =
    let p = is.0 in
    let rests = rests_on_start t p.0 p.1 u v p.2 p.3 p.4 in
    let path = kept p.2 p.3 (λ has. apart (p.2, has, rests)) p.5 in
    let before : IsNew t (IsEdge old) u v = ((p.0, p.1, p.2, p.3, p.4, path), λ reaches. is.1 (Reaches-mono (IsEdge old) (IsEdge new) more u v reaches)) in
    is.1 (Reaches-edge (IsEdge new) u v (added v before))
