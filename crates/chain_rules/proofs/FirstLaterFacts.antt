-- The first item of a list with what all after it have, found by halves.
use Rattle.std.proofs.Common.{◌≡◌, inl, inr, ℕ, ◌+◌, ◌<◌, ◌≤◌, Option, None, Some, MatchOption, List, length, get_or, sym, subst, arith}
use Rattle.std.proofs.lemmas.Bool.{cases_eq, cases_order}
use Rattle.std.proofs.lemmas.List.Elements.{Contains-get_or}
use Rattle.bitsets.specs.Rows.{IsListOf}
use Rattle.chain_reach.specs.declared.types.Groups.{Groups}
use Rattle.chain_reach.specs.Groups.{IsIn, IsFirstFrom}
use Rattle.chain_reach.proofs.ListFacts.{ascending_at, contains_place}
use Rattle.tso_ops.specs.Values.{TraceValue}
use Rattle.tso_ops.specs.Events.{Earlier}
use Rattle.tso_rules.specs.Rows.{IsLater}
use Rattle.chain_rules.specs.Chains.{AreChainsOf}
use Rattle.chain_rules.specs.Internal.BaseJoins.{IsAfter, IsFirstAfter, IsFirstLater}
use Rattle.tso_rules.proofs.BaseFacts.{later_earlier}
use Rattle.chain_rules.proofs.ProgramOrderFacts.{after_greater, after_later, later_along, earlier_along, together_in}

-- No item below low has it, and all from high on have it.
pub record IsCutWithin (list : List ℕ) (Of : ℕ → Type 0) (low high : ℕ) : Type 0 where
  pub order : low ≤ high
  pub within : high ≤ length list
  pub none : (k : ℕ) → k < low → Of (get_or list k 0) → ⊥
  pub all : (k : ℕ) → high ≤ k → k < length list → Of (get_or list k 0)

-- Where an item has it, so have those after it.
pub record Rises (list : List ℕ) (Of : ℕ → Type 0) : Type 0 where
  pub rises : (i j : ℕ) → i < j → j < length list → Of (get_or list i 0) → Of (get_or list j 0)

pub within_below : (list : List ℕ) (Of : ℕ → Type 0) (low high middle : ℕ) → Rises list Of → IsCutWithin list Of low high → low ≤ middle → middle < high → Of (get_or list middle 0) →
    IsCutWithin list Of low middle
within_below list Of low high middle up is from to of = record {
  order = from;
  within = (let end = is.within in omega (arith, end, to));
  none = is.none;
  all = λ k more less. elim (cases_eq k middle) [
    | inl e ↦ subst (λ n. Of (get_or list n 0)) (sym e) of
    | inr ne ↦ up.rises middle k (omega (arith, more, ne)) less of
  ];
}

pub within_above : (list : List ℕ) (Of : ℕ → Type 0) (low high middle : ℕ) → Rises list Of → IsCutWithin list Of low high → low ≤ middle → middle < high → (Of (get_or list middle 0) → ⊥) →
    IsCutWithin list Of (middle + 1) high
within_above list Of low high middle up is from to not = record {
  order = omega (arith, to);
  within = is.within;
  none = λ k less of. elim (cases_eq k middle) [
    | inl e ↦ not (subst (λ n. Of (get_or list n 0)) e of)
    | inr ne ↦ not (up.rises k middle (omega (arith, less, ne)) (let end = is.within in omega (arith, end, to)) of)
  ];
  all = is.all;
}

-- what holds of the list of a chain after a store
pub list_earlier : (t : TraceValue) (g : Groups) → AreChainsOf t g → (d u v : ℕ) → IsIn g d v → Earlier t u v → (list : List ℕ) → IsListOf list (IsIn g d) →
    (k : ℕ) → k < length list → u < get_or list k 0 → Earlier t u (get_or list k 0)
list_earlier t g chains d u v inside earlier list is k low more =
    earlier_along t g chains u v (get_or list k 0) (together_in g d v (get_or list k 0) inside (is.only (get_or list k 0) (Contains-get_or list k 0 low))) more earlier

pub list_rises : (t : TraceValue) (g : Groups) → AreChainsOf t g → (d u : ℕ) (list : List ℕ) → IsListOf list (IsIn g d) →
    (i j : ℕ) → i < j → j < length list → IsLater t u (get_or list i 0) → IsLater t u (get_or list j 0)
list_rises t g chains d u list is i j less low later =
    let at_i = is.only (get_or list i 0) (Contains-get_or list i 0 (omega (arith, less, low))) in
    let at_j = is.only (get_or list j 0) (Contains-get_or list j 0 low) in
    later_along t g chains u (get_or list i 0) (get_or list j 0) (together_in g d (get_or list i 0) (get_or list j 0) at_i at_j) (ascending_at list is.ascending i j less low) later

-- the first of the list is the first of the chain
pub first_of_list : (t : TraceValue) (g : Groups) (d u v : ℕ) (list : List ℕ) → (u ≡ 0 → ⊥) → IsListOf list (IsIn g d) → IsFirstLater t list u v → IsFirstAfter t g d u v
first_of_list t g d u v list not is first = record {
  inside = subst (IsIn g d) first.item (is.only (get_or list first.place 0) (Contains-get_or list first.place 0 first.low));
  after = inr first.later;
  least = λ w inside after. (let place = contains_place list w (is.all w inside) in
      let at : get_or list place.0 0 ≡ w = place.2 in
      let here : get_or list first.place 0 ≡ v = first.item in
      elim (cases_order place.0 first.place) [
        | inl e ↦ (let same : get_or list first.place 0 ≡ w = subst (λ k. get_or list k 0 ≡ w) e at in omega (arith, here, same))
        | inr (inl before) ↦ absurd (first.none place.0 before (subst (IsLater t u) (sym at) (after_later t u w not after)))
        | inr (inr more) ↦ (let up = ascending_at list is.ascending first.place place.0 more place.1 in omega (arith, up, at, here))
      ]);
}

pub none_of_list : (t : TraceValue) (g : Groups) (d u : ℕ) (list : List ℕ) → (u ≡ 0 → ⊥) → IsListOf list (IsIn g d) →
    ((k : ℕ) → k < length list → IsLater t u (get_or list k 0) → ⊥) → (v : ℕ) → IsIn g d v → IsAfter t u v → ⊥
none_of_list t g d u list not is none v inside after =
    let place = contains_place list v (is.all v inside) in
    none place.0 place.1 (subst (IsLater t u) (sym place.2) (after_later t u v not after))

-- the first number from the next on is the first that comes after, if it does
pub first_is_after : (t : TraceValue) (g : Groups) (d u v : ℕ) → IsFirstFrom g d (u + 1) v → IsAfter t u v → IsFirstAfter t g d u v
first_is_after t g d u v first after = record {
  inside = first.inside;
  after = after;
  least = λ w inside later. first.least w inside (let less = after_greater t u w later in omega (arith, less));
}

-- where it is not program-later, no number of the chain is
pub none_after : (t : TraceValue) (g : Groups) → AreChainsOf t g → (d u v : ℕ) → (u ≡ 0 → ⊥) → IsFirstFrom g d (u + 1) v → (Earlier t u v → ⊥) → (w : ℕ) → IsIn g d w → IsAfter t u w → ⊥
none_after t g chains d u v not first other w inside after =
    other (earlier_along t g chains u w v (together_in g d w v inside first.inside) (let from = first.from in omega (arith, from)) (later_earlier t u w (after_later t u w not after)))

-- what a search of the list says of the chain
pub found_in_list : (t : TraceValue) (g : Groups) (d u : ℕ) (list : List ℕ) → (u ≡ 0 → ⊥) → IsListOf list (IsIn g d) → (found : Option ℕ) →
    MatchOption found ((k : ℕ) → k < length list → IsLater t u (get_or list k 0) → ⊥) (IsFirstLater t list u) →
    MatchOption found ((v : ℕ) → IsIn g d v → IsAfter t u v → ⊥) (IsFirstAfter t g d u)
found_in_list t g d u list not is None none = none_of_list t g d u list not is none
found_in_list t g d u list not is (Some v) first = first_of_list t g d u v list not is first
