-- Places that cut a list in two, found by halves.
use Rattle.std.proofs.Common.{◌≡◌, inl, inr, ℕ, ◌+◌, ◌<◌, ◌≤◌, List, length, get_or, sym, subst, arith}
use Rattle.std.proofs.lemmas.Bool.{cases_eq, cases_lt, cases_order}
use Rattle.std.proofs.lemmas.List.Elements.{Contains-get_or}
use Rattle.bitsets.specs.Rows.{IsListOf}
use Rattle.chain_reach.proofs.ListFacts.{ascending_at, contains_place}
use Rattle.chain_reach.specs.Internal.Lists.{IsCut}

-- The cut is between low and high.
pub record CutWithin (list : List ℕ) (Of : ℕ → Type 0) (low high : ℕ) : Type 0 where
  pub order : low ≤ high
  pub within : high ≤ length list
  pub below : (k : ℕ) → k < low → Of (get_or list k 0)
  pub from : (k : ℕ) → high ≤ k → k < length list → Of (get_or list k 0) → ⊥

-- Where an item is of those described, so are those before it.
pub record ComeFirst (list : List ℕ) (Of : ℕ → Type 0) : Type 0 where
  pub first : (i j : ℕ) → i < j → j < length list → Of (get_or list j 0) → Of (get_or list i 0)

pub CutWithin-above : (list : List ℕ) (Of : ℕ → Type 0) (low high middle : ℕ) → ComeFirst list Of → CutWithin list Of low high → low ≤ middle → middle < high → Of (get_or list middle 0) →
    CutWithin list Of (middle + 1) high
CutWithin-above list Of low high middle first is from to of = record {
  order = omega (arith, to);
  within = is.within;
  below = λ k less. elim (cases_eq k middle) [
    | inl e ↦ subst (λ n. Of (get_or list n 0)) (sym e) of
    | inr ne ↦ first.first k middle (omega (arith, less, ne)) (let end = is.within in omega (arith, end, to)) of
  ];
  from = is.from;
}

pub CutWithin-below : (list : List ℕ) (Of : ℕ → Type 0) (low high middle : ℕ) → ComeFirst list Of → CutWithin list Of low high → low ≤ middle → middle < high → (Of (get_or list middle 0) → ⊥) →
    CutWithin list Of low middle
CutWithin-below list Of low high middle first is from to not = record {
  order = from;
  within = (let end = is.within in omega (arith, end, to));
  below = is.below;
  from = λ k more less of. elim (cases_eq k middle) [
    | inl e ↦ not (subst (λ n. Of (get_or list n 0)) e of)
    | inr ne ↦ not (first.first middle k (omega (arith, more, ne)) less of)
  ];
}

-- in an ascending list of numbers the item at the place of n is the first of them from n on
pub first_cut : (list : List ℕ) (Of : ℕ → Type 0) (n i : ℕ) → IsListOf list Of → IsCut list (λ x. x < n) i → i < length list →
    Of (get_or list i 0) × (n ≤ get_or list i 0) × ((w : ℕ) → Of w → n ≤ w → get_or list i 0 ≤ w)
first_cut list Of n i is cut low = (
  is.only (get_or list i 0) (Contains-get_or list i 0 low),
  elim (cases_lt (get_or list i 0) n) [ inl less ↦ absurd (cut.from i (omega arith) low less) | inr more ↦ more ],
  λ w of more. (let place = contains_place list w (is.all w of) in
      let at : get_or list place.0 0 ≡ w = place.2 in
      elim (cases_order place.0 i) [
        | inl e ↦ (let here : get_or list i 0 ≡ w = subst (λ k. get_or list k 0 ≡ w) e at in omega (arith, here))
        | inr (inl before) ↦ (let less = cut.below place.0 before in omega (arith, less, at, more))
        | inr (inr after) ↦ (let up = ascending_at list is.ascending i place.0 after place.1 in omega (arith, up, at))
      ]),
)

-- the item before that place is the last of them below n
pub last_cut : (list : List ℕ) (Of : ℕ → Type 0) (n i : ℕ) → IsListOf list Of → IsCut list (λ x. x < n) (i + 1) →
    Of (get_or list i 0) × (get_or list i 0 < n) × ((w : ℕ) → Of w → w < n → w ≤ get_or list i 0)
last_cut list Of n i is cut =
    let end = cut.within in (
      is.only (get_or list i 0) (Contains-get_or list i 0 (omega (arith, end))),
      cut.below i (omega arith),
      λ w of less. (let place = contains_place list w (is.all w of) in
          let at : get_or list place.0 0 ≡ w = place.2 in
          elim (cases_order place.0 i) [
            | inl e ↦ (let here : get_or list i 0 ≡ w = subst (λ k. get_or list k 0 ≡ w) e at in omega (arith, here))
            | inr (inl before) ↦ (let up = ascending_at list is.ascending place.0 i before (omega (arith, end)) in omega (arith, up, at))
            | inr (inr after) ↦ absurd (cut.from place.0 (omega (arith, after)) place.1 (omega (arith, less, at)))
          ]),
    )
