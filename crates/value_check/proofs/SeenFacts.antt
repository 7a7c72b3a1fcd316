-- Lemmas on the last stores that a load sees.
use Rattle.std.proofs.Common.{◌≡◌, ◌⊎◌, inl, inr, sym, subst, ℕ, suc, ◌-◌, ◌<◌, ◌≤◌, List, [], ◌∷◌, ◌++◌, length, map, slice_index, arith}
use Rattle.std.specs.List.{Contains}
use Rattle.std.proofs.lemmas.Bool.{cases_lt}
use Rattle.std.proofs.lemmas.List.{length-map}
use Rattle.std.proofs.lemmas.List.Elements.{Contains-append_left, Contains-get_or}
use Rattle.bitsets.specs.Rows.{IsListOf}
use Rattle.chain_reach.specs.Groups.{IsIn}
use Rattle.chain_reach.specs.Internal.Lists.{IsCut}
use Rattle.tso_ops.specs.Values.{TraceValue}
use Rattle.tso_ops.specs.Events.{Earlier, IsLoad, IsStore, SameAddress}
use Rattle.value_evidence.specs.declared.steps.ValueStep.{ValueStep}
use Rattle.value_evidence.specs.Candidates.{ComesBefore, IsProgramPair, SeesStore}
use Rattle.value_check.specs.declared.known.Known.{Known}
use Rattle.value_check.specs.Internal.Cells.{class_in}
use Rattle.value_check.specs.Internal.Known.{IsKnownBy, address_only}
use Rattle.value_check.specs.Internal.Settling.{AreInOrder, AreSeenFirst, IsLastOfCell, IsUpToInProgram}
use Rattle.value_check.proofs.CellFacts.{address_of_class, cell_in_order, cell_of_stores, class_of_member, index_below, index_of}
use Rattle.value_check.proofs.SettlingFacts.{earlier_joined, pair_earlier, path_from, up_to_index}

-- stores that are the last of a cell are so with one more
pub last_more : (t : TraceValue) (steps : List ValueStep) (k : Known) (load cell : ℕ) (stores : List ℕ) (x : ℕ) → IsLastOfCell t steps k load cell stores → IsLastOfCell t steps k load cell (stores ++ x ∷ [])
last_more t steps k load cell stores x last w among sees = let one = last w among sees in (one.0, Contains-append_left stores (x ∷ []) one.0 one.1, one.2)

module _ (t : TraceValue) (steps : List ValueStep) (k : Known) (known : IsKnownBy t steps k) (load cell : ℕ) (is_load : IsLoad t (suc load)) (in_class : IsIn k.addresses.classes (class_in k.addresses load) cell)
    (members : List ℕ) (list : IsListOf members (IsIn k.addresses.cells cell)) where
  keys : length (map address_only k.events.items) ≡ length k.events.items
  keys = length-map k.events.items address_only

  ordered : AreInOrder t members
  ordered = cell_in_order t k known.tables (map address_only k.events.items) k.addresses known.tables.addresses keys members cell list

  member : (i : ℕ) → i < length members → IsIn k.addresses.cells cell (slice_index members i)
  member i below = list.only (slice_index members i) (Contains-get_or members i 0 below)

  -- in a cell of the load's address the stores that it sees stand first
  pub seen_first : AreSeenFirst t steps load members
  seen_first i j less within sees = (store, address, by_cases sees.2)
    where
      in_i : IsIn k.addresses.cells cell (slice_index members i)
      in_i = member i (omega (arith, less, within))

      pair : IsProgramPair t (suc (slice_index members i)) (suc (slice_index members j))
      pair = ordered i j less within

      store : IsStore t (suc (slice_index members i))
      store = cell_of_stores t k known.tables (map address_only k.events.items) k.addresses known.tables.addresses keys cell (slice_index members j) (slice_index members i) (member j within) in_i sees.0

      address : SameAddress t (suc (slice_index members i)) (suc load)
      address =
          address_of_class t k known.tables (slice_index members i) load (omega (arith, in_i.0, known.tables.addresses.events, keys)) (index_below t k known.tables load (is_load.0, is_load.1))
          (class_of_member (map address_only k.events.items) k.reach.chains k.addresses known.tables.addresses (class_in k.addresses load) cell (slice_index members i) in_class in_i)

      by_cases : ComesBefore t steps (suc (slice_index members j)) (suc load) ⊎ Earlier t (suc (slice_index members j)) (suc load) →
          ComesBefore t steps (suc (slice_index members i)) (suc load) ⊎ Earlier t (suc (slice_index members i)) (suc load)
      by_cases (inl path) = inl (path_from t steps (suc (slice_index members i)) (suc (slice_index members j)) (suc load) (inr pair) path)
      by_cases (inr earlier) =
          inr (earlier_joined t (suc (slice_index members i)) (suc (slice_index members j)) (suc load) (pair_earlier t (suc (slice_index members i)) (suc (slice_index members j)) pair) earlier)

  -- where it sees none of the cell, any stores are the last
  pub none_in_cell : (stores : List ℕ) (count : ℕ) → count ≤ 0 → IsCut members (λ w. SeesStore t steps (suc load) (suc w)) count → IsLastOfCell t steps k load cell stores
  none_in_cell stores count none cut w among sees =
      let at = index_of members w (list.all w among) in
      absurd (cut.from at.0 (omega (arith, none)) at.1 (subst (λ x. SeesStore t steps (suc load) (suc x)) (sym at.2) sees))

  -- else those with the last that it sees
  pub last_in_cell : (stores : List ℕ) (count : ℕ) → 0 < count → IsCut members (λ w. SeesStore t steps (suc load) (suc w)) count → Contains stores (slice_index members (count - 1)) →
      IsLastOfCell t steps k load cell stores
  last_in_cell stores count some cut there w among sees =
      let at = index_of members w (list.all w among) in
      let here = subst (λ x. SeesStore t steps (suc load) (suc x)) (sym at.2) sees in
      elim (cases_lt at.0 count) [
        | inl below ↦
            let up_to : IsUpToInProgram t (suc (slice_index members at.0)) (suc (slice_index members (count - 1))) =
            up_to_index t members at.0 (count - 1) ordered (omega (arith, below, some)) (omega (arith, some, cut.within)) in
            (slice_index members (count - 1), there, subst (λ x. IsUpToInProgram t (suc x) (suc (slice_index members (count - 1)))) at.2 up_to)
        | inr from ↦ absurd (cut.from at.0 from at.1 here)
      ]
