use Rattle.std.proofs.Common.{◌≡◌, ◌<◌, inl, inr, sym, subst, zero, suc, ℕ, ◌+◌, ◌-◌, ◌++◌, ◌∷◌, [], List, Vec, Global, slice_index, map, refl, lit<, arith}
use Rattle.std.specs.List.{Contains}
use Rattle.std.proofs.lemmas.Bool.{cases_eq}
use Rattle.std.proofs.lemmas.List.{length-map}
use Rattle.std.proofs.lemmas.List.Elements.{Contains-append_cases, Contains-append_right, Contains-get_or}
use Rattle.chain_reach.specs.Groups.{IsIn}
use Rattle.value_evidence.specs.Candidates.{SeesStore}
use Rattle.value_check.specs.Internal.Cells.{class_in}
use Rattle.value_check.specs.Internal.Known.{address_only}
use Rattle.value_check.specs.Internal.Settling.{IsLastOfCell}
use Rattle.value_check.proofs.CellFacts.{cell_of_class, class_of_address, index_below, index_of}
use Rattle.value_check.proofs.SeenFacts.{last_in_cell, last_more, none_in_cell, seen_first}
use Rattle.value_check.proofs.known.Known.seen_stores.Goals.{then-count-gt0+in_ok-push, else-count-gt0}
use Rattle.value_check.proofs.known.Known.seen_stores.Goals as goal

one_contained : (x y : ℕ) → Contains (x ∷ []) y → x ≡ y
one_contained x y (zero, below, is) = is
one_contained x y (suc k, below, is) = absurd (omega arith)

pub loop-cell-preserved : goal.loop-cell-preserved
loop-cell-preserved c = λ t steps known load.
    let k = c.args.self.now in
    let l = c.args.load in
    let i = c.loop-cell.cell-index in
    let cells = c.cells_of-cell-items.result.now in
    let cell = slice_index cells i in
    let members = c.members-members.result.now in
    let below = index_below t k known.tables l (load.0, load.1) in
    let of_load = c.cells_of-cell-items.ensures (map address_only k.events.items) k.reach.chains known.tables.addresses (omega (arith, below, length-map k.events.items address_only)) in
    let in_class : IsIn k.addresses.classes (class_in k.addresses l) cell = of_load.only cell (Contains-get_or cells i 0 c.loop-cell-test.true) in
    let list = c.members-members.ensures (omega (arith, in_class.0, known.tables.addresses.cells)) in
    let cut = c.count_seen-count.ensures.cut t steps known (seen_first t steps k known l cell load in_class members list) in
    let count = c.count_seen-count.result in
    let before = c.loop-cell.invariant t steps known load in
    elim c.if-count-gt0.branch [
      | then-count-gt0+in_ok-push w ↦
          let stores = c.loop-cell.seen.items in
          let x = slice_index members (count - 1) in
          let some : 0 < count = omega arith in
          let one : 0 < 1 = lit< tt in
          let there : Contains (stores ++ x ∷ []) x = Contains-append_right stores (x ∷ []) x (0, one, refl) in
          let all : (y : ℕ) → Contains (stores ++ x ∷ []) y → SeesStore t steps (suc l) (suc y) = λ y among.
          elim (Contains-append_cases stores (x ∷ []) y among) [
            | inl old ↦ before.0 y old
            | inr last ↦ subst (λ n. SeesStore t steps (suc l) (suc n)) (one_contained x y last) (cut.below (count - 1) (omega (arith, some)))
          ] in
          let cells_so_far : (j : ℕ) → j < i + 1 → IsLastOfCell t steps k l (slice_index cells j) (stores ++ x ∷ []) = λ j less.
          elim (cases_eq j i) [
            | inl same ↦ subst (λ n. IsLastOfCell t steps k l (slice_index cells n) (stores ++ x ∷ [])) (sym same) (last_in_cell t steps k known l cell load in_class members list (stores ++ x ∷ []) count some cut there)
            | inr other ↦ last_more t steps k l (slice_index cells j) stores x (before.1 j (omega (arith, other, less)))
          ] in
          subst (λ (v : Vec ℕ Global). ((y : ℕ) → Contains v.items y → SeesStore t steps (suc l) (suc y)) × ((j : ℕ) → j < i + 1 → IsLastOfCell t steps k l (slice_index cells j) v.items)) (sym w.seen-is)
          (subst (λ (items : List ℕ). ((y : ℕ) → Contains items y → SeesStore t steps (suc l) (suc y)) × ((j : ℕ) → j < i + 1 → IsLastOfCell t steps k l (slice_index cells j) items)) (sym w.in_ok-push.ensures.items)
          (all, cells_so_far))
      | else-count-gt0 w ↦
          let cells_so_far : (j : ℕ) → j < i + 1 → IsLastOfCell t steps k l (slice_index cells j) c.loop-cell.seen.items = λ j less.
          elim (cases_eq j i) [
            | inl same ↦ subst (λ n. IsLastOfCell t steps k l (slice_index cells n) c.loop-cell.seen.items) (sym same) (none_in_cell t steps k known l cell load in_class members list c.loop-cell.seen.items count (omega arith) cut)
            | inr other ↦ before.1 j (omega (arith, other, less))
          ] in
          subst (λ (v : Vec ℕ Global). ((y : ℕ) → Contains v.items y → SeesStore t steps (suc l) (suc y)) × ((j : ℕ) → j < i + 1 → IsLastOfCell t steps k l (slice_index cells j) v.items)) (sym w.seen-is)
          (before.0, cells_so_far)
    ]

pub returns : goal.returns
returns c = λ t steps known load.
    let k = c.args.self.now in
    let l = c.args.load in
    let keys = length-map k.events.items address_only in
    let cells = c.cells_of-cell-items.result.now in
    let below = index_below t k known.tables l (load.0, load.1) in
    let of_load = c.cells_of-cell-items.ensures (map address_only k.events.items) k.reach.chains known.tables.addresses (omega (arith, below, keys)) in
    let all = c.loop-cell.invariant t steps known load in record {
      seen = all.0;
      last = λ w sees.
          let below_w = index_below t k known.tables w (sees.0.0, sees.0.1) in
          let at = cell_of_class t k known.tables w l below_w (class_of_address t k known.tables w l sees.1) in
          let place = index_of cells at.0 (of_load.all at.0 at.1) in
          all.1 place.0 (omega (arith, place.1)) w (subst (λ n. IsIn k.addresses.cells n w) (sym place.2) at.2) sees;
    }
