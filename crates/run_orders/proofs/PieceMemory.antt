-- What a store leaves in memory, at each piece of its place.
use Rattle.std.proofs.Common.{◌≡◌, ◌∙◌, sym, ap, refl, inl, inr, ℕ, zero, suc, ◌+◌, ◌-◌, ◌/◌, ◌<◌, ◌≤◌, ◌⊎◌, Some, List, [], ◌∷◌, length, map, get_or, arith}
use Rattle.std.proofs.lemmas.Bool.{cases_eq}
use Rattle.std.proofs.lemmas.List.{length-map}
use Rattle.run_steps.specs.declared.cells.Cell.{Cell}
use Rattle.run_steps.specs.declared.places.Place.{Place}
use Rattle.run_steps.specs.Places.{cell_count, cell_parts, parts_from}
use Rattle.run_steps.specs.Reads.{Memory, filled, read_from, seen_in, sees, with_cell}
use Rattle.log_text.specs.Splits.{piece_value}
use Rattle.run_orders.proofs.Waiting.{value_seen}
use Rattle.run_orders.proofs.States.{with_cell_here, with_cell_other}
use Rattle.log_text.proofs.PieceFacts.{piece_sides}
use Rattle.run_orders.proofs.PieceReads.{piece_bytes, read_same, read_stored}
use Rattle.run_orders.proofs.Pieces.{IsCut, IsPieceSeen, IsSameMemory, wide_cells}
use Rattle.run_orders.proofs.PieceSteps.{ArePut}

-- ---- cells that are written

pub filled_outside : (m : Memory) (a : ℕ) (cells : List Cell) (b : ℕ) → (b < a) ⊎ (a + length cells ≤ b) → filled m a cells b ≡ m b
filled_outside m a [] b out = refl
filled_outside m a (cell ∷ cells) b out =
    let differs : a ≡ b → ⊥ = λ same. elim out [ inl before ↦ omega (arith, same, before) | inr past ↦ omega (arith, same, past) ] in
    filled_outside (with_cell m a cell) (a + 1) cells b (elim out [ inl before ↦ inl (omega (arith, before)) | inr past ↦ inr (omega (arith, past)) ])
    ∙ with_cell_other m a cell b differs

pub filled_inside : (f : ℕ → Cell) (m : Memory) (a : ℕ) (xs : List ℕ) (b : ℕ) → a ≤ b → b < a + length xs → filled m a (map f xs) b ≡ f (get_or xs (b - a) 0)
filled_inside f m a [] b from below = absurd (omega (arith, from, below))
filled_inside f m a (x ∷ xs) b from below = elim (cases_eq a b) [
  | inl same ↦
      let none : b - a ≡ 0 = omega (arith, same) in
      filled_outside (with_cell m a (f x)) (a + 1) (map f xs) b (inl (omega (arith, same))) ∙ with_cell_here m a (f x) b same
      ∙ ap (λ n. f (get_or (x ∷ xs) n 0)) (sym none)
  | inr differs ↦
      let more : b - a ≡ suc (b - (a + 1)) = omega (arith, from, differs) in
      filled_inside f (with_cell m a (f x)) (a + 1) xs b (omega (arith, from, differs)) (omega (arith, below)) ∙ ap (λ n. f (get_or (x ∷ xs) n 0)) (sym more)
]

pub parts_length : (width count v : ℕ) → length (parts_from width count v) ≡ count
parts_length width zero v = refl
parts_length width (suc count) v = ap suc (parts_length width count (v / 256))

-- ---- both memories after a store

module _ (bs : List ℕ) (f : ℕ → Cell) (holds : (x : ℕ) → value_seen (seen_in (f x)) ≡ Some x) (place : Place) (v : ℕ) (cut : IsCut bs place) where
  -- the bytes of a place are filled, and its pieces are put
  pub put_same : (ms mt after : Memory) → IsSameMemory bs ms mt → ArePut bs place.address v place.address (place.address + place.width) mt after →
      IsSameMemory bs (filled ms place.address (map f (cell_parts place v))) after
  put_same ms mt after same put start count piece =
      let a = place.address in
      let width = place.width in
      let cells = wide_cells width cut.wide in
      let parts = cell_parts place v in
      let long : length parts ≡ cell_count place = parts_length width (cell_count place) v in
      let filled_length = length-map parts f in
      let here = same start count piece in
      elim (piece_sides bs start count a (a + width) piece cut.first cut.last) [
        | inl after_all ↦ beside ms mt after put start count here.value here.bytes here.whole
            (λ b from below. inr (omega (arith, after_all, from, cells, long, filled_length))) (inr after_all)
        | inr other ↦ elim other [
          | inl before ↦ beside ms mt after put start count here.value here.bytes here.whole
              (λ b from below. inl (omega (arith, before, below))) (inl (omega (arith, before, piece.some)))
          | inr inside ↦ record {
            value = piece_value a v (start, count);
            bytes =
                read_stored (sees (filled ms a (map f parts)) []) width cut.wide a v start count inside.0 inside.1
                (λ b from below.
                ap (λ c. value_seen (seen_in c)) (filled_inside f ms a parts b from (omega (arith, below, cells, long))) ∙ holds (get_or parts (b - a) 0)
                ∙ ap (λ n. Some (get_or (parts_from width n v) (b - a) 0)) cells)
                ∙ ap Some (sym (piece_bytes a v start count piece.some));
            whole = put.inside start count piece inside.0 (omega (arith, inside.1, piece.some));
          }
        ]
      ]
    where
      beside : (ms mt after : Memory) → ArePut bs place.address v place.address (place.address + place.width) mt after → (start count value : ℕ) →
          read_from 1 (sees ms []) start count ≡ Some value → value_seen (sees mt [] start) ≡ Some value →
          ((b : ℕ) → start ≤ b → b < start + count → (b < place.address) ⊎ (place.address + length (map f (cell_parts place v)) ≤ b)) →
          (start < place.address) ⊎ (place.address + place.width ≤ start) →
          IsPieceSeen bs (sees (filled ms place.address (map f (cell_parts place v))) []) start count (sees after [] start)
      beside ms mt after put start count value bytes whole out first = record {
        value = value;
        bytes = read_same (sees (filled ms place.address (map f (cell_parts place v))) []) (sees ms []) start count
            (λ b from below. ap seen_in (filled_outside ms place.address (map f (cell_parts place v)) b (out b from below))) ∙ bytes;
        whole = ap (λ c. value_seen (seen_in c)) (put.outside start first) ∙ whole;
      }
