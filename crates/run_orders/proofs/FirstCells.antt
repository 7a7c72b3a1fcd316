-- What cells have at first is what the machine's memory holds after the first values that lines say, and at locations what their log has.
use Rattle.std.proofs.Common.{◌≡◌, ◌∙◌, sym, ap, refl, inl, inr, ℕ, ◌+◌, ◌-◌, ◌<◌, ◌≤◌, ◌⊎◌, cond, fold, List, [], ◌∷◌, ◌++◌, length, get_or, map, flat_map, append_assoc, append-nil, arith}
use Rattle.std.specs.List.{AllByRecursion}
use Rattle.std.proofs.lemmas.Bool.{cases_eq, cases_lt}
use Rattle.std.proofs.lemmas.Grind.{flat_map-append}
use Rattle.std.proofs.lemmas.List.{length-map}
use Rattle.tso_ops.specs.Settings.{first_value}
use Rattle.run_steps.specs.declared.cells.Cell.TheVariants.{First}
use Rattle.run_steps.specs.declared.places.Place.{Place}
use Rattle.run_steps.specs.Machine.{MachineState, presetting}
use Rattle.run_steps.specs.Places.{cell_count, cell_parts, parts_from}
use Rattle.log_text.specs.declared.lines.LogLine.{LogLine}
use Rattle.log_text.specs.declared.lines.LogLine.TheVariants as said
use Rattle.log_text.specs.declared.lines.SaidLine.{SaidLine}
use Rattle.log_text.specs.LogTexts.{entries_in, first_values, with_first}
use Rattle.log_text.proofs.FirstFacts.{last_counts, others_stay}
use Rattle.log_text.proofs.ReadingFacts.{first-push}
use Rattle.run_orders.specs.SplitLogs.{cell_at_first, first_cells_in}
use Rattle.run_orders.proofs.Pieces.{inside_covered, outside_covered}
use Rattle.run_orders.proofs.PieceMemory.{filled_inside, filled_outside, parts_length}
use Rattle.run_orders.proofs.PieceFirsts.{last-append, last_of}

-- ---- memory

-- one more line
pub first_cell_push : (lines : List SaidLine) (x : SaidLine) (cell : ℕ) → cell_at_first (lines ++ x ∷ []) cell ≡ last_of (cell_at_first lines cell) (first_cells_in cell x.line x.width)
first_cell_push lines x cell =
    ap (last_of 0) (flat_map-append (λ y. first_cells_in cell y.line y.width) lines (x ∷ []))
    ∙ last-append 0 (flat_map (λ y. first_cells_in cell y.line y.width) lines) (first_cells_in cell x.line x.width ++ [])
    ∙ ap (last_of (cell_at_first lines cell)) (append-nil (first_cells_in cell x.line x.width))

-- a first value of a place
pub first_cells_preset : (lines : List SaidLine) (s : MachineState) (place : Place) (v : ℕ) → ((cell : ℕ) → s.memory cell ≡ First (cell_at_first lines cell)) → (cell : ℕ) →
    (presetting place v s).memory cell ≡ First (cell_at_first (lines ++ record { line = said.First place.address v; width = place.width } ∷ []) cell)
first_cells_preset lines s place v memory cell =
    let a = place.address in
    let count = cell_count place in
    let parts = cell_parts place v in
    let long : length parts ≡ count = parts_length place.width count v in
    let filled_length = length-map parts First in
    let pushed = ap First (sym (first_cell_push lines (record { line = said.First a v; width = place.width }) cell)) in
    elim (cases_lt cell a) [
      | inl before ↦ outside (inl before) (filled_outside s.memory a (map First parts) cell (inl before)) pushed
      | inr from ↦ elim (cases_lt cell (a + count)) [
        | inl below ↦
            filled_inside First s.memory a parts cell from (omega (arith, below, long))
            ∙ ap (λ t. First (last_of (cell_at_first lines cell) (cond t (get_or parts (cell - a) 0 ∷ []) []))) (sym (inside_covered a count cell from below)) ∙ pushed
        | inr past ↦ outside (inr past) (filled_outside s.memory a (map First parts) cell (inr (omega (arith, past, long, filled_length)))) pushed
      ]
    ]
  where
    outside : (cell < place.address) ⊎ (place.address + cell_count place ≤ cell) → (presetting place v s).memory cell ≡ s.memory cell →
        First (last_of (cell_at_first lines cell) (first_cells_in cell (said.First place.address v) place.width))
        ≡ First (cell_at_first (lines ++ record { line = said.First place.address v; width = place.width } ∷ []) cell) →
        (presetting place v s).memory cell ≡ First (cell_at_first (lines ++ record { line = said.First place.address v; width = place.width } ∷ []) cell)
    outside out same pushed =
        same ∙ memory cell
        ∙ ap (λ t. First (last_of (cell_at_first lines cell) (cond t (get_or (cell_parts place v) (cell - place.address) 0 ∷ []) []))) (sym (outside_covered place.address (cell_count place) cell out))
        ∙ pushed

-- ---- locations

location_said : (before : List LogLine) (b v width a : ℕ) → width ≡ 0 →
    last_of (first_value (first_values before) a) (first_cells_in a (said.First b v) width) ≡ first_value (first_values (before ++ said.First b v ∷ [])) a
location_said before b v width a none =
    ap (λ n. last_of (first_value (first_values before) a) (first_cells_in a (said.First b v) n)) none
    ∙ elim (cases_eq b a) [
      | inl same ↦
          let here : a - b ≡ 0 = omega (arith, same) in
          ap (λ t. last_of (first_value (first_values before) a) (cond t (get_or (parts_from 0 1 v) (a - b) 0 ∷ []) [])) (inside_covered b 1 a (omega (arith, same)) (omega (arith, same)))
          ∙ ap (λ n. get_or (v ∷ []) n 0) here ∙ sym (last_counts before b v) ∙ ap (first_value (first_values (before ++ said.First b v ∷ []))) same
      | inr differs ↦
          ap (λ t. last_of (first_value (first_values before) a) (cond t (get_or (parts_from 0 1 v) (a - b) 0 ∷ []) [])) (outside_covered b 1 a (sides b a differs))
          ∙ sym (others_stay before b v a (λ same. differs (sym same)))
    ]
  where
    sides : (b a : ℕ) → (b ≡ a → ⊥) → (a < b) ⊎ (b + 1 ≤ a)
    sides b a differs = elim (cases_lt a b) [ inl less ↦ inl less | inr most ↦ inr (omega (arith, most, differs)) ]

silent_said : (before : List LogLine) (l : LogLine) (a : ℕ) → entries_in l ≡ [] → first_value (first_values before) a ≡ first_value (first_values (before ++ l ∷ [])) a
silent_said before l a none = ap (λ entries. first_value entries a) (sym (first-push before l ∙ ap (fold with_first (first_values before)) none))

line_of_location : (before : List LogLine) (l : LogLine) (width a : ℕ) → width ≡ 0 →
    last_of (first_value (first_values before) a) (first_cells_in a l width) ≡ first_value (first_values (before ++ l ∷ [])) a
line_of_location before said.Note width a none = silent_said before said.Note a refl
line_of_location before said.Pso width a none = silent_said before said.Pso a refl
line_of_location before (said.First b v) width a none = location_said before b v width a none
line_of_location before (said.Issued p x) width a none = silent_said before (said.Issued p x) a refl
line_of_location before (said.Unknown p b) width a none = silent_said before (said.Unknown p b) a refl
line_of_location before said.Memory width a none = silent_said before said.Memory a refl
line_of_location before said.End width a none = silent_said before said.End a refl

lines_of_locations : (lines : List SaidLine) (before : List LogLine) (a : ℕ) → AllByRecursion (λ x. x.width ≡ 0) lines →
    last_of (first_value (first_values before) a) (flat_map (λ x. first_cells_in a x.line x.width) lines) ≡ first_value (first_values (before ++ map (λ x. x.line) lines)) a
lines_of_locations [] before a none = ap (λ ls. first_value (first_values ls) a) (sym (append-nil before))
lines_of_locations (x ∷ lines) before a none =
    last-append (first_value (first_values before) a) (first_cells_in a x.line x.width) (flat_map (λ y. first_cells_in a y.line y.width) lines)
    ∙ ap (λ n. last_of n (flat_map (λ y. first_cells_in a y.line y.width) lines)) (line_of_location before x.line x.width a none.0)
    ∙ lines_of_locations lines (before ++ x.line ∷ []) a none.1
    ∙ ap (λ ls. first_value (first_values ls) a) (append_assoc before (x.line ∷ []) (map (λ y. y.line) lines))

-- what a location has at first is its first value
pub first_cell_location : (lines : List SaidLine) (a : ℕ) → AllByRecursion (λ x. x.width ≡ 0) lines → cell_at_first lines a ≡ first_value (first_values (map (λ x. x.line) lines)) a
first_cell_location lines a none = lines_of_locations lines [] a none
