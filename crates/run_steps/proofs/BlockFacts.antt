-- Lemmas on blocks of memory: what is written into their cells.
use Rattle.std.proofs.Common.{◌≡◌, ◌≢◌, ◌<◌, ◌≤◌, ◌+◌, ◌*◌, ◌-◌, ◌/◌, ◌%◌, ◌∙◌, refl, sym, ap, ℕ, zero, suc, true, false, cond, List, [], ◌∷◌, length, map, set, get_or, Option, None, Some, nat_eq, unwrap_or, arith, ⊎_elim}
use Rattle.std.proofs.Math.Path.{fun_ext}
use Rattle.std.proofs.lemmas.Bool.Decides.{eqb_tells}
use Rattle.std.proofs.lemmas.List.{get_or-set_same, get_or-set_other, length-set}
use Rattle.std.specs.Map.{lookup}
use Rattle.run_steps.specs.declared.blocks.Block.{Block}
use Rattle.run_steps.specs.declared.cells.Cell.{Cell}
use Rattle.run_steps.specs.declared.cells.Cell.TheVariants.{First}
use Rattle.run_steps.specs.Places.{parts_from}
use Rattle.run_steps.specs.Widths.{low_part}
use Rattle.run_steps.specs.Reads.{Memory, cell_in, filled, with_cell, with_cells}

-- of the cells that are written, the first and the others
pub with_cells-next : (block : List Cell) (start width count value : ℕ) (cell : ℕ → Cell) → 0 < count →
    with_cells block start (map cell (parts_from width count value)) ≡ with_cells (set block start (cell (low_part width value))) (start + 1) (map cell (parts_from width (count - 1) (value / 256)))
with_cells-next block start width zero value cell some = absurd (omega (arith, some))
with_cells-next block start width (suc count) value cell some =
    let less : count ≡ suc count - 1 = omega arith in
    ap (λ n. with_cells (set block start (cell (low_part width value))) (start + 1) (map cell (parts_from width n (value / 256)))) less

pub parts_length : (width count value : ℕ) → length (parts_from width count value) ≡ count
parts_length width zero value = refl
parts_length width (suc count) value = ap suc (parts_length width count (value / 256))

-- what the blocks that are found hold by address, and these locations
abbrev held : Memory → (ℕ → Option Block) → Memory
held others found address = cell_in (others address) (found (address / 8)) (address % 8)

-- the blocks, with another one at a number
abbrev placed : (ℕ → Option Block) → ℕ → List Cell → ℕ → Option Block
placed found k cells q = cond (nat_eq k q) (Some (record { cells = cells })) (found q)

equal_true : (a b : ℕ) → a ≡ b → nat_eq a b ≡ true
equal_true a b e = ⊎_elim (λ (told : (nat_eq a b ≡ true) × (a ≡ b)). told.0) (λ (told : (nat_eq a b ≡ false) × (a ≢ b)). absurd (told.1 e)) (eqb_tells a b)

held_at : (others : Memory) (found : ℕ → Option Block) (k r q : ℕ) (block : List Cell) (cell : Cell) → r < 8 → r < length block →
    held others (placed found k (set block r cell)) q ≡ with_cell (held others (placed found k block)) (8 * k + r) cell q
held_at others found k r q block cell small within =
    ⊎_elim
    (λ (told : (nat_eq (8 * k + r) q ≡ true) × (8 * k + r ≡ q)).
    let number : k ≡ q / 8 = omega (arith, small, told.1) in
    let rest : q % 8 ≡ r = omega (arith, small, told.1) in
    ap (λ b. cell_in (others q) (cond b (Some (record { cells = set block r cell })) (found (q / 8))) (q % 8)) (equal_true k (q / 8) number)
    ∙ ap (λ n. get_or (set block r cell) n (First 0)) rest ∙ get_or-set_same block r cell (First 0) within
    ∙ sym (ap (λ b. cond b cell (held others (placed found k block) q)) told.0))
    (λ (told : (nat_eq (8 * k + r) q ≡ false) × (8 * k + r ≢ q)).
    ⊎_elim
    (λ (here : (nat_eq k (q / 8) ≡ true) × (k ≡ q / 8)).
    let other : q % 8 ≢ r = λ e. told.1 (omega (arith, e, here.1)) in
    ap (λ b. cell_in (others q) (cond b (Some (record { cells = set block r cell })) (found (q / 8))) (q % 8)) here.0
    ∙ get_or-set_other block r (q % 8) cell (First 0) other
    ∙ sym (ap (λ b. cell_in (others q) (cond b (Some (record { cells = block })) (found (q / 8))) (q % 8)) here.0)
    ∙ sym (ap (λ b. cond b cell (held others (placed found k block) q)) told.0))
    (λ (there : (nat_eq k (q / 8) ≡ false) × (k ≢ q / 8)).
    ap (λ b. cell_in (others q) (cond b (Some (record { cells = set block r cell })) (found (q / 8))) (q % 8)) there.0
    ∙ sym (ap (λ b. cell_in (others q) (cond b (Some (record { cells = block })) (found (q / 8))) (q % 8)) there.0)
    ∙ sym (ap (λ b. cond b cell (held others (placed found k block) q)) told.0))
    (eqb_tells k (q / 8)))
    (eqb_tells (8 * k + r) q)

-- cells that are written into a block are written into memory
held_all : (others : Memory) (found : ℕ → Option Block) (k r : ℕ) (block cells : List Cell) → r + length cells ≤ 8 → length block ≡ 8 →
    held others (placed found k (with_cells block r cells)) ≡ filled (held others (placed found k block)) (8 * k + r) cells
held_all others found k r block [] within whole = refl
held_all others found k r block (cell ∷ cells) within whole =
    let next : 8 * k + (r + 1) ≡ 8 * k + r + 1 = omega arith in
    held_all others found k (r + 1) (set block r cell) cells (omega (arith, within)) (length-set block r cell ∙ whole)
    ∙ ap (λ n. filled (held others (placed found k (set block r cell))) n cells) next
    ∙ ap (λ m. filled m (8 * k + r + 1) cells) (fun_ext (λ q. held_at others found k r q block cell (omega (arith, within)) (omega (arith, within, whole))))

-- a block of the same cells changes nothing
held_same : (others : Memory) (found : ℕ → Option Block) (k : ℕ) (block : List Cell) → ((i : ℕ) → i < 8 → get_or block i (First 0) ≡ cell_in (others (8 * k + i)) (found k) i) →
    held others (placed found k block) ≡ held others found
held_same others found k block same = fun_ext (λ q.
    ⊎_elim
    (λ (here : (nat_eq k (q / 8) ≡ true) × (k ≡ q / 8)).
    let at : 8 * k + q % 8 ≡ q = omega (arith, here.1) in
    ap (λ b. cell_in (others q) (cond b (Some (record { cells = block })) (found (q / 8))) (q % 8)) here.0 ∙ same (q % 8) (omega arith)
    ∙ ap (λ n. cell_in (others n) (found k) (q % 8)) at ∙ ap (λ n. cell_in (others q) (found n) (q % 8)) here.1)
    (λ (there : (nat_eq k (q / 8) ≡ false) × (k ≢ q / 8)). ap (λ b. cell_in (others q) (cond b (Some (record { cells = block })) (found (q / 8))) (q % 8)) there.0)
    (eqb_tells k (q / 8)))

-- The blocks fs are the blocks es with cells written into one of them: so they are in memory. The block is one of the cells that memory holds there.
pub block_filled : (others : Memory) (es fs : List (ℕ × Block)) (address : ℕ) (old new : Block) (cells : List Cell) → address % 8 + length cells ≤ 8 → length old.cells ≡ 8 →
    ((i : ℕ) → i < 8 → get_or old.cells i (First 0) ≡ cell_in (others (8 * (address / 8) + i)) (lookup (nat_eq (address / 8)) es) i) → new.cells ≡ with_cells old.cells (address % 8) cells →
    ((q : ℕ) → lookup (nat_eq q) fs ≡ cond (nat_eq (address / 8) q) (Some new) (lookup (nat_eq q) es)) →
    (λ a. cell_in (others a) (lookup (nat_eq (a / 8)) fs) (a % 8)) ≡ filled (λ a. cell_in (others a) (lookup (nat_eq (a / 8)) es) (a % 8)) address cells
block_filled others es fs address old new cells within whole same is updates =
    let found : ℕ → Option Block = λ q. lookup (nat_eq q) es in
    let k = address / 8 in
    let r = address % 8 in
    let at : 8 * k + r ≡ address = omega arith in
    fun_ext (λ a. ap (λ o. cell_in (others a) o (a % 8)) (updates (a / 8)) ∙ ap (λ cs. cell_in (others a) (cond (nat_eq k (a / 8)) (Some (record { cells = cs })) (found (a / 8))) (a % 8)) is)
    ∙ held_all others found k r old.cells cells within whole
    ∙ ap (λ n. filled (held others (placed found k old.cells)) n cells) at
    ∙ ap (λ m. filled m address cells) (held_same others found k old.cells same)

-- The locations fs are the locations es with another cell at an address, of which there is no block: so it is in memory.
pub location_filled : (found : ℕ → Option Block) (es fs : List (ℕ × Cell)) (address : ℕ) (cell : Cell) → found (address / 8) ≡ None →
    ((q : ℕ) → lookup (nat_eq q) fs ≡ cond (nat_eq address q) (Some cell) (lookup (nat_eq q) es)) →
    held (λ a. unwrap_or (lookup (nat_eq a) fs) (First 0)) found ≡ with_cell (held (λ a. unwrap_or (lookup (nat_eq a) es) (First 0)) found) address cell
location_filled found es fs address cell none updates = fun_ext (λ q.
    ap (λ o. cell_in (unwrap_or o (First 0)) (found (q / 8)) (q % 8)) (updates q)
    ∙ ⊎_elim
    (λ (here : (nat_eq address q ≡ true) × (address ≡ q)).
    ap (λ b. cell_in (unwrap_or (cond b (Some cell) (lookup (nat_eq q) es)) (First 0)) (found (q / 8)) (q % 8)) here.0
    ∙ ap (λ o. cell_in cell o (q % 8)) (ap (λ n. found (n / 8)) (sym here.1) ∙ none)
    ∙ sym (ap (λ b. cond b cell (cell_in (unwrap_or (lookup (nat_eq q) es) (First 0)) (found (q / 8)) (q % 8))) here.0))
    (λ (there : (nat_eq address q ≡ false) × (address ≢ q)).
    ap (λ b. cell_in (unwrap_or (cond b (Some cell) (lookup (nat_eq q) es)) (First 0)) (found (q / 8)) (q % 8)) there.0
    ∙ sym (ap (λ b. cond b cell (cell_in (unwrap_or (lookup (nat_eq q) es) (First 0)) (found (q / 8)) (q % 8))) there.0))
    (eqb_tells address q))
