-- What each step changes in the words.
use Rattle.std.proofs.Common.{◌≡◌, ◌∙◌, inl, inr, sym, ap, refl, ℕ, suc, ◌+◌, ◌<◌, ◌==◌, cond, Option, None, Some, List, length, get_or, set, slice_index, eq-eqb, eqb-true, arith}
use Rattle.std.specs.Option.{option_map_or}
use Rattle.std.proofs.lemmas.Bool.{ne_eqb}
use Rattle.std.proofs.lemmas.List.{length-set, get_or-set_same, get_or-set_other}
use Rattle.std.proofs.lemmas.List.Quantifiers.{position-Some}
use Rattle.tso_ops.specs.declared.ops.Op.{Op}
use Rattle.tso_ops.specs.declared.ops.Op.TheVariants.{Ld as OpLd, St as OpSt, Sw as OpSw, Mb as OpMb, Sb as OpSb}
use Rattle.tso_ops.specs.Settings.{first_value}
use Rattle.tso_ops.specs.Values.{ProgramValue, list_count, ops_at}
use Rattle.unit_core.specs.Machine.{Entry}
use Rattle.final_states.specs.Internal.Words.{after_drain, issued_by, marked_ops, memory_start, slot_of, start_of, value_in, width_of, with_issued, with_swapped, with_value}
use Rattle.final_states.proofs.StepMoves.{WordsMove, same_or_other, written_by}
use Rattle.final_states.proofs.Rows.{remarked}
use Rattle.final_states.proofs.WordPlaces.{IsWithin, KeepsRow, count_set, kept_then, mark_set, memory_outside, outside_kept, within_memory, within_other}

-- ---- values of memory

-- a word before those of memory
pub value-before : (program : ProgramValue) (addresses words : List ℕ) (j x a : ℕ) → j < memory_start program → value_in program addresses (set words j x) a ≡ value_in program addresses words a
value-before program addresses words j x a before = by (slot_of addresses a)
  where
    by : (slot : Option ℕ) → option_map_or (λ k. slice_index (set words j x) (memory_start program + k)) slot (first_value program.setting.first a)
        ≡ option_map_or (λ k. slice_index words (memory_start program + k)) slot (first_value program.setting.first a)
    by None = refl
    by (Some k) = get_or-set_other words j (memory_start program + k) x 0 (λ e. absurd (omega (arith, before, e)))

pub slot_is : (addresses : List ℕ) (a slot : ℕ) → slot_of addresses a ≡ Some slot → (slot < length addresses) × (get_or addresses slot 0 ≡ a)
slot_is addresses a slot is =
    let found = position-Some (λ b. b == a) addresses slot 0 is in
    (found.0, eqb-true (get_or addresses slot 0) a found.1)

-- the word of an address
pub value-written : (program : ProgramValue) (addresses words : List ℕ) (b v slot a : ℕ) → length words ≡ width_of program addresses → slot_of addresses b ≡ Some slot →
    value_in program addresses (with_value program addresses words b v) a ≡ cond (b == a) v (value_in program addresses words a)
value-written program addresses words b v slot a width is =
    let at = slot_is addresses b slot is in
    let j = memory_start program + slot in
    let new : with_value program addresses words b v ≡ set words j v = ap (λ o. option_map_or (λ k. set words (memory_start program + k) v) o words) is in
    elim (same_or_other b a) [
      | inl same ↦
          let here : value_in program addresses (set words j v) a ≡ v =
          ap (λ o. option_map_or (λ k. slice_index (set words j v) (memory_start program + k)) o (first_value program.setting.first a)) (ap (slot_of addresses) (sym same) ∙ is)
          ∙ get_or-set_same words j v 0 (omega (arith, width, at.0)) in
          ap (λ w. value_in program addresses w a) new ∙ here ∙ sym (ap (λ t. cond t v (value_in program addresses words a)) (eq-eqb b a same))
      | inr other ↦
          ap (λ w. value_in program addresses w a) new ∙ elsewhere j at.1 other (slot_of addresses a) refl ∙ sym (ap (λ t. cond t v (value_in program addresses words a)) (ne_eqb b a other))
    ]
  where
    elsewhere : (j : ℕ) → get_or addresses slot 0 ≡ b → (b ≡ a → ⊥) → (found : Option ℕ) → slot_of addresses a ≡ found →
        option_map_or (λ k. slice_index (set words (memory_start program + slot) v) (memory_start program + k)) found (first_value program.setting.first a)
        ≡ option_map_or (λ k. slice_index words (memory_start program + k)) found (first_value program.setting.first a)
    elsewhere j at other None found = refl
    elsewhere j at other (Some k) found =
        let apart : memory_start program + k ≡ memory_start program + slot → ⊥ = λ e.
        let same : k ≡ slot = omega (arith, e) in
        other (sym at ∙ ap (λ i. get_or addresses i 0) (sym same) ∙ (slot_is addresses a k found).1) in
        get_or-set_other words (memory_start program + slot) (memory_start program + k) v 0 apart

-- a write to memory leaves the processors' words
pub value-keeps : (program : ProgramValue) (addresses words : List ℕ) (b v p : ℕ) → p < list_count program → KeepsRow program words (with_value program addresses words b v) p
value-keeps program addresses words b v p small = by (slot_of addresses b)
  where
    by : (slot : Option ℕ) → KeepsRow program words (option_map_or (λ k. set words (memory_start program + k) v) slot words) p
    by None = record { count = refl; cells = refl }
    by (Some k) = outside_kept program words p (memory_start program + k) v (memory_outside program p k small)

pub value-width : (program : ProgramValue) (addresses words : List ℕ) (b v : ℕ) → length (with_value program addresses words b v) ≡ length words
value-width program addresses words b v = by (slot_of addresses b)
  where
    by : (slot : Option ℕ) → length (option_map_or (λ k. set words (memory_start program + k) v) slot words) ≡ length words
    by None = refl
    by (Some k) = length-set words (memory_start program + k) v

-- ---- an operation is issued

module _ (program : ProgramValue) (addresses words : List ℕ) (p mark : ℕ) (small : p < list_count program) (width : length words ≡ width_of program addresses)
    (more : issued_by program words p < length (ops_at program p)) where
  issued-move : WordsMove program addresses words (with_issued words (start_of program.lists p) mark) p (suc (issued_by program words p)) (remarked (marked_ops program words p) (issued_by program words p) mark) None
  issued-move =
      let start = start_of program.lists p in
      let n = issued_by program words p in
      let counted = set words start (suc n) in
      let start_in : IsWithin program p start = (omega arith, omega arith) in
      let mark_in : IsWithin program p (suc (start + n)) = (omega arith, omega arith) in
      let first = count_set program words p (suc n) (omega (arith, width, within_memory program p p start small start_in)) in
      let second = mark_set program counted p n mark in
      record {
        width = length-set counted (suc (start + n)) mark ∙ length-set words start (suc n);
        own_count = second.0 ∙ first.0;
        own_cells = second.1 ∙ ap (λ cells. remarked cells n mark) first.1;
        others = λ q within other.
            kept_then program words counted (set counted (suc (start + n)) mark) q
            (outside_kept program words q start (suc n) (within_other program q p start within small other start_in))
            (outside_kept program counted q (suc (start + n)) mark (within_other program q p (suc (start + n)) within small other mark_in));
        memory = λ a.
            value-before program addresses counted (suc (start + n)) mark a (within_memory program p p (suc (start + n)) small mark_in)
            ∙ value-before program addresses words start (suc n) a (within_memory program p p start small start_in);
      }

-- a move without a write, and then a write
pub write-move : (program : ProgramValue) (addresses old new : List ℕ) (p count : ℕ) (cells : List (Op × ℕ)) (b v slot : ℕ) → p < list_count program → length old ≡ width_of program addresses →
    slot_of addresses b ≡ Some slot → WordsMove program addresses old new p count cells None → WordsMove program addresses old (with_value program addresses new b v) p count cells (Some (b, v))
write-move program addresses old new p count cells b v slot small width is moved =
    let kept = value-keeps program addresses new b v p small in
    record {
      width = value-width program addresses new b v ∙ moved.width;
      own_count = kept.count ∙ moved.own_count;
      own_cells = kept.cells ∙ moved.own_cells;
      others = λ q within other. kept_then program old new _ q (moved.others q within other) (value-keeps program addresses new b v q within);
      memory = λ a. value-written program addresses new b v slot a (moved.width ∙ width) is ∙ ap (cond (b == a) v) (moved.memory a);
    }

pub issue-words : (program : ProgramValue) (addresses words : List ℕ) (p mark : ℕ) (op : Op) → p < list_count program → length words ≡ width_of program addresses →
    issued_by program words p < length (ops_at program p) → ((a v : ℕ) → op ≡ OpSw a v → (slot : ℕ) × (slot_of addresses a ≡ Some slot)) →
    WordsMove program addresses words (with_swapped program addresses (with_issued words (start_of program.lists p) mark) op) p (suc (issued_by program words p))
    (remarked (marked_ops program words p) (issued_by program words p) mark) (written_by op)
issue-words program addresses words p mark (OpLd a) small width more slots = issued-move program addresses words p mark small width more
issue-words program addresses words p mark (OpSt a v) small width more slots = issued-move program addresses words p mark small width more
issue-words program addresses words p mark (OpSw a v) small width more slots =
    let slot = slots a v refl in
    write-move program addresses words (with_issued words (start_of program.lists p) mark) p _ _ a v slot.0 small width slot.1 (issued-move program addresses words p mark small width more)
issue-words program addresses words p mark OpMb small width more slots = issued-move program addresses words p mark small width more
issue-words program addresses words p mark OpSb small width more slots = issued-move program addresses words p mark small width more

-- ---- a store goes to memory

pub drain-words : (program : ProgramValue) (addresses words : List ℕ) (p i slot : ℕ) (e : Entry) → p < list_count program → length words ≡ width_of program addresses → i < length (ops_at program p) →
    slot_of addresses e.a ≡ Some slot →
    WordsMove program addresses words (after_drain program addresses words p i e) p (issued_by program words p) (remarked (marked_ops program words p) i 1) (Some (e.a, e.v))
drain-words program addresses words p i slot e small width within is =
    let j = suc (start_of program.lists p + i) in
    let mark_in : IsWithin program p j = (omega arith, omega arith) in
    let set_mark = mark_set program words p i 1 in
    write-move program addresses words (set words j 1) p _ _ e.a e.v slot small width is (record {
      width = length-set words j 1;
      own_count = set_mark.0;
      own_cells = set_mark.1;
      others = λ q inside other. outside_kept program words q j 1 (within_other program q p j inside small other mark_in);
      memory = λ a. value-before program addresses words j 1 a (within_memory program p p j small mark_in);
    })
