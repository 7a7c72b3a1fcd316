-- What a step changes, in the state of the machine and in the words that stand for it.
use Rattle.std.proofs.Common.{◌≡◌, ◌∙◌, ◌⊎◌, inl, inr, sym, ap, refl, subst, ℕ, ◌<◌, ◌==◌, cond, Option, None, Some, List, length, slice_index, arith}
use Rattle.std.proofs.lemmas.Bool.{cases_lt}
use Rattle.tso_ops.specs.declared.ops.Op.{Op}
use Rattle.tso_ops.specs.declared.ops.Op.TheVariants.{Sw as OpSw}
use Rattle.tso_ops.specs.declared.ops.Outcome.{Outcome}
use Rattle.tso_ops.specs.Values.{ProgramValue, list_count}
use Rattle.unit_core.specs.Machine.{Entry, State, buffer_of, stbars_of}
use Rattle.final_states.specs.Internal.Words.{issued_by, marked_ops, value_in}
use Rattle.final_states.specs.Internal.Stands.{IsRow, Represents}
use Rattle.final_states.proofs.WordPlaces.{KeepsRow}

-- the values of memory once a value is written to an address, if one is
abbrev pub value_after : Option (ℕ × ℕ) → (ℕ → ℕ) → ℕ → ℕ
value_after None values a = values a
value_after (Some written) values a = cond (written.0 == a) written.1 (values a)

-- what a swap writes
abbrev pub written_by : Op → Option (ℕ × ℕ)
written_by (OpSw a v) = Some (a, v)
written_by _ = None

-- A step of processor p leaves it this buffer and this number of STBARs, and writes this.
pub record StateMoves (old new : State) (p : ℕ) (buffer : List Entry) (stbars : ℕ) (written : Option (ℕ × ℕ)) : Type 0 where
  pub own_buffer : buffer_of new p ≡ buffer
  pub own_stbars : stbars_of new p ≡ stbars
  pub other_buffers : (q : ℕ) → (q ≡ p → ⊥) → buffer_of new q ≡ buffer_of old q
  pub other_stbars : (q : ℕ) → (q ≡ p → ⊥) → stbars_of new q ≡ stbars_of old q
  pub memory : (a : ℕ) → slice_index new.memory a ≡ value_after written (slice_index old.memory) a
  pub memory_words : length new.memory ≡ length old.memory
  pub buffers : length new.buffers ≡ length old.buffers
  pub lengths : length new.stbars ≡ length old.stbars

-- The words of processor p become these, and those of memory change as the write says.
pub record WordsMove (program : ProgramValue) (addresses old new : List ℕ) (p count : ℕ) (cells : List (Op × ℕ)) (written : Option (ℕ × ℕ)) : Type 0 where
  pub width : length new ≡ length old
  pub own_count : issued_by program new p ≡ count
  pub own_cells : marked_ops program new p ≡ cells
  pub others : (q : ℕ) → q < list_count program → (q ≡ p → ⊥) → KeepsRow program old new q
  pub memory : (a : ℕ) → value_in program addresses new a ≡ value_after written (value_in program addresses old) a

value_after-same : (written : Option (ℕ × ℕ)) (f g : ℕ → ℕ) (a : ℕ) → f a ≡ g a → value_after written f a ≡ value_after written g a
value_after-same None f g a e = e
value_after-same (Some written) f g a e = ap (cond (written.0 == a) written.1) e

pub same_or_other : (q p : ℕ) → (q ≡ p) ⊎ (q ≡ p → ⊥)
same_or_other q p = elim (cases_lt q p) [
  | inl before ↦ inr (λ e. absurd (omega (arith, before, e)))
  | inr not_before ↦ elim (cases_lt p q) [ inl after ↦ inr (λ e. absurd (omega (arith, after, e))) | inr not_after ↦ inl (omega (arith, not_before, not_after)) ]
]

row-same : (cells cells2 : List (Op × ℕ)) (n n2 : ℕ) (buffer buffer2 : List Entry) (stbars stbars2 : ℕ) (answered answered2 : List Outcome) → cells2 ≡ cells → n2 ≡ n → buffer2 ≡ buffer →
    stbars2 ≡ stbars → answered2 ≡ answered → IsRow cells n buffer stbars answered → IsRow cells2 n2 buffer2 stbars2 answered2
row-same cells cells2 n n2 buffer buffer2 stbars stbars2 answered answered2 c k b s a row =
    let P : List (Op × ℕ) → Type 0 = λ x. IsRow x n2 buffer2 stbars2 answered2 in
    let Q : ℕ → Type 0 = λ x. IsRow cells x buffer2 stbars2 answered2 in
    let R : List Entry → Type 0 = λ x. IsRow cells n x stbars2 answered2 in
    let S : ℕ → Type 0 = λ x. IsRow cells n buffer x answered2 in
    let T : List Outcome → Type 0 = λ x. IsRow cells n buffer stbars x in
    subst P (sym c) (subst Q (sym k) (subst R (sym b) (subst S (sym s) (subst T (sym a) row))))

-- the words after a step stand for the state after it
pub stands-move : (program : ProgramValue) (addresses old new : List ℕ) (s t : State) (before answered : ℕ → List Outcome) (p n : ℕ) (cells : List (Op × ℕ)) (buffer : List Entry) (stbars : ℕ)
    (written : Option (ℕ × ℕ)) → p < list_count program → Represents program addresses old s before → StateMoves s t p buffer stbars written →
    WordsMove program addresses old new p n cells written → IsRow cells n buffer stbars (answered p) → ((q : ℕ) → (q ≡ p → ⊥) → answered q ≡ before q) →
    Represents program addresses new t answered
stands-move program addresses old new s t before answered p n cells buffer stbars written small stands state words row others = record {
  width = words.width ∙ stands.width;
  memory_words = state.memory_words ∙ stands.memory_words;
  buffers = state.buffers ∙ stands.buffers;
  stbars = state.lengths ∙ stands.stbars;
  rows = λ q within.
      elim (same_or_other q p) [
        | inl same ↦
            let P : ℕ → Type 0 = λ r. IsRow (marked_ops program new r) (issued_by program new r) (buffer_of t r) (stbars_of t r) (answered r) in
            subst P (sym same) (row-same cells _ n _ buffer _ stbars _ (answered p) _ words.own_cells words.own_count state.own_buffer state.own_stbars refl row)
        | inr other ↦
            let kept = words.others q within other in
            row-same (marked_ops program old q) _ (issued_by program old q) _ (buffer_of s q) _ (stbars_of s q) _ (before q) _
            kept.cells kept.count (state.other_buffers q other) (state.other_stbars q other) (others q other) (stands.rows q within)
      ];
  others = λ q past.
      let other : q ≡ p → ⊥ = λ e. absurd (omega (arith, small, past, e)) in
      let none = stands.others q past in
      (state.other_buffers q other ∙ none.0, state.other_stbars q other ∙ none.1, others q other ∙ none.2);
  memory = λ a within.
      state.memory a ∙ value_after-same written (slice_index s.memory) (value_in program addresses old) a (stands.memory a within) ∙ sym (words.memory a);
}

-- the same answers, otherwise given
pub stands-same : (program : ProgramValue) (addresses words : List ℕ) (s : State) (answered others : ℕ → List Outcome) → ((q : ℕ) → others q ≡ answered q) →
    Represents program addresses words s answered → Represents program addresses words s others
stands-same program addresses words s answered others same stands = record {
  width = stands.width;
  memory_words = stands.memory_words;
  buffers = stands.buffers;
  stbars = stands.stbars;
  rows = λ q within. row-same (marked_ops program words q) _ (issued_by program words q) _ (buffer_of s q) _ (stbars_of s q) _ (answered q) _ refl refl refl refl (same q) (stands.rows q within);
  others = λ q past. let none = stands.others q past in (none.0, none.1, same q ∙ none.2);
  memory = stands.memory;
}
