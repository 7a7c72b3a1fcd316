-- What each step changes in the state of the machine.
use Rattle.std.proofs.Common.{◌≡◌, ◌∙◌, inl, inr, sym, ap, refl, subst, ℕ, suc, ◌+◌, ◌<◌, ◌==◌, cond, Option, None, Some, List, [], ◌∷◌, ◌++◌, length, set, slice_get, slice_index, eq-eqb, arith}
use Rattle.std.specs.List.{remove}
use Rattle.std.specs.Option.{option_to_list}
use Rattle.std.proofs.lemmas.Bool.{ne_eqb}
use Rattle.std.proofs.lemmas.List.{append-nil, length-set, get_or-set_same, get_or-set_other}
use Rattle.tso_ops.specs.declared.ops.Op.{Op}
use Rattle.tso_ops.specs.declared.ops.Op.TheVariants.{Ld as OpLd, St as OpSt, Sw as OpSw, Mb as OpMb, Sb as OpSb}
use Rattle.unit_core.specs.Issues.{step_of}
use Rattle.unit_core.specs.Machine.{Entry, State, buffer_of, drained, next, stbars_of, written}
use Rattle.final_states.specs.Internal.Words.{entry_of, outcome_with, stbar_count}
use Rattle.final_states.proofs.StepMoves.{StateMoves, same_or_other, written_by}

-- an operation has this mark when it is issued
abbrev pub IsNewMark : Op → ℕ → Type 0
IsNewMark (OpLd a) mark = Unit {0}
IsNewMark (OpSt a v) mark = mark ≡ 0
IsNewMark (OpSw a v) mark = Unit {0}
IsNewMark OpMb mark = mark ≡ 0
IsNewMark OpSb mark = mark ≡ 0

-- the value of each address after a write
pub value-set : (memory : List ℕ) (b v a : ℕ) → b < length memory → slice_index (set memory b v) a ≡ cond (b == a) v (slice_index memory a)
value-set memory b v a within =
    elim (same_or_other b a) [
      | inl same ↦ subst (λ k. slice_index (set memory b v) k ≡ cond (b == k) v (slice_index memory k)) same (get_or-set_same memory b v 0 within ∙ sym (ap (λ t. cond t v (slice_index memory b)) (eq-eqb b b refl)))
      | inr other ↦ get_or-set_other memory b a v 0 (λ e. other (sym e)) ∙ sym (ap (λ t. cond t v (slice_index memory a)) (ne_eqb b a other))
    ]

-- nothing changes
same_state : (s : State) (p : ℕ) → StateMoves s s p (buffer_of s p ++ []) (stbars_of s p + 0) None
same_state s p = record {
  own_buffer = sym (append-nil (buffer_of s p));
  own_stbars = omega arith;
  other_buffers = λ q other. refl;
  other_stbars = λ q other. refl;
  memory = λ a. refl;
  memory_words = refl;
  buffers = refl;
  lengths = refl;
}

-- processor p issues an operation
pub issue-state : (s : State) (p mark : ℕ) (op : Op) → p < length s.buffers → p < length s.stbars → length s.memory ≡ 256 → ((a v : ℕ) → op ≡ OpSw a v → a < 256) → IsNewMark op mark →
    StateMoves s (next s (step_of p (outcome_with op mark))) p (buffer_of s p ++ option_to_list (entry_of (stbars_of s p) op mark)) (stbars_of s p + stbar_count op) (written_by op)
issue-state s p mark (OpLd a) in_buffers in_stbars words range is = same_state s p
issue-state s p mark (OpSt a v) in_buffers in_stbars words range is =
    let new : Entry = record { a = a; v = v; stbars = stbars_of s p } in
    let entry : entry_of (stbars_of s p) (OpSt a v) mark ≡ Some new = ap (entry_of (stbars_of s p) (OpSt a v)) is in
    record {
      own_buffer = get_or-set_same s.buffers p (buffer_of s p ++ new ∷ []) [] in_buffers ∙ ap (λ o. buffer_of s p ++ option_to_list o) (sym entry);
      own_stbars = omega arith;
      other_buffers = λ q other. get_or-set_other s.buffers p q (buffer_of s p ++ new ∷ []) [] other;
      other_stbars = λ q other. refl;
      memory = λ b. refl;
      memory_words = refl;
      buffers = length-set s.buffers p (buffer_of s p ++ new ∷ []);
      lengths = refl;
    }
issue-state s p mark (OpSw a v) in_buffers in_stbars words range is = record {
  own_buffer = sym (append-nil (buffer_of s p));
  own_stbars = omega arith;
  other_buffers = λ q other. refl;
  other_stbars = λ q other. refl;
  memory = λ b. value-set s.memory a v b (omega (arith, words, range a v refl));
  memory_words = length-set s.memory a v;
  buffers = refl;
  lengths = refl;
}
issue-state s p mark OpMb in_buffers in_stbars words range is = same_state s p
issue-state s p mark OpSb in_buffers in_stbars words range is = record {
  own_buffer = sym (append-nil (buffer_of s p));
  own_stbars = get_or-set_same s.stbars p (suc (stbars_of s p)) 0 in_stbars ∙ omega arith;
  other_buffers = λ q other. refl;
  other_stbars = λ q other. get_or-set_other s.stbars p q (suc (stbars_of s p)) 0 other;
  memory = λ b. refl;
  memory_words = refl;
  buffers = refl;
  lengths = length-set s.stbars p (suc (stbars_of s p));
}

-- the entry at place k of the buffer of processor p goes to memory
pub drain-state : (s : State) (p k : ℕ) (e : Entry) → p < length s.buffers → length s.memory ≡ 256 → e.a < 256 → slice_get (buffer_of s p) k ≡ Some e →
    StateMoves s (drained s p k) p (remove (buffer_of s p) k) (stbars_of s p) (Some (e.a, e.v))
drain-state s p k e in_buffers words range read =
    let rest = remove (buffer_of s p) k in
    let P : Option Entry → Type 0 = λ o. StateMoves s (written s p o rest) p rest (stbars_of s p) (Some (e.a, e.v)) in
    subst P (sym read) (record {
      own_buffer = get_or-set_same s.buffers p rest [] in_buffers;
      own_stbars = refl;
      other_buffers = λ q other. get_or-set_other s.buffers p q rest [] other;
      other_stbars = λ q other. refl;
      memory = λ b. value-set s.memory e.a e.v b (omega (arith, words, range));
      memory_words = length-set s.memory e.a e.v;
      buffers = length-set s.buffers p rest;
      lengths = refl;
    })
