-- Lemmas on texts of which some is known, and on the files that are opened.
use Rattle.std.proofs.Common.{◌≡◌, ◌∙◌, ℕ, List, [], ◌∷◌, ◌++◌, append_assoc, IfSome, Some, None, arith, length, ap, refl, subst, sym, take, true, false, true≢false}
use Rattle.std.specs.Prelude.{Option, is_some, not, option_map}
use Rattle.std.specs.Borrow.{Bor}
use Rattle.std.specs.List.{list_all}
use Rattle.std.proofs.lemmas.List.{append-nil}
use Rattle.std.proofs.Math.Seq.{take-length}
use Rattle.text_streams.specs.Readings.{ReadsAs}
use Rattle.request_texts.specs.NthTraces.{IsWrittenOfNth}
use Rattle.request_texts.specs.OpenedFiles.{HasKnown, OpensFirst, OpensNext}

-- a reader's bytes are known of itself
pub knows_itself : (remaining : Option (List ℕ)) → HasKnown remaining remaining
knows_itself None = tt
knows_itself (Some all) = refl

-- what holds of the bytes of a reader holds of a file of which less may be known
pub known_reads : (known remaining : Option (List ℕ)) → HasKnown known remaining → (Is : List ℕ → Type 0) → ReadsAs remaining Is → ReadsAs known Is
known_reads None remaining has Is reads = record { bytes = reads.bytes; of_read = reads.of_read; of_all = tt }
known_reads (Some all) remaining has Is reads = subst (λ r. ReadsAs r Is) has reads

-- what holds of all of them holds of what is known of the file
pub known_all : (P : List ℕ → Type 0) (known remaining : Option (List ℕ)) → HasKnown known remaining → IfSome remaining P → IfSome known P
known_all P None remaining has holds = tt
known_all P (Some all) remaining has holds = subst (λ r. IfSome r P) has holds

-- what was read of a file is so of what is known of it
pub known_prefix : (limit : ℕ) (bytes : List ℕ) (known remaining : Option (List ℕ)) → HasKnown known remaining → IfSome remaining (λ all. bytes ≡ take limit all) → IfSome known (λ all. bytes ≡ take limit all)
known_prefix limit bytes = known_all (λ all. bytes ≡ take limit all)

-- what is said of the trace that is asked for follows from what else is said of it
pub written_as_well : {X : Type 0} (refused : X) (A B : List ℕ → List ℕ → X → Type 0) → ((trace text : List ℕ) (said : X) → A trace text said → B trace text said) → (nth : Option ℕ) (input text : List ℕ) (said : X) →
    IsWrittenOfNth refused nth A input text said → IsWrittenOfNth refused nth B input text said
written_as_well refused A B implied None input text said is = implied input text said is
written_as_well refused A B implied (Some number) input text said (None, piece, is) = (None, piece, is)
written_as_well refused A B implied (Some number) input text said (Some trace, piece, is) = (Some trace, piece, implied trace text said is)

-- ---- files opened

-- all of them are some of the first
pub opens_all : (old new : Option (List (List ℕ))) (names : List (List ℕ)) → OpensNext old new names → OpensFirst old new names
opens_all old new names opens = (length names, omega arith, subst (OpensNext old new) (sym (take-length names)) opens)

-- one after the other
pub opens_both : (old mid new : Option (List (List ℕ))) (name other : List ℕ) → OpensNext old mid (name ∷ []) → OpensNext mid new (other ∷ []) → OpensNext old new (name ∷ other ∷ [])
opens_both None mid new name other opens also = tt
opens_both (Some before) mid new name other opens also =
    let both : OpensNext (Some (before ++ name ∷ [])) new (other ∷ []) = subst (λ m. OpensNext m new (other ∷ [])) opens also in
    both ∙ ap Some (append_assoc before (name ∷ []) (other ∷ []))

-- where nothing was opened
pub opens_none : (old : Option (List (List ℕ))) (names : List (List ℕ)) → OpensFirst old old names
opens_none None names = (0, omega arith, tt)
opens_none (Some before) names = (0, omega arith, ap Some (sym (append-nil before)))

-- ---- standard input

-- it is read where no file is named
pub unnamed : (file : Option (Bor (List ℕ))) → not (list_all is_some (option_map (λ f. f.now) file ∷ [])) ≡ true → file ≡ None
unnamed None reads = refl
unnamed (Some name) reads = absurd (true≢false (sym reads))

-- it isn't read where a file is named
pub named : {P : Type 0} (file : Option (Bor (List ℕ))) → IfSome file (λ _. P) → not (list_all is_some (option_map (λ f. f.now) file ∷ [])) ≡ false → P
named None holds unread = absurd (true≢false unread)
named (Some name) holds unread = holds
