-- Lemmas on two texts that are read one after the other, each from its file or from standard input.
use Rattle.std.proofs.Common.{◌≡◌, ◌∙◌, ◌⊎◌, ℕ, List, [], ◌∷◌, None, Some, IfSome, inl, inr, refl, subst, sym, true, false, true≢false}
use Rattle.std.specs.Prelude.{MatchOption, Option, is_some, not, option_map}
use Rattle.std.specs.List.{list_all}
use Rattle.command_line.specs.Requests.{files_of}
use Rattle.command_line.specs.declared.requests.TextPair.{TextPair}
use Rattle.command_line.specs.declared.requests.TextPair.TheVariants.{Files, InputAndFile, FileAndInput}
use Rattle.request_texts.specs.OpenedFiles.{HasKnown, opened_bytes, text_bytes}

-- what holds where there is something
where_some : {A : Type 0} (P : Type 0) (o : Option A) → is_some o ≡ true → IfSome o (λ _. P) → P
where_some P None some holds = absurd (true≢false (sym some))
where_some P (Some x) some holds = holds

is_none : {A : Type 0} (o : Option A) → is_some o ≡ false → o ≡ None
is_none None none = refl
is_none (Some x) none = absurd (true≢false none)

-- of two alternatives the second is of what was there before
mapped : {V : Type 0} (Takes : V → V → Type 0) (before mid after : V) → mid ≡ before → (after ≡ mid) ⊎ Takes mid after → (after ≡ before) ⊎ Takes before after
mapped Takes before mid after same (inl is) = inl (is ∙ same)
mapped Takes before mid after same (inr takes) = inr (subst (λ v. Takes v after) same takes)

-- what standard input is before, after the first text was read, and at last
module _ {A V : Type 0} (texts : TextPair) (first second : Option A) (which : (is_some first ≡ is_some (files_of texts).0) × (is_some second ≡ is_some (files_of texts).1)) (before mid after : V)
    (unread : IfSome first (λ _. mid ≡ before)) where
  -- it is untouched where both are in files
  pub untouched : IfSome second (λ _. after ≡ mid) → not (list_all is_some ((files_of texts).0 ∷ (files_of texts).1 ∷ [])) ≡ false → after ≡ before
  untouched later = go texts which
    where
      go : (texts : TextPair) → (is_some first ≡ is_some (files_of texts).0) × (is_some second ≡ is_some (files_of texts).1) → not (list_all is_some ((files_of texts).0 ∷ (files_of texts).1 ∷ [])) ≡ false → after ≡ before
      go (Files one other) (has, also) reads = where_some (after ≡ mid) second also later ∙ where_some (mid ≡ before) first has unread
      go (InputAndFile other) both reads = absurd (true≢false reads)
      go (FileAndInput one) both reads = absurd (true≢false reads)

  -- where the first is in a file, reading it left it untouched
  pub first_unread : IfSome (files_of texts).0 (λ _. mid ≡ before)
  first_unread = go (files_of texts).0 which.0
    where
      go : (file : Option (List ℕ)) → is_some first ≡ is_some file → IfSome file (λ _. mid ≡ before)
      go None same = tt
      go (Some name) same = where_some (mid ≡ before) first same unread

  -- what was taken of it
  pub taken : (TakesFirst TakesSecond : V → V → Type 0) → IfSome second (λ _. after ≡ mid) → (first ≡ None → TakesFirst before mid) → (after ≡ mid) ⊎ TakesSecond mid after →
      MatchOption (files_of texts).0 (TakesFirst before after) (λ _. (after ≡ before) ⊎ TakesSecond before after)
  taken TakesFirst TakesSecond later takes ends = go texts which
    where
      go : (texts : TextPair) → (is_some first ≡ is_some (files_of texts).0) × (is_some second ≡ is_some (files_of texts).1) →
          MatchOption (files_of texts).0 (TakesFirst before after) (λ _. (after ≡ before) ⊎ TakesSecond before after)
      go (Files one other) (has, also) = mapped TakesSecond before mid after (where_some (mid ≡ before) first has unread) ends
      go (InputAndFile other) (has, also) = subst (TakesFirst before) (sym (where_some (after ≡ mid) second also later)) (takes (is_none first has))
      go (FileAndInput one) (has, also) = mapped TakesSecond before mid after (where_some (mid ≡ before) first has unread) ends

  -- what is read of the second is what is known of it, since the first left standard input untouched where the second is there
  pub second_known : (remaining : V → Option (List ℕ)) (bytes : A → Option (List ℕ)) (files : List ℕ → Option (List ℕ)) →
      ((input : Option (List ℕ)) → HasKnown (text_bytes (files_of texts).1 input files) (opened_bytes (option_map bytes second) input)) →
      HasKnown (text_bytes (files_of texts).1 (remaining before) files) (opened_bytes (option_map bytes second) (remaining mid))
  second_known remaining bytes files known = go texts which known
    where
      go : (texts : TextPair) → (is_some first ≡ is_some (files_of texts).0) × (is_some second ≡ is_some (files_of texts).1) →
          ((input : Option (List ℕ)) → HasKnown (text_bytes (files_of texts).1 input files) (opened_bytes (option_map bytes second) input)) →
          HasKnown (text_bytes (files_of texts).1 (remaining before) files) (opened_bytes (option_map bytes second) (remaining mid))
      go (Files one other) both known = known (remaining mid)
      go (InputAndFile other) both known = known (remaining mid)
      go (FileAndInput one) (has, also) known =
          subst (λ v. HasKnown (remaining v) (opened_bytes (option_map bytes second) (remaining mid))) (where_some (mid ≡ before) first has unread) (known (remaining mid))

-- what follows of what a text has follows of what is known of it
pub at_known : (known : Option (List ℕ)) (Is : List ℕ → Type 0) (X : Type 0) → IfSome known (λ all. Is all → X) → (text : List ℕ) × (known ≡ Some text) × Is text → X
at_known known Is X follows (text, is, holds) = subst (λ k. IfSome k (λ all. Is all → X)) is follows holds
