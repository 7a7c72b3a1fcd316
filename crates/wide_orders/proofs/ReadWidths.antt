-- The width of a line that is read, in a text of such places.
use Rattle.std.proofs.Common.{◌≡◌, ◌∙◌, ℕ, zero, suc, ◌<◌, not, Bool, true, false, eqb-true, if◌then◌else◌, List, [], ◌∷◌, codes, slice_get, Option, None, Some, Result, Ok, Err, refl, sym, subst, arith}
use Rattle.std.specs.Str.{bytes_eq}
use Rattle.std.proofs.lemmas.Bool.{true≢false}
use Rattle.std.proofs.lemmas.Slice.Eq.{bytes_eq-Decides}
use Rattle.line_text.specs.Lines.{tokens_of}
use Rattle.line_text.specs.Results.{◌>>=◌}
use Rattle.tso_text.specs.Numbers.{number_at}
use Rattle.tso_text.specs.declared.faults.Why.{Why}
use Rattle.tso_text.specs.declared.faults.Why.TheVariants.{BadLine, BadNumber, MixedWidths}
use Rattle.run_lines.specs.declared.arguments.Widths.{Widths}
use Rattle.run_lines.specs.declared.arguments.Widths.TheVariants.{Unseen, Locations, Bytes}
use Rattle.run_lines.specs.Arguments.{admits, all_said, place_alone, place_and_value, place_and_values, place_said, place_told, value_said}
use Rattle.run_lines.specs.Lines.{LineNumbers, note, pso, first, step, finish, is_plain, keyword_said, line_read, numbers_said, parts_said, processor_read, tokens_read}
use Rattle.run_lines.specs.Numerals.{number_spelled}
use Rattle.run_lines.specs.PlaceTexts.{place_spelled}
use Rattle.run_lines.specs.Tags.{before_tag, begins_tag}
use Rattle.log_text.specs.LogLines.{is_memory_word, line_told, width_named, width_told}
use Rattle.log_text.specs.Splits.{has_bytes}
use Rattle.wide_orders.specs.WideOrders.{names_place}

-- ---- what is read

-- what is read, if anything is, is so
abbrev pub Gives : {A : Type 0} → (A → Type 0) → Result A Why → Type 0
Gives {A} P r = (x : A) → r ≡ Ok x → P x

-- by an answer that is so
gives_ok : {A : Type 0} (P : A → Type 0) (x : A) → P x → Gives P (Ok x)
gives_ok P x holds y e = let same : x ≡ y = cc in subst P same holds

-- by a refusal
gives_err : {A : Type 0} (P : A → Type 0) (why : Why) → Gives P (Err why)
gives_err P why y e = absurd cc

-- by what is read further
gives_then : {A B : Type 0} (P : A → Type 0) (Q : B → Type 0) (r : Result A Why) (f : A → Result B Why) → Gives P r → ((x : A) → P x → Gives Q (f x)) → Gives Q (r >>= f)
gives_then P Q (Ok x) f here later y e = later x (here x refl) y e
gives_then P Q (Err why) f here later y e = absurd cc

-- by a choice
gives_if : {A : Type 0} (P : A → Type 0) (b : Bool) (r s : Result A Why) → (b ≡ true → Gives P r) → (b ≡ false → Gives P s) → Gives P (if b then r else s)
gives_if P true r s here there = here refl
gives_if P false r s here there = there refl

-- whatever it is
abbrev Any : {A : Type 0} → A → Type 0
Any x = Unit {0}

-- ---- places

-- the numbers are of a place that may stand in such a text
abbrev IsAdmitted : Widths → List ℕ → Type 0
IsAdmitted places numbers = admits places (number_at numbers 1) ≡ true

-- a place may stand there
abbrev IsPlaceAdmitted : Widths → (ℕ × ℕ) × List (List ℕ) → Type 0
IsPlaceAdmitted places q = admits places q.0.1 ≡ true

-- a place that is read may stand there
gives_told : (places : Widths) (o : Option (ℕ × ℕ)) → Gives (λ q. admits places q.1 ≡ true) (place_told places o)
gives_told places None = gives_err (λ (q : ℕ × ℕ). admits places q.1 ≡ true) BadNumber
gives_told places (Some p) =
    gives_if (λ (q : ℕ × ℕ). admits places q.1 ≡ true) (admits places p.1) (Ok p) (Err MixedWidths) (λ is. gives_ok (λ (q : ℕ × ℕ). admits places q.1 ≡ true) p is)
    (λ is. gives_err (λ (q : ℕ × ℕ). admits places q.1 ≡ true) MixedWidths)

-- so may the first part of some
gives_place : (places : Widths) (parts : List (List ℕ)) → Gives (IsPlaceAdmitted places) (place_said places parts)
gives_place places [] = gives_err (IsPlaceAdmitted places) BadLine
gives_place places (part ∷ parts) =
    gives_then (λ (q : ℕ × ℕ). admits places q.1 ≡ true) (IsPlaceAdmitted places) (place_told places (place_spelled part)) (λ p. Ok (p, parts)) (gives_told places (place_spelled part))
    (λ p is. gives_ok (IsPlaceAdmitted places) (p, parts) is)

-- numbers after which no part is left
gives_all : (P : List ℕ → Type 0) (numbers : List ℕ) (parts : List (List ℕ)) → P numbers → Gives P (all_said numbers parts)
gives_all P numbers [] holds = gives_ok P numbers holds
gives_all P numbers (part ∷ parts) holds = gives_err P BadLine

-- a place alone
gives_alone : (places : Widths) (parts : List (List ℕ)) → Gives (IsAdmitted places) (place_alone places parts)
gives_alone places parts =
    gives_then (IsPlaceAdmitted places) (IsAdmitted places) (place_said places parts) _ (gives_place places parts) (λ p is. gives_all (IsAdmitted places) (p.0.0 ∷ p.0.1 ∷ []) p.1 is)

-- a place and a value
gives_value : (places : Widths) (parts : List (List ℕ)) → Gives (IsAdmitted places) (place_and_value places parts)
gives_value places parts =
    gives_then (IsPlaceAdmitted places) (IsAdmitted places) (place_said places parts) _ (gives_place places parts)
    (λ p is. gives_then Any (IsAdmitted places) (value_said p.0.1 p.1) _ (λ v e. tt) (λ v any. gives_all (IsAdmitted places) (p.0.0 ∷ p.0.1 ∷ v.0 ∷ []) v.1 is))

-- a place and two values
gives_values : (places : Widths) (parts : List (List ℕ)) → Gives (IsAdmitted places) (place_and_values places parts)
gives_values places parts =
    gives_then (IsPlaceAdmitted places) (IsAdmitted places) (place_said places parts) _ (gives_place places parts)
    (λ p is. gives_then Any (IsAdmitted places) (value_said p.0.1 p.1) _ (λ v e. tt)
    (λ v any. gives_then Any (IsAdmitted places) (value_said p.0.1 v.1) _ (λ w e. tt) (λ w any. gives_all (IsAdmitted places) (p.0.0 ∷ p.0.1 ∷ v.0 ∷ w.0 ∷ []) w.1 is)))

-- ---- lines

-- the width of the line is as the places of the text are, and 0 where the line names no place
pub record HasWidthOf (places : Widths) (n : LineNumbers) : Type 0 where
  pub bytes : has_bytes places ≡ true → names_place (line_told n) ≡ true → 0 < width_told n
  pub locations : places ≡ Locations → width_told n ≡ 0
  pub others : names_place (line_told n) ≡ false → width_told n ≡ 0

-- among bytes a place has some
some_bytes : (places : Widths) (width : ℕ) → admits places width ≡ true → has_bytes places ≡ true → 0 < width
some_bytes Unseen width admitted is = absurd (true≢false (sym is))
some_bytes Locations width admitted is = absurd (true≢false (sym is))
some_bytes Bytes zero admitted is = absurd (true≢false (sym admitted))
some_bytes Bytes (suc more) admitted is = omega arith

-- among locations it has none
no_bytes : (places : Widths) (width : ℕ) → admits places width ≡ true → places ≡ Locations → width ≡ 0
no_bytes places width admitted is = eqb-true width 0 (subst (λ p. admits p width ≡ true) is admitted)

-- a line that names a place has its width
of_place_named : (places : Widths) (n : LineNumbers) → names_place (line_told n) ≡ true → admits places (width_told n) ≡ true → HasWidthOf places n
of_place_named places n names admitted = record {
  bytes = λ is named. some_bytes places (width_told n) admitted is;
  locations = λ is. no_bytes places (width_told n) admitted is;
  others = λ none. absurd (true≢false (sym names ∙ none));
}

-- a line that names none has none
of_no_place : (places : Widths) (n : LineNumbers) → names_place (line_told n) ≡ false → width_told n ≡ 0 → HasWidthOf places n
of_no_place places n none is = record { bytes = λ bytes names. absurd (true≢false (sym names ∙ none)); locations = λ locations. is; others = λ other. is }

-- what holds of this word, and of a word that is another, holds of the word
by_word : (P : List ℕ → Type 0) (word known : List ℕ) → P known → (bytes_eq word known ≡ false → P word) → P word
by_word P word known here other = by_test (bytes_eq word known) refl
  where
    by_test : (b : Bool) → bytes_eq word known ≡ b → P word
    by_test true is = subst P (sym ((bytes_eq-Decides word known).0 is)) here
    by_test false is = other is

-- other keywords are refused
no_keyword : (places : Widths) (word : List ℕ) (parts : List (List ℕ)) → bytes_eq word (codes "ld") ≡ false → bytes_eq word (codes "st") ≡ false → bytes_eq word (codes "wr") ≡ false →
    bytes_eq word (codes "lr") ≡ false → bytes_eq word (codes "sc") ≡ false → bytes_eq word (codes "last") ≡ false → bytes_eq word (codes "dr") ≡ false → bytes_eq word (codes "sw") ≡ false →
    bytes_eq word (codes "un") ≡ false → bytes_eq word (codes "mb") ≡ false → bytes_eq word (codes "stbar") ≡ false → numbers_said places word parts ≡ Err BadLine
unfolding numbers_said
no_keyword places word parts ld st wr lr sc last dr sw un mb stbar = rw (ld, st, wr, lr, sc, last, dr, sw, un, mb, stbar) refl

module _ (places : Widths) (p : ℕ) (parts : List (List ℕ)) where
  -- the width of a step with this keyword
  abbrev StepHasWidth : List ℕ → Type 0
  StepHasWidth word = Gives (λ numbers. HasWidthOf places (step p word numbers)) (numbers_said places word parts)

  -- a load
  at_load : StepHasWidth (codes "ld")
  unfolding numbers_said
  at_load numbers e = of_place_named places (step p (codes "ld") numbers) refl (gives_value places parts numbers e)

  -- a store that waits
  at_store : StepHasWidth (codes "st")
  unfolding numbers_said
  at_store numbers e = of_place_named places (step p (codes "st") numbers) refl (gives_value places parts numbers e)

  -- a store that reaches memory at once
  at_write : StepHasWidth (codes "wr")
  unfolding numbers_said
  at_write numbers e = of_place_named places (step p (codes "wr") numbers) refl (gives_value places parts numbers e)

  -- a load that reserves its place
  at_reserve : StepHasWidth (codes "lr")
  unfolding numbers_said
  at_reserve numbers e = of_place_named places (step p (codes "lr") numbers) refl (gives_value places parts numbers e)

  -- a store to a place that was reserved
  at_reserved : StepHasWidth (codes "sc")
  unfolding numbers_said
  at_reserved numbers e = of_place_named places (step p (codes "sc") numbers) refl (gives_value places parts numbers e)

  -- what memory holds at the end
  at_last : StepHasWidth (codes "last")
  at_last numbers e = of_no_place places (step p (codes "last") numbers) refl refl

  -- a store that reaches memory
  at_drain : StepHasWidth (codes "dr")
  at_drain numbers e = of_no_place places (step p (codes "dr") numbers) refl refl

  -- a swap
  at_swap : StepHasWidth (codes "sw")
  unfolding numbers_said
  at_swap numbers e = of_place_named places (step p (codes "sw") numbers) refl (gives_values places parts numbers e)

  -- something unknown
  at_unknown : StepHasWidth (codes "un")
  unfolding numbers_said
  at_unknown numbers e = of_place_named places (step p (codes "un") numbers) refl (gives_alone places parts numbers e)

  -- a barrier for all
  at_membar : StepHasWidth (codes "mb")
  unfolding numbers_said
  at_membar = gives_all (λ numbers. HasWidthOf places (step p (codes "mb") numbers)) [] parts (of_no_place places (step p (codes "mb") []) refl refl)

  -- a barrier for stores
  at_stbar : StepHasWidth (codes "stbar")
  unfolding numbers_said
  at_stbar = gives_all (λ numbers. HasWidthOf places (step p (codes "stbar") numbers)) [] parts (of_no_place places (step p (codes "stbar") []) refl refl)

  -- each step
  gives_step : (word : List ℕ) → StepHasWidth word
  gives_step word =
      by_word StepHasWidth word (codes "ld") at_load
      (λ ld. by_word StepHasWidth word (codes "st") at_store
      (λ st. by_word StepHasWidth word (codes "wr") at_write
      (λ wr. by_word StepHasWidth word (codes "lr") at_reserve
      (λ lr. by_word StepHasWidth word (codes "sc") at_reserved
      (λ sc. by_word StepHasWidth word (codes "last") at_last
      (λ last. by_word StepHasWidth word (codes "dr") at_drain
      (λ dr. by_word StepHasWidth word (codes "sw") at_swap
      (λ sw. by_word StepHasWidth word (codes "un") at_unknown
      (λ un. by_word StepHasWidth word (codes "mb") at_membar
      (λ mb. by_word StepHasWidth word (codes "stbar") at_stbar
      (λ stbar. subst (Gives (λ numbers. HasWidthOf places (step p word numbers))) (sym (no_keyword places word parts ld st wr lr sc last dr sw un mb stbar))
      (gives_err (λ numbers. HasWidthOf places (step p word numbers)) BadLine))))))))))))

module _ (places : Widths) where
  -- what stands after a processor
  gives_keyword : (p : ℕ) (parts : List (List ℕ)) → Gives (HasWidthOf places) (keyword_said places p parts)
  gives_keyword p [] = gives_err (HasWidthOf places) BadLine
  gives_keyword p (word ∷ parts) =
      gives_then (λ numbers. HasWidthOf places (step p word numbers)) (HasWidthOf places) (numbers_said places word parts) _ (gives_step places p parts word)
      (λ numbers holds. gives_ok (HasWidthOf places) (step p word numbers) holds)

  -- a first value, or a step of a processor
  gives_tokens : (parts : List (List ℕ)) → Gives (HasWidthOf places) (tokens_read places parts)
  unfolding tokens_read
  gives_tokens [] = gives_err (HasWidthOf places) BadLine
  gives_tokens (word ∷ parts) =
      gives_if (HasWidthOf places) (bytes_eq word (codes "init")) _ _
      (λ is. gives_then (IsAdmitted places) (HasWidthOf places) (place_and_value places parts) _ (gives_value places parts)
      (λ numbers admitted. gives_ok (HasWidthOf places) (first numbers) (of_place_named places (first numbers) refl admitted)))
      (λ other. gives_then Any (HasWidthOf places) (processor_read (number_spelled word)) _ (λ p e. tt) (λ p any. gives_keyword p parts))

  -- a line without its tag
  gives_parts : (said : List ℕ) → Gives (HasWidthOf places) (parts_said places said)
  unfolding parts_said
  gives_parts said =
      gives_if (HasWidthOf places) (bytes_eq said (codes "model pso")) _ _ (λ is. gives_ok (HasWidthOf places) pso (of_no_place places pso refl refl))
      (λ other. gives_if (HasWidthOf places) (bytes_eq said (codes "end")) _ _ (λ is. gives_ok (HasWidthOf places) finish (of_no_place places finish refl refl)) (λ more. gives_tokens (tokens_of said)))

  -- each line that is read has a width as the places are
  pub gives_line : (line : List ℕ) → Gives (HasWidthOf places) (line_read places line)
  gives_line line =
      gives_if (HasWidthOf places) (not (is_plain line)) _ _ (λ is. gives_err (HasWidthOf places) BadLine)
      (λ other. gives_if (HasWidthOf places) (begins_tag line) _ _ (λ is. gives_ok (HasWidthOf places) note (of_no_place places note refl refl)) (λ more. gives_parts (before_tag line)))

-- ---- where no width is named

-- numbers without a second one
no_second : (numbers : List ℕ) → slice_get numbers 1 ≡ None → number_at numbers 1 ≡ 0
no_second [] none = refl
no_second (a ∷ []) none = refl
no_second (a ∷ width ∷ numbers) none = absurd cc

-- a line that names no width has none
pub unnamed_width : (n : LineNumbers) → width_named n ≡ None → width_told n ≡ 0
unnamed_width note none = refl
unnamed_width pso none = refl
unnamed_width (first numbers) none = no_second numbers none
unnamed_width (step p word numbers) none = by_test (is_memory_word word)
  where
    by_test : (b : Bool) → (if b then 0 else number_at numbers 1) ≡ 0
    by_test true = refl
    by_test false = no_second numbers none
unnamed_width finish none = refl
