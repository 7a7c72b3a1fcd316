-- What is read of a line in a text with such places is read of it also where no place was seen yet, and such a text admits its place.
use Rattle.std.proofs.Common.{◌≡◌, ◌∙◌, ap, refl, subst, ℕ, ◌||◌, not, Bool, true, false, if◌then◌else◌, Option, None, Some, Result, Ok, Err, List, [], ◌∷◌, codes, slice_get}
use Rattle.std.specs.Str.{bytes_eq}
use Rattle.line_text.specs.Lines.{tokens_of}
use Rattle.line_text.specs.Results.{◌>>=◌}
use Rattle.tso_text.specs.declared.faults.Why.{Why}
use Rattle.tso_text.specs.declared.faults.Why.TheVariants.{BadLine, BadNumber, MixedWidths}
use Rattle.run_lines.specs.declared.arguments.Widths.{Widths}
use Rattle.run_lines.specs.declared.arguments.Widths.TheVariants.{Unseen}
use Rattle.run_lines.specs.Arguments.{admits, all_said, place_alone, place_and_value, place_and_values, place_said, place_told, value_said}
use Rattle.run_lines.specs.Lines.{LineNumbers, note, pso, first, step, finish, drain_said, is_access, is_plain, keyword_said, line_read, numbers_said, parts_said, processor_read, tokens_read}
use Rattle.run_lines.specs.Numerals.{number_spelled}
use Rattle.run_lines.specs.PlaceTexts.{place_spelled}
use Rattle.run_lines.specs.Tags.{before_tag, begins_tag}
use Rattle.log_text.specs.LogLines.{width_named}

-- what the first reads, the second reads too, and this holds of it
abbrev IsAlsoRead : {A : Type 0} → (A → Type 0) → Result A Why → Result A Why → Type 0
IsAlsoRead {A} P r s = (x : A) → r ≡ Ok x → (s ≡ Ok x) × P x

also_ok : {A : Type 0} (P : A → Type 0) (x : A) → P x → IsAlsoRead P (Ok x) (Ok x)
also_ok P x holds y e = let same : x ≡ y = cc in (e, subst P same holds)

also_err : {A : Type 0} (P : A → Type 0) (why : Why) (s : Result A Why) → IsAlsoRead P (Err why) s
also_err P why s y e = absurd cc

also_same : {A : Type 0} (r : Result A Why) → IsAlsoRead (λ x. Unit {0}) r r
also_same r y e = (e, tt)

also_then : {A B : Type 0} (P : A → Type 0) (Q : B → Type 0) (r s : Result A Why) (f g : A → Result B Why) → IsAlsoRead P r s →
    ((x : A) → P x → IsAlsoRead Q (f x) (g x)) → IsAlsoRead Q (r >>= f) (s >>= g)
also_then P Q (Ok x) s f g here later y e =
    let one = here x refl in
    let two = later x one.1 y e in
    (ap (λ t. t >>= g) one.0 ∙ two.0, two.1)
also_then P Q (Err why) s f g here later y e = absurd cc

also_if : {A : Type 0} (P : A → Type 0) (b : Bool) (r s r_else s_else : Result A Why) → IsAlsoRead P r s → IsAlsoRead P r_else s_else →
    IsAlsoRead P (if b then r else r_else) (if b then s else s_else)
also_if P true r s r_else s_else here there = here
also_if P false r s r_else s_else here there = there

-- a text with such places admits one of the width that is named, if one is
abbrev pub IsAdmitted : Widths → Option ℕ → Type 0
IsAdmitted kind None = Unit {0}
IsAdmitted kind (Some width) = admits kind width ≡ true

module _ (kind : Widths) where
  -- ---- places

  -- the place of the numbers is admitted
  abbrev AreAdmitted : List ℕ → Type 0
  AreAdmitted numbers = IsAdmitted kind (slice_get numbers 1)

  told_if : (p : ℕ × ℕ) (b : Bool) → admits kind p.1 ≡ b → IsAlsoRead (λ q. admits kind q.1 ≡ true) (if b then Ok p else Err MixedWidths) (Ok p)
  told_if p true is = also_ok (λ (q : ℕ × ℕ). admits kind q.1 ≡ true) p is
  told_if p false is = also_err (λ (q : ℕ × ℕ). admits kind q.1 ≡ true) MixedWidths (Ok p)

  also_told : (o : Option (ℕ × ℕ)) → IsAlsoRead (λ q. admits kind q.1 ≡ true) (place_told kind o) (place_told Unseen o)
  also_told None = also_err (λ (q : ℕ × ℕ). admits kind q.1 ≡ true) BadNumber (Err BadNumber)
  also_told (Some p) = told_if p (admits kind p.1) refl

  -- the place that is read first is admitted
  abbrev HasAdmitted : (ℕ × ℕ) × List (List ℕ) → Type 0
  HasAdmitted q = admits kind q.0.1 ≡ true

  also_place : (parts : List (List ℕ)) → IsAlsoRead HasAdmitted (place_said kind parts) (place_said Unseen parts)
  also_place [] = also_err HasAdmitted BadLine (Err BadLine)
  also_place (part ∷ parts) =
      also_then (λ (q : ℕ × ℕ). admits kind q.1 ≡ true) HasAdmitted (place_told kind (place_spelled part)) (place_told Unseen (place_spelled part))
      (λ p. Ok (p, parts)) (λ p. Ok (p, parts)) (also_told (place_spelled part)) (λ p admitted. also_ok HasAdmitted (p, parts) admitted)

  also_all : (numbers : List ℕ) (parts : List (List ℕ)) → AreAdmitted numbers → IsAlsoRead AreAdmitted (all_said numbers parts) (all_said numbers parts)
  also_all numbers [] holds = also_ok AreAdmitted numbers holds
  also_all numbers (part ∷ parts) holds = also_err AreAdmitted BadLine (Err BadLine)

  also_alone : (parts : List (List ℕ)) → IsAlsoRead AreAdmitted (place_alone kind parts) (place_alone Unseen parts)
  also_alone parts =
      also_then HasAdmitted AreAdmitted (place_said kind parts) (place_said Unseen parts) _ _ (also_place parts) (λ p admitted. also_all (p.0.0 ∷ p.0.1 ∷ []) p.1 admitted)

  also_value : (parts : List (List ℕ)) → IsAlsoRead AreAdmitted (place_and_value kind parts) (place_and_value Unseen parts)
  also_value parts =
      also_then HasAdmitted AreAdmitted (place_said kind parts) (place_said Unseen parts) _ _ (also_place parts)
      (λ p admitted. also_then (λ v. Unit {0}) AreAdmitted (value_said p.0.1 p.1) (value_said p.0.1 p.1) _ _ (also_same (value_said p.0.1 p.1))
      (λ v any. also_all (p.0.0 ∷ p.0.1 ∷ v.0 ∷ []) v.1 admitted))

  also_values : (parts : List (List ℕ)) → IsAlsoRead AreAdmitted (place_and_values kind parts) (place_and_values Unseen parts)
  also_values parts =
      also_then HasAdmitted AreAdmitted (place_said kind parts) (place_said Unseen parts) _ _ (also_place parts)
      (λ p admitted. also_then (λ v. Unit {0}) AreAdmitted (value_said p.0.1 p.1) (value_said p.0.1 p.1) _ _ (also_same (value_said p.0.1 p.1))
      (λ v any. also_then (λ w. Unit {0}) AreAdmitted (value_said p.0.1 v.1) (value_said p.0.1 v.1) _ _ (also_same (value_said p.0.1 v.1))
      (λ w any. also_all (p.0.0 ∷ p.0.1 ∷ v.0 ∷ w.0 ∷ []) w.1 admitted)))

  also_drain : (parts : List (List ℕ)) → IsAlsoRead AreAdmitted (drain_said kind parts) (drain_said Unseen parts)
  also_drain [] = also_ok AreAdmitted [] tt
  also_drain (part ∷ []) = also_alone (part ∷ [])
  also_drain (part ∷ other ∷ parts) = also_value (part ∷ other ∷ parts)

  also_numbers : (word : List ℕ) (parts : List (List ℕ)) → IsAlsoRead AreAdmitted (numbers_said kind word parts) (numbers_said Unseen word parts)
  unfolding numbers_said
  also_numbers word parts =
      also_if AreAdmitted (is_access word) _ _ _ _ (also_value parts)
      (also_if AreAdmitted (bytes_eq word (codes "dr")) _ _ _ _ (also_drain parts)
      (also_if AreAdmitted (bytes_eq word (codes "sw")) _ _ _ _ (also_values parts)
      (also_if AreAdmitted (bytes_eq word (codes "un")) _ _ _ _ (also_alone parts)
      (also_if AreAdmitted (bytes_eq word (codes "mb") || bytes_eq word (codes "stbar")) _ _ _ _ (also_all [] parts tt) (also_err AreAdmitted BadLine (Err BadLine))))))

  -- ---- lines

  -- the place of the line is admitted
  abbrev pub IsLineAdmitted : LineNumbers → Type 0
  IsLineAdmitted n = IsAdmitted kind (width_named n)

  also_keyword : (p : ℕ) (parts : List (List ℕ)) → IsAlsoRead IsLineAdmitted (keyword_said kind p parts) (keyword_said Unseen p parts)
  also_keyword p [] = also_err IsLineAdmitted BadLine (Err BadLine)
  also_keyword p (word ∷ parts) =
      also_then AreAdmitted IsLineAdmitted (numbers_said kind word parts) (numbers_said Unseen word parts) _ _ (also_numbers word parts)
      (λ numbers holds. also_ok IsLineAdmitted (step p word numbers) holds)

  also_tokens : (parts : List (List ℕ)) → IsAlsoRead IsLineAdmitted (tokens_read kind parts) (tokens_read Unseen parts)
  unfolding tokens_read
  also_tokens [] = also_err IsLineAdmitted BadLine (Err BadLine)
  also_tokens (word ∷ parts) =
      also_if IsLineAdmitted (bytes_eq word (codes "init")) _ _ _ _
      (also_then AreAdmitted IsLineAdmitted (place_and_value kind parts) (place_and_value Unseen parts) _ _ (also_value parts)
      (λ numbers holds. also_ok IsLineAdmitted (first numbers) holds))
      (also_then (λ p. Unit {0}) IsLineAdmitted (processor_read (number_spelled word)) (processor_read (number_spelled word)) _ _ (also_same (processor_read (number_spelled word)))
      (λ p any. also_keyword p parts))

  also_parts : (said : List ℕ) → IsAlsoRead IsLineAdmitted (parts_said kind said) (parts_said Unseen said)
  unfolding parts_said
  also_parts said =
      also_if IsLineAdmitted (bytes_eq said (codes "model pso")) _ _ _ _ (also_ok IsLineAdmitted pso tt)
      (also_if IsLineAdmitted (bytes_eq said (codes "end")) _ _ _ _ (also_ok IsLineAdmitted finish tt) (also_tokens (tokens_of said)))

  -- A line that is read in a text with such places is read the same where no place was seen yet, and its place is admitted.
  pub also_line : (line : List ℕ) (n : LineNumbers) → line_read kind line ≡ Ok n → (line_read Unseen line ≡ Ok n) × IsLineAdmitted n
  also_line line =
      also_if IsLineAdmitted (not (is_plain line)) _ _ _ _ (also_err IsLineAdmitted BadLine (Err BadLine))
      (also_if IsLineAdmitted (begins_tag line) _ _ _ _ (also_ok IsLineAdmitted note tt) (also_parts (before_tag line)))
