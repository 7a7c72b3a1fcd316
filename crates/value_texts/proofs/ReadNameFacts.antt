-- Lemmas on tokens that are read as names, and on the names that a table has.
use Rattle.std.proofs.Common.{◌≡◌, ℕ, ◌+◌, ◌-◌, ◌<◌, ◌^◌, Bool, true, false, List, [], ◌∷◌, ◌++◌, length, get_or, take, drop, Option, Some, None, refl, ap, sym, ◌∙◌, subst, arith, length-append}
use Rattle.std.specs.Prelude.{codes}
use Rattle.std.specs.Fmt.{decimal}
use Rattle.std.specs.HashMap.{HashMap, get, Updates}
use Rattle.std.specs.Option.{is_some}
use Rattle.std.specs.Str.{bytes_eq}
use Rattle.std.proofs.lemmas.Bool.{false≢true}
use Rattle.std.proofs.lemmas.List.{append-nil, append_cancel_right, length-take-le, take-append-drop, take_more}
use Rattle.std.proofs.lemmas.Slice.Eq.{bytes_eq-Decides}
use Rattle.std.proofs.Math.Seq.{drop-append_seam}
use Rattle.line_text.specs.Numbers.{number}
use Rattle.line_text.proofs.NumberFacts.{number_is, number_fits, number-decimal}
use Rattle.value_texts.specs.declared.names.EventName.{EventName}
use Rattle.value_texts.specs.Names.{event_name_text}
use Rattle.value_texts.specs.Internal.Tables.{name_key, same_key, HasNumbers}
use Rattle.value_texts.proofs.NameFacts.{no_prime, numbers-kept, numbers-added}

-- ---- tokens

-- a token that ends with a prime
pub primed : (token line prime : List ℕ) → prime ≡ 39 ∷ [] → bytes_eq (drop (length token - length prime) token) prime ≡ true → line ≡ take (length token - length prime) token → token ≡ line ++ 39 ∷ []
primed token line prime quote ends is =
    let n = length token - length prime in
    sym (take-append-drop n token) ∙ ap (λ t. t ++ drop n token) (sym is) ∙ ap (λ t. line ++ t) ((bytes_eq-Decides (drop n token) prime).0 ends ∙ quote)

-- one that doesn't
unprimed : (token line prime : List ℕ) → prime ≡ 39 ∷ [] → bytes_eq (drop (length token - length prime) token) prime ≡ false → token ≡ line ++ 39 ∷ [] → ⊥
unprimed token line prime quote ends is =
    let at : length token - length prime ≡ length line = omega (arith, ap length is, ap length quote, length-append line (39 ∷ [])) in
    let last : drop (length token - length prime) token ≡ prime = ap (λ n. drop n token) at ∙ ap (drop (length line)) is ∙ drop-append_seam line (39 ∷ []) ∙ sym quote in
    false≢true (sym ends ∙ (bytes_eq-Decides (drop (length token - length prime) token) prime).1 last)

-- what is read is a name
pub read-primed : (token line : List ℕ) (n : ℕ) → token ≡ line ++ 39 ∷ [] → number line ≡ Some n → (token ≡ decimal n ++ codes "'") × (n < 2 ^ 64)
read-primed token line n is said = (is ∙ ap (λ t. t ++ 39 ∷ []) (number_is line n said), number_fits line n said)

pub read-plain : (token : List ℕ) (n : ℕ) → number token ≡ Some n → (token ≡ decimal n ++ []) × (n < 2 ^ 64)
read-plain token n said = (number_is token n said ∙ sym (append-nil (decimal n)), number_fits token n said)

no_number : (line : List ℕ) (n : ℕ) → n < 2 ^ 64 → number line ≡ None → line ≡ decimal n → ⊥
no_number line n low none is = absurd (let s : None ≡ Some n = sym none ∙ ap number is ∙ number-decimal n low in cc)

-- what isn't read is none
pub unread-primed : (token line : List ℕ) (name : EventName) → token ≡ line ++ 39 ∷ [] → number line ≡ None → name.line < 2 ^ 64 → token ≡ event_name_text name → ⊥
unread-primed token line name is none low same = by name.is_swap_store refl
  where
    by : (b : Bool) → name.is_swap_store ≡ b → ⊥
    by true half =
        let e : token ≡ decimal name.line ++ 39 ∷ [] = rw half at same in
        no_number line name.line low none (append_cancel_right line (decimal name.line) (39 ∷ []) (sym is ∙ e))
    by false half =
        let e : token ≡ decimal name.line ++ [] = rw half at same in
        no_prime name.line line (sym (append-nil (decimal name.line)) ∙ sym e ∙ is)

pub unread-plain : (token prime : List ℕ) (name : EventName) → prime ≡ 39 ∷ [] → bytes_eq (drop (length token - length prime) token) prime ≡ false → number token ≡ None → name.line < 2 ^ 64 → token ≡ event_name_text name → ⊥
unread-plain token prime name quote ends none low same = by name.is_swap_store refl
  where
    by : (b : Bool) → name.is_swap_store ≡ b → ⊥
    by true half = let e : token ≡ decimal name.line ++ 39 ∷ [] = rw half at same in unprimed token (decimal name.line) prime quote ends e
    by false half = let e : token ≡ decimal name.line ++ [] = rw half at same in no_number token name.line low none (e ∙ append-nil (decimal name.line))

-- ---- the table

found_one : (o : Option ℕ) → is_some o ≡ true → (n : ℕ) × (o ≡ Some n)
found_one None some = absurd cc
found_one (Some n) some = (n, refl)

found_none : (o : Option ℕ) → is_some o ≡ false → o ≡ None
found_none None none = refl
found_none (Some n) none = absurd cc

module _ {S : Type 0} (names : List EventName) (k : ℕ) (d : EventName) (inside : k < length names) where
  pub numbers-known : (numbers : HashMap (ℕ × ℕ) ℕ S) → HasNumbers (take k names) numbers → is_some (get same_key numbers (name_key (get_or names k d))) ≡ true → HasNumbers (take (k + 1) names) numbers
  numbers-known numbers has some =
      let found = found_one (get same_key numbers (name_key (get_or names k d))) some in
      subst (λ all. HasNumbers all numbers) (sym (take_more names k d inside)) (numbers-kept (take k names) numbers (get_or names k d) found.0 has found.1)

  pub numbers-new : (old new : HashMap (ℕ × ℕ) ℕ S) → HasNumbers (take k names) old → is_some (get same_key old (name_key (get_or names k d))) ≡ false →
      Updates same_key old new (name_key (get_or names k d)) (Some (k + 1)) → HasNumbers (take (k + 1) names) new
  numbers-new old new has none updates =
      let at : k + 1 ≡ 1 + length (take k names) = omega (arith, length-take-le k names (omega (arith, inside))) in
      subst (λ all. HasNumbers all new) (sym (take_more names k d inside))
      (numbers-added (take k names) old new (get_or names k d) has (found_none (get same_key old (name_key (get_or names k d))) none)
      (subst (λ n. Updates same_key old new (name_key (get_or names k d)) (Some n)) at updates))
