-- Lemmas on the first number of two rows above another number.
use Rattle.std.proofs.Common.{◌≡◌, ◌↔◌, inl, inr, ℕ, suc, ◌+◌, ◌*◌, ◌/◌, ◌%◌, ◌^◌, ◌<◌, ◌≤◌, Option, Some, None, List, [], get_or, sym, subst, ◌∙◌, arith, length}
use Rattle.std.specs.Prelude.{bit_and, MatchOption}
use Rattle.std.specs.Int.{bit_not, trailing_zeros, w64}
use Rattle.std.proofs.lemmas.Bool.{cases_lt}
use Rattle.std.proofs.lemmas.Nat.{and_le_r}
use Rattle.std.proofs.lemmas.Option.{none-some}
use Rattle.bitsets.specs.Rows.{HasBit, HasNumber, IsMask}
use Rattle.bitsets.proofs.WordFacts.{HasBit-zero, HasBit-and, HasBit-lowest, kept_bit}
use Rattle.bitsets.proofs.RowFacts.{word_number, HasNumber-none, HasNumber-within}
use Rattle.tso_ops.specs.Values.{TraceValue}
use Rattle.tso_ops.specs.declared.events.Event.{Event}
use Rattle.tso_ops.specs.Events.{event_at, event_total, IsLoadAt}
use Rattle.tso_ops.specs.Limits.{IsTrace}
use Rattle.tso_ops.proofs.EventFacts.{event_total-most}
use Rattle.tso_ops.proofs.NumberFacts.{IsLoad-within}
use Rattle.tso_rules.specs.Internal.MaskTables.{IsCommonAbove, IsFirstAbove, AreOfOneProcessor, IsLaterLoad, IsNextLoad}
use Rattle.tso_rules.proofs.BaseFacts.{load_at, at_load}

-- the word that a search looks at
abbrev pub above_word : ℕ → ℕ → ℕ → ℕ → ℕ
above_word a b c d = bit_and (bit_and (bit_and a b) (bit_not w64 c)) d

-- The words that a search looks at, of two rows, of one that is left out, and of the numbers above n.
pub record AreWordsAt (one two other : List ℕ) (n j a b c d : ℕ) : Type 0 where
  pub first : a ≡ get_or one j 0
  pub second : b ≡ get_or two j 0
  pub left_out : c ≡ get_or other j 0
  pub fits : c < 2 ^ 64
  pub above_fits : d < 2 ^ 64
  pub above : (k : ℕ) → k < 64 → HasBit d k ↔ (n < 64 * j + k)

-- the bits of that word
word_above_is : (one two other : List ℕ) (n j a b c d k : ℕ) → AreWordsAt one two other n j a b c d → k / 64 ≡ j → HasBit (above_word a b c d) (k % 64) ↔ IsCommonAbove one two other n k
word_above_is one two other n j a b c d k words at =
    let rest = HasBit-and (bit_and (bit_and a b) (bit_not w64 c)) d (k % 64) in
    let kept = kept_bit (HasNumber one k) (HasNumber two k) (HasNumber other k) a b c (k % 64) words.fits (omega arith)
    (word_number one j a k at words.first) (word_number two j b k at words.second) (word_number other j c k at words.left_out) in
    let over = words.above (k % 64) (omega arith) in
    let place : 64 * j + k % 64 ≡ k = omega arith in (
      λ bit. (let both = rest.0 bit in let is = kept.0 both.0 in (subst (λ m. n < m) place (over.0 both.1), is.0, is.1, is.2)),
      λ is. rest.1 (kept.1 (is.1, is.2, is.3), over.1 (subst (λ m. n < m) (sym place) is.0)),
    )

-- the least bit of the first word with a bit is the first such number
pub first_above_is : (one two other : List ℕ) (n j a b c d : ℕ) → AreWordsAt one two other n j a b c d → ((k : ℕ) → k / 64 < j → IsCommonAbove one two other n k → ⊥) →
    0 < above_word a b c d → IsFirstAbove one two other n (64 * j + trailing_zeros w64 (above_word a b c d))
first_above_is one two other n j a b c d words before some =
    let less : above_word a b c d ≤ d = and_le_r (bit_and (bit_and a b) (bit_not w64 c)) d in
    let low = HasBit-lowest (above_word a b c d) some (omega (arith, less, words.above_fits)) in
    let bound : trailing_zeros w64 (above_word a b c d) < 64 = low.0 in
    let found : ℕ = 64 * j + trailing_zeros w64 (above_word a b c d) in
    let at : found / 64 ≡ j = omega arith in
    let place : found % 64 ≡ trailing_zeros w64 (above_word a b c d) = omega arith in (
      (word_above_is one two other n j a b c d found words at).0 (subst (HasBit (above_word a b c d)) (sym place) low.1),
      λ k less is. elim (cases_lt (k / 64) j) [
        | inl earlier ↦ before k earlier is
        | inr late ↦ (let here : k / 64 ≡ j = omega arith in
            low.2 (k % 64) (omega arith) ((word_above_is one two other n j a b c d k words here).1 is))
      ],
    )

-- a word without bits is passed
pub none_above_more : (one two other : List ℕ) (n j a b c d : ℕ) → AreWordsAt one two other n j a b c d → ((k : ℕ) → k / 64 < j → IsCommonAbove one two other n k → ⊥) →
    above_word a b c d ≡ 0 → (k : ℕ) → k / 64 < j + 1 → IsCommonAbove one two other n k → ⊥
none_above_more one two other n j a b c d words before none k low is = elim (cases_lt (k / 64) j) [
  | inl earlier ↦ before k earlier is
  | inr late ↦ (let here : k / 64 ≡ j = omega arith in
      HasBit-zero (k % 64) (subst (λ w. HasBit w (k % 64)) none ((word_above_is one two other n j a b c d k words here).1 is)))
]

-- all words
pub none_above : (one two other : List ℕ) (n j : ℕ) → length one ≤ j → ((k : ℕ) → k / 64 < j → IsCommonAbove one two other n k → ⊥) → (k : ℕ) → IsCommonAbove one two other n k → ⊥
none_above one two other n j whole before k is = before k (let within = HasNumber-within one k is.1 in omega (arith, within, whole)) is

-- the numbers of loads are small
pub loads_small : (t : TraceValue) (loads : List ℕ) (a : ℕ) → IsTrace t → IsMask loads (IsLoadAt t a) → (k : ℕ) → HasNumber loads k → k < 2 ^ 32
loads_small t loads a trace loads_are k has =
    let load = (loads_are.bits k).0 has in
    let within : k < suc (event_total t) = IsLoad-within t k (load.0, load.1, load.2) in
    omega (arith, within, event_total-most t trace)

-- no event is of the processor of what is no event
pub no_processor : (t : TraceValue) (n m : ℕ) → event_at t n ≡ None → HasNumber [] m ↔ AreOfOneProcessor t n m
no_processor t n m none = (λ has. absurd (HasNumber-none m has), λ is. absurd (none-some is.0 (sym none ∙ is.2)))

-- the numbers above an event's in the rows of the loads of its address and of its processor
later_load_is : (t : TraceValue) (n m : ℕ) (event : Event) (loads processor : List ℕ) → event_at t n ≡ Some event → IsMask loads (IsLoadAt t event.a) →
    ((k : ℕ) → HasNumber processor k ↔ AreOfOneProcessor t n k) → IsCommonAbove loads processor [] n m ↔ IsLaterLoad t n m
later_load_is t n m event loads processor at loads_are processor_are = (
  λ is. (let of = (loads_are.bits m).0 is.1 in
      let both = (processor_are m).0 is.2 in
      ((of.0, of.1, of.2), at_load t n m event at of, (both.0, both.1, both.2, both.3, both.4, is.0))),
  λ later. (let earlier = later.2 in (
    earlier.5,
    (loads_are.bits m).1 (load_at t n m event at later.0 later.1),
    (processor_are m).1 (earlier.0, earlier.1, earlier.2, earlier.3, earlier.4),
    λ none. HasNumber-none m none,
  )),
)

-- the first of them is the next load
pub next_load_is : (t : TraceValue) (n : ℕ) (event : Event) (loads processor : List ℕ) (found : Option ℕ) → event_at t n ≡ Some event → IsMask loads (IsLoadAt t event.a) →
    ((k : ℕ) → HasNumber processor k ↔ AreOfOneProcessor t n k) → MatchOption found ((k : ℕ) → IsCommonAbove loads processor [] n k → ⊥) (IsFirstAbove loads processor [] n) →
    MatchOption found ((m : ℕ) → IsLaterLoad t n m → ⊥) (IsNextLoad t n)
next_load_is t n event loads processor None at loads_are processor_are none = λ m later. none m ((later_load_is t n m event loads processor at loads_are processor_are).1 later)
next_load_is t n event loads processor (Some k) at loads_are processor_are first = (
  (later_load_is t n k event loads processor at loads_are processor_are).0 first.0,
  λ m less later. first.1 m less ((later_load_is t n m event loads processor at loads_are processor_are).1 later),
)

-- what is no event has no later load
pub no_next_load : (t : TraceValue) (n m : ℕ) → event_at t n ≡ None → IsLaterLoad t n m → ⊥
no_next_load t n m none later = none-some later.2.0 (sym none ∙ later.2.2)
