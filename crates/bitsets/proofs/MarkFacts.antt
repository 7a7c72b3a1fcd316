-- Numbers that are marked in a row: at once, one after another, and word by word.
use Rattle.std.proofs.Common.{◌≡◌, ◌≢◌, ◌⊎◌, ◌↔◌, inl, inr, ℕ, ◌+◌, ◌-◌, ◌*◌, ◌/◌, ◌%◌, ◌^◌, ◌<◌, ◌≤◌, List, length, get_or, set, sym, subst, ◌∙◌, arith, ap, [], Option, Some, None, refl, ⊎_elim, Result, Ok, Err}
use Rattle.std.specs.Int.{bit_not, trailing_zeros, w64}
use Rattle.std.specs.Prelude.{bit_or, bit_and}
use Rattle.std.proofs.lemmas.Bool.{cases_eq, cases_lt}
use Rattle.std.proofs.lemmas.List.{get_or-set_same, get_or-set_other}
use Rattle.std.specs.Result.{OnOk}
use Rattle.std.proofs.lemmas.Grind.{get_or_default_zero}
use Rattle.bitsets.specs.Rows.{HasBit, HasNumber, Marks}
use Rattle.bitsets.proofs.WordFacts.{HasBit-decided, HasBit-zero, HasBit-or, HasBit-lowest, HasBit-drop, one_bit, kept_bit}
use Rattle.bitsets.proofs.RowFacts.{HasNumber-word, HasNumber-none, word_number, bit_without}

-- nothing is marked
pub marks_none : (marks : List ℕ) (To : ℕ → Type 0) → ((v : ℕ) → To v → ⊥) → Marks marks marks To
marks_none marks To none = record { marked = λ v. (λ is. inl is, λ either. elim either [ inl is ↦ is | inr to ↦ absurd (none v to) ]) }

-- a row with the same numbers
pub marks_same : (first old new : List ℕ) (To : ℕ → Type 0) → ((v : ℕ) → HasNumber old v ↔ HasNumber first v) → Marks old new To → Marks first new To
marks_same first old new To same marks = record {
  marked = λ v. (
    λ is. elim ((marks.marked v).0 is) [ inl was ↦ inl ((same v).0 was) | inr to ↦ inr to ],
    λ either. (marks.marked v).1 (elim either [ inl was ↦ inl ((same v).1 was) | inr to ↦ inr to ]),
  );
}

-- what is marked, by an equivalent condition
pub marks_as : (old new : List ℕ) (P Q : ℕ → Type 0) → Marks old new P → ((v : ℕ) → P v ↔ Q v) → Marks old new Q
marks_as old new P Q marks same = record {
  marked = λ v. (
    λ is. ⊎_elim (λ (before : HasNumber old v). inl before) (λ (now : P v). inr ((same v).0 now)) ((marks.marked v).0 is),
    λ either. (marks.marked v).1 (⊎_elim (λ (before : HasNumber old v). inl before) (λ (now : Q v). inr ((same v).1 now)) either),
  );
}

-- marks made one after another
pub marks_both : (first next last : List ℕ) (P Q : ℕ → Type 0) → Marks first next P → Marks next last Q → Marks first last (λ v. P v ⊎ Q v)
marks_both first next last P Q one two = record {
  marked = λ v. (
    λ is. ⊎_elim
        (λ (before : HasNumber next v). ⊎_elim (λ (old : HasNumber first v). inl old) (λ (now : P v). inr (inl now)) ((one.marked v).0 before))
        (λ (now : Q v). inr (inr now))
        ((two.marked v).0 is),
    λ either. (two.marked v).1 (⊎_elim
        (λ (old : HasNumber first v). inl ((one.marked v).1 (inl old)))
        (λ (now : P v ⊎ Q v). ⊎_elim (λ (p : P v). inl ((one.marked v).1 (inr p))) (λ (q : Q v). inr q) now)
        either),
  );
}

-- what holds of a result that is no error, by a weaker condition
pub on_ok : {X E : Type 0} (r : Result X E) (P Q : Type 0) → (P → Q) → OnOk r P → OnOk r Q
on_ok (Ok x) P Q f h = f h
on_ok (Err e) P Q f h = tt

-- a number is marked whose bit is set in its word
pub marks_number : (old new : List ℕ) (n : ℕ) → Marks old new (λ v. (v / 64 ≡ n / 64) × HasBit (1 * 2 ^ (n % 64) % 2 ^ 64) (v % 64)) → Marks old new (λ v. v ≡ n)
marks_number old new n marks = marks_as old new _ _ marks (one_bit n)

-- the number of an option is marked
pub marks_some : (old new : List ℕ) (number : Option ℕ) (n : ℕ) → number ≡ Some n → Marks old new (λ v. v ≡ n) → Marks old new (λ v. number ≡ Some v)
marks_some old new number n is marks = marks_as old new _ _ marks (λ v. (λ at. is ∙ ap Some (sym at), λ other. let same : v ≡ n = cc in same))

-- the bits of a word are set in word j
pub marks_word : (row : List ℕ) (j word : ℕ) → j < length row → Marks row (set row j (bit_or (get_or row j 0) word)) (λ v. (v / 64 ≡ j) × HasBit word (v % 64))
marks_word row j word within = record { marked = at }
  where
    new : ℕ
    new = bit_or (get_or row j 0) word

    here : (v : ℕ) → v / 64 ≡ j → HasNumber (set row j new) v ↔ (HasNumber row v ⊎ ((v / 64 ≡ j) × HasBit word (v % 64)))
    here v same =
        let read : get_or (set row j new) j 0 ≡ new = get_or-set_same row j new 0 within in
        let bits = HasBit-or (get_or row j 0) word (v % 64) in
        let old = HasNumber-word row v j same in
        let now = HasNumber-word (set row j new) v j same in (
          λ has. elim (bits.0 (subst (λ w. HasBit w (v % 64)) read (now.0 has))) [ inl was ↦ inl (old.1 was) | inr bit ↦ inr (same, bit) ],
          λ either. now.1 (subst (λ w. HasBit w (v % 64)) (sym read) (bits.1 (elim either [ inl was ↦ inl (old.0 was) | inr is ↦ inr is.1 ]))),
        )

    away : (v : ℕ) → (v / 64) ≢ j → HasNumber (set row j new) v ↔ (HasNumber row v ⊎ ((v / 64 ≡ j) × HasBit word (v % 64)))
    away v other =
        let kept : get_or (set row j new) (v / 64) 0 ≡ get_or row (v / 64) 0 = get_or-set_other row j (v / 64) new 0 other in (
          λ has. inl (subst (λ w. HasBit w (v % 64)) kept has),
          λ either. elim either [ inl was ↦ subst (λ w. HasBit w (v % 64)) (sym kept) was | inr is ↦ absurd (other is.0) ],
        )

    at : (v : ℕ) → HasNumber (set row j new) v ↔ (HasNumber row v ⊎ ((v / 64 ≡ j) × HasBit word (v % 64)))
    at v = elim (cases_eq (v / 64) j) [ inl same ↦ here v same | inr other ↦ away v other ]

-- the bits of a word are set in a row that has the numbers of another
pub marks_word_in : (first row : List ℕ) (j was word : ℕ) → ((v : ℕ) → HasNumber row v ↔ HasNumber first v) → j < length row → was ≡ get_or row j was →
    Marks first (set row j (bit_or was word)) (λ v. (v / 64 ≡ j) × HasBit word (v % 64))
marks_word_in first row j was word same within is =
    subst (λ w. Marks first (set row j (bit_or w word)) (λ v. (v / 64 ≡ j) × HasBit word (v % 64))) (sym (is ∙ get_or_default_zero row j was within))
    (marks_same first row (set row j (bit_or (get_or row j 0) word)) _ same (marks_word row j word within))

-- nothing is marked by a word without bits
pub marks_zero : (marks : List ℕ) (j word : ℕ) → word ≡ 0 → Marks marks marks (λ v. (v / 64 ≡ j) × HasBit word (v % 64))
marks_zero marks j word none = marks_none marks _ (λ v is. HasBit-zero (v % 64) (subst (λ w. HasBit w (v % 64)) none is.1))

-- where there is no number nothing is marked
pub marks_nothing : (marks : List ℕ) (number : Option ℕ) → number ≡ None → Marks marks marks (λ v. number ≡ Some v)
marks_nothing marks number none = marks_none marks (λ v. number ≡ Some v) (λ v is. cc)

-- what was marked on none is what was to be marked
pub marked_is : (start marks : List ℕ) (To : ℕ → Type 0) → start ≡ [] → Marks start marks To → (v : ℕ) → HasNumber marks v → To v
marked_is start marks To none made v has = elim ((made.marked v).0 has) [ inl was ↦ absurd (HasNumber-none v (subst (λ xs. HasNumber xs v) none was)) | inr to ↦ to ]

pub marks_from_none : (start marks : List ℕ) (To : ℕ → Type 0) → start ≡ [] → Marks start marks To → (v : ℕ) → HasNumber marks v ↔ To v
marks_from_none start marks To none made v = (λ has. marked_is start marks To none made v has, λ to. (made.marked v).1 (inr to))

-- what the steps below a number mark
abbrev pub BySteps : (ℕ → ℕ → Type 0) → ℕ → ℕ → Type 0
BySteps By n v = (k : ℕ) × (k < n) × By k v

-- steps that mark more and more
pub steps_none : (marks : List ℕ) (By : ℕ → ℕ → Type 0) → Marks marks marks (BySteps By 0)
steps_none marks By = record {
  marked = λ v. (λ is. inl is, λ either. ⊎_elim (λ (old : HasNumber marks v). old) (λ (by : BySteps By 0 v). absurd (let low : by.0 < 0 = by.1 in omega arith)) either);
}

pub steps_more : (first old new : List ℕ) (n : ℕ) (By : ℕ → ℕ → Type 0) → Marks first old (BySteps By n) → Marks old new (By n) → Marks first new (BySteps By (n + 1))
steps_more first old new n By before step =
    marks_as first new (λ v. BySteps By n v ⊎ By n v) (BySteps By (n + 1)) (marks_both first old new (BySteps By n) (By n) before step)
    (λ v. (
      λ either. ⊎_elim (λ (by : BySteps By n v). (let low = by.1 in (by.0, omega arith, by.2))) (λ (now : By n v). (n, omega arith, now)) either,
      λ by. ⊎_elim
          (λ (less : by.0 < n). inl (by.0, less, by.2))
          (λ (at : n ≤ by.0). let low = by.1 in let same : by.0 ≡ n = omega arith in inr (subst (λ k. By k v) same by.2))
          (cases_lt by.0 n),
    ))

-- the numbers with this, which were passed one after another
pub steps_all : (first last : List ℕ) (n : ℕ) (P : ℕ → Type 0) → Marks first last (BySteps (λ k v. (v ≡ k) × P k) n) → ((v : ℕ) → P v → v < n) → Marks first last P
steps_all first last n P marks low =
    marks_as first last _ _ marks (λ v. (λ by. subst P (sym by.2.0) by.2.1, λ is. (v, low v is, (refl, is))))

-- Of the numbers of word j, those whose bits are set in `word`, and no longer in `left`, were passed, and each marked what it gives.
pub record Passed (old now : List ℕ) (j word left : ℕ) (By : ℕ → ℕ → Type 0) : Type 0 where
  pub some : (k : ℕ) → k < 64 → HasBit left k → HasBit word k
  pub marks : Marks old now (λ v. (n : ℕ) × (n / 64 ≡ j) × HasBit word (n % 64) × (HasBit left (n % 64) → ⊥) × By n v)

pub Passed-start : (old : List ℕ) (j word : ℕ) (By : ℕ → ℕ → Type 0) → Passed old old j word word By
Passed-start old j word By = record { some = λ k low bit. bit; marks = marks_none old _ (λ v by. by.3 by.2) }

pub Passed-step : (old now new : List ℕ) (j word left : ℕ) (By : ℕ → ℕ → Type 0) → Passed old now j word left By → 0 < left → left < 2 ^ 64 →
    Marks now new (By (64 * j + trailing_zeros w64 left)) → Passed old new j word (bit_and left (left - 1)) By
Passed-step old now new j word left By passed some fits step =
    let low = HasBit-lowest left some fits in
    let bound : trailing_zeros w64 left < 64 = low.0 in
    let clear = λ (k : ℕ) (h : k < 64). HasBit-drop left k some fits in
    record {
      some = λ k h bit. passed.some k h ((clear k h).0 bit).1;
      marks = marks_as old new _ _ (marks_both old now new _ _ passed.marks step)
          (λ v. (
            λ either. elim either [
              | inl by ↦ (by.0, by.1, by.2, λ bit. by.3 ((clear (by.0 % 64) (omega arith)).0 bit).1, by.4)
              | inr by ↦ (let place : (64 * j + trailing_zeros w64 left) % 64 ≡ trailing_zeros w64 left = omega arith in (
                64 * j + trailing_zeros w64 left,
                omega arith,
                subst (λ k. HasBit word k) (sym place) (passed.some (trailing_zeros w64 left) bound low.1),
                λ bit. ((clear ((64 * j + trailing_zeros w64 left) % 64) (omega arith)).0 bit).0 place,
                by,
              ))
            ],
            λ by. elim (HasBit-decided left (by.0 % 64)) [
              | inl is ↦ elim (cases_eq (by.0 % 64) (trailing_zeros w64 left)) [
                | inl e ↦ (let one : by.0 ≡ 64 * j + trailing_zeros w64 left = omega (arith, by.1, e) in inr (subst (λ n. By n v) one by.4))
                | inr other ↦ absurd (by.3 ((clear (by.0 % 64) (omega arith)).1 (other, is)))
              ]
              | inr not ↦ inl (by.0, by.1, by.2, not, by.4)
            ],
          ));
    }

pub Passed-end : (old now : List ℕ) (j word left : ℕ) (By : ℕ → ℕ → Type 0) → left ≡ 0 → Passed old now j word left By →
    Marks old now (λ v. (n : ℕ) × (n / 64 ≡ j) × HasBit word (n % 64) × By n v)
Passed-end old now j word left By none passed =
    marks_as old now _ _ passed.marks
    (λ v. (λ by. (by.0, by.1, by.2, by.4), λ by. (by.0, by.1, by.2, λ bit. HasBit-zero (by.0 % 64) (subst (λ w. HasBit w (by.0 % 64)) none bit), by.3)))

-- what the numbers of the words before j give
abbrev pub ByWords : (ℕ → ℕ → Type 0) → ℕ → ℕ → Type 0
ByWords By j v = (n : ℕ) × (n / 64 < j) × By n v

pub words_none : (marks : List ℕ) (By : ℕ → ℕ → Type 0) → Marks marks marks (ByWords By 0)
words_none marks By = marks_none marks (ByWords By 0) (λ v by. let low : by.0 / 64 < 0 = by.1 in omega arith)

-- one word more
pub words_more : (first old new : List ℕ) (j : ℕ) (By : ℕ → ℕ → Type 0) → Marks first old (ByWords By j) → Marks old new (λ v. (n : ℕ) × (n / 64 ≡ j) × By n v) →
    Marks first new (ByWords By (j + 1))
words_more first old new j By before step =
    marks_as first new _ _ (marks_both first old new _ _ before step)
    (λ v. (
      λ either. elim either [
        | inl by ↦ (let low = by.1 in (by.0, omega arith, by.2))
        | inr by ↦ (let at = by.1 in (by.0, omega arith, by.2))
      ],
      λ by. elim (cases_lt (by.0 / 64) j) [
        | inl low ↦ inl (by.0, low, by.2)
        | inr high ↦ (let at : by.0 / 64 ≡ j = omega (arith, by.1, high) in inr (by.0, at, by.2))
      ],
    ))

-- all words
pub words_by : (first last : List ℕ) (j : ℕ) (By : ℕ → ℕ → Type 0) → Marks first last (ByWords By j) → ((n v : ℕ) → By n v → n / 64 < j) → Marks first last (λ v. (n : ℕ) × By n v)
words_by first last j By marks whole = marks_as first last _ _ marks (λ v. (λ by. (by.0, by.2), λ is. (is.0, whole is.0 v is.1, is.1)))

-- the numbers before word j that an edge leads to
abbrev pub IsInEarlierWord : (ℕ → Type 0) → ℕ → ℕ → Type 0
IsInEarlierWord To j v = (v / 64 < j) × To v

pub earlier_words_none : (marks : List ℕ) (j : ℕ) (To : ℕ → Type 0) → ((v : ℕ) → v / 64 < j → To v → ⊥) → Marks marks marks (IsInEarlierWord To j)
earlier_words_none marks j To none = marks_none marks (IsInEarlierWord To j) (λ v is. none v is.0 is.1)

-- the bits of a word were marked in word j
abbrev pub OnWord : List ℕ → List ℕ → ℕ → ℕ → Type 0
OnWord old new j word = Marks old new (λ v. (v / 64 ≡ j) × HasBit word (v % 64))

-- one word more, which has the bits of just the numbers that an edge leads to
pub earlier_words_more : (first old new : List ℕ) (j word : ℕ) (To : ℕ → Type 0) → Marks first old (IsInEarlierWord To j) → Marks old new (λ v. (v / 64 ≡ j) × HasBit word (v % 64)) →
    ((v : ℕ) → v / 64 ≡ j → HasBit word (v % 64) ↔ To v) → Marks first new (IsInEarlierWord To (j + 1))
earlier_words_more first old new j word To before step bits =
    marks_as first new _ _ (marks_both first old new _ _ before step)
    (λ v. (
      λ either. elim either [
        | inl prefix ↦ (let low = prefix.0 in (omega arith, prefix.1))
        | inr here ↦ (let at = here.0 in (omega arith, (bits v here.0).0 here.1))
      ],
      λ is. elim (cases_lt (v / 64) j) [
        | inl low ↦ inl (low, is.1)
        | inr high ↦ (let bound = is.0 in let at : v / 64 ≡ j = omega arith in inr (at, (bits v at).1 is.1))
      ],
    ))

-- all words
pub earlier_words_all : (first last : List ℕ) (j : ℕ) (To : ℕ → Type 0) → Marks first last (IsInEarlierWord To j) → ((v : ℕ) → To v → v / 64 < j) → Marks first last To
earlier_words_all first last j To marks whole = marks_as first last _ _ marks (λ v. (λ is. is.1, λ to. (whole v to, to)))

-- one word more, of the numbers in two sets and not in a third, without one number
pub earlier_words_kept : (first old new two other : List ℕ) (j a b c less number : ℕ) (One To : ℕ → Type 0) → Marks first old (IsInEarlierWord To j) → OnWord old new j less →
    ((v : ℕ) → v / 64 ≡ j → HasBit a (v % 64) ↔ One v) → b ≡ get_or two j 0 → c ≡ get_or other j 0 → c < 2 ^ 64 →
    ((k : ℕ) → k < 64 → HasBit less k ↔ (HasBit (bit_and (bit_and a b) (bit_not w64 c)) k × ((64 * j + k) ≢ number))) →
    ((v : ℕ) → ((One v × HasNumber two v × (HasNumber other v → ⊥)) × (v ≢ number)) ↔ To v) → Marks first new (IsInEarlierWord To (j + 1))
earlier_words_kept first old new two other j a b c less number One To before step a_is b_is c_is fits without to =
    earlier_words_more first old new j less To before step
    (λ v at. let kept = kept_bit (One v) (HasNumber two v) (HasNumber other v) a b c (v % 64) fits (omega arith) (a_is v at) (word_number two j b v at b_is) (word_number other j c v at c_is) in
    let here = bit_without (bit_and (bit_and a b) (bit_not w64 c)) less j number v _ at without kept in
    (λ bit. (to v).0 (here.0 bit), λ is. here.1 ((to v).1 is)))
