-- A line that says something is written in one way, and numbers in decimal are read back.
use Rattle.std.specs.Str.{bytes_eq}
use Rattle.std.proofs.Common.{◌≡◌, ◌⊎◌, ℕ, zero, suc, ◌≤◌, Bool, true, false, cond, ltb, List, [], ◌∷◌, length, Some, None, Result, Ok, Err, refl, ap, sym, subst, ◌∙◌, arith, not, ◌<◌, ◌^◌, map, inl, inr, ⊎_elim}
use Rattle.std.specs.List.{AllByRecursion}
use Rattle.std.proofs.lemmas.Bool.{false≢true}
use Rattle.std.proofs.lemmas.List.{nil_from_length, length-map}
use Rattle.std.specs.Prelude.{codes}
use Rattle.std.specs.Fmt.{decimal}
use Rattle.std.proofs.lemmas.Bool.Decides.{nat_tests}
use Rattle.std.proofs.lemmas.Slice.Eq.{bytes_eq-Decides}
use Rattle.line_text.specs.Lines.{is_empty}
use Rattle.std.specs.Str.Parse.{digits_value}
use Rattle.line_text.specs.Numbers.{is_numeral, number}
use Rattle.line_text.proofs.NumberFacts.{number_is, number_fits, number-decimal}
use Rattle.tso_ops.specs.declared.settings.Order.{Order}
use Rattle.tso_ops.specs.declared.settings.Order.TheVariants.{Tso, Pso}
use Rattle.tso_ops.specs.declared.settings.Version.{Version}
use Rattle.tso_ops.specs.declared.settings.Version.TheVariants.{One, Two}
use Rattle.tso_text.specs.declared.faults.Why.{Why}
use Rattle.tso_text.specs.declared.faults.Why.TheVariants.{BadLine, BadNumber}
use Rattle.tso_text.specs.declared.lines.Line.{Line}
use Rattle.tso_text.specs.declared.lines.Line.TheVariants.{Proc, Item, End}
use Rattle.line_text.specs.Results.{◌>>=◌}
use Rattle.tso_text.specs.Internal.LineReadings.{has_stbar, has_entries, address}
use Rattle.tso_text.specs.Numbers.{numeral, numerals, has_count, numbers, number_at}
use Rattle.tso_text.specs.Internal.Spelling.{Grammar, line_fault, items_of}
use Rattle.line_text.proofs.SplitFacts.{has_byte_in, decimal_without}

-- ---- numbers

pub numeral_ok : (p : List ℕ) (n : ℕ) → numeral p ≡ Ok n → number p ≡ Some n
unfolding number
numeral_ok p n e = by (is_numeral p) (digits_value 10 p) e
  where
    by : (b : Bool) (m : ℕ) → cond b (Ok m) (Err BadNumber) ≡ Ok n → cond b (Some m) None ≡ Some n
    by true m is = cc
    by false m is = absurd cc

numeral_is : (p : List ℕ) (n : ℕ) → numeral p ≡ Ok n → p ≡ decimal n
numeral_is p n e = number_is p n (numeral_ok p n e)

-- a number of 64 bits
abbrev pub Fits : ℕ → Type 0
Fits n = n < 2 ^ 64

numeral_fits : (p : List ℕ) (n : ℕ) → numeral p ≡ Ok n → Fits n
numeral_fits p n e = number_fits p n (numeral_ok p n e)

numeral_err : (p : List ℕ) (w : Why) → numeral p ≡ Err w → w ≡ BadNumber
numeral_err p w e = by (is_numeral p) (digits_value 10 p) e
  where
    by : (b : Bool) (m : ℕ) → cond b (Ok m) (Err BadNumber) ≡ Err w → w ≡ BadNumber
    by true m is = absurd cc
    by false m is = cc

pub bind_ok : {A B : Type 0} (r : Result A Why) (f : A → Result B Why) (b : B) → (r >>= f) ≡ Ok b → (a : A) × (r ≡ Ok a) × (f a ≡ Ok b)
bind_ok (Ok a) f b e = (a, refl, e)
bind_ok (Err why) f b e = absurd cc

pub bind_err : {A B : Type 0} (r : Result A Why) (f : A → Result B Why) (why : Why) → (r >>= f) ≡ Err why → (r ≡ Err why) ⊎ ((a : A) × (r ≡ Ok a) × (f a ≡ Err why))
bind_err (Ok a) f why e = inr (a, refl, e)
bind_err (Err other) f why e = inl cc

-- ---- just so many numbers

counted : {X : Type 0} (n : ℕ) (xs : List X) → has_count n xs ≡ true → length xs ≡ n
counted zero [] e = refl
counted zero (x ∷ xs) e = absurd cc
counted (suc n) [] e = absurd cc
counted (suc n) (x ∷ xs) e = ap suc (counted n xs e)

has_its_count : {X : Type 0} (xs : List X) → has_count (length xs) xs ≡ true
has_its_count [] = refl
has_its_count (x ∷ xs) = has_its_count xs

-- the tokens are those of these numbers
pub record AreNumbers (n : ℕ) (ps : List (List ℕ)) (ns : List ℕ) : Type 0 where
  pub tokens : ps ≡ map decimal ns
  pub fit : AllByRecursion Fits ns
  pub count : length ns ≡ n

numerals_is : (ps : List (List ℕ)) (ns : List ℕ) → numerals ps ≡ Ok ns → AreNumbers (length ps) ps ns
numerals_is [] ns e = let same : [] ≡ ns = cc in rw (← same) (record { tokens = refl; fit = tt; count = refl })
numerals_is (p ∷ ps) ns e =
    let first = bind_ok (numeral p) _ ns e in
    let rest = bind_ok (numerals ps) _ ns first.2 in
    let are = numerals_is ps rest.0 rest.1 in
    let same : first.0 ∷ rest.0 ≡ ns = cc in
    rw (← same) (record {
      tokens = ap (λ d. d ∷ ps) (numeral_is p first.0 first.1) ∙ ap (λ ds. decimal first.0 ∷ ds) are.tokens;
      fit = (numeral_fits p first.0 first.1, are.fit);
      count = ap suc are.count;
    })

numerals_err : (ps : List (List ℕ)) (w : Why) → numerals ps ≡ Err w → (w ≡ BadNumber) × (0 < length ps)
numerals_err [] w e = absurd cc
numerals_err (p ∷ ps) w e =
    (⊎_elim (λ bad. numeral_err p w bad) (λ ok. ⊎_elim (λ bad. (numerals_err ps w bad).0) (λ all. absurd (let s = all.2 in cc)) (bind_err (numerals ps) _ w ok.2)) (bind_err (numeral p) _ w e), omega arith)

-- they are written in one way, and have 64 bits
pub numbers_is : (count : ℕ) (ps : List (List ℕ)) (ns : List ℕ) → numbers count ps ≡ Ok ns → AreNumbers count ps ns
unfolding numbers
numbers_is count ps ns e = by (has_count count ps) refl e
  where
    by : (b : Bool) → has_count count ps ≡ b → cond b (numerals ps) (Err BadLine) ≡ Ok ns → AreNumbers count ps ns
    by true has is = let are = numerals_is ps ns is in record { tokens = are.tokens; fit = are.fit; count = are.count ∙ counted count ps has }
    by false has is = absurd cc

-- or there are more or fewer tokens, or some and not all are numbers
pub numbers_err : (count : ℕ) (ps : List (List ℕ)) (w : Why) → numbers count ps ≡ Err w → ((w ≡ BadLine) × (length ps ≡ count → ⊥)) ⊎ ((w ≡ BadNumber) × (length ps ≡ count) × (0 < length ps))
unfolding numbers
numbers_err count ps w e = by (has_count count ps) refl e
  where
    by : (b : Bool) → has_count count ps ≡ b → cond b (numerals ps) (Err BadLine) ≡ Err w → ((w ≡ BadLine) × (length ps ≡ count → ⊥)) ⊎ ((w ≡ BadNumber) × (length ps ≡ count) × (0 < length ps))
    by true has bad = let is = numerals_err ps w bad in inr (is.0, counted count ps has, is.1)
    by false has bad = inl (cc, λ same. false≢true (sym has ∙ ap (λ n. has_count n ps) (sym same) ∙ has_its_count ps))

-- tokens of another number are a bad line
pub other_count : (count : ℕ) (ps : List (List ℕ)) → (length ps ≡ count → ⊥) → numbers count ps ≡ Err BadLine
unfolding numbers
other_count count ps other = by (has_count count ps) refl
  where
    by : (b : Bool) → has_count count ps ≡ b → cond b (numerals ps) (Err BadLine) ≡ Err BadLine
    by true has = absurd (other (counted count ps has))
    by false has = refl

-- so many numbers, by their places
pub one_at : (ns : List ℕ) → length ns ≡ 1 → ns ≡ number_at ns 0 ∷ []
one_at [] e = absurd cc
one_at (n ∷ ns) e = ap (λ ms. n ∷ ms) (nil_from_length ns (omega (arith, e)))

pub two_at : (ns : List ℕ) → length ns ≡ 2 → ns ≡ number_at ns 0 ∷ number_at ns 1 ∷ []
two_at [] e = absurd cc
two_at (n ∷ ns) e = ap (λ ms. n ∷ ms) (one_at ns (omega (arith, e)))

pub three_at : (ns : List ℕ) → length ns ≡ 3 → ns ≡ number_at ns 0 ∷ number_at ns 1 ∷ number_at ns 2 ∷ []
three_at [] e = absurd cc
three_at (n ∷ ns) e = ap (λ ms. n ∷ ms) (two_at ns (omega (arith, e)))

pub two_is : (ps : List (List ℕ)) (ns : List ℕ) → numbers 2 ps ≡ Ok ns → (ps ≡ decimal (number_at ns 0) ∷ decimal (number_at ns 1) ∷ []) × Fits (number_at ns 0) × Fits (number_at ns 1)
two_is ps ns e =
    let are = numbers_is 2 ps ns e in
    let two = two_at ns are.count in
    let fit = subst (AllByRecursion Fits) two are.fit in
    (are.tokens ∙ ap (map decimal) two, fit.0, fit.1.0)

-- ---- lines

-- the tokens of a line
abbrev pub tokens_by : {X : Type 0} → (X → List (List ℕ)) → Line X → List (List ℕ)
tokens_by tokens Proc = codes "proc" ∷ []
tokens_by tokens (Item x) = tokens x
tokens_by tokens End = codes "end" ∷ []

pub word_is : (word text : List ℕ) → bytes_eq word text ≡ true → word ≡ text
word_is word text same = (bytes_eq-Decides word text).0 same

-- an address without a fault is the number
pub in_range : (n : ℕ) → ltb 255 (address n) ≡ false → n ≡ address n
in_range n low = let t : address n ≤ 255 = grind (arith, nat_tests) in omega arith

-- an item without a fault stands in a list, and has none after the items before it
pub record IsSound {X : Type 0} (g : Grammar X) (lists : List (List X)) (x : X) : Type 0 where
  pub some : is_empty lists ≡ false
  pub clean : g.item_fault (items_of lists) x ≡ None

pub sound : {X : Type 0} (g : Grammar X) (lists : List (List X)) (x : X) → line_fault g lists (Item x) ≡ None → IsSound g lists x
sound g [] x clean = absurd cc
sound g (row ∷ lists) x clean = record { some = refl; clean = clean }

-- ---- the tests of lines before the first `proc`

pub no_stbar : (order : Order) → not (has_stbar order) ≡ true → order ≡ Tso
no_stbar Tso e = refl
no_stbar Pso e = absurd cc

pub no_first : (first : List (ℕ × ℕ)) → is_empty first ≡ true → first ≡ []
no_first [] e = refl
no_first (entry ∷ first) e = absurd cc

pub two : (version : Version) → has_entries version ≡ true → version ≡ Two
two One e = absurd cc
two Two e = refl

pub numbers_without : (c : ℕ) (ns : List ℕ) → c < 48 → has_byte_in c (map decimal ns) ≡ false
numbers_without c [] low = refl
numbers_without c (n ∷ ns) low = rw (decimal_without c n low) (numbers_without c ns low)

numeral-decimal : (n : ℕ) → n < 2 ^ 64 → numeral (decimal n) ≡ Ok n
unfolding number
numeral-decimal n fits = by (is_numeral (decimal n)) (digits_value 10 (decimal n)) (number-decimal n fits)
  where
    by : (b : Bool) (m : ℕ) → cond b (Some m) None ≡ Some n → cond b (Ok m) (Err BadNumber) ≡ Ok n
    by true m is = cc
    by false m is = absurd cc

numerals-decimal : (ns : List ℕ) → AllByRecursion Fits ns → numerals (map decimal ns) ≡ Ok ns
numerals-decimal [] fit = refl
numerals-decimal (n ∷ ns) fit = rw (numeral-decimal n fit.0, numerals-decimal ns fit.1) refl

-- numbers in decimal are read back
pub numbers-decimal : (ns : List ℕ) → AllByRecursion Fits ns → numbers (length ns) (map decimal ns) ≡ Ok ns
unfolding numbers
numbers-decimal ns fit = rw (ap (λ n. has_count n (map decimal ns)) (sym (length-map ns decimal)) ∙ has_its_count (map decimal ns), numerals-decimal ns fit) refl

pub two-decimal : (m n : ℕ) → m < 2 ^ 64 → n < 2 ^ 64 → numbers 2 (decimal m ∷ decimal n ∷ []) ≡ Ok (m ∷ n ∷ [])
two-decimal m n fits also = numbers-decimal (m ∷ n ∷ []) (fits, (also, tt))

pub address-within : (a : ℕ) → a < 256 → address a ≡ a
address-within a low = omega arith
