-- The names of a log that a text spells: no two events have one.
use Rattle.std.proofs.Common.{◌≡◌, ◌⊎◌, inl, inr, ⊎_elim, ℕ, zero, suc, ◌+◌, ◌-◌, ◌<◌, ◌≤◌, Bool, true, false, List, [], ◌∷◌, ◌++◌, length, get_or, map, refl, ap, sym, ◌∙◌, subst, arith, eqb}
use Rattle.std.specs.List.{filter, flat_map, range_with_len}
use Rattle.std.proofs.lemmas.Bool.{false≢true}
use Rattle.std.proofs.lemmas.Bool.Decides.{nat_tests}
use Rattle.log_text.specs.declared.lines.LogLine.{LogLine}
use Rattle.log_text.specs.declared.lines.LogLine.TheVariants.{Note, Pso, First, Issued, Unknown, Memory, End}
use Rattle.log_text.specs.declared.logs.LogOperation.{LogOperation}
use Rattle.log_text.specs.declared.logs.LogOperation.TheVariants.{Ld, St, Sw, Mb, Sb}
use Rattle.log_text.specs.declared.logs.LoggedOperation.{LoggedOperation}
use Rattle.log_text.specs.LogTexts.{issued_in, issued_from, issued_by, log_of_lines, places_of_text, processors_in, SpellsLog}
use Rattle.log_text.specs.Splits.{split_lines}
use Rattle.log_text.specs.LogValues.{NumberedLog}
use Rattle.value_texts.specs.declared.names.EventName.{EventName}
use Rattle.value_texts.specs.Names.{names_on, names_in, event_names, AreNamesDistinct}

-- ---- lists without repetition

-- x is one of the elements
abbrev IsAmong : {X : Type 0} → X → List X → Type 0
IsAmong x [] = ⊥
IsAmong x (y ∷ ys) = (x ≡ y) ⊎ IsAmong x ys

-- no element stands twice, by this of each
abbrev IsOnce : {X Y : Type 0} → (X → Y) → List X → Type 0
IsOnce f [] = Unit {0}
IsOnce {X} f (x ∷ xs) = ((y : X) → IsAmong y xs → f x ≡ f y → ⊥) × IsOnce f xs

module _ {X : Type 0} where
  among_append : (x : X) (xs ys : List X) → IsAmong x (xs ++ ys) → IsAmong x xs ⊎ IsAmong x ys
  among_append x [] ys is = inr is
  among_append x (y ∷ xs) ys (inl here) = inl (inl here)
  among_append x (y ∷ xs) ys (inr later) = ⊎_elim (λ (first : IsAmong x xs). inl (inr first)) (λ (last : IsAmong x ys). inr last) (among_append x xs ys later)

  among_at : (xs : List X) (i : ℕ) (d : X) → i < length xs → IsAmong (get_or xs i d) xs
  among_at [] i d low = absurd (omega (arith, low))
  among_at (x ∷ xs) zero d low = inl refl
  among_at (x ∷ xs) (suc i) d low = inr (among_at xs i d (omega (arith, low)))

  among_filter : (t : X → Bool) (x : X) (xs : List X) → IsAmong x (filter t xs) → IsAmong x xs
  among_filter t x [] is = is
  among_filter t x (y ∷ xs) is = by (t y) refl (among_filter t x xs)
    where
      by : (b : Bool) → t y ≡ b → (IsAmong x (filter t xs) → IsAmong x xs) → IsAmong x (y ∷ xs)
      by true on more = kept (rw on at is)
        where
          kept : (x ≡ y) ⊎ IsAmong x (filter t xs) → IsAmong x (y ∷ xs)
          kept (inl here) = inl here
          kept (inr later) = inr (more later)
      by false off more = inr (more (rw off at is))

module _ {X Y : Type 0} (f : X → Y) where
  once_append : (xs ys : List X) → IsOnce f xs → IsOnce f ys → ((x y : X) → IsAmong x xs → IsAmong y ys → f x ≡ f y → ⊥) → IsOnce f (xs ++ ys)
  once_append [] ys first last apart = last
  once_append (x ∷ xs) ys first last apart = (
    λ y is same. ⊎_elim (λ (early : IsAmong y xs). first.0 y early same) (λ (late : IsAmong y ys). apart x y (inl refl) late same) (among_append y xs ys is),
    once_append xs ys first.1 last (λ u v one other. apart u v (inr one) other),
  )

  once_filter : (t : X → Bool) (xs : List X) → IsOnce f xs → IsOnce f (filter t xs)
  once_filter t [] once = tt
  once_filter t (x ∷ xs) once = by (t x) refl (once_filter t xs once.1)
    where
      by : (b : Bool) → t x ≡ b → IsOnce f (filter t xs) → IsOnce f (filter t (x ∷ xs))
      by true on more = rw on (λ y is same. once.0 y (among_filter t y xs is) same, more)
      by false off more = rw off more

  -- elements at two places differ
  once_at : (xs : List X) (i j : ℕ) (d : X) → IsOnce f xs → i < length xs → j < length xs → f (get_or xs i d) ≡ f (get_or xs j d) → i ≡ j
  once_at [] i j d once low high same = absurd (omega (arith, low))
  once_at (x ∷ xs) zero zero d once low high same = refl
  once_at (x ∷ xs) zero (suc j) d once low high same = absurd (once.0 (get_or xs j d) (among_at xs j d (omega (arith, high))) same)
  once_at (x ∷ xs) (suc i) zero d once low high same = absurd (once.0 (get_or xs i d) (among_at xs i d (omega (arith, low))) (sym same))
  once_at (x ∷ xs) (suc i) (suc j) d once low high same = ap suc (once_at xs i j d once.1 (omega (arith, low)) (omega (arith, high)) same)

-- ---- the lines of a processor's operations

line_of : LoggedOperation → ℕ
line_of logged = logged.line

-- the operation that a line says
issued_lines : (p n : ℕ) (line : LogLine) (x : LoggedOperation) → IsAmong x (issued_in p n line) → x.line ≡ n
issued_lines p n Note x is = absurd is
issued_lines p n Pso x is = absurd is
issued_lines p n (First a v) x is = absurd is
issued_lines p n (Issued q o) x is = by (eqb p q) refl
  where
    by : (b : Bool) → eqb p q ≡ b → x.line ≡ n
    by true on = one (rw on at is)
      where
        one : IsAmong x (record { line = n; operation = o } ∷ []) → x.line ≡ n
        one (inl same) = ap (λ (l : LoggedOperation). l.line) same
        one (inr none) = absurd none
    by false off = absurd (let none : ⊥ = rw off at is in none)
issued_lines p n (Unknown q a) x is = absurd is
issued_lines p n Memory x is = absurd is
issued_lines p n End x is = absurd is

-- it says one at most
issued_in_once : (p n : ℕ) (line : LogLine) → IsOnce line_of (issued_in p n line)
issued_in_once p n Note = tt
issued_in_once p n Pso = tt
issued_in_once p n (First a v) = tt
issued_in_once p n (Issued q o) = by (eqb p q) refl
  where
    by : (b : Bool) → eqb p q ≡ b → IsOnce line_of (issued_in p n (Issued q o))
    by true on = rw on (λ y none same. absurd none, tt)
    by false off = rw off tt
issued_in_once p n (Unknown q a) = tt
issued_in_once p n Memory = tt
issued_in_once p n End = tt

-- it is one of this processor
issuer : (p q n : ℕ) (o : LogOperation) (x : LoggedOperation) → IsAmong x (issued_in p n (Issued q o)) → p ≡ q
issuer p q n o x is = by (eqb p q) refl
  where
    by : (b : Bool) → eqb p q ≡ b → p ≡ q
    by true on = grind (arith, nat_tests)
    by false off = absurd (let none : ⊥ = rw off at is in none)

one_issuer : (p q n : ℕ) (line : LogLine) (x y : LoggedOperation) → IsAmong x (issued_in p n line) → IsAmong y (issued_in q n line) → p ≡ q
one_issuer p q n Note x y one other = absurd one
one_issuer p q n Pso x y one other = absurd one
one_issuer p q n (First a v) x y one other = absurd one
one_issuer p q n (Issued r o) x y one other = issuer p r n o x one ∙ sym (issuer q r n o y other)
one_issuer p q n (Unknown r a) x y one other = absurd one
one_issuer p q n Memory x y one other = absurd one
one_issuer p q n End x y one other = absurd one

issued_from_line : (p n : ℕ) (lines : List LogLine) (x : LoggedOperation) → IsAmong x (issued_from n lines p) → n ≤ x.line
issued_from_line p n [] x is = absurd is
issued_from_line p n (line ∷ lines) x is =
    ⊎_elim
    (λ (here : IsAmong x (issued_in p n line)). let at = issued_lines p n line x here in omega (arith, at))
    (λ (later : IsAmong x (issued_from (suc n) lines p)). let at = issued_from_line p (suc n) lines x later in omega (arith, at))
    (among_append x (issued_in p n line) (issued_from (suc n) lines p) is)

-- the lines of a processor's operations differ
issued_once : (p n : ℕ) (lines : List LogLine) → IsOnce line_of (issued_from n lines p)
unfolding line_of
issued_once p n [] = tt
issued_once p n (line ∷ lines) =
    once_append line_of (issued_in p n line) (issued_from (suc n) lines p) (issued_in_once p n line) (issued_once p (suc n) lines)
    (λ x y here later same.
    let at : x.line ≡ n = issued_lines p n line x here in
    let past : suc n ≤ y.line = issued_from_line p (suc n) lines y later in
    let one : x.line ≡ y.line = same in
    absurd (omega (arith, at, past, one)))

-- and those of two processors
issued_apart : (p q n : ℕ) (lines : List LogLine) (x y : LoggedOperation) → (p ≡ q → ⊥) → IsAmong x (issued_from n lines p) → IsAmong y (issued_from n lines q) → x.line ≡ y.line → ⊥
issued_apart p q n [] x y apart one other same = absurd one
issued_apart p q n (line ∷ lines) x y apart one other same =
    ⊎_elim
    (λ (here : IsAmong x (issued_in p n line)).
    let at = issued_lines p n line x here in
    ⊎_elim
    (λ (also : IsAmong y (issued_in q n line)). apart (one_issuer p q n line x y here also))
    (λ (later : IsAmong y (issued_from (suc n) lines q)). absurd (let past = issued_from_line q (suc n) lines y later in omega (arith, at, past, same)))
    (among_append y (issued_in q n line) (issued_from (suc n) lines q) other))
    (λ (later : IsAmong x (issued_from (suc n) lines p)).
    let past = issued_from_line p (suc n) lines x later in
    ⊎_elim
    (λ (here : IsAmong y (issued_in q n line)). absurd (let at = issued_lines q n line y here in omega (arith, at, past, same)))
    (λ (also : IsAmong y (issued_from (suc n) lines q)). issued_apart p q (suc n) lines x y apart later also same)
    (among_append y (issued_in q n line) (issued_from (suc n) lines q) other))
    (among_append x (issued_in p n line) (issued_from (suc n) lines p) one)

-- ---- names

same_name : EventName → EventName
same_name name = name

on_line : (line : ℕ) (o : LogOperation) (n : EventName) → IsAmong n (names_on line o) → n.line ≡ line
on_line line (Ld a r) n (inl is) = ap (λ (m : EventName). m.line) is
on_line line (Ld a r) n (inr none) = absurd none
on_line line (St a v) n (inl is) = ap (λ (m : EventName). m.line) is
on_line line (St a v) n (inr none) = absurd none
on_line line (Sw a r v) n (inl is) = ap (λ (m : EventName). m.line) is
on_line line (Sw a r v) n (inr (inl is)) = ap (λ (m : EventName). m.line) is
on_line line (Sw a r v) n (inr (inr none)) = absurd none
on_line line Mb n is = absurd is
on_line line Sb n is = absurd is

on_once : (line : ℕ) (o : LogOperation) → IsOnce same_name (names_on line o)
unfolding same_name
on_once line (Ld a r) = (λ y none same. absurd none, tt)
on_once line (St a v) = (λ y none same. absurd none, tt)
on_once line (Sw a r v) = (λ y is same. differ y is same, (λ y none same. absurd none, tt))
  where
    differ : (y : EventName) → IsAmong y (record { line = line; is_swap_store = true } ∷ []) → ◌≡◌ {A = EventName} (record { line = line; is_swap_store = false }) y → ⊥
    differ y (inl is) same = false≢true (ap (λ (m : EventName). m.is_swap_store) (same ∙ is))
    differ y (inr none) same = absurd none
on_once line Mb = tt
on_once line Sb = tt

-- the operation of a name
named_line : (ops : List LoggedOperation) (n : EventName) → IsAmong n (flat_map names_in ops) → (x : LoggedOperation) × IsAmong x ops × (n.line ≡ x.line)
named_line [] n is = absurd is
named_line (x ∷ ops) n is =
    ⊎_elim
    (λ (here : IsAmong n (names_in x)). (x, inl refl, on_line x.line x.operation n here))
    (λ (later : IsAmong n (flat_map names_in ops)). let found = named_line ops n later in (found.0, inr found.1, found.2))
    (among_append n (names_in x) (flat_map names_in ops) is)

list_once : (ops : List LoggedOperation) → IsOnce line_of ops → IsOnce same_name (flat_map names_in ops)
unfolding line_of same_name
list_once [] once = tt
list_once (x ∷ ops) once =
    once_append same_name (names_in x) (flat_map names_in ops) (on_once x.line x.operation) (list_once ops once.1)
    (λ m n here later same.
    let found = named_line ops n later in
    once.0 found.0 found.1 (sym (on_line x.line x.operation m here) ∙ ap (λ (o : EventName). o.line) same ∙ found.2))

module _ (lines : List LogLine) where
  -- the names of the events of processors a, a + 1, ..
  abbrev names_from : ℕ → ℕ → List EventName
  names_from a k = flat_map (flat_map names_in) (map (issued_by lines) (range_with_len a k))

  issued_all : (p : ℕ) (x : LoggedOperation) → IsAmong x (issued_by lines p) → IsAmong x (issued_from 1 lines p)
  issued_all p x is = among_filter _ x (issued_from 1 lines p) is

  later_line : (a k : ℕ) (n : EventName) → IsAmong n (names_from a k) → (q : ℕ) × (a ≤ q) × (y : LoggedOperation) × IsAmong y (issued_by lines q) × (n.line ≡ y.line)
  later_line a zero n is = absurd is
  later_line a (suc k) n is =
      ⊎_elim
      (λ (here : IsAmong n (flat_map names_in (issued_by lines a))). let found = named_line (issued_by lines a) n here in (a, omega arith, found.0, found.1, found.2))
      (λ (later : IsAmong n (names_from (a + 1) k)). let found = later_line (a + 1) k n later in (found.0, omega (arith, found.1), found.2, found.3, found.4))
      (among_append n (flat_map names_in (issued_by lines a)) (names_from (a + 1) k) is)

  names_once : (a k : ℕ) → IsOnce same_name (names_from a k)
  unfolding same_name
  names_once a zero = tt
  names_once a (suc k) =
      once_append same_name (flat_map names_in (issued_by lines a)) (names_from (a + 1) k) (list_once (issued_by lines a) (once_filter line_of _ (issued_from 1 lines a) (issued_once a 1 lines)))
      (names_once (a + 1) k)
      (λ m n here later same.
      let one = named_line (issued_by lines a) m here in
      let other = later_line (a + 1) k n later in
      let apart : a ≡ other.0 → ⊥ = (λ e. let past = other.1 in omega (arith, past, e)) in
      issued_apart a other.0 1 lines one.0 other.2 apart (issued_all a one.0 one.1) (issued_all other.0 other.2 other.3) (sym one.2 ∙ ap (λ (o : EventName). o.line) same ∙ other.4))

distinct_once : (names : List EventName) → IsOnce same_name names → AreNamesDistinct names
unfolding same_name
distinct_once names once m n low high same =
    let places = once_at same_name names (m - 1) (n - 1) (record { line = 0; is_swap_store = false }) once (omega (arith, low.0, low.1)) (omega (arith, high.0, high.1)) same in
    omega (arith, places, low.0, high.0)

pub names_distinct : (text : List ℕ) (log : NumberedLog) → SpellsLog text log → AreNamesDistinct (event_names log)
names_distinct text log spells =
    let lines = split_lines (places_of_text text) spells.lines in
    subst (λ l. AreNamesDistinct (event_names l)) (sym spells.is) (distinct_once (event_names (log_of_lines lines)) (names_once lines 0 (processors_in lines)))
