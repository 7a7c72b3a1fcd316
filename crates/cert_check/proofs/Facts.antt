-- Lemmas on lists of steps and of numbers.
use Rattle.std.proofs.Common.{◌≡◌, ◌∙◌, ⊎_elim, sym, ap, subst, refl, ℕ, suc, ◌+◌, ◌-◌, ◌<◌, ◌≤◌, ◌↔◌, IsTrue, Bool, true, false, List, [], ◌∷◌, length, get_or, take, Some, slice_get, All, arith}
use Rattle.std.proofs.lemmas.Bool.{false≢true, cases_lt}
use Rattle.std.proofs.lemmas.List.{take_all}
use Rattle.std.proofs.lemmas.Option.{slice_get_read, slice_get_within}
use Rattle.std.proofs.lemmas.List.Elements.{All-more, All-get_or}
use Rattle.order_paths.specs.Paths.{last_of, HasEnds, Linked, IsCycle}
use Rattle.tso_cert.specs.declared.steps.CertStep.{CertStep}
use Rattle.tso_model.specs.Certs.{IsStep}

-- ---- looking for a step from the last one back

-- no step from place k on is the edge from u to v
abbrev pub NotListedFrom : List CertStep → ℕ → ℕ → ℕ → Type 0
NotListedFrom steps u v k = (j : ℕ) (s : CertStep) → k ≤ j → slice_get steps j ≡ Some s → s.from ≡ u → s.to ≡ v → ⊥

pub not_listed_at_end : (steps : List CertStep) (u v : ℕ) → NotListedFrom steps u v (length steps)
not_listed_at_end steps u v j s past at from to = omega (arith, slice_get_within steps j s at)

pub listed : (steps : List CertStep) (u v k : ℕ) (s : CertStep) → 0 < k → k ≤ length steps → s ≡ get_or steps (k - 1) s → s.from ≡ u → s.to ≡ v → IsStep steps u v
listed steps u v k s above within read from to = (k - 1, s, slice_get_read steps (length steps) (k - 1) s refl (omega arith) read, from, to)

pub not_listed_more : (steps : List CertStep) (u v k : ℕ) (s : CertStep) → 0 < k → k ≤ length steps → s ≡ get_or steps (k - 1) s → (s.from ≡ u → s.to ≡ v → ⊥) →
    NotListedFrom steps u v k → NotListedFrom steps u v (k - 1)
not_listed_more steps u v k s above within read other after j d before at from to =
    let here : slice_get steps (k - 1) ≡ Some s = slice_get_read steps (length steps) (k - 1) s refl (omega arith) read in
    ⊎_elim
    (λ earlier.
    let place : j ≡ k - 1 = omega arith in
    let same : Some s ≡ Some d = sym here ∙ ap (slice_get steps) (sym place) ∙ at in
    let one : s ≡ d = cc in
    other (ap (λ (x : CertStep). x.from) one ∙ from) (ap (λ (x : CertStep). x.to) one ∙ to))
    (λ later. after j d later at from to)
    (cases_lt j k)

pub not_listed : (steps : List CertStep) (u v k : ℕ) → k ≤ 0 → NotListedFrom steps u v k → IsStep steps u v → ⊥
not_listed steps u v k none after (j, s, at, from, to) = after j s (omega arith) at from to

-- ---- a test of each element, in a loop

pub all_more : {X : Type 0} (P : X → Type 0) → (xs : List X) (i : ℕ) (x : X) → i < length xs → x ≡ get_or xs i x → All P (take i xs) → P x → All P (take (i + 1) xs)
all_more P xs i x within read before here = All-more P xs i x within before (subst P read here)

pub all_of : {X : Type 0} (P : X → Type 0) → (xs : List X) (i : ℕ) → length xs ≤ i → All P (take i xs) → IsTrue true ↔ All P xs
all_of P xs i whole all = (λ _. subst (All P) (take_all i xs whole) all, λ _. refl)

pub not_all : {X : Type 0} (P : X → Type 0) → (xs : List X) (i : ℕ) (x : X) → i < length xs → x ≡ get_or xs i x → (P x → ⊥) → IsTrue false ↔ All P xs
not_all P xs i x within read other = (λ e. absurd (false≢true e), λ all. absurd (other (subst P (sym read) (All-get_or P xs i x within all))))

-- ---- the last of a list

pub last_of-place : (x : ℕ) (xs : List ℕ) (d : ℕ) → last_of x xs ≡ get_or (x ∷ xs) (length xs) d
last_of-place x [] d = refl
last_of-place x (y ∷ xs) d = last_of-place y xs d

-- fewer than two numbers are linked
pub linked_short : (E : ℕ → ℕ → Type 0) (xs : List ℕ) → length xs < 2 → IsTrue true ↔ Linked E xs
linked_short E [] short = (λ _. tt, λ _. refl)
linked_short E (x ∷ []) short = (λ _. tt, λ _. refl)
linked_short E (x ∷ (y ∷ xs)) short = absurd (omega arith)

-- the first and the last of two or more numbers
pub ends_by_place : (path : List ℕ) → 2 ≤ length path → HasEnds path (get_or path 0 0) (get_or path (length path - 1) 0)
ends_by_place [] long = absurd (omega arith)
ends_by_place (x ∷ []) long = absurd (omega arith)
ends_by_place (x ∷ (y ∷ rest)) long =
    let place : suc (suc (length rest)) - 1 ≡ suc (length rest) = omega arith in
    (refl, last_of-place y rest 0 ∙ ap (λ k. get_or (x ∷ (y ∷ rest)) k 0) (sym place))

-- a cycle by its places
pub cycle_by_place : (E : ℕ → ℕ → Type 0) (cycle : List ℕ) (b : Bool) → 1 ≤ length cycle → Linked E cycle →
    IsTrue b ↔ E (get_or cycle (length cycle - 1) 0) (get_or cycle 0 0) → IsTrue b ↔ IsCycle E cycle
cycle_by_place E [] b some linked closes = absurd (omega arith)
cycle_by_place E (x ∷ rest) b some linked closes =
    let place : suc (length rest) - 1 ≡ length rest = omega arith in
    let last : get_or (x ∷ rest) (suc (length rest) - 1) 0 ≡ last_of x rest = ap (λ k. get_or (x ∷ rest) k 0) place ∙ sym (last_of-place x rest 0) in
    (λ e. (linked, subst (λ n. E n x) last (closes.0 e)), λ cycle. closes.1 (subst (λ n. E n x) (sym last) cycle.1))
