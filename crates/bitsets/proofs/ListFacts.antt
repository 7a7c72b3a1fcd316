-- The list of a row's numbers.
use Rattle.std.proofs.Common.{◌≡◌, ◌≢◌, ◌↔◌, inl, inr, ℕ, ◌+◌, ◌-◌, ◌*◌, ◌/◌, ◌%◌, ◌^◌, ◌<◌, ◌≤◌, List, length, get_or, sym, subst, arith, suc, [], ◌∷◌, ◌++◌, refl, Result, Ok, Err}
use Rattle.std.specs.Int.{trailing_zeros, w64}
use Rattle.std.specs.Prelude.{bit_and, Contains}
use Rattle.std.proofs.lemmas.Bool.{cases_eq, cases_lt}
use Rattle.std.specs.Result.{IfOk}
use Rattle.std.specs.Global.{Vec}
use Rattle.std.proofs.lemmas.List.Elements.{Contains-append_left, Contains-push, Contains-push_cases}
use Rattle.bitsets.specs.Rows.{HasBit, HasNumber, Marks, IsAscending, IsListOf}
use Rattle.bitsets.specs.Internal.Lists.{IsListBelow}
use Rattle.bitsets.proofs.WordFacts.{HasBit-zero, HasBit-lowest, HasBit-drop}
use Rattle.bitsets.proofs.RowFacts.{HasNumber-within, HasNumber-word, HasNumber-none}

pub ascending_push : (xs : List ℕ) (n : ℕ) → IsAscending xs → ((x : ℕ) → Contains xs x → x < n) → IsAscending (xs ++ n ∷ [])
ascending_push [] n up below = (λ y none. absurd (let low : none.0 < 0 = none.1 in omega arith), tt)
ascending_push (x ∷ xs) n up below = (
  λ y has. elim (Contains-push_cases xs n y has) [ inl before ↦ up.0 y before | inr same ↦ subst (λ k. x < k) same (below x (0, omega arith, refl)) ],
  ascending_push xs n up.1 (λ y has. (let low = has.1 in below y (suc has.0, omega arith, has.2))),
)

-- the same row, by an equivalent condition
pub list_as : (row : List ℕ) (P Q : ℕ → Type 0) → IsListOf row P → ((v : ℕ) → P v → Q v) → ((v : ℕ) → Q v → P v) → IsListOf row Q
list_as row P Q is to from = record { all = λ v q. is.all v (from v q); only = λ v has. to v (is.only v has); ascending = is.ascending }

-- a list of no numbers
pub list_empty : (marks row : List ℕ) → row ≡ [] → length marks ≡ 0 → IsListOf row (HasNumber marks)
list_empty marks row empty none = rw empty record {
  all = λ v has. absurd (let within = HasNumber-within marks v has in omega (arith, within, none));
  only = λ v has. absurd (let low : has.0 < 0 = has.1 in omega arith);
  ascending = tt;
}

-- After the numbers before word j, those of word j are listed that are no longer in `left`.
pub record Listed (marks list : List ℕ) (j left : ℕ) : Type 0 where
  pub some : (k : ℕ) → k < 64 → HasBit left k → HasBit (get_or marks j 0) k
  pub below : (k m : ℕ) → k < 64 → m < 64 → HasBit (get_or marks j 0) k → (HasBit left k → ⊥) → HasBit left m → k < m
  pub row : IsListOf list (λ v. (v < 64 * (j + 1)) × HasNumber marks v × (v / 64 ≡ j → HasBit left (v % 64) → ⊥))

pub Listed-start : (marks row : List ℕ) (j left : ℕ) → left ≡ get_or marks j 0 → IsListBelow row (HasNumber marks) (64 * j) → Listed marks row j left
Listed-start marks row j left is before = record {
  some = λ k low bit. subst (λ w. HasBit w k) is bit;
  below = λ k m low high bit not left_bit. absurd (not (subst (λ w. HasBit w k) (sym is) bit));
  row = list_as row _ _ before
      (λ v to. let low = to.0 in (omega arith, to.1, λ at bit. omega (arith, at)))
      (λ v to. elim (cases_lt v (64 * j)) [
        | inl low ↦ (low, to.1)
        | inr high ↦ (let upper = to.0 in
            let at : v / 64 ≡ j = omega arith in
            absurd (to.2 at (subst (λ w. HasBit w (v % 64)) (sym is) ((HasNumber-word marks v j at).0 to.1))))
      ]);
}

pub Listed-step : (marks row : List ℕ) (j left : ℕ) → Listed marks row j left → 0 < left → left < 2 ^ 64 →
    Listed marks (row ++ (64 * j + trailing_zeros w64 left) ∷ []) j (bit_and left (left - 1))
Listed-step marks row j left listed some fits = record { some = λ k h bit. listed.some k h ((clear k h).0 bit).1; below = below; row = record { all = all; only = only; ascending = ascending } }
  where
    k0 : ℕ
    k0 = trailing_zeros w64 left

    n : ℕ
    n = 64 * j + k0

    low : (k0 < 64) × HasBit left k0 × ((k : ℕ) → k < k0 → HasBit left k → ⊥)
    low = HasBit-lowest left some fits

    rest : ℕ
    rest = bit_and left (left - 1)

    clear : (k : ℕ) → k < 64 → HasBit rest k ↔ ((k ≢ k0) × HasBit left k)
    clear k h = HasBit-drop left k some fits

    place : n % 64 ≡ k0
    place = let bound = low.0 in omega arith

    at_n : n / 64 ≡ j
    at_n = let bound = low.0 in omega arith

    above : (m : ℕ) → HasBit left m → m ≢ k0 → k0 < m
    above m bit other = elim (cases_lt k0 m) [
      | inl less ↦ less
      | inr not_less ↦ absurd (low.2 m (omega (arith, other, not_less)) bit)
    ]

    below : (k m : ℕ) → k < 64 → m < 64 → HasBit (get_or marks j 0) k → (HasBit rest k → ⊥) → HasBit rest m → k < m
    below k m hk hm bit not m_bit =
        let m_left = (clear m hm).0 m_bit in
        elim (cases_eq k k0) [
          | inl e ↦ subst (λ i. i < m) (sym e) (above m m_left.1 m_left.0)
          | inr other ↦ listed.below k m hk hm bit (λ is. not ((clear k hk).1 (other, is))) m_left.1
        ]

    all : (v : ℕ) → (v < 64 * (j + 1)) × HasNumber marks v × (v / 64 ≡ j → HasBit rest (v % 64) → ⊥) → Contains (row ++ n ∷ []) v
    all v to = elim (cases_eq v n) [
      | inl e ↦ subst (λ m. Contains (row ++ n ∷ []) m) (sym e) (Contains-push row n)
      | inr other ↦ Contains-append_left row (n ∷ []) v (listed.row.all v (
        to.0,
        to.1,
        λ at bit. to.2 at ((clear (v % 64) (omega arith)).1 (λ same. other (omega (arith, at, same)), bit)),
      ))
    ]

    only : (v : ℕ) → Contains (row ++ n ∷ []) v → (v < 64 * (j + 1)) × HasNumber marks v × (v / 64 ≡ j → HasBit rest (v % 64) → ⊥)
    only v has = elim (Contains-push_cases row n v has) [
      | inl was ↦ (let to = listed.row.only v was in (to.0, to.1, λ at bit. to.2 at ((clear (v % 64) (omega arith)).0 bit).1))
      | inr e ↦ subst (λ m. (m < 64 * (j + 1)) × HasNumber marks m × (m / 64 ≡ j → HasBit rest (m % 64) → ⊥)) e
          (let bound = low.0 in (
            omega arith,
            (HasNumber-word marks n j at_n).1 (subst (λ k. HasBit (get_or marks j 0) k) (sym place) (listed.some k0 low.0 low.1)),
            λ at bit. ((clear (n % 64) (omega arith)).0 bit).0 place,
          ))
    ]

    ascending : IsAscending (row ++ n ∷ [])
    ascending = ascending_push row n listed.row.ascending (λ x has. (let to = listed.row.only x has in
        let upper = to.0 in
        elim (cases_eq (x / 64) j) [
          | inl at ↦ (let less : x % 64 < k0 = listed.below (x % 64) k0 (omega arith) low.0 ((HasNumber-word marks x j at).0 to.1) (to.2 at) low.1 in omega arith)
          | inr other ↦ omega arith
        ]))

pub Listed-end : (marks row : List ℕ) (j left : ℕ) → left ≡ 0 → Listed marks row j left → IsListBelow row (HasNumber marks) (64 * (j + 1))
Listed-end marks row j left none listed =
    list_as row _ _ listed.row (λ v to. (to.0, to.1)) (λ v to. (to.0, to.1, λ at bit. HasBit-zero (v % 64) (subst (λ w. HasBit w (v % 64)) none bit)))

-- the whole list of a row whose numbers are below a bound
pub list_whole : (marks row : List ℕ) (n nodes : ℕ) → IsListBelow row (HasNumber marks) n → nodes ≤ n → ((v : ℕ) → HasNumber marks v → v < nodes) → IsListOf row (HasNumber marks)
list_whole marks row n nodes is whole within = list_as row _ _ is (λ v to. to.1) (λ v has. let low = within v has in (omega arith, has))

-- before the first word nothing is listed
pub list_start : (marks row : List ℕ) (n : ℕ) → row ≡ [] → n ≡ 0 → IsListBelow row (HasNumber marks) n
list_start marks row n empty none = rw (empty, none) record {
  all = λ v to. absurd (let low : v < 0 = to.0 in omega arith);
  only = λ v has. absurd (let low : has.0 < 0 = has.1 in omega arith);
  ascending = tt;
}

-- the row of what was marked on none
pub list_marked : {E : Type 0} (r : Result (Vec ℕ) E) (start marks : List ℕ) (To : ℕ → Type 0) → start ≡ [] → Marks start marks To →
    IfOk r (λ row. IsListOf row.items (HasNumber marks)) → IfOk r (λ row. IsListOf row.items To)
list_marked (Ok row) start marks To none made is =
    list_as row.items (HasNumber marks) To is
    (λ v has. elim ((made.marked v).0 has) [ inl was ↦ absurd (HasNumber-none v (subst (λ xs. HasNumber xs v) none was)) | inr to ↦ to ])
    (λ v to. (made.marked v).1 (inr to))
list_marked (Err e) start marks To none made is = tt

-- the row of the numbers that an edge leads to
pub listed_as : {E : Type 0} (r : Result (Vec ℕ) E) (marks : List ℕ) (To : ℕ → Type 0) → ((v : ℕ) → HasNumber marks v ↔ To v) → IfOk r (λ row. IsListOf row.items (HasNumber marks)) →
    IfOk r (λ row. IsListOf row.items To)
listed_as (Ok row) marks To same is = list_as row.items (HasNumber marks) To is (λ v has. (same v).0 has) (λ v to. (same v).1 to)
listed_as (Err e) marks To same is = tt
