-- Tables of numbers that lead to those after them in their chains alone.
use Rattle.std.proofs.Common.{◌≡◌, ◌↔◌, inl, inr, ℕ, ◌+◌, ◌*◌, ◌/◌, ◌%◌, ◌<◌, ◌≤◌, List, length, get_or, set, replicate, sym, subst, ◌∙◌, ap, arith}
use Rattle.std.proofs.lemmas.Bool.{cases_eq, cases_lt}
use Rattle.std.proofs.lemmas.Nat.{row_fits, same_from_place}
use Rattle.std.proofs.lemmas.List.{get_or-set_same, get_or-set_other, length-set, length-replicate, get_or-replicate, get_or_past}
use Rattle.bitsets.specs.Rows.{HasBit, HasNumber}
use Rattle.bitsets.proofs.WordFacts.{HasBit-zero}
use Rattle.chain_reach.specs.Internal.FirstTables.{LeadsBy, KeepsReach}

-- The rows below x have the number after their own for their chain; all else is past the numbers.
pub record Begun (keys : List ℕ) (count : ℕ) (table : List ℕ) (x : ℕ) : Type 0 where
  pub sized : length table ≡ length keys * count
  pub own : (z : ℕ) → z < x → get_or table (z * count + get_or keys z 0) 0 ≡ z + 1
  pub rest : (z d : ℕ) → z < length keys → d < count → (d ≡ get_or keys z 0 → x ≤ z) → get_or table (z * count + d) 0 ≡ length keys

place_fits : (z d n count : ℕ) → z < n → d < count → z * count + d < n * count
place_fits z d n count low within = (let fits : z * count + count ≤ n * count = row_fits z count n count low (omega arith) in omega (arith, fits, within))

pub Begun-step : (keys : List ℕ) (count : ℕ) (table : List ℕ) (x : ℕ) → Begun keys count table x → x < length keys → get_or keys x 0 < count → ((z : ℕ) → z < length keys → get_or keys z 0 < count) →
    Begun keys count (set table (x * count + get_or keys x 0) (x + 1)) (x + 1)
Begun-step keys count table x is low within all = record { sized = length-set table (x * count + get_or keys x 0) (x + 1) ∙ is.sized; own = own; rest = rest }
  where
    apart : (z d : ℕ) → d < count → ((z ≡ x) × (d ≡ get_or keys x 0) → ⊥) → get_or (set table (x * count + get_or keys x 0) (x + 1)) (z * count + d) 0 ≡ get_or table (z * count + d) 0
    apart z d fits not = get_or-set_other table (x * count + get_or keys x 0) (z * count + d) (x + 1) 0 (λ e. not (same_from_place z d x (get_or keys x 0) count fits within e))

    own : (z : ℕ) → z < x + 1 → get_or (set table (x * count + get_or keys x 0) (x + 1)) (z * count + get_or keys z 0) 0 ≡ z + 1
    own z less = elim (cases_eq z x) [
      | inl e ↦ subst (λ n. get_or (set table (x * count + get_or keys x 0) (x + 1)) (n * count + get_or keys n 0) 0 ≡ n + 1) (sym e)
          (get_or-set_same table (x * count + get_or keys x 0) (x + 1) 0 (let fits = place_fits x (get_or keys x 0) (length keys) count low within in let sized = is.sized in omega (arith, fits, sized)))
      | inr ne ↦ apart z (get_or keys z 0) (all z (omega (arith, less, low))) (λ both. ne both.0) ∙ is.own z (omega (arith, less, ne))
    ]

    rest : (z d : ℕ) → z < length keys → d < count → (d ≡ get_or keys z 0 → x + 1 ≤ z) → get_or (set table (x * count + get_or keys x 0) (x + 1)) (z * count + d) 0 ≡ length keys
    rest z d less fits after =
        apart z d fits (λ both. (let more = after (both.1 ∙ ap (λ n. get_or keys n 0) (sym both.0)) in let e = both.0 in omega (arith, more, e)))
        ∙ is.rest z d less fits (λ e. (let more = after e in omega (arith, more)))

pub Begun-leads : (keys : List ℕ) (count : ℕ) (table : List ℕ) (n : ℕ) → Begun keys count table n → n ≡ length keys → ((z : ℕ) → z < length keys → get_or keys z 0 < count) → (x y : ℕ) →
    LeadsBy keys count table x y ↔ ((x < y) × (y < length keys) × (get_or keys x 0 ≡ get_or keys y 0))
Begun-leads keys count table n is all within x y = (to, back)
  where
    to : LeadsBy keys count table x y → (x < y) × (y < length keys) × (get_or keys x 0 ≡ get_or keys y 0)
    to leads = elim (cases_eq (get_or keys y 0) (get_or keys x 0)) [
      | inl e ↦ (let low = leads.0 in
          let own : get_or table (x * count + get_or keys y 0) 0 ≡ x + 1 = ap (λ d. get_or table (x * count + d) 0) e ∙ is.own x (omega (arith, low, all)) in
          let le = leads.2 in (omega (arith, own, le), leads.1, sym e))
      | inr ne ↦ absurd (let rest = is.rest x (get_or keys y 0) leads.0 (within y leads.1) (λ e. absurd (ne e)) in let le = leads.2 in let low = leads.1 in omega (arith, rest, le, low))
    ]

    back : (x < y) × (y < length keys) × (get_or keys x 0 ≡ get_or keys y 0) → LeadsBy keys count table x y
    back later =
        let less = later.0 in
        let low = later.1 in
        let own : get_or table (x * count + get_or keys y 0) 0 ≡ x + 1 = ap (λ d. get_or table (x * count + d) 0) (sym later.2) ∙ is.own x (omega (arith, less, low, all)) in
        (omega (arith, less, low), low, omega (arith, own, less))

pub Begun-keeps : (keys : List ℕ) (count : ℕ) (table given : List ℕ) (grown : List ℕ) (n : ℕ) → Begun keys count table n → n ≡ length keys → ((z : ℕ) → z < length keys → get_or keys z 0 < count) →
    length given ≡ count → length grown ≡ (length keys + 63) / 64 → ((x : ℕ) → HasNumber grown x → ⊥) → KeepsReach keys count table given grown
Begun-keeps keys count table given grown n is all within given_sized grown_sized none =
    let leads = Begun-leads keys count table n is all within in record {
      sized = is.sized;
      given_sized = given_sized;
      grown_sized = grown_sized;
      grown_within = λ x has. absurd (none x has);
      transitive = λ x y z a b.
          let first = (leads x y).0 a in
          let second = (leads y z).0 b in
          let less = first.0 in
          let more = second.0 in
          (leads x z).1 (omega (arith, less, more), second.1, first.2 ∙ second.2);
      ordered = λ x y less low same. (leads x y).1 (less, low, same);
    }

-- where nothing is marked
pub none_marked : (marks : List ℕ) (n x : ℕ) → marks ≡ replicate {A = ℕ} n 0 → HasNumber marks x → ⊥
none_marked marks n x are has = HasBit-zero (x % 64) (subst (λ word. HasBit word (x % 64)) (ap (λ list. get_or list (x / 64) 0) are ∙ at) has)
  where
    at : get_or (replicate {A = ℕ} n 0) (x / 64) 0 ≡ 0
    at = elim (cases_lt (x / 64) n) [
      | inl low ↦ get_or-replicate n (x / 64) 0 0 low
      | inr high ↦ get_or_past (replicate {A = ℕ} n 0) (x / 64) 0 (omega (arith, high, length-replicate {A = ℕ} n 0))
    ]
