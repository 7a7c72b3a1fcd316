-- Lemmas on first values: of one address the last counts.
use Rattle.std.proofs.Common.{◌≡◌, ◌∙◌, ℕ, ◌<◌, ◌≤◌, eqb, cond, true, false, List, [], ◌∷◌, ◌++◌, refl, sym, ap, arith, ⊎_elim}
use Rattle.std.specs.BTreeMap.{insert_entry}
use Rattle.std.specs.Cmp.{nat_cmp_is}
use Rattle.std.specs.Ordering.{nat_cmp}
use Rattle.std.specs.declared.cmp.Ordering.TheVariants.{Less, Equal, Greater}
use Rattle.std.proofs.lemmas.Bool.{cases_eq, cases_lt}
use Rattle.std.proofs.lemmas.Bool.Decides.{nat_tests}
use Rattle.tso_ops.specs.Settings.{first_value}
use Rattle.log_text.specs.declared.lines.LogLine.{LogLine}
use Rattle.log_text.specs.declared.lines.LogLine.TheVariants.{First}
use Rattle.log_text.specs.LogTexts.{first_values}
use Rattle.log_text.proofs.ReadingFacts.{first-push}

pub inserted : (es : List (ℕ × ℕ)) (a v : ℕ) → first_value (insert_entry nat_cmp es a v) a ≡ v
inserted [] a v = let here : eqb a a ≡ true = grind (arith, nat_tests) in rw here refl
inserted (e ∷ es) a v =
    ⊎_elim
    (λ (low : a < e.0).
    let is : nat_cmp a e.0 ≡ Less = sym (nat_cmp_is a e.0 Less low) in
    let here : eqb a a ≡ true = grind (arith, nat_tests) in
    rw (is, here) refl)
    (λ (high : e.0 ≤ a). ⊎_elim
    (λ (same : e.0 ≡ a).
    let is : nat_cmp a e.0 ≡ Equal = sym (nat_cmp_is a e.0 Equal (sym same)) in
    let here : eqb e.0 a ≡ true = grind (arith, nat_tests) in
    rw (is, here) refl)
    (λ (other : e.0 ≡ a → ⊥).
    let is : nat_cmp a e.0 ≡ Greater = sym (nat_cmp_is a e.0 Greater (omega (arith, high, other))) in
    let off : eqb e.0 a ≡ false = grind (arith, nat_tests) in
    rw (is, off) (inserted es a v))
    (cases_eq e.0 a))
    (cases_lt a e.0)

pub kept : (es : List (ℕ × ℕ)) (a v b : ℕ) → (b ≡ a → ⊥) → first_value (insert_entry nat_cmp es a v) b ≡ first_value es b
kept [] a v b differs = let off : eqb a b ≡ false = grind (arith, nat_tests) in rw off refl
kept (e ∷ es) a v b differs =
    ⊎_elim
    (λ (low : a < e.0).
    let is : nat_cmp a e.0 ≡ Less = sym (nat_cmp_is a e.0 Less low) in
    let off : eqb a b ≡ false = grind (arith, nat_tests) in
    rw (is, off) refl)
    (λ (high : e.0 ≤ a). ⊎_elim
    (λ (same : e.0 ≡ a).
    let is : nat_cmp a e.0 ≡ Equal = sym (nat_cmp_is a e.0 Equal (sym same)) in
    let off : eqb e.0 b ≡ false = grind (arith, nat_tests) in
    rw (is, off) refl)
    (λ (other : e.0 ≡ a → ⊥).
    let is : nat_cmp a e.0 ≡ Greater = sym (nat_cmp_is a e.0 Greater (omega (arith, high, other))) in
    rw is (ap (λ x. cond (eqb e.0 b) e.1 x) (kept es a v b differs)))
    (cases_eq e.0 a))
    (cases_lt a e.0)

pub last_counts : (lines : List LogLine) (a v : ℕ) → first_value (first_values (lines ++ First a v ∷ [])) a ≡ v
last_counts lines a v = ap (λ es. first_value es a) (first-push lines (First a v)) ∙ inserted (first_values lines) a v

pub others_stay : (lines : List LogLine) (a v b : ℕ) → (b ≡ a → ⊥) → first_value (first_values (lines ++ First a v ∷ [])) b ≡ first_value (first_values lines) b
others_stay lines a v b differs = ap (λ es. first_value es b) (first-push lines (First a v)) ∙ kept (first_values lines) a v b differs
