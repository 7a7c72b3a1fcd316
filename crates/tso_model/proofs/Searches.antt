-- What a search over the numbers below a bound finds: one with the property, or that none has it.
use Rattle.std.proofs.Common.{◌≡◌, ◌↔◌, ℕ, ◌+◌, ◌<◌, Bool, true, false, IsTrue, Option, Some, eqb, eq-eqb, refl, sym, ◌∙◌}
use Rattle.std.specs.Option.{option_eq}
use Rattle.std.proofs.lemmas.Bool.{false≢true}
use borrow.Author.Count.{below_more}

-- a test that answers false refuses
pub refused : (P : Type 0) → (IsTrue false ↔ P) → P → ⊥
refused P test p = false≢true (test.1 p)

-- from the numbers below n to one more, of which the test is refused
pub none_more : (P : ℕ → Type 0) (n : ℕ) → ((k : ℕ) → k < n → P k → ⊥) → (IsTrue false ↔ P n) → (k : ℕ) → k < n + 1 → P k → ⊥
none_more P n none test = below_more (λ k. P k → ⊥) n none (refused (P n) test)

-- a search that found nothing below n, where all that have the property lie below n
pub none_found : (P : ℕ → Type 0) (n : ℕ) → ((k : ℕ) → P k → k < n) → ((k : ℕ) → k < n → P k → ⊥) → IsTrue false ↔ ((k : ℕ) × P k)
none_found P n below none = (λ e. absurd (false≢true e), λ p. absurd (none p.0 (below p.0 p.1) p.1))

-- an option that isn't found equal to a number isn't that number
pub not_equal : (o : Option ℕ) (v : ℕ) (b : Bool) → b ≡ option_eq eqb o (Some v) → b ≡ false → o ≡ Some v → ⊥
not_equal o v b is off same =
    let on : option_eq eqb o (Some v) ≡ true = rw same (eq-eqb v v refl) in
    false≢true (sym off ∙ is ∙ on)
