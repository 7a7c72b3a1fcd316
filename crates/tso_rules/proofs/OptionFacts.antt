-- Options of numbers: what holds of the number.
use Rattle.std.proofs.Common.{◌≡◌, ◌∙◌, ◌↔◌, Option, Some, None, ℕ, sym, ap}
use Rattle.std.specs.Option.{IfSome}
use Rattle.tso_ops.proofs.MaskFacts.{some_is}

pub if_some : {X : Type 0} (P Q : X → Type 0) (o : Option X) → ((x : X) → P x → Q x) → IfSome o P → IfSome o Q
if_some P Q None f h = tt
if_some P Q (Some x) f h = f x h

-- what an option says of a number, by an equivalent condition
pub some_as : (o : Option ℕ) (P : ℕ → Type 0) → IfSome o P → ((v : ℕ) → P v → o ≡ Some v) → (v : ℕ) → (o ≡ Some v) ↔ P v
some_as o P is all v = (λ e. some_is P o v is e, λ p. all v p)

pub some_as_one : (o : Option ℕ) (n : ℕ) (P : ℕ → Type 0) → IfSome o (λ v. (v ≡ n) × P n) → (P n → o ≡ Some n) → (v : ℕ) → (o ≡ Some v) ↔ ((v ≡ n) × P n)
some_as_one o n P is all v = (λ e. some_is (λ w. (w ≡ n) × P n) o v is e, λ p. all p.1 ∙ ap Some (sym p.0))
