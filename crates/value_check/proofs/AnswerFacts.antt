-- Lemmas on answers.
use Rattle.std.proofs.Common.{◌≡◌, refl, ◌↔◌, ◌∙◌, sym, subst, ℕ, suc, ◌<◌, Bool, true, false, IsTrue, length}
use Rattle.std.specs.Bool.{MatchBool}
use Rattle.std.proofs.lemmas.Bool.{false≢true}
use Rattle.tso_ops.specs.Values.{TraceValue}
use Rattle.tso_ops.specs.Events.{IsEvent}
use Rattle.value_check.specs.declared.known.Known.{Known}
use Rattle.value_check.specs.Internal.Known.{AreTablesOf}
use Rattle.value_check.proofs.CellFacts.{index_below}
use Rattle.value_check.proofs.LeadingFacts.{index_is}

-- no is the answer of what isn't so
pub refuses : {P : Type 0} → (P → ⊥) → IsTrue false ↔ P
refuses never = (λ is. absurd (false≢true is), λ p. absurd (never p))

-- and so where a test came out false
pub refused_by : (b : Bool) (P : Type 0) → b ≡ false → (P → ⊥) → IsTrue b ↔ P
refused_by b P is never = (λ so. absurd (false≢true (sym is ∙ so)), λ p. absurd (never p))

-- where no was the answer, it isn't so
pub not_so : (b : Bool) (P : Type 0) → IsTrue b ↔ P → b ≡ false → P → ⊥
not_so true P iff is p = false≢true (sym is)
not_so false P iff is p = false≢true (iff.1 p)

-- what isn't true is false
pub is_false : (b : Bool) → (IsTrue b → ⊥) → b ≡ false
is_false true never = absurd (never refl)
is_false false never = refl

pub match_weaker : (b : Bool) (P Q R S : Type 0) → (P → R) → (Q → S) → MatchBool b P Q → MatchBool b R S
match_weaker true P Q R S first second is = first is
match_weaker false P Q R S first second is = second is

-- a number that is none of an index of the events isn't that of an event
pub no_index : (t : TraceValue) (k : Known) → AreTablesOf t k → (number : ℕ) → ((x : ℕ) → x < length k.events.items → number ≡ suc x → ⊥) → IsEvent t number → ⊥
no_index t k tables number none event =
    let at = index_is t number event in none at.0 (index_below t k tables at.0 (subst (IsEvent t) at.1 event)) at.1
