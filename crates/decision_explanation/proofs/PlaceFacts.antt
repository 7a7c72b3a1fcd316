-- Lemmas on the table of places.
use Rattle.std.proofs.Common.{◌≡◌, ◌∙◌, sym, ap, subst, ℕ, suc, ◌+◌, ◌-◌, ◌<◌, Bool, true, false, cond, eqb, Some, List, [], ◌∷◌, length, get_or, drop, arith}
use Rattle.std.proofs.lemmas.List.{drop_all, drop_more}
use Rattle.std.specs.Prelude.{IfSome}
use Rattle.tso_ops.specs.Values.{TraceValue}
use Rattle.tso_ops.specs.Events.{event_total, HasSource}
use Rattle.tso_ops.proofs.NumberFacts.{HasSource-within}
use Rattle.tso_model.specs.Axioms.{place}
use Rattle.trace_explanation.specs.Names.{source_of}
use Rattle.trace_explanation.proofs.SourceFacts.{source-is}
use Rattle.decision_explanation.specs.Internal.Tables.{ArePlaces, ArePlacesFrom}

-- of no number yet
pub places_start : (order : List ℕ) (count : ℕ) (places : List ℕ) → length places ≡ count → ((n : ℕ) → n < count → get_or places n 0 ≡ length order) → ArePlacesFrom order (length order - 0) count places
places_start order count places counted each =
    let none : drop (length order - 0) order ≡ [] = drop_all (length order - 0) order (omega arith) in
    record { counted = counted; each = λ n within. each n within ∙ sym (ap (λ rest. length order - 0 + place rest n) none ∙ omega arith) }

-- one number more, from the last one back
pub places_step : (order : List ℕ) (done k number count : ℕ) (old new : List ℕ) → done < length order → k ≡ length order - 1 - done → number ≡ get_or order k 0 → ArePlacesFrom order (length order - done) count old →
    length new ≡ length old → ((n : ℕ) → n < length old → get_or new n 0 ≡ cond (eqb number n) k (get_or old n 0)) → ArePlacesFrom order (length order - (done + 1)) count new
places_step order done k number count old new within is at before same entered =
    let rest : length order - done ≡ k + 1 = omega arith in
    let here : length order - (done + 1) ≡ k = omega arith in
    let dropped : drop k order ≡ number ∷ drop (k + 1) order = drop_more order k 0 (omega arith) ∙ ap (λ x. x ∷ drop (k + 1) order) (sym at) in
    record {
      counted = same ∙ before.counted;
      each = λ n inside.
          let earlier : get_or old n 0 ≡ k + 1 + place (drop (k + 1) order) n = subst (λ m. get_or old n 0 ≡ m + place (drop m order) n) rest (before.each n inside) in
          entered n (omega (arith, before.counted)) ∙ ap (cond (eqb number n) k) earlier ∙ both n (eqb number n)
          ∙ sym (ap (λ m. m + place (drop m order) n) here ∙ ap (λ later. k + place later n) dropped);
    }
  where
    both : (n : ℕ) (b : Bool) → cond b k (k + 1 + place (drop (k + 1) order) n) ≡ k + cond b 0 (suc (place (drop (k + 1) order) n))
    both n true = omega arith
    both n false = omega arith

-- of the whole list
pub places_end : (order : List ℕ) (left count : ℕ) (places : List ℕ) → left ≡ 0 → ArePlacesFrom order left count places → ArePlaces order count places
places_end order left count places none from =
    record { counted = from.counted; each = λ n within. from.each n within ∙ ap (λ m. m + place (drop m order) n) none ∙ omega arith }

-- a load and its source have rows in the table
pub source_listed : (t : TraceValue) (l s : ℕ) → Some s ≡ source_of t l → (l < suc (event_total t)) × (s < suc (event_total t))
source_listed t l s is = HasSource-within t l s (subst (λ o. IfSome o (HasSource t l)) (sym is) (source-is t l))
