-- Lemmas on the table of sources.
use Rattle.std.proofs.Common.{◌≡◌, ◌∙◌, ⊎_elim, refl, sym, ap, subst, ℕ, zero, suc, ◌+◌, ◌<◌, ◌≤◌, Bool, true, false, take, List, [], ◌∷◌, ◌++◌, length, get_or, nat_eq, Option, None, Some, IsSome, slice_get, arith, rules}
use Rattle.std.specs.Cmp.{nat_eq_equiv}
use Rattle.std.specs.List.{IsDistinct, list_any}
use Rattle.std.proofs.lemmas.Map.Keys.{IsDistinct-push}
use Rattle.std.proofs.Math.ListN.{get_or-eq_default}
use Rattle.std.proofs.lemmas.Option.{none-some}
use Rattle.std.proofs.lemmas.Bool.{cases_lt, cases_eq}
use Rattle.std.proofs.lemmas.List.{get_or_append_left, get_or_push, length_push, take_more}
use Rattle.tso_ops.specs.declared.events.Source.{Source}
use Rattle.tso_ops.specs.Values.{TraceValue}
use Rattle.tso_ops.specs.Events.{HasSource, IsLoad, SourceIs}
use Rattle.tso_ops.proofs.NumberFacts.{event_at-within}
use Rattle.log_selections.specs.declared.accesses.Access.{Access}
use Rattle.log_selections.specs.declared.sources.LoadSource.{LoadSource}
use Rattle.log_selections.specs.declared.sources.LoadSource.TheVariants.{Known, Ambiguous, Unwritten}
use Rattle.log_selections.specs.Internal.Known.{AreSources, IsFound, IsKnownSource, IsOnlyWriter, known_number, source_at}

-- one more number, of which the source is known or none is named
pub sources-push : (first : List (ℕ × ℕ)) (accesses : List Access) (i : ℕ) (found : Option ℕ) (numbers new : List (Option ℕ)) → new ≡ numbers ++ found ∷ [] →
    ((s : ℕ) → found ≡ Some s → IsKnownSource first accesses (suc i) s) →
    (length numbers ≡ suc i) × AreSources first accesses numbers → (length new ≡ suc (i + 1)) × AreSources first accesses new
sources-push first accesses i found numbers new pushed known (count, are) =
    (omega (arith, ap length pushed, length_push numbers found, count), λ n s is. each n s (ap (λ ns. get_or ns n None) (sym pushed) ∙ is))
  where
    each : (n s : ℕ) → get_or (numbers ++ found ∷ []) n None ≡ Some s → IsKnownSource first accesses n s
    each n s is =
        ⊎_elim (λ before. are n s (sym (get_or_append_left numbers (found ∷ []) None n before) ∙ is))
        (λ not_before. ⊎_elim (λ (same : n ≡ length numbers). subst (λ m. IsKnownSource first accesses m s) (sym (same ∙ count))
        (known s (sym (get_or_push numbers found None n (sym same)) ∙ is)))
        (λ other. let none : None ≡ Some s = sym (get_or-eq_default (numbers ++ found ∷ []) None {n = n} (omega (arith, length_push numbers found))) ∙ is in absurd (none-some s none))
        (cases_eq n (length numbers)))
        (cases_lt n (length numbers))

-- what was found of a load
pub found_source : (first : List (ℕ × ℕ)) (accesses : List Access) (i : ℕ) (x : Access) (found : LoadSource) (number : Option ℕ) → slice_get accesses i ≡ Some x → x.load ≡ true →
    IsFound first accesses (x.a, x.value) found → number ≡ known_number found → (s : ℕ) → number ≡ Some s → IsKnownSource first accesses (suc i) s
found_source first accesses i x (Known n) number at load only is s same =
    (i, refl, x, at, load, subst (IsOnlyWriter first accesses (x.a, x.value)) (let one : Some n ≡ Some s = sym is ∙ same in cc) only)
found_source first accesses i x Ambiguous number at load only is s same = absurd (none-some s (sym is ∙ same))
found_source first accesses i x Unwritten number at load only is s same = absurd (none-some s (sym is ∙ same))

-- a store has no source
pub no_source : (first : List (ℕ × ℕ)) (accesses : List Access) (i : ℕ) (number : Option ℕ) → number ≡ None → (s : ℕ) → number ≡ Some s → IsKnownSource first accesses (suc i) s
no_source first accesses i number is s same = absurd (none-some s (sym is ∙ same))

-- ---- the loads of a trace

-- one number more
pub loads-next : (t : TraceValue) (P : ℕ → Type 0) (k : ℕ) → ((l : ℕ) → IsLoad t l → l ≤ k → P l) → (IsLoad t (k + 1) → P (k + 1)) → (l : ℕ) → IsLoad t l → l ≤ k + 1 → P l
loads-next t P k before here l load within =
    ⊎_elim (λ (same : l ≡ k + 1). subst P (sym same) (here (subst (IsLoad t) same load))) (λ other. before l load (omega arith)) (cases_eq l (k + 1))

pub no_load-zero : (t : TraceValue) (l : ℕ) → IsLoad t l → l ≤ 0 → ⊥
no_load-zero t l (e, at, load) none = omega (arith, (event_at-within t l e at).0)

-- the source is the number's
pub source_of_number : (t : TraceValue) (l s : ℕ) (source : Source) → SourceIs t l source → source ≡ source_at s → HasSource t l s
source_of_number t l zero source is same = subst (SourceIs t l) same is
source_of_number t l (suc k) source is same = (subst (SourceIs t l) same is).0

pub distinct-none : IsDistinct nat_eq []
unfolding IsDistinct
distinct-none = tt

pub distinct-push : (xs : List ℕ) (k d : ℕ) → k < length xs → IsDistinct nat_eq (take k xs) → list_any (λ x. nat_eq x (get_or xs k d)) (take k xs) ≡ false → IsDistinct nat_eq (take (k + 1) xs)
distinct-push xs k d within distinct fresh =
    subst (IsDistinct nat_eq) (sym (take_more xs k d within))
    (IsDistinct-push nat_eq_equiv (take k xs) (get_or xs k d) distinct (ap (λ (test : ℕ → Bool). list_any test (take k xs)) (λ i x. nat_eq_equiv.symm (get_or xs k d) x i) ∙ fresh))

pub not_some : {X : Type 0} (found : Option X) → found ≡ None → IsSome found → ⊥
not_some None is some = search rules
not_some (Some x) is some = none-some x (sym is)
