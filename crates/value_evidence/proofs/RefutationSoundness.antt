-- Soundness of refutations: of what a case supposes and of its opposite each order of the model keeps one, so a refutation that holds leaves no order.
use Rattle.std.proofs.Common.{◌≡◌, ◌⊎◌, ℕ, List, [], ◌∷◌, ◌++◌, inl, inr, sym, ap, subst}
use Rattle.std.specs.List.{Contains}
use Rattle.std.proofs.lemmas.Bool.{cases_eq}
use Rattle.std.proofs.lemmas.List.Elements.{Contains-append_cases}
use Rattle.tso_ops.specs.Values.{TraceValue}
use Rattle.tso_ops.proofs.NumberFacts.{event_above_zero}
use Rattle.tso_model.specs.Axioms.{IsBefore, IsModelOrder, IsConsistent}
use Rattle.tso_model.proofs.EdgesForward.{SeesSource}
use Rattle.tso_model.proofs.Places.{before_or_up_to}
use Rattle.value_evidence.specs.declared.steps.ValueStep.{ValueStep}
use Rattle.value_evidence.specs.declared.steps.ValueStep.TheVariants.{Read}
use Rattle.value_evidence.specs.declared.steps.ValueEnd.{ValueEnd}
use Rattle.value_evidence.specs.declared.steps.ValueEnd.TheVariants.{NoSource, Cycle}
use Rattle.value_evidence.specs.declared.refutations.ValueRefutationLine.{ValueRefutationLine}
use Rattle.value_evidence.specs.Refutations.{ValueRefutation, end, step, by_source, by_order, supposed_before, AreTwoLogEvents, EndHoldsBeside, HoldsBeside, ValueRefutationHolds}
use Rattle.value_evidence.proofs.SwapSources.{strict, read_by, one_read}
use Rattle.value_evidence.proofs.Soundness.{contained_one, none_contained, Keeps, read_can, keeps_said, keeps_more, keeps_none, no_end}

-- the parts of two steps that say sources
same_load : (l s m r : ℕ) → Read l s ≡ Read m r → l ≡ m
same_load l s m r same = cc

same_source : (l s m r : ℕ) → Read l s ≡ Read m r → s ≡ r
same_source l s m r same = cc

-- the parts of two pairs
same_first : (x y : ℕ × ℕ) → x ≡ y → x.0 ≡ y.0
same_first x y same = ap (λ pair. pair.0) same

same_second : (x y : ℕ × ℕ) → x ≡ y → x.1 ≡ y.1
same_second x y same = ap (λ pair. pair.1) same

module _ (t : TraceValue) (order : List ℕ) (axioms : IsModelOrder t order) where
  -- no load reads in the order what is set aside
  abbrev Unread : List (ℕ × ℕ) → Type 0
  Unread aside = (l r : ℕ) → Contains aside (l, r) → SeesSource t order l r → ⊥

  -- one number more that the load doesn't read
  unread_more : (aside : List (ℕ × ℕ)) (load source : ℕ) → (SeesSource t order load source → ⊥) → Unread aside → Unread (aside ++ (load, source) ∷ [])
  unread_more aside load source never unread l r among sees = by_cases (Contains-append_cases aside (one ∷ []) other among)
    where
      one : ℕ × ℕ
      one = (load, source)

      other : ℕ × ℕ
      other = (l, r)

      by_cases : Contains aside other ⊎ Contains (one ∷ []) other → ⊥
      by_cases (inl before) = unread l r before sees
      by_cases (inr last) =
          let same = contained_one one other last in
          never (subst (λ n. SeesSource t order n source) (sym (same_first one other same)) (subst (SeesSource t order l) (sym (same_second one other same)) sees))

  module _ (steps : List ValueStep) (keeps : Keeps t order steps) where
    -- the order keeps that a load read what it sees in the order
    keeps_source : (load source : ℕ) → SeesSource t order load source → Keeps t order (steps ++ Read load source ∷ [])
    keeps_source load source sees =
        keeps_said t order axioms steps keeps (Read load source) (λ u v said. absurd said) (λ l s same.
        subst (λ n. SeesSource t order n s) (same_load load source l s same) (subst (SeesSource t order load) (same_source load source l s same) sees))

    -- and that one event comes before another, where it does so in the order
    keeps_before : (u v : ℕ) → IsBefore order u v → Keeps t order (steps ++ supposed_before u v ∷ [])
    keeps_before u v before =
        keeps_said t order axioms steps keeps (supposed_before u v)
        (λ x y said. subst (λ n. IsBefore order n y) said.0 (subst (IsBefore order u) said.1 before)) (λ l s same. absurd cc)

    -- the end leaves no order that keeps the steps and in which nothing is read that is set aside
    no_end_beside : (aside : List (ℕ × ℕ)) (e : ValueEnd) → Unread aside → EndHoldsBeside t steps aside e → ⊥
    no_end_beside aside (NoSource l) unread holds =
        let read = read_can t order axioms steps keeps l holds.0 in
        unread l read.0 (holds.1 read.0 read.1) read.2
    no_end_beside aside (Cycle u) unread holds = no_end t order axioms steps keeps (Cycle u) holds

  -- of two events one comes before the other
  one_before : (u v : ℕ) → AreTwoLogEvents t u v → IsBefore order u v ⊎ IsBefore order v u
  one_before u v two =
      elim (before_or_up_to order u v (event_above_zero t u two.0) (event_above_zero t v two.1)) [
        | inl before ↦ inl before
        | inr up_to ↦ inr (strict t order axioms v u two.0 (λ same. two.2 (sym same)) up_to)
      ]

  -- no refutation holds beside what the order keeps
  nothing_holds : (r : ValueRefutation) (steps : List ValueStep) (aside : List (ℕ × ℕ)) → Keeps t order steps → Unread aside → HoldsBeside t steps aside r → ⊥
  nothing_holds (end e) steps aside keeps unread holds = no_end_beside steps keeps aside e unread holds
  nothing_holds (step s rest) steps aside keeps unread holds =
      nothing_holds rest (steps ++ s ∷ []) aside (keeps_more t order axioms steps keeps s holds.0) unread holds.1
  nothing_holds (by_source load source first second) steps aside keeps unread holds =
      let read = read_by t order axioms load holds.0 in
      elim (cases_eq read.0 source) [
        | inl same ↦
            nothing_holds first (steps ++ Read load source ∷ []) aside (keeps_source steps keeps load source (subst (SeesSource t order load) same read.2)) unread holds.1
        | inr other ↦
            nothing_holds second steps (aside ++ (load, source) ∷ []) keeps
            (unread_more aside load source (λ sees. other (one_read t order axioms load read.0 source read.2 sees)) unread) holds.2
      ]
  nothing_holds (by_order u v first second) steps aside keeps unread holds =
      elim (one_before u v holds.0) [
        | inl before ↦ nothing_holds first (steps ++ supposed_before u v ∷ []) aside (keeps_before steps keeps u v before) unread holds.1
        | inr before ↦ nothing_holds second (steps ++ supposed_before v u ∷ []) aside (keeps_before steps keeps v u before) unread holds.2
      ]

-- a refutation that holds leaves no order
pub no_order_beside : (t : TraceValue) (lines : List ValueRefutationLine) → ValueRefutationHolds t lines → IsConsistent t → ⊥
no_order_beside t lines holds consistent =
    let order = consistent.0 in
    let axioms = consistent.1 in
    nothing_holds t order axioms holds.0 [] [] (keeps_none t order axioms) (λ l r among. absurd (none_contained (l, r) among)) holds.2
