-- What leads from the lists of a log to lists that are changed one after another.
use Rattle.std.proofs.Common.{List, [], ◌∷◌, ◌++◌, map, subst, append_assoc}
use Rattle.tso_ops.specs.declared.ops.Outcome.{Outcome}
use Rattle.log_text.specs.declared.logs.LoggedOperation.{LoggedOperation}
use Rattle.log_text.specs.LogValues.{logged_outcomes}
use Rattle.log_thinning.proofs.EventLists.{lists_around}

-- a relation of lists that leads from some to others, step by step
pub record IsChain (Leads : List (List Outcome) → List (List Outcome) → Type 0) : Type 0 where
  pub same : (xs : List (List Outcome)) → Leads xs xs
  pub chain : (xs ys zs : List (List Outcome)) → Leads xs ys → Leads ys zs → Leads xs zs

module _ (Leads : List (List Outcome) → List (List Outcome) → Type 0) (steps : IsChain Leads) where
  -- what follows after more of a processor's operations are done
  pub leads_after : (before : List (List Outcome)) (done xs rest changed : List Outcome) (after : List (List Outcome)) →
      Leads (lists_around before (done ++ xs) rest after) (lists_around before (done ++ xs) changed after) →
      Leads (lists_around before done (xs ++ rest) after) (lists_around before done (xs ++ changed) after)
  leads_after before done xs rest changed after leads =
      subst (λ ops. Leads (before ++ ops ∷ after) (before ++ (done ++ (xs ++ changed)) ∷ after)) (append_assoc done xs rest)
      (subst (λ ops. Leads (before ++ ((done ++ xs) ++ rest) ∷ after) (before ++ ops ∷ after)) (append_assoc done xs changed) leads)

  module _ (change : List LoggedOperation → List LoggedOperation)
      (one : (before : List (List Outcome)) (xs : List LoggedOperation) (after : List (List Outcome)) →
      Leads (before ++ logged_outcomes xs ∷ after) (before ++ logged_outcomes (change xs) ∷ after)) where
    -- the lists behind these are changed
    leads_from : (before : List (List Outcome)) (lists : List (List LoggedOperation)) →
        Leads (before ++ map logged_outcomes lists) (before ++ map logged_outcomes (map change lists))
    leads_from before [] = steps.same (before ++ [])
    leads_from before (xs ∷ lists) =
        let rest = leads_from (before ++ logged_outcomes (change xs) ∷ []) lists in
        let to = append_assoc before (logged_outcomes (change xs) ∷ []) (map logged_outcomes (map change lists)) in
        let from = append_assoc before (logged_outcomes (change xs) ∷ []) (map logged_outcomes lists) in
        steps.chain (before ++ logged_outcomes xs ∷ map logged_outcomes lists) (before ++ logged_outcomes (change xs) ∷ map logged_outcomes lists) _
        (one before xs (map logged_outcomes lists))
        (subst (λ ys. Leads (before ++ logged_outcomes (change xs) ∷ map logged_outcomes lists) ys) to
        (subst (λ ys. Leads ys ((before ++ logged_outcomes (change xs) ∷ []) ++ map logged_outcomes (map change lists))) from rest))

    -- all lists are changed
    pub leads_to_all : (lists : List (List LoggedOperation)) → Leads (map logged_outcomes lists) (map logged_outcomes (map change lists))
    leads_to_all lists = leads_from [] lists
