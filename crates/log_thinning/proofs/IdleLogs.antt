-- A log is read one idle swap after another.
use Rattle.std.proofs.Common.{◌≡◌, ℕ, true, false, eqb, List, [], ◌∷◌, ◌++◌, map, inl, inr, refl, sym, subst}
use Rattle.std.specs.List.{flat_map}
use Rattle.std.proofs.lemmas.Bool.{cases_eq, eq-eqb, ne_eqb}
use Rattle.tso_ops.specs.declared.ops.Outcome.{Outcome}
use Rattle.tso_ops.specs.declared.ops.Outcome.TheVariants as outcomes
use Rattle.tso_ops.specs.declared.settings.Order.{Order}
use Rattle.tso_ops.specs.declared.settings.Order.TheVariants.{Tso, Pso}
use Rattle.tso_ops.specs.Settings.{setting_of_first}
use Rattle.tso_ops.specs.Values.{trace_of_lists}
use Rattle.tso_model.specs.Axioms.{IsConsistent}
use Rattle.log_text.specs.declared.logs.LogOperation.{LogOperation}
use Rattle.log_text.specs.declared.logs.LogOperation.TheVariants.{Ld, St, Sw, Mb, Sb}
use Rattle.log_text.specs.declared.logs.LoggedOperation.{LoggedOperation}
use Rattle.log_text.specs.LogValues.{NumberedLog, log_operations, logged_outcomes}
use Rattle.log_thinning.specs.IdleSwaps.{at_line, read_of, lists_read, with_idle_swaps_read}
use Rattle.log_thinning.proofs.EventLists.{lists_around}
use Rattle.log_thinning.proofs.IdleBack.{idle_read_back}
use Rattle.log_thinning.proofs.IdleEvents.{idle_read_at, number}
use Rattle.log_thinning.proofs.IdleForward.{idle_read_order}
use Rattle.log_thinning.proofs.ListSteps.{IsChain, leads_after, leads_to_all}
use Rattle.log_thinning.proofs.RankModels.{ranks_of_order, order_of_ranks}

-- a relation of lists that leads from an idle swap to what is read of it
LeadsOnRead : (List (List Outcome) → List (List Outcome) → Type 0) → Type 0
LeadsOnRead Leads = (before : List (List Outcome)) (done : List Outcome) (a v : ℕ) (rest : List Outcome) (after : List (List Outcome)) →
    Leads (lists_around before done (outcomes.Sw a v v ∷ rest) after) (lists_around before done (outcomes.Mb ∷ outcomes.Ld a v ∷ rest) after)

module _ (Leads : List (List Outcome) → List (List Outcome) → Type 0) (steps : IsChain Leads) (read : LeadsOnRead Leads) where
  -- it leads from the operations of a processor that are left to what is read of them
  abbrev LeadsFrom : List LoggedOperation → Type 0
  LeadsFrom xs = (before : List (List Outcome)) (done : List Outcome) (after : List (List Outcome)) →
      Leads (lists_around before done (logged_outcomes xs) after) (lists_around before done (logged_outcomes (flat_map read_of xs)) after)

  -- with one operation more
  leads_one : (line : ℕ) (x : LogOperation) (xs : List LoggedOperation) → LeadsFrom xs → LeadsFrom (at_line line x ∷ xs)
  unfolding LeadsOnRead
  leads_one line (Ld a r) xs rest before done after = leads_after Leads steps before done (outcomes.Ld a r ∷ []) _ _ after (rest before (done ++ outcomes.Ld a r ∷ []) after)
  leads_one line (St a v) xs rest before done after = leads_after Leads steps before done (outcomes.St a v ∷ []) _ _ after (rest before (done ++ outcomes.St a v ∷ []) after)
  leads_one line (Sw a r v) xs rest before done after = elim (cases_eq r v) [
    | inl same ↦ (
        let test : eqb r v ≡ true = eq-eqb r v same in
        let is : flat_map read_of (at_line line (Sw a r v) ∷ xs) ≡ at_line line Mb ∷ at_line line (Ld a v) ∷ flat_map read_of xs = rw test refl in
        subst (λ ys. Leads (lists_around before done (logged_outcomes (at_line line (Sw a r v) ∷ xs)) after) (lists_around before done (logged_outcomes ys) after)) (sym is)
        (subst (λ q. Leads (lists_around before done (outcomes.Sw a q v ∷ logged_outcomes xs) after)
        (lists_around before done (outcomes.Mb ∷ outcomes.Ld a v ∷ logged_outcomes (flat_map read_of xs)) after)) (sym same)
        (steps.chain _ _ _ (read before done a v (logged_outcomes xs) after)
        (leads_after Leads steps before done (outcomes.Mb ∷ outcomes.Ld a v ∷ []) _ _ after (rest before (done ++ outcomes.Mb ∷ outcomes.Ld a v ∷ []) after))))
        )
    | inr other ↦ (
        let test : eqb r v ≡ false = ne_eqb r v other in
        let is : flat_map read_of (at_line line (Sw a r v) ∷ xs) ≡ at_line line (Sw a r v) ∷ flat_map read_of xs = rw test refl in
        subst (λ ys. Leads (lists_around before done (logged_outcomes (at_line line (Sw a r v) ∷ xs)) after) (lists_around before done (logged_outcomes ys) after)) (sym is)
        (leads_after Leads steps before done (outcomes.Sw a r v ∷ []) _ _ after (rest before (done ++ outcomes.Sw a r v ∷ []) after))
        )
  ]
  leads_one line Mb xs rest before done after = leads_after Leads steps before done (outcomes.Mb ∷ []) _ _ after (rest before (done ++ outcomes.Mb ∷ []) after)
  leads_one line Sb xs rest before done after = leads_after Leads steps before done (outcomes.Sb ∷ []) _ _ after (rest before (done ++ outcomes.Sb ∷ []) after)

  -- from each list
  leads_list : (xs : List LoggedOperation) → LeadsFrom xs
  leads_list [] = λ before done after. steps.same (lists_around before done [] after)
  leads_list (x ∷ xs) = leads_one x.line x.operation xs (leads_list xs)

  -- it leads from a log to what is read of it
  leads_read : (lists : List (List LoggedOperation)) → Leads (map logged_outcomes lists) (map logged_outcomes (map (flat_map read_of) lists))
  leads_read = leads_to_all Leads steps (flat_map read_of) (λ before xs after. leads_list xs before [] after)

-- orders are kept
forward : (first : List (ℕ × ℕ)) (lists : List (List LoggedOperation)) →
    IsConsistent (trace_of_lists (setting_of_first Tso first) (map logged_outcomes lists)) →
    IsConsistent (trace_of_lists (setting_of_first Tso first) (map logged_outcomes (map (flat_map read_of) lists)))
unfolding LeadsOnRead
forward first lists =
    let setting = setting_of_first Tso first in
    leads_read (λ xs ys. IsConsistent (trace_of_lists setting xs) → IsConsistent (trace_of_lists setting ys))
    (record { same = λ xs right. right; chain = λ xs ys zs one next right. next (one right) })
    (λ before done a v rest after (order, right).
    let idle = idle_read_at setting before done a v rest after refl in
    order_of_ranks _ _ (idle_read_order _ _ (number setting before done a v rest after) idle _ (ranks_of_order _ order right)))
    lists

-- the same of any memory model
forward_under : (order : Order) (first : List (ℕ × ℕ)) (lists : List (List LoggedOperation)) →
    IsConsistent (trace_of_lists (setting_of_first order first) (map logged_outcomes lists)) →
    IsConsistent (trace_of_lists (setting_of_first order first) (map logged_outcomes (lists_read order lists)))
forward_under Tso first lists right = forward first lists right
forward_under Pso first lists right = right

-- where a log has an order, what is read of it has one
pub idle_swaps_forward : (log : NumberedLog) → IsConsistent (log_operations log) → IsConsistent (log_operations (with_idle_swaps_read log))
idle_swaps_forward log = forward_under log.order log.first log.lists

-- none are added
back : (first : List (ℕ × ℕ)) (lists : List (List LoggedOperation)) →
    IsConsistent (trace_of_lists (setting_of_first Tso first) (map logged_outcomes (map (flat_map read_of) lists))) →
    IsConsistent (trace_of_lists (setting_of_first Tso first) (map logged_outcomes lists))
unfolding LeadsOnRead
back first lists =
    let setting = setting_of_first Tso first in
    leads_read (λ xs ys. IsConsistent (trace_of_lists setting ys) → IsConsistent (trace_of_lists setting xs))
    (record { same = λ xs right. right; chain = λ xs ys zs one next right. one (next right) })
    (λ before done a v rest after right. idle_read_back _ _ (number setting before done a v rest after) (idle_read_at setting before done a v rest after refl) right)
    lists

-- the same of any memory model
back_under : (order : Order) (first : List (ℕ × ℕ)) (lists : List (List LoggedOperation)) →
    IsConsistent (trace_of_lists (setting_of_first order first) (map logged_outcomes (lists_read order lists))) →
    IsConsistent (trace_of_lists (setting_of_first order first) (map logged_outcomes lists))
back_under Tso first lists right = back first lists right
back_under Pso first lists right = right

-- where what is read of a log has an order, the log has one
pub idle_swaps_back : (log : NumberedLog) → IsConsistent (log_operations (with_idle_swaps_read log)) → IsConsistent (log_operations log)
idle_swaps_back log = back_under log.order log.first log.lists
