-- A log is thinned one load after another.
use Rattle.std.proofs.Common.{◌≡◌, ◌≢◌, ◌∙◌, ℕ, Bool, true, false, eqb, ◌&&◌, cond, List, [], ◌∷◌, ◌++◌, map, Option, None, Some, inl, inr, refl, sym, ap, subst, append_assoc}
use Rattle.std.specs.List.{AllByRecursion}
use Rattle.std.proofs.lemmas.Bool.{cases_eq, eq-eqb, ne_eqb, false≢true}
use Rattle.std.proofs.lemmas.Option.{none-some, same_Some}
use Rattle.tso_ops.specs.declared.ops.Outcome.{Outcome}
use Rattle.tso_ops.specs.declared.ops.Outcome.TheVariants as outcomes
use Rattle.tso_ops.specs.Settings.{setting_of_first}
use Rattle.tso_ops.specs.Values.{trace_of_lists}
use Rattle.tso_model.specs.Axioms.{IsConsistent}
use Rattle.log_text.specs.declared.logs.LogOperation.{LogOperation}
use Rattle.log_text.specs.declared.logs.LogOperation.TheVariants.{Ld, St, Sw, Mb, Sb}
use Rattle.log_text.specs.declared.logs.LoggedOperation.{LoggedOperation}
use Rattle.log_text.specs.LogValues.{NumberedLog, log_operations, logged_outcome, logged_outcomes}
use Rattle.log_thinning.specs.Thinned.{is_load_of, last_load_after, next_load, next_load_before, thinned, thinned_before, thinned_behind, thinned_list, unless_at}
use Rattle.log_thinning.proofs.EventLists.{lists_around}
use Rattle.log_thinning.proofs.NextEvents.{NextIs, repeated_of_lists}
use Rattle.log_thinning.proofs.ListSteps.{IsChain, leads_after, leads_to_all}
use Rattle.log_thinning.proofs.RepeatEvents.{StoresElsewhere, repeat_of_lists}
use Rattle.log_thinning.proofs.RepeatFits.{dropped_keeps, repeat_back, repeated_back}

-- a relation of lists that leads from a load that repeats the last one to the lists without it
LeadsOnDrop : (List (List Outcome) → List (List Outcome) → Type 0) → Type 0
LeadsOnDrop Leads = (before : List (List Outcome)) (done : List Outcome) (a r : ℕ) (stores : List Outcome) → AllByRecursion (StoresElsewhere a) stores → (rest : List Outcome) (after : List (List Outcome)) →
    Leads (lists_around before (done ++ outcomes.Ld a r ∷ stores) (outcomes.Ld a r ∷ rest) after) (lists_around before (done ++ outcomes.Ld a r ∷ stores) rest after)

-- and from a load that the next one repeats
LeadsOnNext : (List (List Outcome) → List (List Outcome) → Type 0) → Type 0
LeadsOnNext Leads = (before : List (List Outcome)) (done : List Outcome) (a r : ℕ) (rest : List Outcome) (after : List (List Outcome)) → NextIs a r rest →
    Leads (lists_around before done (outcomes.Ld a r ∷ rest) after) (lists_around before done rest after)

-- what was read last is what the last load of these operations read, and only stores to other addresses stand behind it
IsLast : List Outcome → Option (ℕ × ℕ) → Type 0
IsLast done None = Unit {0}
IsLast done (Some last) =
    (earlier : List Outcome) × (stores : List Outcome) × (done ≡ earlier ++ outcomes.Ld last.0 last.1 ∷ stores) × AllByRecursion (StoresElsewhere last.0) stores

-- one store more
all-more : (a b v : ℕ) (stores : List Outcome) → b ≢ a → AllByRecursion (StoresElsewhere a) stores → AllByRecursion (StoresElsewhere a) (stores ++ outcomes.St b v ∷ [])
all-more a b v [] other all = (other, tt)
all-more a b v (x ∷ stores) other all = (all.0, all-more a b v stores other all.1)

-- after one more store
last-store : (done : List Outcome) (b v : ℕ) (last : Option (ℕ × ℕ)) → IsLast done last → IsLast (done ++ outcomes.St b v ∷ []) (unless_at b last)
unfolding IsLast
last-store done b v None is = tt
last-store done b v (Some last) is = elim (cases_eq last.0 b) [
  | inl same ↦ (let test : eqb last.0 b ≡ true = eq-eqb last.0 b same in rw test tt)
  | inr other ↦ (
      let test : eqb last.0 b ≡ false = ne_eqb last.0 b other in
      let kept : IsLast (done ++ outcomes.St b v ∷ []) (Some last) = (
        is.0,
        is.1 ++ outcomes.St b v ∷ [],
        ap (λ ops. ops ++ outcomes.St b v ∷ []) is.2 ∙ append_assoc is.0 (outcomes.Ld last.0 last.1 ∷ is.1) (outcomes.St b v ∷ []),
        all-more last.0 b v is.1 (λ same. other (sym same)) is.3,
      ) in
      rw test kept
      )
]

-- after one more operation that is kept
last-more : (done : List Outcome) (x : LogOperation) (last : Option (ℕ × ℕ)) → IsLast done last → IsLast (done ++ logged_outcome x ∷ []) (last_load_after x last)
unfolding IsLast
last-more done (Ld a r) last is = (done, [], refl, tt)
last-more done (St a v) last is = last-store done a v last is
last-more done (Sw a r v) last is = tt
last-more done Mb last is = tt
last-more done Sb last is = tt

-- both of two tests hold
both : (a b : Bool) → (a && b) ≡ true → (a ≡ true) × (b ≡ true)
both true b is = (refl, is)
both false b is = absurd (false≢true is)

-- equal by the test
same_number : (m n : ℕ) → eqb m n ≡ true → m ≡ n
same_number m n test = elim (cases_eq m n) [ inl same ↦ same | inr other ↦ absurd (false≢true (sym (ne_eqb m n other) ∙ test)) ]

-- a load of an address and a value
abbrev IsRepeated : LogOperation → Option (ℕ × ℕ) → Type 0
IsRepeated x last = (a : ℕ) × (r : ℕ) × (x ≡ Ld a r) × (last ≡ Some (a, r))

-- the test finds such loads
is_load-same : (x : LogOperation) (last : Option (ℕ × ℕ)) → is_load_of x last ≡ true → IsRepeated x last
is_load-same (Ld a r) None is = absurd (false≢true is)
is_load-same (Ld a r) (Some last) is =
    let tests = both (eqb last.0 a) (eqb last.1 r) is in
    (a, r, refl, ap (λ b. Some (b, last.1)) (same_number last.0 a tests.0) ∙ ap (λ s. Some (a, s)) (same_number last.1 r tests.1))
is_load-same (St a v) last is = absurd (false≢true is)
is_load-same (Sw a r v) last is = absurd (false≢true is)
is_load-same Mb last is = absurd (false≢true is)
is_load-same Sb last is = absurd (false≢true is)

module _ (Leads : List (List Outcome) → List (List Outcome) → Type 0) (steps : IsChain Leads) (drop : LeadsOnDrop Leads) where
  -- it leads from the operations of a processor that are left to what is left of them
  abbrev LeadsFrom : List LoggedOperation → Type 0
  LeadsFrom xs = (before : List (List Outcome)) (done : List Outcome) (last : Option (ℕ × ℕ)) → IsLast done last → (after : List (List Outcome)) →
      Leads (lists_around before done (logged_outcomes xs) after) (lists_around before done (logged_outcomes (thinned_behind last xs)) after)

  -- a load that repeats the last one is dropped
  leads_dropped : (before : List (List Outcome)) (done : List Outcome) (a r : ℕ) → IsLast done (Some (a, r)) → (rest : List Outcome) (after : List (List Outcome)) →
      Leads (lists_around before done (outcomes.Ld a r ∷ rest) after) (lists_around before done rest after)
  unfolding IsLast LeadsOnDrop
  leads_dropped before done a r is rest after =
      subst (λ ops. Leads (lists_around before ops (outcomes.Ld a r ∷ rest) after) (lists_around before ops rest after)) (sym is.2) (drop before is.0 a r is.1 is.3 rest after)

  -- one operation more, which is dropped or kept as the test says
  leads_one : (x : LoggedOperation) (xs : List LoggedOperation) → LeadsFrom xs → (before : List (List Outcome)) (done : List Outcome) (last : Option (ℕ × ℕ)) → IsLast done last →
      (after : List (List Outcome)) (test : Bool) → is_load_of x.operation last ≡ test → Leads (lists_around before done (logged_outcome x.operation ∷ logged_outcomes xs) after)
      (lists_around before done (logged_outcomes (cond test [] (x ∷ []) ++ thinned_behind (last_load_after x.operation last) xs)) after)
  leads_one x xs rest before done last is after false unlike =
      leads_after Leads steps before done (logged_outcome x.operation ∷ []) _ _ after
      (rest before (done ++ logged_outcome x.operation ∷ []) (last_load_after x.operation last) (last-more done x.operation last is) after)
  leads_one x xs rest before done last is after true alike =
      let same = is_load-same x.operation last alike in
      leads_repeated before done last is after same.0 same.1 same.2 same.3
    where
      leads_repeated : (before : List (List Outcome)) (done : List Outcome) (last : Option (ℕ × ℕ)) → IsLast done last →
          (after : List (List Outcome)) (a r : ℕ) → x.operation ≡ Ld a r → last ≡ Some (a, r) →
          Leads (lists_around before done (logged_outcome x.operation ∷ logged_outcomes xs) after) (lists_around before done (logged_outcomes (thinned_behind (last_load_after x.operation last) xs)) after)
      leads_repeated before done last is after a r load repeated =
          let stays : last_load_after x.operation last ≡ last = ap (λ y. last_load_after y last) load ∙ sym repeated in
          subst (λ q. Leads (lists_around before done (logged_outcome x.operation ∷ logged_outcomes xs) after) (lists_around before done (logged_outcomes (thinned_behind q xs)) after)) (sym stays)
          (subst (λ y. Leads (lists_around before done (logged_outcome y ∷ logged_outcomes xs) after) (lists_around before done (logged_outcomes (thinned_behind last xs)) after)) (sym load)
          (steps.chain _ _ _ (leads_dropped before done a r (subst (IsLast done) repeated is) (logged_outcomes xs) after) (rest before done last is after)))

  -- from each list
  leads_list : (xs : List LoggedOperation) → LeadsFrom xs
  leads_list [] = λ before done last is after. steps.same (lists_around before done [] after)
  leads_list (x ∷ xs) = λ before done last is after. leads_one x xs (leads_list xs) before done last is after (is_load_of x.operation last) refl

-- ---- loads that the next one repeats

-- the next load is that of the operations
next-one : (a r : ℕ) (x : LogOperation) (xs : List LoggedOperation) → (next_load xs ≡ Some (a, r) → NextIs a r (logged_outcomes xs)) →
    next_load_before x (next_load xs) ≡ Some (a, r) → NextIs a r (logged_outcome x ∷ logged_outcomes xs)
next-one a r (Ld b q) xs rest is = let same = same_Some (b, q) (a, r) is in (ap (λ (y : ℕ × ℕ). y.0) same, ap (λ (y : ℕ × ℕ). y.1) same)
next-one a r (St b v) xs rest is = absurd (none-some (a, r) is)
next-one a r (Sw b q v) xs rest is = absurd (none-some (a, r) is)
next-one a r Mb xs rest is = rest is
next-one a r Sb xs rest is = rest is

-- of a whole list
next-is : (a r : ℕ) (xs : List LoggedOperation) → next_load xs ≡ Some (a, r) → NextIs a r (logged_outcomes xs)
next-is a r [] is = none-some (a, r) is
next-is a r (x ∷ xs) is = next-one a r x.operation xs (next-is a r xs) is

module _ (Leads : List (List Outcome) → List (List Outcome) → Type 0) (steps : IsChain Leads) (drop : LeadsOnNext Leads) where
  -- it leads from the operations that are left to what is left of them
  abbrev LeadsBefore : List LoggedOperation → Type 0
  LeadsBefore xs = (before : List (List Outcome)) (done : List Outcome) (after : List (List Outcome)) →
      Leads (lists_around before done (logged_outcomes xs) after) (lists_around before done (logged_outcomes (thinned_before xs)) after)

  -- one operation more, which is dropped or kept as the test says
  before_one : (x : LoggedOperation) (xs : List LoggedOperation) → LeadsBefore xs → (before : List (List Outcome)) (done : List Outcome) (after : List (List Outcome)) (test : Bool) →
      is_load_of x.operation (next_load xs) ≡ test → Leads (lists_around before done (logged_outcome x.operation ∷ logged_outcomes xs) after)
      (lists_around before done (logged_outcomes (cond test [] (x ∷ []) ++ thinned_before xs)) after)
  unfolding LeadsOnNext
  before_one x xs rest before done after false unlike =
      leads_after Leads steps before done (logged_outcome x.operation ∷ []) _ _ after (rest before (done ++ logged_outcome x.operation ∷ []) after)
  before_one x xs rest before done after true alike =
      let same = is_load-same x.operation (next_load xs) alike in
      subst (λ y. Leads (lists_around before done (logged_outcome y ∷ logged_outcomes xs) after) (lists_around before done (logged_outcomes (thinned_before xs)) after)) (sym same.2)
      (steps.chain _ _ _ (drop before done same.0 same.1 (logged_outcomes xs) after (next-is same.0 same.1 xs same.3)) (rest before done after))

  -- from each list
  before_list : (xs : List LoggedOperation) → LeadsBefore xs
  before_list [] = λ before done after. steps.same (lists_around before done [] after)
  before_list (x ∷ xs) = λ before done after. before_one x xs (before_list xs) before done after (is_load_of x.operation (next_load xs)) refl

-- ---- both

-- what leads to lists without such loads leads from a log to what is left of it
leads_thinned : (Leads : List (List Outcome) → List (List Outcome) → Type 0) → IsChain Leads → LeadsOnDrop Leads → LeadsOnNext Leads → (lists : List (List LoggedOperation)) →
    Leads (map logged_outcomes lists) (map logged_outcomes (map thinned_list lists))
unfolding IsLast
leads_thinned Leads steps drop next =
    leads_to_all Leads steps thinned_list
    (λ before xs after. steps.chain _ _ _ (leads_list Leads steps drop xs before [] None tt after) (before_list Leads steps next (thinned_behind None xs) before [] after))

-- orders are kept
pub thinned_forward : (log : NumberedLog) → IsConsistent (log_operations log) → IsConsistent (log_operations (thinned log))
unfolding LeadsOnDrop LeadsOnNext
thinned_forward log =
    let setting = setting_of_first log.order log.first in
    leads_thinned (λ xs ys. IsConsistent (trace_of_lists setting xs) → IsConsistent (trace_of_lists setting ys))
    (record { same = λ xs right. right; chain = λ xs ys zs one next right. next (one right) })
    (λ before done a r stores elsewhere rest after right.
    let repeat = repeat_of_lists setting before done a r stores elsewhere rest after in dropped_keeps _ _ _ repeat.dropped right)
    (λ before done a r rest after is right. let repeated = repeated_of_lists setting before done a r rest after is in dropped_keeps _ _ _ repeated.dropped right)
    log.lists

-- none are added
pub thinned_back : (log : NumberedLog) → IsConsistent (log_operations (thinned log)) → IsConsistent (log_operations log)
unfolding LeadsOnDrop LeadsOnNext
thinned_back log =
    let setting = setting_of_first log.order log.first in
    leads_thinned (λ xs ys. IsConsistent (trace_of_lists setting ys) → IsConsistent (trace_of_lists setting xs))
    (record { same = λ xs right. right; chain = λ xs ys zs one next right. one (next right) })
    (λ before done a r stores elsewhere rest after right. repeat_back _ _ _ _ (repeat_of_lists setting before done a r stores elsewhere rest after) right)
    (λ before done a r rest after is right. repeated_back _ _ _ (repeated_of_lists setting before done a r rest after is) right)
    log.lists
