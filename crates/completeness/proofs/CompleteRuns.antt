-- A run that takes the events of memory in a given order, by one next step after the other, and its trace.
use Rattle.std.proofs.Common.{◌≡◌, ◌∙◌, inl, inr, sym, ap, refl, subst, ℕ, zero, suc, ◌+◌, ◌<◌, ◌≤◌, Option, None, Some, List, [], ◌∷◌, ◌++◌, append_assoc, length, map, slice_index, arith}
use Rattle.std.specs.List.{cons_option}
use Rattle.std.proofs.lemmas.Bool.{cases_lt}
use Rattle.std.proofs.lemmas.List.{length-map}
use Rattle.tso_ops.specs.declared.settings.Order.{Order}
use Rattle.tso_ops.specs.declared.settings.Order.TheVariants.{Tso}
use Rattle.tso_ops.specs.declared.ops.Outcome.{Outcome}
use Rattle.tso_ops.specs.Settings.{first_value}
use Rattle.tso_ops.specs.Values.{TraceValue, op_of, trace_of_lists}
use Rattle.tso_ops.specs.Limits.{IsTrace}
use Rattle.tso_ops.specs.Events.{processor_count, IsEvent}
use Rattle.tso_model.specs.Axioms.{occurrences, IsConsistent, IsModelOrder}
use Rattle.tso_model.proofs.Decided.{IsEvent-decided}
use Rattle.unit_core.specs.declared.steps.Step.{Step}
use Rattle.unit_core.specs.Machine.{HasProcessors, IsCompleteRun, IsFirstMemory, IsRunFrom, State, after, buffer_of, first_state, next, outcome_for, outcome_of, outcomes_of, proc_of, trace_of}
use Rattle.unit_core.proofs.RunFacts.{first-empty, runs_below}
use Rattle.embedding.specs.RunOrder.{Numbering, first_numberings, memory_order_of, numberings_after, ordered_by}
use Rattle.embedding.proofs.Moments.{IsMoment, outcomes-other}
use Rattle.embedding.proofs.Numbers.{event_located, past_of}
use Rattle.embedding.proofs.Places.{occurrences-append, occurrences-cons, occurrences-one}
use Rattle.embedding.proofs.RunOrderFacts.{first_moment, run_order}
use Rattle.embedding.proofs.Steps.{next_moment}
use Rattle.completeness.specs.RecordedTraces.{IsTraceOfRun}
use Rattle.completeness.specs.SwapsTogether.{HasSwapsTogether}
use Rattle.completeness.proofs.Choices.{Choice, moment-alike, own_first, unanswered}
use Rattle.completeness.proofs.NextSteps.{AreProcessors, IsFollowed, all_drained, last_step, next_step}
use Rattle.completeness.proofs.OperationSteps.{lists-of_steps, outcomes-past, steps_of_lists}
use Rattle.completeness.proofs.OrdersTogether.{order_together}

-- steps that may be taken from a state on, with the outcomes of those that are left, after which the buffers of so many processors are empty
record Completion (order : Order) (count : ℕ) (s : State) (left : List Step) : Type 0 where
  steps : List Step
  run : IsRunFrom order s steps
  alike : (q : ℕ) → outcomes_of q steps ≡ outcomes_of q left
  drained : (p : ℕ) → p < count → buffer_of (after s steps) p ≡ []

-- the processors from `count` on have no operations left
abbrev NonePast : ℕ → List Step → Type 0
NonePast count left = (p : ℕ) → count ≤ p → outcomes_of p left ≡ []

complete_alike : (order : Order) (count : ℕ) (s : State) (left other : List Step) → ((q : ℕ) → outcomes_of q other ≡ outcomes_of q left) →
    Completion order count s other → Completion order count s left
complete_alike order count s left other same completion = record {
  steps = completion.steps;
  run = completion.run;
  alike = λ q. completion.alike q ∙ same q;
  drained = completion.drained;
}

take_step : (order : Order) (count : ℕ) (numberings : ℕ → Numbering) (s : State) (left : List Step) (later : List ℕ) (c : Choice order count numberings s left later) →
    Completion order count (next s c.step) c.fewer → Completion order count s left
take_step order count numberings s left later c completion = record {
  steps = c.step ∷ completion.steps;
  run = (c.allowed, completion.run);
  alike = λ q. ap (cons_option (outcome_for q c.step)) (completion.alike q) ∙ sym (c.alike q);
  drained = completion.drained;
}

none_past_after : (order : Order) (count : ℕ) (numberings : ℕ → Numbering) (s : State) (left : List Step) (later : List ℕ) (c : Choice order count numberings s left later) →
    NonePast count left → NonePast count c.fewer
none_past_after order count numberings s left later c none p past =
    let below : proc_of c.step < count = c.below in
    sym (outcomes-other c.step c.fewer p (λ same. omega (arith, same, below, past))) ∙ sym (c.alike p) ∙ none p past

module _ (t : TraceValue) (whole : List ℕ) (followed : IsFollowed t whole) (count : ℕ) (past : ℕ → ℕ) (processors : AreProcessors t count past) where
  -- the next number of the order is an event's, and stands there once
  next_event : (n : ℕ) (done rest : List ℕ) → whole ≡ done ++ (n ∷ rest) → IsEvent t n × (occurrences n done ≡ 0)
  next_event n done rest is =
      let sum : occurrences n whole ≡ occurrences n done + occurrences n (n ∷ rest) = ap (occurrences n) is ∙ occurrences-append n done (n ∷ rest) in
      elim (IsEvent-decided t n) [
        | inl event ↦ (event, omega (arith, sum, occurrences-cons n n rest, occurrences-one n, followed.axioms.memory_order.once n event))
        | inr none ↦ absurd (omega (arith, sum, occurrences-cons n n rest, occurrences-one n, followed.axioms.memory_order.events n none))
      ]

  -- from each moment with so many steps and events left a run leads on
  abbrev LeadsOn : ℕ → Type 0
  LeadsOn k = (numberings : ℕ → Numbering) (s : State) (done : List ℕ) (left : List Step) (later : List ℕ) → length left + length later ≤ k →
      whole ≡ done ++ later → NonePast count left → IsMoment t count past numberings s done left → Completion t.setting.order count s left

  by_choice : (k : ℕ) → LeadsOn k → (numberings : ℕ → Numbering) (s : State) (done : List ℕ) (left : List Step) (later : List ℕ) →
      length left + length later ≤ suc k → whole ≡ done ++ later → NonePast count left → IsMoment t count past numberings s done left →
      Choice t.setting.order count numberings s left later → Completion t.setting.order count s left
  by_choice k leads numberings s done left later most is none moment c =
      let taken = ordered_by (numberings (proc_of c.step)) s c.step in
      let fewer : length c.fewer + length c.rest < length left + length later = c.less in
      take_step t.setting.order count numberings s left later c
      (leads (numberings_after numberings s c.step) (next s c.step) (done ++ taken) c.fewer c.rest (omega (arith, fewer, most))
      (is ∙ ap (λ list. done ++ list) c.parts ∙ sym (append_assoc done taken c.rest)) (none_past_after t.setting.order count numberings s left later c none)
      (next_moment t count past t.setting.order numberings s done c.step c.fewer c.allowed c.below
      (moment-alike t count past numberings s done left (c.step ∷ c.fewer) c.alike moment)))

  -- after the last event
  by_first : (k : ℕ) → LeadsOn k → (numberings : ℕ → Numbering) (s : State) (done : List ℕ) (x : Step) (left : List Step) →
      length left ≤ k → whole ≡ done ++ [] → NonePast count (x ∷ left) → IsMoment t count past numberings s done (x ∷ left) →
      (o : Option Outcome) → outcome_of x ≡ o → Completion t.setting.order count s (x ∷ left)
  by_first k leads numberings s done x left most is none moment None out =
      complete_alike t.setting.order count s (x ∷ left) left (λ q. sym (unanswered x left out q))
      (leads numberings s done left [] (omega (arith, most)) is (λ p high. sym (unanswered x left out p) ∙ none p high)
      (moment-alike t count past numberings s done (x ∷ left) left (unanswered x left out) moment))
  by_first k leads numberings s done x left most is none moment (Some o) out =
      let p = proc_of x in
      let ops = outcomes_of p left in
      let first : outcomes_of p (x ∷ left) ≡ o ∷ ops = own_first p x left refl ∙ ap (λ h. cons_option h ops) out in
      elim (cases_lt p count) [
        | inl below ↦
            by_choice k leads numberings s done (x ∷ left) [] (omega (arith, most)) is none moment
            (last_step t whole followed count past processors numberings s done (x ∷ left) moment is p below o ops first)
        | inr high ↦ (let both : o ∷ ops ≡ [] = sym first ∙ none p high in absurd cc)
      ]

  -- where no steps and no events are left
  ended : (numberings : ℕ → Numbering) (s : State) (done : List ℕ) → whole ≡ done ++ [] → IsMoment t count past numberings s done [] →
      Completion t.setting.order count s []
  ended numberings s done is moment = record {
    steps = [];
    run = tt;
    alike = λ q. refl;
    drained = λ p below. all_drained t whole followed count past processors numberings s done [] moment is p below;
  }

  complete : (k : ℕ) → LeadsOn k
  complete zero numberings s done [] [] most is none moment = ended numberings s done is moment
  complete zero numberings s done (x ∷ left) later most is none moment = absurd (omega (arith, most))
  complete zero numberings s done [] (n ∷ rest) most is none moment = absurd (omega (arith, most))
  complete (suc k) numberings s done [] [] most is none moment = ended numberings s done is moment
  complete (suc k) numberings s done (x ∷ left) [] most is none moment =
      by_first k (complete k) numberings s done x left (omega (arith, most)) is none moment (outcome_of x) refl
  complete (suc k) numberings s done left (n ∷ rest) most is none moment =
      let event = next_event n done rest is in
      by_choice k (complete k) numberings s done left (n ∷ rest) most is none moment
      (next_step t whole followed count past processors numberings s done left moment n rest is event.0 event.1)

-- ---- a memory of first values

-- the first values of so many addresses from a on
abbrev first_words : List (ℕ × ℕ) → ℕ → ℕ → List ℕ
first_words first a zero = []
first_words first a (suc k) = first_value first a ∷ first_words first (suc a) k

words-length : (first : List (ℕ × ℕ)) (a k : ℕ) → length (first_words first a k) ≡ k
words-length first a zero = refl
words-length first a (suc k) = ap suc (words-length first (suc a) k)

words-at : (first : List (ℕ × ℕ)) (a k i : ℕ) → i < k → slice_index (first_words first a k) i ≡ first_value first (a + i)
words-at first a zero i within = absurd (omega (arith, within))
words-at first a (suc k) zero within = let same : a ≡ a + 0 = omega arith in ap (first_value first) same
words-at first a (suc k) (suc i) within =
    let same : suc a + i ≡ a + suc i = omega arith in words-at first (suc a) k i (omega (arith, within)) ∙ ap (first_value first) same

first_memory : (first : List (ℕ × ℕ)) → IsFirstMemory first (first_words first 0 256)
first_memory first = record { words = words-length first 0 256; values = λ a within. (let same : 0 + a ≡ a = omega arith in words-at first 0 256 a within ∙ ap (first_value first) same) }

-- ---- the run of a trace

module _ (t : TraceValue) (trace : IsTrace t) (tso : t.setting.order ≡ Tso) (whole : List ℕ) (axioms : IsModelOrder t whole) (together : HasSwapsTogether t whole) where
  abbrev count : ℕ
  count = processor_count t

  -- the steps of its operations, one processor after the other
  abbrev operations : List Step
  operations = steps_of_lists 0 t.lists

  abbrev listed : TraceValue
  listed = trace_of t.setting count operations

  same_trace : (steps : List Step) → ((q : ℕ) → outcomes_of q steps ≡ outcomes_of q operations) → trace_of t.setting count steps ≡ t
  same_trace steps alike = ap (trace_of_lists t.setting) (lists-of_steps t.lists steps alike)

  abbrev memory : List ℕ
  memory = first_words t.setting.first 0 256

  followed : IsFollowed listed whole
  followed = subst (λ u. IsFollowed u whole) (sym (same_trace operations (λ q. refl))) (record { trace = trace; tso = tso; axioms = axioms; together = together })

  processors : AreProcessors listed count (past_of count operations)
  processors = record {
    few = few;
    located = λ n e is. (let at = event_located t.setting count operations n e is in (at.0, at.2));
  }
    where
      few : count ≤ 16
      few = omega (arith, trace.program.processors, length-map t.lists (map op_of))

  none_past : NonePast count operations
  none_past p high = outcomes-past 0 t.lists p (omega (arith, high))

  completion : Completion t.setting.order count (first_state memory) operations
  completion =
      complete listed whole followed count (past_of count operations) processors (length operations + length whole) (first_numberings count operations) (first_state memory) [] operations
      whole (omega arith) refl none_past (first_moment t.setting count operations memory (first_memory t.setting.first))

  run_of : IsTraceOfRun t
  run_of = (completion.steps, complete_run, same_trace completion.steps completion.alike)
    where
      below : HasProcessors count completion.steps × ((p : ℕ) → count ≤ p → buffer_of (after (first_state memory) completion.steps) p ≡ [])
      below =
          runs_below t.setting.order count (first_state memory) completion.steps completion.run (λ p high. completion.alike p ∙ none_past p high) (λ p high. first-empty memory p)

      complete_run : IsCompleteRun t.setting count completion.steps
      complete_run = record {
        memory = memory;
        first = first_memory t.setting.first;
        run = completion.run;
        empty = λ p. elim (cases_lt p count) [ inl low ↦ completion.drained p low | inr high ↦ below.1 p high ];
        processors = below.0;
      }

-- a consistent trace under TSO is the trace of a complete run
pub run_of_consistent : (t : TraceValue) → t.setting.order ≡ Tso → IsTrace t → IsConsistent t → IsTraceOfRun t
run_of_consistent t tso trace consistent =
    let found = order_together t consistent.0 consistent.1 in run_of t trace tso found.0 found.1 found.2

-- the trace of a complete run is consistent
pub consistent_of_run : (t : TraceValue) → IsTraceOfRun t → IsConsistent t
consistent_of_run t some =
    let count = processor_count t in
    let run = some.1 in
    subst (λ u. IsConsistent u) some.2 (memory_order_of count run.memory some.0, run_order t.setting count some.0 run)
