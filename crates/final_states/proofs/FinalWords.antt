-- The words of final states stand for what complete runs leave.
use Rattle.std.proofs.Common.{◌≡◌, ◌∙◌, sym, ap, refl, inl, inr, ℕ, zero, suc, ◌+◌, ◌<◌, ◌≤◌, ◌==◌, ◌&&◌, Bool, true, List, [], ◌∷◌, length, get_or, take, drop, map, slice_index, add-one, eq-eqb, arith}
use Rattle.std.specs.List.{list_all, range_with_len, zip}
use Rattle.std.proofs.lemmas.Bool.{cases_lt, eqb-true}
use Rattle.std.proofs.lemmas.List.{append-nil, get_or-drop, length-drop, length-map, take_all}
use Rattle.std.proofs.lemmas.Slice.Zip.{length-zip}
use Rattle.tso_ops.specs.declared.ops.Outcome.{Outcome}
use Rattle.tso_ops.specs.Limits.{IsProgram}
use Rattle.tso_ops.specs.Values.{ProgramValue, TraceValue, list_count, op_of, ops_at, trace_of_lists}
use Rattle.unit_core.specs.declared.steps.Step.{Step}
use Rattle.unit_core.specs.Machine.{EndsEmpty, after, first_state, lists_from, outcomes_of, trace_of}
use Rattle.unit_core.specs.Records.{AreOpsOf}
use Rattle.unit_core.specs.Replays.{AreFirstOpsOf}
use Rattle.final_states.specs.FinalStates.{FinalStateValue, IsFinalState, last_values, stored_addresses}
use Rattle.final_states.specs.Internal.Search.{IsIn, IsSearched}
use Rattle.final_states.specs.Internal.Stands.{HasPlaces, Reaches, Represents}
use Rattle.final_states.specs.Internal.Words.{is_done, is_empty, is_final, issued_by, marked_ops, memory_start, outcomes_with, start_of, state_with, waiting, width_of}
use Rattle.final_states.proofs.Options.{both}
use Rattle.final_states.proofs.IssueSteps.{empty_when}
use Rattle.final_states.proofs.OneToOne.{value-at}
use Rattle.final_states.proofs.ReachedStates.{all-found, answered-count, ops-of, past_all}
use Rattle.final_states.proofs.WordPlaces.{memory_after}

-- ---- tests of numbers one after the other

pub all-tested : (test : ℕ → Bool) (least count k : ℕ) → list_all test (range_with_len least count) ≡ true → least ≤ k → k < least + count → test k ≡ true
all-tested test least zero k all low high = absurd (omega arith)
all-tested test least (suc count) k all low high =
    let parts = both (test least) (list_all test (range_with_len (least + 1) count)) all in
    elim (cases_lt least k) [
      | inl below ↦ all-tested test (least + 1) count k parts.1 (omega (arith, below)) (omega (arith, high))
      | inr not_below ↦ let same : least ≡ k = omega (arith, not_below, low) in ap test (sym same) ∙ parts.0
    ]

pub all-pass : (test : ℕ → Bool) (least count : ℕ) → ((k : ℕ) → least ≤ k → k < least + count → test k ≡ true) → list_all test (range_with_len least count) ≡ true
all-pass test least zero each = refl
all-pass test least (suc count) each =
    ap (λ b. b && list_all test (range_with_len (least + 1) count)) (each least (omega arith) (omega arith))
    ∙ all-pass test (least + 1) count (λ k low high. each k (omega (arith, low)) (omega (arith, high)))

-- ---- a processor that is done

-- all of its operations are issued, and none waits
pub record IsDone (program : ProgramValue) (words : List ℕ) (p : ℕ) : Type 0 where
  pub all : issued_by program words p ≡ length (ops_at program p)
  pub none : waiting 0 (marked_ops program words p) ≡ []

done-of : (program : ProgramValue) (words : List ℕ) (p : ℕ) → is_done program words p ≡ true → IsDone program words p
done-of program words p done =
    let parts = both (issued_by program words p == length (ops_at program p)) (is_empty (waiting 0 (marked_ops program words p))) done in
    record { all = eqb-true (issued_by program words p) (length (ops_at program p)) parts.0; none = empty_when (waiting 0 (marked_ops program words p)) parts.1 }

pub final-done : (program : ProgramValue) (words : List ℕ) → is_final program words ≡ true → (p : ℕ) → p < list_count program → IsDone program words p
final-done program words final p small = done-of program words p (all-tested (is_done program words) 0 (list_count program) p final (omega arith) (omega (arith, small)))

done-final : (program : ProgramValue) (words : List ℕ) → ((p : ℕ) → p < list_count program → IsDone program words p) → is_final program words ≡ true
done-final program words done =
    all-pass (is_done program words) 0 (list_count program) (λ p low high.
    let d = done p (omega (arith, high)) in
    ap (λ b. b && is_empty (waiting 0 (marked_ops program words p))) (eq-eqb (issued_by program words p) (length (ops_at program p)) d.all) ∙ ap is_empty d.none)

-- the rows of the processors are as long as their operations
pub row-length : (program : ProgramValue) (addresses words : List ℕ) → length words ≡ width_of program addresses → (p : ℕ) → p < list_count program →
    length (marked_ops program words p) ≡ length (ops_at program p)
row-length program addresses words width p small =
    let start = suc (start_of program.lists p) in
    omega (arith, length-zip (ops_at program p) (drop start words), length-drop start words, width, memory_after program p small)

pub all-taken : (program : ProgramValue) (addresses words : List ℕ) → length words ≡ width_of program addresses → (p : ℕ) → p < list_count program → issued_by program words p ≡ length (ops_at program p) →
    take (issued_by program words p) (marked_ops program words p) ≡ marked_ops program words p
all-taken program addresses words width p small all = take_all (issued_by program words p) (marked_ops program words p) (omega (arith, row-length program addresses words width p small, all))

-- ---- what the words tell

lists-same : (steps : List Step) (f : ℕ → List Outcome) (first count : ℕ) → ((p : ℕ) → first ≤ p → p < first + count → f p ≡ outcomes_of p steps) → map f (range_with_len first count) ≡ lists_from first count steps
lists-same steps f first zero same = refl
lists-same steps f first (suc count) same =
    ap (λ list. list ∷ map f (range_with_len (first + 1) count)) (same first (omega arith) (omega arith))
    ∙ ap (λ lists. outcomes_of first steps ∷ lists) (lists-same steps f (first + 1) count (λ p low high. same p (omega (arith, low)) (omega (arith, high))) ∙ ap (λ n. lists_from n count steps) (add-one first))

zip-values : (xs ys : List ℕ) (f : ℕ → ℕ) → length ys ≡ length xs → ((k : ℕ) → k < length xs → get_or ys k 0 ≡ f (get_or xs k 0)) → zip xs ys ≡ map (λ x. (x, f x)) xs
zip-values [] ys f same values = refl
zip-values (x ∷ xs) [] f same values = absurd (omega (arith, same))
zip-values (x ∷ xs) (y ∷ ys) f same values =
    let pair : ℕ → ℕ × ℕ = λ v. (x, v) in
    ap (λ v. pair v ∷ zip xs ys) (values 0 (omega arith)) ∙ ap (λ rest. pair (f x) ∷ rest) (zip-values xs ys f (omega (arith, same)) (λ k small. values (suc k) (omega (arith, small))))

module _ (program : ProgramValue) (addresses : List ℕ) (limits : IsProgram program) (places : HasPlaces program addresses) (words memory : List ℕ) (steps : List Step)
    (stands : Represents program addresses words (after (first_state memory) steps) (λ p. outcomes_of p steps)) (final : is_final program words ≡ true) where
  told-all : (p : ℕ) → p < list_count program → outcomes_of p steps ≡ outcomes_with (marked_ops program words p)
  told-all p small = (stands.rows p small).told ∙ ap outcomes_with (all-taken program addresses words stands.width p small (final-done program words final p small).all)

  pub final-empty : EndsEmpty memory steps
  final-empty p =
      elim (cases_lt p (list_count program)) [
        | inl small ↦
            let done = final-done program words final p small in
            (stands.rows p small).waits ∙ ap (waiting 0) (all-taken program addresses words stands.width p small done.all) ∙ done.none
        | inr past ↦ (stands.others p past).0
      ]

  pub final-ops : AreOpsOf program steps
  final-ops p =
      elim (cases_lt p (list_count program)) [
        | inl small ↦
            let row = stands.rows p small in
            ap (map op_of) row.told ∙ ops-of (ops_at program p) _ (issued_by program words p) row.most ∙ take_all (issued_by program words p) (ops_at program p) (omega (arith, (final-done program words final p small).all))
        | inr past ↦ ap (map op_of) (stands.others p past).2 ∙ sym (past_all program.lists p past)
      ]

  pub final-trace : (state_with program addresses words).trace ≡ trace_of program.setting (list_count program) steps
  final-trace =
      ap (trace_of_lists program.setting)
      (lists-same steps (λ p. outcomes_with (marked_ops program words p)) 0 (list_count program) (λ p low high. sym (told-all p (omega (arith, high)))))

  pub final-last : (state_with program addresses words).last ≡ last_values addresses memory steps
  final-last =
      let s = after (first_state memory) steps in
      let start = memory_start program in
      zip-values addresses (drop start words) (slice_index s.memory) (omega (arith, length-drop start words, stands.width))
      (λ k small. get_or-drop start words k 0 ∙ sym (value-at program addresses limits places words k small) ∙ sym (stands.memory _ (places.placed k small).1))

-- words that are final stand for a final state
pub final-sound : (program : ProgramValue) (addresses words : List ℕ) → IsProgram program → HasPlaces program addresses → addresses ≡ stored_addresses program → Reaches program addresses words →
    is_final program words ≡ true → IsFinalState program (state_with program addresses words)
final-sound program addresses words limits places are reached final = record {
  steps = reached.steps;
  run = record {
    complete = record {
      memory = reached.memory;
      first = reached.first;
      run = reached.run;
      empty = final-empty program addresses limits places words reached.memory reached.steps reached.stands final;
      processors = reached.processors;
    };
    ops = final-ops program addresses limits places words reached.memory reached.steps reached.stands final;
  };
  trace = final-trace program addresses limits places words reached.memory reached.steps reached.stands final;
  last = final-last program addresses limits places words reached.memory reached.steps reached.stands final ∙ ap (λ xs. last_values xs reached.memory reached.steps) are;
}

-- the words of a final state
pub record HasFinalWords (program : ProgramValue) (addresses : List ℕ) (found : List (List ℕ)) (state : FinalStateValue) : Type 0 where
  pub words : List ℕ
  pub among : IsIn found words
  pub final : is_final program words ≡ true
  pub same : state ≡ state_with program addresses words

pub final-complete : (program : ProgramValue) (addresses : List ℕ) (limit : ℕ) (found : List (List ℕ)) → IsProgram program → HasPlaces program addresses → addresses ≡ stored_addresses program →
    IsSearched program addresses limit found → (state : FinalStateValue) → IsFinalState program state → HasFinalWords program addresses found state
final-complete program addresses limit found limits places are searched state is =
    let complete = is.run.complete in
    let steps = is.steps in
    let first_ops : AreFirstOpsOf program steps = λ p. ([], append-nil (map op_of (outcomes_of p steps)) ∙ is.run.ops p) in
    let there = all-found program addresses found places searched.first searched.closed complete.memory complete.first steps complete.run complete.processors first_ops in
    let words = there.words in
    let done : (p : ℕ) → p < list_count program → IsDone program words p = λ p small.
    let row = there.stands.rows p small in
    let all : issued_by program words p ≡ length (ops_at program p) =
    sym (answered-count program addresses words _ (λ q. outcomes_of q steps) there.stands p small) ∙ sym (length-map (outcomes_of p steps) op_of) ∙ ap length (is.run.ops p) in
    record {
      all = all;
      none = ap (waiting 0) (sym (all-taken program addresses words there.stands.width p small all)) ∙ sym row.waits ∙ complete.empty p;
    } in
    let final = done-final program words done in
    let trace : state.trace ≡ (state_with program addresses words).trace = is.trace ∙ sym (final-trace program addresses limits places words complete.memory steps there.stands final) in
    let last : state.last ≡ (state_with program addresses words).last =
    is.last ∙ ap (λ xs. last_values xs complete.memory steps) (sym are) ∙ sym (final-last program addresses limits places words complete.memory steps there.stands final) in
    let make : TraceValue → List (ℕ × ℕ) → FinalStateValue = λ t l. record { trace = t; last = l } in
    record {
      words = words;
      among = there.among;
      final = final;
      same = ap (λ t. make t state.last) trace ∙ ap (λ l. make (state_with program addresses words).trace l) last;
    }
