-- Lemmas on what the definitions say: a program has one list of traces, and a trace text is one thing to them.
use Rattle.std.proofs.Common.{◌≡◌, ◌⊎◌, ◌∙◌, ℕ, zero, suc, ◌+◌, ◌<◌, ◌≤◌, Bool, true, List, [], ◌∷◌, ◌++◌, length, map, get_or, Some, refl, ap, ap₂, sym, subst, inl, inr, arith}
use Rattle.std.specs.Prelude.{◌==◌, cond, slice_get}
use Rattle.std.specs.List.{All, count_by}
use Rattle.std.proofs.lemmas.Bool.{cases_eq, cases_lt, eq-eqb, ne_eqb}
use Rattle.std.proofs.lemmas.List.{get_or-map, length-append, length-map}
use Rattle.std.proofs.lemmas.List.Elements.{All-get_or, All-head, All-tail}
use Rattle.std.proofs.lemmas.List.Sums.{sum_by-append}
use Rattle.std.proofs.lemmas.Option.{get_or_from_slice_get, slice_get_within}
use Rattle.tso_ops.specs.Values.{ProgramValue, TraceValue, program_of}
use Rattle.tso_text.specs.Texts.{SpellsTrace}
use Rattle.tso_text.specs.Refusals.{IsRefusedTrace}
use Rattle.tso_text.proofs.TextLaws.{trace_laws}
use Rattle.trace_reports.specs.declared.answers.Answer.{Answer}
use Rattle.trace_streams.proofs.TraceTextFacts.{one_list_of_trace_texts}
use Rattle.final_states.specs.FinalStates.{AreFinalStatesOf, FinalStateValue, IsFinalState, is_below, state_numbers, values_read}
use Rattle.outcome_reports.specs.Internal.TraceLists.{StandsIn}
use Rattle.final_states.specs.FinalStates.{IsRunTrace}
use Rattle.outcome_reports.specs.Outcomes.{AreTracesOf, IsListing, traces_text}
use Rattle.outcome_reports.specs.SeenTraces.{AreClassesOf, CountsSeen, IsClassOfText, is_foreign, is_seen, is_unreached, seen_text, seen_total, seen_verdict}
use Rattle.outcome_reports.specs.StateLines.{states_text}
use Rattle.request_options.specs.declared.outcomes.OutcomeForm.{OutcomeForm}
use Rattle.request_options.specs.declared.outcomes.OutcomeForm.TheVariants.{Traces, States}
use Rattle.outcome_reports.specs.declared.classes.TraceClass.{TraceClass}
use Rattle.outcome_reports.specs.declared.classes.TraceClass.TheVariants.{Reached, Unreached, Foreign}
use Rattle.outcome_reports.proofs.ReadValues.{run_of_program}
use Rattle.outcome_reports.proofs.TraceListFacts.{at_end, traces_rise}
use Rattle.outcome_reports.proofs.ValueOrder.{below_itself, below_trans}

-- ---- lists that ascend and have the same elements

module _ {X : Type 0} (key : X → List ℕ) where
  abbrev pub Ascends : List X → Type 0
  Ascends xs = (before : List X) (x : X) (after : List X) → xs ≡ before ++ x ∷ after → All (λ earlier. is_below (key earlier) (key x) ≡ true) before

  first_or_later : (x z : X) (xs : List X) → StandsIn (x ∷ xs) z → (z ≡ x) ⊎ StandsIn xs z
  first_or_later x z xs ([], after, is) = inl (sym cc)
  first_or_later x z xs (y ∷ before, after, is) = inr (before, after, cc)

  stands_first : (x : X) (xs : List X) → StandsIn (x ∷ xs) x
  stands_first x xs = ([], xs, refl)

  stands_more : (x z : X) (xs : List X) → StandsIn xs z → StandsIn (x ∷ xs) z
  stands_more x z xs s = (x ∷ s.0, s.1, ap (λ t. x ∷ t) s.2)

  tail_ascends : (x : X) (xs : List X) → Ascends (x ∷ xs) → Ascends xs
  tail_ascends x xs ascends before z after is = All-tail (λ (e : X). is_below (key e) (key z) ≡ true) x before (ascends (x ∷ before) z after (ap (λ t. x ∷ t) is))

  head_below : (x z : X) (xs : List X) → Ascends (x ∷ xs) → StandsIn xs z → is_below (key x) (key z) ≡ true
  head_below x z xs ascends s = All-head (λ (e : X). is_below (key e) (key z) ≡ true) x s.0 (ascends (x ∷ s.0) z s.1 (ap (λ t. x ∷ t) s.2))

  pub one_list : (xs ys : List X) → Ascends xs → Ascends ys → ((z : X) → StandsIn xs z → StandsIn ys z) → ((z : X) → StandsIn ys z → StandsIn xs z) → xs ≡ ys
  one_list [] [] first second there back = refl
  one_list [] (y ∷ ys) first second there back = absurd (nowhere y (back y (stands_first y ys)))
    where
      nowhere : (z : X) → StandsIn [] z → ⊥
      nowhere z ([], after, is) = absurd cc
      nowhere z (b ∷ before, after, is) = absurd cc
  one_list (x ∷ xs) [] first second there back = absurd (nowhere x (there x (stands_first x xs)))
    where
      nowhere : (z : X) → StandsIn [] z → ⊥
      nowhere z ([], after, is) = absurd cc
      nowhere z (b ∷ before, after, is) = absurd cc
  one_list (x ∷ xs) (y ∷ ys) first second there back =
      ap₂ (λ h t. h ∷ t) heads
      (one_list xs ys (tail_ascends x xs first) (tail_ascends y ys second)
      (λ z s. elim (first_or_later y z ys (there z (stands_more x z xs s))) [
        | inl here ↦ absurd (below_itself (key z) (subst (λ (e : X). is_below (key e) (key z) ≡ true) (heads ∙ sym here) (head_below x z xs first s)))
        | inr later ↦ later
      ])
      (λ z s. elim (first_or_later x z xs (back z (stands_more y z ys s))) [
        | inl here ↦ absurd (below_itself (key z) (subst (λ (e : X). is_below (key e) (key z) ≡ true) (sym heads ∙ sym here) (head_below y z ys second s)))
        | inr later ↦ later
      ]))
    where
      heads : x ≡ y
      heads = elim (first_or_later y x ys (there x (stands_first x xs))) [
        | inl same ↦ same
        | inr above ↦ elim (first_or_later x y xs (back y (stands_first y ys))) [
          | inl same ↦ sym same
          | inr below ↦ absurd (below_itself (key x) (below_trans (key x) (key y) (key x) (head_below x y xs first below) (head_below y x ys second above)))
        ]
      ]

-- an element of a list of which all are so
pub stands_so : {X : Type 0} (P : X → Type 0) (xs : List X) (z : X) → All P xs → StandsIn xs z → P z
stands_so P xs z all s =
    let count = ap length s.2 in
    let more = length-append s.0 (z ∷ s.1) in
    subst P (ap (λ ts. get_or ts (length s.0) z) s.2 ∙ at_end s.0 z s.1 z) (All-get_or P xs (length s.0) z (omega (arith, count, more)) all)

pub one_trace_list : (program : ProgramValue) (traces others : List TraceValue) → AreTracesOf program traces → AreTracesOf program others → traces ≡ others
one_trace_list program traces others first second =
    one_list values_read traces others first.ascending second.ascending (λ z s. second.all z (stands_so (IsRunTrace program) traces z first.each s)) (λ z s. first.all z (stands_so (IsRunTrace program) others z second.each s))

one_state_list : (program : ProgramValue) (states others : List FinalStateValue) → AreFinalStatesOf program states → AreFinalStatesOf program others → states ≡ others
one_state_list program states others first second =
    one_list state_numbers states others first.ascending second.ascending (λ z s. second.all z (stands_so (IsFinalState program) states z first.each s)) (λ z s. first.all z (stands_so (IsFinalState program) others z second.each s))

pub one_listing : (form : OutcomeForm) (program : ProgramValue) (text other : List ℕ) → IsListing form program text → IsListing form program other → text ≡ other
one_listing Traces program text other first second = first.2 ∙ ap traces_text (one_trace_list program first.0 second.0 first.1 second.1) ∙ sym second.2
one_listing States program text other first second = first.2 ∙ ap states_text (one_state_list program first.0 second.0 first.1 second.1) ∙ sym second.2

-- ---- what a trace text is

module _ (program : ProgramValue) (traces : List TraceValue) (are : AreTracesOf program traces) (piece : List ℕ) where
  place_run : (k : ℕ) (t : TraceValue) → slice_get traces k ≡ Some t → IsRunTrace program t
  place_run k t is =
      subst (IsRunTrace program) (get_or_from_slice_get traces k t t is) (All-get_or (IsRunTrace program) traces k t (slice_get_within traces k t is) are.each)

  -- earlier and later places have different traces
  no_earlier : (j k : ℕ) (t : TraceValue) → j < k → slice_get traces j ≡ Some t → slice_get traces k ≡ Some t → ⊥
  no_earlier j k t less first second =
      let inside = slice_get_within traces k t second in
      let rise = traces_rise program traces are in
      let here : (i : ℕ) → slice_get traces i ≡ Some t → get_or (map values_read traces) i [] ≡ values_read t =
      λ i is. get_or-map values_read traces i t [] (slice_get_within traces i t is) ∙ ap values_read (get_or_from_slice_get traces i t t is) in
      below_itself (values_read t)
      (sym (ap₂ is_below (here j first) (here k second)) ∙ rise.rising j k less (subst (λ n. k < n) (sym (length-map traces values_read)) inside))

  one_place : (j k : ℕ) (t : TraceValue) → slice_get traces j ≡ Some t → slice_get traces k ≡ Some t → j ≡ k
  one_place j k t first second = elim (cases_eq j k) [
    | inl same ↦ same
    | inr apart ↦ elim (cases_lt j k) [ inl less ↦ absurd (no_earlier j k t less first second) | inr more ↦ absurd (no_earlier k j t (omega arith) second first) ]
  ]

  not_refused : (t : TraceValue) → SpellsTrace piece t → IsRefusedTrace piece → ⊥
  not_refused t spells refused = trace_laws.not_both piece t refused.0 refused.1 spells refused.2

  same_spelled : (t u : TraceValue) → SpellsTrace piece t → SpellsTrace piece u → t ≡ u
  same_spelled t u first second = trace_laws.one_value piece t u first second

  seen_unreached : (k : ℕ) → IsClassOfText program traces piece (Reached k) → IsClassOfText program traces piece Unreached → ⊥
  seen_unreached k first second = second.3 (subst (IsRunTrace program) (same_spelled first.0 second.0 first.1 second.1) (place_run k first.0 first.2))

  spelled_foreign : (t : TraceValue) → SpellsTrace piece t → program_of t ≡ program → IsClassOfText program traces piece Foreign → ⊥
  spelled_foreign t spells same (inl refused) = not_refused t spells refused
  spelled_foreign t spells same (inr other) = other.2 (subst (λ u. program_of u ≡ program) (same_spelled t other.0 spells other.1) same)

  pub one_class : (class other : TraceClass) → IsClassOfText program traces piece class → IsClassOfText program traces piece other → class ≡ other
  one_class (Reached j) (Reached k) first second =
      ap Reached (one_place j k second.0 (subst (λ t. slice_get traces j ≡ Some t) (same_spelled first.0 second.0 first.1 second.1) first.2) second.2)
  one_class (Reached j) Unreached first second = absurd (seen_unreached j first second)
  one_class (Reached j) Foreign first second = absurd (spelled_foreign first.0 first.1 (run_of_program program first.0 (place_run j first.0 first.2)) second)
  one_class Unreached (Reached k) first second = absurd (seen_unreached k second first)
  one_class Unreached Unreached first second = refl
  one_class Unreached Foreign first second = absurd (spelled_foreign first.0 first.1 first.2 second)
  one_class Foreign (Reached k) first second = absurd (spelled_foreign second.0 second.1 (run_of_program program second.0 (place_run k second.0 second.2)) first)
  one_class Foreign Unreached first second = absurd (spelled_foreign second.0 second.1 second.2 first)
  one_class Foreign Foreign first second = refl

one_list_of_classes : (program : ProgramValue) (traces : List TraceValue) (are : AreTracesOf program traces) (pieces : List (List ℕ)) (classes others : List TraceClass) → AreClassesOf program traces pieces classes →
    AreClassesOf program traces pieces others → classes ≡ others
one_list_of_classes program traces are [] [] [] first second = refl
one_list_of_classes program traces are (p ∷ pieces) (s ∷ classes) (u ∷ others) first second =
    ap₂ (λ h t. h ∷ t) (one_class program traces are p s u first.0 second.0) (one_list_of_classes program traces are pieces classes others first.1 second.1)
one_list_of_classes program traces are [] classes (u ∷ others) first second = absurd second
one_list_of_classes program traces are (p ∷ pieces) classes [] first second = absurd second
one_list_of_classes program traces are pieces classes others first second = absurd first

pub one_count : (program : ProgramValue) (stream text other : List ℕ) (verdict said : Answer) → CountsSeen program stream text verdict → CountsSeen program stream other said → (text ≡ other) × (verdict ≡ said)
one_count program stream text other verdict said first second =
    let traces = one_trace_list program first.traces second.traces first.are_traces second.are_traces in
    let pieces = one_list_of_trace_texts stream first.pieces second.pieces first.are_trace_texts second.are_trace_texts in
    let moved = subst (λ ts. AreClassesOf program ts second.pieces first.classes) traces (subst (λ ps. AreClassesOf program first.traces ps first.classes) pieces first.are_classes) in
    let classes = one_list_of_classes program second.traces second.are_traces second.pieces first.classes second.classes moved second.are_classes in (
      first.whole ∙ ap₂ (seen_text program.setting.order) traces classes ∙ sym second.whole,
      first.says ∙ ap (seen_verdict program.setting.order) classes ∙ sym second.says,
    )

-- ---- each trace text is counted once

count_first : (test : TraceClass → Bool) (s : TraceClass) (classes : List TraceClass) → count_by test (s ∷ classes) ≡ cond (test s) 1 0 + count_by test classes
count_first test s classes = sum_by-append (λ (x : TraceClass). cond (test x) 1 0) (s ∷ []) classes ∙ ap (λ n. n + count_by test classes) (omega arith)

-- how often one class is of so many traces
this_total : TraceClass → ℕ → ℕ → ℕ
this_total s k zero = 0
this_total s k (suc count) = cond (is_seen k s) 1 0 + this_total s (suc k) count

total_first : (s : TraceClass) (classes : List TraceClass) (k count : ℕ) → seen_total (s ∷ classes) k count ≡ this_total s k count + seen_total classes k count
unfolding this_total
total_first s classes k zero = omega arith
total_first s classes k (suc count) =
    let here = count_first (is_seen k) s classes in
    let rest = total_first s classes (suc k) count in
    omega (arith, here, rest)

total_none : (k count : ℕ) → seen_total [] k count ≡ 0
total_none k zero = refl
total_none k (suc count) = let rest = total_none (suc k) count in omega (arith, rest)

past_total : (j k count : ℕ) → j < k → this_total (Reached j) k count ≡ 0
unfolding this_total
past_total j k zero less = refl
past_total j k (suc count) less =
    let here : cond (j == k) 1 0 ≡ 0 = ap {B = ℕ} (λ b. cond b 1 0) (ne_eqb j k (omega arith)) in
    let rest = past_total j (suc k) count (omega arith) in
    omega (arith, here, rest)

one_total : (j k count : ℕ) → k ≤ j → j < k + count → this_total (Reached j) k count ≡ 1
unfolding this_total
one_total j k zero least most = absurd (omega arith)
one_total j k (suc count) least most = elim (cases_eq j k) [
  | inl same ↦
      let here : cond (j == k) 1 0 ≡ 1 = ap {B = ℕ} (λ b. cond b 1 0) (eq-eqb j k same) in
      let rest = past_total j (suc k) count (omega arith) in
      omega (arith, here, rest)
  | inr other ↦
      let here : cond (j == k) 1 0 ≡ 0 = ap {B = ℕ} (λ b. cond b 1 0) (ne_eqb j k other) in
      let rest = one_total j (suc k) count (omega arith) (omega arith) in
      omega (arith, here, rest)
]

unreached_total : (k count : ℕ) → this_total Unreached k count ≡ 0
unfolding this_total
unreached_total k zero = refl
unreached_total k (suc count) = let rest = unreached_total (suc k) count in omega (arith, rest)

foreign_total : (k count : ℕ) → this_total Foreign k count ≡ 0
unfolding this_total
foreign_total k zero = refl
foreign_total k (suc count) = let rest = foreign_total (suc k) count in omega (arith, rest)

counted_once : (program : ProgramValue) (traces : List TraceValue) (piece : List ℕ) (s : TraceClass) → IsClassOfText program traces piece s →
    this_total s 0 (length traces) + cond (is_unreached s) 1 0 + cond (is_foreign s) 1 0 ≡ 1
counted_once program traces piece (Reached j) is =
    let inside = slice_get_within traces j is.0 is.2 in
    let one = one_total j 0 (length traces) (omega arith) (omega (arith, inside)) in
    omega (arith, one)
counted_once program traces piece Unreached is = let none = unreached_total 0 (length traces) in omega (arith, none)
counted_once program traces piece Foreign is = let none = foreign_total 0 (length traces) in omega (arith, none)

pub each_counted : (program : ProgramValue) (traces : List TraceValue) (pieces : List (List ℕ)) (classes : List TraceClass) → AreClassesOf program traces pieces classes →
    seen_total classes 0 (length traces) + count_by is_unreached classes + count_by is_foreign classes ≡ length pieces
each_counted program traces [] [] are = let none = total_none 0 (length traces) in omega (arith, none)
each_counted program traces (p ∷ pieces) (s ∷ classes) are =
    let once = counted_once program traces p s are.0 in
    let rest = each_counted program traces pieces classes are.1 in
    let first = total_first s classes 0 (length traces) in
    let second = count_first is_unreached s classes in
    let third = count_first is_foreign s classes in
    omega (arith, once, rest, first, second, third)
each_counted program traces [] (s ∷ classes) are = absurd are
each_counted program traces (p ∷ pieces) [] are = absurd are
