-- What the text refers to: the load of an Own step, and the numbers of the steps that a step rests on.
use Rattle.std.proofs.Common.{◌≡◌, ◌≢◌, ⊎_elim, sym, ap, subst, refl, ◌∙◌, ℕ, zero, suc, ◌+◌, ◌<◌, ◌≤◌, Bool, true, false, cond, eqb, ltb, List, [], ◌∷◌, take, Option, Some, None, slice_get, IfSome, arith}
use Rattle.std.specs.Prelude.{◌&&◌, not}
use Rattle.std.specs.Option.{option_map_or, unwrap_or}
use Rattle.std.specs.List.{position_from}
use Rattle.std.proofs.lemmas.Bool.{false≢true, cases_lt}
use Rattle.std.proofs.lemmas.Bool.Decides.{nat_tests}
use Rattle.line_text.proofs.NumberFacts.{and_parts}
use Rattle.order_paths.specs.Neighbours.{AreNeighbours}
use Rattle.order_paths.proofs.Neighbours.{Linked-neighbours}
use Rattle.tso_ops.specs.declared.events.Event.{Event}
use Rattle.tso_ops.specs.Values.{TraceValue}
use Rattle.tso_ops.specs.Limits.{IsTrace}
use Rattle.tso_ops.specs.Events.{event_at, event_total, HasSource}
use Rattle.tso_ops.proofs.NumberFacts.{event_unique, own_values, source_unique}
use Rattle.tso_cert.specs.declared.rules.InferredRule.{InferredRule}
use Rattle.tso_cert.specs.declared.steps.Reason.TheVariants.{Inferred}
use Rattle.tso_cert.specs.declared.steps.CertStep.{CertStep}
use Rattle.tso_model.specs.Rules.{IsOwnBy}
use Rattle.tso_model.specs.Certs.{IsPathIn, IsStep, StepsHold}
use Rattle.trace_explanation.specs.Names.{source_of}
use Rattle.trace_explanation.specs.Steps.{is_edge, is_number, own_load, reads_past, step_number}
use Rattle.trace_explanation.proofs.SourceFacts.{source-is, source-number}
use Rattle.trace_explanation.proofs.SearchFacts.{found-passes}

-- ---- loads

-- the second event is of the processor and address of the first, a store
abbrev own_test : Option Event → Option Event → Bool
own_test o p = option_map_or (λ e. option_map_or (λ s. not s.load && (eqb s.proc e.proc && eqb s.a e.a)) o false) p false

abbrev AreOwn : Option Event → Option Event → Type 0
AreOwn o p = (d : Event) × (e : Event) × (o ≡ Some d) × (p ≡ Some e) × (d.load ≡ false) × (d.proc ≡ e.proc) × (d.a ≡ e.a)

own_events : (o p : Option Event) → own_test o p ≡ true → AreOwn o p
own_events None None is = absurd cc
own_events None (Some e) is = absurd cc
own_events (Some d) None is = absurd cc
own_events (Some d) (Some e) is = (d, e, refl, refl, grind (arith, nat_tests), grind (arith, nat_tests), grind (arith, nat_tests))

own_tested : (d e : Event) → d.load ≡ false → d.proc ≡ e.proc → d.a ≡ e.a → own_test (Some d) (Some e) ≡ true
own_tested d e store same address = grind (arith, nat_tests)

number_is : (v : ℕ) (o : Option ℕ) → is_number v o ≡ true → o ≡ Some v
number_is v None is = absurd cc
number_is v (Some s) is = let same : s ≡ v = grind (arith, nat_tests) in ap Some same

number_tested : (v : ℕ) → is_number v (Some v) ≡ true
number_tested v = grind (arith, nat_tests)

-- what the test of a load says
reads_past-is : (t : TraceValue) (u v l : ℕ) → u ≢ v → reads_past t u v l ≡ true → IsOwnBy t l u v
unfolding reads_past
reads_past-is t u v l other is =
    let both = and_parts (ltb u l && own_test (event_at t u) (event_at t l)) (is_number v (source_of t l)) is in
    let first = and_parts (ltb u l) (own_test (event_at t u) (event_at t l)) both.0 in
    let (d, e, at_d, at_e, store, proc, address) = own_events (event_at t u) (event_at t l) first.1 in
    let before : u < l = grind (arith, nat_tests, first.0) in
    let source : HasSource t l v = subst (λ o. IfSome o (HasSource t l)) (number_is v (source_of t l) both.1) (source-is t l) in
    ((d, at_d, store), (d, e, at_d, at_e, address), (d, e, at_d, at_e, proc, before), source, other)

-- and what makes it true
reads_past-by : (t : TraceValue) → IsTrace t → (u v l : ℕ) → IsOwnBy t l u v → reads_past t u v l ≡ true
unfolding reads_past
reads_past-by t trace u v l ((d, at_d, store), (d', e', at_d', at_e', address), (d'', e, at_d'', at_e, proc, before), source, other) =
    let found : Some v ≡ source_of t l = source-number t l (Some v) source (λ s has. ap Some (source_unique t (own_values t trace) l v s source has)) in
    let same_proc : d.proc ≡ e.proc = ap (λ (x : Event). x.proc) (event_unique t u d d'' at_d at_d'') ∙ proc in
    let same_address : d.a ≡ e.a = ap (λ (x : Event). x.a) (event_unique t u d d' at_d at_d') ∙ address ∙ ap (λ (x : Event). x.a) (event_unique t l e' e at_e' at_e) in
    let own : own_test (event_at t u) (event_at t l) ≡ true = rw (at_d, at_e) (own_tested d e store same_proc same_address) in
    let first : ltb u l ≡ true = grind (arith, nat_tests) in
    rw (first, own, sym found) (number_tested v)

-- the load of an Own step is the least that gives its edge
pub own_load-is : (t : TraceValue) → IsTrace t → (u v l : ℕ) → u ≢ v → own_load t u v ≡ Some l → IsOwnBy t l u v × ((other : ℕ) → IsOwnBy t other u v → l ≤ other)
unfolding own_load
own_load-is t trace u v l other found =
    let passed = found-passes (reads_past t u v) (event_total t) l found in (
      reads_past-is t u v l other passed.0,
      λ o by.
          ⊎_elim
          (λ less.
          let before : u < o = by.2.5 in
          let no = passed.2 o (omega arith) less in
          absurd (false≢true (sym no ∙ reads_past-by t trace u v o by)))
          (λ most. most)
          (cases_lt o l),
    )

-- ---- steps

-- a step's number is that of its least edge
number-bounds : (n : ℕ) (steps : List CertStep) (u v j : ℕ) (s : CertStep) → slice_get steps j ≡ Some s → s.from ≡ u → s.to ≡ v →
    (n ≤ unwrap_or (position_from (is_edge (u, v)) n steps) 0) × (unwrap_or (position_from (is_edge (u, v)) n steps) 0 ≤ n + j)
number-bounds n [] u v j s at from to = absurd cc
number-bounds n (r ∷ steps) u v zero s at from to =
    let same : r ≡ s = cc in
    let test : is_edge (u, v) r ≡ true = rw same (grind (arith, nat_tests)) in
    rw test (omega arith, omega arith)
number-bounds n (r ∷ steps) u v (suc j) s at from to = by_test (is_edge (u, v) r) (number-bounds (n + 1) steps u v j s at from to)
  where
    by_test : (b : Bool) → (n + 1 ≤ unwrap_or (position_from (is_edge (u, v)) (n + 1) steps) 0) × (unwrap_or (position_from (is_edge (u, v)) (n + 1) steps) 0 ≤ n + 1 + j) →
        (n ≤ unwrap_or (cond b (Some n) (position_from (is_edge (u, v)) (n + 1) steps)) 0) × (unwrap_or (cond b (Some n) (position_from (is_edge (u, v)) (n + 1) steps)) 0 ≤ n + suc j)
    by_test true bounds = (omega arith, omega arith)
    by_test false bounds = (omega (arith, bounds.0), omega (arith, bounds.1))

-- a step among the first ones
taken : (k : ℕ) (steps : List CertStep) (j : ℕ) (s : CertStep) → slice_get (take k steps) j ≡ Some s → (j < k) × (slice_get steps j ≡ Some s)
taken (suc k) (r ∷ steps) zero s at = (omega arith, at)
taken (suc k) (r ∷ steps) (suc j) s at = let rest = taken k steps j s at in (omega (arith, rest.0), rest.1)
taken k steps j s at = absurd cc

-- each edge of a step's path has a number below the step's own
pub path_numbers : (t : TraceValue) (steps : List CertStep) → StepsHold t steps → (k : ℕ) (s : CertStep) (rule : InferredRule) (load : ℕ) (path : List ℕ) → slice_get steps k ≡ Some s →
    s.reason ≡ Inferred rule load path → (x y : ℕ) → AreNeighbours path x y → (0 < step_number steps (x, y)) × (step_number steps (x, y) ≤ k)
path_numbers t steps holds k s rule load path at reason x y next =
    let linked = subst (IsPathIn (λ u v. IsStep (take k steps) u v)) reason (holds k s at).1 in
    let (j, d, at_d, from, to) = Linked-neighbours (λ u v. IsStep (take k steps) u v) path linked x y next in
    let here = taken k steps j d at_d in
    let bounds = number-bounds 1 steps x y j d here.1 from to in
    (omega (arith, bounds.0), omega (arith, bounds.1, here.0))
