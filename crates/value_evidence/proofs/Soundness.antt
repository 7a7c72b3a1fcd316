-- Soundness: in each order of the model what evidence says holds, so evidence that ends leaves no order.
use Rattle.std.proofs.Common.{◌≡◌, ◌⊎◌, ℕ, zero, suc, ◌<◌, ◌≤◌, List, [], ◌∷◌, ◌++◌, inl, inr, refl, sym, subst, length, take, arith}
use Rattle.std.specs.Prelude.{get_or}
use Rattle.std.proofs.Math.Seq.{take-suc, take-length}
use Rattle.std.proofs.lemmas.Option.{slice_get-get_or}
use Rattle.std.specs.List.{Contains}
use Rattle.std.proofs.lemmas.List.Elements.{Contains-append_cases}
use Rattle.tso_ops.specs.Values.{TraceValue}
use Rattle.tso_ops.specs.Events.{IsLoad, IsStore, Earlier}
use Rattle.tso_ops.proofs.NumberFacts.{event_above_zero, load_is_no_store, store_event, load_event}
use Rattle.order_paths.proofs.RisingNumbers.{rises_on_path}
use Rattle.tso_model.specs.Axioms.{place, IsUpTo, IsBefore, IsVisible, IsModelOrder, IsConsistent}
use Rattle.tso_model.proofs.EdgesForward.{SeesSource, nothing, greatest}
use Rattle.tso_model.proofs.Places.{nothing_before_zero, before_or_up_to, before_not_up_to, up_to_from_before}
use Rattle.value_evidence.specs.declared.steps.ValueStep.{ValueStep}
use Rattle.value_evidence.specs.declared.steps.ValueStep.TheVariants.{Read, In, Out, Over, SwapAfter, SwapBefore}
use Rattle.value_evidence.specs.declared.steps.ValueEnd.{ValueEnd}
use Rattle.value_evidence.specs.declared.steps.ValueEnd.TheVariants.{NoSource, Cycle}
use Rattle.value_evidence.specs.declared.steps.ValueEvidence.{ValueEvidence}
use Rattle.value_evidence.specs.Candidates.{IsProgramPair, SaysBefore, IsPairBy, ComesBefore, SeesStore, IsGone, known, behind, over, taken, CanRead}
use Rattle.value_evidence.specs.Evidence.{IsUpToBy, ValueStepHolds, EndHolds, AllStepsHold, EvidenceHolds}
use Rattle.value_evidence.proofs.SwapSources.{strict, read_by, one_read, up_to_read, taken_once}

-- what a list of one contains is that one
pub contained_one : {X : Type 0} → (x y : X) → Contains (x ∷ []) y → x ≡ y
contained_one x y (zero, below, is) = is
contained_one x y (suc k, below, is) = absurd (omega arith)

-- of a list nothing comes before its first item
take-zero : (steps : List ValueStep) → take 0 steps ≡ []
take-zero [] = refl
take-zero (x ∷ rest) = refl

-- an empty list contains nothing
pub none_contained : {X : Type 0} → (x : X) → Contains [] x → ⊥
none_contained x among = omega (arith, among.1)

-- In the order all holds that these steps say.
pub record Keeps (t : TraceValue) (order : List ℕ) (steps : List ValueStep) : Type 0 where
  pub pairs : (step : ValueStep) (u v : ℕ) → Contains steps step → SaysBefore step u v → IsBefore order u v
  pub sources : (l s : ℕ) → Contains steps (Read l s) → SeesSource t order l s

module _ (t : TraceValue) (order : List ℕ) (axioms : IsModelOrder t order) where
  -- a program-earlier event that stands no later than the other stands before it
  earlier_before : (u v : ℕ) → Earlier t u v → IsUpTo order u v → IsBefore order u v
  earlier_before u v earlier up_to = strict t order axioms u v (earlier.1, earlier.3) (λ same. omega (arith, earlier.5)) up_to

  -- pairs that the program gives stand in order
  program_before : (u v : ℕ) → IsProgramPair t u v → IsBefore order u v
  program_before u v (inl pair) = earlier_before u v pair.1 (axioms.load_op u v pair.0 pair.1)
  program_before u v (inr (inl pair)) = earlier_before u v pair.2 (axioms.store_store u v pair.0 pair.1 pair.2 pair.3)
  program_before u v (inr (inr (inl pair))) = earlier_before u v pair.2 (axioms.stbar u v pair.0 pair.1 pair.2 pair.3)
  program_before u v (inr (inr (inr pair))) = earlier_before u v pair.2 (axioms.membar u v pair.0 pair.1 pair.2 pair.3)

  module _ (steps : List ValueStep) (keeps : Keeps t order steps) where
    pair_before : (u v : ℕ) → IsPairBy t steps u v → IsBefore order u v
    pair_before u v (inl pair) = program_before u v pair
    pair_before u v (inr said) = keeps.pairs said.0 u v said.1 said.2

    -- what comes before by pairs does so in the order
    path_before : (u v : ℕ) → ComesBefore t steps u v → IsBefore order u v
    path_before u v path = rises_on_path (IsPairBy t steps) (place (0 ∷ order)) (record { on_edge = pair_before }) u v path

    -- a store that a load sees by the steps it sees in the order
    sees_visible : (l w : ℕ) → SeesStore t steps l w → IsVisible t order w l
    sees_visible l w sees = (sees.0, sees.1, by_cases sees.2)
      where
        by_cases : ComesBefore t steps w l ⊎ Earlier t w l → IsUpTo order w l ⊎ Earlier t w l
        by_cases (inl path) = inl (up_to_from_before order w l (event_above_zero t w (store_event t w sees.0)) (path_before w l path))
        by_cases (inr earlier) = inr earlier

    -- what a load read isn't gone
    read_left : (l r : ℕ) → IsLoad t l → SeesSource t order l r → IsGone t steps l r → ⊥
    read_left l r load sees (known s said other) = other (one_read t order axioms l s r (keeps.sources l s said) sees)
    read_left l r load sees (behind path unforwarded) = by_cases sees
      where
        before : IsBefore order l r
        before = path_before l r path

        by_seen : IsUpTo order r l ⊎ Earlier t r l → ⊥
        by_seen (inl up_to) = before_not_up_to order l r (event_above_zero t l (load_event t l load)) before up_to
        by_seen (inr earlier) = unforwarded earlier

        by_cases : SeesSource t order l r → ⊥
        by_cases (nothing zero_r none) = nothing_before_zero order l (subst (λ n. IsBefore order l n) zero_r before)
        by_cases (greatest visible last) = by_seen visible.2
    read_left l r load sees (over w seen after) = by_cases after
      where
        read : IsVisible t order r l × IsUpTo order w r
        read = up_to_read t order axioms l r w sees (sees_visible l w seen)

        by_cases : (r ≡ 0) ⊎ ComesBefore t steps r w → ⊥
        by_cases (inl zero_r) = let above = event_above_zero t r (store_event t r read.0.0) in omega arith
        by_cases (inr path) = before_not_up_to order r w (event_above_zero t r (store_event t r read.0.0)) (path_before r w path) read.1
    read_left l r load sees (taken m swap_l swap_m address other said) = taken_once t order axioms l m r swap_l swap_m address other (keeps.sources m r said) sees

    -- so it is a number that the load can have read by the steps
    pub read_can : (l : ℕ) → IsLoad t l → (r : ℕ) × CanRead t steps l r × SeesSource t order l r
    read_can l load = let read = read_by t order axioms l load in (read.0, (read.1, read_left l read.0 load read.2), read.2)

    -- what is a store, or comes before it, stands before what the store stands before
    up_to_before : (u r v : ℕ) → IsUpToBy t steps u r → IsBefore order r v → IsBefore order u v
    up_to_before u r v (inl same) before = subst (λ n. IsBefore order n v) (sym same) before
    up_to_before u r v (inr path) before = let first = path_before u r path in omega arith

    -- In
    in_before : (u l : ℕ) → ValueStepHolds t steps (In u l) → IsBefore order u l
    in_before u l holds = by_cases read.2
      where
        read : (r : ℕ) × CanRead t steps l r × SeesSource t order l r
        read = read_can l holds.1

        left : (0 < read.0) × (Earlier t read.0 l → ⊥) × IsUpToBy t steps u read.0
        left = holds.2 read.0 read.1

        by_seen : IsStore t read.0 → IsUpTo order read.0 l ⊎ Earlier t read.0 l → IsBefore order u l
        by_seen store (inl up_to) =
            let apart = λ (same : read.0 ≡ l). load_is_no_store t l holds.1 (subst (IsStore t) same store) in
            up_to_before u read.0 l left.2 (strict t order axioms read.0 l (load_event t l holds.1) apart up_to)
        by_seen store (inr earlier) = absurd (left.1 earlier)

        by_cases : SeesSource t order l read.0 → IsBefore order u l
        by_cases (nothing zero_r none) = let above = left.0 in absurd (omega arith)
        by_cases (greatest visible last) = by_seen visible.0 visible.2

    -- Out
    out_before : (l v : ℕ) → ValueStepHolds t steps (Out l v) → IsBefore order l v
    out_before l v holds = by_order (before_or_up_to order l v (event_above_zero t l (load_event t l holds.0)) (event_above_zero t v (store_event t v holds.1)))
      where
        read : (r : ℕ) × CanRead t steps l r × SeesSource t order l r
        read = read_can l holds.0

        by_order : IsBefore order l v ⊎ IsUpTo order v l → IsBefore order l v
        by_order (inl first) = first
        by_order (inr up_to) = absurd (by_cases (holds.3 read.0 read.1))
          where
            seen : IsVisible t order read.0 l × IsUpTo order v read.0
            seen = up_to_read t order axioms l read.0 v read.2 (holds.1, holds.2, inl up_to)

            by_cases : (read.0 ≡ 0) ⊎ ComesBefore t steps read.0 v → ⊥
            by_cases (inl zero_r) = let above = event_above_zero t read.0 (store_event t read.0 seen.0.0) in omega arith
            by_cases (inr path) = before_not_up_to order read.0 v (event_above_zero t read.0 (store_event t read.0 seen.0.0)) (path_before read.0 v path) seen.1

    -- Over
    over_before : (u v l : ℕ) → ValueStepHolds t steps (Over u v l) → IsBefore order u v
    over_before u v l holds = by_cases (holds.4 read.0 read.1)
      where
        read : (r : ℕ) × CanRead t steps l r × SeesSource t order l r
        read = read_can l holds.0

        seen : IsVisible t order read.0 l × IsUpTo order u read.0
        seen = up_to_read t order axioms l read.0 u read.2 (sees_visible l u holds.1)

        by_cases : IsUpToBy t steps read.0 v → IsBefore order u v
        by_cases (inl same) = strict t order axioms u v (store_event t v holds.2) holds.3 (subst (IsUpTo order u) same seen.1)
        by_cases (inr path) =
            let after = path_before read.0 v path in
            let first = before_or_up_to order u v (event_above_zero t u (store_event t u holds.1.0)) (event_above_zero t v (store_event t v holds.2)) in
            by_order first (up_to_from_before order read.0 v (event_above_zero t read.0 (store_event t read.0 seen.0.0)) after) after
          where
            by_order : IsBefore order u v ⊎ IsUpTo order v u → IsUpTo order read.0 v → IsBefore order read.0 v → IsBefore order u v
            by_order (inl first) up_to after = first
            by_order (inr back) up_to after =
                absurd (before_not_up_to order read.0 v (event_above_zero t read.0 (store_event t read.0 seen.0.0)) after (omega (arith, back, seen.1)))

    -- no store stands between a swap's load and its store
    swap_after : (m v : ℕ) → ValueStepHolds t steps (SwapAfter m v) → IsBefore order (suc m) v
    swap_after m v holds = by_cases (axioms.atomicity m v holds.0 holds.1 holds.2)
      where
        before : IsBefore order m v
        before = path_before m v holds.3

        by_cases : IsUpTo order v m ⊎ IsUpTo order (suc m) v → IsBefore order (suc m) v
        by_cases (inl up_to) = absurd (before_not_up_to order m v (event_above_zero t m (holds.0.0, holds.0.1)) before up_to)
        by_cases (inr up_to) = strict t order axioms (suc m) v (store_event t v holds.1) (λ same. holds.2 (sym same)) up_to

    swap_before : (u m : ℕ) → ValueStepHolds t steps (SwapBefore u m) → IsBefore order u m
    swap_before u m holds = by_cases (axioms.atomicity m u holds.0 holds.1 holds.2)
      where
        load : IsLoad t m
        load = (holds.0.0, holds.0.1, holds.0.2)

        before : IsBefore order u (suc m)
        before = path_before u (suc m) holds.3

        by_cases : IsUpTo order u m ⊎ IsUpTo order (suc m) u → IsBefore order u m
        by_cases (inl up_to) = strict t order axioms u m (load_event t m load) (λ same. load_is_no_store t m load (subst (IsStore t) same holds.1)) up_to
        by_cases (inr up_to) = absurd (before_not_up_to order u (suc m) (event_above_zero t u (store_event t u holds.1)) before up_to)

    -- what a step says that holds stands so in the order
    said_before : (step : ValueStep) → ValueStepHolds t steps step → (u v : ℕ) → SaysBefore step u v → IsBefore order u v
    said_before (Read l s) holds u v said = absurd said
    said_before (In from l) holds u v (first, second) = subst (λ n. IsBefore order n v) first (subst (IsBefore order from) second (in_before from l holds))
    said_before (Out l to) holds u v (first, second) = subst (λ n. IsBefore order n v) first (subst (IsBefore order l) second (out_before l to holds))
    said_before (Over from to l) holds u v (first, second) = subst (λ n. IsBefore order n v) first (subst (IsBefore order from) second (over_before from to l holds))
    said_before (SwapAfter m to) holds u v (first, second) = subst (λ n. IsBefore order n v) first (subst (IsBefore order (suc m)) second (swap_after m to holds))
    said_before (SwapBefore from m) holds u v (first, second) = subst (λ n. IsBefore order n v) first (subst (IsBefore order from) second (swap_before from m holds))

    -- and so does a source
    said_source : (step : ValueStep) → ValueStepHolds t steps step → (l s : ℕ) → step ≡ Read l s → SeesSource t order l s
    said_source step holds l s is = by_read (subst (ValueStepHolds t steps) is holds)
      where
        by_read : ValueStepHolds t steps (Read l s) → SeesSource t order l s
        by_read is_read =
            let read = read_can l is_read.0 in
            subst (SeesSource t order l) (is_read.1 read.0 read.1) read.2

    -- The order keeps one step more, if what the step says stands so in the order.
    pub keeps_said : (step : ValueStep) → ((u v : ℕ) → SaysBefore step u v → IsBefore order u v) → ((l s : ℕ) → step ≡ Read l s → SeesSource t order l s) →
        Keeps t order (steps ++ step ∷ [])
    keeps_said step before source = record {
      pairs = λ other u v among said. pairs_of other u v said (Contains-append_cases steps (step ∷ []) other among);
      sources = λ l s among. sources_of l s (Contains-append_cases steps (step ∷ []) (Read l s) among);
    }
      where
        pairs_of : (other : ValueStep) (u v : ℕ) → SaysBefore other u v → Contains steps other ⊎ Contains (step ∷ []) other → IsBefore order u v
        pairs_of other u v said (inl among) = keeps.pairs other u v among said
        pairs_of other u v said (inr last) = before u v (subst (λ x. SaysBefore x u v) (sym (contained_one step other last)) said)

        sources_of : (l s : ℕ) → Contains steps (Read l s) ⊎ Contains (step ∷ []) (Read l s) → SeesSource t order l s
        sources_of l s (inl among) = keeps.sources l s among
        sources_of l s (inr last) = source l s (contained_one step (Read l s) last)

    -- the order keeps one step more that holds
    pub keeps_more : (step : ValueStep) → ValueStepHolds t steps step → Keeps t order (steps ++ step ∷ [])
    keeps_more step holds = keeps_said step (said_before step holds) (said_source step holds)

    -- the end leaves no such order
    pub no_end : (end : ValueEnd) → EndHolds t steps end → ⊥
    no_end (NoSource l) holds = let read = read_can l holds.0 in holds.1 read.0 read.1
    no_end (Cycle u) holds = let before = path_before u u holds in omega arith

  -- it keeps all steps, where each follows from those before it
  keeps_all : (steps : List ValueStep) → AllStepsHold t steps → Keeps t order [] → (k : ℕ) → k ≤ length steps → Keeps t order (take k steps)
  keeps_all steps holds none zero within = subst (Keeps t order) (sym (take-zero steps)) none
  keeps_all steps holds none (suc k) within =
      let step = get_or steps k (Read 0 0) in
      subst (Keeps t order) (sym (take-suc steps k (Read 0 0) within))
      (keeps_more (take k steps) (keeps_all steps holds none k (omega arith)) step (holds k step (slice_get-get_or steps k (Read 0 0) within)))

  -- no step says nothing
  pub keeps_none : Keeps t order []
  keeps_none = record { pairs = λ step u v among said. absurd (none_contained step among); sources = λ l s among. absurd (none_contained (Read l s) among) }

-- evidence that holds leaves no order
pub no_order : (t : TraceValue) (evidence : ValueEvidence) → EvidenceHolds t evidence → IsConsistent t → ⊥
no_order t evidence holds consistent =
    let order = consistent.0 in
    let axioms = consistent.1 in
    let steps = evidence.steps.items in
    let keeps = keeps_all t order axioms steps holds.steps (keeps_none t order axioms) (length steps) (omega arith) in
    no_end t order axioms steps (subst (Keeps t order) (take-length steps) keeps) evidence.end holds.ends
