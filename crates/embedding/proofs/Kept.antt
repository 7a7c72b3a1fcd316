-- The order that the memory model keeps: each event that memory takes comes after the program-earlier ones whose order it keeps.
use Rattle.std.proofs.Common.{◌≡◌, ◌∙◌, ◌⊎◌, inl, inr, sym, ap, refl, subst, ℕ, zero, suc, ◌<◌, ◌≤◌, true, false, Some, List, [], ◌∷◌, ◌++◌, slice_get, cond, eqb, arith}
use Rattle.std.specs.Option.{option_to_list}
use Rattle.std.proofs.lemmas.Bool.{cases_eq, cases_lt, eq-eqb, ne_eqb}
use Rattle.tso_ops.specs.declared.settings.Order.{Order}
use Rattle.tso_ops.specs.declared.settings.Order.TheVariants.{Tso, Pso}
use Rattle.tso_ops.specs.declared.ops.Outcome.{Outcome}
use Rattle.tso_ops.specs.declared.ops.Outcome.TheVariants.{Ld, Sw}
use Rattle.tso_ops.specs.declared.events.Event.{Event}
use Rattle.tso_ops.specs.Values.{TraceValue}
use Rattle.tso_ops.specs.Events.{event_at, IsLoad, IsStore, IsSwapLoad, Earlier, HasFewerBarriersBefore, HasFewerStbarsBefore, KeepsStores}
use Rattle.tso_model.specs.Axioms.{occurrences, place, IsUpTo}
use Rattle.tso_model.proofs.Places.{occurrences-cons}
use Rattle.tso_ops.proofs.NumberFacts.{event_unique}
use Rattle.unit_core.specs.declared.steps.Step.{Step}
use Rattle.unit_core.specs.declared.steps.Step.TheVariants.{Store, Drain, DrainAt, Load, Swap, Membar, Stbar}
use Rattle.unit_core.specs.Machine.{Entry, State, buffer_of, oldest_of, outcomes_of, proc_of, stbars_of}
use Rattle.embedding.specs.Sizes.{Sizes, IsAllowedIn}
use Rattle.embedding.specs.RunOrder.{Numbering, ordered_by}
use Rattle.embedding.proofs.Buffers.{stored_event, number_of_entry, entry_of_number, rises}
use Rattle.embedding.proofs.Moments.{IsListed, IsNumbered, IsNumberedBefore}
use Rattle.embedding.proofs.Places.{listed_at, listed_up_to, next_place, occurs-one}
use Rattle.embedding.proofs.Steps.{own_numbered, unlisted_following, unlisted_waiting}
use Rattle.embedding.proofs.Walk.{HoldsWhereTaken}

-- an axiom of the trace's model orders u before the later event n of its processor
pub data IsOrderKept (t : TraceValue) (u n : ℕ) : Type 0 where
  after_load : IsLoad t u → IsOrderKept t u n
  of_stores : IsStore t u → IsStore t n → KeepsStores t u n → IsOrderKept t u n
  past_stbar : IsStore t u → IsStore t n → HasFewerStbarsBefore t u n → IsOrderKept t u n
  past_membar : IsStore t u → IsLoad t n → HasFewerBarriersBefore t u n → IsOrderKept t u n

-- the order has the event after all program-earlier ones whose order is kept, and a swap's store right after its load
pub record IsPlaced (t : TraceValue) (whole : List ℕ) (n : ℕ) : Type 0 where
  pub after_kept : (u : ℕ) → Earlier t u n → IsOrderKept t u n → IsUpTo whole u n
  pub swap : IsSwapLoad t n → place whole (suc n) ≡ suc (place whole n)

pub not_load : (t : TraceValue) (n : ℕ) (e : Event) → event_at t n ≡ Some e → e.load ≡ false → IsLoad t n → ⊥
not_load t n e is store load =
    let same = event_unique t n load.0 e load.1 is in
    let is_load : load.0.load ≡ true = load.2 in
    cc

pub not_store : (t : TraceValue) (n : ℕ) (e : Event) → event_at t n ≡ Some e → e.load ≡ true → IsStore t n → ⊥
not_store t n e is load store =
    let same = event_unique t n store.0 e store.1 is in
    let is_store : store.0.load ≡ false = store.2 in
    cc

not_swap : (t : TraceValue) (n : ℕ) (e : Event) → event_at t n ≡ Some e → e.swap ≡ false → IsSwapLoad t n → ⊥
not_swap t n e is no_swap load =
    let same = event_unique t n load.0 e load.1 is in
    let is_swap : load.0.swap ≡ true = load.3 in
    cc

-- ---- the oldest entry of an address

oldest_has : (buffer : List Entry) (a : ℕ) (e : Entry) → slice_get buffer (oldest_of buffer a) ≡ Some e → e.a ≡ a
oldest_has [] a e read = absurd cc
oldest_has (f ∷ buffer) a e read = elim (cases_eq f.a a) [
  | inl same ↦
      let test : eqb f.a a ≡ true = eq-eqb f.a a same in
      let here : slice_get (f ∷ buffer) (cond (eqb f.a a) 0 (suc (oldest_of buffer a))) ≡ Some e = read in
      let is : f ≡ e = let first : slice_get (f ∷ buffer) 0 ≡ Some e = rw test at here in cc in
      ap (λ (x : Entry). x.a) (sym is) ∙ same
  | inr other ↦
      let test : eqb f.a a ≡ false = ne_eqb f.a a other in
      let here : slice_get (f ∷ buffer) (cond (eqb f.a a) 0 (suc (oldest_of buffer a))) ≡ Some e = read in
      let rest : slice_get buffer (oldest_of buffer a) ≡ Some e = rw test at here in
      oldest_has buffer a e rest
]

oldest_least : (buffer : List Entry) (a j : ℕ) (f : Entry) → j < oldest_of buffer a → slice_get buffer j ≡ Some f → f.a ≡ a → ⊥
oldest_least [] a j f less read to = absurd cc
oldest_least (e ∷ buffer) a j f less read to = by_test (cases_eq e.a a) j less read (λ i low at_i. oldest_least buffer a i f low at_i to)
  where
    by_test : (e.a ≡ a) ⊎ (e.a ≡ a → ⊥) → (i : ℕ) → i < oldest_of (e ∷ buffer) a → slice_get (e ∷ buffer) i ≡ Some f →
        ((i : ℕ) → i < oldest_of buffer a → slice_get buffer i ≡ Some f → ⊥) → ⊥
    by_test (inl same) i low at_i rest =
        let test : eqb e.a a ≡ true = eq-eqb e.a a same in
        let bound : i < cond (eqb e.a a) 0 (suc (oldest_of buffer a)) = low in
        let none : i < 0 = rw test at bound in
        omega (arith, none)
    by_test (inr other) zero low at_i rest = let is : e ≡ f = cc in other (ap (λ (x : Entry). x.a) is ∙ to)
    by_test (inr other) (suc i) low at_i rest =
        let test : eqb e.a a ≡ false = ne_eqb e.a a other in
        let bound : suc i < cond (eqb e.a a) 0 (suc (oldest_of buffer a)) = low in
        let less_rest : suc i < suc (oldest_of buffer a) = rw test at bound in
        rest i (omega (arith, less_rest)) at_i

-- No older entry holds back the one at place k: none at all under TSO, none to its address, none that comes after fewer STBARs.
abbrev pub IsFree : Order → List Entry → ℕ → Entry → Type 0
IsFree order buffer k e = (j : ℕ) (f : Entry) → j < k → slice_get buffer j ≡ Some f → (order ≡ Tso → ⊥) × (f.a ≡ e.a → ⊥) × (f.stbars < e.stbars → ⊥)

free_first : (order : Order) (buffer : List Entry) (e : Entry) → IsFree order buffer 0 e
free_first order buffer e j f less read = absurd (omega arith)

free_oldest : (order : Order) (buffer : List Entry) (a : ℕ) (e : Entry) → order ≡ Pso → slice_get buffer (oldest_of buffer a) ≡ Some e →
    ((j : ℕ) (f : Entry) → slice_get buffer j ≡ Some f → e.stbars ≤ f.stbars) → IsFree order buffer (oldest_of buffer a) e
free_oldest order buffer a e model oldest least j f less read = (
  λ tso. let both : Tso ≡ Pso = sym tso ∙ model in absurd cc,
  λ same. oldest_least buffer a j f less read (same ∙ oldest_has buffer a e oldest),
  λ fewer. omega (arith, fewer, least j f read),
)

-- ---- an event that memory takes

module _ (t : TraceValue) (past : ℕ) (p : ℕ) (l : Numbering) (buffer : List Entry) (stbars : ℕ) (left : List Outcome) (done : List ℕ)
    (numbered : IsNumbered t p l buffer stbars left past) (listed : (u : ℕ) (d : Event) → event_at t u ≡ Some d → d.proc ≡ p → IsListed done l u) where
  -- an issued event is listed or waits
  pub listed_or_waits : (u : ℕ) (d : Event) → event_at t u ≡ Some d → d.proc ≡ p → u < l.following → (0 < occurrences u done) ⊎ (0 < occurrences u l.waiting)
  listed_or_waits u d is proc less = by_cases (listed u d is proc)
    where
      by_cases : IsListed done l u → (0 < occurrences u done) ⊎ (0 < occurrences u l.waiting)
      by_cases (inl before) = elim (cases_lt 0 (occurrences u done)) [ inl here ↦ inl here | inr none ↦ inr (omega (arith, none, before.1)) ]
      by_cases (inr after) = absurd (omega (arith, after.0, less))

  -- no program-earlier event that waits is one whose order is kept
  abbrev NoneHeld : ℕ → Type 0
  NoneHeld n = (u j : ℕ) (f : Entry) → u < n → slice_get l.waiting j ≡ Some u → slice_get buffer j ≡ Some f → event_at t u ≡ Some (stored_event p numbered.bars f) → IsOrderKept t u n → ⊥

  after_kept_by : (whole later : List ℕ) (n : ℕ) (e : Event) → whole ≡ done ++ later → event_at t n ≡ Some e → e.proc ≡ p → occurrences n done ≡ 0 →
      ((u : ℕ) → u < n → (u < l.following) ⊎ IsUpTo whole u n) → NoneHeld n → (u : ℕ) → Earlier t u n → IsOrderKept t u n → IsUpTo whole u n
  after_kept_by whole later n e is at_n proc none below free u earlier kept = by_number (below u earlier.5)
    where
      of_p : earlier.0.proc ≡ p
      of_p = earlier.4 ∙ ap (λ (x : Event). x.proc) (event_unique t n earlier.1 e earlier.3 at_n) ∙ proc

      by_place : (0 < occurrences u done) ⊎ (0 < occurrences u l.waiting) → IsUpTo whole u n
      by_place (inl here) = subst (λ list. IsUpTo list u n) (sym is) (listed_up_to done later u n here none)
      by_place (inr waits) =
          let found = listed_at u l.waiting waits in
          let entry = entry_of_number t p numbered.bars l.following buffer l.waiting found.0 u numbered.waiting found.1 in
          absurd (free u found.0 entry.0 earlier.5 found.1 entry.1 entry.2 kept)

      by_number : (u < l.following) ⊎ IsUpTo whole u n → IsUpTo whole u n
      by_number (inl issued) = by_place (listed_or_waits u earlier.0 earlier.2 of_p issued)
      by_number (inr up_to) = up_to

  -- a load
  free_load : (n : ℕ) (e : Event) → event_at t n ≡ Some e → e.load ≡ true → e.bars ≡ numbered.bars → NoneHeld n
  free_load n e at_n load bars u j f less at_j read at_u (after_load is_load) = not_load t u (stored_event p numbered.bars f) at_u refl is_load
  free_load n e at_n load bars u j f less at_j read at_u (of_stores store is_store keeps) = not_store t n e at_n load is_store
  free_load n e at_n load bars u j f less at_j read at_u (past_stbar store is_store fewer) = not_store t n e at_n load is_store
  free_load n e at_n load bars u j f less at_j read at_u (past_membar store is_load fewer) =
      let first = ap (λ (x : Event). x.bars) (event_unique t u fewer.0 (stored_event p numbered.bars f) fewer.2 at_u) in
      let second = ap (λ (x : Event). x.bars) (event_unique t n fewer.1 e fewer.3 at_n) in
      omega (arith, first, second, bars, fewer.4)

  -- a store that leaves the buffer
  free_drain : (k n : ℕ) (e : Entry) → slice_get l.waiting k ≡ Some n → event_at t n ≡ Some (stored_event p numbered.bars e) →
      IsFree t.setting.order buffer k e → NoneHeld n
  free_drain k n e at_k at_n free u j f less at_j read at_u (after_load is_load) = not_load t u (stored_event p numbered.bars f) at_u refl is_load
  free_drain k n e at_k at_n free u j f less at_j read at_u (of_stores store is_store keeps) = by_model keeps
    where
      holds : (t.setting.order ≡ Tso → ⊥) × (f.a ≡ e.a → ⊥) × (f.stbars < e.stbars → ⊥)
      holds = free j f (rises t p numbered.bars l.following buffer l.waiting j k u n numbered.waiting at_j at_k less) read

      by_model : KeepsStores t u n → ⊥
      by_model (inl tso) = holds.0 tso
      by_model (inr same) =
          let first = ap (λ (x : Event). x.a) (event_unique t u same.0 (stored_event p numbered.bars f) same.2 at_u) in
          let second = ap (λ (x : Event). x.a) (event_unique t n same.1 (stored_event p numbered.bars e) same.3 at_n) in
          holds.1 (sym first ∙ same.4 ∙ second)
  free_drain k n e at_k at_n free u j f less at_j read at_u (past_stbar store is_store fewer) =
      let holds = free j f (rises t p numbered.bars l.following buffer l.waiting j k u n numbered.waiting at_j at_k less) read in
      let first = ap (λ (x : Event). x.stbars) (event_unique t u fewer.0 (stored_event p numbered.bars f) fewer.2 at_u) in
      let second = ap (λ (x : Event). x.stbars) (event_unique t n fewer.1 (stored_event p numbered.bars e) fewer.3 at_n) in
      holds.2 (omega (arith, first, second, fewer.4))
  free_drain k n e at_k at_n free u j f less at_j read at_u (past_membar store is_load fewer) = not_load t n (stored_event p numbered.bars e) at_n refl is_load

  free_swap : (n : ℕ) → buffer ≡ [] → NoneHeld n
  free_swap n empty u j f less at_j read at_u kept = let none : slice_get [] j ≡ Some f = ap (λ b. slice_get b j) (sym empty) ∙ read in absurd cc

  -- ---- by the kinds of steps

  pub load_placed : (whole later : List ℕ) (e : Event) → whole ≡ done ++ (l.following ∷ later) → event_at t l.following ≡ Some e → e.proc ≡ p → e.load ≡ true →
      e.swap ≡ false → e.bars ≡ numbered.bars → IsPlaced t whole l.following
  load_placed whole later e is at_n proc load no_swap bars =
      let n = l.following in
      record {
        after_kept = after_kept_by whole (n ∷ later) n e is at_n proc (unlisted_following done l n (omega arith) (listed n e at_n proc)) (λ u less. inl less) (free_load n e at_n load bars);
        swap = λ swap. absurd (not_swap t n e at_n no_swap swap);
      }

  pub drain_placed : (whole later : List ℕ) (k n : ℕ) (e : Entry) → whole ≡ done ++ (n ∷ later) → slice_get l.waiting k ≡ Some n →
      event_at t n ≡ Some (stored_event p numbered.bars e) → n < l.following → IsFree t.setting.order buffer k e → IsPlaced t whole n
  drain_placed whole later k n e is at_k at_n issued free =
      let d = stored_event p numbered.bars e in
      record {
        after_kept = after_kept_by whole (n ∷ later) n d is at_n refl (unlisted_waiting done l k n at_k (listed n d at_n refl)) (λ u less. inl (omega (arith, less, issued))) (free_drain k n e at_k at_n free);
        swap = λ swap. absurd (not_swap t n d at_n refl swap);
      }

  pub swap_placed : (whole later : List ℕ) (d e : Event) → whole ≡ done ++ (l.following ∷ (suc l.following ∷ later)) → buffer ≡ [] →
      event_at t l.following ≡ Some d → d.proc ≡ p → event_at t (suc l.following) ≡ Some e → e.proc ≡ p → e.load ≡ false →
      IsPlaced t whole l.following × IsPlaced t whole (suc l.following)
  swap_placed whole later d e is empty at_n proc_n at_m proc_m store =
      let n = l.following in
      let none = unlisted_following done l n (omega arith) (listed n d at_n proc_n) in
      let none_m = unlisted_following done l (suc n) (omega arith) (listed (suc n) e at_m proc_m) in
      let follows : place whole (suc n) ≡ suc (place whole n) =
      subst (λ list. place list (suc n) ≡ suc (place list n)) (sym is) (next_place done later n (suc n) none none_m (λ same. omega (arith, same))) in
      let below : (u : ℕ) → u < suc n → (u < l.following) ⊎ IsUpTo whole u (suc n) = λ u less. elim (cases_lt u n) [
        | inl issued ↦ inl issued
        | inr last ↦ inr (let same : u ≡ n = omega (arith, less, last) in subst (λ k. IsUpTo whole k (suc n)) (sym same) (omega (arith, follows)))
      ] in (
        record {
          after_kept = after_kept_by whole (n ∷ (suc n ∷ later)) n d is at_n proc_n none (λ u less. inl less) (free_swap n empty);
          swap = λ swap. follows;
        },
        record {
          after_kept = after_kept_by whole (n ∷ (suc n ∷ later)) (suc n) e is at_m proc_m none_m below (free_swap (suc n) empty);
          swap = λ swap. absurd (not_load t (suc n) e at_m store (swap.0, swap.1, swap.2));
        },
      )

  -- the event that a drain at place k takes
  pub drain_takes : (whole later : List ℕ) (k : ℕ) (e : Entry) → slice_get buffer k ≡ Some e → IsFree t.setting.order buffer k e →
      whole ≡ done ++ (option_to_list (slice_get l.waiting k) ++ later) → (n : ℕ) → 0 < occurrences n (option_to_list (slice_get l.waiting k)) → IsPlaced t whole n
  drain_takes whole later k e read free is n taken =
      let number = number_of_entry t p numbered.bars l.following buffer l.waiting k e numbered.waiting read in
      let x = number.0 in
      let here : 0 < occurrences n (x ∷ []) = subst (λ o. 0 < occurrences n (option_to_list o)) number.1 taken in
      let order_is : whole ≡ done ++ (x ∷ later) = subst (λ o. whole ≡ done ++ (option_to_list o ++ later)) number.1 is in
      subst (λ m. IsPlaced t whole m) (occurs-one n x here) (drain_placed whole later k x e order_is number.1 number.2 number.3 free)

  pub load_takes : (whole later : List ℕ) (e : Event) → whole ≡ done ++ (l.following ∷ later) → event_at t l.following ≡ Some e → e.proc ≡ p → e.load ≡ true →
      e.swap ≡ false → e.bars ≡ numbered.bars → (n : ℕ) → 0 < occurrences n (l.following ∷ []) → IsPlaced t whole n
  load_takes whole later e is at_n proc load no_swap bars n taken =
      subst (λ m. IsPlaced t whole m) (occurs-one n l.following taken) (load_placed whole later e is at_n proc load no_swap bars)

  pub swap_takes : (whole later : List ℕ) (d e : Event) → whole ≡ done ++ (l.following ∷ (suc l.following ∷ later)) → buffer ≡ [] →
      event_at t l.following ≡ Some d → d.proc ≡ p → event_at t (suc l.following) ≡ Some e → e.proc ≡ p → e.load ≡ false → (n : ℕ) →
      0 < occurrences n (l.following ∷ (suc l.following ∷ [])) → IsPlaced t whole n
  swap_takes whole later d e is empty at_n proc_n at_m proc_m store n taken =
      let both = swap_placed whole later d e is empty at_n proc_n at_m proc_m store in
      elim (cases_lt 0 (occurrences n (l.following ∷ []))) [
        | inl first ↦ subst (λ m. IsPlaced t whole m) (occurs-one n l.following first) both.0
        | inr other ↦
            subst (λ m. IsPlaced t whole m) (occurs-one n (suc l.following) (omega (arith, taken, other, occurrences-cons n l.following (suc l.following ∷ [])))) both.1
      ]

-- By the kind of the step.
step_placed : (z : Sizes) (t : TraceValue) (past : ℕ) (s : State) (step : Step) (l : Numbering) (left : List Outcome) (done whole later : List ℕ) →
    IsNumberedBefore t s step l left past →
    ((u : ℕ) (d : Event) → event_at t u ≡ Some d → d.proc ≡ proc_of step → IsListed done l u) → IsAllowedIn z t.setting.order s step →
    whole ≡ done ++ (ordered_by l s step ++ later) → (n : ℕ) → 0 < occurrences n (ordered_by l s step) → IsPlaced t whole n
step_placed z t past s (Store p a v) l left done whole later numbered listed allowed is n taken = absurd (omega (arith, taken))
step_placed z t past s (Drain p) l left done whole later numbered listed allowed is n taken =
    drain_takes t past p l (buffer_of s p) (stbars_of s p) left done numbered listed whole later 0 allowed.1.0 allowed.1.1
    (free_first t.setting.order (buffer_of s p) allowed.1.0) is n taken
step_placed z t past s (DrainAt p a) l left done whole later numbered listed allowed is n taken =
    drain_takes t past p l (buffer_of s p) (stbars_of s p) left done numbered listed whole later (oldest_of (buffer_of s p) a) allowed.2.0 allowed.2.1
    (free_oldest t.setting.order (buffer_of s p) a allowed.2.0 allowed.1 allowed.2.1 allowed.2.2) is n taken
step_placed z t past s (Load p a r) l left done whole later numbered listed allowed is n taken =
    load_takes t past p l (buffer_of s p) (stbars_of s p) (Ld a r ∷ left) done numbered listed whole later _ is numbered.follow.0 refl refl refl refl n taken
step_placed z t past s (Swap p a r v) l left done whole later numbered listed allowed is n taken =
    swap_takes t past p l (buffer_of s p) (stbars_of s p) (Sw a r v ∷ left) done numbered listed whole later _ _ is allowed.2 numbered.follow.0 refl numbered.follow.1.0 refl refl n taken
step_placed z t past s (Membar p) l left done whole later numbered listed allowed is n taken = absurd (omega (arith, taken))
step_placed z t past s (Stbar p) l left done whole later numbered listed allowed is n taken = absurd (omega (arith, taken))

-- Each event that memory takes in a run of the trace's model is placed so.
pub placed_where_taken : (z : Sizes) (t : TraceValue) (count : ℕ) (past : ℕ → ℕ) (whole : List ℕ) → HoldsWhereTaken z t count past t.setting.order whole (IsPlaced t whole)
placed_where_taken z t count past whole = record {
  at_step = λ numberings s done step left later allowed below moment is n taken.
      let p = proc_of step in
      step_placed z t (past p) s step (numberings p) (outcomes_of p left) done whole later (own_numbered z t count past numberings s done step left below moment)
      (λ u d at_u proc. subst (λ q. IsListed done (numberings q) u) proc (moment.listed u d at_u)) allowed is n taken;
}
