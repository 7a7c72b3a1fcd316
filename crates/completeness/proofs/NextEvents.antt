-- What the axioms say of the processor whose event comes next in the order: which stores wait in its buffer, and which operation it does next.
use Rattle.std.proofs.Common.{◌≡◌, ◌∙◌, inl, inr, sym, ap, refl, subst, ℕ, zero, suc, ◌+◌, ◌<◌, ◌≤◌, Bool, true, false, Some, List, [], ◌∷◌, ◌++◌, length, slice_get, arith}
use Rattle.std.proofs.lemmas.Bool.{cases_eq, cases_lt}
use Rattle.tso_ops.specs.declared.settings.Order.TheVariants.{Tso}
use Rattle.tso_ops.specs.declared.ops.Outcome.{Outcome}
use Rattle.tso_ops.specs.declared.ops.Outcome.TheVariants.{Ld, St, Sw, Mb, Sb}
use Rattle.tso_ops.specs.declared.events.Event.{Event}
use Rattle.tso_ops.specs.Values.{TraceValue}
use Rattle.tso_ops.specs.Events.{event_at, events_from, IsEvent, IsStore, IsSwapLoad, Earlier}
use Rattle.tso_ops.proofs.NumberFacts.{event_unique}
use Rattle.tso_model.specs.Axioms.{occurrences, place, IsUpTo, IsModelOrder}
use Rattle.tso_model.proofs.Places.{occurrences-later, place-here, place-later}
use Rattle.unit_core.specs.Machine.{Entry}
use Rattle.embedding.specs.RunOrder.{Numbering}
use Rattle.embedding.proofs.Buffers.{AreWaiting, all-at, number_of_entry, stored_event}
use Rattle.embedding.proofs.Moments.{Follow, IsListed, IsNumbered}
use Rattle.embedding.proofs.Places.{listed_at, occurrences-append, occurrences-cons, occurrences-one, place-past, up_to_next}
use Rattle.embedding.proofs.Steps.{unlisted_following}
use Rattle.order_check.proofs.ListFacts.{occurs_at}
use Rattle.completeness.specs.SwapsTogether.{HasSwapsTogether}
use Rattle.completeness.proofs.ReadValues.{of_waiting}
use Rattle.completeness.proofs.SwapSpans.{strictly}

-- the first number that waits is less than the others
first_waits : (t : TraceValue) (p bars past : ℕ) (buffer : List Entry) (numbers : List ℕ) (j n : ℕ) → AreWaiting t p bars past buffer numbers →
    slice_get numbers (suc j) ≡ Some n → (m : ℕ) × (slice_get numbers 0 ≡ Some m) × (m < n)
first_waits t p bars past buffer [] j n waiting read = absurd cc
first_waits t p bars past [] (x ∷ numbers) j n waiting read = absurd waiting
first_waits t p bars past (f ∷ buffer) (x ∷ numbers) j n waiting read = (x, refl, all-at x numbers j n waiting.2 read)

-- the events that follow have no fewer barriers before them
bars_after : (t : TraceValue) (p bars stbars : ℕ) (ops : List Outcome) (x n : ℕ) (e : Event) → Follow t x (events_from p bars stbars ops) → x ≤ n →
    n < x + length (events_from p bars stbars ops) → event_at t n ≡ Some e → bars ≤ e.bars
bars_after t p bars stbars [] x n e follow low high is = absurd (omega (arith, low, high))
bars_after t p bars stbars (Ld a r ∷ ops) x n e follow low high is = elim (cases_eq x n) [
  | inl same ↦ omega (arith, ap (λ (d : Event). d.bars) (event_unique t x _ e follow.0 (subst (λ k. event_at t k ≡ Some e) (sym same) is)))
  | inr other ↦ bars_after t p bars stbars ops (suc x) n e follow.1 (omega (arith, low, other)) (omega (arith, high)) is
]
bars_after t p bars stbars (St a v ∷ ops) x n e follow low high is = elim (cases_eq x n) [
  | inl same ↦ omega (arith, ap (λ (d : Event). d.bars) (event_unique t x _ e follow.0 (subst (λ k. event_at t k ≡ Some e) (sym same) is)))
  | inr other ↦ bars_after t p bars stbars ops (suc x) n e follow.1 (omega (arith, low, other)) (omega (arith, high)) is
]
bars_after t p bars stbars (Sw a r v ∷ ops) x n e follow low high is = elim (cases_eq x n) [
  | inl same ↦ omega (arith, ap (λ (d : Event). d.bars) (event_unique t x _ e follow.0 (subst (λ k. event_at t k ≡ Some e) (sym same) is)))
  | inr other ↦ elim (cases_eq (suc x) n) [
    | inl same ↦ omega (arith, ap (λ (d : Event). d.bars) (event_unique t (suc x) _ e follow.1.0 (subst (λ k. event_at t k ≡ Some e) (sym same) is)))
    | inr apart ↦ bars_after t p bars stbars ops (suc (suc x)) n e follow.1.1 (omega (arith, low, other, apart)) (omega (arith, high)) is
  ]
]
bars_after t p bars stbars (Mb ∷ ops) x n e follow low high is =
    let more = bars_after t p (suc bars) stbars ops x n e follow low high is in omega (arith, more)
bars_after t p bars stbars (Sb ∷ ops) x n e follow low high is = bars_after t p bars (suc stbars) ops x n e follow low high is

-- a number at the first place is the list's first
first_of : (n : ℕ) (xs : List ℕ) → 0 < occurrences n xs → place xs n ≡ 0 → (rest : List ℕ) × (xs ≡ n ∷ rest)
first_of n [] listed first = absurd (omega (arith, listed))
first_of n (x ∷ xs) listed first = elim (cases_eq x n) [
  | inl same ↦ (xs, ap (λ k. k ∷ xs) same)
  | inr other ↦ absurd (omega (arith, first, place-later x xs n other))
]

module _ (t : TraceValue) (past p : ℕ) (l : Numbering) (buffer : List Entry) (stbars : ℕ) (ops : List Outcome) (done : List ℕ)
    (numbered : IsNumbered t p l buffer stbars ops past) (listed : (u : ℕ) (d : Event) → event_at t u ≡ Some d → d.proc ≡ p → IsListed done l u) where
  -- a buffer in which no number waits is empty
  pub buffer_empty : ((m : ℕ) → 0 < occurrences m l.waiting → ⊥) → buffer ≡ []
  buffer_empty none = by_entries buffer refl
    where
      by_entries : (entries : List Entry) → buffer ≡ entries → buffer ≡ []
      by_entries [] is = is
      by_entries (f ∷ more) is =
          let read : slice_get buffer 0 ≡ Some f = ap (λ b. slice_get b 0) is in
          let number = number_of_entry t p numbered.bars l.following buffer l.waiting 0 f numbered.waiting read in
          absurd (none number.0 (occurs_at l.waiting 0 number.0 number.1))

  module _ (whole later : List ℕ) (axioms : IsModelOrder t whole) (is : whole ≡ done ++ later) where
    -- an event that isn't listed is one of those to come
    pub to_come : (u : ℕ) → IsEvent t u → occurrences u done ≡ 0 → 0 < occurrences u later
    to_come u event none = omega (arith, axioms.memory_order.once u event, ap (occurrences u) is, occurrences-append u done later, none)

    pub waiting_to_come : (m : ℕ) → 0 < occurrences m l.waiting → 0 < occurrences m later
    waiting_to_come m waits =
        let store = of_waiting t past p l buffer stbars ops done numbered listed m waits in
        to_come m (stored_event p numbered.bars store.0, store.1) store.3

    pub following_to_come : (d : Event) → event_at t l.following ≡ Some d → d.proc ≡ p → 0 < occurrences l.following later
    following_to_come d at proc =
        to_come l.following (d, at) (unlisted_following done l l.following (omega arith) (listed l.following d at proc))

  module _ (whole rest : List ℕ) (axioms : IsModelOrder t whole) (tso : t.setting.order ≡ Tso) (n : ℕ) (is : whole ≡ done ++ (n ∷ rest)) (e : Event)
      (at_n : event_at t n ≡ Some e) (proc : e.proc ≡ p) where
    unlisted : occurrences n done ≡ 0
    unlisted =
        omega (
          arith,
          axioms.memory_order.once n (e, at_n),
          ap (occurrences n) is,
          occurrences-append n done (n ∷ rest),
          occurrences-cons n n rest,
          occurrences-one n,
        )

    -- what isn't listed, and stands no later than the next event, is that
    first_left : (u : ℕ) → IsUpTo whole u n → occurrences u done ≡ 0 → u ≡ n
    first_left u up_to none = elim (up_to_next done rest u n unlisted (subst (λ list. IsUpTo list u n) is up_to)) [
      | inl same ↦ same
      | inr in_done ↦ absurd (omega (arith, in_done, none))
    ]

    -- a number that waits is a store, and program-earlier than the later events of the processor
    waiting_earlier : (m u : ℕ) (d : Event) → 0 < occurrences m l.waiting → event_at t u ≡ Some d → d.proc ≡ p → m < u → Earlier t m u
    waiting_earlier m u d waits at proc_u less =
        let store = of_waiting t past p l buffer stbars ops done numbered listed m waits in
        (stored_event p numbered.bars store.0, d, store.1, at, sym proc_u, less)

    waiting_store : (m : ℕ) → 0 < occurrences m l.waiting → IsStore t m
    waiting_store m waits =
        let store = of_waiting t past p l buffer stbars ops done numbered listed m waits in (stored_event p numbered.bars store.0, store.1, refl)

    waiting_unlisted : (m : ℕ) → 0 < occurrences m l.waiting → occurrences m done ≡ 0
    waiting_unlisted m waits = (of_waiting t past p l buffer stbars ops done numbered listed m waits).3

    waiting_below : (m : ℕ) → 0 < occurrences m l.waiting → m < l.following
    waiting_below m waits = (of_waiting t past p l buffer stbars ops done numbered listed m waits).2

    -- if the next event waits, it is the oldest
    pub oldest : 0 < occurrences n l.waiting → slice_get l.waiting 0 ≡ Some n
    oldest waits = by_place found.0 found.1
      where
        found : (k : ℕ) × (slice_get l.waiting k ≡ Some n)
        found = listed_at n l.waiting waits

        by_place : (k : ℕ) → slice_get l.waiting k ≡ Some n → slice_get l.waiting 0 ≡ Some n
        by_place zero read = read
        by_place (suc j) read =
            let first = first_waits t p numbered.bars l.following buffer l.waiting j n numbered.waiting read in
            let m = first.0 in
            let less : m < n = first.2 in
            let in_buffer = occurs_at l.waiting 0 m first.1 in
            let up_to = axioms.store_store m n (waiting_store m in_buffer) (waiting_store n waits) (waiting_earlier m n e in_buffer at_n proc less) (inl tso) in
            let same : m ≡ n = first_left m up_to (waiting_unlisted m in_buffer) in
            absurd (omega (arith, same, less))

    -- if it comes after a further barrier, none waits
    pub none_waits_at_barrier : l.following ≤ n → suc numbered.bars ≤ e.bars → (m : ℕ) → 0 < occurrences m l.waiting → ⊥
    none_waits_at_barrier low more m waits = by_kind e.load refl
      where
        below : m < l.following
        below = waiting_below m waits

        earlier : Earlier t m n
        earlier = waiting_earlier m n e waits at_n proc (omega (arith, below, low))

        held : IsUpTo whole m n → ⊥
        held up_to = let same : m ≡ n = first_left m up_to (waiting_unlisted m waits) in omega (arith, same, below, low)

        by_kind : (load : Bool) → e.load ≡ load → ⊥
        by_kind true load =
            let store = of_waiting t past p l buffer stbars ops done numbered listed m waits in
            held (axioms.membar m n (waiting_store m waits) (e, at_n, load) earlier (stored_event p numbered.bars store.0, e, store.1, at_n, omega (arith, more)))
        by_kind false store = held (axioms.store_store m n (waiting_store m waits) (e, at_n, store) earlier (inl tso))

    -- a load that the processor does next is the next event
    pub load_is_next : (d : Event) → event_at t l.following ≡ Some d → d.proc ≡ p → d.load ≡ true → l.following ≤ n → l.following ≡ n
    load_is_next d at proc_d load low = elim (cases_lt l.following n) [
      | inl less ↦
          first_left l.following
          (axioms.load_op l.following n (d, at, load) (d, e, at, at_n, proc_d ∙ sym proc, less))
          (unlisted_following done l l.following (omega arith) (listed l.following d at proc_d))
      | inr more ↦ omega (arith, low, more)
    ]

    module _ (together : HasSwapsTogether t whole) (here : l.following ≡ n) (swap : IsSwapLoad t n) (d : Event) (at_m : event_at t (suc n) ≡ Some d)
        (proc_d : d.proc ≡ p) (store : d.load ≡ false) where
      unlisted_store : occurrences (suc n) done ≡ 0
      unlisted_store = unlisted_following done l (suc n) (omega (arith, here)) (listed (suc n) d at_m proc_d)

      -- a swap's store follows its load in the order
      pub swap_store_next : (more : List ℕ) × (rest ≡ suc n ∷ more)
      swap_store_next =
          let apart : n ≡ suc n → ⊥ = λ same. omega (arith, same) in
          let place_n : place whole n ≡ length done + place (n ∷ rest) n = ap (λ list. place list n) is ∙ place-past n done (n ∷ rest) unlisted in
          let place_m : place whole (suc n) ≡ length done + place (n ∷ rest) (suc n) =
          ap (λ list. place list (suc n)) is ∙ place-past (suc n) done (n ∷ rest) unlisted_store in
          let first : place rest (suc n) ≡ 0 = omega (arith, place_n, place_m, place-here n rest n refl, place-later n rest (suc n) apart, together n swap) in
          let some : 0 < occurrences (suc n) (n ∷ rest) = to_come whole (n ∷ rest) axioms is (suc n) (d, at_m) unlisted_store in
          first_of (suc n) rest (subst (λ k. 0 < k) (occurrences-later (suc n) n rest apart) some) first

      -- no store waits at a swap
      pub none_waits_at_swap : (m : ℕ) → 0 < occurrences m l.waiting → ⊥
      none_waits_at_swap m waits =
          let below : m < l.following = waiting_below m waits in
          let up_to = axioms.store_store m (suc n) (waiting_store m waits) (d, at_m, store) (waiting_earlier m (suc n) d waits at_m proc_d (omega (arith, below, here))) (inl tso) in
          let less : place whole m < place whole (suc n) = strictly t whole axioms m (suc n) (d, at_m) (λ same. omega (arith, same, below, here)) up_to in
          let same : m ≡ n = first_left m (omega (arith, less, together n swap)) (waiting_unlisted m waits) in
          omega (arith, same, below, here)

    -- a barrier that the processor does next comes before the next event
    pub barrier_before : (later_ops : List Outcome) → ops ≡ Mb ∷ later_ops → l.following ≤ n → n < past → suc numbered.bars ≤ e.bars
    barrier_before later_ops first low high =
        let follow : Follow t l.following (events_from p numbered.bars stbars (Mb ∷ later_ops)) =
        subst (λ list. Follow t l.following (events_from p numbered.bars stbars list)) first numbered.follow in
        let long : length (events_from p numbered.bars stbars ops) ≡ length (events_from p numbered.bars stbars (Mb ∷ later_ops)) =
        ap (λ list. length (events_from p numbered.bars stbars list)) first in
        bars_after t p (suc numbered.bars) stbars later_ops l.following n e follow low (omega (arith, high, numbered.whole, long)) at_n
