-- What a load of a run reads: the value of the greatest store that it sees in the run's order.
use Rattle.std.proofs.Common.{◌≡◌, ◌∙◌, ◌⊎◌, inl, inr, sym, ap, refl, subst, ℕ, suc, ◌<◌, ◌≤◌, true, false, Some, List, [], ◌∷◌, ◌++◌, slice_get, slice_index, cond, eqb, arith}
use Rattle.std.specs.Option.{option_to_list}
use Rattle.std.specs.List.{AllByRecursion}
use Rattle.std.proofs.lemmas.Bool.{cases_eq, cases_lt, eq-eqb, ne_eqb}
use Rattle.tso_ops.specs.declared.ops.Outcome.{Outcome}
use Rattle.tso_ops.specs.declared.ops.Outcome.TheVariants.{Ld, Sw}
use Rattle.tso_ops.specs.declared.events.Event.{Event}
use Rattle.tso_ops.specs.Settings.{first_value}
use Rattle.tso_ops.specs.Values.{TraceValue}
use Rattle.tso_ops.specs.Events.{event_at, IsLoad, IsStore, IsStoreTo, HasValue, Earlier, SameAddress, SameValue}
use Rattle.tso_model.specs.Axioms.{occurrences, IsUpTo, IsVisible, ReadsGreatest}
use Rattle.tso_model.proofs.Places.{occurrences-cons, place-listed}
use Rattle.tso_ops.proofs.NumberFacts.{event_unique}
use Rattle.unit_core.specs.declared.steps.Step.{Step}
use Rattle.unit_core.specs.declared.steps.Step.TheVariants.{Store, Drain, DrainAt, Load, Swap, Membar, Stbar}
use Rattle.unit_core.specs.Machine.{Entry, State, buffer_of, newest, oldest_of, outcomes_of, proc_of, stbars_of}
use Rattle.embedding.specs.Sizes.{Sizes, IsAllowedIn}
use Rattle.embedding.specs.RunOrder.{Numbering, ordered_by}
use Rattle.embedding.proofs.Buffers.{AreWaiting, all-at, entry_of_number, number_of_entry, stored_event}
use Rattle.embedding.proofs.Kept.{listed_or_waits, not_load, not_store}
use Rattle.embedding.proofs.Moments.{IsLastValue, IsListed, IsNumbered, IsNumberedBefore}
use Rattle.embedding.proofs.Places.{listed_at, listed_up_to, occurs-one, occurrences-one, up_to_next}
use Rattle.embedding.proofs.Steps.{own_numbered, unlisted_following}
use Rattle.embedding.proofs.Walk.{HoldsWhereTaken}

-- What the newest entry of the address is: none of these numbers is a store to it, or the greatest of them that is one.
abbrev pub IsNewest : TraceValue → List ℕ → ℕ → ℕ → ℕ → Type 0
IsNewest t numbers a else_value value =
    ((value ≡ else_value) × ((m : ℕ) → 0 < occurrences m numbers → IsStoreTo t a m → ⊥))
    ⊎ ((n : ℕ) × (0 < occurrences n numbers) × IsStoreTo t a n × HasValue t n value × ((m : ℕ) → 0 < occurrences m numbers → IsStoreTo t a m → m ≤ n))

module _ (t : TraceValue) (p bars past : ℕ) (a : ℕ) where
  -- one older entry
  newest_more : (e : Entry) (n : ℕ) (numbers : List ℕ) (v value : ℕ) → event_at t n ≡ Some (stored_event p bars e) → AllByRecursion (λ m. n < m) numbers →
      IsNewest t numbers a (cond (eqb e.a a) e.v v) value → IsNewest t (n ∷ numbers) a v value
  newest_more e n numbers v value is above (inr some) = inr (
    some.0,
    omega (arith, some.1, occurrences-cons some.0 n numbers),
    some.2,
    some.3,
    λ m listed store. elim (cases_lt 0 (occurrences m numbers)) [
      | inl in_rest ↦ some.4 m in_rest store
      | inr unlisted ↦
          let same : n ≡ m = occurs-one m n (omega (arith, listed, unlisted, occurrences-cons m n numbers)) in
          let found = listed_at some.0 numbers some.1 in
          let less : n < some.0 = all-at n numbers found.0 some.0 above found.1 in
          omega (arith, same, less)
    ],
  )
  newest_more e n numbers v value is above (inl none) = elim (cases_eq e.a a) [
    | inl same ↦
        let test : eqb e.a a ≡ true = eq-eqb e.a a same in
        let here : value ≡ e.v = none.0 ∙ ap (λ b. cond b e.v v) test in
        inr (
          n,
          omega (arith, occurrences-cons n n numbers, occurrences-one n),
          (stored_event p bars e, is, refl, same),
          (stored_event p bars e, is, sym here),
          λ m listed store. elim (cases_lt 0 (occurrences m numbers)) [
            | inl in_rest ↦ absurd (none.1 m in_rest store)
            | inr unlisted ↦ let one : n ≡ m = occurs-one m n (omega (arith, listed, unlisted, occurrences-cons m n numbers)) in omega (arith, one)
          ],
        )
    | inr other ↦
        let test : eqb e.a a ≡ false = ne_eqb e.a a other in
        inl (
          none.0 ∙ ap (λ b. cond b e.v v) test,
          λ m listed store. elim (cases_lt 0 (occurrences m numbers)) [
            | inl in_rest ↦ none.1 m in_rest store
            | inr unlisted ↦
                let one : n ≡ m = occurs-one m n (omega (arith, listed, unlisted, occurrences-cons m n numbers)) in
                let at_m : event_at t m ≡ Some (stored_event p bars e) = subst (λ k. event_at t k ≡ Some (stored_event p bars e)) one is in
                let event = event_unique t m store.0 (stored_event p bars e) store.1 at_m in
                other (sym (ap (λ (x : Event). x.a) event) ∙ store.3)
          ],
        )
  ]

  pub newest_of : (buffer : List Entry) (numbers : List ℕ) (v : ℕ) → AreWaiting t p bars past buffer numbers → IsNewest t numbers a v (newest buffer a v)
  newest_of [] [] v waiting = inl (refl, λ m listed store. absurd (omega (arith, listed)))
  newest_of [] (n ∷ numbers) v waiting = absurd waiting
  newest_of (e ∷ buffer) [] v waiting = absurd waiting
  newest_of (e ∷ buffer) (n ∷ numbers) v waiting =
      newest_more e n numbers v (newest (e ∷ buffer) a v) waiting.0 waiting.2 (newest_of buffer numbers (cond (eqb e.a a) e.v v) waiting.3)

-- the stores that the next load of a processor sees
module _ (t : TraceValue) (past p : ℕ) (l : Numbering) (buffer : List Entry) (stbars : ℕ) (left : List Outcome) (done : List ℕ)
    (numbered : IsNumbered t p l buffer stbars left past) (listed : (u : ℕ) (d : Event) → event_at t u ≡ Some d → d.proc ≡ p → IsListed done l u)
    (whole later : List ℕ) (is : whole ≡ done ++ (l.following ∷ later)) (a : ℕ) (e : Event)
    (at_n : event_at t l.following ≡ Some e) (proc : e.proc ≡ p) (load : e.load ≡ true) (to : e.a ≡ a) where
  pub unlisted : occurrences l.following done ≡ 0
  unlisted = unlisted_following done l l.following (omega arith) (listed l.following e at_n proc)

  -- a store that the load sees is to its address, and is listed or waits
  pub seen : (s : ℕ) → IsVisible t whole s l.following → IsStoreTo t a s × ((0 < occurrences s done) ⊎ (0 < occurrences s l.waiting))
  seen s visible = ((visible.0.0, visible.0.1, visible.0.2, address), by_way visible.2)
    where
      address : visible.0.0.a ≡ a
      address =
          let same = visible.1 in
          ap (λ (x : Event). x.a) (event_unique t s visible.0.0 same.0 visible.0.1 same.2) ∙ same.4
          ∙ ap (λ (x : Event). x.a) (event_unique t l.following same.1 e same.3 at_n) ∙ to

      by_way : IsUpTo whole s l.following ⊎ Earlier t s l.following → (0 < occurrences s done) ⊎ (0 < occurrences s l.waiting)
      by_way (inl up_to) = elim (up_to_next done later s l.following unlisted (subst (λ list. IsUpTo list s l.following) is up_to)) [
        | inl same ↦ absurd (not_store t l.following e at_n load (subst (λ k. IsStore t k) same visible.0))
        | inr in_done ↦ inl in_done
      ]
      by_way (inr earlier) =
          listed_or_waits t past p l buffer stbars left done numbered listed s earlier.0 earlier.2
          (earlier.4 ∙ ap (λ (x : Event). x.proc) (event_unique t l.following earlier.1 e earlier.3 at_n) ∙ proc) earlier.5

  -- a store to the address has the address of the load
  pub to_load : (s : ℕ) → IsStoreTo t a s → SameAddress t s l.following
  to_load s store = (store.0, e, store.1, at_n, store.3 ∙ sym to)

-- the order has a processor's stores to one address as the processor made them
pub record KeepsAddresses (t : TraceValue) (whole : List ℕ) : Type 0 where
  pub up_to : (u v : ℕ) → IsStore t u → IsStore t v → Earlier t u v → SameAddress t u v → IsUpTo whole u v

module _ (t : TraceValue) (past p : ℕ) (l : Numbering) (buffer : List Entry) (stbars : ℕ) (left : List Outcome) (done : List ℕ)
    (numbered : IsNumbered t p l buffer stbars left past) (listed : (u : ℕ) (d : Event) → event_at t u ≡ Some d → d.proc ≡ p → IsListed done l u)
    (whole later : List ℕ) (keeps : KeepsAddresses t whole) (is : whole ≡ done ++ (l.following ∷ later)) (a : ℕ) (e : Event)
    (at_n : event_at t l.following ≡ Some e) (proc : e.proc ≡ p) (load : e.load ≡ true) (to : e.a ≡ a) where
  value_of_load : (s v : ℕ) → HasValue t s v → e.value ≡ v → SameValue t s l.following
  value_of_load s v has value = (has.0, e, has.1, at_n, has.2 ∙ sym value)

  -- a number that waits is a store of the processor, issued before
  of_waiting : (n : ℕ) → 0 < occurrences n l.waiting → (f : Entry) × (event_at t n ≡ Some (stored_event p numbered.bars f)) × (n < l.following)
  of_waiting n waits =
      let found = listed_at n l.waiting waits in
      let entry = entry_of_number t p numbered.bars l.following buffer l.waiting found.0 n numbered.waiting found.1 in
      (entry.0, entry.2, entry.3)

  -- of two stores to the address that wait, the greater number's comes later in the order
  waiting_up_to : (m n : ℕ) → 0 < occurrences m l.waiting → 0 < occurrences n l.waiting → IsStoreTo t a m → IsStoreTo t a n → m ≤ n → IsUpTo whole m n
  waiting_up_to m n waits_m waits_n store_m store_n up = elim (cases_eq m n) [
    | inl same ↦ subst (λ k. IsUpTo whole m k) same (omega arith)
    | inr other ↦
        let first = of_waiting m waits_m in
        let second = of_waiting n waits_n in
        keeps.up_to m n (store_m.0, store_m.1, store_m.2) (store_n.0, store_n.1, store_n.2)
        (stored_event p numbered.bars first.0, stored_event p numbered.bars second.0, first.1, second.1, refl, omega (arith, up, other))
        (store_m.0, store_n.0, store_m.1, store_n.1, store_m.3 ∙ sym store_n.3)
  ]

  -- a store that waits comes after those that are listed
  listed_before_waiting : (m n : ℕ) → 0 < occurrences m done → 0 < occurrences n l.waiting → IsUpTo whole m n
  listed_before_waiting m n in_done waits =
      let entry = of_waiting n waits in
      let none : occurrences n done ≡ 0 = elim (listed n (stored_event p numbered.bars entry.0) entry.1 refl) [
        | inl before ↦ omega (arith, before.1, waits)
        | inr after ↦ omega (arith, after.1)
      ] in
      subst (λ list. IsUpTo list m n) (sym is) (listed_up_to done (l.following ∷ later) m n in_done none)

  -- the load reads an own store that waits
  reads_own : (n : ℕ) → 0 < occurrences n l.waiting → IsStoreTo t a n → HasValue t n e.value →
      ((m : ℕ) → 0 < occurrences m l.waiting → IsStoreTo t a m → m ≤ n) → ReadsGreatest t whole l.following
  reads_own n waits store value greatest =
      let entry = of_waiting n waits in
      inr (
        n,
        (
          (store.0, store.1, store.2),
          to_load t past p l buffer stbars left done numbered listed whole later is a e at_n proc load to n store,
          inr (stored_event p numbered.bars entry.0, e, entry.1, at_n, sym proc, entry.2),
        ),
        value_of_load n e.value value refl,
        λ other visible.
            let found = seen t past p l buffer stbars left done numbered listed whole later is a e at_n proc load to other visible in
            elim found.1 [
              | inl in_done ↦ listed_before_waiting other n in_done waits
              | inr in_buffer ↦ waiting_up_to other n in_buffer waits found.0 store (greatest other in_buffer found.0)
            ],
      )

  -- the load reads memory
  reads_memory : ((m : ℕ) → 0 < occurrences m l.waiting → IsStoreTo t a m → ⊥) → IsLastValue t done a e.value → ReadsGreatest t whole l.following
  reads_memory none (inl first) = inl (
    (e, at_n, first.0 ∙ ap (first_value t.setting.first) (sym to)),
    λ s visible.
        let found = seen t past p l buffer stbars left done numbered listed whole later is a e at_n proc load to s visible in
        elim found.1 [
          | inl in_done ↦ omega (arith, in_done, first.1 s found.0)
          | inr waits ↦ none s waits found.0
        ],
  )
  reads_memory none (inr last) =
      let n = last.0 in
      let at_last = place-listed n done (l.following ∷ later) last.3 in
      inr (
        n,
        (
          (last.1.0, last.1.1, last.1.2),
          to_load t past p l buffer stbars left done numbered listed whole later is a e at_n proc load to n last.1,
          inl (subst (λ list. IsUpTo list n l.following) (sym is) (listed_up_to done (l.following ∷ later) n l.following last.3 (unlisted t past p l buffer stbars left done numbered listed whole later is a e at_n proc load to))),
        ),
        value_of_load n e.value last.2 refl,
        λ other visible.
            let found = seen t past p l buffer stbars left done numbered listed whole later is a e at_n proc load to other visible in
            elim found.1 [
              | inl in_done ↦
                  let at_other = place-listed other done (l.following ∷ later) in_done in
                  subst (λ list. IsUpTo list other n) (sym is) (omega (arith, at_last.0, at_other.0, last.4 other found.0 in_done))
              | inr waits ↦ absurd (none other waits found.0)
            ],
      )

  pub reads_seen : (word : ℕ) → IsLastValue t done a word → e.value ≡ newest buffer a word → ReadsGreatest t whole l.following
  reads_seen word last value = by_newest (newest_of t p numbered.bars l.following a buffer l.waiting word numbered.waiting)
    where
      by_newest : IsNewest t l.waiting a word (newest buffer a word) → ReadsGreatest t whole l.following
      by_newest (inl memory) = reads_memory memory.1 (subst (λ v. IsLastValue t done a v) (sym (value ∙ memory.0)) last)
      by_newest (inr own) = reads_own own.0 own.1 own.2 (subst (λ v. HasValue t own.0 v) (sym value) own.3) own.4

-- memory takes a store, so no load
reads_none : (t : TraceValue) (whole : List ℕ) (x n : ℕ) (e : Event) → event_at t x ≡ Some e → e.load ≡ false → x ≡ n → IsLoad t n → ReadsGreatest t whole n
reads_none t whole x n e is store same load = absurd (not_load t x e is store (subst (λ m. IsLoad t m) (sym same) load))

drain_reads : (t : TraceValue) (past p : ℕ) (l : Numbering) (buffer : List Entry) (stbars : ℕ) (left : List Outcome) (whole : List ℕ) (k : ℕ) (e : Entry) →
    IsNumbered t p l buffer stbars left past → slice_get buffer k ≡ Some e → (n : ℕ) → 0 < occurrences n (option_to_list (slice_get l.waiting k)) → IsLoad t n →
    ReadsGreatest t whole n
drain_reads t past p l buffer stbars left whole k e numbered read n taken load =
    let number = number_of_entry t p numbered.bars l.following buffer l.waiting k e numbered.waiting read in
    let x = number.0 in
    let here : 0 < occurrences n (x ∷ []) = subst (λ o. 0 < occurrences n (option_to_list o)) number.1 taken in
    reads_none t whole x n (stored_event p numbered.bars e) number.2 refl (occurs-one n x here) load

-- By the kind of the step.
step_reads : (z : Sizes) (t : TraceValue) (past : ℕ) (s : State) (step : Step) (l : Numbering) (left : List Outcome) (done whole later : List ℕ) → KeepsAddresses t whole →
    IsNumberedBefore t s step l left past →
    ((u : ℕ) (d : Event) → event_at t u ≡ Some d → d.proc ≡ proc_of step → IsListed done l u) → IsAllowedIn z t.setting.order s step →
    ((a : ℕ) → a < z.words → IsLastValue t done a (slice_index s.memory a)) →
    whole ≡ done ++ (ordered_by l s step ++ later) → (n : ℕ) → 0 < occurrences n (ordered_by l s step) → IsLoad t n → ReadsGreatest t whole n
step_reads z t past s (Store p a v) l left done whole later keeps numbered listed allowed memory is n taken load = absurd (omega (arith, taken))
step_reads z t past s (Drain p) l left done whole later keeps numbered listed allowed memory is n taken load =
    drain_reads t past p l (buffer_of s p) (stbars_of s p) left whole 0 allowed.1.0 numbered allowed.1.1 n taken load
step_reads z t past s (DrainAt p a) l left done whole later keeps numbered listed allowed memory is n taken load =
    drain_reads t past p l (buffer_of s p) (stbars_of s p) left whole (oldest_of (buffer_of s p) a) allowed.2.0 numbered allowed.2.1 n taken load
step_reads z t past s (Load p a r) l left done whole later keeps numbered listed allowed memory is n taken load =
    subst (λ m. ReadsGreatest t whole m) (occurs-one n l.following taken)
    (reads_seen t past p l (buffer_of s p) (stbars_of s p) (Ld a r ∷ left) done numbered listed whole later keeps is a _ numbered.follow.0 refl refl refl
    (slice_index s.memory a) (memory a allowed.1) allowed.2)
step_reads z t past s (Swap p a r v) l left done whole later keeps numbered listed allowed memory is n taken load =
    elim (cases_lt 0 (occurrences n (l.following ∷ []))) [
      | inl first ↦
          subst (λ m. ReadsGreatest t whole m) (occurs-one n l.following first)
          (reads_seen t past p l (buffer_of s p) (stbars_of s p) (Sw a r v ∷ left) done numbered listed whole (suc l.following ∷ later) keeps is a _ numbered.follow.0 refl refl refl
          (slice_index s.memory a) (memory a allowed.1) (allowed.3 ∙ ap (λ b. newest b a (slice_index s.memory a)) (sym allowed.2)))
      | inr other ↦
          let same = occurs-one n (suc l.following) (omega (arith, taken, other, occurrences-cons n l.following (suc l.following ∷ []))) in
          reads_none t whole (suc l.following) n _ numbered.follow.1.0 refl same load
    ]
step_reads z t past s (Membar p) l left done whole later keeps numbered listed allowed memory is n taken load = absurd (omega (arith, taken))
step_reads z t past s (Stbar p) l left done whole later keeps numbered listed allowed memory is n taken load = absurd (omega (arith, taken))

-- Each load that memory takes in a run reads the value of the greatest store that it sees.
pub reads_where_taken : (z : Sizes) (t : TraceValue) (count : ℕ) (past : ℕ → ℕ) (whole : List ℕ) → KeepsAddresses t whole →
    HoldsWhereTaken z t count past t.setting.order whole (λ n. IsLoad t n → ReadsGreatest t whole n)
reads_where_taken z t count past whole keeps = record {
  at_step = λ numberings s done step left later allowed below moment is n taken.
      let p = proc_of step in
      step_reads z t (past p) s step (numberings p) (outcomes_of p left) done whole later keeps (own_numbered z t count past numberings s done step left below moment)
      (λ u d at_u proc. subst (λ q. IsListed done (numberings q) u) proc (moment.listed u d at_u)) allowed moment.memory is n taken;
}
