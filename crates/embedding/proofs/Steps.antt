-- A step leads from one moment of a run to the next.
use Rattle.std.proofs.Common.{◌≡◌, ◌∙◌, inl, inr, sym, ap, refl, subst, ℕ, suc, ◌+◌, ◌<◌, ◌≤◌, true, false, Some, List, [], ◌∷◌, ◌++◌, length, append_assoc, get_or, set, slice_get, slice_index, arith}
use Rattle.std.specs.List.{remove}
use Rattle.std.specs.Option.{option_to_list}
use Rattle.std.proofs.lemmas.Bool.{cases_eq, cases_lt}
use Rattle.std.proofs.lemmas.List.{append-nil, get_or-set_same, get_or-set_other}
use Rattle.tso_ops.specs.declared.settings.Order.{Order}
use Rattle.tso_ops.specs.declared.ops.Outcome.{Outcome}
use Rattle.tso_ops.specs.declared.events.Event.{Event}
use Rattle.tso_ops.specs.Values.{TraceValue}
use Rattle.tso_ops.specs.Events.{event_at, IsEvent, IsStoreTo}
use Rattle.tso_model.specs.Axioms.{occurrences, IsUpTo}
use Rattle.tso_model.proofs.Places.{occurrences-append, occurrences-cons, occurrences-other, place-listed}
use Rattle.tso_ops.proofs.NumberFacts.{event_unique}
use Rattle.unit_core.specs.declared.steps.Step.{Step}
use Rattle.unit_core.specs.declared.steps.Step.TheVariants.{Store, Drain, DrainAt, Load, Swap, Membar, Stbar}
use Rattle.unit_core.specs.Machine.{Entry, State, IsAllowed, buffer_of, drained, next, oldest_of, outcomes_of, proc_of, stbars_of}
use Rattle.unit_core.proofs.RunFacts.{next-other}
use Rattle.embedding.specs.Sizes.{Sizes, IsAllowedIn, unit_sizes}
use Rattle.embedding.specs.RunOrder.{Numbering, numbering_after, numberings_after, ordered_by}
use Rattle.embedding.proofs.Buffers.{stored_event, number_of_entry}
use Rattle.embedding.proofs.Moments.{HasSizes, IsLastValue, IsListed, IsMoment, IsMomentIn, IsNumbered, IsNumberedAt, IsNumberedBefore, drained-is, next-numbered, next-sizes, other_numbering, outcomes-other, outcomes-own, same_numbering, stbars-other}
use Rattle.embedding.proofs.Places.{listed_up_to, numbers_from, numbers-before, numbers-past, numbers-within, occurrences-one, occurrences-remove, occurs-one}

-- The step of processor p issues so many events; each number that is issued or waited before is taken by memory or waits after it, and memory takes
-- events of p alone.
pub record Moves (t : TraceValue) (p : ℕ) (l new : Numbering) (taken : List ℕ) : Type 0 where
  pub issued : ℕ
  pub following : new.following ≡ l.following + issued
  pub moved : (n : ℕ) → occurrences n taken + occurrences n new.waiting ≡ occurrences n l.waiting + occurrences n (numbers_from l.following issued)
  pub own : (n : ℕ) → 0 < occurrences n taken → (e : Event) × (event_at t n ≡ Some e) × (e.proc ≡ p)

nothing_taken : (t : TraceValue) (p n : ℕ) → 0 < occurrences n [] → (e : Event) × (event_at t n ≡ Some e) × (e.proc ≡ p)
nothing_taken t p n taken = absurd (omega (arith, taken))

one_taken : (t : TraceValue) (p x : ℕ) (e : Event) → event_at t x ≡ Some e → e.proc ≡ p → (n : ℕ) → 0 < occurrences n (x ∷ []) →
    (e : Event) × (event_at t n ≡ Some e) × (e.proc ≡ p)
one_taken t p x e is proc n taken = (e, subst (λ m. event_at t m ≡ Some e) (occurs-one n x taken) is, proc)

two_taken : (t : TraceValue) (p x y : ℕ) (d e : Event) → event_at t x ≡ Some d → d.proc ≡ p → event_at t y ≡ Some e → e.proc ≡ p → (n : ℕ) →
    0 < occurrences n (x ∷ (y ∷ [])) → (e : Event) × (event_at t n ≡ Some e) × (e.proc ≡ p)
two_taken t p x y d e at_x proc_x at_y proc_y n taken = elim (cases_lt 0 (occurrences n (x ∷ []))) [
  | inl first ↦ one_taken t p x d at_x proc_x n first
  | inr other ↦ one_taken t p y e at_y proc_y n (omega (arith, taken, other, occurrences-cons n x (y ∷ [])))
]

drain-moves : (t : TraceValue) (p past k : ℕ) (buffer : List Entry) (e : Entry) (l : Numbering) (stbars : ℕ) (left : List Outcome) →
    slice_get buffer k ≡ Some e →
    IsNumbered t p l buffer stbars left past → Moves t p l (record l { waiting = remove l.waiting k }) (option_to_list (slice_get l.waiting k))
drain-moves t p past k buffer e l stbars left read numbered =
    let number = number_of_entry t p numbered.bars l.following buffer l.waiting k e numbered.waiting read in
    let n = number.0 in
    rw number.1 (record {
      issued = 0;
      following = omega arith;
      moved = λ m. omega (arith, occurrences-remove m l.waiting k n number.1);
      own = one_taken t p n (stored_event p numbered.bars e) number.2 refl;
    })

pub step-moves : (z : Sizes) (t : TraceValue) (past : ℕ) (order : Order) (s : State) (step : Step) (left : List Outcome) (l : Numbering) → IsAllowedIn z order s step →
    IsNumberedBefore t s step l left past → Moves t (proc_of step) l (numbering_after l s step) (ordered_by l s step)
step-moves z t past order s (Store p a v) left l allowed numbered = record {
  issued = 1;
  following = omega arith;
  moved = λ n. omega (arith, occurrences-append n l.waiting (l.following ∷ []));
  own = nothing_taken t p;
}
step-moves z t past order s (Drain p) left l allowed numbered =
    drain-moves t p past 0 (buffer_of s p) allowed.1.0 l (stbars_of s p) left allowed.1.1 numbered
step-moves z t past order s (DrainAt p a) left l allowed numbered =
    drain-moves t p past (oldest_of (buffer_of s p) a) (buffer_of s p) allowed.2.0 l (stbars_of s p) left allowed.2.1 numbered
step-moves z t past order s (Load p a r) left l allowed numbered = record {
  issued = 1;
  following = omega arith;
  moved = λ n. omega arith;
  own = one_taken t p l.following _ numbered.follow.0 refl;
}
step-moves z t past order s (Swap p a r v) left l allowed numbered = record {
  issued = 2;
  following = omega arith;
  moved = λ n. omega arith;
  own = two_taken t p l.following (suc l.following) _ _ numbered.follow.0 refl numbered.follow.1.0 refl;
}
step-moves z t past order s (Membar p) left l allowed numbered = record {
  issued = 0;
  following = omega arith;
  moved = λ n. omega arith;
  own = nothing_taken t p;
}
step-moves z t past order s (Stbar p) left l allowed numbered = record {
  issued = 0;
  following = omega arith;
  moved = λ n. omega arith;
  own = nothing_taken t p;
}

-- ---- the listed numbers

listed-own : (t : TraceValue) (p : ℕ) (l new : Numbering) (done taken : List ℕ) (n : ℕ) → Moves t p l new taken → IsListed done l n →
    IsListed (done ++ taken) new n
listed-own t p l new done taken n moves (inl before) =
    let less : n < l.following = before.0 in
    inl (
      omega (arith, less, moves.following),
      omega (arith, before.1, moves.moved n, occurrences-append n done taken, numbers-before n l.following moves.issued less),
    )
listed-own t p l new done taken n moves (inr after) =
    let sum = occurrences-append n done taken in
    elim (cases_lt n (l.following + moves.issued)) [
      | inl issued ↦
          inl (
            omega (arith, issued, moves.following),
            omega (arith, after.1, moves.moved n, sum, numbers-within n l.following moves.issued after.0 issued),
          )
      | inr later ↦
          inr (
            omega (arith, later, moves.following),
            omega (arith, after.1, moves.moved n, sum, numbers-past n l.following moves.issued later),
          )
    ]

listed-other : (l : Numbering) (done taken : List ℕ) (n : ℕ) → occurrences n taken ≡ 0 → IsListed done l n → IsListed (done ++ taken) l n
listed-other l done taken n none (inl before) = inl (before.0, omega (arith, before.1, none, occurrences-append n done taken))
listed-other l done taken n none (inr after) = inr (after.0, omega (arith, after.1, none, occurrences-append n done taken))

-- memory takes no event of another processor, and no number that isn't an event's
none_of_others : (t : TraceValue) (p : ℕ) (l new : Numbering) (taken : List ℕ) (n : ℕ) (e : Event) → Moves t p l new taken → event_at t n ≡ Some e →
    (p ≡ e.proc → ⊥) → occurrences n taken ≡ 0
none_of_others t p l new taken n e moves is other = elim (cases_lt 0 (occurrences n taken)) [
  | inl listed ↦
      let own = moves.own n listed in
      let same = event_unique t n own.0 e own.1 is in
      absurd (other (sym own.2 ∙ ap (λ (x : Event). x.proc) same))
  | inr none ↦ omega (arith, none)
]

none_of_no_events : (t : TraceValue) (p : ℕ) (l new : Numbering) (taken : List ℕ) (n : ℕ) → Moves t p l new taken → (IsEvent t n → ⊥) → occurrences n taken ≡ 0
none_of_no_events t p l new taken n moves no_event = elim (cases_lt 0 (occurrences n taken)) [
  | inl listed ↦ let own = moves.own n listed in absurd (no_event (own.0, own.1))
  | inr none ↦ omega (arith, none)
]

-- an event that wasn't issued, or that waits, isn't listed
pub unlisted_following : (done : List ℕ) (l : Numbering) (n : ℕ) → l.following ≤ n → IsListed done l n → occurrences n done ≡ 0
unlisted_following done l n low (inl before) = absurd (omega (arith, before.0))
unlisted_following done l n low (inr after) = omega (arith, after.1)

pub unlisted_waiting : (done : List ℕ) (l : Numbering) (k n : ℕ) → slice_get l.waiting k ≡ Some n → IsListed done l n → occurrences n done ≡ 0
unlisted_waiting done l k n waits (inl before) = omega (arith, before.1, occurrences-remove n l.waiting k n waits, occurrences-one n)
unlisted_waiting done l k n waits (inr after) = omega (arith, after.1)

-- ---- memory

module _ (t : TraceValue) (done : List ℕ) (x : ℕ) (d : Event) (is : event_at t x ≡ Some d) where
  -- an event that is no store to the address
  last-keep : (a v : ℕ) → (d.load ≡ false → d.a ≡ a → ⊥) → IsLastValue t done a v → IsLastValue t (done ++ x ∷ []) a v
  last-keep a v other last = by_cases last
    where
      apart : (m : ℕ) → IsStoreTo t a m → occurrences m (x ∷ []) ≡ 0
      apart m store = occurrences-other m x (λ same.
          let at_m : event_at t m ≡ Some d = subst (λ k. event_at t k ≡ Some d) same is in
          let one : store.0 ≡ d = event_unique t m store.0 d store.1 at_m in
          let load : d.load ≡ false = ap (λ (e : Event). e.load) (sym one) ∙ store.2 in
          let to : d.a ≡ a = ap (λ (e : Event). e.a) (sym one) ∙ store.3 in
          other load to)

      by_cases : IsLastValue t done a v → IsLastValue t (done ++ x ∷ []) a v
      by_cases (inl none) = inl (none.0, λ m store. omega (arith, occurrences-append m done (x ∷ []), none.1 m store, apart m store))
      by_cases (inr some) = inr (
        some.0,
        some.1,
        some.2,
        omega (arith, some.3, occurrences-append some.0 done (x ∷ [])),
        λ m store listed.
            let in_done : 0 < occurrences m done = omega (arith, listed, occurrences-append m done (x ∷ []), apart m store) in
            omega (arith, some.4 m store in_done, place-listed m done (x ∷ []) in_done, place-listed some.0 done (x ∷ []) some.3),
      )

  -- a store to the address
  last-new : (a : ℕ) → d.load ≡ false → d.a ≡ a → occurrences x done ≡ 0 → IsLastValue t (done ++ x ∷ []) a d.value
  last-new a store to none = inr (
    x,
    (d, is, store, to),
    (d, is, refl),
    omega (arith, occurrences-append x done (x ∷ []), occurrences-one x),
    λ m other listed. elim (cases_lt 0 (occurrences m done)) [
      | inl in_done ↦ listed_up_to done (x ∷ []) m x in_done none
      | inr unlisted ↦
          let same : x ≡ m = occurs-one m x (omega (arith, listed, unlisted, occurrences-append m done (x ∷ []))) in
          subst (λ k. IsUpTo (done ++ x ∷ []) k x) same (omega arith)
    ],
  )

  memory-load : (words : ℕ) (memory : List ℕ) → d.load ≡ true → ((a : ℕ) → a < words → IsLastValue t done a (slice_index memory a)) → (a : ℕ) → a < words →
      IsLastValue t (done ++ x ∷ []) a (slice_index memory a)
  memory-load words memory load last a within = last-keep a (slice_index memory a) (λ store to. absurd cc) (last a within)

  memory-store : (words : ℕ) (memory : List ℕ) (b v : ℕ) → length memory ≡ words → d.load ≡ false → d.a ≡ b → d.value ≡ v → occurrences x done ≡ 0 →
      ((a : ℕ) → a < words → IsLastValue t done a (slice_index memory a)) → (a : ℕ) → a < words → IsLastValue t (done ++ x ∷ []) a (slice_index (set memory b v) a)
  memory-store words memory b v long store to value none last a within = elim (cases_eq a b) [
    | inl same ↦
        let read : get_or (set memory b v) a 0 ≡ v = ap (λ i. get_or (set memory b v) i 0) same ∙ get_or-set_same memory b v 0 (omega (arith, same, within, long)) in
        subst (λ w. IsLastValue t (done ++ x ∷ []) a w) (value ∙ sym read) (last-new a store (to ∙ sym same) none)
    | inr other ↦
        let read : get_or (set memory b v) a 0 ≡ get_or memory a 0 = get_or-set_other memory b a v 0 other in
        subst (λ w. IsLastValue t (done ++ x ∷ []) a w) (sym read) (last-keep a (slice_index memory a) (λ is_store is_to. other (sym is_to ∙ to)) (last a within))
  ]

module _ (z : Sizes) (t : TraceValue) (past : ℕ) (numberings : ℕ → Numbering) (s : State) (done : List ℕ)
    (listed : (n : ℕ) (e : Event) → event_at t n ≡ Some e → IsListed done (numberings e.proc) n) (sizes : HasSizes z s)
    (memory : (a : ℕ) → a < z.words → IsLastValue t done a (slice_index s.memory a)) where
  drain-memory : (p k : ℕ) (e : Entry) (left : List Outcome) → slice_get (buffer_of s p) k ≡ Some e →
      IsNumbered t p (numberings p) (buffer_of s p) (stbars_of s p) left past → (a : ℕ) → a < z.words →
      IsLastValue t (done ++ option_to_list (slice_get (numberings p).waiting k)) a (slice_index (drained s p k).memory a)
  drain-memory p k e left read numbered a within =
      let number = number_of_entry t p numbered.bars (numberings p).following (buffer_of s p) (numberings p).waiting k e numbered.waiting read in
      let x = number.0 in
      let d = stored_event p numbered.bars e in
      let none = unlisted_waiting done (numberings p) k x number.1 (listed x d number.2) in
      rw (number.1, drained-is s p k e read) (memory-store t done x d number.2 z.words s.memory e.a e.v sizes.memory refl refl refl none memory a within)

  step-memory : (order : Order) (step : Step) (left : List Outcome) → IsAllowedIn z order s step →
      IsNumberedBefore t s step (numberings (proc_of step)) left past →
      (a : ℕ) → a < z.words → IsLastValue t (done ++ ordered_by (numberings (proc_of step)) s step) a (slice_index (next s step).memory a)
  step-memory order (Store p b v) left allowed numbered a within = rw (append-nil done) (memory a within)
  step-memory order (Drain p) left allowed numbered a within = drain-memory p 0 allowed.1.0 left allowed.1.1 numbered a within
  step-memory order (DrainAt p b) left allowed numbered a within = drain-memory p (oldest_of (buffer_of s p) b) allowed.2.0 left allowed.2.1 numbered a within
  step-memory order (Load p b r) left allowed numbered a within =
      memory-load t done (numberings p).following _ numbered.follow.0 z.words s.memory refl memory a within
  step-memory order (Swap p b r v) left allowed numbered a within =
      let n = (numberings p).following in
      let second = numbered.follow.1.0 in
      let none : occurrences (suc n) (done ++ n ∷ []) ≡ 0 =
      omega (
        arith,
        occurrences-append (suc n) done (n ∷ []),
        unlisted_following done (numberings p) (suc n) (omega arith) (listed (suc n) _ second),
        occurrences-other (suc n) n (λ same. omega (arith, same)),
      ) in
      subst (λ list. IsLastValue t list a (slice_index (set s.memory b v) a)) (append_assoc done (n ∷ []) (suc n ∷ []))
      (memory-store t (done ++ n ∷ []) (suc n) _ second z.words s.memory b v sizes.memory refl refl refl none
      (memory-load t done n _ numbered.follow.0 z.words s.memory refl memory) a within)
  step-memory order (Membar p) left allowed numbered a within = rw (append-nil done) (memory a within)
  step-memory order (Stbar p) left allowed numbered a within = rw (append-nil done) (memory a within)

-- the numbering of the step's processor, with the outcome of the step as the first that is left
pub own_numbered : (z : Sizes) (t : TraceValue) (count : ℕ) (past : ℕ → ℕ) (numberings : ℕ → Numbering) (s : State) (done : List ℕ) (step : Step) (left : List Step) →
    proc_of step < count → IsMomentIn z t count past numberings s done (step ∷ left) →
    IsNumberedBefore t s step (numberings (proc_of step)) (outcomes_of (proc_of step) left) (past (proc_of step))
own_numbered z t count past numberings s done step left below moment =
    let p = proc_of step in
    subst (λ o. IsNumbered t p (numberings p) (buffer_of s p) (stbars_of s p) o (past p)) (outcomes-own step left) (moment.numbered p below)

-- The step leads to the next moment.
pub next_moment_in : (z : Sizes) (t : TraceValue) (count : ℕ) (past : ℕ → ℕ) (order : Order) (numberings : ℕ → Numbering) (s : State) (done : List ℕ) (step : Step) (left : List Step) →
    IsAllowedIn z order s step → proc_of step < count → IsMomentIn z t count past numberings s done (step ∷ left) →
    IsMomentIn z t count past (numberings_after numberings s step) (next s step) (done ++ ordered_by (numberings (proc_of step)) s step) left
next_moment_in z t count past order numberings s done step left allowed below moment = record {
  sizes = next-sizes z order s step allowed moment.sizes;
  numbered = numbered;
  listed = listed;
  others = λ n no_event. omega (arith, occurrences-append n done taken, moment.others n no_event, none_of_no_events t p l new taken n moves no_event);
  memory = step-memory z t (past p) numberings s done moment.listed moment.sizes moment.memory order step (outcomes_of p left) allowed own;
}
  where
    p : ℕ
    p = proc_of step

    l : Numbering
    l = numberings p

    new : Numbering
    new = numbering_after l s step

    taken : List ℕ
    taken = ordered_by l s step

    own : IsNumberedBefore t s step l (outcomes_of p left) (past p)
    own = own_numbered z t count past numberings s done step left below moment

    moves : Moves t p l new taken
    moves = step-moves z t (past p) order s step (outcomes_of p left) l allowed own

    own_after : IsNumberedAt t past (numberings_after numberings s step) (next s step) left p
    own_after =
        subst (λ m. IsNumbered t p m (buffer_of (next s step) p) (stbars_of (next s step) p) (outcomes_of p left) (past p)) (sym (same_numbering numberings p new p refl))
        (next-numbered z t (past p) order s step (outcomes_of p left) l moment.sizes allowed own)

    -- a step changes nothing of another processor
    other_after : (q : ℕ) → (p ≡ q → ⊥) → IsNumberedAt t past numberings s (step ∷ left) q → IsNumberedAt t past (numberings_after numberings s step) (next s step) left q
    other_after q other before =
        let buffer = next-other s step q (λ same. other (sym same)) in
        subst (λ m. IsNumbered t q m (buffer_of (next s step) q) (stbars_of (next s step) q) (outcomes_of q left) (past q)) (sym (other_numbering numberings p new q other))
        (subst (λ b. IsNumbered t q (numberings q) b (stbars_of (next s step) q) (outcomes_of q left) (past q)) (sym buffer)
        (subst (λ b. IsNumbered t q (numberings q) (buffer_of s q) b (outcomes_of q left) (past q)) (sym (stbars-other s step q other))
        (subst (λ o. IsNumbered t q (numberings q) (buffer_of s q) (stbars_of s q) o (past q)) (outcomes-other step left q other) before)))

    numbered : (q : ℕ) → q < count → IsNumberedAt t past (numberings_after numberings s step) (next s step) left q
    numbered q small = elim (cases_eq p q) [
      | inl same ↦ subst (IsNumberedAt t past (numberings_after numberings s step) (next s step) left) same own_after
      | inr other ↦ other_after q other (moment.numbered q small)
    ]

    listed : (n : ℕ) (e : Event) → event_at t n ≡ Some e → IsListed (done ++ taken) (numberings_after numberings s step e.proc) n
    listed n e is = elim (cases_eq p e.proc) [
      | inl same ↦
          subst (λ m. IsListed (done ++ taken) m n) (sym (same_numbering numberings p new e.proc same))
          (listed-own t p l new done taken n moves (subst (λ q. IsListed done (numberings q) n) (sym same) (moment.listed n e is)))
      | inr other ↦
          subst (λ m. IsListed (done ++ taken) m n) (sym (other_numbering numberings p new e.proc other))
          (listed-other (numberings e.proc) done taken n (none_of_others t p l new taken n e moves is other) (moment.listed n e is))
    ]

-- what a unit may do, a machine of its sizes may do
pub allowed_in : (order : Order) (s : State) (step : Step) → IsAllowed order s step → IsAllowedIn unit_sizes order s step
allowed_in order s (Store p a v) allowed = allowed
allowed_in order s (Drain p) allowed = allowed
allowed_in order s (DrainAt p a) allowed = allowed
allowed_in order s (Load p a r) allowed = allowed
allowed_in order s (Swap p a r v) allowed = allowed
allowed_in order s (Membar p) allowed = allowed
allowed_in order s (Stbar p) allowed = allowed

-- The step of a unit leads to the next moment.
pub next_moment : (t : TraceValue) (count : ℕ) (past : ℕ → ℕ) (order : Order) (numberings : ℕ → Numbering) (s : State) (done : List ℕ) (step : Step) (left : List Step) →
    IsAllowed order s step → proc_of step < count → IsMoment t count past numberings s done (step ∷ left) →
    IsMoment t count past (numberings_after numberings s step) (next s step) (done ++ ordered_by (numberings (proc_of step)) s step) left
next_moment t count past order numberings s done step left allowed below moment =
    next_moment_in unit_sizes t count past order numberings s done step left (allowed_in order s step allowed) below moment
