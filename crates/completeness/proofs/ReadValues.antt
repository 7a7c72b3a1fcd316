-- What a load reads, where Value holds of the order: the newest own store that waits, or else memory's word.
use Rattle.std.proofs.Common.{◌≡◌, ◌∙◌, ◌⊎◌, inl, inr, sym, ap, refl, subst, ℕ, ◌<◌, ◌≤◌, true, Some, List, ◌∷◌, ◌++◌, arith}
use Rattle.std.proofs.lemmas.Bool.{cases_eq}
use Rattle.tso_ops.specs.declared.settings.Order.TheVariants.{Tso}
use Rattle.tso_ops.specs.declared.ops.Outcome.{Outcome}
use Rattle.tso_ops.specs.declared.events.Event.{Event}
use Rattle.tso_ops.specs.Settings.{first_value}
use Rattle.tso_ops.specs.Values.{TraceValue}
use Rattle.tso_ops.specs.Events.{event_at, IsStoreTo, HasValue, SameAddress, SameValue}
use Rattle.tso_model.specs.Axioms.{occurrences, place, IsUpTo, IsVisible, IsModelOrder, ReadsGreatest}
use Rattle.tso_ops.proofs.NumberFacts.{event_unique}
use Rattle.unit_core.specs.Machine.{Entry, newest}
use Rattle.embedding.specs.RunOrder.{Numbering}
use Rattle.embedding.proofs.Buffers.{entry_of_number, stored_event}
use Rattle.embedding.proofs.LoadedValues as stores_seen
use Rattle.embedding.proofs.LoadedValues.{IsNewest, newest_of}
use Rattle.embedding.proofs.Moments.{IsLastValue, IsListed, IsNumbered}
use Rattle.embedding.proofs.Places.{listed_at, place-listed, place-past}
use Rattle.embedding.proofs.Steps.{unlisted_waiting}
use Rattle.completeness.proofs.SwapSpans.{one_event}

-- a listed number stands before one that isn't listed
pub done_first : (whole done later : List ℕ) (m n : ℕ) → whole ≡ done ++ later → 0 < occurrences m done → occurrences n done ≡ 0 → place whole m < place whole n
done_first whole done later m n is listed none =
    let first = place-listed m done later listed in
    subst (λ list. place list m < place list n) (sym is) (omega (arith, first.0, first.1, place-past n done later none))

module _ (t : TraceValue) (past p : ℕ) (l : Numbering) (buffer : List Entry) (stbars : ℕ) (left : List Outcome) (done : List ℕ)
    (numbered : IsNumbered t p l buffer stbars left past) (listed : (u : ℕ) (d : Event) → event_at t u ≡ Some d → d.proc ≡ p → IsListed done l u) where
  -- a number that waits is a store of the processor, issued before and not listed
  pub of_waiting : (n : ℕ) → 0 < occurrences n l.waiting →
      (f : Entry) × (event_at t n ≡ Some (stored_event p numbered.bars f)) × (n < l.following) × (occurrences n done ≡ 0)
  of_waiting n waits =
      let found = listed_at n l.waiting waits in
      let entry = entry_of_number t p numbered.bars l.following buffer l.waiting found.0 n numbered.waiting found.1 in
      (entry.0, entry.2, entry.3, unlisted_waiting done l found.0 n found.1 (listed n (stored_event p numbered.bars entry.0) entry.2 refl))

  module _ (whole later : List ℕ) (axioms : IsModelOrder t whole) (tso : t.setting.order ≡ Tso) (is : whole ≡ done ++ (l.following ∷ later)) (a : ℕ) (e : Event)
      (at_n : event_at t l.following ≡ Some e) (proc : e.proc ≡ p) (load : e.load ≡ true) (to : e.a ≡ a) where
    -- what the load sees
    seen : (s : ℕ) → IsVisible t whole s l.following → IsStoreTo t a s × ((0 < occurrences s done) ⊎ (0 < occurrences s l.waiting))
    seen = stores_seen.seen t past p l buffer stbars left done numbered listed whole later is a e at_n proc load to

    to_load : (s : ℕ) → IsStoreTo t a s → SameAddress t s l.following
    to_load = stores_seen.to_load t past p l buffer stbars left done numbered listed whole later is a e at_n proc load to

    unlisted : occurrences l.following done ≡ 0
    unlisted = stores_seen.unlisted t past p l buffer stbars left done numbered listed whole later is a e at_n proc load to

    sees_listed : (s : ℕ) → IsStoreTo t a s → 0 < occurrences s done → IsVisible t whole s l.following
    sees_listed s store in_done =
        let first = done_first whole done (l.following ∷ later) s l.following is in_done unlisted in
        ((store.0, store.1, store.2), to_load s store, inl (omega (arith, first)))

    sees_waiting : (s : ℕ) → IsStoreTo t a s → 0 < occurrences s l.waiting → IsVisible t whole s l.following
    sees_waiting s store waits =
        let entry = of_waiting s waits in
        ((store.0, store.1, store.2), to_load s store, inr (stored_event p numbered.bars entry.0, e, entry.1, at_n, sym proc, entry.2))

    -- the value of a store with the load's value
    value_of : (s v : ℕ) → SameValue t s l.following → HasValue t s v → e.value ≡ v
    value_of s v same has =
        ap (λ (x : Event). x.value) (event_unique t l.following e same.1 at_n same.3) ∙ sym same.4
        ∙ ap (λ (x : Event). x.value) (event_unique t s same.0 has.0 same.2 has.1) ∙ has.2

    -- a store that waits is no later in the order than itself or a greater number that waits
    waiting_up_to : (m n : ℕ) → 0 < occurrences m l.waiting → 0 < occurrences n l.waiting → m < n → IsUpTo whole m n
    waiting_up_to m n waits_m waits_n less =
        let first = of_waiting m waits_m in
        let second = of_waiting n waits_n in
        axioms.store_store m n (stored_event p numbered.bars first.0, first.1, refl) (stored_event p numbered.bars second.0, second.1, refl)
        (stored_event p numbered.bars first.0, stored_event p numbered.bars second.0, first.1, second.1, refl, less) (inl tso)

    -- the newest store that waits is the greatest that the load sees
    reads_own : (n v : ℕ) → 0 < occurrences n l.waiting → IsStoreTo t a n → HasValue t n v →
        ((m : ℕ) → 0 < occurrences m l.waiting → IsStoreTo t a m → m ≤ n) → ReadsGreatest t whole l.following → e.value ≡ v
    reads_own n v waits store value greatest (inl first) = absurd (first.1 n (sees_waiting n store waits))
    reads_own n v waits store value greatest (inr some) = by_place (seen s some.1)
      where
        s : ℕ
        s = some.0

        after : IsUpTo whole n s
        after = some.3 n (sees_waiting n store waits)

        by_number : 0 < occurrences s l.waiting → (s ≡ n) ⊎ (s ≡ n → ⊥) → s ≤ n → e.value ≡ v
        by_number in_buffer (inl same) least = value_of n v (subst (λ k. SameValue t k l.following) same some.2) value
        by_number in_buffer (inr other) least =
            let back : IsUpTo whole s n = waiting_up_to s n in_buffer waits (omega (arith, least, other)) in
            absurd (other (one_event t whole axioms s n (store.0, store.1) (omega (arith, back, after))))

        by_place : IsStoreTo t a s × ((0 < occurrences s done) ⊎ (0 < occurrences s l.waiting)) → e.value ≡ v
        by_place (to_a, inl in_done) =
            let first = done_first whole done (l.following ∷ later) s n is in_done (of_waiting n waits).3 in
            absurd (omega (arith, first, after))
        by_place (to_a, inr in_buffer) = by_number in_buffer (cases_eq s n) (greatest s in_buffer to_a)

    -- where none waits, the load reads memory
    reads_memory : (word : ℕ) → ((m : ℕ) → 0 < occurrences m l.waiting → IsStoreTo t a m → ⊥) → IsLastValue t done a word →
        ReadsGreatest t whole l.following → e.value ≡ word
    reads_memory word none (inl first) (inl read) =
        let same : read.0.0 ≡ e = event_unique t l.following read.0.0 e read.0.1 at_n in
        ap (λ (x : Event). x.value) (sym same) ∙ read.0.2 ∙ ap (λ (x : Event). first_value t.setting.first x.a) same
        ∙ ap (first_value t.setting.first) to ∙ sym first.0
    reads_memory word none (inl first) (inr some) = elim (seen some.0 some.1).1 [
      | inl in_done ↦ absurd (omega (arith, in_done, first.1 some.0 (seen some.0 some.1).0))
      | inr waits ↦ absurd (none some.0 waits (seen some.0 some.1).0)
    ]
    reads_memory word none (inr last) (inl read) = absurd (read.1 last.0 (sees_listed last.0 last.1 last.3))
    reads_memory word none (inr last) (inr some) = elim (seen some.0 some.1).1 [
      | inl in_done ↦ (
          let n = last.0 in
          let s = some.0 in
          let after : IsUpTo whole n s = some.3 n (sees_listed n last.1 last.3) in
          let before : IsUpTo done s n = last.4 s (seen s some.1).0 in_done in
          let at_s = place-listed s done (l.following ∷ later) in_done in
          let at_n' = place-listed n done (l.following ∷ later) last.3 in
          let back : IsUpTo whole s n = subst (λ list. IsUpTo list s n) (sym is) (omega (arith, at_s.0, at_n'.0, before)) in
          let same : s ≡ n = one_event t whole axioms s n (last.1.0, last.1.1) (omega (arith, back, after)) in
          value_of n word (subst (λ k. SameValue t k l.following) same some.2) last.2
          )
      | inr waits ↦ absurd (none some.0 waits (seen some.0 some.1).0)
    ]

    -- The load's value is what its processor sees.
    pub value_seen : (word : ℕ) → IsLastValue t done a word → e.value ≡ newest buffer a word
    value_seen word last = by_newest (newest_of t p numbered.bars l.following a buffer l.waiting word numbered.waiting)
      where
        read : ReadsGreatest t whole l.following
        read = axioms.value l.following (e, at_n, load)

        by_newest : IsNewest t l.waiting a word (newest buffer a word) → e.value ≡ newest buffer a word
        by_newest (inl memory) = reads_memory word memory.1 last read ∙ sym memory.0
        by_newest (inr own) = reads_own own.0 (newest buffer a word) own.1 own.2 own.3 own.4 read
