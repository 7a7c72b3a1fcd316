-- Lemmas on rows of base pairs.
use Rattle.std.proofs.Common.{◌≡◌, ◌⊎◌, ◌↔◌, inl, inr, ℕ, ◌+◌, ◌*◌, ◌/◌, ◌%◌, ◌^◌, ◌<◌, ◌≤◌, Bool, true, false, List, get_or, None, Some, refl, sym, ap, ◌∙◌, subst, arith}
use Rattle.tso_ops.specs.declared.events.Event.{Event}
use Rattle.tso_ops.specs.declared.settings.Order.TheVariants.{Tso, Pso}
use Rattle.tso_ops.specs.Values.{TraceValue}
use Rattle.tso_ops.specs.Events.{event_at, IsLoad, IsStore, IsLoadAt, IsStoreTo, IsEventOf, HasBarriersBefore, HasStbarsBefore, HasSource, KeepsStores, SameAddress, Earlier}
use Rattle.tso_ops.proofs.ProcessorFacts.{bars_ascend, stbars_ascend}
use Rattle.tso_ops.proofs.TableFacts.{source_load}
use Rattle.bitsets.specs.Rows.{IsMask, HasBit, HasNumber, Marks}
use Rattle.bitsets.proofs.WordFacts.{HasBit-or, HasBit-and, HasBit-not}
use Rattle.std.specs.Prelude.{bit_and, bit_or}
use Rattle.std.specs.Int.{bit_not, w64}
use Rattle.std.proofs.lemmas.Bool.{false≢true, cases_lt}
use Rattle.bitsets.proofs.MarkFacts.{marks_as, earlier_words_more, IsInEarlierWord, OnWord, words_more, ByWords}
use Rattle.bitsets.proofs.RowFacts.{word_number}
use Rattle.tso_cert.specs.declared.rules.BaseRule.{BaseRule}
use Rattle.tso_cert.specs.declared.rules.BaseRule.TheVariants.{Init, LoadOp, StoreStore, Stbar, Membar, Read, Own}
use Rattle.tso_model.specs.Rules.{BasePair, IsOwnBy}
use Rattle.tso_model.specs.Ranks.{RankSet}
use Rattle.tso_ops.proofs.NumberFacts.{event_unique}
use Rattle.tso_rules.specs.Rows.{IsLater}
use Rattle.tso_rules.specs.Internal.MarkedRows.{IsBaseButOwn, IsKeptStore, IsOrdered, IsReadBy, IsSourceIn}

-- a base pair is one of the rule Init, of program order, or by a load
pub base_by : (t : TraceValue) (u v : ℕ) → ((BasePair t Init u v ⊎ IsLater t u v) ⊎ ((l : ℕ) × IsReadBy t u l v)) ↔ RankSet t 0 u v
base_by t u v = (to, λ edge. from edge.0 edge.1)
  where
    to : (BasePair t Init u v ⊎ IsLater t u v) ⊎ ((l : ℕ) × IsReadBy t u l v) → RankSet t 0 u v
    to (inl (inl pair)) = (Init, pair)
    to (inl (inr (inl pair))) = (LoadOp, pair)
    to (inl (inr (inr (inl pair)))) = (StoreStore, pair)
    to (inl (inr (inr (inr (inl pair))))) = (Stbar, pair)
    to (inl (inr (inr (inr (inr pair))))) = (Membar, pair)
    to (inr (l, inl read)) = (Read, subst (λ m. BasePair t Read u m) (sym read.0) read.1)
    to (inr (l, inr own)) = (Own, (l, own))

    from : (rule : BaseRule) → BasePair t rule u v → (BasePair t Init u v ⊎ IsLater t u v) ⊎ ((l : ℕ) × IsReadBy t u l v)
    from Init pair = inl (inl pair)
    from LoadOp pair = inl (inr (inl pair))
    from StoreStore pair = inl (inr (inr (inl pair)))
    from Stbar pair = inl (inr (inr (inr (inl pair))))
    from Membar pair = inl (inr (inr (inr (inr pair))))
    from Read pair = inr (v, inl (refl, pair))
    from Own pair = inr (pair.0, inr pair.1)

-- and one of the rule Own, or of another
pub base_or_own : (t : TraceValue) (u v : ℕ) → (IsBaseButOwn t u v ⊎ BasePair t Own u v) ↔ RankSet t 0 u v
base_or_own t u v = (to, λ edge. from ((base_by t u v).1 edge))
  where
    to : IsBaseButOwn t u v ⊎ BasePair t Own u v → RankSet t 0 u v
    to (inl (inl other)) = (base_by t u v).0 (inl other)
    to (inl (inr read)) = (Read, read)
    to (inr own) = (Own, own)

    from : (BasePair t Init u v ⊎ IsLater t u v) ⊎ ((l : ℕ) × IsReadBy t u l v) → IsBaseButOwn t u v ⊎ BasePair t Own u v
    from (inl other) = inl (inl other)
    from (inr (l, inl read)) = inl (inr (subst (λ m. BasePair t Read u m) (sym read.0) read.1))
    from (inr (l, inr own)) = inr (l, own)

-- an event is a load or a store
event_kind : (t : TraceValue) (n : ℕ) (e : Event) (load : Bool) → event_at t n ≡ Some e → e.load ≡ load → IsLoad t n ⊎ IsStore t n
event_kind t n e true at is = inl (e, at, is)
event_kind t n e false at is = inr (e, at, is)

-- an event of the processor with a greater number is program-later
earlier_of : (t : TraceValue) (u v : ℕ) (event : Event) → event_at t u ≡ Some event → IsEventOf t event.proc v → u < v → Earlier t u v
earlier_of t u v event at of order = (event, of.0, at, of.1, sym of.2, order)

-- and a program-later one is an event of the processor with a greater number
of_earlier : (t : TraceValue) (u v : ℕ) (event : Event) → event_at t u ≡ Some event → Earlier t u v → IsEventOf t event.proc v × (u < v)
of_earlier t u v event at e = let first = event_unique t u e.0 event e.2 at in ((e.1, e.3, sym e.4 ∙ ap (λ (x : Event). x.proc) first), e.5)

-- a store that the model keeps after the event
keeps_of : (t : TraceValue) (u v : ℕ) (event : Event) → event_at t u ≡ Some event → IsKeptStore t event v → KeepsStores t u v
keeps_of t u v event at (store, inl tso) = inl tso
keeps_of t u v event at (store, inr to) = inr (event, to.0, at, to.1, sym to.3)

kept_of : (t : TraceValue) (u v : ℕ) (event : Event) → event_at t u ≡ Some event → IsStore t v → KeepsStores t u v → IsKeptStore t event v
kept_of t u v event at store (inl tso) = (store, inl tso)
kept_of t u v event at store (inr same) =
    let first = event_unique t u same.0 event same.2 at in
    let second = event_unique t v store.0 same.1 store.1 same.3 in
    (store, inr (store.0, store.1, store.2, ap (λ (x : Event). x.a) second ∙ sym same.4 ∙ ap (λ (x : Event). x.a) first))

-- a load is no store
pub no_store : (t : TraceValue) (n : ℕ) → IsLoad t n → IsStore t n → ⊥
no_store t n load store = false≢true (sym store.2 ∙ ap (λ (x : Event). x.load) (event_unique t n store.0 load.0 store.1 load.1) ∙ load.2)

-- Program order leads from an event to the program-later ones that it puts after it.
pub later_is : (t : TraceValue) (u v : ℕ) (event : Event) → event_at t u ≡ Some event → ((IsEventOf t event.proc v × (u < v)) × IsOrdered t event v) ↔ IsLater t u v
later_is t u v event at = (λ is. to event.load refl is.0.0 is.0.1 is.1, from)
  where
    to : (load : Bool) → event.load ≡ load → (of : IsEventOf t event.proc v) → u < v → IsOrdered t event v → IsLater t u v
    to true is of order ordered = inl ((event, at, is), earlier_of t u v event at of order)
    to false is of order (inl load) = absurd (false≢true (sym is ∙ load))
    to false is of order (inr (inl kept)) = inr (inl ((event, at, is), kept.0, earlier_of t u v event at of order, keeps_of t u v event at kept))
    to false is of order (inr (inr (inl (store, other)))) =
        let low : event.stbars ≤ of.0.stbars = stbars_ascend t u v event of.0 at of.1 (sym of.2) order in
        let more : event.stbars < of.0.stbars = elim (cases_lt event.stbars of.0.stbars) [
          | inl less ↦ less
          | inr not_less ↦ absurd (other (of.0, of.1, omega arith))
        ] in
        inr (inr (inl ((event, at, is), store, earlier_of t u v event at of order, (event, of.0, at, of.1, more))))
    to false is of order (inr (inr (inr (no_store, other)))) = elim (event_kind t v of.0 of.0.load of.1 refl) [
      | inl load ↦ (let low : event.bars ≤ of.0.bars = bars_ascend t u v event of.0 at of.1 (sym of.2) order in
          let more : event.bars < of.0.bars = elim (cases_lt event.bars of.0.bars) [
            | inl less ↦ less
            | inr not_less ↦ absurd (other (of.0, of.1, omega arith))
          ] in
          inr (inr (inr ((event, at, is), load, earlier_of t u v event at of order, (event, of.0, at, of.1, more)))))
      | inr store ↦ absurd (no_store store)
    ]

    from : IsLater t u v → (IsEventOf t event.proc v × (u < v)) × IsOrdered t event v
    from (inl pair) = (of_earlier t u v event at pair.1, inl (ap (λ (x : Event). x.load) (event_unique t u event pair.0.0 at pair.0.1) ∙ pair.0.2))
    from (inr (inl pair)) = (of_earlier t u v event at pair.2, inr (inl (kept_of t u v event at pair.1 pair.3)))
    from (inr (inr (inl pair))) = (
      of_earlier t u v event at pair.2,
      inr (inr (inl (
        pair.1,
        λ after.
            let between = pair.3 in
            let first : between.0.stbars ≡ event.stbars = ap (λ (x : Event). x.stbars) (event_unique t u between.0 event between.2 at) in
            let second : between.1.stbars ≡ after.0.stbars = ap (λ (x : Event). x.stbars) (event_unique t v between.1 after.0 between.3 after.1) in
            let less : between.0.stbars < between.1.stbars = between.4 in
            let same : after.0.stbars ≡ event.stbars = after.2 in
            omega arith,
      ))),
    )
    from (inr (inr (inr pair))) = (
      of_earlier t u v event at pair.2,
      inr (inr (inr (
        no_store t v pair.1,
        λ after.
            let between = pair.3 in
            let first : between.0.bars ≡ event.bars = ap (λ (x : Event). x.bars) (event_unique t u between.0 event between.2 at) in
            let second : between.1.bars ≡ after.0.bars = ap (λ (x : Event). x.bars) (event_unique t v between.1 after.0 between.3 after.1) in
            let less : between.0.bars < between.1.bars = between.4 in
            let same : after.0.bars ≡ event.bars = after.2 in
            omega arith,
      ))),
    )

-- the rows of bits that the word for a store is made of, and their words
pub record AreOrderWords (t : TraceValue) (event : Event) (stores no_stbar no_barrier : List ℕ) (j kept a b c : ℕ) : Type 0 where
  pub stores_are : IsMask stores (IsStore t)
  pub stbars_are : IsMask no_stbar (HasStbarsBefore t event.stbars)
  pub barriers_are : IsMask no_barrier (HasBarriersBefore t event.bars)
  pub kept_is : (k : ℕ) → k < 64 → HasBit kept k ↔ IsKeptStore t event (64 * j + k)
  pub store_word : a ≡ get_or stores j 0
  pub stbar_word : b ≡ get_or no_stbar j 0
  pub barrier_word : c ≡ get_or no_barrier j 0
  pub store_fits : a < 2 ^ 64
  pub stbar_fits : b < 2 ^ 64
  pub barrier_fits : c < 2 ^ 64

-- a bit of a row's word is that of its number
pub word_bit : (row : List ℕ) (Of : ℕ → Type 0) (j word k : ℕ) → k < 64 → IsMask row Of → word ≡ get_or row j 0 → HasBit word k ↔ Of (64 * j + k)
word_bit row Of j word k low mask is =
    let n : ℕ = 64 * j + k in
    let at : n / 64 ≡ j = omega arith in
    let place : n % 64 ≡ k = omega arith in
    let bit = subst (λ i. HasBit word i ↔ HasNumber row n) place (word_number row j word n at is) in
    let of = mask.bits n in
    (λ set. of.0 (bit.0 set), λ holds. bit.1 (of.1 holds))

-- the bits of what program order puts after a store
pub ordered_bit : (t : TraceValue) (event : Event) (stores no_stbar no_barrier : List ℕ) (j kept a b c k : ℕ) → k < 64 → event.load ≡ false →
    AreOrderWords t event stores no_stbar no_barrier j kept a b c →
    HasBit (bit_or (bit_or kept (bit_and a (bit_not w64 b))) (bit_and (bit_not w64 a) (bit_not w64 c))) k ↔ IsOrdered t event (64 * j + k)
ordered_bit t event stores no_stbar no_barrier j kept a b c k low store words =
    let either = HasBit-or (bit_or kept (bit_and a (bit_not w64 b))) (bit_and (bit_not w64 a) (bit_not w64 c)) k in
    let first = HasBit-or kept (bit_and a (bit_not w64 b)) k in
    let second = HasBit-and a (bit_not w64 b) k in
    let third = HasBit-and (bit_not w64 a) (bit_not w64 c) k in
    let not_store = HasBit-not a k words.store_fits low in
    let not_stbar = HasBit-not b k words.stbar_fits low in
    let not_barrier = HasBit-not c k words.barrier_fits low in
    let is_kept = words.kept_is k low in
    let is_store = word_bit stores (IsStore t) j a k low words.stores_are words.store_word in
    let has_stbars = word_bit no_stbar (HasStbarsBefore t event.stbars) j b k low words.stbars_are words.stbar_word in
    let has_barriers = word_bit no_barrier (HasBarriersBefore t event.bars) j c k low words.barriers_are words.barrier_word in (
      λ bit. elim (either.0 bit) [
        | inl one ↦ elim (first.0 one) [
          | inl by ↦ inr (inl (is_kept.0 by))
          | inr by ↦ inr (inr (inl (is_store.0 (second.0 by).0, λ has. not_stbar.0 (second.0 by).1 (has_stbars.1 has))))
        ]
        | inr by ↦ inr (inr (inr (λ has. not_store.0 (third.0 by).0 (is_store.1 has), λ has. not_barrier.0 (third.0 by).1 (has_barriers.1 has))))
      ],
      λ ordered. either.1 (elim ordered [
        | inl load ↦ absurd (false≢true (sym store ∙ load))
        | inr rest ↦ elim rest [
          | inl by ↦ inl (first.1 (inl (is_kept.1 by)))
          | inr later ↦ elim later [
            | inl by ↦ inl (first.1 (inr (second.1 (is_store.1 by.0, not_stbar.1 (λ set. by.1 (has_stbars.0 set))))))
            | inr by ↦ inr (third.1 (not_store.1 (λ set. by.0 (is_store.0 set)), not_barrier.1 (λ set. by.1 (has_barriers.0 set))))
          ]
        ]
      ]),
    )

-- the bits of the stores that TSO keeps
pub kept_under_tso : (t : TraceValue) (event : Event) (stores : List ℕ) (j a k : ℕ) → k < 64 → t.setting.order ≡ Tso → IsMask stores (IsStore t) → a ≡ get_or stores j 0 →
    HasBit a k ↔ IsKeptStore t event (64 * j + k)
kept_under_tso t event stores j a k low tso mask is =
    let bit = word_bit stores (IsStore t) j a k low mask is in (λ set. (bit.0 set, inl tso), λ kept. bit.1 kept.0)

-- and of those that PSO keeps
pub kept_under_pso : (t : TraceValue) (event : Event) (stores : List ℕ) (j a k : ℕ) → k < 64 → t.setting.order ≡ Pso → IsMask stores (IsStoreTo t event.a) → a ≡ get_or stores j 0 →
    HasBit a k ↔ IsKeptStore t event (64 * j + k)
kept_under_pso t event stores j a k low pso mask is =
    let bit = word_bit stores (IsStoreTo t event.a) j a k low mask is in (
      λ set. (let to = bit.0 set in ((to.0, to.1, to.2), inr to)),
      λ kept. elim kept.1 [
        | inl tso ↦ absurd (let clash : Tso ≡ Pso = sym tso ∙ pso in cc)
        | inr to ↦ bit.1 to
      ],
    )

-- the words of a processor's program-later numbers
later_word : (processor : List ℕ) (Of : ℕ → Type 0) (u j a above v : ℕ) → v / 64 ≡ j → IsMask processor Of → a ≡ get_or processor j 0 → ((k : ℕ) → k < 64 → HasBit above k ↔ (u < 64 * j + k)) →
    HasBit (bit_and a above) (v % 64) ↔ (Of v × (u < v))
later_word processor Of u j a above v at mask a_is above_is =
    let both = HasBit-and a above (v % 64) in
    let first = word_number processor j a v at a_is in
    let of = mask.bits v in
    let second = above_is (v % 64) (omega arith) in
    let place : 64 * j + v % 64 ≡ v = omega arith in (
      λ bit. (of.0 (first.0 (both.0 bit).0), subst (λ m. u < m) place (second.0 (both.0 bit).1)),
      λ is. both.1 (first.1 (of.1 is.0), second.1 (subst (λ m. u < m) (sym place) is.1)),
    )

-- the word of a processor's program-later numbers that program order puts after an event
pub later_bit : (t : TraceValue) (u : ℕ) (event : Event) (processor : List ℕ) (j a above ordered k : ℕ) → k < 64 → event_at t u ≡ Some event → IsMask processor (IsEventOf t event.proc) →
    a ≡ get_or processor j 0 → HasBit above k ↔ (u < 64 * j + k) → HasBit ordered k ↔ IsOrdered t event (64 * j + k) →
    HasBit (bit_and (bit_and a above) ordered) k ↔ IsLater t u (64 * j + k)
later_bit t u event processor j a above ordered k low at mask a_is above_is ordered_is =
    let later = HasBit-and a above k in
    let both = HasBit-and (bit_and a above) ordered k in
    let of = word_bit processor (IsEventOf t event.proc) j a k low mask a_is in
    let is = later_is t u (64 * j + k) event at in (
      λ bit. is.0 ((of.0 (later.0 (both.0 bit).0).0, above_is.0 (later.0 (both.0 bit).0).1), ordered_is.0 (both.0 bit).1),
      λ edge. (let to = is.1 edge in both.1 (later.1 (of.1 to.0.0, above_is.1 to.0.1), ordered_is.1 to.1)),
    )

-- what program order puts after an event is program-later
pub later_earlier : (t : TraceValue) (u v : ℕ) → IsLater t u v → Earlier t u v
later_earlier t u v (inl pair) = pair.1
later_earlier t u v (inr (inl pair)) = pair.2
later_earlier t u v (inr (inr (inl pair))) = pair.2
later_earlier t u v (inr (inr (inr pair))) = pair.2

-- so it puts nothing after a number that is no event
pub none_later : (t : TraceValue) (u v : ℕ) → event_at t u ≡ None → IsLater t u v → ⊥
none_later t u v none later = let e = later_earlier t u v later in absurd (let clash : None ≡ Some e.0 = sym none ∙ e.2 in cc)

-- one word more of the numbers that program order puts after a number
pub later_more : (t : TraceValue) (u : ℕ) (first old new : List ℕ) (j word : ℕ) → Marks first old (IsInEarlierWord (IsLater t u) j) → OnWord old new j word →
    ((k : ℕ) → k < 64 → HasBit word k ↔ IsLater t u (64 * j + k)) → Marks first new (IsInEarlierWord (IsLater t u) (j + 1))
later_more t u first old new j word before step word_is =
    earlier_words_more first old new j word (IsLater t u) before step
    (λ v in_word.
    let place : 64 * j + v % 64 ≡ v = omega arith in
    let is = word_is (v % 64) (omega arith) in
    (λ bit. subst (IsLater t u) place (is.0 bit), λ later. is.1 (subst (IsLater t u) (sym place) later)))

-- a load of an event's address
pub load_at : (t : TraceValue) (u l : ℕ) (event : Event) → event_at t u ≡ Some event → IsLoad t l → SameAddress t u l → IsLoadAt t event.a l
load_at t u l event at load same =
    let first = event_unique t u event same.0 at same.2 in
    let second = event_unique t l load.0 same.1 load.1 same.3 in
    (load.0, load.1, load.2, ap (λ (x : Event). x.a) second ∙ sym same.4 ∙ ap (λ (x : Event). x.a) (sym first))

pub at_load : (t : TraceValue) (u l : ℕ) (event : Event) → event_at t u ≡ Some event → IsLoadAt t event.a l → SameAddress t u l
at_load t u l event at load = (event, load.0, at, load.1, sym load.3)

-- a store to an event's address
pub store_to : (t : TraceValue) (u v : ℕ) (event : Event) → event_at t u ≡ Some event → IsStore t v → SameAddress t v u → IsStoreTo t event.a v
store_to t u v event at store same =
    let first = event_unique t v store.0 same.0 store.1 same.2 in
    let second = event_unique t u event same.1 at same.3 in
    (store.0, store.1, store.2, ap (λ (x : Event). x.a) first ∙ same.4 ∙ ap (λ (x : Event). x.a) (sym second))

-- what gives an edge from a store is a load
pub read_load : (t : TraceValue) (u l v : ℕ) → IsReadBy t u l v → IsLoad t l
read_load t u l v (inl read) = source_load t l u read.1.1
read_load t u l v (inr own) = source_load t l v own.3

-- only a store reads past, or is read
pub read_store : (t : TraceValue) (u l v : ℕ) → IsReadBy t u l v → IsStore t u
read_store t u l v (inl read) = read.1.0
read_store t u l v (inr own) = own.0

-- one word more of the loads that read a store and aren't program-later
pub readers_more : (t : TraceValue) (u : ℕ) (event : Event) (first old new readers processor : List ℕ) (j r a above : ℕ) → event_at t u ≡ Some event → event.load ≡ false →
    IsMask readers (λ l. HasSource t l u) → IsMask processor (IsEventOf t event.proc) → Marks first old (IsInEarlierWord (BasePair t Read u) j) →
    OnWord old new j (bit_and r (bit_not w64 (bit_and a above))) → r ≡ get_or readers j 0 → a ≡ get_or processor j 0 → bit_and a above < 2 ^ 64 →
    ((k : ℕ) → k < 64 → HasBit above k ↔ (u < 64 * j + k)) → Marks first new (IsInEarlierWord (BasePair t Read u) (j + 1))
readers_more t u event first old new readers processor j r a above at store readers_are processor_is before step r_is a_is fits above_is =
    earlier_words_more first old new j (bit_and r (bit_not w64 (bit_and a above))) (BasePair t Read u) before step
    (λ v in_word.
    let later = later_word processor (IsEventOf t event.proc) u j a above v in_word processor_is a_is above_is in
    let both = HasBit-and r (bit_not w64 (bit_and a above)) (v % 64) in
    let not = HasBit-not (bit_and a above) (v % 64) fits (omega arith) in
    let word = word_number readers j r v in_word r_is in
    let mask = readers_are.bits v in (
      λ bit. ((event, at, store), mask.0 (word.0 (both.0 bit).0), λ e. not.0 (both.0 bit).1 (later.1 (of_earlier t u v event at e))),
      λ read. both.1 (word.1 (mask.1 read.1), not.1 (λ is. read.2 (let to = later.0 is in earlier_of t u v event at to.0 to.1))),
    ))

-- What the program-later loads of one word give a store to their address: their other sources.
pub own_more : (t : TraceValue) (u : ℕ) (event : Event) (first old new loads processor : List ℕ) (j w a above : ℕ) → event_at t u ≡ Some event → event.load ≡ false →
    IsMask loads (IsLoadAt t event.a) → IsMask processor (IsEventOf t event.proc) → Marks first old (ByWords (λ l v. IsOwnBy t l u v) j) →
    Marks old new (IsSourceIn t u j (bit_and w (bit_and a above))) → w ≡ get_or loads j 0 → a ≡ get_or processor j 0 →
    ((k : ℕ) → k < 64 → HasBit above k ↔ (u < 64 * j + k)) → Marks first new (ByWords (λ l v. IsOwnBy t l u v) (j + 1))
own_more t u event first old new loads processor j w a above at store loads_are processor_is before sources w_is a_is above_is =
    words_more first old new j (λ l v. IsOwnBy t l u v) before (marks_as old new _ _ sources (λ v. (to v, from v)))
  where
    later : (l : ℕ) → l / 64 ≡ j → HasBit (bit_and a above) (l % 64) ↔ (IsEventOf t event.proc l × (u < l))
    later l in_word = later_word processor (IsEventOf t event.proc) u j a above l in_word processor_is a_is above_is

    of_load : (l : ℕ) → l / 64 ≡ j → HasBit w (l % 64) ↔ IsLoadAt t event.a l
    of_load l in_word =
        let word = word_number loads j w l in_word w_is in
        let mask = loads_are.bits l in
        (λ bit. mask.0 (word.0 bit), λ is. word.1 (mask.1 is))

    to : (v : ℕ) → IsSourceIn t u j (bit_and w (bit_and a above)) v → (n : ℕ) × (n / 64 ≡ j) × IsOwnBy t n u v
    to v by =
        let both = (HasBit-and w (bit_and a above) (by.0 % 64)).0 by.2 in
        let own = by.3 in
        let after = (later by.0 by.1).0 both.1 in
        (by.0, by.1, ((event, at, store), at_load t u by.0 event at ((of_load by.0 by.1).0 both.0), earlier_of t u by.0 event at after.0 after.1, own.0, own.1))

    from : (v : ℕ) → ((n : ℕ) × (n / 64 ≡ j) × IsOwnBy t n u v) → IsSourceIn t u j (bit_and w (bit_and a above)) v
    from v (n, in_word, own) =
        let bit = (of_load n in_word).1 (load_at t u n event at (source_load t n v own.3) own.1) in
        (n, in_word, (HasBit-and w (bit_and a above) (n % 64)).1 (bit, (later n in_word).1 (of_earlier t u n event at own.2)), (own.3, own.4))
