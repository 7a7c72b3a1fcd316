-- Lemmas on the pairs that loads and swaps give.
use Rattle.std.proofs.Common.{◌≡◌, ◌≢◌, ◌⊎◌, ◌↔◌, inl, inr, ℕ, suc, ◌+◌, ◌*◌, ◌%◌, ◌^◌, ◌<◌, ◌≤◌, List, get_or, Some, sym, subst, ◌∙◌, ap, arith}
use Rattle.std.specs.Int.{bit_not, w64}
use Rattle.std.specs.Prelude.{bit_and, bit_or}
use Rattle.std.proofs.lemmas.Bool.{cases_eq, cases_lt}
use Rattle.bitsets.specs.Rows.{HasBit, IsMask}
use Rattle.bitsets.proofs.WordFacts.{HasBit-decided, HasBit-and, HasBit-or, HasBit-not, HasBit-clear}
use Rattle.tso_ops.specs.Values.{TraceValue}
use Rattle.tso_ops.specs.declared.events.Event.{Event}
use Rattle.tso_ops.specs.Events.{event_at, event_total, IsStore, IsEventOf, IsLoad, IsSwapLoad, HasSource, SameAddress, Earlier}
use Rattle.tso_ops.proofs.NumberFacts.{event_unique, HasSource-within}
use Rattle.tso_ops.proofs.SwapFacts.{IsSwapLoad-within}
use Rattle.tso_rules.proofs.BaseFacts.{word_bit, no_store}
use Rattle.acyclic_traces.specs.Internal.Pairs.{HasPair, IsClosedForReads, IsClosedForSwap}
use Rattle.acyclic_traces.proofs.PairFacts.{own_bit}

-- the bits of the first of a mask's words
pub low_bit : (words : List ℕ) (Of : ℕ → Type 0) (word k : ℕ) → k < 64 → IsMask words Of → word ≡ get_or words 0 0 → HasBit word k ↔ Of k
low_bit words Of word k low mask is = let bit = word_bit words Of 0 word k low mask is in
    let place : 64 * 0 + k ≡ k = omega arith in
    (λ set. subst Of place (bit.0 set), λ of. bit.1 (subst Of (sym place) of))

-- and without one number
pub other_bit : (words : List ℕ) (Of : ℕ → Type 0) (word s k : ℕ) → s < 64 → k < 64 → IsMask words Of → word ≡ get_or words 0 0 → Of k → k ≢ s →
    HasBit (bit_and word (bit_not w64 (1 * 2 ^ s % 2 ^ 64))) k
other_bit words Of word s k s_low low mask is of other = (HasBit-clear word s k s_low low).1 (other, (low_bit words Of word k low mask is).1 of)

-- and without those above one
pub upto_bit : (words : List ℕ) (Of : ℕ → Type 0) (word above l k : ℕ) → k < 64 → above < 2 ^ 64 → IsMask words Of → word ≡ get_or words 0 0 → ((j : ℕ) → j < 64 → HasBit above j ↔ (l < 64 * 0 + j)) →
    HasBit (bit_and word (bit_not w64 above)) k ↔ (Of k × (k ≤ l))
upto_bit words Of word above l k low fits mask is above_is =
    let both = HasBit-and word (bit_not w64 above) k in
    let not = HasBit-not above k fits low in
    let of = low_bit words Of word k low mask is in
    let past = above_is k low in (
      λ bit. (
        of.0 (both.0 bit).0,
        elim (cases_lt l k) [
          | inl more ↦ absurd (not.0 (both.0 bit).1 (past.1 (omega (arith, more))))
          | inr most ↦ omega (arith, most)
        ],
      ),
      λ upto. both.1 (of.1 upto.0, not.1 (λ more. let over : l < 64 * 0 + k = past.0 more in omega (arith, over, upto.1))),
    )

-- The table has what a load gives by what it reads, if it has the pair of source and load, where the source isn't an own earlier number; of each
-- other store to the address that is one or has a pair with the load the pair with the source; and of the load the pairs that the source has with
-- these stores.
pub closed_for_reads : (t : TraceValue) (rows : List ℕ) (l s others own : ℕ) → ((v : ℕ) → HasSource t l v → v ≡ s) →
    ((u : ℕ) → IsStore t u → SameAddress t u l → u ≢ s → HasBit others u) → ((u : ℕ) → Earlier t u l → HasBit own u) → (HasBit own s → IsStore t s → Earlier t s l) →
    (HasBit own s ⊎ HasPair rows s l) → ((u : ℕ) → HasBit others u → HasBit own u ⊎ HasPair rows u l → HasPair rows u s) →
    ((v : ℕ) → HasBit (bit_and (get_or rows s 0) others) v → HasPair rows l v) → IsClosedForReads t rows l
closed_for_reads t rows l s others own only other earlier own_earlier read seen past = record {
  read = λ u pair.
      let same = only u pair.1 in
      subst (λ n. HasPair rows n l) (sym same) (elim read [
        | inl mine ↦ absurd (pair.2 (subst (λ n. Earlier t n l) (sym same) (own_earlier mine (subst (IsStore t) same pair.0))))
        | inr has ↦ has
      ]);
  own = λ u v pair.
      let same = only v pair.3 in
      subst (HasPair rows u) (sym same) (seen u (other u pair.0 pair.1 (λ e. pair.4 (e ∙ sym same))) (inl (earlier u pair.2)));
  load_past = λ u v given.
      let by = given.2 in
      let same = only v by.2 in
      subst (HasPair rows u) (sym same) (seen u (other u by.0 by.1 (λ e. by.3 (e ∙ sym same)))
      (inr (subst (λ n. HasPair rows n l) by.4 (subst (HasPair rows given.0) by.5 given.3))));
  store_past = λ u v given.
      let by = given.2 in
      let same = only given.0 by.3 in
      let has = subst (λ n. HasPair rows n v) same (subst (HasPair rows given.0) by.5 given.3) in
      subst (λ n. HasPair rows n v) (sym by.0) (past v ((HasBit-and (get_or rows s 0) others v).1 (has, other v by.1 by.2 (λ e. by.4 (e ∙ sym same)))));
}

-- The same of a swap's load: the pairs of other stores with the swap's store are pairs with its load, and those of the load pairs of the store.
pub closed_for_swap : (t : TraceValue) (rows : List ℕ) (l others : ℕ) → ((u : ℕ) → IsStore t u → u ≢ suc l → HasBit others u) →
    ((u : ℕ) → HasBit others u → HasPair rows u (suc l) → HasPair rows u l) → ((v : ℕ) → HasBit (bit_and (get_or rows l 0) others) v → HasPair rows (suc l) v) → IsClosedForSwap t rows l
closed_for_swap t rows l others other before after = record {
  before = λ u v given.
      let by = given.2 in
      subst (HasPair rows u) (sym by.1) (before u (other u by.2 by.3) (subst (λ n. HasPair rows n (suc l)) by.4 (subst (HasPair rows given.0) by.5 given.3)));
  after = λ u v given.
      let by = given.2 in
      let has = subst (λ n. HasPair rows n v) by.4 (subst (HasPair rows given.0) by.5 given.3) in
      subst (λ n. HasPair rows n v) (sym by.1) (after v ((HasBit-and (get_or rows l 0) others v).1 (has, other v by.2 by.3)));
}

-- a program-earlier number is one of the event's processor, and none above it
pub earlier_own : (t : TraceValue) (u l : ℕ) (event : Event) → event_at t l ≡ Some event → Earlier t u l → IsEventOf t event.proc u × (u ≤ l)
earlier_own t u l event at e =
    let less : u < l = e.5 in
    ((e.0, e.2, e.4 ∙ ap (λ (x : Event). x.proc) (event_unique t l e.1 event e.3 at)), omega (arith, less))

-- and such a store is program-earlier than the load
pub own_earlier : (t : TraceValue) (s l : ℕ) (event : Event) → event_at t l ≡ Some event → IsLoad t l → IsStore t s → IsEventOf t event.proc s → s ≤ l → Earlier t s l
own_earlier t s l event at load store of most = elim (cases_eq s l) [
  | inl same ↦ absurd (no_store t l load (subst (IsStore t) same store))
  | inr other ↦ (of.0, event, of.1, at, of.2, omega (arith, most, other))
]

-- a number past the events gives nothing
pub reads_past : (t : TraceValue) (rows : List ℕ) (l : ℕ) → suc (event_total t) ≤ l → IsClosedForReads t rows l
reads_past t rows l past = record {
  read = λ u pair. none u pair.1;
  own = λ u v pair. none v pair.3;
  load_past = λ u v given. none v given.2.2;
  store_past = λ u v given. none given.0 given.2.3;
}
  where
    none : {Any : Type 0} → (s : ℕ) → HasSource t l s → Any
    none s has = absurd (let within : l < suc (event_total t) = (HasSource-within t l s has).0 in omega (arith, past, within))

-- what isn't a swap's load gives nothing as one
pub closed_if_swap : (t : TraceValue) (rows : List ℕ) (l : ℕ) → suc (event_total t) ≤ 64 → (l < 64 → IsSwapLoad t l → IsClosedForSwap t rows l) → IsClosedForSwap t rows l
closed_if_swap t rows l few closed = record {
  before = λ u v given. (on given.2.0).before u v given;
  after = λ u v given. (on given.2.0).after u v given;
}
  where
    on : IsSwapLoad t l → IsClosedForSwap t rows l
    on swap = let within : l < suc (event_total t) = (IsSwapLoad-within t l swap).0 in closed (omega (arith, within, few)) swap

-- what a load reads, where its source isn't an own number before it
pub read_given : (rows : List ℕ) (own s l : ℕ) → own < 2 ^ 64 → s < 64 → ((u : ℕ) → HasBit (bit_and (1 * 2 ^ s % 2 ^ 64) (bit_not w64 own)) u → HasPair rows u l) → HasBit own s ⊎ HasPair rows s l
read_given rows own s l fits low has = elim (HasBit-decided own s) [
  | inl mine ↦ inl mine
  | inr not_mine ↦ inr (has s ((HasBit-and (1 * 2 ^ s % 2 ^ 64) (bit_not w64 own) s).1 (own_bit s low, (HasBit-not own s fits low).1 not_mine)))
]

-- what it sees
pub seen_given : (rows : List ℕ) (before own others s l : ℕ) → ((u : ℕ) → HasBit before u ↔ HasPair rows u l) → ((u : ℕ) → HasBit (bit_and (bit_or before own) others) u → HasPair rows u s) →
    (u : ℕ) → HasBit others u → HasBit own u ⊎ HasPair rows u l → HasPair rows u s
seen_given rows before own others s l are has u other is =
    has u ((HasBit-and (bit_or before own) others u).1 (
      (HasBit-or before own u).1 (elim is [
        | inl mine ↦ inr mine
        | inr pair ↦ inl ((are u).1 pair)
      ]),
      other,
    ))

-- what comes before a swap's store
pub before_given : (rows : List ℕ) (before others store l : ℕ) → ((u : ℕ) → HasBit before u ↔ HasPair rows u store) → ((u : ℕ) → HasBit (bit_and before others) u → HasPair rows u l) →
    (u : ℕ) → HasBit others u → HasPair rows u store → HasPair rows u l
before_given rows before others store l are has u other is = has u ((HasBit-and before others u).1 ((are u).1 is, other))
