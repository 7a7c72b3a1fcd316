-- Lemmas on the keys of chains: what has one key has one processor and kind, and under PSO the stores of one key have one address.
use Rattle.std.proofs.Common.{◌≡◌, ◌⊎◌, inl, inr, ℕ, zero, suc, ◌+◌, ◌*◌, ◌<◌, ◌≤◌, Bool, true, false, cond, List, [], ◌∷◌, ◌++◌, length, get_or, None, Some, refl, sym, subst, ap, ◌∙◌, arith}
use Rattle.std.proofs.lemmas.Bool.{cases_eq}
use Rattle.std.proofs.lemmas.Nat.{row_fits, same_from_place}
use Rattle.std.proofs.lemmas.List.{get_or_append_left, get_or_push, length-append}
use Rattle.tso_ops.specs.declared.settings.Order.{Order}
use Rattle.tso_ops.specs.declared.settings.Order.TheVariants.{Tso, Pso}
use Rattle.tso_ops.specs.declared.events.Event.{Event}
use Rattle.tso_ops.specs.Values.{TraceValue}
use Rattle.tso_ops.specs.Limits.{IsTrace}
use Rattle.tso_ops.specs.Events.{processor_count, event_total, event_at, IsEvent, IsLoad, IsStore, IsEventOf, SameAddress}
use Rattle.tso_ops.proofs.NumberFacts.{event_unique, IsLoad-within, IsStore-within}
use Rattle.tso_cert.specs.declared.rules.BaseRule.TheVariants.{Init, LoadOp, StoreStore}
use Rattle.tso_model.specs.Ranks.{RankSet}
use Rattle.chain_reach.specs.declared.types.Groups.{Groups}
use Rattle.chain_reach.specs.Groups.{node_count, count_of, group_of, IsLaterIn}
use Rattle.chain_rules.specs.Chains.{address_total, chain_width, AreTogether, AreChainsOf}
use Rattle.chain_rules.specs.declared.chains.Layout.{Layout}
use Rattle.chain_rules.specs.Internal.Layouts.{is_by_address, layout_of, layout_count, place_in, chain_in, chain_at, IsSmall, IsPlaced, AreChainKeys}
use Rattle.chain_rules.proofs.TraceBounds.{processor_below, processors-most, event_exists, event_or_none, address_below, width-most, chain_total-most}

-- ---- what fits

-- the layout of a trace is small
pub layout_small : (t : TraceValue) → IsTrace t → IsSmall (layout_of t)
layout_small t trace = record { processors = processors-most t trace; width = width-most t trace t.setting.order }

place_below : (order : Order) (a addresses : ℕ) → a < addresses → cond (is_by_address order) a 0 < chain_width order addresses
place_below Tso a addresses low = omega arith
place_below Pso a addresses low = low

-- each event has a chain in it
pub layout_placed : (t : TraceValue) (n : ℕ) (e : Event) → n < suc (event_total t) → event_at t n ≡ Some e → IsPlaced (layout_of t) e
layout_placed t n e within at = record {
  processor = processor_below t n e at;
  place = place_below t.setting.order e.a (address_total t) (address_below t n e within at);
}

layout_fits : (l : Layout) (e : Event) → IsPlaced l e → e.proc * l.width + l.width ≤ l.processors * l.width
layout_fits l e placed = row_fits e.proc l.width l.processors l.width placed.processor (omega arith)

chain_in_count : (load : Bool) (processors width p place rows all : ℕ) → p < processors → place < width → p * width + width ≤ rows → all ≡ processors + rows →
    cond load (1 + p) (1 + processors + p * width + place) < 1 + all
chain_in_count true processors width p place rows all low within fits is = omega arith
chain_in_count false processors width p place rows all low within fits is = omega arith

-- an event's chain is one of the layout's
chain_within : (l : Layout) (e : Event) → IsPlaced l e → chain_in l e < layout_count l
chain_within l e placed =
    chain_in_count e.load l.processors l.width e.proc (place_in l e) (l.processors * l.width) (l.processors * (1 + l.width)) placed.processor placed.place (layout_fits l e placed) (omega arith)

-- ---- the keys one after another

pub keys_more : (t : TraceValue) (keys : List ℕ) (n key : ℕ) → AreChainKeys t keys n → key ≡ chain_at (layout_of t) (event_at t n) → key < layout_count (layout_of t) →
    AreChainKeys t (keys ++ key ∷ []) (n + 1)
keys_more t keys n key are is low = record {
  sized = length-append keys (key ∷ []) ∙ ap (λ k. k + 1) are.sized;
  each = λ k less. elim (cases_eq k n) [
    | inl same ↦ subst (λ m. get_or (keys ++ key ∷ []) m 0 ≡ chain_at (layout_of t) (event_at t m)) (sym same) (get_or_push keys key 0 n are.sized ∙ is)
    | inr other ↦ get_or_append_left keys (key ∷ []) 0 k (let sized = are.sized in omega (arith, sized, less, other)) ∙ are.each k (omega (arith, less, other))
  ];
  within = λ k less. elim (cases_eq k n) [
    | inl same ↦ subst (λ m. m < layout_count (layout_of t)) (sym (ap (λ m. get_or (keys ++ key ∷ []) m 0) same ∙ get_or_push keys key 0 n are.sized)) low
    | inr other ↦ subst (λ m. m < layout_count (layout_of t)) (sym (get_or_append_left keys (key ∷ []) 0 k (let sized = are.sized in omega (arith, sized, less, other))))
        (are.within k (omega (arith, less, other)))
  ];
}

-- the key of a number that has an event
pub key_of_event : (t : TraceValue) (n key : ℕ) (e : Event) → n < suc (event_total t) → event_at t n ≡ Some e → key ≡ chain_in (layout_of t) e →
    (key ≡ chain_at (layout_of t) (event_at t n)) × (key < layout_count (layout_of t))
key_of_event t n key e within at is =
    let fits = chain_within (layout_of t) e (layout_placed t n e within at) in
    (is ∙ ap (chain_at (layout_of t)) (sym at), omega (arith, is, fits))

-- and that of one that has none
pub key_of_none : (t : TraceValue) (n key : ℕ) → event_at t n ≡ None → key ≡ 0 → (key ≡ chain_at (layout_of t) (event_at t n)) × (key < layout_count (layout_of t))
key_of_none t n key at is = (is ∙ ap (chain_at (layout_of t)) (sym at), omega (arith, is))

-- ---- what has one key

same_chain : (load load' : Bool) (processors width p q a b : ℕ) → p < processors → q < processors → a < width → b < width →
    cond load (1 + p) (1 + processors + p * width + a) ≡ cond load' (1 + q) (1 + processors + q * width + b) → (load ≡ load') × (p ≡ q) × (load ≡ false → a ≡ b)
same_chain true true processors width p q a b p_low q_low a_low b_low same = (refl, omega (arith, same), λ e. absurd cc)
same_chain true false processors width p q a b p_low q_low a_low b_low same = absurd (omega (arith, same, p_low))
same_chain false true processors width p q a b p_low q_low a_low b_low same = absurd (omega (arith, same, q_low))
same_chain false false processors width p q a b p_low q_low a_low b_low same =
    let both = same_from_place p a q b width a_low b_low (omega (arith, same)) in
    (refl, both.0, λ e. both.1)

-- an event has a chain of its own
chain_above : (load : Bool) (one more : ℕ) → 0 < one → 0 < more → 0 < cond load one more
chain_above true one more first second = first
chain_above false one more first second = second

-- The groups of the numbers have the keys of their chains.
record HaveChains (t : TraceValue) (g : Groups) : Type 0 where
  nodes : node_count g ≡ suc (event_total t)
  keys : (k : ℕ) → k < suc (event_total t) → group_of g k ≡ chain_at (layout_of t) (event_at t k)

key_at : (t : TraceValue) (g : Groups) → HaveChains t g → (n : ℕ) (e : Event) → n < node_count g → event_at t n ≡ Some e → group_of g n ≡ chain_in (layout_of t) e
key_at t g have n e within at = have.keys n (let nodes = have.nodes in omega (arith, within, nodes)) ∙ ap (chain_at (layout_of t)) at

-- events of one group have one processor and kind, and stores one place
same_group : (t : TraceValue) (g : Groups) → HaveChains t g → (x y : ℕ) (d e : Event) → AreTogether g x y → event_at t x ≡ Some d → event_at t y ≡ Some e →
    (d.load ≡ e.load) × (d.proc ≡ e.proc) × (d.load ≡ false → place_in (layout_of t) d ≡ place_in (layout_of t) e)
same_group t g have x y d e (x_low, y_low, same) at_x at_y =
    let nodes = have.nodes in
    let first = layout_placed t x d (omega (arith, x_low, nodes)) at_x in
    let second = layout_placed t y e (omega (arith, y_low, nodes)) at_y in
    same_chain d.load e.load (processor_count t) (chain_width t.setting.order (address_total t)) d.proc e.proc (place_in (layout_of t) d) (place_in (layout_of t) e)
    first.processor second.processor first.place second.place (sym (key_at t g have x d x_low at_x) ∙ same ∙ key_at t g have y e y_low at_y)

-- what is in a group with an event is one
event_with : (t : TraceValue) (g : Groups) → HaveChains t g → (x y : ℕ) (d : Event) → AreTogether g x y → event_at t x ≡ Some d → IsEvent t y
event_with t g have x y d (x_low, y_low, same) at_x = elim (event_or_none (event_at t y)) [
  | inl none ↦ absurd (
      let nodes = have.nodes in
      let is : chain_in (layout_of t) d ≡ 0 =
      sym (key_at t g have x d x_low at_x) ∙ same ∙ have.keys y (omega (arith, y_low, nodes)) ∙ ap (chain_at (layout_of t)) none in
      let above = chain_above d.load (1 + d.proc) (1 + processor_count t + d.proc * chain_width t.setting.order (address_total t) + place_in (layout_of t) d) (omega arith) (omega arith) in
      omega (arith, is, above)
      )
  | inr some ↦ some
]

-- stores of one place under a memory model that keeps the order of them all, or have one address
keeps_stores : (order : Order) (a b : ℕ) → cond (is_by_address order) a 0 ≡ cond (is_by_address order) b 0 → (order ≡ Tso) ⊎ (a ≡ b)
keeps_stores Tso a b same = inl refl
keeps_stores Pso a b same = inr same

ordered_events : (t : TraceValue) (x y : ℕ) (d e : Event) (load : Bool) → load ≡ d.load → x < y → event_at t x ≡ Some d → event_at t y ≡ Some e → d.load ≡ e.load → d.proc ≡ e.proc →
    (d.load ≡ false → place_in (layout_of t) d ≡ place_in (layout_of t) e) → RankSet t 0 x y
ordered_events t x y d e true is less at_x at_y load proc place = (LoadOp, ((d, at_x, sym is), (d, e, at_x, at_y, proc, less)))
ordered_events t x y d e false is less at_x at_y load proc place = (
  StoreStore,
  (
    (d, at_x, sym is),
    (e, at_y, sym load ∙ sym is),
    (d, e, at_x, at_y, proc, less),
    elim (keeps_stores t.setting.order d.a e.a (place (sym is))) [ inl tso ↦ inl tso | inr same ↦ inr (d, e, at_x, at_y, same) ],
  ),
)

chains_ordered : (t : TraceValue) (g : Groups) → HaveChains t g → (x y : ℕ) → IsLaterIn g x y → RankSet t 0 x y
chains_ordered t g have zero y (less, within, same) = (Init, (refl, event_exists t y less (let nodes = have.nodes in omega (arith, within, nodes))))
chains_ordered t g have (suc k) y (less, within, same) =
    let nodes = have.nodes in
    let first = event_exists t (suc k) (omega arith) (omega (arith, less, within, nodes)) in
    let second = event_exists t y (omega (arith, less)) (omega (arith, within, nodes)) in
    let one = same_group t g have (suc k) y first.0 second.0 (omega (arith, less, within), within, same) first.1 second.1 in
    ordered_events t (suc k) y first.0 second.0 first.0.load refl less first.1 second.1 one.0 one.1 one.2

load_chain : (l : Layout) (d : Event) → d.load ≡ true → chain_in l d ≡ 1 + d.proc
load_chain l d load = ap (λ b. cond b (1 + d.proc) (1 + l.processors + d.proc * l.width + place_in l d)) load

store_chain : (l : Layout) (d : Event) → d.load ≡ false → chain_in l d ≡ 1 + l.processors + d.proc * l.width + place_in l d
store_chain l d store = ap (λ b. cond b (1 + d.proc) (1 + l.processors + d.proc * l.width + place_in l d)) store

loads_share_chain : (t : TraceValue) (g : Groups) → HaveChains t g → (p x y : ℕ) → IsLoad t x → IsLoad t y → IsEventOf t p x → IsEventOf t p y → group_of g x ≡ group_of g y
loads_share_chain t g have p x y (d, at_x, d_load) (e, at_y, e_load) d_of e_of =
    let nodes = have.nodes in
    let x_low = IsLoad-within t x (d, at_x, d_load) in
    let y_low = IsLoad-within t y (e, at_y, e_load) in
    let d_proc : d.proc ≡ p = ap (λ (v : Event). v.proc) (event_unique t x d d_of.0 at_x d_of.1) ∙ d_of.2 in
    let e_proc : e.proc ≡ p = ap (λ (v : Event). v.proc) (event_unique t y e e_of.0 at_y e_of.1) ∙ e_of.2 in
    key_at t g have x d (omega (arith, x_low, nodes)) at_x ∙ load_chain (layout_of t) d d_load ∙ ap (λ k. 1 + k) (d_proc ∙ sym e_proc)
    ∙ sym (key_at t g have y e (omega (arith, y_low, nodes)) at_y ∙ load_chain (layout_of t) e e_load)

stores_share_chain : (t : TraceValue) (g : Groups) → HaveChains t g → (p x y : ℕ) → IsStore t x → IsStore t y → SameAddress t x y → IsEventOf t p x → IsEventOf t p y →
    group_of g x ≡ group_of g y
stores_share_chain t g have p x y (d, at_x, d_store) (e, at_y, e_store) same d_of e_of =
    let nodes = have.nodes in
    let l = layout_of t in
    let x_low = IsStore-within t x (d, at_x, d_store) in
    let y_low = IsStore-within t y (e, at_y, e_store) in
    let d_proc : d.proc ≡ p = ap (λ (v : Event). v.proc) (event_unique t x d d_of.0 at_x d_of.1) ∙ d_of.2 in
    let e_proc : e.proc ≡ p = ap (λ (v : Event). v.proc) (event_unique t y e e_of.0 at_y e_of.1) ∙ e_of.2 in
    let address : d.a ≡ e.a =
    ap (λ (v : Event). v.a) (event_unique t x d same.0 at_x same.2) ∙ same.4 ∙ ap (λ (v : Event). v.a) (event_unique t y same.1 e same.3 at_y) in
    key_at t g have x d (omega (arith, x_low, nodes)) at_x ∙ store_chain l d d_store
    ∙ ap (λ k. 1 + processor_count t + k * chain_width t.setting.order (address_total t) + place_in l d) (d_proc ∙ sym e_proc)
    ∙ ap (λ a. 1 + processor_count t + e.proc * chain_width t.setting.order (address_total t) + cond (is_by_address t.setting.order) a 0) address
    ∙ sym (key_at t g have y e (omega (arith, y_low, nodes)) at_y ∙ store_chain l e e_store)

-- the groups of these keys are the chains of the trace
pub chains_are : (t : TraceValue) (g : Groups) (keys : List ℕ) (n : ℕ) → IsTrace t → AreChainKeys t keys n → n ≡ suc (event_total t) → node_count g ≡ length keys → ((m : ℕ) → m < length keys → group_of g m ≡ get_or keys m 0) →
    count_of g ≡ layout_count (layout_of t) → AreChainsOf t g
chains_are t g keys n trace are all sized keyed counted = record {
  nodes = have.nodes;
  few = (let most = chain_total-most t trace in omega (arith, most, counted));
  ordered = chains_ordered t g have;
  processors = λ p x y together of. (
      let event = event_with t g have x y of.0 together of.1 in
      let same = same_group t g have x y of.0 event.0 together of.1 event.1 in
      (event.0, event.1, sym same.1 ∙ of.2)
      );
  kinds = λ x y together store. (
      let event = event_with t g have x y store.0 together store.1 in
      let same = same_group t g have x y store.0 event.0 together store.1 event.1 in
      (event.0, event.1, sym same.0 ∙ store.2)
      );
  loads = loads_share_chain t g have;
  stores = stores_share_chain t g have;
}
  where
    have : HaveChains t g
    have = record {
      nodes = sized ∙ are.sized ∙ all;
      keys = λ k low. keyed k (let counted = are.sized in omega (arith, low, all, counted)) ∙ are.each k (omega (arith, low, all));
    }
