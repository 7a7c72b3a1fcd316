-- Which events come before which, by their numbers and counted from 0, and how that goes on along chains.
use Rattle.std.proofs.Common.{◌≡◌, ◌↔◌, inl, inr, refl, sym, ap, subst, ◌∙◌, ℕ, zero, suc, ◌<◌, ◌≤◌, Bool, true, false, List, length, Option, None, Some, arith, if◌then◌else◌}
use Rattle.std.proofs.lemmas.Bool.{cases_Bool}
use Rattle.std.proofs.lemmas.Option.{same_Some}
use Rattle.tso_ops.specs.declared.settings.Order.{Order}
use Rattle.tso_ops.specs.declared.settings.Order.TheVariants.{Tso, Pso}
use Rattle.tso_ops.specs.declared.events.Event.{Event}
use Rattle.tso_ops.specs.Values.{TraceValue}
use Rattle.tso_ops.specs.Events.{event_at, Earlier, IsLoad, IsStore, IsEventOf, KeepsStores}
use Rattle.tso_ops.proofs.NumberFacts.{event_above_zero}
use Rattle.tso_ops.proofs.ProcessorFacts.{bars_ascend, stbars_ascend}
use Rattle.order_paths.specs.Paths.{Reaches}
use Rattle.order_paths.proofs.Reach.{Reaches-edge, Reaches-into, Reaches-join}
use Rattle.chain_reach.specs.declared.types.Groups.{Groups}
use Rattle.chain_reach.specs.Groups.{group_of, IsLaterIn}
use Rattle.program_chains.specs.declared.events.LogEvent.{LogEvent}
use Rattle.program_chains.specs.LogEvents.{AreEventsOf}
use Rattle.value_evidence.specs.Candidates.{IsProgramPair}
use Rattle.program_chains.specs.Chains.{AreOfOneChain, AreProgramChains}
use Rattle.program_chains.specs.Internal.Keys.{AreKeyed, chain_key, store_key, event_in}
use Rattle.program_chains.specs.Internal.Pairs.{ArePaired, ArePairChains, IsPair, Keeps}
use Rattle.program_chains.proofs.EventFacts.{at_number, same_number, total}

-- ---- pairs by numbers

program_earlier : (t : TraceValue) (u v : ℕ) → IsProgramPair t u v → Earlier t u v
program_earlier t u v pair = elim pair [ inl p ↦ p.1 | inr (inl p) ↦ p.2 | inr (inr (inl p)) ↦ p.2 | inr (inr (inr p)) ↦ p.2 ]

ends : (t : TraceValue) (events : List LogEvent) → AreEventsOf t events → (u v : ℕ) → Earlier t (suc u) (suc v) →
    (u < v) × (v < length events) × ((event_in events u).proc ≡ (event_in events v).proc)
ends t events are u v earlier =
    let from = same_number t events are u earlier.0 earlier.2 in
    let to = same_number t events are v earlier.1 earlier.3 in
    let less = earlier.5 in
    (omega (arith, less), to.0, ap (λ (e : Event). e.proc) (sym from.1) ∙ earlier.4 ∙ ap (λ (e : Event). e.proc) to.1)

load_in : (t : TraceValue) (events : List LogEvent) → AreEventsOf t events → (x : ℕ) → IsLoad t (suc x) → (event_in events x).load ≡ true
load_in t events are x load = ap (λ (e : Event). e.load) (sym (same_number t events are x load.0 load.1).1) ∙ load.2

store_in : (t : TraceValue) (events : List LogEvent) → AreEventsOf t events → (x : ℕ) → IsStore t (suc x) → (event_in events x).load ≡ false
store_in t events are x store = ap (λ (e : Event). e.load) (sym (same_number t events are x store.0 store.1).1) ∙ store.2

keeps_in : (t : TraceValue) (events : List LogEvent) → AreEventsOf t events → (u v : ℕ) → KeepsStores t (suc u) (suc v) → Keeps t.setting.order (event_in events u) (event_in events v)
keeps_in t events are u v keeps = elim keeps [
  | inl tso ↦ inl tso
  | inr same ↦ inr (
      ap (λ (e : Event). e.a) (sym (same_number t events are u same.0 same.2).1) ∙ same.4 ∙ ap (λ (e : Event). e.a) (same_number t events are v same.1 same.3).1
      )
]

pair_in : (t : TraceValue) (events : List LogEvent) → AreEventsOf t events → (u v : ℕ) → IsProgramPair t (suc u) (suc v) → IsPair t.setting.order events u v
pair_in t events are u v pair =
    let at = ends t events are u v (program_earlier t (suc u) (suc v) pair) in (
      at.0,
      at.1,
      (
        at.2,
        elim pair [
          | inl p ↦ inl (load_in t events are u p.0)
          | inr (inl p) ↦ inr (inr (store_in t events are u p.0, store_in t events are v p.1, inl (keeps_in t events are u v p.3)))
          | inr (inr (inl p)) ↦ inr (inr (
            store_in t events are u p.0,
            store_in t events are v p.1,
            inr (
                let from = (same_number t events are u p.3.0 p.3.2).1 in
                let to = (same_number t events are v p.3.1 p.3.3).1 in
                subst (λ (d : Event). d.stbars < (event_in events v).stbars) from (subst (λ (e : Event). p.3.0.stbars < e.stbars) to p.3.4)
                ),
          ))
          | inr (inr (inr p)) ↦ inr (inl (
            store_in t events are u p.0,
            load_in t events are v p.1,
            (
                let from = (same_number t events are u p.3.0 p.3.2).1 in
                let to = (same_number t events are v p.3.1 p.3.3).1 in
                subst (λ (d : Event). d.bars < (event_in events v).bars) from (subst (λ (e : Event). p.3.0.bars < e.bars) to p.3.4)
                ),
          ))
        ],
      ),
    )

pair_of : (t : TraceValue) (events : List LogEvent) → AreEventsOf t events → (u v : ℕ) → IsPair t.setting.order events u v → IsProgramPair t (suc u) (suc v)
pair_of t events are u v pair =
    let less = pair.0 in
    let low = pair.1 in
    let d = event_in events u in
    let e = event_in events v in
    let at_u : event_at t (suc u) ≡ Some d = at_number t events are u (omega (arith, less, low)) in
    let at_v : event_at t (suc v) ≡ Some e = at_number t events are v low in
    let earlier : Earlier t (suc u) (suc v) = (d, e, at_u, at_v, pair.2.0, omega (arith, less)) in
    elim pair.2.1 [
      | inl load ↦ inl ((d, at_u, load), earlier)
      | inr (inl p) ↦ inr (inr (inr ((d, at_u, p.0), (e, at_v, p.1), earlier, (d, e, at_u, at_v, p.2))))
      | inr (inr p) ↦ elim p.2 [
        | inl keeps ↦ inr (inl ((d, at_u, p.0), (e, at_v, p.1), earlier, elim keeps [ inl tso ↦ inl tso | inr same ↦ inr (d, e, at_u, at_v, same) ]))
        | inr stbars ↦ inr (inr (inl ((d, at_u, p.0), (e, at_v, p.1), earlier, (d, e, at_u, at_v, stbars))))
      ]
    ]

before : ℕ → ℕ
before zero = zero
before (suc k) = k

edge_in : (t : TraceValue) (events : List LogEvent) → AreEventsOf t events → (a b : ℕ) → IsProgramPair t a b → Reaches (IsPair t.setting.order events) (before a) (before b)
unfolding before
edge_in t events are zero b pair = absurd (let earlier = program_earlier t zero b pair in let above = event_above_zero t zero (earlier.0, earlier.2) in omega (arith, above))
edge_in t events are (suc a) zero pair = absurd (let earlier = program_earlier t (suc a) zero pair in let above = event_above_zero t zero (earlier.1, earlier.3) in omega (arith, above))
edge_in t events are (suc a) (suc b) pair = Reaches-edge (IsPair t.setting.order events) a b (pair_in t events are a b pair)

-- what comes before what by several pairs
pub paths_of : (t : TraceValue) (events : List LogEvent) → AreEventsOf t events → (x y : ℕ) → Reaches (IsPair t.setting.order events) x y ↔ Reaches (IsProgramPair t) (suc x) (suc y)
unfolding before
paths_of t events are x y = (
  λ path. Reaches-into (IsPair t.setting.order events) (λ a b. Reaches (IsProgramPair t) (suc a) (suc b)) (λ a b c. Reaches-join (IsProgramPair t) (suc a) (suc b) (suc c))
      (λ a b pair. Reaches-edge (IsProgramPair t) (suc a) (suc b) (pair_of t events are a b pair)) x y path,
  λ path. Reaches-into (IsProgramPair t) (λ a b. Reaches (IsPair t.setting.order events) (before a) (before b))
      (λ a b c. Reaches-join (IsPair t.setting.order events) (before a) (before b) (before c)) (edge_in t events are) (suc x) (suc y) path,
)

-- ---- events of one key

same_load : (b c : Bool) (x y : ℕ) → (if b then None else Some x) ≡ (if c then None else Some y) → (b ≡ c) × (b ≡ false → x ≡ y)
same_load true true x y e = (refl, λ no. absurd cc)
same_load true false x y e = absurd cc
same_load false true x y e = absurd cc
same_load false false x y e = (refl, λ no. same_Some x y e)

keeps_from : (order : Order) (d e : Event) → store_key order d.a ≡ store_key order e.a → Keeps order d e
keeps_from Tso d e same = inl refl
keeps_from Pso d e same = inr same

-- events of one key are of one processor and kind, and stores are kept in order
pub record AreAlike (order : Order) (d e : Event) : Type 0 where
  pub processor : d.proc ≡ e.proc
  pub kind : d.load ≡ e.load
  pub keeps : d.load ≡ false → Keeps order d e

alike : (order : Order) (d e : Event) → chain_key order d ≡ chain_key order e → AreAlike order d e
alike order d e same =
    let parts = same_load d.load e.load (store_key order d.a) (store_key order e.a) (ap (λ (k : ℕ × Option ℕ). k.1) same) in
    record { processor = ap (λ (k : ℕ × Option ℕ). k.0) same; kind = parts.0; keeps = λ store. keeps_from order d e (parts.1 store) }

alike_in : (order : Order) (events : List LogEvent) (g : Groups) → AreKeyed order events g → (x y : ℕ) → AreOfOneChain g x y → AreAlike order (event_in events x) (event_in events y)
alike_in order events g keyed x y together =
    let nodes = keyed.nodes in
    let low_x = together.0 in
    let low_y = together.1 in
    alike order (event_in events x) (event_in events y) ((keyed.same x y (omega (arith, low_x, nodes)) (omega (arith, low_y, nodes))).0 together.2)

keeps_on : (order : Order) (c d e : Event) → Keeps order c d → Keeps order d e → Keeps order c e
keeps_on order c d e first second = elim first [
  | inl tso ↦ inl tso
  | inr same ↦ elim second [ inl tso ↦ inl tso | inr same' ↦ inr (same ∙ same') ]
]

alike_paired : (order : Order) (d e : Event) → AreAlike order d e → ArePaired order d e
alike_paired order d e are = (
  are.processor,
  elim (cases_Bool d.load) [
    | inl load ↦ inl load
    | inr store ↦ inr (inr (store, sym are.kind ∙ store, inl (are.keeps store)))
  ],
)

-- what comes before an event alike to a later one comes before what that one does
alike_first : (order : Order) (c d e : Event) → AreAlike order c d → c.bars ≤ d.bars → c.stbars ≤ d.stbars → ArePaired order d e → ArePaired order c e
alike_first order c d e are bars stbars paired = (
  are.processor ∙ paired.0,
  elim paired.1 [
    | inl load ↦ inl (are.kind ∙ load)
    | inr (inl p) ↦ inr (inl (are.kind ∙ p.0, p.1, (let less = p.2 in omega (arith, bars, less))))
    | inr (inr p) ↦ inr (inr (
      are.kind ∙ p.0,
      p.1,
      elim p.2 [
        | inl keeps ↦ inl (keeps_on order c d e (are.keeps (are.kind ∙ p.0)) keeps)
        | inr less ↦ inr (omega (arith, stbars, less))
      ],
    ))
  ],
)

together_of : (g : Groups) (x y : ℕ) → IsLaterIn g x y → AreOfOneChain g x y
together_of g x y later = (let less = later.0 in let low = later.1 in omega (arith, less, low), later.1, later.2)

pub pair_chains : (t : TraceValue) (events : List LogEvent) (g : Groups) → AreEventsOf t events → AreKeyed t.setting.order events g → ArePairChains t.setting.order events g
pair_chains t events g are keyed = record {
  nodes = keyed.nodes;
  ordered = λ x y later. (let low = later.1 in let nodes = keyed.nodes in
      (later.0, omega (arith, low, nodes), alike_paired t.setting.order (event_in events x) (event_in events y) (alike_in t.setting.order events g keyed x y (together_of g x y later))));
  first = λ x y v later pair. (
      let less = later.0 in let low = later.1 in let nodes = keyed.nodes in let on = pair.0 in
      let is = alike_in t.setting.order events g keyed x y (together_of g x y later) in
      let at_x : event_at t (suc x) ≡ Some (event_in events x) = at_number t events are x (omega (arith, less, low, nodes)) in
      let at_y : event_at t (suc y) ≡ Some (event_in events y) = at_number t events are y (omega (arith, low, nodes)) in
      let bars = bars_ascend t (suc x) (suc y) (event_in events x) (event_in events y) at_x at_y is.processor (omega (arith, less)) in
      let stbars = stbars_ascend t (suc x) (suc y) (event_in events x) (event_in events y) at_x at_y is.processor (omega (arith, less)) in
      (omega (arith, less, on), pair.1, alike_first t.setting.order (event_in events x) (event_in events y) (event_in events v) is bars stbars pair.2)
      );
}

-- ---- chains by numbers

-- a key, by its parts
abbrev key_of : ℕ → Bool → ℕ → ℕ × Option ℕ
key_of p load key = (p, if load then None else Some key)

key_same : (p q : ℕ) (b c : Bool) (x y : ℕ) → p ≡ q → b ≡ c → (b ≡ false → x ≡ y) → key_of p b x ≡ key_of q c y
key_same p q true true x y e same store = ap (λ n. key_of n true x) e
key_same p q true false x y e same store = absurd cc
key_same p q false true x y e same store = absurd cc
key_same p q false false x y e same store = ap (λ n. key_of n false x) e ∙ ap (key_of q false) (store refl)

store_same : (order : Order) (d e : Event) → Keeps order d e → store_key order d.a ≡ store_key order e.a
store_same Tso d e keeps = refl
store_same Pso d e keeps = elim keeps [ inl tso ↦ absurd cc | inr same ↦ same ]

-- alike events have one key
alike_key : (order : Order) (d e : Event) → AreAlike order d e → chain_key order d ≡ chain_key order e
alike_key order d e are =
    key_same d.proc e.proc d.load e.load (store_key order d.a) (store_key order e.a) are.processor are.kind (λ store. store_same order d e (are.keeps store))

-- what two numbers of one chain are
record AreOfChain (t : TraceValue) (events : List LogEvent) (x y : ℕ) : Type 0 where
  are : AreAlike t.setting.order (event_in events x) (event_in events y)
  from : event_at t (suc x) ≡ Some (event_in events x)
  to : event_at t (suc y) ≡ Some (event_in events y)

of_chain : (t : TraceValue) (events : List LogEvent) (g : Groups) → AreEventsOf t events → AreKeyed t.setting.order events g → (x y : ℕ) → AreOfOneChain g x y → AreOfChain t events x y
of_chain t events g are keyed x y together =
    let low_x = together.0 in
    let low_y = together.1 in
    let nodes = keyed.nodes in
    record {
      are = alike_in t.setting.order events g keyed x y together;
      from = at_number t events are x (omega (arith, low_x, nodes));
      to = at_number t events are y (omega (arith, low_y, nodes));
    }

processor_in : (t : TraceValue) (events : List LogEvent) → AreEventsOf t events → (p x : ℕ) → IsEventOf t p (suc x) → (x < length events) × ((event_in events x).proc ≡ p)
processor_in t events are p x of =
    let same = same_number t events are x of.0 of.1 in
    (same.0, ap (λ (e : Event). e.proc) (sym same.1) ∙ of.2)

pso_keeps : (order : Order) (d e : Event) → order ≡ Pso → Keeps order d e → d.a ≡ e.a
pso_keeps order d e pso keeps = elim keeps [ inl tso ↦ absurd cc | inr same ↦ same ]

-- events alike are of one chain
chain_of : (t : TraceValue) (events : List LogEvent) (g : Groups) → AreEventsOf t events → AreKeyed t.setting.order events g → (p x y : ℕ) → IsEventOf t p (suc x) → IsEventOf t p (suc y) →
    (event_in events x).load ≡ (event_in events y).load → ((event_in events x).load ≡ false → Keeps t.setting.order (event_in events x) (event_in events y)) → group_of g x ≡ group_of g y
chain_of t events g are keyed p x y of_x of_y kind keeps =
    let here = processor_in t events are p x of_x in
    let there = processor_in t events are p y of_y in
    (keyed.same x y here.0 there.0).1
    (alike_key t.setting.order (event_in events x) (event_in events y) (record { processor = here.1 ∙ sym there.1; kind = kind; keeps = keeps }))

pub program_chains : (t : TraceValue) (events : List LogEvent) (g : Groups) → AreEventsOf t events → AreKeyed t.setting.order events g → AreProgramChains t g
program_chains t events g are keyed = record {
  nodes = keyed.nodes ∙ total t events are;
  used = keyed.used;
  processors = λ p x y together of. (let is = of_chain t events g are keyed x y together in
      (event_in events y, is.to, sym is.are.processor ∙ (processor_in t events are p x of).1));
  loads = λ x y together load. (let is = of_chain t events g are keyed x y together in (event_in events y, is.to, sym is.are.kind ∙ load_in t events are x load));
  stores = λ x y together store. (let is = of_chain t events g are keyed x y together in (event_in events y, is.to, sym is.are.kind ∙ store_in t events are x store));
  addresses = λ x y together store pso. (let is = of_chain t events g are keyed x y together in
      (event_in events x, event_in events y, is.from, is.to, pso_keeps t.setting.order (event_in events x) (event_in events y) pso (is.are.keeps (store_in t events are x store))));
  ordered = λ x y later. pair_of t events are x y ((pair_chains t events g are keyed).ordered x y later);
  all_loads = λ p x y load_x load_y of_x of_y. chain_of t events g are keyed p x y of_x of_y (load_in t events are x load_x ∙ sym (load_in t events are y load_y))
      (λ store. absurd (let load = load_in t events are x load_x in cc));
  all_stores = λ p x y store_x store_y of_x of_y keeps. chain_of t events g are keyed p x y of_x of_y (store_in t events are x store_x ∙ sym (store_in t events are y store_y))
      (λ store. keeps_in t events are x y keeps);
}
