-- Lemmas on the keys of groups, and on the groups of loads, of stores and of the stores of swaps.
use Rattle.std.proofs.Common.{◌≡◌, ◌⊎◌, ◌↔◌, inl, inr, ℕ, suc, ◌+◌, ◌*◌, ◌<◌, ◌≤◌, Bool, true, false, List, [], ◌∷◌, ◌++◌, length, get_or, Option, None, Some, MatchOption, IfSome, refl, sym, subst, ap, ◌∙◌, arith}
use Rattle.std.proofs.lemmas.Bool.{cases_eq}
use Rattle.std.proofs.lemmas.Nat.{row_fits, same_from_place}
use Rattle.std.proofs.lemmas.Grind.{get_or_default_zero}
use Rattle.std.proofs.lemmas.List.{get_or_append_left, get_or_push, length-append}
use Rattle.std.specs.Option.{unwrap_or}
use Rattle.tso_ops.specs.declared.events.Event.{Event}
use Rattle.tso_ops.specs.Values.{TraceValue}
use Rattle.tso_ops.specs.Limits.{IsTrace}
use Rattle.tso_ops.specs.Events.{processor_count, event_total, IsSwapLoad, IsEventOf}
use Rattle.tso_ops.proofs.NumberFacts.{event_unique, IsEvent-within}
use Rattle.tso_ops.proofs.SwapFacts.{IsSwapLoad-within}
use Rattle.chain_reach.specs.declared.types.Groups.{Groups}
use Rattle.chain_reach.specs.declared.types.Reach.{Reach}
use Rattle.chain_reach.specs.Groups.{node_count, count_of, group_of, IsIn}
use Rattle.chain_reach.specs.Leading.{Leads}
use Rattle.chain_rules.specs.Chains.{address_total, AreChainsOf}
use Rattle.chain_rules.specs.Tables.{AreTablesOf}
use Rattle.chain_rules.specs.declared.types.RuleTables.{RuleTables}
use Rattle.chain_rules.specs.Internal.LeastRows.{AreLeastFrom}
use Rattle.chain_rules.specs.Internal.Lowering.{AreReady}
use Rattle.chain_rules.specs.Internal.Tables.{HasTables}
use Rattle.chain_rules.specs.Internal.Accesses.{IsAccess, HasSlot, AreAccesses, HasSwapChain, AreSwapStores, AreKeys}
use Rattle.chain_rules.proofs.TraceBounds.{address_below, slot_below}

-- ---- keys

-- what holds of each key below a bound on their number
pub keys_below : (keys : List ℕ) (n most : ℕ) → length keys ≡ n → ((k : ℕ) → k < n → get_or keys k 0 < most) → (k d : ℕ) → k < length keys → get_or keys k d < most
keys_below keys n most sized all k d low = subst (λ x. x < most) (sym (get_or_default_zero keys k d low)) (all k (omega (arith, low, sized)))

pub more_keys : (keys : List ℕ) (Has : ℕ → ℕ → Type 0) (others n key : ℕ) → AreKeys keys Has others n → key < others + 1 →
    Has n key ⊎ ((key ≡ others) × ((s : ℕ) → Has n s → ⊥)) → AreKeys (keys ++ key ∷ []) Has others (n + 1)
more_keys keys Has others n key are low is = record {
  sized = length-append keys (key ∷ []) ∙ ap (λ k. k + 1) are.sized;
  within = λ k less. elim (cases_eq k n) [
    | inl same ↦ subst (λ m. m < others + 1) (sym (here k same)) low
    | inr other ↦ subst (λ m. m < others + 1) (sym (there k less other)) (are.within k (omega (arith, less, other)))
  ];
  each = λ k less. elim (cases_eq k n) [
    | inl same ↦ subst (λ m. Has k m ⊎ ((m ≡ others) × ((s : ℕ) → Has k s → ⊥))) (sym (here k same)) (subst (λ m. Has m key ⊎ ((key ≡ others) × ((s : ℕ) → Has m s → ⊥))) (sym same) is)
    | inr other ↦ subst (λ m. Has k m ⊎ ((m ≡ others) × ((s : ℕ) → Has k s → ⊥))) (sym (there k less other)) (are.each k (omega (arith, less, other)))
  ];
}
  where
    here : (k : ℕ) → k ≡ n → get_or (keys ++ key ∷ []) k 0 ≡ key
    here k same = ap (λ m. get_or (keys ++ key ∷ []) m 0) same ∙ get_or_push keys key 0 n are.sized

    there : (k : ℕ) → k < n + 1 → (k ≡ n → ⊥) → get_or (keys ++ key ∷ []) k 0 ≡ get_or keys k 0
    there k less other = get_or_append_left keys (key ∷ []) 0 k (let sized = are.sized in omega (arith, sized, less, other))

-- the key by what was found, or the last one
pub key_found : (found : Option ℕ) (Has : ℕ → Type 0) (others : ℕ) → MatchOption found ((s : ℕ) → Has s → ⊥) Has →
    Has (unwrap_or found others) ⊎ ((unwrap_or found others ≡ others) × ((s : ℕ) → Has s → ⊥))
key_found None Has others none = inr (refl, none)
key_found (Some s) Has others has = inl has

pub found_below : (found : Option ℕ) (others : ℕ) → IfSome found (λ s. s < others) → unwrap_or found others < others + 1
found_below None others low = omega arith
found_below (Some s) others low = omega arith

-- a group of such keys, but the last, has what has its key
in_keys : (g : Groups) (keys : List ℕ) (Has : ℕ → ℕ → Type 0) (others n s k : ℕ) → AreKeys keys Has others n → node_count g ≡ length keys → ((m : ℕ) → m < length keys → group_of g m ≡ get_or keys m 0) →
    ((r : ℕ) → Has k r → Has k s → r ≡ s) → s < others → IsIn g s k ↔ ((k < n) × Has k s)
in_keys g keys Has others n s k are all keyed one low = (to, from)
  where
    nodes : node_count g ≡ n
    nodes = all ∙ are.sized

    key : k < n → group_of g k ≡ get_or keys k 0
    key less = keyed k (let sized = are.sized in omega (arith, less, sized))

    to : IsIn g s k → (k < n) × Has k s
    to (within, at) =
        let less : k < n = omega (arith, within, nodes) in
        let same : get_or keys k 0 ≡ s = sym (key less) ∙ at in
        elim (are.each k less) [
          | inl has ↦ (less, subst (Has k) same has)
          | inr none ↦ absurd (let last = none.0 in omega (arith, last, same, low))
        ]

    from : (k < n) × Has k s → IsIn g s k
    from (less, has) = elim (are.each k less) [
      | inl own ↦ (omega (arith, less, nodes), key less ∙ one (get_or keys k 0) own has)
      | inr none ↦ absurd (none.1 s has)
    ]

-- ---- loads and stores by processor and address

slot_one : (t : TraceValue) (addresses : ℕ) (loads : Bool) (n r s : ℕ) → HasSlot t addresses loads n r → HasSlot t addresses loads n s → r ≡ s
slot_one t addresses loads n r s (d, at_d, load_d, r_is) (e, at_e, load_e, s_is) =
    r_is ∙ ap (λ (x : Event). x.proc * addresses + x.a) (event_unique t n d e at_d at_e) ∙ sym s_is

-- a place is below the count of them
pub slots_below : (t : TraceValue) (addresses : ℕ) (loads : Bool) (n : ℕ) (found : Option ℕ) → addresses ≡ address_total t → n < suc (event_total t) →
    MatchOption found ((s : ℕ) → HasSlot t addresses loads n s → ⊥) (HasSlot t addresses loads n) → IfSome found (λ s. s < processor_count t * addresses)
slots_below t addresses loads n None is within none = tt
slots_below t addresses loads n (Some s) is within (e, at, load, s_is) = (let low = slot_below t addresses n e is within at in omega (arith, low, s_is))

-- the groups of these keys are those of the loads, or of the stores
pub accesses_are : (t : TraceValue) (addresses : ℕ) (loads : Bool) (g : Groups) (keys : List ℕ) (n others : ℕ) → addresses ≡ address_total t → others ≡ processor_count t * addresses →
    n ≡ suc (event_total t) → AreKeys keys (HasSlot t addresses loads) others n → node_count g ≡ length keys → ((m : ℕ) → m < length keys → group_of g m ≡ get_or keys m 0) → count_of g ≡ others + 1 → AreAccesses t addresses loads g
accesses_are t addresses loads g keys n others all last nodes are sized keyed counted = record {
  slots = omega (arith, counted, last);
  is = λ p a k p_low a_low.
      let fits : p * addresses + addresses ≤ processor_count t * addresses = row_fits p addresses (processor_count t) addresses p_low (omega arith) in
      let both = in_keys g keys (HasSlot t addresses loads) others n (p * addresses + a) k are sized keyed (λ r. slot_one t addresses loads k r (p * addresses + a)) (omega (arith, fits, a_low, last)) in
      (λ inside. to p a k a_low (both.0 inside), λ access. both.1 (from p a k access));
}
  where
    to : (p a k : ℕ) → a < addresses → (k < n) × HasSlot t addresses loads k (p * addresses + a) → IsAccess t loads a k × IsEventOf t p k
    to p a k a_low (less, (e, at, load, slot)) =
        let low = address_below t k e (omega (arith, less, nodes)) at in
        let same = same_from_place p a e.proc e.a addresses a_low (omega (arith, low, all)) slot in
        ((e, at, load, sym same.1), (e, at, sym same.0))

    from : (p a k : ℕ) → IsAccess t loads a k × IsEventOf t p k → (k < n) × HasSlot t addresses loads k (p * addresses + a)
    from p a k ((e, at, load, a_is), (d, at_d, p_is)) =
        let proc : e.proc ≡ p = ap (λ (x : Event). x.proc) (event_unique t k e d at at_d) ∙ p_is in
        let within = IsEvent-within t k (e, at) in
        (omega (arith, within, nodes), (e, at, load, sym (ap (λ x. x * addresses + e.a) proc ∙ ap (λ x. p * addresses + x) a_is)))

-- ---- the stores of swaps by chain

pub swaps_are : (t : TraceValue) (chains g : Groups) (keys : List ℕ) (n others : ℕ) → others ≡ count_of chains → n ≡ suc (event_total t) → AreKeys keys (HasSwapChain t chains) others n →
    node_count g ≡ length keys → ((m : ℕ) → m < length keys → group_of g m ≡ get_or keys m 0) → count_of g ≡ others + 1 → AreSwapStores t chains g
swaps_are t chains g keys n others last nodes are sized keyed counted = record {
  slots = omega (arith, counted, last);
  is = λ d k low.
      let both = in_keys g keys (HasSwapChain t chains) others n d k are sized keyed (λ r left right. sym left.3 ∙ right.3) (omega (arith, low, last)) in
      (λ inside. (let has = both.0 inside in let less = has.0 in (omega (arith, less, nodes), has.1)), λ has. both.1 (let less = has.0 in (omega (arith, less, nodes), has.1)));
}

swap_in : (t : TraceValue) (chains g : Groups) → AreSwapStores t chains g → (d n : ℕ) → d < count_of chains → IsIn g d (suc n) ↔ (IsSwapLoad t n × (group_of chains (suc n) ≡ d))
swap_in t chains g are d n low = (
  λ inside. (
      let has = ((are.is d (suc n) low).0 inside).1 in
      let same : has.0 ≡ n = (let is = has.1 in omega (arith, is)) in
      (subst (IsSwapLoad t) same has.2, has.3)
      ),
  λ has. (are.is d (suc n) low).1 ((IsSwapLoad-within t n has.0).1, (n, refl, has.0, has.1)),
)

no_swap_at : (t : TraceValue) (chains g : Groups) → AreSwapStores t chains g → (d : ℕ) → d < count_of chains → IsIn g d 0 → ⊥
no_swap_at t chains g are d low inside = (let is = ((are.is d 0 low).0 inside).1.1 in omega (arith, is))

-- ---- the tables

access_below : (t : TraceValue) (addresses : ℕ) (loads : Bool) (a n : ℕ) → addresses ≡ address_total t → IsAccess t loads a n → a < addresses
access_below t addresses loads a n is access =
    let low = address_below t n access.0 (IsEvent-within t n (access.0, access.1)) access.1 in
    let at = access.3 in
    omega (arith, low, is, at)

-- tables of these parts are those of the trace
pub tables_are : (t : TraceValue) (chains : Groups) (tables : RuleTables) → tables.addresses ≡ address_total t → AreAccesses t tables.addresses true tables.loads →
    AreAccesses t tables.addresses false tables.stores → AreSwapStores t chains tables.swaps → AreLeastFrom t chains tables.least.items 0 → AreTablesOf t chains tables
unfolding AreTablesOf
tables_are t chains tables all loads stores swaps least = record {
  addresses = λ a n. access_below t tables.addresses true a n all;
  store_addresses = λ a n. access_below t tables.addresses false a n all;
  load_slots = loads.slots;
  store_slots = stores.slots;
  loads = loads.is;
  stores = stores.is;
  swap_chains = swaps.slots;
  swaps = swap_in t chains tables.swaps swaps;
  no_swap = no_swap_at t chains tables.swaps swaps;
  sized = least.sized;
  below = λ l d v load low from at. (least.made l d (omega arith) load low).below v from at;
  least = λ l d load low within. (least.made l d (omega arith) load low).least within;
}

-- what the tables of a trace keep
pub tables_keep : (t : TraceValue) (chains : Groups) (tables : RuleTables) → AreTablesOf t chains tables → HasTables t chains tables
unfolding AreTablesOf
tables_keep t chains tables are = are

-- what the rules look at, of a trace with its tables
pub are_ready : (t : TraceValue) (tables : RuleTables) (r : Reach) → IsTrace t → AreChainsOf t r.chains → AreTablesOf t r.chains tables → ((x : ℕ) → Leads r x x → ⊥) → AreReady t tables r
are_ready t tables r trace chains are acyclic = record { trace = trace; chains = chains; tables = tables_keep t r.chains tables are; acyclic = acyclic }
