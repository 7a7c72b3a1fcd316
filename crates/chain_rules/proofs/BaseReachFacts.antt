-- What base edges lead to, once they are joined.
use Rattle.std.proofs.Common.{◌≡◌, ◌⊎◌, ◌↔◌, inl, inr, ℕ, zero, suc, Some, ◌+◌, ◌<◌, ◌≤◌, refl, sym, ap, ◌∙◌, subst, arith}
use Rattle.std.proofs.lemmas.Bool.{cases_eq}
use Rattle.std.proofs.lemmas.Nat.{row_fits}
use Rattle.tso_ops.specs.Values.{TraceValue}
use Rattle.tso_ops.specs.declared.events.Event.{Event}
use Rattle.tso_ops.specs.Events.{event_at, event_total, IsStore, IsStoreTo, IsEventOf, HasSource, processor_count}
use Rattle.tso_ops.proofs.NumberFacts.{event_unique, event_above_zero, store_event}
use Rattle.tso_ops.proofs.TableFacts.{source_load}
use Rattle.order_paths.specs.Paths.{Reaches}
use Rattle.order_paths.proofs.Reach.{Reaches-edge, Reaches-join, Reaches-into}
use Rattle.tso_model.specs.Ranks.{RankSet}
use Rattle.tso_model.specs.Rules.{IsOwnBy}
use Rattle.tso_rules.specs.Internal.MarkedRows.{IsReadBy}
use Rattle.tso_rules.proofs.BaseFacts.{base_by}
use Rattle.chain_reach.specs.declared.types.Groups.{Groups}
use Rattle.chain_reach.specs.declared.types.Reach.{Reach}
use Rattle.chain_reach.specs.Groups.{node_count, count_of, group_of, IsIn, IsLastBefore, IsLaterIn}
use Rattle.chain_reach.specs.Leading.{Leads, Joins}
use Rattle.chain_rules.specs.Chains.{AreChainsOf}
use Rattle.chain_rules.specs.Rows.{IsRankReach}
use Rattle.chain_rules.specs.Internal.Tables.{slot_of, HasTables}
use Rattle.chain_rules.specs.declared.types.RuleTables.{RuleTables}
use Rattle.chain_rules.specs.Internal.BaseJoins.{IsAfter, IsFirstAfter, GrowsByBase}
use Rattle.chain_rules.proofs.ProgramOrderFacts.{after_greater, after_within, event_node}
use Rattle.chain_rules.proofs.TraceBounds.{processor_below}

pub grows_none : (t : TraceValue) (r : Reach) → GrowsByBase t r r
grows_none t r = record { chains = refl; kept = λ x y leads. leads; paths = λ paths. paths }

pub grows_more : (t : TraceValue) (a b c : Reach) → GrowsByBase t a b → GrowsByBase t b c → GrowsByBase t a c
grows_more t a b c first second = record {
  chains = second.chains ∙ first.chains;
  kept = λ x y leads. second.kept x y (first.kept x y leads);
  paths = λ paths. second.paths (first.paths paths);
}

-- a base edge was joined
pub grows_join : (t : TraceValue) (old new : Reach) (u v : ℕ) → RankSet t 0 u v → Joins old new u v → GrowsByBase t old new
grows_join t old new u v edge joins = record {
  chains = joins.chains;
  kept = joins.kept;
  paths = λ paths x y leads. elim (joins.leads x y leads) [
    | inl before ↦ paths x y before
    | inr by ↦ (let rest : Reaches (RankSet t 0) u y = elim by.1 [
      | inl e ↦ subst (λ n. Reaches (RankSet t 0) u n) e (Reaches-edge (RankSet t 0) u v edge)
      | inr more ↦ Reaches-join (RankSet t 0) u v y (Reaches-edge (RankSet t 0) u v edge) (paths v y more)
    ] in
        elim by.0 [
          | inl e ↦ subst (λ n. Reaches (RankSet t 0) n y) (sym e) rest
          | inr more ↦ Reaches-join (RankSet t 0) x u y (paths x u more) rest
        ])
  ];
}

-- what leads on, and has the edges of program order and of the loads, has all paths of base edges
pub all_led : (t : TraceValue) (L : ℕ → ℕ → Type 0) → ((u v : ℕ) → IsAfter t u v → L u v) → ((l u v : ℕ) → IsReadBy t u l v → L u v) →
    ((x y z : ℕ) → L x y → L y z → L x z) → (x y : ℕ) → Reaches (RankSet t 0) x y → L x y
all_led t L after reads on x y path =
    Reaches-into (RankSet t 0) L on (λ u v edge. elim ((base_by t u v).1 edge) [ inl is ↦ after u v is | inr read ↦ reads read.0 u v read.1 ]) x y path

-- a store to an address before a load is the last of its processor before it, or stands before that one in its chain
pub last_or_before : (t : TraceValue) (g : Groups) (tables : RuleTables) → AreChainsOf t g → HasTables t g tables → (p a l w : ℕ) → p < processor_count t → a < tables.addresses →
    IsLastBefore tables.stores (slot_of tables p a) l w → (u : ℕ) → IsStoreTo t a u → IsEventOf t p u → u < l → (u ≡ w) ⊎ IsLaterIn g u w
last_or_before t g tables chains are p a l w low_p low_a last u store of before =
    let at = are.stores p a w low_p low_a in
    let here = at.0 last.inside in
    let most : u ≤ w = last.greatest u ((are.stores p a u low_p low_a).1 (store, of)) before in
    elim (cases_eq u w) [
      | inl e ↦ inl e
      | inr ne ↦ inr (
        omega (arith, most, ne),
        event_node t g chains w (here.0.0, here.0.1),
        chains.stores p u w (store.0, store.1, store.2) (here.0.0, here.0.1, here.0.2) (store.0, here.0.0, store.1, here.0.1, store.3 ∙ sym here.0.3) of here.1,
      )
    ]

-- Base edges were joined, and u leads to what comes after it in the chains below d.
pub record LeadsLater (t : TraceValue) (old new : Reach) (u d : ℕ) : Type 0 where
  pub grows : GrowsByBase t old new
  pub led : (v : ℕ) → group_of old.chains v < d → IsAfter t u v → Leads new u v

-- nothing more comes after it in the next chain
pub later_none : (t : TraceValue) (old new : Reach) (u d : ℕ) → LeadsLater t old new u d → ((v : ℕ) → IsIn old.chains d v → IsAfter t u v → ⊥) → ((v : ℕ) → IsAfter t u v → v < node_count old.chains) →
    LeadsLater t old new u (d + 1)
later_none t old new u d before none within = record {
  grows = before.grows;
  led = λ v low after. elim (cases_eq (group_of old.chains v) d) [
    | inl e ↦ absurd (none v (within v after, e) after)
    | inr ne ↦ before.led v (omega (arith, low, ne)) after
  ];
}

-- the first that comes after it there was joined
pub later_join : (t : TraceValue) (old middle new : Reach) (u d v : ℕ) → AreChainsOf t old.chains → LeadsLater t old middle u d → IsFirstAfter t old.chains d u v → Joins middle new u v →
    ((x y : ℕ) → IsLaterIn middle.chains x y → Leads middle x y) → LeadsLater t old new u (d + 1)
later_join t old middle new u d v chains before first joins ordered = record {
  grows = grows_more t old middle new before.grows (grows_join t middle new u v ((base_by t u v).0 (inl first.after)) joins);
  led = λ w low after. elim (cases_eq (group_of old.chains w) d) [
    | inl e ↦ (let inside : IsIn old.chains d w = (after_within t old.chains chains u w after, e) in
        let least = first.least w inside after in
        joins.joined u w (inl refl) (elim (cases_eq v w) [
          | inl same ↦ inl same
          | inr ne ↦ inr (ordered v w (subst (λ g. IsLaterIn g v w) (sym before.grows.chains) (omega (arith, least, ne), inside.0, first.inside.1 ∙ sym e)))
        ]))
    | inr ne ↦ joins.kept u w (before.led w (omega (arith, low, ne)) after)
  ];
}

-- ---- what the loads give

-- a source that isn't init is a store
pub source_store : (t : TraceValue) (l s : ℕ) → HasSource t l s → (s ≡ 0 → ⊥) → IsStore t s
source_store t l zero source not = absurd (not refl)
source_store t l (suc k) source not = source.1

pub no_store_zero : (t : TraceValue) (s : ℕ) → s ≡ 0 → IsStore t s → ⊥
no_store_zero t s e store = let above = event_above_zero t s (store_event t s store) in omega (arith, above, e)

-- An event with its source, and the tables that have its slot.
pub record HasSlot (t : TraceValue) (g : Groups) (tables : RuleTables) (l s : ℕ) (event : Event) : Type 0 where
  pub chains : AreChainsOf t g
  pub tables_are : HasTables t g tables
  pub at : event_at t l ≡ Some event
  pub source : HasSource t l s

pub address_low : (t : TraceValue) (g : Groups) (tables : RuleTables) (l s : ℕ) (event : Event) → HasSlot t g tables l s event → event.a < tables.addresses
address_low t g tables l s event has =
    let load = source_load t l s has.source in
    has.tables_are.addresses event.a l (load.0, load.1, load.2, ap (λ (x : Event). x.a) (event_unique t l load.0 event load.1 has.at))

pub slot_low : (t : TraceValue) (g : Groups) (tables : RuleTables) (l s : ℕ) (event : Event) → HasSlot t g tables l s event → slot_of tables event.proc event.a < count_of tables.stores
slot_low t g tables l s event has =
    let low = address_low t g tables l s event has in
    let row = row_fits event.proc tables.addresses (processor_count t) tables.addresses (processor_below t l event has.at) (omega arith) in
    let slots = has.tables_are.store_slots in
    omega (arith, low, row, slots)

-- the stores in its slot that are before it are those that it sees
pub own_inside : (t : TraceValue) (g : Groups) (tables : RuleTables) (l s : ℕ) (event : Event) → HasSlot t g tables l s event → (u : ℕ) → IsOwnBy t l u s →
    IsIn tables.stores (slot_of tables event.proc event.a) u × (u < l)
own_inside t g tables l s event has u own =
    let same = own.1 in
    let earlier = own.2 in
    let store = own.0 in
    let here = event_unique t l same.1 event same.3 has.at in
    let there = event_unique t u store.0 same.0 store.1 same.2 in
    let after = event_unique t l earlier.1 event earlier.3 has.at in (
      (has.tables_are.stores event.proc event.a u (processor_below t l event has.at) (address_low t g tables l s event has)).1 (
        (store.0, store.1, store.2, ap (λ (x : Event). x.a) there ∙ same.4 ∙ ap (λ (x : Event). x.a) here),
        (earlier.0, earlier.2, earlier.4 ∙ ap (λ (x : Event). x.proc) after),
      ),
      earlier.5,
    )

pub inside_own : (t : TraceValue) (g : Groups) (tables : RuleTables) (l s : ℕ) (event : Event) → HasSlot t g tables l s event → (w : ℕ) →
    IsIn tables.stores (slot_of tables event.proc event.a) w → w < l → (w ≡ s → ⊥) → IsOwnBy t l w s
inside_own t g tables l s event has w inside before ne =
    let is = (has.tables_are.stores event.proc event.a w (processor_below t l event has.at) (address_low t g tables l s event has)).0 inside in
    let store = is.0 in
    let of = is.1 in (
      (store.0, store.1, store.2),
      (store.0, event, store.1, has.at, store.3),
      (of.0, event, of.1, has.at, of.2, before),
      has.source,
      ne,
    )

-- the stores that it sees are the last of them, or stand before that one in its chain
pub own_before : (t : TraceValue) (g : Groups) (tables : RuleTables) (l s : ℕ) (event : Event) → HasSlot t g tables l s event → (w : ℕ) →
    IsLastBefore tables.stores (slot_of tables event.proc event.a) l w → (u : ℕ) → IsOwnBy t l u s → (u ≡ w) ⊎ IsLaterIn g u w
own_before t g tables l s event has w last u own =
    let low_p = processor_below t l event has.at in
    let low_a = address_low t g tables l s event has in
    let inside = own_inside t g tables l s event has u own in
    let is = (has.tables_are.stores event.proc event.a u low_p low_a).0 inside.0 in
    last_or_before t g tables has.chains has.tables_are event.proc event.a l w low_p low_a last u is.0 is.1 inside.1

-- Base edges were joined, and those of the loads below n lead.
pub record LeadsReads (t : TraceValue) (old new : Reach) (n : ℕ) : Type 0 where
  pub grows : GrowsByBase t old new
  pub led : (l u v : ℕ) → l < n → IsReadBy t u l v → Leads new u v

pub reads_next : (t : TraceValue) (old middle new : Reach) (n : ℕ) → LeadsReads t old middle n → GrowsByBase t middle new → ((u v : ℕ) → IsReadBy t u n v → Leads new u v) →
    LeadsReads t old new (n + 1)
reads_next t old middle new n before grows led = record {
  grows = grows_more t old middle new before.grows grows;
  led = λ l u v low read. elim (cases_eq l n) [
    | inl e ↦ led u v (subst (λ k. IsReadBy t u k v) e read)
    | inr ne ↦ grows.kept u v (before.led l u v (omega (arith, low, ne)) read)
  ];
}

-- Base edges alone lead, among them those that come after the numbers below n.
pub record LeadsFirst (t : TraceValue) (g : Groups) (r : Reach) (n : ℕ) : Type 0 where
  pub chains : r.chains ≡ g
  pub paths : (x y : ℕ) → Leads r x y → Reaches (RankSet t 0) x y
  pub led : (u v : ℕ) → u < n → IsAfter t u v → Leads r u v

pub first_none : (t : TraceValue) (g : Groups) (r : Reach) → AreChainsOf t g → r.chains ≡ g → ((x y : ℕ) → Leads r x y ↔ IsLaterIn g x y) → LeadsFirst t g r 0
first_none t g r chains is leads = record {
  chains = is;
  paths = λ x y led. Reaches-edge (RankSet t 0) x y (chains.ordered x y ((leads x y).0 led));
  led = λ u v low after. absurd (omega (arith, low));
}

pub first_next : (t : TraceValue) (g : Groups) (old new : Reach) (n : ℕ) → LeadsFirst t g old n → GrowsByBase t old new → ((v : ℕ) → IsAfter t n v → Leads new n v) → LeadsFirst t g new (n + 1)
first_next t g old new n before grows led = record {
  chains = grows.chains ∙ before.chains;
  paths = grows.paths before.paths;
  led = λ u v low after. elim (cases_eq u n) [
    | inl e ↦ subst (λ k. Leads new k v) (sym e) (led v (subst (λ k. IsAfter t k v) e after))
    | inr ne ↦ grows.kept u v (before.led u v (omega (arith, low, ne)) after)
  ];
}

-- all of them lead, once the numbers were passed and the loads' edges joined
pub rank_reach : (t : TraceValue) (g : Groups) (old middle new : Reach) (n : ℕ) → AreChainsOf t g → suc (event_total t) ≤ n → LeadsFirst t g old n → GrowsByBase t old middle →
    ((l u v : ℕ) → IsReadBy t u l v → Leads middle u v) → new.chains ≡ middle.chains → ((x y : ℕ) → Leads new x y ↔ Leads middle x y) →
    ((x y z : ℕ) → Leads new x y → Leads new y z → Leads new x z) → IsRankReach t 0 new
rank_reach t g old middle new n chains end first grows reads same leads on = record {
  chains = subst (AreChainsOf t) (sym (same ∙ grows.chains ∙ first.chains)) chains;
  leads = λ x y. (
    λ led. grows.paths first.paths x y ((leads x y).0 led),
    λ path. all_led t (Leads new)
        (λ u v after. (leads u v).1 (grows.kept u v (first.led u v (let less = after_greater t u v after in let low = after_within t g chains u v after in let nodes = chains.nodes in omega (arith, less, low, nodes, end)) after)))
        (λ l u v read. (leads u v).1 (reads l u v read)) on x y path,
  );
}
