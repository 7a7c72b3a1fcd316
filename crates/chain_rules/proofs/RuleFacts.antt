-- What the rules give over chains: each lowers the least numbers to it.
use Rattle.std.proofs.Common.{◌≡◌, ◌⊎◌, ◌↔◌, inl, inr, ℕ, zero, suc, ◌+◌, ◌*◌, ◌<◌, ◌≤◌, ◌^◌, min, List, length, get_or, map, refl, sym, subst, ap, ◌∙◌, arith}
use Rattle.std.proofs.lemmas.Bool.{cases_eq}
use Rattle.std.proofs.lemmas.List.{length-map}
use Rattle.std.proofs.lemmas.Nat.{row_fits}
use Rattle.tso_ops.specs.Values.{TraceValue}
use Rattle.tso_ops.specs.declared.events.Event.{Event}
use Rattle.tso_ops.specs.Events.{processor_count, event_total, HasSource, IsLoad, IsLoadAt, IsStore, IsStoreTo, IsSwapLoad, IsEventOf, SameAddress, Earlier}
use Rattle.tso_ops.proofs.EventFacts.{event_total-most}
use Rattle.tso_ops.proofs.NumberFacts.{event_unique, IsEvent-within, IsStore-within, HasSource-within}
use Rattle.tso_ops.proofs.SwapFacts.{IsSwapLoad-store, IsSwapLoad-within, IsSwapLoad-processor}
use Rattle.tso_ops.proofs.TableFacts.{source_load, one_source}
use Rattle.tso_cert.specs.declared.rules.InferredRule.TheVariants.{LoadPast, StorePast, SwapBefore, SwapAfter}
use Rattle.tso_rules.proofs.BaseFacts.{load_at, store_to}
use Rattle.chain_reach.specs.declared.types.Groups.{Groups}
use Rattle.chain_reach.specs.declared.types.Reach.{Reach}
use Rattle.chain_reach.specs.Groups.{node_count, count_of, group_of, IsIn, IsFirstFrom}
use Rattle.chain_reach.specs.Leading.{Leads}
use Rattle.chain_rules.specs.declared.types.RuleTables.{RuleTables}
use Rattle.chain_rules.specs.Internal.Lowering.{LowersAt, LowersFor, AreReady, IsNewOf, IsGivenOrSame}
use Rattle.chain_rules.specs.Internal.Tables.{slot_of}
use Rattle.chain_rules.proofs.LoweringFacts.{Lowers-at, Lowers-row, Lowers-none}

-- x leads to just the members of chain d from n on
pub record LeadsFrom (r : Reach) (x d n : ℕ) : Type 0 where
  pub from : (y : ℕ) → y < node_count r.chains → group_of r.chains y ≡ d → Leads r x y ↔ (n ≤ y)

-- a first number that is led to, with the chain of a number
pub leads_from : (r : Reach) (x any chain n : ℕ) (g : Groups) → chain ≡ group_of g any → g ≡ r.chains →
    ((y : ℕ) → y < node_count r.chains → group_of r.chains y ≡ chain → Leads r x y ↔ (n ≤ y)) → LeadsFrom r x (group_of r.chains any) n
leads_from r x any chain n g is same all = record { from = λ y low e. all y low (e ∙ sym (is ∙ ap (λ (h : Groups). group_of h any) same)) }

-- a number's group is one of them
pub group_within : (g : Groups) (n : ℕ) → n < node_count g → group_of g n < count_of g
group_within g n low =
    let key : get_or g.keys.items n 0 < length (map (λ list. list.items) g.lists.items) = g.grouped.within n low in
    omega (arith, key, length-map g.lists.items (λ list. list.items))

-- the numbers of events and the writer of the first values are those of the chains
pub ready_within : (t : TraceValue) (tables : RuleTables) (r : Reach) (n : ℕ) → AreReady t tables r → n < suc (event_total t) → n < node_count r.chains
ready_within t tables r n ready low = (let nodes = ready.chains.nodes in omega (arith, nodes, low))

-- the numbers of the chains fit 16 bits
pub ready_small : (t : TraceValue) (tables : RuleTables) (r : Reach) (n : ℕ) → AreReady t tables r → n < node_count r.chains → n < 2 ^ 16
ready_small t tables r n ready within =
    let nodes = ready.chains.nodes in let most = event_total-most t ready.trace in omega (arith, nodes, most, within)

-- ---- LoadPast

-- what the rule LoadPast is given: store u, and where the tables have the loads of its address on processor p
pub record IsFromStore (t : TraceValue) (tables : RuleTables) (r : Reach) (u p a slot : ℕ) : Type 0 where
  pub ready : AreReady t tables r
  pub store : IsStoreTo t a u
  pub processor : p < processor_count t
  pub at : slot ≡ slot_of tables p a

pub loads_in : (t : TraceValue) (tables : RuleTables) (r : Reach) (u p a slot l : ℕ) → IsFromStore t tables r u p a slot → IsIn tables.loads slot l ↔ (IsLoadAt t a l × IsEventOf t p l)
loads_in t tables r u p a slot l of =
    subst (λ k. IsIn tables.loads k l ↔ (IsLoadAt t a l × IsEventOf t p l)) (sym of.at) (of.ready.tables.loads p a l of.processor (of.ready.tables.store_addresses a u of.store))

-- the place is one of the tables
pub loads_fit : (t : TraceValue) (tables : RuleTables) (r : Reach) (u p a slot : ℕ) → IsFromStore t tables r u p a slot → slot < count_of tables.loads
loads_fit t tables r u p a slot of =
    let within : a < tables.addresses = of.ready.tables.store_addresses a u of.store in
    let row : p * tables.addresses + tables.addresses ≤ processor_count t * tables.addresses = row_fits p tables.addresses (processor_count t) tables.addresses of.processor (omega arith) in
    let last = of.ready.tables.load_slots in
    let at = of.at in
    omega (arith, within, row, last, at)

-- what the rule LoadPast gives by a load of processor p is the source of one that the tables have, to which u leads
load_past_led : (t : TraceValue) (tables : RuleTables) (r : Reach) (u p a slot v : ℕ) → IsFromStore t tables r u p a slot →
    IsNewOf t r LoadPast (λ l v. IsEventOf t p l) u v → (l : ℕ) × IsIn tables.loads slot l × (IsLoadAt t a l × IsEventOf t p l) × Leads r u l × HasSource t l v
load_past_led t tables r u p a slot v of new =
    let l = new.0.0 in
    let given = new.0.2 in
    let by = given.2 in
    let path : Leads r u l = subst (λ x. Leads r x l) by.4 (subst (λ y. Leads r given.0 y) by.5 given.3) in
    let load : IsLoadAt t a l = subst (λ k. IsLoadAt t k l) of.store.3 (load_at t u l of.store.0 of.store.1 (source_load t l v by.2) by.1) in
    (l, (loads_in t tables r u p a slot l of).1 (load, new.0.1), (load, new.0.1), path, by.2)

-- a load of the tables is in the chain of another of them
loads_together : (t : TraceValue) (tables : RuleTables) (r : Reach) (p a l m : ℕ) → AreReady t tables r → IsLoadAt t a l × IsEventOf t p l → IsLoadAt t a m × IsEventOf t p m →
    group_of r.chains l ≡ group_of r.chains m
loads_together t tables r p a l m ready one two = ready.chains.loads p l m (one.0.0, one.0.1, one.0.2) (two.0.0, two.0.1, two.0.2) one.1 two.1

pub load_within : (t : TraceValue) (tables : RuleTables) (r : Reach) (p a l : ℕ) → AreReady t tables r → IsLoadAt t a l × IsEventOf t p l → l < node_count r.chains
load_within t tables r p a l ready load = ready_within t tables r l ready (IsEvent-within t l (load.0.0, load.0.1))

-- each load of the place is a number of the chains, and so is u
pub any_within : (t : TraceValue) (tables : RuleTables) (r : Reach) (u p a slot l : ℕ) → IsFromStore t tables r u p a slot → IsIn tables.loads slot l →
    (l < node_count r.chains) × (u < node_count r.chains)
any_within t tables r u p a slot l of inside = (
  load_within t tables r p a l of.ready ((loads_in t tables r u p a slot l of).0 inside),
  ready_within t tables r u of.ready (IsEvent-within t u (of.store.0, of.store.1)),
)

-- the row of a load of the place is within the table of least sources
pub row_within : (t : TraceValue) (tables : RuleTables) (r : Reach) (u p a slot l : ℕ) → IsFromStore t tables r u p a slot → IsIn tables.loads slot l →
    l * count_of r.chains + count_of r.chains ≤ length tables.least.items
row_within t tables r u p a slot l of inside =
    let load = (loads_in t tables r u p a slot l of).0 inside in
    let row : l * count_of r.chains + count_of r.chains ≤ suc (event_total t) * count_of r.chains =
    row_fits l (count_of r.chains) (suc (event_total t)) (count_of r.chains) (IsEvent-within t l (load.0.0, load.0.1)) (omega arith) in
    let sized = of.ready.tables.sized in
    omega (arith, row, sized)

-- where the tables have no load, there is none
pub load_past_empty : (t : TraceValue) (tables : RuleTables) (r : Reach) (u p a slot : ℕ) (old : List ℕ) → IsFromStore t tables r u p a slot →
    ((l : ℕ) → IsIn tables.loads slot l → ⊥) → LowersFor t r LoadPast (λ l v. IsEventOf t p l) u old old
load_past_empty t tables r u p a slot old of none =
    Lowers-none r.chains old _ (IsGivenOrSame t r u) (λ v new. (let led = load_past_led t tables r u p a slot v of new in none led.0 led.1))

-- where u leads to none of them, it gives nothing
pub load_past_none : (t : TraceValue) (tables : RuleTables) (r : Reach) (u p a slot any from : ℕ) (old : List ℕ) → IsFromStore t tables r u p a slot →
    IsIn tables.loads slot any → LeadsFrom r u (group_of r.chains any) from → ((l : ℕ) → IsIn tables.loads slot l → l < from) →
    LowersFor t r LoadPast (λ l v. IsEventOf t p l) u old old
load_past_none t tables r u p a slot any from old of inside leads none =
    let is_any = (loads_in t tables r u p a slot any of).0 inside in
    Lowers-none r.chains old _ (IsGivenOrSame t r u) (λ v new. (let led = load_past_led t tables r u p a slot v of new in
    let less = none led.0 led.1 in
    let more = (leads.from led.0 (load_within t tables r p a led.0 of.ready led.2) (loads_together t tables r p a led.0 any of.ready led.2 is_any)).0 led.3 in
    omega (arith, less, more)))

-- the first of them has the sources of the later ones too
pub load_past_lowers : (t : TraceValue) (tables : RuleTables) (r : Reach) (u p a slot any from first : ℕ) (old new : List ℕ) → IsFromStore t tables r u p a slot →
    IsIn tables.loads slot any → LeadsFrom r u (group_of r.chains any) from → IsFirstFrom tables.loads slot from first →
    length old ≡ count_of r.chains → length new ≡ length old →
    (table : List ℕ) (width : ℕ) → table ≡ tables.least.items → width ≡ count_of r.chains →
    ((d : ℕ) → d < length old → get_or new d 0 ≡ min (get_or old d 0) (get_or table (first * width + d) 0)) → LowersFor t r LoadPast (λ l v. IsEventOf t p l) u old new
load_past_lowers t tables r u p a slot any from first old new from_store inside leads is count sized table width same wide by_row =
    Lowers-row r.chains old new tables.least.items (first * count_of r.chains) _ (IsGivenOrSame t r u) sized lowered least allowed
  where
    lowered : (d : ℕ) → d < length old → get_or new d 0 ≡ min (get_or old d 0) (get_or tables.least.items (first * count_of r.chains + d) 0)
    lowered d low =
        subst (λ n. get_or new d 0 ≡ min (get_or old d 0) (get_or tables.least.items (first * n + d) 0)) wide
        (subst (λ xs. get_or new d 0 ≡ min (get_or old d 0) (get_or xs (first * width + d) 0)) same (by_row d low))

    loads : (l : ℕ) → IsIn tables.loads slot l ↔ (IsLoadAt t a l × IsEventOf t p l)
    loads l = loads_in t tables r u p a slot l from_store

    is_any : IsLoadAt t a any × IsEventOf t p any
    is_any = (loads any).0 inside

    is_first : IsLoadAt t a first × IsEventOf t p first
    is_first = (loads first).0 is.inside

    led_is : (l : ℕ) → IsLoadAt t a l × IsEventOf t p l → Leads r u l ↔ (from ≤ l)
    led_is l load = leads.from l (load_within t tables r p a l from_store.ready load) (loads_together t tables r p a l any from_store.ready load is_any)

    least : (v : ℕ) → IsNewOf t r LoadPast (λ l v. IsEventOf t p l) u v → (group_of r.chains v < length old) × (get_or tables.least.items (first * count_of r.chains + group_of r.chains v) 0 ≤ v)
    least v of =
        let led = load_past_led t tables r u p a slot v from_store of in
        let l = led.0 in
        let load = led.2 in
        let le : first ≤ l = is.least l led.1 ((led_is l load).0 led.3) in
        let within : group_of r.chains v < count_of r.chains = group_within r.chains v (ready_within t tables r v from_store.ready (HasSource-within t l v led.4).1) in
        let later : (l ≡ first) ⊎ Earlier t first l = elim (cases_eq l first) [
          | inl e ↦ inl e
          | inr ne ↦ inr (is_first.1.0, load.1.0, is_first.1.1, load.1.1, is_first.1.2 ∙ sym load.1.2, omega (arith, le, ne))
        ] in (
          omega (arith, within, count),
          from_store.ready.tables.below first (group_of r.chains v) v (is_first.0.0, is_first.0.1, is_first.0.2) within
              (l, (is_first.0.0, load.0.0, is_first.0.1, load.0.1, is_first.0.3 ∙ sym load.0.3), later, led.4) refl,
        )

    later_load : (m : ℕ) → SameAddress t first m → (m ≡ first) ⊎ Earlier t first m → IsLoad t m → (IsLoadAt t a m × IsEventOf t p m) × (first ≤ m)
    later_load m same (inl e) load = (subst (λ k. IsLoadAt t a k × IsEventOf t p k) (sym e) is_first, omega (arith, e))
    later_load m same (inr earlier) load = (
      (
        subst (λ k. IsLoadAt t k m) is_first.0.3 (load_at t first m is_first.0.0 is_first.0.1 load same),
        (earlier.1, earlier.3, sym earlier.4 ∙ ap (λ (x : Event). x.proc) (event_unique t first earlier.0 is_first.1.0 earlier.2 is_first.1.1) ∙ is_first.1.2),
      ),
      (let less = earlier.5 in omega (arith, less)),
    )

    given : (v m : ℕ) → HasSource t m v → IsLoadAt t a m × IsEventOf t p m → Leads r u m → IsGivenOrSame t r u v
    given v m source load path = elim (cases_eq v u) [
      | inl e ↦ inr e
      | inr ne ↦ inl (LoadPast, m, (u, m, ((from_store.store.0, from_store.store.1, from_store.store.2), (from_store.store.0, load.0.0, from_store.store.1, load.0.1, from_store.store.3 ∙ sym load.0.3), source, λ e. ne (sym e), refl, refl), path))
    ]

    allowed : (d : ℕ) → d < length old → get_or tables.least.items (first * count_of r.chains + d) 0 < node_count r.chains →
        (group_of r.chains (get_or tables.least.items (first * count_of r.chains + d) 0) ≡ d) × IsGivenOrSame t r u (get_or tables.least.items (first * count_of r.chains + d) 0)
    allowed d less within =
        let nodes = from_store.ready.chains.nodes in
        let of = from_store.ready.tables.least first d (is_first.0.0, is_first.0.1, is_first.0.2) (omega (arith, less, count)) (omega (arith, within, nodes)) in
        let source = of.0 in
        let m = source.0 in
        let load = later_load m source.1 source.2 (source_load t m _ source.3) in
        let start = is.from in
        let more = load.1 in (
          of.1,
          given (get_or tables.least.items (first * count_of r.chains + d) 0) m source.3 load.0 ((led_is m load.0).1 (omega (arith, start, more))),
        )

-- ---- StorePast

-- what the rule StorePast is given: load u with source s, and where the tables have the stores to its address on processor p
pub record IsFromLoad (t : TraceValue) (tables : RuleTables) (r : Reach) (u s p a slot : ℕ) : Type 0 where
  pub ready : AreReady t tables r
  pub load : IsLoadAt t a u
  pub source : HasSource t u s
  pub processor : p < processor_count t
  pub at : slot ≡ slot_of tables p a

pub stores_in : (t : TraceValue) (tables : RuleTables) (r : Reach) (u s p a slot v : ℕ) → IsFromLoad t tables r u s p a slot → IsIn tables.stores slot v ↔ (IsStoreTo t a v × IsEventOf t p v)
stores_in t tables r u s p a slot v of =
    subst (λ k. IsIn tables.stores k v ↔ (IsStoreTo t a v × IsEventOf t p v)) (sym of.at) (of.ready.tables.stores p a v of.processor (of.ready.tables.addresses a u of.load))

-- the place is one of the tables
pub stores_fit : (t : TraceValue) (tables : RuleTables) (r : Reach) (u s p a slot : ℕ) → IsFromLoad t tables r u s p a slot → slot < count_of tables.stores
stores_fit t tables r u s p a slot of =
    let within : a < tables.addresses = of.ready.tables.addresses a u of.load in
    let row : p * tables.addresses + tables.addresses ≤ processor_count t * tables.addresses = row_fits p tables.addresses (processor_count t) tables.addresses of.processor (omega arith) in
    let last = of.ready.tables.store_slots in
    let at = of.at in
    omega (arith, within, row, last, at)

-- what the rule StorePast gives on processor p are stores that the tables have, to which the source leads, and not u
store_past_led : (t : TraceValue) (tables : RuleTables) (r : Reach) (u s p a slot v : ℕ) → IsFromLoad t tables r u s p a slot →
    IsNewOf t r StorePast (λ l v. IsEventOf t p v) u v →
    IsIn tables.stores slot v × (IsStoreTo t a v × IsEventOf t p v) × Leads r s v
store_past_led t tables r u s p a slot v of new =
    let l = new.0.0 in
    let given = new.0.2 in
    let by = given.2 in
    let one : given.0 ≡ s = one_source t of.ready.trace u given.0 s (subst (λ k. HasSource t k given.0) (sym by.0) by.3) of.source in
    let path : Leads r s v = subst (λ x. Leads r x v) one (subst (λ y. Leads r given.0 y) by.5 given.3) in
    let store : IsStoreTo t a v = subst (λ k. IsStoreTo t k v) of.load.3 (store_to t u v of.load.0 of.load.1 by.1 (subst (λ k. SameAddress t v k) (sym by.0) by.2)) in
    ((stores_in t tables r u s p a slot v of).1 (store, new.0.1), (store, new.0.1), path)

stores_together : (t : TraceValue) (tables : RuleTables) (r : Reach) (p a l m : ℕ) → AreReady t tables r → IsStoreTo t a l × IsEventOf t p l → IsStoreTo t a m × IsEventOf t p m →
    group_of r.chains l ≡ group_of r.chains m
stores_together t tables r p a l m ready one two =
    ready.chains.stores p l m (one.0.0, one.0.1, one.0.2) (two.0.0, two.0.1, two.0.2) (one.0.0, two.0.0, one.0.1, two.0.1, one.0.3 ∙ sym two.0.3) one.1 two.1

pub store_within : (t : TraceValue) (tables : RuleTables) (r : Reach) (p a l : ℕ) → AreReady t tables r → IsStoreTo t a l × IsEventOf t p l → l < node_count r.chains
store_within t tables r p a l ready store = ready_within t tables r l ready (IsEvent-within t l (store.0.0, store.0.1))

-- each store of the place is a number of the chains, and so are u and its source
pub ends_within : (t : TraceValue) (tables : RuleTables) (r : Reach) (u s p a slot v : ℕ) → IsFromLoad t tables r u s p a slot → IsIn tables.stores slot v →
    (v < node_count r.chains) × (u < node_count r.chains) × (s < node_count r.chains)
ends_within t tables r u s p a slot v of inside = (
  store_within t tables r p a v of.ready ((stores_in t tables r u s p a slot v of).0 inside),
  ready_within t tables r u of.ready (HasSource-within t u s of.source).0,
  ready_within t tables r s of.ready (HasSource-within t u s of.source).1,
)

pub store_past_empty : (t : TraceValue) (tables : RuleTables) (r : Reach) (u s p a slot : ℕ) (old : List ℕ) → IsFromLoad t tables r u s p a slot →
    ((v : ℕ) → IsIn tables.stores slot v → ⊥) → LowersFor t r StorePast (λ l v. IsEventOf t p v) u old old
store_past_empty t tables r u s p a slot old of none =
    Lowers-none r.chains old _ (IsGivenOrSame t r u) (λ v new. none v (store_past_led t tables r u s p a slot v of new).0)

-- where the source leads to none of them, it gives nothing
pub store_past_none : (t : TraceValue) (tables : RuleTables) (r : Reach) (u s p a slot any from : ℕ) (old : List ℕ) → IsFromLoad t tables r u s p a slot →
    IsIn tables.stores slot any → LeadsFrom r s (group_of r.chains any) from → ((v : ℕ) → IsIn tables.stores slot v → v < from) →
    LowersFor t r StorePast (λ l v. IsEventOf t p v) u old old
store_past_none t tables r u s p a slot any from old of inside leads none =
    let is_any = (stores_in t tables r u s p a slot any of).0 inside in
    Lowers-none r.chains old _ (IsGivenOrSame t r u) (λ v new. (let led = store_past_led t tables r u s p a slot v of new in
    let less = none v led.0 in
    let more = (leads.from v (store_within t tables r p a v of.ready led.1) (stores_together t tables r p a v any of.ready led.1 is_any)).0 led.2 in
    omega (arith, less, more)))

-- where u leads to all to which the source leads, nothing is new
pub store_past_known : (t : TraceValue) (tables : RuleTables) (r : Reach) (u s p a slot any from known : ℕ) (old : List ℕ) → IsFromLoad t tables r u s p a slot →
    IsIn tables.stores slot any → LeadsFrom r s (group_of r.chains any) from → LeadsFrom r u (group_of r.chains any) known → known ≤ from →
    LowersFor t r StorePast (λ l v. IsEventOf t p v) u old old
store_past_known t tables r u s p a slot any from known old of inside leads knows le =
    let is_any = (stores_in t tables r u s p a slot any of).0 inside in
    Lowers-none r.chains old _ (IsGivenOrSame t r u) (λ v new. (let led = store_past_led t tables r u s p a slot v of new in
    let within = store_within t tables r p a v of.ready led.1 in
    let together = stores_together t tables r p a v any of.ready led.1 is_any in
    let more = (leads.from v within together).0 led.2 in
    new.1 ((knows.from v within together).1 (omega (arith, le, more)))))

pub store_past_lowers : (t : TraceValue) (tables : RuleTables) (r : Reach) (u s p a slot any from first : ℕ) (old new : List ℕ) → IsFromLoad t tables r u s p a slot →
    IsIn tables.stores slot any → LeadsFrom r s (group_of r.chains any) from → IsFirstFrom tables.stores slot from first →
    LowersAt old new (group_of r.chains any) first → LowersFor t r StorePast (λ l v. IsEventOf t p v) u old new
store_past_lowers t tables r u s p a slot any from first old new of inside leads is lowered =
    let stores = λ (v : ℕ). stores_in t tables r u s p a slot v of in
    let is_any = (stores any).0 inside in
    let is_first = (stores first).0 is.inside in
    let led_is = λ (v : ℕ) (store : IsStoreTo t a v × IsEventOf t p v). leads.from v (store_within t tables r p a v of.ready store) (stores_together t tables r p a v any of.ready store is_any) in
    let path : Leads r s first = (led_is first is_first).1 is.from in
    Lowers-at r.chains old new (group_of r.chains any) first _ (IsGivenOrSame t r u) lowered (stores_together t tables r p a first any of.ready is_first is_any)
    (inl (
      StorePast,
      u,
      (
        s,
        first,
        (
          refl,
          (is_first.0.0, is_first.0.1, is_first.0.2),
          (is_first.0.0, of.load.0, is_first.0.1, of.load.1, is_first.0.3 ∙ sym of.load.3),
          of.source,
          λ e. of.ready.acyclic s (subst (λ k. Leads r s k) e path),
          refl,
        ),
        path,
      ),
    ))
    (λ v new. (let led = store_past_led t tables r u s p a slot v of new in (
      stores_together t tables r p a v any of.ready led.1 is_any,
      is.least v led.0 ((led_is v led.1).0 led.2),
    )))

-- ---- SwapBefore

-- what the rule SwapBefore gives is the load of a swap whose store the tables have, and to which u leads
swap_before_led : (t : TraceValue) (tables : RuleTables) (r : Reach) (u d v : ℕ) → AreReady t tables r → d < count_of r.chains →
    IsNewOf t r SwapBefore (λ l v. group_of r.chains (suc l) ≡ d) u v → IsIn tables.swaps d (suc v) × (IsSwapLoad t v × (group_of r.chains (suc v) ≡ d)) × Leads r u (suc v)
swap_before_led t tables r u d v ready low new =
    let given = new.0.2 in
    let by = given.2 in
    let path : Leads r u (suc new.0.0) = subst (λ x. Leads r x (suc new.0.0)) by.4 (subst (λ y. Leads r given.0 y) by.5 given.3) in
    let of : IsSwapLoad t v × (group_of r.chains (suc v) ≡ d) = (subst (λ k. IsSwapLoad t k) (sym by.1) by.0, subst (λ k. group_of r.chains (suc k) ≡ d) (sym by.1) new.0.1) in
    ((ready.tables.swaps d v low).1 of, of, subst (λ k. Leads r u (suc k)) (sym by.1) path)

pub swap_store_within : (t : TraceValue) (tables : RuleTables) (r : Reach) (l : ℕ) → AreReady t tables r → IsSwapLoad t l → (l < node_count r.chains) × (suc l < node_count r.chains)
swap_store_within t tables r l ready swap =
    let within = IsSwapLoad-within t l swap in (ready_within t tables r l ready within.0, ready_within t tables r (suc l) ready within.1)

-- the loads of swaps of one chain are in one chain
swap_loads_together : (t : TraceValue) (tables : RuleTables) (r : Reach) (l m : ℕ) → AreReady t tables r → IsSwapLoad t l → IsSwapLoad t m →
    group_of r.chains (suc l) ≡ group_of r.chains (suc m) → group_of r.chains m ≡ group_of r.chains l
swap_loads_together t tables r l m ready one two same =
    let store = IsSwapLoad-store t l one in
    let p = store.0.proc in
    let of : IsEventOf t p (suc m) =
    ready.chains.processors p (suc l) (suc m) ((swap_store_within t tables r l ready one).1, (swap_store_within t tables r m ready two).1, same) (store.0, store.1, refl) in
    ready.chains.loads p m l (two.0, two.1, two.2) (one.0, one.1, one.2) (IsSwapLoad-processor t p m two of) (IsSwapLoad-processor t p l one (store.0, store.1, refl))

pub swap_before_none : (t : TraceValue) (tables : RuleTables) (r : Reach) (u d from : ℕ) (old : List ℕ) → AreReady t tables r → d < count_of r.chains → LeadsFrom r u d from →
    ((w : ℕ) → IsIn tables.swaps d w → w < from) → LowersFor t r SwapBefore (λ l v. group_of r.chains (suc l) ≡ d) u old old
swap_before_none t tables r u d from old ready low leads none =
    Lowers-none r.chains old _ (IsGivenOrSame t r u) (λ v new. (let led = swap_before_led t tables r u d v ready low new in
    let less = none (suc v) led.0 in
    let more = (leads.from (suc v) (swap_store_within t tables r v ready led.1.0).1 led.1.1).0 led.2 in
    omega (arith, less, more)))

-- the number of a swap's store that the tables have is one more than that of a swap's load
pub swap_before_load : (t : TraceValue) (tables : RuleTables) (r : Reach) (d from w : ℕ) → AreReady t tables r → d < count_of r.chains → IsFirstFrom tables.swaps d from w →
    (l : ℕ) × (w ≡ suc l) × IsSwapLoad t l × (group_of r.chains (suc l) ≡ d)
swap_before_load t tables r d from zero ready low is = absurd (ready.tables.no_swap d low is.inside)
swap_before_load t tables r d from (suc l) ready low is = (let of = (ready.tables.swaps d l low).0 is.inside in (l, refl, of.0, of.1))

pub swap_before_lowers : (t : TraceValue) (tables : RuleTables) (r : Reach) (u d from l : ℕ) (old new : List ℕ) → AreReady t tables r → IsStore t u → d < count_of r.chains → LeadsFrom r u d from →
    IsFirstFrom tables.swaps d from (suc l) → LowersAt old new (group_of r.chains l) l → LowersFor t r SwapBefore (λ l v. group_of r.chains (suc l) ≡ d) u old new
swap_before_lowers t tables r u d from l old new ready store low leads is lowered =
    let of = (ready.tables.swaps d l low).0 is.inside in
    let path : Leads r u (suc l) = (leads.from (suc l) (swap_store_within t tables r l ready of.0).1 of.1).1 is.from in
    Lowers-at r.chains old new (group_of r.chains l) l _ (IsGivenOrSame t r u) lowered refl
    (inl (SwapBefore, l, (u, suc l, (of.0, refl, store, λ e. ready.acyclic u (subst (λ k. Leads r u k) (sym e) path), refl, refl), path)))
    (λ v new. (let led = swap_before_led t tables r u d v ready low new in
    let le = is.least (suc v) led.0 ((leads.from (suc v) (swap_store_within t tables r v ready led.1.0).1 led.1.1).0 led.2) in (
      swap_loads_together t tables r l v ready of.0 led.1.0 (of.1 ∙ sym led.1.1),
      omega (arith, le),
    )))

-- ---- SwapAfter

-- what the rule SwapAfter gives in chain d are stores to which the load leads
swap_after_led : (t : TraceValue) (r : Reach) (l d v : ℕ) → IsNewOf t r SwapAfter (λ k v. group_of r.chains v ≡ d) (suc l) v → IsStore t v × (group_of r.chains v ≡ d) × Leads r l v
swap_after_led t r l d v new =
    let given = new.0.2 in
    let by = given.2 in
    let one : new.0.0 ≡ l = (let same = by.1 in omega (arith, same)) in
    (by.2, new.0.1, subst (λ x. Leads r x v) (by.4 ∙ one) (subst (λ y. Leads r given.0 y) by.5 given.3))

pub swap_after_none : (t : TraceValue) (tables : RuleTables) (r : Reach) (l d from : ℕ) (old : List ℕ) → AreReady t tables r → LeadsFrom r l d from →
    ((v : ℕ) → IsIn r.chains d v → v < from) → LowersFor t r SwapAfter (λ k v. group_of r.chains v ≡ d) (suc l) old old
swap_after_none t tables r l d from old ready leads none =
    Lowers-none r.chains old _ (IsGivenOrSame t r (suc l)) (λ v new. (let led = swap_after_led t r l d v new in
    let within = ready_within t tables r v ready (IsStore-within t v led.0) in
    let less = none v (within, led.1) in
    let more = (leads.from v within led.1).0 led.2 in
    omega (arith, less, more)))

-- a chain that has a number that is no store has no store
pub swap_after_loads : (t : TraceValue) (tables : RuleTables) (r : Reach) (l d from first : ℕ) (old : List ℕ) → AreReady t tables r → IsFirstFrom r.chains d from first → (IsStore t first → ⊥) →
    LowersFor t r SwapAfter (λ k v. group_of r.chains v ≡ d) (suc l) old old
swap_after_loads t tables r l d from first old ready is other =
    Lowers-none r.chains old _ (IsGivenOrSame t r (suc l)) (λ v new. (let led = swap_after_led t r l d v new in
    other (ready.chains.kinds v first (ready_within t tables r v ready (IsStore-within t v led.0), is.inside.0, led.1 ∙ sym is.inside.1) led.0)))

pub swap_after_lowers : (t : TraceValue) (tables : RuleTables) (r : Reach) (l d from first : ℕ) (old new : List ℕ) → AreReady t tables r → IsSwapLoad t l → LeadsFrom r l d from →
    IsFirstFrom r.chains d from first → IsStore t first → LowersAt old new d first → LowersFor t r SwapAfter (λ k v. group_of r.chains v ≡ d) (suc l) old new
swap_after_lowers t tables r l d from first old new ready swap leads is store lowered =
    let path : Leads r l first = (leads.from first is.inside.0 is.inside.1).1 is.from in
    Lowers-at r.chains old new d first _ (IsGivenOrSame t r (suc l)) lowered is.inside.1
    (elim (cases_eq first (suc l)) [
      | inl e ↦ inr e
      | inr ne ↦ inl (SwapAfter, l, (l, first, (swap, refl, store, ne, refl, refl), path))
    ])
    (λ v new. (let led = swap_after_led t r l d v new in
    let within = ready_within t tables r v ready (IsStore-within t v led.0) in
    (led.1, is.least v (within, led.1) ((leads.from v within led.1).0 led.2))))
