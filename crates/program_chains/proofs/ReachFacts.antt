-- What events lead to, once their pairs are joined.
use Rattle.std.proofs.Common.{◌≡◌, ◌↔◌, inl, inr, refl, sym, ap, subst, ◌∙◌, ℕ, ◌+◌, ◌-◌, ◌<◌, ◌≤◌, List, length, get_or, arith}
use Rattle.std.proofs.lemmas.Bool.{cases_eq, cases_lt}
use Rattle.std.proofs.lemmas.List.Elements.{Contains-get_or}
use Rattle.tso_ops.specs.declared.settings.Order.{Order}
use Rattle.order_paths.specs.Paths.{Reaches}
use Rattle.order_paths.proofs.Reach.{Reaches-edge, Reaches-into, Reaches-join}
use Rattle.bitsets.specs.Rows.{IsListOf}
use Rattle.chain_reach.specs.declared.types.Groups.{Groups}
use Rattle.chain_reach.specs.declared.types.Reach.{Reach}
use Rattle.chain_reach.specs.Groups.{group_of, IsIn, IsLaterIn}
use Rattle.chain_reach.specs.Leading.{Leads, Joins}
use Rattle.chain_reach.specs.Internal.Lists.{IsCut}
use Rattle.chain_reach.proofs.ListFacts.{ascending_at, contains_place}
use Rattle.program_chains.specs.declared.events.LogEvent.{LogEvent}
use Rattle.program_chains.specs.Internal.Pairs.{ArePairChains, IsPair}
use Rattle.program_chains.specs.Internal.Joined.{GrowsByPairs}

grows_none : (order : Order) (events : List LogEvent) (r : Reach) → GrowsByPairs order events r r
grows_none order events r = record { chains = refl; kept = λ x y leads. leads; paths = λ paths. paths }

grows_more : (order : Order) (events : List LogEvent) (a b c : Reach) → GrowsByPairs order events a b → GrowsByPairs order events b c → GrowsByPairs order events a c
grows_more order events a b c first second = record {
  chains = second.chains ∙ first.chains;
  kept = λ x y leads. second.kept x y (first.kept x y leads);
  paths = λ paths. second.paths (first.paths paths);
}

-- a pair was joined
grows_join : (order : Order) (events : List LogEvent) (old new : Reach) (u v : ℕ) → IsPair order events u v → Joins old new u v → GrowsByPairs order events old new
grows_join order events old new u v pair joins = record {
  chains = joins.chains;
  kept = joins.kept;
  paths = λ paths x y leads. elim (joins.leads x y leads) [
    | inl led ↦ paths x y led
    | inr by ↦ (let edge = Reaches-edge (IsPair order events) u v pair in
        let rest : Reaches (IsPair order events) u y = elim by.1 [
          | inl e ↦ subst (λ n. Reaches (IsPair order events) u n) e edge
          | inr more ↦ Reaches-join (IsPair order events) u v y edge (paths v y more)
        ] in
        elim by.0 [
          | inl e ↦ subst (λ n. Reaches (IsPair order events) n y) (sym e) rest
          | inr more ↦ Reaches-join (IsPair order events) x u y (paths x u more) rest
        ])
  ];
}

-- ---- what comes before one event

-- Pairs were joined, and what comes before event v in the chains below d leads to it.
pub record LeadsEarlier (order : Order) (events : List LogEvent) (old new : Reach) (v d : ℕ) : Type 0 where
  pub grows : GrowsByPairs order events old new
  pub led : (u : ℕ) → group_of old.chains u < d → IsPair order events u v → Leads new u v

pub earlier_first : (order : Order) (events : List LogEvent) (r : Reach) (v : ℕ) → LeadsEarlier order events r r v 0
earlier_first order events r v = record { grows = grows_none order events r; led = λ u low pair. absurd (omega (arith, low)) }

-- the place in the list of its chain of what comes before v is below the cut
place_below : (order : Order) (events : List LogEvent) (g : Groups) (members : List ℕ) (v d count w : ℕ) → ArePairChains order events g → IsListOf members (IsIn g d) →
    IsCut members (λ u. IsPair order events u v) count → group_of g w ≡ d → IsPair order events w v → (k : ℕ) × (k < count) × (k < length members) × (get_or members k 0 ≡ w)
place_below order events g members v d count w chains list cut at pair =
    let inside : IsIn g d w = ((let less = pair.0 in let low = pair.1 in let nodes = chains.nodes in omega (arith, less, low, nodes)), at) in
    let place = contains_place members w (list.all w inside) in
    let below : place.0 < count = elim (cases_lt place.0 count) [
      | inl less ↦ less
      | inr more ↦ absurd (cut.from place.0 more place.1 (subst (λ n. IsPair order events n v) (sym place.2) pair))
    ] in
    (place.0, below, place.1, place.2)

-- nothing in the next chain comes before it
pub earlier_none : (order : Order) (events : List LogEvent) (old new : Reach) (members : List ℕ) (v d count : ℕ) → ArePairChains order events old.chains → LeadsEarlier order events old new v d →
    IsListOf members (IsIn old.chains d) → IsCut members (λ u. IsPair order events u v) count → count ≤ 0 → LeadsEarlier order events old new v (d + 1)
earlier_none order events old new members v d count chains so_far list cut none = record {
  grows = so_far.grows;
  led = λ w low pair. elim (cases_eq (group_of old.chains w) d) [
    | inl e ↦ absurd (let place = place_below order events old.chains members v d count w chains list cut e pair in omega (arith, place.1, none))
    | inr ne ↦ so_far.led w (omega (arith, low, ne)) pair
  ];
}

-- the last that comes before it there was joined
pub earlier_join : (order : Order) (events : List LogEvent) (old middle new : Reach) (members : List ℕ) (u v d count : ℕ) → ArePairChains order events old.chains →
    LeadsEarlier order events old middle v d → IsListOf members (IsIn old.chains d) → IsCut members (λ w. IsPair order events w v) count → 0 < count → u ≡ get_or members (count - 1) 0 →
    Joins middle new u v → ((x y : ℕ) → IsLaterIn middle.chains x y → Leads middle x y) → LeadsEarlier order events old new v (d + 1)
earlier_join order events old middle new members u v d count chains so_far list cut some is joins ordered =
    let within = cut.within in
    let pair : IsPair order events u v = subst (λ n. IsPair order events n v) (sym is) (cut.below (count - 1) (omega (arith, some))) in
    record {
      grows = grows_more order events old middle new so_far.grows (grows_join order events middle new u v pair joins);
      led = λ w low pair_w. elim (cases_eq (group_of old.chains w) d) [
        | inl e ↦ (let place = place_below order events old.chains members v d count w chains list cut e pair_w in
            elim (cases_eq place.0 (count - 1)) [
              | inl last ↦ joins.joined w v (inl (sym place.3 ∙ ap (λ k. get_or members k 0) last ∙ sym is)) (inl refl)
              | inr ne ↦ (let rises = ascending_at members list.ascending place.0 (count - 1) (omega (arith, place.1, ne)) (omega (arith, some, within)) in
                  let at = place.3 in
                  let there : IsIn old.chains d u = subst (IsIn old.chains d) (sym is) (list.only (get_or members (count - 1) 0) (Contains-get_or members (count - 1) 0 (omega (arith, some, within)))) in
                  let later : IsLaterIn old.chains w u = (omega (arith, rises, at, is), there.0, e ∙ sym there.1) in
                  joins.joined w v (inr (ordered w u (subst (λ g. IsLaterIn g w u) (sym so_far.grows.chains) later))) (inl refl))
            ])
        | inr ne ↦ joins.kept w v (so_far.led w (omega (arith, low, ne)) pair_w)
      ];
    }

-- ---- what comes before all events

-- Pairs alone lead, among them those to the events below n.
pub record LeadsBelow (order : Order) (events : List LogEvent) (g : Groups) (r : Reach) (n : ℕ) : Type 0 where
  pub chains : r.chains ≡ g
  pub paths : (x y : ℕ) → Leads r x y → Reaches (IsPair order events) x y
  pub led : (u v : ℕ) → v < n → IsPair order events u v → Leads r u v

pub below_first : (order : Order) (events : List LogEvent) (g : Groups) (r : Reach) → ArePairChains order events g → r.chains ≡ g → ((x y : ℕ) → Leads r x y ↔ IsLaterIn g x y) →
    LeadsBelow order events g r 0
below_first order events g r chains is leads = record {
  chains = is;
  paths = λ x y led. Reaches-edge (IsPair order events) x y (chains.ordered x y ((leads x y).0 led));
  led = λ u v low pair. absurd (omega (arith, low));
}

pub below_next : (order : Order) (events : List LogEvent) (g : Groups) (old new : Reach) (n : ℕ) → LeadsBelow order events g old n → GrowsByPairs order events old new →
    ((u : ℕ) → IsPair order events u n → Leads new u n) → LeadsBelow order events g new (n + 1)
below_next order events g old new n before grows led = record {
  chains = grows.chains ∙ before.chains;
  paths = grows.paths before.paths;
  led = λ u v low pair. elim (cases_eq v n) [
    | inl e ↦ subst (Leads new u) (sym e) (led u (subst (IsPair order events u) e pair))
    | inr ne ↦ grows.kept u v (before.led u v (omega (arith, low, ne)) pair)
  ];
}

-- all pairs lead, once all events were passed
pub all_led : (order : Order) (events : List LogEvent) (g : Groups) (old new : Reach) (n : ℕ) → LeadsBelow order events g old n → length events ≤ n → ((x y : ℕ) → Leads new x y ↔ Leads old x y) →
    ((x y z : ℕ) → Leads new x y → Leads new y z → Leads new x z) → (x y : ℕ) → Leads new x y ↔ Reaches (IsPair order events) x y
all_led order events g old new n before end same on x y = (
  λ leads. before.paths x y ((same x y).0 leads),
  λ path. Reaches-into (IsPair order events) (Leads new) on (λ u v pair. (same u v).1 (before.led u v (let low = pair.1 in omega (arith, low, end)) pair)) x y path,
)

-- ---- the members of a chain

pub member_within : (order : Order) (events : List LogEvent) (g : Groups) (members : List ℕ) (d : ℕ) → ArePairChains order events g → IsListOf members (IsIn g d) →
    (k : ℕ) → k < length members → get_or members k 0 < length events
member_within order events g members d chains list k low =
    let inside = list.only (get_or members k 0) (Contains-get_or members k 0 low) in
    let here = inside.0 in
    let nodes = chains.nodes in
    omega (arith, here, nodes)

-- where one comes before an event, so do those before it in the chain
pub members_first : (order : Order) (events : List LogEvent) (g : Groups) (members : List ℕ) (v d : ℕ) → ArePairChains order events g → IsListOf members (IsIn g d) →
    (i j : ℕ) → i < j → j < length members → IsPair order events (get_or members j 0) v → IsPair order events (get_or members i 0) v
members_first order events g members v d chains list i j less low pair =
    let here = list.only (get_or members i 0) (Contains-get_or members i 0 (omega (arith, less, low))) in
    let there = list.only (get_or members j 0) (Contains-get_or members j 0 low) in
    chains.first (get_or members i 0) (get_or members j 0) v (ascending_at members list.ascending i j less low, there.0, here.1 ∙ sym there.1) pair
