-- Chains whose rows are lowered, from the last that leads to the edge downwards, and one chain after the other.
use Rattle.std.proofs.Common.{◌≡◌, ◌⊎◌, ◌↔◌, inl, inr, ℕ, ◌+◌, ◌*◌, ◌<◌, ◌≤◌, List, length, get_or, sym, subst, ◌∙◌, ap, arith}
use Rattle.std.proofs.lemmas.Bool.{cases_eq, cases_lt}
use Rattle.std.proofs.lemmas.Nat.{row_fits}
use Rattle.bitsets.specs.Rows.{IsListOf}
use Rattle.chain_reach.specs.Internal.FirstTables.{LeadsBy, IsOrLeadsBy, GrowsBy, GrowsIn, GrowsBelow, Reaches, KeepsReach, IsEdge, IsReadyChain, LowersRows, MarksRows}
use Rattle.chain_reach.specs.Internal.Lists.{IsCut}
use Rattle.chain_reach.proofs.ListFacts.{ascending_at, contains_place}
use Rattle.std.proofs.lemmas.List.Elements.{Contains-get_or}
use Rattle.chain_reach.proofs.LoweredFacts.{LowersRows-then, LowersRows-as, MarksRows-then, MarksRows-as}

-- a row that wasn't lowered leads where it did
pub leads_same : (keys : List ℕ) (count : ℕ) (old now given : List ℕ) (P : ℕ → Type 0) (x y : ℕ) → LowersRows old now count given P → (P x → ⊥) → get_or keys y 0 < count →
    LeadsBy keys count now x y ↔ LeadsBy keys count old x y
leads_same keys count old now given P x y is not low =
    let both = is.lowered x (get_or keys y 0) y low in (
      λ leads. (leads.0, leads.1, elim (both.0 leads.2) [ inl le ↦ le | inr p ↦ absurd (not p.0) ]),
      λ leads. (leads.0, leads.1, both.1 (inl leads.2)),
    )

pub grows_same : (keys : List ℕ) (count : ℕ) (old now given : List ℕ) (P : ℕ → Type 0) (u v x : ℕ) → LowersRows old now count given P → (P x → ⊥) → get_or keys u 0 < count → get_or keys v 0 < count →
    GrowsBy keys count now u v x ↔ GrowsBy keys count old u v x
grows_same keys count old now given P u v x is not lu lv =
    let at = leads_same keys count old now given P x u is not lu in
    let end = leads_same keys count old now given P x v is not lv in (
      λ grows. (elim grows.0 [ inl e ↦ inl e | inr leads ↦ inr (at.0 leads) ], λ leads. grows.1 (end.1 leads)),
      λ grows. (elim grows.0 [ inl e ↦ inl e | inr leads ↦ inr (at.1 leads) ], λ leads. grows.1 (end.0 leads)),
    )

pub reaches_is : (keys : List ℕ) (count : ℕ) (table : List ℕ) (u from v to x : ℕ) → IsEdge keys count u from v to → x < length keys →
    Reaches table count u from x ↔ IsOrLeadsBy keys count table x u
reaches_is keys count table u from v to x edge low = (
  λ reaches. elim reaches [ inl e ↦ inl e | inr le ↦ inr (low, edge.from_node, subst (λ n. get_or table (x * count + n) 0 ≤ u) edge.from_chain le) ],
  λ leads. elim leads [ inl e ↦ inl e | inr at ↦ inr (subst (λ n. get_or table (x * count + n) 0 ≤ u) (sym edge.from_chain) at.2) ],
)

-- The members of chain d, of which the first k are u or lead to it.
pub record Members (keys members : List ℕ) (count d : ℕ) (table : List ℕ) (u from v to k : ℕ) : Type 0 where
  pub list : IsListOf members (λ n. (n < length keys) × (get_or keys n 0 ≡ d))
  pub edge : IsEdge keys count u from v to
  pub cut : IsCut members (Reaches table count u from) k

-- x is a member from place i on and before place k
abbrev pub Passed : List ℕ → ℕ → ℕ → ℕ → Type 0
Passed members i k x = (j : ℕ) × (i ≤ j) × (j < k) × (get_or members j 0 ≡ x)

-- Those from place i on were lowered and marked: none of them led to v.
pub record Walks (keys members : List ℕ) (count : ℕ) (old now given : List ℕ) (was grown : List ℕ) (v i k : ℕ) : Type 0 where
  pub order : i ≤ k
  pub lowered : LowersRows old now count given (Passed members i k)
  pub marked : MarksRows was grown (Passed members i k)
  pub lacks : (j : ℕ) → i ≤ j → j < k → LeadsBy keys count old (get_or members j 0) v → ⊥

passed_more : (members : List ℕ) (i k x : ℕ) → i < k → Passed members i k x ↔ (Passed members (i + 1) k x ⊎ (x ≡ get_or members i 0))
passed_more members i k x low = (
  λ p. (let from = p.1 in elim (cases_eq p.0 i) [
    | inl e ↦ inr (sym p.3 ∙ ap (λ n. get_or members n 0) e)
    | inr ne ↦ inl (p.0, omega (arith, from, ne), p.2, p.3)
  ]),
  λ either. elim either [
    | inl p ↦ (let from = p.1 in (p.0, omega (arith, from), p.2, p.3))
    | inr e ↦ (i, omega arith, low, sym e)
  ],
)

-- member i leads to v now, only if it did before
pub Walks-led : (keys members : List ℕ) (count d : ℕ) (old now given : List ℕ) (was grown : List ℕ) (u from v to i k : ℕ) → Members keys members count d old u from v to k →
    Walks keys members count old now given was grown v (i + 1) k → get_or now (get_or members i 0 * count + to) 0 ≤ v → LeadsBy keys count old (get_or members i 0) v
Walks-led keys members count d old now given was grown u from v to i k of walks le =
    let order = walks.order in
    let end = of.cut.within in
    let here = of.list.only (get_or members i 0) (Contains-get_or members i 0 (omega (arith, order, end))) in
    let chain : to ≡ get_or keys v 0 = of.edge.to_chain in
    let low : get_or keys v 0 < count = subst (λ n. n < count) chain of.edge.to_within in
    elim ((walks.lowered.lowered (get_or members i 0) (get_or keys v 0) v low).0 (subst (λ n. get_or now (get_or members i 0 * count + n) 0 ≤ v) chain le)) [
      | inl old_le ↦ (here.0, of.edge.to_node, old_le)
      | inr p ↦ (let above = p.0.1 in let below = p.0.2 in
          let up : get_or members i 0 < get_or members p.0.0 0 = ascending_at members of.list.ascending i p.0.0 (omega (arith, above)) (omega (arith, below, end)) in
          let same : get_or members p.0.0 0 ≡ get_or members i 0 = p.0.3 in absurd (omega (arith, up, same)))
    ]

pub Walks-step : (keys members : List ℕ) (count d : ℕ) (old now new given was grown next : List ℕ) (u from v to i k : ℕ) → Members keys members count d old u from v to k →
    Walks keys members count old now given was grown v (i + 1) k → v < get_or now (get_or members i 0 * count + to) 0 → LowersRows now new count given (λ z. z ≡ get_or members i 0) →
    MarksRows grown next (λ z. z ≡ get_or members i 0) → Walks keys members count old new given was next v i k
Walks-step keys members count d old now new given was grown next u from v to i k of walks lt lowers marks =
    let order = walks.order in
    let chain : to ≡ get_or keys v 0 = of.edge.to_chain in
    let low : get_or keys v 0 < count = subst (λ n. n < count) chain of.edge.to_within in
    let more = λ (x : ℕ). passed_more members i k x (omega (arith, order)) in record {
      order = omega (arith, order);
      lowered = LowersRows-then old now new given count (Passed members (i + 1) k) (λ z. z ≡ get_or members i 0) (Passed members i k) walks.lowered lowers more;
      marked = MarksRows-then was grown next (Passed members (i + 1) k) (λ z. z ≡ get_or members i 0) (Passed members i k) walks.marked marks more;
      lacks = λ j above below leads. elim (cases_eq j i) [
        | inl e ↦ (let at : LeadsBy keys count old (get_or members i 0) v = subst (λ n. LeadsBy keys count old (get_or members n 0) v) e leads in
            let le : get_or now (get_or members i 0 * count + get_or keys v 0) 0 ≤ v = (walks.lowered.lowered (get_or members i 0) (get_or keys v 0) v low).1 (inl at.2) in
            let more_than : v < get_or now (get_or members i 0 * count + get_or keys v 0) 0 = subst (λ n. v < get_or now (get_or members i 0 * count + n) 0) chain lt in
            omega (arith, le, more_than))
        | inr ne ↦ walks.lacks j (omega (arith, above, ne)) below leads
      ];
    }

-- where those before place i lead to v, all of the chain were lowered that gain anything
passed_all : (keys members : List ℕ) (count d : ℕ) (old now given : List ℕ) (was grown : List ℕ) (u from v to i k x : ℕ) → Members keys members count d old u from v to k →
    Walks keys members count old now given was grown v i k → ((j : ℕ) → j < i → LeadsBy keys count old (get_or members j 0) v) →
    GrowsIn keys count d old u v x ↔ Passed members i k x
passed_all keys members count d old now given was grown u from v to i k x of walks stop = (
  λ grows. (let place = contains_place members x (of.list.all x grows.0) in
      let at : get_or members place.0 0 ≡ x = place.2 in
      let reaches : Reaches old count u from (get_or members place.0 0) = subst (λ n. Reaches old count u from n) (sym at) ((reaches_is keys count old u from v to x of.edge grows.0.0).1 grows.1.0) in
      elim (cases_lt place.0 k) [
        | inl low ↦ elim (cases_lt place.0 i) [
          | inl before ↦ absurd (grows.1.1 (subst (λ n. LeadsBy keys count old n v) at (stop place.0 before)))
          | inr from_there ↦ (place.0, from_there, low, at)
        ]
        | inr high ↦ absurd (of.cut.from place.0 high place.1 reaches)
      ]),
  λ p. (let below = p.2 in
      let end = of.cut.within in
      let at : get_or members p.0 0 ≡ x = p.3 in
      let here = of.list.only (get_or members p.0 0) (Contains-get_or members p.0 0 (omega (arith, below, end))) in (
        (subst (λ n. n < length keys) at here.0, subst (λ n. get_or keys n 0 ≡ d) at here.1),
        (
          subst (λ n. IsOrLeadsBy keys count old n u) at ((reaches_is keys count old u from v to (get_or members p.0 0) of.edge here.0).0 (of.cut.below p.0 below)),
          λ leads. walks.lacks p.0 p.1 below (subst (λ n. LeadsBy keys count old n v) (sym at) leads),
        ),
      )),
)

pub Walks-lowered : (keys members : List ℕ) (count d : ℕ) (old now given : List ℕ) (was grown : List ℕ) (u from v to i k : ℕ) → Members keys members count d old u from v to k →
    Walks keys members count old now given was grown v i k → ((j : ℕ) → j < i → LeadsBy keys count old (get_or members j 0) v) →
    LowersRows old now count given (GrowsIn keys count d old u v)
Walks-lowered keys members count d old now given was grown u from v to i k of walks stop =
    LowersRows-as old now given count (Passed members i k) (GrowsIn keys count d old u v) walks.lowered (λ x. passed_all keys members count d old now given was grown u from v to i k x of walks stop)

pub Walks-marked : (keys members : List ℕ) (count d : ℕ) (old now given : List ℕ) (was grown : List ℕ) (u from v to i k : ℕ) → Members keys members count d old u from v to k →
    Walks keys members count old now given was grown v i k → ((j : ℕ) → j < i → LeadsBy keys count old (get_or members j 0) v) →
    MarksRows was grown (GrowsIn keys count d old u v)
Walks-marked keys members count d old now given was grown u from v to i k of walks stop =
    MarksRows-as was grown (Passed members i k) (GrowsIn keys count d old u v) walks.marked (λ x. passed_all keys members count d old now given was grown u from v to i k x of walks stop)

-- those before a member that leads to v lead to it
pub Walks-stop : (keys members : List ℕ) (count d : ℕ) (old : List ℕ) (was : List ℕ) (u from v to i k : ℕ) → Members keys members count d old u from v to k → IsReadyChain keys count d old was u v →
    i < length members → LeadsBy keys count old (get_or members i 0) v → (j : ℕ) → j < i + 1 → LeadsBy keys count old (get_or members j 0) v
Walks-stop keys members count d old was u from v to i k of ready within leads j low = elim (cases_eq j i) [
  | inl e ↦ subst (λ n. LeadsBy keys count old (get_or members n 0) v) (sym e) leads
  | inr ne ↦ (let less : j < i = omega (arith, low, ne) in
      let lower = of.list.only (get_or members j 0) (Contains-get_or members j 0 (omega (arith, less, within))) in
      let upper = of.list.only (get_or members i 0) (Contains-get_or members i 0 within) in
      ready.to_first (get_or members j 0) (get_or members i 0) (ascending_at members of.list.ascending j i less within) upper.0 lower.1 upper.1 leads)
]

-- in a chain's list those that are u or lead to it come first
pub members_first : (keys members : List ℕ) (count d : ℕ) (table : List ℕ) (grown : List ℕ) (u from v to : ℕ) → IsListOf members (λ n. (n < length keys) × (get_or keys n 0 ≡ d)) →
    IsEdge keys count u from v to → IsReadyChain keys count d table grown u v →
    (i j : ℕ) → i < j → j < length members → Reaches table count u from (get_or members j 0) → Reaches table count u from (get_or members i 0)
members_first keys members count d table grown u from v to list edge ready i j less within reaches =
    let lower = list.only (get_or members i 0) (Contains-get_or members i 0 (omega (arith, less, within))) in
    let upper = list.only (get_or members j 0) (Contains-get_or members j 0 within) in
    (reaches_is keys count table u from v to (get_or members i 0) edge lower.0).1
    (ready.from_first (get_or members i 0) (get_or members j 0) (ascending_at members list.ascending i j less within) upper.0 lower.1 upper.1
    ((reaches_is keys count table u from v to (get_or members j 0) edge upper.0).0 reaches))

-- the row of a member is within the table
pub members_fit : (keys members : List ℕ) (count d : ℕ) (table : List ℕ) → IsListOf members (λ n. (n < length keys) × (get_or keys n 0 ≡ d)) → length table ≡ length keys * count →
    (k : ℕ) → k < length members → get_or members k 0 * count + count ≤ length table
members_fit keys members count d table list sized k low =
    let fits : get_or members k 0 * count + count ≤ length keys * count = row_fits (get_or members k 0) count (length keys) count (list.only (get_or members k 0) (Contains-get_or members k 0 low)).0 (omega arith) in
    omega (arith, fits, sized)

-- the chains below d were lowered: chain d is as it was
pub chains_ready : (keys : List ℕ) (count d : ℕ) (old now given other : List ℕ) (was grown : List ℕ) (u from v to : ℕ) → KeepsReach keys count old other was → IsEdge keys count u from v to →
    LowersRows old now count given (GrowsBelow keys count d old u v) → MarksRows was grown (GrowsBelow keys count d old u v) → IsReadyChain keys count d now grown u v
chains_ready keys count d old now given other was grown u from v to keeps edge lowers marks =
    let lu : get_or keys u 0 < count = subst (λ n. n < count) edge.from_chain edge.from_within in
    let lv : get_or keys v 0 < count = subst (λ n. n < count) edge.to_chain edge.to_within in
    let not = λ (x : ℕ) (e : get_or keys x 0 ≡ d) (p : GrowsBelow keys count d old u v x). (let less = p.0.1 in absurd {A = ⊥} (omega (arith, less, e))) in
    let to_u = λ (x : ℕ) (e : get_or keys x 0 ≡ d). leads_same keys count old now given (GrowsBelow keys count d old u v) x u lowers (not x e) lu in
    let to_v = λ (x : ℕ) (e : get_or keys x 0 ≡ d). leads_same keys count old now given (GrowsBelow keys count d old u v) x v lowers (not x e) lv in record {
      sized = lowers.sized ∙ keeps.sized;
      grown_sized = marks.sized ∙ keeps.grown_sized;
      from_first = λ x z less low ex ez is.
          let step = keeps.ordered x z less low (ex ∙ sym ez) in
          inr ((to_u x ex).1 (elim is [ inl e ↦ subst (λ n. LeadsBy keys count old x n) e step | inr leads ↦ keeps.transitive x z u step ((to_u z ez).0 leads) ]));
      to_first = λ x z less low ex ez is. (to_v x ex).1 (keeps.transitive x z v (keeps.ordered x z less low (ex ∙ sym ez)) ((to_v z ez).0 is));
    }

chains_more : (keys : List ℕ) (count d : ℕ) (old now given : List ℕ) (u from v to x : ℕ) → IsEdge keys count u from v to → LowersRows old now count given (GrowsBelow keys count d old u v) →
    GrowsBelow keys count (d + 1) old u v x ↔ (GrowsBelow keys count d old u v x ⊎ GrowsIn keys count d now u v x)
chains_more keys count d old now given u from v to x edge lowers =
    let lu : get_or keys u 0 < count = subst (λ n. n < count) edge.from_chain edge.from_within in
    let lv : get_or keys v 0 < count = subst (λ n. n < count) edge.to_chain edge.to_within in
    let same = λ (e : get_or keys x 0 ≡ d). grows_same keys count old now given (GrowsBelow keys count d old u v) u v x lowers (λ p. (let less = p.0.1 in absurd (omega (arith, less, e)))) lu lv in (
      λ grows. (let low = grows.0.1 in elim (cases_eq (get_or keys x 0) d) [
        | inl e ↦ inr ((grows.0.0, e), (same e).1 grows.1)
        | inr ne ↦ inl ((grows.0.0, omega (arith, low, ne)), grows.1)
      ]),
      λ either. elim either [
        | inl grows ↦ (let low = grows.0.1 in ((grows.0.0, omega (arith, low)), grows.1))
        | inr grows ↦ (let e = grows.0.1 in ((grows.0.0, omega (arith, e)), (same grows.0.1).0 grows.1))
      ],
    )

pub chains_lowered : (keys : List ℕ) (count d : ℕ) (old now new given : List ℕ) (u from v to : ℕ) → IsEdge keys count u from v to → LowersRows old now count given (GrowsBelow keys count d old u v) →
    LowersRows now new count given (GrowsIn keys count d now u v) → LowersRows old new count given (GrowsBelow keys count (d + 1) old u v)
chains_lowered keys count d old now new given u from v to edge lowers more =
    LowersRows-then old now new given count (GrowsBelow keys count d old u v) (GrowsIn keys count d now u v) (GrowsBelow keys count (d + 1) old u v) lowers more
    (λ x. chains_more keys count d old now given u from v to x edge lowers)

pub chains_marked : (keys : List ℕ) (count d : ℕ) (old now given : List ℕ) (was grown new : List ℕ) (u from v to : ℕ) → IsEdge keys count u from v to →
    LowersRows old now count given (GrowsBelow keys count d old u v) → MarksRows was grown (GrowsBelow keys count d old u v) → MarksRows grown new (GrowsIn keys count d now u v) →
    MarksRows was new (GrowsBelow keys count (d + 1) old u v)
chains_marked keys count d old now given was grown new u from v to edge lowers marks more =
    MarksRows-then was grown new (GrowsBelow keys count d old u v) (GrowsIn keys count d now u v) (GrowsBelow keys count (d + 1) old u v) marks more
    (λ x. chains_more keys count d old now given u from v to x edge lowers)

-- below the first chain none grows, and past the last all do
pub none_below : (keys : List ℕ) (count : ℕ) (table : List ℕ) (u v x : ℕ) → GrowsBelow keys count 0 table u v x → ⊥
none_below keys count table u v x grows = (let low = grows.0.1 in omega (arith, low))

pub all_below : (keys : List ℕ) (count d : ℕ) (table : List ℕ) (u from v to x : ℕ) → IsEdge keys count u from v to → ((n : ℕ) → n < length keys → get_or keys n 0 < d) →
    GrowsBy keys count table u v x ↔ GrowsBelow keys count d table u v x
all_below keys count d table u from v to x edge within = (
  λ grows. (let low : x < length keys = elim grows.0 [ inl e ↦ subst (λ n. n < length keys) (sym e) edge.from_node | inr leads ↦ leads.0 ] in ((low, within x low), grows)),
  λ grows. grows.1,
)
