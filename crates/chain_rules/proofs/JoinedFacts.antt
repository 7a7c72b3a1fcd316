-- What numbers lead to once rows were joined.
use Rattle.std.proofs.Common.{◌≡◌, ◌⊎◌, inl, inr, ℕ, suc, ◌+◌, ◌*◌, ◌<◌, List, [], ◌∷◌, ◌++◌, length, get_or, refl, sym, subst, ◌∙◌, ap, arith}
use Rattle.std.specs.Prelude.{Contains}
use Rattle.std.proofs.lemmas.Bool.{cases_eq, cases_lt}
use Rattle.std.proofs.lemmas.List.Elements.{Contains-append_left, Contains-push, Contains-push_cases}
use Rattle.order_paths.specs.Paths.{Reaches}
use Rattle.order_paths.proofs.Reach.{Reaches-edge, Reaches-join, Reaches-mono, Reaches-into}
use Rattle.tso_ops.specs.Values.{TraceValue, rows}
use Rattle.tso_model.specs.Ranks.{RankSet}
use Rattle.chain_reach.specs.declared.types.Reach.{Reach}
use Rattle.chain_reach.specs.Groups.{IsLaterIn}
use Rattle.chain_reach.specs.Leading.{Leads, IsOrLeads, LeadsToMore, Joins}
use Rattle.chain_rules.specs.Chains.{AreChainsOf}
use Rattle.chain_rules.specs.Rows.{IsRankReach, IsNewBy}
use Rattle.chain_rules.specs.Rounds.{IsInRowOf, AreLeastRows, JoinsListed}
use Rattle.chain_rules.specs.Internal.Joined.{JoinsRow}

-- whether a number leads to another
pub Leads-decided : (r : Reach) (x y : ℕ) → Leads r x y ⊎ (Leads r x y → ⊥)
unfolding Leads
Leads-decided r x y =
    let entry = get_or r.first.items (x * length r.chains.lists.items + get_or r.chains.keys.items y 0) 0 in
    elim (cases_lt x (length r.chains.keys.items)) [
      | inl from ↦ elim (cases_lt y (length r.chains.keys.items)) [
        | inl to ↦ elim (cases_lt y entry) [
          | inl less ↦ inr (λ leads. (let le = leads.2 in omega (arith, le, less)))
          | inr le ↦ inl (from, to, le)
        ]
        | inr past ↦ inr (λ leads. (let low = leads.1 in omega (arith, low, past)))
      ]
      | inr past ↦ inr (λ leads. (let low = leads.0 in omega (arith, low, past)))
    ]

-- what a number leads to is transitive
abbrev pub IsOn : Reach → Type 0
IsOn r = (x y z : ℕ) → Leads r x y → Leads r y z → Leads r x z

or_kept : (old new : Reach) (x y : ℕ) → ((x y : ℕ) → Leads old x y → Leads new x y) → IsOrLeads old x y → IsOrLeads new x y
or_kept old new x y kept (inl e) = inl e
or_kept old new x y kept (inr leads) = inr (kept x y leads)

-- ---- one row

pub JoinsRow-start : (r : Reach) (u : ℕ) (row : List ℕ) → row ≡ [] → JoinsRow r r u row
JoinsRow-start r u row empty = record {
  chains = refl;
  kept = λ x y leads. leads;
  joined = λ v has. absurd (none v has);
  passes = λ x y leads. inl leads;
  grown = λ x y leads not. absurd (not leads);
  still_grown = λ x is. is;
  sound = λ t k edges old. old;
}
  where
    none : (v : ℕ) → Contains row v → ⊥
    none v has = (let in_row = subst (λ list. Contains list v) empty has in let low : in_row.0 < 0 = in_row.1 in omega (arith, low))

pub JoinsRow-step : (old now new : Reach) (u v : ℕ) (row : List ℕ) → JoinsRow old now u row → IsOn now → Joins now new u v → JoinsRow old new u (row ++ v ∷ [])
JoinsRow-step old now new u v row is on joins = record {
  chains = joins.chains ∙ is.chains;
  kept = λ x y leads. joins.kept x y (is.kept x y leads);
  joined = λ w has. elim (Contains-push_cases row v w has) [
    | inl before ↦ joins.kept u w (is.joined w before)
    | inr e ↦ subst (λ n. Leads new u n) e (joins.joined u v (inl refl) (inl refl))
  ];
  passes = passes;
  grown = grown;
  still_grown = λ x has. joins.still_grown x (is.still_grown x has);
  sound = sound;
}
  where
    passes : (x y : ℕ) → Leads new x y → Leads old x y ⊎ ((w : ℕ) × Contains (row ++ v ∷ []) w × IsOrLeads new x u × IsOrLeads new w y)
    passes x y leads = elim (joins.leads x y leads) [
      | inl before ↦ elim (is.passes x y before) [
        | inl first ↦ inl first
        | inr by ↦ inr (by.0, Contains-append_left row (v ∷ []) by.0 by.1, or_kept now new x u joins.kept by.2, or_kept now new by.0 y joins.kept by.3)
      ]
      | inr by ↦ inr (v, Contains-push row v, or_kept now new x u joins.kept by.0, or_kept now new v y joins.kept by.1)
    ]

    then : (x y : ℕ) → Leads now x v → IsOrLeads now v y → Leads now x y
    then x y leads (inl e) = subst (λ n. Leads now x n) e leads
    then x y leads (inr more) = on x v y leads more

    grown : (x y : ℕ) → Leads new x y → (Leads old x y → ⊥) → LeadsToMore new x
    grown x y leads not = elim (Leads-decided now x y) [
      | inl before ↦ joins.still_grown x (is.grown x y before not)
      | inr none ↦ elim (joins.leads x y leads) [
        | inl before ↦ absurd (none before)
        | inr by ↦ joins.grows x by.0 (λ to_v. none (then x y to_v by.1))
      ]
    ]

    sound : (t : TraceValue) (k : ℕ) → ((w : ℕ) → Contains (row ++ v ∷ []) w → RankSet t k u w) → ((x y : ℕ) → Leads old x y → Reaches (RankSet t k) x y) →
        (x y : ℕ) → Leads new x y → Reaches (RankSet t k) x y
    sound t k edges before x y leads = elim (joins.leads x y leads) [ inl was ↦ at x y was | inr by ↦ to x (by.0) y (by.1) ]
      where
        at : (a b : ℕ) → Leads now a b → Reaches (RankSet t k) a b
        at = is.sound t k (λ w has. edges w (Contains-append_left row (v ∷ []) w has)) before

        edge : Reaches (RankSet t k) u v
        edge = Reaches-edge (RankSet t k) u v (edges v (Contains-push row v))

        from : (b : ℕ) → IsOrLeads now v b → Reaches (RankSet t k) u b
        from b (inl e) = subst (λ n. Reaches (RankSet t k) u n) e edge
        from b (inr more) = Reaches-join (RankSet t k) u v b edge (at v b more)

        to : (a : ℕ) → IsOrLeads now a u → (b : ℕ) → IsOrLeads now v b → Reaches (RankSet t k) a b
        to a (inl e) b more = subst (λ n. Reaches (RankSet t k) n b) (sym e) (from b more)
        to a (inr leads) b more = Reaches-join (RankSet t k) a u b (at a u leads) (from b more)

-- ---- the rows of some numbers

-- the number at a place below n has v in its row
abbrev pub IsListedBelow : List ℕ → List (List ℕ) → ℕ → ℕ → ℕ → Type 0
IsListedBelow numbers rows n u v = (i : ℕ) × (i < n) × (get_or numbers i 0 ≡ u) × Contains (get_or rows i []) v

-- The rows of the first n numbers were joined.
pub record JoinsBelow (old new : Reach) (numbers : List ℕ) (rows : List (List ℕ)) (n : ℕ) : Type 0 where
  pub chains : new.chains ≡ old.chains
  pub kept : (x y : ℕ) → Leads old x y → Leads new x y
  pub joined : (u v : ℕ) → IsListedBelow numbers rows n u v → Leads new u v
  pub passes : (x y : ℕ) → Leads new x y → Leads old x y ⊎ ((u : ℕ) × (v : ℕ) × IsListedBelow numbers rows n u v × IsOrLeads new x u × IsOrLeads new v y)
  pub grown : (x y : ℕ) → Leads new x y → (Leads old x y → ⊥) → LeadsToMore new x
  pub still_grown : (x : ℕ) → LeadsToMore old x → LeadsToMore new x
  pub sound : (t : TraceValue) (k : ℕ) → ((u v : ℕ) → IsListedBelow numbers rows n u v → RankSet t k u v) → ((x y : ℕ) → Leads old x y → Reaches (RankSet t k) x y) →
      (x y : ℕ) → Leads new x y → Reaches (RankSet t k) x y

pub JoinsBelow-start : (r : Reach) (numbers : List ℕ) (rows : List (List ℕ)) → JoinsBelow r r numbers rows 0
JoinsBelow-start r numbers rows = record {
  chains = refl;
  kept = λ x y leads. leads;
  joined = λ u v listed. (let low = listed.1 in absurd (omega (arith, low)));
  passes = λ x y leads. inl leads;
  grown = λ x y leads not. absurd (not leads);
  still_grown = λ x is. is;
  sound = λ t k edges old. old;
}

listed_more : (numbers : List ℕ) (rows : List (List ℕ)) (n u v : ℕ) → IsListedBelow numbers rows n u v → IsListedBelow numbers rows (n + 1) u v
listed_more numbers rows n u v listed = (let low = listed.1 in (listed.0, omega (arith, low), listed.2, listed.3))

below_here : (numbers : List ℕ) (rows : List (List ℕ)) (n v : ℕ) → Contains (get_or rows n []) v → IsListedBelow numbers rows (n + 1) (get_or numbers n 0) v
below_here numbers rows n v has = (n, omega arith, refl, has)

pub JoinsBelow-step : (old now new : Reach) (numbers : List ℕ) (rows : List (List ℕ)) (n : ℕ) → JoinsBelow old now numbers rows n → JoinsRow now new (get_or numbers n 0) (get_or rows n []) →
    JoinsBelow old new numbers rows (n + 1)
JoinsBelow-step old now new numbers rows n is joins = record {
  chains = joins.chains ∙ is.chains;
  kept = λ x y leads. joins.kept x y (is.kept x y leads);
  joined = λ u v listed. elim (cases_eq listed.0 n) [
    | inl e ↦ (let at : get_or numbers n 0 ≡ u = ap (λ i. get_or numbers i 0) (sym e) ∙ listed.2 in
        subst (λ m. Leads new m v) at (joins.joined v (subst (λ i. Contains (get_or rows i []) v) e listed.3)))
    | inr ne ↦ (let low = listed.1 in joins.kept u v (is.joined u v (listed.0, omega (arith, low, ne), listed.2, listed.3)))
  ];
  passes = λ x y leads. elim (joins.passes x y leads) [
    | inl before ↦ elim (is.passes x y before) [
      | inl first ↦ inl first
      | inr by ↦ inr (by.0, by.1, listed_more numbers rows n by.0 by.1 by.2, or_kept now new x by.0 joins.kept by.3, or_kept now new by.1 y joins.kept by.4)
    ]
    | inr by ↦ inr (get_or numbers n 0, by.0, below_here numbers rows n by.0 by.1, by.2, by.3)
  ];
  grown = λ x y leads not. elim (Leads-decided now x y) [
    | inl before ↦ joins.still_grown x (is.grown x y before not)
    | inr none ↦ joins.grown x y leads none
  ];
  still_grown = λ x has. joins.still_grown x (is.still_grown x has);
  sound = λ t k edges old_sound. joins.sound t k (λ v has. edges (get_or numbers n 0) v (below_here numbers rows n v has))
      (is.sound t k (λ u v listed. edges u v (listed_more numbers rows n u v listed)) old_sound);
}

pub JoinsBelow-end : (old new : Reach) (numbers : List ℕ) (rows : List (List ℕ)) (n : ℕ) → JoinsBelow old new numbers rows n → n ≡ length numbers → JoinsListed old new numbers rows
JoinsBelow-end old new numbers rows n is end = record {
  chains = is.chains;
  kept = is.kept;
  joined = λ u v listed. is.joined u v (below u v listed);
  passes = λ x y leads. elim (is.passes x y leads) [
    | inl before ↦ inl before
    | inr by ↦ inr (by.0, by.1, (let at = by.2 in let low = at.1 in (at.0, omega (arith, low, end), at.2, at.3)), by.3, by.4)
  ];
  grown = is.grown;
  still_grown = is.still_grown;
}
  where
    below : (u v : ℕ) → IsInRowOf numbers rows u v → IsListedBelow numbers rows n u v
    below u v listed = (let low = listed.1 in (listed.0, omega (arith, low, end), listed.2, listed.3))

-- ---- rank sets

-- an edge that is new by what leads on is one of the next rank set
pub new_edge : (t : TraceValue) (k : ℕ) (r : Reach) (u v : ℕ) → IsRankReach t k r → IsNewBy t r u v → RankSet t (suc k) u v
new_edge t k r u v is new =
    let given = new.0 in
    let by = given.2 in
    inr ((given.0, given.1, by.0, by.1, by.2, (is.leads by.0 by.1).0 by.3), λ path. new.1 ((is.leads u v).1 path))

pub new_by : (t : TraceValue) (k : ℕ) (r : Reach) (u v : ℕ) → IsRankReach t k r → RankSet t (suc k) u v → RankSet t k u v ⊎ IsNewBy t r u v
new_by t k r u v is (inl edge) = inl edge
new_by t k r u v is (inr new) =
    let given = new.0 in
    inr ((given.0, given.1, (given.2, given.3, given.4, (is.leads given.2 given.3).1 given.5)), λ leads. new.1 ((is.leads u v).0 leads))

-- where all least rows were joined, numbers lead to each other by the paths of the next rank set
pub next_rank : (t : TraceValue) (k : ℕ) (old new : Reach) (numbers : List ℕ) (rows : List (List ℕ)) (n : ℕ) → JoinsBelow old new numbers rows n → n ≡ length numbers → IsOn new →
    ((x y : ℕ) → IsLaterIn new.chains x y → Leads new x y) → IsRankReach t k old → AreLeastRows t old numbers rows → IsRankReach t (suc k) new
next_rank t k old new numbers rows n is end on ordered rank least = record {
  chains = subst (λ g. AreChainsOf t g) (sym is.chains) rank.chains;
  leads = λ x y. (to x y, back x y);
}
  where
    to : (x y : ℕ) → Leads new x y → Reaches (RankSet t (suc k)) x y
    to = is.sound t (suc k)
        (λ u v listed. (let low = listed.1 in
        let edge = (least.each listed.0 (omega (arith, low, end))).only v listed.3 in
        subst (λ m. RankSet t (suc k) m v) listed.2 (new_edge t k old (get_or numbers listed.0 0) v rank edge)))
        (λ x y leads. Reaches-mono (RankSet t k) (RankSet t (suc k)) (λ a b edge. inl edge) x y ((rank.leads x y).0 leads))

    more : (w v : ℕ) (u : ℕ) → Leads new u w → (w ≡ v) ⊎ IsLaterIn old.chains w v → Leads new u v
    more w v u leads (inl e) = subst (λ m. Leads new u m) e leads
    more w v u leads (inr later) = on u w v leads (ordered w v (subst (λ g. IsLaterIn g w v) (sym is.chains) later))

    each : (u v : ℕ) → RankSet t (suc k) u v → Leads new u v
    each u v edge = elim (new_by t k old u v rank edge) [
      | inl before ↦ is.kept u v ((rank.leads u v).1 (Reaches-edge (RankSet t k) u v before))
      | inr new_one ↦ (let at = least.whole u v new_one in
          let here : IsNewBy t old (get_or numbers at.0 0) v = subst (λ m. IsNewBy t old m v) (sym at.2) new_one in
          let first = (least.each at.0 at.1).all v here in
          let low = at.1 in
          more first.0 v u (is.joined u first.0 (at.0, omega (arith, low, end), at.2, first.1)) first.2)
    ]

    back : (x y : ℕ) → Reaches (RankSet t (suc k)) x y → Leads new x y
    back x y path = Reaches-into (RankSet t (suc k)) (Leads new) (λ a b c p q. on a b c p q) each x y path

-- ---- rows in vectors

-- the numbers of the row at a place are listed
pub listed_at : (numbers : List ℕ) (made : List (List ℕ)) (i v : ℕ) (row : List ℕ) → i < length made → length made ≡ length numbers → row ≡ get_or made i [] → Contains row v →
    IsInRowOf numbers made (get_or numbers i 0) v
listed_at numbers made i v row low count is has = (i, omega (arith, low, count), refl, subst (λ list. Contains list v) is has)
