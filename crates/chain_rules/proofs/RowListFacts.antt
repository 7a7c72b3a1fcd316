-- Which rows a round looks at.
use Rattle.std.proofs.Common.{◌≡◌, inl, inr, ℕ, suc, ◌+◌, ◌-◌, ◌<◌, List, [], ◌∷◌, ◌++◌, length, length-append, get_or, sym, subst, ap, ◌∙◌, arith}
use Rattle.std.specs.Prelude.{AllPairs, Contains}
use Rattle.std.proofs.lemmas.Bool.{cases_lt}
use Rattle.std.proofs.lemmas.List.{get_or_default, get_or_at, get_or_append_left}
use Rattle.bitsets.specs.Rows.{IsListOf, IsAscending}
use Rattle.order_paths.proofs.Reach.{Reaches-edge, Reaches-mono}
use Rattle.tso_ops.specs.Values.{TraceValue}
use Rattle.tso_ops.specs.Events.{event_total}
use Rattle.tso_cert.specs.declared.rules.InferredRule.{InferredRule}
use Rattle.tso_model.specs.Rules.{InferredBy}
use Rattle.tso_model.specs.NewEdges.{IsGivenBy}
use Rattle.tso_model.specs.Ranks.{RankSet}
use Rattle.tso_rules.specs.Affected.{RestsOn, IsAffected}
use Rattle.tso_rules.proofs.AffectedFacts.{rests_within, rests_on_start, from_init}
use Rattle.chain_reach.specs.declared.types.Reach.{Reach}
use Rattle.chain_reach.specs.Leading.{Leads, LeadsToMore}
use Rattle.chain_reach.proofs.ListFacts.{ascending_at, contains_or}
use Rattle.chain_rules.specs.Rows.{IsNewBy}
use Rattle.chain_rules.specs.Rounds.{IsRowList, FollowsRound}
use Rattle.chain_rules.proofs.RowFacts.{new_ends}
use Rattle.chain_rules.proofs.JoinedFacts.{Leads-decided, new_edge}

-- no new edge leads from `init`
not_from_init : (t : TraceValue) (r : Reach) (u v : ℕ) → IsNewBy t r u v → u ≡ 0 → ⊥
not_from_init t r u v new none = (let p = new.0 in let by = p.2 in from_init t p.0 p.1 v by.0 by.1 (subst (λ n. InferredBy t p.0 p.1 n v by.0 by.1) none by.2))

-- ascending numbers, place by place
pairs : (list : List ℕ) → IsAscending list → AllPairs (λ x y. x < y) list
pairs list up i j d less low =
    let below = ascending_at list up i j less low in
    let a = get_or_default list i d 0 (omega (arith, less, low)) in
    let b = get_or_default list j d 0 low in
    omega (arith, below, a, b)

-- ---- all events

-- the numbers are 1 to n
pub record AreUpTo (numbers : List ℕ) (n : ℕ) : Type 0 where
  pub size : length numbers ≡ n
  pub each : (k : ℕ) → k < n → get_or numbers k 0 ≡ k + 1

pub AreUpTo-none : (numbers : List ℕ) → numbers ≡ [] → AreUpTo numbers 0
AreUpTo-none numbers empty = record { size = ap length empty; each = λ k low. absurd (omega (arith, low)) }

pub AreUpTo-more : (numbers new : List ℕ) (n : ℕ) → AreUpTo numbers n → new ≡ numbers ++ (n + 1) ∷ [] → AreUpTo new (n + 1)
AreUpTo-more numbers new n are is = subst (λ list. AreUpTo list (n + 1)) (sym is) (record {
  size = (let size = are.size in omega (arith, size, length-append numbers ((n + 1) ∷ [])));
  each = λ k low. elim (cases_lt k n) [
    | inl before ↦ get_or_append_left numbers ((n + 1) ∷ []) 0 k (let size = are.size in omega (arith, before, size)) ∙ are.each k before
    | inr past ↦ (let at : k ≡ n = omega (arith, low, past) in subst (λ m. get_or (numbers ++ (n + 1) ∷ []) m 0 ≡ m + 1) (sym at) (get_or_at numbers (n + 1) [] 0 n are.size))
  ];
})

pub all_listed : (t : TraceValue) (numbers : List ℕ) (n : ℕ) → AreUpTo numbers n → n ≡ event_total t → (r : Reach) → IsRowList t r numbers
all_listed t numbers n are all r = record {
  ascending = λ i j d less low.
      let a = at i d (omega (arith, less, low)) in
      let b = at j d low in
      omega (arith, a, b, less);
  within = λ u has. (let a = at has.0 u has.1 in let is = has.2 in let low = has.1 in let size = are.size in omega (arith, a, is, low, size, all));
  whole = λ u v new. (let low = (new_ends t r u v new).0 in let size = are.size in elim (cases_lt u 1) [
    | inl none ↦ absurd (not_from_init t r u v new (omega (arith, none)))
    | inr some ↦ (u - 1, omega (arith, some, low, size, all), (let a = at (u - 1) u (omega (arith, some, low, size, all)) in omega (arith, a, some)))
  ]);
}
  where
    at : (k d : ℕ) → k < length numbers → get_or numbers k d ≡ k + 1
    at k d low = (let size = are.size in get_or_default numbers k d 0 low ∙ are.each k (omega (arith, low, size)))

-- ---- the rows that changed

-- what was new by the one is led to in the other
still_led : (t : TraceValue) (k : ℕ) (old new : Reach) (u v : ℕ) → FollowsRound t k old new → ((rule : InferredRule) × (l : ℕ) × IsGivenBy t rule l (Leads old) u v) → (Leads new u v → ⊥) → Leads new u v
still_led t k old new u v follows given none =
    (follows.next.leads u v).1 (Reaches-edge (RankSet t (suc k)) u v (new_edge t k old u v follows.ranked (given, λ path. none (kept path))))
  where
    kept : Leads old u v → Leads new u v
    kept leads = (follows.next.leads u v).1 (Reaches-mono (RankSet t k) (RankSet t (suc k)) (λ a b edge. inl edge) u v ((follows.ranked.leads u v).0 leads))

-- a row that rests on no number that leads to more has no new edge
unchanged : (t : TraceValue) (k : ℕ) (old new : Reach) (grown : List ℕ) (u v : ℕ) → FollowsRound t k old new → IsListOf grown (LeadsToMore new) → (IsAffected t grown u → ⊥) → IsNewBy t new u v → ⊥
unchanged t k old new grown u v follows list apart is =
    let p = is.0 in
    let by = p.2 in
    let rests = rests_on_start t p.0 p.1 u v by.0 by.1 by.2 in
    elim (Leads-decided old by.0 by.1) [
      | inl before ↦ is.1 (still_led t k old new u v follows (p.0, p.1, (by.0, by.1, by.2, before)) is.1)
      | inr none ↦ apart (by.0, list.all by.0 (follows.grown by.0 by.1 by.3 none), rests)
    ]

pub changed_listed : (t : TraceValue) (k : ℕ) (old new : Reach) (grown numbers : List ℕ) → FollowsRound t k old new → IsListOf grown (LeadsToMore new) → IsListOf numbers (IsAffected t grown) → IsRowList t new numbers
changed_listed t k old new grown numbers follows list rows = record {
  ascending = pairs numbers rows.ascending;
  within = λ u has. (let rests = rows.only u has in let low = rests_within t rests.0 u rests.2 in omega (arith, low));
  whole = λ u v is. elim (contains_or numbers u) [
    | inl has ↦ has
    | inr none ↦ absurd (unchanged t k old new grown u v follows list (λ affected. none (rows.all u affected)) is)
  ];
}

-- a row that is listed rests on a number that leads to more
pub changed_rests : (t : TraceValue) (r : Reach) (grown numbers : List ℕ) → IsListOf grown (LeadsToMore r) → IsListOf numbers (IsAffected t grown) →
    (u : ℕ) → Contains numbers u → (x : ℕ) × LeadsToMore r x × RestsOn t x u
changed_rests t r grown numbers list rows u has = (let rests = rows.only u has in (rests.0, list.only rests.0 rests.1, rests.2))
