-- Rounds by chains: what each adds, how many there are at most, and when they end.
use Rattle.std.proofs.Common.{◌≡◌, ◌⊎◌, ◌↔◌, inl, inr, ℕ, zero, suc, ◌+◌, ◌*◌, ◌<◌, ◌≤◌, true, false, List, [], ◌∷◌, ◌++◌, length, get_or, refl, sym, subst, ap, ◌∙◌, arith, length-append}
use Rattle.std.specs.Prelude.{Contains}
use Rattle.std.specs.Global.{Vec}
use Rattle.std.specs.List.{IsDistinct, AllByRecursion, list_any}
use Rattle.std.proofs.Math.Dec.{eqb}
use Rattle.std.proofs.lemmas.Bool.{cases_lt, eqb-true}
use Rattle.std.proofs.lemmas.Bool.Decides.{eqb_tells}
use Rattle.std.proofs.lemmas.Nat.{row_fits, same_from_place}
use Rattle.std.proofs.lemmas.Map.Views.{Contains-from_any}
use Rattle.std.proofs.lemmas.List.{get_or_append_left, get_or_at}
use Rattle.std.proofs.lemmas.List.Elements.{Contains-get_or}
use Rattle.std.proofs.lemmas.Map.Keys.{IsDistinct-cons}
use Rattle.std.proofs.lemmas.Map.Steps.{length-le_from_distinct_below}
use borrow.Author.Count.{below_more}
use Rattle.order_paths.specs.Paths.{HasCycle}
use Rattle.order_paths.proofs.Reach.{Reaches-edge, HasCycle-mono, HasCycle-iff, HasCycle-Reaches}
use Rattle.tso_ops.specs.Values.{TraceValue, rows}
use Rattle.tso_ops.specs.Events.{event_total, IsUnwritten}
use Rattle.tso_model.specs.Ranks.{RankSet, IsLast, IsRounds}
use Rattle.tso_model.proofs.LastRankSet.{IsLast-all}
use Rattle.tso_model.proofs.Bounds.{InferredBy-within}
use Rattle.chain_reach.specs.declared.types.Reach.{Reach}
use Rattle.chain_reach.specs.Groups.{node_count, IsLaterIn}
use Rattle.chain_reach.specs.Leading.{Leads, IsOrLeads}
use Rattle.chain_rules.specs.Chains.{AreChainsOf}
use Rattle.chain_rules.specs.Rows.{IsRankReach, IsNewBy, IsLeastRow}
use Rattle.chain_rules.specs.Rounds.{IsInRowOf, IsRowList, AreRowsWithin, AreLeastRows, ClosesCycle, JoinsListed, FollowsRound}
use Rattle.chain_rules.specs.Internal.RoundEnds.{AddsRound}
use Rattle.std.proofs.lemmas.List.{length-map}
use Rattle.chain_rules.proofs.RowFacts.{new_ends}
use Rattle.chain_rules.proofs.JoinedFacts.{IsOn, new_edge, new_by}

-- ---- a settled reach is the same

-- the two have the same chains, and the same leads on
pub record IsSame (one two : Reach) : Type 0 where
  pub chains : two.chains ≡ one.chains
  pub leads : (x y : ℕ) → Leads two x y ↔ Leads one x y

pub same_new : (t : TraceValue) (one two : Reach) (u v : ℕ) → IsSame one two → IsNewBy t one u v → IsNewBy t two u v
same_new t one two u v same new = (
  (let p = new.0 in let by = p.2 in (p.0, p.1, (by.0, by.1, by.2, (same.leads by.0 by.1).1 by.3))),
  λ leads. new.1 ((same.leads u v).0 leads),
)

pub same_back : (one two : Reach) → IsSame one two → IsSame two one
same_back one two same = record { chains = sym same.chains; leads = λ x y. ((same.leads x y).1, (same.leads x y).0) }

pub same_rank : (t : TraceValue) (k : ℕ) (one two : Reach) → IsSame one two → IsRankReach t k one → IsRankReach t k two
same_rank t k one two same rank = record {
  chains = subst (λ g. AreChainsOf t g) (sym same.chains) rank.chains;
  leads = λ x y. (λ leads. (rank.leads x y).0 ((same.leads x y).0 leads), λ path. (same.leads x y).1 ((rank.leads x y).1 path));
}

same_row : (t : TraceValue) (one two : Reach) (u : ℕ) (row : List ℕ) → IsSame one two → IsLeastRow t one u row → IsLeastRow t two u row
same_row t one two u row same is = record {
  only = λ v has. same_new t one two u v same (is.only v has);
  all = λ v new. (let first = is.all v (same_new t two one u v (same_back one two same) new) in
      (first.0, first.1, subst (λ g. (first.0 ≡ v) ⊎ IsLaterIn g first.0 v) (sym same.chains) first.2));
}

pub same_rows : (t : TraceValue) (one two : Reach) (numbers : List ℕ) (made : List (List ℕ)) → IsSame one two → AreLeastRows t one numbers made → AreLeastRows t two numbers made
same_rows t one two numbers made same are = record {
  each = λ i low. same_row t one two (get_or numbers i 0) (get_or made i []) same (are.each i low);
  whole = λ u v new. are.whole u v (same_new t two one u v (same_back one two same) new);
}

pub within_as : (one two : Reach) (numbers : List ℕ) (made : List (List ℕ)) → two.chains ≡ one.chains → AreRowsWithin one numbers made → AreRowsWithin two numbers made
within_as one two numbers made same are = record {
  count = are.count;
  numbers_within = λ i low. subst (λ g. get_or numbers i 0 < node_count g) (sym same) (are.numbers_within i low);
  within = λ u v listed. subst (λ g. v < node_count g) (sym same) (are.within u v listed);
}

-- ---- a round

pub round_follows : (t : TraceValue) (k : ℕ) (old settled new : Reach) (numbers : List ℕ) (made : List (List ℕ)) → IsSame old settled → JoinsListed settled new numbers made →
    (IsRankReach t k settled → AreLeastRows t settled numbers made → IsRankReach t (suc k) new) → IsRankReach t k old → AreLeastRows t old numbers made → FollowsRound t k old new
round_follows t k old settled new numbers made same joins next rank least = record {
  ranked = rank;
  next = next (same_rank t k old settled same rank) (same_rows t old settled numbers made same least);
  grown = λ x y leads not. joins.grown x y leads (λ before. not ((same.leads x y).0 before));
}

-- what leads to itself then does so by way of a listed edge
pub round_closes : (old settled new : Reach) (numbers : List ℕ) (made : List (List ℕ)) → IsSame old settled → JoinsListed settled new numbers made → IsOn new →
    ((x : ℕ) → Leads old x x → ⊥) → (x : ℕ) → Leads new x x → ClosesCycle new numbers made
round_closes old settled new numbers made same joins on acyclic x leads = elim (joins.passes x x leads) [
  | inl before ↦ absurd (acyclic x ((same.leads x x).0 before))
  | inr by ↦ (by.0, by.1, by.2, round by.0 by.1 by.2 by.3 by.4)
]
  where
    round : (u v : ℕ) → IsInRowOf numbers made u v → IsOrLeads new x u → IsOrLeads new v x → Leads new v u
    round u v listed (inl a) (inl b) = subst (λ n. Leads new n u) (sym b) (subst (λ n. Leads new x n) a leads)
    round u v listed (inl a) (inr q) = subst (λ n. Leads new v n) a q
    round u v listed (inr p) (inl b) = subst (λ n. Leads new n u) (sym b) p
    round u v listed (inr p) (inr q) = on v x u q p

-- ---- rows that are made one after the other

-- the rows of the numbers below place n are made
pub record AreMade (t : TraceValue) (r : Reach) (numbers : List ℕ) (made : List (List ℕ)) (n : ℕ) : Type 0 where
  pub count : length made ≡ n
  pub each : (i : ℕ) → i < n → IsLeastRow t r (get_or numbers i 0) (get_or made i [])

pub AreMade-none : (t : TraceValue) (r : Reach) (numbers : List ℕ) (made : List (List ℕ)) → made ≡ [] → AreMade t r numbers made 0
AreMade-none t r numbers made empty = record { count = ap length empty; each = λ i low. absurd (omega (arith, low)) }

pub AreMade-more : (t : TraceValue) (r : Reach) (numbers : List ℕ) (made new : List (List ℕ)) (n : ℕ) (row : List ℕ) → AreMade t r numbers made n → IsLeastRow t r (get_or numbers n 0) row →
    new ≡ made ++ row ∷ [] → AreMade t r numbers new (n + 1)
AreMade-more t r numbers made new n row are is same = subst (λ list. AreMade t r numbers list (n + 1)) (sym same) (record {
  count = (let count = are.count in omega (arith, count, length-append made (row ∷ [])));
  each = λ i low. elim (cases_lt i n) [
    | inl before ↦ subst (λ list. IsLeastRow t r (get_or numbers i 0) list) (sym (get_or_append_left made (row ∷ []) [] i (let count = are.count in omega (arith, before, count)))) (are.each i before)
    | inr past ↦ (let at : i ≡ n = omega (arith, low, past) in
        subst (λ m. IsLeastRow t r (get_or numbers m 0) (get_or (made ++ row ∷ []) m [])) (sym at)
        (subst (λ list. IsLeastRow t r (get_or numbers n 0) list) (sym (get_or_at made row [] [] n are.count)) is))
  ];
})

pub AreMade-within : (t : TraceValue) (r : Reach) (numbers : List ℕ) (made : List (List ℕ)) (n : ℕ) → AreMade t r numbers made n → n ≡ length numbers → AreChainsOf t r.chains → IsRowList t r numbers →
    AreRowsWithin r numbers made
AreMade-within t r numbers made n are end chains list = record {
  count = are.count ∙ end;
  numbers_within = λ i low. (let most = list.within (get_or numbers i 0) (Contains-get_or numbers i 0 low) in let nodes = chains.nodes in omega (arith, most, nodes));
  within = λ u v listed. (let low = listed.1 in
      let new = (are.each listed.0 (omega (arith, low, end))).only v listed.3 in
      let p = new.0 in let by = p.2 in
      let to = (InferredBy-within t p.0 p.1 (get_or numbers listed.0 0) v by.0 by.1 by.2).to in
      let nodes = chains.nodes in omega (arith, to, nodes));
}

pub AreMade-least : (t : TraceValue) (r : Reach) (numbers : List ℕ) (made : List (List ℕ)) (n : ℕ) → AreMade t r numbers made n → n ≡ length numbers → IsRowList t r numbers → AreLeastRows t r numbers made
AreMade-least t r numbers made n are end list = record {
  each = λ i low. are.each i (omega (arith, low, end));
  whole = λ u v new. (let has = list.whole u v new in (has.0, has.1, place numbers u has.0 has.1 has.2));
}
  where
    place : (xs : List ℕ) (u i : ℕ) → i < length xs → get_or xs i u ≡ u → get_or xs i 0 ≡ u
    place [] u i low is = absurd (omega (arith, low))
    place (x ∷ xs) u zero low is = is
    place (x ∷ xs) u (suc i) low is = place xs u i (omega (arith, low)) is

-- ---- how many rounds there are at most

-- q is the code of a pair of which the first number leads to the second
abbrev IsPair : Reach → ℕ → ℕ → Type 0
IsPair r nodes q = (u : ℕ) × (v : ℕ) × (u < nodes) × (v < nodes) × (q ≡ u * nodes + v) × Leads r u v

-- As many pairs as rounds were made lead on, no two of one code.
pub record HasPairs (r : Reach) (nodes k : ℕ) : Type 0 where
  pub codes : List ℕ
  pub size : length codes ≡ k
  pub apart : IsDistinct eqb codes
  pub leads : AllByRecursion (IsPair r nodes) codes

pub HasPairs-none : (r : Reach) (nodes : ℕ) → HasPairs r nodes 0
unfolding IsDistinct
HasPairs-none r nodes = record { codes = []; size = refl; apart = tt; leads = tt }

-- a pair that isn't led has a code of its own
code_apart : (r : Reach) (nodes u v : ℕ) (codes : List ℕ) → v < nodes → (Leads r u v → ⊥) → AllByRecursion (IsPair r nodes) codes → AllByRecursion (λ y. eqb (u * nodes + v) y ≡ false) codes
code_apart r nodes u v [] low none all = tt
code_apart r nodes u v (q ∷ codes) low none all = (here, code_apart r nodes u v codes low none all.1)
  where
    here : eqb (u * nodes + v) q ≡ false
    here = elim (eqb_tells (u * nodes + v) q) [
      | inl same ↦ absurd (let p = all.0 in
          let ends = same_from_place u v p.0 p.1 nodes low p.3 (same.1 ∙ p.4) in
          none (subst (λ n. Leads r n v) (sym ends.0) (subst (λ n. Leads r p.0 n) (sym ends.1) p.5)))
      | inr other ↦ other.0
    ]

pairs_kept : (old new : Reach) (nodes : ℕ) (codes : List ℕ) → ((x y : ℕ) → Leads old x y → Leads new x y) → AllByRecursion (IsPair old nodes) codes → AllByRecursion (IsPair new nodes) codes
pairs_kept old new nodes [] kept all = tt
pairs_kept old new nodes (q ∷ codes) kept all = (let p = all.0 in ((p.0, p.1, p.2, p.3, p.4, kept p.0 p.1 p.5), pairs_kept old new nodes codes kept all.1))

pub HasPairs-more : (old new : Reach) (nodes k u v : ℕ) → HasPairs old nodes k → ((x y : ℕ) → Leads old x y → Leads new x y) → u < nodes → v < nodes → Leads new u v → (Leads old u v → ⊥) →
    HasPairs new nodes (k + 1)
HasPairs-more old new nodes k u v are kept hu hv leads none = record {
  codes = (u * nodes + v) ∷ are.codes;
  size = (let size = are.size in omega (arith, size));
  apart = IsDistinct-cons eqb (u * nodes + v) are.codes (code_apart old nodes u v are.codes hv none are.leads) are.apart;
  leads = ((u, v, hu, hv, refl, leads), pairs_kept old new nodes are.codes kept are.leads);
}

code_low : (r : Reach) (nodes q : ℕ) (codes : List ℕ) → AllByRecursion (IsPair r nodes) codes → (i : ℕ) → i < length codes → get_or codes i q ≡ q → q < nodes * nodes
code_low r nodes q [] all i low is = absurd (omega (arith, low))
code_low r nodes q (x ∷ codes) all zero low is = (let p = all.0 in
    let fits : p.0 * nodes + nodes ≤ nodes * nodes = row_fits p.0 nodes nodes nodes p.2 (omega arith) in
    let code = p.4 in let v = p.3 in omega (arith, fits, code, v, is))
code_low r nodes q (x ∷ codes) all (suc i) low is = code_low r nodes q codes all.1 i (omega (arith, low)) is

codes_low : (r : Reach) (nodes : ℕ) (codes : List ℕ) → AllByRecursion (IsPair r nodes) codes → (q : ℕ) → list_any (eqb q) codes ≡ true → q < nodes * nodes
codes_low r nodes codes all q any = (let has = Contains-from_any (λ x y. eqb-true x y) q codes any in code_low r nodes q codes all has.0 has.1 has.2)

pub HasPairs-most : (r : Reach) (nodes k : ℕ) → HasPairs r nodes k → k ≤ nodes * nodes
HasPairs-most r nodes k are = (let most = length-le_from_distinct_below are.codes (nodes * nodes) are.apart (codes_low r nodes are.codes are.leads) in let size = are.size in omega (arith, most, size))

-- ---- all rounds so far

-- What is known before each round: what leads on are the paths of a rank set, nothing leads to itself, no rank set before has a cycle or is last,
-- and each round let a pair lead on.
pub record AreRoundsMade (t : TraceValue) (r : Reach) (k : ℕ) : Type 0 where
  pub rank : IsRankReach t k r
  pub before : (j : ℕ) → j < k → HasCycle (RankSet t j) → ⊥
  pub unfinished : (j : ℕ) → j < k → IsLast t j → ⊥
  pub pairs : HasPairs r (suc (event_total t)) k

pub AreRoundsMade-none : (t : TraceValue) (r : Reach) → IsRankReach t 0 r → AreRoundsMade t r 0
AreRoundsMade-none t r rank = record {
  rank = rank;
  before = λ j low. absurd (omega (arith, low));
  unfinished = λ j low. absurd (omega (arith, low));
  pairs = HasPairs-none r (suc (event_total t));
}

-- a rank set has a cycle exactly where something leads to itself by its paths
pub cycle_led : (t : TraceValue) (k : ℕ) (r : Reach) → IsRankReach t k r → HasCycle (RankSet t k) → (x : ℕ) × Leads r x x
cycle_led t k r rank cycle = (let found = (HasCycle-iff (RankSet t k)).0 cycle in (found.0, (rank.leads found.0 found.0).1 found.1))

pub led_cycle : (t : TraceValue) (k : ℕ) (r : Reach) (x : ℕ) → IsRankReach t k r → Leads r x x → HasCycle (RankSet t k)
led_cycle t k r x rank leads = HasCycle-Reaches (RankSet t k) x ((rank.leads x x).0 leads)

-- a round that adds an edge isn't after a last rank set
pub not_last : (t : TraceValue) (k : ℕ) (old new : Reach) → AreRoundsMade t old k → AddsRound t old new → IsLast t k → ⊥
not_last t k old new so_far adds last =
    let u = adds.some.0 in
    let v = adds.some.1 in
    let edge = adds.some.2 in
    edge.1 ((so_far.rank.leads u v).1 (Reaches-edge (RankSet t k) u v (last u v (new_edge t k old u v so_far.rank edge))))

pub AreRoundsMade-more : (t : TraceValue) (k : ℕ) (old new : Reach) → AreRoundsMade t old k → ((x : ℕ) → Leads old x x → ⊥) → AddsRound t old new → AreRoundsMade t new (k + 1)
AreRoundsMade-more t k old new so_far acyclic adds = record {
  rank = subst (λ n. IsRankReach t n new) (let next : suc k ≡ k + 1 = omega arith in next) (adds.follows k so_far.rank).next;
  before = below_more (λ j. HasCycle (RankSet t j) → ⊥) k so_far.before (λ cycle. (let found = cycle_led t k old so_far.rank cycle in acyclic found.0 found.1));
  unfinished = below_more (λ j. IsLast t j → ⊥) k so_far.unfinished (not_last t k old new so_far adds);
  pairs = (let edge = adds.some.2 in let ends = new_ends t old adds.some.0 adds.some.1 edge in
      HasPairs-more old new (suc (event_total t)) k adds.some.0 adds.some.1 so_far.pairs adds.kept ends.0 ends.1 adds.some.3 edge.1);
}

pub rounds_with_cycle : (t : TraceValue) (k : ℕ) (r : Reach) (x : ℕ) → AreRoundsMade t r k → ((l : ℕ) → IsUnwritten t l → ⊥) → Leads r x x → IsRounds t k
rounds_with_cycle t k r x so_far written leads = inr (written, inl (led_cycle t k r x so_far.rank leads, so_far.before))

pub rounds_without_cycle : (t : TraceValue) (k : ℕ) (r : Reach) → AreRoundsMade t r k → ((l : ℕ) → IsUnwritten t l → ⊥) → ((x : ℕ) → Leads r x x → ⊥) → ((u v : ℕ) → IsNewBy t r u v → ⊥) → IsRounds t k
rounds_without_cycle t k r so_far written acyclic none = inr (written, inr (no_cycle, last, so_far.unfinished))
  where
    last : IsLast t k
    last u v edge = elim (new_by t k r u v so_far.rank edge) [ inl before ↦ before | inr new ↦ absurd (none u v new) ]

    no_cycle : (j : ℕ) → HasCycle (RankSet t j) → ⊥
    no_cycle j cycle = (let found = cycle_led t k r so_far.rank (HasCycle-mono (RankSet t j) (RankSet t k) (IsLast-all t k last j) cycle) in acyclic found.0 found.1)

-- ---- the end of a round

-- where all least rows are empty nothing is new
pub none_new : (t : TraceValue) (r : Reach) (numbers : List ℕ) (made : List (List ℕ)) → AreLeastRows t r numbers made → ((i v : ℕ) → Contains (get_or made i []) v → ⊥) → (u v : ℕ) → IsNewBy t r u v → ⊥
none_new t r numbers made least empty u v new =
    let at = least.whole u v new in
    let first = (least.each at.0 at.1).all v (subst (λ n. IsNewBy t r n v) (sym at.2) new) in
    empty at.0 first.0 first.1

pub adds_round : (t : TraceValue) (old new : Reach) (numbers : List ℕ) (made : List (Vec ℕ)) (i v : ℕ) → AreRowsWithin old numbers (rows made) → AreLeastRows t old numbers (rows made) →
    new.chains ≡ old.chains → ((x y : ℕ) → Leads old x y → Leads new x y) → ((u v : ℕ) → IsInRowOf numbers (rows made) u v → Leads new u v) →
    ((t : TraceValue) (k : ℕ) → IsRankReach t k old → AreLeastRows t old numbers (rows made) → FollowsRound t k old new) → i < length made → Contains (get_or (rows made) i []) v → AddsRound t old new
adds_round t old new numbers made i v within least chains kept joined follows low has =
    let size = length-map made (λ (row : Vec ℕ). row.items) in
    let count = within.count in
    let place : i < length numbers = omega (arith, low, size, count) in record {
      chains = chains;
      kept = kept;
      some = (get_or numbers i 0, v, (least.each i place).only v has, joined (get_or numbers i 0) v (i, place, refl, has));
      follows = λ k rank. follows t k rank least;
    }

-- a listed edge that closes a cycle lets something lead to itself
pub closed_led : (new : Reach) (numbers : List ℕ) (made : List (List ℕ)) → ((u v : ℕ) → IsInRowOf numbers made u v → Leads new u v) → IsOn new → ClosesCycle new numbers made → (x : ℕ) × Leads new x x
closed_led new numbers made joined on closes = (closes.0, on closes.0 closes.1 closes.0 (joined closes.0 closes.1 closes.2) closes.3)
