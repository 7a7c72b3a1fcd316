-- Rules whose numbers are lowered processor by processor, or chain by chain.
use Rattle.std.proofs.Common.{◌≡◌, ◌⊎◌, inl, inr, ℕ, suc, ◌+◌, ◌<◌, ◌≤◌, List, refl, subst, arith}
use Rattle.std.specs.Prelude.{⊤}
use Rattle.std.proofs.lemmas.Bool.{cases_eq}
use Rattle.tso_ops.specs.Values.{TraceValue}
use Rattle.tso_ops.specs.Events.{processor_count, IsEventOf}
use Rattle.tso_ops.proofs.NumberFacts.{IsStore-within}
use Rattle.tso_ops.proofs.TableFacts.{source_load}
use Rattle.tso_cert.specs.declared.rules.InferredRule.{InferredRule}
use Rattle.tso_cert.specs.declared.rules.InferredRule.TheVariants.{LoadPast, StorePast, SwapBefore, SwapAfter}
use Rattle.tso_model.specs.NewEdges.{IsGivenBy}
use Rattle.chain_reach.specs.declared.types.Reach.{Reach}
use Rattle.chain_reach.specs.Groups.{count_of, group_of}
use Rattle.chain_reach.specs.Leading.{Leads}
use Rattle.chain_rules.specs.declared.types.RuleTables.{RuleTables}
use Rattle.chain_rules.specs.Internal.Lowering.{LowersFor, AreReady, IsNewOf, IsGivenOrSame}
use Rattle.chain_rules.proofs.LoweringFacts.{Lowers-none, Lowers-then, Lowers-as}
use Rattle.chain_rules.proofs.TraceBounds.{processor_below}
use Rattle.chain_rules.proofs.RuleFacts.{group_within, ready_within, swap_store_within}

pub LowersFor-none : (t : TraceValue) (r : Reach) (rule : InferredRule) (Of : ℕ → ℕ → Type 0) (u : ℕ) (old : List ℕ) → ((l v : ℕ) → Of l v → ⊥) → LowersFor t r rule Of u old old
LowersFor-none t r rule Of u old none = Lowers-none r.chains old (IsNewOf t r rule Of u) (IsGivenOrSame t r u) (λ v new. none new.0.0 v new.0.1)

pub LowersFor-then : (t : TraceValue) (r : Reach) (rule : InferredRule) (First Second Both : ℕ → ℕ → Type 0) (u : ℕ) (old now new : List ℕ) →
    LowersFor t r rule First u old now → LowersFor t r rule Second u now new → ((l v : ℕ) → Both l v → First l v ⊎ Second l v) → LowersFor t r rule Both u old new
LowersFor-then t r rule First Second Both u old now new first second both =
    Lowers-then r.chains old now new (IsNewOf t r rule First u) (IsNewOf t r rule Second u) (IsNewOf t r rule Both u) (IsGivenOrSame t r u) first second (λ v of. elim (both of.0.0 v of.0.1) [
      | inl is ↦ inl ((of.0.0, is, of.0.2), of.1)
      | inr is ↦ inr ((of.0.0, is, of.0.2), of.1)
    ])

-- what the rule gives is all of this kind
pub LowersFor-all : (t : TraceValue) (r : Reach) (rule : InferredRule) (Of : ℕ → ℕ → Type 0) (u : ℕ) (old new : List ℕ) → LowersFor t r rule Of u old new →
    ((l v : ℕ) → IsGivenBy t rule l (Leads r) u v → Of l v) → LowersFor t r rule (λ l v. ⊤) u old new
LowersFor-all t r rule Of u old new is all = Lowers-as r.chains old new (IsNewOf t r rule Of u) (IsNewOf t r rule (λ l v. ⊤) u) (IsGivenOrSame t r u) is (λ v of. ((of.0.0, all of.0.0 v of.0.2, of.0.2), of.1))

-- ---- by processors

-- event k is one of a processor below n
abbrev pub IsBelow : TraceValue → ℕ → ℕ → Type 0
IsBelow t n k = (q : ℕ) × (q < n) × IsEventOf t q k

pub below_none : (t : TraceValue) (k : ℕ) → IsBelow t 0 k → ⊥
below_none t k below = (let low = below.1 in omega (arith, low))

pub processor_more : (t : TraceValue) (n k : ℕ) → IsBelow t (n + 1) k → IsBelow t n k ⊎ IsEventOf t n k
processor_more t n k below = elim (cases_eq below.0 n) [
  | inl e ↦ inr (subst (λ q. IsEventOf t q k) e below.2)
  | inr ne ↦ inl (below.0, (let low = below.1 in omega (arith, low, ne)), below.2)
]

pub store_below : (t : TraceValue) (r : Reach) (u n l v : ℕ) → processor_count t ≤ n → IsGivenBy t StorePast l (Leads r) u v → IsBelow t n v
store_below t r u n l v end given =
    let store = given.2.1 in
    (store.0.proc, (let low = processor_below t v store.0 store.1 in omega (arith, low, end)), (store.0, store.1, refl))

pub load_below : (t : TraceValue) (r : Reach) (u n l v : ℕ) → processor_count t ≤ n → IsGivenBy t LoadPast l (Leads r) u v → IsBelow t n l
load_below t r u n l v end given =
    let load = source_load t l v given.2.2 in
    (load.0.proc, (let low = processor_below t l load.0 load.1 in omega (arith, low, end)), (load.0, load.1, refl))

-- ---- by chains

pub less_more : (k d : ℕ) → k < d + 1 → (k < d) ⊎ (k ≡ d)
less_more k d low = elim (cases_eq k d) [ inl e ↦ inr e | inr ne ↦ inl (omega (arith, low, ne)) ]

pub swap_below : (t : TraceValue) (tables : RuleTables) (r : Reach) (u d l v : ℕ) → AreReady t tables r → count_of r.chains ≤ d → IsGivenBy t SwapBefore l (Leads r) u v → group_of r.chains (suc l) < d
swap_below t tables r u d l v ready end given =
    let low = group_within r.chains (suc l) (swap_store_within t tables r l ready given.2.0).1 in
    omega (arith, low, end)

pub after_below : (t : TraceValue) (tables : RuleTables) (r : Reach) (u d l v : ℕ) → AreReady t tables r → count_of r.chains ≤ d → IsGivenBy t SwapAfter l (Leads r) u v → group_of r.chains v < d
after_below t tables r u d l v ready end given =
    let low = group_within r.chains v (ready_within t tables r v ready (IsStore-within t v given.2.2)) in
    omega (arith, low, end)
