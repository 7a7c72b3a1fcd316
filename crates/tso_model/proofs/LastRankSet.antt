-- The rank sets grow, up to a last one: the pairs that a rank set lacks become fewer in each round that adds some.
use Rattle.std.proofs.Common.{◌≡◌, ℕ, zero, suc, ◌+◌, ◌<◌, ◌≤◌, ◌⊎◌, inl, inr, subst, arith}
use Rattle.std.proofs.lemmas.Bool.{cases_order, cases_lt}
use Rattle.order_paths.proofs.Decisions.{Decision, Decision-both, Decision-not, Decision-some}
use Rattle.order_paths.proofs.Reach.{Reaches-mono}
use Rattle.tso_ops.specs.Values.{TraceValue}
use Rattle.tso_ops.specs.Events.{event_total}
use Rattle.tso_model.specs.Ranks.{RankSet, IsInferred, IsLast}
use Rattle.tso_model.proofs.Bounds.{RankSet-within}
use Rattle.tso_model.proofs.Decided.{RankSet-decided}

-- An edge stays in all later rank sets.
pub RankSet-mono : (t : TraceValue) (j k : ℕ) → j ≤ k → (u v : ℕ) → RankSet t j u v → RankSet t k u v
RankSet-mono t j zero h u v e = let same : j ≡ 0 = omega arith in subst (λ n. RankSet t n u v) same e
RankSet-mono t j (suc k) h u v e = elim (cases_order j (suc k)) [
  | inl same ↦ subst (λ n. RankSet t n u v) same e
  | inr (inl below) ↦ inl (RankSet-mono t j k (omega arith) u v e)
  | inr (inr above) ↦ absurd (omega arith)
]

-- what is inferred over edges is inferred over more
pub IsInferred-mono : (t : TraceValue) (Edge Other : ℕ → ℕ → Type 0) → ((x y : ℕ) → Edge x y → Other x y) → (u v : ℕ) →
    IsInferred t Edge u v → IsInferred t Other u v
IsInferred-mono t Edge Other more u v p = (p.0, p.1, p.2, p.3, p.4, Reaches-mono Edge Other more p.2 p.3 p.5)

-- A last rank set has the edges of all rank sets.
pub IsLast-all : (t : TraceValue) (k : ℕ) → IsLast t k → (j u v : ℕ) → RankSet t j u v → RankSet t k u v
IsLast-all t k last zero u v e = RankSet-mono t 0 k (omega arith) u v e
IsLast-all t k last (suc j) u v (inl e) = IsLast-all t k last j u v e
IsLast-all t k last (suc j) u v (inr e) = elim (cases_lt j k) [
  | inl below ↦ RankSet-mono t (suc j) k below u v (inr e)
  | inr above ↦ last u v (inr (
    IsInferred-mono t (λ x y. RankSet t j x y) (λ x y. RankSet t k x y) (IsLast-all t k last j) u v e.0,
    λ p. e.1 (Reaches-mono (RankSet t k) (λ x y. RankSet t j x y) (RankSet-mono t k j above) u v p),
  ))
]

-- the sum of the values at the numbers below n
sum_below : (ℕ → ℕ) → ℕ → ℕ
sum_below f zero = 0
sum_below f (suc n) = f n + sum_below f n

-- the sum is no greater where no value is
sum_below-le : (f g : ℕ → ℕ) → ((k : ℕ) → f k ≤ g k) → (n : ℕ) → sum_below f n ≤ sum_below g n
unfolding sum_below
sum_below-le f g each zero = omega arith
sum_below-le f g each (suc n) = omega (arith, each n, sum_below-le f g each n)

-- the sum is less where one value is
sum_below-lt : (f g : ℕ → ℕ) → ((k : ℕ) → f k ≤ g k) → (n i : ℕ) → i < n → f i < g i → sum_below f n < sum_below g n
unfolding sum_below
sum_below-lt f g each zero i h less = absurd (omega arith)
sum_below-lt f g each (suc n) i h less = elim (cases_order i n) [
  | inl same ↦ (let less' : f n < g n = subst (λ k. f k < g k) same less in omega (arith, sum_below-le f g each n))
  | inr (inl below) ↦ omega (arith, each n, sum_below-lt f g each n i below less)
  | inr (inr above) ↦ absurd (omega arith)
]

-- 1 where the fact fails
lacks : {A : Type 0} → Decision A → ℕ
lacks (inl a) = 0
lacks (inr none) = 1

-- what follows from a fact fails no more often
lacks-le : {A B : Type 0} → (A → B) → (a : Decision A) (b : Decision B) → lacks b ≤ lacks a
unfolding lacks
lacks-le to a (inl b) = omega arith
lacks-le to (inl a) (inr none) = absurd (none (to a))
lacks-le to (inr no_a) (inr none) = omega arith

-- a fact that holds counts less than one that fails
lacks-lt : {A B : Type 0} → (A → ⊥) → B → (a : Decision A) (b : Decision B) → lacks b < lacks a
unfolding lacks
lacks-lt none h (inl a) b = absurd (none a)
lacks-lt none h (inr no_a) (inl b) = omega arith
lacks-lt none h (inr no_a) (inr no_b) = absurd (no_b h)

-- how many pairs from number u the rank set lacks
lacking_from : TraceValue → ℕ → ℕ → ℕ
lacking_from t k u = sum_below (λ v. lacks (RankSet-decided t k u v)) (suc (event_total t))

-- how many pairs the rank set lacks
lacking : TraceValue → ℕ → ℕ
lacking t k = sum_below (lacking_from t k) (suc (event_total t))

-- a round that adds a pair lacks fewer
lacking-lt : (t : TraceValue) (k u v : ℕ) → RankSet t (suc k) u v → (RankSet t k u v → ⊥) → lacking t (suc k) < lacking t k
unfolding lacking lacking_from
lacking-lt t k u v e none = sum_below-lt (lacking_from t (suc k)) (lacking_from t k) each_row (suc (event_total t)) u within.0 row
  where
    within : (u < suc (event_total t)) × (v < suc (event_total t))
    within = RankSet-within t (suc k) u v e

    each : (a b : ℕ) → lacks (RankSet-decided t (suc k) a b) ≤ lacks (RankSet-decided t k a b)
    each a b = lacks-le (λ e. inl e) (RankSet-decided t k a b) (RankSet-decided t (suc k) a b)

    each_row : (a : ℕ) → lacking_from t (suc k) a ≤ lacking_from t k a
    each_row a = sum_below-le (λ b. lacks (RankSet-decided t (suc k) a b)) (λ b. lacks (RankSet-decided t k a b)) (each a) (suc (event_total t))

    row : lacking_from t (suc k) u < lacking_from t k u
    row = sum_below-lt (λ b. lacks (RankSet-decided t (suc k) u b)) (λ b. lacks (RankSet-decided t k u b)) (each u) (suc (event_total t)) v within.1
        (lacks-lt none e (RankSet-decided t k u v) (RankSet-decided t (suc k) u v))

-- the round after rank k adds a pair, or none
round_cases : (t : TraceValue) (k : ℕ) → ((u : ℕ) × ((v : ℕ) × (RankSet t (suc k) u v × (RankSet t k u v → ⊥)))) ⊎ IsLast t k
round_cases t k = elim added [ inl p ↦ inl p | inr none ↦ inr (λ u v e. kept u v e none (RankSet-decided t k u v)) ]
  where
    Added : ℕ → ℕ → Type 0
    Added u v = RankSet t (suc k) u v × (RankSet t k u v → ⊥)

    added_from : (u : ℕ) → Decision ((v : ℕ) × Added u v)
    added_from u = Decision-some (λ v. Added u v) (λ v. Decision-both (RankSet-decided t (suc k) u v) (Decision-not (RankSet-decided t k u v)))
        (suc (event_total t)) (λ v p. (RankSet-within t (suc k) u v p.0).1)

    added : Decision ((u : ℕ) × ((v : ℕ) × Added u v))
    added = Decision-some (λ u. (v : ℕ) × Added u v) added_from (suc (event_total t)) (λ u p. (RankSet-within t (suc k) u p.0 p.1.0).0)

    kept : (u v : ℕ) → RankSet t (suc k) u v → (((u : ℕ) × ((v : ℕ) × Added u v)) → ⊥) → Decision (RankSet t k u v) → RankSet t k u v
    kept u v e none (inl here) = here
    kept u v e none (inr not_here) = absurd (none (u, (v, (e, not_here))))

-- Whether the round after a rank adds nothing is decided.
pub IsLast-decided : (t : TraceValue) (k : ℕ) → Decision (IsLast t k)
IsLast-decided t k = elim (round_cases t k) [
  | inl p ↦ inr (λ last. p.1.1.1 (last p.0 p.1.0 p.1.1.0))
  | inr last ↦ inl last
]

-- a last rank set is met by the time that nothing is lacking
last_from : (t : TraceValue) (d k : ℕ) → lacking t k ≤ d → (m : ℕ) × IsLast t m
last_from t zero k h = elim (round_cases t k) [
  | inl p ↦ absurd (let less = lacking-lt t k p.0 p.1.0 p.1.1.0 p.1.1.1 in omega arith)
  | inr last ↦ (k, last)
]
last_from t (suc d) k h = elim (round_cases t k) [
  | inl p ↦ (let less = lacking-lt t k p.0 p.1.0 p.1.1.0 p.1.1.1 in last_from t d (suc k) (omega arith))
  | inr last ↦ (k, last)
]

-- There is a last rank set.
pub last_exists : (t : TraceValue) → (m : ℕ) × IsLast t m
last_exists t = last_from t (lacking t 0) 0 (omega arith)

-- a rank set that isn't last stands before the last one that is known to exist
pub before_last : (t : TraceValue) (k : ℕ) → (IsLast t k → ⊥) → k < (last_exists t).0
before_last t k other = elim (cases_lt k (last_exists t).0) [
  | inl below ↦ below
  | inr above ↦ absurd (other (λ u v e. RankSet-mono t (last_exists t).0 k above u v (IsLast-all t (last_exists t).0 (last_exists t).1 (suc k) u v e)))
]
