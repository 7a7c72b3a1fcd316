-- A trace has at most one certificate.
use Rattle.std.proofs.Common.{◌≡◌, ◌⊎◌, inl, inr, ℕ, zero, suc, ◌≤◌, ◌==◌, Bool, true, false, ◌&&◌, ◌||◌, IsTrue, List, [], ◌∷◌, Some, slice_get, refl, sym, ◌∙◌, arith}
use Rattle.std.proofs.lemmas.Bool.{false≢true, or_cases, or_left, or_right, and_parts, and_from, eqb-true, eq-eqb}
use Rattle.std.proofs.lemmas.Option.{none-some, same_Some}
use Rattle.tso_ops.specs.Values.{TraceValue}
use Rattle.tso_cert.specs.declared.rules.InferredRule.{InferredRule}
use Rattle.tso_cert.specs.declared.rules.InferredRule.TheVariants.{LoadPast, StorePast, SwapBefore, SwapAfter}
use Rattle.tso_cert.specs.declared.steps.Reason.{Reason}
use Rattle.tso_cert.specs.declared.steps.Reason.TheVariants.{Base, Inferred}
use Rattle.tso_cert.specs.declared.steps.CertStep.{CertStep}
use Rattle.tso_cert.specs.declared.steps.Certificate.{Certificate}
use Rattle.tso_cert.specs.declared.steps.Certificate.TheVariants.{Unwritten, Cycle}
use Rattle.order_paths.specs.Paths.{IsLeastPath}
use Rattle.order_paths.proofs.Least.{level_both_ways, least_path_unique, least_cycle_unique}
use Rattle.order_paths.proofs.Reach.{Linked-mono, IsCycle-mono}
use Rattle.tso_model.specs.Rules.{InferredBy}
use Rattle.tso_model.specs.Ranks.{RankSet, HasRank}
use Rattle.tso_model.specs.Certs.{IsStep, IsPathIn, inferred_index, IsJustified, IsListedBefore, AreUsed, AreStepsOf, IsCertificateOf}
use Rattle.tso_ops.proofs.NumberFacts.{HasOwnValues, source_unique}
use Rattle.tso_model.proofs.Justifications.{rank_unique, base_index_injective, inferred_index_injective}
use Rattle.tso_model.proofs.RoundsNumber.{rounds_unique}
use Rattle.tso_model.proofs.OrderedLists.{AreAmong, AreInOrder, in_order_unique}

-- the rule, the load and the edge determine the ends of the path
ends_unique : (t : TraceValue) → HasOwnValues t → (rule : InferredRule) (l u v x y x' y' : ℕ) →
    InferredBy t rule l u v x y → InferredBy t rule l u v x' y' → (x ≡ x') × (y ≡ y')
ends_unique t own LoadPast l u v x y x' y' left right = (left.4 ∙ sym right.4, left.5 ∙ sym right.5)
ends_unique t own StorePast l u v x y x' y' left right = (source_unique t own l x x' left.3 right.3, left.5 ∙ sym right.5)
ends_unique t own SwapBefore l u v x y x' y' left right = (left.4 ∙ sym right.4, left.5 ∙ sym right.5)
ends_unique t own SwapAfter l u v x y x' y' left right = (left.4 ∙ sym right.4, left.5 ∙ sym right.5)

-- the least path that the rule asks for, for this load
abbrev IsPathFor : TraceValue → ℕ → ℕ → ℕ → InferredRule → ℕ → List ℕ → Type 0
IsPathFor t r u v rule l path = (x : ℕ) × (y : ℕ) × InferredBy t rule l u v x y × IsLeastPath (RankSet t r) x y path

-- there is one such path
path_unique : (t : TraceValue) → HasOwnValues t → (r u v : ℕ) (rule : InferredRule) (l : ℕ) (path other : List ℕ) →
    IsPathFor t r u v rule l path → IsPathFor t r u v rule l other → path ≡ other
path_unique t own r u v rule l path other left right =
    let ends = ends_unique t own rule l u v left.0 left.1 right.0 right.1 left.2 right.2 in
    let again : IsLeastPath (RankSet t r) left.0 left.1 other = rw (ends.0, ends.1) right.3 in
    least_path_unique (RankSet t r) left.0 left.1 path other left.3 again

-- an edge has one justification of each rank
pub justification_unique : (t : TraceValue) → HasOwnValues t → (r u v : ℕ) (reason other : Reason) →
    IsJustified t r u v reason → IsJustified t r u v other → reason ≡ other
justification_unique t own zero u v (Base rule) (Base other) left right =
    let same = base_index_injective rule other (omega (arith, left.1 other right.0, right.1 rule left.0)) in
    cc
justification_unique t own zero u v (Base rule) (Inferred other l path) left right = absurd right
justification_unique t own zero u v (Inferred rule l path) other left right = absurd left
justification_unique t own (suc r) u v (Base rule) other left right = absurd left
justification_unique t own (suc r) u v (Inferred rule l path) (Base other) left right = absurd right
justification_unique t own (suc r) u v (Inferred rule l path) (Inferred rule' l' path') left right =
    let again : IsPathFor t r u v rule l path' = rw (same_rule, same_load) right.0 in
    let same_path = path_unique t own r u v rule l path path' left.0 again in
    let one_rule : rule ≡ rule' = same_rule in
    let one_load : l ≡ l' = same_load in
    cc
  where
    choice : (inferred_index rule ≡ inferred_index rule') × (l ≤ l') × (l' ≤ l)
    choice = level_both_ways (inferred_index rule) (inferred_index rule') (l ≤ l') (l' ≤ l)
        (left.1 rule' l' right.0.0 right.0.1 right.0.2 (path', right.0.3.0))
        (right.1 rule l left.0.0 left.0.1 left.0.2 (path, left.0.3.0))

    same_load : l ≡ l'
    same_load = omega (arith, choice.1, choice.2)

    same_rule : rule ≡ rule'
    same_rule = inferred_index_injective rule rule' choice.0

-- steps of one edge, each with the justification of its rank, are one
step_unique : (t : TraceValue) → HasOwnValues t → (s d : CertStep) → s.from ≡ d.from → s.to ≡ d.to →
    (r : ℕ) → HasRank t s.from s.to r → IsJustified t r s.from s.to s.reason →
    (q : ℕ) → HasRank t d.from d.to q → IsJustified t q d.from d.to d.reason → s ≡ d
step_unique t own s d same_from same_to r rank just q rank_d just_d =
    let rank_again : HasRank t s.from s.to q = rw (same_from, same_to) rank_d in
    let same_rank : r ≡ q = rank_unique t s.from s.to r q rank rank_again in
    let just_again : IsJustified t r s.from s.to d.reason = rw (same_from, same_to, same_rank) just_d in
    let same_reason = justification_unique t own r s.from s.to s.reason d.reason just just_again in
    λ i. record { from = same_from i; to = same_to i; reason = same_reason i }

-- whether one of the steps is the edge from u to v
has_edge : List CertStep → ℕ → ℕ → Bool
has_edge [] u v = false
has_edge (s ∷ steps) u v = (s.from == u && s.to == v) || has_edge steps u v

-- the test finds a step
IsStep-has_edge : (steps : List CertStep) (u v : ℕ) → IsTrue (has_edge steps u v) → IsStep steps u v
unfolding has_edge
IsStep-has_edge [] u v test = absurd (false≢true test)
IsStep-has_edge (s ∷ steps) u v test = by_test (or_cases (s.from == u && s.to == v) (has_edge steps u v) test) (IsStep-has_edge steps u v)
  where
    by_test : ((s.from == u && s.to == v) ≡ true) ⊎ (has_edge steps u v ≡ true) → (IsTrue (has_edge steps u v) → IsStep steps u v) → IsStep (s ∷ steps) u v
    by_test (inl here) in_rest =
        let both = and_parts (s.from == u) (s.to == v) here in
        (0, s, refl, eqb-true s.from u both.0, eqb-true s.to v both.1)
    by_test (inr later) in_rest =
        let step = in_rest later in
        (suc step.0, step.1, step.2, step.3, step.4)

-- each step passes the test
has_edge-IsStep : (steps : List CertStep) (u v k : ℕ) (s : CertStep) → slice_get steps k ≡ Some s → s.from ≡ u → s.to ≡ v → IsTrue (has_edge steps u v)
unfolding has_edge
has_edge-IsStep [] u v k s at from to = absurd (none-some s at)
has_edge-IsStep (d ∷ steps) u v zero s at from to =
    let same = same_Some d s at in
    or_left (d.from == u && d.to == v) (has_edge steps u v)
    (and_from (d.from == u) (d.to == v) (eq-eqb d.from u (rw same from)) (eq-eqb d.to v (rw same to)))
has_edge-IsStep (d ∷ steps) u v (suc k) s at from to =
    or_right (d.from == u && d.to == v) (has_edge steps u v) (has_edge-IsStep steps u v k s at from to)

-- a reason's path is one of more edges too
pub IsPathIn-mono : (Edge Other : ℕ → ℕ → Type 0) → ((u v : ℕ) → Edge u v → Other u v) → (reason : Reason) → IsPathIn Edge reason → IsPathIn Other reason
IsPathIn-mono Edge Other more (Base rule) path = tt
IsPathIn-mono Edge Other more (Inferred rule load path) linked = Linked-mono Edge Other more path linked

-- the first step stands before the second in the order of a certificate
abbrev pub Precedes : TraceValue → CertStep → CertStep → Type 0
Precedes t s d = (r : ℕ) × (q : ℕ) × HasRank t s.from s.to r × HasRank t d.from d.to q × IsListedBefore r s q d

-- no two steps are each listed before the other
listed_one_way : (r q : ℕ) (s d : CertStep) → IsListedBefore r s q d → IsListedBefore q d r s → ⊥
listed_one_way r q s d left right = grind arith

-- the same of steps whose ranks aren't given
precedes_one_way : (t : TraceValue) (s d : CertStep) → Precedes t s d → Precedes t d s → ⊥
precedes_one_way t s d left right =
    let same_r = rank_unique t s.from s.to left.0 right.1 left.2 right.3 in
    let same_q = rank_unique t d.from d.to left.1 right.0 left.3 right.2 in
    listed_one_way left.0 left.1 s d left.4 (rw (same_r, same_q) right.4)

-- the steps of a certificate are in order
steps_in_order : (t : TraceValue) (steps : List CertStep) (cycle : List ℕ) → AreStepsOf t steps cycle → AreInOrder (Precedes t) steps
steps_in_order t steps cycle parts = record {
  rising = λ j k s d below at at_d.
      (let first = parts.justified j s at in
      let second = parts.justified k d at_d in
      (first.0, second.0, first.1, second.1, parts.in_order j k s d first.0 second.0 below at at_d first.1 second.1));
}

module _ (t : TraceValue) (own : HasOwnValues t) (cycle : List ℕ) (steps others : List CertStep)
    (parts : AreStepsOf t steps cycle) (other_parts : AreStepsOf t others cycle) where
  -- the steps of both lists for one edge are one
  same_step : (k j : ℕ) (s d : CertStep) → slice_get steps k ≡ Some s → slice_get others j ≡ Some d → d.from ≡ s.from → d.to ≡ s.to → d ≡ s
  same_step k j s d at at_d same_from same_to =
      let one = parts.justified k s at in
      let other = other_parts.justified j d at_d in
      step_unique t own d s same_from same_to other.0 other.1 other.2 one.0 one.1 one.2

  -- the other list has the cycle's edges and, with a step of the first list, the edges of its path
  others_used : AreUsed steps cycle (λ u v. has_edge others u v)
  others_used = record {
    cycle_edges = IsCycle-mono (λ u v. IsStep others u v) (λ u v. IsTrue (has_edge others u v)) passes cycle other_parts.cycle_listed;
    path_edges = on_path;
  }
    where
      passes : (u v : ℕ) → IsStep others u v → IsTrue (has_edge others u v)
      passes u v step = has_edge-IsStep others u v step.0 step.1 step.2 step.3 step.4

      on_path : (k : ℕ) (s : CertStep) → slice_get steps k ≡ Some s → IsTrue (has_edge others s.from s.to) → IsPathIn (λ u v. IsTrue (has_edge others u v)) s.reason
      on_path k s at test =
          let step = IsStep-has_edge others s.from s.to test in
          let same = same_step k step.0 s step.1 at step.2 step.3 step.4 in
          let path = IsPathIn-mono (λ u v. IsStep others u v) (λ u v. IsTrue (has_edge others u v)) passes step.1.reason (other_parts.paths_listed step.0 step.1 step.2) in
          rw same at path

  -- each step of the first list is one of the other list
  steps_among : AreAmong steps others
  steps_among = record {
    found = λ k s at.
        (let step = IsStep-has_edge others s.from s.to (parts.needed k s at (λ u v. has_edge others u v) others_used) in
        let same = same_step k step.0 s step.1 at step.2 step.3 step.4 in
        let found : slice_get others step.0 ≡ Some s = rw same at step.2 in
        (step.0, found));
  }

-- a cycle has one list of steps
steps_unique : (t : TraceValue) → HasOwnValues t → (cycle : List ℕ) (steps others : List CertStep) →
    AreStepsOf t steps cycle → AreStepsOf t others cycle → steps ≡ others
steps_unique t own cycle steps others parts other_parts =
    in_order_unique (Precedes t) (precedes_one_way t) steps others
    (steps_in_order t steps cycle parts) (steps_in_order t others cycle other_parts)
    (steps_among t own cycle steps others parts other_parts) (steps_among t own cycle others steps other_parts parts)

-- A trace has at most one certificate.
pub certificate_unique : (t : TraceValue) → HasOwnValues t → (certificate other : Certificate) →
    IsCertificateOf t certificate → IsCertificateOf t other → certificate ≡ other
certificate_unique t own (Unwritten n) (Unwritten m) left right =
    let same : n ≡ m = omega (arith, left.1 m right.0, right.1 n left.0) in
    cc
certificate_unique t own (Unwritten n) (Cycle steps cycle) left right = absurd (right.0 n left.0)
certificate_unique t own (Cycle steps cycle) (Unwritten m) left right = absurd (left.0 m right.0)
certificate_unique t own (Cycle steps cycle) (Cycle others other_cycle) left right =
    let same_rounds = rounds_unique t left.1.0 right.1.0 left.1.1 right.1.1 in
    let same_cycle = least_cycle_unique (RankSet t left.1.0) cycle other_cycle left.1.2 (rw same_rounds right.1.2) in
    let same_steps = steps_unique t own cycle steps others left.2 (rw same_cycle right.2) in
    cc
