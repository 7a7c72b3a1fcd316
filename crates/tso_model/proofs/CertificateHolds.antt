-- A certificate that holds leaves no order, and the certificate of a trace holds.
use Rattle.std.proofs.Common.{◌≡◌, inl, inr, ⊎_elim, ℕ, zero, suc, ◌<◌, ◌≤◌, List, ◌∷◌, Some, take, slice_get, arith}
use Rattle.std.proofs.lemmas.Bool.{cases_lt, cases_order}
use Rattle.tso_ops.specs.Values.{TraceValue}
use Rattle.tso_cert.specs.declared.steps.Reason.{Reason}
use Rattle.tso_cert.specs.declared.steps.Reason.TheVariants.{Base, Inferred}
use Rattle.tso_cert.specs.declared.steps.CertStep.{CertStep}
use Rattle.tso_cert.specs.declared.steps.Certificate.{Certificate}
use Rattle.tso_cert.specs.declared.steps.Certificate.TheVariants.{Unwritten, Cycle}
use Rattle.order_paths.proofs.Reach.{Linked-both, Linked-mono}
use Rattle.order_paths.proofs.RisingNumbers.{Rises, rises_on_path, rises_without_cycle}
use Rattle.tso_model.specs.Axioms.{place, IsBefore, IsModelOrder, IsConsistent}
use Rattle.tso_model.specs.Ranks.{RankSet, HasRank}
use Rattle.tso_model.specs.Certs.{IsStep, MeetsRule, IsPathIn, StepsHold, Holds, IsJustified, IsListedBefore, AreStepsOf, IsCertificateOf}
use Rattle.tso_ops.proofs.NumberFacts.{HasOwnValues}
use Rattle.tso_model.proofs.Places.{before_of_same}
use Rattle.tso_model.proofs.EdgesForward.{base_before, inferred_before, all_written}
use Rattle.tso_model.proofs.OrderedLists.{slice_get-take, slice_get-take_below}

module _ (t : TraceValue) (own : HasOwnValues t) (order : List ℕ) (axioms : IsModelOrder t order) where
  -- an edge that meets its rule, by a path of edges that lead forwards, leads forwards
  reason_before : (u v : ℕ) (reason : Reason) (Edge : ℕ → ℕ → Type 0) → Rises Edge (place (0 ∷ order)) →
      MeetsRule t u v reason → IsPathIn Edge reason → IsBefore order u v
  reason_before u v (Base rule) Edge rises meets path = base_before t own order axioms rule u v meets
  reason_before u v (Inferred rule load path) Edge rises meets linked =
      inferred_before t own order axioms rule load u v meets.0 meets.1 meets.2
      (rises_on_path Edge (place (0 ∷ order)) rises meets.0 meets.1 (path, (meets.3, linked)))

  -- each step below n leads forwards
  steps_before : (steps : List CertStep) → StepsHold t steps →
      (n k : ℕ) (s : CertStep) → k < n → slice_get steps k ≡ Some s → IsBefore order s.from s.to
  steps_before steps hold zero k s below at = absurd (omega arith)
  steps_before steps hold (suc n) k s below at =
      let holds = hold k s at in
      let earlier : (u v : ℕ) → IsStep (take k steps) u v → IsBefore order u v = λ u v step.
      (let taken = slice_get-take k steps step.0 step.1 step.2 in
      let before = steps_before steps hold n step.0 step.1 (omega (arith, taken.0)) taken.1 in
      before_of_same order step.1.from step.1.to u v step.3 step.4 before) in
      reason_before s.from s.to s.reason (λ x y. IsStep (take k steps) x y) (record { on_edge = earlier }) holds.0 holds.1

  -- each step leads forwards
  pub step_before : (steps : List CertStep) → StepsHold t steps → (u v : ℕ) → IsStep steps u v → IsBefore order u v
  step_before steps hold u v step =
      let before = steps_before steps hold (suc step.0) step.0 step.1 (omega arith) step.2 in
      before_of_same order step.1.from step.1.to u v step.3 step.4 before

  -- no certificate holds
  pub nothing_holds : (certificate : Certificate) → Holds t certificate → ⊥
  nothing_holds (Unwritten n) holds = all_written t order axioms n holds
  nothing_holds (Cycle steps cycle) holds =
      rises_without_cycle (λ x y. IsStep steps x y) (place (0 ∷ order))
      (record { on_edge = step_before steps holds.0 }) cycle holds.1

-- a trace with a certificate that holds has no order
pub not_consistent : (t : TraceValue) → HasOwnValues t → (certificate : Certificate) → Holds t certificate → IsConsistent t → ⊥
not_consistent t own certificate holds consistent = nothing_holds t own consistent.0 consistent.1 certificate holds

-- a justified edge meets its rule
justified_meets : (t : TraceValue) (r u v : ℕ) (reason : Reason) → IsJustified t r u v reason → MeetsRule t u v reason
justified_meets t zero u v (Base rule) just = just.0
justified_meets t zero u v (Inferred rule load path) just = absurd just
justified_meets t (suc r) u v (Base rule) just = absurd just
justified_meets t (suc r) u v (Inferred rule load path) just =
    let given = just.0 in
    (given.0, given.1, given.2, given.3.0.0)

-- The path of a justified edge of rank r is made of edges of lesser ranks.
path_of_lesser_ranks : (t : TraceValue) (r u v : ℕ) (reason : Reason) (Edge Other : ℕ → ℕ → Type 0) → IsJustified t r u v reason →
    ((j x y : ℕ) → j < r → RankSet t j x y → Edge x y → Other x y) → IsPathIn Edge reason → IsPathIn Other reason
path_of_lesser_ranks t zero u v (Base rule) Edge Other just lesser path = tt
path_of_lesser_ranks t zero u v (Inferred rule load path) Edge Other just lesser linked = absurd just
path_of_lesser_ranks t (suc r) u v (Base rule) Edge Other just lesser path = absurd just
path_of_lesser_ranks t (suc r) u v (Inferred rule load path) Edge Other just lesser linked =
    Linked-mono (λ x y. RankSet t r x y × Edge x y) Other (λ x y both. lesser r x y (omega arith) both.0 both.1) path
    (Linked-both (RankSet t r) Edge path just.0.3.0.1 linked)

module _ (t : TraceValue) (steps : List CertStep) (cycle : List ℕ) (parts : AreStepsOf t steps cycle) where
  -- a step of lesser rank stands earlier
  lesser_rank_earlier : (k i : ℕ) (s d : CertStep) (r q : ℕ) → slice_get steps k ≡ Some s → slice_get steps i ≡ Some d →
      HasRank t s.from s.to r → HasRank t d.from d.to q → q < r → i < k
  lesser_rank_earlier k i s d r q at at_d rank rank_d less =
      ⊎_elim (λ same. absurd (same_place same)) (λ apart. ⊎_elim (λ earlier. earlier) (λ later. absurd (listed_later later)) apart) (cases_order i k)
    where
      same_place : i ≡ k → ⊥
      same_place same =
          let one : s ≡ d = cc in
          rank.1 q less (rw one rank_d.0)

      out_of_order : IsListedBefore r s q d → ⊥
      out_of_order (inl more) = omega arith
      out_of_order (inr equal) = omega (arith, equal.0)

      listed_later : k < i → ⊥
      listed_later later = out_of_order (parts.in_order k i s d r q later at at_d rank rank_d)

  -- a step for an edge of lesser rank is an earlier step
  lesser_edge_earlier : (k : ℕ) (s : CertStep) (r : ℕ) → slice_get steps k ≡ Some s → HasRank t s.from s.to r →
      (j x y : ℕ) → j < r → RankSet t j x y → IsStep steps x y → IsStep (take k steps) x y
  lesser_edge_earlier k s r at rank j x y below edge step =
      let d = step.1 in
      let justified = parts.justified step.0 d step.2 in
      let q = justified.0 in
      let rank_d : HasRank t d.from d.to q = justified.1 in
      let same_edge : RankSet t j d.from d.to = rw (step.3, step.4) edge in
      let at_most : q ≤ j = ⊎_elim (λ above. absurd (rank_d.1 j above same_edge)) (λ most. most) (cases_lt j q) in
      let earlier = lesser_rank_earlier k step.0 s d r q at step.2 rank rank_d (omega arith) in
      (step.0, d, slice_get-take_below k steps step.0 d earlier step.2, step.3, step.4)

  -- the steps of a trace's certificate hold
  pub steps_hold : StepsHold t steps
  steps_hold k s at =
      let justified = parts.justified k s at in (
        justified_meets t justified.0 s.from s.to s.reason justified.2,
        path_of_lesser_ranks t justified.0 s.from s.to s.reason (λ x y. IsStep steps x y) (λ x y. IsStep (take k steps) x y) justified.2
            (lesser_edge_earlier k s justified.0 at justified.1) (parts.paths_listed k s at),
      )

-- The certificate of a trace holds.
pub certificate_holds : (t : TraceValue) (certificate : Certificate) → IsCertificateOf t certificate → Holds t certificate
certificate_holds t (Unwritten n) of_trace = of_trace.0
certificate_holds t (Cycle steps cycle) of_trace = (steps_hold t steps cycle of_trace.2, of_trace.2.cycle_listed)
