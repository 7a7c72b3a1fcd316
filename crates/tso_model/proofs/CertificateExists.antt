-- A trace with an unwritten load or a derived cycle has a certificate.
use Rattle.std.proofs.Common.{◌≡◌, ◌⊎◌, inl, inr, ℕ, zero, suc, ◌<◌, ◌≤◌, Bool, IsTrue, List, [], ◌∷◌, Some, slice_get, refl, sym, subst, arith}
use Rattle.std.proofs.lemmas.Bool.{cases_lt}
use Rattle.order_paths.specs.Neighbours.{AreOnCycle}
use Rattle.order_paths.specs.Paths.{IsCycle}
use Rattle.order_paths.proofs.Decisions.{Decision, Decision-both, first_of_some}
use Rattle.order_paths.proofs.LeastExists.{least_cycle_exists}
use Rattle.order_paths.proofs.Neighbours.{IsCycle-on_cycle, on_cycle_closes}
use Rattle.order_paths.proofs.Reach.{IsCycle-mono}
use Rattle.tso_ops.specs.Values.{TraceValue}
use Rattle.tso_ops.specs.Events.{event_total, IsUnwritten}
use Rattle.tso_cert.specs.declared.steps.CertStep.{CertStep}
use Rattle.tso_cert.specs.declared.steps.Certificate.{Certificate}
use Rattle.tso_cert.specs.declared.steps.Certificate.TheVariants.{Unwritten, Cycle}
use Rattle.tso_model.specs.Rules.{HasDerivedCycle}
use Rattle.tso_model.specs.Ranks.{RankSet, HasRank}
use Rattle.tso_model.specs.Certs.{IsStep, IsPathIn, IsJustified, IsListedBefore, AreUsed, AreStepsOf, IsCertificateOf}
use Rattle.tso_model.specs.ReasonEdges.{AreUsedBy}
use Rattle.tso_model.proofs.Bounds.{RankSet-within}
use Rattle.tso_model.proofs.Decided.{RankSet-decided, IsUnwritten-decided, unwritten_decided}
use Rattle.tso_model.proofs.Justifications.{rank_exists, rank_unique, HasRank-decided}
use Rattle.tso_model.proofs.UsedEdges.{IsPathIn-used, used_path, reason_of, reason_of-edge, IsUsed, IsUsed-mono, IsUsed-edge, IsUsed-decided, used_closed}
use Rattle.tso_model.proofs.OrderedLists.{AreInOrder}
use Rattle.tso_model.proofs.Collected.{IsIn, IsIn-at, IsIn-place, EachPrecedes, EachPrecedes-in_order, collected, IsIn-collected, collected-IsIn, EachPrecedes-collected}
use Rattle.tso_model.proofs.CertificateUnique.{Precedes, IsPathIn-mono}
use Rattle.tso_model.proofs.RoundsNumber.{rounds_exist, rounds_tell_cycles}

-- the step of a pair, by the justification of the edge that it is
abbrev step_of : TraceValue → ℕ → ℕ → ℕ → CertStep
step_of t k u v = record { from = u; to = v; reason = reason_of t k u v }

-- the step is that of a used edge of this rank
record IsListed (t : TraceValue) (k : ℕ) (cycle : List ℕ) (rank : ℕ) (s : CertStep) : Type 0 where
  used : IsUsed t k cycle k s.from s.to
  has_rank : HasRank t s.from s.to rank
  reason : s.reason ≡ reason_of t k s.from s.to

module _ (t : TraceValue) (k : ℕ) (cycle : List ℕ) (closed : IsCycle (RankSet t k) cycle) where
  -- the edge is used and has this rank
  abbrev IsPlaced : ℕ → ℕ → ℕ → Type 0
  IsPlaced r u v = IsUsed t k cycle k u v × HasRank t u v r

  -- the step of an edge of this rank, if it is used
  cell_by : (r u v : ℕ) → Decision (IsPlaced r u v) → List CertStep
  cell_by r u v (inl placed) = step_of t k u v ∷ []
  cell_by r u v (inr none) = []

  -- likewise, as it is decided
  cell : ℕ → ℕ → ℕ → List CertStep
  cell r u v = cell_by r u v (Decision-both (IsUsed-decided t k cycle closed k u v) (HasRank-decided t u v r))

  -- the steps of the used edges of this rank from number u
  row : ℕ → ℕ → List CertStep
  row r u = collected (cell r u) (suc (event_total t))

  -- the steps of the used edges of this rank
  layer : ℕ → List CertStep
  layer r = collected (row r) (suc (event_total t))

  -- The steps of all used edges, by rank, then by first number, then by second.
  steps : List CertStep
  steps = collected layer (suc k)

  -- what a cell has is the step of its edge
  in_cell_by : (r u v : ℕ) (decision : Decision (IsPlaced r u v)) (s : CertStep) → IsIn s (cell_by r u v decision) → IsListed t k cycle r s × (s.from ≡ u) × (s.to ≡ v)
  unfolding cell_by
  in_cell_by r u v (inl placed) s (inl same) =
      subst (λ d. IsListed t k cycle r d × (d.from ≡ u) × (d.to ≡ v)) same (record { used = placed.0; has_rank = placed.1; reason = refl }, refl, refl)
  in_cell_by r u v (inl placed) s (inr more) = absurd more
  in_cell_by r u v (inr none) s here = absurd here

  -- what the lists of a pair, of a number and of a rank have are steps of used edges of the rank
  in_cell : (r u v : ℕ) (s : CertStep) → IsIn s (cell r u v) → IsListed t k cycle r s × (s.from ≡ u) × (s.to ≡ v)
  unfolding cell
  in_cell r u v s here = in_cell_by r u v (Decision-both (IsUsed-decided t k cycle closed k u v) (HasRank-decided t u v r)) s here

  in_row : (r u : ℕ) (s : CertStep) → IsIn s (row r u) → IsListed t k cycle r s × (s.from ≡ u)
  unfolding row
  in_row r u s here =
      let at = IsIn-collected (cell r u) (suc (event_total t)) s here in
      let listed = in_cell r u at.0 s at.2 in
      (listed.0, listed.1)

  in_layer : (r : ℕ) (s : CertStep) → IsIn s (layer r) → IsListed t k cycle r s
  unfolding layer
  in_layer r s here = let at = IsIn-collected (row r) (suc (event_total t)) s here in (in_row r at.0 s at.2).0

  -- each step is that of a used edge
  in_steps : (i : ℕ) (s : CertStep) → slice_get steps i ≡ Some s → (r : ℕ) × IsListed t k cycle r s
  unfolding steps
  in_steps i s at = let of_rank = IsIn-collected layer (suc k) s (IsIn-at steps i s at) in (of_rank.0, in_layer of_rank.0 s of_rank.2)

  -- the cell of an edge that is used and has the rank has its step
  cell_by-used : (r u v : ℕ) (decision : Decision (IsPlaced r u v)) → IsPlaced r u v → IsIn (step_of t k u v) (cell_by r u v decision)
  unfolding cell_by
  cell_by-used r u v (inl placed) here = inl refl
  cell_by-used r u v (inr none) here = absurd (none here)

  -- the step of each used edge is among them
  used_step : (u v : ℕ) → IsUsed t k cycle k u v → (i : ℕ) × (slice_get steps i ≡ Some (step_of t k u v))
  unfolding steps layer row cell
  used_step u v used =
      let edge = IsUsed-edge t k cycle closed k u v used in
      let within = RankSet-within t k u v edge in
      let rank = rank_exists t k u v edge in
      let in_the_cell = cell_by-used rank.0 u v (Decision-both (IsUsed-decided t k cycle closed k u v) (HasRank-decided t u v rank.0)) (used, rank.2) in
      let in_the_row = collected-IsIn (cell rank.0 u) (suc (event_total t)) v (step_of t k u v) within.1 in_the_cell in
      let in_the_layer = collected-IsIn (row rank.0) (suc (event_total t)) u (step_of t k u v) within.0 in_the_row in
      IsIn-place steps (step_of t k u v) (collected-IsIn layer (suc k) rank.0 (step_of t k u v) (omega (arith, rank.1)) in_the_layer)

  -- so each used edge is a step
  used_is_step : (u v : ℕ) → IsUsed t k cycle k u v → IsStep steps u v
  used_is_step u v used = let step = used_step u v used in (step.0, step_of t k u v, step.1, refl, refl)

  -- steps of used edges precede each other as their ranks and numbers say
  listed_precede : (r q : ℕ) (s d : CertStep) → IsListed t k cycle r s → IsListed t k cycle q d → IsListedBefore r s q d → Precedes t s d
  listed_precede r q s d first second before = (r, q, first.has_rank, second.has_rank, before)

  -- the steps of a pair, of a number and of a rank are in order
  cell_by-order : (r u v : ℕ) (decision : Decision (IsPlaced r u v)) → EachPrecedes (Precedes t) (cell_by r u v decision)
  unfolding cell_by
  cell_by-order r u v (inl placed) = (λ y none. absurd none, tt)
  cell_by-order r u v (inr none) = tt

  row-order : (r u : ℕ) → EachPrecedes (Precedes t) (row r u)
  unfolding row cell
  row-order r u = EachPrecedes-collected (Precedes t) (cell r u)
      (λ v. cell_by-order r u v (Decision-both (IsUsed-decided t k cycle closed k u v) (HasRank-decided t u v r))) across (suc (event_total t))
    where
      across : (v w : ℕ) (s d : CertStep) → v < w → IsIn s (cell r u v) → IsIn d (cell r u w) → Precedes t s d
      across v w s d less in_s in_d =
          let first = in_cell r u v s in_s in
          let second = in_cell r u w d in_d in
          listed_precede r r s d first.0 second.0 (inr (refl, inr (omega (arith, first.1, second.1), omega (arith, less, first.2, second.2))))

  layer-order : (r : ℕ) → EachPrecedes (Precedes t) (layer r)
  unfolding layer
  layer-order r = EachPrecedes-collected (Precedes t) (row r) (row-order r) across (suc (event_total t))
    where
      across : (u x : ℕ) (s d : CertStep) → u < x → IsIn s (row r u) → IsIn d (row r x) → Precedes t s d
      across u x s d less in_s in_d =
          let first = in_row r u s in_s in
          let second = in_row r x d in_d in
          listed_precede r r s d first.0 second.0 (inr (refl, inl (omega (arith, less, first.1, second.1))))

  -- the steps are in order
  steps-order : AreInOrder (Precedes t) steps
  unfolding steps
  steps-order = EachPrecedes-in_order (Precedes t) steps (EachPrecedes-collected (Precedes t) layer layer-order across (suc k))
    where
      across : (r q : ℕ) (s d : CertStep) → r < q → IsIn s (layer r) → IsIn d (layer q) → Precedes t s d
      across r q s d less in_s in_d = listed_precede r q s d (in_layer r s in_s) (in_layer q d in_d) (inl less)

  -- so a step that stands earlier is listed before a later one by any ranks that they have
  listed_in_order : (i j : ℕ) (s d : CertStep) (r q : ℕ) → i < j → slice_get steps i ≡ Some s → slice_get steps j ≡ Some d →
      HasRank t s.from s.to r → HasRank t d.from d.to q → IsListedBefore r s q d
  listed_in_order i j s d r q less at_s at_d rank_s rank_d =
      let precedes = steps-order.rising i j s d less at_s at_d in
      let same_r = rank_unique t s.from s.to r precedes.0 rank_s precedes.2 in
      let same_q = rank_unique t d.from d.to q precedes.1 rank_d precedes.3 in
      rw (same_r, same_q) precedes.4

  -- each step has the justification of its rank
  steps_justified : (i : ℕ) (s : CertStep) → slice_get steps i ≡ Some s → (r : ℕ) × HasRank t s.from s.to r × IsJustified t r s.from s.to s.reason
  steps_justified i s at =
      let listed = (in_steps i s at).1 in
      let reason = reason_of-edge t k s.from s.to (IsUsed-edge t k cycle closed k s.from s.to listed.used) in
      (reason.rank, reason.has_rank, subst (λ p. IsJustified t reason.rank s.from s.to p) (sym listed.reason) reason.justified)

  -- the path of each step is of steps
  steps_paths : (i : ℕ) (s : CertStep) → slice_get steps i ≡ Some s → IsPathIn (λ x y. IsStep steps x y) s.reason
  steps_paths i s at =
      let listed = (in_steps i s at).1 in
      let path = IsPathIn-mono (AreUsedBy (reason_of t k s.from s.to)) (λ x y. IsStep steps x y)
      (λ u v used. used_is_step u v (used_closed t k cycle closed s.from s.to u v listed.used used))
      (reason_of t k s.from s.to) (used_path (reason_of t k s.from s.to)) in
      subst (λ p. IsPathIn (λ x y. IsStep steps x y) p) (sym listed.reason) path

  -- what is used is in each set that has the cycle's edges and what the justifications of its edges use
  used_needed : (pairs : ℕ → ℕ → Bool) → AreUsed steps cycle pairs → (d : ℕ) → d ≤ k → (u v : ℕ) → IsUsed t k cycle d u v → IsTrue (pairs u v)
  used_needed pairs have zero most u v on = IsCycle-on_cycle (λ x y. IsTrue (pairs x y)) cycle have.cycle_edges u v on
  used_needed pairs have (suc d) most u v (inl used) = used_needed pairs have d (omega arith) u v used
  used_needed pairs have (suc d) most u v (inr by) =
      let step = used_step by.0 by.1 (IsUsed-mono t k cycle d k (omega arith) by.0 by.1 by.2) in
      let path = have.path_edges step.0 (step_of t k by.0 by.1) step.1 (used_needed pairs have d (omega arith) by.0 by.1 by.2) in
      IsPathIn-used (λ x y. IsTrue (pairs x y)) (reason_of t k by.0 by.1) path u v by.3

  -- The steps of all used edges are the steps of the cycle.
  cycle_steps : AreStepsOf t steps cycle
  cycle_steps = record {
    justified = steps_justified;
    in_order = listed_in_order;
    cycle_listed = IsCycle-mono (AreOnCycle cycle) (λ x y. IsStep steps x y) (λ u v on. used_is_step u v (IsUsed-mono t k cycle 0 k (omega arith) u v on))
        cycle (on_cycle_closes (RankSet t k) cycle closed);
    paths_listed = steps_paths;
    needed = λ i s at pairs have. used_needed pairs have k (omega arith) s.from s.to (in_steps i s at).1.used;
  }

-- a trace with an unwritten load has a least one
unwritten_certificate : (t : TraceValue) → (l : ℕ) × IsUnwritten t l → (certificate : Certificate) × IsCertificateOf t certificate
unwritten_certificate t some = (Unwritten first.0, (first.2.0, least))
  where
    first : (n : ℕ) × (n ≤ some.0) × (IsUnwritten t n × ((j : ℕ) → j < n → IsUnwritten t j → ⊥))
    first = first_of_some (λ l. IsUnwritten t l) (IsUnwritten-decided t) some.0 some.1

    least : (other : ℕ) → IsUnwritten t other → first.0 ≤ other
    least other unwritten = elim (cases_lt other first.0) [ inl less ↦ absurd (first.2.1 other less unwritten) | inr most ↦ most ]

-- a trace whose loads are all written and whose derived order has a cycle has a certificate with a cycle
cycle_certificate : (t : TraceValue) → ((l : ℕ) → IsUnwritten t l → ⊥) → HasDerivedCycle t → (certificate : Certificate) × IsCertificateOf t certificate
cycle_certificate t written derived =
    let rounds = rounds_exist t in
    let some = (rounds_tell_cycles t rounds.0 written rounds.1).0 derived in
    let least = least_cycle_exists (RankSet t rounds.0) (suc (event_total t)) (RankSet-decided t rounds.0) (RankSet-within t rounds.0) some in (
      Cycle (steps t rounds.0 least.0 least.1.0) least.0,
      (written, (rounds.0, rounds.1, least.1), cycle_steps t rounds.0 least.0 least.1.0),
    )

-- A trace with an unwritten load or a derived cycle has a certificate.
pub certificate_exists : (t : TraceValue) → ((l : ℕ) × IsUnwritten t l) ⊎ HasDerivedCycle t → (certificate : Certificate) × IsCertificateOf t certificate
certificate_exists t (inl unwritten) = unwritten_certificate t unwritten
certificate_exists t (inr derived) = elim (unwritten_decided t) [
  | inl unwritten ↦ unwritten_certificate t unwritten
  | inr none ↦ cycle_certificate t (λ l unwritten. none (l, unwritten)) derived
]
