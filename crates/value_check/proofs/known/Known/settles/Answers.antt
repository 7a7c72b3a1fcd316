use Rattle.std.proofs.Common.{refl, suc, ◌+◌, arith, ℕ, inl, inr, ◌≢◌}
use Rattle.std.specs.List.{Contains}
use Rattle.value_evidence.specs.Candidates.{known as gone_known}
use Rattle.value_evidence.specs.declared.steps.ValueStep.TheVariants.{Read}
use Rattle.value_check.specs.Internal.Known.{IsTaken}
use Rattle.value_check.specs.Internal.Settling.{SettlesAfter, SettlesBefore}
use Rattle.value_check.proofs.AnswerFacts.{not_so}
use Rattle.value_check.proofs.CellFacts.{index_below}
use Rattle.value_check.proofs.SettlingFacts.{asked_meets, settled_after, settled_before, settled_rest, taken_gone}
use Rattle.value_check.proofs.known.Known.settles.Goals as goal

pub returns-then-settles_before : goal.returns-then-settles_before
returns-then-settles_before c = λ t steps known seen source. (
  λ is. settled_before t steps c.args.question.now c.args.store ((c.settles_before.ensures t steps known seen).0 c.if-settles_before.true) (suc c.args.store) (inl refl),
  λ settled. refl,
)

pub returns-then-settles_after : goal.returns-then-settles_after
returns-then-settles_after c = λ t steps known seen source. (
  λ is. settled_after t steps c.args.question.now c.args.store ((c.settles_after.ensures t steps known).0 c.if-settles_after.true) (suc c.args.store) (inl refl),
  λ settled. refl,
)

pub returns-then-is_taken : goal.returns-then-is_taken
returns-then-is_taken c = λ t steps known seen source. (
  λ is. inl (taken_gone t steps (suc c.args.question.now.load) (suc c.args.store) ((c.is_taken.ensures t steps known source.2).0 c.if-is_taken.true)),
  λ settled. refl,
)

pub returns-then-read_another : goal.returns-then-read_another
returns-then-read_another c = λ t steps known seen source. (
  λ is.
      let below = index_below t c.args.self.now known.tables c.args.question.now.load (source.0.0, source.0.1) in
      let other = (c.read_another.ensures t steps known below).0 c.if-read_another.true in
      inl (gone_known other.0 other.1 (λ same. other.2 (omega (arith, same)))),
  λ settled. refl,
)

pub returns : goal.returns
returns c = λ t steps known seen source.
    let q = c.args.question.now in
    let x = c.args.store in
    let below = index_below t c.args.self.now known.tables q.load (source.0.0, source.0.1) in (
      λ is. inr (asked_meets t steps q x q.wanted ((c.is_asked.ensures t steps known).0 is)),
      λ settled. (c.is_asked.ensures t steps known).1
          (settled_rest t steps q x
          (not_so c.settles_before.result (SettlesBefore t steps q x) (c.settles_before.ensures t steps known seen) c.if-settles_before.false)
          (not_so c.settles_after.result (SettlesAfter t steps q x) (c.settles_after.ensures t steps known) c.if-settles_after.false)
          (not_so c.is_taken.result (IsTaken t steps (suc q.load) (suc x)) (c.is_taken.ensures t steps known source.2) c.if-is_taken.false)
          (λ (s, said, other).
          not_so c.read_another.result ((n : ℕ) × Contains steps (Read (suc q.load) n) × (n ≢ x + 1)) (c.read_another.ensures t steps known below) c.if-read_another.false
          (s, said, λ same. other (omega (arith, same))))
          settled),
    )
