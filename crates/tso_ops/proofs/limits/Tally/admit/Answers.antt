use Rattle.std.proofs.Common.{arith, nat_lt, ◌≡◌, ℕ, ◌+◌, ap, sym, refl, false, ◌∙◌}
use Rattle.std.proofs.lemmas.Grind.{common_steps}
use Rattle.std.specs.Option.{option_map_or}
use Rattle.tso_ops.specs.Limits.{address_of, stored_by}
use Rattle.tso_ops.proofs.TallyFacts.{Admitted-push, StoresNew, StoresNew-Some, StoresNew-None}
use Rattle.tso_ops.proofs.limits.Tally.admit.Goals as goal
use Rattle.tso_ops.proofs.limits.Tally.admit.Goals.{in-Some+else-value-eq0+in_ok-insert+else-not-branch, in_default}

pub returns-clause-admitted : goal.returns-clause-admitted
returns-clause-admitted c setting ops was =
    let in_range : option_map_or (nat_lt 255) (address_of c.args.op) false ≡ false = grind (arith, common_steps) in
    let stores : StoresNew c.args.self.now.stored c.match-stored.self.1.1.1.1.1.0 (stored_by c.args.op) =
    elim c.match-stored.branch [
      | in-Some+else-value-eq0+in_ok-insert+else-not-branch w ↦
          rw (ap (λ s. s.1.1.1.1.1.0) w.self-is)
          (StoresNew-Some _ _ _ w.in-Some.value _ (sym w.in-Some.ensures) w.in_ok-insert.ensures.updates w.if-value-eq0.false w.in_ok-insert.ensures.added w.if-not-branch.false (omega arith))
      | in_default w ↦ rw (ap (λ s. s.1.1.1.1.1.0) w.self-is) (StoresNew-None _ _ (sym w.in_default.ensures))
    ] in
    Admitted-push setting _ _ ops c.args.op was refl refl (ap (λ (n : ℕ). c.args.self.now.events + n) c.events.ensures) (ap (λ (n : ℕ). c.args.self.now.barriers + n) c.barriers.ensures) in_range (sym c.refuses.ensures ∙ c.if-refuses.false) stores
