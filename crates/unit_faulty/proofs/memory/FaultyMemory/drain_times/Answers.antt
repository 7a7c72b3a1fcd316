use Rattle.std.proofs.Common.{◌∙◌, sym, ap, ◌≤◌, ◌+◌, subst, arith}
use Rattle.unit_faulty.specs.Faulty.{drain_once}
use Rattle.unit_faulty.proofs.DrainFacts.{drain_once-most, drain_times-more}
use Rattle.unit_faulty.proofs.memory.FaultyMemory.drain_times.Goals as goal

pub loop-done-preserved : goal.loop-done-preserved
loop-done-preserved c =
    let old = c.loop-done.invariant in
    let p = c.args.p in
    let most : c.drain_once.new.self.occasions ≤ c.loop-done.self.occasions + 1 =
    subst (λ s. s.occasions ≤ c.loop-done.self.occasions + 1) (sym c.drain_once.ensures) (drain_once-most c.loop-done.self p) in
    record {
      left = c.drain_once.ensures ∙ ap (λ s. drain_once s p) old.left ∙ sym (drain_times-more c.loop-done._done c.args.self.now p);
      count = omega arith;
    }
