use Rattle.std.proofs.Common.{refl}
use Rattle.log_text.proofs.ReadingFacts.{operation_adds}
use Rattle.log_text.proofs.readings.Reading.take_operation.Goals as goal

pub returns : goal.returns
returns c =
    operation_adds c.args.self.now c.take_step.new.self _ _ c.args.p c.args.number c.args.x c.take_step.ensures refl refl refl refl refl refl c.in_ok-grow.ensures.count c.in_ok-grow.ensures.same c.in_ok-push_at.ensures
