use Rattle.std.proofs.Common.{refl, subst}
use Rattle.tso_ops.specs.Settings.{setting_of}
use Rattle.tso_ops.proofs.EntryFacts.{HasValues}
use Rattle.tso_ops.proofs.TallyFacts.{Admitted-nil}
use Rattle.tso_ops.proofs.limits.Tally.of_setting.Goals as goal

pub returns : goal.returns
returns c =
    Admitted-nil (setting_of c.args.setting.now) _ refl refl refl refl (subst (HasValues c.in_ok-first_values.field-0) c.deref.ensures.value c.in_ok-first_values.ensures)
