use Rattle.tso_ops.specs.Settings.{setting_of}
use Rattle.tso_text.proofs.PrintFacts.{setting_text-parts}
use Rattle.tso_text.proofs.printers.print_setting.Goals as goal

pub returns : goal.returns
returns c = setting_text-parts (setting_of c.args.setting.now) c.print_entries.result _ _ _ _ c.deref.ensures.value c.in_ok-print_model.ensures c.print_entries.ensures
