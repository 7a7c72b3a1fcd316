use Rattle.std.proofs.Common.{sym, ◌∙◌, refl}
use Rattle.line_text.specs.Lines.{tokens_of}
use Rattle.tso_ops.specs.Settings.{setting_of}
use Rattle.tso_text.proofs.readings.Reading.accept_line.Goals as goal

pub accept-requires-clause-said : goal.accept-requires-clause-said
accept-requires-clause-said g c = (tokens_of c.args.line.now, sym (c.said_by.ensures (setting_of c.args.setting.now) refl) ∙ c.in_ok-said.was)
