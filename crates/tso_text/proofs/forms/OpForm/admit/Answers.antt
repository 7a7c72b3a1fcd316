use Rattle.tso_ops.specs.Limits.{has_fault}
use Rattle.tso_ops.specs.Settings.{setting_of}
use Rattle.tso_text.specs.Internal.Grammars.{program_op_fault}
use Rattle.tso_text.proofs.FaultFacts.{no_fault, op_refused_for, at_last, not_stbar}
use Rattle.tso_text.proofs.OneTextFacts.{op_no_stbar}
use Rattle.tso_text.proofs.forms.OpForm.admit.Goals as goal

pub why_of-requires : goal.why_of-requires
why_of-requires c =
    let setting = setting_of c.args._setting.now in
    let kept = c.requires.kept in
    not_stbar setting kept.0 c.args.self c.in-Err.fault (op_no_stbar setting c.args.self c.requires.said) (c.in-Err.ensures.refused setting kept.0 kept.1)

pub returns-in-Err-clause-refused : goal.returns-in-Err-clause-refused
unfolding program_op_fault
returns-in-Err-clause-refused c items kept =
    let setting = setting_of c.args._setting.now in
    op_refused_for setting items c.args.self c.in-Err.fault c.why_of.result c.why_of.ensures (c.in-Err.ensures.refused setting items kept)

pub returns-in-Ok-clause-clean : goal.returns-in-Ok-clause-clean
unfolding program_op_fault
returns-in-Ok-clause-clean c items kept =
    let setting = setting_of c.args._setting.now in no_fault (has_fault setting items c.args.self) (at_last setting items c.args.self (c.in-Ok.ensures.admitted setting items kept).faultless)

pub returns-in-Ok-clause-admitted : goal.returns-in-Ok-clause-admitted
returns-in-Ok-clause-admitted c items kept = c.in-Ok.ensures.admitted (setting_of c.args._setting.now) items kept
