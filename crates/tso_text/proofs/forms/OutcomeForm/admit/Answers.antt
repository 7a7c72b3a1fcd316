use Rattle.std.proofs.Common.{map, ◌++◌, ◌∷◌, [], subst}
use Rattle.std.proofs.lemmas.List.{map-append}
use Rattle.std.proofs.lemmas.List.Elements.{All-push}
use Rattle.tso_ops.specs.Limits.{has_fault}
use Rattle.tso_ops.specs.Settings.{setting_of}
use Rattle.tso_ops.specs.Tally.{Admitted}
use Rattle.tso_ops.specs.Values.{op_of, ReadFits}
use Rattle.tso_text.specs.Internal.Grammars.{outcome_fault}
use Rattle.tso_text.proofs.FaultFacts.{no_fault, op_refused_for, at_last, not_stbar}
use Rattle.tso_text.proofs.OneTextFacts.{outcome_no_stbar, outcome_read_fits}
use Rattle.tso_text.proofs.forms.OutcomeForm.admit.Goals as goal

pub why_of-requires : goal.why_of-requires
why_of-requires c =
    let setting = setting_of c.args._setting.now in
    let kept = c.requires.kept in
    not_stbar setting (map op_of kept.0) c.op.result c.in-Err.fault (rw c.op.ensures (outcome_no_stbar setting c.args.self c.requires.said)) (c.in-Err.ensures.refused setting (map op_of kept.0) kept.1.0)

pub returns-in-Err-clause-refused : goal.returns-in-Err-clause-refused
unfolding outcome_fault
returns-in-Err-clause-refused c items kept =
    let setting = setting_of c.args._setting.now in
    op_refused_for setting (map op_of items) (op_of c.args.self) c.in-Err.fault c.why_of.result c.why_of.ensures (rw c.op.ensures at (c.in-Err.ensures.refused setting (map op_of items) kept.0))

pub returns-in-Ok-clause-clean : goal.returns-in-Ok-clause-clean
unfolding outcome_fault
returns-in-Ok-clause-clean c items kept =
    let setting = setting_of c.args._setting.now in
    let faultless = (c.in-Ok.ensures.admitted setting (map op_of items) kept.0).faultless in
    no_fault (has_fault setting (map op_of items) (op_of c.args.self)) (at_last setting (map op_of items) (op_of c.args.self) (rw c.op.ensures at faultless))

pub returns-in-Ok-clause-admitted : goal.returns-in-Ok-clause-admitted
returns-in-Ok-clause-admitted c items kept =
    let setting = setting_of c.args._setting.now in (
      rw (map-append op_of items (c.args.self ∷ []))
          (subst (λ op. Admitted setting c.admit.new.self (map op_of items ++ op ∷ [])) c.op.ensures (c.in-Ok.ensures.admitted setting (map op_of items) kept.0)),
      All-push ReadFits items c.args.self kept.1 (outcome_read_fits setting c.args.self c.requires.said),
    )
