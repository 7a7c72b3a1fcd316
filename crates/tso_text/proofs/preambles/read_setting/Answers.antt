use Rattle.std.proofs.Common.{◌≡◌, ◌∙◌, subst, arith}
use Rattle.tso_ops.specs.declared.settings.Version.TheVariants.{One, Two}
use Rattle.tso_text.specs.declared.faults.Why.TheVariants.{OutOfMemory}
use Rattle.tso_text.specs.Internal.Begun.{HasHeader}
use Rattle.tso_text.proofs.PreambleFacts.{begun_one, begun_two, header_refused, model_answered, entry_answered}
use Rattle.tso_text.proofs.preambles.read_setting.Goals as goal

pub returns-in-Err-clause-refused : goal.returns-in-Err-clause-refused
returns-in-Err-clause-refused c other =
    let fault = c.fault_of in
    let none = c.in-Err.ensures.none in
    let line : fault.result.line ≡ 1 = fault.ensures.line (λ memory. other (fault.ensures.why ∙ memory)) in
    rw (line, fault.ensures.why, none.0) (header_refused c.args.one.now c.args.two.now c.args.text.now none.1)

pub returns-in-Err-read_model-clause-refused : goal.returns-in-Err-read_model-clause-refused
returns-in-Err-read_model-clause-refused c other =
    let fault = c.fault_of-in-Err-read_model in
    let not_memory : c.in-Err-read_model.why ≡ OutOfMemory → ⊥ = λ memory. other (fault.ensures.why ∙ memory) in
    let line : fault.result.line ≡ 2 = fault.ensures.line not_memory in
    rw (line, fault.ensures.why) (model_answered c.args.one.now c.args.two.now c.args.text.now _ _ c.in-Err-read_model.why c.in-Ok.ensures.found c.in-Err-read_model.ensures.refused not_memory)

pub returns-in-One-clause-begun : goal.returns-in-One-clause-begun
returns-in-One-clause-begun c =
    let header : HasHeader c.args.one.now c.args.two.now c.args.text.now One c.in-Ok.found.1.now = subst (λ v. HasHeader c.args.one.now c.args.two.now c.args.text.now v c.in-Ok.found.1.now) c.in-One.is c.in-Ok.ensures.found in
    rw (c.in-One.is, c.new.ensures.items) (begun_one c.args.one.now c.args.two.now c.args.text.now _ _ _ _ header c.in-Ok-read_model.ensures.found)

pub returns-in-Ok-read_entries-clause-begun : goal.returns-in-Ok-read_entries-clause-begun
returns-in-Ok-read_entries-clause-begun c =
    let header : HasHeader c.args.one.now c.args.two.now c.args.text.now Two c.in-Ok.found.1.now = subst (λ v. HasHeader c.args.one.now c.args.two.now c.args.text.now v c.in-Ok.found.1.now) c.in-Two.is c.in-Ok.ensures.found in
    let kept = c.in-Ok-read_entries.ensures.setting in
    rw (kept.0 ∙ c.in-Two.is, kept.1)
    (begun_two c.args.one.now c.args.two.now c.args.text.now _ _ _ _ _ _ _ header c.in-Ok-read_model.ensures.found c.in-Ok-read_entries.ensures.read c.in-Ok-read_entries.ensures.kept)

pub overflow_add-lines-in-Err-read_entries : goal.overflow_add-lines-in-Err-read_entries
overflow_add-lines-in-Err-read_entries c =
    omega (arith, c.in-Err-read_entries.ensures.refused.room, c.in-Ok-read_model.ensures.found.room, c.in-Ok.ensures.found.shorter, c.requires)

pub returns-clause-refused : goal.returns-clause-refused
returns-clause-refused c other =
    let fault = c.fault_of-in-Err-read_entries in
    let not_memory : c.in-Err-read_entries.fault.why ≡ OutOfMemory → ⊥ = λ memory. other (fault.ensures.why ∙ memory) in
    let header : HasHeader c.args.one.now c.args.two.now c.args.text.now Two c.in-Ok.found.1.now = subst (λ v. HasHeader c.args.one.now c.args.two.now c.args.text.now v c.in-Ok.found.1.now) c.in-Two.is c.in-Ok.ensures.found in
    rw (fault.ensures.line not_memory, fault.ensures.why)
    (entry_answered c.args.one.now c.args.two.now c.args.text.now _ _ _ _ _ _ header c.in-Ok-read_model.ensures.found c.in-Err-read_entries.ensures.refused not_memory)
