use Rattle.std.proofs.Common.{sym, subst, suc, ◌∷◌, ◌++◌, []}
use Rattle.tso_ops.specs.Events.{IsSwapLoad}
use Rattle.value_evidence.specs.declared.steps.ValueStep.TheVariants.{Read}
use Rattle.value_check.specs.Internal.Known.{IsKnownBy}
use Rattle.value_check.proofs.AnswerFacts.{no_index, not_so}
use Rattle.value_check.proofs.FollowingFacts.{known_sourced, known_untaken}
use Rattle.value_check.proofs.known.Known.note_source.Goals as goal

pub returns-in_default : goal.returns-in_default
returns-in_default c = λ t steps known load. absurd (no_index t c.args.self.now known.tables c.args.load c.in_default.ensures (load.0, load.1))

pub returns-then-is_swap_load : goal.returns-then-is_swap_load
returns-then-is_swap_load c = λ t steps known load.
    let l = c.in-Some.l in
    let first = known_sourced t steps l c.args.source c.args.self.now c.note.new.table c.note.ensures c.in-Some.ensures.1 known in
    let swap = (c.is_swap_load.ensures t known.tables.events).0 c.if-is_swap_load.true in
    subst (λ n. IsKnownBy t (steps ++ Read n c.args.source ∷ []) c.note_taker.new.self) (sym c.in-Some.ensures.0) (c.note_taker.ensures t steps first swap c.in-Some.ensures.1)

pub returns-else-is_swap_load : goal.returns-else-is_swap_load
returns-else-is_swap_load c = λ t steps known load.
    let l = c.in-Some.l in
    let first = known_sourced t steps l c.args.source c.args.self.now c.note.new.table c.note.ensures c.in-Some.ensures.1 known in
    let none = not_so c.is_swap_load.result (IsSwapLoad t (suc l)) (c.is_swap_load.ensures t known.tables.events) c.if-is_swap_load.false in
    subst (λ n. IsKnownBy t (steps ++ Read n c.args.source ∷ []) (record c.args.self.now { sources = c.note.new.table })) (sym c.in-Some.ensures.0)
    (known_untaken t steps l c.args.source (record c.args.self.now { sources = c.note.new.table }) (λ x same swap address. none swap) (λ same swap. none swap) first)
