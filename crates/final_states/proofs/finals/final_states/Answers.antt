use Rattle.std.proofs.Common.{◌∙◌, sym, ap, subst, All, List, ℕ, Vec, map}
use Rattle.std.proofs.lemmas.Result.{err_from_is_err_and}
use Rattle.tso_ops.specs.Values.{rows}
use Rattle.final_states.specs.FinalStates.{state_of}
use Rattle.final_states.specs.Internal.Plans.{HaveWidth}
use Rattle.final_states.specs.Internal.Words.{state_with}
use Rattle.final_states.proofs.Counting.{reaches-at-most, reaches-more}
use Rattle.final_states.proofs.FinalStateFacts.{are-final-states, are-sorted, are-traces, found-widths, sorted-widths}
use Rattle.final_states.proofs.finals.final_states.Goals as goal

pub returns-in_err-reached-clause-refused : goal.returns-in_err-reached-clause-refused
returns-in_err-reached-clause-refused c =
    let p = err_from_is_err_and c.from_residual-in_err-reached.result c.from_residual-in_err-reached.ensures.1 in
    let plan = c.in_ok-plan.ensures in
    rw (p.1, p.2) (λ many.
    let past = c.in_err-reached.ensures.refused many in
    reaches-more c.args.program.now c.in_ok-plan.plan.addresses.items c.args.limit past.0 plan.program_limits plan.places past.1.sound past.1.once past.1.many)

pub final_words-requires-clause-width : goal.final_words-requires-clause-width
final_words-requires-clause-width c = found-widths c.args.program.now c.in_ok-plan.plan c.args.limit c.in_ok-reached.reached.keys c.in_ok-reached.ensures.found

pub states_of-requires-clause-width : goal.states_of-requires-clause-width
states_of-requires-clause-width c =
    let found = rows c.in_ok-reached.reached.keys in
    let searched = c.in_ok-reached.ensures.found in
    let sorted = are-sorted c.args.program.now found c.in_ok-finals.finals.items c.sort.new.self.items searched.different c.in_ok-finals.ensures c.sort.ensures.permutation c.in_ok-sort.ensures.sorted in
    subst (λ (vs : List (Vec ℕ _)). All (λ v. HaveWidth c.args.program.now c.in_ok-plan.plan v.items) vs) (sym c.deref.ensures.value)
    (sorted-widths c.args.program.now c.in_ok-plan.plan c.args.limit found c.sort.new.self.items searched sorted)

pub returns-in_err-states_of-clause-refused : goal.returns-in_err-states_of-clause-refused
returns-in_err-states_of-clause-refused c =
    let p = err_from_is_err_and c.from_residual-in_err-states_of.result c.from_residual-in_err-states_of.ensures.1 in
    rw (p.1, p.2) (λ many. absurd cc)

pub returns-clause-found : goal.returns-clause-found
returns-clause-found c =
    let found = rows c.in_ok-reached.reached.keys in
    let searched = c.in_ok-reached.ensures.found in
    let sorted = are-sorted c.args.program.now found c.in_ok-finals.finals.items c.sort.new.self.items searched.different c.in_ok-finals.ensures c.sort.ensures.permutation c.in_ok-sort.ensures.sorted in
    are-final-states c.args.program.now c.in_ok-plan.plan c.args.limit found (rows c.sort.new.self.items) (map (state_of c.args.program.now) c.in_ok-states_of.field-0.items) c.in_ok-plan.ensures searched sorted
    (c.in_ok-states_of.ensures.states ∙ ap (λ vs. map (state_with c.args.program.now c.in_ok-plan.plan.addresses.items) (rows vs)) c.deref.ensures.value)

pub returns-clause-traces : goal.returns-clause-traces
returns-clause-traces c =
    let found = rows c.in_ok-reached.reached.keys in
    let searched = c.in_ok-reached.ensures.found in
    let sorted = are-sorted c.args.program.now found c.in_ok-finals.finals.items c.sort.new.self.items searched.different c.in_ok-finals.ensures c.sort.ensures.permutation c.in_ok-sort.ensures.sorted in
    are-traces c.args.program.now c.in_ok-plan.plan c.args.limit found (rows c.sort.new.self.items) c.in_ok-states_of.field-0.items c.in_ok-plan.ensures searched sorted
    (c.in_ok-states_of.ensures.states ∙ ap (λ vs. map (state_with c.args.program.now c.in_ok-plan.plan.addresses.items) (rows vs)) c.deref.ensures.value) c.in_ok-states_of.ensures.reads

pub returns-clause-few : goal.returns-clause-few
returns-clause-few c =
    reaches-at-most c.args.program.now c.in_ok-plan.plan.addresses.items c.args.limit (rows c.in_ok-reached.reached.keys) c.in_ok-plan.ensures.places c.in_ok-reached.ensures.found
