use Rattle.std.proofs.Common.{◌≡◌, ◌∙◌, List, [], ap, get_or, map, subst, sym}
use Rattle.std.specs.Bool.{Decides}
use Rattle.std.specs.Global.{Vec}
use Rattle.std.specs.List.{All}
use Rattle.std.proofs.lemmas.List.{take_all}
use Rattle.std.proofs.lemmas.List.Elements.{All-get_or}
use Rattle.tso_ops.specs.declared.ops.Outcome.{Outcome}
use Rattle.tso_ops.specs.Limits.{IsTrace}
use Rattle.tso_ops.specs.Values.{rows, trace_of_lists}
use Rattle.final_states.specs.declared.states.FinalState.{FinalState}
use Rattle.final_states.specs.FinalStates.{state_of}
use Rattle.outcome_reports.specs.Internal.Counting.{IsLastOf, traces_by}
use Rattle.outcome_reports.specs.Internal.TraceLists.{HasTracesOf}
use Rattle.outcome_reports.proofs.TraceListFacts.{all_traces, lawful_more, no_lawful, no_traces, state_left_out, state_listed}
use Rattle.outcome_reports.proofs.ValueOrder.{true_not_false}
use Rattle.outcome_reports.proofs.different.list_traces.Goals as goal
use Rattle.outcome_reports.proofs.different.list_traces.Goals.{then-not-is_last+in_ok-copy_lists+in_ok-push, else-not-is_last}

pub loop-state-init : goal.loop-state-init
loop-state-init c = record {
  has = λ program are. subst (λ (ts : List (Vec (Vec Outcome))). HasTracesOf program [] (traces_by program.setting ts)) (sym c.new-traces.ensures.items) (no_traces program);
  lawful = λ program all. subst (λ (ts : List (Vec (Vec Outcome))). All IsTrace (traces_by program.setting ts)) (sym c.new-traces.ensures.items) no_lawful;
}

pub loop-state-preserved : goal.loop-state-preserved
loop-state-preserved c =
    let i = c.loop-state.state-index in
    let states = c.args.states.now in
    let d = c.state-item.result in
    let inside = c.loop-state-test.true in
    let before = c.loop-state.invariant in
    let lists = c.deref-in-loop-state.ensures.value ∙ ap (λ (s : FinalState). s.lists.items) c.state-item.is in
    let decided : Decides c.is_last.result (IsLastOf c.loop-state.traces.items (rows (get_or states i d).lists.items)) =
    subst (λ (ls : List (Vec Outcome)). Decides c.is_last.result (IsLastOf c.loop-state.traces.items (rows ls))) lists
    (subst (λ (ts : List (Vec (Vec Outcome))). Decides c.is_last.result (IsLastOf ts (rows c.deref-in-loop-state.result.now))) c.deref.ensures.value c.is_last.ensures) in
    elim c.if-not-is_last.branch [
      | then-not-is_last+in_ok-copy_lists+in_ok-push w ↦
          (let copied : rows w.in_ok-copy_lists.field-0.items ≡ rows (get_or states i d).lists.items =
          w.in_ok-copy_lists.ensures ∙ ap (λ (ls : List (Vec Outcome)). rows ls) (w.deref-then-not-is_last.ensures.value ∙ ap (λ (s : FinalState). s.lists.items) c.state-item.is) in
          let pushed = w.in_ok-push.ensures.items in
          rw w.traces-is
          (record {
            has = λ program are.
                state_listed program states i d inside c.loop-state.traces.items are (before.has program are) w.push.new.self.items w.in_ok-copy_lists.field-0
                (λ last. true_not_false c.is_last.result (decided.1 last) w.if-not-is_last.true) pushed copied;
            lawful = λ program all.
                lawful_more program.setting c.loop-state.traces.items w.push.new.self.items w.in_ok-copy_lists.field-0 (before.lawful program all) pushed
                (subst (λ (ls : List (List Outcome)). IsTrace (trace_of_lists program.setting ls)) (sym copied) (All-get_or (λ (s : FinalState). IsTrace (state_of program s).trace) states i d inside all));
          }))
      | else-not-is_last w ↦
          rw w.traces-is
          (record {
            has = λ program are. state_left_out program states i d inside c.loop-state.traces.items are (before.has program are) (decided.0 w.if-not-is_last.false);
            lawful = λ program all. before.lawful program all;
          })
    ]

pub returns : goal.returns
returns c = record {
  all = λ program are.
      all_traces program (map (state_of program) c.args.states.now) (traces_by program.setting c.loop-state.traces.items) are
      (subst (λ (ss : List FinalState). HasTracesOf program (map (state_of program) ss) (traces_by program.setting c.loop-state.traces.items))
      (take_all c.loop-state.state-index c.args.states.now c.loop-state-test.false) (c.loop-state.invariant.has program are));
  lawful = λ program all. c.loop-state.invariant.lawful program all;
}
