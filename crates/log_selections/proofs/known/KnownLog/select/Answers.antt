use Rattle.std.proofs.Common.{◌≡◌, ◌∙◌, ap, subst, sym, IfSome}
use Rattle.log_text.specs.LogValues.{log_operations}
use Rattle.log_selections.specs.Cuts.{IsCut}
use Rattle.log_selections.specs.Shown.{AreLinesOf, log_of_shown}
use Rattle.log_selections.specs.Selections.{IsSelection}
use Rattle.log_selections.proofs.CutSelections.{cut_selection}
use Rattle.log_selections.proofs.known.KnownLog.select.Goals as goal

pub returns-in-Some-3 : goal.returns-in-Some-3
returns-in-Some-3 c =
    let log = c.args.self.now in
    let shown = c.in-Some-2.shown.items in
    let cut = subst (λ found. IfSome found (IsCut (log_operations log))) c.in-Some.is c.in_ok-trace.ensures in
    let other = subst (λ found. IfSome found (IsCut (log_operations c.in_ok-alone.alone))) c.in-Some-3.is c.in_ok-trace_of.ensures in
    let alone : c.in_ok-alone.alone ≡ log_of_shown log shown = c.in_ok-alone.ensures ∙ c.in_ok-log_of_shown.ensures ∙ ap (log_of_shown log) c.deref.ensures.value in
    let (kept, same) = c.in_ok-is_same.ensures c.if-branch.true in
    record {
      lines = subst (λ found. IfSome found (λ lines. AreLinesOf log.lists lines.items)) c.in-Some-2.is c.in_ok-shown.ensures;
      kept = kept;
      of_log = cut_selection (log_operations log) c.in-Some.trace cut;
      of_lines = subst (λ t. IsSelection (log_operations (log_of_shown log shown)) t) (sym same)
          (cut_selection (log_operations (log_of_shown log shown)) c.in-Some-3.other (subst (λ whole. IsCut (log_operations whole) c.in-Some-3.other) alone other));
    }
