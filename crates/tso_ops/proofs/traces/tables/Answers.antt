use Rattle.std.proofs.Common.{◌∙◌, sym, subst}
use Rattle.tso_ops.specs.Settings.{setting_of}
use Rattle.tso_ops.specs.Values.{rows, trace_of_lists}
use Rattle.tso_ops.specs.Events.{events_of}
use Rattle.tso_ops.specs.Internal.Tables.{AreSources}
use Rattle.tso_ops.proofs.traces.tables.Goals as goal

pub returns : goal.returns
unfolding events_of
returns c trace =
    let t = trace_of_lists (setting_of c.args.setting.now) (rows c.args.lists.now) in
    let sources_are = c.in_ok-sources.ensures t trace (sym c.deref.ensures.value) (sym (c.deref-2.ensures.value ∙ c.in_ok-events.ensures)) in
    record {
      trace = trace;
      events_are = c.in_ok-events.ensures;
      masks_are = c.in_ok-masks.ensures t trace (sym (c.deref-3.ensures.value ∙ c.in_ok-events.ensures)) (subst (AreSources t) (sym c.deref-4.ensures.value) sources_are);
      sources_are = sources_are;
    }
