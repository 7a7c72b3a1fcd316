use Rattle.std.proofs.Common.{◌≡◌, ◌∙◌, ap}
use Rattle.tso_ops.specs.Settings.{setting_of}
use Rattle.tso_ops.specs.Values.{rows, program_of_lists}
use Rattle.tso_ops.proofs.CheckFacts.{rows-next, rows-all}
use Rattle.tso_ops.proofs.programs.Program.copy.Goals as goal

pub loop-list-init : goal.loop-list-init
loop-list-init c = ap rows c.new-lists.ensures.items

pub loop-list-preserved : goal.loop-list-preserved
loop-list-preserved c =
    rows-next c.loop-list.lists.items _ c.in_ok-from_slice.field-0 c.deref-list-items.result.now c.loop-list.list-index c.list-item.result c.loop-list-test.true c.list-item.is
    c.loop-list.invariant (c.in_ok-from_slice.ensures.items ∙ c.deref.ensures.value) c.in_ok-push.ensures.items

pub invariant_of-result : goal.invariant_of-result
invariant_of-result c =
    let whole : rows c.loop-list.lists.items ≡ rows c.self.inside.lists.items =
    rows-all c.loop-list.lists.items c.deref-list-items.result.now c.loop-list.list-index c.loop-list-test.false c.loop-list.invariant
    ∙ ap rows c.deref-list-items.ensures.value in
    rw (whole, c.in_ok-setting.ensures) c.self.invariant

pub returns : goal.returns
returns c =
    rw c.in_ok-setting.ensures (ap (program_of_lists (setting_of c.self.inside.setting))
    (rows-all c.loop-list.lists.items c.deref-list-items.result.now c.loop-list.list-index c.loop-list-test.false c.loop-list.invariant
    ∙ ap rows c.deref-list-items.ensures.value) ∙ c.self.view_is)
