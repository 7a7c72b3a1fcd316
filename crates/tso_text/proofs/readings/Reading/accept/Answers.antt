use Rattle.std.proofs.Common.{◌<◌, length, vec_len}
use Rattle.tso_ops.specs.Values.{rows}
use Rattle.tso_text.proofs.LineFacts.{items_of-push_last, length-push_last, some_lists, not_zero}
use Rattle.tso_text.proofs.readings.Reading.accept.Goals as goal

pub returns-in_ok-push_last-in-Item-clause-keeps : goal.returns-in_ok-push_last-in-Item-clause-keeps
returns-in_ok-push_last-in-Item-clause-keeps g c =
    let some : 0 < length (rows c.args.self.now.lists.items) = some_lists c.args.self.now.lists.items (vec_len c.args.self.now.lists) (not_zero _ c.is_empty.result c.is_empty.ensures c.if-is_empty.false) (c.args.self.now.lists.ok.0) in
    rw (c.in_ok-push_last-in-Item.ensures, items_of-push_last) (c.in_ok-admit-in-Item.ensures.admitted _ c.requires.keeps)

pub returns-in_ok-push_last-in-Item-clause-few : goal.returns-in_ok-push_last-in-Item-clause-few
returns-in_ok-push_last-in-Item-clause-few g c = rw (c.in_ok-push_last-in-Item.ensures, length-push_last) c.requires.few
