use Rattle.std.proofs.Common.{◌≡◌, length, arith}
use Rattle.std.proofs.lemmas.Bool.Decides.{nat_tests}
use Rattle.bitsets.proofs.ListFacts.{list_empty}
use Rattle.bitsets.proofs.lists.marked.Goals as goal

pub returns-then-is_empty : goal.returns-then-is_empty
returns-then-is_empty c =
    let empty : length c.args.marks.now ≡ 0 = grind (arith, nat_tests, c.is_empty.ensures, c.if-is_empty.true) in
    list_empty c.args.marks.now c.new.result.items c.new.ensures.items empty
