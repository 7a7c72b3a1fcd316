use Rattle.std.proofs.Common.{◌≡◌, ◌∙◌, ◌+◌, [], ◌∷◌, ◌++◌, ap, length, arith}
use Rattle.std.specs.Global.{Vec}
use Rattle.std.specs.List.{sum_by}
use Rattle.std.proofs.lemmas.List.{map-append}
use Rattle.std.proofs.lemmas.List.Sums.{sum_by-append}
use Rattle.tso_ops.specs.Values.{rows}
use Rattle.log_text.specs.declared.logs.LoggedOperation.{LoggedOperation}
use Rattle.log_text.proofs.LeftOutFacts.{rows_next, sum_next}
use Rattle.log_thinning.specs.Thinned.{thinned_list}
use Rattle.log_thinning.proofs.thinning.thin.Goals as goal

pub loop-list-preserved : goal.loop-list-preserved
loop-list-preserved c =
    let lists = c.deref-list-items.ensures.value in
    let within = rw lists at c.loop-list-test.true in
    let items = c.deref.ensures.value ∙ ap (λ v. v.items) (rw lists at c.list-item.is) in
    let pushed : rows c.push.new.self.items ≡ rows c.loop-list.lists.items ++ c.in_ok-left.left.items ∷ [] =
    ap rows c.in_ok-push.ensures.items ∙ map-append (λ (row : Vec LoggedOperation). row.items) c.loop-list.lists.items (c.in_ok-left.left ∷ []) in
    let size = ap length items in
    let left : sum_by length (rows c.push.new.self.items) ≡ sum_by length (rows c.loop-list.lists.items) + (0 + length c.in_ok-left.left.items) =
    ap (sum_by length) pushed ∙ sum_by-append length (rows c.loop-list.lists.items) (c.in_ok-left.left.items ∷ []) in
    let all = sum_next length c.args.log.lists.items c.loop-list.list-index c.list-item.result _ within c.loop-list.invariant.1 in (
      ap rows c.in_ok-push.ensures.items
          ∙ rows_next thinned_list c.args.log.lists.items c.loop-list.lists.items c.in_ok-left.left c.loop-list.list-index _ within c.loop-list.invariant.0
          (c.in_ok-left.ensures.is ∙ ap thinned_list items),
      omega (arith, c.in_ok-dropped.ensures, c.len.ensures, c.len-in-loop-list.ensures, c.in_ok-left.ensures.fewer, c.loop-list.invariant.1, left, all, size),
    )
