use Rattle.std.proofs.Common.{◌∙◌, [], ◌∷◌, ap, arith, length}
use Rattle.std.proofs.lemmas.List.{length-append}
use Rattle.log_thinning.proofs.ThinFacts.{dropped_more, kept_more, next_more}
use Rattle.log_thinning.proofs.thinning.thin_before.Goals as goal
use Rattle.log_thinning.proofs.thinning.thin_before.Goals.{then-not-is_load_of+in_ok-push, else-not-is_load_of}

pub loop-done-preserved : goal.loop-done-preserved
loop-done-preserved c =
    let list = c.args.list.now in
    let inside = c.loop-done-test.true in
    let was = c.loop-done.invariant in
    let next = c.next_load_before-next.ensures ∙ next_more list c.loop-done.done _ inside c.loop-done.next was.1 in
    elim c.if-not-is_load_of.branch [
      | then-not-is_load_of+in_ok-push w ↦ (
          let pushed = ap (λ v. v.items) w.reversed-is ∙ w.in_ok-push.ensures.items in
          let size = ap length pushed ∙ length-append c.loop-done.reversed.items (_ ∷ []) in (
            pushed ∙ kept_more list c.loop-done.done _ inside c.loop-done.next was.1 c.is_load_of.result c.is_load_of.ensures c.loop-done.reversed.items was.0 w.if-not-is_load_of.true,
            next,
            omega (arith, size, was.2),
          )
          )
      | else-not-is_load_of w ↦ (
          let same = ap (λ v. v.items) w.reversed-is in
          let size = ap length same in (
            same ∙ dropped_more list c.loop-done.done _ inside c.loop-done.next was.1 c.is_load_of.result c.is_load_of.ensures c.loop-done.reversed.items was.0 w.if-not-is_load_of.false,
            next,
            omega (arith, size, was.2),
          )
          )
    ]
