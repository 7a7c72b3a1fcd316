use Rattle.std.proofs.Common.{◌<◌, ◌++◌, ◌∷◌, [], Some, None, length, drop, arith}
use Rattle.std.proofs.lemmas.List.{take_at}
use Rattle.std.proofs.lemmas.List.Elements.{All-push, All-pop, All-same}
use Rattle.order_graph.proofs.postorder.postorder.Goals as goal
use Rattle.order_graph.proofs.postorder.postorder.Goals.{in-Some+in_ok-push-in-Some, in-None+in-Some-pop+in_ok-push-in-None, in-None+in_default}

pub loop-preserved : goal.loop-preserved
loop-preserved c =
    let a = c.args in
    let kept = c.loop.invariant in
    elim c.match-next_left.branch [
      | in-Some+in_ok-push-in-Some w ↦ (let next = rw c.deref-in-loop.ensures.value at w.in-Some.ensures in
          let loses = rw w.deref_mut.ensures.value at w.clear_bit.ensures in
          let less = take_at w.clear_bit.new.table (drop (length w.clear_bit.new.table) c.loop.left.items) c.loop.left.len (omega arith) in
          rw (w.left-is, w.stack-is, w.order-is, less) (
            omega (arith, kept.0),
            (λ y h s. kept.1 y h ((loses.bits 0 y h).0 s).0),
            All-same (λ x. x < a.nodes) w.push.new.self.items (c.loop.stack.items ++ w.in-Some.y ∷ []) w.in_ok-push-in-Some.ensures.items
                (All-push (λ x. x < a.nodes) c.loop.stack.items w.in-Some.y kept.2 (kept.1 w.in-Some.y next.0 next.1)),
            kept.3,
          ))
      | in-None+in-Some-pop+in_ok-push-in-None w ↦ (let popped = All-pop (λ x. x < a.nodes) c.loop.stack.items w.pop.new.self.items (Some w.in-Some-pop.x) w.in-Some-pop.ensures.items kept.2 in
          rw (w.left-is, w.stack-is, w.order-is) (
            kept.0,
            kept.1,
            popped.0,
            All-same (λ x. x < a.nodes) w.push-in-Some-pop.new.self.items (c.loop.order.items ++ w.in-Some-pop.x ∷ []) w.in_ok-push-in-None.ensures.items
                (All-push (λ x. x < a.nodes) c.loop.order.items w.in-Some-pop.x kept.3 popped.1),
          ))
      | in-None+in_default w ↦ rw (w.left-is, w.stack-is, w.order-is) (kept.0, kept.1, (All-pop (λ x. x < a.nodes) c.loop.stack.items w.pop.new.self.items None w.in_default.ensures.items kept.2).0, kept.3)
    ]
