use Rattle.std.proofs.Common.{◌≡◌, ◌∙◌, ◌+◌, ◌-◌, ◌++◌, ◌∷◌, [], None, ap, length, length-append, map, replicate, arith}
use Rattle.std.proofs.lemmas.List.{append_assoc, map-append, replicate_more}
use Rattle.run_steps.specs.declared.processors.Processor.{Processor}
use Rattle.run_steps.specs.Machine.{idle, processor_state}
use Rattle.run_steps.proofs.processors.grow.Goals as goal

pub loop-q-preserved : goal.loop-q-preserved
loop-q-preserved c =
    let f = processor_state in
    let first = map f c.args.processors.now.items in
    let before = length c.args.processors.now.items in
    let q = c.loop-q._q in
    let new : Processor = record { waiting = c.new.result; stbar = 0; reservation = None } in
    let is : f new ≡ idle = ap (λ ws. record { waits = ws; stbar = 0; reserved = None }) c.new.ensures.items in
    let more : q - before + 1 ≡ q + 1 - before = omega (arith, c.loop-q.auto._q) in
    record {
      counted = ap length c.in_ok-push.ensures.items ∙ length-append c.loop-q.processors.items (new ∷ []) ∙ ap (λ n. n + 1) c.loop-q.invariant.counted;
      more =
          ap (map f) c.in_ok-push.ensures.items ∙ map-append f c.loop-q.processors.items (new ∷ []) ∙ ap (λ xs. xs ++ f new ∷ []) c.loop-q.invariant.more ∙ ap (λ x. (first ++ replicate (q - before) idle) ++ x ∷ []) is
          ∙ append_assoc first (replicate (q - before) idle) (idle ∷ []) ∙ ap (λ xs. first ++ xs) (replicate_more (q - before) idle) ∙ ap (λ n. first ++ replicate n idle) more;
    }
