use Rattle.std.proofs.Common.{◌≡◌, ◌<◌, ◌+◌, ◌==◌, ◌++◌, ◌∙◌, sym, ap, subst, suc, cond, length, map, set, take, drop, arith}
use Rattle.std.proofs.lemmas.List.{map-set, get_or-map, length-map}
use Rattle.run_steps.specs.Machine.{processors_after, idle, processor_state, without_reserved}
use Rattle.run_steps.proofs.StoreFacts.{processors_after-next}
use Rattle.run_steps.proofs.processors.take_reservations.Goals as goal

pub loop-q-preserved : goal.loop-q-preserved
loop-q-preserved c =
    let f = processor_state in
    let xs = c.loop-q.processors in
    let q = c.loop-q.q in
    let p = c.args.p in
    let place = c.args.place in
    let by = c.args.by in
    let new = c.take_reservation.new.processor in
    let within : q < length xs = omega (arith, c.loop-q-test.true, c.loop-q.auto.processors) in
    let mapped : q < length (map f xs) = subst (λ n. q < n) (sym (length-map xs f)) within in
    let at = get_or-map f xs q c.index-processors-q.result idle within in
    let value = c.take_reservation.ensures ∙ ap (λ x. cond (q == p) x (without_reserved place by x)) (sym at) in
    let next : q + 1 ≡ suc q = omega arith in
    ap (λ n. take n (map f (set xs q new)) ++ processors_after p place by n (drop n (map f (set xs q new)))) next
    ∙ ap (λ ys. take (suc q) ys ++ processors_after p place by (suc q) (drop (suc q) ys)) (map-set f xs q new) ∙ processors_after-next p place by q q (map f xs) (f new) mapped value ∙ c.loop-q.invariant
