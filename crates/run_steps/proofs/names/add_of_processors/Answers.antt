use Rattle.std.proofs.Common.{◌≡◌, ◌+◌, IsTrue, arith, map, nat_eq, subst, suc, sym, take}
use Rattle.std.specs.HashSet.{contains}
use Rattle.std.specs.List.{AllByRecursion}
use Rattle.run_steps.specs.Machine.{processor_state}
use Rattle.run_steps.specs.Names.{ProcessorNames}
use Rattle.run_steps.proofs.NameFacts.{each_more, each_weaker, processor_weaker}
use Rattle.run_steps.proofs.names.add_of_processors.Goals as goal

pub loop-processor-preserved : goal.loop-processor-preserved
loop-processor-preserved c =
    let old = contains nat_eq c.loop-processor.names in
    let between = contains nat_eq c.add_of_buffer.new.names in
    let new = contains nat_eq c.add_of_reservation.new.names in
    let xs = c.args.processors.now in
    let i = c.loop-processor.processor-index in
    let x = c.processor-item.result in
    let next : i + 1 ≡ suc i = omega arith in
    let waits = subst (AllByRecursion (λ w. IsTrue (between w.store))) c.deref.ensures.value c.in_ok-add_of_buffer.ensures.named in
    let one : ProcessorNames new (processor_state x) =
    record {
      waits = each_weaker (λ w. IsTrue (between w.store)) (λ w. IsTrue (new w.store)) x.waiting.items (λ w is. c.in_ok-add_of_reservation.ensures.kept w.store is) waits;
      reserved = c.in_ok-add_of_reservation.ensures.named;
    } in
    let others =
    each_weaker (ProcessorNames old) (ProcessorNames new) (map processor_state (take i xs))
    (processor_weaker old new (λ n is. c.in_ok-add_of_reservation.ensures.kept n (c.in_ok-add_of_buffer.ensures.kept n is))) c.loop-processor.invariant.named in
    record {
      named =
          subst (λ k. AllByRecursion (ProcessorNames new) (map processor_state (take k xs))) (sym next)
          (each_more (ProcessorNames new) processor_state xs i x c.loop-processor-test.true c.processor-item.is others one);
      kept = λ n is. c.in_ok-add_of_reservation.ensures.kept n (c.in_ok-add_of_buffer.ensures.kept n (c.loop-processor.invariant.kept n is));
    }
