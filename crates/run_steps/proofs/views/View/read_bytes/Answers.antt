use Rattle.std.proofs.Common.{ap, option_map, ◌≡◌, ◌<◌, ◌∙◌, ◌+◌, ◌-◌, ◌*◌, ◌%◌, ◌^◌, sym, refl, subst, arith, suc, IfSome}
use Rattle.run_steps.specs.Places.{cell_count}
use Rattle.run_steps.specs.Reads.{memory_of_cells, sees}
use Rattle.run_steps.proofs.ReadFacts.{byte_below, byte_read, bytes_count, bytes_fit}
use Rattle.run_steps.proofs.WaitingFacts.{seen_at}
use Rattle.run_steps.proofs.views.View.read_bytes.Goals as goal

pub overflow_mul-value : goal.overflow_mul-value
overflow_mul-value c =
    let left = c.args.place.width - c.loop-i.i in
    let least : c.in-Some-Some.above < 256 ^ left = subst (λ v. IfSome v (λ n. n < 256 ^ left)) c.in-Some-Some.is-1 c.loop-i.invariant.small in
    let count = bytes_count c.args.place c.requires in
    let below = byte_below (suc left) left 0 c.in-Some-Some.above refl (omega arith) least in
    let fits = bytes_fit (suc left) (0 + 256 * c.in-Some-Some.above) (omega (arith, count, c.args.place.few, c.loop-i-test.true)) below in
    omega (arith, fits)

pub overflow_add-value : goal.overflow_add-value
overflow_add-value c =
    let left = c.args.place.width - c.loop-i.i in
    let least : c.in-Some-Some.above < 256 ^ left = subst (λ v. IfSome v (λ n. n < 256 ^ left)) c.in-Some-Some.is-1 c.loop-i.invariant.small in
    let count = bytes_count c.args.place c.requires in
    let byte = c.in-Some-Some.seen.value % 256 in
    let fits = bytes_fit (suc left) (byte + 256 * c.in-Some-Some.above) (omega (arith, count, c.args.place.few, c.loop-i-test.true)) (byte_below (suc left) left byte c.in-Some-Some.above refl (omega arith) least) in
    omega (arith, fits)

pub loop-i-preserved-in-Some-Some : goal.loop-i-preserved-in-Some-Some
loop-i-preserved-in-Some-Some c =
    let left = c.args.place.width - c.loop-i.i in
    let least : c.in-Some-Some.above < 256 ^ left = subst (λ v. IfSome v (λ n. n < 256 ^ left)) c.in-Some-Some.is-1 c.loop-i.invariant.small in
    let byte = c.in-Some-Some.seen.value % 256 in
    let count = bytes_count c.args.place c.requires in
    let within : c.loop-i.i - 1 < cell_count c.args.place = omega (arith, count, c.loop-i-test.true, c.loop-i.auto.i) in
    let seen =
    seen_at (memory_of_cells c.args.self.now.memory.now) c.args.self.now.waiting.now (c.args.place.address + (c.loop-i.i - 1)) c.newest_of_cells-newest.result (c.loop-i.i - 1) c.index-newest-i.result
    c.seen.result (omega (arith, within, c.args.place.few, c.newest_of_cells-newest.ensures.whole)) (c.newest_of_cells-newest.ensures.cells (c.loop-i.i - 1) within) c.seen.ensures in
    let one_more : c.args.place.width - (c.loop-i.i - 1) ≡ suc left = omega (arith, c.loop-i-test.true, c.loop-i.auto.i) in
    record {
      value =
          byte_read c.args.place.width (sees (memory_of_cells c.args.self.now.memory.now) c.args.self.now.waiting.now) c.args.place.address c.loop-i.i c.in-Some-Some.above c.in-Some-Some.seen.value c.requires c.loop-i-test.true
          c.loop-i.auto.i (ap (option_map (λ s. s.value)) (sym seen ∙ c.in-Some-Some.is-0)) (sym c.in-Some-Some.is-1 ∙ c.loop-i.invariant.value);
      small = byte_below (c.args.place.width - (c.loop-i.i - 1)) left byte c.in-Some-Some.above one_more (omega arith) least;
    }
