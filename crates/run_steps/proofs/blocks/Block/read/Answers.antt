use Rattle.std.proofs.Common.{◌≡◌, ◌<◌, ◌∙◌, ◌+◌, ◌-◌, ◌*◌, ◌%◌, ◌^◌, sym, refl, ap, subst, arith, suc, IfSome, option_map}
use Rattle.run_steps.specs.Reads.{read_from}
use Rattle.run_steps.proofs.ReadFacts.{byte_below, byte_read, bytes_count, bytes_fit, none_read}
use Rattle.run_steps.proofs.blocks.Block.read.Goals as goal

pub overflow_mul-value : goal.overflow_mul-value
overflow_mul-value c =
    let left = c.args.place.width - c.loop-i.i in
    let least : c.in-Some-Some.above < 256 ^ left = subst (λ v. IfSome v (λ n. n < 256 ^ left)) c.in-Some-Some.is-1 c.loop-i.invariant.small in
    let count = bytes_count c.args.place c.requires.bytes in
    let below = byte_below (suc left) left 0 c.in-Some-Some.above refl (omega arith) least in
    let fits = bytes_fit (suc left) (0 + 256 * c.in-Some-Some.above) (omega (arith, count, c.args.place.few, c.loop-i-test.true)) below in
    omega (arith, fits)

pub overflow_add-value : goal.overflow_add-value
overflow_add-value c =
    let left = c.args.place.width - c.loop-i.i in
    let least : c.in-Some-Some.above < 256 ^ left = subst (λ v. IfSome v (λ n. n < 256 ^ left)) c.in-Some-Some.is-1 c.loop-i.invariant.small in
    let count = bytes_count c.args.place c.requires.bytes in
    let byte = c.in-Some-Some.byte % 256 in
    let fits = bytes_fit (suc left) (byte + 256 * c.in-Some-Some.above) (omega (arith, count, c.args.place.few, c.loop-i-test.true)) (byte_below (suc left) left byte c.in-Some-Some.above refl (omega arith) least) in
    omega (arith, fits)

pub loop-i-preserved-in-Some-Some : goal.loop-i-preserved-in-Some-Some
loop-i-preserved-in-Some-Some c =
    let place = c.args.place in
    let i = c.loop-i.i in
    let left = place.width - i in
    let least : c.in-Some-Some.above < 256 ^ left = subst (λ v. IfSome v (λ n. n < 256 ^ left)) c.in-Some-Some.is-1 c.loop-i.invariant.small in
    let byte = c.in-Some-Some.byte % 256 in
    let one_more : place.width - (i - 1) ≡ suc left = omega (arith, c.loop-i-test.true, c.loop-i.auto.i) in
    record {
      value = λ look seen.
          byte_read place.width look place.address i c.in-Some-Some.above c.in-Some-Some.byte c.requires.bytes c.loop-i-test.true c.loop-i.auto.i
          (ap (option_map (λ s. s.value)) (seen (i - 1) (omega (arith, c.loop-i-test.true, c.loop-i.auto.i))) ∙ sym c.value.ensures ∙ c.in-Some-Some.is-0)
          (sym c.in-Some-Some.is-1 ∙ c.loop-i.invariant.value look seen);
      small = byte_below (place.width - (i - 1)) left byte c.in-Some-Some.above one_more (omega arith) least;
    }

pub loop-i-preserved-in_default : goal.loop-i-preserved-in_default
loop-i-preserved-in_default c =
    record {
      value = λ look seen.
          none_read c.args.place.width look c.args.place.address c.loop-i.i c.loop-i-test.true c.loop-i.auto.i (sym c.in_default.is-1 ∙ c.loop-i.invariant.value look seen);
      small = tt;
    }

pub returns : goal.returns
returns c = λ look seen.
    let place = c.args.place in
    let count = bytes_count place c.requires.bytes in
    let start : place.address + 0 ≡ place.address = omega arith in
    let all : place.width - 0 ≡ place.width = omega arith in
    let first : c.loop-i.i ≡ 0 = omega (arith, c.loop-i-test.false) in
    c.loop-i.invariant.value look seen ∙ ap (λ n. read_from place.width look (place.address + n) (place.width - n)) first ∙ ap (λ n. read_from place.width look n (place.width - 0)) start ∙ ap (read_from place.width look place.address) (all ∙ sym count)
