use Rattle.std.proofs.Common.{◌≡◌, refl, replicate}
use Rattle.unit_kinds.proofs.SerialFacts.{IsSerial-new}
use Rattle.unit_kinds.proofs.serial.SerialUnit.new.Goals as goal

pub invariant_of-result : goal.invariant_of-result
invariant_of-result c =
    let memory : c.in_ok-vec.field-0.items ≡ replicate 256 0 = c.in_ok-vec.ensures.items_if_clones_equal (λ y e. e) in
    rw (memory, c.in_ok-new.ensures.first, c.in_ok-new.ensures.steps) IsSerial-new

pub returns : goal.returns
returns c = rw (c.in_ok-new.ensures.first, c.in_ok-new.ensures.steps) refl
