use Rattle.std.proofs.Common.{◌≡◌, refl, replicate}
use Rattle.unit_faulty.proofs.memory.FaultyMemory.new.Goals as goal

pub returns : goal.returns
returns c =
    let former : c.in_ok-vec.field-0.items ≡ replicate 256 0 = c.in_ok-vec.ensures.items_if_clones_equal (λ y e. e) in
    rw (former, c.in_ok-new.ensures) refl
