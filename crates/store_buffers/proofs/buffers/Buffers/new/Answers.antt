use Rattle.std.proofs.Common.{◌≡◌, refl, replicate, []}
use Rattle.circular_buffer.specs.Buffer.{buffer}
use Rattle.store_buffers.proofs.RingFacts.{IsRings-new}
use Rattle.store_buffers.proofs.buffers.Buffers.new.Goals as goal

pub invariant_of-result : goal.invariant_of-result
invariant_of-result c =
    let memory : c.in_ok-memory.memory.items ≡ replicate 256 0 = c.in_ok-memory.ensures.items_if_clones_equal (λ y e. e) in
    let rings : c.in_ok-rings.rings.items ≡ replicate 16 (buffer [] c.args.capacity) = c.in_ok-rings.ensures in
    rw (memory, rings) (IsRings-new c.args.capacity c.requires.least c.requires.most)

pub returns : goal.returns
returns c =
    let memory : c.in_ok-memory.memory.items ≡ replicate 256 0 = c.in_ok-memory.ensures.items_if_clones_equal (λ y e. e) in
    let rings : c.in_ok-rings.rings.items ≡ replicate 16 (buffer [] c.args.capacity) = c.in_ok-rings.ensures in
    rw (memory, rings) refl
