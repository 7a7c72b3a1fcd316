use Rattle.std.proofs.Common.{◌≡◌, ap, replicate}
use Rattle.unit_core.specs.Machine.{State}
use Rattle.unit_kinds.specs.Internal.Partial.{PartialBuffersValue}
use Rattle.unit_kinds.proofs.PartialBufferFacts.{ArePartialBuffers-new, state_in-new}
use Rattle.unit_kinds.proofs.partial_buffers.PartialBuffers.new.Goals as goal

pub invariant_of-result : goal.invariant_of-result
invariant_of-result c =
    let memory : c.in_ok-vec.field-0.items ≡ replicate 256 0 = c.in_ok-vec.ensures.items_if_clones_equal (λ y e. e) in
    let stbars : c.in_ok-vec-2.field-0.items ≡ replicate 16 0 = c.in_ok-vec-2.ensures.items_if_clones_equal (λ y e. e) in
    ArePartialBuffers-new _ _ _ c.args.capacity c.requires.least c.requires.most memory c.in_ok-make_buffers.ensures stbars

pub returns : goal.returns
returns c =
    let memory : c.in_ok-vec.field-0.items ≡ replicate 256 0 = c.in_ok-vec.ensures.items_if_clones_equal (λ y e. e) in
    let stbars : c.in_ok-vec-2.field-0.items ≡ replicate 16 0 = c.in_ok-vec-2.ensures.items_if_clones_equal (λ y e. e) in
    let value : State → PartialBuffersValue = λ s. record { state = s; capacity = c.args.capacity } in
    ap value (state_in-new _ _ _ c.args.capacity memory c.in_ok-make_buffers.ensures stbars)
