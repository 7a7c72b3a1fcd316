use Rattle.std.proofs.Common.{◌≡◌, ◌∙◌, ◌<◌, sym, ap, subst, length, map, arith}
use Rattle.unit_core.specs.Machine.{buffer_of, oldest_of}
use Rattle.unit_kinds.specs.Internal.Partial.{PartialBuffersValue, IsNextPlace, entry_of}
use Rattle.unit_kinds.specs.Partial.{IsNextAddress}
use Rattle.unit_kinds.proofs.PartialBufferFacts.{IsNextPlace-oldest, buffer-at}
use Rattle.unit_kinds.proofs.partial_buffers.PartialBuffers.next_place.Goals as goal

pub returns : goal.returns
returns c =
    let u = c.self.inside in
    let buffer = c.index-buffer.result.now in
    let within : c.args.p < length u.buffers.items = omega (arith, c.self.invariant.processors, c.requires.processor) in
    let here = sym (buffer-at u.memory.items u.buffers.items u.stbars.items c.args.p buffer within c.index-buffer.ensures) ∙ ap (λ (b : PartialBuffersValue). buffer_of b.state c.args.p) c.self.view_is in
    let a = c.next_address.result in
    let next : IsNextAddress (map entry_of buffer.items) a = rw c.deref-2.ensures.value at c.next_address.ensures in
    let oldest : c.oldest_place.result ≡ oldest_of (map entry_of buffer.items) a = rw c.deref.ensures.value at c.oldest_place.ensures in
    subst (λ es. IsNextPlace es c.oldest_place.result) here (IsNextPlace-oldest (map entry_of buffer.items) c.oldest_place.result a next oldest)
