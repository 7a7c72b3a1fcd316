use Rattle.std.proofs.Common.{◌≡◌, rules, slice_index}
use Rattle.std.specs.Option.{unwrap_or}
use Rattle.store_buffers.specs.Buffers.{entries_of, newest_value}
use Rattle.unit_kinds.proofs.BufferFacts.{IsStoreBufferUnit-load}
use Rattle.unit_kinds.proofs.buffer.StoreBufferUnitMemoryUnit.load.Goals as goal

pub invariant_of-self-2 : goal.invariant_of-self-2
invariant_of-self-2 c =
    let u = c.self.inside in
    let read : c.unwrap_or-r.result ≡ unwrap_or (newest_value (entries_of u.parts c.args.p) c.args.a) (slice_index u.parts.memory c.args.a) = search rules in
    rw (c.in_ok-append.ensures.steps, c.in_ok-append.ensures.first) (IsStoreBufferUnit-load u.history.steps u.history.first u.parts c.args.p c.args.a _ c.requires.processor c.requires.address read c.self.invariant)
