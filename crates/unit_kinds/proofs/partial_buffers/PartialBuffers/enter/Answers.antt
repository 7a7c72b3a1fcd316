use Rattle.std.proofs.Common.{◌≡◌, ◌∙◌, ◌<◌, sym, ap, [], ◌∷◌, ◌++◌, length, get_or, vec_len, vec_capacity, if◌then◌else◌, arith, rules}
use Rattle.std.proofs.lemmas.List.{get_or_default, length-map}
use Rattle.unit_core.specs.declared.steps.Step.TheVariants.{Store}
use Rattle.unit_core.specs.Machine.{State, buffer_of, next}
use Rattle.unit_kinds.specs.declared.partial_buffers.WaitingStore.{WaitingStore}
use Rattle.unit_kinds.specs.Internal.Partial.{PartialBuffersValue, entry_of}
use Rattle.unit_kinds.proofs.PartialBufferFacts.{buffer-at, reserved-at, state_in-enter}
use Rattle.unit_kinds.proofs.partial_buffers.PartialBuffers.enter.Goals as goal

pub returns : goal.returns
returns c =
    let u = c.self.inside in
    let p = c.args.p in
    let buffer = c.index_mut.result.now in
    let entry : WaitingStore = record { a = c.args.a; v = c.args.v; stbars = c.index-stbars.result.now } in
    let within : p < length u.buffers.items = omega (arith, c.self.invariant.processors, c.requires.processor) in
    let reserved = reserved-at u.buffers.items u.capacity p buffer within c.index_mut.ensures.value c.self.invariant.reserved in
    let here : length buffer.items ≡ length (buffer_of c.args.self.now.state p) =
    sym (length-map buffer.items entry_of) ∙ ap length (sym (buffer-at u.memory.items u.buffers.items u.stbars.items p buffer within c.index_mut.ensures.value))
    ∙ ap (λ (b : PartialBuffersValue). length (buffer_of b.state p)) c.self.view_is in
    let capacity : u.capacity ≡ c.args.self.now.capacity = ap (λ (b : PartialBuffersValue). b.capacity) c.self.view_is in
    let counted : vec_len buffer ≡ length buffer.items = search rules in
    let room : vec_len buffer < vec_capacity buffer = omega (arith, counted, here, capacity, c.requires.room, reserved.room) in
    let items : c.push-pushed.new.self.items ≡ buffer.items ++ entry ∷ [] =
    c.push-pushed.ensures.items ∙ ap (λ b. if b then (buffer.items ++ entry ∷ []) else buffer.items) (c.push-pushed.ensures.succeeds room) in
    let count : c.index-stbars.result.now ≡ get_or u.stbars.items p 0 =
    c.index-stbars.ensures ∙ get_or_default u.stbars.items p c.index-stbars.result.now 0 (omega (arith, c.self.invariant.counts, c.requires.processor)) in
    ap (λ (s : State). record { state = s; capacity = u.capacity }) (state_in-enter u.memory.items u.buffers.items u.stbars.items p c.args.a c.args.v c.index-stbars.result.now buffer c.push-pushed.new.self within c.index_mut.ensures.value items count)
    ∙ ap (λ (b : PartialBuffersValue). record b { state = next b.state (Store p c.args.a c.args.v) }) c.self.view_is
