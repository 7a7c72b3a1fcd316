use Rattle.std.proofs.Common.{◌≡◌, ◌∙◌, ◌<◌, sym, ap, subst, length, set, slice_get, vec_len, arith, rules}
use Rattle.std.proofs.lemmas.List.{length-map}
use Rattle.std.proofs.lemmas.Option.{slice_get_within}
use Rattle.unit_core.specs.Machine.{Entry, State, buffer_of, drained, oldest_of}
use Rattle.unit_kinds.specs.Internal.Partial.{PartialBuffersValue, entry_of}
use Rattle.unit_kinds.specs.Partial.{IsNextAddress}
use Rattle.unit_kinds.proofs.PartialBufferFacts.{entries-at, fewer-drained, state_in-drain, taken_entry}
use Rattle.unit_kinds.proofs.partial_buffers.PartialBuffers.drain_next.Goals as goal

pub remove-entry-requires : goal.remove-entry-requires
remove-entry-requires c =
    let u = c.self.inside in
    let buffer = c.index_mut.result.now in
    let within : c.args.p < length u.buffers.items = omega (arith, c.self.invariant.processors, c.requires.processor) in
    let entries = entries-at c.args.self.now u.memory.items u.buffers.items u.stbars.items c.args.p buffer (ap (λ (b : PartialBuffersValue). b.state) c.self.view_is) within c.index_mut.ensures.value in
    let counted : vec_len buffer ≡ length buffer.items = search rules in
    omega (arith, counted, ap length entries, length-map buffer.items entry_of, slice_get_within (buffer_of c.args.self.now.state c.args.p) c.next_place-place.result c.next_place-place.ensures.entry c.next_place-place.ensures.waits)

pub returns-clause-is : goal.returns-clause-is
returns-clause-is c =
    let u = c.self.inside in
    let p = c.args.p in
    let buffer = c.index_mut.result.now in
    let within : p < length u.buffers.items = omega (arith, c.self.invariant.processors, c.requires.processor) in
    let entries = entries-at c.args.self.now u.memory.items u.buffers.items u.stbars.items p buffer (ap (λ (b : PartialBuffersValue). b.state) c.self.view_is) within c.index_mut.ensures.value in
    let taken = taken_entry buffer.items c.next_place-place.result c.next_place-place.ensures.entry c.remove-entry.result
    (ap (λ es. slice_get es c.next_place-place.result) (sym entries) ∙ c.next_place-place.ensures.waits) c.remove-entry.ensures.value in
    subst (λ (e : Entry). IsNextAddress (buffer_of c.args.self.now.state p) e.a) taken.1 c.next_place-place.ensures.next_address

pub returns-clause-drained : goal.returns-clause-drained
returns-clause-drained c =
    let u = c.self.inside in
    let p = c.args.p in
    let place = c.next_place-place.result in
    let buffer = c.index_mut.result.now in
    let within : p < length u.buffers.items = omega (arith, c.self.invariant.processors, c.requires.processor) in
    let entries = entries-at c.args.self.now u.memory.items u.buffers.items u.stbars.items p buffer (ap (λ (b : PartialBuffersValue). b.state) c.self.view_is) within c.index_mut.ensures.value in
    let taken = taken_entry buffer.items place c.next_place-place.ensures.entry c.remove-entry.result (ap (λ es. slice_get es place) (sym entries) ∙ c.next_place-place.ensures.waits) c.remove-entry.ensures.value in
    let oldest : place ≡ oldest_of (buffer_of c.args.self.now.state p) c.remove-entry.result.a =
    sym c.next_place-place.ensures.oldest ∙ ap (λ (e : Entry). oldest_of (buffer_of c.args.self.now.state p) e.a) taken.1 in
    ap (λ (s : State). record { state = s; capacity = u.capacity })
    (state_in-drain u.memory.items u.buffers.items u.stbars.items p place buffer c.remove-entry.new.self c.remove-entry.result within c.index_mut.ensures.value taken.0 c.remove-entry.ensures.items)
    ∙ ap (λ (b : PartialBuffersValue). record b { state = drained b.state p place }) c.self.view_is
    ∙ ap (λ k. record c.args.self.now { state = drained c.args.self.now.state p k }) oldest

pub returns-clause-fewer : goal.returns-clause-fewer
returns-clause-fewer c =
    let u = c.self.inside in
    let p = c.args.p in
    let place = c.next_place-place.result in
    let buffer = c.index_mut.result.now in
    let within : p < length u.buffers.items = omega (arith, c.self.invariant.processors, c.requires.processor) in
    let entries = entries-at c.args.self.now u.memory.items u.buffers.items u.stbars.items p buffer (ap (λ (b : PartialBuffersValue). b.state) c.self.view_is) within c.index_mut.ensures.value in
    let taken = taken_entry buffer.items place c.next_place-place.ensures.entry c.remove-entry.result (ap (λ es. slice_get es place) (sym entries) ∙ c.next_place-place.ensures.waits) c.remove-entry.ensures.value in
    fewer-drained u.memory.items u.buffers.items u.stbars.items p place (set u.memory.items c.remove-entry.result.a c.remove-entry.result.v) buffer c.remove-entry.new.self within c.index_mut.ensures.value (slice_get_within buffer.items place c.remove-entry.result taken.0) c.remove-entry.ensures.items
    ∙ ap (λ (b : PartialBuffersValue). length (buffer_of b.state p)) c.self.view_is
