use Rattle.std.proofs.Common.{◌∙◌, ◌-◌, ℕ, List, ap, arith, drop, refl, subst, sym, take}
use Rattle.trace_streams.specs.StreamSplitters.{Cuts}
use Rattle.trace_streams.specs.TraceTextReading.{IsWithinStream, TraceTextReaderValue}
use Rattle.trace_streams.proofs.TraceTextReaderFacts.{cut_off, cut_part, taken_off, uncut_after}
use Rattle.trace_streams.proofs.trace_text_readers.TraceTextReader.cut_next.Goals as goal

pub returns-clause-cut : goal.returns-clause-cut
returns-clause-cut c = λ stream now given s.
    let s = subst (λ (r : TraceTextReaderValue). IsWithinStream r stream now given) (sym c.self.view_is) s in
    let r = c.self.inside in
    let pieces = c.in_ok-pieces.pieces.items in
    let part = c.in_ok-pieces.ensures in
    let same = ap (λ (bytes : List ℕ). take (r.read - r.cut) (drop r.cut bytes)) c.deref.ensures.value ∙ cut_part r.cut r.read r.chunk.items c.self.invariant.0 in
    let count = c.in_ok-pieces.count in
    let uncut = drop r.cut (take r.read r.chunk.items) in
    let cuts : Cuts r.splitter c.cut.new.self s.rest (take count uncut) pieces = subst (λ (bytes : List ℕ). Cuts r.splitter c.cut.new.self s.rest (take count bytes) pieces) same (part.cut s.rest s.at) in
    let length_is = c.in_ok-pieces.pieces.ok.0 in
    let within = cut_off _ _ stream now given s (take count uncut) pieces cuts (uncut_after r.cut r.read count r.chunk.items) refl in
    taken_off _ stream now given pieces c.pop.new.self.items c.pop.result within part.most c.pop.ensures.items (λ some. c.pop.ensures.variant.1 (omega (arith, length_is, some)))
