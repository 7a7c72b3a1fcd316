use Rattle.std.proofs.Common.{subst}
use Rattle.std.specs.Prelude.{Option}
use Rattle.std.specs.Global.{Vec}
use Rattle.std.proofs.Common.{ℕ}
use Rattle.trace_streams.specs.TraceTextReading.{CutsOff}
use Rattle.trace_streams.proofs.trace_text_readers.TraceTextReader.next.Goals as goal

pub loop-preserved : goal.loop-preserved
loop-preserved g c = λ stream given has.
    let before = c.loop.invariant stream given has in
    let now = g.R.Read.remaining c.loop.reader in
    let cut = subst (λ (piece : Option (Vec ℕ)). CutsOff c.cut_next.new.self stream now given piece) c.in-None.is (c.in_ok-piece.ensures.cut stream now given before) in
    c.in_ok-read_more.ensures.read stream given cut
