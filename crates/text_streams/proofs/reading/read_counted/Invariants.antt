use Rattle.std.proofs.Common.{◌≤◌, ◌≡◌, length}
use Rattle.std.specs.Io.KnownBytes.{Consumes}
use Rattle.text_streams.proofs.reading.read_counted.Given as goal

abbrev pub invariant-loop-done : goal.invariant-loop-done
invariant-loop-done g l = record {
  room : length l.bytes.items ≤ l.limit;
  calls : l.reader.calls ≡ l.done;
  same : l.reader.reader.ghost_name ≡ l.fn.reader.reader.ghost_name;
  taken : Consumes (g.R.Read.remaining l.fn.reader.reader.now) (g.R.Read.remaining l.reader.reader.now) l.bytes.items;
}
