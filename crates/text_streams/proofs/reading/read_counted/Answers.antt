use Rattle.std.proofs.Common.{◌+◌, ◌≡◌, ◌∙◌, ap, rules}
use Rattle.text_streams.proofs.StreamFacts.{read_more, read_whole}
use Rattle.text_streams.proofs.reading.read_counted.Goals as goal
use Rattle.text_streams.proofs.reading.read_counted.Goals.{in-Ok+in_ok-extend_from_slice-in-Ok+else-len-limit, in-Err}

pub returns-in-Ok-eq0-clause-prefix : goal.returns-in-Ok-eq0-clause-prefix
returns-in-Ok-eq0-clause-prefix g c =
    let whole = read_whole (g.R.Read.remaining c.args.reader.now.reader.now) (g.R.Read.remaining c.loop-done.reader.reader.now) (g.R.Read.remaining c.read.new.self.reader.now) c.loop-done.bytes.items c.read.new.buffer c.args.limit in
    search (rules, whole)

pub loop-done-preserved : goal.loop-done-preserved
loop-done-preserved g c = record {
  room = elim c.match-read.branch [
    | in-Ok+in_ok-extend_from_slice-in-Ok+else-len-limit w ↦ search rules
    | in-Err w ↦ search rules
  ];
  calls = c.read.ensures.calls ∙ ap (λ n. n + 1) c.loop-done.invariant.calls;
  same = c.read.ensures.same_reference ∙ c.loop-done.invariant.same;
  taken = elim c.match-read.branch [
    | in-Ok+in_ok-extend_from_slice-in-Ok+else-len-limit w ↦
        let grown : w.extend_from_slice.new.self.items ≡ _ = w.in_ok-extend_from_slice-in-Ok.ensures.items in
        rw w.bytes-is (read_more (g.R.Read.remaining c.args.reader.now.reader.now) (g.R.Read.remaining c.loop-done.reader.reader.now) (g.R.Read.remaining c.read.new.self.reader.now) _ _ _ _ w.in-Ok.count
        c.loop-done.invariant.taken w.in-Ok.ensures.bytes.0 w.in-Ok.ensures.bound.0 grown)
    | in-Err w ↦ search rules
  ];
}
