use Rattle.std.proofs.Common.{◌∙◌, []}
use Rattle.outcome_reports.proofs.StreamFacts.{counted_all, counted_more, counted_none, given_all, given_more}
use Rattle.outcome_reports.proofs.seen.count_trace_texts.Goals as goal

pub loop-init : goal.loop-init
loop-init g c =
    let stream = g.S.Read.remaining c.args.stream.now in
    let counts = c.in_ok-counts.ensures in
    record {
      wide = counts.wide;
      has = λ traces are reads. counted_none c.args.program.now traces c.in_ok-pieces.pieces stream c.in_ok-counts.counts c.args.keys.now (c.in_ok-pieces.ensures stream) reads counts;
      given = ([], c.in_ok-pieces.ensures stream);
    }

pub loop-preserved : goal.loop-preserved
loop-preserved g c =
    let stream = g.S.Read.remaining c.args.stream.now in
    let before = c.loop.invariant in
    record {
      wide = c.in_ok-count-in-Some.ensures.wide ∙ before.wide;
      has = λ traces are reads.
          counted_more c.args.program.now traces c.loop.pieces c.next.new.self stream (g.S.Read.remaining c.loop.stream) (g.S.Read.remaining c.next.new.reader) c.loop.counts (before.has traces are reads) c.in_ok-piece.field-0
          (λ given has. c.in_ok-piece.ensures.given stream given has) c.in-Some.piece c.deref.result.now c.in_ok-class_of_text-in-Some.field-0 c.count.new.self c.in-Some.is c.deref.ensures.value
          (c.in_ok-class_of_text-in-Some.ensures.class traces are reads) c.in_ok-count-in-Some.ensures.counted;
      given = given_more c.next.new.self stream (g.S.Read.remaining c.next.new.reader) before.given.0 c.in_ok-piece.field-0 c.in-Some.piece c.in-Some.is (c.in_ok-piece.ensures.given stream before.given.0 before.given.1);
    }

pub returns-in-None-clause-counts : goal.returns-in-None-clause-counts
returns-in-None-clause-counts g c = λ traces are reads.
    let stream = g.S.Read.remaining c.args.stream.now in
    counted_all c.args.program.now traces c.loop.pieces c.next.new.self stream (g.S.Read.remaining c.loop.stream) (g.S.Read.remaining c.next.new.reader) c.loop.counts (c.loop.invariant.has traces are reads) c.in_ok-piece.field-0
    (λ given has. c.in_ok-piece.ensures.given stream given has) c.in-None.is

pub returns-in-None-clause-taken : goal.returns-in-None-clause-taken
returns-in-None-clause-taken g c =
    let stream = g.S.Read.remaining c.args.stream.now in
    let given = c.loop.invariant.given in
    given_all c.next.new.self stream (g.S.Read.remaining c.next.new.reader) given.0 c.in_ok-piece.field-0 c.in-None.is (c.in_ok-piece.ensures.given stream given.0 given.1)
