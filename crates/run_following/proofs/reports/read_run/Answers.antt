use Rattle.std.proofs.Common.{rules, ◌∙◌, ◌≤◌, ◌++◌, ap, arith, length, subst, sym, take}
use Rattle.std.proofs.lemmas.List.{length-take-le}
use Rattle.run_following.specs.Internal.Endings.{IsEnding}
use Rattle.run_following.specs.Internal.Streams.{StopsAfter}
use Rattle.run_following.proofs.EndingFacts.{before_first, followed_more, followed_to_end, line_ends, taken_more}
use Rattle.run_following.proofs.reports.read_run.Goals as goal

pub loop-init : goal.loop-init
loop-init g c = before_first c.args.options (g.R.Read.remaining c.args.reader.now) c.new-stream.result c.new-stream.ensures.stands c.new-stream.ensures.options.0 c.new-stream.ensures.options.1

pub returns-then-count-eq0-clause-ending : goal.returns-then-count-eq0-clause-ending
returns-then-count-eq0-clause-ending g c =
    followed_to_end c.args.options _ _ (g.R.Read.remaining c.read_some.new.reader) c.loop.stream c.read_some.new.chunk _ c.if-count-eq0.true c.loop.invariant c.in_ok-count.ensures.taken
    (c.in_ok-count.ensures.end c.if-count-eq0.true) c.in_ok-refused.refused c.in_ok-refused.ensures.cut_off

pub returns-then-count-eq0-clause-taken : goal.returns-then-count-eq0-clause-taken
returns-then-count-eq0-clause-taken g c =
    taken_more c.args.options _ _ (g.R.Read.remaining c.read_some.new.reader) c.loop.stream (take c.in_ok-count.count c.read_some.new.chunk) c.loop.invariant c.in_ok-count.ensures.taken
    (let few : length c.read_some.new.chunk ≤ 65536 = search rules in omega (arith, few, c.in_ok-count.ensures.within, length-take-le c.in_ok-count.count c.read_some.new.chunk c.in_ok-count.ensures.within))

pub returns-in-Some-clause-ending : goal.returns-in-Some-clause-ending
returns-in-Some-clause-ending g c =
    let stopped = c.stopped.ensures in
    subst (λ e. IsEnding c.args.options (g.R.Read.remaining c.args.reader.now) e) (sym (ap (λ s. record { stream = s; refused = c.stopped.result.refused }) stopped.stream ∙ ap (λ r. record { stream = c.take.new.self; refused = r }) stopped.refused))
    (line_ends c.args.options _ _ (g.R.Read.remaining c.read_some.new.reader) c.loop.stream c.take.new.self (take c.in_ok-count.count c.read_some.new.chunk) c.loop.invariant c.in_ok-count.ensures.taken c.take.ensures.options.0 c.in-Some.stop
    (λ bytes stands. subst (StopsAfter c.take.new.self (bytes ++ take c.in_ok-count.count c.read_some.new.chunk)) c.in-Some.is (c.in_ok-stop.ensures.stands bytes stands)))

pub returns-in-Some-clause-taken : goal.returns-in-Some-clause-taken
returns-in-Some-clause-taken g c =
    taken_more c.args.options _ _ (g.R.Read.remaining c.read_some.new.reader) c.loop.stream (take c.in_ok-count.count c.read_some.new.chunk) c.loop.invariant c.in_ok-count.ensures.taken
    (let few : length c.read_some.new.chunk ≤ 65536 = search rules in omega (arith, few, c.in_ok-count.ensures.within, length-take-le c.in_ok-count.count c.read_some.new.chunk c.in_ok-count.ensures.within))

pub loop-preserved : goal.loop-preserved
loop-preserved g c =
    followed_more c.args.options _ _ (g.R.Read.remaining c.read_some.new.reader) c.loop.stream c.take.new.self (take c.in_ok-count.count c.read_some.new.chunk) c.loop.invariant c.in_ok-count.ensures.taken c.take.ensures.options.0 c.take.ensures.options.1
    (λ bytes stands. subst (StopsAfter c.take.new.self (bytes ++ take c.in_ok-count.count c.read_some.new.chunk)) c.in_default.is (c.in_ok-stop.ensures.stands bytes stands))
