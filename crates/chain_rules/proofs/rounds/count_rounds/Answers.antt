use Rattle.std.proofs.Common.{suc, ◌+◌, ◌*◌, ◌≤◌, refl, sym, ◌∙◌, subst, arith}
use Rattle.std.proofs.lemmas.Bool.{false≢true}
use Rattle.std.proofs.lemmas.Nat.{mul-le}
use Rattle.tso_ops.specs.Events.{event_total}
use Rattle.tso_ops.proofs.EventFacts.{event_total-most}
use Rattle.tso_model.proofs.LastRankSet.{before_last}
use Rattle.chain_rules.specs.Tables.{AreTablesOf}
use Rattle.chain_rules.proofs.RoundFacts.{AreRoundsMade-none, AreRoundsMade-more, HasPairs-most, not_last, rounds_with_cycle, rounds_without_cycle, cycle_led, led_cycle}
use Rattle.chain_rules.proofs.rounds.count_rounds.Goals as goal

pub returns-then-count-clause-rounds : goal.returns-then-count-clause-rounds
returns-then-count-clause-rounds c =
    let t = c.args.trace.now in
    let r = c.in_ok-reach.reach in
    let led = rw c.if-count.true at c.has_cycle.ensures in
    rounds_with_cycle t 0 r led.0 (AreRoundsMade-none t r c.in_ok-reach.ensures.reach) c.requires.written led.1

pub returns-then-count-clause-cycle : goal.returns-then-count-clause-cycle
returns-then-count-clause-cycle c =
    let t = c.args.trace.now in
    let r = c.in_ok-reach.reach in
    let led = rw c.if-count.true at c.has_cycle.ensures in
    (λ is. led_cycle t 0 r led.0 c.in_ok-reach.ensures.reach led.1, λ cycle. c.if-count.true)

pub loop-numbers-init : goal.loop-numbers-init
loop-numbers-init c =
    let t = c.args.trace.now in
    let r = c.in_ok-reach.reach in (
      AreRoundsMade-none t r c.in_ok-reach.ensures.reach,
      rw c.if-count.false at c.has_cycle.ensures,
      c.in_ok-numbers.ensures r,
      subst (λ g. AreTablesOf t g c.in_ok-tables.tables) (sym c.in_ok-reach.ensures.chains) c.in_ok-tables.ensures,
      c.if-count.false,
    )

pub make_round-requires-clause-chains : goal.make_round-requires-clause-chains
make_round-requires-clause-chains c = c.loop-numbers.invariant.0.rank.chains

pub returns-in-Nothing-clause-rounds : goal.returns-in-Nothing-clause-rounds
returns-in-Nothing-clause-rounds c =
    let kept = c.loop-numbers.invariant in
    let end = rw c.in-Nothing.is at c.in_ok-make_round.ensures in
    rounds_without_cycle c.args.trace.now c.loop-numbers.count.rounds c.loop-numbers.reach kept.0 c.requires.written kept.1 end.1

pub returns-in-Nothing-clause-cycle : goal.returns-in-Nothing-clause-cycle
returns-in-Nothing-clause-cycle c =
    let kept = c.loop-numbers.invariant in
    (λ is. absurd (false≢true (sym kept.4 ∙ is)), λ cycle. absurd (let found = cycle_led c.args.trace.now c.loop-numbers.count.rounds c.loop-numbers.reach kept.0.rank cycle in kept.1 found.0 found.1))

pub overflow_add-result : goal.overflow_add-result
overflow_add-result c =
    let n = suc (event_total c.args.trace.now) in
    let few : n ≤ 8001 = (let most = event_total-most c.args.trace.now c.events-events.ensures.kept in omega (arith, most)) in
    let pairs : c.loop-numbers.count.rounds ≤ n * n = HasPairs-most c.loop-numbers.reach n c.loop-numbers.count.rounds c.loop-numbers.invariant.0.pairs in
    let square : n * n ≤ 8001 * 8001 = mul-le n n 8001 8001 few few in
    omega (arith, pairs, square)

pub returns-in-Cycle-clause-rounds : goal.returns-in-Cycle-clause-rounds
returns-in-Cycle-clause-rounds c =
    let t = c.args.trace.now in
    let kept = c.loop-numbers.invariant in
    let end = rw c.in-Cycle.is at c.in_ok-make_round.ensures in
    let more = AreRoundsMade-more t c.loop-numbers.count.rounds c.loop-numbers.reach c.make_round.new.reach kept.0 kept.1 end.0 in
    rounds_with_cycle t (c.loop-numbers.count.rounds + 1) c.make_round.new.reach end.1.0 more c.requires.written end.1.1

pub returns-in-Cycle-clause-cycle : goal.returns-in-Cycle-clause-cycle
returns-in-Cycle-clause-cycle c =
    let t = c.args.trace.now in
    let kept = c.loop-numbers.invariant in
    let end = rw c.in-Cycle.is at c.in_ok-make_round.ensures in
    let more = AreRoundsMade-more t c.loop-numbers.count.rounds c.loop-numbers.reach c.make_round.new.reach kept.0 kept.1 end.0 in
    (λ is. led_cycle t (c.loop-numbers.count.rounds + 1) c.make_round.new.reach end.1.0 more.rank end.1.1, λ cycle. refl)

pub overflow_add-count : goal.overflow_add-count
overflow_add-count c =
    let n = suc (event_total c.args.trace.now) in
    let few : n ≤ 8001 = (let most = event_total-most c.args.trace.now c.events-events.ensures.kept in omega (arith, most)) in
    let pairs : c.loop-numbers.count.rounds ≤ n * n = HasPairs-most c.loop-numbers.reach n c.loop-numbers.count.rounds c.loop-numbers.invariant.0.pairs in
    let square : n * n ≤ 8001 * 8001 = mul-le n n 8001 8001 few few in
    omega (arith, pairs, square)

pub loop-numbers-smaller : goal.loop-numbers-smaller
loop-numbers-smaller c =
    let end = rw c.in-Open.is at c.in_ok-make_round.ensures in
    let before = before_last c.args.trace.now c.loop-numbers.count.rounds
    (not_last c.args.trace.now c.loop-numbers.count.rounds c.loop-numbers.reach c.make_round.new.reach c.loop-numbers.invariant.0 end.0) in
    omega (arith, before)

pub loop-numbers-preserved : goal.loop-numbers-preserved
loop-numbers-preserved c =
    let t = c.args.trace.now in
    let kept = c.loop-numbers.invariant in
    let end = rw c.in-Open.is at c.in_ok-make_round.ensures in (
      AreRoundsMade-more t c.loop-numbers.count.rounds c.loop-numbers.reach c.make_round.new.reach kept.0 kept.1 end.0,
      end.1,
      c.in_ok-numbers-2.ensures.rows c.loop-numbers.count.rounds c.loop-numbers.reach (end.0.follows c.loop-numbers.count.rounds kept.0.rank),
      subst (λ g. AreTablesOf t g c.in_ok-tables.tables) (sym end.0.chains) kept.3,
      kept.4,
    )
