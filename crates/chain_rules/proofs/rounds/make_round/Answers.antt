use Rattle.std.proofs.Common.{refl}
use Rattle.std.proofs.lemmas.Bool.{both_ways}
use Rattle.tso_ops.specs.Values.{rows}
use Rattle.chain_rules.proofs.RoundFacts.{within_as, none_new, adds_round, closed_led}
use Rattle.chain_rules.proofs.rounds.make_round.Goals as goal

pub returns-then-are_empty : goal.returns-then-are_empty
returns-then-are_empty c =
    let empty = rw c.deref.ensures.value at c.are_empty.ensures.none in
    (refl, none_new c.args.trace.now c.args.reach.now c.args.numbers.now (rows c.in_ok-made.made.items) c.in_ok-made.ensures.least (empty c.if-are_empty.true))

pub closes_cycle-requires : goal.closes_cycle-requires
closes_cycle-requires c =
    rw c.deref-3.ensures.value (within_as c.args.reach.now c.add_round.new.reach c.args.numbers.now (rows c.in_ok-made.made.items) c.add_round.ensures.chains c.in_ok-made.ensures.within)

pub returns-then-closes_cycle : goal.returns-then-closes_cycle
returns-then-closes_cycle c =
    let made = c.in_ok-made.made.items in
    let some = (rw c.deref.ensures.value at c.are_empty.ensures.some) c.if-are_empty.false in
    let joined = rw c.deref-2.ensures.value at c.add_round.ensures.joined in
    let follows = rw c.deref-2.ensures.value at c.add_round.ensures.follows in
    let closes = rw c.deref-3.ensures.value at c.closes_cycle.ensures.closes in (
      adds_round c.args.trace.now c.args.reach.now c.add_round.new.reach c.args.numbers.now made some.0 some.1 c.in_ok-made.ensures.within c.in_ok-made.ensures.least
          c.add_round.ensures.chains c.add_round.ensures.kept joined follows some.2 some.3,
      closed_led c.add_round.new.reach c.args.numbers.now (rows made) joined c.add_round.ensures.transitive (closes.0 c.if-closes_cycle.true),
    )

pub returns : goal.returns
returns c =
    let made = c.in_ok-made.made.items in
    let some = (rw c.deref.ensures.value at c.are_empty.ensures.some) c.if-are_empty.false in
    let joined = rw c.deref-2.ensures.value at c.add_round.ensures.joined in
    let follows = rw c.deref-2.ensures.value at c.add_round.ensures.follows in
    let closed = rw c.deref-2.ensures.value at c.add_round.ensures.closes in
    let closes = rw c.deref-3.ensures.value at c.closes_cycle.ensures.closes in (
      adds_round c.args.trace.now c.args.reach.now c.add_round.new.reach c.args.numbers.now made some.0 some.1 c.in_ok-made.ensures.within c.in_ok-made.ensures.least
          c.add_round.ensures.chains c.add_round.ensures.kept joined follows some.2 some.3,
      λ x leads. both_ways c.closes_cycle.result c.if-closes_cycle.false (closes.1 (closed c.requires.acyclic x leads)),
    )
