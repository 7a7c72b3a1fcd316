use Rattle.std.proofs.Common.{◌≡◌, ap, [], arith}
use Rattle.std.proofs.lemmas.List.{nil_from_length}
use Rattle.std.proofs.lemmas.Result.{err_from_is_err_and}
use Rattle.tso_ops.specs.Values.{rows}
use Rattle.final_states.proofs.SearchFacts.{adds-all, adds-then, left-among, left-next, rows-last}
use Rattle.final_states.proofs.search.add_all.Goals as goal

pub loop-words-preserved : goal.loop-words-preserved
loop-words-preserved c =
    let all = rows c.args.next.items in
    let popped = rows-last c.loop-words.next.items c.pop.new.self.items c.in-Some.words c.in-Some.ensures.items in
    let parts = left-among all (rows c.loop-words.next.items) (rows c.pop.new.self.items) c.in-Some.words.items popped c.loop-words.invariant.among in
    record {
      some = adds-then all (rows c.args.reached.now.keys) (rows c.loop-words.reached.keys) (rows c.add.new.reached.keys) c.in-Some.words.items parts.1 c.loop-words.invariant.some c.in_ok-add.ensures.added;
      left = left-next all (rows c.loop-words.next.items) (rows c.pop.new.self.items) (rows c.loop-words.reached.keys) (rows c.add.new.reached.keys) c.in-Some.words.items popped c.in_ok-add.ensures.added
          c.loop-words.invariant.left;
      among = parts.0;
      few = c.in_ok-add.ensures.few;
    }

pub returns-in_err-add-clause-refused : goal.returns-in_err-add-clause-refused
returns-in_err-add-clause-refused c =
    let all = rows c.args.next.items in
    let popped = rows-last c.loop-words.next.items c.pop.new.self.items c.in-Some.words c.in-Some.ensures.items in
    let parts = left-among all (rows c.loop-words.next.items) (rows c.pop.new.self.items) c.in-Some.words.items popped c.loop-words.invariant.among in
    let p = err_from_is_err_and c.from_residual.result c.from_residual.ensures.1 in
    rw (p.1, p.2) (λ many.
    adds-then all (rows c.args.reached.now.keys) (rows c.loop-words.reached.keys) (rows c.add.new.reached.keys) c.in-Some.words.items parts.1 c.loop-words.invariant.some (c.in_err-add.ensures.refused many))

pub returns-clause-added : goal.returns-clause-added
returns-clause-added c =
    let none : c.loop-words.next.items ≡ [] = nil_from_length c.loop-words.next.items (omega (arith, c.in_default.ensures.cases)) in
    adds-all (rows c.args.next.items) (rows c.loop-words.next.items) (rows c.args.reached.now.keys) (rows c.loop-words.reached.keys) (ap rows none) c.loop-words.invariant.some c.loop-words.invariant.left
