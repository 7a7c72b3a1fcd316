use Rattle.final_states.proofs.SearchFacts.{adds-one}
use Rattle.final_states.proofs.search.add.Goals as goal

pub returns-then-len-limit-clause-refused : goal.returns-then-len-limit-clause-refused
returns-then-len-limit-clause-refused c = λ _. adds-one c.args.reached.now.keys c.insert.new.self.keys c.args.words c.in_ok-insert.ensures.keys c.len.ensures.unique

pub returns-clause-added : goal.returns-clause-added
returns-clause-added c = adds-one c.args.reached.now.keys c.insert.new.self.keys c.args.words c.in_ok-insert.ensures.keys c.len.ensures.unique
