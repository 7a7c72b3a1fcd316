use Rattle.tso_rules.proofs.reasons.least_given.Goals as goal

pub returns-in-LoadPast : goal.returns-in-LoadPast
returns-in-LoadPast g c = rw c.in-LoadPast.is c.load_past_given.ensures
