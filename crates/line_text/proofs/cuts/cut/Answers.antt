use Rattle.std.proofs.Common.{sym, ◌∙◌}
use Rattle.std.proofs.lemmas.List.{take_rest}
use Rattle.line_text.proofs.CutFacts.{split_found, split_missing}
use Rattle.line_text.proofs.cuts.cut.Goals as goal

pub returns-in-Some-clause-parts : goal.returns-in-Some-clause-parts
returns-in-Some-clause-parts c = rw take_rest (split_found _ c.args.text.now c.in-Some.place 0 (sym c.first_place.ensures ∙ c.in-Some.is))

pub returns-in-None-clause-parts : goal.returns-in-None-clause-parts
returns-in-None-clause-parts c = split_missing _ c.args.text.now (sym c.first_place.ensures ∙ c.in-None.is)
