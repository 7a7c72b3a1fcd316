use Rattle.std.proofs.Common.{◌≡◌, find, reverse, take}
use Rattle.trace_explanation.specs.Diagnoses.{arrives}
use Rattle.trace_explanation.proofs.diagnosis_words.last_arrival.Given as goal

abbrev pub invariant-loop-link : goal.invariant-loop-link
invariant-loop-link l = l.last ≡ find (arrives l.trace l.l) (reverse (take l.link-index l.links))
