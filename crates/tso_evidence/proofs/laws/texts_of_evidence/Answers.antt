use Rattle.std.proofs.Common.{refl}
use Rattle.tso_evidence.proofs.SpellingFacts.{spelled_or_refused, not_both, one_value, one_refusal}
use Rattle.tso_evidence.proofs.laws.texts_of_evidence.Goals as goal

pub returns : goal.returns
returns c = record {
  spelled_or_refused = spelled_or_refused;
  never_both = λ text s r. not_both text s.0 r.0 r.1 s.1 r.2;
  one_value = one_value;
  one_text = λ text e spells. spells.1;
  one_refusal = one_refusal;
  printed = λ e fits. (fits, refl);
}
