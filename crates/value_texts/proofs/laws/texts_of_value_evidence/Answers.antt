use Rattle.value_texts.proofs.DistinctFacts.{printed_spells}
use Rattle.value_texts.proofs.SpellingFacts.{spelled_or_refused, not_both, one_value, one_refusal}
use Rattle.value_texts.proofs.laws.texts_of_value_evidence.Goals as goal

pub returns : goal.returns
returns c = record {
  spelled_or_refused = spelled_or_refused;
  never_both = λ names text s r. not_both names text s.0 r.0 r.1 s.1 r.2;
  one_value = one_value;
  one_refusal = one_refusal;
  printed = printed_spells;
}
