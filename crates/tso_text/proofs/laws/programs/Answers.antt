use Rattle.std.proofs.Common.{refl}
use Rattle.tso_text.proofs.TextLaws.{program_laws}
use Rattle.tso_text.proofs.laws.programs.Goals as goal

pub returns : goal.returns
returns c = record {
  spelled_or_refused = program_laws.either;
  never_both = λ text s r. program_laws.not_both text s.0 r.0 r.1 s.1 r.2;
  one_value = program_laws.one_value;
  one_text = λ text t spells. spells.1;
  lawful = λ text t spells. spells.0;
  printed = λ t lawful. (lawful, refl);
  one_refusal = program_laws.one_refusal;
}
