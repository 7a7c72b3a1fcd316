use Rattle.std.proofs.Common.{refl}
use Rattle.tso_text.proofs.TextLaws.{schedule_laws}
use Rattle.tso_text.proofs.laws.schedules.Goals as goal

pub returns : goal.returns
returns c = record {
  spelled_or_refused = schedule_laws.either;
  never_both = λ text s r. schedule_laws.not_both text s.0 r.0 r.1 s.1 r.2;
  one_value = schedule_laws.one_value;
  one_text = λ text acts spells. spells.2;
  printed = λ acts within short. (within, short, refl);
  one_refusal = schedule_laws.one_refusal;
}
