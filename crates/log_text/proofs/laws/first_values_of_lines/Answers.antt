use Rattle.log_text.proofs.FirstFacts.{last_counts, others_stay}
use Rattle.log_text.proofs.laws.first_values_of_lines.Goals as goal

pub returns : goal.returns
returns c = record { last = last_counts; others = others_stay }
