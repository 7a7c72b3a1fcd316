use Rattle.std.proofs.Common.{rules, nat_eq}
use Rattle.std.specs.HashSet.{contains}
use Rattle.std.proofs.lemmas.Fn.{filter_same}
use Rattle.run_following.specs.KeptLines.{line_number}
use Rattle.run_following.proofs.kept_lines.KeptLines.keep_only.Goals as goal

pub returns : goal.returns
returns c = filter_same _ (λ line. contains nat_eq c.args.numbers.now (line_number line)) _ (λ x b f' k. search rules) _ _ c.retain.ensures.filtered
