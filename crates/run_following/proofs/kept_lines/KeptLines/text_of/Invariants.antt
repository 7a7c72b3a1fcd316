use Rattle.std.proofs.Common.{◌≡◌, ◌==◌, drop, []}
use Rattle.std.specs.List.{find}
use Rattle.std.specs.Option.{option_map_or}
use Rattle.run_following.specs.KeptLines.{kept_text, line_number}
use Rattle.run_following.proofs.kept_lines.KeptLines.text_of.Given as goal

abbrev pub invariant-loop-line : goal.invariant-loop-line
invariant-loop-line l = option_map_or (λ line. line.text.items) (find (λ line. line_number line == l.number) (drop l.line-index l.line-items)) [] ≡ kept_text l.fn.self l.number
