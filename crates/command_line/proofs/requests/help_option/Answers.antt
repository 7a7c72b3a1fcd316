use Rattle.std.proofs.Common.{arith, string_bytes}
use Rattle.std.proofs.lemmas.Grind.{common_steps}
use Rattle.command_line.proofs.ParseLemmas.{many_parsed}
use Rattle.command_line.proofs.requests.help_option.Goals as goal
use Rattle.command_line.proofs.requests.help_option.Goals.{in_default-via-then-arguments-lt1, in_default-via-in-len1+else-eq, in_default-via-in-len2+else-eq-2, in_default-via-else-arguments-lt1+else-arguments-lt2+else-arguments-lt3}

pub returns-in_default : goal.returns-in_default
returns-in_default c =
    elim c.in_default.branch [
      | in_default-via-then-arguments-lt1 w ↦ grind (arith, common_steps)
      | in_default-via-in-len1+else-eq w ↦ grind (arith, common_steps)
      | in_default-via-in-len2+else-eq-2 w ↦ grind (arith, common_steps)
      | in_default-via-else-arguments-lt1+else-arguments-lt2+else-arguments-lt3 w ↦ many_parsed string_bytes c.args.arguments.now (grind (arith, common_steps))
    ]
