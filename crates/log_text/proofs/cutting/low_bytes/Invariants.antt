use Rattle.std.proofs.Common.{◌≡◌, ◌^◌}
use Rattle.log_text.proofs.cutting.low_bytes.Given as goal

abbrev pub invariant-loop-i : goal.invariant-loop-i
invariant-loop-i l = l.bound ≡ 256 ^ l._i
