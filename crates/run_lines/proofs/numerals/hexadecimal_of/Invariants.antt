use Rattle.std.proofs.Common.{◌≡◌, ◌<◌, ◌^◌, drop}
use Rattle.run_lines.proofs.HexadecimalFacts.{hexadecimal_after}
use Rattle.run_lines.specs.Numerals.{hexadecimal}
use Rattle.run_lines.proofs.numerals.hexadecimal_of.Given as goal

abbrev pub invariant-loop-byte : goal.invariant-loop-byte
invariant-loop-byte l = record {
  read : hexadecimal l.digits ≡ hexadecimal_after l.value (drop l.byte-index l.digits);
  fits : l.value < 2 ^ 64;
}
