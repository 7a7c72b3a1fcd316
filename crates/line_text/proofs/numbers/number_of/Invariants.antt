use Rattle.std.proofs.Common.{◌≡◌, ◌<◌, ◌^◌, drop}
use Rattle.line_text.proofs.NumberFacts.{number_after}
use Rattle.line_text.proofs.numbers.number_of.Given as goal

abbrev pub invariant-loop-byte : goal.invariant-loop-byte
invariant-loop-byte l = record {
  read : number_after 0 l.token ≡ number_after l.value (drop l.byte-index l.token);
  fits : l.value < 2 ^ 64;
}
