use Rattle.std.proofs.Common.{◌≡◌, ◌+◌, ◌++◌, drop, string_bytes}
use Rattle.run_following.specs.Words.{refusals_words}
use Rattle.run_following.proofs.words.push_refusals.Given as goal

abbrev pub invariant-loop-k : goal.invariant-loop-k
invariant-loop-k l = string_bytes l.text ++ refusals_words l.is_explained (l.k + 1) (drop l.k l.told) ≡ string_bytes l.fn.text ++ refusals_words l.is_explained 1 l.fn.told
