use Rattle.std.proofs.Common.{◌≡◌, ◌++◌, drop, string_bytes}
use Rattle.std.specs.List.{flat_map}
use Rattle.run_following.specs.Words.{fact_words, told_words}
use Rattle.run_following.proofs.words.push_refusal.Given as goal

abbrev pub invariant-loop-fact : goal.invariant-loop-fact
invariant-loop-fact l = string_bytes l.text ++ flat_map fact_words (drop l.fact-index l.fact-items) ≡ string_bytes l.fn.text ++ told_words l.refusal
