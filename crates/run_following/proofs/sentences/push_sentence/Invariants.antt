use Rattle.std.proofs.Common.{◌≡◌, ◌++◌, codes, drop, string_bytes}
use Rattle.std.specs.List.{flat_map}
use Rattle.run_following.specs.Sentences.{fact_phrase, sentence_words}
use Rattle.run_following.proofs.sentences.push_sentence.Given as goal

abbrev pub invariant-loop-fact : goal.invariant-loop-fact
invariant-loop-fact l = string_bytes l.text ++ flat_map fact_phrase (drop l.fact-index l.fact-items) ++ codes "." ≡ string_bytes l.fn.text ++ sentence_words l.refusal
