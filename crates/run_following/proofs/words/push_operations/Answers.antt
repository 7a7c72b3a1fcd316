use Rattle.std.proofs.Common.{codes, string_bytes}
use Rattle.std.proofs.lemmas.Result.{on_ok_weaker}
use Rattle.run_following.specs.Words.{number_words}
use Rattle.run_following.proofs.AppendedFacts.{three_more}
use Rattle.run_following.proofs.words.push_operations.Goals as goal

pub returns : goal.returns
returns c =
    let counts = c.args.counts in
    on_ok_weaker c.push_number-3.result
    (three_more (string_bytes c.args.text.now) (string_bytes c.push_number.new.text) (string_bytes c.push_number-2.new.text) (string_bytes c.push_number-3.new.text) (number_words (codes "processors ") counts.processors)
    (number_words (codes " operations ") counts.operations) (number_words (codes " loads ") counts.loads) c.in_ok-push_number.ensures c.in_ok-push_number-2.ensures)
    c.push_number-3.ensures
