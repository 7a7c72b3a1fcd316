use Rattle.std.proofs.Common.{◌∙◌, ◌+◌, ◌++◌, ap, length, max, refl, sym}
use Rattle.log_text.proofs.TagFacts.{HoldsTags-next, HoldsTags-plain}
use Rattle.log_text.proofs.ReadingFacts.{no_elements}
use Rattle.log_text.proofs.tags.LineTags.take.Goals as goal

pub returns-then-is_empty-clause-holds : goal.returns-then-is_empty-clause-holds
returns-then-is_empty-clause-holds c lines count holds =
    HoldsTags-plain c.args.self.now lines c.args.line.now (sym c.tag_of-tag.ensures ∙ no_elements c.tag_of-tag.result.now _ c.is_empty.result refl c.is_empty.ensures c.if-is_empty.true) holds

pub returns-clause-holds : goal.returns-clause-holds
returns-clause-holds c lines count holds =
    HoldsTags-next c.args.self.now c.begin.new.self _ lines c.args.line.now holds c.in_ok-begin.ensures.same (ap (λ v. v.items) c.in_ok-begin.ensures.bytes)
    (c.in_ok-begin.ensures.count ∙ ap (λ n. max (n + 1) (length c.args.self.now.starts.items)) (sym count)) refl
    (c.in_ok-extend_from_slice.ensures.items ∙ ap (λ xs. xs ++ c.tag_of-tag.result.now) (ap (λ v. v.items) c.in_ok-begin.ensures.bytes) ∙ ap (λ t. c.args.self.now.bytes.items ++ t) c.tag_of-tag.ensures)
