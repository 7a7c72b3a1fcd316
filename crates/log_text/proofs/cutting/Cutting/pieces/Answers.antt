use Rattle.std.proofs.Common.{◌∙◌, ◌++◌, ◌≡◌, [], ◌∷◌, ap, sym, arith}
use Rattle.std.specs.HashSet.{keys}
use Rattle.log_text.specs.Splits.{address_in, pieces}
use Rattle.log_text.proofs.CutFacts.{piece_begins, piece_grows, pieces_end}
use Rattle.log_text.proofs.cutting.Cutting.pieces.Goals.{then-contains+in_ok-push-2, else-contains}
use Rattle.log_text.proofs.cutting.Cutting.pieces.Goals as goal

pub loop-more-preserved : goal.loop-more-preserved
loop-more-preserved c =
    let cuts = keys c.args.self.now.boundaries in
    let a = c.address_in-address.result in
    let more = c.loop-more.more in
    let width = c.args.said.width in
    let all = pieces cuts (address_in c.args.said.line) width in
    elim c.if-contains.branch [
      | then-contains+in_ok-push-2 w ↦ record {
        rest =
            let items : c.if-contains.found.items ≡ c.loop-more.found.items ++ (c.loop-more.start, c.loop-more.count) ∷ [] = ap (λ v. v.items) w.found-is ∙ w.in_ok-push-2.ensures.items in
            rw (items, w.start-is, w.count-is)
            (piece_begins cuts c.loop-more.start c.loop-more.count a more width c.loop-more.found.items all c.loop-more-test.true (sym c.contains.ensures ∙ w.if-contains.true) c.loop-more.invariant.rest);
        few = omega (arith, w.count-is);
      }
      | else-contains w ↦ record {
        rest =
            let items = ap (λ v. v.items) w.found-is in
            rw (items, w.start-is, w.count-is)
            (piece_grows cuts c.loop-more.start c.loop-more.count a more width c.loop-more.found.items all c.loop-more-test.true (sym c.contains.ensures ∙ w.if-contains.false) c.loop-more.invariant.rest);
        few = omega (arith, w.count-is, c.loop-more.invariant.few);
      }
    ]

pub returns : goal.returns
returns c =
    c.in_ok-push-3.ensures.items
    ∙ pieces_end _ c.loop-more.start c.loop-more.count c.address_in-address.result c.loop-more.more c.args.said.width c.loop-more.found.items _ (omega (arith, c.loop-more-test.false)) c.loop-more.invariant.rest
