use Rattle.std.proofs.Common.{◌≡◌, ◌∙◌, ◌-◌, ◌++◌, [], ◌∷◌, ℕ, List, get_or, ap, sym, subst, arith, append_assoc}
use Rattle.std.proofs.lemmas.List.{length_push}
use Rattle.line_text.specs.Lines.{parts_of}
use Rattle.log_text.specs.Origins.{AreOriginsOf}
use Rattle.log_text.specs.Tags.{tag_of}
use Rattle.log_text.proofs.tags.read_tags.Goals as goal

pub returns-in_default : goal.returns-in_default
returns-in_default c =
    let r = c.lines.invariant.reached in
    let rest = c.lines.rest.now in
    let whole : r.0 ++ rest ∷ [] ≡ parts_of c.args.text.now = sym (r.1 ∙ ap (λ ps. r.0 ++ ps) c.in_default.ensures.none) in
    let holds = c.in_ok-take.ensures.holds r.0 r.2 r.3 in
    record {
      tags = λ number. holds.are (number - 1) ∙ ap (λ (ps : List (List ℕ)). tag_of (get_or ps (number - 1) [])) whole;
      origins = subst (AreOriginsOf c.args.text.now) (sym c.in_ok-take.ensures.origins) c.lines.invariant.origins;
    }

pub lines-preserved : goal.lines-preserved
lines-preserved c =
    let r = c.lines.invariant.reached in
    let line = c.in-Some.line.now in
    record {
      reached = (
        r.0 ++ line ∷ [],
        r.1 ∙ ap (λ ps. r.0 ++ ps) c.in-Some.ensures.line ∙ sym (append_assoc r.0 (line ∷ []) (parts_of c.in-Some.after.now)),
        (let count = length_push r.0 line in omega (arith, count, r.2)),
        c.in_ok-take-2.ensures.holds r.0 r.2 r.3,
      );
      origins = subst (AreOriginsOf c.args.text.now) (sym c.in_ok-take-2.ensures.origins) c.lines.invariant.origins;
      room = omega (arith, c.in-Some.ensures.shorter, c.lines.invariant.room);
    }
