use Rattle.std.proofs.Common.{◌≡◌, ◌∙◌, ◌++◌, ap, arith, length, take}
use Rattle.trace_pictures.proofs.LineFacts.{taken-most}
use Rattle.trace_pictures.proofs.lines.arrows_at.Goals as goal

pub returns-clause-most : goal.returns-clause-most
returns-clause-most c =
    let same : c.extend_from_slice.new.self.items ≡ take 40 c.deref.result.now = c.in_ok-extend_from_slice.ensures.items ∙ (ap (λ xs. xs ++ c.first_of.result.now) c.new-here.ensures.items ∙ c.first_of.ensures) in
    let most = taken-most 40 c.deref.result.now in
    omega (arith, most, ap length same)
