use Rattle.std.proofs.Common.{◌∙◌, ◌++◌, Some, ap, sym}
use Rattle.std.proofs.lemmas.Bool.Decides.{Decides-eqb}
use Rattle.std.proofs.lemmas.List.{append_cancel_right}
use Rattle.std.proofs.lemmas.Slice.Eq.{slice_eq-Decides, strip_suffix_is}
use Rattle.trace_streams.proofs.stream_splitters.is_end_line.Goals as goal

pub returns-in-Some : goal.returns-in-Some
returns-in-Some c =
    let before = c.args.before.now in
    let after = c.args.after.now in
    let rest = c.in-Some.rest in
    let whole = sym c.as_slice.ensures ∙ strip_suffix_is Decides-eqb c.as_slice.result.now after (Some rest) c.in-Some.ensures.cases in
    let same = slice_eq-Decides Decides-eqb before rest.now c.eq.result c.eq.ensures in
    (λ is. ap (λ b. b ++ after) (same.0 is) ∙ sym whole, λ is. same.1 (append_cancel_right before rest.now after (is ∙ whole)))
