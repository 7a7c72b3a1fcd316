use Rattle.std.proofs.Common.{◌∙◌, ◌<◌, ℕ, ap, arith, subst, sym}
use Rattle.std.specs.Global.{Vec}
use Rattle.std.proofs.lemmas.List.{length-map}
use Rattle.tso_ops.specs.Values.{rows}
use Rattle.outcome_reports.proofs.ReadValues.{row_at}
use Rattle.outcome_reports.proofs.ValueOrder.{nowhere, true_not_false}
use Rattle.outcome_reports.proofs.places.place_of.Goals as goal
use Rattle.outcome_reports.proofs.places.place_of.Goals.{else-k-keys-via-then-k-keys+else-are_same, else-k-keys-via-else-k-keys}

pub returns-then-are_same-clause-place : goal.returns-then-are_same-clause-place
returns-then-are_same-clause-place c =
    let keys = c.args.keys.now in
    let k = c.first_from-k.result in
    let here = row_at keys k c.index-keys-k.result c.if-k-keys.true ∙ sym (c.deref.ensures.value ∙ ap (λ (row : Vec ℕ). row.items) c.index-keys-k.is) in
    (subst (λ n. k < n) (sym (length-map keys _)) c.if-k-keys.true, here ∙ c.are_same.ensures.0 c.if-are_same.true)

pub returns : goal.returns
returns c =
    let keys = c.args.keys.now in
    let k = c.first_from-k.result in
    record {
      place = nowhere (rows keys) c.args.values.now k c.first_from-k.ensures.between (λ inside is.
          elim c.else-k-keys.branch [
            | else-k-keys-via-then-k-keys+else-are_same w ↦
                (let here = row_at keys k w.index-keys-k.result w.if-k-keys.true ∙ sym (w.deref.ensures.value ∙ ap (λ (row : Vec ℕ). row.items) w.index-keys-k.is) in
                true_not_false w.are_same.result (w.are_same.ensures.1 (sym here ∙ is)) w.if-are_same.false)
            | else-k-keys-via-else-k-keys w ↦ (let past = w.if-k-keys.false in let count = length-map keys (λ (row : Vec ℕ). row.items) in omega (arith, past, count, inside))
          ]);
      within = tt;
    }
