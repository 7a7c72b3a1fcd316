use Rattle.std.proofs.Common.{◌≡◌, ◌∙◌, ◌+◌, ◌-◌, ◌/◌, ◌<◌, List, [], ℕ, ap, arith, false, get_or, length, subst, sym, true}
use Rattle.std.specs.Global.{Vec}
use Rattle.std.proofs.lemmas.List.{length-map}
use Rattle.tso_ops.specs.Values.{rows}
use Rattle.final_states.specs.FinalStates.{is_below}
use Rattle.outcome_reports.specs.Internal.Counting.{IsBetween}
use Rattle.outcome_reports.proofs.ReadValues.{row_at}
use Rattle.outcome_reports.proofs.ValueOrder.{all_between, between_above, between_below}
use Rattle.outcome_reports.proofs.places.first_from.Goals as goal

pub loop-start-init : goal.loop-start-init
loop-start-init c =
    record {
      order = omega arith;
      within = omega arith;
      between = λ rise. subst (IsBetween (rows c.args.keys.now) c.args.values.now 0) (length-map c.args.keys.now _) (all_between (rows c.args.keys.now) c.args.values.now);
    }

pub loop-start-preserved-then-are_below : goal.loop-start-preserved-then-are_below
loop-start-preserved-then-are_below c =
    let keys = c.args.keys.now in
    let start = c.loop-start.start in
    let end = c.loop-start.end in
    let before = c.loop-start.invariant in
    let less = c.loop-start-test.true in
    let middle = start + (end - start) / 2 in
    let within : middle < end = omega (arith, less) in
    let inside : middle < length keys = omega (arith, within, before.within) in
    let here = row_at keys middle c.index-keys-middle.result inside ∙ sym (c.deref.ensures.value ∙ ap (λ (row : Vec ℕ). row.items) c.index-keys-middle.is) in
    let below : is_below (get_or (rows keys) middle []) c.args.values.now ≡ true = ap (λ (key : List ℕ). is_below key c.args.values.now) here ∙ sym c.are_below.ensures ∙ c.if-are_below.true in
    record {
      order = omega (arith, within);
      within = before.within;
      between = λ rise. between_above (rows keys) c.args.values.now rise start end middle (before.between rise) (subst (λ n. middle < n) (sym (length-map keys _)) inside) below;
    }

pub loop-start-preserved : goal.loop-start-preserved
loop-start-preserved c =
    let keys = c.args.keys.now in
    let start = c.loop-start.start in
    let end = c.loop-start.end in
    let before = c.loop-start.invariant in
    let less = c.loop-start-test.true in
    let middle = start + (end - start) / 2 in
    let within : middle < end = omega (arith, less) in
    let inside : middle < length keys = omega (arith, within, before.within) in
    let here = row_at keys middle c.index-keys-middle.result inside ∙ sym (c.deref.ensures.value ∙ ap (λ (row : Vec ℕ). row.items) c.index-keys-middle.is) in
    let below : is_below (get_or (rows keys) middle []) c.args.values.now ≡ false = ap (λ (key : List ℕ). is_below key c.args.values.now) here ∙ sym c.are_below.ensures ∙ c.if-are_below.false in
    record {
      order = omega arith;
      within = omega (arith, inside);
      between = λ rise. between_below (rows keys) c.args.values.now rise start end middle (before.between rise) (subst (λ n. middle < n) (sym (length-map keys _)) inside) below;
    }

pub returns : goal.returns
returns c =
    let before = c.loop-start.invariant in
    let same : c.loop-start.end ≡ c.loop-start.start = omega (arith, before.order, c.loop-start-test.false) in
    record {
      within = omega (arith, before.order, before.within);
      between = λ rise. subst (IsBetween (rows c.args.keys.now) c.args.values.now c.loop-start.start) same (before.between rise);
    }
