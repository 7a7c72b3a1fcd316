use Rattle.std.proofs.Common.{◌≡◌, ◌∙◌, ap, sym, subst, arith, length, ◌+◌, ◌∷◌, [], Some, None}
use Rattle.std.proofs.lemmas.List.{length-append, get_or_default}
use Rattle.std.specs.HashMap.{get, Updates}
use Rattle.value_check.specs.Internal.Numbering.{pair_at, same_pair}
use Rattle.value_check.proofs.NumberingFacts.{numbers-none, numbers-known, numbers-new, numbering_of}
use Rattle.value_check.proofs.numbering.number_pairs.Goals as goal
use Rattle.value_check.proofs.numbering.number_pairs.Goals.{in-Some, in-None+in_ok-insert-in-None}

pub loop-pair-init : goal.loop-pair-init
loop-pair-init c =
    let empty = c.new-numbers.ensures.items in
    rw empty (omega arith, numbers-none c.args.pairs.now c.new-found.result c.new-found.ensures.empty)

pub overflow_cast-new : goal.overflow_cast-new
overflow_cast-new c = let few = c.loop-pair.invariant.1.few in omega arith

pub overflow_add-count : goal.overflow_add-count
overflow_add-count c = let few = c.loop-pair.invariant.1.few in omega arith

pub loop-pair-preserved : goal.loop-pair-preserved
loop-pair-preserved c =
    let numbers = c.loop-pair.numbers.items in
    let here : pair_at c.args.pairs.now (length numbers) ≡ pair_at c.args.pairs.now c.loop-pair.pair-index = ap (pair_at c.args.pairs.now) c.loop-pair.invariant.0 in
    let pushed = c.in_ok-push.ensures.items in
    let longer : length c.push.new.self.items ≡ c.loop-pair.pair-index + 1 = ap length pushed ∙ length-append numbers (c.match-known.number ∷ []) ∙ ap (λ n. n + 1) c.loop-pair.invariant.0 in (
      longer,
      elim c.match-known.branch [
        | in-Some w ↦
            let looked_up = sym c.get.ensures.value ∙ sym c.copied-known.ensures ∙ w.in-Some.is in
            let at = get_or_default c.args.pairs.now c.loop-pair.pair-index _ (0, 0) c.loop-pair-test.true ∙ sym here in
            let known : get same_pair c.loop-pair.found (pair_at c.args.pairs.now (length numbers)) ≡ Some w.in-Some.number =
            subst (λ q. get same_pair c.loop-pair.found q ≡ Some w.in-Some.number) at looked_up in
            rw (w.found-is, w.count-is, pushed, w.number-is)
            (numbers-known c.args.pairs.now c.loop-pair.found numbers c.loop-pair.count w.in-Some.number c.loop-pair.invariant.1 known)
        | in-None+in_ok-insert-in-None w ↦
            let looked_up = sym c.get.ensures.value ∙ sym c.copied-known.ensures ∙ w.in-None.is in
            let at = get_or_default c.args.pairs.now c.loop-pair.pair-index _ (0, 0) c.loop-pair-test.true ∙ sym here in
            let missing : get same_pair c.loop-pair.found (pair_at c.args.pairs.now (length numbers)) ≡ None =
            subst (λ q. get same_pair c.loop-pair.found q ≡ None) at looked_up in
            let updates : Updates same_pair c.loop-pair.found w.insert.new.self (pair_at c.args.pairs.now (length numbers)) (Some c.loop-pair.count) =
            subst (λ q. Updates same_pair c.loop-pair.found w.insert.new.self q (Some c.loop-pair.count)) at w.in_ok-insert-in-None.ensures.updates in
            rw (w.found-is, w.count-is, pushed, w.number-is)
            (numbers-new c.args.pairs.now c.loop-pair.found w.insert.new.self numbers c.loop-pair.count c.loop-pair.invariant.1 missing updates)
      ],
    )

pub returns : goal.returns
returns c = numbering_of _ _ _ _ c.loop-pair.invariant.1 (omega arith)
