use Rattle.std.proofs.Common.{◌≡◌, ◌++◌, ◌∷◌, [], ◌+◌, ◌∙◌, ap, sym, suc, length, drop}
use Rattle.std.proofs.lemmas.List.{map-append}
use Rattle.tso_ops.specs.Values.{rows}
use Rattle.log_selections.specs.Internal.Accesses.{accesses_of_list, accesses_of_lists, numbers_from, numbers_of_lists}
use Rattle.log_selections.proofs.AccessFacts.{rows-next, accesses-next, numbers-next}
use Rattle.log_selections.proofs.accesses.number_accesses.Goals as goal

pub loop-list-preserved : goal.loop-list-preserved
loop-list-preserved c =
    let i = c.loop-list.list-index in
    let lists = c.args.lists.now in
    let row = c.list-item.result.items in
    let rest = drop (i + 1) (rows lists) in
    let next = rows-next lists i c.list-item.result c.loop-list-test.true c.list-item.is in
    let pushed : c.number_list.new.accesses.items ≡ c.loop-list.accesses.items ++ accesses_of_list row =
    c.in_ok-number_list.ensures.accesses ∙ ap (λ xs. c.loop-list.accesses.items ++ accesses_of_list xs) c.deref.ensures.value in
    let from : c.in_ok-number_list.field-0.items ≡ numbers_from (suc (length c.loop-list.accesses.items)) row =
    c.in_ok-number_list.ensures.numbers ∙ ap (numbers_from (suc (length c.loop-list.accesses.items))) c.deref.ensures.value in
    let numbered : rows c.push.new.self.items ≡ rows c.loop-list.numbers.items ++ numbers_from (suc (length c.loop-list.accesses.items)) row ∷ [] =
    ap rows c.in_ok-push.ensures.items ∙ map-append _ c.loop-list.numbers.items _ ∙ ap (λ ns. rows c.loop-list.numbers.items ++ ns ∷ []) from in
    let a = accesses-next c.loop-list.accesses.items row rest in
    let n = numbers-next c.loop-list.accesses.items (rows c.loop-list.numbers.items) row rest in (
      ap (λ done. done ++ accesses_of_lists rest) pushed ∙ a ∙ ap (λ rs. c.loop-list.accesses.items ++ accesses_of_lists rs) (sym next) ∙ c.loop-list.invariant.0,
      ap (λ done. rows c.push.new.self.items ++ numbers_of_lists (suc (length done)) rest) pushed
          ∙ ap (λ ns. ns ++ numbers_of_lists (suc (length (c.loop-list.accesses.items ++ accesses_of_list row))) rest) numbered
          ∙ n ∙ ap (λ rs. rows c.loop-list.numbers.items ++ numbers_of_lists (suc (length c.loop-list.accesses.items)) rs) (sym next) ∙ c.loop-list.invariant.1,
    )
