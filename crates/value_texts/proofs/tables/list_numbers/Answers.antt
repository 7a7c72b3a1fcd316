use Rattle.std.proofs.Common.{◌∙◌, ◌≡◌, ap, sym, subst, true, false, get_or, Some, ◌+◌}
use Rattle.std.specs.HashMap.{get, Updates}
use Rattle.std.specs.Option.{is_some}
use Rattle.value_texts.specs.declared.names.EventName.{EventName}
use Rattle.value_texts.specs.Internal.Tables.{name_key, same_key}
use Rattle.value_texts.proofs.ReadNameFacts.{numbers-known, numbers-new}
use Rattle.value_texts.proofs.tables.list_numbers.Goals as goal
use Rattle.value_texts.proofs.tables.list_numbers.Goals.{then-not-contains_key+in_ok-insert, else-not-contains_key}

pub loop-k-preserved : goal.loop-k-preserved
loop-k-preserved c =
    let names = c.args.names.now in
    let d : EventName = record { line = 0; is_swap_store = false } in
    let k = c.loop-k.k in
    let key = c.key_of-key.ensures in
    elim c.if-not-contains_key.branch [
      | then-not-contains_key+in_ok-insert w ↦
          let none : is_some (get same_key c.loop-k.numbers (name_key (get_or names k d))) ≡ false =
          ap (λ q. is_some (get same_key c.loop-k.numbers q)) (sym key) ∙ sym c.contains_key.ensures ∙ w.if-not-contains_key.true in
          rw w.numbers-is
          (numbers-new names k d c.loop-k-test.true c.loop-k.numbers w.insert.new.self c.loop-k.invariant none
          (subst (λ q. Updates same_key c.loop-k.numbers w.insert.new.self q (Some (k + 1))) key w.in_ok-insert.ensures.updates))
      | else-not-contains_key w ↦
          let some : is_some (get same_key c.loop-k.numbers (name_key (get_or names k d))) ≡ true =
          ap (λ q. is_some (get same_key c.loop-k.numbers q)) (sym key) ∙ sym c.contains_key.ensures ∙ w.if-not-contains_key.false in
          rw w.numbers-is (numbers-known names k d c.loop-k-test.true c.loop-k.numbers c.loop-k.invariant some)
    ]
