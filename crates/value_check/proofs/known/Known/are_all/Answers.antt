use Rattle.std.proofs.Common.{◌<◌, sym, subst, refl, ⊎_elim, zero, suc, inl, inr, slice_index, map, arith}
use Rattle.std.proofs.lemmas.Bool.{cases_eq, MatchBool-at_false, MatchBool-at_true}
use Rattle.std.proofs.lemmas.List.Elements.{Contains-get_or}
use Rattle.chain_reach.specs.Groups.{group_of, IsIn}
use Rattle.value_evidence.specs.Candidates.{CanRead}
use Rattle.value_check.specs.declared.settling.Question.{Question}
use Rattle.value_check.specs.Internal.Cells.{class_in}
use Rattle.value_check.specs.Internal.Known.{value_key}
use Rattle.value_check.specs.Internal.Settling.{HasUnsettledIn, Meets, SettlesIn}
use Rattle.value_check.proofs.AnswerFacts.{not_so, refuses}
use Rattle.value_check.proofs.CellFacts.{cell_of_key, index_below, index_of, source_key, value_keys}
use Rattle.value_check.proofs.known.Known.are_all.Goals as goal

pub loop-cell-preserved : goal.loop-cell-preserved
loop-cell-preserved c = λ t steps known seen load j below.
    let k = c.args.self.now in
    let q : Question = record { load = c.args.load; wanted = c.args.wanted; seen = c.in_ok-seen.seen } in
    let cells = c.cells_of-cell-items.result.now in
    let i = c.loop-cell.cell-index in
    let cell = slice_index cells i in
    let l_below = index_below t k known.tables c.args.load (load.0, load.1) in
    let of_load = c.cells_of-cell-items.ensures (map value_key k.events.items) k.reach.chains known.tables.values (omega (arith, l_below, value_keys t k known.tables)) in
    let in_class : IsIn k.values.classes (class_in k.values c.args.load) cell = of_load.only cell (Contains-get_or cells i 0 c.loop-cell-test.true) in
    elim (cases_eq j i) [
      | inl same ↦
          subst (λ n. SettlesIn t steps k q (slice_index cells n)) (sym same)
          (MatchBool-at_true (SettlesIn t steps k q cell) (HasUnsettledIn t steps k q cell) c.if-not-is_cell_settled.false (c.is_cell_settled.ensures t steps known seen load in_class))
      | inr other ↦ c.loop-cell.invariant t steps known seen load j (omega (arith, other, below))
    ]

pub returns-then-not-is_first_settled : goal.returns-then-not-is_first_settled
returns-then-not-is_first_settled c = λ t steps known load.
    refuses (λ all.
    not_so c.is_first_settled.result (CanRead t steps (suc c.args.load) 0 → Meets t steps (suc c.args.load) c.args.wanted 0)
    (c.is_first_settled.ensures t steps known (c.in_ok-seen.ensures t steps known load) load) c.if-not-is_first_settled.true (all 0))

pub returns-then-not-is_cell_settled : goal.returns-then-not-is_cell_settled
returns-then-not-is_cell_settled c = λ t steps known load.
    let k = c.args.self.now in
    let q : Question = record { load = c.args.load; wanted = c.args.wanted; seen = c.in_ok-seen.seen } in
    let cells = c.cells_of-cell-items.result.now in
    let i = c.loop-cell.cell-index in
    let cell = slice_index cells i in
    let l_below = index_below t k known.tables c.args.load (load.0, load.1) in
    let of_load = c.cells_of-cell-items.ensures (map value_key k.events.items) k.reach.chains known.tables.values (omega (arith, l_below, value_keys t k known.tables)) in
    let in_class : IsIn k.values.classes (class_in k.values c.args.load) cell = of_load.only cell (Contains-get_or cells i 0 c.loop-cell-test.true) in
    let some = MatchBool-at_false (SettlesIn t steps k q cell) (HasUnsettledIn t steps k q cell) c.if-not-is_cell_settled.true
    (c.is_cell_settled.ensures t steps known (c.in_ok-seen.ensures t steps known load) load in_class) in
    refuses (λ all. some.3 (inr (all (suc some.0) (some.2, λ gone. some.3 (inl gone)))))

pub returns : goal.returns
returns c = λ t steps known load. (
  λ is r can.
      elim r as (λ r. CanRead t steps (suc c.args.load) r → Meets t steps (suc c.args.load) c.args.wanted r) [
        | zero ↦ λ can. (c.is_first_settled.ensures t steps known (c.in_ok-seen.ensures t steps known load) load).0 c.if-not-is_first_settled.false can
        | suc x ↦ λ can.
            let k = c.args.self.now in
            let tables = known.tables in
            let l_below = index_below t k tables c.args.load (load.0, load.1) in
            let key = source_key t k tables c.args.load x l_below can.0 in
            let cell = cell_of_key t k tables (map value_key k.events.items) k.values tables.values (value_keys t k tables) x c.args.load key.0 l_below key.1 in
            let list = c.cells_of-cell-items.ensures (map value_key k.events.items) k.reach.chains tables.values (subst (λ n. c.args.load < n) (sym (value_keys t k tables)) l_below) in
            let at = index_of c.cells_of-cell-items.result.now (group_of k.values.cells x) (list.all (group_of k.values.cells x) cell.0) in
            let settled = c.loop-cell.invariant t steps known (c.in_ok-seen.ensures t steps known load) load at.0 (omega (arith, at.1))
            x (subst (λ n. IsIn k.values.cells n x) (sym at.2) cell.2) can.0.1 in
            ⊎_elim (λ gone. absurd (can.1 gone)) (λ meets. meets) settled
      ] can,
  λ all. refl,
)
