use Rattle.std.proofs.Common.{◌<◌, ℕ, subst, suc, slice_index, length, map, arith}
use Rattle.std.proofs.lemmas.List.Elements.{Contains-get_or}
use Rattle.chain_reach.specs.Groups.{IsIn}
use Rattle.tso_ops.specs.Events.{HasSource, IsStore}
use Rattle.value_check.specs.Internal.Known.{value_key}
use Rattle.value_check.specs.Internal.Settling.{AreSources, HasUnsettled, HasUnsettledIn, Settles, SettlesIn}
use Rattle.value_check.proofs.AnswerFacts.{match_weaker, not_so}
use Rattle.value_check.proofs.CellFacts.{cell_in_order, cell_of_stores, class_of_member, index_of, source_of_class, value_keys}
use Rattle.value_check.proofs.known.Known.is_cell_settled.Goals as goal

pub returns-then-stores-eq0 : goal.returns-then-stores-eq0
returns-then-stores-eq0 c = λ t steps known seen load in_class x among store.
    let list = c.members-stores.ensures (omega (arith, in_class.0, known.tables.values.cells)) in
    let at = index_of c.members-stores.result.now x (list.all x among) in
    let within = at.1 in
    absurd (omega (arith, within))

pub returns-then-not-is_store : goal.returns-then-not-is_store
returns-then-not-is_store c = λ t steps known seen load in_class x among store.
    let tables = known.tables in
    let k = c.args.self.now in
    let stores = c.members-stores.result.now in
    let list = c.members-stores.ensures (omega (arith, in_class.0, tables.values.cells)) in
    let first = slice_index stores 0 in
    let in_first : IsIn k.values.cells c.args.cell first = list.only first (Contains-get_or stores 0 0 (omega arith)) in
    let other = cell_of_stores t k tables (map value_key k.events.items) k.values tables.values (value_keys t k tables) c.args.cell x first among in_first store in
    absurd (not_so c.is_store.result (IsStore t (suc first)) (c.is_store.ensures t tables.events) c.if-not-is_store.true other)

pub returns : goal.returns
returns c = λ t steps known seen load in_class.
    let tables = known.tables in
    let k = c.args.self.now in
    let q = c.args.question.now in
    let stores = c.members-stores.result.now in
    let list = c.members-stores.ensures (omega (arith, in_class.0, tables.values.cells)) in
    let keys = value_keys t k tables in
    let ordered = cell_in_order t k tables (map value_key k.events.items) k.values tables.values keys stores c.args.cell list in
    let first = slice_index stores 0 in
    let in_first : IsIn k.values.cells c.args.cell first = list.only first (Contains-get_or stores 0 0 (omega arith)) in
    let is_first : IsStore t (suc first) = (c.is_store.ensures t tables.events).0 c.if-not-is_store.false in
    let source_at : (x : ℕ) → IsIn k.values.cells c.args.cell x → HasSource t (suc q.load) (suc x) = λ x among.
    source_of_class t k tables q.load x (omega (arith, among.0, tables.values.events, keys)) load
    (cell_of_stores t k tables (map value_key k.events.items) k.values tables.values keys c.args.cell first x in_first among is_first)
    (class_of_member (map value_key k.events.items) k.reach.chains k.values tables.values _ c.args.cell x in_class among) in
    let sources : AreSources t q.load stores = λ i below. source_at (slice_index stores i) (list.only (slice_index stores i) (Contains-get_or stores i 0 below)) in
    match_weaker c.are_settled.result ((i : ℕ) → i < length stores → Settles t steps q (slice_index stores i)) (HasUnsettled t steps q stores)
    (SettlesIn t steps k q c.args.cell) (HasUnsettledIn t steps k q c.args.cell)
    (λ all x among store. let at = index_of stores x (list.all x among) in subst (Settles t steps q) at.2 (all at.0 at.1))
    (λ (i, below, fails).
    let x = slice_index stores i in
    let among = list.only x (Contains-get_or stores i 0 below) in
    (x, among, source_at x among, fails))
    (c.are_settled.ensures t steps known seen ordered sources)
