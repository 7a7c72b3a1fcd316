-- Lemmas on events in cells.
use Rattle.std.proofs.Common.{◌≡◌, ◌∙◌, sym, ap, refl, ℕ, suc, ◌<◌, List, length, Some, slice_index, map, arith}
use Rattle.std.specs.Prelude.{get_or}
use Rattle.std.specs.List.{Contains}
use Rattle.std.proofs.lemmas.List.{get_or-map, get_or_default, length-map}
use Rattle.std.proofs.lemmas.List.Elements.{Contains-get_or}
use Rattle.bitsets.specs.Rows.{IsListOf}
use Rattle.chain_reach.specs.Groups.{node_count, count_of, group_of, IsIn}
use Rattle.chain_reach.proofs.ListFacts.{ascending_at}
use Rattle.tso_ops.specs.Values.{TraceValue}
use Rattle.tso_ops.specs.declared.events.Event.{Event}
use Rattle.tso_ops.specs.Events.{event_at, IsEvent, IsLoad, IsStore, HasSource, SameAddress}
use Rattle.tso_ops.proofs.NumberFacts.{event_unique}
use Rattle.value_check.specs.declared.cells.Cells.{Cells}
use Rattle.value_check.specs.declared.known.Known.{Known}
use Rattle.value_check.specs.Internal.Cells.{AreCells, class_in}
use Rattle.chain_reach.specs.declared.types.Groups.{Groups}
use Rattle.program_chains.specs.declared.events.LogEvent.{LogEvent}
use Rattle.program_chains.specs.Internal.Keys.{event_in, no_event}
use Rattle.program_chains.proofs.EventFacts.{at_number, same_number, total}
use Rattle.value_check.specs.Internal.Known.{AreTablesOf, address_only, value_key}
use Rattle.value_check.specs.Internal.Numbering.{pair_at}
use Rattle.value_check.specs.Internal.Settling.{AreInOrder}

-- what a list contains stands at an index
pub index_of : (list : List ℕ) (x : ℕ) → Contains list x → (i : ℕ) × (i < length list) × (slice_index list i ≡ x)
index_of list x (i, below, is) = (i, below, get_or_default list i 0 x below ∙ is)

module _ (t : TraceValue) (k : Known) (tables : AreTablesOf t k) where
  -- the event of an index
  pub event_here : (x : ℕ) → x < length k.events.items → event_at t (suc x) ≡ Some (event_in k.events.items x)
  event_here x below = at_number t k.events.items tables.events x below

  pub event_of_index : (x : ℕ) → x < length k.events.items → IsEvent t (suc x)
  event_of_index x below = (event_in k.events.items x, event_here x below)

  -- an event's index is one of the table
  pub index_below : (x : ℕ) → IsEvent t (suc x) → x < length k.events.items
  index_below x event = (same_number t k.events.items tables.events x event.0 event.1).0

  -- there are as many numbers in chains
  pub node_total : node_count k.reach.chains ≡ length k.events.items
  node_total = tables.chains.nodes ∙ sym (total t k.events.items tables.events)

  module _ (keys : List (ℕ × ℕ)) (c : Cells) (cells : AreCells keys k.reach.chains c) (whole : length keys ≡ length k.events.items) where
    -- events of a cell are of one chain, and in program order
    pub cell_in_order : (stores : List ℕ) (cell : ℕ) → IsListOf stores (IsIn c.cells cell) → AreInOrder t stores
    cell_in_order stores cell list i j less within =
        let x = slice_index stores i in
        let y = slice_index stores j in
        let in_x : IsIn c.cells cell x = list.only x (Contains-get_or stores i 0 (omega (arith, less, within))) in
        let in_y : IsIn c.cells cell y = list.only y (Contains-get_or stores j 0 within) in
        let below : y < length k.events.items = omega (arith, in_y.0, cells.events, whole) in
        let first : x < y = ascending_at stores list.ascending i j less within in
        let same = cells.one_chain x y (omega (arith, first, below, whole)) (omega (arith, below, whole)) (in_x.1 ∙ sym in_y.1) in
        tables.chains.ordered x y (first, omega (arith, below, node_total), same)

    -- and all stores, or all loads
    pub cell_of_stores : (cell x y : ℕ) → IsIn c.cells cell x → IsIn c.cells cell y → IsStore t (suc x) → IsStore t (suc y)
    cell_of_stores cell x y in_x in_y store =
        let below_x : x < length k.events.items = omega (arith, in_x.0, cells.events, whole) in
        let below_y : y < length k.events.items = omega (arith, in_y.0, cells.events, whole) in
        let same = cells.one_chain x y (omega (arith, below_x, whole)) (omega (arith, below_y, whole)) (in_x.1 ∙ sym in_y.1) in
        tables.chains.stores x y (omega (arith, below_x, node_total), omega (arith, below_y, node_total), same) store

    -- events of one key lie in cells of one class
    pub cell_of_key : (x y : ℕ) → x < length k.events.items → y < length k.events.items → pair_at keys x ≡ pair_at keys y →
        IsIn c.classes (class_in c y) (group_of c.cells x) × (group_of c.cells x < count_of c.cells) × IsIn c.cells (group_of c.cells x) x
    cell_of_key x y below_x below_y same =
        let below : x < length keys = omega (arith, below_x, whole) in
        let cell_below = cells.cell_below x below in
        let one = cells.one_class x y below (omega (arith, below_y, whole)) same in
        ((omega (arith, cell_below, cells.cells), cells.class_of_cell x below ∙ one), cell_below, (omega (arith, below, cells.events), refl))

  -- the value keys are as many as the events
  pub value_keys : length (map value_key k.events.items) ≡ length k.events.items
  value_keys = length-map k.events.items value_key

  -- a store that has the value of a load to its address has its key
  pub source_key : (l x : ℕ) → l < length k.events.items → HasSource t (suc l) (suc x) → (x < length k.events.items) × (pair_at (map value_key k.events.items) x ≡ pair_at (map value_key k.events.items) l)
  source_key l x below source =
      let events = k.events.items in
      let store = source.1 in
      let address = source.2 in
      let value = source.3 in
      let below_x = index_below x (store.0, store.1) in
      let at_x = event_here x below_x in
      let at_l = event_here l below in
      let ax = event_unique t (suc x) (event_in events x) address.0 at_x address.2 in
      let al = event_unique t (suc l) (event_in events l) address.1 at_l address.3 in
      let vx = event_unique t (suc x) (event_in events x) value.0 at_x value.2 in
      let vl = event_unique t (suc l) (event_in events l) value.1 at_l value.3 in
      let same_a : (event_in events x).a ≡ (event_in events l).a = ap (λ (e : Event). e.a) ax ∙ address.4 ∙ ap (λ (e : Event). e.a) (sym al) in
      let same_v : (event_in events x).value ≡ (event_in events l).value = ap (λ (e : Event). e.value) vx ∙ value.4 ∙ ap (λ (e : Event). e.value) (sym vl) in
      let pair : value_key (get_or events x no_event) ≡ value_key (get_or events l no_event) = λ i. (same_a i, same_v i) in
      (below_x, get_or-map value_key events x no_event (0, 0) below_x ∙ pair ∙ sym (get_or-map value_key events l no_event (0, 0) below))

  -- the key of an event
  key_at : (key : LogEvent → ℕ × ℕ) (x : ℕ) → x < length k.events.items → pair_at (map key k.events.items) x ≡ key (get_or k.events.items x no_event)
  key_at key x below = get_or-map key k.events.items x no_event (0, 0) below

  -- events of one class by their addresses have one address
  pub address_of_class : (x y : ℕ) → x < length k.events.items → y < length k.events.items → class_in k.addresses x ≡ class_in k.addresses y → SameAddress t (suc x) (suc y)
  address_of_class x y below_x below_y same =
      let whole = length-map k.events.items address_only in
      let keys = tables.addresses.one_key x y (omega (arith, below_x, whole)) (omega (arith, below_y, whole)) same in
      let pair : address_only (get_or k.events.items x no_event) ≡ address_only (get_or k.events.items y no_event) = sym (key_at address_only x below_x) ∙ keys ∙ key_at address_only y below_y in
      (event_in k.events.items x, event_in k.events.items y, event_here x below_x, event_here y below_y, ap (λ (p : ℕ × ℕ). p.0) pair)

  -- and the other way round
  pub class_of_address : (x y : ℕ) → SameAddress t (suc x) (suc y) → class_in k.addresses x ≡ class_in k.addresses y
  class_of_address x y same =
      let below_x = index_below x (same.0, same.2) in
      let below_y = index_below y (same.1, same.3) in
      let whole = length-map k.events.items address_only in
      let ax = event_unique t (suc x) (event_in k.events.items x) same.0 (event_here x below_x) same.2 in
      let ay = event_unique t (suc y) (event_in k.events.items y) same.1 (event_here y below_y) same.3 in
      let one : (event_in k.events.items x).a ≡ (event_in k.events.items y).a = ap (λ (e : Event). e.a) ax ∙ same.4 ∙ ap (λ (e : Event). e.a) (sym ay) in
      let pair : address_only (get_or k.events.items x no_event) ≡ address_only (get_or k.events.items y no_event) = λ i. (one i, 0) in
      tables.addresses.one_class x y (omega (arith, below_x, whole)) (omega (arith, below_y, whole)) (key_at address_only x below_x ∙ pair ∙ sym (key_at address_only y below_y))

  -- a store of a load's class by address and value is one that it can have read by its value
  pub source_of_class : (l x : ℕ) → x < length k.events.items → IsLoad t (suc l) → IsStore t (suc x) → class_in k.values x ≡ class_in k.values l → HasSource t (suc l) (suc x)
  source_of_class l x below_x load store same =
      let below_l = index_below l (load.0, load.1) in
      let whole = length-map k.events.items value_key in
      let keys = tables.values.one_key x l (omega (arith, below_x, whole)) (omega (arith, below_l, whole)) same in
      let pair : value_key (get_or k.events.items x no_event) ≡ value_key (get_or k.events.items l no_event) = sym (key_at value_key x below_x) ∙ keys ∙ key_at value_key l below_l in (
        load,
        store,
        (event_in k.events.items x, event_in k.events.items l, event_here x below_x, event_here l below_l, ap (λ (p : ℕ × ℕ). p.0) pair),
        (event_in k.events.items x, event_in k.events.items l, event_here x below_x, event_here l below_l, ap (λ (p : ℕ × ℕ). p.1) pair),
      )

  -- an event of a class by address lies in a cell of it
  pub cell_of_class : (x l : ℕ) → x < length k.events.items → class_in k.addresses x ≡ class_in k.addresses l →
      (cell : ℕ) × IsIn k.addresses.classes (class_in k.addresses l) cell × IsIn k.addresses.cells cell x
  cell_of_class x l below same =
      let c = k.addresses in
      let whole = length-map k.events.items address_only in
      let cell_below = tables.addresses.cell_below x (omega (arith, below, whole)) in
      let of_cell = tables.addresses.class_of_cell x (omega (arith, below, whole)) in
      (group_of c.cells x, (omega (arith, cell_below, tables.addresses.cells), of_cell ∙ same), (omega (arith, below, whole, tables.addresses.events), refl))

-- an event of a cell is of the class of the cell
pub class_of_member : (keys : List (ℕ × ℕ)) (chains : Groups) (c : Cells) → AreCells keys chains c → (d cell x : ℕ) → IsIn c.classes d cell → IsIn c.cells cell x → class_in c x ≡ d
class_of_member keys chains c cells d cell x in_class in_cell =
    sym (cells.class_of_cell x (omega (arith, in_cell.0, cells.events))) ∙ ap (group_of c.classes) in_cell.1 ∙ in_class.1
