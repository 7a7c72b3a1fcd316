-- At locations an order of a log is one of its accesses.
use Rattle.std.proofs.Common.{◌≡◌, ◌∙◌, ℕ, zero, suc, true, false, List, [], ◌∷◌, ◌++◌, map, Some, inl, inr, refl, sym, ap, subst, arith}
use Rattle.std.specs.List.{AllByRecursion, Contains, flat_map, range_with_len}
use Rattle.std.proofs.lemmas.Bool.{false≢true}
use Rattle.std.proofs.lemmas.List.Elements.{recursion_from_All, All-weaker, All-contains_itself}
use Rattle.run_lines.specs.declared.arguments.Widths.TheVariants.{Locations}
use Rattle.run_steps.specs.Widths.{cells_of}
use Rattle.tso_ops.specs.declared.events.Event.{Event}
use Rattle.tso_ops.specs.Settings.{setting_of_first, first_value}
use Rattle.tso_ops.specs.Values.{TraceValue, trace_of_lists}
use Rattle.tso_ops.specs.Events.{event_at, events_of, IsLoad, SameAddress}
use Rattle.tso_ops.proofs.NumberFacts.{event_unique}
use Rattle.tso_model.specs.Axioms.{IsConsistent, IsModelOrder, ReadsGreatest}
use Rattle.log_text.specs.declared.lines.LogLine.{LogLine}
use Rattle.log_text.specs.declared.lines.LogLine.TheVariants.{Note, Pso, First, Issued, Unknown, Memory, End}
use Rattle.log_text.specs.declared.lines.SaidLine.{SaidLine}
use Rattle.log_text.specs.declared.logs.LogOperation.{LogOperation}
use Rattle.log_text.specs.declared.logs.LogOperation.TheVariants.{Ld, St, Sw, Mb, Sb}
use Rattle.log_text.specs.LogTexts.{order_of, first_values, unknown_in, processors_in, issued_by, log_of_lines}
use Rattle.log_text.specs.LogValues.{logged_outcome, log_operations, logged_outcomes}
use Rattle.log_text.specs.Splits.{address_in, pieces, line_on_piece, split_line, split_lines}
use Rattle.wide_orders.specs.WideOrders.{WideOperation, wide_issued_by, plain_lines, wide_lists, wide_trace, event_widths_of, width_of_event, has_cell, cell_value, first_cell, IsAtCell, ShareCell, ReadsGreatestAtCell, IsWideOrder, HasWideOrder, AreWideLines}
use Rattle.wide_orders.proofs.Pieces.{cell_in, first_of_piece}
use Rattle.wide_orders.proofs.PieceValues.{value_of_location}
use Rattle.wide_orders.proofs.CutTraces.{IsPlacedOperation, whole_outcomes, cut_outcomes, cut_places}
use Rattle.wide_orders.proofs.FirstCells.{one_first}
use Rattle.wide_orders.proofs.SplitLines.{is_kept}
use Rattle.wide_orders.proofs.SplitLogs.{split_consistent, places, cut, same_lists, operations_placed, all_of_map, keep}

-- a line says of the whole place what it says
whole_line : (line : LogLine) → line_on_piece line (address_in line, 0) ≡ line
whole_line Note = refl
whole_line Pso = refl
whole_line (First a v) = refl
whole_line (Issued p (Ld a r)) = refl
whole_line (Issued p (St a v)) = refl
whole_line (Issued p (Sw a r v)) = refl
whole_line (Issued p Mb) = refl
whole_line (Issued p Sb) = refl
whole_line (Unknown p a) = refl
whole_line Memory = refl
whole_line End = refl

-- lines without widths aren't cut
uncut : (lines : List SaidLine) → AllByRecursion (λ (s : SaidLine). s.width ≡ 0) lines → flat_map (split_line []) lines ≡ plain_lines lines
uncut [] none = refl
uncut (s ∷ lines) none =
    ap (λ w. map (line_on_piece s.line) (pieces [] (address_in s.line) w) ++ flat_map (split_line []) lines) none.0
    ∙ ap (λ line. line ∷ flat_map (split_line []) lines) (whole_line s.line) ∙ ap (λ rest. s.line ∷ rest) (uncut lines none.1)

-- one operation more
uncut_operation : (width : ℕ) (x : LogOperation) (ops : List WideOperation) → IsPlacedOperation false [] width x → cut_outcomes false [] (is_kept []) ops ≡ whole_outcomes false [] (is_kept []) ops →
    cut_outcomes false [] (is_kept []) (record { operation = x; width = width } ∷ ops) ≡ logged_outcome x ∷ whole_outcomes false [] (is_kept []) ops
uncut_operation (suc w) (Ld a r) ops placed same = absurd (omega (arith, placed))
uncut_operation (suc w) (St a v) ops placed same = absurd (omega (arith, placed))
uncut_operation (suc w) (Sw a r v) ops placed same = absurd (omega (arith, placed))
uncut_operation zero (Ld a r) ops placed same = ap (λ es. logged_outcome (Ld a r) ∷ es) same
uncut_operation zero (St a v) ops placed same = ap (λ es. logged_outcome (St a v) ∷ es) same
uncut_operation zero (Sw a r v) ops placed same = ap (λ es. logged_outcome (Sw a r v) ∷ es) same
uncut_operation w Mb ops placed same = ap (λ es. logged_outcome Mb ∷ es) same
uncut_operation w Sb ops placed same = ap (λ es. logged_outcome Sb ∷ es) same

-- nor are operations, where none are left out
uncut_operations : (ops : List WideOperation) → AllByRecursion (λ x. IsPlacedOperation false [] x.width x.operation) ops → cut_outcomes false [] (is_kept []) ops ≡ whole_outcomes false [] (is_kept []) ops
uncut_operations [] placed = refl
uncut_operations (x ∷ ops) placed = uncut_operation x.width x.operation ops placed.0 (uncut_operations ops placed.1)

-- in all lists
uncut_lists : (lists : List (List WideOperation)) → AllByRecursion (λ ops. AllByRecursion (λ x. IsPlacedOperation false [] x.width x.operation) ops) lists →
    map (cut_outcomes false [] (is_kept [])) lists ≡ map (whole_outcomes false [] (is_kept [])) lists
uncut_lists [] placed = refl
uncut_lists (ops ∷ lists) placed =
    ap (λ es. es ∷ map (cut_outcomes false [] (is_kept [])) lists) (uncut_operations ops placed.0) ∙ ap (λ rest. whole_outcomes false [] (is_kept []) ops ∷ rest) (uncut_lists lists placed.1)

-- the only cell of a location
only_cell : (a width c : ℕ) → width ≡ 0 → has_cell a width c ≡ true → a ≡ c
only_cell a width c none has =
    let inside = cell_in a width c has in
    let one : cells_of width ≡ 1 = ap cells_of none in
    let low = inside.0 in
    let high = inside.1 in
    omega (arith, one, low, high)

-- what it has
only_value : (a width v c : ℕ) → width ≡ 0 → a ≡ c → cell_value a width v c ≡ v
only_value a width v c none same = ap (λ w. cell_value a w v c) none ∙ value_of_location a v c same

module _ (lines : List SaidLine) (none : (s : SaidLine) → Contains lines s → s.width ≡ 0) where
  -- they are lines of locations
  wide : AreWideLines Locations lines
  wide = record { bytes = λ s has is. absurd (false≢true is); locations = λ s has is. none s has; others = λ s has is. none s has }

  -- nothing is cut
  pub same_lines : split_lines Locations lines ≡ plain_lines lines
  same_lines =
      uncut lines
      (recursion_from_All (λ (s : SaidLine). s.width ≡ 0) lines (All-weaker (Contains lines) (λ (s : SaidLine). s.width ≡ 0) none lines (All-contains_itself lines)))

  -- so where the accesses have an order, the log has one
  pub location_logs : HasWideOrder lines → IsConsistent (log_operations (log_of_lines (plain_lines lines)))
  location_logs ordered = subst (λ ls. IsConsistent (log_operations (log_of_lines ls))) same_lines (split_consistent Locations lines wide ordered)

module _ (lines : List SaidLine) (none : (s : SaidLine) → Contains lines s → s.width ≡ 0) (clear : flat_map unknown_in (plain_lines lines) ≡ []) where
  -- the operations of the log are all of the lines
  lists_of_log : map logged_outcomes (map (issued_by (plain_lines lines)) (range_with_len 0 (processors_in (plain_lines lines)))) ≡ map (map (λ x. logged_outcome x.operation)) (wide_lists lines)
  lists_of_log =
      ap (λ ls. map logged_outcomes (map (issued_by ls) (range_with_len 0 (processors_in ls)))) (sym (same_lines lines none)) ∙ same_lists Locations lines (wide lines none)
      ∙ ap (λ un. map (cut_outcomes false [] (is_kept un)) (wide_lists lines)) (ap (flat_map unknown_in) (same_lines lines none) ∙ clear)
      ∙ uncut_lists (wide_lists lines)
      (all_of_map (AllByRecursion (λ (x : WideOperation). IsPlacedOperation false [] x.width x.operation)) (wide_issued_by lines) (λ p. operations_placed Locations lines (wide lines none) p lines (places Locations lines (wide lines none)))
      (range_with_len 0 (processors_in (plain_lines lines))))

  -- the log
  abbrev log : TraceValue
  log = trace_of_lists (setting_of_first (order_of (plain_lines lines)) (first_values (plain_lines lines))) (map (map (λ x. logged_outcome x.operation)) (wide_lists lines))

  -- the accesses have no widths
  no_width : (n : ℕ) (e : Event) → event_at (wide_trace lines) n ≡ Some e → width_of_event lines n ≡ 0
  no_width n e at =
      cut_places false [] (keep Locations lines (wide lines none)) (wide_trace lines) _ (flat_map event_widths_of (wide_lists lines)) (cut Locations lines (wide lines none)) n e at

  -- first values are those of the log
  first_same : (c : ℕ) → first_cell lines c ≡ first_value (first_values (plain_lines lines)) c
  first_same c =
      let start = one_first false [] (c, 0) refl lines (places Locations lines (wide lines none)) in
      let low = start.within.0 in
      let high = start.within.1 in
      let kind : start.width ≡ 0 = start.kind in
      let one : cells_of start.width ≡ 1 = ap cells_of kind in
      let same : start.a ≡ c = omega (arith, low, high, one) in
      start.cells c (first_of_piece (c, 0)) ∙ only_value start.a start.width start.v c kind same ∙ sym start.is ∙ ap (λ ls. first_value (first_values ls) c) (same_lines lines none)

  -- accesses that share a cell have one address
  one_address : (u v : ℕ) → ShareCell lines u v → SameAddress log u v
  unfolding event_at events_of
  one_address u v (c, (d, at_d, has_d), (e, at_e, has_e)) =
      (d, e, at_d, at_e, only_cell d.a (width_of_event lines u) c (no_width u d at_d) has_d ∙ sym (only_cell e.a (width_of_event lines v) c (no_width v e at_e) has_e))

  module _ (order : List ℕ) (right : IsModelOrder log order) where
    -- a load reads in its cell what it reads
    reads_cell : (l c : ℕ) → IsLoad (wide_trace lines) l → IsAtCell lines c l → ReadsGreatestAtCell lines order c l
    unfolding event_at events_of
    reads_cell l c load (e, at, has) = by_read (right.value l load)
      where
        here : e.a ≡ c
        here = only_cell e.a (width_of_event lines l) c (no_width l e at) has

        value_here : cell_value e.a (width_of_event lines l) e.value c ≡ e.value
        value_here = only_value e.a (width_of_event lines l) e.value c (no_width l e at) here

        by_read : ReadsGreatest log order l → ReadsGreatestAtCell lines order c l
        by_read (inl ((f, at_f, first), unseen)) =
            let one : f ≡ e = event_unique log l f e at_f at in
            let value : e.value ≡ first_value (first_values (plain_lines lines)) e.a = subst (λ (x : Event). x.value ≡ first_value (first_values (plain_lines lines)) x.a) one first in
            inl (
              (e, at, value_here ∙ value ∙ ap (first_value (first_values (plain_lines lines))) here ∙ sym (first_same c)),
              λ s seen. unseen s (seen.0, one_address s l (c, seen.1, (e, at, has)), seen.2),
            )
        by_read (inr (s, (store, (d, f, at_d, at_f, same), seen), (d', f', at_d', at_f', value), last)) =
            let load_is : f ≡ e = event_unique log l f e at_f at in
            let there : d.a ≡ c = same ∙ ap (λ (x : Event). x.a) load_is ∙ here in
            let store_is : d' ≡ d = event_unique log s d' d at_d' at_d in
            let load_too : f' ≡ e = event_unique log l f' e at_f' at in
            let wrote : d.value ≡ e.value = ap (λ (x : Event). x.value) (sym store_is) ∙ value ∙ ap (λ (x : Event). x.value) load_too in
            let none_wide = no_width s d at_d in
            inr (
              s,
              e.value,
              (store, (d, at_d, ap (λ w. has_cell d.a w c) none_wide ∙ subst (λ b. has_cell d.a 0 b ≡ true) there (first_of_piece (d.a, 0))), seen),
              (d, at_d, only_value d.a (width_of_event lines s) d.value c none_wide there ∙ wrote),
              (e, at, value_here),
              λ other other_seen. last other (other_seen.0, one_address other l (c, other_seen.1, (e, at, has)), other_seen.2),
            )

    -- the order of the log is one of the accesses
    wide_order : IsWideOrder lines order
    unfolding event_at events_of
    wide_order = record {
      memory_order = record { once = right.memory_order.once; events = right.memory_order.events };
      load_op = right.load_op;
      store_store = λ u v first second earlier keeps.
          right.store_store u v first second earlier (elim keeps [ inl model ↦ inl model | inr shared ↦ inr (one_address u v shared) ]);
      stbar = right.stbar;
      membar = right.membar;
      swap = right.swap;
      atomicity = right.atomicity;
      value = λ l c load at known. reads_cell l c load at;
    }

-- where all places are locations, and none is named by a line `un`, an order of the log is one of the accesses
pub location_orders : (lines : List SaidLine) → ((s : SaidLine) → Contains lines s → s.width ≡ 0) → flat_map unknown_in (plain_lines lines) ≡ [] →
    IsConsistent (log_operations (log_of_lines (plain_lines lines))) → HasWideOrder lines
location_orders lines none clear consistent =
    let there = subst (λ lists. IsConsistent (trace_of_lists (setting_of_first (order_of (plain_lines lines)) (first_values (plain_lines lines))) lists)) (lists_of_log lines none clear) consistent in
    (there.0, wide_order lines none clear there.0 there.1)
