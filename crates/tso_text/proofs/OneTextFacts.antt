-- Lines without a fault are written in one way, as they are printed, and keep the limits of their value.
use Rattle.std.proofs.Common.{◌≡◌, ℕ, false, List, [], ◌∷◌, ◌++◌, None, Ok, ap, sym, ◌∙◌, map, refl, arith, append_assoc, subst, ◌+◌, ◌<◌, ◌≤◌, true, ltb, Bool, cond, length, All, Some, length-append}
use Rattle.std.specs.List.{join_with_byte, flat_map, AllByRecursion}
use Rattle.std.proofs.lemmas.List.Splits.{join_with_byte-slice_split}
use Rattle.line_text.specs.Lines.{tokens_of, line_text, is_empty}
use Rattle.tso_text.specs.declared.lines.Line.{Line}
use Rattle.tso_text.specs.Internal.Spelling.{Grammar, line_fault, with_line, is_end, items_of, push_last, said}
use Rattle.std.specs.Prelude.{codes}
use Rattle.std.proofs.lemmas.List.{append-nil, map-append}
use Rattle.std.proofs.lemmas.List.Concat.{flat_map-append}
use Rattle.tso_ops.specs.declared.ops.Op.{Op}
use Rattle.tso_ops.specs.declared.ops.Op.TheVariants.{Ld as OpLd, St as OpSt, Sw as OpSw, Mb as OpMb, Sb as OpSb}
use Rattle.tso_ops.specs.declared.ops.Outcome.{Outcome}
use Rattle.tso_ops.specs.declared.ops.Outcome.TheVariants.{Ld, St, Sw, Mb, Sb}
use Rattle.tso_ops.specs.Settings.{SettingValue, event_limit, barrier_limit}
use Rattle.tso_ops.specs.Values.{op_of, ReadFits}
use Rattle.tso_ops.specs.declared.acts.Act.{Act}
use Rattle.tso_text.specs.declared.lines.Line.TheVariants.{Proc, Item, End}
use Rattle.tso_text.specs.Internal.Grammars.{trace_grammar, program_grammar, schedule_grammar, outcome_fault, program_op_fault, act_fault}
use Rattle.tso_text.specs.Internal.LineReadings.{address, trace_line, program_line, schedule_line, op_fault_after}
use Rattle.tso_text.specs.Printed.{items_text, processor_text, outcome_numbers, op_numbers, outcome_tokens, op_tokens, act_tokens}
use Rattle.tso_text.proofs.CanonicalFacts.{tokens_by, in_range, sound, Fits}
use Rattle.tso_ops.specs.declared.faults.ValueFault.TheVariants.{AddressRange as PastAddresses}
use Rattle.tso_ops.specs.Limits.{has_fault, KeepsLimits, event_count, barrier_count, total_events, total_barriers, stored_by, is_stbar_in_tso}
use Rattle.tso_text.proofs.SaidLines.{Reads, IsTold, IsSaid}
use Rattle.tso_text.proofs.SaidItems.{IsWritableOutcome, IsWritableOp, IsWritableAct, short_outcome, short_op, op_short, trace_reads, program_reads, schedule_reads, not_proc, no_stbar_of}
use Rattle.tso_text.proofs.FaultFacts.{passes}
use Rattle.tso_text.proofs.LineFacts.{items_of-push_last, length-push_last}
use Rattle.std.proofs.lemmas.Bool.{or_parts}
use Rattle.std.proofs.lemmas.Bool.Decides.{nat_tests}
use Rattle.std.proofs.lemmas.List.Elements.{All-push, recursion_from_All}
use Rattle.tso_ops.specs.declared.settings.Order.{Order}
use Rattle.tso_ops.proofs.LimitFacts.{KeepsLimits-push}
use Rattle.tso_text.specs.declared.faults.Why.TheVariants.{TooManyProcessors, ProcessorRange}
use Rattle.tso_text.specs.Texts.{processor_of}
use Rattle.tso_text.specs.Internal.Accepted.{CanSay}

-- The lines of lists, in a grammar: `made` has them for lists, and a line has just these tokens.
pub record Prints {X : Type 0} (g : Grammar X) (made : List (List X) → List (Line X)) (tokens : Line X → List (List ℕ)) : Type 0 where
  pub start : made g.start ≡ []
  pub canonical : (lists : List (List X)) (ps : List (List ℕ)) (l : Line X) → g.said_by ps ≡ Ok l → line_fault g lists l ≡ None → ps ≡ tokens l
  pub more : (lists : List (List X)) (ps : List (List ℕ)) (l : Line X) → g.said_by ps ≡ Ok l → line_fault g lists l ≡ None → is_end (Ok l) ≡ false →
      made (with_line lists l) ≡ made lists ++ l ∷ []

-- a line is its tokens
pub part_text : {X : Type 0} (tokens : Line X → List (List ℕ)) (part : List ℕ) (l : Line X) → tokens_of part ≡ tokens l → part ≡ join_with_byte 32 (tokens l)
unfolding tokens_of
part_text tokens part l same = sym (join_with_byte-slice_split 32 part) ∙ ap (join_with_byte 32) same

-- ---- one way to write a line

-- the tokens of a line without a fault are those that are printed for what it says: its address is in range
canonical : {X : Type 0} (g : Grammar X) (tokens : X → List (List ℕ)) (Can : X → Type 0) (short : X → X) → Reads g.said_by tokens Can short → ((before : List X) (y : X) → g.item_fault before (short y) ≡ None → short y ≡ y) →
    (lists : List (List X)) (ps : List (List ℕ)) (l : Line X) → g.said_by ps ≡ Ok l → line_fault g lists l ≡ None → ps ≡ tokens_by tokens l
canonical {X} g tokens Can short reads same lists ps l says clean = by l (subst (IsTold tokens Can short ps) says (reads.told ps)) clean
  where
    by : (l : Line X) → IsSaid tokens Can short ps l → line_fault g lists l ≡ None → ps ≡ tokens_by tokens l
    by Proc told clean = told
    by (Item x) told clean =
        let s = sound g lists (short told.0) (ap (λ y. line_fault g lists (Item y)) (sym told.3) ∙ clean) in
        told.2 ∙ ap tokens (sym (same (items_of lists) told.0 s.clean) ∙ sym told.3)
    by End told clean = told

outcome_same : (setting : SettingValue) (before : List Op) (y : Outcome) → has_fault setting before (op_of (short_outcome y)) PastAddresses ≡ false → short_outcome y ≡ y
outcome_same setting before (Ld a r) low = ap (λ b. Ld b r) (sym (in_range a low))
outcome_same setting before (St a v) low = ap (λ b. St b v) (sym (in_range a low))
outcome_same setting before (Sw a r v) low = ap (λ b. Sw b r v) (sym (in_range a low))
outcome_same setting before Mb low = refl
outcome_same setting before Sb low = refl

op_same : (setting : SettingValue) (before : List Op) (y : Op) → has_fault setting before (short_op y) PastAddresses ≡ false → short_op y ≡ y
op_same setting before (OpLd a) low = ap OpLd (sym (in_range a low))
op_same setting before (OpSt a v) low = ap (λ b. OpSt b v) (sym (in_range a low))
op_same setting before (OpSw a v) low = ap (λ b. OpSw b v) (sym (in_range a low))
op_same setting before OpMb low = refl
op_same setting before OpSb low = refl

schedule_canonical : (lists : List (List Act)) (ps : List (List ℕ)) (l : Line Act) → schedule_line ps ≡ Ok l → line_fault schedule_grammar lists l ≡ None → ps ≡ tokens_by act_tokens l
schedule_canonical lists ps l says clean = by l (subst (IsTold act_tokens IsWritableAct (λ act. act) ps) says (schedule_reads.told ps))
  where
    by : (l : Line Act) → IsSaid act_tokens IsWritableAct (λ act. act) ps l → ps ≡ tokens_by act_tokens l
    by Proc told = told
    by (Item x) told = told.2 ∙ ap act_tokens (sym told.3)
    by End told = told

-- ---- the lines of lists

-- the lines of processors
abbrev pub made_by : {X : Type 0} → List (List X) → List (Line X)
made_by lists = flat_map (λ row. Proc ∷ map Item row) lists

made_by-push_last : {X : Type 0} (lists : List (List X)) (x : X) → is_empty lists ≡ false → made_by (push_last lists x) ≡ made_by lists ++ Item x ∷ []
made_by-push_last [] x some = absurd cc
made_by-push_last (row ∷ []) x some =
    append-nil (Proc ∷ map Item (row ++ x ∷ [])) ∙ ap (λ r. Proc ∷ r) (map-append Item row (x ∷ [])) ∙ ap (λ r. r ++ Item x ∷ []) (sym (append-nil (Proc ∷ map Item row)))
made_by-push_last (row ∷ next ∷ lists) x some =
    ap (λ r. (Proc ∷ map Item row) ++ r) (made_by-push_last (next ∷ lists) x refl) ∙ sym (append_assoc (Proc ∷ map Item row) (made_by (next ∷ lists)) (Item x ∷ []))

made_by-more : {X : Type 0} (g : Grammar X) (lists : List (List X)) (l : Line X) → line_fault g lists l ≡ None → is_end (Ok l) ≡ false → made_by (with_line lists l) ≡ made_by lists ++ l ∷ []
made_by-more g lists Proc clean running = flat_map-append (λ row. Proc ∷ map Item row) lists ([] ∷ [])
made_by-more g lists (Item x) clean running = made_by-push_last lists x (sound g lists x clean).some
made_by-more g lists End clean running = absurd cc

pub flat_map-Item : {X A : Type 0} (f : Line X → List A) (row : List X) → flat_map f (map Item row) ≡ flat_map (λ x. f (Item x)) row
flat_map-Item f [] = refl
flat_map-Item f (x ∷ row) = ap (λ r. f (Item x) ++ r) (flat_map-Item f row)

-- the text of these lines
pub made_by-text : {X : Type 0} (p : X → List (List ℕ)) (lists : List (List X)) → flat_map (λ l. line_text (tokens_by p l)) (made_by lists) ≡ flat_map (processor_text p) lists
unfolding processor_text items_text
made_by-text p [] = refl
made_by-text p (row ∷ lists) =
    flat_map-append (λ l. line_text (tokens_by p l)) (Proc ∷ map Item row) (made_by lists)
    ∙ ap (λ r. (line_text (codes "proc" ∷ []) ++ r) ++ flat_map (λ l. line_text (tokens_by p l)) (made_by lists)) (flat_map-Item (λ l. line_text (tokens_by p l)) row)
    ∙ ap (λ r. (line_text (codes "proc" ∷ []) ++ flat_map (λ x. line_text (p x)) row) ++ r) (made_by-text p lists)

pub prints_trace : (setting : SettingValue) → Prints (trace_grammar setting) made_by (tokens_by outcome_tokens)
unfolding outcome_fault
prints_trace setting = record {
  start = refl;
  canonical = canonical (trace_grammar setting) outcome_tokens (IsWritableOutcome setting.order) short_outcome (trace_reads setting.order)
      (λ before y clean. outcome_same setting (map op_of before) y (passes (has_fault setting (map op_of before) (op_of (short_outcome y))) clean).past);
  more = λ lists ps l says clean running. made_by-more (trace_grammar setting) lists l clean running;
}

pub prints_program : (setting : SettingValue) → Prints (program_grammar setting) made_by (tokens_by op_tokens)
unfolding program_op_fault
prints_program setting = record {
  start = refl;
  canonical = canonical (program_grammar setting) op_tokens (IsWritableOp setting.order) short_op (program_reads setting.order) (λ before y clean. op_same setting before y (passes (has_fault setting before (short_op y)) clean).past);
  more = λ lists ps l says clean running. made_by-more (program_grammar setting) lists l clean running;
}

-- ---- schedules

abbrev pub acts_made : List (List Act) → List (Line Act)
acts_made lists = map Item (items_of lists)

acts_made-more : (lists : List (List Act)) (ps : List (List ℕ)) (l : Line Act) → schedule_line ps ≡ Ok l → line_fault schedule_grammar lists l ≡ None → is_end (Ok l) ≡ false → acts_made (with_line lists l) ≡ acts_made lists ++ l ∷ []
acts_made-more lists ps Proc says clean running = absurd (not_proc ps says)
acts_made-more [] ps (Item x) says clean running = absurd (let e = (sound schedule_grammar [] x clean).some in cc)
acts_made-more (row ∷ lists) ps (Item x) says clean running = ap (map Item) (items_of-push_last (row ∷ lists) x (omega arith)) ∙ map-append Item (items_of (row ∷ lists)) (x ∷ [])
acts_made-more lists ps End says clean running = absurd cc

pub prints_schedule : Prints schedule_grammar acts_made (tokens_by act_tokens)
prints_schedule = record { start = refl; canonical = schedule_canonical; more = acts_made-more }

-- ---- from line to line

-- What is said of items is said as well with one more, where a line says it and it has no fault after them.
abbrev pub IsKeptByItems : {X : Type 0} → Grammar X → (List X → Type 0) → Type 0
IsKeptByItems {X} g keeps =
    (items : List X) (x : X) (ps : List (List ℕ)) → g.said_by ps ≡ Ok (Item x) → g.item_fault items x ≡ None → keeps items → keeps (items ++ x ∷ [])

-- There are at most 16 lists, and this is said of their items.
pub record KeepsLists {X : Type 0} (keeps : List X → Type 0) (lists : List (List X)) : Type 0 where
  pub few : length lists ≤ 16
  pub items : keeps (items_of lists)

-- a list that begins has no items
items_of-begun : {X : Type 0} (lists : List (List X)) → items_of (lists ++ [] ∷ []) ≡ items_of lists
items_of-begun lists = flat_map-append (λ row. row) lists ([] ∷ []) ∙ append-nil (items_of lists)

above_zero : {X : Type 0} (lists : List (List X)) → is_empty lists ≡ false → 0 < length lists
above_zero [] some = absurd cc
above_zero (row ∷ lists) some = omega arith

not_many : (b : Bool) → cond b (Some TooManyProcessors) None ≡ None → b ≡ false
not_many true e = absurd cc
not_many false e = refl

pub line_kept : {X : Type 0} (g : Grammar X) (keeps : List X → Type 0) → IsKeptByItems g keeps → (lists : List (List X)) (ps : List (List ℕ)) (l : Line X) → g.said_by ps ≡ Ok l →
    line_fault g lists l ≡ None → KeepsLists keeps lists → KeepsLists keeps (with_line lists l)
line_kept g keeps more lists ps Proc says clean kept =
    let off : ltb 15 (length lists) ≡ false = not_many (ltb 15 (length lists)) clean in
    let low : length lists ≤ 15 = grind (arith, nat_tests) in
    record { few = omega (arith, length-append lists ([] ∷ []), low); items = subst keeps (sym (items_of-begun lists)) kept.items }
line_kept g keeps more lists ps (Item x) says clean kept =
    let s = sound g lists x clean in
    record {
      few = omega (arith, length-push_last lists x, kept.few);
      items = subst keeps (sym (items_of-push_last lists x (above_zero lists s.some))) (more (items_of lists) x ps says s.clean kept.items);
    }
line_kept g keeps more lists ps End says clean kept = kept

-- ---- operations

-- the value that the operation writes, if it writes one, has 64 bits
abbrev WriteFits : Op → Type 0
WriteFits op = (v : ℕ) → stored_by op ≡ Some v → Fits v

-- one more operation without a fault keeps the limits
limits_kept : (setting : SettingValue) (ops : List Op) (op : Op) → op_fault_after setting ops op ≡ None → WriteFits op → is_stbar_in_tso setting.order op ≡ false → KeepsLimits setting ops → KeepsLimits setting (ops ++ op ∷ [])
limits_kept setting ops op clean fits no_stbar limits =
    let passed = passes (has_fault setting ops op) clean in
    let many = or_parts (ltb (event_limit setting.version) (total_events ops + event_count op)) (ltb (barrier_limit setting.version) (total_barriers ops + barrier_count op)) passed.many in
    let events : total_events ops + event_count op ≤ event_limit setting.version = let off = many.0 in grind (arith, nat_tests) in
    let barriers : total_barriers ops + barrier_count op ≤ barrier_limit setting.version = let off = many.1 in grind (arith, nat_tests) in
    KeepsLimits-push setting ops op limits record {
      few_events = events;
      few_barriers = barriers;
      in_range = passed.past;
      storable = record { non_zero = passed.zero; new = passed.repeated; fits = fits };
      no_stbar = no_stbar;
    }

value_fits : (v : ℕ) → Fits v → (w : ℕ) → Some v ≡ Some w → Fits w
value_fits v fits w at = let same : v ≡ w = cc in omega (arith, same, fits)

-- what the operation writes has 64 bits, and it is no STBAR under TSO
record OpFits (order : Order) (op : Op) : Type 0 where
  write : WriteFits op
  no_stbar : is_stbar_in_tso order op ≡ false

op_fits : (order : Order) (y : Op) → is_stbar_in_tso order y ≡ false → AllByRecursion Fits (op_numbers y) → OpFits order (short_op y)
op_fits order (OpLd a) can fit = record { write = λ v at. absurd cc; no_stbar = no_stbar_of order (OpLd (address a)) refl }
op_fits order (OpSt a v) can fit = record { write = value_fits v fit.1.0; no_stbar = no_stbar_of order (OpSt (address a) v) refl }
op_fits order (OpSw a v) can fit = record { write = value_fits v fit.1.0; no_stbar = no_stbar_of order (OpSw (address a) v) refl }
op_fits order OpMb can fit = record { write = λ v at. absurd cc; no_stbar = no_stbar_of order OpMb refl }
op_fits order OpSb can fit = record { write = λ v at. absurd cc; no_stbar = can }

-- ---- traces

-- the numbers of the operation fit, and what was read
outcome_numbers_fit : (y : Outcome) → AllByRecursion Fits (outcome_numbers y) → AllByRecursion Fits (op_numbers (op_of y)) × ReadFits (short_outcome y)
outcome_numbers_fit (Ld a r) fit = ((fit.0, tt), fit.1.0)
outcome_numbers_fit (St a v) fit = (fit, tt)
outcome_numbers_fit (Sw a r v) fit = ((fit.0, fit.1.1), fit.1.0)
outcome_numbers_fit Mb fit = (tt, tt)
outcome_numbers_fit Sb fit = (tt, tt)

outcome_line_fits : (order : Order) (ps : List (List ℕ)) (x : Outcome) → trace_line order ps ≡ Ok (Item x) → OpFits order (op_of x) × ReadFits x
outcome_line_fits order ps x says =
    let told = subst (IsTold outcome_tokens (IsWritableOutcome order) short_outcome ps) says ((trace_reads order).told ps) in
    let fit = outcome_numbers_fit told.0 (recursion_from_All Fits (outcome_numbers told.0) told.1.1) in
    rw told.3 (subst (OpFits order) (sym (op_short told.0)) (op_fits order (op_of told.0) told.1.0 fit.0), fit.1)

-- what a line says is no STBAR under TSO
pub outcome_no_stbar : (setting : SettingValue) (x : Outcome) → CanSay (trace_grammar setting) (Item x) → is_stbar_in_tso setting.order (op_of x) ≡ false
outcome_no_stbar setting x said = (outcome_line_fits setting.order said.0 x said.1).0.no_stbar

-- what it read has 64 bits
pub outcome_read_fits : (setting : SettingValue) (x : Outcome) → CanSay (trace_grammar setting) (Item x) → ReadFits x
outcome_read_fits setting x said = (outcome_line_fits setting.order said.0 x said.1).1

-- the outcomes keep the limits, and what they read has 64 bits
pub record AreLawful (setting : SettingValue) (items : List Outcome) : Type 0 where
  pub limits : KeepsLimits setting (map op_of items)
  pub reads : All ReadFits items

pub trace_items : (setting : SettingValue) → IsKeptByItems (trace_grammar setting) (AreLawful setting)
unfolding outcome_fault
trace_items setting items x ps says clean kept =
    let fits = outcome_line_fits setting.order ps x says in
    record {
      limits = rw (map-append op_of items (x ∷ [])) (limits_kept setting (map op_of items) (op_of x) clean fits.0.write fits.0.no_stbar kept.limits);
      reads = All-push ReadFits items x kept.reads fits.1;
    }

-- ---- programs

op_line_fits : (order : Order) (ps : List (List ℕ)) (x : Op) → program_line order ps ≡ Ok (Item x) → OpFits order x
op_line_fits order ps x says =
    let told = subst (IsTold op_tokens (IsWritableOp order) short_op ps) says ((program_reads order).told ps) in
    subst (OpFits order) (sym told.3) (op_fits order told.0 told.1.0 (recursion_from_All Fits (op_numbers told.0) told.1.1))

pub op_no_stbar : (setting : SettingValue) (op : Op) → CanSay (program_grammar setting) (Item op) → is_stbar_in_tso setting.order op ≡ false
op_no_stbar setting op said = (op_line_fits setting.order said.0 op said.1).no_stbar

pub program_items : (setting : SettingValue) → IsKeptByItems (program_grammar setting) (KeepsLimits setting)
unfolding program_op_fault
program_items setting items op ps says clean kept =
    let fits = op_line_fits setting.order ps op says in
    limits_kept setting items op clean fits.write fits.no_stbar kept

-- ---- schedules

no_range : (b : Bool) → cond b (Some ProcessorRange) None ≡ None → b ≡ false
no_range true e = absurd cc
no_range false e = refl

pub act_items : IsKeptByItems schedule_grammar (All (λ act. processor_of act ≤ 15))
unfolding act_fault
act_items items x ps says clean kept =
    let off : ltb 15 (processor_of x) ≡ false = no_range (ltb 15 (processor_of x)) clean in
    let low : processor_of x ≤ 15 = grind (arith, nat_tests) in
    All-push (λ act. processor_of act ≤ 15) items x kept low
