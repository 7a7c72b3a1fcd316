-- The log of the pieces of a run at bytes that holds has an order.
use Rattle.std.proofs.Common.{◌≡◌, ◌∙◌, sym, ap, refl, subst, ℕ, zero, suc, ◌+◌, ◌*◌, ◌<◌, ◌≤◌, ◌||◌, Bool, true, false, cond, nat_eq, List, [], ◌∷◌, ◌++◌, length, map, filter, get_or, flat_map, append_assoc, eq-eqb, arith}
use Rattle.std.specs.List.{AllByRecursion, list_any}
use Rattle.std.proofs.Math.Bool.{or-true}
use Rattle.std.proofs.lemmas.List.{map-append}
use Rattle.std.proofs.lemmas.List.Elements.{filter-append}
use Rattle.std.proofs.lemmas.List.Folds.{list_any-append}
use Rattle.tso_ops.specs.declared.settings.Order.{Order}
use Rattle.tso_ops.specs.declared.settings.Order.TheVariants.{Tso as OrderTso, Pso as OrderPso}
use Rattle.tso_ops.specs.Settings.{first_value}
use Rattle.run_steps.specs.declared.cells.Cell.TheVariants.{First}
use Rattle.run_steps.specs.declared.steps.RunLine.{RunLine}
use Rattle.run_steps.specs.declared.steps.RunStep.{RunStep}
use Rattle.run_steps.specs.Machine.{ProcessorState, MachineState, admitted, idle, next_state, waits_of}
use Rattle.run_steps.specs.Reads.{seen_in, sees}
use Rattle.run_steps.specs.Runs.{HoldsFrom}
use Rattle.tso_model.specs.Axioms.{IsConsistent}
use Rattle.run_lines.specs.declared.arguments.Widths.{Widths}
use Rattle.run_lines.specs.declared.arguments.Widths.TheVariants.{Unseen, Locations, Bytes}
use Rattle.log_text.specs.declared.lines.LogLine.{LogLine}
use Rattle.log_text.specs.declared.lines.LogLine.TheVariants as said
use Rattle.log_text.specs.declared.lines.SaidLine.{SaidLine}
use Rattle.log_text.specs.LogTexts.{first_values, is_model, is_step, log_of_lines, order_of}
use Rattle.log_text.specs.LogValues.{log_operations}
use Rattle.log_text.specs.Splits.{address_in, boundaries_in, is_boundary, line_on_piece, pieces, pieces_from, split_line, split_lines}
use Rattle.log_text.proofs.PieceFacts.{locations_whole}
use Rattle.run_orders.specs.RunLogs.{AreNumberedAbove, IsAtLocation, logged_line}
use Rattle.run_orders.specs.SplitLogs.{AreCutAt, IsAtBytes, IsHeldSplitRun, cell_at_first, logged_with_width}
use Rattle.run_orders.proofs.Lists.{all-append}
use Rattle.run_orders.proofs.States.{admitted_same, admitted_within, tag_of}
use Rattle.run_orders.proofs.Told.{is_said}
use Rattle.run_orders.proofs.Pieces.{AreCutWaits, IsSameMemory, split_waits}
use Rattle.run_orders.proofs.PieceReads.{read_same}
use Rattle.run_orders.proofs.PieceFirsts.{first_same}
use Rattle.run_orders.proofs.PieceSteps.{Follows}
use Rattle.run_orders.proofs.PieceLines.{IsCutStep, said_pieces, told_by}
use Rattle.run_orders.proofs.PieceStates.{Split, split_same}
use Rattle.run_orders.proofs.PieceRuns.{split_step}
use Rattle.run_orders.proofs.Orders.{log_order, told_order}
use Rattle.run_orders.proofs.FirstCells.{first_cell_location}

-- ---- what lines say, piece by piece

is_said_at : (l : LogLine) (piece : ℕ × ℕ) → is_said (line_on_piece l piece) ≡ is_said l
is_said_at said.Note piece = refl
is_said_at said.Pso piece = refl
is_said_at (said.First a v) piece = refl
is_said_at (said.Issued p x) piece = refl
is_said_at (said.Unknown p a) piece = refl
is_said_at said.Memory piece = refl
is_said_at said.End piece = refl

all_kept : (l : LogLine) (ps : List (ℕ × ℕ)) (t : Bool) → is_said l ≡ t → filter is_said (map (line_on_piece l) ps) ≡ cond t (map (line_on_piece l) ps) []
all_kept l [] true is = refl
all_kept l [] false is = refl
all_kept l (p ∷ ps) true is =
    ap (λ b. cond b (line_on_piece l p ∷ filter is_said (map (line_on_piece l) ps)) (filter is_said (map (line_on_piece l) ps))) (is_said_at l p ∙ is)
    ∙ ap (λ lines. line_on_piece l p ∷ lines) (all_kept l ps true is)
all_kept l (p ∷ ps) false is =
    ap (λ b. cond b (line_on_piece l p ∷ filter is_said (map (line_on_piece l) ps)) (filter is_said (map (line_on_piece l) ps))) (is_said_at l p ∙ is)
    ∙ all_kept l ps false is

-- the pieces of a line that says something to a log
abbrev said_of : List ℕ → SaidLine → List LogLine
said_of bs x = cond (is_said x.line) (split_line bs x) []

said_split : (bs : List ℕ) (lines : List SaidLine) → filter is_said (flat_map (split_line bs) lines) ≡ flat_map (said_of bs) lines
said_split bs [] = refl
said_split bs (x ∷ lines) =
    filter-append is_said (split_line bs x) (flat_map (split_line bs) lines)
    ∙ ap (λ ls. ls ++ filter is_said (flat_map (split_line bs) lines)) (all_kept x.line (pieces bs (address_in x.line) x.width) (is_said x.line) refl)
    ∙ ap (λ ls. said_of bs x ++ ls) (said_split bs lines)

said_is_step : (l : LogLine) → is_step l ≡ false → is_said l ≡ false
said_is_step said.Note is = refl
said_is_step said.Pso is = refl
said_is_step (said.First a v) is = refl
said_is_step (said.Issued p x) is = is
said_is_step (said.Unknown p a) is = is
said_is_step said.Memory is = refl
said_is_step said.End is = refl

-- only steps say something
said_by_steps : (bs : List ℕ) (lines : List SaidLine) → flat_map (said_of bs) lines ≡ flat_map (said_of bs) (filter (λ x. is_step x.line) lines)
said_by_steps bs [] = refl
said_by_steps bs (x ∷ lines) = next (is_step x.line) refl (said_by_steps bs lines)
  where
    next : (t : Bool) → is_step x.line ≡ t → flat_map (said_of bs) lines ≡ flat_map (said_of bs) (filter (λ y. is_step y.line) lines) →
        said_of bs x ++ flat_map (said_of bs) lines ≡ flat_map (said_of bs) (cond t (x ∷ filter (λ y. is_step y.line) lines) (filter (λ y. is_step y.line) lines))
    next true is rest = ap (λ ls. said_of bs x ++ ls) rest
    next false is rest = ap (λ b. cond b (split_line bs x) [] ++ flat_map (said_of bs) lines) (said_is_step x.line is) ∙ rest

said_by_run : (bs : List ℕ) (run : List RunLine) → flat_map (said_of bs) (map logged_with_width run) ≡ flat_map (λ line. said_pieces bs line.processor line.step) run
said_by_run bs [] = refl
said_by_run bs (line ∷ run) = ap (λ ls. said_pieces bs line.processor line.step ++ ls) (said_by_run bs run)

-- ---- the memory model

is_model_at : (l : LogLine) (piece : ℕ × ℕ) → is_model (line_on_piece l piece) ≡ is_model l
is_model_at said.Note piece = refl
is_model_at said.Pso piece = refl
is_model_at (said.First a v) piece = refl
is_model_at (said.Issued p x) piece = refl
is_model_at (said.Unknown p a) piece = refl
is_model_at said.Memory piece = refl
is_model_at said.End piece = refl

model_again : (l : LogLine) (ps : List (ℕ × ℕ)) → (is_model l || list_any is_model (map (line_on_piece l) ps)) ≡ is_model l
model_again l [] = or_none (is_model l)
  where
    or_none : (b : Bool) → (b || false) ≡ b
    or_none true = refl
    or_none false = refl
model_again l (p ∷ ps) = ap (λ b. is_model l || (b || list_any is_model (map (line_on_piece l) ps))) (is_model_at l p) ∙ twice (is_model l) (model_again l ps)
  where
    twice : (b : Bool) → (b || list_any is_model (map (line_on_piece l) ps)) ≡ b → (b || (b || list_any is_model (map (line_on_piece l) ps))) ≡ b
    twice true is = refl
    twice false is = is

-- at least one piece says what the line says
model_from : (bs : List ℕ) (l : LogLine) (start count b more : ℕ) → list_any is_model (map (line_on_piece l) (pieces_from bs start count b more)) ≡ is_model l
unfolding pieces_from
model_from bs l start count b zero = ap (λ t. t || false) (is_model_at l (start, count)) ∙ model_again l []
model_from bs l start count b (suc more) = cut (is_boundary bs b) (model_from bs l start (suc count) (suc b) more)
  where
    cut : (t : Bool) → list_any is_model (map (line_on_piece l) (pieces_from bs start (suc count) (suc b) more)) ≡ is_model l →
        list_any is_model (map (line_on_piece l) (cond t ((start, count) ∷ pieces_from bs b 1 (suc b) more) (pieces_from bs start (suc count) (suc b) more))) ≡ is_model l
    cut true rest = ap (λ u. u || list_any is_model (map (line_on_piece l) (pieces_from bs b 1 (suc b) more))) (is_model_at l (start, count)) ∙ model_again l (pieces_from bs b 1 (suc b) more)
    cut false rest = rest

model_of_pieces : (bs : List ℕ) (l : LogLine) (a width : ℕ) → list_any is_model (map (line_on_piece l) (pieces bs a width)) ≡ is_model l
model_of_pieces bs l a zero = ap (λ t. t || false) (is_model_at l (a, 0)) ∙ model_again l []
model_of_pieces bs l a (suc more) = model_from bs l a 1 (suc a) more

model_split : (bs : List ℕ) (lines : List SaidLine) → list_any is_model (flat_map (split_line bs) lines) ≡ list_any is_model (map (λ x. x.line) lines)
model_split bs [] = refl
model_split bs (x ∷ lines) =
    list_any-append is_model (split_line bs x) (flat_map (split_line bs) lines)
    ∙ ap (λ b. b || list_any is_model (flat_map (split_line bs) lines)) (model_of_pieces bs x.line (address_in x.line) x.width)
    ∙ ap (λ b. is_model x.line || b) (model_split bs lines)

-- ---- boundaries

-- each is among them
all_members : (before bs : List ℕ) → AllByRecursion (λ b. is_boundary (before ++ bs) b ≡ true) bs
all_members before [] = tt
all_members before (b ∷ bs) = (
  list_any-append (nat_eq b) before (b ∷ bs)
      ∙ ap (λ t. list_any (nat_eq b) before || (t || list_any (nat_eq b) bs)) (eq-eqb b b refl) ∙ or-true (list_any (nat_eq b) before),
  subst (λ all. AllByRecursion (λ c. is_boundary all c ≡ true) bs) (append_assoc before (b ∷ []) bs) (all_members (before ++ b ∷ []) bs),
)

all_split : (P : ℕ → Type 0) (xs ys : List ℕ) → AllByRecursion P (xs ++ ys) → AllByRecursion P xs × AllByRecursion P ys
all_split P [] ys all = (tt, all)
all_split P (x ∷ xs) ys all = let rest = all_split P xs ys all.1 in ((all.0, rest.0), rest.1)

cut_by_own : (bs : List ℕ) (lines : List SaidLine) → AllByRecursion (λ b. is_boundary bs b ≡ true) (flat_map boundaries_in lines) → AreCutAt bs lines
cut_by_own bs [] all = tt
cut_by_own bs (x ∷ lines) all =
    let both = all_split (λ b. is_boundary bs b ≡ true) (boundaries_in x) (flat_map boundaries_in lines) all in
    (both.0, cut_by_own bs lines both.1)

all_filtered : (P : SaidLine → Type 0) (lines : List SaidLine) → AllByRecursion P lines → AllByRecursion P (filter (λ x. is_step x.line) lines)
all_filtered P [] all = tt
all_filtered P (x ∷ lines) all = next (is_step x.line) (all_filtered P lines all.1)
  where
    next : (t : Bool) → AllByRecursion P (filter (λ y. is_step y.line) lines) →
        AllByRecursion P (cond t (x ∷ filter (λ y. is_step y.line) lines) (filter (λ y. is_step y.line) lines))
    next true rest = (all.0, rest)
    next false rest = rest

cut_steps : (bs : List ℕ) (run : List RunLine) → AreCutAt bs (map logged_with_width run) → AllByRecursion (λ line. IsCutStep bs line.processor line.step) run
cut_steps bs [] all = tt
cut_steps bs (line ∷ run) all = (all.0, cut_steps bs run all.1)

-- ---- runs

-- lines of processor p with these steps, numbered from a number on
abbrev numbered : ℕ → ℕ → List RunStep → List RunLine
numbered n p [] = []
numbered n p (x ∷ xs) = record { number = n; processor = p; step = x } ∷ numbered (suc n) p xs

holds-append : (order : Order) (p n : ℕ) (t : MachineState) (xs : List RunStep) (to : MachineState) (lines : List RunLine) → Follows order p n t xs to → HoldsFrom order to lines →
    HoldsFrom order t (numbered n p xs ++ lines)
holds-append order p n t [] to lines same holds = subst (λ u. HoldsFrom order u lines) same holds
holds-append order p n t (x ∷ xs) to lines follows holds = (follows.0, holds-append order p (suc n) (next_state n p x (admitted p t)) xs to lines follows.1 holds)

numbers_weaken : (m top : ℕ) (lines : List RunLine) → m ≤ top → AreNumberedAbove top lines → AreNumberedAbove m lines
numbers_weaken m top [] less above = tt
numbers_weaken m top (line ∷ lines) less above = let over : top < line.number = above.0 in (omega (arith, less, over), above.1)

numbers-append : (m n p top : ℕ) (xs : List RunStep) (lines : List RunLine) → m < n → n + length xs ≤ suc top → AreNumberedAbove top lines → AreNumberedAbove m (numbered n p xs ++ lines)
numbers-append m n p top [] lines less most above = numbers_weaken m top lines (omega (arith, less, most)) above
numbers-append m n p top (x ∷ xs) lines less most above = (less, numbers-append n (suc n) p top xs lines (omega arith) (omega (arith, most)) above)

locations_numbered : (n p : ℕ) (xs : List RunStep) → AllByRecursion IsAtLocation xs → AllByRecursion (λ line. IsAtLocation line.step) (numbered n p xs)
locations_numbered n p [] all = tt
locations_numbered n p (x ∷ xs) all = (all.0, locations_numbered (suc n) p xs all.1)

logged_numbered : (n p : ℕ) (xs : List RunStep) → map logged_line (numbered n p xs) ≡ map (told_by p) xs
logged_numbered n p [] = refl
logged_numbered n p (x ∷ xs) = ap (λ lines. told_by p x ∷ lines) (logged_numbered (suc n) p xs)

module _ (bs : List ℕ) where
  -- A run at locations that holds from a state, and says what the lines say piece by piece.
  record SplitRun (order : Order) (last : ℕ) (t : MachineState) (lines : List RunLine) : Type 0 where
    run : List RunLine
    holds : HoldsFrom order t run
    locations : AllByRecursion (λ line. IsAtLocation line.step) run
    numbers : AreNumberedAbove (8 * last + 7) run
    said : filter is_said (map logged_line run) ≡ flat_map (λ line. said_pieces bs line.processor line.step) lines

  split_run : (order : Order) (lines : List RunLine) (last : ℕ) (s t : MachineState) → Split bs s t → AreNumberedAbove last lines → AllByRecursion (λ line. IsAtBytes line.step) lines →
      AllByRecursion (λ line. IsCutStep bs line.processor line.step) lines → HoldsFrom order s lines → SplitRun order last t lines
  split_run order [] last s t split numbers bytes cut holds = record { run = []; holds = tt; locations = tt; numbers = tt; said = refl }
  split_run order (line ∷ lines) last s t split numbers bytes cut holds =
      let p = line.processor in
      let n = line.number in
      let from = admitted p s in
      let above : last < n = numbers.0 in
      let here = split_step bs order n p from t (admitted_within p s) (split_same bs s t from t split split.memory (admitted_same p s) (λ q. (refl, refl))) line.step bytes.0 cut.0 holds.0 in
      let rest = split_run order lines n (next_state n p line.step from) here.to here.split numbers.1 bytes.1 cut.1 holds.1 in
      let few : length here.steps ≤ 8 = here.few in
      let first = numbered (8 * n) p here.steps in
      record {
        run = first ++ rest.run;
        holds = holds-append order p (8 * n) t here.steps here.to rest.run here.follows rest.holds;
        locations = all-append (λ x. IsAtLocation x.step) first rest.run (locations_numbered (8 * n) p here.steps here.locations) rest.locations;
        numbers = numbers-append (8 * last + 7) (8 * n) p (8 * n + 7) here.steps rest.run (omega (arith, above)) (omega (arith, few)) rest.numbers;
        said =
            ap (filter is_said) (map-append logged_line first rest.run) ∙ filter-append is_said (map logged_line first) (map logged_line rest.run)
            ∙ ap (λ xs. filter is_said xs ++ filter is_said (map logged_line rest.run)) (logged_numbered (8 * n) p here.steps)
            ∙ ap (λ xs. xs ++ filter is_said (map logged_line rest.run)) here.said
            ∙ ap (λ xs. said_pieces bs p line.step ++ xs) rest.said;
      }

  module _ (said_lines : List SaidLine) (s : MachineState) (lines : List RunLine) (held : IsHeldSplitRun Bytes said_lines s lines) (cut : AreCutAt bs said_lines) where
    -- what the log's lines say, piece by piece
    abbrev log_lines : List LogLine
    log_lines = flat_map (split_line bs) said_lines

    -- the machine at locations, with the first values of the log
    abbrev start : MachineState
    start = record { memory = λ a. First (first_value (first_values log_lines) a); processors = [] }

    waits_first : (p : ℕ) → waits_of s p ≡ []
    waits_first p = ap (λ (x : ProcessorState). x.waits) (ap (λ xs. get_or xs p idle) held.processors)

    tag_first : (p : ℕ) → tag_of s p ≡ 0
    tag_first p = ap (λ (x : ProcessorState). x.stbar) (ap (λ xs. get_or xs p idle) held.processors)

    memory_first : IsSameMemory bs s.memory start.memory
    memory_first from count piece = record {
      value = first_value (first_values log_lines) from;
      bytes = read_same (sees s.memory []) (λ b. seen_in (First (cell_at_first said_lines b))) from count (λ b above below. ap seen_in (held.memory b))
          ∙ first_same bs from count piece said_lines held.first cut;
      whole = refl;
    }

    first_split : Split bs s start
    first_split = record {
      memory = memory_first;
      waits = λ q. ap (split_waits bs) (sym (waits_first q));
      tags = λ q. ap (λ n. 8 * n) (sym (tag_first q));
      cut = λ q. subst (AreCutWaits bs) (sym (waits_first q)) tt;
    }

    same_order : order_of log_lines ≡ order_of (map (λ x. x.line) said_lines)
    same_order = ap (λ b. cond b OrderPso OrderTso) (model_split bs said_lines)

    -- the run at locations
    abbrev split : SplitRun (order_of log_lines) 0 start lines
    split =
        split_run (order_of log_lines) lines 0 s start first_split held.numbers held.places
        (cut_steps bs lines (subst (AreCutAt bs) held.steps (all_filtered (λ x. AllByRecursion (λ b. is_boundary bs b ≡ true) (boundaries_in x)) said_lines cut)))
        (subst (λ order. HoldsFrom order s lines) (sym same_order) held.holds)

    pub split_order : IsConsistent (log_operations (log_of_lines log_lines))
    split_order = told_order log_lines start split.run (record {
      said = said_split bs said_lines ∙ said_by_steps bs said_lines ∙ ap (flat_map (said_of bs)) held.steps ∙ said_by_run bs lines ∙ sym split.said;
      locations = split.locations;
      numbers = numbers_weaken 0 7 split.run (omega arith) split.numbers;
      memory = λ a. refl;
      processors = refl;
      holds = split.holds;
    })

-- the same where they are cut at their own boundaries
own_order : (said_lines : List SaidLine) (s : MachineState) (lines : List RunLine) → IsHeldSplitRun Bytes said_lines s lines →
    IsConsistent (log_operations (log_of_lines (split_lines Bytes said_lines)))
own_order said_lines s lines held =
    let bs = flat_map boundaries_in said_lines in
    split_order bs said_lines s lines held (cut_by_own bs said_lines (all_members [] bs))

-- ---- locations

steps_of_lines : (lines : List SaidLine) → filter is_step (map (λ x. x.line) lines) ≡ map (λ x. x.line) (filter (λ x. is_step x.line) lines)
steps_of_lines [] = refl
steps_of_lines (x ∷ lines) = next (is_step x.line) (steps_of_lines lines)
  where
    next : (t : Bool) → filter is_step (map (λ y. y.line) lines) ≡ map (λ y. y.line) (filter (λ y. is_step y.line) lines) →
        cond t (x.line ∷ filter is_step (map (λ y. y.line) lines)) (filter is_step (map (λ y. y.line) lines))
        ≡ map (λ y. y.line) (cond t (x ∷ filter (λ y. is_step y.line) lines) (filter (λ y. is_step y.line) lines))
    next true rest = ap (λ ls. x.line ∷ ls) rest
    next false rest = rest

lines_of_run : (run : List RunLine) → map (λ x. x.line) (map logged_with_width run) ≡ map logged_line run
lines_of_run [] = refl
lines_of_run (line ∷ run) = ap (λ ls. logged_line line ∷ ls) (lines_of_run run)

location_order : (widths : Widths) (said_lines : List SaidLine) (s : MachineState) (lines : List RunLine) → AllByRecursion (λ x. x.width ≡ 0) said_lines →
    AllByRecursion (λ line. IsAtLocation line.step) lines → IsHeldSplitRun widths said_lines s lines → IsConsistent (log_operations (log_of_lines (split_lines widths said_lines)))
location_order widths said_lines s lines none locations held =
    let log_lines = map (λ (x : SaidLine). x.line) said_lines in
    subst (λ ls. IsConsistent (log_operations (log_of_lines ls))) (sym (locations_whole widths said_lines none))
    (log_order log_lines s lines (record {
      steps = steps_of_lines said_lines ∙ ap (map (λ x. x.line)) held.steps ∙ lines_of_run lines;
      locations = locations;
      numbers = held.numbers;
      memory = λ a. held.memory a ∙ ap First (first_cell_location said_lines a none);
      processors = held.processors;
      holds = held.holds;
    }))

-- the same of any places
pub places_order : (widths : Widths) (said_lines : List SaidLine) (s : MachineState) (lines : List RunLine) → IsHeldSplitRun widths said_lines s lines →
    IsConsistent (log_operations (log_of_lines (split_lines widths said_lines)))
places_order Unseen said_lines s lines held = location_order Unseen said_lines s lines held.first held.places held
places_order Locations said_lines s lines held = location_order Locations said_lines s lines held.first held.places held
places_order Bytes said_lines s lines held = own_order said_lines s lines held
