-- What the log of a run's lines says of each processor.
use Rattle.std.proofs.Common.{◌≡◌, ◌∙◌, sym, ap, refl, ℕ, zero, suc, ◌+◌, ◌<◌, ◌≤◌, ◌||◌, max, Bool, true, false, not, cond, nat_eq, ◌==◌, if◌then◌else◌, List, [], ◌∷◌, ◌++◌, map, filter, flat_map, eq-eqb, arith}
use Rattle.std.specs.List.{AllByRecursion, list_any, range_with_len}
use Rattle.std.proofs.lemmas.List.{map-append}
use Rattle.std.proofs.Math.Bool.{or-true}
use Rattle.std.proofs.lemmas.List.Elements.{filter-append}
use Rattle.std.proofs.lemmas.List.Folds.{list_any-append}
use Rattle.tso_ops.specs.declared.ops.Outcome.{Outcome}
use Rattle.run_steps.specs.declared.steps.RunLine.{RunLine}
use Rattle.run_steps.specs.declared.steps.RunStep.{RunStep}
use Rattle.run_steps.specs.declared.steps.RunStep.TheVariants.{Load, Store, Drain, Write, Swap, Reserve, StoreReserved, Membar, Stbar, Unknown, Last}
use Rattle.run_lines.specs.Lines.{numbers_of_step, step_word}
use Rattle.log_text.specs.declared.lines.LogLine.{LogLine}
use Rattle.log_text.specs.declared.lines.LogLine.TheVariants as said
use Rattle.log_text.specs.declared.logs.LogOperation.{LogOperation}
use Rattle.log_text.specs.declared.logs.LoggedOperation.{LoggedOperation}
use Rattle.log_text.specs.LogLines.{step_told}
use Rattle.log_text.specs.LogTexts.{is_at_one_of, is_operation_at, is_step, issued_by, issued_from, issued_in, processors_in, processors_to, unknown_in, without_addresses}
use Rattle.log_text.specs.LogValues.{logged_outcome, logged_outcomes}
use Rattle.unit_core.specs.declared.steps.Step.{Step}
use Rattle.unit_core.specs.Machine.{lists_from, outcomes_of}
use Rattle.embedding.specs.Sizes.{Sizes}
use Rattle.run_orders.specs.RunLogs.{logged_line}
use Rattle.run_orders.proofs.Told.{is_said, outcomes_told}
use Rattle.run_orders.proofs.Lines.{Suits, told_to}

-- ---- operations

-- the operation as one of a trace, where its location is known
abbrev said_by : List ℕ → LogOperation → List Outcome
said_by unknown x = if not (is_at_one_of unknown x) then logged_outcome x ∷ [] else []

-- those of processor p that a line says
abbrev said_in : List ℕ → ℕ → LogLine → List Outcome
said_in unknown p said.Note = []
said_in unknown p said.Pso = []
said_in unknown p (said.First a v) = []
said_in unknown p (said.Issued q x) = if p == q then said_by unknown x else []
said_in unknown p (said.Unknown q a) = []
said_in unknown p said.Memory = []
said_in unknown p said.End = []

one_said : (b c : Bool) (x : LoggedOperation) (unknown : List ℕ) → not (is_operation_at unknown x) ≡ c →
    logged_outcomes (without_addresses unknown (if b then x ∷ [] else [])) ≡ (if b then (if c then logged_outcome x.operation ∷ [] else []) else [])
one_said false c x unknown is = refl
one_said true true x unknown is = ap (λ c. logged_outcomes (cond c (x ∷ []) [])) is
one_said true false x unknown is = ap (λ c. logged_outcomes (cond c (x ∷ []) [])) is

line_said : (unknown : List ℕ) (p number : ℕ) (line : LogLine) → logged_outcomes (without_addresses unknown (issued_in p number line)) ≡ said_in unknown p line
line_said unknown p number said.Note = refl
line_said unknown p number said.Pso = refl
line_said unknown p number (said.First a v) = refl
line_said unknown p number (said.Issued q x) = one_said (p == q) (not (is_at_one_of unknown x)) (record { line = number; operation = x }) unknown refl
line_said unknown p number (said.Unknown q a) = refl
line_said unknown p number said.Memory = refl
line_said unknown p number said.End = refl

all_said : (unknown : List ℕ) (p number : ℕ) (lines : List LogLine) → logged_outcomes (without_addresses unknown (issued_from number lines p)) ≡ flat_map (said_in unknown p) lines
all_said unknown p number [] = refl
all_said unknown p number (line ∷ lines) =
    let here = issued_in p number line in
    let rest = issued_from (suc number) lines p in
    ap logged_outcomes (filter-append (λ x. not (is_operation_at unknown x)) here rest)
    ∙ map-append (λ (x : LoggedOperation). logged_outcome x.operation) (without_addresses unknown here) (without_addresses unknown rest)
    ∙ ap (λ os. os ++ logged_outcomes (without_addresses unknown rest)) (line_said unknown p number line)
    ∙ ap (λ os. said_in unknown p line ++ os) (all_said unknown p (suc number) lines)

-- ---- lines that say nothing to a log

steps_said : (unknown : List ℕ) (p : ℕ) (lines : List LogLine) → flat_map (said_in unknown p) lines ≡ flat_map (said_in unknown p) (filter is_said lines)
steps_said unknown p [] = refl
steps_said unknown p (said.Note ∷ lines) = steps_said unknown p lines
steps_said unknown p (said.Pso ∷ lines) = steps_said unknown p lines
steps_said unknown p (said.First a v ∷ lines) = steps_said unknown p lines
steps_said unknown p (said.Issued q x ∷ lines) = ap (λ os. (if p == q then said_by unknown x else []) ++ os) (steps_said unknown p lines)
steps_said unknown p (said.Unknown q a ∷ lines) = steps_said unknown p lines
steps_said unknown p (said.Memory ∷ lines) = steps_said unknown p lines
steps_said unknown p (said.End ∷ lines) = steps_said unknown p lines

none_more : (n : ℕ) → max 0 n ≡ n
none_more n = omega arith

pub processors_of_said : (lines : List LogLine) → processors_in lines ≡ processors_in (filter is_said lines)
processors_of_said [] = refl
processors_of_said (said.Note ∷ lines) = none_more (processors_in lines) ∙ processors_of_said lines
processors_of_said (said.Pso ∷ lines) = none_more (processors_in lines) ∙ processors_of_said lines
processors_of_said (said.First a v ∷ lines) = none_more (processors_in lines) ∙ processors_of_said lines
processors_of_said (said.Issued q x ∷ lines) = ap (max (suc q)) (processors_of_said lines)
processors_of_said (said.Unknown q a ∷ lines) = ap (max (suc q)) (processors_of_said lines)
processors_of_said (said.Memory ∷ lines) = none_more (processors_in lines) ∙ processors_of_said lines
processors_of_said (said.End ∷ lines) = none_more (processors_in lines) ∙ processors_of_said lines

pub unknown_of_said : (lines : List LogLine) → flat_map unknown_in lines ≡ flat_map unknown_in (filter is_said lines)
unknown_of_said [] = refl
unknown_of_said (said.Note ∷ lines) = unknown_of_said lines
unknown_of_said (said.Pso ∷ lines) = unknown_of_said lines
unknown_of_said (said.First a v ∷ lines) = unknown_of_said lines
unknown_of_said (said.Issued q x ∷ lines) = unknown_of_said lines
unknown_of_said (said.Unknown q a ∷ lines) = ap (λ others. a ∷ others) (unknown_of_said lines)
unknown_of_said (said.Memory ∷ lines) = unknown_of_said lines
unknown_of_said (said.End ∷ lines) = unknown_of_said lines

-- what lines say is what those of them say that are steps
pub said_of_steps : (lines : List LogLine) → filter is_said lines ≡ filter is_said (filter is_step lines)
said_of_steps [] = refl
said_of_steps (said.Note ∷ lines) = said_of_steps lines
said_of_steps (said.Pso ∷ lines) = said_of_steps lines
said_of_steps (said.First a v ∷ lines) = said_of_steps lines
said_of_steps (said.Issued q x ∷ lines) = ap (λ others. said.Issued q x ∷ others) (said_of_steps lines)
said_of_steps (said.Unknown q a ∷ lines) = ap (λ others. said.Unknown q a ∷ others) (said_of_steps lines)
said_of_steps (said.Memory ∷ lines) = said_of_steps lines
said_of_steps (said.End ∷ lines) = said_of_steps lines

-- ---- the steps of a run

either_none : {X : Type 0} (b : Bool) → ◌≡◌ {A = List X} [] (cond b [] [])
either_none true = refl
either_none false = refl

step_said : (unknown : List ℕ) (p q : ℕ) (step : RunStep) →
    said_in unknown p (step_told q (step_word step) (numbers_of_step step)) ≡ cond (p == q) (outcomes_told unknown step) []
step_said unknown p q (Load place v) = refl
step_said unknown p q (Store place v) = refl
step_said unknown p q (Drain at v) = either_none (p == q)
step_said unknown p q (Write place v) = refl
step_said unknown p q (Swap place r v) = refl
step_said unknown p q (Reserve place v) = refl
step_said unknown p q (StoreReserved place v) = refl
step_said unknown p q Membar = refl
step_said unknown p q Stbar = refl
step_said unknown p q (Unknown place) = either_none (p == q)
step_said unknown p q (Last place v) = either_none (p == q)

told_said : (unknown : List ℕ) (p : ℕ) (lines : List RunLine) → flat_map (said_in unknown p) (map logged_line lines) ≡ told_to unknown p lines
told_said unknown p [] = refl
told_said unknown p (line ∷ lines) =
    ap (λ os. os ++ flat_map (said_in unknown p) (map logged_line lines)) (step_said unknown p line.processor line.step)
    ∙ ap (λ os. cond (p == line.processor) (outcomes_told unknown line.step) [] ++ os) (told_said unknown p lines)

-- the log has of a processor what the run's lines say
pub logged_told : (log_lines : List LogLine) (lines : List RunLine) (p : ℕ) → filter is_said log_lines ≡ filter is_said (map logged_line lines) →
    logged_outcomes (issued_by log_lines p) ≡ told_to (flat_map unknown_in log_lines) p lines
logged_told log_lines lines p same =
    let unknown = flat_map unknown_in log_lines in
    all_said unknown p 1 log_lines ∙ steps_said unknown p log_lines ∙ ap (flat_map (said_in unknown p)) same ∙ sym (steps_said unknown p (map logged_line lines)) ∙ told_said unknown p lines

-- the lists of a log are those of a run that answers so
pub lists_are : (log_lines : List LogLine) (steps : List Step) → ((p : ℕ) → outcomes_of p steps ≡ logged_outcomes (issued_by log_lines p)) → (count n : ℕ) →
    map logged_outcomes (map (issued_by log_lines) (range_with_len n count)) ≡ lists_from n count steps
lists_are log_lines steps answers zero n = refl
lists_are log_lines steps answers (suc count) n =
    let next : n + 1 ≡ suc n = omega arith in
    ap (λ os. os ∷ map logged_outcomes (map (issued_by log_lines) (range_with_len (n + 1) count))) (sym (answers n))
    ∙ ap (λ k. outcomes_of n steps ∷ map logged_outcomes (map (issued_by log_lines) (range_with_len k count))) next
    ∙ ap (λ lists. outcomes_of n steps ∷ lists) (lists_are log_lines steps answers count (suc n))

-- ---- which machine of units a run needs

-- the address of a step's place
abbrev pub address_in : RunStep → ℕ
address_in (Load place v) = place.address
address_in (Store place v) = place.address
address_in (Drain at v) = 0
address_in (Write place v) = place.address
address_in (Swap place r v) = place.address
address_in (Reserve place v) = place.address
address_in (StoreReserved place v) = place.address
address_in Membar = 0
address_in Stbar = 0
address_in (Unknown place) = place.address
address_in (Last place v) = place.address

-- a number above all addresses of the lines
abbrev pub words_for : List RunLine → ℕ
words_for [] = 0
words_for (line ∷ lines) = suc (address_in line.step) + words_for lines

-- the locations to which something unknown was done are among these
abbrev AreUnknown : List ℕ → List ℕ → Type 0
AreUnknown unknown some = (a : ℕ) → list_any (nat_eq a) some ≡ true → list_any (nat_eq a) unknown ≡ true

any_left : (test : ℕ → Bool) (xs ys : List ℕ) → list_any test xs ≡ true → list_any test (xs ++ ys) ≡ true
any_left test xs ys is = list_any-append test xs ys ∙ ap (λ b. b || list_any test ys) is

any_right : (test : ℕ → Bool) (xs ys : List ℕ) → list_any test ys ≡ true → list_any test (xs ++ ys) ≡ true
any_right test xs ys is = list_any-append test xs ys ∙ ap (λ b. list_any test xs || b) is ∙ or-true (list_any test xs)

step_suits : (z : Sizes) (unknown : List ℕ) (p : ℕ) (step : RunStep) → processors_to (step_told p (step_word step) (numbers_of_step step)) ≤ z.buffers →
    address_in step < z.words → AreUnknown unknown (unknown_in (step_told p (step_word step) (numbers_of_step step))) → Suits z unknown p step
step_suits z unknown p (Load place v) below small among = (omega (arith, below), small)
step_suits z unknown p (Store place v) below small among = (omega (arith, below), small)
step_suits z unknown p (Drain at v) below small among = tt
step_suits z unknown p (Write place v) below small among = (omega (arith, below), small)
step_suits z unknown p (Swap place r v) below small among = (omega (arith, below), small)
step_suits z unknown p (Reserve place v) below small among = (omega (arith, below), small)
step_suits z unknown p (StoreReserved place v) below small among = (omega (arith, below), small)
step_suits z unknown p Membar below small among = omega (arith, below)
step_suits z unknown p Stbar below small among = omega (arith, below)
step_suits z unknown p (Unknown place) below small among =
    let here : list_any (nat_eq place.address) (place.address ∷ []) ≡ true = ap (λ b. b || false) (eq-eqb place.address place.address refl) in
    (omega (arith, below), ap not (among place.address here))
step_suits z unknown p (Last place v) below small among = tt

pub lines_suit : (z : Sizes) (unknown : List ℕ) (lines : List RunLine) → processors_in (map logged_line lines) ≤ z.buffers → words_for lines ≤ z.words →
    AreUnknown unknown (flat_map unknown_in (map logged_line lines)) → AllByRecursion (λ line. Suits z unknown line.processor line.step) lines
lines_suit z unknown [] below small among = tt
lines_suit z unknown (line ∷ lines) below small among = (
  step_suits z unknown line.processor line.step (omega (arith, below)) (omega (arith, small))
      (λ a is. among a (any_left (nat_eq a) (unknown_in (logged_line line)) (flat_map unknown_in (map logged_line lines)) is)),
  lines_suit z unknown lines (omega (arith, below)) (omega (arith, small))
      (λ a is. among a (any_right (nat_eq a) (unknown_in (logged_line line)) (flat_map unknown_in (map logged_line lines)) is)),
)
