-- What an account of a run has, and how one more line changes it, beside what the same lines say to a log.
use Rattle.std.proofs.Common.{◌≡◌, ◌∙◌, sym, ap, refl, subst, ℕ, suc, ◌<◌, ◌≤◌, Bool, true, false, cond, if◌then◌else◌, map, filter, Option, None, Some, List, [], ◌∷◌, ◌++◌, length, append-nil, arith}
use Rattle.std.specs.List.{AllByRecursion}
use Rattle.std.specs.Option.{option_map_or}
use Rattle.std.proofs.lemmas.List.{length_push, map-append}
use Rattle.std.proofs.lemmas.List.Elements.{filter-append}
use Rattle.tso_ops.specs.declared.settings.Order.TheVariants.{Pso}
use Rattle.tso_text.specs.declared.faults.Why.{Why}
use Rattle.tso_text.specs.declared.faults.Why.TheVariants.{BadLine, TooManyWaiting}
use Rattle.run_steps.specs.declared.cells.Cell.TheVariants.{First}
use Rattle.run_steps.specs.declared.places.Place.{Place}
use Rattle.run_steps.specs.declared.steps.RunLine.{RunLine}
use Rattle.run_steps.specs.declared.steps.RunStep.{RunStep}
use Rattle.run_steps.specs.declared.steps.RunStep.TheVariants.{Load, Store, Drain, Write, Swap, Reserve, StoreReserved, Membar, Stbar, Unknown, Last}
use Rattle.run_steps.specs.Machine.{MachineState, beginning_state, presetting, state_after_line}
use Rattle.run_steps.specs.Runs.{refusals_from, state_after}
use Rattle.run_lines.specs.declared.arguments.Widths.{Widths}
use Rattle.run_lines.specs.declared.lines.RunText.{RunText}
use Rattle.run_lines.specs.declared.lines.RunText.TheVariants as text
use Rattle.run_lines.specs.Lines.{text_numbers}
use Rattle.run_following.specs.declared.stages.Stage.{Stage}
use Rattle.run_following.specs.declared.stages.Stage.TheVariants as stage
use Rattle.run_following.specs.Accounts.{Account, account_at_start, is_full, said_fault, with_line}
use Rattle.run_following.specs.Exactness.{refused_kind, told_kind}
use Rattle.run_following.specs.KeptLines.{text_at}
use Rattle.run_following.proofs.ExactFacts.{state-push, told_more}
use Rattle.run_following.specs.Stages.{stage_after}
use Rattle.log_text.specs.declared.lines.LogLine.{LogLine}
use Rattle.log_text.specs.declared.lines.SaidLine.{SaidLine}
use Rattle.log_text.specs.LogLines.{said_told, width_named}
use Rattle.log_text.specs.LogTexts.{is_model, is_step, lines_told, order_of}
use Rattle.log_text.proofs.ReadingFacts.{order_of-push}
use Rattle.run_orders.specs.RunLogs.{AreNumberedAbove, logged_line}
use Rattle.run_orders.specs.SplitLogs.{IsSaidAtPlacesOf, cell_at_first, first_cells_in, logged_with_width}
use Rattle.run_orders.proofs.FirstCells.{first_cell_push, first_cells_preset}
use Rattle.run_orders.proofs.Lists.{all-append, all_map}
use Rattle.run_orders.proofs.PieceFirsts.{last_of}
use Rattle.run_text_orders.proofs.PlaceKinds.{IsKindOf, IsStepOfKind, said_places}

-- no step came yet
abbrev pub IsEarly : Stage → Type 0
IsEarly stage.Notes = Unit {0}
IsEarly stage.Firsts = Unit {0}
IsEarly stage.Steps = ⊥
IsEarly stage.Ended = ⊥

-- the line is a step of a processor
abbrev pub is_step_line : SaidLine → Bool
is_step_line x = is_step x.line

-- These lines of a text with such places have the steps of the account, which are at them; the steps begin in a state with the first values that the lines
-- say, and the account has their state, and what is told of lines is of the lines that the machine refuses, and of the kinds of their refusals.
pub record Accounts (kind : Widths) (lines : List SaidLine) (account : Account) : Type 0 where
  pub steps : filter is_step_line lines ≡ map logged_with_width account.steps
  pub places : AllByRecursion (λ line. IsStepOfKind kind line.step) account.steps
  pub firsts : AllByRecursion (IsSaidAtPlacesOf kind) lines
  pub numbers : AreNumberedAbove 0 account.steps
  pub up_to : AllByRecursion (λ line. line.number ≤ length account.texts) account.steps
  pub first : MachineState
  pub memory : (cell : ℕ) → first.memory cell ≡ First (cell_at_first lines cell)
  pub processors : first.processors ≡ []
  pub state : account.state ≡ state_after first account.steps
  pub refusals : map told_kind account.refusals ≡ map refused_kind (refusals_from account.model first account.steps)
  pub model : account.model ≡ order_of (lines_told lines)
  pub early : IsEarly account.stage → account.steps ≡ []

-- ---- more steps

numbers-push : (least : ℕ) (lines : List RunLine) (line : RunLine) → AreNumberedAbove least lines → least < line.number →
    AllByRecursion (λ other. other.number < line.number) lines → AreNumberedAbove least (lines ++ line ∷ [])
numbers-push least [] line numbers above all = (above, tt)
numbers-push least (other ∷ lines) line numbers above all = (numbers.0, numbers-push other.number lines line numbers.1 all.0 all.1)

-- ---- what a line may be

-- what a step says is one, no memory model and no first value
record IsStepLine (line : LogLine) : Type 0 where
  step : is_step line ≡ true
  model : is_model line ≡ false
  cells : (cell width : ℕ) → first_cells_in cell line width ≡ []

told_step : (number p : ℕ) (step : RunStep) → IsStepLine (logged_line (record { number = number; processor = p; step = step }))
told_step number p (Load place v) = record { step = refl; model = refl; cells = λ cell width. refl }
told_step number p (Store place v) = record { step = refl; model = refl; cells = λ cell width. refl }
told_step number p (Drain at v) = record { step = refl; model = refl; cells = λ cell width. refl }
told_step number p (Write place v) = record { step = refl; model = refl; cells = λ cell width. refl }
told_step number p (Swap place r v) = record { step = refl; model = refl; cells = λ cell width. refl }
told_step number p (Reserve place v) = record { step = refl; model = refl; cells = λ cell width. refl }
told_step number p (StoreReserved place v) = record { step = refl; model = refl; cells = λ cell width. refl }
told_step number p Membar = record { step = refl; model = refl; cells = λ cell width. refl }
told_step number p Stbar = record { step = refl; model = refl; cells = λ cell width. refl }
told_step number p (Unknown place) = record { step = refl; model = refl; cells = λ cell width. refl }
told_step number p (Last place v) = record { step = refl; model = refl; cells = λ cell width. refl }

said_step : (number p : ℕ) (step : RunStep) → said_told (text_numbers (text.Step p step)) ≡ logged_with_width (record { number = number; processor = p; step = step })
said_step number p (Load place v) = refl
said_step number p (Store place v) = refl
said_step number p (Drain at v) = refl
said_step number p (Write place v) = refl
said_step number p (Swap place r v) = refl
said_step number p (Reserve place v) = refl
said_step number p (StoreReserved place v) = refl
said_step number p Membar = refl
said_step number p Stbar = refl
said_step number p (Unknown place) = refl
said_step number p (Last place v) = refl

-- ---- where a line may stand

module _ (b : Bool) where
  abbrev fault_at : Option Stage → Option Why
  fault_at o = option_map_or (λ at. if b then Some TooManyWaiting else None) o (Some BadLine)

  pso_early : (at : Stage) → fault_at (stage_after at text.Pso) ≡ None → IsEarly at
  pso_early stage.Notes none = tt
  pso_early stage.Firsts none = tt
  pso_early stage.Steps none = absurd cc
  pso_early stage.Ended none = absurd cc

  first_early : (at : Stage) (place : Place) (v : ℕ) → fault_at (stage_after at (text.First place v)) ≡ None → IsEarly at
  first_early stage.Notes place v none = tt
  first_early stage.Firsts place v none = tt
  first_early stage.Steps place v none = absurd cc
  first_early stage.Ended place v none = absurd cc

-- ---- one more line

module _ (kind : Widths) (lines : List SaidLine) (account : Account) (accounts : Accounts kind lines account) (line : List ℕ) where
  more_texts : length (account.texts ++ line ∷ []) ≡ suc (length account.texts)
  more_texts = let is = length_push account.texts line in omega (arith, is)

  up_to_more : AllByRecursion (λ other. other.number ≤ length (account.texts ++ line ∷ [])) account.steps
  up_to_more =
      all_map (λ (other : RunLine). other.number ≤ length account.texts) (λ other. other.number ≤ length (account.texts ++ line ∷ []))
      (λ other low. omega (arith, low, more_texts)) account.steps accounts.up_to

  firsts_more : (x : SaidLine) → IsSaidAtPlacesOf kind x → AllByRecursion (IsSaidAtPlacesOf kind) (lines ++ x ∷ [])
  firsts_more x at = all-append (IsSaidAtPlacesOf kind) lines (x ∷ []) accounts.firsts (at, tt)

  steps_kept : (x : SaidLine) → is_step x.line ≡ false → filter is_step_line (lines ++ x ∷ []) ≡ map logged_with_width account.steps
  steps_kept x none =
      filter-append is_step_line lines (x ∷ []) ∙ ap (λ b. filter is_step_line lines ++ cond b (x ∷ []) []) none ∙ append-nil (filter is_step_line lines) ∙ accounts.steps

  memory_kept : (x : SaidLine) → ((cell : ℕ) → first_cells_in cell x.line x.width ≡ []) → (cell : ℕ) → accounts.first.memory cell ≡ First (cell_at_first (lines ++ x ∷ []) cell)
  memory_kept x none cell = accounts.memory cell ∙ sym (ap First (first_cell_push lines x cell ∙ ap (last_of (cell_at_first lines cell)) (none cell)))

  order_pushed : (x : SaidLine) → order_of (lines_told (lines ++ x ∷ [])) ≡ cond (is_model x.line) Pso (order_of (lines_told lines))
  order_pushed x = ap order_of (map-append (λ (s : SaidLine). s.line) lines (x ∷ [])) ∙ order_of-push (lines_told lines) x.line

  order_kept : (x : SaidLine) → is_model x.line ≡ false → account.model ≡ order_of (lines_told (lines ++ x ∷ []))
  order_kept x none = accounts.model ∙ sym (order_pushed x ∙ ap (λ b. cond b Pso (order_of (lines_told lines))) none)

  note_more : IsSaidAtPlacesOf kind (said_told (text_numbers text.Note)) → Accounts kind (lines ++ said_told (text_numbers text.Note) ∷ []) (with_line account line text.Note)
  note_more at = record {
    steps = steps_kept (said_told (text_numbers text.Note)) refl;
    places = accounts.places;
    firsts = firsts_more (said_told (text_numbers text.Note)) at;
    numbers = accounts.numbers;
    up_to = up_to_more;
    first = accounts.first;
    memory = memory_kept (said_told (text_numbers text.Note)) (λ cell. refl);
    processors = accounts.processors;
    state = accounts.state;
    refusals = accounts.refusals;
    model = order_kept (said_told (text_numbers text.Note)) refl;
    early = accounts.early;
  }

  end_more : IsSaidAtPlacesOf kind (said_told (text_numbers text.End)) → Accounts kind (lines ++ said_told (text_numbers text.End) ∷ []) (with_line account line text.End)
  end_more at = record {
    steps = steps_kept (said_told (text_numbers text.End)) refl;
    places = accounts.places;
    firsts = firsts_more (said_told (text_numbers text.End)) at;
    numbers = accounts.numbers;
    up_to = up_to_more;
    first = accounts.first;
    memory = memory_kept (said_told (text_numbers text.End)) (λ cell. refl);
    processors = accounts.processors;
    state = accounts.state;
    refusals = accounts.refusals;
    model = order_kept (said_told (text_numbers text.End)) refl;
    early = λ none. absurd none;
  }

  pso_more : IsSaidAtPlacesOf kind (said_told (text_numbers text.Pso)) → account.steps ≡ [] →
      Accounts kind (lines ++ said_told (text_numbers text.Pso) ∷ []) (with_line account line text.Pso)
  pso_more at none = record {
    steps = steps_kept (said_told (text_numbers text.Pso)) refl;
    places = accounts.places;
    firsts = firsts_more (said_told (text_numbers text.Pso)) at;
    numbers = accounts.numbers;
    up_to = up_to_more;
    first = accounts.first;
    memory = memory_kept (said_told (text_numbers text.Pso)) (λ cell. refl);
    processors = accounts.processors;
    state = accounts.state;
    refusals =
        accounts.refusals ∙ ap (λ steps. map refused_kind (refusals_from account.model accounts.first steps)) none
        ∙ sym (ap (λ steps. map refused_kind (refusals_from Pso accounts.first steps)) none);
    model = sym (order_pushed (said_told (text_numbers text.Pso)));
    early = λ early. none;
  }

  first_more : (place : Place) (v : ℕ) → IsSaidAtPlacesOf kind (said_told (text_numbers (text.First place v))) → account.steps ≡ [] →
      Accounts kind (lines ++ said_told (text_numbers (text.First place v)) ∷ []) (with_line account line (text.First place v))
  first_more place v at none = record {
    steps = steps_kept (said_told (text_numbers (text.First place v))) refl;
    places = accounts.places;
    firsts = firsts_more (said_told (text_numbers (text.First place v))) at;
    numbers = accounts.numbers;
    up_to = up_to_more;
    first = presetting place v accounts.first;
    memory = first_cells_preset lines accounts.first place v accounts.memory;
    processors = accounts.processors;
    state =
        ap (presetting place v) (accounts.state ∙ ap (state_after accounts.first) none) ∙ sym (ap (state_after (presetting place v accounts.first)) none);
    refusals =
        accounts.refusals ∙ ap (λ steps. map refused_kind (refusals_from account.model accounts.first steps)) none
        ∙ sym (ap (λ steps. map refused_kind (refusals_from account.model (presetting place v accounts.first) steps)) none);
    model = order_kept (said_told (text_numbers (text.First place v))) refl;
    early = λ early. none;
  }

  -- a step
  module _ (p : ℕ) (step : RunStep) (at : IsStepOfKind kind step) (firsts_at : IsSaidAtPlacesOf kind (said_told (text_numbers (text.Step p step)))) where
    abbrev next : RunLine
    next = record { number = length (account.texts ++ line ∷ []); processor = p; step = step }

    is_told : IsStepLine (logged_line next)
    is_told = told_step (length (account.texts ++ line ∷ [])) p step

    says : said_told (text_numbers (text.Step p step)) ≡ logged_with_width next
    says = said_step (length (account.texts ++ line ∷ [])) p step

    logged_more : Accounts kind (lines ++ logged_with_width next ∷ []) (with_line account line (text.Step p step))
    logged_more = record {
      steps =
          filter-append is_step_line lines (logged_with_width next ∷ []) ∙ ap (λ b. filter is_step_line lines ++ cond b (logged_with_width next ∷ []) []) is_told.step
          ∙ ap (λ ls. ls ++ logged_with_width next ∷ []) accounts.steps ∙ sym (map-append logged_with_width account.steps (next ∷ []));
      places = all-append (λ other. IsStepOfKind kind other.step) account.steps (next ∷ []) accounts.places (at, tt);
      firsts = firsts_more (logged_with_width next) (subst (IsSaidAtPlacesOf kind) says firsts_at);
      numbers =
          numbers-push 0 account.steps next accounts.numbers (omega (arith, more_texts))
          (all_map (λ (other : RunLine). other.number ≤ length account.texts) (λ other. other.number < next.number) (λ other low. omega (arith, low, more_texts)) account.steps
          accounts.up_to);
      up_to = all-append (λ other. other.number ≤ length (account.texts ++ line ∷ [])) account.steps (next ∷ []) up_to_more (omega arith, tt);
      first = accounts.first;
      memory = memory_kept (logged_with_width next) (λ cell. is_told.cells cell (logged_with_width next).width);
      processors = accounts.processors;
      state = ap (state_after_line next) accounts.state ∙ sym (state-push accounts.first account.steps next);
      refusals =
          told_more account.model accounts.first account.steps next (text_at (account.texts ++ line ∷ [])) account.state account.refusals accounts.state accounts.refusals;
      model = order_kept (logged_with_width next) is_told.model;
      early = λ none. absurd none;
    }

    step_more : Accounts kind (lines ++ said_told (text_numbers (text.Step p step)) ∷ []) (with_line account line (text.Step p step))
    step_more = subst (λ x. Accounts kind (lines ++ x ∷ []) (with_line account line (text.Step p step))) (sym says) logged_more

  said_more : (said : RunText) → IsKindOf kind (width_named (text_numbers said)) → IsSaidAtPlacesOf kind (said_told (text_numbers said)) → said_fault account said ≡ None →
      Accounts kind (lines ++ said_told (text_numbers said) ∷ []) (with_line account line said)
  said_more text.Note is at follows = note_more at
  said_more text.Pso is at follows = pso_more at (accounts.early (pso_early (is_full account.state text.Pso) account.stage follows))
  said_more (text.First place v) is at follows =
      first_more place v at (accounts.early (first_early (is_full account.state (text.First place v)) account.stage place v follows))
  said_more (text.Step p step) is at follows = step_more p step is at
  said_more text.End is at follows = end_more at

  pub accepted_more : (said : RunText) (to : Account) → IsKindOf kind (width_named (text_numbers said)) → said_fault account said ≡ None → to ≡ with_line account line said →
      Accounts kind (lines ++ said_told (text_numbers said) ∷ []) to
  accepted_more said to named follows is =
      subst (Accounts kind (lines ++ said_told (text_numbers said) ∷ [])) (sym is) (said_more said named (said_places kind said named) follows)

-- what no line says
pub at_start : (kind : Widths) → Accounts kind [] account_at_start
at_start kind = record {
  steps = refl;
  places = tt;
  firsts = tt;
  numbers = tt;
  up_to = tt;
  first = beginning_state;
  memory = λ cell. refl;
  processors = refl;
  state = refl;
  refusals = refl;
  model = refl;
  early = λ early. refl;
}
