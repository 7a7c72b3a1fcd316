-- The log of a run that holds has an order.
use Rattle.std.proofs.Common.{◌≡◌, ◌∙◌, sym, ap, refl, subst, ℕ, zero, suc, ◌+◌, ◌<◌, nat_eq, List, [], ◌∷◌, ◌++◌, length, map, filter, get_or, flat_map, slice_index, append-nil, arith}
use Rattle.std.specs.List.{AllByRecursion, list_any}
use Rattle.std.proofs.lemmas.List.{length-replicate}
use Rattle.std.proofs.lemmas.List.Elements.{filter_map-append}
use Rattle.tso_ops.specs.Settings.{SettingValue, first_value, setting_of_first}
use Rattle.tso_ops.specs.Values.{trace_of_lists}
use Rattle.tso_model.specs.Axioms.{IsConsistent}
use Rattle.run_steps.specs.declared.cells.Cell.TheVariants.{First}
use Rattle.run_steps.specs.declared.steps.RunLine.{RunLine}
use Rattle.run_steps.specs.Runs.{HoldsFrom}
use Rattle.run_steps.specs.Machine.{ProcessorState, MachineState, idle, processor_in, waits_of}
use Rattle.log_text.specs.declared.lines.LogLine.{LogLine}
use Rattle.log_text.specs.LogTexts.{first_values, issued_by, log_of_lines, order_of, processors_in, unknown_in}
use Rattle.log_text.specs.LogValues.{log_operations, logged_outcomes}
use Rattle.unit_core.specs.declared.steps.Step.{Step}
use Rattle.unit_core.specs.Machine.{State, after, buffer_of, outcome_for, outcomes_of, stbars_of}
use Rattle.unit_core.proofs.RunFacts.{after-append}
use Rattle.embedding.specs.Sizes.{Sizes, IsCompleteRunIn, first_state_in}
use Rattle.embedding.specs.RunOrder.{memory_order_in}
use Rattle.embedding.proofs.RunOrderFacts.{run_order_in, same_or}
use Rattle.run_orders.specs.RunLogs.{AreNumberedAbove, IsAtLocation, IsHeldRun, logged_line}
use Rattle.run_orders.proofs.Waiting.{HasWord}
use Rattle.run_orders.proofs.States.{tag_of}
use Rattle.run_orders.proofs.Told.{is_said}
use Rattle.run_orders.proofs.Matching.{IsBuffer, Matches}
use Rattle.run_orders.proofs.LastDrains.{Emptied, empty_all, run-append, run_within, silent_outcomes}
use Rattle.run_orders.proofs.Lines.{RunMatched, run_matched}
use Rattle.run_orders.proofs.Logs.{lines_suit, lists_are, logged_told, processors_of_said, said_of_steps, unknown_of_said, words_for}

-- ---- the first state

-- so many words, from a number on
abbrev words_from : (ℕ → ℕ) → ℕ → ℕ → List ℕ
words_from f n zero = []
words_from f n (suc count) = f n ∷ words_from f (suc n) count

words_length : (f : ℕ → ℕ) (n count : ℕ) → length (words_from f n count) ≡ count
words_length f n zero = refl
words_length f n (suc count) = ap suc (words_length f (suc n) count)

word_at : (f : ℕ → ℕ) (n count a : ℕ) → a < count → slice_index (words_from f n count) a ≡ f (n + a)
word_at f n zero a small = absurd (omega (arith, small))
word_at f n (suc count) zero small = let same : n ≡ n + 0 = omega arith in ap f same
word_at f n (suc count) (suc a) small =
    let same : suc n + a ≡ n + suc a = omega arith in
    word_at f (suc n) count a (omega (arith, small)) ∙ ap f same

-- A log says what the lines of a run at locations say, and the run holds from the log's first values.
pub record IsToldRun (log_lines : List LogLine) (s : MachineState) (lines : List RunLine) : Type 0 where
  pub said : filter is_said log_lines ≡ filter is_said (map logged_line lines)
  pub locations : AllByRecursion (λ line. IsAtLocation line.step) lines
  pub numbers : AreNumberedAbove 0 lines
  pub memory : (a : ℕ) → s.memory a ≡ First (first_value (first_values log_lines) a)
  pub processors : s.processors ≡ []
  pub holds : HoldsFrom (order_of log_lines) s lines

module _ (log_lines : List LogLine) (s : MachineState) (lines : List RunLine) (held : IsToldRun log_lines s lines) where
  abbrev z : Sizes
  z = record { buffers = processors_in log_lines; words = words_for lines }

  abbrev unknown : List ℕ
  unknown = flat_map unknown_in log_lines

  abbrev setting : SettingValue
  setting = setting_of_first (order_of log_lines) (first_values log_lines)

  abbrev memory : List ℕ
  memory = words_from (first_value setting.first) 0 z.words

  abbrev start : State
  start = first_state_in z memory

  idle_first : (p : ℕ) → processor_in s p ≡ idle
  idle_first p = ap (λ xs. get_or xs p idle) held.processors

  waits_first : (p : ℕ) → waits_of s p ≡ []
  waits_first p = ap (λ (x : ProcessorState). x.waits) (idle_first p)

  tag_first : (p : ℕ) → tag_of s p ≡ 0
  tag_first p = ap (λ (x : ProcessorState). x.stbar) (idle_first p)

  first_buffer : (p : ℕ) → IsBuffer unknown 1 (waits_of s p) (tag_of s p) (buffer_of start p) (stbars_of start p)
  first_buffer p =
      subst (λ ws. IsBuffer unknown 1 ws (tag_of s p) (buffer_of start p) (stbars_of start p)) (sym (waits_first p))
      (subst (λ n. IsBuffer unknown 1 [] n (buffer_of start p) (stbars_of start p)) (sym (tag_first p))
      (record {
        stbars = λ n. 0;
        is = same_or z.buffers p [];
        now = sym (same_or z.buffers p 0);
        rises = λ m n up. omega arith;
        most = λ n. omega arith;
        locations = tt;
        tagged = tt;
        below = omega arith;
      }))

  first_match : Matches z unknown 1 s start
  first_match = record {
    sizes = record { memory = words_length (first_value setting.first) 0 z.words; buffers = length-replicate z.buffers []; stbars = length-replicate z.buffers 0 };
    memory = λ a known small.
        subst (λ cell. HasWord cell (slice_index memory a)) (sym (held.memory a)) (sym (word_at (first_value setting.first) 0 z.words a small ∙ ap (first_value setting.first) (omega arith)));
    buffers = first_buffer;
    idle = λ p past. waits_first p;
  }

  matched : RunMatched z unknown (order_of log_lines) start lines
  matched =
      run_matched z unknown (order_of log_lines) lines 0 s start first_match held.numbers held.locations
      (lines_suit z unknown lines (omega (arith, processors_of_said log_lines, ap processors_in held.said, processors_of_said (map logged_line lines))) (omega arith)
      (λ a is. ap (list_any (nat_eq a)) (unknown_of_said log_lines ∙ ap (flat_map unknown_in) held.said ∙ sym (unknown_of_said (map logged_line lines))) ∙ is)) held.holds

  emptied : Emptied z (order_of log_lines) (after start matched.steps) (λ q. Unit {0})
  emptied = empty_all z (order_of log_lines) (after start matched.steps) matched.sizes

  abbrev steps : List Step
  steps = matched.steps ++ emptied.steps

  complete : IsCompleteRunIn z setting z.buffers steps
  complete = record {
    memory = memory;
    first = record {
      words = words_length (first_value setting.first) 0 z.words;
      values = λ a small. word_at (first_value setting.first) 0 z.words a small ∙ ap (first_value setting.first) (omega arith);
    };
    run = run-append z (order_of log_lines) start matched.steps emptied.steps matched.run emptied.run;
    empty = λ p. ap (λ (u : State). buffer_of u p) (after-append start matched.steps emptied.steps) ∙ emptied.empty p tt;
    processors = run_within z (order_of log_lines) start steps (run-append z (order_of log_lines) start matched.steps emptied.steps matched.run emptied.run);
  }

  answers : (p : ℕ) → outcomes_of p steps ≡ logged_outcomes (issued_by log_lines p)
  answers p =
      filter_map-append (outcome_for p) matched.steps emptied.steps ∙ ap (λ os. outcomes_of p matched.steps ++ os) (silent_outcomes p emptied.steps emptied.silent)
      ∙ append-nil (outcomes_of p matched.steps) ∙ matched.answers p ∙ sym (logged_told log_lines lines p held.said)

  pub told_order : IsConsistent (log_operations (log_of_lines log_lines))
  told_order =
      subst (λ lists. IsConsistent (trace_of_lists setting lists)) (sym (lists_are log_lines steps answers z.buffers 0))
      (memory_order_in z z.buffers complete.memory steps, run_order_in z setting z.buffers steps complete)

-- the same of a run whose lines are all in the log
pub log_order : (log_lines : List LogLine) (s : MachineState) (lines : List RunLine) → IsHeldRun log_lines s lines → IsConsistent (log_operations (log_of_lines log_lines))
log_order log_lines s lines held = told_order log_lines s lines (record {
  said = said_of_steps log_lines ∙ ap (filter is_said) held.steps;
  locations = held.locations;
  numbers = held.numbers;
  memory = held.memory;
  processors = held.processors;
  holds = held.holds;
})
