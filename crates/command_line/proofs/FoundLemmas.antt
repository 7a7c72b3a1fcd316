-- What the values found for an argument stand for.
use Rattle.std.proofs.Common.{◌≡◌, ◌∙◌, ◌+◌, ◌≤◌, ◌^◌, ◌-◌, ◌==◌, ap, ap₂, cond, length, refl, sym, arith, ℕ, Bool, true, false, Option, Some, None, Result, Ok, Err, unwrap_or, map, option_map, codes, if◌then◌else◌, List, [], ◌∷◌, IfOk, subst}
use Rattle.std.specs.Prelude.{count_by, is_none, nat_le}
use Rattle.std.proofs.lemmas.Bool.{leb-true}
use Rattle.std.proofs.lemmas.List.Sums.{sum_by-cons}
use Rattle.std.specs.Borrow.{Bor}
use Rattle.std.specs.Option.{option_map_or}
use Rattle.std.specs.Str.{bytes_eq}
use Rattle.std.proofs.lemmas.Slice.Eq.{bytes_eq-Decides}
use Rattle.std.proofs.lemmas.Option.{none-some, same_Some}
use Rattle.std.specs.Str.Parse.{ParsesBool, ParsesUnsigned, digits_value, without_leading_plus}
use Rattle.clap.specs.ValueTests.{is_unsigned_in}
use Rattle.clap.specs.Words.{ReadsOne, Row, all_of, first_of, first_value, one_of, one_text, rows_of}
use Rattle.clap.specs.declared.parser.matches.Found.{Found}
use Rattle.clap.specs.declared.builder.value_parser.ValueParser.TheVariants as parser
use Rattle.clap.proofs.ValueTestLemmas.{accepts-Accepts, Accepts-accepts}
use Rattle.clap.proofs.WalkLemmas.{first_value-rows, one_text-rows}
use Rattle.command_line.specs.Offered.{several_in}
use Rattle.request_options.specs.declared.batches.BatchPrinting.{BatchPrinting}
use Rattle.request_options.specs.declared.logs.LogForm.{LogForm}
use Rattle.request_options.specs.declared.logs.LogForm.TheVariants.{Lines, Explained, Traces, Evidence}
use Rattle.request_options.specs.declared.logs.LogOptions.{LogOptions}
use Rattle.command_line.specs.declared.options.RunOptions.{RunOptions}
use Rattle.command_line.specs.declared.options.UnitOptions.{UnitOptions}
use Rattle.command_line.specs.Requests.{Asked, Text, asked_of, batching, capacity_limit, checking, deciding, deciding_log, drain_turns_limit, judging, log_effort_limit, log_violation_limit, logging, number_limit, percent_limit, prints_trace, refusing, repeating, replaying, requested_worker_limit, run_times_limit, running, verifying, verifying_log}
use Rattle.command_line.specs.declared.options.Presentation.{Presentation}
use Rattle.command_line.specs.declared.options.Printing.{Printing}
use Rattle.command_line.specs.Pictures.{chosen_picture, picture_form}
use Rattle.command_line.specs.declared.requests.Request.{Request}
use Rattle.request_options.specs.declared.outcomes.OutcomeForm.{OutcomeForm}
use Rattle.command_line.specs.Options.{batch_printing_of, given_number, given_unit, is_true, log_form_of, log_options_in, log_options_of, number_or, outcome_form_of, pair_of, printing_of, run_of, within, workers_of}
use Rattle.command_line.specs.Subcommands.{batch, batch_texts, check, decision_asked, draw, evidence_asked, explain, file_of, log, log_asked, log_decision_asked, log_parameters, outcomes, outcomes_asked, presented, replay, run, run_asked, run_parameters, verdict_asked, verify}
use Rattle.command_line.specs.Commands.{asked_in, given_in}

-- the file that a value names which was asked for by its id
module _ (f : Found) (id : Text) (got : Option (Bor Text)) (found : option_map (λ s. s.now) got ≡ first_value f id) where
  pub file_found : (text : Bor Text) → got ≡ Some text → file_of (Some text.now) ≡ file_of (first_of id (rows_of f))
  file_found text is = ap file_of (sym (ap (option_map (λ s. s.now)) is) ∙ found ∙ first_value-rows f id)

  pub no_file_found : got ≡ None → None ≡ file_of (first_of id (rows_of f))
  no_file_found is = ap file_of (sym (ap (option_map (λ s. s.now)) is) ∙ found ∙ first_value-rows f id)

-- the number that a text spells, if it spells one
abbrev number_in : Text → Option ℕ
number_in text = if is_unsigned_in 0 number_limit text then Some (digits_value 10 (without_leading_plus text)) else None

read_in : {E : Type 0} (gives : Text → Result ℕ E → Type 0) (t : Text) (r : Option ℕ)
    → ((x : Result ℕ E) → gives t x → ParsesUnsigned 64 10 t x) → ReadsOne gives t r → r ≡ number_in t
read_in gives t (Some v) parses read =
    let parsed = parses (Ok v) read in
    let most : digits_value 10 (without_leading_plus t) ≤ 2 ^ 64 - 1 = omega (arith, parsed.0.1) in
    let passes = Accepts-accepts false (parser.Unsigned 0 (2 ^ 64 - 1)) t (parsed.0.0, parsed.0.1, omega arith, most) in
    rw passes (ap Some parsed.1)
read_in gives t None parses read = go (is_unsigned_in 0 (2 ^ 64 - 1) t) refl
  where
    go : (b : Bool) → is_unsigned_in 0 (2 ^ 64 - 1) t ≡ b → None ≡ number_in t
    go true e =
        let passes = accepts-Accepts false (parser.Unsigned 0 (2 ^ 64 - 1)) t e in
        absurd (parses (Err read.0) read.1 (passes.0, passes.1))
    go false e = rw e refl

-- the number that was asked for, if there is one
read_of : {E : Type 0} (gives : Text → Result ℕ E → Type 0) (found : Option Text) (r : Option ℕ)
    → ((t : Text) (x : Result ℕ E) → gives t x → ParsesUnsigned 64 10 t x)
    → (found ≡ None → r ≡ None) → ((t : Text) → found ≡ Some t → ReadsOne gives t r) → r ≡ given_number found
read_of gives None r parses none some = none refl
read_of gives (Some t) r parses none some = read_in gives t r (parses t) (some t refl)

module _ {E : Type 0} (gives : Text → Result ℕ E → Type 0) (f : Found) (name : Text) (r : Option ℕ) (parses : (t : Text) (x : Result ℕ E) → gives t x → ParsesUnsigned 64 10 t x)
    (none : one_text f name ≡ None → r ≡ None) (some : (t : Text) → one_text f name ≡ Some t → ReadsOne gives t r) where
  pub number_read : r ≡ given_number (one_of name (rows_of f))
  number_read = read_of gives (one_text f name) r parses none some ∙ ap given_number (one_text-rows f name)

  -- `other` where there is none
  pub number_found : (other : ℕ) → unwrap_or r other ≡ number_or other (one_of name (rows_of f))
  number_found other = ap (λ o. unwrap_or o other) number_read

reads_true : (t : Text) (b : Bool) → (t ≡ codes "true" → ⊥) → bytes_eq t (codes "true") ≡ b → false ≡ b
reads_true t false other e = refl
reads_true t true other e = absurd (other ((bytes_eq-Decides t (codes "true")).0 e))

unwrap_or-flag : (E : Type 0) (t : Text) (r : Option Bool) → ReadsOne {E = E} ParsesBool t r → unwrap_or r false ≡ bytes_eq t (codes "true")
unwrap_or-flag E t (Some true) read = rw read refl
unwrap_or-flag E t (Some false) read = rw read refl
unwrap_or-flag E t None read = reads_true t (bytes_eq t (codes "true")) read.1.0 refl

-- whether the flag was used
flag_or_false : (E : Type 0) (found : Option Text) (r : Option Bool) → (found ≡ None → r ≡ None) → ((t : Text) → found ≡ Some t → ReadsOne {E = E} ParsesBool t r)
    → unwrap_or r false ≡ option_map_or (λ text. bytes_eq text (codes "true")) found false
flag_or_false E None r none some = ap (λ o. unwrap_or o false) (none refl)
flag_or_false E (Some t) r none some = unwrap_or-flag E t r (some t refl)

pub flag_found : (E : Type 0) (f : Found) (name : Text) (r : Option Bool) → (one_text f name ≡ None → r ≡ None) → ((t : Text) → one_text f name ≡ Some t → ReadsOne {E = E} ParsesBool t r)
    → unwrap_or r false ≡ is_true (one_of name (rows_of f))
flag_found E f name r none some =
    flag_or_false E (one_text f name) r none some ∙ ap (λ o. option_map_or (λ text. bytes_eq text (codes "true")) o false) (one_text-rows f name)

pub run_options_found : (given : Text → Option Text) (unit : UnitOptions) (workers : ℕ) (printing : Option Printing) (with_trace : Bool) → unit ≡ given_unit given → workers ≡ workers_of given
    → printing ≡ printing_of (is_true (given (codes "trace"))) (is_true (given (codes "explain"))) → with_trace ≡ is_true (given (codes "with-trace"))
    → option_map (λ (p : Printing). record { unit = unit; workers = workers; printing = p; with_trace = with_trace }) printing ≡ run_of given
run_options_found given unit workers printing with_trace unit_is workers_are printing_is with_trace_is = rw (unit_is, workers_are, printing_is, with_trace_is) refl

-- what is shown of a log, by its form
pub log_options_found : (given : Text → Option Text) (most effort max_unknown : ℕ) (needs_end : Bool) (form : Option LogForm) → most ≡ within 1 log_violation_limit (number_or 10 (given (codes "most")))
    → effort ≡ within 0 log_effort_limit (number_or 100 (given (codes "effort")))
    → max_unknown ≡ within 0 percent_limit (number_or 100 (given (codes "max-unknown")))
    → needs_end ≡ is_true (given (codes "ended"))
    → form ≡ log_form_of (is_true (given (codes "trace"))) (is_true (given (codes "explain"))) (is_true (given (codes "evidence")))
    → option_map (λ (f : LogForm). record { most = most; effort = effort; max_unknown = max_unknown; needs_end = needs_end; form = f }) form ≡ log_options_of given
log_options_found given most effort max_unknown needs_end form most_is effort_is max_unknown_is end_is form_is = rw (most_is, effort_is, max_unknown_is, end_is, form_is) refl

-- what `check` asks for with these texts, where there are any, and this number
pub check_asked : (rows : List Row) (texts : Option (Option Text × Option Text)) → texts ≡ pair_of (file_of (first_of (codes "trace") rows)) (file_of (first_of (codes "cert") rows)) → (nth : Option ℕ)
    → nth ≡ given_number (one_of (codes "nth") rows) → option_map_or (λ t. checking t.0 t.1 nth) texts refusing ≡ asked_in check rows
check_asked rows texts texts_are nth nth_is = rw (texts_are, nth_is) refl

-- what `verify` asks for with these texts, where there are any, by whether the first is a log, and this number
pub verify_asked : (rows : List Row) (texts : Option (Option Text × Option Text)) → texts ≡ pair_of (file_of (first_of (codes "trace") rows)) (file_of (first_of (codes "evidence") rows)) → (is_log : Bool)
    → is_log ≡ is_true (one_of (codes "log") rows) → (nth : Option ℕ) → nth ≡ given_number (one_of (codes "nth") rows) → option_map_or (evidence_asked is_log nth) texts refusing ≡ asked_in verify rows
verify_asked rows texts texts_are is_log log_is nth nth_is = rw (texts_are, log_is, nth_is) refl

-- the texts that arguments name, by those behind references
now_count : (texts : List (Option (Bor Text))) → count_by is_none (map (option_map (λ (f : Bor Text). f.now)) texts) ≡ count_by is_none texts
now_count [] = refl
now_count (text ∷ texts) =
    sum_by-cons (λ t. cond (is_none t) 1 0) (option_map (λ (f : Bor Text). f.now) text) (map (option_map (λ (f : Bor Text). f.now)) texts)
    ∙ ap₂ (λ m n. m + n) (one text) (now_count texts) ∙ sym (sum_by-cons (λ t. cond (is_none t) 1 0) text texts)
  where
    one : (t : Option (Bor Text)) → ◌≡◌ {A = ℕ} (cond (is_none (option_map (λ (f : Bor Text). f.now) t)) 1 0) (cond (is_none t) 1 0)
    one None = refl
    one (Some f) = refl

named_each : (names : List (Bor Text)) → map (λ (name : Bor Text). file_of (Some name.now)) names ≡ map (λ name. file_of (Some name)) (map (λ (name : Bor Text). name.now) names)
named_each [] = refl
named_each (name ∷ names) = ap (λ texts. file_of (Some name.now) ∷ texts) (named_each names)

pub several_found : (names : List (Bor Text)) (texts : List (Option (Bor Text))) → (length names ≡ 0 → ⊥) → map (option_map (λ (f : Bor Text). f.now)) texts ≡ map (λ (name : Bor Text). file_of (Some name.now)) names
    → (few : Bool) → nat_le (count_by is_none texts) 1 ≡ few → (if few then Some (map (option_map (λ (f : Bor Text). f.now)) texts) else None) ≡ batch_texts (map (λ (name : Bor Text). name.now) names)
several_found [] texts some are few is = absurd (some refl)
several_found (name ∷ names) texts some are few is =
    let all = map (option_map (λ (f : Bor Text). f.now)) texts in
    ap (λ b. if b then Some all else None) (sym is ∙ ap (λ n. nat_le n 1) (sym (now_count texts)))
    ∙ ap (λ (ts : List (Option Text)). if nat_le (count_by is_none ts) 1 then Some ts else None) (are ∙ named_each (name ∷ names))

pub none_found : (names : List (Bor Text)) (texts : List (Option (Bor Text))) → length names ≡ 0 → texts ≡ None ∷ [] → Some (map (option_map (λ (f : Bor Text). f.now)) texts) ≡ batch_texts (map (λ (name : Bor Text). name.now) names)
none_found [] texts none are = rw are refl
none_found (name ∷ names) texts none are = absurd (omega (arith, none))

-- what `batch` asks for with these texts, where there are any
pub batch_asked : (rows : List Row) (names : List Text) (texts : Option (List (Option Text))) → names ≡ unwrap_or (all_of (codes "file") rows) [] → texts ≡ batch_texts names → (workers : ℕ) (printing : BatchPrinting)
    → workers ≡ workers_of (given_in batch.parameters rows) → printing ≡ batch_printing_of (given_in batch.parameters rows)
    → option_map_or (λ ts. batching ts workers printing) texts refusing ≡ asked_in batch rows
batch_asked rows names texts names_are texts_are workers printing workers_are printing_is = rw (texts_are, names_are, workers_are, printing_is) refl

-- what `draw` asks for in this form, where there is one
pub draw_asked : (rows : List Row) (picture : Option Presentation) → picture ≡ picture_form (is_true (one_of (codes "decide") rows)) (chosen_picture (first_of (codes "edges") rows))
    → option_map_or (λ presentation. presented presentation (given_in explain.parameters rows)) picture refusing ≡ asked_in draw rows
draw_asked rows picture picture_is = rw picture_is refl

-- what `explain` and `draw` ask for, where an effort is given with a decision or none is
pub asked_with_effort : (decides : Bool) (given effort : ℕ) → Some effort ≡ (if decides then Some given else None) → (ask : ℕ → Asked) (verdict : Asked) → ask effort ≡ (if decides then ask given else verdict)
asked_with_effort true given effort is ask verdict = ap ask (same_Some effort given is)
asked_with_effort false given effort is ask verdict = absurd (none-some effort (sym is))

pub asked_without_effort : (decides : Bool) (given : ℕ) → None ≡ (if decides then Some given else None) → (decision verdict : Asked) → verdict ≡ (if decides then decision else verdict)
asked_without_effort true given is decision verdict = absurd (none-some given is)
asked_without_effort false given is decision verdict = refl

-- what `log` asks for with these options, where there are any, and this file
pub log_found : (rows : List Row) (options : Option LogOptions) → options ≡ log_options_of (given_in log_parameters rows) → (file : Option Text) → file ≡ file_of (first_of (codes "file") rows)
    → (decides : Bool) → decides ≡ is_true (one_of (codes "decide") rows) → option_map_or (log_asked decides file) options refusing ≡ asked_in log rows
log_found rows options options_are file file_is decides decides_is = rw (options_are, file_is, decides_is) refl

-- what `run` asks for with these options, where there are any
pub run_found : (rows : List Row) (options : Option RunOptions) → options ≡ run_of (given_in run_parameters rows) → (seed turns times : ℕ) (program : Option Text)
    → seed ≡ number_or 0 (one_of (codes "seed") rows) → turns ≡ within 0 drain_turns_limit (number_or 0 (one_of (codes "drain-turns") rows))
    → times ≡ within 1 run_times_limit (number_or 1 (one_of (codes "times") rows))
    → program ≡ file_of (first_of (codes "program") rows) → option_map_or (λ o. run_asked o seed turns times program) options refusing ≡ asked_in run rows
run_found rows options options_are seed turns times program seed_is turns_are times_are program_is = rw (options_are, seed_is, turns_are, times_are, program_is) refl

-- what `outcomes` asks for
pub outcomes_found : (rows : List Row) (states : Bool) (form : OutcomeForm) (limit : ℕ) (program : Option Text) → form ≡ outcome_form_of states → states ≡ is_true (one_of (codes "states") rows)
    → limit ≡ number_or 1000000 (one_of (codes "limit") rows) → program ≡ file_of (first_of (codes "program") rows) → (stream : Option Text) → stream ≡ first_of (codes "seen") rows
    → outcomes_asked (record { limit = limit; form = form }) program stream ≡ asked_in outcomes rows
outcomes_found rows states form limit program form_is states_are limit_is program_is stream stream_is = rw (form_is, states_are, limit_is, program_is, stream_is) refl

-- what holds of a refusal, and of what is asked for with options in their ranges, holds of what `replay`, `run` and `log` ask for
module _ (P : Asked → Type 0) (refused : P refusing) where
  of_any : {X : Type 0} (ask : X → Asked) → ((x : X) → P (ask x)) → (value : Option X) → P (option_map_or ask value refusing)
  of_any ask asked None = refused
  of_any ask asked (Some value) = asked value

  of_options : (ask : RunOptions → Asked) (given : Text → Option Text)
      → ((options : RunOptions) → 1 ≤ options.workers → options.workers ≤ requested_worker_limit → 1 ≤ options.unit.capacity → options.unit.capacity ≤ capacity_limit → 1 ≤ options.unit.trigger → P (ask options))
      → P (option_map_or ask (run_of given) refusing)
  of_options ask given asked = go (printing_of (is_true (given (codes "trace"))) (is_true (given (codes "explain"))))
    where
      options : Printing → RunOptions
      options printing = record { unit = given_unit given; workers = workers_of given; printing = printing; with_trace = is_true (given (codes "with-trace")) }

      go : (printing : Option Printing) → P (option_map_or ask (option_map options printing) refusing)
      go None = refused
      go (Some printing) = asked (options printing) (omega arith) (omega arith) (omega arith) (omega arith) (omega arith)

  pub of_replay : ((options : RunOptions) (first second : Option Text) → 1 ≤ options.workers → options.workers ≤ requested_worker_limit → 1 ≤ options.unit.capacity → options.unit.capacity ≤ capacity_limit
      → 1 ≤ options.unit.trigger → P (replaying options first second))
      → (rows : List Row) → P (asked_in replay rows)
  of_replay asked rows =
      of_options _ (given_in replay.parameters rows) (λ options some most capacity capacity_most trigger.
      of_any _ (λ texts. asked options texts.0 texts.1 some most capacity capacity_most trigger)
      (pair_of (file_of (first_of (codes "program") rows)) (file_of (first_of (codes "schedule") rows))))

  pub of_run : ((options : RunOptions) (seed turns : ℕ) (program : Option Text) → 1 ≤ options.workers → options.workers ≤ requested_worker_limit → 1 ≤ options.unit.capacity → options.unit.capacity ≤ capacity_limit
      → 1 ≤ options.unit.trigger → turns ≤ drain_turns_limit → P (running options seed turns program))
      → ((unit : UnitOptions) (seed turns times : ℕ) (program : Option Text) → 1 ≤ unit.capacity → unit.capacity ≤ capacity_limit → 1 ≤ unit.trigger → turns ≤ drain_turns_limit
      → P (repeating unit seed turns times program))
      → (rows : List Row) → P (asked_in run rows)
  of_run once more rows =
      of_options _ (given_in run.parameters rows) (λ options some most capacity capacity_most trigger.
      by_times options _ _ _ _ (λ few. once options _ _ _ some most capacity capacity_most trigger few) (λ few. more options.unit _ _ _ _ capacity capacity_most trigger few) (omega arith))
    where
      by_trace : (traces : Bool) (asked : Asked) → P asked → P (if traces then asked else refusing)
      by_trace true asked holds = holds
      by_trace false asked holds = refused

      by_one : (one : Bool) (first second : Asked) → P first → P second → P (if one then first else second)
      by_one true first second holds other = holds
      by_one false first second holds other = other

      by_times : (options : RunOptions) (seed turns times : ℕ) (program : Option Text) → (turns ≤ drain_turns_limit → P (running options seed turns program))
          → (turns ≤ drain_turns_limit → P (repeating options.unit seed turns times program)) → turns ≤ drain_turns_limit → P (run_asked options seed turns times program)
      by_times options seed turns times program first second few =
          by_one (times == 1) _ _ (first few) (by_trace (prints_trace options.printing) _ (second few))

  pub of_draw : ((presentation : Presentation) (file : Option Text) (workers : ℕ) (nth : Option ℕ) → 1 ≤ workers → workers ≤ requested_worker_limit → P (judging presentation file workers nth))
      → ((presentation : Presentation) (file : Option Text) (workers : ℕ) (nth : Option ℕ) (effort : ℕ) → 1 ≤ workers → workers ≤ requested_worker_limit → P (deciding presentation file workers nth effort))
      → (rows : List Row) → P (asked_in draw rows)
  of_draw judged decided rows =
      of_any (λ presentation. presented presentation given) (λ presentation. either presentation (is_true (one_of (codes "decide") rows)))
      (picture_form (is_true (one_of (codes "decide") rows)) (chosen_picture (first_of (codes "edges") rows)))
    where
      given : Text → Option Text
      given = given_in draw.parameters rows

      either : (presentation : Presentation) (decides : Bool) → P (if decides then decision_asked presentation given else verdict_asked presentation given)
      either presentation true = decided presentation _ _ _ _ (omega arith) (omega arith)
      either presentation false = judged presentation _ _ _ (omega arith) (omega arith)

  pub of_verify : ((trace evidence : Option Text) (nth : Option ℕ) → P (verifying trace evidence nth)) → ((log evidence : Option Text) → P (verifying_log log evidence)) → (rows : List Row) → P (asked_in verify rows)
  of_verify on_trace on_log rows =
      of_any (evidence_asked (is_true (one_of (codes "log") rows)) (given_number (one_of (codes "nth") rows))) (either (is_true (one_of (codes "log") rows)) (given_number (one_of (codes "nth") rows)))
      (pair_of (file_of (first_of (codes "trace") rows)) (file_of (first_of (codes "evidence") rows)))
    where
      either : (is_log : Bool) (nth : Option ℕ) (texts : Option Text × Option Text) → P (evidence_asked is_log nth texts)
      either false nth texts = on_trace texts.0 texts.1 nth
      either true None texts = on_log texts.0 texts.1
      either true (Some number) texts = refused

  pub of_log : ((file : Option Text) (options : LogOptions) → 1 ≤ options.most → options.most ≤ log_violation_limit → options.effort ≤ log_effort_limit → options.max_unknown ≤ percent_limit → P (logging file options))
      → ((file : Option Text) (effort : ℕ) (needs_end : Bool) → P (deciding_log file effort needs_end)) → (rows : List Row) → P (asked_in log rows)
  of_log asked decided rows = go (log_form_of (is_true (given_in log.parameters rows (codes "trace"))) (is_true (given_in log.parameters rows (codes "explain"))) (is_true (given_in log.parameters rows (codes "evidence"))))
    where
      file : Option Text
      file = file_of (first_of (codes "file") rows)

      options : LogForm → LogOptions
      options form = log_options_in (given_in log.parameters rows) form

      decides : Bool
      decides = is_true (given_in log.parameters rows (codes "decide"))

      by_form : (form : LogForm) (options : LogOptions) → P (log_decision_asked file options form)
      by_form Lines options = decided file options.effort options.needs_end
      by_form Explained options = refused
      by_form Traces options = refused
      by_form Evidence options = refused

      either : (decides : Bool) (form : LogForm) → P (log_asked decides file (options form))
      either true form = by_form form (options form)
      either false form = asked file (options form) (omega arith) (omega arith) (omega arith) (omega arith)

      go : (form : Option LogForm) → P (option_map_or (log_asked decides file) (option_map options form) refusing)
      go None = refused
      go (Some form) = either decides form

  pub of_batch : ((texts : List (Option Text)) (workers : ℕ) (printing : BatchPrinting) → 1 ≤ workers → workers ≤ requested_worker_limit → count_by is_none texts ≤ 1 → P (batching texts workers printing)) → (rows : List Row) → P (asked_in batch rows)
  of_batch asked rows = of_texts (several_in rows batch.parameters)
    where
      workers : ℕ
      workers = workers_of (given_in batch.parameters rows)

      printing : BatchPrinting
      printing = batch_printing_of (given_in batch.parameters rows)

      few_or_none : (texts : List (Option Text)) (b : Bool) → nat_le (count_by is_none texts) 1 ≡ b → P (option_map_or (λ ts. batching ts workers printing) (if b then Some texts else None) refusing)
      few_or_none texts true e = asked texts workers printing (omega arith) (omega arith) (leb-true _ _ e)
      few_or_none texts false e = refused

      of_texts : (files : List Text) → P (option_map_or (λ ts. batching ts workers printing) (batch_texts files) refusing)
      of_texts [] = asked (None ∷ []) workers printing (omega arith) (omega arith) (omega arith)
      of_texts (file ∷ files) = few_or_none (map (λ name. file_of (Some name)) (file ∷ files)) _ refl

pub of_request : {E : Type 0} (P : Asked → Type 0) (asked : Asked) → P asked → (result : Result Request E) → IfOk result (λ request. asked_of request ≡ asked) → IfOk result (λ request. P (asked_of request))
of_request P asked has (Ok request) is = subst P (sym is) has
of_request P asked has (Err error) is = tt
