-- The text of a run that holds, as a log, has an order.
use Rattle.std.proofs.Common.{◌≡◌, ◌∙◌, sym, ap, refl, subst, Bool, Result, Ok, Err, List, [], ◌∷◌, ◌++◌, length, map, append_assoc, append-nil, ℕ}
use Rattle.std.specs.List.{AllByRecursion}
use Rattle.std.proofs.lemmas.List.{append_cancel_right}
use Rattle.tso_text.specs.declared.faults.Why.{Why}
use Rattle.tso_model.specs.Axioms.{IsConsistent}
use Rattle.run_steps.specs.declared.steps.RunLine.{RunLine}
use Rattle.run_steps.specs.Runs.{HoldsFrom, refusals_from}
use Rattle.run_steps.proofs.RunFacts.{holds_exactly}
use Rattle.run_lines.specs.declared.arguments.Widths.{Widths}
use Rattle.run_lines.specs.declared.arguments.Widths.TheVariants.{Unseen, Bytes}
use Rattle.run_lines.specs.Lines.{LineNumbers, line_read, text_numbers}
use Rattle.run_lines.specs.PlacesSaid.{widths_after}
use Rattle.run_following.specs.Accounts.{Account, IsAccepted, account_at_start, with_line}
use Rattle.run_following.specs.Runs.{LeadsTo, SpellsRun}
use Rattle.run_following.specs.Exactness.{refused_kind, told_kind}
use Rattle.run_following.proofs.ExactFacts.{none_mapped}
use Rattle.log_text.specs.declared.lines.SaidLine.{SaidLine}
use Rattle.log_text.specs.LogLines.{line_said, result_told, said_told, width_named, widths_of_texts, widths_read}
use Rattle.log_text.specs.LogTexts.{SpellsLog, places_of_text}
use Rattle.log_text.specs.LogValues.{NumberedLog, log_operations}
use Rattle.run_orders.specs.SplitLogs.{IsAtPlacesOf, IsHeldSplitRun}
use Rattle.run_orders.proofs.Lists.{all-append, all_both}
use Rattle.run_orders.proofs.PieceOrders.{places_order}
use Rattle.run_lines.specs.declared.lines.RunText.{RunText}
use Rattle.run_lines.specs.declared.lines.RunText.TheVariants as text
use Rattle.run_text_orders.specs.UnknownBytes.{AreKnownLines, HasNoUnknownBytes, IsKnownLine}
use Rattle.run_text_orders.proofs.Accounts.{Accounts, accepted_more, at_start}
use Rattle.run_text_orders.proofs.PlaceKinds.{IsKnownStep, IsStepOfKind, kind_here, same_read, settled, settled_after, settled_read, step_places}
use Rattle.run_text_orders.proofs.Readings.{also_line}

-- what was read of a line that says something
told_of : (kind : Widths) (r : Result LineNumbers Why) (says : SaidLine) → result_told kind r ≡ Ok says → (n : LineNumbers) × (r ≡ Ok n) × (says ≡ said_told n)
told_of kind (Err why) says e = absurd cc
told_of kind (Ok n) says e = let same : said_told n ≡ says = cc in (n, refl, sym same)

read_of : (kind : Widths) (line : List ℕ) (says : SaidLine) → line_said kind line ≡ Ok says → (n : LineNumbers) × (line_read kind line ≡ Ok n) × (says ≡ said_told n)
unfolding line_said
read_of kind line says e = told_of kind (line_read kind line) says e

widths_with : (account : Account) (line : List ℕ) (said : RunText) → (with_line account line said).widths ≡ widths_after account.widths said
widths_with account line text.Note = refl
widths_with account line text.Pso = refl
widths_with account line (text.First place v) = refl
widths_with account line (text.Step p step) = refl
widths_with account line text.End = refl

-- one more line, and that the places of the text are still those that its lines had, or have later
next_line : (kind : Widths) (lines : List SaidLine) (account to : Account) (line : List ℕ) (later : Widths) (says : SaidLine) → Accounts kind lines account →
    IsAccepted account line to → kind ≡ settled account.widths (widths_read (line_read Unseen line) later) → line_said kind line ≡ Ok says →
    Accounts kind (lines ++ says ∷ []) to × (kind ≡ settled to.widths later)
next_line kind lines account to line later says accounts accepted places is =
    let before = account.widths in
    let n = text_numbers accepted.said in
    let read = read_of kind line says is in
    let same : read.0 ≡ n = same_read kind before (widths_read (line_read Unseen line) later) line read.0 n places read.1 accepted.read in
    let admitted = (also_line before line n accepted.read).1 in
    let named = places ∙ settled_read before line n later accepted.read in (
      subst (λ x. Accounts kind (lines ++ x ∷ []) to) (sym (read.2 ∙ ap said_told same))
          (accepted_more kind lines account accounts line accepted.said to (kind_here kind before later (width_named n) admitted named) accepted.follows accepted.is),
      named ∙ settled_after before accepted.said later admitted
          ∙ ap (λ w. settled w later) (sym (ap (λ (a : Account). a.widths) accepted.is ∙ widths_with account line accepted.said)),
    )

all_lines : (kind : Widths) (texts tail : List (List ℕ)) (lines before : List SaidLine) (from to : Account) → Accounts kind before from → LeadsTo from texts to →
    kind ≡ settled from.widths (widths_of_texts (texts ++ tail)) → map (line_said kind) texts ≡ map Ok lines → Accounts kind (before ++ lines) to
all_lines kind [] tail [] before from to accounts leads places is =
    subst (Accounts kind (before ++ [])) leads (subst (λ ls. Accounts kind ls from) (sym (append-nil before)) accounts)
all_lines kind [] tail (line ∷ lines) before from to accounts leads places is = absurd cc
all_lines kind (t ∷ texts) tail [] before from to accounts leads places is = absurd cc
all_lines kind (t ∷ texts) tail (line ∷ lines) before from to accounts leads places is =
    let here : line_said kind t ≡ Ok line = cc in
    let rest : map (line_said kind) texts ≡ map Ok lines = cc in
    let next = next_line kind before from leads.0 t (widths_of_texts (texts ++ tail)) line accounts leads.1 places here in
    subst (λ ls. Accounts kind ls to) (append_assoc before (line ∷ []) lines)
    (all_lines kind texts tail lines (before ++ line ∷ []) leads.0 to next.0 leads.2 next.1 rest)

known_more : (account : Account) (line : List ℕ) (said : RunText) → AllByRecursion (λ other. IsKnownStep other.step) account.steps → IsKnownLine (text_numbers said) →
    AllByRecursion (λ other. IsKnownStep other.step) (with_line account line said).steps
known_more account line text.Note known here = known
known_more account line text.Pso known here = known
known_more account line (text.First place v) known here = known
known_more account line (text.Step p step) known here =
    all-append (λ other. IsKnownStep other.step) account.steps (record { number = length (account.texts ++ line ∷ []); processor = p; step = step } ∷ []) known (here, tt)
known_more account line text.End known here = known

all_known : (texts tail : List (List ℕ)) (from to : Account) → AllByRecursion (λ other. IsKnownStep other.step) from.steps → LeadsTo from texts to →
    AreKnownLines (texts ++ tail) → AllByRecursion (λ other. IsKnownStep other.step) to.steps
all_known [] tail from to known leads lines = subst (λ (a : Account). AllByRecursion (λ other. IsKnownStep other.step) a.steps) leads known
all_known (t ∷ texts) tail from to known leads lines =
    let accepted = leads.1 in
    let n = text_numbers accepted.said in
    all_known texts tail leads.0 to
    (subst (λ (a : Account). AllByRecursion (λ other. IsKnownStep other.step) a.steps) (sym accepted.is)
    (known_more from t accepted.said known (lines.0 n (also_line from.widths t n accepted.read).0))) leads.2 lines.1

-- what holds of all under a premise
all_under : {X : Type 0} (A : Type 0) (P : X → Type 0) (xs : List X) → (A → AllByRecursion P xs) → AllByRecursion (λ x. A → P x) xs
all_under A P [] all = tt
all_under A P (x ∷ xs) all = ((λ a. (all a).0), all_under A P xs (λ a. (all a).1))

held : (kind : Widths) (lines : List SaidLine) (account : Account) (accounts : Accounts kind lines account) → account.refusals ≡ [] →
    (kind ≡ Bytes → AllByRecursion (λ line. IsKnownStep line.step) account.steps) → IsHeldSplitRun kind lines accounts.first account.steps
held kind lines account accounts none known = record {
  steps = accounts.steps;
  places = all_both (λ (line : RunLine). kind ≡ Bytes → IsKnownStep line.step) (λ line. IsStepOfKind kind line.step) (λ line. IsAtPlacesOf kind line.step)
      (λ line known is. step_places kind line.step known is) account.steps (all_under (kind ≡ Bytes) (λ (line : RunLine). IsKnownStep line.step) account.steps known) accounts.places;
  first = accounts.firsts;
  numbers = accounts.numbers;
  memory = accounts.memory;
  processors = accounts.processors;
  holds =
      subst (λ model. HoldsFrom model accounts.first account.steps) accounts.model
      ((holds_exactly account.model accounts.first account.steps).0 (none_mapped refused_kind (refusals_from account.model accounts.first account.steps) (sym accounts.refusals ∙ ap (map told_kind) none)));
}

pub text_order : (needs_end : Bool) (text : List ℕ) (account : Account) (log : NumberedLog) → SpellsRun needs_end text account → account.refusals ≡ [] → SpellsLog text log →
    HasNoUnknownBytes text → IsConsistent (log_operations log)
text_order needs_end text account log run none spells known_lines =
    let kind = places_of_text text in
    let same : account.texts ≡ spells.texts = append_cancel_right account.texts spells.texts ([] ∷ []) (sym run.whole ∙ spells.whole) in
    let said : map (line_said kind) account.texts ≡ map Ok spells.lines = ap (map (line_said kind)) same ∙ spells.said.said in
    let known : kind ≡ Bytes → AllByRecursion (λ other. IsKnownStep other.step) account.steps =
    λ bytes. all_known account.texts ([] ∷ []) account_at_start account tt run.leads (subst AreKnownLines run.whole (known_lines bytes)) in
    let accounts = all_lines kind account.texts ([] ∷ []) spells.lines [] account_at_start account (at_start kind) run.leads (ap widths_of_texts run.whole) said in
    subst (λ l. IsConsistent (log_operations l)) (sym spells.is)
    (places_order kind spells.lines accounts.first account.steps (held kind spells.lines account accounts none known))
