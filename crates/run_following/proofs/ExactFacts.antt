-- Lemmas on what is told of the lines of a run, beside what the machine refuses.
use Rattle.std.proofs.Common.{◌≡◌, ◌∙◌, refl, sym, ap, subst, ℕ, ◌↔◌, List, [], ◌∷◌, ◌++◌, length, map, fold, append_assoc, append-nil, Option, None, Some, if◌then◌else◌, Bool}
use Rattle.std.specs.Option.{option_map_or}
use Rattle.std.proofs.lemmas.List.{map-append}
use Rattle.tso_ops.specs.declared.settings.Order.{Order}
use Rattle.tso_ops.specs.declared.settings.Order.TheVariants.{Pso}
use Rattle.tso_text.specs.declared.faults.Why.{Why}
use Rattle.tso_text.specs.declared.faults.Why.TheVariants.{BadLine, TooManyWaiting}
use Rattle.run_lines.specs.declared.lines.RunText.{RunText}
use Rattle.run_lines.specs.declared.lines.RunText.TheVariants as text
use Rattle.run_steps.specs.declared.places.Place.{Place}
use Rattle.run_steps.specs.declared.steps.RunLine.{RunLine}
use Rattle.run_steps.specs.declared.steps.RunStep.{RunStep}
use Rattle.run_steps.specs.Machine.{MachineState, beginning_state, line_refusals, presetting, state_after_line}
use Rattle.run_steps.specs.Reads.{RefusalValue}
use Rattle.run_steps.specs.Runs.{HoldsFrom, IsFirstRefused, refusals_from, state_after}
use Rattle.run_steps.proofs.RunFacts.{first_refused, holds_exactly}
use Rattle.run_following.specs.Accounts.{Account, account_at_start, is_full, said_fault, with_line}
use Rattle.run_following.specs.Exactness.{IsRunFromStart, refused_kind, told_kind, with_preset}
use Rattle.run_following.specs.Facts.{RefusalTold, kind_of, told}
use Rattle.run_following.specs.KeptLines.{text_at}
use Rattle.run_following.specs.Runs.{IsOfLines, LeadsTo}
use Rattle.run_following.specs.Stages.{stage_after}
use Rattle.run_following.specs.declared.stages.Stage.{Stage}
use Rattle.run_following.specs.declared.stages.Stage.TheVariants as stage

-- ---- lists

pub none_mapped : {X Y : Type 0} (f : X → Y) (xs : List X) → map f xs ≡ [] → xs ≡ []
none_mapped f [] none = refl
none_mapped f (x ∷ xs) none = absurd cc

-- a list of which the image begins with y
first_mapped : {X Y : Type 0} (f : X → Y) (xs : List X) (y : Y) (ys : List Y) → map f xs ≡ y ∷ ys → (x : X) × (others : List X) × (xs ≡ x ∷ others) × (f x ≡ y)
first_mapped f [] y ys is = absurd cc
first_mapped f (x ∷ xs) y ys is = (x, xs, refl, cc)

fold_last : {X A : Type 0} (f : A → X → A) (a : A) (xs : List X) (x : X) → fold f a (xs ++ x ∷ []) ≡ f (fold f a xs) x
fold_last f a [] x = refl
fold_last f a (y ∷ xs) x = fold_last f (f a y) xs x

-- ---- more steps

pub state-push : (s : MachineState) (lines : List RunLine) (line : RunLine) → state_after s (lines ++ line ∷ []) ≡ state_after_line line (state_after s lines)
state-push s [] line = refl
state-push s (other ∷ lines) line = state-push (state_after_line other s) lines line

abbrev numbered : ℕ → RefusalValue → ℕ × RefusalValue
numbered n refusal = (n, refusal)

refusals-push : (model : Order) (s : MachineState) (lines : List RunLine) (line : RunLine) →
    refusals_from model s (lines ++ line ∷ []) ≡ refusals_from model s lines ++ map (numbered line.number) (line_refusals model line (state_after s lines))
refusals-push model s [] line = append-nil (map (numbered line.number) (line_refusals model line s))
refusals-push model s (other ∷ lines) line =
    let here = map (numbered other.number) (line_refusals model other s) in
    ap (λ rs. here ++ rs) (refusals-push model (state_after_line other s) lines line)
    ∙ sym (append_assoc here (refusals_from model (state_after_line other s) lines) (map (numbered line.number) (line_refusals model line (state_after s (other ∷ lines)))))

kinds_told : (lines : ℕ → List ℕ) (n : ℕ) (refusals : List RefusalValue) → map told_kind (map (told lines n) refusals) ≡ map refused_kind (map (numbered n) refusals)
kinds_told lines n [] = refl
kinds_told lines n (r ∷ refusals) = ap (λ ks. (n, kind_of r) ∷ ks) (kinds_told lines n refusals)

-- what is told with the refusals of one more line
pub told_more : (model : Order) (start : MachineState) (steps : List RunLine) (line : RunLine) (lines : ℕ → List ℕ) (s : MachineState) (refusals : List RefusalTold) → s ≡ state_after start steps →
    map told_kind refusals ≡ map refused_kind (refusals_from model start steps) →
    map told_kind (refusals ++ map (told lines line.number) (line_refusals model line s)) ≡ map refused_kind (refusals_from model start (steps ++ line ∷ []))
told_more model start steps line lines s refusals is so_far =
    let before = refusals_from model start steps in
    let found = line_refusals model line s in
    map-append told_kind refusals (map (told lines line.number) found)
    ∙ ap (λ ks. ks ++ map told_kind (map (told lines line.number) found)) so_far
    ∙ ap (λ ks. map refused_kind before ++ ks) (kinds_told lines line.number found)
    ∙ ap (λ t. map refused_kind before ++ map refused_kind (map (numbered line.number) (line_refusals model line t))) is
    ∙ sym (map-append refused_kind before (map (numbered line.number) (line_refusals model line (state_after start steps))))
    ∙ sym (ap (map refused_kind) (refusals-push model start steps line))

-- ---- accounts

-- no step stands before the memory model or a first value
abbrev IsEarly : Stage → Type 0
IsEarly stage.Notes = Unit {0}
IsEarly stage.Firsts = Unit {0}
IsEarly stage.Steps = ⊥
IsEarly stage.Ended = ⊥

record IsRunSoFar (account : Account) : Type 0 where
  run : IsRunFromStart account
  early : IsEarly account.stage → account.steps ≡ []

module _ (b : Bool) where
  abbrev fault_at : Option Stage → Option Why
  fault_at o = option_map_or (λ at. if b then Some TooManyWaiting else None) o (Some BadLine)

  pso_early : (at : Stage) → fault_at (stage_after at text.Pso) ≡ None → IsEarly at
  pso_early stage.Notes none = tt
  pso_early stage.Firsts none = absurd cc
  pso_early stage.Steps none = absurd cc
  pso_early stage.Ended none = absurd cc

  first_early : (at : Stage) (place : Place) (v : ℕ) → fault_at (stage_after at (text.First place v)) ≡ None → IsEarly at
  first_early stage.Notes place v none = tt
  first_early stage.Firsts place v none = tt
  first_early stage.Steps place v none = absurd cc
  first_early stage.Ended place v none = absurd cc

module _ (account : Account) (so_far : IsRunSoFar account) (line : List ℕ) where
  abbrev run : IsRunFromStart account
  run = so_far.run

  -- what a line says that changes neither steps nor state
  abbrev run_kept : (at : Account) → at.steps ≡ account.steps → at.state ≡ account.state → at.model ≡ account.model → at.refusals ≡ account.refusals → IsRunFromStart at
  run_kept at steps state model refusals = record {
    firsts = run.firsts;
    start = run.start;
    is = run.is;
    state = state ∙ run.state ∙ sym (ap (state_after run.start) steps);
    refused = ap (map told_kind) refusals ∙ run.refused ∙ sym (ap (λ m. map refused_kind (refusals_from m run.start account.steps)) model)
        ∙ sym (ap (λ ss. map refused_kind (refusals_from at.model run.start ss)) steps);
  }

  pso_more : account.steps ≡ [] → IsRunSoFar (with_line account line text.Pso)
  pso_more none = record {
    run = record {
      firsts = run.firsts;
      start = run.start;
      is = run.is;
      state = run.state;
      refused = run.refused ∙ ap (λ steps. map refused_kind (refusals_from account.model run.start steps)) none
          ∙ sym (ap (λ steps. map refused_kind (refusals_from Pso run.start steps)) none);
    };
    early = λ early. none;
  }

  first_more : (place : Place) (v : ℕ) → account.steps ≡ [] → IsRunSoFar (with_line account line (text.First place v))
  first_more place v none = record {
    run = record {
      firsts = run.firsts ++ (place, v) ∷ [];
      start = presetting place v run.start;
      is = ap (presetting place v) run.is ∙ sym (fold_last with_preset beginning_state run.firsts (place, v));
      state = ap (presetting place v) (run.state ∙ ap (state_after run.start) none) ∙ sym (ap (state_after (presetting place v run.start)) none);
      refused = run.refused ∙ ap (λ steps. map refused_kind (refusals_from account.model run.start steps)) none
          ∙ sym (ap (λ steps. map refused_kind (refusals_from account.model (presetting place v run.start) steps)) none);
    };
    early = λ early. none;
  }

  step_more : (p : ℕ) (step : RunStep) → IsRunSoFar (with_line account line (text.Step p step))
  step_more p step =
      let next : RunLine = record { number = length (account.texts ++ line ∷ []); processor = p; step = step } in
      record {
        run = record {
          firsts = run.firsts;
          start = run.start;
          is = run.is;
          state = ap (state_after_line next) run.state ∙ sym (state-push run.start account.steps next);
          refused = told_more account.model run.start account.steps next (text_at (account.texts ++ line ∷ [])) account.state account.refusals run.state run.refused;
        };
        early = λ none. absurd none;
      }

  said_more : (said : RunText) → said_fault account said ≡ None → IsRunSoFar (with_line account line said)
  said_more text.Note follows = record { run = run_kept (with_line account line text.Note) refl refl refl refl; early = so_far.early }
  said_more text.Pso follows = pso_more (so_far.early (pso_early (is_full account.state text.Pso) account.stage follows))
  said_more (text.First place v) follows = first_more place v (so_far.early (first_early (is_full account.state (text.First place v)) account.stage place v follows))
  said_more (text.Step p step) follows = step_more p step
  said_more text.End follows = record { run = run_kept (with_line account line text.End) refl refl refl refl; early = λ none. absurd none }

all_lines : (lines : List (List ℕ)) (from to : Account) → IsRunSoFar from → LeadsTo from lines to → IsRunSoFar to
all_lines [] from to so_far leads = subst IsRunSoFar leads so_far
all_lines (line ∷ lines) from to so_far leads =
    let accepted = leads.1 in
    all_lines lines leads.0 to (subst IsRunSoFar (sym accepted.is) (said_more from so_far line accepted.said accepted.follows)) leads.2

pub run_of_lines : (account : Account) → IsOfLines account → IsRunFromStart account
run_of_lines account leads =
    (all_lines account.texts account_at_start account
    (record { run = record { firsts = []; start = beginning_state; is = refl; state = refl; refused = refl }; early = λ early. refl }) leads).run

-- ---- exactly

module _ (account : Account) (run : IsRunFromStart account) where
  pub told_exactly : (account.refusals ≡ []) ↔ HoldsFrom account.model run.start account.steps
  told_exactly =
      let exactly = holds_exactly account.model run.start account.steps in (
        λ none. exactly.0 (none_mapped refused_kind (refusals_from account.model run.start account.steps) (sym run.refused ∙ ap (map told_kind) none)),
        λ holds. none_mapped told_kind account.refusals (run.refused ∙ ap (map refused_kind) (exactly.1 holds)),
      )

  pub first_told : (t : RefusalTold) (others : List RefusalTold) → account.refusals ≡ t ∷ others → (line : RunLine) × (line.number ≡ t.line.0) × IsFirstRefused account.model run.start account.steps line
  first_told t others is =
      let found = first_mapped refused_kind (refusals_from account.model run.start account.steps) (told_kind t) (map told_kind others) (sym run.refused ∙ ap (map told_kind) is) in
      let line = first_refused account.model run.start account.steps found.0.0 found.0.1 found.1 found.2 in
      (line.0, line.1 ∙ ap (λ k. k.0) found.3, line.2)
