-- Steps that are one for each piece of a place: how many they are, and what they say.
use Rattle.std.proofs.Common.{◌≡◌, ◌∙◌, sym, ap, refl, subst, ℕ, zero, suc, ◌+◌, ◌^◌, ◌<◌, ◌≤◌, true, cond, List, [], ◌∷◌, length, map, filter, arith}
use Rattle.std.specs.List.{AllByRecursion}
use Rattle.run_steps.specs.declared.places.Place.{Place}
use Rattle.run_steps.specs.declared.steps.RunStep.{RunStep}
use Rattle.run_lines.specs.Lines.{numbers_of_step, step_word}
use Rattle.log_text.specs.declared.lines.LogLine.{LogLine}
use Rattle.log_text.specs.declared.lines.LogLine.TheVariants as said
use Rattle.log_text.specs.declared.logs.LogOperation.{LogOperation}
use Rattle.log_text.specs.LogLines.{step_told}
use Rattle.log_text.specs.Splits.{address_in, boundaries_in, is_boundary, line_on_piece, operation_on_piece, piece_value, split_line}
use Rattle.run_orders.specs.RunLogs.{IsAtLocation, IsLocation}
use Rattle.run_orders.specs.SplitLogs.{width_logged}
use Rattle.run_orders.proofs.Told.{is_said}
use Rattle.run_orders.proofs.Pieces.{AreLow, IsCut, location, steps_of}

-- what a step of processor p says to a log
abbrev pub told_by : ℕ → RunStep → LogLine
told_by p step = step_told p (step_word step) (numbers_of_step step)

pub steps_length : (f : Place → ℕ → ℕ → RunStep) (a r v : ℕ) (ps : List (ℕ × ℕ)) (low : AreLow ps) → length (steps_of f a r v ps low) ≡ length ps
steps_length f a r v [] low = refl
steps_length f a r v (piece ∷ ps) low = ap suc (steps_length f a r v ps low.1)

pub steps_located : (f : Place → ℕ → ℕ → RunStep) → ((place : Place) (r v : ℕ) → IsLocation place → IsAtLocation (f place r v)) → (a r v : ℕ) (ps : List (ℕ × ℕ)) (low : AreLow ps) →
    AllByRecursion IsAtLocation (steps_of f a r v ps low)
steps_located f at a r v [] low = tt
steps_located f at a r v (piece ∷ ps) low = (at (location piece.0 low.0) (piece_value a r piece) (piece_value a v piece) refl, steps_located f at a r v ps low.1)

pub steps_said : (f : Place → ℕ → ℕ → RunStep) (p a r v : ℕ) (x : LogOperation) →
    ((piece : ℕ × ℕ) (within : piece.0 + 1 ≤ 2 ^ 64) → told_by p (f (location piece.0 within) (piece_value a r piece) (piece_value a v piece)) ≡ said.Issued p (operation_on_piece x piece)) →
    (ps : List (ℕ × ℕ)) (low : AreLow ps) → filter is_said (map (told_by p) (steps_of f a r v ps low)) ≡ map (line_on_piece (said.Issued p x)) ps
steps_said f p a r v x told [] low = refl
steps_said f p a r v x told (piece ∷ ps) low =
    let rest = map (told_by p) (steps_of f a r v ps low.1) in
    ap (λ line. filter is_said (line ∷ rest)) (told piece low.0) ∙ ap (λ lines. said.Issued p (operation_on_piece x piece) ∷ lines) (steps_said f p a r v x told ps low.1)

pub steps_silent : (f : Place → ℕ → ℕ → RunStep) (p : ℕ) → ((place : Place) (r v : ℕ) → told_by p (f place r v) ≡ said.Memory) → (a r v : ℕ) (ps : List (ℕ × ℕ)) (low : AreLow ps) →
    filter is_said (map (told_by p) (steps_of f a r v ps low)) ≡ []
steps_silent f p told a r v [] low = refl
steps_silent f p told a r v (piece ∷ ps) low =
    let rest = map (told_by p) (steps_of f a r v ps low.1) in
    ap (λ line. filter is_said (line ∷ rest)) (told (location piece.0 low.0) (piece_value a r piece) (piece_value a v piece)) ∙ steps_silent f p told a r v ps low.1

-- both ends of the place of a step are boundaries
abbrev pub IsCutStep : List ℕ → ℕ → RunStep → Type 0
IsCutStep bs p step = AllByRecursion (λ b. is_boundary bs b ≡ true) (boundaries_in (record { line = told_by p step; width = width_logged step }))

-- what a step says, piece by piece, if it says something
abbrev pub said_pieces : List ℕ → ℕ → RunStep → List LogLine
said_pieces bs p step = cond (is_said (told_by p step)) (split_line bs (record { line = told_by p step; width = width_logged step })) []

pub place_cut : (bs : List ℕ) (place : Place) (line : LogLine) → 0 < place.width → address_in line ≡ place.address →
    AllByRecursion (λ b. is_boundary bs b ≡ true) (boundaries_in (record { line = line; width = place.width })) → IsCut bs place
place_cut bs place line wide at cut = ends place.width refl
  where
    ends : (width : ℕ) → place.width ≡ width → IsCut bs place
    ends zero is = absurd (omega (arith, wide, is))
    ends (suc more) is =
        let both = subst (λ n. AllByRecursion (λ b. is_boundary bs b ≡ true) (boundaries_in (record { line = line; width = n }))) is cut in
        record {
          wide = wide;
          first = ap (is_boundary bs) (sym at) ∙ both.0;
          last = ap (λ n. is_boundary bs (place.address + n)) is ∙ ap (λ a. is_boundary bs (a + suc more)) (sym at) ∙ both.1.0;
        }
