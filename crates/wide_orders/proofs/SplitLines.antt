-- What the lines of the pieces say to a log.
use Rattle.std.proofs.Common.{◌≡◌, ◌∙◌, ℕ, zero, suc, max, eqb, nat_eq, cond, not, ◌||◌, Bool, true, false, List, [], ◌∷◌, ◌++◌, map, filter, refl, sym, ap, arith}
use Rattle.std.specs.List.{AllByRecursion, flat_map, list_any}
use Rattle.std.proofs.lemmas.List.{map-append}
use Rattle.tso_ops.specs.declared.ops.Outcome.{Outcome}
use Rattle.tso_ops.specs.declared.ops.Outcome.TheVariants as outcomes
use Rattle.log_text.specs.declared.lines.LogLine.{LogLine}
use Rattle.log_text.specs.declared.lines.LogLine.TheVariants.{Note, Pso, First, Issued, Unknown, Memory, End}
use Rattle.log_text.specs.declared.lines.SaidLine.{SaidLine}
use Rattle.log_text.specs.declared.logs.LogOperation.{LogOperation}
use Rattle.log_text.specs.declared.logs.LogOperation.TheVariants.{Ld, St, Sw, Mb, Sb}
use Rattle.log_text.specs.declared.logs.LoggedOperation.{LoggedOperation}
use Rattle.log_text.specs.LogTexts.{is_model, processors_to, processors_in, issued_in, issued_from, is_at_one_of, without_addresses}
use Rattle.log_text.specs.LogValues.{logged_outcome, logged_outcomes}
use Rattle.log_text.specs.Splits.{address_in, operation_on_piece, line_on_piece, is_boundary, pieces_from, pieces, split_line}
use Rattle.wide_orders.specs.WideOrders.{WideOperation, plain_lines, names_place, wide_issued_in}
use Rattle.wide_orders.proofs.CutTraces.{cut_operations, cut_outcomes}

-- ---- model and processors

-- each place has a piece
some_from : (bs : List ℕ) (start count b more : ℕ) → (first : ℕ × ℕ) × (rest : List (ℕ × ℕ)) × (pieces_from bs start count b more ≡ first ∷ rest)
unfolding pieces_from
some_from bs start count b zero = ((start, count), [], refl)
some_from bs start count b (suc more) = by_test (some_from bs start (suc count) (suc b) more) (is_boundary bs b)
  where
    by_test : (first : ℕ × ℕ) × (rest : List (ℕ × ℕ)) × (pieces_from bs start (suc count) (suc b) more ≡ first ∷ rest) → (t : Bool) →
        (first : ℕ × ℕ) × (rest : List (ℕ × ℕ)) × (cond t ((start, count) ∷ pieces_from bs b 1 (suc b) more) (pieces_from bs start (suc count) (suc b) more) ≡ first ∷ rest)
    by_test further true = ((start, count), pieces_from bs b 1 (suc b) more, refl)
    by_test further false = further

-- also a location
some_pieces : (bs : List ℕ) (a width : ℕ) → (first : ℕ × ℕ) × (rest : List (ℕ × ℕ)) × (pieces bs a width ≡ first ∷ rest)
some_pieces bs a zero = ((a, 0), [], refl)
some_pieces bs a (suc more) = some_from bs a 1 (suc a) more

-- what the pieces of a line say of processors
processors_at : (line : LogLine) (piece : ℕ × ℕ) → processors_to (line_on_piece line piece) ≡ processors_to line
processors_at Note piece = refl
processors_at Pso piece = refl
processors_at (First a v) piece = refl
processors_at (Issued p x) piece = refl
processors_at (Unknown p a) piece = refl
processors_at Memory piece = refl
processors_at End piece = refl

-- all of them say the same as the line
processors_of_pieces : (line : LogLine) (first : ℕ × ℕ) (ps : List (ℕ × ℕ)) (more : List LogLine) → processors_in (map (line_on_piece line) (first ∷ ps) ++ more) ≡ max (processors_to line) (processors_in more)
processors_of_pieces line first [] more = ap (λ n. max n (processors_in more)) (processors_at line first)
processors_of_pieces line first (next ∷ ps) more =
    ap (λ n. max n (processors_in (map (line_on_piece line) (next ∷ ps) ++ more))) (processors_at line first) ∙ ap (max (processors_to line)) (processors_of_pieces line next ps more)
    ∙ twice (processors_to line) (processors_in more)
  where
    twice : (m n : ℕ) → max m (max m n) ≡ max m n
    twice m n = omega arith

-- the processors are the same
pub split_processors : (bs : List ℕ) (lines : List SaidLine) → processors_in (flat_map (split_line bs) lines) ≡ processors_in (plain_lines lines)
split_processors bs [] = refl
split_processors bs (s ∷ lines) =
    let some = some_pieces bs (address_in s.line) s.width in
    ap (λ ps. processors_in (map (line_on_piece s.line) ps ++ flat_map (split_line bs) lines)) some.2
    ∙ processors_of_pieces s.line some.0 some.1 (flat_map (split_line bs) lines) ∙ ap (max (processors_to s.line)) (split_processors bs lines)

-- what the pieces of a line say of the model
model_at : (line : LogLine) (piece : ℕ × ℕ) → is_model (line_on_piece line piece) ≡ is_model line
model_at Note piece = refl
model_at Pso piece = refl
model_at (First a v) piece = refl
model_at (Issued p x) piece = refl
model_at (Unknown p a) piece = refl
model_at Memory piece = refl
model_at End piece = refl

-- the same of all of them
model_of_pieces : (line : LogLine) (first : ℕ × ℕ) (ps : List (ℕ × ℕ)) (more : List LogLine) → list_any is_model (map (line_on_piece line) (first ∷ ps) ++ more) ≡ (is_model line || list_any is_model more)
model_of_pieces line first [] more = ap (λ t. t || list_any is_model more) (model_at line first)
model_of_pieces line first (next ∷ ps) more =
    ap (λ t. t || list_any is_model (map (line_on_piece line) (next ∷ ps) ++ more)) (model_at line first) ∙ ap (λ t. is_model line || t) (model_of_pieces line next ps more)
    ∙ twice (is_model line) (list_any is_model more)
  where
    twice : (s t : Bool) → (s || (s || t)) ≡ (s || t)
    twice true t = refl
    twice false t = refl

-- the model is the same
pub split_model : (bs : List ℕ) (lines : List SaidLine) → list_any is_model (flat_map (split_line bs) lines) ≡ list_any is_model (plain_lines lines)
split_model bs [] = refl
split_model bs (s ∷ lines) =
    let some = some_pieces bs (address_in s.line) s.width in
    ap (λ ps. list_any is_model (map (line_on_piece s.line) ps ++ flat_map (split_line bs) lines)) some.2
    ∙ model_of_pieces s.line some.0 some.1 (flat_map (split_line bs) lines) ∙ ap (λ t. is_model s.line || t) (split_model bs lines)

-- ---- operations

-- whether a piece is kept, where something unknown was done at these addresses
abbrev pub is_kept : List ℕ → ℕ × ℕ → Bool
is_kept unknown piece = not (list_any (nat_eq piece.0) unknown)

module _ (bytes : Bool) (bs unknown : List ℕ) (p : ℕ) where
  -- what is left of operations
  abbrev told : List LoggedOperation → List Outcome
  told xs = logged_outcomes (without_addresses unknown xs)

  -- what is done to the pieces
  abbrev done : List WideOperation → List Outcome
  done ops = cut_outcomes bytes bs (is_kept unknown) ops

  module _ (more : List LogLine) where
    -- lines that say nothing of the processor
    silent : (rest : List Outcome) → ((m : ℕ) → told (issued_from m more p) ≡ rest) → (line : LogLine) → ((n : ℕ) (piece : ℕ × ℕ) → issued_in p n (line_on_piece line piece) ≡ []) →
        (ps : List (ℕ × ℕ)) (n : ℕ) → told (issued_from n (map (line_on_piece line) ps ++ more) p) ≡ rest
    silent rest after line none [] n = after n
    silent rest after line none (piece ∷ ps) n =
        ap (λ xs. told (xs ++ issued_from (suc n) (map (line_on_piece line) ps ++ more) p)) (none n piece) ∙ silent rest after line none ps (suc n)

    -- lines that say an operation of it
    acts : (rest : List Outcome) → ((m : ℕ) → told (issued_from m more p) ≡ rest) → (q : ℕ) (x : LogOperation) → eqb p q ≡ true →
        ((piece : ℕ × ℕ) → is_at_one_of unknown (operation_on_piece x piece) ≡ list_any (nat_eq piece.0) unknown) → (ps : List (ℕ × ℕ)) (n : ℕ) →
        told (issued_from n (map (line_on_piece (Issued q x)) ps ++ more) p) ≡ map logged_outcome (map (operation_on_piece x) (filter (is_kept unknown) ps)) ++ rest
    acts rest after q x own at [] n = after n
    acts rest after q x own at (piece ∷ ps) n =
        let this : LoggedOperation = record { line = n; operation = operation_on_piece x piece } in
        let later = issued_from (suc n) (map (line_on_piece (Issued q x)) ps ++ more) p in
        ap (λ t. told (cond t (this ∷ []) [] ++ later)) own
        ∙ ap (λ t. map (λ (y : LoggedOperation). logged_outcome y.operation) (cond (not t) (this ∷ without_addresses unknown later) (without_addresses unknown later))) (at piece)
        ∙ by_test this (without_addresses unknown later) refl (is_kept unknown piece) (acts rest after q x own at ps (suc n))
      where
        by_test : (this : LoggedOperation) (others : List LoggedOperation) → this.operation ≡ operation_on_piece x piece → (t : Bool) →
            logged_outcomes others ≡ map logged_outcome (map (operation_on_piece x) (filter (is_kept unknown) ps)) ++ rest →
            map (λ (y : LoggedOperation). logged_outcome y.operation) (cond t (this ∷ others) others)
            ≡ map logged_outcome (map (operation_on_piece x) (cond t (piece ∷ filter (is_kept unknown) ps) (filter (is_kept unknown) ps))) ++ rest
        by_test this others is true same =
            ap (λ y. logged_outcome y ∷ logged_outcomes others) is ∙ ap (λ es. logged_outcome (operation_on_piece x piece) ∷ es) same
        by_test this others is false same = same

    -- a line and what follows
    line_told : (ys : List WideOperation) → ((m : ℕ) → told (issued_from m more p) ≡ done ys) → (width : ℕ) (line : LogLine) → (names_place line ≡ false → width ≡ 0) → (n : ℕ) →
        told (issued_from n (map (line_on_piece line) (pieces bs (address_in line) width) ++ more) p) ≡ done (wide_issued_in p width line ++ ys)
    line_told ys after width Note other n = silent (done ys) after Note (λ m piece. refl) (pieces bs 0 width) n
    line_told ys after width Pso other n = silent (done ys) after Pso (λ m piece. refl) (pieces bs 0 width) n
    line_told ys after width (First a v) other n = silent (done ys) after (First a v) (λ m piece. refl) (pieces bs a width) n
    line_told ys after width (Unknown q a) other n = silent (done ys) after (Unknown q a) (λ m piece. refl) (pieces bs a width) n
    line_told ys after width Memory other n = silent (done ys) after Memory (λ m piece. refl) (pieces bs 0 width) n
    line_told ys after width End other n = silent (done ys) after End (λ m piece. refl) (pieces bs 0 width) n
    line_told ys after width (Issued q x) other n = by_owner (eqb p q) refl
      where
        -- one of the processor
        its : (y : LogOperation) → (names_place (Issued q y) ≡ false → width ≡ 0) → eqb p q ≡ true →
            told (issued_from n (map (line_on_piece (Issued q y)) (pieces bs (address_in (Issued q y)) width) ++ more) p) ≡ done (record { operation = y; width = width } ∷ ys)
        its (Ld a r) none own =
            acts (done ys) after q (Ld a r) own (λ piece. refl) (pieces bs a width) n
            ∙ sym (map-append logged_outcome (map (operation_on_piece (Ld a r)) (filter (is_kept unknown) (pieces bs a width))) (cut_operations bytes bs (is_kept unknown) ys))
        its (St a v) none own =
            acts (done ys) after q (St a v) own (λ piece. refl) (pieces bs a width) n
            ∙ sym (map-append logged_outcome (map (operation_on_piece (St a v)) (filter (is_kept unknown) (pieces bs a width))) (cut_operations bytes bs (is_kept unknown) ys))
        its (Sw a r v) none own =
            acts (done ys) after q (Sw a r v) own (λ piece. refl) (pieces bs a width) n
            ∙ sym (map-append logged_outcome (map (operation_on_piece (Sw a r v)) (filter (is_kept unknown) (pieces bs a width))) (cut_operations bytes bs (is_kept unknown) ys))
        its Mb none own =
            ap (λ w. told (issued_from n (map (line_on_piece (Issued q Mb)) (pieces bs 0 w) ++ more) p)) (none refl)
            ∙ ap (λ t. told (cond t (record { line = n; operation = Mb } ∷ []) [] ++ issued_from (suc n) more p)) own ∙ ap (λ es. outcomes.Mb ∷ es) (after (suc n))
        its Sb none own =
            ap (λ w. told (issued_from n (map (line_on_piece (Issued q Sb)) (pieces bs 0 w) ++ more) p)) (none refl)
            ∙ ap (λ t. told (cond t (record { line = n; operation = Sb } ∷ []) [] ++ issued_from (suc n) more p)) own ∙ ap (λ es. outcomes.Sb ∷ es) (after (suc n))

        by_owner : (t : Bool) → eqb p q ≡ t →
            told (issued_from n (map (line_on_piece (Issued q x)) (pieces bs (address_in (Issued q x)) width) ++ more) p)
            ≡ done (cond (eqb p q) (record { operation = x; width = width } ∷ []) [] ++ ys)
        by_owner true own = its x other own ∙ sym (ap (λ t. done (cond t (record { operation = x; width = width } ∷ []) [] ++ ys)) own)
        by_owner false foreign =
            silent (done ys) after (Issued q x) (λ m piece. ap (λ t. cond t (record { line = m; operation = operation_on_piece x piece } ∷ []) []) foreign) (pieces bs (address_in (Issued q x)) width) n
            ∙ sym (ap (λ t. done (cond t (record { operation = x; width = width } ∷ []) [] ++ ys)) foreign)

  -- all lines
  pub lines_told : (lines : List SaidLine) → AllByRecursion (λ (s : SaidLine). names_place s.line ≡ false → s.width ≡ 0) lines → (n : ℕ) →
      told (issued_from n (flat_map (split_line bs) lines) p) ≡ done (flat_map (λ (s : SaidLine). wide_issued_in p s.width s.line) lines)
  lines_told [] others n = refl
  lines_told (s ∷ lines) others n =
      line_told (flat_map (split_line bs) lines) (flat_map (λ (x : SaidLine). wide_issued_in p x.width x.line) lines) (λ m. lines_told lines others.1 m) s.width s.line others.0 n
