-- The names of a log go with its events.
use Rattle.std.proofs.Common.{◌≡◌, ℕ, suc, Bool, true, false, List, [], ◌∷◌, ◌++◌, map, refl, ap, sym, ◌∙◌}
use Rattle.std.specs.List.{flat_map}
use Rattle.std.proofs.lemmas.List.{map-append}
use Rattle.tso_ops.specs.declared.ops.Outcome.{Outcome}
use Rattle.tso_ops.specs.Events.{events_from, events_of_lists, events_of}
use Rattle.log_text.specs.declared.logs.LogOperation.{LogOperation}
use Rattle.log_text.specs.declared.logs.LogOperation.TheVariants.{Ld, St, Sw, Mb, Sb}
use Rattle.log_text.specs.declared.logs.LoggedOperation.{LoggedOperation}
use Rattle.log_text.specs.LogValues.{NumberedLog, logged_outcome, logged_outcomes, log_operations}
use Rattle.value_texts.specs.declared.names.EventName.{EventName}
use Rattle.value_texts.specs.Names.{names_on, names_in, event_names, is_store_of_swap}

abbrev half : EventName → Bool
half name = name.is_swap_store

-- of one more operation
operation_halves : (line p bars stbars : ℕ) (o : LogOperation) (names : List EventName) (outcomes : List Outcome) → ((b s : ℕ) → map half names ≡ map is_store_of_swap (events_from p b s outcomes)) →
    map half (names_on line o ++ names) ≡ map is_store_of_swap (events_from p bars stbars (logged_outcome o ∷ outcomes))
operation_halves line p bars stbars (Ld a r) names outcomes more = ap (λ rest. false ∷ rest) (more bars stbars)
operation_halves line p bars stbars (St a v) names outcomes more = ap (λ rest. false ∷ rest) (more bars stbars)
operation_halves line p bars stbars (Sw a r v) names outcomes more = ap (λ rest. false ∷ true ∷ rest) (more bars stbars)
operation_halves line p bars stbars Mb names outcomes more = more (suc bars) stbars
operation_halves line p bars stbars Sb names outcomes more = more bars (suc stbars)

list_halves : (p bars stbars : ℕ) (list : List LoggedOperation) → map half (flat_map names_in list) ≡ map is_store_of_swap (events_from p bars stbars (logged_outcomes list))
list_halves p bars stbars [] = refl
list_halves p bars stbars (x ∷ list) = operation_halves x.line p bars stbars x.operation (flat_map names_in list) (logged_outcomes list) (λ b s. list_halves p b s list)

lists_halves : (p : ℕ) (lists : List (List LoggedOperation)) → map half (flat_map (flat_map names_in) lists) ≡ map is_store_of_swap (events_of_lists p (map logged_outcomes lists))
lists_halves p [] = refl
lists_halves p (list ∷ lists) =
    let names = flat_map names_in list in
    let events = events_from p 0 0 (logged_outcomes list) in
    map-append half names (flat_map (flat_map names_in) lists) ∙ ap (λ t. t ++ map half (flat_map (flat_map names_in) lists)) (list_halves p 0 0 list)
    ∙ ap (λ t. map is_store_of_swap events ++ t) (lists_halves (suc p) lists) ∙ sym (map-append is_store_of_swap events (events_of_lists (suc p) (map logged_outcomes lists)))

pub log_halves : (log : NumberedLog) → map half (event_names log) ≡ map is_store_of_swap (events_of (log_operations log))
unfolding events_of
log_halves log = lists_halves 0 log.lists
