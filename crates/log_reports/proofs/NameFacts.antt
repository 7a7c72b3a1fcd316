-- Lemmas on the names of the events of lines.
use Rattle.std.proofs.Common.{◌≡◌, ◌∙◌, ℕ, zero, suc, ◌+◌, List, [], ◌∷◌, ◌++◌, ap, arith}
use Rattle.std.specs.List.{flat_map, range_with_len}
use Rattle.std.proofs.lemmas.List.{append-nil}
use Rattle.std.proofs.lemmas.Grind.{flat_map-append}
use Rattle.log_selections.specs.declared.shown.Shown.{Shown}
use Rattle.log_text.specs.declared.tags.LineTags.{LineTags}
use Rattle.log_reports.specs.Namings.{event_names_of, named_events}

range_next : (a n : ℕ) → range_with_len a (n + 1) ≡ range_with_len a n ++ (a + n) ∷ []
range_next a zero =
    let at : zero + 1 ≡ suc zero = omega arith in
    let same : a ≡ a + zero = omega arith in
    ap (range_with_len a) at ∙ ap (λ b. b ∷ []) same
range_next a (suc n) =
    let at : suc n + 1 ≡ suc (n + 1) = omega arith in
    let same : a + 1 + n ≡ a + suc n = omega arith in
    ap (range_with_len a) at ∙ ap (λ xs. a ∷ xs) (range_next (a + 1) n) ∙ ap (λ b. a ∷ (range_with_len (a + 1) n ++ b ∷ [])) same

-- those of one more processor
pub named_next : (tags : LineTags) (shown : List Shown) (p : ℕ) → named_events tags (p + 1) shown ≡ named_events tags p shown ++ event_names_of tags shown p
named_next tags shown p =
    ap (flat_map (event_names_of tags shown)) (range_next 0 p) ∙ flat_map-append (event_names_of tags shown) (range_with_len 0 p) ((0 + p) ∷ [])
    ∙ ap (λ xs. named_events tags p shown ++ xs) (append-nil (event_names_of tags shown (0 + p)) ∙ (let same : 0 + p ≡ p = omega arith in ap (event_names_of tags shown) same))
