-- Where a walk around a cycle begins and ends: at the ends of the edge that closes it.
use Rattle.std.proofs.Common.{◌≡◌, ⊎_elim, sym, subst, ap, refl, ◌∙◌, ℕ, zero, suc, ◌+◌, ◌<◌, ◌≤◌, Bool, true, false, cond, List, [], ◌∷◌, ◌++◌, length, take, drop, get_or, Option, Some, None, slice_get, position, arith}
use Rattle.std.specs.Prelude.{◌==◌}
use Rattle.std.specs.Option.{option_map, option_map_or}
use Rattle.std.specs.List.{find}
use Rattle.std.proofs.lemmas.Bool.{cases_lt}
use Rattle.std.proofs.lemmas.Bool.Decides.{nat_tests}
use Rattle.std.proofs.lemmas.List.{get_or-append-add, get_or-drop, get_or-take, get_or_append_left, length-append, length-drop, length-take}
use Rattle.std.proofs.lemmas.List.Quantifiers.{position-Some}
use Rattle.std.proofs.lemmas.Slice.Zip.{get_or-zip, length-zip}
use Rattle.line_text.proofs.NumberFacts.{and_parts}
use Rattle.tso_cert.specs.declared.steps.CertStep.{CertStep}
use Rattle.trace_explanation.specs.declared.unfolded_cycles.EdgeKind.{EdgeKind}
use Rattle.trace_explanation.specs.CycleShapes.{last_or_zero}
use Rattle.trace_explanation.specs.Steps.{is_edge, links_of}
use Rattle.trace_explanation.specs.UnfoldedCycles.{has_kind, is_of_kind, turned, walk_by}

-- ---- the ends of a walk

-- the number at a place of two lists, of which the first ends before it
after : (xs ys : List ℕ) (i n : ℕ) → i ≡ length xs + n → get_or (xs ++ ys) i 0 ≡ get_or ys n 0
after xs ys i n at = ap (λ j. get_or (xs ++ ys) j 0) at ∙ get_or-append-add xs ys n 0

turned-length : (cycle : List ℕ) (k : ℕ) → k < length cycle → length (turned cycle (k + 1)) ≡ length cycle
turned-length cycle k within =
    length-append (drop (k + 1) cycle) (take (k + 1) cycle) ∙ (let dropped = length-drop (k + 1) cycle in let taken = length-take (k + 1) cycle in omega (arith, dropped, taken))

-- the last number of a walk is where the edge begins
turned-last : (cycle : List ℕ) (k : ℕ) → k < length cycle → last_or_zero (turned cycle (k + 1)) ≡ get_or cycle k 0
turned-last cycle k within =
    after (drop (k + 1) cycle) (take (k + 1) cycle) _ k (let dropped = length-drop (k + 1) cycle in let all = turned-length cycle k within in omega (arith, dropped, all))
    ∙ get_or-take (k + 1) cycle k 0 (omega arith)

-- the first is where it ends
turned-first : (cycle : List ℕ) (k : ℕ) → k < length cycle → get_or (turned cycle (k + 1)) 0 0 ≡ get_or (drop 1 cycle ++ take 1 cycle) k 0
turned-first cycle k within = ⊎_elim inner last (cases_lt (k + 1) (length cycle))
  where
    inner : k + 1 < length cycle → get_or (turned cycle (k + 1)) 0 0 ≡ get_or (drop 1 cycle ++ take 1 cycle) k 0
    inner before =
        let here : get_or (turned cycle (k + 1)) 0 0 ≡ get_or cycle (k + 1 + 0) 0 =
        get_or_append_left (drop (k + 1) cycle) (take (k + 1) cycle) 0 0 (let dropped = length-drop (k + 1) cycle in omega (arith, dropped)) ∙ get_or-drop (k + 1) cycle 0 0 in
        let there : get_or (drop 1 cycle ++ take 1 cycle) k 0 ≡ get_or cycle (1 + k) 0 =
        get_or_append_left (drop 1 cycle) (take 1 cycle) 0 k (let dropped = length-drop 1 cycle in omega (arith, dropped)) ∙ get_or-drop 1 cycle k 0 in
        let same : k + 1 + 0 ≡ 1 + k = omega arith in
        here ∙ ap (λ i. get_or cycle i 0) same ∙ sym there

    last : length cycle ≤ k + 1 → get_or (turned cycle (k + 1)) 0 0 ≡ get_or (drop 1 cycle ++ take 1 cycle) k 0
    last end =
        let here : get_or (turned cycle (k + 1)) 0 0 ≡ get_or cycle 0 0 =
        after (drop (k + 1) cycle) (take (k + 1) cycle) 0 0 (let dropped = length-drop (k + 1) cycle in omega (arith, dropped)) ∙ get_or-take (k + 1) cycle 0 0 (omega arith) in
        let there : get_or (drop 1 cycle ++ take 1 cycle) k 0 ≡ get_or cycle 0 0 =
        after (drop 1 cycle) (take 1 cycle) k 0 (let dropped = length-drop 1 cycle in omega (arith, dropped)) ∙ get_or-take 1 cycle 0 0 (omega arith) in
        here ∙ sym there

links-within : (cycle : List ℕ) (k : ℕ) → k < length (links_of cycle) → k < length cycle
links-within cycle k within = let both = length-zip cycle (drop 1 cycle ++ take 1 cycle) in omega (arith, both, within)

link-of-walk : (cycle : List ℕ) (k : ℕ) → k < length cycle → get_or (links_of cycle) k (0, 0) ≡ (last_or_zero (turned cycle (k + 1)), get_or (turned cycle (k + 1)) 0 0)
link-of-walk cycle k within =
    let other : k < length (drop 1 cycle ++ take 1 cycle) =
    (let all = length-append (drop 1 cycle) (take 1 cycle) in let dropped = length-drop 1 cycle in let taken = length-take 1 cycle in omega (arith, all, dropped, taken)) in
    get_or-zip cycle (drop 1 cycle ++ take 1 cycle) k (0, 0) within other ∙ ap (λ x. (x, get_or (drop 1 cycle ++ take 1 cycle) k 0)) (sym (turned-last cycle k within))
    ∙ ap (λ y. (last_or_zero (turned cycle (k + 1)), y)) (sym (turned-first cycle k within))

-- ---- the step of its edge

-- a step of this kind from a number to another
abbrev pub HasStep : List CertStep → EdgeKind → ℕ × ℕ → Type 0
HasStep steps kind link = (k : ℕ) × (s : CertStep) × (slice_get steps k ≡ Some s) × (s.from ≡ link.0) × (s.to ≡ link.1) × (is_of_kind kind s.reason ≡ true)

-- what is found stands at a place
found-place : (test : CertStep → Bool) (steps : List CertStep) (s : CertStep) → find test steps ≡ Some s → (k : ℕ) × (slice_get steps k ≡ Some s) × (test s ≡ true)
found-place test [] s found = absurd cc
found-place test (r ∷ steps) s found = by_test (found-place test steps s) (test r) refl found
  where
    by_test : (find test steps ≡ Some s → (k : ℕ) × (slice_get steps k ≡ Some s) × (test s ≡ true)) → (b : Bool) → test r ≡ b → cond b (Some r) (find test steps) ≡ Some s →
        (k : ℕ) × (slice_get (r ∷ steps) k ≡ Some s) × (test s ≡ true)
    by_test rest true passes here = let same : r ≡ s = cc in (zero, ap Some same, subst (λ x. test x ≡ true) same passes)
    by_test rest false fails here = let (k, at, is) = rest here in (suc k, at, is)

kind-step : (steps : List CertStep) (kind : EdgeKind) (link : ℕ × ℕ) → has_kind steps kind link ≡ true → HasStep steps kind link
kind-step steps kind link has = by_found (find (is_edge link) steps) refl has
  where
    by_found : (o : Option CertStep) → find (is_edge link) steps ≡ o → option_map_or (λ s. is_of_kind kind s.reason) o false ≡ true → HasStep steps kind link
    by_found None found is = absurd cc
    by_found (Some s) found is =
        let (k, at, edge) = found-place (is_edge link) steps s found in
        let ends = and_parts (s.from == link.0) (s.to == link.1) edge in (k, s, at, grind (arith, nat_tests, ends.0), grind (arith, nat_tests, ends.1), is)

pub walk-step : (steps : List CertStep) (kind : EdgeKind) (cycle walk : List ℕ) → walk_by steps kind cycle ≡ Some walk → HasStep steps kind (last_or_zero walk, get_or walk 0 0)
unfolding walk_by
walk-step steps kind cycle walk found = by_place (position (has_kind steps kind) (links_of cycle)) refl found
  where
    by_place : (o : Option ℕ) → position (has_kind steps kind) (links_of cycle) ≡ o → option_map (λ k. turned cycle (k + 1)) o ≡ Some walk → HasStep steps kind (last_or_zero walk, get_or walk 0 0)
    by_place None at here = absurd cc
    by_place (Some k) at here =
        let is = position-Some (has_kind steps kind) (links_of cycle) k (0, 0) at in
        let same : turned cycle (k + 1) ≡ walk = cc in
        let link = link-of-walk cycle k (links-within cycle k is.0) in
        subst (λ w. HasStep steps kind (last_or_zero w, get_or w 0 0)) same (kind-step steps kind _ (subst (λ e. has_kind steps kind e ≡ true) link is.1))
