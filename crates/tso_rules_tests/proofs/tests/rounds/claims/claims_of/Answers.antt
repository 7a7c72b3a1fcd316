use Rattle.std.proofs.Common.{◌≡◌, ◌+◌, ◌*◌, ◌<◌, ◌≤◌, ◌++◌, ◌∷◌, [], ◌∙◌, ℕ, List, length, get_or, length-append, ⊎_elim, ap, sym, subst, arith}
use Rattle.std.proofs.lemmas.Bool.{cases_lt}
use Rattle.std.proofs.lemmas.List.{get_or_at, get_or_append_left}
use Rattle.tso_rules_tests.proofs.tests.rounds.claims.claims_of.Goals as goal

evens_more : (rows : List ℕ) (i : ℕ) → length rows ≡ i → ((k d : ℕ) → k < length rows → get_or rows k d ≡ 2 * k + 2) → (k d : ℕ) → k < length (rows ++ (2 * i + 2) ∷ []) → get_or (rows ++ (2 * i + 2) ∷ []) k d ≡ 2 * k + 2
evens_more rows i size are k d inside = ⊎_elim
    (λ (before : k < i). get_or_append_left rows ((2 * i + 2) ∷ []) d k (omega (arith, before, size)) ∙ are k d (omega (arith, before, size)))
    (λ (past : i ≤ k).
    let last : k ≡ i = omega (arith, past, inside, size, length-append rows ((2 * i + 2) ∷ [])) in
    ap (λ n. get_or (rows ++ (2 * i + 2) ∷ []) n d) last ∙ (get_or_at rows (2 * i + 2) [] d i size ∙ omega (arith, last)))
    (cases_lt k i)

pub loop-i-preserved : goal.loop-i-preserved
loop-i-preserved c =
    let items = c.in_ok-push.ensures.items in
    let size = c.loop-i.invariant.0 in (
      ap length items ∙ (length-append c.loop-i.rows.items ((2 * c.loop-i.i + 2) ∷ []) ∙ omega (arith, size)),
      subst (λ (rows : List ℕ). (k d : ℕ) → k < length rows → get_or rows k d ≡ 2 * k + 2) (sym items) (evens_more c.loop-i.rows.items c.loop-i.i size c.loop-i.invariant.1),
    )

pub new-requires-clause-ascending : goal.new-requires-clause-ascending
new-requires-clause-ascending c = λ i j d low inside.
    let near = c.loop-i.invariant.1 i d (omega (arith, low, inside)) in
    let far = c.loop-i.invariant.1 j d inside in
    omega (arith, near, far, low)
