-- Lemmas on the numbers of steps, and on what steps name.
use Rattle.std.proofs.Common.{◌≡◌, sym, ap, subst, refl, ◌∙◌, ℕ, suc, ◌+◌, ◌-◌, ◌<◌, ◌≤◌, Bool, true, false, cond, eqb, ltb, List, [], ◌∷◌, ◌++◌, length, get_or, take, drop, slice_get, Option, Some, None, Bor, arith}
use Rattle.std.specs.Prelude.{◌||◌, ◌&&◌, HoldsAt, MatchOption}
use Rattle.std.specs.Option.{option_copied}
use Rattle.std.specs.Ordering.{nat_cmp, ordering_then, is_eq}
use Rattle.std.specs.declared.cmp.Ordering.{Ordering}
use Rattle.std.specs.declared.cmp.Ordering.TheVariants.{Equal}
use Rattle.std.specs.BTreeMap.{BTreeMap, get, is_at, Updates, IsEmpty}
use Rattle.std.specs.List.{find, list_any, position_from}
use Rattle.std.proofs.lemmas.Bool.Decides.{nat_tests}
use Rattle.std.proofs.lemmas.List.{drop_more, take_more}
use Rattle.std.proofs.lemmas.List.Folds.{list_any-append}
use Rattle.std.proofs.lemmas.Option.{slice_get-get_or, slice_get_past}
use Rattle.tso_ops.specs.Values.{TraceValue}
use Rattle.tso_ops.specs.Events.{event_total}
use Rattle.tso_cert.specs.declared.steps.CertStep.{CertStep}
use Rattle.trace_explanation.specs.Steps.{is_among, is_edge, is_named, own_load, reads_past}
use Rattle.trace_explanation.proofs.SearchFacts.{found-next, found-none, FailsUpTo}
use Rattle.trace_explanation.specs.Internal.Tables.{AreMarks, FindsNumbers, pair_cmp}

-- ---- numbers

-- a key is found by its order where both numbers are equal
then_is_eq : (a b : Ordering) → is_eq (ordering_then a b) ≡ (is_eq a && is_eq b)
then_is_eq Equal b = refl
then_is_eq a b = refl

is_at-nat : (s v : ℕ) → is_at (nat_cmp s) v ≡ eqb s v
is_at-nat s v = grind (arith, nat_tests)

is_at-pair : (s : CertStep) (u v : ℕ) → is_at (pair_cmp (s.from, s.to)) (u, v) ≡ is_edge (u, v) s
is_at-pair s u v = then_is_eq (nat_cmp s.from u) (nat_cmp s.to v) ∙ ap (λ b. b && is_eq (nat_cmp s.to v)) (is_at-nat s.from u) ∙ ap (λ b. eqb s.from u && b) (is_at-nat s.to v)

pub numbers-none : (k : ℕ) (steps rest : List CertStep) (numbers : BTreeMap (ℕ × ℕ) ℕ) → IsEmpty numbers → rest ≡ [] → FindsNumbers k rest numbers
numbers-none k steps rest numbers empty none u v = rw (none, empty) refl

-- one more step, before the others
numbers-more : (k : ℕ) (s : CertStep) (rest : List CertStep) (old new : BTreeMap (ℕ × ℕ) ℕ) → FindsNumbers (k + 1) rest old → Updates pair_cmp old new (s.from, s.to) (Some k) →
    FindsNumbers k (s ∷ rest) new
numbers-more k s rest old new finds updates u v =
    updates.0 (u, v) ∙ ap (λ b. cond b (Some k) (get pair_cmp old (u, v))) (is_at-pair s u v) ∙ ap (cond (is_edge (u, v) s) (Some k)) (finds u v)

-- one more step, counted from the last one back
pub numbers-step : (steps : List CertStep) (done k : ℕ) (s : CertStep) (old new : BTreeMap (ℕ × ℕ) ℕ) → done < length steps → k ≡ length steps - 1 - done → s ≡ get_or steps k s →
    FindsNumbers (length steps - done + 1) (drop (length steps - done) steps) old → Updates pair_cmp old new (s.from, s.to) (Some (k + 1)) →
    FindsNumbers (length steps - (done + 1) + 1) (drop (length steps - (done + 1)) steps) new
numbers-step steps done k s old new within is at finds updates =
    let rest : length steps - done ≡ k + 1 = omega arith in
    let here : length steps - (done + 1) ≡ k = omega arith in
    let dropped : drop k steps ≡ s ∷ drop (k + 1) steps = drop_more steps k s (omega arith) ∙ ap (λ x. x ∷ drop (k + 1) steps) (sym at) in
    let before : FindsNumbers (k + 1 + 1) (drop (k + 1) steps) old = subst (λ n. FindsNumbers (n + 1) (drop n steps) old) rest finds in
    let after : FindsNumbers (k + 1) (s ∷ drop (k + 1) steps) new = numbers-more (k + 1) s (drop (k + 1) steps) old new before updates in
    subst (λ n. FindsNumbers (n + 1) (drop n steps) new) (sym here) (subst (λ l. FindsNumbers (k + 1) l new) (sym dropped) after)

-- the step of the number that is found
found-at : (test : CertStep → Bool) (k : ℕ) (steps : List CertStep) (n : ℕ) → position_from test (k + 1) steps ≡ Some n → (k < n) × (find test steps ≡ slice_get steps (n - 1 - k))
found-at test k [] n found = absurd cc
found-at test k (s ∷ steps) n found = by_test (found-at test (k + 1) steps n) (test s) refl found
  where
    by_test : (position_from test (k + 1 + 1) steps ≡ Some n → (k + 1 < n) × (find test steps ≡ slice_get steps (n - 1 - (k + 1)))) → (b : Bool) → test s ≡ b → cond b (Some (k + 1)) (position_from test (k + 1 + 1) steps) ≡ Some n →
        (k < n) × (cond b (Some s) (find test steps) ≡ slice_get (s ∷ steps) (n - 1 - k))
    by_test rest true passes here = let same : k + 1 ≡ n = cc in let first : n - 1 - k ≡ 0 = omega arith in (omega arith, rw first refl)
    by_test rest false fails here =
        let later = rest here in
        let next : n - 1 - k ≡ suc (n - 1 - (k + 1)) = omega (arith, later.0) in
        (omega (arith, later.0), rw next later.1)

pub step_found : (steps : List CertStep) (u v n : ℕ) → position_from (is_edge (u, v)) 1 steps ≡ Some n → find (is_edge (u, v)) steps ≡ slice_get steps (n - 1)
step_found steps u v n found = let same : n - 1 - 0 ≡ n - 1 = omega arith in (found-at (is_edge (u, v)) 0 steps n found).1 ∙ ap (slice_get steps) same

pub step_none : (test : CertStep → Bool) (k : ℕ) (steps : List CertStep) → position_from test k steps ≡ None → find test steps ≡ None
step_none test k [] none = refl
step_none test k (s ∷ steps) none = by_test (step_none test (k + 1) steps) (test s) none
  where
    by_test : (position_from test (k + 1) steps ≡ None → find test steps ≡ None) → (b : Bool) → cond b (Some k) (position_from test (k + 1) steps) ≡ None → cond b (Some s) (find test steps) ≡ None
    by_test rest true here = absurd cc
    by_test rest false here = rest here

-- what is read at a place
pub got : (steps : List CertStep) (i : ℕ) (step : Option (Bor CertStep)) → MatchOption step (length steps ≤ i) (λ s. (i < length steps) × HoldsAt (λ d. s.now ≡ d) steps i) → option_copied step ≡ slice_get steps i
got steps i None past = sym (slice_get_past steps i past)
got steps i (Some s) at = ap Some (at.1 s.now) ∙ sym (slice_get-get_or steps i s.now at.0)

-- ---- marks

pub marks-none : {Line : Type 0} (numbers : Line → List ℕ) (count : ℕ) (marks : List Bool) → length marks ≡ count → ((n : ℕ) → n < count → get_or marks n false ≡ false) → AreMarks (is_named numbers []) count marks
unfolding is_named
marks-none numbers count marks counted unmarked = record { counted = counted; each = unmarked }

or_swap : (a b : Bool) → (a || b) ≡ (b || (a || false))
or_swap true true = refl
or_swap true false = refl
or_swap false true = refl
or_swap false false = refl

-- one more line
pub marks-more : {Line : Type 0} (numbers : Line → List ℕ) (lines : List Line) (i count : ℕ) (line : Line) (old new : List Bool) → i < length lines → line ≡ get_or lines i line → AreMarks (is_named numbers (take i lines)) count old →
    length new ≡ length old → ((n : ℕ) → n < length old → get_or new n false ≡ (is_among n (numbers line) || get_or old n false)) → AreMarks (is_named numbers (take (i + 1) lines)) count new
unfolding is_named
marks-more numbers lines i count line old new within at before same marked =
    let more : take (i + 1) lines ≡ take i lines ++ line ∷ [] = take_more lines i line within ∙ ap (λ r. take i lines ++ r ∷ []) (sym at) in
    record {
      counted = same ∙ before.counted;
      each = λ n inside.
          marked n (omega (arith, before.counted)) ∙ ap (λ b. is_among n (numbers line) || b) (before.each n inside)
          ∙ or_swap (is_among n (numbers line)) (list_any (λ l. is_among n (numbers l)) (take i lines))
          ∙ sym (list_any-append (λ l. is_among n (numbers l)) (take i lines) (line ∷ [])) ∙ ap (list_any (λ l. is_among n (numbers l))) (sym more);
    }

-- ---- loads

-- a load isn't before the store that it sees
pub reads_past-late : (t : TraceValue) (u v n : ℕ) → n ≤ u → reads_past t u v n ≡ false
unfolding reads_past
reads_past-late t u v n late = let test : ltb u n ≡ false = grind (arith, nat_tests) in rw test refl

-- none before the store
pub own_load-none_before : (t : TraceValue) (u v : ℕ) → FailsUpTo (reads_past t u v) u
own_load-none_before t u v n above within = reads_past-late t u v n within

-- the least of them, found from the store on
pub own_load-found : (t : TraceValue) (u v l : ℕ) → FailsUpTo (reads_past t u v) l → reads_past t u v (l + 1) ≡ true → l < event_total t → own_load t u v ≡ Some (l + 1)
unfolding own_load
own_load-found t u v l none here within = found-next (reads_past t u v) l (event_total t) none here within

-- none of them
pub own_load-none : (t : TraceValue) (u v l end : ℕ) → end ≡ event_total t → FailsUpTo (reads_past t u v) l → end ≤ l → own_load t u v ≡ None
unfolding own_load
own_load-none t u v l end is none past = found-none (reads_past t u v) (event_total t) (λ j above within. none j above (omega arith))
