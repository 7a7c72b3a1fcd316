-- Lemmas on the pairs in force, and on the tables that have them.
use Rattle.std.proofs.Common.{◌≡◌, ◌∙◌, sym, ap, refl, ℕ, suc, ◌-◌, Bool, true, false, cond, eqb, List, [], ◌∷◌, ◌++◌, length, take, drop, Option, Some, Result, Ok, Err, arith}
use Rattle.std.specs.Prelude.{◌&&◌, reverse}
use Rattle.std.specs.Result.{OnOk}
use Rattle.std.specs.Ordering.{nat_cmp, ordering_then, is_eq}
use Rattle.std.specs.declared.cmp.Ordering.{Ordering}
use Rattle.std.specs.declared.cmp.Ordering.TheVariants.{Equal}
use Rattle.std.specs.BTreeMap.{BTreeMap, get, is_at, Updates}
use Rattle.std.proofs.lemmas.Bool.Decides.{nat_tests}
use Rattle.std.proofs.lemmas.List.{drop-map, length-drop, length-map, length-reverse, reverse-append, take-append-drop}
use Rattle.std.proofs.Math.Seq.{drop-append_seam}
use Rattle.trace_explanation.specs.Internal.Tables.{pair_cmp}
use Rattle.decision_explanation.specs.declared.in_force.NumberedPair.{NumberedPair}
use Rattle.decision_explanation.specs.declared.in_force.OpenCase.{OpenCase}
use Rattle.decision_explanation.specs.declared.in_force.Entry.{Entry}
use Rattle.decision_explanation.specs.declared.in_force.InForce.{InForce}
use Rattle.decision_explanation.specs.InForce.{case_count, is_pair, last_number, Standing, with_case, with_pair, without_case}
use Rattle.decision_explanation.specs.Internal.Standings.{FindsLast, IsKept, IsLog, pairs_of, standing_of}

-- ---- the map

-- a key is found by its order where both numbers are equal
then_is_eq : (a b : Ordering) → is_eq (ordering_then a b) ≡ (is_eq a && is_eq b)
then_is_eq Equal b = refl
then_is_eq a b = refl

is_at-nat : (s v : ℕ) → is_at (nat_cmp s) v ≡ eqb s v
is_at-nat s v = grind (arith, nat_tests)

is_at-pair : (from to u v : ℕ) → is_at (pair_cmp (from, to)) (u, v) ≡ (eqb from u && eqb to v)
is_at-pair from to u v = then_is_eq (nat_cmp from u) (nat_cmp to v) ∙ ap (λ b. b && is_eq (nat_cmp to v)) (is_at-nat from u) ∙ ap (λ b. eqb from u && b) (is_at-nat to v)

-- what the map has after an update
updated : (old new : BTreeMap (ℕ × ℕ) ℕ) (from to u v : ℕ) (w : Option ℕ) → Updates pair_cmp old new (from, to) w → get pair_cmp new (u, v) ≡ cond (eqb from u && eqb to v) w (get pair_cmp old (u, v))
updated old new from to u v w updates = updates.0 (u, v) ∙ ap (λ b. cond b w (get pair_cmp old (u, v))) (is_at-pair from to u v)

-- one pair more
finds_more : (p : NumberedPair) (pairs : List NumberedPair) (old new : BTreeMap (ℕ × ℕ) ℕ) → FindsLast pairs old → Updates pair_cmp old new (p.from, p.to) (Some p.number) → FindsLast (p ∷ pairs) new
finds_more p pairs old new finds updates u v = updated old new p.from p.to u v (Some p.number) updates ∙ ap (cond (is_pair (u, v) p) (Some p.number)) (finds u v)

-- one pair less
both_equal : (a b u v : ℕ) → (eqb a u && eqb b v) ≡ true → (a ≡ u) × (b ≡ v)
both_equal a b u v is = (grind (arith, nat_tests), grind (arith, nat_tests))

finds_less : (p : NumberedPair) (before : Option ℕ) (pairs : List NumberedPair) (old new : BTreeMap (ℕ × ℕ) ℕ) → FindsLast (p ∷ pairs) old → before ≡ last_number pairs (p.from, p.to) →
    Updates pair_cmp old new (p.from, p.to) before → FindsLast pairs new
finds_less p before pairs old new finds was updates u v =
    updated old new p.from p.to u v before updates ∙ ap (cond (is_pair (u, v) p) before) (finds u v) ∙ by_test (is_pair (u, v) p) refl
  where
    by_test : (b : Bool) → is_pair (u, v) p ≡ b → cond b before (cond b (Some p.number) (last_number pairs (u, v))) ≡ last_number pairs (u, v)
    by_test true is =
        let same = both_equal p.from p.to u v is in
        was ∙ ap (λ n. last_number pairs (n, p.to)) same.0 ∙ ap (λ n. last_number pairs (u, n)) same.1
    by_test false is = refl

-- ---- the log

-- one entry more, and one less
pub log_more : (log : List Entry) (e : Entry) (items : List Entry) → items ≡ log ++ e ∷ [] → reverse items ≡ e ∷ reverse log
log_more log e items is = ap reverse is ∙ reverse-append log (e ∷ [])

pub kept_more : (old new : InForce) (e : Entry) → IsKept old → e.before ≡ get pair_cmp old.numbers (e.pair.from, e.pair.to) → Updates pair_cmp old.numbers new.numbers (e.pair.from, e.pair.to) (Some e.pair.number) →
    new.log.items ≡ old.log.items ++ e ∷ [] → IsKept new
kept_more old new e kept was updates added =
    let log : reverse new.log.items ≡ e ∷ reverse old.log.items = log_more old.log.items e new.log.items added in
    record {
      finds = rw log (finds_more e.pair (pairs_of (reverse old.log.items)) old.numbers new.numbers kept.finds updates);
      log = rw log (was ∙ kept.finds e.pair.from e.pair.to, kept.log);
    }

pub kept_less : (old new : InForce) (rest : List Entry) (e : Entry) → IsKept old → old.log.items ≡ rest ++ e ∷ [] → Updates pair_cmp old.numbers new.numbers (e.pair.from, e.pair.to) e.before → new.log.items ≡ rest → IsKept new
kept_less old new rest e kept was updates left =
    let log : reverse old.log.items ≡ e ∷ reverse rest = log_more rest e old.log.items was in
    let said : IsLog (e ∷ reverse rest) = rw log at kept.log in
    let finds : FindsLast (e.pair ∷ pairs_of (reverse rest)) old.numbers = rw log at kept.finds in
    record {
      finds = rw left (finds_less e.pair e.before (pairs_of (reverse rest)) old.numbers new.numbers finds said.0 updates);
      log = rw left said.1;
    }

pub kept_same : (old new : InForce) → IsKept old → new.numbers ≡ old.numbers → new.log.items ≡ old.log.items → IsKept new
kept_same old new kept numbers log = record { finds = rw (numbers, log) kept.finds; log = rw log kept.log }

-- ---- where the refutation has come to

abbrev standing : ℕ → List NumberedPair → List OpenCase → Standing
standing next pairs cases = record { next = next; pairs = pairs; cases = cases }

abbrev numbered : ℕ → ℕ → ℕ → NumberedPair
numbered number from to = record { number = number; from = from; to = to }

abbrev open_case : ℕ → ℕ → OpenCase
open_case number count = record { number = number; count = count }

standing_is : (m n : ℕ) (ps qs : List NumberedPair) (cs ds : List OpenCase) → m ≡ n → ps ≡ qs → cs ≡ ds → standing m ps cs ≡ standing n qs ds
standing_is m n ps qs cs ds next pairs cases = rw (next, pairs, cases) refl

-- after a pair, after a case, and after its first part
pub standing_more : (old new : InForce) (e : Entry) → new.next ≡ suc old.next → new.log.items ≡ old.log.items ++ e ∷ [] → new.cases.items ≡ old.cases.items → e.pair.number ≡ old.next → standing_of new ≡ with_pair e.pair.from e.pair.to (standing_of old)
standing_more old new e next log cases number =
    let pair : e.pair ≡ numbered old.next e.pair.from e.pair.to = ap (λ n. numbered n e.pair.from e.pair.to) number in
    standing_is new.next (suc old.next) _ _ _ _ next (ap pairs_of (log_more old.log.items e new.log.items log) ∙ ap (λ p. p ∷ pairs_of (reverse old.log.items)) pair) (ap reverse cases)

pub standing_of_case : (old new : InForce) (c : OpenCase) → new.next ≡ old.next → new.log.items ≡ old.log.items → new.cases.items ≡ old.cases.items ++ c ∷ [] → c.number ≡ old.next → c.count ≡ length old.log.items →
    standing_of new ≡ with_case (standing_of old)
standing_of_case old new c next log cases number count =
    let long : c.count ≡ length (pairs_of (reverse old.log.items)) = count ∙ sym (length-reverse old.log.items) ∙ sym (length-map (reverse old.log.items) (λ e. e.pair)) in
    let here : c ≡ open_case old.next (length (pairs_of (reverse old.log.items))) = ap (λ n. open_case n c.count) number ∙ ap (open_case old.next) long in
    standing_is new.next old.next _ _ _ _ next (ap (λ items. pairs_of (reverse items)) log) (ap reverse cases ∙ reverse-append old.cases.items (c ∷ []) ∙ ap (λ x. x ∷ reverse old.cases.items) here)

-- the first of some elements are what is left of them in reverse
reverse_take : {X : Type 0} (n : ℕ) (xs : List X) → reverse (take n xs) ≡ drop (length xs - n) (reverse xs)
reverse_take n xs =
    let split : reverse xs ≡ reverse (drop n xs) ++ reverse (take n xs) = ap reverse (sym (take-append-drop n xs)) ∙ reverse-append (take n xs) (drop n xs) in
    let count : length (reverse (drop n xs)) ≡ length xs - n = length-reverse (drop n xs) ∙ length-drop n xs in
    sym (ap (drop (length xs - n)) split ∙ ap (λ m. drop m (reverse (drop n xs) ++ reverse (take n xs))) (sym count) ∙ drop-append_seam (reverse (drop n xs)) (reverse (take n xs)))

pub standing_of_rest : (old new : InForce) (count : ℕ) → new.next ≡ old.next → new.log.items ≡ take count old.log.items → count ≡ case_count (reverse old.cases.items) → reverse new.cases.items ≡ drop 1 (reverse old.cases.items) →
    standing_of new ≡ without_case (standing_of old)
standing_of_rest old new count next log is cases =
    let long : length (pairs_of (reverse old.log.items)) ≡ length old.log.items = length-map (reverse old.log.items) (λ e. e.pair) ∙ length-reverse old.log.items in
    let pairs : pairs_of (reverse new.log.items) ≡ drop (length (pairs_of (reverse old.log.items)) - case_count (reverse old.cases.items)) (pairs_of (reverse old.log.items)) =
    ap (λ items. pairs_of (reverse items)) log ∙ ap pairs_of (reverse_take count old.log.items) ∙ sym (drop-map (λ e. e.pair) (length old.log.items - count) (reverse old.log.items))
    ∙ ap (λ m. drop (m - count) (pairs_of (reverse old.log.items))) (sym long) ∙ ap (λ m. drop (length (pairs_of (reverse old.log.items)) - m) (pairs_of (reverse old.log.items))) is in
    standing_is new.next old.next _ _ _ _ next pairs cases

-- what a call leaves, of what is the same
pub left_after : {E : Type 0} (r : Result (Unit {0}) E) (new old same : Standing) (u v : ℕ) → old ≡ same → OnOk r (new ≡ with_pair u v old) → OnOk r (new ≡ with_pair u v same)
left_after (Ok done) new old same u v is left = left ∙ ap (with_pair u v) is
left_after (Err e) new old same u v is left = tt
