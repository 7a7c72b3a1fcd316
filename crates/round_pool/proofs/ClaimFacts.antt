-- Lemmas on the table of claims: each step keeps its rule.
use Rattle.std.proofs.Common.{◌≡◌, ◌≢◌, ◌∙◌, ℕ, zero, suc, ◌+◌, ◌<◌, ◌≤◌, eqb, cond, List, [], ◌∷◌, ◌++◌, length, map, get_or, set, refl, sym, ap, subst, ⊎_elim, arith, length-set, eq-eqb, ne_eqb}
use Rattle.std.specs.Prelude.{sum_by, All, AllPairs}
use Rattle.std.proofs.lemmas.List.{get_or-set_same, get_or-set_other, set-get_or, get_or-replicate, length-replicate, get_or-map, length-map}
use Rattle.std.proofs.lemmas.List.Sums.{sum_by-cons, sum_by-append, sum_by_push, sum_by-set, get_or-le-sum_by}
use Rattle.std.proofs.lemmas.Bool.{cases_lt}
use mathlib.Core.Logic.{dite}
use mathlib.Core.Option.{none, some, some-injective, some-ne-none}
use native.Mathlib.Decide.{ℕ_discrete}
use lib.ListN.{get_elem?, replicate}
use Rattle.atomic_table.specs.Table.{State, Me, step, keeps, opening, Allows, Splits, Joins}
use Rattle.atomic_table.proofs.Lists.{at_set, at_snoc, set_again, set_here}
use Rattle.round_pool.specs.declared.claims.seat_view.SeatView.{SeatView}
use Rattle.round_pool.specs.declared.claims.types.Claims.{Claims}
use Rattle.round_pool.specs.declared.claims.types.Claimant.{Claimant}
use Rattle.round_pool.specs.Claims.{rows_to_claim, places_of, held, IsOf, NoneTwice, HasAll}
use Rattle.round_pool.specs.ClaimCounts.{times_listed}
use Rattle.round_pool.specs.Internal.ClaimTable.{standing, seat_view, first_view, KeepsClaims, IsKnown, tries, looks, kept_view, new_view, joined_view, spent_view}

-- ---- how often a place stands in a list

pub times-push : (p : ℕ) (places : List ℕ) (q : ℕ) → times_listed p (places ++ q ∷ []) ≡ times_listed p places + cond (eqb q p) 1 0
times-push p places q = sum_by_push (λ x. cond (eqb x p) 1 0) places q

pub times-push_same : (p : ℕ) (places : List ℕ) → times_listed p (places ++ p ∷ []) ≡ times_listed p places + 1
times-push_same p places = times-push p places p ∙ ap (λ b. times_listed p places + cond b 1 0) (eq-eqb p p refl)

pub times-push_other : (p : ℕ) (places : List ℕ) (q : ℕ) → q ≢ p → times_listed p (places ++ q ∷ []) ≡ times_listed p places
times-push_other p places q apart = times-push p places q ∙ (ap (λ b. times_listed p places + cond b 1 0) (ne_eqb q p apart) ∙ omega arith)

-- ---- the views

-- a view stands in the list, at its place
pub view_at : (views : List SeatView) (i : ℕ) (v : SeatView) → get_elem? views i ≡ some v → (i < length views) × (get_or views i v ≡ v)
view_at [] i v at = absurd (some-ne-none v (sym at))
view_at (x ∷ views) zero v at = (omega arith, some-injective x v at)
view_at (x ∷ views) (suc i) v at = let rest = view_at views i v at in let low = rest.0 in (omega arith, rest.1)

-- what the views amount to after one has changed
pub sum_changed : (f : SeatView → ℕ) (views : List SeatView) (i : ℕ) (v w : SeatView) → get_elem? views i ≡ some v → sum_by f (set views i w) + f v ≡ sum_by f views + f w
sum_changed f views i v w at =
    let there = view_at views i v at in
    subst (λ u. sum_by f (set views i w) + f u ≡ sum_by f views + f w) there.1 (sum_by-set f views i w v there.0)

-- one view is no more than all
pub part_of_sum : (f : SeatView → ℕ) (views : List SeatView) (i : ℕ) (v : SeatView) → get_elem? views i ≡ some v → f v ≤ sum_by f views
part_of_sum f views i v at =
    let there = view_at views i v at in
    subst (λ u. f u ≤ sum_by f views) there.1 (get_or-le-sum_by f views i v there.0)

-- each view after a change is the new one, or stood there before
after_change : (P : ℕ → SeatView → Type 0) (views : List SeatView) (i : ℕ) (w : SeatView) → P i w → ((j : ℕ) (u : SeatView) → get_elem? views j ≡ some u → P j u) →
    (j : ℕ) (u : SeatView) → get_elem? (set views i w) j ≡ some u → P j u
after_change P views i w now before j u at = ⊎_elim
    (λ (same : (j ≡ i) × (w ≡ u)). subst (λ (y : ℕ × SeatView). P y.0 y.1) (λ k. (sym same.0 k, same.1 k)) now)
    (λ (other : (j ≢ i) × (get_elem? views j ≡ some u)). before j u other.1)
    (at_set views i j w u at)

-- ---- trying a place

abbrev St : Type 0
St = State (Unit {0}) SeatView

-- how often a place stands once one seat gained the place t
gained : (p t : ℕ) (views : List SeatView) (i : ℕ) (v : SeatView) (tried : ℕ) → get_elem? views i ≡ some v →
    standing p (set views i (seat_view (v.places ++ t ∷ []) tried v.parts)) ≡ standing p views + cond (eqb t p) 1 0
gained p t views i v tried at =
    let moved = sum_changed (λ u. times_listed p u.places) views i v (seat_view (v.places ++ t ∷ []) tried v.parts) at in
    omega (arith, moved, times-push p v.places t)

-- how often a place stands once one seat has the same places
unmoved : (p : ℕ) (views : List SeatView) (i : ℕ) (v w : SeatView) → get_elem? views i ≡ some v → w.places ≡ v.places → standing p (set views i w) ≡ standing p views
unmoved p views i v w at same =
    let moved = sum_changed (λ u. times_listed p u.places) views i v w at in
    omega (arith, moved, ap (times_listed p) same)

-- no place stands twice in a view; with all parts it has all that was tried
only_one : (f g : SeatView → ℕ) (views : List SeatView) → sum_by g views ≡ 0 → ((j : ℕ) (u : SeatView) → get_elem? views j ≡ some u → g u ≡ 0 → f u ≡ 0) → sum_by f views ≡ 0
only_one f g [] nothing idle = refl
only_one f g (x ∷ views) nothing idle =
    let sums = sum_by-cons g x views in
    let rest = only_one f g views (omega (arith, sums, nothing)) (λ j u at zero_of. idle (suc j) u at zero_of) in
    let here = idle 0 x refl (omega (arith, sums, nothing)) in
    omega (arith, sum_by-cons f x views, rest, here)

pub whole_sum : (f g : SeatView → ℕ) (views : List SeatView) (i : ℕ) (v : SeatView) → get_elem? views i ≡ some v → sum_by g views ≡ g v → ((j : ℕ) (u : SeatView) → get_elem? views j ≡ some u → g u ≡ 0 → f u ≡ 0) →
    sum_by f views ≡ f v
whole_sum f g [] i v at all idle = absurd (some-ne-none v (sym at))
whole_sum f g (x ∷ views) zero v at all idle =
    let same : x ≡ v = some-injective x v at in
    let sums = sum_by-cons g x views in
    let rest = only_one f g views (omega (arith, sums, all, ap g same)) (λ j u there zero_of. idle (suc j) u there zero_of) in
    omega (arith, sum_by-cons f x views, rest, ap f same)
whole_sum f g (x ∷ views) (suc i) v at all idle =
    let sums = sum_by-cons g x views in
    let low = part_of_sum g views i v at in
    let none : g x ≡ 0 = omega (arith, sums, all, low) in
    let here = idle 0 x refl none in
    let rest = whole_sum f g views i v at (omega (arith, sums, all, none)) (λ j u there zero_of. idle (suc j) u there zero_of) in
    omega (arith, sum_by-cons f x views, rest, here)

pub known : (places : ℕ) (s : St) (i : ℕ) (v : SeatView) → KeepsClaims places s → get_elem? s.views i ≡ some v → IsKnown v
known places s i v rule at = (
  λ p. (let one = part_of_sum (λ u. times_listed p u.places) s.views i v at in let all = rule.once p in omega (arith, one, all)),
  λ parts p low.
      sym (whole_sum (λ u. times_listed p u.places) (λ u. u.parts) s.views i v at (rule.total ∙ sym parts) (λ j u there none. ap (times_listed p) (rule.idle j u there none))) ∙ rule.tried i v at p low,
)

-- the rule once a seat tried its next place, which nobody had
free : (n i : ℕ) (s : St) (v : SeatView) → KeepsClaims n s → get_elem? s.views i ≡ some v → v.tried < n → 0 < v.parts → get_or s.words (suc v.tried) 0 ≡ 0 →
    KeepsClaims n record { words = set s.words (suc v.tried) 1; homes = s.homes; views = set s.views i (seat_view (v.places ++ v.tried ∷ []) (v.tried + 1) v.parts) }
free n i s v rule at low some_part word =
    let t : ℕ = v.tried in
    let w = seat_view (v.places ++ t ∷ []) (t + 1) v.parts in
    let more : (p : ℕ) → standing p (set s.views i w) ≡ standing p s.views + cond (eqb t p) 1 0 = λ p. gained p t s.views i v (t + 1) at in
    let none : standing t s.views ≡ 0 = sym (rule.marked t low) ∙ word in
    let here : standing t (set s.views i w) ≡ 1 = more t ∙ (ap (λ b. standing t s.views + cond b 1 0) (eq-eqb t t refl) ∙ omega (arith, none)) in
    let else_ : (p : ℕ) → t ≢ p → standing p (set s.views i w) ≡ standing p s.views = λ p apart. more p ∙ (ap (λ b. standing p s.views + cond b 1 0) (ne_eqb t p apart) ∙ omega arith) in
    let size = rule.words in
    record {
      words = length-set s.words (suc t) 1 ∙ rule.words;
      unused = get_or-set_other s.words (suc t) 0 1 0 (λ e. omega arith) ∙ rule.unused;
      marked = λ p inside. dite (ℕ_discrete t p)
          (λ same. subst (λ q. get_or (set s.words (suc t) 1) (suc q) 0 ≡ standing q (set s.views i w)) same (get_or-set_same s.words (suc t) 1 0 (omega (arith, size, low)) ∙ sym here))
          (λ apart. get_or-set_other s.words (suc t) (suc p) 1 0 (λ e. apart (omega (arith, e))) ∙ (rule.marked p inside ∙ sym (else_ p apart)));
      within = λ p past. else_ p (λ e. omega (arith, e, past, low)) ∙ rule.within p past;
      once = λ p. dite (ℕ_discrete t p)
          (λ same. subst (λ q. standing q (set s.views i w) ≤ 1) same (omega (arith, here)))
          (λ apart. (let before = rule.once p in omega (arith, before, else_ p apart)));
      tried = λ j u there p below. dite (ℕ_discrete t p)
          (λ same. subst (λ q. standing q (set s.views i w) ≡ 1) same here)
          (λ apart. else_ p apart ∙ after_change (λ j u. p < u.tried → standing p s.views ≡ 1) s.views i w (λ near. rule.tried i v at p (omega (arith, near, apart))) (λ k x is. rule.tried k x is p) j u there below);
      total = (let moved = sum_changed (λ u. u.parts) s.views i v w at in omega (arith, moved, rule.total));
      idle = after_change (λ j u. u.parts ≡ 0 → u.places ≡ []) s.views i w (λ gone. absurd (omega (arith, gone, some_part))) rule.idle;
    }

-- the rule once a seat tried its next place, which somebody has
taken : (n i : ℕ) (s : St) (v : SeatView) → KeepsClaims n s → get_elem? s.views i ≡ some v → v.tried < n → get_or s.words (suc v.tried) 0 ≡ 1 →
    KeepsClaims n record { words = set s.words (suc v.tried) 1; homes = s.homes; views = set s.views i (seat_view v.places (v.tried + 1) v.parts) }
taken n i s v rule at low word =
    let t : ℕ = v.tried in
    let w = seat_view v.places (t + 1) v.parts in
    let same : (p : ℕ) → standing p (set s.views i w) ≡ standing p s.views = λ p. unmoved p s.views i v w at refl in
    let has : standing t s.views ≡ 1 = sym (rule.marked t low) ∙ word in
    let words : set s.words (suc t) 1 ≡ s.words = ap (set s.words (suc t)) (sym word) ∙ set-get_or s.words (suc t) 0 in
    record {
      words = ap length words ∙ rule.words;
      unused = ap (λ l. get_or l 0 0) words ∙ rule.unused;
      marked = λ p inside. ap (λ l. get_or l (suc p) 0) words ∙ (rule.marked p inside ∙ sym (same p));
      within = λ p past. same p ∙ rule.within p past;
      once = λ p. (let before = rule.once p in omega (arith, before, same p));
      tried = λ j u there p below. same p ∙ after_change (λ j u. p < u.tried → standing p s.views ≡ 1) s.views i w
          (λ near. dite (ℕ_discrete t p) (λ e. subst (λ q. standing q s.views ≡ 1) e has) (λ apart. rule.tried i v at p (omega (arith, near, apart))))
          (λ k x is. rule.tried k x is p) j u there below;
      total = (let moved = sum_changed (λ u. u.parts) s.views i v w at in omega (arith, moved, rule.total));
      idle = after_change (λ j u. u.parts ≡ 0 → u.places ≡ []) s.views i w (λ gone. rule.idle i v at gone) rule.idle;
    }

-- ---- the steps keep the rule

-- trying the next place
tries_next : (n slots i : ℕ) (me : Me (Unit {0}) SeatView) → me.0.tried < n → 0 < me.0.parts → Allows (KeepsClaims n) slots i me (suc me.0.tried) (λ _. 1) (tries (step slots (suc me.0.tried) 1 0 none) me)
tries_next n slots i me low some_part s rule homes at word =
    let v = me.0 in
    let x : ℕ = get_or s.words (suc v.tried) 0 in
    let most : x ≤ 1 = (let once = rule.once v.tried in omega (arith, once, rule.marked v.tried low)) in
    dite (ℕ_discrete x 0)
    (λ none_yet.
    let w = seat_view (v.places ++ v.tried ∷ []) (v.tried + 1) v.parts in
    let kept = free n i s v rule at low some_part none_yet in (
      w,
      keeps,
      tt,
      kept,
      (
        ap (λ b. seat_view (cond b (v.places ++ v.tried ∷ []) v.places) (v.tried + 1) v.parts) (sym (eq-eqb x 0 none_yet)),
        refl,
        known n record { words = set s.words (suc v.tried) 1; homes = s.homes; views = set s.views i w } i w kept (set_here s.views i w (view_at s.views i v at).0),
      ),
    ))
    (λ someone.
    let w = seat_view v.places (v.tried + 1) v.parts in
    let kept = taken n i s v rule at low (omega (arith, most, someone)) in (
      w,
      keeps,
      tt,
      kept,
      (
        ap (λ b. seat_view (cond b (v.places ++ v.tried ∷ []) v.places) (v.tried + 1) v.parts) (sym (ne_eqb x 0 someone)),
        refl,
        known n record { words = set s.words (suc v.tried) 1; homes = s.homes; views = set s.views i w } i w kept (set_here s.views i w (view_at s.views i v at).0),
      ),
    ))

pub tries_at : (n slots i : ℕ) (me : Me (Unit {0}) SeatView) (word : ℕ) → word ≡ suc me.0.tried → me.0.tried < n → 0 < me.0.parts →
    Allows (KeepsClaims n) slots i me word (λ _. 1) (tries (step slots word 1 0 none) me)
tries_at n slots i me word is low some_part = subst (λ k. Allows (KeepsClaims n) slots i me k (λ _. 1) (tries (step slots k 1 0 none) me)) (sym is) (tries_next n slots i me low some_part)

-- looking at word 0
pub looks_at : (n slots i : ℕ) (me : Me (Unit {0}) SeatView) → Allows (KeepsClaims n) slots i me 0 (λ k. k) (looks (step slots 0 0 0 none) me)
looks_at n slots i me s rule homes at word =
    let same : record { words = set s.words 0 (get_or s.words 0 0); homes = s.homes; views = set s.views i me.0 } ≡ s =
    ap (λ (l : List ℕ). record { words = l; homes = s.homes; views = set s.views i me.0 }) (set-get_or s.words 0 0) ∙ ap (λ (l : List SeatView). record { words = s.words; homes = s.homes; views = l }) (set_again s.views i me.0 at) in
    (me.0, keeps, tt, subst (KeepsClaims n) (sym same) rule, (refl, known n s i me.0 rule at))

-- splitting off a seat with one part
pub splits : (n i : ℕ) (v : SeatView) → 1 < v.parts → Splits (KeepsClaims n) i v (kept_view v) new_view
splits n i v most s rule at =
    let views : List SeatView = set s.views i (kept_view v) ++ new_view ∷ [] in
    let same : (p : ℕ) → standing p views ≡ standing p s.views = λ p.
    (let moved = unmoved p s.views i v (kept_view v) at refl in let last = sum_by_push (λ u. times_listed p u.places) (set s.views i (kept_view v)) new_view in omega (arith, moved, last)) in
    let each : (P : SeatView → Type 0) → P (kept_view v) → P new_view → ((j : ℕ) (u : SeatView) → get_elem? s.views j ≡ some u → P u) → (j : ℕ) (u : SeatView) → get_elem? views j ≡ some u → P u = λ P left right before j u there. ⊎_elim
    (λ (old : get_elem? (set s.views i (kept_view v)) j ≡ some u). after_change (λ _ x. P x) s.views i (kept_view v) left before j u old)
    (λ (new : new_view ≡ u). subst P new right)
    (at_snoc (set s.views i (kept_view v)) new_view u j there) in
    record {
      words = rule.words;
      unused = rule.unused;
      marked = λ p inside. rule.marked p inside ∙ sym (same p);
      within = λ p past. same p ∙ rule.within p past;
      once = λ p. (let before = rule.once p in omega (arith, before, same p));
      tried = λ j u there p below. same p ∙ each (λ x. p < x.tried → standing p s.views ≡ 1) (rule.tried i v at p) (λ low. absurd (omega (arith, low))) (λ k x is. rule.tried k x is p) j u there below;
      total = (let moved = sum_changed (λ u. u.parts) s.views i v (kept_view v) at in let last = sum_by_push (λ u. u.parts) (set s.views i (kept_view v)) new_view in omega (arith, moved, last, rule.total, most));
      idle = each (λ x. x.parts ≡ 0 → x.places ≡ []) (λ gone. absurd (omega (arith, gone, most))) (λ gone. absurd (omega (arith, gone))) rule.idle;
    }

-- joining two seats
pub joins : (n i : ℕ) (v : SeatView) (j : ℕ) (w : SeatView) → 0 < v.parts → Joins (KeepsClaims n) i v j w (joined_view v w) spent_view
joins n i v j w some_part s rule at apart there =
    let both = joined_view v w in
    let mid : List SeatView = set s.views i both in
    let same : (p : ℕ) → standing p (set mid j spent_view) ≡ standing p s.views = λ p.
    (let one = sum_changed (λ u. times_listed p u.places) s.views i v both at in
    let two = sum_changed (λ u. times_listed p u.places) mid j w spent_view there in
    omega (arith, one, two, sum_by-append (λ x. cond (eqb x p) 1 0) v.places w.places)) in
    let each : (P : SeatView → Type 0) → P both → P spent_view → ((k : ℕ) (u : SeatView) → get_elem? s.views k ≡ some u → P u) → (k : ℕ) (u : SeatView) → get_elem? (set mid j spent_view) k ≡ some u → P u = λ P joined spent before.
    after_change (λ _ x. P x) mid j spent_view spent (after_change (λ _ x. P x) s.views i both joined before) in
    record {
      words = rule.words;
      unused = rule.unused;
      marked = λ p inside. rule.marked p inside ∙ sym (same p);
      within = λ p past. same p ∙ rule.within p past;
      once = λ p. (let before = rule.once p in omega (arith, before, same p));
      tried = λ k u is p below. same p ∙ each (λ x. p < x.tried → standing p s.views ≡ 1) (rule.tried i v at p) (λ low. absurd (omega (arith, low))) (λ k x is. rule.tried k x is p) k u is below;
      total = (let one = sum_changed (λ u. u.parts) s.views i v both at in let two = sum_changed (λ u. u.parts) mid j w spent_view there in omega (arith, one, two, rule.total));
      idle = each (λ x. x.parts ≡ 0 → x.places ≡ []) (λ gone. absurd (omega (arith, gone, some_part))) (λ _. refl) rule.idle;
    }

-- the table at the start
pub starts : (n : ℕ) → KeepsClaims n (opening (replicate (n + 1) 0) [] first_view)
starts n = record {
  words = length-replicate (n + 1) 0 ∙ omega arith;
  unused = get_or-replicate (n + 1) 0 0 0 (omega arith);
  marked = λ p inside. get_or-replicate (n + 1) (suc p) 0 0 (omega (arith, inside));
  within = λ p past. refl;
  once = λ p. omega arith;
  tried = λ j u there p below. absurd (only_first j u there below);
  total = refl;
  idle = λ j u there gone. absurd (one_first j u there gone);
}
  where
    only_first : (j : ℕ) (u : SeatView) {p : ℕ} → get_elem? (first_view ∷ []) j ≡ some u → p < u.tried → ⊥
    only_first zero u {p} is below = let same : first_view ≡ u = some-injective first_view u is in omega (arith, below, ap (λ (x : SeatView). x.tried) same)
    only_first (suc j) u is below = absurd (some-ne-none u (sym is))

    one_first : (j : ℕ) (u : SeatView) → get_elem? (first_view ∷ []) j ≡ some u → u.parts ≡ 0 → ⊥
    one_first zero u is gone = let same : first_view ≡ u = some-injective first_view u is in omega (arith, gone, ap (λ (x : SeatView). x.parts) same)
    one_first (suc j) u is gone = absurd (some-ne-none u (sym is))

-- ---- the rows of places

-- a place that stands once stands at one index
pub distinct_places : (places : List ℕ) → ((p : ℕ) → times_listed p places ≤ 1) → AllPairs (λ x y. x ≢ y) places
distinct_places [] once i j d low inside = absurd (omega (arith, inside))
distinct_places (x ∷ places) once i zero d low inside = absurd (omega (arith, low))
distinct_places (x ∷ places) once zero (suc j) d low inside = λ same.
    let there = get_or-le-sum_by (λ y. cond (eqb y x) 1 0) places j d (omega (arith, inside)) in
    let is : ◌≡◌ {A = ℕ} (cond (eqb (get_or places j d) x) 1 0) 1 = ap (λ b. cond b 1 0) (eq-eqb (get_or places j d) x (sym same)) in
    let one : ◌≡◌ {A = ℕ} (cond (eqb x x) 1 0) 1 = ap (λ b. cond b 1 0) (eq-eqb x x refl) in
    let most = once x in
    omega (arith, there, is, one, most, sum_by-cons (λ y. cond (eqb y x) 1 0) x places)
distinct_places (x ∷ places) once (suc i) (suc j) d low inside =
    distinct_places places (λ p. (let most = once p in omega (arith, most, sum_by-cons (λ y. cond (eqb y p) 1 0) x places))) i j d (omega (arith, low)) (omega (arith, inside))

-- rows at different places differ
rows_apart : (rows : List ℕ) (p q : ℕ) → AllPairs (λ x y. x < y) rows → p < length rows → q < length rows → p ≢ q → get_or rows p 0 ≢ get_or rows q 0
rows_apart rows p q ascending near far apart same = ⊎_elim
    (λ (low : p < q). (let less = ascending p q 0 low far in omega (arith, less, same)))
    (λ (high : q ≤ p). (let less = ascending q p 0 (omega (arith, high, apart)) near in omega (arith, less, same)))
    (cases_lt p q)

-- so no row stands twice among the rows of places that stand once
pub distinct_rows : (rows places : List ℕ) → AllPairs (λ x y. x < y) rows → All (λ p. p < length rows) places → ((p : ℕ) → times_listed p places ≤ 1) → AllPairs (λ x y. x ≢ y) (map (λ p. get_or rows p 0) places)
distinct_rows rows places ascending within once i j d low inside =
    let size : length (map (λ p. get_or rows p 0) places) ≡ length places = length-map places (λ p. get_or rows p 0) in
    let j_in : j < length places = omega (arith, inside, size) in
    let i_in : i < length places = omega (arith, j_in, low) in
    let apart = rows_apart rows (get_or places i 0) (get_or places j 0) ascending (within i 0 i_in) (within j 0 j_in) (distinct_places places once i j 0 low j_in) in
    λ same. apart (sym (get_or-map (λ p. get_or rows p 0) places i 0 d i_in) ∙ (same ∙ get_or-map (λ p. get_or rows p 0) places j 0 d j_in))

-- what a claimant knows, of the rows
pub none_twice : (claims : Claims) (claimant : Claimant) → IsOf claims claimant → NoneTwice (held claims claimant)
none_twice claims claimant own = distinct_rows (rows_to_claim claims) (places_of claimant) claims.ascending own.places claimant.known.0

pub has_all : (claims : Claims) (claimant : Claimant) → HasAll claims claimant
has_all claims claimant = λ parts all place inside. claimant.known.1 parts place (let tries = claimant.tries in omega (arith, all, inside, tries))
