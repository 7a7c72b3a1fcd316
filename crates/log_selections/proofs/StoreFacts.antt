-- Lemmas on the stores to an address: the first of them, the last, and which values they have.
use Rattle.std.proofs.Common.{◌≡◌, ◌∙◌, ◌≢◌, ◌⊎◌, ◌==◌, ⊎_elim, ℕ, zero, suc, ◌+◌, ◌<◌, ◌≤◌, true, List, [], ◌∷◌, ◌++◌, length, map, take, filter, get_or, refl, sym, ap, subst, arith}
use Rattle.std.specs.Global.{Vec}
use Rattle.std.specs.List.{All, Contains, flat_map}
use Rattle.std.proofs.Math.Seq.{take-suc}
use Rattle.std.proofs.lemmas.List.{append-nil, get_or_past, get_or-map, length-map, take_all}
use Rattle.std.proofs.lemmas.List.Elements.{All-append, All-contains, Contains-append_left, Contains-append_right, Contains-get_or}
use Rattle.std.proofs.lemmas.Grind.{flat_map-append}
use Rattle.std.proofs.lemmas.Bool.{cases_lt}
use Rattle.std.proofs.lemmas.Bool.Decides.{nat_tests}
use Rattle.tso_ops.specs.Values.{rows}
use Rattle.log_text.specs.declared.logs.LogOperation.{LogOperation}
use Rattle.log_text.specs.declared.logs.LogOperation.TheVariants.{Ld, St, Sw, Mb, Sb}
use Rattle.log_text.specs.declared.logs.LoggedOperation.{LoggedOperation}
use Rattle.log_selections.specs.declared.unwritten.LoggedStore.{LoggedStore}
use Rattle.log_text.specs.LogValues.{NumberedLog}
use Rattle.log_selections.specs.declared.shown.Shown.{Shown}
use Rattle.log_selections.specs.Shown.{IsLineOf}
use Rattle.log_selections.specs.Unwritten.{IsOperationOfLog, logged_stores_to, pair_stored_by, stored_at}

-- ---- the first and the last

module _ (R : LoggedStore → LoggedStore → Type 0) (reaches : (x y z : LoggedStore) → R x y → R y z → R x z)
    (xs : List LoggedStore) (i : ℕ) (d x y : LoggedStore) (within : i < length xs) where
  one : R y (get_or xs i d) → All (R y) (get_or xs i d ∷ [])
  one holds zero e low = holds
  one holds (suc k) e low = absurd (omega (arith, low))

  -- Of the one so far and the next the one that comes before both, or after both.
  pub extreme_step : (y ≡ x) ⊎ (y ≡ get_or xs i d) → R y x → R y (get_or xs i d) → Contains xs x × All (R x) (take i xs) → Contains xs y × All (R y) (take (i + 1) xs)
  extreme_step either past here (has, all) = (
    ⊎_elim (λ is. subst (Contains xs) (sym is) has) (λ is. subst (Contains xs) (sym is) (Contains-get_or xs i d within)) either,
    let at : i + 1 ≡ suc i = omega arith in
        subst (All (R y)) (sym (ap (λ n. take n xs) at ∙ take-suc xs i d within))
        (All-append (R y) (take i xs) (get_or xs i d ∷ []) (λ k e low. reaches y x (get_or (take i xs) k e) past (all k e low)) (one here)),
  )

-- all are taken
pub extreme_all : (R : LoggedStore → LoggedStore → Type 0) (xs : List LoggedStore) (i : ℕ) (x : LoggedStore) → length xs ≤ i → Contains xs x × All (R x) (take i xs) → Contains xs x × All (R x) xs
extreme_all R xs i x end (has, all) = (has, subst (All (R x)) (take_all i xs end) all)

-- ---- the stores of a log

-- one more processor
pub stores_more : (lists : List (Vec LoggedOperation)) (a i : ℕ) (d : Vec LoggedOperation) (before after : List LoggedStore) → i < length lists → before ≡ logged_stores_to (take i (rows lists)) a →
    after ≡ before ++ flat_map (stored_at a) (get_or lists i d).items → after ≡ logged_stores_to (take (i + 1) (rows lists)) a
stores_more lists a i d before after within was is =
    let at : i + 1 ≡ suc i = omega arith in
    let long : i < length (rows lists) = omega (arith, length-map lists (λ (row : Vec LoggedOperation). row.items)) in
    let here : get_or (rows lists) i [] ≡ (get_or lists i d).items = get_or-map (λ (row : Vec LoggedOperation). row.items) lists i d [] within in
    let more : take (i + 1) (rows lists) ≡ take i (rows lists) ++ get_or (rows lists) i [] ∷ [] = ap (λ n. take n (rows lists)) at ∙ take-suc (rows lists) i [] long in
    is ∙ ap (λ xs. xs ++ flat_map (stored_at a) (get_or lists i d).items) was ∙ ap (λ xs. logged_stores_to (take i (rows lists)) a ++ xs) (sym (append-nil _) ∙ ap (λ x. flat_map (stored_at a) x ++ []) (sym here))
    ∙ sym (flat_map-append (flat_map (stored_at a)) (take i (rows lists)) (get_or (rows lists) i [] ∷ [])) ∙ sym (ap (λ ls. logged_stores_to ls a) more)

-- an element of what an element gives
flat_contains : {X Y : Type 0} (f : X → List Y) (xs : List X) (x : X) (y : Y) → Contains xs x → Contains (f x) y → Contains (flat_map f xs) y
flat_contains f [] x y (k, within, is) has = absurd (omega arith)
flat_contains f (z ∷ xs) x y (zero, within, is) has = Contains-append_left (f z) (flat_map f xs) y (subst (λ u. Contains (f u) y) (sym is) has)
flat_contains f (z ∷ xs) x y (suc k, within, is) has = Contains-append_right (f z) (flat_map f xs) y (flat_contains f xs x y (k, omega arith, is) has)

only : {X : Type 0} (x y : X) → Contains (x ∷ []) y → x ≡ y
only x y (zero, within, is) = is
only x y (suc k, within, is) = absurd (omega arith)

store_of : ℕ → ℕ × ℕ → LoggedStore
store_of line w = record { line = line; value = w.1 }

module _ (line : ℕ) (w u : ℕ × ℕ) (is : w ≡ u) where
  stored_one : Contains (map (store_of line) (filter (λ v. v.0 == u.0) (w ∷ []))) (store_of line u)
  stored_one =
      let equal : w.0 ≡ u.0 = ap (λ (v : ℕ × ℕ). v.0) is in
      let same : (w.0 == u.0) ≡ true = grind (arith, equal, nat_tests) in
      rw same (0, omega arith, ap (store_of line) is)

stored_here : (line : ℕ) (x : LogOperation) (w : ℕ × ℕ) → Contains (pair_stored_by x) w → Contains (map (store_of line) (filter (λ v. v.0 == w.0) (pair_stored_by x))) (store_of line w)
stored_here line (Ld a r) w (k, within, is) = absurd (omega arith)
stored_here line (St a v) w has = stored_one line (a, v) w (only (a, v) w has)
stored_here line (Sw a r v) w has = stored_one line (a, v) w (only (a, v) w has)
stored_here line Mb w (k, within, is) = absurd (omega arith)
stored_here line Sb w (k, within, is) = absurd (omega arith)

-- where no store to the address has the value, no operation stores it there
pub unstored : (log : NumberedLog) (w : ℕ × ℕ) → All (λ s. s.value ≢ w.1) (logged_stores_to log.lists w.0) → (y : LoggedOperation) → IsOperationOfLog log y → Contains (pair_stored_by y.operation) w → ⊥
unfolding store_of
unstored log w none y (xs, listed, here) has =
    All-contains (λ s. s.value ≢ w.1) (logged_stores_to log.lists w.0) (store_of y.line w) none
    (flat_contains (flat_map (stored_at w.0)) log.lists xs (store_of y.line w) listed (flat_contains (stored_at w.0) xs y (store_of y.line w) here (stored_here y.line y.operation w has))) refl

-- a line of a log is an operation of it
pub line_operation : (log : NumberedLog) (s : Shown) → IsLineOf log.lists s → IsOperationOfLog log s.logged
line_operation log s here =
    ⊎_elim (λ within. (get_or log.lists s.processor [], Contains-get_or log.lists s.processor [] within, here))
    (λ past. absurd (none (subst (λ xs. Contains xs s.logged) (get_or_past log.lists s.processor [] past) here))) (cases_lt s.processor (length log.lists))
  where
    none : Contains [] s.logged → ⊥
    none (k, within, is) = omega (arith, within)
