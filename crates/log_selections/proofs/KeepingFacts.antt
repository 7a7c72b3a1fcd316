-- Lemmas on what a selection keeps.
use Rattle.std.proofs.Common.{◌≡◌, ◌∙◌, ⊎_elim, ℕ, zero, suc, ◌+◌, ◌-◌, ◌<◌, ◌≤◌, true, nat_lt, List, [], ◌∷◌, ◌++◌, length, map, take, get_or, Some, slice_get, sym, ap, subst, arith, add-one, append_assoc}
use Rattle.std.specs.List.{flat_map}
use Rattle.std.proofs.lemmas.Bool.{cases_lt}
use Rattle.std.proofs.lemmas.List.{take_more, take_all, get_or-map, length-map, map-append}
use Rattle.std.specs.Global.{Vec}
use Rattle.std.proofs.lemmas.Bool.Decides.{nat_tests}
use Rattle.tso_ops.specs.Values.{op_of, rows}
use Rattle.tso_ops.specs.Limits.{total_events}
use Rattle.log_selections.proofs.CutGrowth.{cut_push, cut_push_nothing, cut_push_processor, cut_push_left_out}
use Rattle.tso_ops.specs.declared.ops.Outcome.{Outcome}
use Rattle.tso_ops.specs.declared.ops.Outcome.TheVariants.{Ld as OutcomeLd, St as OutcomeSt, Sw as OutcomeSw, Mb as OutcomeMb, Sb as OutcomeSb}
use Rattle.log_selections.specs.Cuts.{AreCutFrom, IsCutFrom, IsKept, load, store, swap, membar, stbar, swap_load, swap_store}
use Rattle.log_text.specs.declared.logs.LogOperation.{LogOperation}
use Rattle.log_text.specs.declared.logs.LoggedOperation.{LoggedOperation}
use Rattle.log_text.specs.declared.logs.LogOperation.TheVariants.{Ld, St, Sw, Mb, Sb}
use Rattle.log_text.specs.LogValues.{logged_outcome, logged_outcomes}
use Rattle.log_selections.specs.Internal.Accesses.{numbers_from, numbers_of_lists}
use Rattle.log_selections.specs.Internal.Keeping.{IsKeptOf}
use Rattle.log_selections.proofs.AccessFacts.{number_at, numbers_at}

module _ (addresses : List ℕ) (n : ℕ) (x : LogOperation) (y : Outcome) where
  -- an operation and an outcome that are known
  kept_as : (known : LogOperation) (outcome : Outcome) (here : List ℕ) → x ≡ known → y ≡ outcome →
      IsKept addresses n (logged_outcome known) (outcome ∷ []) here → IsKept addresses n (logged_outcome x) (y ∷ []) here
  kept_as known outcome here x_is y_is kept =
      subst (λ z. IsKept addresses n (logged_outcome z) (y ∷ []) here) (sym x_is) (subst (λ z. IsKept addresses n (logged_outcome known) (z ∷ []) here) (sym y_is) kept)

  pub kept_membar : x ≡ Mb → y ≡ OutcomeMb → IsKept addresses n (logged_outcome x) (y ∷ []) []
  kept_membar x_is y_is = kept_as Mb OutcomeMb [] x_is y_is (membar n)

  pub kept_stbar : x ≡ Sb → y ≡ OutcomeSb → IsKept addresses n (logged_outcome x) (y ∷ []) []
  kept_stbar x_is y_is = kept_as Sb OutcomeSb [] x_is y_is (stbar n)

  module _ (a b : ℕ) (at : slice_get addresses b ≡ Some a) where
    pub kept_load : (r q : ℕ) → x ≡ Ld a r → y ≡ OutcomeLd b q → IsKept addresses n (logged_outcome x) (y ∷ []) (n ∷ [])
    kept_load r q x_is y_is = kept_as (Ld a r) (OutcomeLd b q) (n ∷ []) x_is y_is (load n a b r q at)

    pub kept_store : (v w : ℕ) → x ≡ St a v → y ≡ OutcomeSt b w → IsKept addresses n (logged_outcome x) (y ∷ []) (n ∷ [])
    kept_store v w x_is y_is = kept_as (St a v) (OutcomeSt b w) (n ∷ []) x_is y_is (store n a b v w at)

    pub kept_swap_load : (r v q : ℕ) → x ≡ Sw a r v → y ≡ OutcomeLd b q → IsKept addresses n (logged_outcome x) (y ∷ []) (n ∷ [])
    kept_swap_load r v q x_is y_is = kept_as (Sw a r v) (OutcomeLd b q) (n ∷ []) x_is y_is (swap_load n a b r v q at)

    pub kept_swap_store : (m r v w : ℕ) → m ≡ n + 1 → x ≡ Sw a r v → y ≡ OutcomeSt b w → IsKept addresses n (logged_outcome x) (y ∷ []) (m ∷ [])
    kept_swap_store m r v w next x_is y_is =
        kept_as (Sw a r v) (OutcomeSt b w) (m ∷ []) x_is y_is
        (subst (λ k. IsKept addresses n (OutcomeSw a r v) (OutcomeSt b w ∷ []) (k ∷ [])) (sym (next ∙ add-one n)) (swap_store n a b r v w at))

    pub kept_swap : (m r v q w : ℕ) → m ≡ n + 1 → x ≡ Sw a r v → y ≡ OutcomeSw b q w → IsKept addresses n (logged_outcome x) (y ∷ []) (n ∷ m ∷ [])
    kept_swap m r v q w next x_is y_is =
        kept_as (Sw a r v) (OutcomeSw b q w) (n ∷ m ∷ []) x_is y_is
        (subst (λ k. IsKept addresses n (OutcomeSw a r v) (OutcomeSw b q w ∷ []) (n ∷ k ∷ [])) (sym (next ∙ add-one n)) (swap n a b r v q w at))

pub below : (i n : ℕ) → true ≡ nat_lt i n → i + 1 ≤ n
below i n test = grind (arith, nat_tests)

module _ (addresses : List ℕ) (n : ℕ) (xs : List LoggedOperation) where
  -- some operations more, which are left out
  skipped : (i k : ℕ) (ys : List Outcome) (origins : List ℕ) → IsCutFrom addresses n (take i (logged_outcomes xs)) ys origins → IsCutFrom addresses n (take (i + k) (logged_outcomes xs)) ys origins
  skipped i zero ys origins cut = subst (λ m. IsCutFrom addresses n (take m (logged_outcomes xs)) ys origins) (omega arith) cut
  skipped i (suc k) ys origins cut =
      let before = skipped i k ys origins cut in
      let same : i + k + 1 ≡ i + suc k = omega arith in
      subst (λ m. IsCutFrom addresses n (take m (logged_outcomes xs)) ys origins) same
      (⊎_elim
      (λ within. subst (λ zs. IsCutFrom addresses n zs ys origins) (sym (take_more (logged_outcomes xs) (i + k) OutcomeMb within)) (cut_push_nothing addresses n _ ys origins before (get_or (logged_outcomes xs) (i + k) OutcomeMb)))
      (λ past. subst (λ zs. IsCutFrom addresses n zs ys origins)
      (take_all (i + k) (logged_outcomes xs) (omega (arith)) ∙ sym (take_all (i + k + 1) (logged_outcomes xs) (omega (arith)))) before)
      (cases_lt (i + k) (length (logged_outcomes xs))))

  -- all operations that are left, which are left out
  pub skip_all : (next : ℕ) (ys : List Outcome) (here : List ℕ) → next ≤ length xs → IsCutFrom addresses n (take next (logged_outcomes xs)) ys here → IsCutFrom addresses n (logged_outcomes xs) ys here
  skip_all next ys here within cut =
      subst (λ zs. IsCutFrom addresses n zs ys here) (take_all (next + (length xs - next)) (logged_outcomes xs) (omega (arith, length-map xs (λ y. logged_outcome y.operation)))) (skipped next (length xs - next) ys here cut)

  -- an operation more, after some that are left out
  pub kept_more : (next i number e : ℕ) (x d : LoggedOperation) (y : Outcome) (ys : List Outcome) (here more : List ℕ) → next ≤ i → true ≡ nat_lt i (length xs) → x ≡ get_or xs i d → number ≡ get_or (numbers_from n xs) i e →
      IsCutFrom addresses n (take next (logged_outcomes xs)) ys here → IsKept addresses number (logged_outcome x.operation) (y ∷ []) more →
      IsCutFrom addresses n (take (i + 1) (logged_outcomes xs)) (ys ++ y ∷ []) (here ++ more)
  kept_more next i number e x d y ys here more after test is numbered cut kept =
      let within : i < length xs = grind (arith, nat_tests) in
      let before : IsCutFrom addresses n (take i (logged_outcomes xs)) ys here =
      subst (λ m. IsCutFrom addresses n (take m (logged_outcomes xs)) ys here) (omega arith) (skipped next (i - next) ys here cut) in
      let number_is : number ≡ n + total_events (map op_of (take i (logged_outcomes xs))) = numbered ∙ number_at n xs i e within in
      let x_is : get_or (logged_outcomes xs) i OutcomeMb ≡ logged_outcome x.operation = get_or-map (λ y. logged_outcome y.operation) xs i d OutcomeMb within ∙ ap (λ y. logged_outcome y.operation) (sym is) in
      let more_ops : take (i + 1) (logged_outcomes xs) ≡ take i (logged_outcomes xs) ++ logged_outcome x.operation ∷ [] =
      take_more (logged_outcomes xs) i OutcomeMb (omega (arith, length-map xs (λ y. logged_outcome y.operation))) ∙ ap (λ z. take i (logged_outcomes xs) ++ z ∷ []) x_is in
      subst (λ zs. IsCutFrom addresses n zs (ys ++ y ∷ []) (here ++ more)) (sym more_ops)
      (cut_push addresses n _ ys here before (logged_outcome x.operation) (y ∷ []) more (subst (λ m. IsKept addresses m (logged_outcome x.operation) (y ∷ []) more) number_is kept))

-- what is kept of the operations before one is cut out of them, if these are the numbers of operations
abbrev pub IsKeptBefore : (addresses numbers : List ℕ) (xs : List LoggedOperation) (i : ℕ) (ys : List Outcome) (start origins : List ℕ) → Type 0
IsKeptBefore addresses numbers xs i ys start origins =
    (n : ℕ) → numbers ≡ numbers_from n xs → (here : List ℕ) × IsCutFrom addresses n (take i (logged_outcomes xs)) ys here × (origins ≡ start ++ here)

pub kept_step : (addresses numbers : List ℕ) (xs : List LoggedOperation) (next i number e : ℕ) (x d : LoggedOperation) (y : Outcome) (ys new_ys : List Outcome) (start origins more new_origins : List ℕ) →
    next ≤ i → true ≡ nat_lt i (length xs) → x ≡ get_or xs i d → number ≡ get_or numbers i e → IsKept addresses number (logged_outcome x.operation) (y ∷ []) more →
    new_ys ≡ ys ++ y ∷ [] → new_origins ≡ origins ++ more → IsKeptBefore addresses numbers xs next ys start origins → IsKeptBefore addresses numbers xs (i + 1) new_ys start new_origins
kept_step addresses numbers xs next i number e x d y ys new_ys start origins more new_origins after test is numbered kept ys_are origins_are before n are =
    let (here, cut, were) = before n are in (
      here ++ more,
      subst (λ zs. IsCutFrom addresses n (take (i + 1) (logged_outcomes xs)) zs (here ++ more)) (sym ys_are)
          (kept_more addresses n xs next i number e x d y ys here more after test is (numbered ∙ ap (λ ns. get_or ns i e) are) cut kept),
      origins_are ∙ ap (λ os. os ++ more) were ∙ append_assoc start here more,
    )

module _ (addresses : List ℕ) (lists : List (List LoggedOperation)) where
  next_list : (p : ℕ) → p < length lists → take (p + 1) (map logged_outcomes lists) ≡ take p (map logged_outcomes lists) ++ logged_outcomes (get_or lists p []) ∷ []
  next_list p within =
      take_more (map logged_outcomes lists) p [] (omega (arith, length-map lists logged_outcomes)) ∙ ap (λ z. take p (map logged_outcomes lists) ++ z ∷ []) (get_or-map logged_outcomes lists p [] [] within)

  -- a processor more, which is left out
  pub list_left_out : (p : ℕ) (kept_lists : List (List Outcome)) (origins : List ℕ) → p < length lists → AreCutFrom addresses 1 (take p (map logged_outcomes lists)) kept_lists origins →
      AreCutFrom addresses 1 (take (p + 1) (map logged_outcomes lists)) kept_lists origins
  list_left_out p kept_lists origins within cut =
      subst (λ zs. AreCutFrom addresses 1 zs kept_lists origins) (sym (next_list p within)) (cut_push_left_out addresses 1 _ kept_lists origins cut (logged_outcomes (get_or lists p [])))

  -- a processor more, of which something is kept
  pub list_kept : (p : ℕ) (kept_lists : List (List Outcome)) (row : List Outcome) (origins here : List ℕ) → p < length lists → AreCutFrom addresses 1 (take p (map logged_outcomes lists)) kept_lists origins →
      IsCutFrom addresses (1 + total_events (flat_map (map op_of) (take p (map logged_outcomes lists)))) (logged_outcomes (get_or lists p [])) row here →
      AreCutFrom addresses 1 (take (p + 1) (map logged_outcomes lists)) (kept_lists ++ row ∷ []) (origins ++ here)
  list_kept p kept_lists row origins here within cut kept =
      subst (λ zs. AreCutFrom addresses 1 zs (kept_lists ++ row ∷ []) (origins ++ here)) (sym (next_list p within))
      (cut_push_processor addresses 1 _ kept_lists origins cut (logged_outcomes (get_or lists p [])) row here kept)

-- the numbers of a processor's operations
pub list_numbers : (numbers : List (Vec ℕ)) (lists : List (Vec LoggedOperation)) (p : ℕ) (u d : Vec ℕ) (v e : Vec LoggedOperation) → true ≡ nat_lt p (length numbers) → p < length lists →
    u ≡ get_or numbers p d → v ≡ get_or lists p e → rows numbers ≡ numbers_of_lists 1 (rows lists) →
    u.items ≡ numbers_from (1 + total_events (flat_map (map op_of) (take p (map logged_outcomes (rows lists))))) v.items
list_numbers numbers lists p u d v e test within u_is v_is numbered =
    let items = λ (row : Vec LoggedOperation). row.items in
    let below_numbers : p < length numbers = grind (arith, nat_tests) in
    ap (λ (row : Vec ℕ). row.items) u_is ∙ sym (get_or-map (λ (row : Vec ℕ). row.items) numbers p d [] below_numbers) ∙ ap (λ ns. get_or ns p []) numbered
    ∙ numbers_at 1 (rows lists) p (omega (arith, length-map lists items))
    ∙ ap (numbers_from (1 + total_events (flat_map (map op_of) (take p (map logged_outcomes (rows lists)))))) (get_or-map items lists p e [] within ∙ sym (ap items v_is))

pub list_at : (lists : List (Vec LoggedOperation)) (p : ℕ) (v e : Vec LoggedOperation) → p < length lists → v ≡ get_or lists p e → v.items ≡ get_or (rows lists) p []
list_at lists p v e within v_is = ap (λ (row : Vec LoggedOperation). row.items) v_is ∙ sym (get_or-map (λ (row : Vec LoggedOperation). row.items) lists p e [] within)

-- a processor more, of which something is kept
pub lists_step : (addresses : List ℕ) (numbers : List (Vec ℕ)) (lists : List (Vec LoggedOperation)) (p : ℕ) (u d : Vec ℕ) (v e : Vec LoggedOperation) (u_items : List ℕ) (v_items : List LoggedOperation)
    (kept_lists : List (Vec Outcome)) (row : Vec Outcome) (new_lists : List (Vec Outcome)) (origins new_origins : List ℕ) → true ≡ nat_lt p (length numbers) → p < length lists →
    u ≡ get_or numbers p d → v ≡ get_or lists p e → u_items ≡ u.items → v_items ≡ v.items → rows numbers ≡ numbers_of_lists 1 (rows lists) →
    IsKeptOf addresses u_items v_items origins new_origins row.items →
    new_lists ≡ kept_lists ++ row ∷ [] → AreCutFrom addresses 1 (take p (map logged_outcomes (rows lists))) (rows kept_lists) origins →
    AreCutFrom addresses 1 (take (p + 1) (map logged_outcomes (rows lists))) (rows new_lists) new_origins
lists_step addresses numbers lists p u d v e u_items v_items kept_lists row new_lists origins new_origins test within u_is v_is us vs numbered kept pushed cut =
    let n : ℕ = 1 + total_events (flat_map (map op_of) (take p (map logged_outcomes (rows lists)))) in
    let (here, is, are) = kept n (us ∙ list_numbers numbers lists p u d v e test within u_is v_is numbered ∙ ap (numbers_from n) (sym vs)) in
    let at : v_items ≡ get_or (rows lists) p [] = vs ∙ list_at lists p v e within v_is in
    let rows_are : rows new_lists ≡ rows kept_lists ++ row.items ∷ [] = ap rows pushed ∙ map-append (λ (r : Vec Outcome). r.items) kept_lists (row ∷ []) in
    subst (λ zs. AreCutFrom addresses 1 (take (p + 1) (map logged_outcomes (rows lists))) zs new_origins) (sym rows_are)
    (subst (AreCutFrom addresses 1 (take (p + 1) (map logged_outcomes (rows lists))) (rows kept_lists ++ row.items ∷ [])) (sym are)
    (list_kept addresses (rows lists) p (rows kept_lists) row.items origins here (omega (arith, length-map lists (λ (r : Vec LoggedOperation). r.items))) cut
    (subst (λ zs. IsCutFrom addresses n (logged_outcomes zs) row.items here) at is)))
