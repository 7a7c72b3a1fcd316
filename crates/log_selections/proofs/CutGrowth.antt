-- What is cut out of a log grows at its end: by what is kept of one more operation, by one more processor, and by more addresses.
use Rattle.std.proofs.Common.{◌≡◌, ℕ, ◌+◌, List, [], ◌∷◌, ◌++◌, map, sym, subst, arith, append_assoc}
use Rattle.std.specs.List.{flat_map}
use Rattle.std.proofs.lemmas.List.{append-nil}
use Rattle.std.proofs.lemmas.List.Sums.{sum_by-append, sum_by-cons}
use Rattle.tso_ops.specs.declared.ops.Outcome.{Outcome}
use Rattle.tso_ops.specs.Values.{op_of}
use Rattle.tso_ops.specs.Limits.{event_count, total_events}
use Rattle.tso_ops.proofs.PlaceFacts.{get-left}
use Rattle.log_selections.specs.Cuts.{IsKept, nothing, load, store, swap, membar, stbar, swap_load, swap_store, IsCutFrom, ended, operation, AreCutFrom, no_more, left_out, processor}

module _ (addresses : List ℕ) where
  kept_at : (m n : ℕ) (x : Outcome) (kept : List Outcome) (here : List ℕ) → m ≡ n → IsKept addresses m x kept here → IsKept addresses n x kept here
  kept_at m n x kept here same is = subst (λ i. IsKept addresses i x kept here) same is

  -- with what is kept of one more operation
  pub cut_push : (n : ℕ) (xs ys : List Outcome) (origins : List ℕ) → IsCutFrom addresses n xs ys origins → (x : Outcome) (kept : List Outcome) (here : List ℕ)
      → IsKept addresses (n + total_events (map op_of xs)) x kept here → IsCutFrom addresses n (xs ++ x ∷ []) (ys ++ kept) (origins ++ here)
  cut_push n xs ys origins (ended n1) x kept here is =
      subst (λ zs. IsCutFrom addresses n1 (x ∷ []) zs here) (append-nil kept)
      (subst (λ os. IsCutFrom addresses n1 (x ∷ []) (kept ++ []) os) (append-nil here)
      (operation n1 x kept here [] [] [] (kept_at (n1 + 0) n1 x kept here (omega arith) is) (ended (n1 + event_count (op_of x)))))
  cut_push n xs ys origins (operation n1 y kept1 here1 xs1 ys1 origins1 is1 cut) x kept here is =
      subst (λ zs. IsCutFrom addresses n1 (y ∷ xs1 ++ x ∷ []) zs ((here1 ++ origins1) ++ here)) (sym (append_assoc kept1 ys1 kept))
      (subst (λ os. IsCutFrom addresses n1 (y ∷ xs1 ++ x ∷ []) (kept1 ++ (ys1 ++ kept)) os) (sym (append_assoc here1 origins1 here))
      (operation n1 y kept1 here1 (xs1 ++ x ∷ []) (ys1 ++ kept) (origins1 ++ here) is1
      (cut_push (n1 + event_count (op_of y)) xs1 ys1 origins1 cut x kept here
      (kept_at _ _ x kept here (omega (arith, sum_by-cons event_count (op_of y) (map op_of xs1))) is))))

  -- with one more operation of the log, which is left out
  pub cut_push_nothing : (n : ℕ) (xs ys : List Outcome) (origins : List ℕ) → IsCutFrom addresses n xs ys origins → (x : Outcome)
      → IsCutFrom addresses n (xs ++ x ∷ []) ys origins
  cut_push_nothing n xs ys origins cut x =
      subst (λ zs. IsCutFrom addresses n (xs ++ x ∷ []) zs origins) (append-nil ys)
      (subst (λ os. IsCutFrom addresses n (xs ++ x ∷ []) (ys ++ []) os) (append-nil origins)
      (cut_push n xs ys origins cut x [] [] (nothing (n + total_events (map op_of xs)) x)))

  from_at : (m n : ℕ) (xs ys : List Outcome) (origins : List ℕ) → m ≡ n → IsCutFrom addresses m xs ys origins → IsCutFrom addresses n xs ys origins
  from_at m n xs ys origins same cut = subst (λ i. IsCutFrom addresses i xs ys origins) same cut

  -- with one more processor
  pub cut_push_processor : (n : ℕ) (logs lists : List (List Outcome)) (origins : List ℕ) → AreCutFrom addresses n logs lists origins
      → (xs ys : List Outcome) (here : List ℕ) → IsCutFrom addresses (n + total_events (flat_map (map op_of) logs)) xs ys here
      → AreCutFrom addresses n (logs ++ xs ∷ []) (lists ++ ys ∷ []) (origins ++ here)
  cut_push_processor n logs lists origins (no_more n1) xs ys here cut =
      subst (λ os. AreCutFrom addresses n1 (xs ∷ []) (ys ∷ []) os) (append-nil here)
      (processor n1 xs ys here [] [] [] (from_at (n1 + 0) n1 xs ys here (omega arith) cut) (no_more (n1 + total_events (map op_of xs))))
  cut_push_processor n logs lists origins (left_out n1 xs1 logs1 lists1 origins1 others) xs ys here cut =
      left_out n1 xs1 (logs1 ++ xs ∷ []) (lists1 ++ ys ∷ []) (origins1 ++ here)
      (cut_push_processor (n1 + total_events (map op_of xs1)) logs1 lists1 origins1 others xs ys here
      (from_at _ _ xs ys here (omega (arith, sum_by-append event_count (map op_of xs1) (flat_map (map op_of) logs1))) cut))
  cut_push_processor n logs lists origins (processor n1 xs1 ys1 here1 logs1 lists1 origins1 cut1 others) xs ys here cut =
      subst (λ os. AreCutFrom addresses n1 (xs1 ∷ logs1 ++ xs ∷ []) (ys1 ∷ lists1 ++ ys ∷ []) os) (sym (append_assoc here1 origins1 here))
      (processor n1 xs1 ys1 here1 (logs1 ++ xs ∷ []) (lists1 ++ ys ∷ []) (origins1 ++ here) cut1
      (cut_push_processor (n1 + total_events (map op_of xs1)) logs1 lists1 origins1 others xs ys here
      (from_at _ _ xs ys here (omega (arith, sum_by-append event_count (map op_of xs1) (flat_map (map op_of) logs1))) cut)))

  -- with one more processor of the log, which is left out
  pub cut_push_left_out : (n : ℕ) (logs lists : List (List Outcome)) (origins : List ℕ) → AreCutFrom addresses n logs lists origins → (xs : List Outcome)
      → AreCutFrom addresses n (logs ++ xs ∷ []) lists origins
  cut_push_left_out n logs lists origins (no_more n1) xs = left_out n1 xs [] [] [] (no_more (n1 + total_events (map op_of xs)))
  cut_push_left_out n logs lists origins (left_out n1 xs1 logs1 lists1 origins1 others) xs =
      left_out n1 xs1 (logs1 ++ xs ∷ []) lists1 origins1 (cut_push_left_out (n1 + total_events (map op_of xs1)) logs1 lists1 origins1 others xs)
  cut_push_left_out n logs lists origins (processor n1 xs1 ys1 here1 logs1 lists1 origins1 cut1 others) xs =
      processor n1 xs1 ys1 here1 (logs1 ++ xs ∷ []) lists1 origins1 cut1 (cut_push_left_out (n1 + total_events (map op_of xs1)) logs1 lists1 origins1 others xs)

module _ (addresses more : List ℕ) where
  -- with more addresses
  more_kept : (n : ℕ) (x : Outcome) (kept : List Outcome) (here : List ℕ) → IsKept addresses n x kept here → IsKept (addresses ++ more) n x kept here
  more_kept n x kept here (nothing n1 x1) = nothing n1 x1
  more_kept n x kept here (load n1 a b r q at) = load n1 a b r q (get-left addresses more b a at)
  more_kept n x kept here (store n1 a b v w at) = store n1 a b v w (get-left addresses more b a at)
  more_kept n x kept here (swap n1 a b r v q w at) = swap n1 a b r v q w (get-left addresses more b a at)
  more_kept n x kept here (membar n1) = membar n1
  more_kept n x kept here (stbar n1) = stbar n1
  more_kept n x kept here (swap_load n1 a b r v q at) = swap_load n1 a b r v q (get-left addresses more b a at)
  more_kept n x kept here (swap_store n1 a b r v w at) = swap_store n1 a b r v w (get-left addresses more b a at)

  pub more_cut : (n : ℕ) (xs ys : List Outcome) (origins : List ℕ) → IsCutFrom addresses n xs ys origins → IsCutFrom (addresses ++ more) n xs ys origins
  more_cut n xs ys origins (ended n1) = ended n1
  more_cut n xs ys origins (operation n1 x kept here xs1 ys1 origins1 is cut) =
      operation n1 x kept here xs1 ys1 origins1 (more_kept n1 x kept here is) (more_cut (n1 + event_count (op_of x)) xs1 ys1 origins1 cut)

  pub more_cuts : (n : ℕ) (logs lists : List (List Outcome)) (origins : List ℕ) → AreCutFrom addresses n logs lists origins
      → AreCutFrom (addresses ++ more) n logs lists origins
  more_cuts n logs lists origins (no_more n1) = no_more n1
  more_cuts n logs lists origins (left_out n1 xs logs1 lists1 origins1 others) =
      left_out n1 xs logs1 lists1 origins1 (more_cuts (n1 + total_events (map op_of xs)) logs1 lists1 origins1 others)
  more_cuts n logs lists origins (processor n1 xs ys here logs1 lists1 origins1 cut others) =
      processor n1 xs ys here logs1 lists1 origins1 (more_cut n1 xs ys here cut) (more_cuts (n1 + total_events (map op_of xs)) logs1 lists1 origins1 others)
