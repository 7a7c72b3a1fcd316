-- A trace is cut out of the log that it is itself, with all of it kept.
use Rattle.std.proofs.Common.{◌≡◌, ℕ, zero, suc, ◌+◌, ◌<◌, List, [], ◌∷◌, ◌++◌, map, Some, slice_get, false, eqb, refl, sym, ap, subst, ◌∙◌, arith}
use Rattle.std.specs.List.{IsDistinct, AllByRecursion, flat_map, range_with_len}
use Rattle.std.proofs.lemmas.Bool.Decides.{nat_tests}
use Rattle.std.proofs.lemmas.List.Concat.{flat_map-append}
use Rattle.std.proofs.lemmas.List.Elements.{recursion_from_All}
use Rattle.std.proofs.lemmas.List.FromFn.{get_or-range_with_len, length-range_with_len}
use Rattle.std.proofs.lemmas.List.Sums.{sum_by-append, sum_by-cons}
use Rattle.std.proofs.lemmas.Map.Keys.{IsDistinct-cons}
use Rattle.std.proofs.lemmas.Option.{slice_get_within}
use Rattle.tso_ops.specs.declared.ops.Op.{Op}
use Rattle.tso_ops.specs.declared.ops.Outcome.{Outcome}
use Rattle.tso_ops.specs.declared.ops.Outcome.TheVariants.{Ld, St, Sw, Mb, Sb}
use Rattle.tso_ops.specs.Values.{TraceValue, op_of}
use Rattle.tso_ops.specs.Limits.{IsTrace, event_count, total_events, addresses_of}
use Rattle.tso_ops.specs.Events.{events_of, event_at, IsEvent, IsLoad, HasSource}
use Rattle.tso_ops.proofs.NumberFacts.{load_event, store_event}
use Rattle.log_selections.specs.Sources.{IsOnlySource}
use Rattle.log_selections.specs.Cuts.{IsKept, load, store, swap, membar, stbar, IsCutFrom, ended, operation, AreCutFrom, no_more, processor, origin_in, IsCut}
use Rattle.log_selections.proofs.CutEvents.{found_event}
use Rattle.log_selections.proofs.CutLists.{cut_events}
use Rattle.log_selections.proofs.TraceLogs.{only_sources}

-- ---- numbers one after the other

number_at : (a n i : ℕ) → i < n → slice_get (range_with_len a n) i ≡ Some (a + i)
number_at a zero i below = absurd (omega arith)
number_at a (suc n) zero below = let same : a ≡ a + 0 = omega arith in ap (λ x. Some x) same
number_at a (suc n) (suc i) below = let same : a + 1 + i ≡ a + suc i = omega arith in number_at (a + 1) n i (omega arith) ∙ ap (λ x. Some x) same

numbers_above : (x a n : ℕ) → x < a → AllByRecursion (λ y. eqb x y ≡ false) (range_with_len a n)
numbers_above x a zero low = tt
numbers_above x a (suc n) low = (let test : eqb x a ≡ false = grind (arith, nat_tests) in test, numbers_above x (a + 1) n (omega arith))

numbers_distinct : (a n : ℕ) → IsDistinct eqb (range_with_len a n)
unfolding IsDistinct
numbers_distinct a zero = tt
numbers_distinct a (suc n) = IsDistinct-cons eqb a (range_with_len (a + 1) n) (numbers_above a (a + 1) n (omega arith)) (numbers_distinct (a + 1) n)

numbers-append : (a m n total : ℕ) → total ≡ m + n → range_with_len a m ++ range_with_len (a + m) n ≡ range_with_len a total
numbers-append a zero n total is =
    let start : a + 0 ≡ a = omega arith in
    let same : n ≡ total = omega arith in
    ap (λ x. range_with_len x n) start ∙ ap (range_with_len a) same
numbers-append a (suc m) n zero is = absurd (omega arith)
numbers-append a (suc m) n (suc total) is =
    let start : a + suc m ≡ a + 1 + m = omega arith in
    ap (λ x. a ∷ range_with_len (a + 1) m ++ range_with_len x n) start ∙ ap (λ rest. a ∷ rest) (numbers-append (a + 1) m n total (omega arith))

-- ---- all of the lists

-- the addresses of a trace are below 256, and keep their names
abbrev names : List ℕ
names = range_with_len 0 256

name : (a : ℕ) → a < 256 → slice_get names a ≡ Some a
name a below = let same : 0 + a ≡ a = omega arith in number_at 0 256 a below ∙ ap (λ x. Some x) same

-- the operation is kept, and so are those after it
whole_operation : (n : ℕ) (x : Outcome) (ops : List Outcome) (here : List ℕ) → IsKept names n x (x ∷ []) here → here ≡ range_with_len n (event_count (op_of x))
    → IsCutFrom names (n + event_count (op_of x)) ops ops (range_with_len (n + event_count (op_of x)) (total_events (map op_of ops)))
    → IsCutFrom names n (x ∷ ops) (x ∷ ops) (range_with_len n (total_events (map op_of (x ∷ ops))))
whole_operation n x ops here kept is rest =
    subst (IsCutFrom names n (x ∷ ops) (x ∷ ops))
    (ap (λ prefix. prefix ++ range_with_len (n + event_count (op_of x)) (total_events (map op_of ops))) is
    ∙ numbers-append n (event_count (op_of x)) (total_events (map op_of ops)) (total_events (map op_of (x ∷ ops))) (sum_by-cons event_count (op_of x) (map op_of ops)))
    (operation n x (x ∷ []) here ops ops _ kept rest)

whole_list : (n : ℕ) (ops : List Outcome) → AllByRecursion (λ a. a < 256) (addresses_of (map op_of ops))
    → IsCutFrom names n ops ops (range_with_len n (total_events (map op_of ops)))
whole_list n [] below = ended n
whole_list n (Ld a r ∷ ops) below = whole_operation n (Ld a r) ops (n ∷ []) (load n a a r r (name a below.0)) refl (whole_list (n + 1) ops below.1)
whole_list n (St a v ∷ ops) below = whole_operation n (St a v) ops (n ∷ []) (store n a a v v (name a below.0)) refl (whole_list (n + 1) ops below.1)
whole_list n (Sw a r v ∷ ops) below =
    let same : suc n ≡ n + 1 = omega arith in
    whole_operation n (Sw a r v) ops (n ∷ suc n ∷ []) (swap n a a r v r v (name a below.0)) (ap (λ x. n ∷ x ∷ []) same) (whole_list (n + 2) ops below.1)
whole_list n (Mb ∷ ops) below = whole_operation n Mb ops [] (membar n) refl (whole_list (n + 0) ops below)
whole_list n (Sb ∷ ops) below = whole_operation n Sb ops [] (stbar n) refl (whole_list (n + 0) ops below)

-- the operations of these lists in file order
abbrev joined : List (List Outcome) → List Op
joined lists = flat_map (λ ops. ops) (map (map op_of) lists)

each-split : {X : Type 0} (P : X → Type 0) → (xs ys : List X) → AllByRecursion P (xs ++ ys) → AllByRecursion P xs × AllByRecursion P ys
each-split P [] ys all = (tt, all)
each-split P (x ∷ xs) ys all = let rest = each-split P xs ys all.1 in ((all.0, rest.0), rest.1)

addresses_of-append : (xs ys : List Op) → addresses_of (xs ++ ys) ≡ addresses_of xs ++ addresses_of ys
addresses_of-append xs ys = flat_map-append _ xs ys

whole_lists : (n : ℕ) (lists : List (List Outcome)) → AllByRecursion (λ a. a < 256) (addresses_of (joined lists))
    → AreCutFrom names n lists lists (range_with_len n (total_events (joined lists)))
whole_lists n [] below = no_more n
whole_lists n (ops ∷ lists) below =
    let parts = each-split (λ a. a < 256) (addresses_of (map op_of ops)) (addresses_of (joined lists)) (rw addresses_of-append at below) in
    let here = total_events (map op_of ops) in
    subst (AreCutFrom names n (ops ∷ lists) (ops ∷ lists))
    (numbers-append n here (total_events (joined lists)) (total_events (joined (ops ∷ lists))) (sum_by-append event_count (map op_of ops) (joined lists)))
    (processor n ops ops (range_with_len n here) lists lists _ (whole_list n ops parts.0) (whole_lists (n + here) lists parts.1))

module _ (t : TraceValue) (trace : IsTrace t) where
  abbrev total : ℕ
  total = total_events (joined t.lists)

  whole_trace : AreCutFrom names 1 t.lists t.lists (range_with_len 1 total)
  whole_trace = whole_lists 1 t.lists (recursion_from_All _ _ trace.program.limits.addresses)

  -- each event has its own number
  own_number : (n : ℕ) → IsEvent t n → origin_in (range_with_len 1 total) n ≡ n
  unfolding event_at events_of
  own_number zero event = refl
  own_number (suc k) (e, at) =
      let found = found_event names 0 0 1 0 0 (events_of t) (events_of t) (range_with_len 1 total) (cut_events names t.lists t.lists (range_with_len 1 total) whole_trace) k e at in
      let within = slice_get_within (range_with_len 1 total) k (1 + found.j) found.origin in
      let count = length-range_with_len 1 total in
      let same : 1 + k ≡ suc k = omega arith in
      get_or-range_with_len 1 total k 0 (omega (arith, within, count)) ∙ same

  own_source : (l s : ℕ) → HasSource t l s → origin_in (range_with_len 1 total) s ≡ s
  own_source l zero source = refl
  own_source l (suc k) source = own_number (suc k) (store_event t (suc k) source.1)

pub own_cut : (t : TraceValue) (source : ℕ → ℕ) → IsTrace t → ((l : ℕ) → IsLoad t l → HasSource t l (source l)) → IsCut t t
own_cut t source trace sources = (
  names,
  range_with_len 1 (total t trace),
  record {
    model = refl;
    distinct = numbers_distinct 0 256;
    lists = whole_trace t trace;
    sources = λ l is_load.
        let from = sources l is_load in
        let only = only_sources t source trace sources l is_load in (
          source l,
          from,
          subst (λ n. IsOnlySource t n (origin_in (range_with_len 1 (total t trace)) (source l))) (sym (own_number t trace l (load_event t l is_load)))
              (subst (IsOnlySource t l) (sym (own_source t trace l (source l) from)) only),
        );
  },
)
