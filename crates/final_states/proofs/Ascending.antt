-- The order of words is that of the numbers of final states.
use Rattle.std.proofs.Common.{◌≡◌, ◌∙◌, ◌⊎◌, sym, ap, refl, subst, inl, inr, ℕ, zero, suc, ◌+◌, ◌<◌, ◌≤◌, ◌==◌, ◌&&◌, ◌||◌, cond, nat_lt, Bool, true, false, Option, None, Some, List, [], ◌∷◌, ◌++◌, length, get_or, take, drop, map, add-one, eq-eqb, arith}
use Rattle.std.specs.Cmp.Lexicographic.{slice_cmp}
use Rattle.std.specs.Ordering.{is_lt, nat_cmp, ordering_then}
use Rattle.std.specs.declared.cmp.Ordering.TheVariants.{Less, Equal, Greater}
use Rattle.std.specs.List.{AllByRecursion, cons_option, filter_map, flat_map, range_with_len, zip}
use Rattle.std.proofs.lemmas.Bool.{cases_lt, eqb-true, le-ltb, lt-ltb, ltb-true}
use Rattle.std.proofs.lemmas.List.{append_assoc, drop-drop, get_or-drop, length-drop}
use Rattle.std.proofs.lemmas.List.Elements.{All-from_recursion, filter_map-append}
use Rattle.std.proofs.lemmas.Slice.Zip.{seconds-zip}
use Rattle.tso_ops.specs.declared.ops.Op.{Op}
use Rattle.tso_ops.specs.declared.ops.Op.TheVariants.{Ld as OpLd, St as OpSt, Sw as OpSw, Mb as OpMb, Sb as OpSb}
use Rattle.tso_ops.specs.declared.ops.Outcome.{Outcome}
use Rattle.tso_ops.specs.Values.{ProgramValue}
use Rattle.final_states.specs.FinalStates.{AreAscending, FinalStateValue, is_below, state_numbers, value_read}
use Rattle.final_states.specs.Internal.Search.{AreOnce}
use Rattle.final_states.specs.Internal.Stands.{CanHave, Represents}
use Rattle.final_states.specs.Internal.Words.{entry_of, is_final, issued_by, marked_ops, memory_start, outcomes_with, start_of, state_with, stbar_count, waiting, width_of}
use Rattle.tso_ops.proofs.RefusalFacts.{each-middle}
use Rattle.unit_core.specs.Machine.{Entry, State}
use Rattle.final_states.proofs.Options.{both}
use Rattle.final_states.proofs.FinalWords.{all-taken, final-done}

-- ---- the words of a final state, row by row

-- the mark that an operation has at last, if it read nothing
abbrev IsLastMark : Op → ℕ → Type 0
IsLastMark (OpLd a) mark = Unit {0}
IsLastMark (OpSt a v) mark = mark ≡ 1
IsLastMark (OpSw a v) mark = Unit {0}
IsLastMark OpMb mark = mark ≡ 0
IsLastMark OpSb mark = mark ≡ 0

last_marks : (b : ℕ) (cells : List (Op × ℕ)) → AllByRecursion (λ c. CanHave c.0 c.1) cells → waiting b cells ≡ [] → AllByRecursion (λ c. IsLastMark c.0 c.1) cells
last_marks b [] can none = tt
last_marks b (c ∷ cells) can none =
    let rest = tail (entry_of b c.0 c.1) none in
    (here c.0 c.1 can.0 rest.0, last_marks (b + stbar_count c.0) cells can.1 rest.1)
  where
    tail : (o : Option Entry) → cons_option o (waiting (b + stbar_count c.0) cells) ≡ [] → (o ≡ None) × (waiting (b + stbar_count c.0) cells ≡ [])
    tail None is = (refl, is)
    tail (Some e) is = absurd cc

    here : (op : Op) (mark : ℕ) → CanHave op mark → entry_of b op mark ≡ None → IsLastMark op mark
    here (OpLd a) mark can_have is = tt
    here (OpSt a v) zero can_have is = absurd cc
    here (OpSt a v) (suc zero) can_have is = refl
    here (OpSt a v) (suc (suc mark)) can_have is = absurd (omega arith)
    here (OpSw a v) mark can_have is = tt
    here OpMb mark can_have is = can_have
    here OpSb mark can_have is = can_have

-- each processor has issued all of its operations, and they have the marks that they have at last
abbrev AreLastRows : List (List Op) → List ℕ → Type 0
AreLastRows [] words = Unit {0}
AreLastRows (ops ∷ lists) [] = ⊥
AreLastRows (ops ∷ lists) (n ∷ words) =
    (n ≡ length ops) × (length ops ≤ length words) × AllByRecursion (λ c. IsLastMark c.0 c.1) (zip ops words) × AreLastRows lists (drop (length ops) words)

last_rows : (lists : List (List Op)) (words : List ℕ) → start_of lists (length lists) ≤ length words →
    ((p : ℕ) → p < length lists → (get_or words (start_of lists p) 0 ≡ length (get_or lists p [])) × AllByRecursion (λ c. IsLastMark c.0 c.1) (zip (get_or lists p []) (drop (suc (start_of lists p)) words))) →
    AreLastRows lists words
last_rows [] words room rows = tt
last_rows (ops ∷ lists) [] room rows = absurd (omega arith)
last_rows (ops ∷ lists) (n ∷ words) room rows =
    let k = length ops in
    let first = rows 0 (omega arith) in (
      first.0,
      omega (arith, room),
      first.1,
      last_rows lists (drop k words) (omega (arith, length-drop k words, room)) (λ p small.
          let there = rows (suc p) (omega (arith, small)) in
          let m = start_of lists p in
          let at : get_or (drop k words) m 0 ≡ get_or (n ∷ words) (suc k + m) 0 = get_or-drop k words m 0 ∙ ap (λ i. get_or (n ∷ words) i 0) (let e : suc (k + m) ≡ suc k + m = omega arith in e) in
          let from : drop (suc m) (drop k words) ≡ drop (suc (suc k + m)) (n ∷ words) = drop-drop (suc m) k words ∙ ap (λ i. drop i (n ∷ words)) (let e : suc (k + suc m) ≡ suc (suc k + m) = omega arith in e) in
          let P : List ℕ → Type 0 = λ ws. AllByRecursion (λ c. IsLastMark c.0 c.1) (zip (get_or lists p []) ws) in
          (at ∙ there.0, subst P (sym from) there.1)),
    )

pub final_rows : (program : ProgramValue) (addresses words : List ℕ) (s : State) (answered : ℕ → List Outcome) → Represents program addresses words s answered → is_final program words ≡ true → AreLastRows program.lists words
final_rows program addresses words s answered stands final =
    last_rows program.lists words (omega (arith, stands.width)) (λ p small.
    let done = final-done program words final p small in
    let row = stands.rows p small in
    let taken : take (issued_by program words p) (marked_ops program words p) ≡ marked_ops program words p = all-taken program addresses words stands.width p small done.all in
    (done.all, last_marks 0 (marked_ops program words p) (subst (AllByRecursion (λ c. CanHave c.0 c.1)) taken row.marks) done.none))

-- ---- the numbers of a final state

-- the marks that were read
abbrev read_marks : List (Op × ℕ) → List ℕ
read_marks cells = filter_map value_read (outcomes_with cells)

-- the marks that were read, and then the values of memory
abbrev numbers_in : List (List Op) → List ℕ → List ℕ
numbers_in [] words = words
numbers_in (ops ∷ lists) [] = []
numbers_in (ops ∷ lists) (n ∷ words) = read_marks (zip ops words) ++ numbers_in lists (drop (length ops) words)

shifted : {X : Type 0} (f : ℕ → X) (first count : ℕ) → map f (range_with_len (first + 1) count) ≡ map (λ p. f (suc p)) (range_with_len first count)
shifted f first zero = refl
shifted f first (suc count) = ap (λ n. f n ∷ map f (range_with_len (first + 1 + 1) count)) (add-one first) ∙ ap (λ rest. f (suc first) ∷ rest) (shifted f (first + 1) count)

same-map : {X : Type 0} (f g : ℕ → X) (xs : List ℕ) → ((k : ℕ) → f k ≡ g k) → map f xs ≡ map g xs
same-map f g [] same = refl
same-map f g (x ∷ xs) same = ap (λ y. y ∷ map f xs) (same x) ∙ ap (λ ys. g x ∷ ys) (same-map f g xs same)

-- what the processors read, from their rows
reads_of : (lists : List (List Op)) (words : List ℕ) → List ℕ
reads_of lists words = filter_map value_read (flat_map (λ outcomes. outcomes) (map (λ p. outcomes_with (zip (get_or lists p []) (drop (suc (start_of lists p)) words))) (range_with_len 0 (length lists))))

numbers-are : (lists : List (List Op)) (words : List ℕ) → start_of lists (length lists) ≤ length words → reads_of lists words ++ drop (start_of lists (length lists)) words ≡ numbers_in lists words
unfolding reads_of
numbers-are [] words room = refl
numbers-are (ops ∷ lists) [] room = absurd (omega arith)
numbers-are (ops ∷ lists) (n ∷ words) room =
    let k = length ops in
    let f : ℕ → List Outcome = λ p. outcomes_with (zip (get_or (ops ∷ lists) p []) (drop (suc (start_of (ops ∷ lists) p)) (n ∷ words))) in
    let g : ℕ → List Outcome = λ p. outcomes_with (zip (get_or lists p []) (drop (suc (start_of lists p)) (drop k words))) in
    let flat : List (List Outcome) → List Outcome = flat_map (λ outcomes. outcomes) in
    let each : (p : ℕ) → f (suc p) ≡ g p = λ p.
    let m = start_of lists p in
    ap (λ ws. outcomes_with (zip (get_or lists p []) ws)) (sym (drop-drop (suc m) k words ∙ ap (λ i. drop i (n ∷ words)) (let e : suc (k + suc m) ≡ suc (suc k + m) = omega arith in e))) in
    let later : map f (range_with_len (0 + 1) (length lists)) ≡ map g (range_with_len 0 (length lists)) = shifted f 0 (length lists) ∙ same-map (λ p. f (suc p)) g (range_with_len 0 (length lists)) each in
    let rest = numbers-are lists (drop k words) (omega (arith, length-drop k words, room)) in
    let m = start_of lists (length lists) in
    let memory : drop m (drop k words) ≡ drop (suc k + m) (n ∷ words) = drop-drop m k words ∙ ap (λ i. drop i (n ∷ words)) (let e : suc (k + m) ≡ suc k + m = omega arith in e) in
    ap (λ ys. ys ++ drop (suc k + m) (n ∷ words)) (filter_map-append value_read (f 0) (flat (map f (range_with_len (0 + 1) (length lists)))))
    ∙ append_assoc (read_marks (zip ops words)) _ (drop (suc k + m) (n ∷ words))
    ∙ ap (λ ys. read_marks (zip ops words) ++ ys)
    (ap (λ zs. filter_map value_read (flat zs) ++ drop (suc k + m) (n ∷ words)) later ∙ ap (λ ys. reads_of lists (drop k words) ++ ys) (sym memory) ∙ rest)

pub numbers-same : (program : ProgramValue) (addresses words : List ℕ) → length words ≡ width_of program addresses → state_numbers (state_with program addresses words) ≡ numbers_in program.lists words
unfolding reads_of
numbers-same program addresses words width =
    let start = memory_start program in
    ap (λ ys. reads_of program.lists words ++ ys) (seconds-zip addresses (drop start words) (omega (arith, length-drop start words, width)))
    ∙ numbers-are program.lists words (omega (arith, width))

-- ---- the order of words is that of their numbers

below-same : (x y : ℕ) (xs ys : List ℕ) → x ≡ y → is_below (x ∷ xs) (y ∷ ys) ≡ is_below xs ys
below-same x y xs ys same =
    ap (λ b. b || ((x == y) && is_below xs ys)) (le-ltb x y (omega arith)) ∙ ap (λ b. b && is_below xs ys) (eq-eqb x y same)

below-row : (ops : List Op) (xs ys more others : List ℕ) → length ops ≤ length xs → length ops ≤ length ys → AllByRecursion (λ (c : Op × ℕ). IsLastMark c.0 c.1) (zip ops xs) →
    AllByRecursion (λ (c : Op × ℕ). IsLastMark c.0 c.1) (zip ops ys) → is_below (drop (length ops) xs) (drop (length ops) ys) ≡ is_below more others →
    is_below xs ys ≡ is_below (read_marks (zip ops xs) ++ more) (read_marks (zip ops ys) ++ others)
below-row [] xs ys more others room_x room_y last_x last_y rest = rest
below-row (op ∷ ops) [] ys more others room_x room_y last_x last_y rest = absurd (omega arith)
below-row (op ∷ ops) (x ∷ xs) [] more others room_x room_y last_x last_y rest = absurd (omega arith)
below-row (OpLd a ∷ ops) (x ∷ xs) (y ∷ ys) more others room_x room_y last_x last_y rest =
    ap (λ b. nat_lt x y || ((x == y) && b)) (below-row ops xs ys more others (omega arith) (omega arith) last_x.1 last_y.1 rest)
below-row (OpSw a v ∷ ops) (x ∷ xs) (y ∷ ys) more others room_x room_y last_x last_y rest =
    ap (λ b. nat_lt x y || ((x == y) && b)) (below-row ops xs ys more others (omega arith) (omega arith) last_x.1 last_y.1 rest)
below-row (OpSt a v ∷ ops) (x ∷ xs) (y ∷ ys) more others room_x room_y last_x last_y rest =
    below-same x y xs ys (last_x.0 ∙ sym last_y.0) ∙ below-row ops xs ys more others (omega arith) (omega arith) last_x.1 last_y.1 rest
below-row (OpMb ∷ ops) (x ∷ xs) (y ∷ ys) more others room_x room_y last_x last_y rest =
    below-same x y xs ys (last_x.0 ∙ sym last_y.0) ∙ below-row ops xs ys more others (omega arith) (omega arith) last_x.1 last_y.1 rest
below-row (OpSb ∷ ops) (x ∷ xs) (y ∷ ys) more others room_x room_y last_x last_y rest =
    below-same x y xs ys (last_x.0 ∙ sym last_y.0) ∙ below-row ops xs ys more others (omega arith) (omega arith) last_x.1 last_y.1 rest

below-numbers : (lists : List (List Op)) (xs ys : List ℕ) → AreLastRows lists xs → AreLastRows lists ys → is_below xs ys ≡ is_below (numbers_in lists xs) (numbers_in lists ys)
below-numbers [] xs ys last_x last_y = refl
below-numbers (ops ∷ lists) [] ys last_x last_y = absurd last_x
below-numbers (ops ∷ lists) (x ∷ xs) [] last_x last_y = absurd last_y
below-numbers (ops ∷ lists) (x ∷ xs) (y ∷ ys) last_x last_y =
    below-same x y xs ys (last_x.0 ∙ sym last_y.0)
    ∙ below-row ops xs ys (numbers_in lists (drop (length ops) xs)) (numbers_in lists (drop (length ops) ys)) last_x.1 last_y.1 last_x.2 last_y.2
    (below-numbers lists (drop (length ops) xs) (drop (length ops) ys) last_x.3 last_y.3)

-- ---- lists in order

below_next : (x y : ℕ) (xs ys : List ℕ) → (x < y) ⊎ ((x ≡ y) × (is_below xs ys ≡ true)) → is_below (x ∷ xs) (y ∷ ys) ≡ true
below_next x y xs ys (inl less) = ap (λ b. b || ((x == y) && is_below xs ys)) (lt-ltb x y less)
below_next x y xs ys (inr same) = below-same x y xs ys same.0 ∙ same.1

below_cases : (x y : ℕ) (xs ys : List ℕ) → is_below (x ∷ xs) (y ∷ ys) ≡ true → (x < y) ⊎ ((x ≡ y) × (is_below xs ys ≡ true))
below_cases x y xs ys below = by (nat_lt x y) refl
  where
    by : (b : Bool) → nat_lt x y ≡ b → (x < y) ⊎ ((x ≡ y) × (is_below xs ys ≡ true))
    by true less = inl (ltb-true x y less)
    by false not_less =
        let parts = both (x == y) (is_below xs ys) (sym (ap (λ b. b || ((x == y) && is_below xs ys)) not_less) ∙ below) in
        inr (eqb-true x y parts.0, parts.1)

below-chain : (xs ys zs : List ℕ) → is_below xs ys ≡ true → is_below ys zs ≡ true → is_below xs zs ≡ true
below-chain [] ys zs first second = absurd cc
below-chain (x ∷ xs) [] zs first second = absurd cc
below-chain (x ∷ xs) (y ∷ ys) [] first second = absurd cc
below-chain (x ∷ xs) (y ∷ ys) (z ∷ zs) first second =
    below_next x z xs zs
    (elim (below_cases x y xs ys first) [
      | inl less ↦ inl (elim (below_cases y z ys zs second) [ inl more ↦ omega (arith, less, more) | inr same ↦ omega (arith, less, same.0) ])
      | inr same ↦
          elim (below_cases y z ys zs second) [
            | inl more ↦ inl (omega (arith, same.0, more))
            | inr alike ↦ inr (same.0 ∙ alike.0, below-chain xs ys zs same.1 alike.1)
          ]
    ])

-- of two different lists of one length, the first is below the second if the second isn't less
below-cmp : (xs ys : List ℕ) → length xs ≡ length ys → is_lt (slice_cmp nat_cmp ys xs) ≡ false → (xs ≡ ys → ⊥) → is_below xs ys ≡ true
below-cmp [] [] lengths not_less other = absurd (other refl)
below-cmp [] (y ∷ ys) lengths not_less other = absurd (omega (arith, lengths))
below-cmp (x ∷ xs) [] lengths not_less other = absurd (omega (arith, lengths))
below-cmp (x ∷ xs) (y ∷ ys) lengths not_less other =
    elim (cases_lt x y) [
      | inl less ↦ below_next x y xs ys (inl less)
      | inr not_below ↦
          elim (cases_lt y x) [
            | inl above ↦
                let less : nat_cmp y x ≡ Less = ap (λ b. cond b Less (cond (y == x) Equal Greater)) (lt-ltb y x above) in
                let e : is_lt (ordering_then (nat_cmp y x) (slice_cmp nat_cmp ys xs)) ≡ true = ap (λ o. is_lt (ordering_then o (slice_cmp nat_cmp ys xs))) less in
                absurd cc
            | inr not_above ↦
                let same : x ≡ y = omega (arith, not_below, not_above) in
                let tie : nat_cmp y x ≡ Equal =
                ap (λ b. cond b Less (cond (y == x) Equal Greater)) (le-ltb y x not_above) ∙ ap (λ b. cond b Equal Greater) (eq-eqb y x (sym same)) in
                let rest : is_lt (slice_cmp nat_cmp ys xs) ≡ false = sym (ap (λ o. is_lt (ordering_then o (slice_cmp nat_cmp ys xs))) tie) ∙ not_less in
                below_next x y xs ys
                (inr (same, below-cmp xs ys (omega (arith, lengths)) rest (λ alike. other (ap (λ z. z ∷ xs) same ∙ ap (λ zs. y ∷ zs) alike))))
          ]
    ]

-- each list is below those after it
abbrev Ascends : List (List ℕ) → Type 0
Ascends [] = Unit {0}
Ascends (w ∷ ws) = AllByRecursion (λ v. is_below w v ≡ true) ws × Ascends ws

below_all : (u w : List ℕ) (ws : List (List ℕ)) → is_below u w ≡ true → AllByRecursion (λ v. is_below w v ≡ true) ws → AllByRecursion (λ v. is_below u v ≡ true) ws
below_all u w [] below all = tt
below_all u w (v ∷ ws) below all = (below-chain u w v below all.0, below_all u w ws below all.1)

ascends : (ws : List (List ℕ)) (n : ℕ) → AllByRecursion (λ w. length w ≡ n) ws → AreOnce ws → ((k : ℕ) → suc k < length ws → is_lt (slice_cmp nat_cmp (get_or ws (suc k) []) (get_or ws k [])) ≡ false) → Ascends ws
ascends [] n lengths once sorted = tt
ascends (w ∷ []) n lengths once sorted = (tt, tt)
ascends (w ∷ (v ∷ ws)) n lengths once sorted =
    let later = ascends (v ∷ ws) n lengths.1 once.1 (λ k small. sorted (suc k) (omega (arith, small))) in
    let first = below-cmp w v (lengths.0 ∙ sym lengths.1.0) (sorted 0 (omega arith)) (λ same. once.0 (inl (sym same))) in
    ((first, below_all w v ws first later.0), later)

-- ---- final states in order

abbrev AscendsStates : List FinalStateValue → Type 0
AscendsStates [] = Unit {0}
AscendsStates (s ∷ states) = AllByRecursion (λ t. is_below (state_numbers s) (state_numbers t) ≡ true) states × AscendsStates states

ascending-parts : (before : List FinalStateValue) (t : FinalStateValue) (after : List FinalStateValue) → AscendsStates (before ++ t ∷ after) →
    AllByRecursion (λ earlier. is_below (state_numbers earlier) (state_numbers t) ≡ true) before
ascending-parts [] t after up = tt
ascending-parts (s ∷ before) t after up = (each-middle (λ u. is_below (state_numbers s) (state_numbers u) ≡ true) before t after up.0, ascending-parts before t after up.1)

pub are-ascending : (states : List FinalStateValue) → AscendsStates states → AreAscending states
are-ascending states up before state after parts =
    All-from_recursion (λ earlier. is_below (state_numbers earlier) (state_numbers state) ≡ true) before (ascending-parts before state after (subst AscendsStates parts up))

module _ (program : ProgramValue) (addresses : List ℕ) where
  -- the words have the width of the program's, and are those of a final state
  pub record IsLast (words : List ℕ) : Type 0 where
    pub width : length words ≡ width_of program addresses
    pub rows : AreLastRows program.lists words

  numbers-below : (w v : List ℕ) → IsLast w → IsLast v → is_below w v ≡ is_below (state_numbers (state_with program addresses w)) (state_numbers (state_with program addresses v))
  numbers-below w v first second =
      below-numbers program.lists w v first.rows second.rows
      ∙ ap (λ xs. is_below xs (numbers_in program.lists v)) (sym (numbers-same program addresses w first.width))
      ∙ ap (is_below (state_numbers (state_with program addresses w))) (sym (numbers-same program addresses v second.width))

  states-all : (w : List ℕ) (ws : List (List ℕ)) → IsLast w → AllByRecursion IsLast ws → AllByRecursion (λ v. is_below w v ≡ true) ws →
      AllByRecursion (λ t. is_below (state_numbers (state_with program addresses w)) (state_numbers t) ≡ true) (map (state_with program addresses) ws)
  states-all w [] last all below = tt
  states-all w (v ∷ ws) last all below = (sym (numbers-below w v last all.0) ∙ below.0, states-all w ws last all.1 below.1)

  states-ascend : (ws : List (List ℕ)) → AllByRecursion IsLast ws → Ascends ws → AscendsStates (map (state_with program addresses) ws)
  states-ascend [] all up = tt
  states-ascend (w ∷ ws) all up = (states-all w ws all.0 all.1 up.0, states-ascend ws all.1 up.1)

  widths : (ws : List (List ℕ)) → AllByRecursion IsLast ws → AllByRecursion (λ w. length w ≡ width_of program addresses) ws
  widths [] all = tt
  widths (w ∷ ws) all = (all.0.width, widths ws all.1)

  -- sorted words are those of states in ascending order
  pub sorted-ascending : (ws : List (List ℕ)) → AllByRecursion IsLast ws → AreOnce ws → ((k : ℕ) → suc k < length ws → is_lt (slice_cmp nat_cmp (get_or ws (suc k) []) (get_or ws k [])) ≡ false) →
      AreAscending (map (state_with program addresses) ws)
  sorted-ascending ws all once sorted =
      are-ascending (map (state_with program addresses) ws) (states-ascend ws all (ascends ws (width_of program addresses) (widths ws all) once sorted))
