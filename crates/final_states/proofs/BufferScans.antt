-- Steps of the loops that go over the operations of a processor with their marks.
use Rattle.std.proofs.Common.{◌≡◌, ◌∙◌, ap, refl, ℕ, ◌+◌, ◌<◌, ◌≤◌, ◌==◌, ◌&&◌, cond, not, is_some, Bool, true, false, None, Some, List, [], ◌∷◌, ◌++◌, length, get_or, take, drop, arith}
use Rattle.std.specs.List.{list_all, zip}
use Rattle.std.specs.Option.{option_to_list}
use Rattle.std.proofs.lemmas.List.{append-nil, take_all, take_more}
use Rattle.std.proofs.lemmas.Slice.Zip.{get_or-zip, length-zip}
use Rattle.tso_ops.specs.declared.settings.Order.{Order}
use Rattle.tso_ops.specs.declared.ops.Op.{Op}
use Rattle.tso_ops.specs.declared.ops.Op.TheVariants.{Ld as OpLd, St as OpSt, Sw as OpSw, Mb as OpMb, Sb as OpSb}
use Rattle.unit_core.specs.Machine.{Entry, newest}
use Rattle.final_states.specs.Internal.Words.{entry_of, is_empty, passes, passes_all, read_after, stbar_count, stbars_among, stbars_in, waiting}
use Rattle.final_states.proofs.Rows.{stbars_in-append, waiting-older, waiting-push}

-- one operation more
pub cells-more : (ops : List Op) (marks : List ℕ) (i : ℕ) (d : Op) → i < length ops → length ops ≤ length marks →
    take (i + 1) (zip ops marks) ≡ take i (zip ops marks) ++ (get_or ops i d, get_or marks i 0) ∷ []
cells-more ops marks i d within room =
    let default : Op × ℕ = (d, 0) in
    let few : i < length (zip ops marks) = omega (arith, length-zip ops marks) in
    take_more (zip ops marks) i default few ∙ ap (λ c. take i (zip ops marks) ++ c ∷ []) (get_or-zip ops marks i default within (omega arith))

pub cells-all : (ops : List Op) (marks : List ℕ) (i : ℕ) → length ops ≤ i → take i (zip ops marks) ≡ zip ops marks
cells-all ops marks i past = take_all i (zip ops marks) (omega (arith, length-zip ops marks))

-- ---- the value that is read

newest-push : (xs : List Entry) (e : Entry) (a value : ℕ) → newest (xs ++ e ∷ []) a value ≡ cond (e.a == a) e.v (newest xs a value)
newest-push [] e a value = refl
newest-push (x ∷ xs) e a value = newest-push xs e a (cond (x.a == a) x.v value)

newest-next : (xs : List Entry) (b a value : ℕ) (op : Op) (mark : ℕ) → newest (xs ++ option_to_list (entry_of b op mark)) a value ≡ read_after op mark a (newest xs a value)
newest-next xs b a value (OpLd c) mark = ap (λ es. newest es a value) (append-nil xs)
newest-next xs b a value (OpSw c v) mark = ap (λ es. newest es a value) (append-nil xs)
newest-next xs b a value OpMb mark = ap (λ es. newest es a value) (append-nil xs)
newest-next xs b a value OpSb mark = ap (λ es. newest es a value) (append-nil xs)
newest-next xs b a value (OpSt c v) mark = by (mark == 0)
  where
    entry : Entry
    entry = record { a = c; v = v; stbars = b }

    by : (t : Bool) → newest (xs ++ option_to_list (cond t (Some (record { a = c; v = v; stbars = b })) None)) a value ≡ cond t (cond (c == a) v (newest xs a value)) (newest xs a value)
    by true = newest-push xs (record { a = c; v = v; stbars = b }) a value
    by false = ap (λ es. newest es a value) (append-nil xs)

pub read-more : (ops : List Op) (marks : List ℕ) (i : ℕ) (d : Op) (a value : ℕ) → i < length ops → length ops ≤ length marks →
    newest (waiting 0 (take (i + 1) (zip ops marks))) a value ≡ read_after (get_or ops i d) (get_or marks i 0) a (newest (waiting 0 (take i (zip ops marks))) a value)
read-more ops marks i d a value within room =
    let op = get_or ops i d in
    let before = take i (zip ops marks) in
    let last : Op × ℕ = (op, get_or marks i 0) in
    ap (λ cells. newest (waiting 0 cells) a value) (cells-more ops marks i d within room) ∙ ap (λ es. newest es a value) (waiting-push 0 before last)
    ∙ newest-next (waiting 0 before) (0 + stbars_in before) a value op (get_or marks i 0)

-- ---- whether a store waits

empty-push : (xs : List Entry) (b : ℕ) (op : Op) (mark : ℕ) → is_empty xs ≡ true → is_empty (xs ++ option_to_list (entry_of b op mark)) ≡ not (is_some (entry_of 0 op mark))
empty-push (x ∷ xs) b op mark empty = absurd cc
empty-push [] b (OpLd c) mark empty = refl
empty-push [] b (OpSw c v) mark empty = refl
empty-push [] b OpMb mark empty = refl
empty-push [] b OpSb mark empty = refl
empty-push [] b (OpSt c v) mark empty = by (mark == 0)
  where
    here : ℕ → Entry
    here n = record { a = c; v = v; stbars = n }

    by : (t : Bool) → is_empty (option_to_list (cond t (Some (here b)) None)) ≡ not (is_some (cond t (Some (here 0)) None))
    by true = refl
    by false = refl

pub empty-more : (ops : List Op) (marks : List ℕ) (i : ℕ) (d : Op) → i < length ops → length ops ≤ length marks → is_empty (waiting 0 (take i (zip ops marks))) ≡ true →
    is_empty (waiting 0 (take (i + 1) (zip ops marks))) ≡ not (is_some (entry_of 0 (get_or ops i d) (get_or marks i 0)))
empty-more ops marks i d within room empty =
    let op = get_or ops i d in
    let before = take i (zip ops marks) in
    let last : Op × ℕ = (op, get_or marks i 0) in
    ap (λ cells. is_empty (waiting 0 cells)) (cells-more ops marks i d within room) ∙ ap is_empty (waiting-push 0 before last)
    ∙ empty-push (waiting 0 before) (0 + stbars_in before) op (get_or marks i 0) empty

empty-front : (xs ys : List Entry) → is_empty xs ≡ false → is_empty (xs ++ ys) ≡ false
empty-front [] ys some = absurd cc
empty-front (x ∷ xs) ys some = refl

-- a store that waits among the first operations waits among all
pub not-empty : (cells : List (Op × ℕ)) (i : ℕ) → is_empty (waiting 0 (take i cells)) ≡ false → is_empty (waiting 0 cells) ≡ false
not-empty cells i some = ap is_empty (waiting-older 0 cells i) ∙ empty-front (waiting 0 (take i cells)) _ some

-- ---- whether a store may pass

pub seen-more : (ops : List Op) (marks : List ℕ) (i : ℕ) (d : Op) → i < length ops → length ops ≤ length marks →
    stbars_in (take (i + 1) (zip ops marks)) ≡ stbars_in (take i (zip ops marks)) + stbar_count (get_or ops i d)
seen-more ops marks i d within room = ap stbars_in (cells-more ops marks i d within room) ∙ stbars_in-append (take i (zip ops marks)) ((get_or ops i d, get_or marks i 0) ∷ []) ∙ omega arith

stbar-most : (op : Op) → stbar_count op ≤ 1
stbar-most (OpLd a) = omega arith
stbar-most (OpSt a v) = omega arith
stbar-most (OpSw a v) = omega arith
stbar-most OpMb = omega arith
stbar-most OpSb = omega arith

pub stbars-most : (cells : List (Op × ℕ)) → stbars_in cells ≤ length cells
stbars-most [] = omega arith
stbars-most (c ∷ cells) = omega (arith, stbar-most c.0, stbars-most cells)

all-append-tests : (test : Entry → Bool) (xs ys : List Entry) → list_all test (xs ++ ys) ≡ (list_all test xs && list_all test ys)
all-append-tests test [] ys = refl
all-append-tests test (x ∷ xs) ys = ap (λ b. test x && b) (all-append-tests test xs ys) ∙ regroup (test x) (list_all test xs) (list_all test ys)
  where
    regroup : (a b c : Bool) → (a && (b && c)) ≡ ((a && b) && c)
    regroup true b c = refl
    regroup false b c = refl

pub pass-more : (order : Order) (a stbars : ℕ) (ops : List Op) (marks : List ℕ) (i : ℕ) (d : Op) → i < length ops → length ops ≤ length marks →
    passes_all order (waiting 0 (take i (zip ops marks))) a stbars ≡ true →
    passes_all order (waiting 0 (take (i + 1) (zip ops marks))) a stbars ≡ list_all (passes order a stbars) (option_to_list (entry_of (stbars_in (take i (zip ops marks))) (get_or ops i d) (get_or marks i 0)))
pass-more order a stbars ops marks i d within room all =
    let op = get_or ops i d in
    let before = take i (zip ops marks) in
    let last : Op × ℕ = (op, get_or marks i 0) in
    let seen : 0 + stbars_in before ≡ stbars_in before = omega arith in
    ap (λ cells. passes_all order (waiting 0 cells) a stbars) (cells-more ops marks i d within room) ∙ ap (λ es. passes_all order es a stbars) (waiting-push 0 before last)
    ∙ all-append-tests (passes order a stbars) (waiting 0 before) (option_to_list (entry_of (0 + stbars_in before) op (get_or marks i 0)))
    ∙ ap (λ b. b && list_all (passes order a stbars) (option_to_list (entry_of (0 + stbars_in before) op (get_or marks i 0)))) all
    ∙ ap (λ n. list_all (passes order a stbars) (option_to_list (entry_of n op (get_or marks i 0)))) seen

-- an entry among the first that isn't passed isn't passed among all
pub not-passed : (order : Order) (a stbars : ℕ) (cells : List (Op × ℕ)) (i : ℕ) → passes_all order (waiting 0 (take i cells)) a stbars ≡ false → passes_all order (waiting 0 cells) a stbars ≡ false
not-passed order a stbars cells i none =
    ap (λ es. passes_all order es a stbars) (waiting-older 0 cells i) ∙ all-append-tests (passes order a stbars) (waiting 0 (take i cells)) _
    ∙ ap (λ b. b && list_all (passes order a stbars) (waiting (0 + stbars_in (take i cells)) (drop i cells))) none

-- ---- how many STBARs there are

pub sum-more : (ops : List Op) (i : ℕ) (d : Op) → i < length ops → stbars_among (take (i + 1) ops) ≡ stbars_among (take i ops) + stbar_count (get_or ops i d)
sum-more ops i d within = ap stbars_among (take_more ops i d within) ∙ added (take i ops) (get_or ops i d)
  where
    added : (xs : List Op) (o : Op) → stbars_among (xs ++ o ∷ []) ≡ stbars_among xs + stbar_count o
    added [] o = omega arith
    added (x ∷ xs) o = omega (arith, added xs o)

pub sum-most : (ops : List Op) → stbars_among ops ≤ length ops
sum-most [] = omega arith
sum-most (op ∷ ops) = omega (arith, stbar-most op, sum-most ops)

-- marks or not
pub sum-stbars : (ops : List Op) (marks : List ℕ) → length ops ≤ length marks → stbars_in (zip ops marks) ≡ stbars_among ops
sum-stbars [] marks room = refl
sum-stbars (op ∷ ops) [] room = absurd (omega arith)
sum-stbars (op ∷ ops) (m ∷ marks) room = ap (λ n. stbar_count op + n) (sum-stbars ops marks (omega arith))
