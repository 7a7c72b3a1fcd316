-- Lemmas on the words of a stream and on the operations that they draw.
use Rattle.std.proofs.Common.{◌≡◌, ◌∙◌, sym, ap, refl, ℕ, zero, suc, ◌+◌, ◌*◌, ◌<◌, ◌≤◌, ◌^◌, cond, List, [], ◌∷◌, ◌++◌, length, map, take, get_or, arith, append_assoc, zero-add, suc-add, add-one}
use Rattle.std.specs.List.{count_by, flat_map, range_with_len}
use Rattle.std.proofs.Math.Nat.{mul-le-mul_left, zero-mul, suc-mul}
use Rattle.std.proofs.lemmas.List.{append-nil}
use Rattle.std.proofs.lemmas.List.Concat.{flat_map-append}
use Rattle.std.proofs.lemmas.List.FromFn.{map-range_with_len_more}
use Rattle.std.proofs.lemmas.List.Sums.{sum_by-append, count_by-le-length}
use Rattle.rand_core.specs.Stream.{Stream, next_u64}
use Rattle.tso_ops.specs.declared.ops.Op.{Op}
use Rattle.tso_ops.specs.declared.settings.Order.{Order}
use Rattle.tso_ops.specs.Settings.{setting_of_order}
use Rattle.tso_ops.specs.Values.{program_of_lists}
use Rattle.drawn_programs.specs.Making.{ShapeValue, IsShape, size_of, words_of, after_words, makes_store, made_op, op_at_word, made_program_with_order}
use Rattle.drawn_programs.specs.Internal.MadeOps.{writes_of, next_op, next_ops, ops_of_processor}

-- ---- words

pub after_words-none : (s : Stream) → after_words 0 s ≡ s
unfolding after_words
after_words-none s = refl

pub after_words-add : (n k : ℕ) (s : Stream) → after_words (n + k) s ≡ after_words k (after_words n s)
unfolding after_words
after_words-add zero k s = rw zero-add refl
after_words-add (suc n) k s = rw suc-add (after_words-add n k (next_u64 s).1)

pub after_words-more : (n : ℕ) (s : Stream) → after_words (n + 1) s ≡ (next_u64 (after_words n s)).1
unfolding after_words
after_words-more n s = after_words-add n 1 s

words_of-add : (n k : ℕ) (s : Stream) → words_of (n + k) s ≡ words_of n s ++ words_of k (after_words n s)
unfolding words_of after_words
words_of-add zero k s = rw zero-add refl
words_of-add (suc n) k s = rw suc-add (ap (λ rest. (next_u64 s).0 ∷ rest) (words_of-add n k (next_u64 s).1))

length-words_of : (n : ℕ) (s : Stream) → length (words_of n s) ≡ n
unfolding words_of
length-words_of zero s = refl
length-words_of (suc n) s = ap suc (length-words_of n (next_u64 s).1)

take-words_of : (i n : ℕ) (s : Stream) → i ≤ n → take i (words_of n s) ≡ words_of i s
unfolding words_of
take-words_of zero n s within = refl
take-words_of (suc i) zero s within = absurd (omega arith)
take-words_of (suc i) (suc n) s within = ap (λ rest. (next_u64 s).0 ∷ rest) (take-words_of i n (next_u64 s).1 (omega arith))

get_or-words_of : (i n : ℕ) (s : Stream) → i < n → get_or (words_of n s) i 0 ≡ (next_u64 (after_words i s)).0
unfolding words_of after_words
get_or-words_of i zero s within = absurd (omega arith)
get_or-words_of zero (suc n) s within = refl
get_or-words_of (suc i) (suc n) s within = get_or-words_of i n (next_u64 s).1 (omega arith)

-- ---- how many words draw a store or a swap

pub writes_of-none : (s : Stream) → writes_of 0 s ≡ 0
unfolding words_of
writes_of-none s = refl

writes_of-add : (n k : ℕ) (s : Stream) → writes_of (n + k) s ≡ writes_of n s + writes_of k (after_words n s)
writes_of-add n k s = ap (count_by makes_store) (words_of-add n k s) ∙ sum_by-append (λ w. cond (makes_store w) 1 0) (words_of n s) (words_of k (after_words n s))

writes_of-one : (s : Stream) → writes_of 1 s ≡ cond (makes_store (next_u64 s).0) 1 0
unfolding words_of
writes_of-one s = zero-add (cond (makes_store (next_u64 s).0) 1 0)

pub writes_of-more : (n : ℕ) (s : Stream) → writes_of (n + 1) s ≡ writes_of n s + cond (makes_store (next_u64 (after_words n s)).0) 1 0
writes_of-more n s = writes_of-add n 1 s ∙ ap (λ k. writes_of n s + k) (writes_of-one (after_words n s))

pub writes_of-le : (n : ℕ) (s : Stream) → writes_of n s ≤ n
writes_of-le n s = omega (arith, count_by-le-length makes_store (words_of n s), length-words_of n s)

-- ---- the operations that they draw

pub next_ops-more : (order : Order) (addresses last : ℕ) (s : Stream) (n : ℕ) → next_ops order addresses last s (n + 1) ≡ next_ops order addresses last s n ++ next_op order addresses last s n ∷ []
next_ops-more order addresses last s n = map-range_with_len_more (next_op order addresses last s) 0 n n (omega arith)

-- one more operation, drawn from the word that comes next
pub next_ops-next : (order : Order) (addresses last now : ℕ) (s rest : Stream) (n : ℕ) (ops : List Op) (op : Op) → ops ≡ next_ops order addresses last s n → rest ≡ after_words n s →
    now ≡ last + writes_of n s → op ≡ made_op order addresses (now + 1) (next_u64 rest).0 → ops ++ op ∷ [] ≡ next_ops order addresses last s (n + 1)
next_ops-next order addresses last now s rest n ops op ops_are before same op_is =
    let first = next_ops order addresses last s n in
    ap (λ more. more ++ op ∷ []) ops_are
    ∙ ap (λ o. first ++ o ∷ [])
    (op_is ∙ ap (λ v. made_op order addresses (v + 1) (next_u64 rest).0) same ∙ ap (λ t. made_op order addresses (last + writes_of n s + 1) (next_u64 t).0) before)
    ∙ sym (next_ops-more order addresses last s n)

-- word n + k is word k of those after the first n
next_op-add : (order : Order) (addresses last : ℕ) (s : Stream) (n k : ℕ) → next_op order addresses last s (n + k) ≡ next_op order addresses (last + writes_of n s) (after_words n s) k
next_op-add order addresses last s n k =
    let value : last + writes_of (n + k) s + 1 ≡ last + writes_of n s + writes_of k (after_words n s) + 1 = omega (arith, writes_of-add n k s) in
    rw (value, after_words-add n k s) refl

next_ops-add : (order : Order) (addresses last : ℕ) (s : Stream) (n k : ℕ) →
    next_ops order addresses last s (n + k) ≡ next_ops order addresses last s n ++ next_ops order addresses (last + writes_of n s) (after_words n s) k
next_ops-add order addresses last s n zero =
    let whole : n + 0 ≡ n = omega arith in
    ap (next_ops order addresses last s) whole ∙ sym (append-nil (next_ops order addresses last s n))
next_ops-add order addresses last s n (suc k) =
    let first = next_ops order addresses last s n in
    let rest = after_words n s in
    let from = last + writes_of n s in
    let one_more : n + suc k ≡ (n + k) + 1 = omega arith in
    ap (next_ops order addresses last s) one_more ∙ next_ops-more order addresses last s (n + k)
    ∙ ap (λ ops. ops ++ next_op order addresses last s (n + k) ∷ []) (next_ops-add order addresses last s n k)
    ∙ append_assoc first (next_ops order addresses from rest k) (next_op order addresses last s (n + k) ∷ [])
    ∙ ap (λ op. first ++ (next_ops order addresses from rest k ++ op ∷ [])) (next_op-add order addresses last s n k)
    ∙ ap (λ ops. first ++ ops) (sym (next_ops-more order addresses from rest k) ∙ ap (next_ops order addresses from rest) (add-one k))

-- the processors' operations, one list after another
pub ops_of_processors : (order : Order) (shape : ShapeValue) (s : Stream) (n : ℕ) →
    flat_map (λ ops. ops) (map (ops_of_processor order shape s) (range_with_len 0 n)) ≡ next_ops order shape.addresses 0 s (n * shape.operations)
ops_of_processors order shape s zero = rw zero-mul refl
ops_of_processors order shape s (suc n) =
    let addresses = shape.addresses in
    let i = n * shape.operations in
    let before = map (ops_of_processor order shape s) (range_with_len 0 n) in
    let last = ops_of_processor order shape s n in
    let from : writes_of i s ≡ 0 + writes_of i s = omega arith in
    ap (λ m. flat_map (λ ops. ops) (map (ops_of_processor order shape s) (range_with_len 0 m))) (sym (add-one n))
    ∙ ap (flat_map (λ ops. ops)) (map-range_with_len_more (ops_of_processor order shape s) 0 n n (omega arith))
    ∙ flat_map-append (λ ops. ops) before (last ∷ [])
    ∙ ap (λ ops. flat_map (λ ops. ops) before ++ ops) (append-nil last)
    ∙ ap (λ ops. ops ++ last) (ops_of_processors order shape s n)
    ∙ ap (λ v. next_ops order addresses 0 s i ++ next_ops order addresses v (after_words i s) shape.operations) from
    ∙ sym (next_ops-add order addresses 0 s i shape.operations)
    ∙ ap (next_ops order addresses 0 s) (sym (suc-mul n shape.operations))

-- ---- the processors that were drawn

-- the number of words of one processor more
words_of_processors : (shape : ShapeValue) (n : ℕ) → (n + 1) * shape.operations ≡ n * shape.operations + shape.operations
words_of_processors shape n = omega arith

pub after_processors-more : (shape : ShapeValue) (s rest : Stream) (n : ℕ) → rest ≡ after_words (n * shape.operations) s →
    after_words shape.operations rest ≡ after_words ((n + 1) * shape.operations) s
after_processors-more shape s rest n before =
    ap (after_words shape.operations) before ∙ sym (after_words-add (n * shape.operations) shape.operations s) ∙ ap (λ i. after_words i s) (sym (words_of_processors shape n))

pub writes_of_processors-more : (shape : ShapeValue) (s rest : Stream) (n last : ℕ) → rest ≡ after_words (n * shape.operations) s → last ≡ writes_of (n * shape.operations) s →
    last + writes_of shape.operations rest ≡ writes_of ((n + 1) * shape.operations) s
writes_of_processors-more shape s rest n last before same =
    ap (λ v. v + writes_of shape.operations rest) same ∙ ap (λ t. writes_of (n * shape.operations) s + writes_of shape.operations t) before
    ∙ sym (writes_of-add (n * shape.operations) shape.operations s) ∙ ap (λ i. writes_of i s) (sym (words_of_processors shape n))

pub processors-more : (order : Order) (shape : ShapeValue) (s rest : Stream) (n last : ℕ) (lists : List (List Op)) (ops : List Op) → rest ≡ after_words (n * shape.operations) s →
    last ≡ writes_of (n * shape.operations) s → lists ≡ map (ops_of_processor order shape s) (range_with_len 0 n) → ops ≡ next_ops order shape.addresses last rest shape.operations →
    lists ++ ops ∷ [] ≡ map (ops_of_processor order shape s) (range_with_len 0 (n + 1))
processors-more order shape s rest n last lists ops before same lists_are ops_are =
    ap (λ more. more ++ ops ∷ []) lists_are
    ∙ ap (λ row. map (ops_of_processor order shape s) (range_with_len 0 n) ++ row ∷ [])
    (ops_are ∙ ap (λ v. next_ops order shape.addresses v rest shape.operations) same ∙ ap (λ t. next_ops order shape.addresses (writes_of (n * shape.operations) s) t shape.operations) before)
    ∙ sym (map-range_with_len_more (ops_of_processor order shape s) 0 n n (omega arith))

-- no value that is drawn is past 64 bits
pub last_value_fits : (shape : ShapeValue) (s : Stream) (n last : ℕ) → IsShape shape → n < shape.processors → last ≡ writes_of (n * shape.operations) s →
    last + shape.operations < 2 ^ 64
last_value_fits shape s n last is within same =
    let room : shape.operations * suc n ≤ shape.operations * shape.processors = mul-le-mul_left shape.operations (omega arith) in
    omega (arith, same, writes_of-le (n * shape.operations) s, room, is.operations)

-- ---- the program of the words

-- two functions that agree on some numbers in a row
map-range_same : {X : Type 0} (f g : ℕ → X) (a n : ℕ) → ((k : ℕ) → k < a + n → f k ≡ g k) → map f (range_with_len a n) ≡ map g (range_with_len a n)
map-range_same f g a zero same = refl
map-range_same f g a (suc n) same =
    ap (λ x. x ∷ map f (range_with_len (a + 1) n)) (same a (omega arith)) ∙ ap (λ rest. g a ∷ rest) (map-range_same f g (a + 1) n (λ k within. same k (omega arith)))

-- operation k of processor p
op_of_processor : (order : Order) (shape : ShapeValue) (s : Stream) (p k : ℕ) → p < shape.processors → k < shape.operations →
    op_at_word order shape (words_of (size_of shape) s) (p * shape.operations + k) ≡ next_op order shape.addresses (writes_of (p * shape.operations) s) (after_words (p * shape.operations) s) k
op_of_processor order shape s p k has_p has_k =
    let i = p * shape.operations in
    let room : shape.operations * suc p ≤ shape.operations * shape.processors = mul-le-mul_left shape.operations (omega arith) in
    let within : i + k < size_of shape = omega (arith, room) in
    let value : count_by makes_store (take (i + k) (words_of (size_of shape) s)) + 1 ≡ writes_of i s + writes_of k (after_words i s) + 1 =
    ap (λ words. count_by makes_store words + 1) (take-words_of (i + k) (size_of shape) s (omega (arith, within))) ∙ ap (λ n. n + 1) (writes_of-add i k s) in
    let word : get_or (words_of (size_of shape) s) (i + k) 0 ≡ (next_u64 (after_words k (after_words i s))).0 =
    get_or-words_of (i + k) (size_of shape) s within ∙ ap (λ t. (next_u64 t).0) (after_words-add i k s) in
    ap (λ v. made_op order shape.addresses v (get_or (words_of (size_of shape) s) (i + k) 0)) value
    ∙ ap (made_op order shape.addresses (writes_of i s + writes_of k (after_words i s) + 1)) word

pub made_program-is : (order : Order) (shape : ShapeValue) (s : Stream) →
    program_of_lists (setting_of_order order) (map (ops_of_processor order shape s) (range_with_len 0 shape.processors)) ≡ made_program_with_order order shape (words_of (size_of shape) s)
unfolding made_program_with_order
made_program-is order shape s =
    ap (program_of_lists (setting_of_order order)) (sym (map-range_same _ (ops_of_processor order shape s) 0 shape.processors
    (λ p has_p. map-range_same _ _ 0 shape.operations (λ k has_k. op_of_processor order shape s p k (omega arith) (omega arith)))))
