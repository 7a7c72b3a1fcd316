-- Lemmas on the operations of a processor with their marks, and on the stores among them that wait.
use Rattle.std.proofs.Common.{◌≡◌, ◌∙◌, sym, ap, refl, ℕ, zero, suc, ◌+◌, ◌<◌, ◌≤◌, ◌==◌, cond, Option, None, Some, List, [], ◌∷◌, ◌++◌, length, set, take, drop, slice_get, arith}
use Rattle.std.specs.List.{AllByRecursion, cons_option, remove, zip}
use Rattle.std.specs.Option.{option_to_list}
use Rattle.std.proofs.lemmas.Bool.{ne_eqb}
use Rattle.std.proofs.lemmas.List.{take-append-drop}
use Rattle.tso_ops.specs.declared.ops.Op.{Op}
use Rattle.tso_ops.specs.declared.ops.Op.TheVariants.{Ld as OpLd, St as OpSt, Sw as OpSw, Mb as OpMb, Sb as OpSb}
use Rattle.unit_core.specs.Machine.{Entry}
use Rattle.final_states.specs.Internal.Words.{entry_of, outcome_with, outcomes_with, stbar_count, stbars_in, waiting}
use Rattle.final_states.specs.Internal.Stands.{CanHave}
use Rattle.final_states.proofs.Options.{single}

-- the operation at place i gets another mark
abbrev pub remarked : List (Op × ℕ) → ℕ → ℕ → List (Op × ℕ)
remarked [] i mark = []
remarked (c ∷ cells) zero mark = (c.0, mark) ∷ cells
remarked (c ∷ cells) (suc i) mark = c ∷ remarked cells i mark

pub zip-set : (ops : List Op) (marks : List ℕ) (i mark : ℕ) → zip ops (set marks i mark) ≡ remarked (zip ops marks) i mark
zip-set [] marks i mark = refl
zip-set (op ∷ ops) [] i mark = refl
zip-set (op ∷ ops) (m ∷ marks) zero mark = refl
zip-set (op ∷ ops) (m ∷ marks) (suc i) mark = ap (λ cells. (op, m) ∷ cells) (zip-set ops marks i mark)

pub zip-set-past : (ops : List Op) (marks : List ℕ) (i mark : ℕ) → length ops ≤ i → zip ops (set marks i mark) ≡ zip ops marks
zip-set-past [] marks i mark past = refl
zip-set-past (op ∷ ops) [] i mark past = refl
zip-set-past (op ∷ ops) (m ∷ marks) zero mark past = absurd (omega arith)
zip-set-past (op ∷ ops) (m ∷ marks) (suc i) mark past = ap (λ cells. (op, m) ∷ cells) (zip-set-past ops marks i mark (omega arith))

pub length-remarked : (cells : List (Op × ℕ)) (i mark : ℕ) → length (remarked cells i mark) ≡ length cells
length-remarked [] i mark = refl
length-remarked (c ∷ cells) zero mark = refl
length-remarked (c ∷ cells) (suc i) mark = ap suc (length-remarked cells i mark)

-- ---- the next operation gets its mark

pub take-next_marked : (cells : List (Op × ℕ)) (n mark : ℕ) (c : Op × ℕ) → slice_get cells n ≡ Some c → take (suc n) (remarked cells n mark) ≡ take n cells ++ (c.0, mark) ∷ []
take-next_marked [] n mark c read = absurd cc
take-next_marked (d ∷ cells) zero mark c read = let e : d ≡ c = cc in ap (λ (x : Op × ℕ). (x.0, mark) ∷ []) e
take-next_marked (d ∷ cells) (suc n) mark c read = ap (λ rest. d ∷ rest) (take-next_marked cells n mark c read)

pub drop-next_marked : (cells : List (Op × ℕ)) (n mark : ℕ) → drop (suc n) (remarked cells n mark) ≡ drop (suc n) cells
drop-next_marked [] n mark = refl
drop-next_marked (c ∷ cells) zero mark = refl
drop-next_marked (c ∷ cells) (suc n) mark = drop-next_marked cells n mark

-- ---- an operation before place n gets another mark

pub take-remarked : (cells : List (Op × ℕ)) (n i mark : ℕ) → take n (remarked cells i mark) ≡ remarked (take n cells) i mark
take-remarked [] zero i mark = refl
take-remarked [] (suc n) i mark = refl
take-remarked (c ∷ cells) zero i mark = refl
take-remarked (c ∷ cells) (suc n) zero mark = refl
take-remarked (c ∷ cells) (suc n) (suc i) mark = ap (λ rest. c ∷ rest) (take-remarked cells n i mark)

pub drop-remarked : (cells : List (Op × ℕ)) (n i mark : ℕ) → i < n → drop n (remarked cells i mark) ≡ drop n cells
drop-remarked cells zero i mark before = absurd (omega arith)
drop-remarked [] (suc n) i mark before = refl
drop-remarked (c ∷ cells) (suc n) zero mark before = refl
drop-remarked (c ∷ cells) (suc n) (suc i) mark before = drop-remarked cells n i mark (omega arith)

-- ---- lists of operations one after the other

pub stbars_in-append : (xs ys : List (Op × ℕ)) → stbars_in (xs ++ ys) ≡ stbars_in xs + stbars_in ys
stbars_in-append [] ys = omega arith
stbars_in-append (c ∷ xs) ys = omega (arith, stbars_in-append xs ys)

append-cons_option : {X : Type 0} (o : Option X) (xs ys : List X) → cons_option o xs ++ ys ≡ cons_option o (xs ++ ys)
append-cons_option None xs ys = refl
append-cons_option (Some x) xs ys = refl

pub waiting-append : (b : ℕ) (xs ys : List (Op × ℕ)) → waiting b (xs ++ ys) ≡ waiting b xs ++ waiting (b + stbars_in xs) ys
waiting-append b [] ys = ap (λ n. waiting n ys) (omega arith)
waiting-append b (c ∷ xs) ys =
    let more : b + stbar_count c.0 + stbars_in xs ≡ b + (stbar_count c.0 + stbars_in xs) = omega arith in
    ap (cons_option (entry_of b c.0 c.1)) (waiting-append (b + stbar_count c.0) xs ys ∙ ap (λ n. waiting (b + stbar_count c.0) xs ++ waiting n ys) more)
    ∙ sym (append-cons_option (entry_of b c.0 c.1) (waiting (b + stbar_count c.0) xs) (waiting (b + (stbar_count c.0 + stbars_in xs)) ys))

-- what waits after one operation more
pub waiting-push : (b : ℕ) (xs : List (Op × ℕ)) (c : Op × ℕ) → waiting b (xs ++ c ∷ []) ≡ waiting b xs ++ option_to_list (entry_of (b + stbars_in xs) c.0 c.1)
waiting-push b xs c = waiting-append b xs (c ∷ []) ∙ ap (λ more. waiting b xs ++ more) (single (entry_of (b + stbars_in xs) c.0 c.1))

-- ---- a store that goes to memory

-- an operation with an entry is a store whose mark is 0, and with mark 1 it has none
pub record IsWaiting (b : ℕ) (op : Op) (mark : ℕ) (e : Entry) : Type 0 where
  pub store : op ≡ OpSt e.a e.v
  pub unmarked : mark ≡ 0
  pub stbars : e.stbars ≡ b
  pub gone : entry_of b op 1 ≡ None
  pub same : outcome_with op 1 ≡ outcome_with op mark
  pub can : CanHave op 1
  pub no_stbar : stbar_count op ≡ 0

entry_when : (b a v mark : ℕ) (e : Entry) → cond (mark == 0) (Some (record { a = a; v = v; stbars = b })) None ≡ Some e → (mark ≡ 0) × (record { a = a; v = v; stbars = b } ≡ e)
entry_when b a v zero e is = (refl, cc)
entry_when b a v (suc mark) e is =
    let entry : Entry = record { a = a; v = v; stbars = b } in
    let other : suc mark ≡ 0 → ⊥ = λ same. absurd (omega (arith, same)) in
    let none : cond (suc mark == 0) (Some entry) None ≡ None = ap (λ t. cond t (Some entry) None) (ne_eqb (suc mark) 0 other) in
    absurd cc

pub is_waiting : (b : ℕ) (op : Op) (mark : ℕ) (e : Entry) → entry_of b op mark ≡ Some e → IsWaiting b op mark e
is_waiting b (OpSt a v) mark e is =
    let parts = entry_when b a v mark e is in
    record {
      store = ap (λ (x : Entry). OpSt x.a x.v) parts.1;
      unmarked = parts.0;
      stbars = sym (ap (λ (x : Entry). x.stbars) parts.1);
      gone = refl;
      same = refl;
      can = omega arith;
      no_stbar = refl;
    }
is_waiting b (OpLd a) mark e is = absurd cc
is_waiting b (OpSw a v) mark e is = absurd cc
is_waiting b OpMb mark e is = absurd cc
is_waiting b OpSb mark e is = absurd cc

pub stbars_in-remarked : (cells : List (Op × ℕ)) (i mark : ℕ) → stbars_in (remarked cells i mark) ≡ stbars_in cells
stbars_in-remarked [] i mark = refl
stbars_in-remarked (c ∷ cells) zero mark = refl
stbars_in-remarked (c ∷ cells) (suc i) mark = ap (λ n. stbar_count c.0 + n) (stbars_in-remarked cells i mark)

-- the store at place i goes to memory
pub record IsGone (b : ℕ) (cells : List (Op × ℕ)) (i : ℕ) (e : Entry) : Type 0 where
  pub place : ℕ
  pub older : place ≡ length (waiting b (take i cells))
  pub read : slice_get (waiting b cells) place ≡ Some e
  pub rest : waiting b (remarked cells i 1) ≡ remove (waiting b cells) place
  pub outcomes : outcomes_with (remarked cells i 1) ≡ outcomes_with cells
  pub marks : AllByRecursion (λ c. CanHave c.0 c.1) cells → AllByRecursion (λ c. CanHave c.0 c.1) (remarked cells i 1)

cons_length : {X : Type 0} (o : Option X) (xs : List X) → length (cons_option o xs) ≡ length (option_to_list o) + length xs
cons_length None xs = omega arith
cons_length (Some x) xs = omega arith

get_later : {X : Type 0} (o : Option X) (xs : List X) (k : ℕ) (n : ℕ) → n ≡ length (option_to_list o) + k → slice_get (cons_option o xs) n ≡ slice_get xs k
get_later None xs k n is = ap (slice_get xs) (omega arith)
get_later (Some x) xs k n is = ap (slice_get (x ∷ xs)) (let e : n ≡ suc k = omega arith in e)

remove_later : {X : Type 0} (o : Option X) (xs : List X) (k : ℕ) (n : ℕ) → n ≡ length (option_to_list o) + k → remove (cons_option o xs) n ≡ cons_option o (remove xs k)
remove_later None xs k n is = ap (remove xs) (omega arith)
remove_later (Some x) xs k n is = ap (remove (x ∷ xs)) (let e : n ≡ suc k = omega arith in e)

pub is_gone : (b : ℕ) (cells : List (Op × ℕ)) (i : ℕ) (c : Op × ℕ) (e : Entry) → slice_get cells i ≡ Some c → entry_of (b + stbars_in (take i cells)) c.0 c.1 ≡ Some e → IsGone b cells i e
is_gone b [] i c e read entry = absurd cc
is_gone b (d ∷ cells) zero c e read entry =
    let same : d ≡ c = cc in
    let here : entry_of b d.0 d.1 ≡ Some e = ap (λ (x : Op × ℕ). entry_of b x.0 x.1) same ∙ ap (λ n. entry_of n c.0 c.1) (omega arith) ∙ entry in
    let is = is_waiting b d.0 d.1 e here in
    record {
      place = 0;
      older = refl;
      read = ap (λ o. slice_get (cons_option o (waiting (b + stbar_count d.0) cells)) 0) here;
      rest = ap (λ o. cons_option o (waiting (b + stbar_count d.0) cells)) is.gone ∙ sym (ap (λ o. remove (cons_option o (waiting (b + stbar_count d.0) cells)) 0) here);
      outcomes = ap (λ o. o ∷ outcomes_with cells) is.same;
      marks = λ all. (is.can, all.1);
    }
is_gone b (d ∷ cells) (suc i) c e read entry =
    let own = entry_of b d.0 d.1 in
    let next = b + stbar_count d.0 in
    let later = is_gone next cells i c e read (ap (λ n. entry_of n c.0 c.1) (omega arith) ∙ entry) in
    record {
      place = length (option_to_list own) + later.place;
      older = ap (λ n. length (option_to_list own) + n) later.older ∙ sym (cons_length own (waiting next (take i cells)));
      read = get_later own (waiting next cells) later.place _ refl ∙ later.read;
      rest = ap (cons_option own) later.rest ∙ sym (remove_later own (waiting next cells) later.place _ refl);
      outcomes = ap (λ os. outcome_with d.0 d.1 ∷ os) later.outcomes;
      marks = λ all. (all.0, later.marks all.1);
    }

-- an entry of the buffer is that of a store among the operations
pub record IsEntryAt (b : ℕ) (cells : List (Op × ℕ)) (k : ℕ) (e : Entry) : Type 0 where
  pub i : ℕ
  pub cell : Op × ℕ
  pub read : slice_get cells i ≡ Some cell
  pub entry : entry_of (b + stbars_in (take i cells)) cell.0 cell.1 ≡ Some e
  pub older : k ≡ length (waiting b (take i cells))

entry_later : (b : ℕ) (d : Op × ℕ) (cells : List (Op × ℕ)) (e : Entry) (own : Option Entry) → entry_of b d.0 d.1 ≡ own → (j n : ℕ) → n ≡ length (option_to_list own) + j →
    IsEntryAt (b + stbar_count d.0) cells j e → IsEntryAt b (d ∷ cells) n e
entry_later b d cells e own is j n place found = record {
  i = suc found.i;
  cell = found.cell;
  read = found.read;
  entry = ap (λ m. entry_of m found.cell.0 found.cell.1) (omega arith) ∙ found.entry;
  older =
      place ∙ ap (λ m. length (option_to_list own) + m) found.older ∙ ap (λ o. length (option_to_list o) + length (waiting (b + stbar_count d.0) (take found.i cells))) (sym is)
      ∙ sym (cons_length (entry_of b d.0 d.1) (waiting (b + stbar_count d.0) (take found.i cells)));
}

entry_here_or_later : (b : ℕ) (d : Op × ℕ) (cells : List (Op × ℕ)) (e : Entry) →
    ((j : ℕ) → slice_get (waiting (b + stbar_count d.0) cells) j ≡ Some e → IsEntryAt (b + stbar_count d.0) cells j e) →
    (own : Option Entry) → entry_of b d.0 d.1 ≡ own → (n : ℕ) → slice_get (cons_option own (waiting (b + stbar_count d.0) cells)) n ≡ Some e → IsEntryAt b (d ∷ cells) n e
entry_here_or_later b d cells e find None is n at = entry_later b d cells e None is n n (omega arith) (find n at)
entry_here_or_later b d cells e find (Some f) is zero at =
    let same : f ≡ e = cc in
    record { i = 0; cell = d; read = refl; entry = ap (λ m. entry_of m d.0 d.1) (omega arith) ∙ is ∙ ap Some same; older = refl }
entry_here_or_later b d cells e find (Some f) is (suc n) at = entry_later b d cells e (Some f) is n (suc n) (omega arith) (find n at)

pub entry_at : (b : ℕ) (cells : List (Op × ℕ)) (k : ℕ) (e : Entry) → slice_get (waiting b cells) k ≡ Some e → IsEntryAt b cells k e
entry_at b [] k e read = absurd cc
entry_at b (d ∷ cells) k e read =
    entry_here_or_later b d cells e (λ j at. entry_at (b + stbar_count d.0) cells j e at) (entry_of b d.0 d.1) refl k read

-- the buffer begins with the older entries
pub waiting-older : (b : ℕ) (cells : List (Op × ℕ)) (i : ℕ) → waiting b cells ≡ waiting b (take i cells) ++ waiting (b + stbars_in (take i cells)) (drop i cells)
waiting-older b cells i = ap (waiting b) (sym (take-append-drop i cells)) ∙ waiting-append b (take i cells) (drop i cells)
