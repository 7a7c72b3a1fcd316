-- Words and states of runs stand for each other one to one.
use Rattle.std.proofs.Common.{◌≡◌, ◌∙◌, sym, ap, refl, subst, ℕ, zero, suc, ◌+◌, ◌<◌, ◌≤◌, nat_eq, false, Some, List, [], ◌∷◌, ◌++◌, length, get_or, take, drop, slice_get, slice_index, arith}
use Rattle.std.specs.List.{AllByRecursion, IsDistinct, cons_option, flat_map, zip}
use Rattle.std.specs.Option.{option_map_or}
use Rattle.std.proofs.lemmas.Bool.{eqb-false}
use Rattle.std.proofs.lemmas.List.{ext_get_or, get_or-drop, length-drop, drop-drop, take-append-drop}
use Rattle.tso_ops.specs.declared.ops.Op.{Op}
use Rattle.tso_ops.specs.declared.ops.Op.TheVariants.{Ld as OpLd, St as OpSt, Sw as OpSw, Mb as OpMb, Sb as OpSb}
use Rattle.tso_ops.specs.declared.ops.Outcome.{Outcome}
use Rattle.tso_ops.specs.Limits.{IsProgram, stored_values}
use Rattle.tso_ops.specs.Settings.{first_value}
use Rattle.tso_ops.specs.Values.{ProgramValue, in_file_order, ops_at}
use Rattle.unit_core.specs.Machine.{Entry, State, buffer_of, stbars_of}
use Rattle.final_states.specs.Internal.Stands.{CanHave, HasPlaces, IsRow, Represents}
use Rattle.final_states.specs.Internal.Words.{entry_of, issued_by, marked_ops, memory_start, outcome_with, outcomes_with, start_of, stbar_count, value_in, waiting}
use Rattle.final_states.proofs.ReachedStates.{answered-count}
use Rattle.final_states.proofs.Rows.{entry_at, is_waiting}
use Rattle.final_states.proofs.WordPlaces.{memory_after}

-- ---- the marks of one processor

-- no operation stores the value
abbrev pub StoresNone : ℕ → List Op → Type 0
StoresNone v ops = AllByRecursion (λ op. (a : ℕ) → op ≡ OpSt a v → ⊥) ops

-- no store after this operation has its value
abbrev pub HasOwnValue : Op → List Op → Type 0
HasOwnValue (OpSt a v) ops = StoresNone v ops
HasOwnValue _ ops = Unit {0}

-- each store has a value of its own
abbrev pub HaveOwnValues : List Op → Type 0
HaveOwnValues [] = Unit {0}
HaveOwnValues (op ∷ ops) = HasOwnValue op ops × HaveOwnValues ops

none-stores : (v b : ℕ) (ops : List Op) (marks : List ℕ) (n j : ℕ) (e : Entry) → StoresNone v ops → slice_get (waiting b (take n (zip ops marks))) j ≡ Some e → e.v ≡ v → ⊥
none-stores v b ops marks n j e none read same =
    let at = entry_at b (take n (zip ops marks)) j e read in
    let store = (is_waiting _ at.cell.0 at.cell.1 e at.entry).store in
    found ops marks n at.i at.cell none at.read e.a (store ∙ ap (OpSt e.a) same)
  where
    found : (os : List Op) (ms : List ℕ) (k i : ℕ) (c : Op × ℕ) → StoresNone v os → slice_get (take k (zip os ms)) i ≡ Some c → (a : ℕ) → c.0 ≡ OpSt a v → ⊥
    found os ms zero i c all at a is = absurd cc
    found [] ms (suc k) i c all at a is = absurd cc
    found (o ∷ os) [] (suc k) i c all at a is = absurd cc
    found (o ∷ os) (m ∷ ms) (suc k) zero c all at a is =
        let first : Op × ℕ = (o, m) in
        let e : first ≡ c = cc in
        all.0 a (ap (λ (x : Op × ℕ). x.0) e ∙ is)
    found (o ∷ os) (m ∷ ms) (suc k) (suc i) c all at a is = found os ms k i c all.1 at a is

-- two marks of one operation, with the same answer and the same entries
same_mark : (op : Op) (one two b n : ℕ) (ops : List Op) (ones twos : List ℕ) → HasOwnValue op ops → CanHave op one → CanHave op two → outcome_with op one ≡ outcome_with op two →
    cons_option (entry_of b op one) (waiting (b + stbar_count op) (take n (zip ops ones))) ≡ cons_option (entry_of b op two) (waiting (b + stbar_count op) (take n (zip ops twos))) →
    (one ≡ two) × (waiting (b + stbar_count op) (take n (zip ops ones)) ≡ waiting (b + stbar_count op) (take n (zip ops twos)))
same_mark (OpLd a) one two b n ops ones twos own can_one can_two told waits = (cc, waits)
same_mark (OpSw a v) one two b n ops ones twos own can_one can_two told waits = (cc, waits)
same_mark OpMb one two b n ops ones twos own can_one can_two told waits = (can_one ∙ sym can_two, waits)
same_mark OpSb one two b n ops ones twos own can_one can_two told waits = (can_one ∙ sym can_two, waits)
same_mark (OpSt a v) zero zero b n ops ones twos own can_one can_two told waits = (refl, cc)
same_mark (OpSt a v) (suc zero) (suc zero) b n ops ones twos own can_one can_two told waits = (refl, waits)
same_mark (OpSt a v) zero (suc zero) b n ops ones twos own can_one can_two told waits =
    let e : Entry = record { a = a; v = v; stbars = b } in
    absurd (none-stores v (b + 0) ops twos n 0 e own (ap (λ es. slice_get es 0) (sym waits)) refl)
same_mark (OpSt a v) (suc zero) zero b n ops ones twos own can_one can_two told waits =
    let e : Entry = record { a = a; v = v; stbars = b } in
    absurd (none-stores v (b + 0) ops ones n 0 e own (ap (λ es. slice_get es 0) waits) refl)
same_mark (OpSt a v) (suc (suc one)) two b n ops ones twos own can_one can_two told waits = absurd (omega (arith, can_one))
same_mark (OpSt a v) zero (suc (suc two)) b n ops ones twos own can_one can_two told waits = absurd (omega (arith, can_two))
same_mark (OpSt a v) (suc zero) (suc (suc two)) b n ops ones twos own can_one can_two told waits = absurd (omega (arith, can_two))

all-zero : (ops : List Op) (ones twos : List ℕ) → length ops ≤ length ones → length ops ≤ length twos → AllByRecursion (λ (c : Op × ℕ). c.1 ≡ 0) (zip ops ones) → AllByRecursion (λ (c : Op × ℕ). c.1 ≡ 0) (zip ops twos) →
    zip ops ones ≡ zip ops twos
all-zero [] ones twos room_one room_two first second = refl
all-zero (op ∷ ops) [] twos room_one room_two first second = absurd (omega arith)
all-zero (op ∷ ops) (one ∷ ones) [] room_one room_two first second = absurd (omega arith)
all-zero (op ∷ ops) (one ∷ ones) (two ∷ twos) room_one room_two first second =
    let head : one ≡ two = first.0 ∙ sym second.0 in
    ap (λ m. (op, m) ∷ zip ops ones) head ∙ ap (λ cells. (op, two) ∷ cells) (all-zero ops ones twos (omega arith) (omega arith) first.1 second.1)

same_marks : (ops : List Op) (ones twos : List ℕ) (n b : ℕ) → HaveOwnValues ops → length ops ≤ length ones → length ops ≤ length twos →
    AllByRecursion (λ (c : Op × ℕ). CanHave c.0 c.1) (take n (zip ops ones)) → AllByRecursion (λ (c : Op × ℕ). CanHave c.0 c.1) (take n (zip ops twos)) →
    AllByRecursion (λ (c : Op × ℕ). c.1 ≡ 0) (drop n (zip ops ones)) → AllByRecursion (λ (c : Op × ℕ). c.1 ≡ 0) (drop n (zip ops twos)) →
    outcomes_with (take n (zip ops ones)) ≡ outcomes_with (take n (zip ops twos)) → waiting b (take n (zip ops ones)) ≡ waiting b (take n (zip ops twos)) → zip ops ones ≡ zip ops twos
same_marks ops ones twos zero b own room_one room_two can_one can_two left_one left_two told waits = all-zero ops ones twos room_one room_two left_one left_two
same_marks [] ones twos (suc n) b own room_one room_two can_one can_two left_one left_two told waits = refl
same_marks (op ∷ ops) [] twos (suc n) b own room_one room_two can_one can_two left_one left_two told waits = absurd (omega arith)
same_marks (op ∷ ops) (one ∷ ones) [] (suc n) b own room_one room_two can_one can_two left_one left_two told waits = absurd (omega arith)
same_marks (op ∷ ops) (one ∷ ones) (two ∷ twos) (suc n) b own room_one room_two can_one can_two left_one left_two told waits =
    let head : outcome_with op one ≡ outcome_with op two = cc in
    let tail : outcomes_with (take n (zip ops ones)) ≡ outcomes_with (take n (zip ops twos)) = cc in
    let same = same_mark op one two b n ops ones twos own.0 can_one.0 can_two.0 head waits in
    ap (λ m. (op, m) ∷ zip ops ones) same.0
    ∙ ap (λ cells. (op, two) ∷ cells) (same_marks ops ones twos n (b + stbar_count op) own.1 (omega arith) (omega arith) can_one.1 can_two.1 left_one left_two tail same.1)

-- ---- the values of a program's stores

distinct-tail : (v : ℕ) (vs : List ℕ) → IsDistinct nat_eq (v ∷ vs) → AllByRecursion (λ w. nat_eq v w ≡ false) vs × IsDistinct nat_eq vs
unfolding IsDistinct
distinct-tail v vs distinct = distinct

stores-none : (v : ℕ) (ops : List Op) → AllByRecursion (λ w. nat_eq v w ≡ false) (stored_values ops) → StoresNone v ops
stores-none v [] apart = tt
stores-none v (OpLd b ∷ ops) apart = ((λ a is. absurd cc), stores-none v ops apart)
stores-none v (OpSt b w ∷ ops) apart = ((λ a is. let same : w ≡ v = cc in eqb-false v w apart.0 (sym same)), stores-none v ops apart.1)
stores-none v (OpSw b w ∷ ops) apart = ((λ a is. absurd cc), stores-none v ops apart.1)
stores-none v (OpMb ∷ ops) apart = ((λ a is. absurd cc), stores-none v ops apart)
stores-none v (OpSb ∷ ops) apart = ((λ a is. absurd cc), stores-none v ops apart)

own-values : (ops : List Op) → IsDistinct nat_eq (stored_values ops) → HaveOwnValues ops
own-values [] distinct = tt
own-values (OpLd a ∷ ops) distinct = (tt, own-values ops distinct)
own-values (OpSt a v ∷ ops) distinct = let parts = distinct-tail v (stored_values ops) distinct in (stores-none v ops parts.0, own-values ops parts.1)
own-values (OpSw a v ∷ ops) distinct = let parts = distinct-tail v (stored_values ops) distinct in (tt, own-values ops parts.1)
own-values (OpMb ∷ ops) distinct = (tt, own-values ops distinct)
own-values (OpSb ∷ ops) distinct = (tt, own-values ops distinct)

none-left : (v : ℕ) (xs ys : List Op) → StoresNone v (xs ++ ys) → StoresNone v xs
none-left v [] ys none = tt
none-left v (x ∷ xs) ys none = (none.0, none-left v xs ys none.1)

own-left : (xs ys : List Op) → HaveOwnValues (xs ++ ys) → HaveOwnValues xs
own-left [] ys own = tt
own-left (OpLd a ∷ xs) ys own = (tt, own-left xs ys own.1)
own-left (OpSt a v ∷ xs) ys own = (none-left v xs ys own.0, own-left xs ys own.1)
own-left (OpSw a v ∷ xs) ys own = (tt, own-left xs ys own.1)
own-left (OpMb ∷ xs) ys own = (tt, own-left xs ys own.1)
own-left (OpSb ∷ xs) ys own = (tt, own-left xs ys own.1)

own-right : (xs ys : List Op) → HaveOwnValues (xs ++ ys) → HaveOwnValues ys
own-right [] ys own = own
own-right (x ∷ xs) ys own = own-right xs ys own.1

own-row : (lists : List (List Op)) (p : ℕ) → HaveOwnValues (flat_map (λ ops. ops) lists) → HaveOwnValues (get_or lists p [])
own-row [] p own = tt
own-row (ops ∷ lists) zero own = own-left ops (flat_map (λ os. os) lists) own
own-row (ops ∷ lists) (suc p) own = own-row lists p (own-right ops (flat_map (λ os. os) lists) own)

-- ---- words that stand for one state

taken-same : (ops : List Op) (xs ys : List ℕ) → length ops ≤ length xs → length ops ≤ length ys → zip ops xs ≡ zip ops ys → take (length ops) xs ≡ take (length ops) ys
taken-same [] xs ys room_x room_y same = refl
taken-same (op ∷ ops) [] ys room_x room_y same = absurd (omega arith)
taken-same (op ∷ ops) (x ∷ xs) [] room_x room_y same = absurd (omega arith)
taken-same (op ∷ ops) (x ∷ xs) (y ∷ ys) room_x room_y same =
    let first : Op × ℕ = (op, x) in
    let second : Op × ℕ = (op, y) in
    let heads : first ≡ second = cc in
    let head : x ≡ y = ap (λ (c : Op × ℕ). c.1) heads in
    let tail : zip ops xs ≡ zip ops ys = cc in
    ap (λ z. z ∷ take (length ops) xs) head ∙ ap (λ zs. y ∷ zs) (taken-same ops xs ys (omega arith) (omega arith) tail)

-- lists with the same rows and the same rest are the same
rows-same : (lists : List (List Op)) (xs ys : List ℕ) → length xs ≡ length ys → start_of lists (length lists) ≤ length xs →
    ((p : ℕ) → p < length lists → (get_or xs (start_of lists p) 0 ≡ get_or ys (start_of lists p) 0) × (zip (get_or lists p []) (drop (suc (start_of lists p)) xs) ≡ zip (get_or lists p []) (drop (suc (start_of lists p)) ys))) →
    drop (start_of lists (length lists)) xs ≡ drop (start_of lists (length lists)) ys → xs ≡ ys
rows-same [] xs ys lengths room rows rest = rest
rows-same (ops ∷ lists) [] ys lengths room rows rest = absurd (omega arith)
rows-same (ops ∷ lists) (x ∷ xs) [] lengths room rows rest = absurd (omega (arith, lengths))
rows-same (ops ∷ lists) (x ∷ xs) (y ∷ ys) lengths room rows rest =
    let k = length ops in
    let head : x ≡ y = (rows 0 (omega arith)).0 in
    let front : take k xs ≡ take k ys = taken-same ops xs ys (omega (arith, room)) (omega (arith, room, lengths)) (rows 0 (omega arith)).1 in
    let later : drop k xs ≡ drop k ys =
    rows-same lists (drop k xs) (drop k ys) (omega (arith, length-drop k xs, length-drop k ys, lengths)) (omega (arith, length-drop k xs, room))
    (λ p small.
    let there = rows (suc p) (omega (arith, small)) in
    let n = start_of lists p in
    let at : (zs : List ℕ) (z : ℕ) → get_or (drop k zs) n 0 ≡ get_or (z ∷ zs) (suc k + n) 0 = λ zs z. get_or-drop k zs n 0 ∙ ap (λ i. get_or (z ∷ zs) i 0) (let e : suc (k + n) ≡ suc k + n = omega arith in e) in
    let from : (zs : List ℕ) (z : ℕ) → drop (suc n) (drop k zs) ≡ drop (suc (suc k + n)) (z ∷ zs) = λ zs z. drop-drop (suc n) k zs ∙ ap (λ i. drop i (z ∷ zs)) (let e : suc (k + suc n) ≡ suc (suc k + n) = omega arith in e) in
    (at xs x ∙ there.0 ∙ sym (at ys y), ap (zip (get_or lists p [])) (from xs x) ∙ there.1 ∙ sym (ap (zip (get_or lists p [])) (from ys y))))
    (let n = start_of lists (length lists) in
    let from : (zs : List ℕ) (z : ℕ) → drop n (drop k zs) ≡ drop (suc k + n) (z ∷ zs) = λ zs z. drop-drop n k zs ∙ ap (λ i. drop i (z ∷ zs)) (let e : suc (k + n) ≡ suc k + n = omega arith in e) in
    from xs x ∙ rest ∙ sym (from ys y)) in
    ap (λ z. z ∷ xs) head ∙ ap (λ zs. y ∷ zs) (sym (take-append-drop k xs) ∙ ap (λ zs. zs ++ drop k xs) front ∙ ap (λ zs. take k ys ++ zs) later ∙ take-append-drop k ys)

module _ (program : ProgramValue) (addresses : List ℕ) (limits : IsProgram program) (places : HasPlaces program addresses) where
  -- what memory has at a place
  pub value-at : (words : List ℕ) (slot : ℕ) → slot < length addresses → value_in program addresses words (slice_index addresses slot) ≡ slice_index words (memory_start program + slot)
  value-at words slot within = ap (λ o. option_map_or (λ k. slice_index words (memory_start program + k)) o (first_value program.setting.first (slice_index addresses slot))) (places.placed slot within).0

  -- two lists of words that stand for one state are the same
  pub same-words : (one two : List ℕ) (s : State) (answered : ℕ → List Outcome) → Represents program addresses one s answered → Represents program addresses two s answered → one ≡ two
  same-words one two s answered first second =
      rows-same program.lists one two (first.width ∙ sym second.width) (omega (arith, first.width))
      (λ p small.
      let row = first.rows p small in
      let other = second.rows p small in
      let count : issued_by program one p ≡ issued_by program two p =
      sym (answered-count program addresses one s answered first p small) ∙ answered-count program addresses two s answered second p small in
      let n = issued_by program one p in
      let P : ℕ → Type 0 = λ k. IsRow (marked_ops program two p) k (buffer_of s p) (stbars_of s p) (answered p) in
      let same = subst P (sym count) other in
      let ops = ops_at program p in
      let start = suc (start_of program.lists p) in
      let after = memory_after program p small in (
        count,
        same_marks ops (drop start one) (drop start two) n 0 (own-row program.lists p (own-values (in_file_order program) limits.limits.distinct))
            (omega (arith, length-drop start one, first.width, after)) (omega (arith, length-drop start two, second.width, after)) row.marks same.marks row.unissued same.unissued
            (sym row.told ∙ same.told) (sym row.waits ∙ same.waits),
      ))
      (ext_get_or 0 (drop (memory_start program) one) (drop (memory_start program) two)
      (omega (arith, length-drop (memory_start program) one, length-drop (memory_start program) two, first.width, second.width))
      (λ slot within.
      let small : slot < length addresses = omega (arith, length-drop (memory_start program) one, first.width, within) in
      let range = (places.placed slot small).1 in
      get_or-drop (memory_start program) one slot 0 ∙ sym (value-at one slot small) ∙ sym (first.memory _ range) ∙ second.memory _ range ∙ value-at two slot small
      ∙ sym (get_or-drop (memory_start program) two slot 0)))
