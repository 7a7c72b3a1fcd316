-- Lemmas on what the functions that make moves read and write.
use Rattle.std.proofs.Common.{◌≡◌, ◌∙◌, sym, ap, refl, ℕ, zero, suc, ◌+◌, ◌-◌, ◌<◌, ◌≤◌, ◌==◌, cond, Bool, true, Option, None, Some, List, [], ◌∷◌, ◌++◌, length, get_or, take, drop, set, slice_get, slice_index, arith}
use Rattle.std.specs.Global.{Vec}
use Rattle.std.specs.List.{cons_option, filter_map, flat_map, range_with_len, zip}
use Rattle.std.specs.Option.{option_and_then, option_map, option_map_or, option_to_list}
use Rattle.std.proofs.lemmas.Bool.{ne_eqb}
use Rattle.std.proofs.lemmas.Option.{slice_get-get_or}
use Rattle.std.proofs.lemmas.List.{append-nil, append_assoc, get_or-take, length-drop, length-take, map-append, take-take}
use Rattle.std.proofs.lemmas.List.Concat.{flat_map-append}
use Rattle.std.proofs.lemmas.List.Elements.{filter_map-append}
use Rattle.std.proofs.lemmas.List.FromFn.{get_or-map-range_with_len, length-map-range_with_len}
use Rattle.tso_ops.specs.declared.ops.Op.{Op}
use Rattle.tso_ops.specs.declared.ops.Op.TheVariants.{Ld as OpLd, St as OpSt, Sw as OpSw, Mb as OpMb, Sb as OpSb}
use Rattle.tso_ops.specs.declared.settings.Order.{Order}
use Rattle.tso_ops.specs.Limits.{address_of}
use Rattle.tso_ops.specs.Settings.{first_value}
use Rattle.tso_ops.specs.Values.{ProgramValue, list_count, ops_at, rows}
use Rattle.unit_core.specs.Machine.{Entry}
use Rattle.final_states.specs.declared.plans.Plan.{Plan}
use Rattle.final_states.specs.Internal.Plans.{AreSlots, HaveWidth, IsPlanOf}
use Rattle.final_states.specs.Internal.Words.{after_drain, after_issue, all_drained, buffer_in, drained, entry_of, issued, issued_by, issued_ops, mark_for, marked_ops, may_issue, memory_start, passes_all, slot_of, start_of, stbars_among, stbars_in, value_in, waiting, with_issued, with_swapped, with_value}
use Rattle.final_states.proofs.BufferScans.{sum-stbars}
use Rattle.final_states.proofs.IssueSteps.{get-zip}
use Rattle.final_states.proofs.Options.{single}
use Rattle.final_states.proofs.PlanFacts.{range-next}
use Rattle.final_states.proofs.Rows.{is_waiting}
use Rattle.final_states.proofs.WordMoves.{slot_is}
use Rattle.final_states.proofs.WordPlaces.{memory_after}

pub slots-count : (addresses : List ℕ) (slots : List (Option ℕ)) → AreSlots addresses slots → length slots ≡ 256
slots-count addresses slots are = ap length are ∙ length-map-range_with_len (slot_of addresses) 0 256

pub slot-read : (addresses : List ℕ) (slots : List (Option ℕ)) (a : ℕ) (d : Option ℕ) → AreSlots addresses slots → a < 256 → get_or slots a d ≡ slot_of addresses a
slot-read addresses slots a d are small = ap (λ xs. get_or xs a d) are ∙ get_or-map-range_with_len (slot_of addresses) 0 256 a a d small (omega arith)

-- the place of an address is among the words
pub slot-within : (program : ProgramValue) (plan : Plan) (words : List ℕ) (a slot : ℕ) → HaveWidth program plan words → slot_of plan.addresses.items a ≡ Some slot →
    memory_start program + slot < length words
slot-within program plan words a slot width is = omega (arith, width, (slot_is plan.addresses.items a slot is).0)

pub value-some : (program : ProgramValue) (addresses words : List ℕ) (a slot : ℕ) → slot_of addresses a ≡ Some slot → slice_index words (memory_start program + slot) ≡ value_in program addresses words a
value-some program addresses words a slot is =
    sym (ap (λ o. option_map_or (λ k. slice_index words (memory_start program + k)) o (first_value program.setting.first a)) is)

pub value-none : (program : ProgramValue) (addresses words : List ℕ) (a : ℕ) → slot_of addresses a ≡ None → first_value program.setting.first a ≡ value_in program addresses words a
value-none program addresses words a is =
    sym (ap (λ o. option_map_or (λ k. slice_index words (memory_start program + k)) o (first_value program.setting.first a)) is)

pub written-some : (program : ProgramValue) (addresses words : List ℕ) (a v slot : ℕ) → slot_of addresses a ≡ Some slot → set words (memory_start program + slot) v ≡ with_value program addresses words a v
written-some program addresses words a v slot is = sym (ap (λ o. option_map_or (λ k. set words (memory_start program + k) v) o words) is)

pub written-none : (program : ProgramValue) (addresses words : List ℕ) (a v : ℕ) → slot_of addresses a ≡ None → words ≡ with_value program addresses words a v
written-none program addresses words a v is = sym (ap (λ o. option_map_or (λ k. set words (memory_start program + k) v) o words) is)

-- ---- the words of one processor

-- they are among the words
pub row-room : (program : ProgramValue) (plan : Plan) (words : List ℕ) (p : ℕ) → HaveWidth program plan words → p < list_count program →
    suc (start_of program.lists p + length (ops_at program p)) ≤ length words
row-room program plan words p width small = omega (arith, memory_after program p small, width)

-- the marks of the first operations
pub marks-part : (words : List ℕ) (start from count : ℕ) → from ≡ start → take (from + 1 + count - (from + 1)) (drop (from + 1) words) ≡ take count (drop (suc start) words)
marks-part words start from count is =
    let n : from + 1 + count - (from + 1) ≡ count = omega arith in
    ap (λ k. take k (drop (from + 1) words)) n ∙ ap (λ k. take count (drop k words)) (let e : from + 1 ≡ suc start = omega (arith, is) in e)

pub marks-length : (program : ProgramValue) (plan : Plan) (words : List ℕ) (p count : ℕ) → HaveWidth program plan words → p < list_count program → count ≤ length (ops_at program p) →
    length (take count (drop (suc (start_of program.lists p)) words)) ≡ count
marks-length program plan words p count width small few =
    let start = suc (start_of program.lists p) in
    omega (arith, length-take count (drop start words), length-drop start words, row-room program plan words p width small)

pub zip-take : (ops : List Op) (marks : List ℕ) (n m : ℕ) → n ≤ m → zip (take n ops) (take m marks) ≡ take n (zip ops marks)
zip-take ops marks zero m few = refl
zip-take ops marks (suc n) zero few = absurd (omega arith)
zip-take [] marks (suc n) (suc m) few = refl
zip-take (op ∷ ops) [] (suc n) (suc m) few = refl
zip-take (op ∷ ops) (mark ∷ marks) (suc n) (suc m) few = ap (λ cells. (op, mark) ∷ cells) (zip-take ops marks n m (omega arith))

-- the first operations with their marks
pub first-cells : (program : ProgramValue) (words : List ℕ) (p n m : ℕ) → n ≤ m → (ops : List Op) → ops ≡ ops_at program p → (marks : List ℕ) → marks ≡ take m (drop (suc (start_of program.lists p)) words) →
    zip (take n ops) marks ≡ take n (marked_ops program words p)
first-cells program words p n m few ops is marks are =
    ap (λ os. zip (take n os) marks) is ∙ ap (zip (take n (ops_at program p))) are ∙ zip-take (ops_at program p) (drop (suc (start_of program.lists p)) words) n m few

-- the first issued operations
taken-taken : {X : Type 0} (xs : List X) (i n : ℕ) → i ≤ n → take i (take n xs) ≡ take i xs
taken-taken xs i n few = take-take i n xs few

-- ---- which words follow

pub issued-none : (program : ProgramValue) (addresses words : List ℕ) (p n : ℕ) → n ≡ issued_by program words p → length (ops_at program p) ≤ n → None ≡ issued program addresses words p
issued-none program addresses words p n is past =
    let choose : Op → Option (List ℕ) = λ op. cond (may_issue op (buffer_in program words p)) (Some (after_issue program addresses words p op)) None in
    sym (ap (option_and_then choose) (slice_get-past (ops_at program p) (issued_by program words p) (omega (arith, is, past))))
  where
    slice_get-past : (ops : List Op) (k : ℕ) → length ops ≤ k → slice_get ops k ≡ None
    slice_get-past [] k beyond = refl
    slice_get-past (o ∷ ops) zero beyond = absurd (omega arith)
    slice_get-past (o ∷ ops) (suc k) beyond = slice_get-past ops k (omega arith)

-- the next operation, and whether it may be issued
pub issued-next : (program : ProgramValue) (addresses words : List ℕ) (p n : ℕ) (op : Op) (may : Bool) → n ≡ issued_by program words p → slice_get (ops_at program p) n ≡ Some op →
    may ≡ may_issue op (buffer_in program words p) → cond may (Some (after_issue program addresses words p op)) None ≡ issued program addresses words p
issued-next program addresses words p n op may is read allowed =
    let choose : Op → Option (List ℕ) = λ o. cond (may_issue o (buffer_in program words p)) (Some (after_issue program addresses words p o)) None in
    ap (λ b. cond b (Some (after_issue program addresses words p op)) None) allowed ∙ sym (ap (option_and_then choose) (ap (slice_get (ops_at program p)) (sym is) ∙ read))

-- an operation that isn't issued doesn't wait
pub drained-none : (program : ProgramValue) (addresses words : List ℕ) (p i n : ℕ) → n ≡ issued_by program words p → n ≤ i → None ≡ drained program addresses words p i
drained-none program addresses words p i n is past =
    let cells = marked_ops program words p in
    let older = waiting 0 (take i (issued_ops program words p)) in
    let choose : Entry → Option (List ℕ) = λ e. cond (passes_all program.setting.order older e.a e.stbars) (Some (after_drain program addresses words p i e)) None in
    let entry : Op × ℕ → Option Entry = λ c. entry_of (stbars_in (take i (issued_ops program words p))) c.0 c.1 in
    sym (ap (λ o. option_and_then choose (option_and_then entry o)) (slice_get-past cells (issued_by program words p) i (omega (arith, is, past))))
  where
    slice_get-past : (cs : List (Op × ℕ)) (k j : ℕ) → k ≤ j → slice_get (take k cs) j ≡ None
    slice_get-past cs zero j beyond = refl
    slice_get-past [] (suc k) j beyond = refl
    slice_get-past (c ∷ cs) (suc k) zero beyond = absurd (omega arith)
    slice_get-past (c ∷ cs) (suc k) (suc j) beyond = slice_get-past cs k j (omega arith)

get-take : (cs : List (Op × ℕ)) (k j : ℕ) (c : Op × ℕ) → j < k → slice_get cs j ≡ Some c → slice_get (take k cs) j ≡ Some c
get-take cs zero j c small read = absurd (omega arith)
get-take [] (suc k) j c small read = absurd cc
get-take (d ∷ cs) (suc k) zero c small read = read
get-take (d ∷ cs) (suc k) (suc j) c small read = get-take cs k j c (omega arith) read

-- what becomes of an issued operation
pub drained-next : (program : ProgramValue) (addresses words : List ℕ) (p i n : ℕ) (op : Op) (mark : ℕ) → n ≡ issued_by program words p → i < n →
    slice_get (marked_ops program words p) i ≡ Some (op, mark) →
    drained program addresses words p i
    ≡ option_and_then (λ e. cond (passes_all program.setting.order (waiting 0 (take i (marked_ops program words p))) e.a e.stbars) (Some (after_drain program addresses words p i e)) None)
    (entry_of (stbars_in (take i (marked_ops program words p))) op mark)
drained-next program addresses words p i n op mark is before read =
    let cells = marked_ops program words p in
    let c : Op × ℕ = (op, mark) in
    let same : take i (issued_ops program words p) ≡ take i cells = taken-taken cells i (issued_by program words p) (omega (arith, is, before)) in
    let shape : List (Op × ℕ) → Option (Op × ℕ) → Option (List ℕ) = λ first o.
    option_and_then (λ e. cond (passes_all program.setting.order (waiting 0 first) e.a e.stbars) (Some (after_drain program addresses words p i e)) None)
    (option_and_then (λ (d : Op × ℕ). entry_of (stbars_in first) d.0 d.1) o) in
    ap (shape (take i (issued_ops program words p))) (get-take cells (issued_by program words p) i c (omega (arith, is, before)) read) ∙ ap (λ first. shape first (Some c)) same

-- what an entry writes
abbrev pub written_at : Entry → ℕ × ℕ
written_at e = (e.a, e.v)

-- an operation without an entry has none after any number of STBARs
pub no-entry : (b : ℕ) (op : Op) (mark : ℕ) → None ≡ option_map written_at (entry_of 0 op mark) → entry_of b op mark ≡ None
no-entry b (OpLd a) mark none = refl
no-entry b (OpSw a v) mark none = refl
no-entry b OpMb mark none = refl
no-entry b OpSb mark none = refl
no-entry b (OpSt a v) zero none =
    let e : Entry = record { a = a; v = v; stbars = 0 } in
    let apart : None ≡ Some (written_at e) = none in
    absurd cc
no-entry b (OpSt a v) (suc mark) none =
    let e : Entry = record { a = a; v = v; stbars = b } in
    ap (λ t. cond t (Some e) None) (ne_eqb (suc mark) 0 (λ same. absurd (omega (arith, same))))

-- and one with an entry has that after each
pub some-entry : (b : ℕ) (op : Op) (mark : ℕ) (pair : ℕ × ℕ) → Some pair ≡ option_map written_at (entry_of 0 op mark) → entry_of b op mark ≡ Some (record { a = pair.0; v = pair.1; stbars = b })
some-entry b (OpLd c) mark pair some = absurd cc
some-entry b (OpSw c w) mark pair some = absurd cc
some-entry b OpMb mark pair some = absurd cc
some-entry b OpSb mark pair some = absurd cc
some-entry b (OpSt c w) zero pair some =
    let two : ℕ × ℕ = (c, w) in
    let e : pair ≡ two = cc in
    ap (λ (x : ℕ × ℕ). Some (record { a = x.0; v = x.1; stbars = b })) (sym e)
some-entry b (OpSt c w) (suc mark) pair some =
    let e : Entry = record { a = c; v = w; stbars = 0 } in
    let none : cond (suc mark == 0) (Some e) None ≡ None = ap (λ t. cond t (Some e) None) (ne_eqb (suc mark) 0 (λ same. absurd (omega (arith, same)))) in
    let gone : Some pair ≡ None = some ∙ ap (option_map written_at) none in
    absurd cc

-- ---- an issue and a drain by their parts

pub op-read : (ops own : List Op) (n : ℕ) (d : Op) → ops ≡ own → n < length ops → slice_get own n ≡ Some (get_or ops n d)
op-read ops own n d is small = ap (λ os. slice_get os n) (sym is) ∙ slice_get-get_or ops n d small

pub op-range : (program : ProgramValue) (plan : Plan) (p : ℕ) (ops : List Op) (n : ℕ) (d : Op) → IsPlanOf program plan → ops ≡ ops_at program p → n < length ops → (a : ℕ) → address_of (get_or ops n d) ≡ Some a → a < 256
op-range program plan p ops n d plans is small a at = plans.places.in_range p n a (get_or ops n d) (op-read ops (ops_at program p) n d is small) at

pub issue-buffer : (program : ProgramValue) (words : List ℕ) (p n : ℕ) (ops : List Op) (marks : List ℕ) → n ≡ issued_by program words p → ops ≡ ops_at program p →
    marks ≡ take n (drop (suc (start_of program.lists p)) words) → waiting 0 (zip (take n ops) marks) ≡ buffer_in program words p
issue-buffer program words p n ops marks is same are =
    ap (waiting 0) (first-cells program words p n n (omega arith) ops same marks are) ∙ ap (λ k. waiting 0 (take k (marked_ops program words p))) is

pub issue-after : (program : ProgramValue) (addresses words : List ℕ) (p start mark n : ℕ) (op : Op) (next new : List ℕ) → n ≡ issued_by program words p → slice_get (ops_at program p) n ≡ Some op →
    true ≡ may_issue op (buffer_in program words p) → start ≡ start_of program.lists p → mark ≡ mark_for program addresses words p op → next ≡ with_issued words start mark →
    new ≡ with_swapped program addresses next op → Some new ≡ issued program addresses words p
issue-after program addresses words p start mark n op next new is read may at marked stepped swapped =
    let shape : ℕ → ℕ → List ℕ = λ s m. with_swapped program addresses (with_issued words s m) op in
    ap Some (swapped ∙ ap (λ ws. with_swapped program addresses ws op) stepped ∙ ap (λ s. shape s mark) at ∙ ap (shape (start_of program.lists p)) marked)
    ∙ issued-next program addresses words p n op true is read may

pub cell-read : (program : ProgramValue) (plan : Plan) (words : List ℕ) (p i : ℕ) (ops : List Op) (marks : List ℕ) (d : Op) → HaveWidth program plan words → p < list_count program → ops ≡ ops_at program p → i < length ops →
    marks ≡ take (i + 1) (drop (suc (start_of program.lists p)) words) → slice_get (marked_ops program words p) i ≡ Some (get_or ops i d, get_or marks i 0)
cell-read program plan words p i ops marks d width small same within are =
    let start = suc (start_of program.lists p) in
    let room : i < length (drop start words) = omega (arith, length-drop start words, row-room program plan words p width small, within, ap length same) in
    get-zip (ops_at program p) (drop start words) i (get_or ops i d) (op-read ops (ops_at program p) i d same within) room
    ∙ ap (λ m. Some (get_or ops i d, m)) (sym (ap (λ ms. get_or ms i 0) are ∙ get_or-take (i + 1) (drop start words) i 0 (omega arith)))

-- the buffer before an operation, and the STBARs before it
pub older-buffer : (program : ProgramValue) (words : List ℕ) (p i : ℕ) (ops : List Op) (marks : List ℕ) → ops ≡ ops_at program p → marks ≡ take (i + 1) (drop (suc (start_of program.lists p)) words) →
    zip (take i ops) marks ≡ take i (marked_ops program words p)
older-buffer program words p i ops marks same are = first-cells program words p i (i + 1) (omega arith) ops same marks are

-- a drain by its parts
module _ (program : ProgramValue) (plan : Plan) (words : List ℕ) (p i n : ℕ) (ops : List Op) (marks : List ℕ) (d : Op) (width : HaveWidth program plan words) (small : p < list_count program) (same : ops ≡ ops_at program p)
    (within : i < length ops) (are : marks ≡ take (i + 1) (drop (suc (start_of program.lists p)) words)) (is : n ≡ issued_by program words p) (before : i < n) where
  next_is : drained program plan.addresses.items words p i
      ≡ option_and_then (λ e. cond (passes_all program.setting.order (waiting 0 (take i (marked_ops program words p))) e.a e.stbars) (Some (after_drain program plan.addresses.items words p i e)) None)
      (entry_of (stbars_in (take i (marked_ops program words p))) (get_or ops i d) (get_or marks i 0))
  next_is = drained-next program plan.addresses.items words p i n (get_or ops i d) (get_or marks i 0) is before (cell-read program plan words p i ops marks d width small same within are)

  pub no-drain : None ≡ option_map written_at (entry_of 0 (get_or ops i d) (get_or marks i 0)) → None ≡ drained program plan.addresses.items words p i
  no-drain none =
      sym (next_is ∙ ap (option_and_then (λ e. cond (passes_all program.setting.order (waiting 0 (take i (marked_ops program words p))) e.a e.stbars) (Some (after_drain program plan.addresses.items words p i e)) None))
      (no-entry (stbars_in (take i (marked_ops program words p))) (get_or ops i d) (get_or marks i 0) none))

  -- the STBARs before the operation
  stbars-before : stbars_in (take i (marked_ops program words p)) ≡ stbars_among (take i ops)
  stbars-before =
      ap stbars_in (sym (older-buffer program words p i ops marks same are))
      ∙ sum-stbars (take i ops) marks (omega (arith, length-take i ops, ap length are, length-take (i + 1) (drop (suc (start_of program.lists p)) words), length-drop (suc (start_of program.lists p)) words, row-room program plan words p width small, ap length same, within))

  -- whether it passes all older ones
  pub drain-passes : (order : Order) (pair : ℕ × ℕ) (stbars : ℕ) (pass : Bool) → order ≡ program.setting.order → Some pair ≡ option_map written_at (entry_of 0 (get_or ops i d) (get_or marks i 0)) →
      stbars ≡ stbars_among (take i ops) → pass ≡ passes_all order (waiting 0 (zip (take i ops) marks)) pair.0 stbars →
      cond pass (Some (after_drain program plan.addresses.items words p i (record { a = pair.0; v = pair.1; stbars = stbars }))) None ≡ drained program plan.addresses.items words p i
  drain-passes order pair stbars pass order_is some count passing =
      let cells = take i (marked_ops program words p) in
      let choose : Entry → Option (List ℕ) = λ e. cond (passes_all program.setting.order (waiting 0 cells) e.a e.stbars) (Some (after_drain program plan.addresses.items words p i e)) None in
      let e : Entry = record { a = pair.0; v = pair.1; stbars = stbars } in
      let bars : stbars ≡ stbars_in cells = count ∙ sym stbars-before in
      let entry : entry_of (stbars_in cells) (get_or ops i d) (get_or marks i 0) ≡ Some e =
      some-entry (stbars_in cells) (get_or ops i d) (get_or marks i 0) pair some ∙ ap (λ b. Some (record { a = pair.0; v = pair.1; stbars = b })) (sym bars) in
      ap (λ b. cond b (Some (after_drain program plan.addresses.items words p i e)) None)
      (passing ∙ ap (λ cs. passes_all order (waiting 0 cs) pair.0 stbars) (older-buffer program words p i ops marks same are) ∙ ap (λ o. passes_all o (waiting 0 cells) pair.0 stbars) order_is)
      ∙ sym (next_is ∙ ap (option_and_then choose) entry)

  -- its address is in range
  pub drain-range : IsPlanOf program plan → (pair : ℕ × ℕ) → Some pair ≡ option_map written_at (entry_of 0 (get_or ops i d) (get_or marks i 0)) → pair.0 < 256
  drain-range plans pair some =
      let e : Entry = record { a = pair.0; v = pair.1; stbars = 0 } in
      let store = (is_waiting 0 (get_or ops i d) (get_or marks i 0) e (some-entry 0 (get_or ops i d) (get_or marks i 0) pair some)).store in
      op-range program plan p ops i d plans same within pair.0 (ap address_of store)

-- the next mark is among the words
pub issue-room : (program : ProgramValue) (plan : Plan) (words : List ℕ) (p start n : ℕ) (ops : List Op) → HaveWidth program plan words → p < list_count program → start ≡ start_of program.lists p →
    n ≡ issued_by program words p → ops ≡ ops_at program p → n < length ops → suc (start + slice_index words start) < length words
issue-room program plan words p start n ops width small at is same more =
    omega (arith, ap (slice_index words) at, at, is, row-room program plan words p width small, ap length same, more)

-- the words after a drain by their parts
pub drain-after : (program : ProgramValue) (addresses words : List ℕ) (p i start a v stbars : ℕ) (old new : List ℕ) (drained_to : Option (List ℕ)) → start ≡ start_of program.lists p →
    old ≡ set words (start + 1 + i) 1 → new ≡ with_value program addresses old a v →
    Some (after_drain program addresses words p i (record { a = a; v = v; stbars = stbars })) ≡ drained_to → Some new ≡ drained_to
drain-after program addresses words p i start a v stbars old new drained_to at marked written is =
    let place : start + 1 + i ≡ suc (start_of program.lists p + i) = omega (arith, at) in
    ap Some (written ∙ ap (λ ws. with_value program addresses ws a v) (marked ∙ ap (λ k. set words k 1) place)) ∙ is

pub drain-room : (program : ProgramValue) (plan : Plan) (words : List ℕ) (p start i : ℕ) → HaveWidth program plan words → p < list_count program → start ≡ start_of program.lists p →
    i < length (ops_at program p) → start + 1 + i < length words
drain-room program plan words p start i width small at within = omega (arith, at, row-room program plan words p width small, within)

-- ---- lists of words that follow

pub rows-push : (vectors : List (Vec ℕ)) (v : Vec ℕ) → rows (vectors ++ v ∷ []) ≡ rows vectors ++ v.items ∷ []
rows-push vectors v = map-append (λ (row : Vec ℕ). row.items) vectors (v ∷ [])

-- the words that follow by one operation's drain more
pub drains-next : (f : ℕ → Option (List ℕ)) (n : ℕ) (old so_far new : List (List ℕ)) (o : Option (List ℕ)) → so_far ≡ old ++ filter_map f (range_with_len 0 n) → o ≡ f n →
    new ≡ so_far ++ option_to_list o → new ≡ old ++ filter_map f (range_with_len 0 (n + 1))
drains-next f n old so_far new o is next pushed =
    pushed ∙ ap (λ xs. xs ++ option_to_list o) is ∙ append_assoc old (filter_map f (range_with_len 0 n)) (option_to_list o)
    ∙ ap (λ xs. old ++ xs) (ap (λ x. filter_map f (range_with_len 0 n) ++ option_to_list x) next ∙ sym (ap (filter_map f) (range-next n) ∙ filter_map-append f (range_with_len 0 n) (n ∷ []) ∙ ap (λ xs. filter_map f (range_with_len 0 n) ++ xs) (single (f n))))

-- and by one processor's steps more
pub steps-next : (program : ProgramValue) (addresses words : List ℕ) (p : ℕ) (so_far between new : List (List ℕ)) (o : Option (List ℕ)) →
    so_far ≡ flat_map (λ q. cons_option (issued program addresses words q) (all_drained program addresses words q)) (range_with_len 0 p) → o ≡ issued program addresses words p →
    between ≡ so_far ++ option_to_list o → new ≡ between ++ all_drained program addresses words p →
    new ≡ flat_map (λ q. cons_option (issued program addresses words q) (all_drained program addresses words q)) (range_with_len 0 (p + 1))
steps-next program addresses words p so_far between new o is next pushed more =
    let each : ℕ → List (List ℕ) = λ q. cons_option (issued program addresses words q) (all_drained program addresses words q) in
    let first = flat_map each (range_with_len 0 p) in
    more ∙ ap (λ xs. xs ++ all_drained program addresses words p) (pushed ∙ ap (λ x. so_far ++ option_to_list x) next ∙ ap (λ xs. xs ++ option_to_list (issued program addresses words p)) is)
    ∙ append_assoc first (option_to_list (issued program addresses words p)) (all_drained program addresses words p)
    ∙ ap (λ xs. first ++ xs) (joined (issued program addresses words p) (all_drained program addresses words p))
    ∙ sym (ap (flat_map each) (range-next p) ∙ flat_map-append each (range_with_len 0 p) (p ∷ []) ∙ ap (λ xs. first ++ xs) (append-nil (each p)))
  where
    joined : (x : Option (List ℕ)) (xs : List (List ℕ)) → option_to_list x ++ xs ≡ cons_option x xs
    joined None xs = refl
    joined (Some x) xs = refl
