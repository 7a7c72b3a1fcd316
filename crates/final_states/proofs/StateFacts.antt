-- Steps of the loops that make final states of words.
use Rattle.std.proofs.Common.{◌≡◌, ◌∙◌, sym, ap, refl, subst, inl, inr, ℕ, suc, ◌+◌, ◌<◌, ◌≤◌, ◌&&◌, cond, All, Bool, true, false, List, [], ◌∷◌, ◌++◌, filter, length, get_or, map, take, drop, eq-eqb, arith}
use Rattle.std.specs.Global.{Vec}
use Rattle.std.specs.List.{flat_map, list_all, range_with_len, zip}
use Rattle.std.proofs.lemmas.Bool.{cases_lt, ne_eqb}
use Rattle.std.proofs.lemmas.List.{get_or-drop, length-drop, map-append, take_all, take_more}
use Rattle.std.proofs.lemmas.List.Elements.{All-push}
use Rattle.std.proofs.lemmas.List.FromFn.{map-range_with_len_more}
use Rattle.std.proofs.lemmas.Slice.Zip.{get_or-zip, length-zip}
use Rattle.tso_ops.specs.declared.ops.Op.{Op}
use Rattle.tso_ops.specs.declared.ops.Outcome.{Outcome}
use Rattle.tso_ops.specs.Values.{ProgramValue, ReadFits, ops_at, outcomes_in_file_order, rows}
use Rattle.unit_core.proofs.OutcomeFacts.{reads-push}
use Rattle.final_states.specs.declared.plans.Plan.{Plan}
use Rattle.final_states.specs.declared.states.FinalState.{FinalState}
use Rattle.final_states.specs.FinalStates.{state_of}
use Rattle.final_states.specs.Internal.Plans.{HaveWidth}
use Rattle.final_states.specs.Internal.Words.{is_done, is_empty, issued_by, marked_ops, memory_start, outcome_with, outcomes_with, start_of, state_with, waiting}
use Rattle.final_states.proofs.BufferScans.{cells-all, cells-more}
use Rattle.final_states.proofs.FinalWords.{all-pass, all-tested}
use Rattle.final_states.proofs.MoveFacts.{rows-push, zip-take}
use Rattle.final_states.proofs.PlanFacts.{filter-append}

-- ---- outcomes

-- all operations with their marks
pub whole-cells : (program : ProgramValue) (words : List ℕ) (p : ℕ) (ops : List Op) (marks : List ℕ) → ops ≡ ops_at program p →
    marks ≡ take (length ops) (drop (suc (start_of program.lists p)) words) → zip ops marks ≡ marked_ops program words p
whole-cells program words p ops marks same are =
    let n = length ops in
    let rest = drop (suc (start_of program.lists p)) words in
    ap (λ os. zip os marks) (sym (take_all n ops (omega arith))) ∙ ap (zip (take n ops)) are ∙ zip-take ops rest n n (omega arith)
    ∙ take_all n (zip ops rest) (omega (arith, length-zip ops rest)) ∙ ap (λ os. zip os rest) same

pub outcomes-next : (ops : List Op) (marks : List ℕ) (i : ℕ) (d : Op) (old new : List Outcome) (outcome : Outcome) → i < length ops → length ops ≤ length marks →
    old ≡ outcomes_with (take i (zip ops marks)) → outcome ≡ outcome_with (get_or ops i d) (get_or marks i 0) → new ≡ old ++ outcome ∷ [] → new ≡ outcomes_with (take (i + 1) (zip ops marks))
outcomes-next ops marks i d old new outcome within room so_far is pushed =
    let one : Op × ℕ → Outcome = λ c. outcome_with c.0 c.1 in
    pushed ∙ ap (λ xs. xs ++ outcome ∷ []) so_far ∙ ap (λ o. outcomes_with (take i (zip ops marks)) ++ o ∷ []) is
    ∙ sym (ap outcomes_with (cells-more ops marks i d within room) ∙ map-append one (take i (zip ops marks)) ((get_or ops i d, get_or marks i 0) ∷ []))

pub outcomes-all : (ops : List Op) (marks : List ℕ) (i : ℕ) (outcomes : List Outcome) → length ops ≤ i → outcomes ≡ outcomes_with (take i (zip ops marks)) → outcomes ≡ outcomes_with (zip ops marks)
outcomes-all ops marks i outcomes past so_far = so_far ∙ ap outcomes_with (cells-all ops marks i past)

-- ---- tests

pub done-when : (program : ProgramValue) (words : List ℕ) (p count : ℕ) (ops : List Op) (marks : List ℕ) (empty : Bool) → ops ≡ ops_at program p →
    marks ≡ take (length ops) (drop (suc (start_of program.lists p)) words) → count ≡ issued_by program words p → count ≡ length ops → empty ≡ is_empty (waiting 0 (zip ops marks)) → empty ≡ is_done program words p
done-when program words p count ops marks empty same are is all none =
    none ∙ ap (λ cells. is_empty (waiting 0 cells)) (whole-cells program words p ops marks same are)
    ∙ sym (ap (λ b. b && is_empty (waiting 0 (marked_ops program words p))) (eq-eqb (issued_by program words p) (length (ops_at program p)) (sym is ∙ all ∙ ap length same)))

pub not-done : (program : ProgramValue) (words : List ℕ) (p count : ℕ) (ops : List Op) → ops ≡ ops_at program p → count ≡ issued_by program words p → (count ≡ length ops → ⊥) → false ≡ is_done program words p
not-done program words p count ops same is other =
    sym (ap (λ b. b && is_empty (waiting 0 (marked_ops program words p))) (ne_eqb (issued_by program words p) (length (ops_at program p)) (λ e. other (is ∙ e ∙ sym (ap length same)))))

pub tests-next : (test : ℕ → Bool) (p : ℕ) → list_all test (range_with_len 0 p) ≡ true → test p ≡ true → list_all test (range_with_len 0 (p + 1)) ≡ true
tests-next test p all passes =
    all-pass test 0 (p + 1) (λ k low high.
    elim (cases_lt k p) [
      | inl before ↦ all-tested test 0 p k all (omega arith) (omega (arith, before))
      | inr not_before ↦ let same : k ≡ p = omega (arith, high, not_before) in ap test same ∙ passes
    ])

pub test-fails : (test : ℕ → Bool) (count p : ℕ) → p < count → test p ≡ false → list_all test (range_with_len 0 count) ≡ false
test-fails test count p small fails = by (list_all test (range_with_len 0 count)) refl
  where
    by : (b : Bool) → list_all test (range_with_len 0 count) ≡ b → list_all test (range_with_len 0 count) ≡ false
    by true all = let e : test p ≡ true = all-tested test 0 count p all (omega arith) (omega (arith, small)) in absurd cc
    by false none = none

-- ---- lists of outcomes

pub lists-next : (program : ProgramValue) (words : List ℕ) (p : ℕ) (old new : List (Vec Outcome)) (v : Vec Outcome) (ops : List Op) (marks : List ℕ) →
    rows old ≡ map (λ q. outcomes_with (marked_ops program words q)) (range_with_len 0 p) → new ≡ old ++ v ∷ [] → v.items ≡ outcomes_with (zip ops marks) → ops ≡ ops_at program p →
    marks ≡ take (length ops) (drop (suc (start_of program.lists p)) words) → rows new ≡ map (λ q. outcomes_with (marked_ops program words q)) (range_with_len 0 (p + 1))
lists-next program words p old new v ops marks so_far pushed is same are =
    let each : ℕ → List Outcome = λ q. outcomes_with (marked_ops program words q) in
    ap rows pushed ∙ map-append (λ (row : Vec Outcome). row.items) old (v ∷ []) ∙ ap (λ xs. xs ++ v.items ∷ []) so_far
    ∙ ap (λ x. map each (range_with_len 0 p) ++ x ∷ []) (is ∙ ap outcomes_with (whole-cells program words p ops marks same are)) ∙ sym (map-range_with_len_more each 0 p p (omega arith))

pub reads-next : (old new : List (Vec Outcome)) (v : Vec Outcome) → All ReadFits (flat_map (λ outcomes. outcomes) (rows old)) → new ≡ old ++ v ∷ [] → All ReadFits v.items →
    All ReadFits (flat_map (λ outcomes. outcomes) (rows new))
reads-next old new v so_far pushed more =
    let P : List (List Outcome) → Type 0 = λ lists. All ReadFits (flat_map (λ outcomes. outcomes) lists) in
    subst P (sym (ap rows pushed ∙ map-append (λ (row : Vec Outcome). row.items) old (v ∷ []))) (reads-push (rows old) v.items so_far more)

-- ---- last values

pub last-next : (program : ProgramValue) (plan : Plan) (words : List ℕ) (k start a value : ℕ) (old new : List (ℕ × ℕ)) → HaveWidth program plan words → k < length plan.addresses.items → start ≡ memory_start program →
    old ≡ take k (zip plan.addresses.items (drop (memory_start program) words)) → a ≡ get_or plan.addresses.items k 0 → value ≡ get_or words (start + k) 0 → new ≡ old ++ (a, value) ∷ [] →
    new ≡ take (k + 1) (zip plan.addresses.items (drop (memory_start program) words))
last-next program plan words k start a value old new width within at so_far address is pushed =
    let addresses = plan.addresses.items in
    let values = drop (memory_start program) words in
    let default : ℕ × ℕ = (0, 0) in
    let many : length values ≡ length addresses = omega (arith, length-drop (memory_start program) words, width) in
    let pair : ℕ → ℕ → ℕ × ℕ = λ x y. (x, y) in
    let read : value ≡ get_or values k 0 = is ∙ ap (λ n. get_or words (n + k) 0) at ∙ sym (get_or-drop (memory_start program) words k 0) in
    pushed ∙ ap (λ xs. xs ++ (a, value) ∷ []) so_far ∙ ap (λ x. take k (zip addresses values) ++ x ∷ []) (ap (λ x. pair x value) address ∙ ap (pair (get_or addresses k 0)) read)
    ∙ sym (take_more (zip addresses values) k default (omega (arith, length-zip addresses values, within, many)) ∙ ap (λ x. take k (zip addresses values) ++ x ∷ []) (get_or-zip addresses values k default within (omega (arith, many, within))))

pub last-all : (program : ProgramValue) (plan : Plan) (words : List ℕ) (k : ℕ) (last : List (ℕ × ℕ)) → length plan.addresses.items ≤ k → last ≡ take k (zip plan.addresses.items (drop (memory_start program) words)) →
    last ≡ zip plan.addresses.items (drop (memory_start program) words)
last-all program plan words k last past so_far =
    let addresses = plan.addresses.items in
    let values = drop (memory_start program) words in
    so_far ∙ take_all k (zip addresses values) (omega (arith, length-zip addresses values, past))

-- ---- the words of final states

pub finals-next : (test : List ℕ → Bool) (keys old new : List (Vec ℕ)) (i : ℕ) (v : Vec ℕ) (words : List ℕ) (final : Bool) → i < length keys → v ≡ get_or keys i v → words ≡ v.items → final ≡ test words →
    rows old ≡ filter test (rows (take i keys)) → rows new ≡ rows old ++ cond final (words ∷ []) [] → rows new ≡ filter test (rows (take (i + 1) keys))
finals-next test keys old new i v words final within is read passes so_far pushed =
    let front = rows (take i keys) in
    pushed ∙ ap (λ xs. xs ++ cond final (words ∷ []) []) so_far ∙ ap (λ b. filter test front ++ cond b (words ∷ []) []) passes
    ∙ ap (λ w. filter test front ++ cond (test w) (w ∷ []) []) read
    ∙ sym (filter-append test front (v.items ∷ []))
    ∙ ap (filter test) (sym (ap rows (take_more keys i v within ∙ ap (λ x. take i keys ++ x ∷ []) (sym is)) ∙ rows-push (take i keys) v))

pub finals-all : (test : List ℕ → Bool) (keys finals : List (Vec ℕ)) (i : ℕ) → length keys ≤ i → rows finals ≡ filter test (rows (take i keys)) → rows finals ≡ filter test (rows keys)
finals-all test keys finals i past so_far = so_far ∙ ap (λ ks. filter test (rows ks)) (take_all i keys past)

-- ---- final states

pub states-next : (program : ProgramValue) (addresses : List ℕ) (finals : List (Vec ℕ)) (old new : List FinalState) (i : ℕ) (v : Vec ℕ) (s : FinalState) → i < length finals → v ≡ get_or finals i v →
    map (state_of program) old ≡ map (state_with program addresses) (rows (take i finals)) → state_of program s ≡ state_with program addresses v.items → new ≡ old ++ s ∷ [] →
    map (state_of program) new ≡ map (state_with program addresses) (rows (take (i + 1) finals))
states-next program addresses finals old new i v s within is so_far same pushed =
    let f = state_with program addresses in
    ap (map (state_of program)) pushed ∙ map-append (state_of program) old (s ∷ []) ∙ ap (λ xs. xs ++ state_of program s ∷ []) so_far ∙ ap (λ x. map f (rows (take i finals)) ++ x ∷ []) same
    ∙ sym (ap (λ vs. map f (rows vs)) (take_more finals i v within ∙ ap (λ x. take i finals ++ x ∷ []) (sym is)) ∙ ap (map f) (rows-push (take i finals) v) ∙ map-append f (rows (take i finals)) (v.items ∷ []))

pub states-all : (program : ProgramValue) (addresses : List ℕ) (finals : List (Vec ℕ)) (states : List FinalState) (i : ℕ) → length finals ≤ i →
    map (state_of program) states ≡ map (state_with program addresses) (rows (take i finals)) → map (state_of program) states ≡ map (state_with program addresses) (rows finals)
states-all program addresses finals states i past so_far = so_far ∙ ap (λ vs. map (state_with program addresses) (rows vs)) (take_all i finals past)

pub state-reads-push : (program : ProgramValue) (old new : List FinalState) (s : FinalState) → All (λ t. All ReadFits (outcomes_in_file_order (state_of program t).trace)) old →
    All ReadFits (outcomes_in_file_order (state_of program s).trace) → new ≡ old ++ s ∷ [] → All (λ t. All ReadFits (outcomes_in_file_order (state_of program t).trace)) new
state-reads-push program old new s all one pushed =
    let P : FinalState → Type 0 = λ t. All ReadFits (outcomes_in_file_order (state_of program t).trace) in
    let Q : List FinalState → Type 0 = All P in
    subst Q (sym pushed) (All-push P old s all one)
