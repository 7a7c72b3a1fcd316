-- Lemmas on the values that were read: two traces of one program have as many of them, and with the same values they are one trace.
use Rattle.std.proofs.Common.{◌≡◌, ◌∙◌, ℕ, zero, suc, ◌+◌, ◌<◌, List, [], ◌∷◌, ◌++◌, length, map, take, get_or, refl, ap, ap₂, sym, arith}
use Rattle.std.specs.List.{filter_map, flat_map}
use Rattle.std.specs.Global.{Vec}
use Rattle.std.proofs.lemmas.List.{append-nil, length-append, map-append, take_more}
use Rattle.std.proofs.lemmas.Grind.{flat_map-append}
use Rattle.std.proofs.lemmas.List.Elements.{filter_map-append}
use Rattle.tso_ops.specs.declared.ops.Outcome.{Outcome}
use Rattle.tso_ops.specs.declared.ops.Outcome.TheVariants.{Ld, St, Sw, Mb, Sb}
use Rattle.tso_ops.specs.Settings.{SettingValue}
use Rattle.tso_ops.specs.Values.{ProgramValue, TraceValue, op_of, program_of, program_of_lists, rows, trace_of_lists}
use Rattle.unit_core.proofs.OutcomeFacts.{program_lists}
use Rattle.final_states.specs.FinalStates.{IsFinalState, FinalStateValue, value_read, values_read}
use Rattle.outcome_reports.specs.Internal.Counting.{trace_by, traces_by}
use Rattle.final_states.specs.FinalStates.{IsRunTrace}

-- ---- the outcomes of one processor

-- what the operation reads, as many values as its outcome
same_count : (o q : Outcome) → op_of o ≡ op_of q → length (filter_map value_read (o ∷ [])) ≡ length (filter_map value_read (q ∷ []))
same_count (Ld a r) (Ld b s) same = refl
same_count (St a v) (St b w) same = refl
same_count (Sw a r v) (Sw b s w) same = refl
same_count Mb Mb same = refl
same_count Sb Sb same = refl
same_count (Ld a r) (St b w) same = absurd cc
same_count (Ld a r) (Sw b s w) same = absurd cc
same_count (Ld a r) Mb same = absurd cc
same_count (Ld a r) Sb same = absurd cc
same_count (St a v) (Ld b s) same = absurd cc
same_count (St a v) (Sw b s w) same = absurd cc
same_count (St a v) Mb same = absurd cc
same_count (St a v) Sb same = absurd cc
same_count (Sw a r v) (Ld b s) same = absurd cc
same_count (Sw a r v) (St b w) same = absurd cc
same_count (Sw a r v) Mb same = absurd cc
same_count (Sw a r v) Sb same = absurd cc
same_count Mb (Ld b s) same = absurd cc
same_count Mb (St b w) same = absurd cc
same_count Mb (Sw b s w) same = absurd cc
same_count Mb Sb same = absurd cc
same_count Sb (Ld b s) same = absurd cc
same_count Sb (St b w) same = absurd cc
same_count Sb (Sw b s w) same = absurd cc
same_count Sb Mb same = absurd cc

same_outcome : (o q : Outcome) → op_of o ≡ op_of q → filter_map value_read (o ∷ []) ≡ filter_map value_read (q ∷ []) → o ≡ q
same_outcome (Ld a r) (Ld b s) same values = cc
same_outcome (St a v) (St b w) same values = cc
same_outcome (Sw a r v) (Sw b s w) same values = cc
same_outcome Mb Mb same values = refl
same_outcome Sb Sb same values = refl
same_outcome (Ld a r) (St b w) same values = absurd cc
same_outcome (Ld a r) (Sw b s w) same values = absurd cc
same_outcome (Ld a r) Mb same values = absurd cc
same_outcome (Ld a r) Sb same values = absurd cc
same_outcome (St a v) (Ld b s) same values = absurd cc
same_outcome (St a v) (Sw b s w) same values = absurd cc
same_outcome (St a v) Mb same values = absurd cc
same_outcome (St a v) Sb same values = absurd cc
same_outcome (Sw a r v) (Ld b s) same values = absurd cc
same_outcome (Sw a r v) (St b w) same values = absurd cc
same_outcome (Sw a r v) Mb same values = absurd cc
same_outcome (Sw a r v) Sb same values = absurd cc
same_outcome Mb (Ld b s) same values = absurd cc
same_outcome Mb (St b w) same values = absurd cc
same_outcome Mb (Sw b s w) same values = absurd cc
same_outcome Mb Sb same values = absurd cc
same_outcome Sb (Ld b s) same values = absurd cc
same_outcome Sb (St b w) same values = absurd cc
same_outcome Sb (Sw b s w) same values = absurd cc
same_outcome Sb Mb same values = absurd cc

-- ---- lists whose first parts are as long

-- equal lists, cut at one length, have equal parts
split_at : {X : Type 0} (xs ys us vs : List X) → length xs ≡ length us → xs ++ ys ≡ us ++ vs → (xs ≡ us) × (ys ≡ vs)
split_at [] ys [] vs count same = (refl, same)
split_at [] ys (u ∷ us) vs count same = absurd cc
split_at (x ∷ xs) ys [] vs count same = absurd cc
split_at (x ∷ xs) ys (u ∷ us) vs count same =
    let heads : x ≡ u = cc in
    let tails : xs ++ ys ≡ us ++ vs = cc in
    let shorter : length xs ≡ length us = omega arith in
    let rest = split_at xs ys us vs shorter tails in
    (ap₂ (λ h t. h ∷ t) heads rest.0, rest.1)

head_values : (o : Outcome) (os : List Outcome) → filter_map value_read (o ∷ os) ≡ filter_map value_read (o ∷ []) ++ filter_map value_read os
head_values o os = filter_map-append value_read (o ∷ []) os

-- ---- the outcomes of a list

pub counts_of_list : (os qs : List Outcome) → map op_of os ≡ map op_of qs → length (filter_map value_read os) ≡ length (filter_map value_read qs)
counts_of_list [] [] same = refl
counts_of_list [] (q ∷ qs) same = absurd cc
counts_of_list (o ∷ os) [] same = absurd cc
counts_of_list (o ∷ os) (q ∷ qs) same =
    let first = same_count o q cc in
    let rest = counts_of_list os qs cc in
    let left = length-append (filter_map value_read (o ∷ [])) (filter_map value_read os) in
    let right = length-append (filter_map value_read (q ∷ [])) (filter_map value_read qs) in
    ap length (head_values o os) ∙ left ∙ ap₂ (λ m n. m + n) first rest ∙ sym right ∙ sym (ap length (head_values q qs))

pub same_list : (os qs : List Outcome) → map op_of os ≡ map op_of qs → filter_map value_read os ≡ filter_map value_read qs → os ≡ qs
same_list [] [] same values = refl
same_list [] (q ∷ qs) same values = absurd cc
same_list (o ∷ os) [] same values = absurd cc
same_list (o ∷ os) (q ∷ qs) same values =
    let first : op_of o ≡ op_of q = cc in
    let parts =
    split_at (filter_map value_read (o ∷ [])) (filter_map value_read os) (filter_map value_read (q ∷ [])) (filter_map value_read qs) (same_count o q first)
    (sym (head_values o os) ∙ values ∙ head_values q qs) in
    ap₂ (λ h t. h ∷ t) (same_outcome o q first parts.0) (same_list os qs (cc) parts.1)

-- ---- the outcomes of processors

abbrev pub all_values : List (List Outcome) → List ℕ
all_values lists = filter_map value_read (flat_map (λ ops. ops) lists)

pub first_values : (os : List Outcome) (lists : List (List Outcome)) → all_values (os ∷ lists) ≡ filter_map value_read os ++ all_values lists
first_values os lists = filter_map-append value_read os (flat_map (λ ops. ops) lists)

pub counts_of_lists : (xs ys : List (List Outcome)) → map (map op_of) xs ≡ map (map op_of) ys → length (all_values xs) ≡ length (all_values ys)
counts_of_lists [] [] same = refl
counts_of_lists [] (y ∷ ys) same = absurd cc
counts_of_lists (x ∷ xs) [] same = absurd cc
counts_of_lists (x ∷ xs) (y ∷ ys) same =
    let first = counts_of_list x y cc in
    let rest = counts_of_lists xs ys cc in
    let left = length-append (filter_map value_read x) (all_values xs) in
    let right = length-append (filter_map value_read y) (all_values ys) in
    ap length (first_values x xs) ∙ left ∙ ap₂ (λ m n. m + n) first rest ∙ sym right ∙ sym (ap length (first_values y ys))

pub same_lists : (xs ys : List (List Outcome)) → map (map op_of) xs ≡ map (map op_of) ys → all_values xs ≡ all_values ys → xs ≡ ys
same_lists [] [] same values = refl
same_lists [] (y ∷ ys) same values = absurd cc
same_lists (x ∷ xs) [] same values = absurd cc
same_lists (x ∷ xs) (y ∷ ys) same values =
    let first : map op_of x ≡ map op_of y = cc in
    let parts =
    split_at (filter_map value_read x) (all_values xs) (filter_map value_read y) (all_values ys) (counts_of_list x y first) (sym (first_values x xs) ∙ values ∙ first_values y ys) in
    ap₂ (λ h t. h ∷ t) (same_list x y first parts.0) (same_lists xs ys (cc) parts.1)

-- ---- traces of one program

pub same_number : (program : ProgramValue) (t u : TraceValue) → program_of t ≡ program → program_of u ≡ program → length (values_read t) ≡ length (values_read u)
same_number program t u first second = counts_of_lists t.lists u.lists (ap (λ p. p.lists) (first ∙ sym second))

pub same_trace : (program : ProgramValue) (t u : TraceValue) → program_of t ≡ program → program_of u ≡ program → values_read t ≡ values_read u → t ≡ u
same_trace program t u first second values =
    ap₂ trace_of_lists (ap (λ p. p.setting) (first ∙ sym second)) (same_lists t.lists u.lists (ap (λ p. p.lists) (first ∙ sym second)) values)

-- the trace of a complete run of the program is one of the program
pub run_of_program : (program : ProgramValue) (t : TraceValue) → IsRunTrace program t → program_of t ≡ program
run_of_program program t is =
    ap program_of is.2 ∙ ap (program_of_lists program.setting) (program_lists program is.0 is.1.ops)

pub trace_of_state : (program : ProgramValue) (state : FinalStateValue) → IsFinalState program state → IsRunTrace program state.trace
trace_of_state program state is = (is.steps, is.run, is.trace)

-- ---- list by list

pub values_push : (lists : List (List Outcome)) (list : List Outcome) → all_values (lists ++ list ∷ []) ≡ all_values lists ++ filter_map value_read list
values_push lists list =
    ap (filter_map value_read) (flat_map-append (λ (ops : List Outcome). ops) lists (list ∷ []) ∙ ap (λ t. flat_map (λ (ops : List Outcome). ops) lists ++ t) (append-nil list))
    ∙ filter_map-append value_read (flat_map (λ (ops : List Outcome). ops) lists) list

pub values_next : (lists : List (List Outcome)) (i : ℕ) (d : List Outcome) (old new : List ℕ) → i < length lists → old ≡ all_values (take i lists) → new ≡ old ++ filter_map value_read (get_or lists i d) →
    new ≡ all_values (take (i + 1) lists)
values_next lists i d old new inside before more =
    more ∙ ap (λ t. t ++ filter_map value_read (get_or lists i d)) before ∙ sym (ap all_values (take_more lists i d inside) ∙ values_push (take i lists) (get_or lists i d))

pub rows_next : {X : Type 0} (vectors : List (Vec X)) (i : ℕ) (d : Vec X) → i < length vectors → rows (take (i + 1) vectors) ≡ rows (take i vectors) ++ (get_or vectors i d).items ∷ []
rows_next {X} vectors i d inside = ap rows (take_more vectors i d inside) ∙ map-append (λ (row : Vec X). row.items) (take i vectors) (get_or vectors i d ∷ [])

pub row_values_next : (vectors : List (Vec Outcome)) (i : ℕ) (d : Vec Outcome) (old new : List ℕ) → i < length vectors → old ≡ all_values (rows (take i vectors)) →
    new ≡ old ++ filter_map value_read (get_or vectors i d).items → new ≡ all_values (rows (take (i + 1) vectors))
row_values_next vectors i d old new inside before more =
    more ∙ ap (λ t. t ++ filter_map value_read (get_or vectors i d).items) before
    ∙ sym (ap all_values (rows_next vectors i d inside) ∙ values_push (rows (take i vectors)) (get_or vectors i d).items)

pub keys_next : (setting : SettingValue) (traces : List (Vec (Vec Outcome))) (i : ℕ) (d : Vec (Vec Outcome)) (old new : List (Vec ℕ)) (key : Vec ℕ) → i < length traces →
    rows old ≡ map values_read (traces_by setting (take i traces)) → new ≡ old ++ key ∷ [] → key.items ≡ values_read (trace_by setting (get_or traces i d)) →
    rows new ≡ map values_read (traces_by setting (take (i + 1) traces))
keys_next setting traces i d old new key inside before pushed is =
    let first = traces_by setting (take i traces) in
    let t = trace_by setting (get_or traces i d) in
    ap rows pushed ∙ map-append (λ (row : Vec ℕ). row.items) old (key ∷ []) ∙ ap₂ (λ ks k. ks ++ k ∷ []) before is ∙ sym (map-append values_read first (t ∷ []))
    ∙ ap (map values_read) (sym (ap (traces_by setting) (take_more traces i d inside) ∙ map-append (trace_by setting) (take i traces) (get_or traces i d ∷ [])))

pub row_at : {X : Type 0} (vectors : List (Vec X)) (i : ℕ) (d : Vec X) → i < length vectors → get_or (rows vectors) i [] ≡ (get_or vectors i d).items
row_at [] i d inside = absurd (omega arith)
row_at (v ∷ vectors) zero d inside = refl
row_at (v ∷ vectors) (suc i) d inside = row_at vectors i d (omega arith)
