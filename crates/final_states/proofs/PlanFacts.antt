-- Lemmas on plans of the words of states.
use Rattle.std.proofs.Common.{◌≡◌, ◌∙◌, sym, ap, refl, inl, inr, ℕ, zero, suc, ◌+◌, ◌<◌, ◌≤◌, ◌||◌, cond, Bool, true, false, Option, List, [], ◌∷◌, ◌++◌, filter, length, get_or, map, take, slice_index, add-one, arith}
use Rattle.std.specs.List.{flat_map, list_any, range_with_len}
use Rattle.std.proofs.lemmas.Bool.{cases_lt}
use Rattle.std.proofs.lemmas.List.{append-nil, get_or_append_left, get_or_push, length-append, take_all, take_more}
use Rattle.std.proofs.lemmas.List.FromFn.{map-range_with_len_more}
use Rattle.std.proofs.lemmas.List.Concat.{flat_map-append}
use Rattle.tso_ops.specs.declared.ops.Op.{Op}
use Rattle.tso_ops.specs.declared.settings.Version.{Version}
use Rattle.tso_ops.specs.declared.settings.Version.TheVariants.{One, Two}
use Rattle.tso_ops.specs.Settings.{barrier_limit, event_limit}
use Rattle.tso_ops.specs.Limits.{IsProgram}
use Rattle.tso_ops.specs.Values.{ProgramValue, in_file_order}
use Rattle.tso_ops.proofs.RefusalFacts.{kept_few}
use Rattle.final_states.specs.declared.plans.Plan.{Plan}
use Rattle.final_states.specs.FinalStates.{stored_addresses, stores_to}
use Rattle.final_states.specs.Internal.Plans.{AreSlots, AreStarts, IsPlanOf}
use Rattle.final_states.specs.Internal.Words.{slot_of, start_of}
use Rattle.final_states.proofs.StoredAddresses.{has-places}

-- ---- where the words of processors begin

pub start-next : (lists : List (List Op)) (p : ℕ) → p < length lists → start_of lists p + (1 + length (get_or lists p [])) ≡ start_of lists (p + 1)
start-next lists p small = next lists p small ∙ ap (start_of lists) (sym (add-one p))
  where
    next : (ls : List (List Op)) (k : ℕ) → k < length ls → start_of ls k + (1 + length (get_or ls k [])) ≡ start_of ls (suc k)
    next [] k within = absurd (omega arith)
    next (ops ∷ ls) zero within = omega (arith, zero_start ls)
      where
        zero_start : (ms : List (List Op)) → start_of ms 0 ≡ 0
        zero_start [] = refl
        zero_start (os ∷ ms) = refl
    next (ops ∷ ls) (suc k) within = omega (arith, next ls k (omega arith))

start-most : (lists : List (List Op)) (p : ℕ) → start_of lists p ≤ length lists + length (flat_map (λ ops. ops) lists)
start-most [] p = omega arith
start-most (ops ∷ lists) zero = omega arith
start-most (ops ∷ lists) (suc p) = omega (arith, start-most lists p, length-append ops (flat_map (λ os. os) lists))

few-ops : (version : Version) → event_limit version + barrier_limit version ≤ 16000
few-ops One = omega arith
few-ops Two = omega arith

pub start-small : (program : ProgramValue) (p : ℕ) → IsProgram program → start_of program.lists p ≤ 16016
start-small program p limits =
    omega (arith, start-most program.lists p, limits.processors, kept_few program.setting (in_file_order program) limits.limits, few-ops program.setting.version)

-- the starts of one processor more
pub starts-more : (lists : List (List Op)) (starts : List ℕ) (p start : ℕ) → length starts ≡ p → ((k : ℕ) → k < p → slice_index starts k ≡ start_of lists k) → start ≡ start_of lists p →
    (k : ℕ) → k < p + 1 → slice_index (starts ++ start ∷ []) k ≡ start_of lists k
starts-more lists starts p start count each is k small =
    elim (cases_lt k p) [
      | inl before ↦ get_or_append_left starts (start ∷ []) 0 k (omega (arith, before, count)) ∙ each k before
      | inr not_before ↦ let same : k ≡ p = omega (arith, small, not_before) in get_or_push starts start 0 k (count ∙ sym same) ∙ is ∙ ap (start_of lists) (sym same)
    ]

-- ---- operations that store to an address

any-append : (test : Op → Bool) (xs ys : List Op) → list_any test (xs ++ ys) ≡ (list_any test xs || list_any test ys)
any-append test [] ys = refl
any-append test (x ∷ xs) ys = ap (λ b. test x || b) (any-append test xs ys) ∙ regroup (test x) (list_any test xs) (list_any test ys)
  where
    regroup : (a b c : Bool) → (a || (b || c)) ≡ ((a || b) || c)
    regroup true b c = refl
    regroup false b c = refl

pub any-next : (test : Op → Bool) (lists : List (List Op)) (p : ℕ) → p < length lists → list_any test (flat_map (λ ops. ops) (take p lists)) ≡ false →
    list_any test (flat_map (λ ops. ops) (take (p + 1) lists)) ≡ list_any test (get_or lists p [])
any-next test lists p small none =
    let flat : List (List Op) → List Op = flat_map (λ ops. ops) in
    let row = get_or lists p [] in
    ap (λ ls. list_any test (flat ls)) (take_more lists p [] small) ∙ ap (list_any test) (flat_map-append (λ ops. ops) (take p lists) (row ∷ []))
    ∙ any-append test (flat (take p lists)) (row ++ []) ∙ ap (λ b. b || list_any test (row ++ [])) none ∙ ap (list_any test) (append-nil row)

-- an operation of one processor is one of all
pub any-here : (test : Op → Bool) (lists : List (List Op)) (p : ℕ) → list_any test (get_or lists p []) ≡ true → list_any test (flat_map (λ ops. ops) lists) ≡ true
any-here test [] p some = absurd cc
any-here test (ops ∷ lists) zero some = any-append test ops (flat_map (λ os. os) lists) ∙ ap (λ b. b || list_any test (flat_map (λ os. os) lists)) some
any-here test (ops ∷ lists) (suc p) some =
    any-append test ops (flat_map (λ os. os) lists) ∙ ap (λ b. list_any test ops || b) (any-here test lists p some) ∙ second (list_any test ops)
  where
    second : (b : Bool) → (b || true) ≡ true
    second true = refl
    second false = refl

pub any-none : (test : Op → Bool) (lists : List (List Op)) (p : ℕ) → length lists ≤ p → list_any test (flat_map (λ ops. ops) (take p lists)) ≡ list_any test (flat_map (λ ops. ops) lists)
any-none test lists p past = ap (λ ls. list_any test (flat_map (λ ops. ops) ls)) (take_all p lists past)

-- ---- numbers one after the other

range-push : (first count : ℕ) → range_with_len first (suc count) ≡ range_with_len first count ++ (first + count) ∷ []
range-push first zero = ap (λ n. n ∷ []) (omega arith)
range-push first (suc count) = ap (λ rest. first ∷ rest) (range-push (first + 1) count ∙ ap (λ n. range_with_len (first + 1) count ++ n ∷ []) (omega arith))

pub range-next : (n : ℕ) → range_with_len 0 (n + 1) ≡ range_with_len 0 n ++ n ∷ []
range-next n = ap (range_with_len 0) (add-one n) ∙ range-push 0 n ∙ ap (λ k. range_with_len 0 n ++ k ∷ []) (omega arith)

pub filter-append : {X : Type 0} (test : X → Bool) (xs ys : List X) → filter test (xs ++ ys) ≡ filter test xs ++ filter test ys
filter-append test [] ys = refl
filter-append test (x ∷ xs) ys = by (test x) (filter-append test xs ys)
  where
    by : (b : Bool) → filter test (xs ++ ys) ≡ filter test xs ++ filter test ys → cond b (x ∷ filter test (xs ++ ys)) (filter test (xs ++ ys)) ≡ cond b (x ∷ filter test xs) (filter test xs) ++ filter test ys
    by true e = ap (λ zs. x ∷ zs) e
    by false e = e

pub filter-passes : (test : ℕ → Bool) (n : ℕ) → test n ≡ true → filter test (range_with_len 0 (n + 1)) ≡ filter test (range_with_len 0 n) ++ n ∷ []
filter-passes test n passes =
    ap (filter test) (range-next n) ∙ filter-append test (range_with_len 0 n) (n ∷ []) ∙ ap (λ b. filter test (range_with_len 0 n) ++ cond b (n ∷ []) []) passes

pub filter-fails : (test : ℕ → Bool) (n : ℕ) → test n ≡ false → filter test (range_with_len 0 (n + 1)) ≡ filter test (range_with_len 0 n)
filter-fails test n fails =
    ap (filter test) (range-next n) ∙ filter-append test (range_with_len 0 n) (n ∷ []) ∙ ap (λ b. filter test (range_with_len 0 n) ++ cond b (n ∷ []) []) fails
    ∙ append-nil (filter test (range_with_len 0 n))

pub start-first : (lists : List (List Op)) → start_of lists 0 ≡ 0
start-first [] = refl
start-first (ops ∷ lists) = refl

-- ---- all 256 addresses

-- the address passes as one more
pub address-passes : (program : ProgramValue) (old new : List ℕ) (a : ℕ) (stored : Bool) → stored ≡ list_any (stores_to a) (in_file_order program) → stored ≡ true →
    old ≡ filter (λ b. list_any (stores_to b) (in_file_order program)) (range_with_len 0 a) → new ≡ old ++ a ∷ [] →
    new ≡ filter (λ b. list_any (stores_to b) (in_file_order program)) (range_with_len 0 (a + 1))
address-passes program old new a stored is yes_it_is so_far pushed =
    let test : ℕ → Bool = λ b. list_any (stores_to b) (in_file_order program) in
    pushed ∙ ap (λ xs. xs ++ a ∷ []) so_far ∙ sym (filter-passes test a (sym is ∙ yes_it_is))

-- or it doesn't
pub address-fails : (program : ProgramValue) (old new : List ℕ) (a : ℕ) (stored : Bool) → stored ≡ list_any (stores_to a) (in_file_order program) → stored ≡ false →
    old ≡ filter (λ b. list_any (stores_to b) (in_file_order program)) (range_with_len 0 a) → new ≡ old →
    new ≡ filter (λ b. list_any (stores_to b) (in_file_order program)) (range_with_len 0 (a + 1))
address-fails program old new a stored is not_it same_old kept =
    let test : ℕ → Bool = λ b. list_any (stores_to b) (in_file_order program) in
    kept ∙ same_old ∙ sym (filter-fails test a (sym is ∙ not_it))

pub addresses-all : (program : ProgramValue) (addresses : List ℕ) (n : ℕ) → n ≡ 256 → addresses ≡ filter (λ a. list_any (stores_to a) (in_file_order program)) (range_with_len 0 n) →
    addresses ≡ stored_addresses program
addresses-all program addresses n end is = is ∙ ap (λ k. filter (λ a. list_any (stores_to a) (in_file_order program)) (range_with_len 0 k)) end

pub slots-next : (addresses : List ℕ) (old new : List (Option ℕ)) (a : ℕ) (slot : Option ℕ) → slot ≡ slot_of addresses a → old ≡ map (slot_of addresses) (range_with_len 0 a) → new ≡ old ++ slot ∷ [] →
    new ≡ map (slot_of addresses) (range_with_len 0 (a + 1))
slots-next addresses old new a slot is so_far pushed =
    pushed ∙ ap (λ xs. xs ++ slot ∷ []) so_far ∙ ap (λ s. map (slot_of addresses) (range_with_len 0 a) ++ s ∷ []) is ∙ sym (map-range_with_len_more (slot_of addresses) 0 a a (omega arith))

pub slots-all : (addresses : List ℕ) (slots : List (Option ℕ)) (n : ℕ) → n ≡ 256 → slots ≡ map (slot_of addresses) (range_with_len 0 n) → AreSlots addresses slots
slots-all addresses slots n end is = is ∙ ap (λ k. map (slot_of addresses) (range_with_len 0 k)) end

pub plan-of : (program : ProgramValue) (plan : Plan) → IsProgram program → plan.addresses.items ≡ stored_addresses program → AreSlots plan.addresses.items plan.slots.items →
    AreStarts program.lists plan.starts.items → IsPlanOf program plan
plan-of program plan limits addresses slots starts = record {
  starts = starts;
  slots = slots;
  addresses = addresses;
  program_limits = limits;
  places = has-places program plan.addresses.items limits addresses;
}
