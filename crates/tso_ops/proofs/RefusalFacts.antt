-- That lists get one refusal at most, and none where they keep the limits.
use Rattle.std.proofs.Common.{◌≡◌, eq-eqb, ◌⊎◌, ◌∙◌, ⊎_elim, inl, inr, sym, ap, subst, refl, ℕ, nat_lt, ◌+◌, ◌<◌, ◌≤◌, Bool, true, false, ◌||◌, eqb, List, [], ◌∷◌, ◌++◌, length, nat_le, ◌^◌, Option, Some, None, sum_by, arith}
use Rattle.std.specs.List.{flat_map, list_any, IsDistinct, AllByRecursion}
use Rattle.std.specs.Option.{option_to_list, option_map_or}
use Rattle.std.proofs.lemmas.Bool.{false≢true, cases_lt, cases_eq}
use Rattle.std.proofs.lemmas.Bool.Decides.{nat_tests}
use Rattle.std.proofs.lemmas.List.Concat.{flat_map-append}
use Rattle.std.proofs.lemmas.List.Sums.{sum_by-append, sum_by-cons}
use Rattle.std.proofs.lemmas.List.Elements.{recursion_from_All, All-weaker}
use Rattle.std.proofs.lemmas.List.Folds.{list_any-append, list_any_none}
use Rattle.std.proofs.lemmas.Map.Keys.{IsDistinct-head, IsDistinct-tail}
use Rattle.tso_ops.specs.declared.ops.Op.{Op}
use Rattle.tso_ops.specs.declared.ops.Op.TheVariants.{Ld, St, Sw, Mb, Sb}
use Rattle.tso_ops.specs.declared.faults.ValueFault.{ValueFault}
use Rattle.tso_ops.specs.declared.faults.ValueFault.TheVariants.{TooManyProcessors, TooManyEvents, AddressRange, ZeroValue, RepeatedValue, OutOfMemory, StbarInTso, InitOrder}
use Rattle.tso_ops.specs.Settings.{SettingValue, values_of, event_limit, barrier_limit}
use Rattle.tso_ops.specs.Values.{ProgramValue, in_file_order}
use Rattle.tso_ops.proofs.LimitFacts.{not_refused}
use Rattle.tso_ops.specs.Limits.{event_count, barrier_count, address_of, stored_by, total_events, total_barriers, addresses_of, stored_values, KeepsLimits, IsProgram, is_stbar_in_tso, has_fault, has_entry_fault, KeepsEntries, fault_number, IsFirstFault, IsFaultless, IsFaultOf, IsValueRefusal}

-- ---- one refusal at most

-- the number determines the refusal
same_fault : (v w : ValueFault) → fault_number v ≡ fault_number w → v ≡ w
same_fault TooManyProcessors TooManyProcessors e = refl
same_fault TooManyEvents TooManyEvents e = refl
same_fault AddressRange AddressRange e = refl
same_fault ZeroValue ZeroValue e = refl
same_fault RepeatedValue RepeatedValue e = refl
same_fault OutOfMemory OutOfMemory e = refl
same_fault StbarInTso StbarInTso e = refl
same_fault InitOrder InitOrder e = refl
same_fault v w e = absurd (omega arith)

-- of two elements of one list, one stands before the other or they are one
two_places : {X : Type 0} → (b : List X) (o : X) (a : List X) (c : List X) (q : X) (d : List X) → b ++ o ∷ a ≡ c ++ q ∷ d →
    ((b ≡ c) × (o ≡ q)) ⊎ (((rest : List X) × (c ≡ b ++ o ∷ rest)) ⊎ ((rest : List X) × (b ≡ c ++ q ∷ rest)))
two_places [] o a [] q d e = inl (refl, cc)
two_places [] o a (x ∷ c) q d e = inr (inl (c, cc))
two_places (y ∷ b) o a [] q d e = inr (inr (b, cc))
two_places (y ∷ b) o a (x ∷ c) q d e =
    let rest : b ++ o ∷ a ≡ c ++ q ∷ d = cc in
    let head : y ≡ x = cc in
    ⊎_elim (λ same. inl (cc, same.1)) (⊎_elim (λ before. inr (inl (before.0, cc))) (λ later. inr (inr (later.0, cc)))) (two_places b o a c q d rest)

-- no item before the first one with a fault has one
not_before : {X : Type 0} (has : List X → X → ValueFault → Bool) → (before : List X) (item : X) (why : ValueFault) (rest items : List X) → IsFaultless has items →
    items ≡ before ++ item ∷ rest → has before item why ≡ true → ⊥
not_before has before item why rest items faultless parts fault = false≢true (sym (faultless before item rest why parts) ∙ fault)

one_first_fault : {X : Type 0} (has : List X → X → ValueFault → Bool) → (before : List X) (item : X) (v w : ValueFault) → IsFirstFault has before item v → IsFirstFault has before item w → v ≡ w
one_first_fault has before item v w first other =
    same_fault v w
    (⊎_elim (λ less. absurd (false≢true (sym (other.least v less) ∙ first.fault)))
    (λ not_less. ⊎_elim (λ more. absurd (false≢true (sym (first.least w more) ∙ other.fault))) (λ not_more. omega arith) (cases_lt (fault_number w) (fault_number v)))
    (cases_lt (fault_number v) (fault_number w)))

one_fault : {X : Type 0} (has : List X → X → ValueFault → Bool) → (items : List X) (v w : ValueFault) → IsFaultOf has items v → IsFaultOf has items w → v ≡ w
one_fault has items v w f h =
    ⊎_elim
    (λ same. one_first_fault has f.before f.item v w f.first
    (subst (λ b. IsFirstFault has b f.item w) (sym same.0) (subst (λ o. IsFirstFault has h.before o w) (sym same.1) h.first)))
    (⊎_elim
    (λ earlier. absurd (not_before has f.before f.item v earlier.0 h.before h.faultless earlier.1 f.first.fault))
    (λ later. absurd (not_before has h.before h.item w later.0 f.before f.faultless later.1 h.first.fault)))
    (two_places f.before f.item f.after h.before h.item h.after (sym f.parts ∙ h.parts))

pub one_refusal : (p : ProgramValue) (v w : ValueFault) → IsValueRefusal p v → IsValueRefusal p w → v ≡ w
one_refusal p v w (inl many) (inl also) = many.1 ∙ sym also.1
one_refusal p v w (inl many) (inr (inl few)) = absurd (omega (arith, many.0, few.0))
one_refusal p v w (inl many) (inr (inr few)) = absurd (omega (arith, many.0, few.0))
one_refusal p v w (inr (inl few)) (inl many) = absurd (omega (arith, many.0, few.0))
one_refusal p v w (inr (inr few)) (inl many) = absurd (omega (arith, many.0, few.0))
one_refusal p v w (inr (inl few)) (inr (inl also)) = one_fault has_entry_fault p.setting.first v w few.1 also.1
one_refusal p v w (inr (inl few)) (inr (inr also)) = absurd (not_refused has_entry_fault p.setting.first v also.1 few.1)
one_refusal p v w (inr (inr few)) (inr (inl also)) = absurd (not_refused has_entry_fault p.setting.first w few.1 also.1)
one_refusal p v w (inr (inr few)) (inr (inr also)) = one_fault (has_fault p.setting) (in_file_order p) v w few.2 also.2

-- ---- what keeps the limits isn't refused

pub each-middle : {X : Type 0} (P : X → Type 0) → (xs : List X) (x : X) (ys : List X) → AllByRecursion P (xs ++ x ∷ ys) → P x
each-middle P [] x ys all = all.0
each-middle P (y ∷ xs) x ys all = each-middle P xs x ys all.1

-- what is given of the operation in the middle stands among what is given of all
middle : (f : Op → Option ℕ) (before : List Op) (op : Op) (after : List Op) (v : ℕ) → f op ≡ Some v →
    flat_map (λ o. option_to_list (f o)) (before ++ op ∷ after) ≡ flat_map (λ o. option_to_list (f o)) before ++ v ∷ flat_map (λ o. option_to_list (f o)) after
middle f before op after v is =
    flat_map-append (λ o. option_to_list (f o)) before (op ∷ after)
    ∙ ap (λ o. flat_map (λ o. option_to_list (f o)) before ++ (option_to_list o ++ flat_map (λ o. option_to_list (f o)) after)) is

or_second : (a b : Bool) → a ≡ false → (a || b) ≡ true → b ≡ true
or_second true b differs either = absurd (false≢true (sym differs))
or_second false b differs either = either

differs_eqb : (a b : ℕ) → (a ≡ b → ⊥) → eqb a b ≡ false
differs_eqb a b other = grind (arith, nat_tests)

-- a value among those before makes the values not distinct
not_distinct : (xs : List ℕ) (v : ℕ) (ys : List ℕ) → list_any (eqb v) xs ≡ true → IsDistinct eqb (xs ++ v ∷ ys) → ⊥
not_distinct [] v ys found distinct = false≢true found
not_distinct (x ∷ xs) v ys found distinct =
    ⊎_elim
    (λ (same : v ≡ x).
    let differs = each-middle (λ y. eqb x y ≡ false) xs v ys (IsDistinct-head eqb x (xs ++ v ∷ ys) distinct) in
    let equal : eqb x v ≡ true = eq-eqb x v (sym same) in
    false≢true (sym differs ∙ equal))
    (λ (other : v ≡ x → ⊥).
    let differs : eqb v x ≡ false = differs_eqb v x other in
    not_distinct xs v ys (or_second (eqb v x) (list_any (eqb v) xs) differs found) (IsDistinct-tail eqb x (xs ++ v ∷ ys) distinct))
    (cases_eq v x)

past_breaks : (a : Option ℕ) (before : List Op) (op : Op) (after : List Op) → address_of op ≡ a → option_map_or (nat_lt 255) a false ≡ true →
    AllByRecursion (λ a. a < 256) (addresses_of (before ++ op ∷ after)) → ⊥
past_breaks None before op after is fault all = false≢true fault
past_breaks (Some a) before op after is fault all =
    let within = each-middle (λ a. a < 256) (addresses_of before) a (addresses_of after) (subst (AllByRecursion (λ a. a < 256)) (middle address_of before op after a is) all) in
    grind (arith, nat_tests)

zero_breaks : (v : Option ℕ) (before : List Op) (op : Op) (after : List Op) → stored_by op ≡ v → option_map_or (λ v. eqb v 0) v false ≡ true →
    AllByRecursion (λ v. 0 < v) (stored_values (before ++ op ∷ after)) → ⊥
zero_breaks None before op after is fault all = false≢true fault
zero_breaks (Some v) before op after is fault all =
    let above = each-middle (λ v. 0 < v) (stored_values before) v (stored_values after) (subst (AllByRecursion (λ v. 0 < v)) (middle stored_by before op after v is) all) in
    grind (arith, nat_tests)

repeat_breaks : (first : List ℕ) (v : Option ℕ) (before : List Op) (op : Op) (after : List Op) → stored_by op ≡ v → option_map_or (λ v. list_any (eqb v) (first ++ stored_values before)) v false ≡ true →
    IsDistinct eqb (stored_values (before ++ op ∷ after)) → AllByRecursion (λ v. list_any (eqb v) first ≡ false) (stored_values (before ++ op ∷ after)) → ⊥
repeat_breaks first None before op after is fault distinct apart = false≢true fault
repeat_breaks first (Some v) before op after is fault distinct apart =
    let differs = each-middle (λ v. list_any (eqb v) first ≡ false) (stored_values before) v (stored_values after)
    (subst (AllByRecursion (λ v. list_any (eqb v) first ≡ false)) (middle stored_by before op after v is) apart) in
    not_distinct (stored_values before) v (stored_values after)
    (or_second (list_any (eqb v) first) (list_any (eqb v) (stored_values before)) differs (sym (list_any-append (eqb v) first (stored_values before)) ∙ fault))
    (subst (IsDistinct eqb) (middle stored_by before op after v is) distinct)

-- the numbers of events or of barriers up to an operation are part of the whole
prefix_total : (count : Op → ℕ) (before : List Op) (op : Op) (after : List Op) → sum_by count before + count op ≤ sum_by count (before ++ op ∷ after)
prefix_total count before op after = omega (arith, sum_by-append count before (op ∷ after), sum_by-cons count op after)

many_breaks : (setting : SettingValue) (before : List Op) (op : Op) (after : List Op) → total_events (before ++ op ∷ after) ≤ event_limit setting.version →
    total_barriers (before ++ op ∷ after) ≤ barrier_limit setting.version → has_fault setting before op TooManyEvents ≡ true → ⊥
many_breaks setting before op after events barriers fault =
    let few : total_events before + event_count op ≤ event_limit setting.version = omega (arith, prefix_total event_count before op after) in
    let few_barriers : total_barriers before + barrier_count op ≤ barrier_limit setting.version = omega (arith, prefix_total barrier_count before op after) in
    grind (arith, nat_tests)

-- an operation that has a fault breaks a limit
fault_breaks : (setting : SettingValue) (before : List Op) (op : Op) (after : List Op) (why : ValueFault) → KeepsLimits setting (before ++ op ∷ after) →
    has_fault setting before op why ≡ true → ⊥
fault_breaks setting before op after TooManyProcessors limits fault = false≢true fault
fault_breaks setting before op after TooManyEvents limits fault = many_breaks setting before op after limits.events limits.barriers fault
fault_breaks setting before op after AddressRange limits fault = past_breaks (address_of op) before op after refl fault (recursion_from_All _ _ limits.addresses)
fault_breaks setting before op after ZeroValue limits fault = zero_breaks (stored_by op) before op after refl fault (recursion_from_All _ _ limits.non_zero)
fault_breaks setting before op after RepeatedValue limits fault =
    repeat_breaks (values_of setting.first) (stored_by op) before op after refl fault limits.distinct (recursion_from_All _ _ limits.apart)
fault_breaks setting before op after OutOfMemory limits fault = false≢true fault
fault_breaks setting before op after StbarInTso limits fault =
    false≢true (sym (each-middle (λ op. is_stbar_in_tso setting.order op ≡ false) before op after (recursion_from_All _ _ limits.stbars)) ∙ fault)
fault_breaks setting before op after InitOrder limits fault = false≢true fault

-- what isn't true is false
decided : (b : Bool) → (b ≡ true → ⊥) → b ≡ false
decided true not = absurd (not refl)
decided false not = refl

-- an operation of a list that keeps the limits has no fault
pub kept_faultless : (setting : SettingValue) (before : List Op) (op : Op) (after : List Op) → KeepsLimits setting (before ++ op ∷ after) → (why : ValueFault) →
    has_fault setting before op why ≡ false
kept_faultless setting before op after limits why = decided (has_fault setting before op why) (fault_breaks setting before op after why limits)

-- an entry of first values that keep their limits has no fault
pub kept_entry : (before : List (ℕ × ℕ)) (entry : ℕ × ℕ) (after : List (ℕ × ℕ)) → KeepsEntries (before ++ entry ∷ after) → (why : ValueFault) → has_entry_fault before entry why ≡ false
kept_entry before entry after keeps TooManyProcessors = refl
kept_entry before entry after keeps TooManyEvents = refl
kept_entry before entry after keeps AddressRange =
    let within = each-middle (λ (e : ℕ × ℕ). e.0 < 256) before entry after (recursion_from_All _ _ keeps.addresses) in grind (arith, nat_tests)
kept_entry before entry after keeps ZeroValue =
    let above = each-middle (λ (e : ℕ × ℕ). 0 < e.1) before entry after (recursion_from_All _ _ keeps.non_zero) in grind (arith, nat_tests)
kept_entry before entry after keeps RepeatedValue = refl
kept_entry before entry after keeps OutOfMemory = refl
kept_entry before entry after keeps StbarInTso = refl
kept_entry before entry after keeps InitOrder =
    list_any_none (λ (e : ℕ × ℕ). nat_le entry.0 e.0) before
    (All-weaker (λ (e : ℕ × ℕ). e.0 < entry.0) (λ (e : ℕ × ℕ). nat_le entry.0 e.0 ≡ false) (λ e less. grind (arith, nat_tests)) before (keeps.ascending before entry after refl))

kept_entries : (first : List (ℕ × ℕ)) → KeepsEntries first → IsFaultless has_entry_fault first
kept_entries first keeps before entry after why parts = kept_entry before entry after (subst KeepsEntries parts keeps) why

-- its address is within the range
pub kept_address : (setting : SettingValue) (before : List Op) (op : Op) (after : List Op) (a : ℕ) → KeepsLimits setting (before ++ op ∷ after) → address_of op ≡ Some a → a < 256
kept_address setting before op after a limits is =
    each-middle (λ a. a < 256) (addresses_of before) a (addresses_of after) (subst (AllByRecursion (λ a. a < 256)) (middle address_of before op after a is) (recursion_from_All _ _ limits.addresses))

-- the value that it writes is one of 64 bits
pub kept_value : (setting : SettingValue) (before : List Op) (op : Op) (after : List Op) (v : ℕ) → KeepsLimits setting (before ++ op ∷ after) → stored_by op ≡ Some v → v < 2 ^ 64
kept_value setting before op after v limits is =
    each-middle (λ v. v < 2 ^ 64) (stored_values before) v (stored_values after) (subst (AllByRecursion (λ v. v < 2 ^ 64)) (middle stored_by before op after v is) (recursion_from_All _ _ limits.fits))

-- each operation is an event or a barrier at least
counted : (ops : List Op) → length ops ≤ total_events ops + total_barriers ops
counted [] = omega arith
counted (op ∷ ops) = omega (arith, counted ops, sum_by-cons event_count op ops, sum_by-cons barrier_count op ops, counts op)
  where
    counts : (op : Op) → 1 ≤ event_count op + barrier_count op
    counts (Ld a) = omega arith
    counts (St a v) = omega arith
    counts (Sw a v) = omega arith
    counts Mb = omega arith
    counts Sb = omega arith

-- lists that keep the limits have no more operations than events and barriers
pub kept_few : (setting : SettingValue) (ops : List Op) → KeepsLimits setting ops → length ops ≤ event_limit setting.version + barrier_limit setting.version
kept_few setting ops limits = omega (arith, counted ops, limits.events, limits.barriers)

pub program_not_refused : (p : ProgramValue) (why : ValueFault) → IsProgram p → IsValueRefusal p why → ⊥
program_not_refused p why program (inl many) = omega (arith, many.0, program.processors)
program_not_refused p why program (inr (inl few)) = not_refused has_entry_fault p.setting.first why (kept_entries p.setting.first program.entries) few.1
program_not_refused p why program (inr (inr few)) =
    let f = few.2 in fault_breaks p.setting f.before f.item f.after why (subst (KeepsLimits p.setting) f.parts program.limits) f.first.fault
