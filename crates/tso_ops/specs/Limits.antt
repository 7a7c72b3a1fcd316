-- The limits of programs and traces, and which refusal a value that breaks them gets.
use Rattle.std.specs.Prelude.{◌≡◌, ◌⊎◌, ℕ, ◌+◌, ◌<◌, ◌≤◌, ◌^◌, ◌==◌, ◌||◌, Bool, true, false, nat_lt, nat_le, nat_eq, List, [], ◌∷◌, ◌++◌, length, Option, Some, None, All, sum_by}
use Rattle.std.specs.List.{flat_map, list_any, IsDistinct}
use Rattle.std.specs.Option.{option_to_list, option_map_or}
use Rattle.tso_ops.specs.declared.ops.Op.{Op}
use Rattle.tso_ops.specs.declared.ops.Op.TheVariants.{Ld, St, Sw, Mb, Sb}
use Rattle.tso_ops.specs.declared.faults.ValueFault.{ValueFault}
use Rattle.tso_ops.specs.declared.faults.ValueFault.TheVariants.{TooManyProcessors, TooManyEvents, AddressRange, ZeroValue, RepeatedValue, OutOfMemory, StbarInTso, InitOrder}
use Rattle.tso_ops.specs.declared.settings.Version.TheVariants.{One}
use Rattle.tso_ops.specs.declared.settings.Order.{Order}
use Rattle.tso_ops.specs.declared.settings.Order.TheVariants.{Tso}
use Rattle.tso_ops.specs.Settings.{SettingValue, values_of, event_limit, barrier_limit}
use Rattle.tso_ops.specs.Values.{ProgramValue, TraceValue, ReadFits, program_of, in_file_order, outcomes_in_file_order}

-- how many events the operation gives: a swap its load and its store, a barrier none
abbrev pub event_count : Op → ℕ
event_count (Ld a) = 1
event_count (St a v) = 1
event_count (Sw a v) = 2
event_count Mb = 0
event_count Sb = 0

-- how many barriers of either kind the operation is
abbrev pub barrier_count : Op → ℕ
barrier_count (Ld a) = 0
barrier_count (St a v) = 0
barrier_count (Sw a v) = 0
barrier_count Mb = 1
barrier_count Sb = 1

abbrev pub address_of : Op → Option ℕ
address_of (Ld a) = Some a
address_of (St a v) = Some a
address_of (Sw a v) = Some a
address_of _ = None

-- the value that the operation writes
abbrev pub stored_by : Op → Option ℕ
stored_by (St a v) = Some v
stored_by (Sw a v) = Some v
stored_by _ = None

-- the operation is an STBAR, which TSO has none of
abbrev pub is_stbar_in_tso : Order → Op → Bool
is_stbar_in_tso Tso Sb = true
is_stbar_in_tso _ _ = false

abbrev pub total_events : List Op → ℕ
total_events ops = sum_by event_count ops

abbrev pub total_barriers : List Op → ℕ
total_barriers ops = sum_by barrier_count ops

abbrev pub addresses_of : List Op → List ℕ
addresses_of ops = flat_map (λ op. option_to_list (address_of op)) ops

-- the values that the operations write, in their order
abbrev pub stored_values : List Op → List ℕ
stored_values ops = flat_map (λ op. option_to_list (stored_by op)) ops

-- The entries of first values stand in the order of their addresses, which are in range, and none of the values is 0.
pub record KeepsEntries (first : List (ℕ × ℕ)) : Type 0 where
  pub addresses : All (λ entry. entry.0 < 256) first
  pub ascending : (before : List (ℕ × ℕ)) (entry : ℕ × ℕ) (after : List (ℕ × ℕ)) → first ≡ before ++ entry ∷ after → All (λ other. other.0 < entry.0) before
  pub non_zero : All (λ entry. 0 < entry.1) first
  pub fits : All (λ entry. entry.1 < 2 ^ 64) first

-- The operations of all processors keep the limits of the setting.
pub record KeepsLimits (setting : SettingValue) (ops : List Op) : Type 0 where
  pub events : total_events ops ≤ event_limit setting.version
  pub barriers : total_barriers ops ≤ barrier_limit setting.version
  pub addresses : All (λ a. a < 256) (addresses_of ops)
  pub non_zero : All (λ v. 0 < v) (stored_values ops)
  pub distinct : IsDistinct nat_eq (stored_values ops)
  pub fits : All (λ v. v < 2 ^ 64) (stored_values ops)
  -- no stored value is a first value, of whatever address
  pub apart : All (λ v. list_any (nat_eq v) (values_of setting.first) ≡ false) (stored_values ops)
  pub stbars : All (λ op. is_stbar_in_tso setting.order op ≡ false) ops

-- What the type `Program` keeps.
pub record IsProgram (p : ProgramValue) : Type 0 where
  pub processors : length p.lists ≤ 16
  pub version_one : p.setting.version ≡ One → p.setting.first ≡ []
  pub entries : KeepsEntries p.setting.first
  pub limits : KeepsLimits p.setting (in_file_order p)

-- What the type `Trace` keeps.
pub record IsTrace (t : TraceValue) : Type 0 where
  pub program : IsProgram (program_of t)
  pub reads : All ReadFits (outcomes_in_file_order t)

-- The operation has the fault, with these operations before it in file order.
abbrev pub has_fault : SettingValue → List Op → Op → ValueFault → Bool
has_fault setting before op TooManyEvents =
    nat_lt (event_limit setting.version) (total_events before + event_count op) || nat_lt (barrier_limit setting.version) (total_barriers before + barrier_count op)
has_fault setting before op AddressRange = option_map_or (nat_lt 255) (address_of op) false
has_fault setting before op ZeroValue = option_map_or (λ v. v == 0) (stored_by op) false
has_fault setting before op RepeatedValue = option_map_or (λ v. list_any (nat_eq v) (values_of setting.first ++ stored_values before)) (stored_by op) false
has_fault setting before op StbarInTso = is_stbar_in_tso setting.order op
has_fault setting before op _ = false

-- The entry of a first value has the fault, with these entries before it.
abbrev pub has_entry_fault : List (ℕ × ℕ) → ℕ × ℕ → ValueFault → Bool
has_entry_fault before entry AddressRange = nat_lt 255 entry.0
has_entry_fault before entry ZeroValue = entry.1 == 0
has_entry_fault before entry InitOrder = list_any (λ other. nat_le entry.0 other.0) before
has_entry_fault before entry _ = false

-- the number of the refusal: of two on one operation or entry the lesser counts
abbrev pub fault_number : ValueFault → ℕ
fault_number TooManyProcessors = 1
fault_number TooManyEvents = 2
fault_number AddressRange = 3
fault_number ZeroValue = 4
fault_number RepeatedValue = 5
fault_number OutOfMemory = 6
fault_number StbarInTso = 7
fault_number InitOrder = 8

-- The fault is the first, by its number, that the item has after these. `has` says which faults an item has after others.
pub record IsFirstFault {X : Type 0} (has : List X → X → ValueFault → Bool) (before : List X) (item : X) (why : ValueFault) : Type 0 where
  pub fault : has before item why ≡ true
  pub least : (other : ValueFault) → fault_number other < fault_number why → has before item other ≡ false

-- No item has a fault after those before it.
abbrev pub IsFaultless : {X : Type 0} → (List X → X → ValueFault → Bool) → List X → Type 0
IsFaultless {X} has items = (before : List X) (item : X) (after : List X) (why : ValueFault) → items ≡ before ++ item ∷ after → has before item why ≡ false

-- The first item that has a fault has this one first.
pub record IsFaultOf {X : Type 0} (has : List X → X → ValueFault → Bool) (items : List X) (why : ValueFault) : Type 0 where
  pub before : List X
  pub item : X
  pub after : List X
  pub parts : items ≡ before ++ item ∷ after
  pub faultless : IsFaultless has before
  pub first : IsFirstFault has before item why

-- The refusal is the first fault of the entry after these, or memory was refused.
abbrev pub IsEntryRefusal : List (ℕ × ℕ) → ℕ × ℕ → ValueFault → Type 0
IsEntryRefusal before entry why = (why ≡ OutOfMemory) ⊎ IsFirstFault has_entry_fault before entry why

-- The refusal that the lists of a program get: too many processors before all else, then the first entry of first values with a fault, then the
-- first operation with a fault.
abbrev pub IsValueRefusal : ProgramValue → ValueFault → Type 0
IsValueRefusal p why =
    ((16 < length p.lists) × (why ≡ TooManyProcessors))
    ⊎ ((length p.lists ≤ 16) × IsFaultOf has_entry_fault p.setting.first why)
    ⊎ ((length p.lists ≤ 16) × IsFaultless has_entry_fault p.setting.first × IsFaultOf (has_fault p.setting) (in_file_order p) why)
