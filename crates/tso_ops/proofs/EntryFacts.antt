-- Lemmas on the entries of first values: their check, one after the other, and the value of an address.
use Rattle.std.proofs.Common.{◌≡◌, ◌∙◌, ⊎_elim, sym, ap, refl, ℕ, ◌+◌, ◌<◌, ◌≤◌, ◌^◌, ◌||◌, Bool, true, false, nat_eq, nat_le, nat_lt, eqb, cond, List, [], ◌∷◌, ◌++◌, All, ◌-◌, length, get_or, take, drop, slice_get, Some, arith}
use Rattle.std.specs.List.{list_any}
use Rattle.std.specs.Ordering.{nat_cmp}
use Rattle.std.specs.BTreeSet.{BTreeSet, contains, Updates}
use Rattle.std.proofs.lemmas.Bool.{false≢true, cases_lt}
use Rattle.std.proofs.lemmas.Bool.Decides.{nat_tests}
use Rattle.std.proofs.lemmas.List.{drop_more, drop_all, take_more, take-append-drop, map-append}
use Rattle.std.proofs.lemmas.List.Elements.{All-nil, All-cons, All-head, All-tail, All-push}
use Rattle.std.proofs.lemmas.Option.{slice_get_within, slice_get-get_or}
use Rattle.std.proofs.lemmas.List.Folds.{list_any-append}
use Rattle.tso_ops.specs.declared.faults.ValueFault.{ValueFault}
use Rattle.tso_ops.specs.declared.faults.ValueFault.TheVariants.{TooManyProcessors, TooManyEvents, AddressRange, ZeroValue, RepeatedValue, OutOfMemory, StbarInTso, InitOrder}
use Rattle.tso_ops.specs.Settings.{first_value, values_of}
use Rattle.tso_ops.specs.Limits.{KeepsEntries, has_entry_fault, fault_number, IsFaultless, IsFaultOf, IsFirstFault}
use Rattle.tso_ops.specs.Internal.Entries.{EndsBelow}
use Rattle.tso_ops.proofs.LimitFacts.{split_push, IsFaultless-nil, IsFaultless-push, IsFaultOf-next}
use Rattle.tso_ops.proofs.TallyFacts.{stored-push}

-- the entries keep their limits and have no fault, and their addresses end below `least`
pub record AreChecked (entries : List (ℕ × ℕ)) (least : ℕ) : Type 0 where
  pub keeps : KeepsEntries entries
  pub faultless : IsFaultless has_entry_fault entries
  pub below : EndsBelow entries least

pub KeepsEntries-nil : KeepsEntries []
KeepsEntries-nil = record { addresses = All-nil _; ascending = none; non_zero = All-nil _; fits = All-nil _ }
  where
    none : (before : List (ℕ × ℕ)) (entry : ℕ × ℕ) (after : List (ℕ × ℕ)) → [] ≡ before ++ entry ∷ after → All (λ other. other.0 < entry.0) before
    none [] entry after e = absurd cc
    none (b ∷ bs) entry after e = absurd cc

pub AreChecked-nil : AreChecked [] 0
AreChecked-nil = record { keeps = KeepsEntries-nil; faultless = IsFaultless-nil has_entry_fault; below = λ a. grind (arith, nat_tests) }

-- no address of the entries is the given one or a greater one
none_above : (entries : List (ℕ × ℕ)) (a : ℕ) → list_any (λ (other : ℕ × ℕ). nat_le a other.0) entries ≡ false → All (λ (other : ℕ × ℕ). other.0 < a) entries
none_above [] a none = All-nil _
none_above (entry ∷ entries) a none =
    let parts = neither (nat_le a entry.0) (list_any (λ (other : ℕ × ℕ). nat_le a other.0) entries) none in
    let here : entry.0 < a = (let test = parts.0 in grind (arith, nat_tests)) in
    All-cons (λ (other : ℕ × ℕ). other.0 < a) entry entries here (none_above entries a parts.1)
  where
    neither : (a b : Bool) → (a || b) ≡ false → (a ≡ false) × (b ≡ false)
    neither true b e = absurd (false≢true (sym e))
    neither false b e = (refl, e)

-- an entry that may come next
pub record IsNextEntry (least : ℕ) (entry : ℕ × ℕ) : Type 0 where
  pub within : entry.0 < 256
  pub non_zero : 0 < entry.1
  pub fits : entry.1 < 2 ^ 64
  pub after : least ≤ entry.0

next_above : (entries : List (ℕ × ℕ)) (least : ℕ) (entry : ℕ × ℕ) → EndsBelow entries least → IsNextEntry least entry → list_any (λ (other : ℕ × ℕ). nat_le entry.0 other.0) entries ≡ false
next_above entries least entry below next = below entry.0 ∙ (let low = next.after in grind (arith, nat_tests))

-- an entry that may come next has no fault
pub next_faultless : (entries : List (ℕ × ℕ)) (least : ℕ) (entry : ℕ × ℕ) → EndsBelow entries least → IsNextEntry least entry → (why : ValueFault) → has_entry_fault entries entry why ≡ false
next_faultless entries least entry below next TooManyProcessors = refl
next_faultless entries least entry below next TooManyEvents = refl
next_faultless entries least entry below next AddressRange = let within = next.within in grind (arith, nat_tests)
next_faultless entries least entry below next ZeroValue = let non_zero = next.non_zero in grind (arith, nat_tests)
next_faultless entries least entry below next RepeatedValue = refl
next_faultless entries least entry below next OutOfMemory = refl
next_faultless entries least entry below next StbarInTso = refl
next_faultless entries least entry below next InitOrder = next_above entries least entry below next

-- the entries keep their limits with one more
pub KeepsEntries-push : (entries : List (ℕ × ℕ)) (least : ℕ) (entry : ℕ × ℕ) → KeepsEntries entries → EndsBelow entries least → IsNextEntry least entry → KeepsEntries (entries ++ entry ∷ [])
KeepsEntries-push entries least entry keeps below next = record {
  addresses = All-push (λ (e : ℕ × ℕ). e.0 < 256) entries entry keeps.addresses next.within;
  ascending = λ before other after e.
      ⊎_elim (λ last. rw (last.0, last.1) (none_above entries entry.0 (next_above entries least entry below next)))
      (λ earlier. keeps.ascending before other earlier.0 earlier.1) (split_push entries entry before other after e);
  non_zero = All-push (λ (e : ℕ × ℕ). 0 < e.1) entries entry keeps.non_zero next.non_zero;
  fits = All-push (λ (e : ℕ × ℕ). e.1 < 2 ^ 64) entries entry keeps.fits next.fits;
}

-- so they do with one more that has no fault after them
pub KeepsEntries-clean : (entries : List (ℕ × ℕ)) (entry : ℕ × ℕ) → KeepsEntries entries → ((why : ValueFault) → has_entry_fault entries entry why ≡ false) → entry.1 < 2 ^ 64 → KeepsEntries (entries ++ entry ∷ [])
KeepsEntries-clean entries entry keeps clean fits = record {
  addresses = All-push (λ (e : ℕ × ℕ). e.0 < 256) entries entry keeps.addresses (let low = clean AddressRange in grind (arith, nat_tests));
  ascending = λ before other after e.
      ⊎_elim (λ last. rw (last.0, last.1) (none_above entries entry.0 (clean InitOrder)))
      (λ earlier. keeps.ascending before other earlier.0 earlier.1) (split_push entries entry before other after e);
  non_zero = All-push (λ (e : ℕ × ℕ). 0 < e.1) entries entry keeps.non_zero (let some = clean ZeroValue in grind (arith, nat_tests));
  fits = All-push (λ (e : ℕ × ℕ). e.1 < 2 ^ 64) entries entry keeps.fits fits;
}

-- what holds at each place holds of all
all_places : {X : Type 0} (P : X → Type 0) (xs : List X) → ((before : List X) (x : X) (after : List X) → xs ≡ before ++ x ∷ after → P x) → All P xs
all_places P [] holds = All-nil P
all_places P (x ∷ xs) holds = All-cons P x xs (holds [] x xs refl) (all_places P xs (λ before y after at. holds (x ∷ before) y after (ap (λ ys. x ∷ ys) at)))

-- each address is above those before it
abbrev Ascending : List (ℕ × ℕ) → Type 0
Ascending first = (before : List (ℕ × ℕ)) (entry : ℕ × ℕ) (after : List (ℕ × ℕ)) → first ≡ before ++ entry ∷ after → All (λ other. other.0 < entry.0) before

few_from : (k : ℕ) (first : List (ℕ × ℕ)) → k ≤ 256 → All (λ entry. k ≤ entry.0) first → All (λ entry. entry.0 < 256) first → Ascending first → k + length first ≤ 256
few_from k [] low above within ascending = omega (arith, low)
few_from k (entry ∷ rest) low above within ascending =
    let here : k ≤ entry.0 = All-head (λ (other : ℕ × ℕ). k ≤ other.0) entry rest above in
    let inside : entry.0 < 256 = All-head (λ (other : ℕ × ℕ). other.0 < 256) entry rest within in
    let next : All (λ (other : ℕ × ℕ). k + 1 ≤ other.0) rest =
    all_places (λ (other : ℕ × ℕ). k + 1 ≤ other.0) rest
    (λ before other after at. let less : entry.0 < other.0 = All-head (λ (o : ℕ × ℕ). o.0 < other.0) entry before (ascending (entry ∷ before) other after (ap (λ r. entry ∷ r) at)) in omega (arith, here, less)) in
    let more : (k + 1) + length rest ≤ 256 =
    few_from (k + 1) rest (omega (arith, here, inside)) next (All-tail (λ (other : ℕ × ℕ). other.0 < 256) entry rest within)
    (λ before other after at. All-tail (λ (o : ℕ × ℕ). o.0 < other.0) entry before (ascending (entry ∷ before) other after (ap (λ r. entry ∷ r) at))) in
    omega (arith, more)

-- there are no more entries than addresses
pub KeepsEntries-few : (first : List (ℕ × ℕ)) → KeepsEntries first → length first ≤ 256
KeepsEntries-few first keeps = omega (arith, few_from 0 first (omega arith) (all_places (λ (entry : ℕ × ℕ). 0 ≤ entry.0) first (λ before entry after at. omega arith)) keeps.addresses keeps.ascending)

-- one more entry
AreChecked-push : (entries : List (ℕ × ℕ)) (least : ℕ) (entry : ℕ × ℕ) → AreChecked entries least → IsNextEntry least entry → AreChecked (entries ++ entry ∷ []) (entry.0 + 1)
AreChecked-push entries least entry checked next = record {
  keeps = KeepsEntries-push entries least entry checked.keeps checked.below next;
  faultless = IsFaultless-push has_entry_fault entries entry checked.faultless (next_faultless entries least entry checked.below next);
  below = λ a.
      list_any-append (λ (other : ℕ × ℕ). nat_le a other.0) entries (entry ∷ []) ∙ ap (λ b. b || (nat_le a entry.0 || false)) (checked.below a)
      ∙ (let low = next.after in joined a);
}
  where
    either_false : (b : Bool) → (b || false) ≡ b
    either_false true = refl
    either_false false = refl

    joined : (a : ℕ) → (nat_lt a least || (nat_le a entry.0 || false)) ≡ nat_lt a (entry.0 + 1)
    joined a = ap (λ b. nat_lt a least || b) (either_false (nat_le a entry.0)) ∙ (let low = next.after in ⊎_elim
        (λ (less : a < least). let one : nat_lt a least ≡ true = grind (arith, nat_tests) in let all : nat_lt a (entry.0 + 1) ≡ true = grind (arith, nat_tests) in rw (one, all) refl)
        (λ (more : least ≤ a). let none : nat_lt a least ≡ false = grind (arith, nat_tests) in rw none (grind (arith, nat_tests)))
        (cases_lt a least))

pub AreChecked-next : (first : List (ℕ × ℕ)) (i least : ℕ) (d : ℕ × ℕ) → i < length first → AreChecked (take i first) least → IsNextEntry least (get_or first i d) →
    AreChecked (take (i + 1) first) ((get_or first i d).0 + 1)
AreChecked-next first i least d within checked next = rw (take_more first i d within) (AreChecked-push (take i first) least (get_or first i d) checked next)

-- the fault of an entry is that of all entries
pub fault_at : (first : List (ℕ × ℕ)) (i : ℕ) (d : ℕ × ℕ) (why : ValueFault) → i < length first → IsFaultless has_entry_fault (take i first) →
    IsFirstFault has_entry_fault (take i first) (get_or first i d) why → IsFaultOf has_entry_fault first why
fault_at first i d why within faultless fault =
    let entry = get_or first i d in
    let parts : first ≡ take i first ++ entry ∷ drop (i + 1) first =
    sym (take-append-drop i first) ∙ ap (λ rest. take i first ++ rest) (drop_more first i d within) in
    rw parts (IsFaultOf-next has_entry_fault (take i first) entry (drop (i + 1) first) why faultless fault)

-- the address is above those of all entries
none_reached : (entries : List (ℕ × ℕ)) (m a : ℕ) → All (λ (other : ℕ × ℕ). other.0 < m) entries → m ≤ a → list_any (λ (other : ℕ × ℕ). nat_le a other.0) entries ≡ false
none_reached [] m a below high = refl
none_reached (entry ∷ entries) m a below high =
    let here : entry.0 < m = All-head (λ (other : ℕ × ℕ). other.0 < m) entry entries below in
    let off : nat_le a entry.0 ≡ false = grind (arith, nat_tests) in
    rw off (none_reached entries m a (All-tail (λ (other : ℕ × ℕ). other.0 < m) entry entries below) high)

-- entries end below one more than the address of the last of them
pub EndsBelow-last : (first : List (ℕ × ℕ)) (last : ℕ × ℕ) → slice_get first (length first - 1) ≡ Some last → KeepsEntries first → EndsBelow first (last.0 + 1)
EndsBelow-last first last is keeps a =
    let i = length first - 1 in
    let within : i < length first = slice_get_within first i last is in
    let some : Some (get_or first i last) ≡ Some last = sym (slice_get-get_or first i last within) ∙ is in
    let at : get_or first i last ≡ last = cc in
    let rest : drop i first ≡ last ∷ [] = drop_more first i last within ∙ ap (λ e. e ∷ drop (i + 1) first) at ∙ ap (λ r. last ∷ r) (drop_all (i + 1) first (omega arith)) in
    let parts : first ≡ take i first ++ last ∷ [] = sym (take-append-drop i first) ∙ ap (λ r. take i first ++ r) rest in
    let below : All (λ (other : ℕ × ℕ). other.0 < last.0) (take i first) = keeps.ascending (take i first) last [] parts in
    ap (list_any (λ (other : ℕ × ℕ). nat_le a other.0)) parts ∙ list_any-append (λ (other : ℕ × ℕ). nat_le a other.0) (take i first) (last ∷ [])
    ∙ ⊎_elim
    (λ (low : a < last.0 + 1). let on : nat_le a last.0 ≡ true = grind (arith, nat_tests) in let all : nat_lt a (last.0 + 1) ≡ true = grind (arith, nat_tests) in
    rw (on, all) (or_true (list_any (λ (other : ℕ × ℕ). nat_le a other.0) (take i first))))
    (λ (high : last.0 + 1 ≤ a). let none = none_reached (take i first) last.0 a below (omega arith) in
    let off : nat_le a last.0 ≡ false = grind (arith, nat_tests) in let all : nat_lt a (last.0 + 1) ≡ false = grind (arith, nat_tests) in rw (none, off, all) refl)
    (cases_lt a (last.0 + 1))
  where
    or_true : (b : Bool) → (b || true) ≡ true
    or_true true = refl
    or_true false = refl

-- an address that isn't above those of the entries before
pub out_of_order : (before : List (ℕ × ℕ)) (least a value : ℕ) → EndsBelow before least → a < 256 → (value ≡ 0 → ⊥) → a < least → IsFirstFault has_entry_fault before (a, value) InitOrder
out_of_order before least a value below within non_zero low = record {
  fault = below a ∙ grind (arith, nat_tests);
  least = lesser;
}
  where
    lesser : (other : ValueFault) → fault_number other < fault_number InitOrder → has_entry_fault before (a, value) other ≡ false
    lesser TooManyProcessors less = refl
    lesser TooManyEvents less = refl
    lesser AddressRange less = grind (arith, nat_tests)
    lesser ZeroValue less = grind (arith, nat_tests)
    lesser RepeatedValue less = refl
    lesser OutOfMemory less = refl
    lesser StbarInTso less = refl
    lesser InitOrder less = absurd (omega arith)

-- ---- the value of an address

pub first_value-here : (first : List (ℕ × ℕ)) (i a : ℕ) (d : ℕ × ℕ) → i < length first → (get_or first i d).0 ≡ a → first_value (drop i first) a ≡ (get_or first i d).1
first_value-here first i a d within same =
    let test : eqb (get_or first i d).0 a ≡ true = grind (arith, nat_tests) in
    ap (λ xs. first_value xs a) (drop_more first i d within) ∙ ap (λ b. cond b (get_or first i d).1 (first_value (drop (i + 1) first) a)) test

pub first_value-next : (first : List (ℕ × ℕ)) (i a : ℕ) (d : ℕ × ℕ) → i < length first → ((get_or first i d).0 ≡ a → ⊥) →
    first_value (drop i first) a ≡ first_value (drop (i + 1) first) a
first_value-next first i a d within other =
    let test : eqb (get_or first i d).0 a ≡ false = grind (arith, nat_tests) in
    ap (λ xs. first_value xs a) (drop_more first i d within) ∙ ap (λ b. cond b (get_or first i d).1 (first_value (drop (i + 1) first) a)) test

pub first_value-none : (first : List (ℕ × ℕ)) (i a : ℕ) → length first ≤ i → first_value (drop i first) a ≡ 0
first_value-none first i a all = ap (λ xs. first_value xs a) (drop_all i first all)

-- ---- the set of the values

-- the set has just the values of the entries
abbrev pub HasValues : BTreeSet ℕ → List (ℕ × ℕ) → Type 0
HasValues set entries = (v : ℕ) → contains nat_cmp set v ≡ list_any (nat_eq v) (values_of entries)

pub HasValues-next : (old new : BTreeSet ℕ) (first : List (ℕ × ℕ)) (i : ℕ) (d : ℕ × ℕ) → i < length first → HasValues old (take i first) →
    Updates nat_cmp old new (get_or first i d).1 true → HasValues new (take (i + 1) first)
HasValues-next old new first i d within has updates v =
    let entry = get_or first i d in
    stored-push old new (values_of (take i first)) (Some entry.1) has updates v
    ∙ ap (λ values. list_any (nat_eq v) values) (sym (ap values_of (take_more first i d within) ∙ map-append (λ (e : ℕ × ℕ). e.1) (take i first) (entry ∷ [])))
