-- The faults of lines in texts, from those of operations and of first values in values.
use Rattle.std.proofs.Common.{◌≡◌, ℕ, ◌<◌, ◌≤◌, true, false, ltb, List, [], ◌∷◌, ◌++◌, refl, sym, ◌∙◌, ap, arith, inl, inr, ⊎_elim, subst, cond, Bool, Some, None, ◌⊎◌}
use Rattle.std.specs.Option.{option_map}
use Rattle.std.proofs.lemmas.Bool.{false≢true}
use Rattle.std.proofs.lemmas.Bool.Decides.{nat_tests}
use Rattle.tso_ops.specs.declared.ops.Op.{Op}
use Rattle.tso_ops.specs.declared.faults.ValueFault.{ValueFault}
use Rattle.tso_ops.specs.declared.faults.ValueFault.TheVariants.{TooManyProcessors as ManyProcessors, TooManyEvents as ManyEvents, AddressRange as PastAddresses, ZeroValue as ZeroStored, RepeatedValue as Repeated, OutOfMemory as NoMemory, StbarInTso, InitOrder as NotAscending}
use Rattle.tso_ops.specs.Settings.{SettingValue}
use Rattle.tso_ops.specs.Limits.{has_fault, has_entry_fault, is_stbar_in_tso, IsFaultless, IsEntryRefusal, IsFirstFault as IsFirstOfOp}
use Rattle.tso_ops.specs.Tally.{IsAdmitRefusal as IsOpRefusedFor}
use Rattle.tso_ops.specs.declared.acts.Act.{Act}
use Rattle.tso_text.specs.declared.faults.Why.{Why}
use Rattle.tso_text.specs.declared.faults.Why.TheVariants.{TooManyEvents, AddressRange, ZeroValue, RepeatedValue, ProcessorRange, InitOrder}
use Rattle.tso_text.specs.Internal.Grammars.{act_fault}
use Rattle.tso_text.specs.Texts.{processor_of}
use Rattle.tso_text.specs.Refusals.{text_fault}
use Rattle.tso_text.specs.Internal.LineReadings.{op_fault_after, entry_fault_after}
use Rattle.tso_text.specs.Internal.Accepted.{IsRefusedFor, IsWhyOf}

-- ---- faults of values

-- what no test of a value finds
pub record Passes (has : ValueFault → Bool) : Type 0 where
  pub many : has ManyEvents ≡ false
  pub past : has PastAddresses ≡ false
  pub zero : has ZeroStored ≡ false
  pub repeated : has Repeated ≡ false
  pub ascending : has NotAscending ≡ false

pub passes : (has : ValueFault → Bool) → text_fault has ≡ None → Passes has
passes has clean = none_of _ _ _ _ _ refl refl refl refl refl clean
  where
    none_of : (a b c d e : Bool) → has ManyEvents ≡ a → has PastAddresses ≡ b → has ZeroStored ≡ c → has Repeated ≡ d → has NotAscending ≡ e →
        option_map (λ (f : ValueFault × Why). f.1) (cond a (Some (ManyEvents, TooManyEvents)) (cond b (Some (PastAddresses, AddressRange)) (cond c (Some (ZeroStored, ZeroValue)) (cond d (Some (Repeated, RepeatedValue)) (cond e (Some (NotAscending, InitOrder)) None))))) ≡ None → Passes has
    none_of false false false false false many past zero repeated ascending is = record { many = many; past = past; zero = zero; repeated = repeated; ascending = ascending }
    none_of true b c d e many past zero repeated ascending is = absurd cc
    none_of false true c d e many past zero repeated ascending is = absurd cc
    none_of false false true d e many past zero repeated ascending is = absurd cc
    none_of false false false true e many past zero repeated ascending is = absurd cc
    none_of false false false false true many past zero repeated ascending is = absurd cc

-- a value without a fault has none in a text
pub no_fault : (has : ValueFault → Bool) → ((why : ValueFault) → has why ≡ false) → text_fault has ≡ None
no_fault has none = rw (none ManyEvents, none PastAddresses, none ZeroStored, none Repeated, none NotAscending) refl

module _ {X : Type 0} (has : List X → X → ValueFault → Bool) (before : List X) (x : X) where
  -- its first fault is that in a text
  first_in_text : has before x ManyProcessors ≡ false → has before x NoMemory ≡ false → (fault : ValueFault) (why : Why) → IsWhyOf fault why → IsFirstOfOp has before x fault → text_fault (has before x) ≡ Some why
  first_in_text none free ManyProcessors why is first = absurd (false≢true (sym none ∙ first.fault))
  first_in_text none free ManyEvents why is first = rw (is, first.fault) refl
  first_in_text none free PastAddresses why is first = rw (is, first.least ManyEvents (omega arith), first.fault) refl
  first_in_text none free ZeroStored why is first = rw (is, first.least ManyEvents (omega arith), first.least PastAddresses (omega arith), first.fault) refl
  first_in_text none free Repeated why is first = rw (is, first.least ManyEvents (omega arith), first.least PastAddresses (omega arith), first.least ZeroStored (omega arith), first.fault) refl
  first_in_text none free NoMemory why is first = absurd (false≢true (sym free ∙ first.fault))
  first_in_text none free StbarInTso why is first = absurd is
  first_in_text none free NotAscending why is first =
      rw (is, first.least ManyEvents (omega arith), first.least PastAddresses (omega arith), first.least ZeroStored (omega arith), first.least Repeated (omega arith), first.fault) refl

  -- what is refused as a value is refused in a text
  refused_in_text : has before x ManyProcessors ≡ false → has before x NoMemory ≡ false → (fault : ValueFault) (why : Why) → IsWhyOf fault why → (fault ≡ NoMemory) ⊎ IsFirstOfOp has before x fault → IsRefusedFor (text_fault (has before x)) why
  refused_in_text none free fault why is away = ⊎_elim (λ memory. inl (subst (λ f. IsWhyOf f why) memory is)) (λ first. inr (first_in_text none free fault why is first)) away

  -- nothing is refused for an STBAR that isn't one under TSO
  no_stbar_refused : has before x StbarInTso ≡ false → (fault : ValueFault) → (fault ≡ NoMemory) ⊎ IsFirstOfOp has before x fault → fault ≡ StbarInTso → ⊥
  no_stbar_refused none fault away is =
      ⊎_elim (λ (memory : fault ≡ NoMemory). let same : StbarInTso ≡ NoMemory = sym is ∙ memory in cc)
      (λ (first : IsFirstOfOp has before x fault). false≢true (sym none ∙ sym (ap (has before x) is) ∙ first.fault)) away

-- ---- operations

pub op_refused_for : (setting : SettingValue) (before : List Op) (op : Op) (fault : ValueFault) (why : Why) → IsWhyOf fault why → IsOpRefusedFor setting before op fault → IsRefusedFor (op_fault_after setting before op) why
op_refused_for setting before op = refused_in_text (has_fault setting) before op refl refl

pub not_stbar : (setting : SettingValue) (before : List Op) (op : Op) (fault : ValueFault) → is_stbar_in_tso setting.order op ≡ false → IsOpRefusedFor setting before op fault → fault ≡ StbarInTso → ⊥
not_stbar setting before op fault none = no_stbar_refused (has_fault setting) before op none fault

pub at_last : (setting : SettingValue) (before : List Op) (op : Op) → IsFaultless (has_fault setting) (before ++ op ∷ []) → (why : ValueFault) → has_fault setting before op why ≡ false
at_last setting before op faultless why = faultless before op [] why refl

-- ---- first values

-- an entry without a fault in a text has none
pub entry_clean_back : (before : List (ℕ × ℕ)) (entry : ℕ × ℕ) → entry_fault_after before entry ≡ None → (why : ValueFault) → has_entry_fault before entry why ≡ false
entry_clean_back before entry clean = by (passes (has_entry_fault before entry) clean)
  where
    by : Passes (has_entry_fault before entry) → (why : ValueFault) → has_entry_fault before entry why ≡ false
    by t ManyProcessors = refl
    by t ManyEvents = refl
    by t PastAddresses = t.past
    by t ZeroStored = t.zero
    by t Repeated = refl
    by t NoMemory = refl
    by t StbarInTso = refl
    by t NotAscending = t.ascending

pub entry_refused_for : (before : List (ℕ × ℕ)) (entry : ℕ × ℕ) (fault : ValueFault) (why : Why) → IsWhyOf fault why → IsEntryRefusal before entry fault → IsRefusedFor (entry_fault_after before entry) why
entry_refused_for before entry = refused_in_text has_entry_fault before entry refl refl

pub entry_not_stbar : (before : List (ℕ × ℕ)) (entry : ℕ × ℕ) (fault : ValueFault) → IsEntryRefusal before entry fault → fault ≡ StbarInTso → ⊥
entry_not_stbar before entry = no_stbar_refused has_entry_fault before entry refl

-- ---- schedules

-- acts of schedules
pub act_clean : (items : List Act) (act : Act) → processor_of act ≤ 15 → act_fault items act ≡ None
unfolding act_fault
act_clean items act low = let off : ltb 15 (processor_of act) ≡ false = grind (arith, nat_tests) in rw off refl

pub act_refused_for : (items : List Act) (act : Act) → 15 < processor_of act → IsRefusedFor (act_fault items act) ProcessorRange
unfolding act_fault
act_refused_for items act high =
    let on : ltb 15 (processor_of act) ≡ true = grind (arith, nat_tests) in
    inr (rw on refl)
