-- What a reader says of one line or one item: it is accepted after what came before, or it is refused.
use Rattle.std.specs.Prelude.{◌≡◌, ◌⊎◌, ℕ, ◌≤◌, Bool, List, length, Option, Some, None, Ok}
use Rattle.tso_ops.specs.declared.limits.Tally.{Tally}
use Rattle.tso_ops.specs.declared.faults.ValueFault.{ValueFault}
use Rattle.tso_ops.specs.declared.faults.ValueFault.TheVariants.{TooManyProcessors as ManyProcessors, TooManyEvents as ManyEvents, AddressRange as PastAddresses, ZeroValue as ZeroStored, RepeatedValue as Repeated, OutOfMemory as NoMemory, StbarInTso, InitOrder as NotAscending}
use Rattle.tso_text.specs.declared.faults.Why.{Why}
use Rattle.tso_text.specs.declared.faults.Why.TheVariants.{TooManyProcessors, TooManyEvents, AddressRange, ZeroValue, RepeatedValue, OutOfMemory, InitOrder}
use Rattle.tso_text.specs.declared.lines.Line.{Line}
use Rattle.tso_text.specs.Internal.Spelling.{Grammar, said, said_fault, line_fault, with_line, is_end, items_of}

-- The refusal of a value is this one of a text. No text is refused for an STBAR under TSO, which is no keyword there.
abbrev pub IsWhyOf : ValueFault → Why → Type 0
IsWhyOf ManyProcessors why = why ≡ TooManyProcessors
IsWhyOf ManyEvents why = why ≡ TooManyEvents
IsWhyOf PastAddresses why = why ≡ AddressRange
IsWhyOf ZeroStored why = why ≡ ZeroValue
IsWhyOf Repeated why = why ≡ RepeatedValue
IsWhyOf NoMemory why = why ≡ OutOfMemory
IsWhyOf StbarInTso why = ⊥
IsWhyOf NotAscending why = why ≡ InitOrder

-- some tokens say the line
abbrev pub CanSay : {X : Type 0} → Grammar X → Line X → Type 0
CanSay g line = (tokens : List (List ℕ)) × (g.said_by tokens ≡ Ok line)

-- refused for this fault, or memory was refused
abbrev pub IsRefusedFor : Option Why → Why → Type 0
IsRefusedFor fault why = (why ≡ OutOfMemory) ⊎ (fault ≡ Some why)

abbrev pub IsItemRefusedFor : {X : Type 0} → Grammar X → List X → X → Why → Type 0
IsItemRefusedFor g items x why = IsRefusedFor (g.item_fault items x) why

abbrev pub IsSaidRefusedFor : {X : Type 0} → Grammar X → List (List X) → Line X → Why → Type 0
IsSaidRefusedFor g lists line why = IsRefusedFor (line_fault g lists line) why

abbrev pub IsLineRefusedFor : {X : Type 0} → Grammar X → List (List X) → List ℕ → Why → Type 0
IsLineRefusedFor g lists line why = IsRefusedFor (said_fault g lists (said g line)) why

-- what a line says is accepted: it has no fault after the old lists, and makes the new ones of them
pub record AcceptsSaid {X : Type 0} (g : Grammar X) (old : List (List X)) (line : Line X) (ended : Bool) (new : List (List X)) : Type 0 where
  pub clean : line_fault g old line ≡ None
  pub ends : is_end (Ok line) ≡ ended
  pub after : with_line old line ≡ new

-- the line is accepted
pub record AcceptsLine {X : Type 0} (g : Grammar X) (old : List (List X)) (line : List ℕ) (ended : Bool) (new : List (List X)) : Type 0 where
  pub line_said : Line X
  pub says : said g line ≡ Ok line_said
  pub accepts : AcceptsSaid g old line_said ended new

-- a tally keeps the items of these lists, of which there are few
pub record IsKept {X : Type 0} (keeps : Tally → List X → Type 0) (lists : List (List X)) : Type 0 where
  pub tally : Tally
  pub keeps_items : keeps tally (items_of lists)
  pub few : length lists ≤ 16
