-- Which places a text has: the lines read so far say it, or else those after them; the places of all lines are such ones.
use Rattle.std.proofs.Common.{◌≡◌, ◌∙◌, sym, ap, refl, ℕ, zero, suc, ◌<◌, ◌==◌, not, Bool, true, false, eqb-true, if◌then◌else◌, Option, None, Some, Result, Ok, List, slice_get, arith}
use Rattle.std.specs.Option.{option_map_or}
use Rattle.tso_text.specs.declared.faults.Why.{Why}
use Rattle.run_steps.specs.declared.steps.RunStep.{RunStep}
use Rattle.run_steps.specs.declared.steps.RunStep.TheVariants.{Load, Store, Drain, Write, Swap, Reserve, StoreReserved, Membar, Stbar, Unknown, Last}
use Rattle.run_lines.specs.declared.arguments.Widths.{Widths}
use Rattle.run_lines.specs.declared.arguments.Widths.TheVariants.{Unseen, Locations, Bytes}
use Rattle.run_lines.specs.declared.lines.RunText.{RunText}
use Rattle.run_lines.specs.declared.lines.RunText.TheVariants as text
use Rattle.run_lines.specs.Lines.{LineNumbers, line_read, numbers_of_step, step_word, text_numbers}
use Rattle.run_lines.specs.PlacesSaid.{widths_after}
use Rattle.log_text.specs.LogLines.{said_told, width_named, width_told, widths_named, widths_read}
use Rattle.run_orders.specs.RunLogs.{IsAtLocation}
use Rattle.run_orders.specs.SplitLogs.{IsAtBytes, IsAtPlacesOf, IsSaidAtPlacesOf}
use Rattle.run_text_orders.specs.UnknownBytes.{IsKnownWord}
use Rattle.run_text_orders.proofs.Readings.{IsAdmitted, also_line}

-- ---- which places a text has

-- the places of a text that has one of this width
abbrev pub kind_of_width : ℕ → Widths
kind_of_width width = if width == 0 then Locations else Bytes

-- a text with such places has one of the width that is named, if one is
abbrev pub IsKindOf : Widths → Option ℕ → Type 0
IsKindOf kind None = Unit {0}
IsKindOf kind (Some width) = kind ≡ kind_of_width width

-- the places of a text: those that its lines had so far, or else those that the lines after them have
abbrev pub settled : Widths → Widths → Widths
settled Unseen later = later
settled Locations later = Locations
settled Bytes later = Bytes

not_true : (b : Bool) → not b ≡ true → b ≡ false
not_true true e = absurd cc
not_true false e = refl

-- a named place is one of the text's
pub kind_here : (kind before later : Widths) (o : Option ℕ) → IsAdmitted before o → kind ≡ settled before (widths_named o later) → IsKindOf kind o
kind_here kind before later None admitted is = tt
kind_here kind Unseen later (Some width) admitted is = is
kind_here kind Locations later (Some width) admitted is = is ∙ ap (λ b. if b then Locations else Bytes) (sym admitted)
kind_here kind Bytes later (Some width) admitted is = is ∙ ap (λ b. if b then Locations else Bytes) (sym (not_true (width == 0) admitted))

settled_kind : (b : Bool) (later : Widths) → settled (if b then Locations else Bytes) later ≡ (if b then Locations else Bytes)
settled_kind true later = refl
settled_kind false later = refl

settled_more : (before : Widths) (o : Option ℕ) (later : Widths) → IsAdmitted before o →
    settled before (widths_named o later) ≡ settled (option_map_or kind_of_width o before) later
settled_more before None later admitted = refl
settled_more Unseen (Some width) later admitted = sym (settled_kind (width == 0) later)
settled_more Locations (Some width) later admitted = ap (λ b. settled (if b then Locations else Bytes) later) (sym admitted)
settled_more Bytes (Some width) later admitted = ap (λ b. settled (if b then Locations else Bytes) later) (sym (not_true (width == 0) admitted))

step_after : (before : Widths) (p : ℕ) (step : RunStep) → option_map_or kind_of_width (width_named (text_numbers (text.Step p step))) before ≡ widths_after before (text.Step p step)
step_after before p (Load place v) = refl
step_after before p (Store place v) = refl
step_after before p (Drain None None) = refl
step_after before p (Drain None (Some v)) = refl
step_after before p (Drain (Some place) None) = refl
step_after before p (Drain (Some place) (Some v)) = refl
step_after before p (Write place v) = refl
step_after before p (Swap place r v) = refl
step_after before p (Reserve place v) = refl
step_after before p (StoreReserved place v) = refl
step_after before p Membar = refl
step_after before p Stbar = refl
step_after before p (Unknown place) = refl
step_after before p (Last place v) = refl

text_after : (before : Widths) (said : RunText) → option_map_or kind_of_width (width_named (text_numbers said)) before ≡ widths_after before said
text_after before text.Note = refl
text_after before text.Pso = refl
text_after before (text.First place v) = refl
text_after before (text.Step p step) = step_after before p step
text_after before text.End = refl

-- one more line leaves open what was open
pub settled_after : (before : Widths) (said : RunText) (later : Widths) → IsAdmitted before (width_named (text_numbers said)) →
    settled before (widths_named (width_named (text_numbers said)) later) ≡ settled (widths_after before said) later
settled_after before said later admitted = settled_more before (width_named (text_numbers said)) later admitted ∙ ap (λ w. settled w later) (text_after before said)

-- what the next line names
pub settled_read : (before : Widths) (line : List ℕ) (n : LineNumbers) (later : Widths) → line_read before line ≡ Ok n →
    settled before (widths_read (line_read Unseen line) later) ≡ settled before (widths_named (width_named n) later)
settled_read Unseen line n later read = ap (λ r. widths_read r later) read
settled_read Locations line n later read = refl
settled_read Bytes line n later read = refl

same_ok : (m n : LineNumbers) (r : Result LineNumbers Why) → r ≡ Ok m → r ≡ Ok n → m ≡ n
same_ok m n r one two = let both : ◌≡◌ {A = Result LineNumbers Why} (Ok m) (Ok n) = sym one ∙ two in cc

-- with the text's places a line says what it says with those before it
pub same_read : (kind before later : Widths) (line : List ℕ) (n m : LineNumbers) → kind ≡ settled before later → line_read kind line ≡ Ok n → line_read before line ≡ Ok m → n ≡ m
same_read kind Unseen later line n m is one two = same_ok n m (line_read Unseen line) (also_line kind line n one).0 two
same_read kind Locations later line n m is one two = same_ok n m (line_read Locations line) (ap (λ k. line_read k line) (sym is) ∙ one) two
same_read kind Bytes later line n m is one two = same_ok n m (line_read Bytes line) (ap (λ k. line_read k line) (sym is) ∙ one) two

-- ---- the places of lines

locations_true : (b : Bool) → Locations ≡ (if b then Locations else Bytes) → b ≡ true
locations_true true is = refl
locations_true false is = absurd cc

zero_of : (width : ℕ) → Locations ≡ kind_of_width width → width ≡ 0
zero_of width is = eqb-true width 0 (locations_true (width == 0) is)

unseen_never : (b : Bool) → Unseen ≡ (if b then Locations else Bytes) → ⊥
unseen_never true is = absurd cc
unseen_never false is = absurd cc

some_of : (width : ℕ) → Bytes ≡ kind_of_width width → 0 < width
some_of zero is = let both : Bytes ≡ Locations = is in absurd cc
some_of (suc width) is = omega arith

no_width : (kind : Widths) (width : ℕ) → (kind ≡ Bytes → ⊥) → kind ≡ kind_of_width width → width ≡ 0
no_width Unseen width other is = absurd (unseen_never (width == 0) is)
no_width Locations width other is = zero_of width is
no_width Bytes width other is = absurd (other refl)

-- the place of the step is one of a text with such places
abbrev pub IsStepOfKind : Widths → RunStep → Type 0
IsStepOfKind kind step = IsKindOf kind (slice_get (numbers_of_step step) 1)

step_at_location : (kind : Widths) (step : RunStep) → (kind ≡ Bytes → ⊥) → IsStepOfKind kind step → IsAtLocation step
step_at_location kind (Load place v) other is = no_width kind place.width other is
step_at_location kind (Store place v) other is = no_width kind place.width other is
step_at_location kind (Drain None v) other is = tt
step_at_location kind (Drain (Some place) None) other is = no_width kind place.width other is
step_at_location kind (Drain (Some place) (Some v)) other is = no_width kind place.width other is
step_at_location kind (Write place v) other is = no_width kind place.width other is
step_at_location kind (Swap place r v) other is = no_width kind place.width other is
step_at_location kind (Reserve place v) other is = no_width kind place.width other is
step_at_location kind (StoreReserved place v) other is = no_width kind place.width other is
step_at_location kind Membar other is = tt
step_at_location kind Stbar other is = tt
step_at_location kind (Unknown place) other is = no_width kind place.width other is
step_at_location kind (Last place v) other is = no_width kind place.width other is

-- the step does nothing unknown
abbrev pub IsKnownStep : RunStep → Type 0
IsKnownStep step = IsKnownWord (step_word step)

step_at_bytes : (step : RunStep) → IsKnownStep step → IsStepOfKind Bytes step → IsAtBytes step
step_at_bytes (Load place v) known is = some_of place.width is
step_at_bytes (Store place v) known is = some_of place.width is
step_at_bytes (Drain at v) known is = tt
step_at_bytes (Write place v) known is = some_of place.width is
step_at_bytes (Swap place r v) known is = some_of place.width is
step_at_bytes (Reserve place v) known is = some_of place.width is
step_at_bytes (StoreReserved place v) known is = some_of place.width is
step_at_bytes Membar known is = tt
step_at_bytes Stbar known is = tt
step_at_bytes (Unknown place) known is = let both : true ≡ false = known in absurd cc
step_at_bytes (Last place v) known is = tt

unseen_other : Unseen ≡ Bytes → ⊥
unseen_other is = absurd cc

locations_other : Locations ≡ Bytes → ⊥
locations_other is = absurd cc

-- the step is at places of the text
pub step_places : (kind : Widths) (step : RunStep) → (kind ≡ Bytes → IsKnownStep step) → IsStepOfKind kind step → IsAtPlacesOf kind step
step_places Unseen step known is = step_at_location Unseen step unseen_other is
step_places Locations step known is = step_at_location Locations step locations_other is
step_places Bytes step known is = step_at_bytes step (known refl) is

-- ---- what lines say of them

step_width : (kind : Widths) (p : ℕ) (step : RunStep) → (kind ≡ Bytes → ⊥) → IsStepOfKind kind step → width_told (text_numbers (text.Step p step)) ≡ 0
step_width kind p (Load place v) other is = no_width kind place.width other is
step_width kind p (Store place v) other is = no_width kind place.width other is
step_width kind p (Drain at v) other is = refl
step_width kind p (Write place v) other is = no_width kind place.width other is
step_width kind p (Swap place r v) other is = no_width kind place.width other is
step_width kind p (Reserve place v) other is = no_width kind place.width other is
step_width kind p (StoreReserved place v) other is = no_width kind place.width other is
step_width kind p Membar other is = refl
step_width kind p Stbar other is = refl
step_width kind p (Unknown place) other is = no_width kind place.width other is
step_width kind p (Last place v) other is = refl

text_width : (kind : Widths) (said : RunText) → (kind ≡ Bytes → ⊥) → IsKindOf kind (width_named (text_numbers said)) → width_told (text_numbers said) ≡ 0
text_width kind text.Note other is = refl
text_width kind text.Pso other is = refl
text_width kind (text.First place v) other is = no_width kind place.width other is
text_width kind (text.Step p step) other is = step_width kind p step other is
text_width kind text.End other is = refl

step_of_bytes : (p : ℕ) (step : RunStep) → IsSaidAtPlacesOf Bytes (said_told (text_numbers (text.Step p step)))
step_of_bytes p (Load place v) = tt
step_of_bytes p (Store place v) = tt
step_of_bytes p (Drain at v) = tt
step_of_bytes p (Write place v) = tt
step_of_bytes p (Swap place r v) = tt
step_of_bytes p (Reserve place v) = tt
step_of_bytes p (StoreReserved place v) = tt
step_of_bytes p Membar = tt
step_of_bytes p Stbar = tt
step_of_bytes p (Unknown place) = tt
step_of_bytes p (Last place v) = tt

text_of_bytes : (said : RunText) → IsKindOf Bytes (width_named (text_numbers said)) → IsSaidAtPlacesOf Bytes (said_told (text_numbers said))
text_of_bytes text.Note is = tt
text_of_bytes text.Pso is = tt
text_of_bytes (text.First place v) is = some_of place.width is
text_of_bytes (text.Step p step) is = step_of_bytes p step
text_of_bytes text.End is = tt

-- the line says first values at places of the text
pub said_places : (kind : Widths) (said : RunText) → IsKindOf kind (width_named (text_numbers said)) → IsSaidAtPlacesOf kind (said_told (text_numbers said))
said_places Unseen said is = text_width Unseen said unseen_other is
said_places Locations said is = text_width Locations said locations_other is
said_places Bytes said is = text_of_bytes said is
