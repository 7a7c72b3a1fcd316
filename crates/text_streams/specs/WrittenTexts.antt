-- What a call writes of a text that says something, as a verdict, and what a fault leaves of it.
use Rattle.std.specs.Prelude.{ℕ, List, Option}
use Rattle.std.specs.Io.KnownBytes.{Appends, Keeps}
use Rattle.text_streams.specs.Streams.{AppendsPrefix}
use Rattle.text_streams.specs.declared.faults.Fault.{Fault}
use Rattle.text_streams.specs.declared.faults.Fault.TheVariants.{Write, Missing}

-- known bytes of the writer grow by a text of this kind that says this
abbrev pub WritesWhole : {X : Type 0} → (List ℕ → X → Type 0) → Option (List ℕ) → Option (List ℕ) → X → Type 0
WritesWhole is_text old new said = (text : List ℕ) × is_text text said × Appends old new text

-- known bytes of the writer grow by a prefix of such a text
abbrev pub WritesPrefix : {X : Type 0} → (List ℕ → X → Type 0) → Option (List ℕ) → Option (List ℕ) → Type 0
WritesPrefix {X} is_text old new = (said : X) × (text : List ℕ) × is_text text said × AppendsPrefix old new text

-- What a fault leaves: on Write a prefix of the text, else nothing was written. No seed is missing.
abbrev pub LeavesAtFault : {X : Type 0} → (List ℕ → X → Type 0) → Option (List ℕ) → Option (List ℕ) → Fault → Type 0
LeavesAtFault is_text old new Write = WritesPrefix is_text old new
LeavesAtFault is_text old new (Missing seed) = ⊥
LeavesAtFault is_text old new _ = Keeps old new
