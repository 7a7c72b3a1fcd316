-- What the text of an explanation says of a load and of where an event stands.
use Rattle.std.specs.Prelude.{ℕ, zero, suc, List, [], ◌∷◌, ◌++◌, codes}
use Rattle.std.specs.Option.{option_map_or}
use Rattle.std.specs.Fmt.{decimal}
use Rattle.tso_ops.specs.Values.{TraceValue}
use Rattle.trace_explanation.specs.JoinedTexts.{joined}
use Rattle.trace_explanation.specs.Names.{source_of}
use Rattle.trace_explanation.specs.Namings.{address_named, line_named, name_text, NamingValue}

-- what load l read, by its source: a store, or the first value of its address
abbrev pub source_text : NamingValue → ℕ → ℕ → List ℕ
source_text naming l zero = codes "the first value of address " ++ decimal (address_named naming l)
source_text naming l (suc k) = name_text naming (suc k)

-- what load l read
unfoldable pub read_text : NamingValue → TraceValue → ℕ → List ℕ
read_text naming t l = option_map_or (source_text naming l) (source_of t l) []

-- the line of an event: its line, its name, and what it read
unfoldable pub place_text : NamingValue → TraceValue → ℕ → List ℕ
place_text naming t n = joined (
    codes "  line " ∷ decimal (line_named naming n) ∷ codes ": " ∷ name_text naming n ∷ option_map_or (λ s. codes " read " ++ source_text naming n s) (source_of t n) [] ∷ codes "\n" ∷ [])
