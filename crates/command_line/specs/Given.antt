-- Arguments after the name of a subcommand in a usual spelling: options with their values, flags and other arguments.
use Rattle.std.specs.Prelude.{◌≡◌, ◌==◌, Bool, true, not, List, [], ◌∷◌, ◌++◌, Option, codes, find, option_map}
use Rattle.std.specs.Str.{bytes_eq}
use Rattle.clap.specs.Walk.{Text}

-- ---- how they are written

-- a text that is no option: one that doesn't begin with a hyphen (45), or the hyphen alone
abbrev pub is_value : Text → Bool
is_value [] = true
is_value (first ∷ []) = true
is_value (first ∷ second ∷ rest) = not (first == 45)

-- an option with its value
pub data NamesOption (name value : Text) : List Text → Type 0 where
  -- --name value
  apart : is_value value ≡ true → NamesOption name value ((codes "--" ++ name) ∷ value ∷ [])
  -- --name=value
  joined : NamesOption name value ((codes "--" ++ name ++ codes "=" ++ value) ∷ [])

-- the arguments are these options, each a name with its value, these flags, each a name, and these others. The options
-- stand in this order, and so do the flags and the others; options and flags may stand before, between and after the
-- others.
pub data AreGiven : List (Text × Text) → List Text → List Text → List Text → Type 0 where
  ended : AreGiven [] [] [] []
  option : (name value : Text) (these rest : List Text) (options : List (Text × Text)) (flags others : List Text)
      → NamesOption name value these → AreGiven options flags others rest
      → AreGiven ((name, value) ∷ options) flags others (these ++ rest)
  flag : (name : Text) (rest : List Text) (options : List (Text × Text)) (flags others : List Text)
      → AreGiven options flags others rest → AreGiven options (name ∷ flags) others ((codes "--" ++ name) ∷ rest)
  other : (value : Text) (rest : List Text) (options : List (Text × Text)) (flags others : List Text)
      → is_value value ≡ true → AreGiven options flags others rest
      → AreGiven options flags (value ∷ others) (value ∷ rest)

-- the value that stands beside this name
abbrev pub value_named : {X : Type 0} → Text → List (Text × X) → Option X
value_named name values = option_map (λ value. value.1) (find (λ value. bytes_eq value.0 name) values)
