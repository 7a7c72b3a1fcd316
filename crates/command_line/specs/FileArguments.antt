-- The arguments of a command that reads files, and nothing else.
use Rattle.std.specs.Prelude.{◌≡◌, ◌==◌, ℕ, Bool, true, not, List, [], ◌∷◌}

-- it doesn't begin with a hyphen (45), so it is no option and not standard input
abbrev pub is_file_name : List ℕ → Bool
is_file_name [] = true
is_file_name (first ∷ rest) = not (first == 45)

-- The arguments are this word and the name of a file.
abbrev pub NameFile : List ℕ → List ℕ → List (List ℕ) → Type 0
NameFile word file arguments = (arguments ≡ word ∷ file ∷ []) × (is_file_name file ≡ true)

-- The arguments are this word and the names of two files.
abbrev pub NameFiles : List ℕ → List ℕ → List ℕ → List (List ℕ) → Type 0
NameFiles word first second arguments = (arguments ≡ word ∷ first ∷ second ∷ []) × (is_file_name first ≡ true) × (is_file_name second ≡ true)
