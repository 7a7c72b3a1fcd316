-- What the search for all states that runs reach has found.
use Rattle.std.specs.Prelude.{◌≡◌, ◌⊎◌, ℕ, ◌<◌, ◌≤◌, Some, List, [], ◌∷◌, ◌++◌, length, slice_get}
use Rattle.tso_ops.specs.Values.{ProgramValue}
use Rattle.final_states.specs.Internal.Stands.{Reaches}
use Rattle.final_states.specs.Internal.Words.{first_words, following}

-- the item is in the list
abbrev pub IsIn : {X : Type 0} → List X → X → Type 0
IsIn [] y = ⊥
IsIn (x ∷ xs) y = (x ≡ y) ⊎ IsIn xs y

-- each item stands there once
abbrev pub AreOnce : {X : Type 0} → List X → Type 0
AreOnce [] = Unit {0}
AreOnce (x ∷ xs) = (IsIn xs x → ⊥) × AreOnce xs

-- the words that follow the found ones by one step are found
abbrev pub IsClosed : ProgramValue → List ℕ → List (List ℕ) → Type 0
IsClosed program addresses found = (words new : List ℕ) → IsIn found words → IsIn (following program addresses words) new → IsIn found new

-- runs of the program reach states that the found words stand for
abbrev pub AreSound : ProgramValue → List ℕ → List (List ℕ) → Type 0
AreSound program addresses found = (words : List ℕ) → IsIn found words → Reaches program addresses words

-- The found words stand for the states that runs of the program reach, each once, and no more than the limit.
pub record IsSearched (program : ProgramValue) (addresses : List ℕ) (limit : ℕ) (found : List (List ℕ)) : Type 0 where
  pub sound : AreSound program addresses found
  pub first : IsIn found (first_words program addresses)
  pub closed : IsClosed program addresses found
  pub different : AreOnce found
  pub few : length found ≤ limit

-- Some of these were added, after those that were there.
pub record AddsSome (added old new : List (List ℕ)) : Type 0 where
  pub more : List (List ℕ)
  pub parts : new ≡ old ++ more
  pub among : (words : List ℕ) → IsIn more words → IsIn added words
  pub once : AreOnce new

-- All of these were added that weren't there, after those that were there.
pub record AddsAll (added old new : List (List ℕ)) : Type 0 where
  pub some : AddsSome added old new
  pub all : (words : List ℕ) → IsIn added words → IsIn new words

-- More words are found than the limit says, each of which stands for a state that runs reach.
pub record IsPastLimit (program : ProgramValue) (addresses : List ℕ) (limit : ℕ) (found : List (List ℕ)) : Type 0 where
  pub sound : AreSound program addresses found
  pub once : AreOnce found
  pub many : limit < length found

-- What the search knows once the first words that are found were looked at, so many: all that follow those by one step are found.
pub record IsSearching (program : ProgramValue) (addresses : List ℕ) (limit : ℕ) (found : List (List ℕ)) (index : ℕ) : Type 0 where
  pub sound : AreSound program addresses found
  pub first : IsIn found (first_words program addresses)
  pub closed : (k : ℕ) (words new : List ℕ) → k < index → slice_get found k ≡ Some words → IsIn (following program addresses words) new → IsIn found new
  pub once : AreOnce found
  pub few : length found ≤ limit
