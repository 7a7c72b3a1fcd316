-- The texts of a batch as code has them.
use Rattle.std.specs.Prelude.{◌≤◌, ℕ, List, Option, count_by, is_none, map, option_map}
use Rattle.std.specs.Borrow.{Bor}

-- the files of texts, none for one on standard input
abbrev pub files_in : List (Option (Bor (List ℕ))) → List (Option (List ℕ))
files_in texts = map (option_map (λ f. f.now)) texts

-- standard input is at most one of them
abbrev pub reads_one : List (Option (List ℕ)) → Type 0
reads_one files = count_by is_none files ≤ 1
