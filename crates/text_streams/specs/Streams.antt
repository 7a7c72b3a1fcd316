-- What reading and writing do to the bytes of a reader and of a writer, where these are known.
use Rattle.std.specs.Prelude.{ℕ, ◌≤◌, List, length, take, Option, IfSome}
use Rattle.std.specs.Io.KnownBytes.{Appends, Consumes}

-- known bytes grow by a prefix of the text
abbrev pub AppendsPrefix : Option (List ℕ) → Option (List ℕ) → List ℕ → Type 0
AppendsPrefix old new text = (n : ℕ) × (n ≤ length text) × Appends old new (take n text)

-- known bytes lose their first ones, up to this number, and no others
abbrev pub LosesPrefix : ℕ → Option (List ℕ) → Option (List ℕ) → Type 0
LosesPrefix limit old new = IfSome old (λ all. Consumes old new (take limit all))

-- how often `read` is called on one reader at most, where it is read to its end
abbrev pub read_call_limit : ℕ
read_call_limit = 2097152
