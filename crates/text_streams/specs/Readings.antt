-- What holds of the bytes of a reader.
use Rattle.std.specs.Prelude.{ℕ, List, Option, IfSome}

-- It holds of some bytes, and of all bytes of the reader where these are known.
pub record ReadsAs (remaining : Option (List ℕ)) (Is : List ℕ → Type 0) : Type 0 where
  pub bytes : List ℕ
  pub of_read : Is bytes
  pub of_all : IfSome remaining Is
