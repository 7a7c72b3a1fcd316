-- The tag that a line may end with.
use Rattle.std.specs.Prelude.{ℕ, ◌==◌, ◌&&◌, Bool, false, List, [], ◌∷◌, if◌then◌else◌}

-- the bytes begin with `#`
abbrev pub begins_tag : List ℕ → Bool
begins_tag [] = false
begins_tag (b ∷ bs) = b == 35

-- what stands before the first space that a `#` follows
abbrev pub before_tag : List ℕ → List ℕ
before_tag [] = []
before_tag (b ∷ bs) = if (b == 32) && begins_tag bs then [] else b ∷ before_tag bs
