-- Lemmas on texts that grow by one part after the other.
use Rattle.std.proofs.Common.{◌≡◌, ◌∙◌, ◌++◌, ap, append_assoc, List, ℕ}

-- three parts after a text
pub three_more : (a b c d x y z : List ℕ) → b ≡ a ++ x → c ≡ b ++ y → d ≡ c ++ z → d ≡ a ++ (x ++ y ++ z)
three_more a b c d x y z first second third =
    third ∙ ap (λ t. t ++ z) (second ∙ ap (λ t. t ++ y) first ∙ append_assoc a x y) ∙ append_assoc a (x ++ y) z
