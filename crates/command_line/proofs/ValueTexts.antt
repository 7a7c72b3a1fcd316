-- Texts that differ, and texts that are values and no options.
use Rattle.std.proofs.Common.{◌≡◌, ◌==◌, refl, sym, true≢false, ℕ, Bool, true, false, not, [], ◌∷◌, None}
use Rattle.std.specs.Prelude.{◌≢◌}
use Rattle.std.specs.Str.{bytes_eq}
use Rattle.std.proofs.lemmas.Bool.{false_from_ne_true}
use Rattle.std.proofs.lemmas.Bool.Decides.{not_from_Decides}
use Rattle.std.proofs.lemmas.Slice.Eq.{bytes_eq-Decides}
use Rattle.clap.specs.Lexer.{long_of, short_of}
use Rattle.clap.specs.Walk.{Text}
use Rattle.command_line.specs.Given.{is_value}

pub differing : (first second : Text) → second ≢ first → bytes_eq first second ≡ false
differing first second differ = false_from_ne_true _ (λ same. differ (sym ((bytes_eq-Decides first second).0 same)))

-- two tests for the same bytes, in either order
pub other_order : (a b : Text) → bytes_eq a b ≡ false → bytes_eq b a ≡ false
other_order a b e = differing b a (not_from_Decides _ (bytes_eq-Decides a b) e)

-- an argument that is no option, as a parse sees it
pub record IsValue (argument : Text) : Type 0 where
  pub no_long : long_of argument ≡ None
  pub no_short : short_of argument ≡ None
  pub no_escape : bytes_eq argument (45 ∷ 45 ∷ []) ≡ false

value_without_hyphen : (x : ℕ) (rest : Text) → (x == 45) ≡ false → IsValue (x ∷ rest)
value_without_hyphen x rest other = record { no_long = rw other refl; no_short = rw other refl; no_escape = rw other refl }

pub value_is : (name : Text) → is_value name ≡ true → IsValue name
value_is [] is = record { no_long = refl; no_short = refl; no_escape = refl }
value_is (x ∷ []) is = go (x == 45) refl
  where
    go : (b : Bool) → (x == 45) ≡ b → IsValue (x ∷ [])
    go false e = value_without_hyphen x [] e
    go true e = record { no_long = rw e refl; no_short = rw e refl; no_escape = rw e refl }
value_is (x ∷ y ∷ rest) is = go (x == 45) refl is
  where
    go : (b : Bool) → (x == 45) ≡ b → not b ≡ true → IsValue (x ∷ y ∷ rest)
    go false e h = value_without_hyphen x (y ∷ rest) e
    go true e h = absurd (true≢false (sym h))
