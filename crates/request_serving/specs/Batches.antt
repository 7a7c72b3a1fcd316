-- The texts of a batch, as they were asked for.
use Rattle.std.specs.Prelude.{◌≡◌, ◌⊎◌, ℕ, Bool, List, [], ◌∷◌, Option, Some, None, codes, length, nat_lt, unwrap_or, if◌then◌else◌}
use Rattle.trace_batches.specs.Batches.{BatchText, readable_text, unreadable_text}

-- the name of a text in its lines, `-` for standard input, where there are several texts
abbrev pub name_in_lines : Bool → Option (List ℕ) → Option (List ℕ)
name_in_lines several file = if several then Some (unwrap_or file (codes "-")) else None

-- This is the text of this name on standard input, or in a file; or its file couldn't be opened, and of which files that is so no definition says.
abbrev pub IsNamedText : Option (List ℕ) → Option (List ℕ) → (List ℕ → Option (List ℕ)) → Option (List ℕ) → BatchText → Type 0
IsNamedText name input files None text = text ≡ readable_text name input
IsNamedText name input files (Some file) text = (text ≡ readable_text name (files file)) ⊎ (text ≡ unreadable_text name)

-- these are texts on standard input and in files, one each, in order
abbrev pub AreNamedTexts : Bool → Option (List ℕ) → (List ℕ → Option (List ℕ)) → List (Option (List ℕ)) → List BatchText → Type 0
AreNamedTexts several input files [] [] = Unit {0}
AreNamedTexts several input files [] (text ∷ texts) = ⊥
AreNamedTexts several input files (file ∷ others) [] = ⊥
AreNamedTexts several input files (file ∷ others) (text ∷ texts) = IsNamedText (name_in_lines several file) input files file text × AreNamedTexts several input files others texts

abbrev pub are_several : List (Option (List ℕ)) → Bool
are_several texts = nat_lt 1 (length texts)

-- these are the texts of a batch of files, where standard input has these bytes, and the file of each name those
abbrev pub AreTextsOfBatch : List (Option (List ℕ)) → Option (List ℕ) → (List ℕ → Option (List ℕ)) → List BatchText → Type 0
AreTextsOfBatch named input files texts = AreNamedTexts (are_several named) input files named texts
