-- The tags of a log are repeated as they stand in its text.
use Rattle.std.proofs.Common.{◌≡◌, ◌∙◌, ℕ, List, ap, refl, true}
use Rattle.std.specs.Str.{IsAscii, is_utf8}
use Rattle.std.proofs.lemmas.Str.{IsUtf8-from_ascii, is_utf8-from_IsUtf8}
use Rattle.line_text.specs.Lines.{parts_of}
use Rattle.log_text.specs.LogTexts.{SpellsLog}
use Rattle.log_text.specs.LogValues.{NumberedLog}
use Rattle.log_text.specs.Tags.{AreTagsOf, tag_at, tag_in}
use Rattle.log_text.specs.declared.tags.LineTags.{LineTags}
use Rattle.log_text.proofs.TagFacts.{tags_ascii}
use Rattle.log_reports.specs.Lines.{repeated}

ascii_repeated : (tag : List ℕ) → IsAscii tag → repeated tag ≡ tag
ascii_repeated tag ascii =
    let valid : is_utf8 tag ≡ true = is_utf8-from_IsUtf8 tag (IsUtf8-from_ascii tag ascii) in
    rw valid refl

pub all_repeated : (bytes : List ℕ) (log : NumberedLog) (tags : LineTags) → SpellsLog bytes log → AreTagsOf bytes tags → (number : ℕ) → repeated (tag_in tags number) ≡ tag_at (parts_of bytes) number
all_repeated bytes log tags spells are number = ap repeated (are.tags number) ∙ ascii_repeated (tag_at (parts_of bytes) number) (tags_ascii bytes log spells number)
