-- The tags of the lines of a log's text, which reports repeat.
use Rattle.std.specs.Prelude.{◌≡◌, ℕ, ◌+◌, ◌-◌, ◌&&◌, nat_le, List, [], length, drop, get_or, slice_range, cond}
use Rattle.line_text.specs.Lines.{parts_of}
use Rattle.run_lines.specs.Tags.{before_tag}
use Rattle.log_text.specs.declared.tags.LineTags.{LineTags}
use Rattle.log_text.specs.Origins.{AreOriginsOf}

-- the tag of a line, with the space before it: nothing where it has none
abbrev pub tag_of : List ℕ → List ℕ
tag_of line = drop (length (before_tag line)) line

-- that of the line of this number, from 1
abbrev pub tag_at : List (List ℕ) → ℕ → List ℕ
tag_at lines number = tag_of (get_or lines (number - 1) [])

-- where the tag of the line of this index begins among the tags, or would
abbrev pub start_at : LineTags → ℕ → ℕ
start_at tags index = get_or tags.starts.items index (length tags.bytes.items)

-- the bytes between two places
abbrev pub bytes_between : List ℕ → ℕ → ℕ → List ℕ
bytes_between bytes start end = cond (nat_le start end && nat_le end (length bytes)) (slice_range bytes start end) []

-- the tag that stands at this index
abbrev pub tag_of_index : LineTags → ℕ → List ℕ
tag_of_index tags index = bytes_between tags.bytes.items (start_at tags index) (start_at tags (index + 1))

-- the tag of the line of this number, from 1
abbrev pub tag_in : LineTags → ℕ → List ℕ
tag_in tags number = tag_of_index tags (number - 1)

-- they are the tags of the lines of this text, and from these its operations come
pub record AreTagsOf (text : List ℕ) (found : LineTags) : Type 0 where
  pub tags : (number : ℕ) → tag_in found number ≡ tag_at (parts_of text) number
  pub origins : AreOriginsOf text found.origins
