-- What the tags of some lines are, one line after another.
use Rattle.std.specs.Prelude.{◌≡◌, ℕ, ◌+◌, ◌≤◌, List, [], length, get_or}
use Rattle.log_text.specs.declared.tags.LineTags.{LineTags}
use Rattle.log_text.specs.Tags.{start_at, tag_of, tag_of_index}

-- they are those of these lines
pub record HoldsTags (tags : LineTags) (lines : List (List ℕ)) : Type 0 where
  pub short : length tags.starts.items ≤ length lines
  pub rising : (k : ℕ) → start_at tags k ≤ start_at tags (k + 1)
  pub within : (k : ℕ) → start_at tags k ≤ length tags.bytes.items
  pub are : (k : ℕ) → tag_of_index tags k ≡ tag_of (get_or lines k [])
