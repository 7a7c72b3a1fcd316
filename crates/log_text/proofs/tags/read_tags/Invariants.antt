use Rattle.std.proofs.Common.{◌≡◌, ◌+◌, ◌++◌, ◌≤◌, ℕ, List, length}
use Rattle.line_text.specs.Lines.{parts_of}
use Rattle.log_text.specs.Internal.TagLists.{HoldsTags}
use Rattle.log_text.specs.Origins.{AreOriginsOf}
use Rattle.log_text.proofs.tags.read_tags.Given as goal

abbrev pub invariant-lines : goal.invariant-lines
invariant-lines l = record {
  reached : (lines : List (List ℕ)) × (parts_of l.fn.text ≡ lines ++ parts_of l.rest) × (length lines ≡ l.index) × HoldsTags l.tags lines;
  origins : AreOriginsOf l.fn.text l.tags.origins;
  room : l.index + length l.rest ≤ length l.fn.text;
}

abbrev pub decreases-lines : goal.decreases-lines
decreases-lines l = length l.rest
