use Rattle.std.proofs.Common.{◌≡◌, ℕ, ◌+◌, ◌-◌, ◌≤◌, length, max}
use Rattle.log_text.specs.Tags.{start_at}
use Rattle.log_text.proofs.tags.LineTags.begin.Given as goal

abbrev pub invariant-loop-self : goal.invariant-loop-self
invariant-loop-self l = record {
  bytes : l.self.bytes ≡ l.fn.self.bytes;
  origins : l.self.origins ≡ l.fn.self.origins;
  longer : length l.fn.self.starts.items ≤ length l.self.starts.items;
  within : length l.self.starts.items ≤ max (l.fn.index + 1) (length l.fn.self.starts.items);
  same : (k : ℕ) → start_at l.self k ≡ start_at l.fn.self k;
}

abbrev pub decreases-loop-self : goal.decreases-loop-self
decreases-loop-self l = l.fn.index + 1 - length l.self.starts.items
