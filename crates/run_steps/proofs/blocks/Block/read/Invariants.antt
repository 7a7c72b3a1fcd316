use Rattle.std.proofs.Common.{◌≡◌, ◌<◌, ◌+◌, ◌-◌, ◌%◌, ◌^◌, ℕ, Option, IfSome, get_or}
use Rattle.run_steps.specs.declared.cells.Cell.TheVariants.{First}
use Rattle.run_steps.specs.declared.refusals.CellContent.{CellContent}
use Rattle.run_steps.specs.Reads.{read_from, seen_in}
use Rattle.run_steps.proofs.blocks.Block.read.Given as goal

abbrev pub invariant-loop-i : goal.invariant-loop-i
invariant-loop-i l = record {
  value : (look : ℕ → Option CellContent) → ((i : ℕ) → i < l.fn.place.width → look (l.fn.place.address + i) ≡ seen_in (get_or l.self.cells (l.fn.place.address % 8 + i) (First 0))) →
      l.value ≡ read_from l.fn.place.width look (l.fn.place.address + l.i) (l.fn.place.width - l.i);
  small : IfSome l.value (λ v. v < 256 ^ (l.fn.place.width - l.i));
}
