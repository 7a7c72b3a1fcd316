use Rattle.std.proofs.Common.{◌∙◌, ap, subst}
use Rattle.tso_ops.specs.Values.{rows}
use Rattle.log_text.specs.LogValues.{log_value}
use Rattle.log_selections.specs.Sources.{IsCountOf}
use Rattle.log_selections.specs.Internal.Accesses.{accesses_of_lists, numbers_of_lists}
use Rattle.log_selections.specs.Internal.Known.{AreAllListed, AreSources, IsAmbiguousLoad}
use Rattle.log_selections.proofs.KnownFacts.{all_written, ambiguous_count, known_sources}
use Rattle.log_selections.proofs.known.KnownLog.new.Goals as goal

pub invariant_of-result : goal.invariant_of-result
invariant_of-result c =
    let numbers = c.in_ok-sources.sources.numbers.items in
    let ambiguous = c.in_ok-sources.sources.ambiguous in
    let unwritten = c.in_ok-sources.sources.unwritten.items in
    let accesses = c.deref-3.ensures.value ∙ c.in_ok-numbered.ensures.accesses ∙ ap (λ ls. accesses_of_lists (rows ls)) c.deref.ensures.value in
    record {
      numbered = c.in_ok-numbered.ensures.numbers ∙ ap (λ ls. numbers_of_lists 1 (rows ls)) c.deref.ensures.value;
      known = known_sources (log_value c.args.log) numbers (subst (λ first. AreSources first (accesses_of_lists (rows c.args.log.lists.items)) numbers) c.deref-2.ensures.value
          (subst (λ xs. AreSources c.deref-2.result.now xs numbers) accesses c.in_ok-sources.ensures.numbers));
      ambiguous_are = ambiguous_count (log_value c.args.log) ambiguous (subst (λ first. IsCountOf (IsAmbiguousLoad first (accesses_of_lists (rows c.args.log.lists.items))) ambiguous) c.deref-2.ensures.value
          (subst (λ xs. IsCountOf (IsAmbiguousLoad c.deref-2.result.now xs) ambiguous) accesses c.in_ok-sources.ensures.ambiguous));
      unwritten_are = all_written (log_value c.args.log) unwritten (subst (λ first. AreAllListed first (accesses_of_lists (rows c.args.log.lists.items)) unwritten) c.deref-2.ensures.value
          (subst (λ xs. AreAllListed c.deref-2.result.now xs unwritten) accesses c.in_ok-sources.ensures.unwritten));
    }
