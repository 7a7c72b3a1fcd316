use Rattle.std.proofs.Common.{◌∙◌, ℕ, subst, sym}
use Rattle.tso_ops.specs.Events.{IsUnwritten}
use Rattle.log_text.specs.LogValues.{log_operations}
use Rattle.log_selections.proofs.known.KnownLog.unwritten_loads.Goals as goal

pub returns : goal.returns
returns c = λ none. subst (λ log. (l : ℕ) → IsUnwritten (log_operations log) l → ⊥) c.self.view_is (c.self.invariant.unwritten_are (sym c.deref.ensures.value ∙ none))
