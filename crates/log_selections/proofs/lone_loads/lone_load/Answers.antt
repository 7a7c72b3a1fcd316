use Rattle.std.proofs.Common.{◌≡◌, ◌∙◌, List, [], ◌∷◌, ◌++◌, ap}
use Rattle.tso_ops.specs.declared.ops.Outcome.{Outcome}
use Rattle.tso_ops.specs.declared.ops.Outcome.TheVariants.{Ld}
use Rattle.tso_ops.specs.Values.{rows}
use Rattle.log_selections.proofs.LoneLoads.{lone_is_trace}
use Rattle.log_selections.proofs.lone_loads.lone_load.Goals as goal

pub of_lists-requires : goal.of_lists-requires
of_lists-requires c =
    let list : c.push.new.self.items ≡ Ld 0 1 ∷ [] = c.in_ok-push.ensures.items ∙ ap (λ (xs : List Outcome). xs ++ Ld 0 1 ∷ []) c.new-list.ensures.items in
    let lists : rows c.push-2.new.self.items ≡ (Ld 0 1 ∷ []) ∷ [] =
    ap rows (c.in_ok-push-2.ensures.items ∙ ap (λ xs. xs ++ c.push.new.self ∷ []) c.new-lists.ensures.items) ∙ ap (λ (xs : List Outcome). xs ∷ []) list in
    rw (c.new.ensures.items, lists) (lone_is_trace c.args.order)
