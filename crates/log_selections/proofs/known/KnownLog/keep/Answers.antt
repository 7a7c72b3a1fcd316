use Rattle.std.proofs.Common.{◌≡◌, ◌∙◌, sym, ap, subst, nat_eq, ℕ, Some, map, [], IfSome}
use Rattle.std.specs.List.{IsDistinct}
use Rattle.std.specs.Global.{Vec}
use Rattle.tso_ops.specs.declared.ops.Outcome.{Outcome}
use Rattle.tso_ops.specs.Values.{TraceValue, rows}
use Rattle.tso_ops.specs.Events.{HasSource, IsLoad}
use Rattle.log_selections.specs.Cuts.{AreCutFrom, IsCut, origin_in}
use Rattle.log_text.specs.LogValues.{log_operations, logged_outcomes}
use Rattle.log_selections.specs.Internal.Accesses.{numbers_of_lists}
use Rattle.log_selections.specs.Internal.Known.{source_in}
use Rattle.log_selections.proofs.known.KnownLog.keep.Goals as goal

pub returns : goal.returns
returns c =
    let log = c.self.inside.log in
    let addresses = c.args.named.now.addresses.items in
    let origins = c.keep_lists.new.origins.items in
    let numbered = ap rows c.deref-4.ensures.value ∙ c.self.invariant.numbered ∙ ap (λ ls. numbers_of_lists 1 (rows ls)) (sym c.deref-3.ensures.value) in
    let kept = subst (λ found. IfSome found (λ (outcomes : Vec (Vec Outcome)). c.new-origins.result.items ≡ [] → rows c.deref-4.result.now ≡ numbers_of_lists 1 (rows c.deref-3.result.now) →
    AreCutFrom c.deref-2.result.now 1 (map logged_outcomes (rows c.deref-3.result.now)) (rows outcomes.items) origins)) c.in-Some.is c.in_ok-lists.ensures in
    let cut = kept c.new-origins.ensures.items numbered in
    let loads : (l : ℕ) → IsLoad c.in-Ok.trace l → (s : ℕ) × HasSource c.in-Ok.trace l s × (source_in c.self.inside.sources.numbers.items (origin_in origins l) ≡ Some (origin_in origins s)) =
    subst (λ ns. (l : ℕ) → IsLoad c.in-Ok.trace l → (s : ℕ) × HasSource c.in-Ok.trace l s × (source_in ns (origin_in origins l) ≡ Some (origin_in origins s))) c.deref-7.ensures.value
    (subst (λ os. (l : ℕ) → IsLoad c.in-Ok.trace l → (s : ℕ) × HasSource c.in-Ok.trace l s × (source_in c.deref-7.result.now (origin_in os l) ≡ Some (origin_in os s))) c.deref-6.ensures.value (c.keeps_sources.ensures c.if-not-keeps_sources.false)) in
    subst (λ value. IsCut (log_operations value) c.in-Ok.trace) c.self.view_is (
      addresses,
      origins,
      record {
        model = ap (λ (t : TraceValue). t.setting.order) c.in-Ok.ensures.made;
        distinct = subst (IsDistinct nat_eq) c.deref.ensures.value (c.is_distinct.ensures c.if-not-is_distinct.false);
        lists = subst (λ xs. AreCutFrom xs 1 (map logged_outcomes (rows log.lists.items)) c.in-Ok.trace.lists origins) c.deref-2.ensures.value
            (subst (λ ls. AreCutFrom c.deref-2.result.now 1 (map logged_outcomes (rows ls)) c.in-Ok.trace.lists origins) c.deref-3.ensures.value
            (subst (λ ls. AreCutFrom c.deref-2.result.now 1 (map logged_outcomes (rows c.deref-3.result.now)) ls origins) (ap (λ (t : TraceValue). t.lists) (sym c.in-Ok.ensures.made)) cut));
        sources = λ l load. let (s, source, is) = loads l load in (s, source, c.self.invariant.known (origin_in origins l) (origin_in origins s) is);
      },
    )
