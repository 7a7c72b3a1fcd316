use Rattle.std.proofs.Common.{◌≡◌, ◌≤◌, ◌+◌, ◌∙◌, ◌++◌, ◌∷◌, [], ℕ, List, Option, ap, arith, refl, rules, subst, sym}
use Rattle.std.specs.Global.{Vec}
use Rattle.std.proofs.lemmas.Option.{slice_get-get_or}
use Rattle.log_selections.specs.declared.sources.Sources.{Sources}
use Rattle.log_selections.specs.Sources.{IsCountOf}
use Rattle.log_selections.specs.Internal.Known.{with_found}
use Rattle.log_selections.proofs.CountFacts.{AreListedTo, IsAmbiguousTo, ambiguous-all, ambiguous-load, ambiguous-none, ambiguous-store, listed-all, listed-load, listed-none, listed-store, with_found-few}
use Rattle.log_selections.proofs.SourceFacts.{found_source, no_source, sources-push}
use Rattle.log_selections.proofs.sources.find_sources.Goals as goal
use Rattle.log_selections.proofs.sources.find_sources.Goals.{then-access+in_ok-number, else-access}

pub loop-access-preserved : goal.loop-access-preserved
loop-access-preserved c =
    let i = c.loop-access.access-index in
    let first = c.args.first.now in
    let accesses = c.args.accesses.now in
    elim c.if-access.branch [
      | then-access+in_ok-number w ↦
          let few : c.loop-access.sources.ambiguous ≤ i = c.loop-access.invariant.few in
          let found = w.source_of.ensures first accesses c.in_ok-writers.ensures c.in_ok-values.ensures in
          let counted : c.if-access.sources.ambiguous ≡ with_found c.loop-access.sources.ambiguous w.source_of.result = ap (λ (t : Sources). t.ambiguous) w.sources-is ∙ w.in_ok-number.ensures.ambiguous (omega (arith, few)) in
          record {
            few = subst (λ n. n ≤ i + 1) (sym counted) (with_found-few i c.loop-access.sources.ambiguous w.source_of.result few);
            ambiguous = subst (IsCountOf (IsAmbiguousTo first accesses (i + 1))) (sym counted)
                (ambiguous-load first accesses i c.loop-access.sources.ambiguous _ w.source_of.result (slice_get-get_or accesses i _ c.loop-access-test.true) w.if-access.true found c.loop-access.invariant.ambiguous);
            numbers = sources-push first accesses i c.if-access.number c.loop-access.sources.numbers.items c.push-in-loop-access.new.self.items (c.in_ok-push-2.ensures.items ∙ ap (λ (ns : List (Option ℕ)). ns ++ c.if-access.number ∷ []) (ap (λ (t : Sources). t.numbers.items) w.sources-is ∙ ap (λ (v : Vec (Option ℕ)). v.items) w.note.ensures.kept))
                (found_source first accesses i _ w.source_of.result c.if-access.number (slice_get-get_or accesses i _ c.loop-access-test.true) w.if-access.true found (w.number-is ∙ w.in_ok-number.ensures.number)) c.loop-access.invariant.numbers;
            unwritten = subst (AreListedTo first accesses (i + 1)) (ap (λ (t : Sources). t.unwritten.items) (sym w.sources-is))
                (listed-load first accesses i _ w.source_of.result c.loop-access.sources.unwritten.items w.note.new.self.unwritten.items (slice_get-get_or accesses i _ c.loop-access-test.true) found w.in_ok-number.ensures.unwritten c.loop-access.invariant.unwritten);
          }
      | else-access w ↦
          let counted : c.if-access.sources.ambiguous ≡ c.loop-access.sources.ambiguous = ap (λ (t : Sources). t.ambiguous) w.sources-is in
          record {
            few = omega (arith, counted, c.loop-access.invariant.few);
            ambiguous = subst (IsCountOf (IsAmbiguousTo first accesses (i + 1))) (sym counted) (ambiguous-store first accesses i c.loop-access.sources.ambiguous _ (slice_get-get_or accesses i _ c.loop-access-test.true) w.if-access.false c.loop-access.invariant.ambiguous);
            numbers = sources-push first accesses i c.if-access.number c.loop-access.sources.numbers.items c.push-in-loop-access.new.self.items (c.in_ok-push-2.ensures.items ∙ ap (λ (t : Sources). t.numbers.items ++ c.if-access.number ∷ []) w.sources-is)
                (no_source first accesses i c.if-access.number w.number-is) c.loop-access.invariant.numbers;
            unwritten = subst (AreListedTo first accesses (i + 1)) (ap (λ (t : Sources). t.unwritten.items) (sym w.sources-is))
                (listed-store first accesses i _ c.loop-access.sources.unwritten.items (slice_get-get_or accesses i _ c.loop-access-test.true) w.if-access.false c.loop-access.invariant.unwritten);
          }
    ]

pub loop-access-init : goal.loop-access-init
loop-access-init c = record { numbers = search rules; few = omega arith; ambiguous = ambiguous-none c.args.first.now c.args.accesses.now; unwritten = λ _. listed-none c.args.first.now c.args.accesses.now refl }

pub returns-clause-ambiguous : goal.returns-clause-ambiguous
returns-clause-ambiguous c = ambiguous-all c.args.first.now c.args.accesses.now c.loop-access.access-index c.loop-access.sources.ambiguous c.loop-access-test.false c.loop-access.invariant.ambiguous

pub returns-clause-unwritten : goal.returns-clause-unwritten
returns-clause-unwritten c = listed-all c.args.first.now c.args.accesses.now c.loop-access.access-index c.loop-access.sources.unwritten.items c.loop-access-test.false c.loop-access.invariant.unwritten
