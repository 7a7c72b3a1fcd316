use Rattle.std.proofs.Common.{◌≡◌, ◌∙◌, sym, ap, subst, List, [], ◌∷◌, ℕ, Some, length, slice_get, arith}
use Rattle.std.proofs.lemmas.Result.{err_from_is_err_and}
use Rattle.tso_ops.specs.Values.{rows}
use Rattle.final_states.specs.Internal.Search.{AddsAll}
use Rattle.final_states.specs.Internal.Words.{first_words}
use Rattle.final_states.proofs.SearchFacts.{first-past, none-past, rows-length, rows-read, searching-all, searching-first, searching-next, searching-past, width-read}
use Rattle.final_states.proofs.search.reached_words.Goals as goal

pub returns-in_err-add-clause-refused : goal.returns-in_err-add-clause-refused
returns-in_err-add-clause-refused c =
    let p = err_from_is_err_and c.from_residual-in_err-add.result c.from_residual-in_err-add.ensures.1 in
    let found = rows c.add.new.reached.keys in
    rw (p.1, p.2) (λ many.
    let adds : AddsAll (first_words c.args.program.now c.args.plan.now.addresses.items ∷ []) [] found =
    subst (λ (old : List (List ℕ)). AddsAll (first_words c.args.program.now c.args.plan.now.addresses.items ∷ []) old found) (ap rows c.new-reached.ensures.empty)
    (subst (λ (w : List ℕ). AddsAll (w ∷ []) (rows c.new-reached.result.keys) found) c.in_ok-first_words.ensures (c.in_err-add.ensures.refused many)) in
    (found, first-past c.args.program.now c.args.plan.now.addresses.items c.args.limit c.requires.places found adds (omega (arith, rows-length c.add.new.reached.keys, c.in_err-add.ensures.many many))))

pub loop-words-init : goal.loop-words-init
loop-words-init c =
    let found = rows c.add.new.reached.keys in
    let adds : AddsAll (first_words c.args.program.now c.args.plan.now.addresses.items ∷ []) [] found =
    subst (λ (old : List (List ℕ)). AddsAll (first_words c.args.program.now c.args.plan.now.addresses.items ∷ []) old found) (ap rows c.new-reached.ensures.empty)
    (subst (λ (w : List ℕ). AddsAll (w ∷ []) (rows c.new-reached.result.keys) found) c.in_ok-first_words.ensures c.in_ok-add.ensures.added) in
    searching-first c.args.program.now c.args.plan.now.addresses.items c.args.limit c.requires.places found adds (omega (arith, rows-length c.add.new.reached.keys, c.in_ok-add.ensures.few))

pub following-requires-clause-width : goal.following-requires-clause-width
following-requires-clause-width c =
    let read = rows-read c.loop-words.reached.keys c.loop-words.index c.in-Some.words.now (sym c.in-Some.ensures.key) in
    ap length c.deref.ensures.value ∙ width-read c.args.program.now c.args.plan.now.addresses.items c.args.limit (rows c.loop-words.reached.keys) c.loop-words.index _ c.loop-words.invariant read

pub returns-in_err-add_all-clause-refused : goal.returns-in_err-add_all-clause-refused
returns-in_err-add_all-clause-refused c =
    let p = err_from_is_err_and c.from_residual-in_err-add_all.result c.from_residual-in_err-add_all.ensures.1 in
    let read : slice_get (rows c.loop-words.reached.keys) c.loop-words.index ≡ Some c.deref.result.now =
    rows-read c.loop-words.reached.keys c.loop-words.index c.in-Some.words.now (sym c.in-Some.ensures.key) ∙ ap Some (sym c.deref.ensures.value) in
    let found = rows c.add_all.new.reached.keys in
    rw (p.1, p.2) (λ many. (
      found,
      searching-past c.args.program.now c.args.plan.now.addresses.items c.args.limit c.requires.places (rows c.loop-words.reached.keys) (rows c.in_ok-next.next.items) found c.loop-words.index c.deref.result.now
          c.loop-words.invariant read c.in_ok-next.ensures (c.in_err-add_all.ensures.refused many) (omega (arith, rows-length c.add_all.new.reached.keys, c.in_err-add_all.ensures.many many)),
    ))

pub loop-words-preserved : goal.loop-words-preserved
loop-words-preserved c =
    let read : slice_get (rows c.loop-words.reached.keys) c.loop-words.index ≡ Some c.deref.result.now =
    rows-read c.loop-words.reached.keys c.loop-words.index c.in-Some.words.now (sym c.in-Some.ensures.key) ∙ ap Some (sym c.deref.ensures.value) in
    searching-next c.args.program.now c.args.plan.now.addresses.items c.args.limit c.requires.places (rows c.loop-words.reached.keys) (rows c.in_ok-next.next.items) (rows c.add_all.new.reached.keys)
    c.loop-words.index c.deref.result.now c.loop-words.invariant read c.in_ok-next.ensures c.in_ok-add_all.ensures.added (omega (arith, rows-length c.add_all.new.reached.keys, c.in_ok-add_all.ensures.few))

pub returns-clause-found : goal.returns-clause-found
returns-clause-found c =
    searching-all c.args.program.now c.args.plan.now.addresses.items c.args.limit c.requires.places (rows c.loop-words.reached.keys) c.loop-words.index c.loop-words.invariant
    (omega (arith, rows-length c.loop-words.reached.keys, none-past c.loop-words.reached.keys c.loop-words.index (sym c.in_default.ensures.key)))
