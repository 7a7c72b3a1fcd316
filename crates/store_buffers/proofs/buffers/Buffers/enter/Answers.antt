use Rattle.std.proofs.Common.{◌≡◌, ◌∙◌, sym, ap, [], ◌∷◌, ◌++◌, length, arith, rules, Result, Ok, Err}
use Rattle.std.specs.Result.{IsOk, OnOk}
use Rattle.std.proofs.lemmas.Bool.{false≢true}
use Rattle.store_buffers.specs.Buffers.{entries_of, with_entries}
use Rattle.store_buffers.proofs.RingFacts.{entries-ring, kept-ring, with-ring}
use Rattle.store_buffers.proofs.buffers.Buffers.enter.Goals as goal

pushed : {A B : Type 0} (r : Result A B) (P : Type 0) → OnOk r P → IsOk r → P
pushed (Ok x) P on is = on
pushed (Err e) P on is = absurd (false≢true is)

pub returns : goal.returns
returns c =
    let u = c.self.inside in
    let old = c.index_mut.result.now in
    let here : entries_of c.args.self.now c.args.p ≡ old.items = ap (λ b. entries_of b c.args.p) (sym c.self.view_is) ∙ entries-ring u.memory.items u.rings.items u.capacity c.args.p old (search rules) c.index_mut.ensures.value in
    let kept = kept-ring u.memory.items u.rings.items u.capacity c.args.p old (search rules) c.index_mut.ensures.value c.self.invariant in
    let is : c.try_push_back-full.new.self.items ≡ old.items ++ record { a = c.args.a; v = c.args.v } ∷ [] =
    ap (λ r. r.items) (pushed c.try_push_back-full.result _ c.try_push_back-full.ensures.ok (c.try_push_back-full.ensures.variant.1 (omega (arith, kept.size, ap length here, ap (λ b. b.capacity) c.self.view_is)))) in
    with-ring u.memory.items u.rings.items u.capacity c.args.p c.try_push_back-full.new.self
    ∙ ap (λ b. with_entries b c.args.p c.try_push_back-full.new.self.items) c.self.view_is
    ∙ ap (with_entries c.args.self.now c.args.p) (is ∙ ap (λ es. es ++ record { a = c.args.a; v = c.args.v } ∷ []) (sym here))
