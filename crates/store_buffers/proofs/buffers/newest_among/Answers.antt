use Rattle.std.proofs.Common.{◌≡◌, ◌∙◌, sym, ap, suc, ◌-◌, drop, slice_get, Some, None, eq-eqb, arith, rules}
use Rattle.store_buffers.specs.Buffers.{newest_value}
use Rattle.store_buffers.proofs.EntryFacts.{newest-here, newest-not_here}
use Rattle.store_buffers.proofs.buffers.newest_among.Goals as goal
use Rattle.store_buffers.proofs.buffers.newest_among.Goals.{in_default-via-in-None-1, in_default-via-in-Some+else-entry-a}

pub returns-in-loop-k : goal.returns-in-loop-k
returns-in-loop-k c =
    let entries = c.args.ring.now.items in
    let last : suc (c.loop-k.k - 1) ≡ c.loop-k.k = omega arith in
    let none : newest_value (drop (suc (c.loop-k.k - 1)) entries) c.args.a ≡ None = ap (λ k. newest_value (drop k entries) c.args.a) last ∙ c.loop-k.invariant in
    let read : slice_get entries (c.loop-k.k - 1) ≡ Some c.in-Some.entry.now = search rules in
    sym (newest-here entries (c.loop-k.k - 1) c.args.a c.in-Some.entry.now read (eq-eqb _ _ c.if-entry-a.true) none)

pub loop-k-preserved : goal.loop-k-preserved
loop-k-preserved c =
    let entries = c.args.ring.now.items in
    let last : suc (c.loop-k.k - 1) ≡ c.loop-k.k = omega arith in
    let none : newest_value (drop (suc (c.loop-k.k - 1)) entries) c.args.a ≡ None = ap (λ k. newest_value (drop k entries) c.args.a) last ∙ c.loop-k.invariant in
    newest-not_here entries (c.loop-k.k - 1) c.args.a (elim c.in_default.branch [ in_default-via-in-None-1 w ↦ (λ e read. search rules) | in_default-via-in-Some+else-entry-a w ↦ (λ e read. search rules) ]) none
