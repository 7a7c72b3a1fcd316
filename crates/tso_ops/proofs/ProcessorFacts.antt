-- Events in file order stand processor by processor, and on each its barriers only add up.
use Rattle.std.proofs.Common.{◌≡◌, ℕ, zero, suc, ◌<◌, ◌≤◌, List, [], ◌∷◌, ◌++◌, Some, slice_get, subst, ap, true, false, arith}
use Rattle.std.specs.List.{AllByRecursion}
use Rattle.tso_ops.specs.declared.ops.Outcome.{Outcome}
use Rattle.tso_ops.specs.declared.ops.Outcome.TheVariants.{Ld, St, Sw, Mb, Sb}
use Rattle.tso_ops.specs.declared.events.Event.{Event}
use Rattle.tso_ops.specs.Values.{TraceValue}
use Rattle.tso_ops.specs.Events.{events_from, events_of_lists, events_of, event_at}
use Rattle.tso_ops.proofs.EventFacts.{each-at}

-- the processors of these events are p or above
AreFrom : ℕ → List Event → Type 0
AreFrom p events = AllByRecursion (λ (e : Event). p ≤ e.proc) events

from-events : (p bars stbars : ℕ) (ops : List Outcome) (rest : List Event) → AreFrom p rest → AreFrom p (events_from p bars stbars ops ++ rest)
unfolding AreFrom
from-events p bars stbars [] rest above = above
from-events p bars stbars (Ld a r ∷ ops) rest above = (omega arith, from-events p bars stbars ops rest above)
from-events p bars stbars (St a v ∷ ops) rest above = (omega arith, from-events p bars stbars ops rest above)
from-events p bars stbars (Sw a r v ∷ ops) rest above = (omega arith, (omega arith, from-events p bars stbars ops rest above))
from-events p bars stbars (Mb ∷ ops) rest above = from-events p (suc bars) stbars ops rest above
from-events p bars stbars (Sb ∷ ops) rest above = from-events p bars (suc stbars) ops rest above

from-less : (p q : ℕ) (events : List Event) → p ≤ q → AreFrom q events → AreFrom p events
unfolding AreFrom
from-less p q [] low above = tt
from-less p q (e ∷ events) low above = (let first : q ≤ e.proc = above.0 in omega arith, from-less p q events low above.1)

from-lists : (p : ℕ) (lists : List (List Outcome)) → AreFrom p (events_of_lists p lists)
unfolding AreFrom
from-lists p [] = tt
from-lists p (ops ∷ lists) = from-events p 0 0 ops (events_of_lists (suc p) lists) (from-less p (suc p) (events_of_lists (suc p) lists) (omega arith) (from-lists (suc p) lists))

-- ---- barriers

-- no fewer barriers, nor fewer STBARs, stand before these events than these numbers, where they are of processor p
HaveBarriersBefore : ℕ → ℕ → ℕ → List Event → Type 0
HaveBarriersBefore p bars stbars events = AllByRecursion (λ (e : Event). e.proc ≡ p → (bars ≤ e.bars) × (stbars ≤ e.stbars)) events

-- no fewer of them stand before an event than before one of its processor that stands before it
AreBarred : List Event → Type 0
AreBarred [] = Unit {0}
AreBarred (e ∷ events) = HaveBarriersBefore e.proc e.bars e.stbars events × AreBarred events

after-events : (p bars stbars more most : ℕ) (ops : List Outcome) (rest : List Event) → bars ≤ more → stbars ≤ most → HaveBarriersBefore p bars stbars rest →
    HaveBarriersBefore p bars stbars (events_from p more most ops ++ rest)
unfolding HaveBarriersBefore
after-events p bars stbars more most [] rest low low_st after = after
after-events p bars stbars more most (Ld a r ∷ ops) rest low low_st after = (λ same. (low, low_st), after-events p bars stbars more most ops rest low low_st after)
after-events p bars stbars more most (St a v ∷ ops) rest low low_st after = (λ same. (low, low_st), after-events p bars stbars more most ops rest low low_st after)
after-events p bars stbars more most (Sw a r v ∷ ops) rest low low_st after =
    (λ same. (low, low_st), (λ same. (low, low_st), after-events p bars stbars more most ops rest low low_st after))
after-events p bars stbars more most (Mb ∷ ops) rest low low_st after = after-events p bars stbars (suc more) most ops rest (omega arith) low_st after
after-events p bars stbars more most (Sb ∷ ops) rest low low_st after = after-events p bars stbars more (suc most) ops rest low (omega arith) after

after-others : (p bars stbars : ℕ) (events : List Event) → AreFrom (suc p) events → HaveBarriersBefore p bars stbars events
unfolding AreFrom HaveBarriersBefore
after-others p bars stbars [] above = tt
after-others p bars stbars (e ∷ events) above =
    (λ same. absurd (let first : suc p ≤ e.proc = above.0 in omega arith), after-others p bars stbars events above.1)

-- the events of a processor's other operations, and those of other processors
after-here : (p bars stbars : ℕ) (ops : List Outcome) (rest : List Event) → AreFrom (suc p) rest → HaveBarriersBefore p bars stbars (events_from p bars stbars ops ++ rest)
after-here p bars stbars ops rest above = after-events p bars stbars bars stbars ops rest (omega arith) (omega arith) (after-others p bars stbars rest above)

-- with the store of a swap prepended
after-one : (p bars stbars a v : ℕ) (rest : List Event) → HaveBarriersBefore p bars stbars rest →
    HaveBarriersBefore p bars stbars (record { proc = p; load = false; swap = true; a = a; value = v; bars = bars; stbars = stbars } ∷ rest)
unfolding HaveBarriersBefore
after-one p bars stbars a v rest after = (λ same. (omega arith, omega arith), after)

barred-events : (p bars stbars : ℕ) (ops : List Outcome) (rest : List Event) → AreFrom (suc p) rest → AreBarred rest → AreBarred (events_from p bars stbars ops ++ rest)
unfolding AreBarred
barred-events p bars stbars [] rest above barred = barred
barred-events p bars stbars (Ld a r ∷ ops) rest above barred = (after-here p bars stbars ops rest above, barred-events p bars stbars ops rest above barred)
barred-events p bars stbars (St a v ∷ ops) rest above barred = (after-here p bars stbars ops rest above, barred-events p bars stbars ops rest above barred)
barred-events p bars stbars (Sw a r v ∷ ops) rest above barred =
    let after = after-here p bars stbars ops rest above in
    (after-one p bars stbars a v (events_from p bars stbars ops ++ rest) after, (after, barred-events p bars stbars ops rest above barred))
barred-events p bars stbars (Mb ∷ ops) rest above barred = barred-events p (suc bars) stbars ops rest above barred
barred-events p bars stbars (Sb ∷ ops) rest above barred = barred-events p bars (suc stbars) ops rest above barred

barred-lists : (p : ℕ) (lists : List (List Outcome)) → AreBarred (events_of_lists p lists)
unfolding AreBarred
barred-lists p [] = tt
barred-lists p (ops ∷ lists) = barred-events p 0 0 ops (events_of_lists (suc p) lists) (from-lists (suc p) lists) (barred-lists (suc p) lists)

barred-at : (events : List Event) (j k : ℕ) (d e : Event) → AreBarred events → j < k → slice_get events j ≡ Some d → slice_get events k ≡ Some e → d.proc ≡ e.proc →
    (d.bars ≤ e.bars) × (d.stbars ≤ e.stbars)
unfolding AreBarred HaveBarriersBefore
barred-at [] j k d e barred order at_j at_k same = absurd cc
barred-at (x ∷ events) j zero d e barred order at_j at_k same = absurd (omega arith)
barred-at (x ∷ events) zero (suc k) d e barred order at_j at_k same =
    let first : x ≡ d = cc in
    let after : e.proc ≡ x.proc → (x.bars ≤ e.bars) × (x.stbars ≤ e.stbars) =
    each-at (λ (y : Event). y.proc ≡ x.proc → (x.bars ≤ y.bars) × (x.stbars ≤ y.stbars)) events k e at_k barred.0 in
    subst (λ (y : Event). (y.bars ≤ e.bars) × (y.stbars ≤ e.stbars)) first (after (let one : x.proc ≡ d.proc = ap (λ (y : Event). y.proc) first in omega arith))
barred-at (x ∷ events) (suc j) (suc k) d e barred order at_j at_k same = barred-at events j k d e barred.1 (omega arith) at_j at_k same

barriers_ascend : (t : TraceValue) (m n : ℕ) (d e : Event) → event_at t m ≡ Some d → event_at t n ≡ Some e → d.proc ≡ e.proc → m < n →
    (d.bars ≤ e.bars) × (d.stbars ≤ e.stbars)
unfolding events_of event_at
barriers_ascend t zero n d e at_m at_n same order = absurd cc
barriers_ascend t (suc j) zero d e at_m at_n same order = absurd cc
barriers_ascend t (suc j) (suc k) d e at_m at_n same order = barred-at (events_of_lists 0 t.lists) j k d e (barred-lists 0 t.lists) (omega arith) at_m at_n same

-- no fewer barriers stand before an event than before a program-earlier one
pub bars_ascend : (t : TraceValue) (m n : ℕ) (d e : Event) → event_at t m ≡ Some d → event_at t n ≡ Some e → d.proc ≡ e.proc → m < n → d.bars ≤ e.bars
bars_ascend t m n d e at_m at_n same order = (barriers_ascend t m n d e at_m at_n same order).0

-- nor fewer STBARs
pub stbars_ascend : (t : TraceValue) (m n : ℕ) (d e : Event) → event_at t m ≡ Some d → event_at t n ≡ Some e → d.proc ≡ e.proc → m < n → d.stbars ≤ e.stbars
stbars_ascend t m n d e at_m at_n same order = (barriers_ascend t m n d e at_m at_n same order).1
