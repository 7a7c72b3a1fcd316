-- A swap's load and its store are events of one processor, so the load is program-earlier.
use Rattle.std.proofs.Common.{◌≡◌, ℕ, zero, suc, IsTrue, IsFalse, List, [], ◌∷◌, ◌++◌, Some, refl, sym, ◌∙◌, subst, arith}
use Rattle.std.specs.List.{slice_get}
use Rattle.std.proofs.lemmas.Bool.{false≢true}
use Rattle.std.proofs.lemmas.Option.{none-some, same_Some}
use Rattle.tso_ops.specs.declared.ops.Outcome.{Outcome}
use Rattle.tso_ops.specs.declared.ops.Outcome.TheVariants.{Ld, St, Sw, Mb, Sb}
use Rattle.tso_ops.specs.declared.events.Event.{Event}
use Rattle.tso_ops.specs.Values.{TraceValue}
use Rattle.tso_ops.specs.Events.{events_from, events_of_lists, events_of, event_at, IsSwapLoad, Earlier}

-- after each event of the list that is a swap's load stands one of its processor
AreOfOneProcessor : List Event → Type 0
AreOfOneProcessor events = (k : ℕ) (e : Event) → slice_get events k ≡ Some e → IsTrue e.load → IsTrue e.swap →
    (d : Event) × (slice_get events (suc k) ≡ Some d) × (e.proc ≡ d.proc)

-- that stays so with an event prepended that is no swap's load
after_other : (first : Event) (events : List Event) → (IsTrue first.load → IsTrue first.swap → ⊥) → AreOfOneProcessor events → AreOfOneProcessor (first ∷ events)
unfolding AreOfOneProcessor
after_other first events other paired zero e at load swap =
    let same : first ≡ e = same_Some first e at in
    absurd (other (subst (λ x. IsTrue x.load) (sym same) load) (subst (λ x. IsTrue x.swap) (sym same) swap))
after_other first events other paired (suc k) e at load swap = paired k e at load swap

-- and with a swap's load and its store prepended
after_swap : (first second : Event) (events : List Event) → first.proc ≡ second.proc → IsFalse second.load → AreOfOneProcessor events → AreOfOneProcessor (first ∷ second ∷ events)
unfolding AreOfOneProcessor
after_swap first second events one store paired zero e at load swap =
    let same : first ≡ e = same_Some first e at in
    (second, refl, subst (λ (x : Event). x.proc ≡ second.proc) same one)
after_swap first second events one store paired (suc k) e at load swap =
    after_other second events (λ l s. false≢true (sym store ∙ l)) paired k e at load swap

-- and with the events of these operations prepended
after_operations : (p bars stbars : ℕ) (ops : List Outcome) (rest : List Event) → AreOfOneProcessor rest → AreOfOneProcessor (events_from p bars stbars ops ++ rest)
after_operations p bars stbars [] rest paired = paired
after_operations p bars stbars (Ld a r ∷ ops) rest paired = after_other _ (events_from p bars stbars ops ++ rest) (λ l s. false≢true s) (after_operations p bars stbars ops rest paired)
after_operations p bars stbars (St a v ∷ ops) rest paired = after_other _ (events_from p bars stbars ops ++ rest) (λ l s. false≢true s) (after_operations p bars stbars ops rest paired)
after_operations p bars stbars (Sw a r v ∷ ops) rest paired = after_swap _ _ (events_from p bars stbars ops ++ rest) refl refl (after_operations p bars stbars ops rest paired)
after_operations p bars stbars (Mb ∷ ops) rest paired = after_operations p (suc bars) stbars ops rest paired
after_operations p bars stbars (Sb ∷ ops) rest paired = after_operations p bars (suc stbars) ops rest paired

-- so it is with the events of all processors
of_lists : (p : ℕ) (lists : List (List Outcome)) → AreOfOneProcessor (events_of_lists p lists)
unfolding AreOfOneProcessor
of_lists p [] = λ k e at load swap. absurd (none-some e at)
of_lists p (ops ∷ lists) = after_operations p 0 0 ops (events_of_lists (suc p) lists) (of_lists (suc p) lists)

-- a swap's load is program-earlier than its store
pub swap_earlier : (t : TraceValue) (l : ℕ) → IsSwapLoad t l → Earlier t l (suc l)
unfolding event_at events_of AreOfOneProcessor
swap_earlier t zero h = absurd (none-some h.0 h.1)
swap_earlier t (suc k) h =
    let after = of_lists 0 t.lists k h.0 h.1 h.2 h.3 in
    (h.0, after.0, h.1, after.1, after.2, omega arith)
