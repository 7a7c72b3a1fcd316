-- After each swap's load stands a store of its processor: the number after a swap's load is that of the swap's store, and an event's too.
use Rattle.std.proofs.Common.{◌≡◌, ℕ, zero, suc, ◌<◌, IsTrue, IsFalse, List, [], ◌∷◌, ◌++◌, Some, refl, sym, ap, ◌∙◌, subst, arith}
use Rattle.std.specs.List.{slice_get}
use Rattle.std.proofs.lemmas.Bool.{false≢true}
use Rattle.std.proofs.lemmas.Option.{none-some, same_Some}
use Rattle.tso_ops.specs.declared.ops.Outcome.{Outcome}
use Rattle.tso_ops.specs.declared.ops.Outcome.TheVariants.{Ld, St, Sw, Mb, Sb}
use Rattle.tso_ops.specs.declared.events.Event.{Event}
use Rattle.tso_ops.specs.Values.{TraceValue}
use Rattle.tso_ops.specs.Events.{events_from, events_of_lists, events_of, event_total, event_at, Earlier, IsEventOf, IsStore, IsSwapLoad}
use Rattle.tso_ops.proofs.NumberFacts.{event_unique, IsEvent-within, IsStore-within}

-- after each event of the list that is a swap's load stands a store of its processor
SwapsHaveStores : List Event → Type 0
SwapsHaveStores events = (k : ℕ) (e : Event) → slice_get events k ≡ Some e → IsTrue e.load → IsTrue e.swap →
    (d : Event) × (slice_get events (suc k) ≡ Some d) × IsFalse d.load × (e.proc ≡ d.proc)

-- that stays so with an event prepended that is no swap's load
SwapsHaveStores-one : (first : Event) (events : List Event) → (IsTrue first.load → IsTrue first.swap → ⊥) → SwapsHaveStores events → SwapsHaveStores (first ∷ events)
unfolding SwapsHaveStores
SwapsHaveStores-one first events other paired zero e at load swap =
    let same : first ≡ e = same_Some first e at in
    absurd (other (subst (λ x. IsTrue x.load) (sym same) load) (subst (λ x. IsTrue x.swap) (sym same) swap))
SwapsHaveStores-one first events other paired (suc k) e at load swap = paired k e at load swap

-- and with a swap's load and its store prepended
SwapsHaveStores-swap : (first second : Event) (events : List Event) → IsFalse second.load → first.proc ≡ second.proc → SwapsHaveStores events → SwapsHaveStores (first ∷ second ∷ events)
unfolding SwapsHaveStores
SwapsHaveStores-swap first second events store own paired zero e at load swap = (second, refl, store, ap (λ (x : Event). x.proc) (sym (same_Some first e at)) ∙ own)
SwapsHaveStores-swap first second events store own paired (suc k) e at load swap =
    SwapsHaveStores-one second events (λ l s. false≢true (sym store ∙ l)) paired k e at load swap

-- and with the events of these operations prepended
SwapsHaveStores-from : (p bars stbars : ℕ) (ops : List Outcome) (rest : List Event) → SwapsHaveStores rest → SwapsHaveStores (events_from p bars stbars ops ++ rest)
SwapsHaveStores-from p bars stbars [] rest paired = paired
SwapsHaveStores-from p bars stbars (Ld a r ∷ ops) rest paired = SwapsHaveStores-one _ (events_from p bars stbars ops ++ rest) (λ l s. false≢true s) (SwapsHaveStores-from p bars stbars ops rest paired)
SwapsHaveStores-from p bars stbars (St a v ∷ ops) rest paired = SwapsHaveStores-one _ (events_from p bars stbars ops ++ rest) (λ l s. false≢true s) (SwapsHaveStores-from p bars stbars ops rest paired)
SwapsHaveStores-from p bars stbars (Sw a r v ∷ ops) rest paired = SwapsHaveStores-swap _ _ (events_from p bars stbars ops ++ rest) refl refl (SwapsHaveStores-from p bars stbars ops rest paired)
SwapsHaveStores-from p bars stbars (Mb ∷ ops) rest paired = SwapsHaveStores-from p (suc bars) stbars ops rest paired
SwapsHaveStores-from p bars stbars (Sb ∷ ops) rest paired = SwapsHaveStores-from p bars (suc stbars) ops rest paired

-- the events of all processors have a store after each swap's load
SwapsHaveStores-lists : (p : ℕ) (lists : List (List Outcome)) → SwapsHaveStores (events_of_lists p lists)
unfolding SwapsHaveStores
SwapsHaveStores-lists p [] = λ k e at load swap. absurd (none-some e at)
SwapsHaveStores-lists p (ops ∷ lists) = SwapsHaveStores-from p 0 0 ops (events_of_lists (suc p) lists) (SwapsHaveStores-lists (suc p) lists)

-- the number after a swap's load is a store's
pub IsSwapLoad-store : (t : TraceValue) (l : ℕ) → IsSwapLoad t l → IsStore t (suc l)
unfolding event_at events_of SwapsHaveStores
IsSwapLoad-store t zero h = absurd (none-some h.0 h.1)
IsSwapLoad-store t (suc k) h = let d = SwapsHaveStores-lists 0 t.lists k h.0 h.1 h.2 h.3 in (d.0, d.1, d.2)

-- a swap's load is program-earlier than its store
pub IsSwapLoad-earlier : (t : TraceValue) (l : ℕ) → IsSwapLoad t l → Earlier t l (suc l)
unfolding event_at events_of SwapsHaveStores
IsSwapLoad-earlier t zero h = absurd (none-some h.0 h.1)
IsSwapLoad-earlier t (suc k) h = let d = SwapsHaveStores-lists 0 t.lists k h.0 h.1 h.2 h.3 in (h.0, d.0, h.1, d.1, d.3, omega arith)

-- and an event of the processor of its store
pub IsSwapLoad-processor : (t : TraceValue) (p l : ℕ) → IsSwapLoad t l → IsEventOf t p (suc l) → IsEventOf t p l
IsSwapLoad-processor t p l h of =
    let own = IsSwapLoad-earlier t l h in
    (own.0, own.2, own.4 ∙ ap (λ (x : Event). x.proc) (event_unique t (suc l) own.1 of.0 own.3 of.1) ∙ of.2)

-- the numbers of a swap's load and of its store lie within the numbers of events
pub IsSwapLoad-within : (t : TraceValue) (l : ℕ) → IsSwapLoad t l → (l < suc (event_total t)) × (suc l < suc (event_total t))
IsSwapLoad-within t l h = (IsEvent-within t l (h.0, h.1), IsStore-within t (suc l) (IsSwapLoad-store t l h))
