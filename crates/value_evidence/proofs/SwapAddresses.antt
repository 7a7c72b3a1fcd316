-- The store of a swap is one to the address of its load.
use Rattle.std.proofs.Common.{◌≡◌, ℕ, zero, suc, IsTrue, List, [], ◌∷◌, ◌++◌, Some, refl, sym, subst}
use Rattle.std.specs.List.{slice_get}
use Rattle.std.proofs.lemmas.Bool.{false≢true}
use Rattle.std.proofs.lemmas.Option.{none-some, same_Some}
use Rattle.tso_ops.specs.declared.ops.Outcome.{Outcome}
use Rattle.tso_ops.specs.declared.ops.Outcome.TheVariants.{Ld, St, Sw, Mb, Sb}
use Rattle.tso_ops.specs.declared.events.Event.{Event}
use Rattle.tso_ops.specs.Values.{TraceValue}
use Rattle.tso_ops.specs.Events.{events_from, events_of_lists, events_of, event_at, IsSwapLoad, SameAddress}

-- after each event of the list that is a swap's load stands an event at its address
SwapsKeepAddresses : List Event → Type 0
SwapsKeepAddresses events = (k : ℕ) (e : Event) → slice_get events k ≡ Some e → IsTrue e.load → IsTrue e.swap →
    (d : Event) × (slice_get events (suc k) ≡ Some d) × (e.a ≡ d.a)

-- that stays so with an event prepended that is no swap's load
SwapsKeepAddresses-one : (first : Event) (events : List Event) → (IsTrue first.load → IsTrue first.swap → ⊥) → SwapsKeepAddresses events → SwapsKeepAddresses (first ∷ events)
unfolding SwapsKeepAddresses
SwapsKeepAddresses-one first events other kept zero e at load swap =
    let same : first ≡ e = same_Some first e at in
    absurd (other (subst (λ x. IsTrue x.load) (sym same) load) (subst (λ x. IsTrue x.swap) (sym same) swap))
SwapsKeepAddresses-one first events other kept (suc k) e at load swap = kept k e at load swap

-- and with a swap's load and its store prepended
SwapsKeepAddresses-swap : (first second : Event) (events : List Event) → (IsTrue second.load → ⊥) → first.a ≡ second.a → SwapsKeepAddresses events →
    SwapsKeepAddresses (first ∷ second ∷ events)
unfolding SwapsKeepAddresses
SwapsKeepAddresses-swap first second events store address kept zero e at load swap =
    (second, refl, subst (λ x. x.a ≡ second.a) (same_Some first e at) address)
SwapsKeepAddresses-swap first second events store address kept (suc k) e at load swap =
    SwapsKeepAddresses-one second events (λ l s. store l) kept k e at load swap

-- and with the events of these operations prepended
SwapsKeepAddresses-from : (p bars stbars : ℕ) (ops : List Outcome) (rest : List Event) → SwapsKeepAddresses rest → SwapsKeepAddresses (events_from p bars stbars ops ++ rest)
SwapsKeepAddresses-from p bars stbars [] rest kept = kept
SwapsKeepAddresses-from p bars stbars (Ld a r ∷ ops) rest kept =
    SwapsKeepAddresses-one _ (events_from p bars stbars ops ++ rest) (λ l s. false≢true s) (SwapsKeepAddresses-from p bars stbars ops rest kept)
SwapsKeepAddresses-from p bars stbars (St a v ∷ ops) rest kept =
    SwapsKeepAddresses-one _ (events_from p bars stbars ops ++ rest) (λ l s. false≢true s) (SwapsKeepAddresses-from p bars stbars ops rest kept)
SwapsKeepAddresses-from p bars stbars (Sw a r v ∷ ops) rest kept =
    SwapsKeepAddresses-swap _ _ (events_from p bars stbars ops ++ rest) (λ l. false≢true l) refl (SwapsKeepAddresses-from p bars stbars ops rest kept)
SwapsKeepAddresses-from p bars stbars (Mb ∷ ops) rest kept = SwapsKeepAddresses-from p (suc bars) stbars ops rest kept
SwapsKeepAddresses-from p bars stbars (Sb ∷ ops) rest kept = SwapsKeepAddresses-from p bars (suc stbars) ops rest kept

-- the events of all processors
SwapsKeepAddresses-lists : (p : ℕ) (lists : List (List Outcome)) → SwapsKeepAddresses (events_of_lists p lists)
unfolding SwapsKeepAddresses
SwapsKeepAddresses-lists p [] = λ k e at load swap. absurd (none-some e at)
SwapsKeepAddresses-lists p (ops ∷ lists) = SwapsKeepAddresses-from p 0 0 ops (events_of_lists (suc p) lists) (SwapsKeepAddresses-lists (suc p) lists)

-- the store of a swap is one to the address of its load
pub swap_address : (t : TraceValue) (l : ℕ) → IsSwapLoad t l → SameAddress t l (suc l)
unfolding event_at events_of SwapsKeepAddresses
swap_address t zero swap = absurd (none-some swap.0 swap.1)
swap_address t (suc k) swap = let d = SwapsKeepAddresses-lists 0 t.lists k swap.0 swap.1 swap.2 swap.3 in (swap.0, d.0, swap.1, d.1, d.2)
