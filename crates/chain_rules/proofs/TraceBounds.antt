-- Bounds on the numbers of a trace: its processors, its addresses and its chains.
use Rattle.std.proofs.Common.{◌≡◌, ◌⊎◌, inl, inr, ℕ, zero, suc, ◌+◌, ◌*◌, ◌<◌, ◌≤◌, max, List, [], ◌∷◌, ◌++◌, length, map, Option, None, Some, true, false, get_or, refl, sym, subst, ap, ◌∙◌, arith}
use Rattle.std.specs.List.{AllByRecursion}
use Rattle.std.proofs.lemmas.Bool.{cases_eq}
use Rattle.std.proofs.lemmas.Nat.{mul-le, row_fits}
use Rattle.std.proofs.lemmas.List.{length-map}
use Rattle.std.proofs.lemmas.Option.{slice_get-get_or}
use Rattle.tso_ops.specs.declared.ops.Outcome.{Outcome}
use Rattle.tso_ops.specs.declared.ops.Outcome.TheVariants.{Ld, St, Sw, Mb, Sb}
use Rattle.tso_ops.specs.declared.settings.Order.{Order}
use Rattle.tso_ops.specs.declared.settings.Order.TheVariants.{Tso, Pso}
use Rattle.tso_ops.specs.declared.events.Event.{Event}
use Rattle.tso_ops.specs.Values.{TraceValue, op_of}
use Rattle.tso_ops.specs.Limits.{IsTrace}
use Rattle.tso_ops.specs.Events.{processor_count, events_from, events_of_lists, events_of, event_total, event_at, IsEvent}
use Rattle.tso_ops.proofs.EventFacts.{each-at, event_in_range}
use Rattle.chain_rules.specs.Chains.{address_bound, addresses_below, address_total, chain_width, chain_total}

-- ---- processors

-- the processors of these events are below q
AreBelow : ℕ → List Event → Type 0
AreBelow q events = AllByRecursion (λ (e : Event). e.proc < q) events

below-events : (p q bars stbars : ℕ) (ops : List Outcome) (rest : List Event) → p < q → AreBelow q rest → AreBelow q (events_from p bars stbars ops ++ rest)
unfolding AreBelow
below-events p q bars stbars [] rest low below = below
below-events p q bars stbars (Ld a r ∷ ops) rest low below = (low, below-events p q bars stbars ops rest low below)
below-events p q bars stbars (St a v ∷ ops) rest low below = (low, below-events p q bars stbars ops rest low below)
below-events p q bars stbars (Sw a r v ∷ ops) rest low below = (low, (low, below-events p q bars stbars ops rest low below))
below-events p q bars stbars (Mb ∷ ops) rest low below = below-events p q (suc bars) stbars ops rest low below
below-events p q bars stbars (Sb ∷ ops) rest low below = below-events p q bars (suc stbars) ops rest low below

below-lists : (p q : ℕ) (lists : List (List Outcome)) → p + length lists ≤ q → AreBelow q (events_of_lists p lists)
unfolding AreBelow
below-lists p q [] low = tt
below-lists p q (ops ∷ lists) low = below-events p q 0 0 ops (events_of_lists (suc p) lists) (omega arith) (below-lists (suc p) q lists (omega arith))

-- an event's processor is one of the trace's
pub processor_below : (t : TraceValue) (n : ℕ) (e : Event) → event_at t n ≡ Some e → e.proc < processor_count t
unfolding events_of event_at AreBelow
processor_below t zero e at = absurd cc
processor_below t (suc k) e at =
    each-at (λ (x : Event). x.proc < length t.lists) (events_of_lists 0 t.lists) k e at (below-lists 0 (length t.lists) t.lists (omega arith))

pub processors-most : (t : TraceValue) → IsTrace t → processor_count t ≤ 16
processors-most t trace =
    let most : length (map (map op_of) t.lists) ≤ 16 = trace.program.processors in
    subst (λ n. n ≤ 16) (length-map t.lists (map op_of)) most

-- the numbers above 0 up to the number of events are events
pub event_exists : (t : TraceValue) (n : ℕ) → 0 < n → n < suc (event_total t) → IsEvent t n
unfolding event_at
event_exists t zero above within = absurd (omega arith)
event_exists t (suc k) above within =
    let none : Event = record { proc = 0; load = true; swap = false; a = 0; value = 0; bars = 0; stbars = 0 } in
    (get_or (events_of t) k none, slice_get-get_or (events_of t) k none (omega arith))

pub event_or_none : (o : Option Event) → (o ≡ None) ⊎ ((e : Event) × (o ≡ Some e))
event_or_none None = inl refl
event_or_none (Some e) = inr (e, refl)

-- ---- addresses

bound-most : (t : TraceValue) → IsTrace t → (n : ℕ) (o : Option Event) → event_at t n ≡ o → address_bound o ≤ 256
bound-most t trace n None at = omega arith
bound-most t trace n (Some e) at = (let range = (event_in_range t trace n e at).0 in omega (arith, range))

addresses-most : (t : TraceValue) → IsTrace t → (n : ℕ) → addresses_below t n ≤ 256
unfolding addresses_below
addresses-most t trace zero = omega arith
addresses-most t trace (suc n) =
    let before = addresses-most t trace n in
    let here = bound-most t trace n (event_at t n) refl in
    omega (arith, before, here)

pub addresses-some : (t : TraceValue) (n : ℕ) → 0 < addresses_below t n
unfolding addresses_below
addresses-some t zero = omega arith
addresses-some t (suc n) = (let before = addresses-some t n in omega (arith, before))

addresses-above : (t : TraceValue) (n m : ℕ) (e : Event) → m < n → event_at t m ≡ Some e → e.a < addresses_below t n
unfolding addresses_below
addresses-above t zero m e low at = absurd (omega arith)
addresses-above t (suc n) m e low at = elim (cases_eq m n) [
  | inl is ↦ (
      let bound : address_bound (event_at t n) ≡ e.a + 1 = ap (λ k. address_bound (event_at t k)) (sym is) ∙ ap address_bound at in
      omega (arith, bound)
      )
  | inr other ↦ (let before = addresses-above t n m e (omega (arith, low, other)) at in omega (arith, before))
]

-- the greatest address after one number more
addresses-more : (t : TraceValue) (n : ℕ) → addresses_below t (n + 1) ≡ max (addresses_below t n) (address_bound (event_at t n))
unfolding addresses_below
addresses-more t n = ap (addresses_below t) (let more : n + 1 ≡ suc n = omega arith in more)

pub addresses-none : (t : TraceValue) → addresses_below t 0 ≡ 1
unfolding addresses_below
addresses-none t = refl

-- an event's address is below their number
pub address_below : (t : TraceValue) (n : ℕ) (e : Event) → n < suc (event_total t) → event_at t n ≡ Some e → e.a < address_total t
address_below t n e within at = addresses-above t (suc (event_total t)) n e within at

-- ---- chains

pub width-most : (t : TraceValue) → IsTrace t → (order : Order) → chain_width order (address_total t) ≤ 256
width-most t trace Tso = omega arith
width-most t trace Pso = addresses-most t trace (suc (event_total t))

pub chain_total-most : (t : TraceValue) → IsTrace t → chain_total t ≤ 4113
chain_total-most t trace =
    let processors = processors-most t trace in
    let width = width-most t trace t.setting.order in
    let all : processor_count t * (1 + chain_width t.setting.order (address_total t)) ≤ 16 * 257 =
    mul-le (processor_count t) (1 + chain_width t.setting.order (address_total t)) 16 257 processors (omega (arith, width)) in
    omega (arith, all)

-- so many places by processor and address there are at most
pub slots-most : (t : TraceValue) (addresses : ℕ) → IsTrace t → addresses ≡ address_total t → processor_count t * addresses ≤ 4096
slots-most t addresses trace is =
    let processors = processors-most t trace in
    let most = addresses-most t trace (suc (event_total t)) in
    mul-le (processor_count t) addresses 16 256 processors (omega (arith, most, is))

-- the place of an event by processor and address is one of them
pub slot_below : (t : TraceValue) (addresses n : ℕ) (e : Event) → addresses ≡ address_total t → n < suc (event_total t) → event_at t n ≡ Some e →
    e.proc * addresses + e.a < processor_count t * addresses
slot_below t addresses n e is within at =
    let fits : e.proc * addresses + addresses ≤ processor_count t * addresses = row_fits e.proc addresses (processor_count t) addresses (processor_below t n e at) (omega arith) in
    let low = address_below t n e within at in
    omega (arith, fits, low, is)

-- the count of addresses after an event more, and after what is none
pub count_more : (t : TraceValue) (n count next : ℕ) (o : Option Event) → count ≡ addresses_below t n → event_at t n ≡ o → next ≡ max count (address_bound o) → next ≡ addresses_below t (n + 1)
count_more t n count next o before at is = is ∙ ap (λ k. max k (address_bound o)) before ∙ ap (λ e. max (addresses_below t n) (address_bound e)) (sym at) ∙ sym (addresses-more t n)
