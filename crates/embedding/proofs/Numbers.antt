-- Which numbers the events of each processor have in the trace of a run.
use Rattle.std.proofs.Common.{◌≡◌, ◌⊎◌, inl, inr, sym, ap, refl, subst, ℕ, zero, suc, ◌+◌, ◌<◌, ◌≤◌, true, false, Some, List, [], ◌∷◌, ◌++◌, length, slice_get, eqb, arith}
use Rattle.std.proofs.lemmas.Bool.{cases_eq, eq-eqb, ne_eqb}
use Rattle.std.proofs.lemmas.Option.{slice_get_within}
use Rattle.tso_ops.specs.declared.ops.Outcome.{Outcome}
use Rattle.tso_ops.specs.declared.ops.Outcome.TheVariants.{Ld, St, Sw, Mb, Sb}
use Rattle.tso_ops.specs.declared.events.Event.{Event}
use Rattle.tso_ops.specs.Settings.{SettingValue}
use Rattle.tso_ops.specs.Values.{TraceValue}
use Rattle.tso_ops.specs.Events.{event_at, events_from, events_of, events_of_lists}
use Rattle.unit_core.specs.declared.steps.Step.{Step}
use Rattle.unit_core.specs.Machine.{lists_from, outcomes_of, trace_of}
use Rattle.embedding.specs.RunOrder.{events_before}
use Rattle.embedding.proofs.Moments.{Follow}

at_left : {X : Type 0} (xs ys : List X) (k : ℕ) (x : X) → slice_get xs k ≡ Some x → slice_get (xs ++ ys) k ≡ Some x
at_left [] ys k x read = absurd cc
at_left (y ∷ xs) ys zero x read = read
at_left (y ∷ xs) ys (suc k) x read = at_left xs ys k x read

at_right : {X : Type 0} (xs ys : List X) (k : ℕ) (x : X) → slice_get ys k ≡ Some x → slice_get (xs ++ ys) (length xs + k) ≡ Some x
at_right [] ys k x read = let same : 0 + k ≡ k = omega arith in subst (λ n. slice_get ys n ≡ Some x) (sym same) read
at_right (y ∷ xs) ys k x read =
    let same : suc (length xs) + k ≡ suc (length xs + k) = omega arith in
    subst (λ n. slice_get (y ∷ xs ++ ys) n ≡ Some x) (sym same) (at_right xs ys k x read)

at_either : {X : Type 0} (xs ys : List X) (k : ℕ) (x : X) → slice_get (xs ++ ys) k ≡ Some x →
    (slice_get xs k ≡ Some x) ⊎ ((j : ℕ) × (k ≡ length xs + j) × (slice_get ys j ≡ Some x))
at_either [] ys k x read = inr (k, omega arith, read)
at_either (y ∷ xs) ys zero x read = inl read
at_either (y ∷ xs) ys (suc k) x read = elim (at_either xs ys k x read) [
  | inl here ↦ inl here
  | inr later ↦ inr (later.0, omega (arith, later.1), later.2)
]

-- the events of a processor's operations are its own
own_events : (p bars stbars : ℕ) (ops : List Outcome) (k : ℕ) (e : Event) → slice_get (events_from p bars stbars ops) k ≡ Some e → e.proc ≡ p
own_events p bars stbars [] k e read = absurd cc
own_events p bars stbars (Ld a r ∷ ops) zero e read =
    let same : record { proc = p; load = true; swap = false; a = a; value = r; bars = bars; stbars = stbars } ≡ e = cc in ap (λ (x : Event). x.proc) (sym same)
own_events p bars stbars (Ld a r ∷ ops) (suc k) e read = own_events p bars stbars ops k e read
own_events p bars stbars (St a v ∷ ops) zero e read =
    let same : record { proc = p; load = false; swap = false; a = a; value = v; bars = bars; stbars = stbars } ≡ e = cc in ap (λ (x : Event). x.proc) (sym same)
own_events p bars stbars (St a v ∷ ops) (suc k) e read = own_events p bars stbars ops k e read
own_events p bars stbars (Sw a r v ∷ ops) zero e read =
    let same : record { proc = p; load = true; swap = true; a = a; value = r; bars = bars; stbars = stbars } ≡ e = cc in ap (λ (x : Event). x.proc) (sym same)
own_events p bars stbars (Sw a r v ∷ ops) (suc zero) e read =
    let same : record { proc = p; load = false; swap = true; a = a; value = v; bars = bars; stbars = stbars } ≡ e = cc in ap (λ (x : Event). x.proc) (sym same)
own_events p bars stbars (Sw a r v ∷ ops) (suc (suc k)) e read = own_events p bars stbars ops k e read
own_events p bars stbars (Mb ∷ ops) k e read = own_events p (suc bars) stbars ops k e read
own_events p bars stbars (Sb ∷ ops) k e read = own_events p bars (suc stbars) ops k e read

before_own : (p count : ℕ) (steps : List Step) (q : ℕ) → p ≡ q → events_before p (suc count) steps q ≡ 0
before_own p count steps q same = let test : eqb p q ≡ true = eq-eqb p q same in rw test

before_later : (p count : ℕ) (steps : List Step) (q : ℕ) → (p ≡ q → ⊥) →
    events_before p (suc count) steps q ≡ length (events_from p 0 0 (outcomes_of p steps)) + events_before (suc p) count steps q
before_later p count steps q other = let test : eqb p q ≡ false = ne_eqb p q other in rw test

-- an event stands among those of its processor
located : (p count : ℕ) (steps : List Step) (k : ℕ) (e : Event) → slice_get (events_of_lists p (lists_from p count steps)) k ≡ Some e →
    (p ≤ e.proc) × (e.proc < p + count) × (events_before p count steps e.proc ≤ k)
    × (k < events_before p count steps e.proc + length (events_from e.proc 0 0 (outcomes_of e.proc steps)))
located p zero steps k e read = absurd cc
located p (suc count) steps k e read =
    let own = events_from p 0 0 (outcomes_of p steps) in
    elim (at_either own (events_of_lists (suc p) (lists_from (suc p) count steps)) k e read) [
      | inl here ↦
          let same : e.proc ≡ p = own_events p 0 0 (outcomes_of p steps) k e here in
          let none = before_own p count steps e.proc (sym same) in
          let within : k < length own = slice_get_within own k e here in
          let long : k < length (events_from e.proc 0 0 (outcomes_of e.proc steps)) = subst (λ q. k < length (events_from q 0 0 (outcomes_of q steps))) (sym same) within in
          (omega (arith, same), omega (arith, same), omega (arith, none), omega (arith, none, long))
      | inr later ↦
          let rest = located (suc p) count steps later.0 e later.2 in
          let sum = before_later p count steps e.proc (λ same. omega (arith, same, rest.0)) in
          (omega (arith, rest.0), omega (arith, rest.1), omega (arith, sum, later.1, rest.2), omega (arith, sum, later.1, rest.3))
    ]

-- and a processor's events stand where they should
found : (p count : ℕ) (steps : List Step) (q k : ℕ) (e : Event) → p ≤ q → q < p + count → slice_get (events_from q 0 0 (outcomes_of q steps)) k ≡ Some e →
    slice_get (events_of_lists p (lists_from p count steps)) (events_before p count steps q + k) ≡ Some e
found p zero steps q k e low high read = absurd (omega arith)
found p (suc count) steps q k e low high read =
    let own = events_from p 0 0 (outcomes_of p steps) in
    let later = events_of_lists (suc p) (lists_from (suc p) count steps) in
    elim (cases_eq p q) [
      | inl same ↦
          let here : slice_get own k ≡ Some e = subst (λ r. slice_get (events_from r 0 0 (outcomes_of r steps)) k ≡ Some e) (sym same) read in
          let place : events_before p (suc count) steps q + k ≡ k = omega (arith, before_own p count steps q same) in
          subst (λ n. slice_get (own ++ later) n ≡ Some e) (sym place) (at_left own later k e here)
      | inr other ↦
          let rest = found (suc p) count steps q k e (omega (arith, low, other)) (omega (arith, high)) read in
          let place : events_before p (suc count) steps q + k ≡ length own + (events_before (suc p) count steps q + k) = omega (arith, before_later p count steps q other) in
          subst (λ n. slice_get (own ++ later) n ≡ Some e) (sym place) (at_right own later (events_before (suc p) count steps q + k) e rest)
    ]

-- events that stand at the numbers from n on follow each other
follow_by_number : (t : TraceValue) (n : ℕ) (events : List Event) →
    ((k : ℕ) (e : Event) → slice_get events k ≡ Some e → event_at t (n + k) ≡ Some e) → Follow t n events
follow_by_number t n [] stand = tt
follow_by_number t n (e ∷ events) stand =
    let first : n + 0 ≡ n = omega arith in (
      subst (λ m. event_at t m ≡ Some e) first (stand 0 e refl),
      follow_by_number t (suc n) events (λ k d read. let next : n + suc k ≡ suc n + k = omega arith in subst (λ m. event_at t m ≡ Some d) next (stand (suc k) d read)),
    )

-- the number that the events of processor p end before
abbrev pub past_of : ℕ → List Step → ℕ → ℕ
past_of count steps p = suc (events_before 0 count steps p) + length (events_from p 0 0 (outcomes_of p steps))

pub event_located : (setting : SettingValue) (count : ℕ) (steps : List Step) (n : ℕ) (e : Event) → event_at (trace_of setting count steps) n ≡ Some e →
    (e.proc < count) × (suc (events_before 0 count steps e.proc) ≤ n) × (n < past_of count steps e.proc)
unfolding events_of event_at
event_located setting count steps zero e read = absurd cc
event_located setting count steps (suc k) e read =
    let at = located 0 count steps k e read in
    (omega (arith, at.1), omega (arith, at.2), omega (arith, at.3))

pub events_follow : (setting : SettingValue) (count : ℕ) (steps : List Step) (p : ℕ) → p < count →
    Follow (trace_of setting count steps) (suc (events_before 0 count steps p)) (events_from p 0 0 (outcomes_of p steps))
unfolding events_of event_at
events_follow setting count steps p small =
    let b = events_before 0 count steps p in
    follow_by_number (trace_of setting count steps) (suc b) (events_from p 0 0 (outcomes_of p steps)) (λ k e read.
    let next : suc b + k ≡ suc (b + k) = omega arith in
    subst (λ m. event_at (trace_of setting count steps) m ≡ Some e) (sym next) (found 0 count steps p k e (omega arith) (omega (arith, small)) read))
