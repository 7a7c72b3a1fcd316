-- Lemmas on what settles the stores of a chain, and on sources that are known.
use Rattle.std.proofs.Common.{◌≡◌, ◌≢◌, ◌⊎◌, inl, inr, sym, ap, subst, refl, ℕ, zero, suc, ◌+◌, ◌<◌, ◌≤◌, List, length, slice_index, arith}
use Rattle.std.specs.List.{Contains}
use Rattle.std.proofs.lemmas.Bool.{cases_eq}
use Rattle.tso_ops.specs.Values.{TraceValue}
use Rattle.tso_ops.specs.Events.{Earlier, HasFirstValue, IsEvent, IsLoad}
use Rattle.tso_ops.proofs.NumberFacts.{event_above_zero, event_unique}
use Rattle.order_paths.proofs.Reach.{Reaches-edge, Reaches-into, Reaches-join}
use Rattle.value_evidence.specs.declared.steps.ValueStep.{ValueStep}
use Rattle.value_evidence.specs.declared.steps.ValueStep.TheVariants.{Read}
use Rattle.value_evidence.specs.Candidates.{CanRead, ComesBefore, IsGone, IsPairBy, IsProgramPair, SaysBefore, SeesStore, behind, known, over, taken}
use Rattle.value_check.specs.declared.settling.Demand.{Demand}
use Rattle.value_check.specs.declared.settling.Demand.TheVariants.{Is, After, Before, UpTo, SetAside}
use Rattle.value_check.specs.declared.settling.Question.{Question}
use Rattle.value_check.specs.Internal.Known.{IsTaken}
use Rattle.value_check.specs.Internal.Settling.{AreInOrder, AreLastSeen, IsAsked, IsLedOn, IsLedTo, IsOver, IsSettled, IsUpToInProgram, Meets, Settles, SettlesAfter, SettlesBefore}

-- a program pair is of events of one processor, in program order
pub pair_earlier : (t : TraceValue) (x y : ℕ) → IsProgramPair t x y → Earlier t x y
pair_earlier t x y (inl pair) = pair.1
pair_earlier t x y (inr (inl pair)) = pair.2
pair_earlier t x y (inr (inr (inl pair))) = pair.2
pair_earlier t x y (inr (inr (inr pair))) = pair.2

-- program order is transitive
pub earlier_joined : (t : TraceValue) (x y z : ℕ) → Earlier t x y → Earlier t y z → Earlier t x z
earlier_joined t x y z first second =
    let one = event_unique t y first.1 second.0 first.3 second.2 in
    let left : first.0.proc ≡ first.1.proc = first.4 in
    let right : second.0.proc ≡ second.1.proc = second.4 in
    (first.0, second.1, first.2, second.3, cc, omega (arith, first.5, second.5))

module _ (t : TraceValue) (steps : List ValueStep) where
  program_path : (x y : ℕ) → IsProgramPair t x y → ComesBefore t steps x y
  program_path x y pair = Reaches-edge (IsPairBy t steps) x y (inl pair)

  -- what a store comes before, so does what is before the store in program order
  pub path_from : (r x y : ℕ) → (r ≡ x) ⊎ IsProgramPair t r x → ComesBefore t steps x y → ComesBefore t steps r y
  path_from r x y (inl same) path = subst (λ n. ComesBefore t steps n y) (sym same) path
  path_from r x y (inr pair) path = Reaches-join (IsPairBy t steps) r x y (program_path r x pair) path

  -- what comes before a store comes before what is after the store in program order
  pub path_to : (y x r : ℕ) → ComesBefore t steps y x → (r ≡ x) ⊎ IsProgramPair t x r → ComesBefore t steps y r
  path_to y x r path (inl same) = subst (ComesBefore t steps y) (sym same) path
  path_to y x r path (inr pair) = Reaches-join (IsPairBy t steps) y x r path (program_path x r pair)

  -- what is after a store that isn't program-earlier than a load isn't so either
  pub still_later : (l x r : ℕ) → (Earlier t x l → ⊥) → (r ≡ x) ⊎ IsProgramPair t x r → Earlier t r l → ⊥
  still_later l x r later (inl same) earlier = later (subst (λ n. Earlier t n l) same earlier)
  still_later l x r later (inr pair) earlier = later (earlier_joined t x r l (pair_earlier t x r pair) earlier)

-- what is after an event in program order has a number above 0
pub above_zero : (t : TraceValue) (x r : ℕ) → (r ≡ suc x) ⊎ IsProgramPair t (suc x) r → 0 < r
above_zero t x r (inl same) = omega (arith, same)
above_zero t x r (inr pair) = let less = (pair_earlier t (suc x) r pair).5 in omega (arith, less)

-- of events in program order each is the one at an index, or before it or after it
pub up_to_index : (t : TraceValue) (events : List ℕ) (i m : ℕ) → AreInOrder t events → i < m + 1 → m < length events →
    (suc (slice_index events i) ≡ suc (slice_index events m)) ⊎ IsProgramPair t (suc (slice_index events i)) (suc (slice_index events m))
up_to_index t events i m ordered below within =
    elim (cases_eq i m) [
      | inl same ↦ inl (subst (λ n. suc (slice_index events i) ≡ suc (slice_index events n)) same refl)
      | inr other ↦ inr (ordered i m (omega (arith, other, below)) within)
    ]

pub from_index : (t : TraceValue) (events : List ℕ) (i m : ℕ) → AreInOrder t events → m ≤ i → i < length events →
    (suc (slice_index events i) ≡ suc (slice_index events m)) ⊎ IsProgramPair t (suc (slice_index events m)) (suc (slice_index events i))
from_index t events i m ordered from within =
    elim (cases_eq i m) [
      | inl same ↦ inl (subst (λ n. suc (slice_index events i) ≡ suc (slice_index events n)) same refl)
      | inr other ↦ inr (ordered m i (omega (arith, other, from)) within)
    ]

-- what steps say is of events
abbrev pub AreSaidOfEvents : TraceValue → List ValueStep → Type 0
AreSaidOfEvents t steps = (step : ValueStep) (u v : ℕ) → Contains steps step → SaysBefore step u v → IsEvent t u × IsEvent t v

-- what comes before something is an event, and so is that
pub path_events : (t : TraceValue) (steps : List ValueStep) → AreSaidOfEvents t steps → (u v : ℕ) → ComesBefore t steps u v → IsEvent t u × IsEvent t v
path_events t steps events u v path = Reaches-into (IsPairBy t steps) (λ x y. IsEvent t x × IsEvent t y) (λ x y z first second. (first.0, second.1)) each u v path
  where
    each : (x y : ℕ) → IsPairBy t steps x y → IsEvent t x × IsEvent t y
    each x y (inl pair) = let earlier = pair_earlier t x y pair in ((earlier.0, earlier.2), (earlier.1, earlier.3))
    each x y (inr said) = events said.0 x y said.1 said.2

module _ (t : TraceValue) (steps : List ValueStep) where
  -- what comes before a store that the load sees comes before one of the last that it sees
  pub over_last : (load x : ℕ) (stores : List ℕ) → AreLastSeen t steps load stores → IsOver t steps (suc load) (suc x) → (v : ℕ) × Contains stores v × ComesBefore t steps (suc x) (suc v)
  over_last load x stores seen (zero, sees, path) = let above = event_above_zero t 0 (sees.0.0, sees.0.1) in absurd (omega arith)
  over_last load x stores seen (suc w, sees, path) =
      let last = seen.last w sees in
      (last.0, last.1, turned (suc w) (suc last.0) last.2 path)
    where
      turned : (w v : ℕ) → IsUpToInProgram t w v → ComesBefore t steps (suc x) w → ComesBefore t steps (suc x) v
      turned w v (inl same) path = subst (ComesBefore t steps (suc x)) same path
      turned w v (inr pair) path = path_to t steps (suc x) w v path (inr pair)

  -- where there is no last store that the load sees it sees none
  pub nothing_seen : (load : ℕ) (stores : List ℕ) → AreLastSeen t steps load stores → length stores ≤ 0 → (w : ℕ) → SeesStore t steps (suc load) w → ⊥
  nothing_seen load stores seen none zero sees = let above = event_above_zero t 0 (sees.0.0, sees.0.1) in omega arith
  nothing_seen load stores seen none (suc w) sees = let within = (seen.last w sees).1.1 in omega (arith, within, none)

  module _ (q : Question) (x : ℕ) where
    led_on_meets : (wanted : Demand) (r : ℕ) → IsUpToInProgram t r (suc x) → IsLedOn t steps wanted (suc x) → Meets t steps (suc q.load) wanted r
    led_on_meets (Is number) r up_to led = absurd led
    led_on_meets (After from) r up_to led = absurd led
    led_on_meets (Before to) r up_to led = inr (path_from t steps r (suc x) (suc to) up_to led)
    led_on_meets (UpTo to) r up_to led = inr (path_from t steps r (suc x) (suc to) up_to led)
    led_on_meets (SetAside numbers) r up_to led = absurd led

    -- with a store what is before it in program order is settled
    pub settled_before : SettlesBefore t steps q x → (r : ℕ) → IsUpToInProgram t r (suc x) → IsSettled t steps (suc q.load) q.wanted r
    settled_before (inl (w, sees, path)) r up_to = inl (over w sees (inr (path_from t steps r (suc x) w up_to path)))
    settled_before (inr led) r up_to = inr (led_on_meets q.wanted r up_to led)

    led_to_meets : (wanted : Demand) (r : ℕ) → (Earlier t (suc x) (suc q.load) → ⊥) → (r ≡ suc x) ⊎ IsProgramPair t (suc x) r → IsLedTo t steps wanted (suc x) → Meets t steps (suc q.load) wanted r
    led_to_meets (Is number) r later from led = absurd led
    led_to_meets (After start) r later from led =
        (above_zero t x r from, still_later t steps (suc q.load) (suc x) r later from, inr (path_to t steps (suc start) (suc x) r led from))
    led_to_meets (Before to) r later from led = absurd led
    led_to_meets (UpTo to) r later from led = absurd led
    led_to_meets (SetAside numbers) r later from led = absurd led

    -- and with one what is after it
    pub settled_after : SettlesAfter t steps q x → (r : ℕ) → (r ≡ suc x) ⊎ IsProgramPair t (suc x) r → IsSettled t steps (suc q.load) q.wanted r
    settled_after (later, inl path) r from = inl (behind (path_to t steps (suc q.load) (suc x) r path from) (still_later t steps (suc q.load) (suc x) r later from))
    settled_after (later, inr led) r from = inr (led_to_meets q.wanted r later from led)

    -- a store that is as asked meets it
    pub asked_meets : (wanted : Demand) → IsAsked t q wanted x → Meets t steps (suc q.load) wanted (suc x)
    asked_meets (Is number) asked = asked
    asked_meets (After from) asked = (omega arith, asked.1, inl (ap suc asked.0))
    asked_meets (Before to) asked = absurd asked
    asked_meets (UpTo to) asked = inl (ap suc asked)
    asked_meets (SetAside numbers) asked = asked

    -- one that meets it is as asked, or comes before or after something
    meets_cases : (wanted : Demand) → Meets t steps (suc q.load) wanted (suc x) →
        IsAsked t q wanted x ⊎ (IsLedOn t steps wanted (suc x) ⊎ ((Earlier t (suc x) (suc q.load) → ⊥) × IsLedTo t steps wanted (suc x)))
    meets_cases (Is number) meets = inl meets
    meets_cases (After from) (above, later, inl same) = inl (omega (arith, same), later)
    meets_cases (After from) (above, later, inr path) = inr (inr (later, path))
    meets_cases (Before to) (inl is_zero) = absurd (omega (arith, is_zero))
    meets_cases (Before to) (inr path) = inr (inl path)
    meets_cases (UpTo to) (inl same) = inl (omega (arith, same))
    meets_cases (UpTo to) (inr path) = inr (inl path)
    meets_cases (SetAside numbers) meets = inl meets

    -- a settled store that isn't so by what it comes before or after, nor by what was read, is as asked
    pub settled_rest : (SettlesBefore t steps q x → ⊥) → (SettlesAfter t steps q x → ⊥) → (IsTaken t steps (suc q.load) (suc x) → ⊥) →
        (((s : ℕ) × Contains steps (Read (suc q.load) s) × (s ≢ suc x)) → ⊥) → Settles t steps q x → IsAsked t q q.wanted x
    settled_rest before after took another (inl (known s said other)) = absurd (another (s, said, other))
    settled_rest before after took another (inl (behind path unforwarded)) = absurd (after (unforwarded, inl path))
    settled_rest before after took another (inl (over w sees (inl is_zero))) = absurd (omega (arith, is_zero))
    settled_rest before after took another (inl (over w sees (inr path))) = absurd (before (inl (w, sees, path)))
    settled_rest before after took another (inl (taken m swap_l swap_m address other said)) = absurd (took (m, swap_l, swap_m, address, other, said))
    settled_rest before after took another (inr meets) = by_cases (meets_cases q.wanted meets)
      where
        by_cases : IsAsked t q q.wanted x ⊎ (IsLedOn t steps q.wanted (suc x) ⊎ ((Earlier t (suc x) (suc q.load) → ⊥) × IsLedTo t steps q.wanted (suc x))) → IsAsked t q q.wanted x
        by_cases (inl asked) = asked
        by_cases (inr (inl led)) = absurd (before (inr led))
        by_cases (inr (inr led)) = absurd (after (led.0, inr led.1))

  pub taken_gone : (l r : ℕ) → IsTaken t steps l r → IsGone t steps l r
  taken_gone l r (m, swap_l, swap_m, address, other, said) = taken m swap_l swap_m address other said

  -- the first value isn't gone where no store is seen, and it wasn't taken, nor another read
  pub first_left : AreSaidOfEvents t steps → (l : ℕ) → IsLoad t l → HasFirstValue t l → ((w : ℕ) → SeesStore t steps l w → ⊥) → (IsTaken t steps l 0 → ⊥) →
      (((s : ℕ) × Contains steps (Read l s) × (s ≢ 0)) → ⊥) → CanRead t steps l 0
  first_left events l load first none took another = ((load, first), left)
    where
      left : IsGone t steps l 0 → ⊥
      left (known s said other) = another (s, said, other)
      left (behind path unforwarded) = let above = event_above_zero t 0 (path_events t steps events l 0 path).1 in omega arith
      left (over w sees after) = none w sees
      left (taken m swap_l swap_m address other said) = took (m, swap_l, swap_m, address, other, said)
