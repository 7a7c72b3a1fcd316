-- Events of two traces that are alike but for barriers and swaps, and what holds of both then.
use Rattle.std.proofs.Common.{◌≡◌, ◌∙◌, ℕ, ◌<◌, Some, inl, inr, ⊎_elim, sym, ap, arith}
use Rattle.tso_ops.specs.declared.events.Event.{Event}
use Rattle.tso_ops.specs.Settings.{first_value}
use Rattle.tso_ops.specs.Values.{TraceValue}
use Rattle.tso_ops.specs.Events.{event_at, IsEvent, IsLoad, IsStore, HasFirstValue, SameAddress, SameValue, Earlier, HasFewerStbarsBefore, KeepsStores}
use Rattle.tso_ops.proofs.NumberFacts.{event_unique}

-- Event m of the first trace and event n of the second are alike.
pub record IsTwin (s t : TraceValue) (m n : ℕ) : Type 0 where
  pub d : Event
  pub e : Event
  pub d_at : event_at s m ≡ Some d
  pub e_at : event_at t n ≡ Some e
  pub proc : d.proc ≡ e.proc
  pub load : d.load ≡ e.load
  pub a : d.a ≡ e.a
  pub value : d.value ≡ e.value
  pub stbars : d.stbars ≡ e.stbars

-- so are they the other way round
pub twin_back : (s t : TraceValue) (m n : ℕ) → IsTwin s t m n → IsTwin t s n m
twin_back s t m n twin = record {
  d = twin.e;
  e = twin.d;
  d_at = twin.e_at;
  e_at = twin.d_at;
  proc = sym twin.proc;
  load = sym twin.load;
  a = sym twin.a;
  value = sym twin.value;
  stbars = sym twin.stbars;
}

module _ (s t : TraceValue) (m n : ℕ) (twin : IsTwin s t m n) where
  -- both are events
  pub twin_event : IsEvent t n
  twin_event = (twin.e, twin.e_at)

  -- a load is like a load
  pub twin_load : IsLoad s m → IsLoad t n
  twin_load (d, at, is) = (twin.e, twin.e_at, sym twin.load ∙ ap (λ (x : Event). x.load) (event_unique s m twin.d d twin.d_at at) ∙ is)

  -- a store like a store
  pub twin_store : IsStore s m → IsStore t n
  twin_store (d, at, is) = (twin.e, twin.e_at, sym twin.load ∙ ap (λ (x : Event). x.load) (event_unique s m twin.d d twin.d_at at) ∙ is)

  -- what has the first value is like one that has it
  pub twin_first : s.setting ≡ t.setting → HasFirstValue s m → HasFirstValue t n
  twin_first setting (d, at, is) =
      let one : d ≡ twin.d = event_unique s m d twin.d at twin.d_at in (
        twin.e,
        twin.e_at,
        sym twin.value ∙ ap (λ (x : Event). x.value) (sym one) ∙ is ∙ ap (λ x. first_value x.first d.a) setting ∙ ap (λ (x : Event). first_value t.setting.first x.a) one
            ∙ ap (first_value t.setting.first) twin.a,
      )

module _ (s t : TraceValue) (u v x y : ℕ) (first : IsTwin s t u x) (second : IsTwin s t v y) where
  -- two events of one address are like two of one
  pub twin_address : SameAddress s u v → SameAddress t x y
  twin_address (d, e, at_d, at_e, same) = (
    first.e,
    second.e,
    first.e_at,
    second.e_at,
    sym first.a ∙ ap (λ (z : Event). z.a) (event_unique s u first.d d first.d_at at_d) ∙ same ∙ ap (λ (z : Event). z.a) (event_unique s v e second.d at_e second.d_at) ∙ second.a,
  )

  -- the same of values
  pub twin_value : SameValue s u v → SameValue t x y
  twin_value (d, e, at_d, at_e, same) = (
    first.e,
    second.e,
    first.e_at,
    second.e_at,
    sym first.value ∙ ap (λ (z : Event). z.value) (event_unique s u first.d d first.d_at at_d) ∙ same ∙ ap (λ (z : Event). z.value) (event_unique s v e second.d at_e second.d_at) ∙ second.value,
  )

  -- the same of program order, where the numbers are so
  pub twin_earlier : x < y → Earlier s u v → Earlier t x y
  twin_earlier less (d, e, at_d, at_e, same, _) = (
    first.e,
    second.e,
    first.e_at,
    second.e_at,
    sym first.proc ∙ ap (λ (z : Event). z.proc) (event_unique s u first.d d first.d_at at_d) ∙ same ∙ ap (λ (z : Event). z.proc) (event_unique s v e second.d at_e second.d_at) ∙ second.proc,
    less,
  )

  -- the same of STBARs
  pub twin_stbars : HasFewerStbarsBefore s u v → HasFewerStbarsBefore t x y
  twin_stbars (d, e, at_d, at_e, less) = (
    first.e,
    second.e,
    first.e_at,
    second.e_at,
    let one : first.e.stbars ≡ d.stbars = sym first.stbars ∙ ap (λ (z : Event). z.stbars) (event_unique s u first.d d first.d_at at_d) in
        let other : e.stbars ≡ second.e.stbars = ap (λ (z : Event). z.stbars) (event_unique s v e second.d at_e second.d_at) ∙ second.stbars in
        omega (arith, one, other, less),
  )

  -- the same of stores whose order the model keeps
  pub twin_keeps : s.setting ≡ t.setting → KeepsStores s u v → KeepsStores t x y
  twin_keeps setting keeps = ⊎_elim (λ tso. inl (sym (ap (λ z. z.order) setting) ∙ tso)) (λ address. inr (twin_address address)) keeps
