-- What is checked of a small trace makes it a selection, and a trace without unwritten loads is a selection of itself.
use Rattle.std.proofs.Common.{◌≡◌, ◌↔◌, ◌≤◌, ◌+◌, ℕ, suc, Bool, true, false, IsTrue, List, refl, sym, ◌∙◌, subst, arith, ⊎_elim}
use mathlib.Core.Bool.{beq}
use Rattle.std.proofs.lemmas.Bool.{cases_eq}
use Rattle.order_paths.proofs.Decisions.{Decision-some}
use Rattle.tso_ops.specs.Values.{TraceValue}
use Rattle.tso_ops.specs.Limits.{IsTrace}
use Rattle.tso_ops.specs.Events.{event_total, IsEvent, IsLoad, IsSwapLoad, SameAddress, Earlier, HasFewerBarriersBefore, HasFewerStbarsBefore, HasSource, IsUnwritten}
use Rattle.tso_ops.proofs.NumberFacts.{event_at-within, HasSource-within, load_event, own_values, source_unique, store_event}
use Rattle.tso_model.proofs.Decided.{HasSource-decided}
use Rattle.log_selections.specs.Cuts.{origin_in}
use Rattle.log_selections.specs.Selections.{IsSelection, IsSelectionBy}
use Rattle.log_selections.specs.Sources.{IsOnlySource}
use Rattle.trace_reduction.specs.Internal.Checking.{KeepsEvents, KeepsPair, KeepsPairs}

-- ---- events, one after the other

-- one number more
pub events-next : (t : TraceValue) (P : ℕ → Type 0) (k : ℕ) → ((n : ℕ) → IsEvent t n → n ≤ k → P n) → P (k + 1) → (n : ℕ) → IsEvent t n → n ≤ k + 1 → P n
events-next t P k before here n event within =
    ⊎_elim (λ (same : n ≡ k + 1). subst P (sym same) here) (λ other. before n event (omega arith)) (cases_eq n (k + 1))

pub no_event-zero : (t : TraceValue) (n : ℕ) → IsEvent t n → n ≤ 0 → ⊥
no_event-zero t n (e, at) none = omega (arith, (event_at-within t n e at).0)

pub event-within : (t : TraceValue) (n : ℕ) → IsEvent t n → n ≤ event_total t
event-within t n (e, at) = (event_at-within t n e at).1

-- ---- pairs

module _ (t small : TraceValue) (origins : List ℕ) (u v x y : ℕ) (first : x ≡ origin_in origins u) (second : y ≡ origin_in origins v) where
  -- what holds of two numbers holds of the origins that they are
  of_origins : (P : ℕ → ℕ → Type 0) → P x y → P (origin_in origins u) (origin_in origins v)
  of_origins P holds = subst (λ b. P (origin_in origins u) b) second (subst (λ a. P a y) first holds)

  pub pair_kept : (x ≡ y → u ≡ v) → (Earlier small u v ↔ Earlier t x y) → (SameAddress small u v ↔ SameAddress t x y) →
      (Earlier small u v → HasFewerBarriersBefore small u v → HasFewerBarriersBefore t x y) →
      (Earlier small u v → HasFewerStbarsBefore small u v → HasFewerStbarsBefore t x y) → KeepsPair t small (origin_in origins) u v
  pair_kept once order addresses barriers stbars = record {
    once = λ same. once (first ∙ same ∙ sym second);
    program_order = of_origins (λ a b. Earlier small u v ↔ Earlier t a b) order;
    addresses = of_origins (λ a b. SameAddress small u v ↔ SameAddress t a b) addresses;
    barriers = λ earlier fewer. of_origins (HasFewerBarriersBefore t) (barriers earlier fewer);
    stbars = λ earlier fewer. of_origins (HasFewerStbarsBefore t) (stbars earlier fewer);
  }

-- ---- selections

-- a source of a load of a trace is the only one
only_source : (t : TraceValue) → IsTrace t → (l s : ℕ) → HasSource t l s → IsOnlySource t l s
only_source t kept l s from = (from, λ other is. source_unique t (own_values t kept) l other s is from)

-- a swap's load is a load
swap_event : (t : TraceValue) (l : ℕ) → IsSwapLoad t l → IsEvent t l
swap_event t l swap = (swap.0, swap.1)

pub checked : (t small : TraceValue) (origins : List ℕ) → IsTrace t → t.setting.order ≡ small.setting.order → KeepsEvents t small (origin_in origins) → KeepsPairs t small (origin_in origins) →
    IsSelectionBy t small (origin_in origins)
checked t small origins kept model events pairs = record {
  model = sym model;
  load = λ n load. (events n (load_event small n load)).load load;
  store = λ n store. (events n (store_event small n store)).store store;
  once = λ u v first second same. (pairs u first v second).once same;
  program_order = λ u v first second. (pairs u first v second).program_order;
  addresses = λ u v first second. (pairs u first v second).addresses;
  barriers = λ u v earlier fewer. (pairs u (earlier.0, earlier.2) v (earlier.1, earlier.3)).barriers earlier fewer;
  stbars = λ u v earlier fewer. (pairs u (earlier.0, earlier.2) v (earlier.1, earlier.3)).stbars earlier fewer;
  swap = λ l swap. (events l (swap_event small l swap)).swap swap;
  init = refl;
  source = λ l load.
      let (s, from, whole) = (events l (load_event small l load)).source load in
      (s, from, only_source t kept (origin_in origins l) (origin_in origins s) whole);
}

-- ---- the whole trace

-- a load that isn't unwritten has a source
has_source : (t : TraceValue) (l : ℕ) → (IsUnwritten t l → ⊥) → IsLoad t l → (s : ℕ) × HasSource t l s
has_source t l written load =
    ⊎_elim
    (λ (found : (s : ℕ) × HasSource t l s). found)
    (λ (none : ((s : ℕ) × HasSource t l s) → ⊥). absurd (written (load, λ s from. none (s, from))))
    (Decision-some (λ s. HasSource t l s) (HasSource-decided t l) (suc (event_total t)) (λ s from. (HasSource-within t l s from).1))

pub whole_selection : (t : TraceValue) → IsTrace t → ((l : ℕ) → IsUnwritten t l → ⊥) → IsSelection t t
whole_selection t kept written = (
  λ n. n,
  record {
    model = refl;
    load = λ n load. load;
    store = λ n store. store;
    once = λ u v first second same. same;
    program_order = λ u v first second. (λ earlier. earlier, λ earlier. earlier);
    addresses = λ u v first second. (λ same. same, λ same. same);
    barriers = λ u v earlier fewer. fewer;
    stbars = λ u v earlier fewer. fewer;
    swap = λ l swap. (swap, refl);
    init = refl;
    source = λ l load. let (s, from) = has_source t l (written l) load in (s, from, only_source t kept l s from);
  },
)

-- ---- tests

-- what two tests that are alike say is alike
pub alike : {P Q : Type 0} (a b : Bool) → (IsTrue a ↔ P) → (IsTrue b ↔ Q) → beq a b ≡ true → P ↔ Q
alike true true first second same = (λ p. second.0 refl, λ q. first.0 refl)
alike true false first second same = absurd cc
alike false true first second same = absurd cc
alike false false first second same = (λ p. let is : false ≡ true = first.1 p in absurd cc, λ q. let is : false ≡ true = second.1 q in absurd cc)
