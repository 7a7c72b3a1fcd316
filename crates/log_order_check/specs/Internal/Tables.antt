-- What is known of a log and a list before the list is gone through.
use Rattle.std.specs.Prelude.{◌≡◌, ℕ, suc, ◌<◌, Bool, ◌&&◌, List, Option, None, length, get_or, slice_index, nat_eq, unwrap_or, MatchOption}
use Rattle.std.specs.HashMap.{HashMap, get}
use Rattle.tso_ops.specs.Values.{TraceValue}
use Rattle.tso_ops.specs.Events.{Earlier, IsStore, SameAddress}
use Rattle.tso_ops.specs.Settings.{first_value}
use Rattle.order_check.specs.declared.faults.Axiom.{Axiom}
use Rattle.order_check.specs.Refusals.{axiom_number, IsFirstUnmet, MeetsAt}
use Rattle.order_check.specs.Internal.Places.{ArePlaces}
use Rattle.program_chains.specs.LogEvents.{AreEventsOf}
use Rattle.log_order_check.specs.declared.tables.Tables.{Tables}
use Rattle.log_order_check.specs.Internal.Most.{IsMost}

-- what a table has of a number, and 0 where it has nothing
abbrev pub looked_up : {S : Type 0} → HashMap ℕ ℕ S → ℕ → ℕ
looked_up table a = unwrap_or (get nat_eq table a) 0

abbrev pub same_pair : ℕ × ℕ → ℕ × ℕ → Bool
same_pair u v = nat_eq u.0 v.0 && nat_eq u.1 v.1

-- what a table has of a pair, and 0 where it has nothing
abbrev pub pair_looked_up : {S : Type 0} → HashMap (ℕ × ℕ) ℕ S → ℕ × ℕ → ℕ
pair_looked_up table pair = unwrap_or (get same_pair table pair) 0

-- u is a program-earlier store to event n's address
abbrev pub IsOwnStore : TraceValue → ℕ → ℕ → Type 0
IsOwnStore t n u = IsStore t u × Earlier t u n × SameAddress t u n

-- Of each event, by its index, the greatest place of its processor's program-earlier stores to its address.
pub record AreOwnPlaces (t : TraceValue) (places : List ℕ) (count : ℕ) (own : List ℕ) : Type 0 where
  pub sized : length own ≡ count
  pub each : (x : ℕ) → x < count → IsMost (IsOwnStore t (suc x)) places (slice_index own x)

-- the axiom speaks of an event and those that are program-earlier
abbrev pub IsOfProgram : Axiom → Type 0
IsOfProgram law = axiom_number law < 4

-- the first axiom that isn't met at event n if it is one of program order, or these are met there
abbrev pub IsProgramFault : TraceValue → List ℕ → ℕ → Option Axiom → Type 0
IsProgramFault t order n fault = MatchOption fault ((law : Axiom) → IsOfProgram law → MeetsAt t order law n) (IsFirstUnmet t order n)

-- This of each event, by its index.
pub record AreFaults (t : TraceValue) (order : List ℕ) (count : ℕ) (faults : List (Option Axiom)) : Type 0 where
  pub sized : length faults ≡ count
  pub each : (x : ℕ) → x < count → IsProgramFault t order (suc x) (get_or faults x None)

-- The tables are of the trace and the list.
pub record AreTables (t : TraceValue) (order : List ℕ) (tables : Tables) : Type 0 where
  pub events : AreEventsOf t tables.events.items
  pub places : ArePlaces t order tables.places.items
  pub own : AreOwnPlaces t tables.places.items (length tables.events.items) tables.own.items
  pub faults : AreFaults t order (length tables.events.items) tables.faults.items
  pub first : (a : ℕ) → looked_up tables.first a ≡ first_value t.setting.first a
