-- The rows of bits in which the rules mark numbers, and which load gives an edge.
use Rattle.std.specs.Prelude.{Bool, ◌≡◌, ◌≢◌, ◌⊎◌, ℕ, ◌/◌, ◌%◌, ◌<◌, ◌≤◌, List, false, IsTrue, slice_index_or}
use Rattle.tso_ops.specs.Values.{TraceValue}
use Rattle.tso_ops.specs.declared.events.Event.{Event}
use Rattle.tso_ops.specs.declared.settings.Order.TheVariants.{Tso}
use Rattle.tso_ops.specs.Events.{HasSource, IsStore, IsStoreTo, HasBarriersBefore, HasStbarsBefore}
use Rattle.tso_cert.specs.declared.rules.BaseRule.TheVariants.{Init, Read}
use Rattle.tso_cert.specs.declared.rules.InferredRule.{InferredRule}
use Rattle.tso_cert.specs.declared.rules.InferredRule.TheVariants.{LoadPast}
use Rattle.bitsets.specs.Rows.{HasBit, HasNumber}
use Rattle.order_paths.specs.Paths.{Reaches}
use Rattle.tso_model.specs.Rules.{BasePair, IsOwnBy, InferredBy}
use Rattle.tso_model.specs.NewEdges.{IsGivenBy}
use Rattle.tso_rules.specs.Rows.{IsLater}

-- the memory model keeps store n after the event, a store, without an STBAR, if it is program-later
abbrev pub IsKeptStore : TraceValue → Event → ℕ → Type 0
IsKeptStore t event n = IsStore t n × ((t.setting.order ≡ Tso) ⊎ IsStoreTo t event.a n)

-- program order puts number n after the event, if it is program-later: after a load, and after a store each store that the model keeps or that
-- has more STBARs before it, and each load that has more barriers before it
abbrev pub IsOrdered : TraceValue → Event → ℕ → Type 0
IsOrdered t event n =
    IsTrue event.load ⊎ IsKeptStore t event n ⊎ (IsStore t n × (HasStbarsBefore t event.stbars n → ⊥)) ⊎ ((IsStore t n → ⊥) × (HasBarriersBefore t event.bars n → ⊥))

-- a base rule other than Own gives the edge
abbrev pub IsBaseButOwn : TraceValue → ℕ → ℕ → Type 0
IsBaseButOwn t u v = (BasePair t Init u v ⊎ IsLater t u v) ⊎ BasePair t Read u v

-- load l gives the edge from store u: the load reads it, or reads past it what v wrote
abbrev pub IsReadBy : TraceValue → ℕ → ℕ → ℕ → Type 0
IsReadBy t u l v = ((v ≡ l) × BasePair t Read u l) ⊎ IsOwnBy t l u v

-- the rule gives the edge for load l by a path over these edges, and no path leads from u to v
abbrev pub IsNewBy : TraceValue → InferredRule → ℕ → (ℕ → ℕ → Type 0) → ℕ → ℕ → Type 0
IsNewBy t rule l Edge u v = IsGivenBy t rule l (Reaches Edge) u v × (Reaches Edge u v → ⊥)

-- the rule gives the edge for some load by a path over these edges, and no path leads from u to v
abbrev pub IsNewRow : TraceValue → InferredRule → (ℕ → ℕ → Type 0) → ℕ → ℕ → Type 0
IsNewRow t rule Edge u v = (l : ℕ) × IsNewBy t rule l Edge u v

-- load l has the source v, which isn't u
abbrev pub IsOtherSource : TraceValue → ℕ → ℕ → ℕ → Type 0
IsOtherSource t u l v = HasSource t l v × (u ≢ v)

-- a load of word j, whose bit is set in this word, has such a source
abbrev pub IsSourceIn : TraceValue → ℕ → ℕ → ℕ → ℕ → Type 0
IsSourceIn t u j word v = (l : ℕ) × (l / 64 ≡ j) × HasBit word (l % 64) × IsOtherSource t u l v

-- a load in both rows has such a source
abbrev pub IsSourceOf : TraceValue → List ℕ → List ℕ → ℕ → ℕ → Type 0
IsSourceOf t one two u v = (l : ℕ) × HasNumber one l × HasNumber two l × IsOtherSource t u l v

-- the rule LoadPast gives the edge for load l, if a path leads to it from u
abbrev pub IsPast : TraceValue → ℕ → ℕ → ℕ → Type 0
IsPast t u v l = InferredBy t LoadPast l u v u l

-- the first such load above n
abbrev pub IsNextPast : TraceValue → ℕ → ℕ → ℕ → ℕ → Type 0
IsNextPast t u v n l = (n < l) × IsPast t u v l × ((k : ℕ) → n < k → k < l → IsPast t u v k → ⊥)

-- the rule LoadPast gives the edge for load l, whose test answered true
abbrev pub IsPastBy : TraceValue → List Bool → ℕ → ℕ → ℕ → Type 0
IsPastBy t row u v l = IsTrue (slice_index_or row l false) × InferredBy t LoadPast l u v u l

-- What gives an edge by an inferred rule: the load, and the ends of the path that the rule asks for.
pub record GivesBy (t : TraceValue) (Edge : ℕ → ℕ → Type 0) (u v : ℕ) (rule : InferredRule) (load from to : ℕ) : Type 0 where
  pub by : InferredBy t rule load u v from to
  pub path : Reaches Edge from to
  pub least : (l : ℕ) → IsGivenBy t rule l (Reaches Edge) u v → load ≤ l
