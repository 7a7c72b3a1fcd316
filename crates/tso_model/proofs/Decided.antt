-- What is defined of events, the rules and the rank sets is decided.
use Rattle.std.proofs.Common.{◌≡◌, ℕ, zero, suc, ◌<◌, ◌⊎◌, inl, inr, IsTrue, IsFalse, Option, None, Some, refl, sym, subst}
use Rattle.std.proofs.lemmas.Bool.{cases_eq}
use Rattle.std.proofs.lemmas.Option.{none-some, same_Some}
use Rattle.order_paths.specs.Paths.{Reaches, HasCycle}
use Rattle.order_paths.proofs.Decisions.{Decision, Decision-iff, Decision-both, Decision-three, Decision-four, Decision-five, Decision-six, Decision-either, Decision-not, Decision-lt, Decision-IsTrue, Decision-IsFalse, Decision-some}
use Rattle.order_paths.proofs.Reach.{Reaches-decided, HasCycle-decided}
use Rattle.tso_ops.specs.declared.events.Event.{Event}
use Rattle.tso_ops.specs.declared.settings.Order.{Order}
use Rattle.tso_ops.specs.declared.settings.Order.TheVariants.{Tso, Pso}
use Rattle.tso_ops.specs.Settings.{first_value}
use Rattle.tso_ops.specs.Values.{TraceValue}
use Rattle.tso_ops.specs.Events.{event_total, event_at, IsEvent, IsLoad, IsStore, IsSwapLoad, HasFirstValue, SameAddress, SameValue, Earlier, HasFewerBarriersBefore, HasFewerStbarsBefore, KeepsStores, HasSource, IsUnwritten}
use Rattle.tso_cert.specs.declared.rules.BaseRule.{BaseRule}
use Rattle.tso_cert.specs.declared.rules.BaseRule.TheVariants.{Init, LoadOp, StoreStore, Stbar, Membar, Read, Own}
use Rattle.tso_cert.specs.declared.rules.InferredRule.{InferredRule}
use Rattle.tso_cert.specs.declared.rules.InferredRule.TheVariants.{LoadPast, StorePast, SwapBefore, SwapAfter}
use Rattle.tso_model.specs.Rules.{IsOwnBy, BasePair, InferredBy}
use Rattle.tso_model.specs.Ranks.{IsInferred, RankSet}
use Rattle.tso_ops.proofs.NumberFacts.{IsLoad-within, HasSource-within}
use Rattle.tso_model.proofs.Bounds.{InferredBy-within, RankSet-within}

-- whether there is an event, and it has a decided property, is decided
IsSome-decided : (P : Event → Type 0) → ((e : Event) → Decision (P e)) → (o : Option Event) → Decision ((e : Event) × (o ≡ Some e) × P e)
IsSome-decided P decide None = inr (λ p. none-some p.0 p.1)
IsSome-decided P decide (Some e) =
    Decision-iff (λ p. (e, refl, p)) (λ q. subst P (sym (same_Some e q.0 q.1)) q.2) (decide e)

-- likewise of two events
AreSome-decided : (P : Event → Event → Type 0) → ((d e : Event) → Decision (P d e)) → (o q : Option Event) →
    Decision ((d : Event) × (e : Event) × (o ≡ Some d) × (q ≡ Some e) × P d e)
AreSome-decided P decide o q = Decision-iff (λ p. (p.0, p.2.0, p.1, p.2.1, p.2.2)) (λ p. (p.0, p.2, (p.1, p.3, p.4)))
    (IsSome-decided (λ d. (e : Event) × (q ≡ Some e) × P d e) (λ d. IsSome-decided (λ e. P d e) (λ e. decide d e) q) o)

-- what is defined of events
pub IsEvent-decided : (t : TraceValue) (n : ℕ) → Decision (IsEvent t n)
IsEvent-decided t n = Decision-iff (λ p. (p.0, p.1)) (λ p. (p.0, p.1, tt)) (IsSome-decided (λ e. Unit {0}) (λ e. inl tt) (event_at t n))

pub IsLoad-decided : (t : TraceValue) (n : ℕ) → Decision (IsLoad t n)
IsLoad-decided t n = IsSome-decided (λ e. IsTrue e.load) (λ e. Decision-IsTrue e.load) (event_at t n)

pub IsStore-decided : (t : TraceValue) (n : ℕ) → Decision (IsStore t n)
IsStore-decided t n = IsSome-decided (λ e. IsFalse e.load) (λ e. Decision-IsFalse e.load) (event_at t n)

pub IsSwapLoad-decided : (t : TraceValue) (n : ℕ) → Decision (IsSwapLoad t n)
IsSwapLoad-decided t n = Decision-iff (λ p. (p.0, p.1, p.2.0, p.2.1)) (λ p. (p.0, p.1, (p.2, p.3)))
    (IsSome-decided (λ e. IsTrue e.load × IsTrue e.swap) (λ e. Decision-both (Decision-IsTrue e.load) (Decision-IsTrue e.swap)) (event_at t n))

pub HasFirstValue-decided : (t : TraceValue) (n : ℕ) → Decision (HasFirstValue t n)
HasFirstValue-decided t n =
    IsSome-decided (λ e. e.value ≡ first_value t.setting.first e.a) (λ e. cases_eq e.value (first_value t.setting.first e.a)) (event_at t n)

pub SameAddress-decided : (t : TraceValue) (u v : ℕ) → Decision (SameAddress t u v)
SameAddress-decided t u v = AreSome-decided (λ d e. d.a ≡ e.a) (λ d e. cases_eq d.a e.a) (event_at t u) (event_at t v)

pub SameValue-decided : (t : TraceValue) (u v : ℕ) → Decision (SameValue t u v)
SameValue-decided t u v = AreSome-decided (λ d e. d.value ≡ e.value) (λ d e. cases_eq d.value e.value) (event_at t u) (event_at t v)

pub Earlier-decided : (t : TraceValue) (u v : ℕ) → Decision (Earlier t u v)
Earlier-decided t u v = Decision-iff (λ p. (p.0, p.1, p.2, p.3, p.4.0, p.4.1)) (λ p. (p.0, p.1, p.2, p.3, (p.4, p.5)))
    (AreSome-decided (λ d e. (d.proc ≡ e.proc) × (u < v)) (λ d e. Decision-both (cases_eq d.proc e.proc) (Decision-lt u v)) (event_at t u) (event_at t v))

pub HasFewerBarriersBefore-decided : (t : TraceValue) (u v : ℕ) → Decision (HasFewerBarriersBefore t u v)
HasFewerBarriersBefore-decided t u v = AreSome-decided (λ d e. d.bars < e.bars) (λ d e. Decision-lt d.bars e.bars) (event_at t u) (event_at t v)

pub HasFewerStbarsBefore-decided : (t : TraceValue) (u v : ℕ) → Decision (HasFewerStbarsBefore t u v)
HasFewerStbarsBefore-decided t u v = AreSome-decided (λ d e. d.stbars < e.stbars) (λ d e. Decision-lt d.stbars e.stbars) (event_at t u) (event_at t v)

-- whether the memory model is TSO
is_tso_decided : (order : Order) → Decision (order ≡ Tso)
is_tso_decided Tso = inl refl
is_tso_decided Pso = inr other
  where
    other : Pso ≡ Tso → ⊥
    other same = cc

pub KeepsStores-decided : (t : TraceValue) (u v : ℕ) → Decision (KeepsStores t u v)
KeepsStores-decided t u v = Decision-either (is_tso_decided t.setting.order) (SameAddress-decided t u v)

-- the sources of a load
pub HasSource-decided : (t : TraceValue) (l s : ℕ) → Decision (HasSource t l s)
HasSource-decided t l zero = Decision-both (IsLoad-decided t l) (HasFirstValue-decided t l)
HasSource-decided t l (suc k) =
    Decision-four (IsLoad-decided t l) (IsStore-decided t (suc k)) (SameAddress-decided t (suc k) l) (SameValue-decided t (suc k) l)

-- whether a load is unwritten is decided, since a source's number lies within the numbers of events
pub IsUnwritten-decided : (t : TraceValue) (l : ℕ) → Decision (IsUnwritten t l)
IsUnwritten-decided t l = Decision-both (IsLoad-decided t l)
    (Decision-iff (λ none s h. none (s, h)) (λ none p. none p.0 p.1)
    (Decision-not (Decision-some (λ s. HasSource t l s) (HasSource-decided t l) (suc (event_total t)) (λ s h. (HasSource-within t l s h).1))))

-- Whether some load is unwritten is decided.
pub unwritten_decided : (t : TraceValue) → Decision ((l : ℕ) × IsUnwritten t l)
unwritten_decided t = Decision-some (λ l. IsUnwritten t l) (IsUnwritten-decided t) (suc (event_total t)) (λ l h. IsLoad-within t l h.0)

-- the conditions of the rules
pub IsOwnBy-decided : (t : TraceValue) (l u v : ℕ) → Decision (IsOwnBy t l u v)
IsOwnBy-decided t l u v = Decision-five (IsStore-decided t u) (SameAddress-decided t u l) (Earlier-decided t u l) (HasSource-decided t l v)
    (Decision-not (cases_eq u v))

pub BasePair-decided : (t : TraceValue) (rule : BaseRule) (u v : ℕ) → Decision (BasePair t rule u v)
BasePair-decided t Init u v = Decision-both (cases_eq u 0) (IsEvent-decided t v)
BasePair-decided t LoadOp u v = Decision-both (IsLoad-decided t u) (Earlier-decided t u v)
BasePair-decided t StoreStore u v =
    Decision-four (IsStore-decided t u) (IsStore-decided t v) (Earlier-decided t u v) (KeepsStores-decided t u v)
BasePair-decided t Stbar u v =
    Decision-four (IsStore-decided t u) (IsStore-decided t v) (Earlier-decided t u v) (HasFewerStbarsBefore-decided t u v)
BasePair-decided t Membar u v =
    Decision-four (IsStore-decided t u) (IsLoad-decided t v) (Earlier-decided t u v) (HasFewerBarriersBefore-decided t u v)
BasePair-decided t Read u v = Decision-three (IsStore-decided t u) (HasSource-decided t v u) (Decision-not (Earlier-decided t u v))
BasePair-decided t Own u v = Decision-some (λ l. IsOwnBy t l u v) (λ l. IsOwnBy-decided t l u v) (suc (event_total t))
    (λ l h. (HasSource-within t l v h.3).0)

pub InferredBy-decided : (t : TraceValue) (rule : InferredRule) (l u v x y : ℕ) → Decision (InferredBy t rule l u v x y)
InferredBy-decided t LoadPast l u v x y = Decision-six (IsStore-decided t u) (SameAddress-decided t u l) (HasSource-decided t l v)
    (Decision-not (cases_eq u v)) (cases_eq x u) (cases_eq y l)
InferredBy-decided t StorePast l u v x y = Decision-six (cases_eq u l) (IsStore-decided t v) (SameAddress-decided t v l) (HasSource-decided t l x)
    (Decision-not (cases_eq v x)) (cases_eq y v)
InferredBy-decided t SwapBefore l u v x y = Decision-six (IsSwapLoad-decided t l) (cases_eq v l) (IsStore-decided t u)
    (Decision-not (cases_eq u (suc l))) (cases_eq x u) (cases_eq y (suc l))
InferredBy-decided t SwapAfter l u v x y = Decision-six (IsSwapLoad-decided t l) (cases_eq u (suc l)) (IsStore-decided t v)
    (Decision-not (cases_eq v (suc l))) (cases_eq x l) (cases_eq y v)

-- whether some rule has a property that is decided at each is decided
pub BaseRule-some : (P : BaseRule → Type 0) → ((rule : BaseRule) → Decision (P rule)) → Decision ((rule : BaseRule) × P rule)
BaseRule-some P decide = Decision-iff to (λ p. back p.0 p.1)
    (Decision-either (decide Init) (Decision-either (decide LoadOp) (Decision-either (decide StoreStore)
    (Decision-either (decide Stbar) (Decision-either (decide Membar) (Decision-either (decide Read) (decide Own)))))))
  where
    Either : Type 0
    Either = P Init ⊎ (P LoadOp ⊎ (P StoreStore ⊎ (P Stbar ⊎ (P Membar ⊎ (P Read ⊎ P Own)))))

    to : Either → (rule : BaseRule) × P rule
    to (inl p) = (Init, p)
    to (inr (inl p)) = (LoadOp, p)
    to (inr (inr (inl p))) = (StoreStore, p)
    to (inr (inr (inr (inl p)))) = (Stbar, p)
    to (inr (inr (inr (inr (inl p))))) = (Membar, p)
    to (inr (inr (inr (inr (inr (inl p)))))) = (Read, p)
    to (inr (inr (inr (inr (inr (inr p)))))) = (Own, p)

    back : (rule : BaseRule) → P rule → Either
    back Init p = inl p
    back LoadOp p = inr (inl p)
    back StoreStore p = inr (inr (inl p))
    back Stbar p = inr (inr (inr (inl p)))
    back Membar p = inr (inr (inr (inr (inl p))))
    back Read p = inr (inr (inr (inr (inr (inl p)))))
    back Own p = inr (inr (inr (inr (inr (inr p)))))

-- likewise of the inferred rules
pub InferredRule-some : (P : InferredRule → Type 0) → ((rule : InferredRule) → Decision (P rule)) → Decision ((rule : InferredRule) × P rule)
InferredRule-some P decide = Decision-iff to (λ p. back p.0 p.1)
    (Decision-either (decide LoadPast) (Decision-either (decide StorePast) (Decision-either (decide SwapBefore) (decide SwapAfter))))
  where
    Either : Type 0
    Either = P LoadPast ⊎ (P StorePast ⊎ (P SwapBefore ⊎ P SwapAfter))

    to : Either → (rule : InferredRule) × P rule
    to (inl p) = (LoadPast, p)
    to (inr (inl p)) = (StorePast, p)
    to (inr (inr (inl p))) = (SwapBefore, p)
    to (inr (inr (inr p))) = (SwapAfter, p)

    back : (rule : InferredRule) → P rule → Either
    back LoadPast p = inl p
    back StorePast p = inr (inl p)
    back SwapBefore p = inr (inr (inl p))
    back SwapAfter p = inr (inr (inr p))

-- the rule gives the edge from u to v for the load, by a path over these edges
abbrev pub IsGivenFor : TraceValue → (ℕ → ℕ → Type 0) → ℕ → ℕ → InferredRule → ℕ → Type 0
IsGivenFor t Edge u v rule l = (x : ℕ) × (y : ℕ) × InferredBy t rule l u v x y × Reaches Edge x y

-- the rule gives the edge for some load
abbrev pub IsGivenBy : TraceValue → (ℕ → ℕ → Type 0) → ℕ → ℕ → InferredRule → Type 0
IsGivenBy t Edge u v rule = (l : ℕ) × IsGivenFor t Edge u v rule l

-- both are decided, where the paths are
pub IsGivenFor-decided : (t : TraceValue) (Edge : ℕ → ℕ → Type 0) → ((x y : ℕ) → Decision (Reaches Edge x y)) → (u v : ℕ) (rule : InferredRule) (l : ℕ) →
    Decision (IsGivenFor t Edge u v rule l)
IsGivenFor-decided t Edge decide u v rule l =
    Decision-iff (λ p. (p.0, p.1.0, p.1.1.0, p.1.1.1)) (λ p. (p.0, (p.1, (p.2, p.3))))
    (Decision-some Starts starts (suc (event_total t)) (λ x h. (InferredBy-within t rule l u v x h.0 h.1.0).path_from))
  where
    Starts : ℕ → Type 0
    Starts x = (y : ℕ) × (InferredBy t rule l u v x y × Reaches Edge x y)

    starts : (x : ℕ) → Decision (Starts x)
    starts x = Decision-some (λ y. InferredBy t rule l u v x y × Reaches Edge x y)
        (λ y. Decision-both (InferredBy-decided t rule l u v x y) (decide x y)) (suc (event_total t)) (λ y h. (InferredBy-within t rule l u v x y h.0).path_to)

pub IsGivenBy-decided : (t : TraceValue) (Edge : ℕ → ℕ → Type 0) → ((x y : ℕ) → Decision (Reaches Edge x y)) → (u v : ℕ) (rule : InferredRule) →
    Decision (IsGivenBy t Edge u v rule)
IsGivenBy-decided t Edge decide u v rule =
    Decision-some (IsGivenFor t Edge u v rule) (IsGivenFor-decided t Edge decide u v rule) (suc (event_total t))
    (λ l h. (InferredBy-within t rule l u v h.0 h.1 h.2).load)

-- whether an inferred rule gives the pair is decided, where the paths are
pub IsInferred-decided : (t : TraceValue) (Edge : ℕ → ℕ → Type 0) → ((x y : ℕ) → Decision (Reaches Edge x y)) → (u v : ℕ) →
    Decision (IsInferred t Edge u v)
IsInferred-decided t Edge decide u v =
    Decision-iff (λ p. (p.0, p.1.0, p.1.1.0, p.1.1.1, p.1.1.2, p.1.1.3)) (λ p. (p.0, (p.1, (p.2, p.3, p.4, p.5))))
    (InferredRule-some (λ rule. IsGivenBy t Edge u v rule) (IsGivenBy-decided t Edge decide u v))

-- The edges of a rank set are decided.
pub RankSet-decided : (t : TraceValue) (k u v : ℕ) → Decision (RankSet t k u v)
RankSet-decided t zero u v = BaseRule-some (λ rule. BasePair t rule u v) (λ rule. BasePair-decided t rule u v)
RankSet-decided t (suc k) u v =
    let paths : (x y : ℕ) → Decision (Reaches (λ x y. RankSet t k x y) x y) =
    Reaches-decided (λ x y. RankSet t k x y) (suc (event_total t)) (λ x y. RankSet-decided t k x y) (RankSet-within t k) in
    Decision-either (RankSet-decided t k u v)
    (Decision-both (IsInferred-decided t (λ x y. RankSet t k x y) paths u v) (Decision-not (paths u v)))

-- The paths over a rank set are decided.
pub RankSet-paths_decided : (t : TraceValue) (k u v : ℕ) → Decision (Reaches (RankSet t k) u v)
RankSet-paths_decided t k = Reaches-decided (RankSet t k) (suc (event_total t)) (RankSet-decided t k) (RankSet-within t k)

-- Whether a rank set has a cycle is decided.
pub RankSet-cycle_decided : (t : TraceValue) (k : ℕ) → Decision (HasCycle (RankSet t k))
RankSet-cycle_decided t k = HasCycle-decided (RankSet t k) (suc (event_total t)) (RankSet-decided t k) (RankSet-within t k)
