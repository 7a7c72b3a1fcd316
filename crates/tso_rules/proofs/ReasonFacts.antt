-- Lemmas on the first rule and load that give an edge.
use Rattle.std.proofs.Common.{◌≡◌, inl, inr, ℕ, ◌<◌, ◌≤◌, ◌+◌, Option, Some, None, is_some, List, Bool, true, false, not, IsTrue, length, get_or, refl, sym, subst, ◌∙◌, arith}
use Rattle.std.specs.Option.{IfSome}
use Rattle.std.specs.Prelude.{◌≢◌, ◌↔◌, IsFalse, [], MatchOption}
use Rattle.std.proofs.lemmas.Bool.{cases_eq, cases_lt, cases_order, false≢true, true≢false}
use Rattle.std.proofs.lemmas.List.{get_or_past}
use Rattle.order_paths.specs.Paths.{Reaches}
use Rattle.bitsets.specs.Rows.{IsMask}
use Rattle.bitsets.proofs.RowFacts.{HasNumber-none}
use Rattle.tso_ops.specs.Values.{TraceValue}
use Rattle.tso_ops.specs.declared.events.Event.{Event}
use Rattle.tso_ops.specs.Events.{event_at, IsLoadAt, HasSource}
use Rattle.tso_ops.proofs.NumberFacts.{event_above_zero}
use Rattle.tso_ops.proofs.TableFacts.{source_load}
use Rattle.tso_cert.specs.declared.rules.InferredRule.TheVariants.{LoadPast}
use Rattle.tso_model.specs.Rules.{InferredBy}
use Rattle.tso_model.specs.NewEdges.{IsGivenBy}
use Rattle.tso_rules.specs.Internal.MarkedRows.{IsPast, IsNextPast, IsPastBy, GivesBy}
use Rattle.tso_rules.specs.Internal.MaskTables.{IsCommonAbove, IsFirstAbove}
use Rattle.tso_rules.proofs.BaseFacts.{load_at, at_load}
use Rattle.tso_model.specs.declared.conditions.inferred.Ends.{Ends}

-- the ends that LoadPast asks for are the store and the load
past_by : (t : TraceValue) (l u v x y : ℕ) → InferredBy t LoadPast l u v x y → InferredBy t LoadPast l u v u l
past_by t l u v x y by = (by.0, by.1, by.2, by.3, refl, refl)

-- some ends were found
pub past_ends : (t : TraceValue) (row : List Bool) (l u v : ℕ) (found : Option Ends) → IfSome found (λ (e : Ends). InferredBy t LoadPast l u v e.from e.to) →
    is_some found ≡ true → get_or row l false ≡ true → IsPastBy t row u v l
past_ends t row l u v None by some marked = absurd (false≢true some)
past_ends t row l u v (Some e) by some marked = (marked, past_by t l u v e.from e.to by)

-- a load that isn't marked, or for which none were found, gives no edge
pub past_unmarked : (t : TraceValue) (row : List Bool) (l u v : ℕ) → get_or row l false ≡ false → IsPastBy t row u v l → ⊥
past_unmarked t row l u v unmarked by = true≢false (sym by.0 ∙ unmarked)

is_none : (found : Option Ends) → is_some found ≡ false → found ≡ None
is_none None none = refl
is_none (Some e) none = absurd (true≢false none)

pub past_no_ends : (t : TraceValue) (row : List Bool) (l u v : ℕ) (found : Option Ends) → (found ≡ None → (x y : ℕ) → InferredBy t LoadPast l u v x y → ⊥) →
    is_some found ≡ false → IsPastBy t row u v l → ⊥
past_no_ends t row l u v found none not by = none (is_none found not) u l by.1

-- the loads before one more
pub past_more : (t : TraceValue) (row : List Bool) (load u v : ℕ) → ((l : ℕ) → l < load → IsPastBy t row u v l → ⊥) → (IsPastBy t row u v load → ⊥) →
    (l : ℕ) → l < load + 1 → IsPastBy t row u v l → ⊥
past_more t row load u v before here l less by = elim (cases_eq l load) [
  | inl same ↦ here (subst (λ n. IsPastBy t row u v n) same by)
  | inr other ↦ before l (omega (arith, less, other)) by
]

-- no load is marked past the row
pub past_none : (t : TraceValue) (row : List Bool) (load u v : ℕ) → length row ≤ load → ((l : ℕ) → l < load → IsPastBy t row u v l → ⊥) → (l : ℕ) → IsPastBy t row u v l → ⊥
past_none t row load u v past before l by = elim (cases_lt l load) [
  | inl less ↦ before l less by
  | inr more ↦ past_unmarked t row l u v (get_or_past row l false (omega (arith, past, more))) by
]

-- where the row says to which numbers paths lead from u, the marked loads are those for which LoadPast gives the edge
pub past_given : (t : TraceValue) (Edge : ℕ → ℕ → Type 0) (row : List Bool) (u v : ℕ) → ((y : ℕ) → Reaches Edge u y → IsTrue (get_or row y false)) →
    (l : ℕ) → IsGivenBy t LoadPast l (Reaches Edge) u v → IsPastBy t row u v l
past_given t Edge row u v tells l given =
    let by = given.2 in
    (tells l (subst (λ n. Reaches Edge u n) by.5 (subst (λ n. Reaches Edge n given.1) by.4 given.3)), past_by t l u v given.0 given.1 by)

pub past_gives : (t : TraceValue) (Edge : ℕ → ℕ → Type 0) (row : List Bool) (u v load : ℕ) → ((y : ℕ) → IsTrue (get_or row y false) → Reaches Edge u y) → ((y : ℕ) → Reaches Edge u y → IsTrue (get_or row y false)) →
    IsPastBy t row u v load × ((l : ℕ) → l < load → IsPastBy t row u v l → ⊥) → GivesBy t Edge u v LoadPast load u load
past_gives t Edge row u v load is tells first = record {
  by = first.0.1;
  path = is load first.0.0;
  least = λ l given. elim (cases_lt l load) [ inl less ↦ absurd (first.1 l less (past_given t Edge row u v tells l given)) | inr more ↦ more ];
}

-- the numbers above n in the rows of the loads of u's address and of the loads that read v
past_row : (t : TraceValue) (u v n l : ℕ) (event : Event) (loads readers : List ℕ) → event_at t u ≡ Some event → IsFalse event.load → u ≢ v → IsMask loads (IsLoadAt t event.a) →
    IsMask readers (λ l. HasSource t l v) → IsCommonAbove loads readers [] n l ↔ ((n < l) × IsPast t u v l)
past_row t u v n l event loads readers at store other loads_are readers_are = (
  λ is. (is.0, ((event, at, store), at_load t u l event at ((loads_are.bits l).0 is.1), (readers_are.bits l).0 is.2, other, refl, refl)),
  λ p. (p.0, (loads_are.bits l).1 (load_at t u l event at (source_load t l v p.1.2) p.1.1), (readers_are.bits l).1 p.1.2, λ none. HasNumber-none l none),
)

pub next_past_is : (t : TraceValue) (u v n : ℕ) (event : Event) (loads readers : List ℕ) (found : Option ℕ) → event_at t u ≡ Some event → IsFalse event.load → u ≢ v →
    IsMask loads (IsLoadAt t event.a) → IsMask readers (λ l. HasSource t l v) →
    MatchOption found ((k : ℕ) → IsCommonAbove loads readers [] n k → ⊥) (IsFirstAbove loads readers [] n) →
    MatchOption found ((l : ℕ) → n < l → IsPast t u v l → ⊥) (IsNextPast t u v n)
next_past_is t u v n event loads readers None at store other loads_are readers_are none = λ l less past.
    none l ((past_row t u v n l event loads readers at store other loads_are readers_are).1 (less, past))
next_past_is t u v n event loads readers (Some k) at store other loads_are readers_are first =
    let is = (past_row t u v n k event loads readers at store other loads_are readers_are).0 first.0 in (
      is.0,
      is.1,
      λ j less before past. first.1 j before ((past_row t u v n j event loads readers at store other loads_are readers_are).1 (less, past)),
    )

-- a load for which the rule gives the edge has a number above 0, and a path leads to it from u
pub given_past : (t : TraceValue) (Edge : ℕ → ℕ → Type 0) (u v l : ℕ) → IsGivenBy t LoadPast l (Reaches Edge) u v → (0 < l) × IsPast t u v l × Reaches Edge u l
given_past t Edge u v l given =
    let by = given.2 in
    let load = source_load t l v by.2 in (
      event_above_zero t l (load.0, load.1),
      past_by t l u v given.0 given.1 by,
      subst (λ n. Reaches Edge u n) by.5 (subst (λ n. Reaches Edge n given.1) by.4 given.3),
    )

pub past_first : (t : TraceValue) (Edge : ℕ → ℕ → Type 0) (u v load : ℕ) → IsNextPast t u v 0 load → Reaches Edge u load → GivesBy t Edge u v LoadPast load u load
past_first t Edge u v load first path = record {
  by = first.1;
  path = path;
  least = λ l given. let past = given_past t Edge u v l given in
      elim (cases_lt l load) [ inl less ↦ absurd (first.2 l past.0 less past.1) | inr more ↦ more ];
}

pub past_one : (t : TraceValue) (Edge : ℕ → ℕ → Type 0) (u v load : ℕ) → IsNextPast t u v 0 load → (Reaches Edge u load → ⊥) → ((l : ℕ) → load < l → IsPast t u v l → ⊥) →
    (l : ℕ) → IsGivenBy t LoadPast l (Reaches Edge) u v → ⊥
past_one t Edge u v load first none later l given =
    let past = given_past t Edge u v l given in
    elim (cases_order l load) [
      | inl same ↦ none (subst (λ n. Reaches Edge u n) same past.2)
      | inr (inl less) ↦ first.2 l past.0 less past.1
      | inr (inr more) ↦ later l more past.1
    ]

pub none_found : (found : Option ℕ) (None_is : Type 0) (Some_is : ℕ → Type 0) → is_some found ≡ false → MatchOption found None_is Some_is → None_is
none_found None None_is Some_is none is = is
none_found (Some k) None_is Some_is none is = absurd (true≢false none)

pub is_false : (b : Bool) → not b ≡ true → IsFalse b
is_false true e = absurd (false≢true e)
is_false false e = refl
