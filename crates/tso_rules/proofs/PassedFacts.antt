-- Lemmas on the rule LoadPast over a graph that has the base edges: one load of each processor stands for the later ones.
use Rattle.std.proofs.Common.{◌≡◌, ◌≢◌, ◌⊎◌, ◌↔◌, inl, inr, ℕ, ◌<◌, ◌≤◌, Some, List, false, refl, sym, subst, arith}
use Rattle.std.proofs.lemmas.Bool.{cases_lt, cases_eq}
use Rattle.bitsets.specs.Rows.{HasNumber, IsMask, Marks}
use Rattle.bitsets.proofs.WordFacts.{HasBit-decided}
use Rattle.order_paths.specs.Paths.{Reaches}
use Rattle.order_paths.proofs.Reach.{Reaches-edge, Reaches-join}
use Rattle.tso_ops.specs.Values.{TraceValue}
use Rattle.tso_ops.specs.declared.events.Event.{Event}
use Rattle.tso_ops.specs.Events.{event_at, IsLoad, IsLoadAt, Earlier}
use Rattle.tso_ops.proofs.NumberFacts.{event_above_zero, load_event}
use Rattle.tso_ops.proofs.TableFacts.{source_load}
use Rattle.tso_cert.specs.declared.rules.BaseRule.TheVariants.{LoadOp}
use Rattle.tso_cert.specs.declared.rules.InferredRule.TheVariants.{LoadPast}
use Rattle.tso_model.specs.Ranks.{RankSet}
use Rattle.tso_rules.specs.SourceMasks.{IsSourceFrom}
use Rattle.tso_rules.specs.Internal.MarkedRows.{IsNewBy, IsNewRow}
use Rattle.tso_rules.specs.Internal.MaskTables.{IsCommonAbove, IsFirstAbove, AreOfOneProcessor}
use Rattle.tso_rules.proofs.BaseFacts.{load_at, at_load}
use Rattle.tso_rules.proofs.SourceMaskFacts.{same_address_of, same_address_on}

-- The rows of bits of a store: the loads of its address, and what it reaches.
pub record AreStoreRows (t : TraceValue) (Edge : ℕ → ℕ → Type 0) (u : ℕ) (event : Event) (loads reached : List ℕ) : Type 0 where
  pub at : event_at t u ≡ Some event
  pub store : event.load ≡ false
  pub loads_are : IsMask loads (IsLoadAt t event.a)
  pub paths : (n : ℕ) → HasNumber reached n ↔ Reaches Edge u n

-- Marked are ends of new edges by LoadPast, and all that the loads up to this one and the program-later ones give.
pub record PassedLoads (t : TraceValue) (Edge : ℕ → ℕ → Type 0) (u : ℕ) (first now : List ℕ) (last : ℕ) : Type 0 where
  pub only : (v : ℕ) → HasNumber now v → HasNumber first v ⊎ IsNewRow t LoadPast Edge u v
  pub kept : (v : ℕ) → HasNumber first v → HasNumber now v
  pub passed : (l v : ℕ) → (l ≤ last) ⊎ Earlier t last l → IsNewBy t LoadPast l Edge u v → HasNumber now v

-- the load of a new edge by LoadPast is one that the store reaches
reached_load : (t : TraceValue) (Edge : ℕ → ℕ → Type 0) (u l v : ℕ) → IsNewBy t LoadPast l Edge u v → Reaches Edge u l
reached_load t Edge u l v new =
    let given = new.0 in
    let by = given.2 in
    subst (λ x. Reaches Edge x l) by.4 (subst (λ y. Reaches Edge given.0 y) by.5 given.3)

-- a load reaches the program-later events
reached_later : (t : TraceValue) (Edge : ℕ → ℕ → Type 0) (u l m : ℕ) → ((x y : ℕ) → RankSet t 0 x y → Edge x y) → IsLoad t l → Reaches Edge u l → (m ≡ l) ⊎ Earlier t l m → Reaches Edge u m
reached_later t Edge u l m base load path (inl is) = subst (Reaches Edge u) (sym is) path
reached_later t Edge u l m base load path (inr later) = Reaches-join Edge u l m path (Reaches-edge Edge l m (base l m (LoadOp, (load, later))))

-- no event's number is 0
pub passed_start : (t : TraceValue) (Edge : ℕ → ℕ → Type 0) (u : ℕ) (first : List ℕ) → PassedLoads t Edge u first first 0
passed_start t Edge u first = record { only = λ v has. inl has; kept = λ v has. has; passed = passed }
  where
    passed : (l v : ℕ) → (l ≤ 0) ⊎ Earlier t 0 l → IsNewBy t LoadPast l Edge u v → HasNumber first v
    passed l v (inl none) new = absurd (let above : 0 < l = event_above_zero t l (load_event t l (source_load t l v new.0.2.2)) in omega arith)
    passed l v (inr later) new = absurd (let above : 0 < 0 = event_above_zero t 0 (later.0, later.2) in omega arith)

-- a load above the last is of its processor, or one that the search finds
passed_or_above : (t : TraceValue) (Edge : ℕ → ℕ → Type 0) (u : ℕ) (event : Event) (loads reached other : List ℕ) (last l v : ℕ) → AreStoreRows t Edge u event loads reached →
    ((m : ℕ) → HasNumber other m ↔ AreOfOneProcessor t last m) → IsNewBy t LoadPast l Edge u v → ((l ≤ last) ⊎ Earlier t last l) ⊎ IsCommonAbove loads reached other last l
passed_or_above t Edge u event loads reached other last l v rows others new = elim (cases_lt last l) [
  | inl above ↦ elim (HasNumber-decided other l) [
    | inl has ↦ (let same = (others l).0 has in inl (inr (same.0, same.1, same.2, same.3, same.4, above)))
    | inr lacks ↦ inr (
      above,
      (rows.loads_are.bits l).1 (load_at t u l event rows.at (source_load t l v new.0.2.2) new.0.2.1),
      (rows.paths l).1 (reached_load t Edge u l v new),
      lacks,
    )
  ]
  | inr low ↦ inl (inl low)
]
  where
    HasNumber-decided : (row : List ℕ) (n : ℕ) → HasNumber row n ⊎ (HasNumber row n → ⊥)
    HasNumber-decided row n = HasBit-decided _ _

-- one load more, with the later loads of its processor
pub passed_more : (t : TraceValue) (Edge : ℕ → ℕ → Type 0) (u : ℕ) (event : Event) (loads reached other row first now new : List ℕ) (last load : ℕ) →
    AreStoreRows t Edge u event loads reached → ((x y : ℕ) → RankSet t 0 x y → Edge x y) → ((m : ℕ) → HasNumber other m ↔ AreOfOneProcessor t last m) →
    PassedLoads t Edge u first now last → IsFirstAbove loads reached other last load → ((v : ℕ) → HasNumber row v ↔ IsSourceFrom t load v) →
    Marks now new (λ v. (HasNumber row v × (HasNumber reached v → ⊥)) × (v ≢ u)) → PassedLoads t Edge u first new load
passed_more t Edge u event loads reached other row first now new last load rows base others before found row_is marks = record { only = only; kept = kept; passed = passed }
  where
    is_load : IsLoad t load
    is_load = let of = (rows.loads_are.bits load).0 found.0.1 in (of.0, of.1, of.2)

    kept : (v : ℕ) → HasNumber first v → HasNumber new v
    kept v has = (marks.marked v).1 (inl (before.kept v has))

    only : (v : ℕ) → HasNumber new v → HasNumber first v ⊎ IsNewRow t LoadPast Edge u v
    only v has = elim ((marks.marked v).0 has) [
      | inl was ↦ before.only v was
      | inr is ↦ (let from = (row_is v).0 is.0.0 in
          let m : ℕ = from.0 in
          let path = reached_later t Edge u load m base is_load ((rows.paths load).0 found.0.2) from.2 in
          let same = at_load t u load event rows.at ((rows.loads_are.bits load).0 found.0.1) in
          inr (
            m,
            (
              (u, m, ((event, rows.at, rows.store), same_address_on t u load m same from.1, from.3, (λ e. is.1 (sym e)), refl, refl), path),
              λ reaches. is.0.1 ((rows.paths v).1 reaches),
            ),
          ))
    ]

    of_row : (l v : ℕ) → (l ≡ load) ⊎ Earlier t load l → IsNewBy t LoadPast l Edge u v → HasNumber new v
    of_row l v later by =
        let same = at_load t u load event rows.at ((rows.loads_are.bits load).0 found.0.1) in
        (marks.marked v).1 (inr (
          ((row_is v).1 (l, same_address_of t u load l same by.0.2.1, later, by.0.2.2), λ has. by.1 ((rows.paths v).0 has)),
          λ e. by.0.2.3 (sym e),
        ))

    old : (l v : ℕ) → (l ≤ last) ⊎ Earlier t last l → IsNewBy t LoadPast l Edge u v → HasNumber new v
    old l v low by = (marks.marked v).1 (inl (before.passed l v low by))

    passed : (l v : ℕ) → (l ≤ load) ⊎ Earlier t load l → IsNewBy t LoadPast l Edge u v → HasNumber new v
    passed l v (inr later) by = of_row l v (inr later) by
    passed l v (inl low) by = elim (cases_eq l load) [
      | inl is ↦ of_row l v (inl is) by
      | inr not ↦ elim (passed_or_above t Edge u event loads reached other last l v rows others by) [
        | inl was ↦ old l v was by
        | inr above ↦ absurd (found.1 l (omega (arith, low, not)) above)
      ]
    ]

-- all loads
pub passed_all : (t : TraceValue) (Edge : ℕ → ℕ → Type 0) (u : ℕ) (event : Event) (loads reached other first now : List ℕ) (last : ℕ) → AreStoreRows t Edge u event loads reached →
    ((m : ℕ) → HasNumber other m ↔ AreOfOneProcessor t last m) → PassedLoads t Edge u first now last → ((k : ℕ) → IsCommonAbove loads reached other last k → ⊥) →
    Marks first now (IsNewRow t LoadPast Edge u)
passed_all t Edge u event loads reached other first now last rows others before none = record {
  marked = λ v. (
    λ has. before.only v has,
    λ either. elim either [
      | inl was ↦ before.kept v was
      | inr new ↦ elim (passed_or_above t Edge u event loads reached other last new.0 v rows others new.1) [
        | inl low ↦ before.passed new.0 v low new.1
        | inr above ↦ absurd (none new.0 above)
      ]
    ],
  );
}
