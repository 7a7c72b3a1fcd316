-- Lemmas on the table of source masks: its rows are made from the last load on.
use Rattle.std.proofs.Common.{◌≡◌, ◌≢◌, ◌⊎◌, ◌↔◌, inl, inr, ℕ, suc, ◌+◌, ◌*◌, ◌/◌, ◌%◌, ◌<◌, ◌≤◌, List, [], get_or, refl, sym, subst, ap, ◌∙◌, arith, length, replicate}
use Rattle.std.proofs.lemmas.Bool.{cases_eq, cases_lt}
use Rattle.std.proofs.lemmas.List.{length-replicate}
use Rattle.bitsets.specs.Rows.{HasBit, HasNumber}
use Rattle.bitsets.specs.Tables.{IsSet, Adds}
use Rattle.bitsets.proofs.TableFacts.{IsSet-word, Leaves, Adds-iff, no_bit}
use Rattle.bitsets.proofs.RowFacts.{HasNumber-none}
use Rattle.bitsets.proofs.FillFacts.{RowFrom, RowFrom-step}
use Rattle.tso_ops.specs.Values.{TraceValue}
use Rattle.tso_ops.specs.declared.events.Event.{Event}
use Rattle.tso_ops.specs.Events.{event_total, IsLoad, IsStore, HasSource, SameAddress, Earlier}
use Rattle.tso_ops.proofs.NumberFacts.{event_unique, IsLoad-within, HasSource-within}
use Rattle.tso_ops.proofs.TableFacts.{source_load}
use Rattle.tso_cert.specs.declared.rules.BaseRule.TheVariants.{Own}
use Rattle.tso_model.specs.Rules.{BasePair}
use Rattle.tso_rules.specs.declared.masks.SourceMasks.{SourceMasks}
use Rattle.tso_rules.specs.SourceMasks.{IsSourceFrom, AreSourceMasks}
use Rattle.tso_rules.specs.Internal.MaskTables.{IsLaterLoad, IsNextLoad, IsSourceAfter, AreMasksFrom}

-- ---- a row that is copied

-- one word more of a row that is copied from another row of the same table
pub copied_more : (old now new : List ℕ) (width row x j : ℕ) → j < width → Leaves old now width (RowFrom old width row x 0) (RowFrom old width row x j) →
    Adds now new width (λ i y. (i ≡ row) × (y / 64 ≡ j) × HasBit (get_or now (x * width + j) 0) (y % 64)) →
    Leaves old new width (RowFrom old width row x 0) (RowFrom old width row x (j + 1))
copied_more old now new width row x j low leaves adds =
    RowFrom-step old now new old width row x 0 j leaves
    (Adds-iff now new width _ _ (λ i y. (λ is. (is.0, is.1, (same y is.1).0 is.2), λ is. (is.0, is.1, (same y is.1).1 is.2))) adds)
  where
    same : (y : ℕ) → y / 64 ≡ j → HasBit (get_or now (x * width + j) 0) (y % 64) ↔ HasBit (get_or old (x * width + j) 0) (y % 64)
    same y at =
        let within : y / 64 < width = omega arith in
        let before = IsSet-word old width x j y at in
        let after = IsSet-word now width x j y at in (
          λ bit. before.0 (elim ((leaves.bits x y within).1 (inl (after.1 bit))) [ inl was ↦ was | inr given ↦ given.2 ]),
          λ bit. after.0 (leaves.kept x y within (before.1 bit)),
        )

-- ---- what is added to a row

-- bits said in another way, within the table's width
adds_as : (old new : List ℕ) (width : ℕ) (Given Other : ℕ → ℕ → Type 0) → ((x y : ℕ) → y / 64 < width → Given x y ↔ Other x y) → Adds old new width Given → Adds old new width Other
adds_as old new width Given Other same adds = record {
  bits = λ x y low. (
    λ set. elim ((adds.bits x y low).0 set) [ inl was ↦ inl was | inr given ↦ inr ((same x y low).0 given) ],
    λ either. (adds.bits x y low).1 (elim either [ inl was ↦ inl was | inr other ↦ inr ((same x y low).1 other) ]),
  );
}

-- no bits are added
adds_none : (table : List ℕ) (width : ℕ) (Given : ℕ → ℕ → Type 0) → ((x y : ℕ) → Given x y → ⊥) → Adds table table width Given
adds_none table width Given none = record {
  bits = λ x y low. (λ set. inl set, λ either. elim either [ inl set ↦ set | inr given ↦ absurd (none x y given) ]);
}

pub same_address_of : (t : TraceValue) (l m k : ℕ) → SameAddress t l m → SameAddress t l k → SameAddress t m k
same_address_of t l m k one two =
    (one.1, two.1, one.3, two.3, sym one.4 ∙ ap (λ (e : Event). e.a) (event_unique t l one.0 two.0 one.2 two.2) ∙ two.4)

pub same_address_on : (t : TraceValue) (l m k : ℕ) → SameAddress t l m → SameAddress t m k → SameAddress t l k
same_address_on t l m k one two =
    (one.0, two.1, one.2, two.3, one.4 ∙ ap (λ (e : Event). e.a) (event_unique t m one.1 two.0 one.3 two.2) ∙ two.4)

earlier_of_both : (t : TraceValue) (l m k : ℕ) → Earlier t l m → Earlier t l k → m < k → Earlier t m k
earlier_of_both t l m k one two order =
    (one.1, two.1, one.3, two.3, sym one.4 ∙ ap (λ (e : Event). e.proc) (event_unique t l one.0 two.0 one.2 two.2) ∙ two.4, order)

earlier_on : (t : TraceValue) (l m k : ℕ) → Earlier t l m → Earlier t m k → Earlier t l k
earlier_on t l m k one two =
    let first : l < m = one.5 in
    let second : m < k = two.5 in
    (one.0, two.1, one.2, two.3, one.4 ∙ ap (λ (e : Event). e.proc) (event_unique t m one.1 two.0 one.3 two.2) ∙ two.4, omega arith)

-- the sources of the later loads are those of the next one and of its later ones
pub source_after_is : (t : TraceValue) (l m v : ℕ) → IsNextLoad t l m → IsSourceFrom t m v ↔ IsSourceAfter t l v
source_after_is t l m v next = (to, from)
  where
    to : IsSourceFrom t m v → IsSourceAfter t l v
    to (k, same, inl is, source) = (m, next.0, subst (λ n. HasSource t n v) is source)
    to (k, same, inr later, source) = (k, (source_load t k v source, same_address_on t l m k next.0.1 same, earlier_on t l m k next.0.2 later), source)

    from : IsSourceAfter t l v → IsSourceFrom t m v
    from (k, later, source) = elim (cases_lt m k) [
      | inl above ↦ (k, same_address_of t l m k next.0.1 later.1, inr (earlier_of_both t l m k next.0.2 later.2 above), source)
      | inr not_above ↦ elim (cases_lt k m) [
        | inl below ↦ absurd (next.1 k below later)
        | inr not_below ↦ (k, same_address_of t l m k next.0.1 later.1, inl (omega arith), source)
      ]
    ]

-- the row of the next load gives those sources
pub adds_later : (t : TraceValue) (old new : List ℕ) (width l m : ℕ) → AreMasksFrom t old width (suc l) → IsNextLoad t l m →
    Adds old new width (λ x v. (x ≡ l) × IsSet old width m v) → Adds old new width (λ x v. (x ≡ l) × IsSourceAfter t l v)
adds_later t old new width l m masks next adds =
    adds_as old new width _ _ (λ x v low.
    let order : l < m = next.0.2.5 in
    let made = masks.made m v (omega arith) next.0.0 low in
    let after = source_after_is t l m v next in
    (λ is. (is.0, after.0 (made.0 is.1)), λ is. (is.0, made.1 (after.1 is.1)))) adds

pub adds_no_later : (t : TraceValue) (table : List ℕ) (width l : ℕ) → ((m : ℕ) → IsLaterLoad t l m → ⊥) → Adds table table width (λ x v. (x ≡ l) × IsSourceAfter t l v)
adds_no_later t table width l none = adds_none table width _ (λ x v is. none is.1.0 is.1.1)

-- ---- the rows one after another

pub masks_none : (t : TraceValue) (words : List ℕ) (width n : ℕ) → n ≡ suc (event_total t) → words ≡ replicate (n * width) 0 → AreMasksFrom t words width n
masks_none t words width n all zeros = record {
  sized = rw zeros (length-replicate {A = ℕ} (n * width) 0 ∙ ap (λ k. k * width) all);
  made = λ l v past load low. absurd (let within : l < suc (event_total t) = IsLoad-within t l load in omega arith);
  empty = λ l v before low set. no_bit (n * width) width l v (subst (λ table. IsSet table width l v) zeros set);
}

-- what is no load has no row
pub masks_past : (t : TraceValue) (words : List ℕ) (width n : ℕ) → AreMasksFrom t words width (suc n) → (IsLoad t n → ⊥) → AreMasksFrom t words width n
masks_past t words width n masks no_load = record {
  sized = masks.sized;
  made = λ l v from load low. elim (cases_eq l n) [
    | inl is ↦ absurd (no_load (subst (IsLoad t) is load))
    | inr other ↦ masks.made l v (omega (arith, from, other)) load low
  ];
  empty = λ l v before low set. masks.empty l v (omega (arith, before)) low set;
}

-- the sources from a load on are its own and those of the later loads
source_from_is : (t : TraceValue) (l v : ℕ) → IsLoad t l → (IsSourceAfter t l v ⊎ HasSource t l v) ↔ IsSourceFrom t l v
source_from_is t l v load = (to, from)
  where
    to : IsSourceAfter t l v ⊎ HasSource t l v → IsSourceFrom t l v
    to (inl after) = (after.0, after.1.1, inr after.1.2, after.2)
    to (inr source) = (l, (load.0, load.0, load.1, load.1, refl), inl refl, source)

    from : IsSourceFrom t l v → IsSourceAfter t l v ⊎ HasSource t l v
    from (m, same, inl is, source) = inr (subst (λ n. HasSource t n v) is source)
    from (m, same, inr later, source) = inl (m, (source_load t m v source, same, later), source)

-- the row of one load more
pub masks_more : (t : TraceValue) (old middle new : List ℕ) (width n : ℕ) → AreMasksFrom t old width (suc n) → IsLoad t n → length new ≡ length old →
    Adds old middle width (λ l v. (l ≡ n) × IsSourceAfter t n v) → Adds middle new width (λ l v. (l ≡ n) × HasSource t n v) → AreMasksFrom t new width n
masks_more t old middle new width n masks load length_is later own = record { sized = length_is ∙ masks.sized; made = made; empty = empty }
  where
    here : (v : ℕ) → v / 64 < width → IsSet new width n v ↔ IsSourceFrom t n v
    here v low =
        let all = source_from_is t n v load in (
          λ set. all.0 (elim ((own.bits n v low).0 set) [
            | inl before ↦ elim ((later.bits n v low).0 before) [
              | inl was ↦ absurd (masks.empty n v (omega arith) low was)
              | inr after ↦ inl after.1
            ]
            | inr source ↦ inr source.1
          ]),
          λ is. elim (all.1 is) [
            | inl after ↦ (own.bits n v low).1 (inl ((later.bits n v low).1 (inr (refl, after))))
            | inr source ↦ (own.bits n v low).1 (inr (refl, source))
          ],
        )

    away : (l v : ℕ) → v / 64 < width → l ≢ n → IsSet new width l v ↔ IsSet old width l v
    away l v low other = (
      λ set. elim ((own.bits l v low).0 set) [
        | inl before ↦ elim ((later.bits l v low).0 before) [ inl was ↦ was | inr after ↦ absurd (other after.0) ]
        | inr source ↦ absurd (other source.0)
      ],
      λ was. (own.bits l v low).1 (inl ((later.bits l v low).1 (inl was))),
    )

    made : (l v : ℕ) → n ≤ l → IsLoad t l → v / 64 < width → IsSet new width l v ↔ IsSourceFrom t l v
    made l v from is_load low = elim (cases_eq l n) [
      | inl is ↦ subst (λ k. IsSet new width k v ↔ IsSourceFrom t k v) (sym is) (here v low)
      | inr other ↦ (let before = masks.made l v (omega (arith, from, other)) is_load low in
          let same = away l v low other in
          (λ set. before.0 (same.0 set), λ source. same.1 (before.1 source)))
    ]

    empty : (l v : ℕ) → l < n → v / 64 < width → IsSet new width l v → ⊥
    empty l v before low set = masks.empty l v (omega (arith, before)) low ((away l v low (λ is. omega (arith, before, is))).0 set)

-- the row of a load
pub mask_row : (t : TraceValue) (masks : SourceMasks) (row : List ℕ) (l : ℕ) → AreSourceMasks t masks → IsLoad t l →
    ((v : ℕ) → HasNumber row v ↔ ((v / 64 < masks.width) × IsSet masks.words.items masks.width l v)) → (v : ℕ) → HasNumber row v ↔ IsSourceFrom t l v
mask_row t masks row l are load row_is v = (
  λ has. (let set = (row_is v).0 has in (are.bits l v load set.0).0 set.1),
  λ from. (let within = (HasSource-within t from.0 v from.3).1 in
      let low : v / 64 < masks.width = omega (arith, within, are.fits) in
      (row_is v).1 (low, (are.bits l v load low).1 from)),
)

-- ---- the rule Own

-- what the rule gives a store: the other sources of the later loads of its address
own_after : (t : TraceValue) (u v : ℕ) → IsStore t u → (IsSourceAfter t u v × (v ≢ u)) ↔ BasePair t Own u v
own_after t u v store = (
  λ is. (let later = is.0.1 in (is.0.0, (store, later.1, later.2, is.0.2, λ e. is.1 (sym e)))),
  λ pair. (let own = pair.1 in ((pair.0, (source_load t pair.0 v own.3, own.1, own.2), own.3), λ e. own.4 (sym e))),
)

-- the mask of the next load has them
pub own_masked : (t : TraceValue) (masks : SourceMasks) (row : List ℕ) (u m v : ℕ) → AreSourceMasks t masks → IsStore t u → IsNextLoad t u m →
    ((k : ℕ) → HasNumber row k ↔ ((k / 64 < masks.width) × IsSet masks.words.items masks.width m k)) →
    ((HasNumber row v × (HasNumber [] v → ⊥)) × (v ≢ u)) ↔ BasePair t Own u v
own_masked t masks row u m v are store next row_is =
    let of = mask_row t masks row m are next.0.0 row_is v in
    let after = source_after_is t u m v next in
    let own = own_after t u v store in (
      λ is. own.0 (after.0 (of.0 is.0.0), is.1),
      λ by. (let is = own.1 by in ((of.1 (after.1 is.0), HasNumber-none v), is.1)),
    )

-- without a later load of its address there are none
pub own_none : (t : TraceValue) (u v : ℕ) → ((m : ℕ) → IsLaterLoad t u m → ⊥) → BasePair t Own u v → ⊥
own_none t u v none pair = let own = pair.1 in none pair.0 (source_load t pair.0 v own.3, own.1, own.2)
