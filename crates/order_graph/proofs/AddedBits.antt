-- Tables to which bits are added one after another: which of the bits given are left, and how a table and its transposed table stay in agreement.
use Rattle.std.proofs.Common.{◌≡◌, ◌⊎◌, ◌↔◌, inl, inr, ℕ, ◌+◌, ◌*◌, ◌/◌, ◌%◌, ◌^◌, ◌<◌, ◌≤◌, List, length, get_or, sym, subst, ◌∙◌, arith}
use Rattle.std.specs.Int.{bit_not, w64}
use Rattle.std.specs.Prelude.{bit_and}
use Rattle.std.proofs.lemmas.Bool.{cases_eq}
use Rattle.bitsets.specs.Rows.{HasBit}
use Rattle.bitsets.specs.Tables.{IsSet, Adds}
use Rattle.order_graph.specs.Internal.Tables.{IsSelfOrSet, AreTransposed, IsTransitive}
use Rattle.bitsets.proofs.WordFacts.{HasBit-zero, HasBit-and, HasBit-not}
use Rattle.bitsets.proofs.TableFacts.{IsSet-decided, IsSet-word, Leaves, Leaves-start, Leaves-step, Leaves-end, column_within}

-- Two transposed tables stay so, where rows of word i gain bits of word j in the one, and in the other those bits gain these rows that some
-- of the rows lacked.
pub AreTransposed-words : (table transposed new new_transposed : List ℕ) (width nodes i rows j given fresh : ℕ) → AreTransposed table transposed width nodes → width ≡ (nodes + 63) / 64 →
    ((x : ℕ) → x / 64 ≡ i → HasBit rows (x % 64) → x < nodes) → ((y : ℕ) → y / 64 ≡ j → HasBit given (y % 64) → y < nodes) →
    length new ≡ length table → length new_transposed ≡ length transposed →
    Adds table new width (λ x y. (x / 64 ≡ i) × HasBit rows (x % 64) × (y / 64 ≡ j) × HasBit given (y % 64)) →
    ((k : ℕ) → k < 64 → HasBit fresh k → HasBit given k) →
    ((x y : ℕ) → x / 64 ≡ i → HasBit rows (x % 64) → y / 64 ≡ j → HasBit given (y % 64) → IsSet table width x y ⊎ HasBit fresh (y % 64)) →
    Adds transposed new_transposed width (λ y x. (y / 64 ≡ j) × HasBit fresh (y % 64) × (x / 64 ≡ i) × HasBit rows (x % 64)) → AreTransposed new new_transposed width nodes
AreTransposed-words table transposed new new_transposed width nodes i rows j given fresh old fits low given_low sized transposed_sized adds some lacked transposes = record {
  table_sized = sized ∙ old.table_sized;
  transposed_sized = transposed_sized ∙ old.transposed_sized;
  within = λ a b ha hb s. elim ((adds.bits a b hb).0 s) [ inl o ↦ old.within a b ha hb o | inr g ↦ given_low b g.2 g.3 ];
  transposed_within = λ a b ha hb s. elim ((transposes.bits a b hb).0 s) [ inl o ↦ old.transposed_within a b ha hb o | inr g ↦ low b g.2 g.3 ];
  same = λ a b ha hb. (to a b ha hb, back a b ha hb);
}
  where
    to : (a b : ℕ) → a < nodes → b < nodes → IsSet new_transposed width b a → IsSet new width a b
    to a b ha hb s = elim ((transposes.bits b a (column_within a nodes width fits ha)).0 s) [
      | inl o ↦ (adds.bits a b (column_within b nodes width fits hb)).1 (inl ((old.same a b ha hb).0 o))
      | inr g ↦ (adds.bits a b (column_within b nodes width fits hb)).1 (inr (g.2, g.3, g.0, some (b % 64) (omega arith) g.1))
    ]

    back : (a b : ℕ) → a < nodes → b < nodes → IsSet new width a b → IsSet new_transposed width b a
    back a b ha hb s = elim ((adds.bits a b (column_within b nodes width fits hb)).0 s) [
      | inl o ↦ (transposes.bits b a (column_within a nodes width fits ha)).1 (inl ((old.same a b ha hb).1 o))
      | inr g ↦ elim (lacked a b g.0 g.1 g.2 g.3) [
        | inl set ↦ (transposes.bits b a (column_within a nodes width fits ha)).1 (inl ((old.same a b ha hb).1 set))
        | inr f ↦ (transposes.bits b a (column_within a nodes width fits ha)).1 (inr (g.2, f, g.0, g.1))
      ]
    ]

-- no row gains anything by a word without bits
pub Adds-none : (table : List ℕ) (width i rows v : ℕ) → rows ≡ 0 → Adds table table width (λ x y. (x / 64 ≡ i) × HasBit rows (x % 64) × IsSelfOrSet table width v y)
Adds-none table width i rows v none = record { bits = λ x y h. (λ s. inl s, λ s. elim s [ inl o ↦ o | inr g ↦ absurd (HasBit-zero (x % 64) (subst (λ n. HasBit n (x % 64)) none g.1)) ]) }

-- While rows gain v and the numbers of row v, and no others, v and the numbers of row v stay the same.
pub self_or_set_same : (old now : List ℕ) (width v : ℕ) (Given Left : ℕ → ℕ → Type 0) → Leaves old now width Given Left →
    ((x y : ℕ) → y / 64 < width → Given x y → IsSelfOrSet old width v y) → (y : ℕ) → y / 64 < width → IsSelfOrSet now width v y ↔ IsSelfOrSet old width v y
self_or_set_same old now width v Given Left leaves only y h = (
  λ s. elim s [
    | inl e ↦ inl e
    | inr set ↦ elim ((leaves.bits v y h).1 (inl set)) [ inl o ↦ inr o | inr g ↦ only v y h g ]
  ],
  λ s. elim s [ inl e ↦ inl e | inr set ↦ inr (leaves.kept v y h set) ],
)

-- Row x gains v and the numbers of row v, from word j on.
abbrev pub SpreadFrom : List ℕ → ℕ → ℕ → ℕ → ℕ → ℕ → ℕ → Type 0
SpreadFrom old width x v j i y = (i ≡ x) × (j ≤ y / 64) × IsSelfOrSet old width v y

pub SpreadFrom-start : (old : List ℕ) (width x v : ℕ) → Leaves old old width (λ i y. (i ≡ x) × IsSelfOrSet old width v y) (SpreadFrom old width x v 0)
SpreadFrom-start old width x v = Leaves-start old width _ _ (λ i y h. (λ p. (p.0, omega arith, p.1), λ p. (p.0, p.2)))

-- what word j of row v has with v: v and the numbers of row v there
pub given_is : (now : List ℕ) (width v j given : ℕ) → ((k : ℕ) → k < 64 → HasBit given k ↔ ((64 * j + k ≡ v) ⊎ HasBit (get_or now (v * width + j) 0) k)) →
    (y : ℕ) → y / 64 ≡ j → HasBit given (y % 64) ↔ IsSelfOrSet now width v y
given_is now width v j given bits y e =
    let at = IsSet-word now width v j y e in
    let b = bits (y % 64) (omega arith) in
    (λ s. elim (b.0 s) [ inl q ↦ inl (omega arith) | inr w ↦ inr (at.1 w) ], λ s. b.1 (elim s [ inl q ↦ inl (omega arith) | inr w ↦ inr (at.0 w) ]))

-- those lie below `nodes`
pub given_below : (now transposed : List ℕ) (width nodes v j given : ℕ) → AreTransposed now transposed width nodes → v < nodes → j < width →
    ((k : ℕ) → k < 64 → HasBit given k ↔ ((64 * j + k ≡ v) ⊎ HasBit (get_or now (v * width + j) 0) k)) →
    (y : ℕ) → y / 64 ≡ j → HasBit given (y % 64) → y < nodes
given_below now transposed width nodes v j given are hv hj bits y e b = elim ((given_is now width v j given bits y e).0 b) [
  | inl q ↦ omega arith
  | inr set ↦ are.within v y hv (omega arith) set
]

pub SpreadFrom-step : (old now new : List ℕ) (width x v j given : ℕ) → Leaves old now width (λ i y. (i ≡ x) × IsSelfOrSet old width v y) (SpreadFrom old width x v j) → j < width →
    ((k : ℕ) → k < 64 → HasBit given k ↔ ((64 * j + k ≡ v) ⊎ HasBit (get_or now (v * width + j) 0) k)) →
    Adds now new width (λ i y. (i ≡ x) × (y / 64 ≡ j) × HasBit given (y % 64)) → Leaves old new width (λ i y. (i ≡ x) × IsSelfOrSet old width v y) (SpreadFrom old width x v (j + 1))
SpreadFrom-step old now new width x v j given leaves hj bits adds =
    let stays = self_or_set_same old now width v _ _ leaves (λ a b h g. g.1) in
    Leaves-step old now new width _ _ _ _ leaves adds
    (λ i y h p. elim (cases_eq (y / 64) j) [
      | inl e ↦ inr (inl (p.0, e, (given_is now width v j given bits y e).1 ((stays y h).1 p.2)))
      | inr ne ↦ inr (inr (p.0, omega (arith, p.1, ne), p.2))
    ])
    (λ i y h p. (p.0, omega (arith, p.1), (stays y h).0 ((given_is now width v j given bits y p.1).0 p.2)))
    (λ i y h p. (p.0, omega (arith, p.1), p.2))

pub SpreadFrom-end : (old now : List ℕ) (width x v : ℕ) → Leaves old now width (λ i y. (i ≡ x) × IsSelfOrSet old width v y) (SpreadFrom old width x v width) → Adds old now width (λ i y. (i ≡ x) × IsSelfOrSet old width v y)
SpreadFrom-end old now width x v leaves = Leaves-end old now width _ _ leaves (λ i y h p. omega (arith, p.1, h))

-- Of the rows whose numbers are bits of word i each has v and the numbers of row v before word j, and the other table is transposed.
pub record Widens (old now other : List ℕ) (width nodes i rows v j : ℕ) : Type 0 where
  pub leaves : Leaves old now width (λ x y. (x / 64 ≡ i) × HasBit rows (x % 64) × IsSelfOrSet old width v y) (λ x y. (x / 64 ≡ i) × HasBit rows (x % 64) × (j ≤ y / 64) × IsSelfOrSet old width v y)
  pub transposed : AreTransposed now other width nodes

pub Widens-start : (old other : List ℕ) (width nodes i rows v : ℕ) → AreTransposed old other width nodes → Widens old old other width nodes i rows v 0
Widens-start old other width nodes i rows v are = record {
  leaves = Leaves-start old width _ _ (λ x y h. (λ p. (p.0, p.1, omega arith, p.2), λ p. (p.0, p.1, p.3)));
  transposed = are;
}

-- they gain those of word j
pub Widens-step : (old now other new new_other : List ℕ) (width nodes i rows v j given fresh : ℕ) → Widens old now other width nodes i rows v j → j < width → width ≡ (nodes + 63) / 64 →
    v < nodes → ((x : ℕ) → x / 64 ≡ i → HasBit rows (x % 64) → x < nodes) →
    ((k : ℕ) → k < 64 → HasBit given k ↔ ((64 * j + k ≡ v) ⊎ HasBit (get_or now (v * width + j) 0) k)) →
    length new ≡ length now → length new_other ≡ length other →
    Adds now new width (λ x y. (x / 64 ≡ i) × HasBit rows (x % 64) × (y / 64 ≡ j) × HasBit given (y % 64)) →
    ((k : ℕ) → k < 64 → HasBit fresh k → HasBit given k) →
    ((x y : ℕ) → x / 64 ≡ i → HasBit rows (x % 64) → y / 64 ≡ j → HasBit given (y % 64) → IsSet now width x y ⊎ HasBit fresh (y % 64)) →
    Adds other new_other width (λ y x. (y / 64 ≡ j) × HasBit fresh (y % 64) × (x / 64 ≡ i) × HasBit rows (x % 64)) →
    Widens old new new_other width nodes i rows v (j + 1)
Widens-step old now other new new_other width nodes i rows v j given fresh widens hj fits hv low bits sized other_sized adds some lacked transposes =
    let stays = self_or_set_same old now width v _ _ widens.leaves (λ a b h g. g.2) in
    record {
      leaves = Leaves-step old now new width _ _ _ _ widens.leaves adds
          (λ x y h p. elim (cases_eq (y / 64) j) [
            | inl e ↦ inr (inl (p.0, p.1, e, (given_is now width v j given bits y e).1 ((stays y h).1 p.3)))
            | inr ne ↦ inr (inr (p.0, p.1, omega (arith, p.2, ne), p.3))
          ])
          (λ x y h p. (p.0, p.1, omega (arith, p.2), (stays y h).0 ((given_is now width v j given bits y p.2).0 p.3)))
          (λ x y h p. (p.0, p.1, omega (arith, p.2), p.3));
      transposed = AreTransposed-words now other new new_other width nodes i rows j given fresh widens.transposed fits low
          (given_below now other width nodes v j given widens.transposed hv hj bits) sized other_sized adds some lacked transposes;
    }

pub Widens-end : (old now other : List ℕ) (width nodes i rows v : ℕ) → Widens old now other width nodes i rows v width →
    Adds old now width (λ x y. (x / 64 ≡ i) × HasBit rows (x % 64) × IsSelfOrSet old width v y)
Widens-end old now other width nodes i rows v widens = Leaves-end old now width _ _ widens.leaves (λ x y h p. omega (arith, p.2, h))

-- x is a number of the graph that is u or leads to it
abbrev pub IsSource : List ℕ → ℕ → ℕ → ℕ → ℕ → Type 0
IsSource table width nodes u x = (x < nodes) × ((x ≡ u) ⊎ IsSet table width x u)

-- The sources of u before word i have v and the numbers of row v, and the rows of the others are as they were.
pub record Joins (old now other : List ℕ) (width nodes u v i : ℕ) : Type 0 where
  pub leaves : Leaves old now width (λ x y. (x < nodes) × ((x ≡ u) ⊎ IsSet old width x u) × IsSelfOrSet old width v y) (λ x y. (i ≤ x / 64) × IsSource old width nodes u x × IsSelfOrSet old width v y)
  pub later : (x y : ℕ) → y / 64 < width → i ≤ x / 64 → IsSet now width x y → IsSet old width x y
  pub transposed : AreTransposed now other width nodes

pub Joins-start : (old transposed : List ℕ) (width nodes u v : ℕ) → AreTransposed old transposed width nodes → Joins old old transposed width nodes u v 0
Joins-start old transposed width nodes u v are = record {
  leaves = Leaves-start old width _ _ (λ x y h. (λ p. (omega arith, (p.0, p.1), p.2), λ p. (p.1.0, p.1.1, p.2)));
  later = λ x y h l s. s;
  transposed = are;
}

-- what word i of row u of the transposed table has with u, less row v: the sources of u there that don't have v
pub rows_are : (transposed : List ℕ) (width u v i sources rows : ℕ) → get_or transposed (v * width + i) 0 < 2 ^ 64 →
    ((k : ℕ) → k < 64 → HasBit sources k ↔ ((64 * i + k ≡ u) ⊎ HasBit (get_or transposed (u * width + i) 0) k)) →
    rows ≡ bit_and sources (bit_not w64 (get_or transposed (v * width + i) 0)) →
    (x : ℕ) → x / 64 ≡ i → HasBit rows (x % 64) ↔ (((x ≡ u) ⊎ IsSet transposed width u x) × (IsSet transposed width v x → ⊥))
rows_are transposed width u v i sources rows small bits e x at =
    let both = HasBit-and sources (bit_not w64 (get_or transposed (v * width + i) 0)) (x % 64) in
    let none = HasBit-not (get_or transposed (v * width + i) 0) (x % 64) small (omega arith) in
    let from_u = given_is transposed width u i sources bits x at in
    let from_v = IsSet-word transposed width v i x at in (
      λ b. let p = both.0 (subst (λ n. HasBit n (x % 64)) e b) in (from_u.0 p.0, λ s. none.0 p.1 (from_v.0 s)),
      λ p. subst (λ n. HasBit n (x % 64)) (sym e) (both.1 (from_u.1 p.0, none.1 (λ b. p.1 (from_v.1 b)))),
    )

pub Joins-step : (old now transposed new new_transposed : List ℕ) (width nodes u v i sources rows : ℕ) → Joins old now transposed width nodes u v i → IsTransitive old width nodes →
    i < width → width ≡ (nodes + 63) / 64 → u < nodes → v < nodes → get_or transposed (v * width + i) 0 < 2 ^ 64 →
    ((k : ℕ) → k < 64 → HasBit sources k ↔ ((64 * i + k ≡ u) ⊎ HasBit (get_or transposed (u * width + i) 0) k)) →
    rows ≡ bit_and sources (bit_not w64 (get_or transposed (v * width + i) 0)) →
    Adds now new width (λ x y. (x / 64 ≡ i) × HasBit rows (x % 64) × IsSelfOrSet now width v y) → AreTransposed new new_transposed width nodes →
    Joins old new new_transposed width nodes u v (i + 1)
Joins-step old now transposed new new_transposed width nodes u v i sources rows joins transitive hi fits hu hv small bits e adds are = record {
  leaves = Leaves-step old now new width _ _ _ _ joins.leaves adds split added (λ x y h p. (omega (arith, p.0), p.1, p.2));
  later = λ x y h l s. elim ((adds.bits x y h).0 s) [ inl set ↦ joins.later x y h (omega arith) set | inr g ↦ absurd (omega (arith, g.0)) ];
  transposed = are;
}
  where
    stays : (y : ℕ) → y / 64 < width → IsSelfOrSet now width v y ↔ IsSelfOrSet old width v y
    stays = self_or_set_same old now width v _ _ joins.leaves (λ a b h g. g.2)

    -- a number that leads to u, and has v already, has what v leads to
    has : (x y : ℕ) → y / 64 < width → x < nodes → i ≤ x / 64 → IsSet transposed width v x → IsSelfOrSet old width v y → IsSet now width x y
    has x y h hx at set reach =
        let to_v : IsSet old width x v = joins.later x v (column_within v nodes width fits hv) at ((joins.transposed.same x v hx hv).0 set) in
        elim reach [
          | inl same ↦ joins.leaves.kept x y h (subst (λ n. IsSet old width x n) (sym same) to_v)
          | inr further ↦ joins.leaves.kept x y h (transitive.joins x v y hx hv (joins.transposed.within v y hv h (joins.leaves.kept v y h further)) to_v further)
        ]

    to_transposed : (x : ℕ) → x < nodes → i ≤ x / 64 → (x ≡ u) ⊎ IsSet old width x u → (x ≡ u) ⊎ IsSet transposed width u x
    to_transposed x hx at (inl same) = inl same
    to_transposed x hx at (inr set) = inr ((joins.transposed.same x u hx hu).1 (joins.leaves.kept x u (column_within u nodes width fits hu) set))

    from_transposed : (x : ℕ) → x < nodes → i ≤ x / 64 → (x ≡ u) ⊎ IsSet transposed width u x → (x ≡ u) ⊎ IsSet old width x u
    from_transposed x hx at (inl same) = inl same
    from_transposed x hx at (inr set) = inr (joins.later x u (column_within u nodes width fits hu) at ((joins.transposed.same x u hx hu).0 set))

    here : (x y : ℕ) → y / 64 < width → x / 64 ≡ i → IsSource old width nodes u x → IsSelfOrSet old width v y →
        IsSet now width x y ⊎ ((x / 64 ≡ i) × HasBit rows (x % 64) × IsSelfOrSet now width v y)
    here x y h at source reach = elim (IsSet-decided transposed width v x) [
      | inl set ↦ inl (has x y h source.0 (omega arith) set reach)
      | inr none ↦ inr (at, (rows_are transposed width u v i sources rows small bits e x at).1 (to_transposed x source.0 (omega arith) source.1, none), (stays y h).1 reach)
    ]

    split : (x y : ℕ) → y / 64 < width → (i ≤ x / 64) × IsSource old width nodes u x × IsSelfOrSet old width v y →
        IsSet now width x y ⊎ (((x / 64 ≡ i) × HasBit rows (x % 64) × IsSelfOrSet now width v y) ⊎ ((i + 1 ≤ x / 64) × IsSource old width nodes u x × IsSelfOrSet old width v y))
    split x y h p = elim (cases_eq (x / 64) i) [
      | inl at ↦ elim (here x y h at p.1 p.2) [ inl set ↦ inl set | inr add ↦ inr (inl add) ]
      | inr ne ↦ inr (inr (omega (arith, p.0, ne), p.1, p.2))
    ]

    -- a number of the word that is u or leads to it lies below `nodes`
    below : (x : ℕ) → x / 64 ≡ i → (x ≡ u) ⊎ IsSet transposed width u x → (x / 64 < width) → x < nodes
    below x at (inl same) h = subst (λ n. n < nodes) (sym same) hu
    below x at (inr set) h = joins.transposed.transposed_within u x hu h set

    added : (x y : ℕ) → y / 64 < width → (x / 64 ≡ i) × HasBit rows (x % 64) × IsSelfOrSet now width v y → (i ≤ x / 64) × IsSource old width nodes u x × IsSelfOrSet old width v y
    added x y h p =
        let source = ((rows_are transposed width u v i sources rows small bits e x p.0).0 p.1).0 in
        let hx : x < nodes = below x p.0 source (omega (arith, p.0)) in
        (omega (arith, p.0), (hx, from_transposed x hx (omega (arith, p.0)) source), (stays y h).0 p.2)

pub Joins-end : (old now transposed : List ℕ) (width nodes u v : ℕ) → width ≡ (nodes + 63) / 64 → Joins old now transposed width nodes u v width →
    Adds old now width (λ x y. (x < nodes) × ((x ≡ u) ⊎ IsSet old width x u) × IsSelfOrSet old width v y)
Joins-end old now transposed width nodes u v fits joins = Leaves-end old now width _ _ joins.leaves (λ x y h p. let hx : x < nodes = p.1.0 in omega (arith, p.0))

-- which of two transposed tables is the first doesn't matter
pub AreTransposed-swap : (table transposed : List ℕ) (width nodes : ℕ) → AreTransposed table transposed width nodes → AreTransposed transposed table width nodes
AreTransposed-swap table transposed width nodes are = record {
  table_sized = are.transposed_sized;
  transposed_sized = are.table_sized;
  within = are.transposed_within;
  transposed_within = are.within;
  same = λ x y hx hy. ((are.same y x hy hx).1, (are.same y x hy hx).0);
}
