-- What a table of first numbers says once an edge was joined.
use Rattle.std.proofs.Common.{◌≡◌, ◌⊎◌, ◌↔◌, inl, inr, ℕ, ◌+◌, ◌*◌, ◌<◌, ◌≤◌, List, length, get_or, sym, subst, ◌∙◌, ap, arith, map}
use Rattle.std.proofs.lemmas.Bool.{cases_eq, cases_lt}
use Rattle.std.proofs.lemmas.List.{length-map}
use Rattle.chain_reach.specs.Internal.Lists.{AreGroups}
use Rattle.chain_reach.specs.Internal.FirstTables.{LeadsBy, IsOrLeadsBy, GrowsBy, KeepsReach, IsGiven, LowersRows, MarksRows}
use Rattle.chain_reach.proofs.ClosureFacts.{Closes, Closes-on, leads_or}

-- the first numbers given are of those that v is or leads to
given_is : (keys : List ℕ) (count : ℕ) (table given other : List ℕ) (grown : List ℕ) (v y : ℕ) → KeepsReach keys count table other grown → IsGiven table count v (get_or keys v 0) given →
    v < length keys → y < length keys → get_or keys y 0 < count → (get_or given (get_or keys y 0) 0 ≤ y) ↔ IsOrLeadsBy keys count table v y
given_is keys count table given other grown v y keeps gives hv hy low =
    let at = gives.gives (get_or keys y 0) y low in (
      λ le. elim (at.0 le) [
        | inl less ↦ inr (hv, hy, less)
        | inr both ↦ elim (cases_eq v y) [
          | inl e ↦ inl e
          | inr ne ↦ (let more = both.1 in inr (keeps.ordered v y (omega (arith, more, ne)) hy (sym both.0)))
        ]
      ],
      λ is. at.1 (elim is [ inl e ↦ inr (ap (λ n. get_or keys n 0) (sym e), omega (arith, e)) | inr leads ↦ inl leads.2 ]),
    )

pub joined_closes : (keys : List ℕ) (count : ℕ) (old new given other : List ℕ) (grown : List ℕ) (u v : ℕ) → KeepsReach keys count old other grown → IsGiven old count v (get_or keys v 0) given →
    LowersRows old new count given (GrowsBy keys count old u v) → u < length keys → v < length keys → ((n : ℕ) → n < length keys → get_or keys n 0 < count) →
    Closes (LeadsBy keys count old) (LeadsBy keys count new) u v
joined_closes keys count old new given other grown u v keeps gives lowers hu hv within = record { leads = leads; kept = kept; joined = joined }
  where
    gives_at : (y : ℕ) → y < length keys → (get_or given (get_or keys y 0) 0 ≤ y) ↔ IsOrLeadsBy keys count old v y
    gives_at y hy = given_is keys count old given other grown v y keeps gives hv hy (within y hy)

    leads : (x y : ℕ) → LeadsBy keys count new x y → LeadsBy keys count old x y ⊎ (IsOrLeadsBy keys count old x u × IsOrLeadsBy keys count old v y)
    leads x y is = elim ((lowers.lowered x (get_or keys y 0) y (within y is.1)).0 is.2) [
      | inl le ↦ inl (is.0, is.1, le)
      | inr grows ↦ inr (grows.0.0, (gives_at y is.1).0 grows.1)
    ]

    kept : (x y : ℕ) → LeadsBy keys count old x y → LeadsBy keys count new x y
    kept x y is = (is.0, is.1, (lowers.lowered x (get_or keys y 0) y (within y is.1)).1 (inl is.2))

    joined : (x y : ℕ) → IsOrLeadsBy keys count old x u → IsOrLeadsBy keys count old v y → LeadsBy keys count new x y
    joined x y a b =
        let hx : x < length keys = elim a [ inl e ↦ subst (λ n. n < length keys) (sym e) hu | inr is ↦ is.0 ] in
        let hy : y < length keys = elim b [ inl e ↦ subst (λ n. n < length keys) e hv | inr is ↦ is.1 ] in
        elim (cases_lt v (get_or old (x * count + get_or keys v 0) 0)) [
          | inl more ↦ (
            hx,
            hy,
            (lowers.lowered x (get_or keys y 0) y (within y hy)).1 (inr ((a, λ is. (let le = is.2 in omega (arith, more, le))), (gives_at y hy).1 b)),
          )
          | inr le ↦ (let is = leads_or (LeadsBy keys count old) x v y (record { on = keeps.transitive }) (hx, hv, le) b in
              (is.0, is.1, (lowers.lowered x (get_or keys y 0) y (within y is.1)).1 (inl is.2)))
        ]

pub joined_keeps : (keys : List ℕ) (count : ℕ) (old new given other : List ℕ) (was grown : List ℕ) (u v : ℕ) → KeepsReach keys count old other was → IsGiven old count v (get_or keys v 0) given →
    length given ≡ count → LowersRows old new count given (GrowsBy keys count old u v) → MarksRows was grown (GrowsBy keys count old u v) → u < length keys → v < length keys →
    ((n : ℕ) → n < length keys → get_or keys n 0 < count) → KeepsReach keys count new given grown
joined_keeps keys count old new given other was grown u v keeps gives sized lowers marks hu hv within =
    let closes = joined_closes keys count old new given other was u v keeps gives lowers hu hv within in
    let on = Closes-on (LeadsBy keys count old) (LeadsBy keys count new) u v (record { on = keeps.transitive }) closes in record {
      sized = lowers.sized ∙ keeps.sized;
      given_sized = sized;
      grown_sized = marks.sized ∙ keeps.grown_sized;
      grown_within = λ x has. elim ((marks.marked x).0 has) [
        | inl was ↦ keeps.grown_within x was
        | inr grows ↦ elim grows.0 [ inl e ↦ subst (λ n. n < length keys) (sym e) hu | inr leads ↦ leads.0 ]
      ];
      transitive = on.on;
      ordered = λ x y less low same. closes.kept x y (keeps.ordered x y less low same);
    }

-- The tables once the edge was joined.
pub record JoinedTables (keys : List ℕ) (count : ℕ) (old new given : List ℕ) (was grown : List ℕ) (u v : ℕ) : Type 0 where
  pub closes : Closes (LeadsBy keys count old) (LeadsBy keys count new) u v
  pub marks : MarksRows was grown (GrowsBy keys count old u v)
  pub keeps : KeepsReach keys count new given grown

-- the same, from what was written in copies of the tables
pub joined_tables : (keys : List ℕ) (count : ℕ) (old room : List ℕ) (was : List ℕ) (u v : ℕ) → KeepsReach keys count old room was → u < length keys → v < length keys →
    ((n : ℕ) → n < length keys → get_or keys n 0 < count) →
    (t s new1 new given1 given2 given : List ℕ) (w grown1 grown : List ℕ) (n d : ℕ) →
    IsGiven t n v d given1 → LowersRows s new1 (length given2) given2 (GrowsBy keys (length given2) s u v) → MarksRows w grown1 (GrowsBy keys (length given2) s u v) →
    t ≡ old → n ≡ count → d ≡ get_or keys v 0 → given1 ≡ given → s ≡ old → given2 ≡ given → length given ≡ count → new1 ≡ new → w ≡ was → grown1 ≡ grown →
    JoinedTables keys count old new given was grown u v
joined_tables keys count old room was u v keeps hu hv within t s new1 new given1 given2 given w grown1 grown n d gives lowers marks et en ed eg es eh el ew ewas egrown =
    let size : length given2 ≡ count = ap length eh ∙ el in
    let gives1 : IsGiven old n v d given1 = subst (λ a. IsGiven a n v d given1) et gives in
    let gives2 : IsGiven old count v d given1 = subst (λ a. IsGiven old a v d given1) en gives1 in
    let gives3 : IsGiven old count v (get_or keys v 0) given1 = subst (λ a. IsGiven old count v a given1) ed gives2 in
    let gives4 : IsGiven old count v (get_or keys v 0) given = subst (λ a. IsGiven old count v (get_or keys v 0) a) eg gives3 in
    let lowers1 : LowersRows s new1 count given2 (GrowsBy keys count s u v) = subst (λ a. LowersRows s new1 a given2 (GrowsBy keys a s u v)) size lowers in
    let lowers2 : LowersRows old new1 count given2 (GrowsBy keys count old u v) = subst (λ a. LowersRows a new1 count given2 (GrowsBy keys count a u v)) es lowers1 in
    let lowers3 : LowersRows old new1 count given (GrowsBy keys count old u v) = subst (λ a. LowersRows old new1 count a (GrowsBy keys count old u v)) eh lowers2 in
    let lowers4 : LowersRows old new count given (GrowsBy keys count old u v) = subst (λ a. LowersRows old a count given (GrowsBy keys count old u v)) ew lowers3 in
    let marks1 : MarksRows w grown1 (GrowsBy keys count s u v) = subst (λ a. MarksRows w grown1 (GrowsBy keys a s u v)) size marks in
    let marks2 : MarksRows w grown1 (GrowsBy keys count old u v) = subst (λ a. MarksRows w grown1 (GrowsBy keys count a u v)) es marks1 in
    let marks3 : MarksRows was grown1 (GrowsBy keys count old u v) = subst (λ a. MarksRows a grown1 (GrowsBy keys count old u v)) ewas marks2 in
    let marks4 : MarksRows was grown (GrowsBy keys count old u v) = subst (λ a. MarksRows was a (GrowsBy keys count old u v)) egrown marks3 in record {
      closes = joined_closes keys count old new given room was u v keeps gives4 lowers4 hu hv within;
      marks = marks4;
      keeps = joined_keeps keys count old new given room was grown u v keeps gives4 el lowers4 marks4 hu hv within;
    }

-- in groups each number's group is one of them
pub groups_within : {X : Type 0} (keys : List ℕ) (lists : List X) (items : X → List ℕ) → AreGroups keys (map items lists) → (n : ℕ) → n < length keys → get_or keys n 0 < length lists
groups_within keys lists items are n low = (let key = are.within n low in omega (arith, key, length-map lists items))
