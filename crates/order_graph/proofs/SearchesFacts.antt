-- How a search goes down from the first level that the start's edges meet, always to the least number.
use Rattle.std.proofs.Common.{◌≡◌, ◌↔◌, inl, inr, ℕ, zero, suc, ◌+◌, ◌-◌, ◌*◌, ◌/◌, ◌%◌, ◌<◌, ◌≤◌, List, [], ◌∷◌, ◌++◌, length, get_or, replicate, Option, Some, None, MatchOption, is_some, true, false, refl, sym, ap, subst, ◌∙◌, arith}
use Rattle.std.proofs.lemmas.Bool.{cases_order, cases_lt, true≢false, false≢true}
use Rattle.std.proofs.lemmas.List.{append_assoc, append-nil, length-append, length-replicate, get_or_append_left, get_or-append_right, get_or-replicate, get_or_past}
use Rattle.order_paths.specs.Paths.{IsPath, Reaches, IsAtMost, IsNoGreater}
use Rattle.order_paths.proofs.Decisions.{Decision, Decision-lt, Decision-three}
use Rattle.order_paths.proofs.Reach.{Reaches-edge, Reaches-prefix, Reaches-join, Reaches-decided}
use Rattle.bitsets.specs.Rows.{HasBit}
use Rattle.bitsets.specs.Tables.{IsSet, Adds, IsFirstShared, NoneShared}
use Rattle.order_graph.specs.Internal.Tables.{Joined}
use Rattle.order_graph.specs.Internal.KeptPaths.{KeepsAllPaths, Covers}
use Rattle.order_graph.specs.Internal.Tracks.{Track, Walks, IsLeastTrack, IsLevel, IsAboveLevel, NoShorter}
use Rattle.bitsets.proofs.WordFacts.{HasBit-zero}
use Rattle.bitsets.proofs.TableFacts.{IsSet-decided, column_within, row_within, no_bit}

-- a track has an edge to where a walk of as many edges as it has numbers begins
pub Track-walks : (Edge : ℕ → ℕ → Type 0) (x v : ℕ) (rest : List ℕ) → Track Edge x rest v → (y : ℕ) × Edge x y × Walks Edge (length rest) y v
Track-walks Edge x v [] t = (v, t.0, refl)
Track-walks Edge x v (y ∷ rest) t = (y, t.0, Track-walks Edge y v rest t.1)

-- a walk of edges is a path
pub Walks-reach : (Edge : ℕ → ℕ → Type 0) (count x v : ℕ) → Walks Edge (suc count) x v → Reaches Edge x v
Walks-reach Edge zero x v w = Reaches-edge Edge x v (subst (λ n. Edge x n) w.2 w.1)
Walks-reach Edge (suc count) x v w = Reaches-prefix Edge x w.0 v w.1 (Walks-reach Edge count w.0 v w.2)

-- Of the tracks from x to v over this many numbers, the list is the least.
pub record IsLeastRest (Edge : ℕ → ℕ → Type 0) (x v count : ℕ) (rest : List ℕ) : Type 0 where
  pub sized : length rest ≡ count
  pub track : Track Edge x rest v
  pub least : (other : List ℕ) → length other ≡ count → Track Edge x other v → IsAtMost rest other

-- an edge to v is the least track over no numbers
pub IsLeastRest-end : (Edge : ℕ → ℕ → Type 0) (x v : ℕ) → Edge x v → IsLeastRest Edge x v 0 []
IsLeastRest-end Edge x v e = record { sized = refl; track = (e, tt); least = λ other sized t. tt }

-- The least number from which a walk of as many edges leads on, and the least list after it, are the least list.
pub IsLeastRest-step : (Edge : ℕ → ℕ → Type 0) (x v count next : ℕ) (rest : List ℕ) → Edge x next →
    ((z : ℕ) → z < next → Edge x z → Walks Edge (suc count) z v → ⊥) → IsLeastRest Edge next v count rest → IsLeastRest Edge x v (suc count) (next ∷ rest)
IsLeastRest-step Edge x v count next rest e first after = record {
  sized = omega (arith, after.sized);
  track = (e, after.track);
  least = least;
}
  where
    least : (other : List ℕ) → length other ≡ suc count → Track Edge x other v → IsAtMost (next ∷ rest) other
    least [] sized t = absurd (omega arith)
    least (z ∷ zs) sized t = elim (cases_order next z) [
      | inl same ↦ inr (same, after.least zs (omega arith) (subst (λ n. Track Edge n zs v) (sym same) t.1))
      | inr (inl less) ↦ inl less
      | inr (inr more) ↦ absurd (first z more t.0 (subst (λ n. Walks Edge (suc n) z v) (let s : length zs ≡ count = omega arith in s) (Track-walks Edge z v zs t.1)))
    ]

-- the list is u and a least track over this many numbers
abbrev pub IsLeastList : (ℕ → ℕ → Type 0) → ℕ → ℕ → ℕ → List ℕ → Type 0
IsLeastList Edge u v count [] = ⊥
IsLeastList Edge u v count (x ∷ rest) = (x ≡ u) × IsLeastRest Edge u v count rest

-- The numbers so far lead to the number at hand, and with a least list from there they are a least list from u.
pub record Descends (edges paths : List ℕ) (width nodes u v count left at : ℕ) (list : List ℕ) : Type 0 where
  pub below : at < nodes
  pub reached : (y : ℕ) → Joined edges width nodes at y → IsSet paths width u y
  pub onward : (y : ℕ) × Joined edges width nodes at y × Walks (Joined edges width nodes) left y v
  pub continues : (rest : List ℕ) → IsLeastRest (Joined edges width nodes) at v left rest → IsLeastList (Joined edges width nodes) u v count (list ++ rest)

-- the tables of paths have just the paths, so they cover them
pub KeepsAllPaths-covers : (nodes width : ℕ) (edges paths transposed : List ℕ) → KeepsAllPaths nodes width edges paths transposed → Covers nodes width edges paths transposed
KeepsAllPaths-covers nodes width edges paths transposed keeps = record {
  small = keeps.small;
  fits = keeps.fits;
  edges_sized = keeps.edges_sized;
  edges_within = keeps.edges_within;
  paths_sized = keeps.paths_transposed.table_sized;
  transposed_sized = keeps.paths_transposed.transposed_sized;
  onward = λ x y z hx from e. elim from [
    | inl same ↦ (keeps.tells x z hx e.1).1 (Reaches-edge (Joined edges width nodes) x z (subst (λ n. Joined edges width nodes n z) same e))
    | inr set ↦ (keeps.tells x z hx e.1).1 (Reaches-join (Joined edges width nodes) x y z ((keeps.tells x y hx e.0).0 set) (Reaches-edge (Joined edges width nodes) y z e))
  ];
  back = λ x y hx hy p. (keeps.paths_transposed.same x y hx hy).1 ((keeps.tells x y hx hy).1 p);
}

pub Descends-start : (nodes width : ℕ) (edges paths transposed levels : List ℕ) (u v count : ℕ) → Covers nodes width edges paths transposed → u < nodes →
    IsLevel edges paths levels width nodes u v count → (y : ℕ) × (y / 64 < width) × IsSet edges width u y × IsSet levels width count y →
    Descends edges paths width nodes u v count count u (u ∷ [])
Descends-start nodes width edges paths transposed levels u v count covers hu level meets =
    let on = level.sound meets.0 meets.1 meets.3 in
    record {
      below = hu;
      reached = λ y e. covers.onward u u y hu (inl refl) e;
      onward = (meets.0, (hu, on.0, meets.2), on.1);
      continues = λ rest least. (refl, least);
    }

-- some number is shared with the next level, so the search for the first finds one
pub Descends-meets : (nodes width : ℕ) (edges paths transposed levels : List ℕ) (u v count left at : ℕ) (list : List ℕ) → Covers nodes width edges paths transposed →
    IsLevel edges paths levels width nodes u v left → Descends edges paths width nodes u v count left at list → NoneShared edges at levels left width → ⊥
Descends-meets nodes width edges paths transposed levels u v count left at list covers level descends none =
    let y = descends.onward.0 in
    let e = descends.onward.1 in
    none y (column_within y nodes width covers.fits e.1) e.2 (level.complete y e.1 (descends.reached y e) descends.onward.2)

pub Descends-step : (nodes width : ℕ) (edges paths transposed levels : List ℕ) (u v count left at next : ℕ) (list : List ℕ) → Covers nodes width edges paths transposed → u < nodes →
    IsLevel edges paths levels width nodes u v (suc left) → Descends edges paths width nodes u v count (suc left) at list → IsFirstShared edges at levels (suc left) width next →
    Descends edges paths width nodes u v count left next (list ++ next ∷ [])
Descends-step nodes width edges paths transposed levels u v count left at next list covers hu level descends first =
    let on = level.sound next first.column first.second in
    let edge : Joined edges width nodes at next = (descends.below, on.0, first.first) in
    let set = descends.reached next edge in
    record {
      below = on.0;
      reached = λ y e. covers.onward u next y hu (inr set) e;
      onward = on.1;
      continues = λ rest least.
          subst (λ l. IsLeastList (Joined edges width nodes) u v count l) (sym (append_assoc list (next ∷ []) rest))
          (descends.continues (next ∷ rest) (IsLeastRest-step (Joined edges width nodes) at v left next rest edge
          (λ z less e w. first.least z less e.2 (level.complete z e.1 (descends.reached z e) w)) least));
    }

-- A least list over as many numbers as there are at least is a least track.
pub IsLeastTrack-from_list : (edges : List ℕ) (width nodes u v count : ℕ) (list : List ℕ) → IsLeastList (Joined edges width nodes) u v count list → NoShorter edges width nodes u v count →
    IsLeastTrack (Joined edges width nodes) u v list × (length list ≡ suc count)
IsLeastTrack-from_list edges width nodes u v count [] least none = absurd least
IsLeastTrack-from_list edges width nodes u v count (x ∷ rest) least none =
    ((least.0, least.1.track, no_greater), omega (arith, least.1.sized))
  where
    no_greater : (other : List ℕ) → Track (Joined edges width nodes) u other v → IsNoGreater rest other
    no_greater other t = elim (cases_order (length rest) (length other)) [
      | inl same ↦ inr (same, least.1.least other (sym same ∙ least.1.sized) t)
      | inr (inl less) ↦ inl less
      | inr (inr more) ↦ absurd (omega (arith, none other t, least.1.sized))
    ]

pub Descends-end : (edges paths : List ℕ) (width nodes u v count at : ℕ) (list : List ℕ) → Descends edges paths width nodes u v count 0 at list → NoShorter edges width nodes u v count →
    IsLeastTrack (Joined edges width nodes) u v list × (length list ≡ suc count)
Descends-end edges paths width nodes u v count at list descends none =
    let e : Joined edges width nodes at v = subst (λ n. Joined edges width nodes at n) descends.onward.2 descends.onward.1 in
    IsLeastTrack-from_list edges width nodes u v count list
    (subst (λ l. IsLeastList (Joined edges width nodes) u v count l) (append-nil list) (descends.continues [] (IsLeastRest-end (Joined edges width nodes) at v e))) none

-- the test of a number above a level, in three parts
pub IsAboveLevel-parts : (edges paths transposed levels : List ℕ) (width u v count x y : ℕ) → IsSet paths width u x → IsSet transposed width v x → IsFirstShared edges x levels count width y →
    IsAboveLevel edges paths transposed levels width u v count x
IsAboveLevel-parts edges paths transposed levels width u v count x y reached reaching first = record {
  reached = reached;
  reaching = reaching;
  edge = (y, first.column, first.first, first.second);
}

-- Of the numbers before x, those above the level have their bits in the row after it.
abbrev pub Raised : List ℕ → List ℕ → List ℕ → List ℕ → ℕ → ℕ → ℕ → ℕ → ℕ → ℕ → ℕ → Type 0
Raised edges paths transposed levels width u v count x i y = (i ≡ count + 1) × (y < x) × IsAboveLevel edges paths transposed levels width u v count y

-- a row before the one that is filled stays, so what is above it does
pub IsAboveLevel-same : (edges paths transposed old now : List ℕ) (width u v count x y : ℕ) → Adds old now width (Raised edges paths transposed old width u v count x) →
    IsAboveLevel edges paths transposed now width u v count y ↔ IsAboveLevel edges paths transposed old width u v count y
IsAboveLevel-same edges paths transposed old now width u v count x y adds = (
  λ above. record {
    reached = above.reached;
    reaching = above.reaching;
    edge = (above.edge.0, above.edge.1, above.edge.2, elim ((adds.bits count above.edge.0 above.edge.1).0 above.edge.3) [ inl o ↦ o | inr g ↦ absurd (omega (arith, g.0)) ]);
  },
  λ above. record {
    reached = above.reached;
    reaching = above.reaching;
    edge = (above.edge.0, above.edge.1, above.edge.2, (adds.bits count above.edge.0 above.edge.1).1 (inl above.edge.3));
  },
)

pub Raised-start : (edges paths transposed old : List ℕ) (width u v count : ℕ) → Adds old old width (Raised edges paths transposed old width u v count 0)
Raised-start edges paths transposed old width u v count = record { bits = λ i y h. (λ s. inl s, λ s. elim s [ inl o ↦ o | inr g ↦ absurd (omega (arith, g.1)) ]) }

pub Raised-set : (edges paths transposed old now new : List ℕ) (width u v count x : ℕ) → Adds old now width (Raised edges paths transposed old width u v count x) →
    IsAboveLevel edges paths transposed now width u v count x → Adds now new width (λ i j. (i ≡ count + 1) × (j ≡ x)) → Adds old new width (Raised edges paths transposed old width u v count (x + 1))
Raised-set edges paths transposed old now new width u v count x adds above sets = record {
  bits = λ i y h. (
    λ s. elim ((sets.bits i y h).0 s) [
      | inl n ↦ elim ((adds.bits i y h).0 n) [ inl o ↦ inl o | inr g ↦ inr (g.0, omega (arith, g.1), g.2) ]
      | inr here ↦ inr (here.0, omega (arith, here.1), subst (λ n. IsAboveLevel edges paths transposed old width u v count n) (sym here.1) ((IsAboveLevel-same edges paths transposed old now width u v count x x adds).0 above))
    ],
    λ s. (sets.bits i y h).1 (elim s [
      | inl o ↦ inl ((adds.bits i y h).1 (inl o))
      | inr g ↦ elim (cases_lt y x) [ inl less ↦ inl ((adds.bits i y h).1 (inr (g.0, less, g.2))) | inr more ↦ inr (g.0, omega (arith, g.1)) ]
    ]),
  );
}

pub Raised-skip : (edges paths transposed old now : List ℕ) (width u v count x : ℕ) → Adds old now width (Raised edges paths transposed old width u v count x) →
    (IsAboveLevel edges paths transposed now width u v count x → ⊥) → Adds old now width (Raised edges paths transposed old width u v count (x + 1))
Raised-skip edges paths transposed old now width u v count x adds none = record {
  bits = λ i y h. (
    λ s. elim ((adds.bits i y h).0 s) [ inl o ↦ inl o | inr g ↦ inr (g.0, omega (arith, g.1), g.2) ],
    λ s. (adds.bits i y h).1 (elim s [
      | inl o ↦ inl o
      | inr g ↦ elim (cases_order y x) [
        | inl same ↦ absurd (none ((IsAboveLevel-same edges paths transposed old now width u v count x x adds).1 (subst (λ n. IsAboveLevel edges paths transposed old width u v count n) same g.2)))
        | inr (inl less) ↦ inr (g.0, less, g.2)
        | inr (inr more) ↦ absurd (omega (arith, g.1))
      ]
    ]),
  );
}

-- The levels so far, none of which the start's edges meet.
pub record Levels (edges paths levels : List ℕ) (width nodes u v count : ℕ) : Type 0 where
  pub sized : length levels ≡ (count + 1) * width
  pub each : (d : ℕ) → d ≤ count → IsLevel edges paths levels width nodes u v d
  pub none : NoShorter edges width nodes u v count

pub Levels-start : (edges paths zeros levels : List ℕ) (width nodes u v : ℕ) → width ≡ (nodes + 63) / 64 → v < nodes → zeros ≡ replicate width 0 → length levels ≡ length zeros →
    Adds zeros levels width (λ i j. (i ≡ 0) × (j ≡ v)) → Levels edges paths levels width nodes u v 0
Levels-start edges paths zeros levels width nodes u v fits hv same sized adds = record {
  sized = omega (arith, sized, ap length same, length-replicate {A = ℕ} width 0);
  each = λ d h. let z : 0 ≡ d = omega arith in subst (λ n. IsLevel edges paths levels width nodes u v n) z first;
  none = λ rest t. omega arith;
}
  where
    first : IsLevel edges paths levels width nodes u v 0
    first = record {
      sound = λ y h s. elim ((adds.bits 0 y h).0 s) [
        | inl o ↦ absurd (no_bit width width 0 y (subst (λ l. IsSet l width 0 y) same o))
        | inr g ↦ (omega (arith, g.1), g.1)
      ];
      complete = λ y h s w. (adds.bits 0 y (column_within y nodes width fits h)).1 (inr (refl, w));
    }

-- a row of a table that is cut out or has words after it
pub row_of_longer : (table rest : List ℕ) (width d y : ℕ) → d * width + width ≤ length table → y / 64 < width → IsSet (table ++ rest) width d y ↔ IsSet table width d y
unfolding IsSet
row_of_longer table rest width d y h hy =
    let same : get_or (table ++ rest) (d * width + y / 64) 0 ≡ get_or table (d * width + y / 64) 0 = get_or_append_left table rest 0 (d * width + y / 64) (omega arith) in
    (λ s. subst (λ n. HasBit n (y % 64)) same s, λ s. subst (λ n. HasBit n (y % 64)) (sym same) s)

pub row_of_zeros : (table : List ℕ) (more width d y : ℕ) → length table ≡ d * width → IsSet (table ++ replicate more 0) width d y → ⊥
unfolding IsSet
row_of_zeros table more width d y h s =
    let same : get_or (table ++ replicate more 0) (d * width + y / 64) 0 ≡ get_or (replicate more 0) (d * width + y / 64 - length table) 0 =
    get_or-append_right table (replicate more 0) (length table) (d * width + y / 64) 0 refl (omega arith) in
    elim (cases_lt (d * width + y / 64 - length table) more) [
      | inl less ↦ HasBit-zero (y % 64) (subst (λ n. HasBit n (y % 64)) (same ∙ get_or-replicate more (d * width + y / 64 - length table) 0 0 less) s)
      | inr past ↦ HasBit-zero (y % 64) (subst (λ n. HasBit n (y % 64)) (same ∙ get_or_past (replicate more 0) (d * width + y / 64 - length table) 0 (omega (arith, length-replicate {A = ℕ} more 0))) s)
    ]

-- a track over as many numbers as there are levels ends where the start's edges meet the last
not_met : (edges paths levels : List ℕ) (width nodes u v count : ℕ) → ((y : ℕ) → Joined edges width nodes u y → IsSet paths width u y) → width ≡ (nodes + 63) / 64 →
    IsLevel edges paths levels width nodes u v count → NoneShared edges u levels count width → (rest : List ℕ) → length rest ≡ count → Track (Joined edges width nodes) u rest v → ⊥
not_met edges paths levels width nodes u v count reached fits level none rest sized t =
    let w = Track-walks (Joined edges width nodes) u v rest t in
    none w.0 (column_within w.0 nodes width fits w.1.1) w.1.2 (level.complete w.0 w.1.1 (reached w.0 w.1) (subst (λ n. Walks (Joined edges width nodes) n w.0 v) sized w.2))

pub Levels-none : (nodes width : ℕ) (edges paths transposed levels : List ℕ) (u v count : ℕ) → Covers nodes width edges paths transposed → u < nodes → Levels edges paths levels width nodes u v count →
    NoneShared edges u levels count width → NoShorter edges width nodes u v (count + 1)
Levels-none nodes width edges paths transposed levels u v count covers hu all none rest t =
    elim (cases_order count (length rest)) [
      | inl same ↦ absurd (not_met edges paths levels width nodes u v count (λ y e. covers.onward u u y hu (inl refl) e) covers.fits
          (all.each count (omega arith)) none rest (sym same) t)
      | inr (inl less) ↦ omega arith
      | inr (inr more) ↦ absurd (omega (arith, all.none rest t))
    ]

pub Levels-step : (nodes width : ℕ) (edges paths transposed levels more new : List ℕ) (u v count : ℕ) → Covers nodes width edges paths transposed → u < nodes → v < nodes → Levels edges paths levels width nodes u v count →
    NoneShared edges u levels count width → more ≡ levels ++ replicate width 0 → length new ≡ length more →
    Adds more new width (λ i y. (i ≡ count + 1) × (y < nodes) × IsAboveLevel edges paths transposed more width u v count y) → Levels edges paths new width nodes u v (count + 1)
Levels-step nodes width edges paths transposed levels more new u v count covers hu hv all none same sized adds = record {
  sized = omega (arith, sized, ap length same, length-append levels (replicate width 0), length-replicate {A = ℕ} width 0, all.sized);
  each = λ d h. elim (cases_order d (count + 1)) [
    | inl last ↦ subst (λ n. IsLevel edges paths new width nodes u v n) (sym last) next
    | inr (inl less) ↦ old d (omega arith)
    | inr (inr past) ↦ absurd (omega arith)
  ];
  none = Levels-none nodes width edges paths transposed levels u v count covers hu all none;
}
  where
    within : (d : ℕ) → d ≤ count → d * width + width ≤ length levels
    within d h = omega (arith, row_within d (count + 1) width (let l : d < count + 1 = omega arith in l), all.sized)

    longer : (d y : ℕ) → d ≤ count → y / 64 < width → IsSet more width d y ↔ IsSet levels width d y
    longer d y h hy = subst (λ l. IsSet l width d y ↔ IsSet levels width d y) (sym same) (row_of_longer levels (replicate width 0) width d y (within d h) hy)

    old : (d : ℕ) → d ≤ count → IsLevel edges paths new width nodes u v d
    old d h = record {
      sound = λ y hy s. (all.each d h).sound y hy (elim ((adds.bits d y hy).0 s) [ inl o ↦ (longer d y h hy).0 o | inr g ↦ absurd (omega (arith, g.0)) ]);
      complete = λ y hy r w. (adds.bits d y (column_within y nodes width covers.fits hy)).1 (inl ((longer d y h (column_within y nodes width covers.fits hy)).1 ((all.each d h).complete y hy r w)));
    }

    fresh : (y : ℕ) → IsSet more width (count + 1) y → ⊥
    fresh y s = row_of_zeros levels width width (count + 1) y all.sized (subst (λ l. IsSet l width (count + 1) y) same s)

    walks : (y : ℕ) → y < nodes → IsAboveLevel edges paths transposed more width u v count y → Walks (Joined edges width nodes) (suc count) y v
    walks y hy above =
        let z = above.edge.0 in
        let on = (all.each count (omega arith)).sound z above.edge.1 ((longer count z (omega arith) above.edge.1).0 above.edge.3) in
        (z, (hy, on.0, above.edge.2), on.1)

    is_above : (y : ℕ) → y < nodes → IsSet paths width u y → Walks (Joined edges width nodes) (suc count) y v → IsAboveLevel edges paths transposed more width u v count y
    is_above y hy r w =
        let z = w.0 in
        let e = w.1 in
        let hz = column_within z nodes width covers.fits e.1 in
        record {
          reached = r;
          reaching = covers.back y v hy hv (Walks-reach (Joined edges width nodes) count y v w);
          edge = (z, hz, e.2, (longer count z (omega arith) hz).1 ((all.each count (omega arith)).complete z e.1 (covers.onward u y z hu (inr r) e) w.2));
        }

    next : IsLevel edges paths new width nodes u v (count + 1)
    next = record {
      sound = λ y hy s. elim ((adds.bits (count + 1) y hy).0 s) [
        | inl o ↦ absurd (fresh y o)
        | inr g ↦ (g.1, subst (λ n. Walks (Joined edges width nodes) n y v) (let e : suc count ≡ count + 1 = omega arith in e) (walks y g.1 g.2))
      ];
      complete = λ y hy r w. (adds.bits (count + 1) y (column_within y nodes width covers.fits hy)).1
          (inr (refl, hy, is_above y hy r (subst (λ n. Walks (Joined edges width nodes) n y v) (let e : count + 1 ≡ suc count = omega arith in e) w)));
    }

-- whether there is a path over the edges of a table is decided
Joined-decided : (edges : List ℕ) (width nodes u v : ℕ) → Decision (Reaches (Joined edges width nodes) u v)
Joined-decided edges width nodes u v =
    Reaches-decided (Joined edges width nodes) nodes
    (λ x y. Decision-three (Decision-lt x nodes) (Decision-lt y nodes) (IsSet-decided edges width x y)) (λ x y e. (e.0, e.1)) u v

-- how many numbers a path has that a decision shows, if any
size_of : {Edge : ℕ → ℕ → Type 0} {u v : ℕ} → Decision (Reaches Edge u v) → ℕ
size_of (inl path) = length path.0
size_of (inr none) = 0

-- how many numbers some path from u to v has
pub path_size : List ℕ → ℕ → ℕ → ℕ → ℕ → ℕ
path_size edges width nodes u v = size_of (Joined-decided edges width nodes u v)

-- a path written out is its first number and a track, with its last number after
pub IsPath-track : (Edge : ℕ → ℕ → Type 0) (u v : ℕ) (path : List ℕ) → IsPath Edge u v path → (rest : List ℕ) × (path ≡ u ∷ (rest ++ v ∷ [])) × Track Edge u rest v
IsPath-track Edge u v [] p = absurd p.0
IsPath-track Edge u v (x ∷ []) p = absurd p.0
IsPath-track Edge u v (x ∷ y ∷ []) p =
    ([], let ex : x ≡ u = p.0.0 in let ey : y ≡ v = p.0.1 in cc, (subst (λ n. Edge n v) p.0.0 (subst (λ n. Edge x n) p.0.1 p.1.0), tt))
IsPath-track Edge u v (x ∷ y ∷ z ∷ more) p =
    let after = IsPath-track Edge y v (y ∷ z ∷ more) ((refl, p.0.1), p.1.1) in
    (y ∷ after.0, let ex : x ≡ u = p.0.0 in let eb : (y ∷ z ∷ more) ≡ y ∷ (after.0 ++ v ∷ []) = after.1 in cc, (subst (λ n. Edge n y) p.0.0 p.1.0, after.2))

-- a path has more numbers than there are on the way
size_above : (Edge : ℕ → ℕ → Type 0) (u v count : ℕ) (d : Decision (Reaches Edge u v)) → Reaches Edge u v → ((rest : List ℕ) → Track Edge u rest v → count ≤ length rest) → count < size_of d
unfolding size_of
size_above Edge u v count (inr none) p least = absurd (none p)
size_above Edge u v count (inl found) p least =
    let t = IsPath-track Edge u v found.0 found.1 in
    omega (arith, least t.0 t.2, ap length t.1, length-append t.0 (v ∷ []))

-- So the number of levels stays below the size of a path.
pub path_size-above : (edges : List ℕ) (width nodes u v count : ℕ) → Reaches (Joined edges width nodes) u v → NoShorter edges width nodes u v count → count < path_size edges width nodes u v
unfolding path_size
path_size-above edges width nodes u v count p none = size_above (Joined edges width nodes) u v count (Joined-decided edges width nodes u v) p none

-- what a search that found nothing says
pub none_from_match : (r : Option ℕ) (P : Type 0) (Q : ℕ → Type 0) → MatchOption r P Q → is_some r ≡ false → P
none_from_match None P Q h e = h
none_from_match (Some x) P Q h e = absurd (true≢false e)

pub some_from_match : (r : Option ℕ) (P : Type 0) (Q : ℕ → Type 0) → MatchOption r P Q → is_some r ≡ true → (x : ℕ) × Q x
some_from_match None P Q h e = absurd (false≢true e)
some_from_match (Some x) P Q h e = (x, h)
