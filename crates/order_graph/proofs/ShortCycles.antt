-- How a search by words shows that no short cycle over open numbers begins with the start.
use Rattle.std.proofs.Common.{◌≡◌, ◌⊎◌, ◌↔◌, inl, inr, ℕ, zero, suc, ◌+◌, ◌-◌, ◌*◌, ◌/◌, ◌<◌, ◌≤◌, List, [], ◌∷◌, ◌++◌, length, replicate, Option, Some, None, MatchOption, IsSomeAnd, refl, sym, ap, subst, ◌∙◌, arith}
use Rattle.std.proofs.lemmas.Bool.{cases_eq, cases_lt}
use Rattle.std.proofs.lemmas.List.{length-append, length-replicate}
use Rattle.order_paths.specs.Paths.{Reaches, IsCycle}
use Rattle.order_paths.proofs.Reach.{Reaches-edge, Reaches-prefix, Reaches-join}
use Rattle.bitsets.specs.Tables.{IsSet, Adds}
use Rattle.order_graph.specs.Internal.Tables.{Joined}
use Rattle.order_graph.specs.Internal.KeptPaths.{KeepsAllPaths}
use Rattle.order_graph.specs.Internal.Tracks.{Track, NoCycleBefore, IsLeastCycleBefore, IsOpen, OpenEdge, NoShorterOpen, IsClosedNumber, IsNext, IsUnseen}
use Rattle.bitsets.proofs.TableFacts.{IsSet-decided, column_within, Adds-kept, no_bit}
use Rattle.order_graph.proofs.SearchesFacts.{row_of_zeros}
use Rattle.order_graph.proofs.CyclesFacts.{IsCycle-track, before_more_longer}

-- a walk of this many edges leads from the start to y
abbrev pub Ends : (ℕ → ℕ → Type 0) → ℕ → ℕ → ℕ → Type 0
Ends Edge start zero y = y ≡ start
Ends Edge start (suc count) y = (x : ℕ) × Ends Edge start count x × Edge x y

-- a track continues from where a walk ends
Ends-track : (Edge : ℕ → ℕ → Type 0) (start count x v : ℕ) (rest : List ℕ) → Ends Edge start count x → Track Edge x rest v → Ends Edge start (suc (count + length rest)) v
Ends-track Edge start count x v [] ends t = subst (λ n. Ends Edge start (suc n) v) (let e : count ≡ count + 0 = omega arith in e) (x, ends, t.0)
Ends-track Edge start count x v (y ∷ rest) ends t =
    subst (λ n. Ends Edge start (suc n) v) (let e : suc count + length rest ≡ count + suc (length rest) = omega arith in e)
    (Ends-track Edge start (suc count) y v rest (x, ends, t.0) t.1)

-- so a track from the start to itself is a walk
Ends-cycle : (Edge : ℕ → ℕ → Type 0) (start : ℕ) (rest : List ℕ) → Track Edge start rest start → Ends Edge start (suc (length rest)) start
Ends-cycle Edge start rest t = subst (λ n. Ends Edge start (suc n) start) (let e : 0 + length rest ≡ length rest = omega arith in e) (Ends-track Edge start 0 start start rest refl t)

-- What the search knows after this many levels: the numbers that edges lead to from those before the last level are reached, and the start isn't.
pub record Closing (edges transposed levels reached seen : List ℕ) (width nodes start count : ℕ) : Type 0 where
  pub sized : length levels ≡ (count + 1) * width
  pub reached_sized : length reached ≡ width
  pub seen_sized : length seen ≡ width
  pub prefix : (x : ℕ) → x / 64 < width → IsSet levels width count x → x < nodes
  pub met : (k y : ℕ) → k < count → Ends (OpenEdge edges transposed width nodes start) start (suc k) y → IsSet reached width 0 y
  pub known : (y : ℕ) → y / 64 < width → IsSet seen width 0 y → start ≤ y → IsSet reached width 0 y
  pub closed : (x z : ℕ) → (x ≡ start) ⊎ IsSet reached width 0 x → (IsSet levels width count x → ⊥) → OpenEdge edges transposed width nodes start x z → IsSet reached width 0 z
  pub none : IsSet reached width 0 start → ⊥

pub Closing-start : (edges transposed zeros levels reached seen : List ℕ) (width nodes start : ℕ) → width ≡ (nodes + 63) / 64 → start < nodes →
    zeros ≡ replicate width 0 → reached ≡ replicate width 0 → length levels ≡ length zeros → length seen ≡ width →
    ((y : ℕ) → y / 64 < width → IsSet seen width 0 y ↔ (y < start)) →
    Adds zeros levels width (λ i j. (i ≡ 0) × (j ≡ start)) → Closing edges transposed levels reached seen width nodes start 0
Closing-start edges transposed zeros levels reached seen width nodes start fits h zeros_are reached_are levels_sized seen_sized passed adds = record {
  sized = omega (arith, levels_sized, ap length zeros_are, length-replicate {A = ℕ} width 0);
  reached_sized = ap length reached_are ∙ length-replicate {A = ℕ} width 0;
  seen_sized = seen_sized;
  prefix = λ x hx s. elim ((adds.bits 0 x hx).0 s) [ inl o ↦ absurd (no_bit width width 0 x (subst (λ l. IsSet l width 0 x) zeros_are o)) | inr g ↦ omega (arith, g.1) ];
  met = λ k y hk e. absurd (omega (arith, hk));
  known = λ y hy s le. absurd (omega (arith, (passed y hy).0 s));
  closed = λ x z met out e. elim met [
    | inl same ↦ absurd (out ((adds.bits 0 x (column_within x nodes width fits e.0.0)).1 (inr (refl, same))))
    | inr set ↦ absurd (none x set)
  ];
  none = none start;
}
  where
    none : (x : ℕ) → IsSet reached width 0 x → ⊥
    none x s = no_bit width width 0 x (subst (λ l. IsSet l width 0 x) reached_are s)

-- The next level: what edges lead to from the last one, of the numbers that lead to the start, and weren't seen.
pub Closing-step : (edges paths transposed levels more new reached wider seen new_seen : List ℕ) (width nodes start count first : ℕ) → KeepsAllPaths nodes width edges paths transposed → start < nodes → first ≡ start / 64 →
    Closing edges transposed levels reached seen width nodes start count →
    Adds reached wider width (λ r y. (r ≡ 0) × (first ≤ y / 64) × IsNext edges levels width count first y) → (IsSet wider width 0 start → ⊥) →
    more ≡ levels ++ replicate width 0 → length new ≡ length more → length wider ≡ length reached → length new_seen ≡ length seen →
    Adds more new width (λ i y. (i ≡ count + 1) × (first ≤ y / 64) × IsUnseen wider transposed seen width start y) →
    Adds seen new_seen width (λ i y. (i ≡ 0) × (first ≤ y / 64) × IsSet wider width 0 y × IsSet transposed width start y) →
    Closing edges transposed new wider new_seen width nodes start (count + 1)
Closing-step edges paths transposed levels more new reached wider seen new_seen width nodes start count first keeps hs first_is closing spreads unmet same sized wider_sized seen_sized fills sees = record {
  sized = omega (arith, sized, ap length same, length-append levels (replicate {A = ℕ} width 0), length-replicate {A = ℕ} width 0, closing.sized);
  reached_sized = wider_sized ∙ closing.reached_sized;
  seen_sized = seen_sized ∙ closing.seen_sized;
  prefix = λ x hx s. elim ((fills.bits (count + 1) x hx).0 s) [
    | inl o ↦ absurd (fresh_row x o)
    | inr g ↦ keeps.paths_transposed.transposed_within start x hs hx g.2.1
  ];
  met = λ k y hk ends. elim (cases_lt k count) [
    | inl before ↦ kept y (below ends.2) (closing.met k y before ends)
    | inr last ↦ onward ends.0 y (ended ends.0 k hk ends.1) ends.2
  ];
  known = λ y hy s le. elim ((sees.bits 0 y hy).0 s) [
    | inl o ↦ Adds-kept reached wider width _ spreads 0 y hy (closing.known y hy o le)
    | inr g ↦ g.2
  ];
  closed = λ x z met out e. onward x z (elim met [ inl start_is ↦ inl start_is | inr set ↦ inr (old_reached x set out e) ]) e;
  none = unmet;
}
  where
    Open : ℕ → ℕ → Type 0
    Open = OpenEdge edges transposed width nodes start

    column : (y : ℕ) → y < nodes → y / 64 < width
    column y h = column_within y nodes width keeps.fits h

    below : {x y : ℕ} → Open x y → y < nodes
    below e = e.0.1

    kept : (y : ℕ) → y < nodes → IsSet reached width 0 y → IsSet wider width 0 y
    kept y h s = Adds-kept reached wider width _ spreads 0 y (column y h) s

    -- what an edge leads to from a number reached before, or from the start, is reached now
    onward : (x z : ℕ) → (x ≡ start) ⊎ IsSet reached width 0 x → Open x z → IsSet wider width 0 z
    onward x z met e = elim (IsSet-decided levels width count x) [
      | inl on ↦ (spreads.bits 0 z (column z e.0.1)).1 (inr (refl, omega (arith, first_is, e.2.1), (x, omega (arith, first_is, e.1.1), column x e.0.0, on, e.0.2)))
      | inr out ↦ kept z e.0.1 (closing.closed x z met out e)
    ]

    -- where a walk of fewer edges ends was reached before
    ended : (x k : ℕ) → k < count + 1 → Ends Open start k x → (x ≡ start) ⊎ IsSet reached width 0 x
    ended x zero h ends = inl ends
    ended x (suc k) h ends = inr (closing.met k x (omega (arith, h)) ends)

    -- a number reached that isn't on the new level was reached before
    old_reached : (x : ℕ) {z : ℕ} → IsSet wider width 0 x → (IsSet new width (count + 1) x → ⊥) → Open x z → IsSet reached width 0 x
    old_reached x set out e = elim (IsSet-decided seen width 0 x) [
      | inl s ↦ closing.known x (column x e.0.0) s e.1.1
      | inr unseen ↦ absurd (out ((fills.bits (count + 1) x (column x e.0.0)).1 (inr (refl, omega (arith, first_is, e.1.1), (set, e.1.0, unseen)))))
    ]

    fresh_row : (y : ℕ) → IsSet more width (count + 1) y → ⊥
    fresh_row y s = row_of_zeros levels width width (count + 1) y closing.sized (subst (λ l. IsSet l width (count + 1) y) same s)

-- After as many levels as the limit, no cycle of fewer numbers was met.
pub Closing-limit : (edges transposed levels reached seen : List ℕ) (width nodes start count limit : ℕ) → Closing edges transposed levels reached seen width nodes start count → limit ≤ count →
    NoShorterOpen edges transposed width nodes start limit
Closing-limit edges transposed levels reached seen width nodes start count limit closing past rest t = elim (cases_lt (length rest) limit) [
  | inl less ↦ absurd (closing.none (closing.met (length rest) start (omega (arith, less, past)) (Ends-cycle (OpenEdge edges transposed width nodes start) start rest t)))
  | inr more ↦ more
]

-- Where the last level is empty, no cycle is left to be met.
pub Closing-empty : (edges transposed levels reached seen : List ℕ) (width nodes start count limit : ℕ) → Closing edges transposed levels reached seen width nodes start count →
    ((y : ℕ) → y < nodes → IsOpen transposed width start y → IsSet levels width count y → ⊥) → NoShorterOpen edges transposed width nodes start limit
Closing-empty edges transposed levels reached seen width nodes start count limit closing empty rest t =
    absurd (closing.none (all (length rest) start (Ends-cycle (OpenEdge edges transposed width nodes start) start rest t)))
  where
    all : (k y : ℕ) → Ends (OpenEdge edges transposed width nodes start) start (suc k) y → IsSet reached width 0 y
    all zero y ends = closing.closed ends.0 y (inl ends.1) (empty ends.0 ends.2.0.0 ends.2.1) ends.2
    all (suc k) y ends = closing.closed ends.0 y (inr (all k ends.0 ends.1)) (empty ends.0 ends.2.0.0 ends.2.1) ends.2

-- So where the next level has no number.
pub Closing-last : (edges paths transposed levels more new reached wider seen new_seen : List ℕ) (width nodes start count first limit : ℕ) → KeepsAllPaths nodes width edges paths transposed → start < nodes → first ≡ start / 64 →
    Closing edges transposed levels reached seen width nodes start count →
    Adds reached wider width (λ r y. (r ≡ 0) × (first ≤ y / 64) × IsNext edges levels width count first y) → (IsSet wider width 0 start → ⊥) →
    more ≡ levels ++ replicate width 0 → length new ≡ length more → length wider ≡ length reached → length new_seen ≡ length seen →
    Adds more new width (λ i y. (i ≡ count + 1) × (first ≤ y / 64) × IsUnseen wider transposed seen width start y) →
    Adds seen new_seen width (λ i y. (i ≡ 0) × (first ≤ y / 64) × IsSet wider width 0 y × IsSet transposed width start y) →
    ((y : ℕ) → y / 64 < width → first ≤ y / 64 → IsUnseen wider transposed seen width start y → ⊥) → NoShorterOpen edges transposed width nodes start limit
Closing-last edges paths transposed levels more new reached wider seen new_seen width nodes start count first limit keeps hs first_is closing spreads unmet same sized wider_sized seen_sized fills sees none =
    Closing-empty edges transposed new wider new_seen width nodes start (count + 1) limit
    (Closing-step edges paths transposed levels more new reached wider seen new_seen width nodes start count first keeps hs first_is closing spreads unmet same sized wider_sized seen_sized fills sees)
    (λ y h on s. elim ((fills.bits (count + 1) y (column_within y nodes width keeps.fits h)).0 s) [
      | inl o ↦ row_of_zeros levels width width (count + 1) y closing.sized (subst (λ l. IsSet l width (count + 1) y) same o)
      | inr g ↦ none y (column_within y nodes width keeps.fits h) g.1 g.2
    ])

-- tracks join at a number
Track-join : (Edge : ℕ → ℕ → Type 0) (x y v : ℕ) (before after : List ℕ) → Track Edge x before y → Track Edge y after v → Track Edge x (before ++ y ∷ after) v
Track-join Edge x y v [] after t s = (t.0, s)
Track-join Edge x y v (z ∷ before) after t s = (t.0, Track-join Edge z y v before after t.1 s)

-- a track is a path
Track-reach : (Edge : ℕ → ℕ → Type 0) (x v : ℕ) (rest : List ℕ) → Track Edge x rest v → Reaches Edge x v
Track-reach Edge x v [] t = Reaches-edge Edge x v t.0
Track-reach Edge x v (y ∷ rest) t = Reaches-prefix Edge x y v t.0 (Track-reach Edge y v rest t.1)

-- Where no cycle of as many numbers begins below the start, a cycle that begins with the start goes over open numbers: it could begin with each of them.
Track-open : (nodes width : ℕ) (edges paths transposed : List ℕ) (start : ℕ) (rest : List ℕ) → KeepsAllPaths nodes width edges paths transposed → start < nodes →
    ((y : ℕ) (other : List ℕ) → y < start → IsCycle (Joined edges width nodes) (y ∷ other) → length other ≡ length rest → ⊥) →
    Track (Joined edges width nodes) start rest start → Track (OpenEdge edges transposed width nodes start) start rest start
Track-open nodes width edges paths transposed start rest keeps hs none track = opens rest track refl
  where
    Edge : ℕ → ℕ → Type 0
    Edge = Joined edges width nodes

    Open : ℕ → ℕ → Type 0
    Open = OpenEdge edges transposed width nodes start

    at : IsOpen transposed width start start
    at = ((keeps.paths_transposed.same start start hs hs).1 ((keeps.tells start start hs hs).1 (Track-reach Edge start start rest track)), omega arith)

    -- a number that lies on such a cycle is open
    is_open : (y : ℕ) (before after : List ℕ) → y < nodes → Track Edge start before y → Track Edge y after start → suc (length before + length after) ≡ length rest → IsOpen transposed width start y
    is_open y before after hy t s sized = ((keeps.paths_transposed.same y start hy hs).1 ((keeps.tells y start hy hs).1 (Track-reach Edge y start after s)), not_below (cases_lt y start))
      where
        not_below : (y < start) ⊎ (start ≤ y) → start ≤ y
        not_below (inr le) = le
        not_below (inl lt) =
            absurd (none y (after ++ start ∷ before) lt ((IsCycle-track Edge y (after ++ start ∷ before)).1 (Track-join Edge y start y after before s t))
            (omega (arith, sized, length-append after (start ∷ before))))

    -- what follows on such a cycle goes over open numbers
    onward : (x : ℕ) (before after : List ℕ) → IsOpen transposed width start x → Track Edge start before x → Track Edge x after start → suc (length before + length after) ≡ length rest → Track Open x after start
    onward x before [] here t s sized = ((s.0, here, at), tt)
    onward x before (y ∷ after) here t s sized =
        let t' = Track-join Edge start x y before [] t (s.0, tt) in
        let sized' : suc (length (before ++ x ∷ []) + length after) ≡ length rest = omega (arith, sized, length-append before (x ∷ [])) in
        let here' = is_open y (before ++ x ∷ []) after s.0.1 t' s.1 sized' in
        ((s.0, here, here'), onward y (before ++ x ∷ []) after here' t' s.1 sized')

    opens : (r : List ℕ) → Track Edge start r start → length r ≡ length rest → Track Open start r start
    opens [] t sized = ((t.0, at, at), tt)
    opens (y ∷ r) t sized = ((t.0, at, here), onward y [] r here (t.0, tt) t.1 (omega (arith, sized)))
      where
        here : IsOpen transposed width start y
        here = is_open y [] r t.0.1 (t.0, tt) t.1 (omega (arith, sized))

-- Where there is a best cycle before the start, a shorter one that begins with the start goes over open numbers.
shorter_open : (nodes width : ℕ) (edges paths transposed : List ℕ) (start : ℕ) (best : List ℕ) → KeepsAllPaths nodes width edges paths transposed → start < nodes →
    IsLeastCycleBefore (Joined edges width nodes) start best → (rest : List ℕ) → length rest < length best - 1 →
    Track (Joined edges width nodes) start rest start → Track (OpenEdge edges transposed width nodes start) start rest start
shorter_open nodes width edges paths transposed start [] keeps hs least rest less t = absurd least
shorter_open nodes width edges paths transposed start (b ∷ bs) keeps hs least rest less t =
    Track-open nodes width edges paths transposed start rest keeps hs
    (λ y other lt c same. elim (least.2 y other lt c) [ inl fewer ↦ absurd (omega (arith, fewer, less, same)) | inr equal ↦ absurd (omega (arith, equal.0, less, same)) ]) t

pub NoShorter-open : (nodes width : ℕ) (edges paths transposed : List ℕ) (start : ℕ) (best : List ℕ) → KeepsAllPaths nodes width edges paths transposed → start < nodes →
    IsLeastCycleBefore (Joined edges width nodes) start best → NoShorterOpen edges transposed width nodes start (length best - 1) →
    (rest : List ℕ) → Track (Joined edges width nodes) start rest start → length best - 1 ≤ length rest
NoShorter-open nodes width edges paths transposed start best keeps hs least none rest t = elim (cases_lt (length rest) (length best - 1)) [
  | inl less ↦ none rest (shorter_open nodes width edges paths transposed start best keeps hs least rest less t)
  | inr more ↦ more
]

-- a cycle over open numbers ends with an edge to the start from a number that isn't below it
open_closes : (nodes width : ℕ) (edges paths transposed : List ℕ) (start : ℕ) (rest : List ℕ) → KeepsAllPaths nodes width edges paths transposed → start < nodes →
    Track (OpenEdge edges transposed width nodes start) start rest start → IsClosedNumber edges transposed width nodes start
open_closes nodes width edges paths transposed start rest keeps hs t = at (length rest) (Ends-cycle Open start rest t)
  where
    Edge : ℕ → ℕ → Type 0
    Edge = Joined edges width nodes

    Open : ℕ → ℕ → Type 0
    Open = OpenEdge edges transposed width nodes start

    reaches : (k x : ℕ) → Ends Open start (suc k) x → Reaches Edge start x
    reaches zero x ends = Reaches-edge Edge start x (subst (λ n. Edge n x) ends.1 ends.2.0)
    reaches (suc k) x ends = Reaches-join Edge start ends.0 x (reaches k ends.0 ends.1) (Reaches-edge Edge ends.0 x ends.2.0)

    from : (k x : ℕ) → Ends Open start k x → Edge x start → Reaches Edge start x
    from zero x ends e = subst (λ n. Reaches Edge start n) (sym ends) (Reaches-edge Edge start start (subst (λ n. Edge n start) ends e))
    from (suc k) x ends e = reaches k x ends

    at : (k : ℕ) → Ends Open start (suc k) start → IsClosedNumber edges transposed width nodes start
    at k ends =
        let x : ℕ = ends.0 in
        let e = ends.2 in
        (x, e.0.0, e.0.2, (keeps.paths_transposed.same start x hs e.0.0).1 ((keeps.tells start x hs e.0.0).1 (from k x ends.1 e.0)), e.1.1)

-- A number that is closed is on a cycle.
pub IsClosedNumber-reach : (nodes width : ℕ) (edges paths transposed : List ℕ) (y : ℕ) → KeepsAllPaths nodes width edges paths transposed → y < nodes → IsClosedNumber edges transposed width nodes y → Reaches (Joined edges width nodes) y y
IsClosedNumber-reach nodes width edges paths transposed y keeps hy closed =
    let x : ℕ = closed.0 in
    Reaches-join (Joined edges width nodes) y x y ((keeps.tells y x hy closed.1).0 ((keeps.paths_transposed.same y x hy closed.1).0 closed.3))
    (Reaches-edge (Joined edges width nodes) x y (closed.1, hy, closed.2))

-- and so is the number from which the edge leads to it
pub IsClosedNumber-from : (nodes width : ℕ) (edges paths transposed : List ℕ) (x y : ℕ) → KeepsAllPaths nodes width edges paths transposed → x < nodes → y < nodes → IsSet edges width x y → IsSet transposed width x y → IsSet paths width x x
IsClosedNumber-from nodes width edges paths transposed x y keeps hx hy e t =
    (keeps.tells x x hx hx).1 (Reaches-prefix (Joined edges width nodes) x y x (hx, hy, e) ((keeps.tells y x hy hx).0 ((keeps.paths_transposed.same y x hy hx).0 t)))

-- Some best cycle or none, at the next start: the start isn't closed.
pub next_unclosed : {V : Type 0} (items : V → List ℕ) (nodes width : ℕ) (edges paths transposed : List ℕ) (start : ℕ) (best : Option V) → KeepsAllPaths nodes width edges paths transposed → start < nodes →
    (IsClosedNumber edges transposed width nodes start → ⊥) →
    MatchOption best (NoCycleBefore (Joined edges width nodes) start) (λ cycle. IsLeastCycleBefore (Joined edges width nodes) start (items cycle)) →
    MatchOption best (NoCycleBefore (Joined edges width nodes) (start + 1)) (λ cycle. IsLeastCycleBefore (Joined edges width nodes) (start + 1) (items cycle))
next_unclosed items nodes width edges paths transposed start None keeps hs unclosed before = λ x rest h c. elim (cases_eq x start) [
  | inl e ↦ unclosed (open_closes nodes width edges paths transposed start rest keeps hs
      (Track-open nodes width edges paths transposed start rest keeps hs (λ y other lt cycle same. before y other lt cycle)
      ((IsCycle-track (Joined edges width nodes) start rest).0 (subst (λ n. IsCycle (Joined edges width nodes) (n ∷ rest)) e c))))
  | inr ne ↦ before x rest (omega arith) c
]
next_unclosed items nodes width edges paths transposed start (Some cycle) keeps hs unclosed before =
    before_more_longer (Joined edges width nodes) start (items cycle) before
    (λ rest t. elim (cases_lt (length rest) (length (items cycle) - 1)) [
      | inl less ↦ absurd (unclosed (open_closes nodes width edges paths transposed start rest keeps hs (shorter_open nodes width edges paths transposed start (items cycle) keeps hs before rest less t)))
      | inr more ↦ more
    ])

-- Some best cycle or none, at the next start: a search over open numbers found no cycle within the limit.
pub next_closed : {V : Type 0} (items : V → List ℕ) (nodes width : ℕ) (edges paths transposed : List ℕ) (start : ℕ) (best : Option V) (limit : Option ℕ) → KeepsAllPaths nodes width edges paths transposed → start < nodes →
    MatchOption best (limit ≡ None) (λ cycle. limit ≡ Some (length (items cycle) - 1)) → IsSomeAnd limit (NoShorterOpen edges transposed width nodes start) →
    MatchOption best (NoCycleBefore (Joined edges width nodes) start) (λ cycle. IsLeastCycleBefore (Joined edges width nodes) start (items cycle)) →
    MatchOption best (NoCycleBefore (Joined edges width nodes) (start + 1)) (λ cycle. IsLeastCycleBefore (Joined edges width nodes) (start + 1) (items cycle))
next_closed items nodes width edges paths transposed start None limit keeps hs is none before = absurd (subst (λ o. IsSomeAnd o (NoShorterOpen edges transposed width nodes start)) is none)
next_closed items nodes width edges paths transposed start (Some cycle) limit keeps hs is none before =
    before_more_longer (Joined edges width nodes) start (items cycle) before
    (NoShorter-open nodes width edges paths transposed start (items cycle) keeps hs before (subst (λ o. IsSomeAnd o (NoShorterOpen edges transposed width nodes start)) is none))
