-- The least path and the least cycle from the least way between two numbers.
use Rattle.std.proofs.Common.{◌≡◌, ◌↔◌, inl, inr, ℕ, ◌+◌, ◌-◌, ◌/◌, ◌<◌, ◌≤◌, IsTrue, List, [], ◌∷◌, ◌++◌, length, Option, Some, None, is_some, MatchOption, IsSomeAnd, IfSome, refl, sym, subst, arith}
use Rattle.std.proofs.lemmas.Bool.{cases_order, cases_eq, false≢true}
use Rattle.std.proofs.lemmas.List.{length-append}
use Rattle.order_paths.specs.Paths.{Linked, last_of, HasEnds, IsPath, Reaches, IsCycle, HasCycle, IsAtMost, IsNoGreater, IsLeastPath, IsLeastCycle}
use Rattle.order_paths.proofs.Reach.{IsPath-mono, IsCycle-mono, IsCycle-Reaches}
use Rattle.order_graph.specs.Digraphs.{Digraph, IsEdge}
use Rattle.bitsets.specs.Tables.{IsSet, NoneShared, IsFirstShared}
use Rattle.order_graph.specs.Internal.Tracks.{Track, IsLeastTrack, NoCycleBefore, IsLeastCycleBefore}
use Rattle.bitsets.proofs.TableFacts.{column_within}
use Rattle.order_graph.proofs.KeptTablesFacts.{Sees, sees_edge}
use Rattle.order_graph.proofs.SearchesFacts.{IsPath-track}

-- linked numbers and an edge from their last are a track, and the other way round
Track-from_linked : (Edge : ℕ → ℕ → Type 0) (x v : ℕ) (rest : List ℕ) → Linked Edge (x ∷ rest) → Edge (last_of x rest) v → Track Edge x rest v
Track-from_linked Edge x v [] l e = (e, tt)
Track-from_linked Edge x v (y ∷ rest) l e = (l.0, Track-from_linked Edge y v rest l.1 e)

Track-linked : (Edge : ℕ → ℕ → Type 0) (x v : ℕ) (rest : List ℕ) → Track Edge x rest v → Linked Edge (x ∷ rest) × Edge (last_of x rest) v
Track-linked Edge x v [] t = (tt, t.0)
Track-linked Edge x v (y ∷ rest) t = let b = Track-linked Edge y v rest t.1 in ((t.0, b.0), b.1)

pub IsCycle-track : (Edge : ℕ → ℕ → Type 0) (x : ℕ) (rest : List ℕ) → IsCycle Edge (x ∷ rest) ↔ Track Edge x rest x
IsCycle-track Edge x rest = (λ c. Track-from_linked Edge x x rest c.0 c.1, λ t. Track-linked Edge x x rest t)

-- a track with its ends is a path
Track-path : (Edge : ℕ → ℕ → Type 0) (x v : ℕ) (rest : List ℕ) → Track Edge x rest v → IsPath Edge x v (x ∷ (rest ++ v ∷ []))
Track-path Edge x v rest t = (ends rest, t)
  where
    last_is : (y : ℕ) (r : List ℕ) → last_of y (r ++ v ∷ []) ≡ v
    last_is y [] = refl
    last_is y (z ∷ zs) = last_is z zs

    ends : (r : List ℕ) → HasEnds (x ∷ (r ++ v ∷ [])) x v
    ends [] = (refl, refl)
    ends (y ∷ r) = (refl, last_is y r)

-- lists stay in their order with one number after both
IsNoGreater-push : (xs ys : List ℕ) (u v : ℕ) → IsNoGreater xs ys → IsNoGreater (u ∷ (xs ++ v ∷ [])) (u ∷ (ys ++ v ∷ []))
IsNoGreater-push xs ys u v (inl fewer) = inl (omega (arith, length-append xs (v ∷ []), length-append ys (v ∷ [])))
IsNoGreater-push xs ys u v (inr same) =
    inr (let e : length (u ∷ (xs ++ v ∷ [])) ≡ length (u ∷ (ys ++ v ∷ [])) = omega (arith, same.0, length-append xs (v ∷ []), length-append ys (v ∷ [])) in e, inr (refl, at_most xs ys same.0 same.1))
  where
    at_most : (az bz : List ℕ) → length az ≡ length bz → IsAtMost az bz → IsAtMost (az ++ v ∷ []) (bz ++ v ∷ [])
    at_most [] [] e h = inr (refl, tt)
    at_most [] (b ∷ bz) e h = absurd (omega arith)
    at_most (a ∷ az) [] e h = absurd h
    at_most (a ∷ az) (b ∷ bz) e (inl less) = inl less
    at_most (a ∷ az) (b ∷ bz) e (inr h) = inr (h.0, at_most az bz (omega arith) h.1)

-- The least track with its end after it is the least path.
pub IsLeastPath-track : (Edge Other : ℕ → ℕ → Type 0) (u v : ℕ) (list path : List ℕ) → ((x y : ℕ) → Other x y ↔ Edge x y) → IsLeastTrack Edge u v list → path ≡ list ++ v ∷ [] → IsLeastPath Other u v path
IsLeastPath-track Edge Other u v [] path same least e = absurd least
IsLeastPath-track Edge Other u v (x ∷ rest) path same least e =
    let whole : path ≡ u ∷ (rest ++ v ∷ []) = (let ex : x ≡ u = least.0 in cc) in
    subst (λ l. IsLeastPath Other u v l) (sym whole)
    (IsPath-mono Edge Other (λ a b. (same a b).1) u v (u ∷ (rest ++ v ∷ [])) (Track-path Edge u v rest least.1), no_greater)
  where
    no_greater : (other : List ℕ) → IsPath Other u v other → IsNoGreater (u ∷ (rest ++ v ∷ [])) other
    no_greater other p =
        let t = IsPath-track Edge u v other (IsPath-mono Other Edge (λ a b. (same a b).0) u v other p) in
        subst (λ l. IsNoGreater (u ∷ (rest ++ v ∷ [])) l) (sym t.1) (IsNoGreater-push rest t.0 u v (least.2 t.0 t.2))

-- a row shares its first column with itself where an edge leads from its number
pub row_edge : (g : Digraph) (nodes width : ℕ) (edges : List ℕ) (u : ℕ) (found : Option ℕ) → Sees g nodes width edges → width ≡ (nodes + 63) / 64 →
    ((x y : ℕ) → x < nodes → y / 64 < width → IsSet edges width x y → y < nodes) → u < nodes →
    MatchOption found (NoneShared edges u edges u width) (IsFirstShared edges u edges u width) → IsTrue (is_some found) ↔ ((v : ℕ) × IsEdge g u v)
row_edge g nodes width edges u None sees fits within hu none = (
  λ t. absurd (false≢true t),
  λ e. let p = (sees_edge g nodes width edges sees u e.0).0 e.1 in absurd (none e.0 (column_within e.0 nodes width fits p.1) p.2 p.2),
)
row_edge g nodes width edges u (Some v) sees fits within hu first =
    (λ t. (v, (sees_edge g nodes width edges sees u v).1 (hu, within u v hu first.column first.first, first.first)), λ e. refl)

-- a least path over the same edges in another form
pub IsLeastPath-same : (Edge Other : ℕ → ℕ → Type 0) (u v : ℕ) (path : List ℕ) → ((x y : ℕ) → Other x y ↔ Edge x y) → IsLeastPath Edge u v path → IsLeastPath Other u v path
IsLeastPath-same Edge Other u v path same least =
    (IsPath-mono Edge Other (λ a b. (same a b).1) u v path least.0, λ other p. least.1 other (IsPath-mono Other Edge (λ a b. (same a b).0) u v other p))

-- with a number prepended, lists stay in their order
IsNoGreater-prefix : (x : ℕ) (xs ys : List ℕ) → IsNoGreater xs ys → IsNoGreater (x ∷ xs) (x ∷ ys)
IsNoGreater-prefix x xs ys (inl fewer) = inl (omega arith)
IsNoGreater-prefix x xs ys (inr same) = inr (let e : length (x ∷ xs) ≡ length (x ∷ ys) = omega (arith, same.0) in e, inr (refl, same.1))

-- Where no cycle begins with the start, the cycles up to it are those before it.
pub before_more_none : (Edge : ℕ → ℕ → Type 0) (start : ℕ) → (Reaches Edge start start → ⊥) → NoCycleBefore Edge start → NoCycleBefore Edge (start + 1)
before_more_none Edge start none before x rest h c = elim (cases_eq x start) [
  | inl e ↦ none (subst (λ n. Reaches Edge n n) e (IsCycle-Reaches Edge x rest c))
  | inr ne ↦ before x rest (omega arith) c
]

pub before_more_same : (Edge : ℕ → ℕ → Type 0) (start : ℕ) (best : List ℕ) → (Reaches Edge start start → ⊥) → IsLeastCycleBefore Edge start best → IsLeastCycleBefore Edge (start + 1) best
before_more_same Edge start [] none least = absurd least
before_more_same Edge start (x ∷ rest) none least = (
  omega (arith, least.0),
  least.1,
  λ y other h c. elim (cases_eq y start) [
    | inl e ↦ absurd (none (subst (λ n. Reaches Edge n n) e (IsCycle-Reaches Edge y other c)))
    | inr ne ↦ least.2 y other (omega arith) c
  ],
)

-- Where the cycles that begin with the start are no shorter than the best, it stays the best.
pub before_more_longer : (Edge : ℕ → ℕ → Type 0) (start : ℕ) (best : List ℕ) → IsLeastCycleBefore Edge start best → ((rest : List ℕ) → Track Edge start rest start → length best - 1 ≤ length rest) →
    IsLeastCycleBefore Edge (start + 1) best
before_more_longer Edge start [] least longer = absurd least
before_more_longer Edge start (x ∷ rest) least longer = (
  omega (arith, least.0),
  least.1,
  λ y other h c. elim (cases_eq y start) [
    | inl e ↦ at_start y other e c
    | inr ne ↦ least.2 y other (omega arith) c
  ],
)
  where
    at_start : (y : ℕ) (other : List ℕ) → y ≡ start → IsCycle Edge (y ∷ other) → IsNoGreater (x ∷ rest) (y ∷ other)
    at_start y other e c =
        let l = longer other ((IsCycle-track Edge start other).0 (subst (λ n. IsCycle Edge (n ∷ other)) e c)) in
        elim (cases_order (length rest) (length other)) [
          | inl same ↦ inr (let s : length (x ∷ rest) ≡ length (y ∷ other) = omega arith in s, inl (omega (arith, least.0)))
          | inr (inl less) ↦ inl (omega arith)
          | inr (inr more) ↦ absurd (omega arith)
        ]

-- The least cycle that begins with the start, where none begins before it, or those that do have more numbers.
pub before_more_found : (Edge : ℕ → ℕ → Type 0) (start : ℕ) (list : List ℕ) → IsLeastTrack Edge start start list →
    ((y : ℕ) (other : List ℕ) → y < start → IsCycle Edge (y ∷ other) → length list < length (y ∷ other)) → IsLeastCycleBefore Edge (start + 1) list
before_more_found Edge start [] least longer = absurd least
before_more_found Edge start (x ∷ rest) least longer = (
  omega (arith, least.0),
  subst (λ n. IsCycle Edge (n ∷ rest)) (sym least.0) ((IsCycle-track Edge start rest).1 least.1),
  λ y other h c. elim (cases_eq y start) [
    | inl e ↦ at_start y other e c
    | inr ne ↦ inl (longer y other (omega arith) c)
  ],
)
  where
    at_start : (y : ℕ) (other : List ℕ) → y ≡ start → IsCycle Edge (y ∷ other) → IsNoGreater (x ∷ rest) (y ∷ other)
    at_start y other e c =
        subst (λ n. IsNoGreater (x ∷ rest) (n ∷ other)) (sym e) (subst (λ n. IsNoGreater (n ∷ rest) (start ∷ other)) (sym least.0)
        (IsNoGreater-prefix start rest other (least.2 other ((IsCycle-track Edge start other).0 (subst (λ n. IsCycle Edge (n ∷ other)) e c)))))

-- the least cycle before a start is shorter than no other, so a list within its limit is shorter than all
pub longer_than_limit : (Edge : ℕ → ℕ → Type 0) (start size : ℕ) (best : List ℕ) → IsLeastCycleBefore Edge start best → size ≤ length best - 1 →
    (y : ℕ) (other : List ℕ) → y < start → IsCycle Edge (y ∷ other) → size < length (y ∷ other)
longer_than_limit Edge start size [] least h = absurd least
longer_than_limit Edge start size (x ∷ rest) least h = λ y other l c. elim (least.2 y other l c) [
  | inl fewer ↦ omega arith
  | inr same ↦ omega (arith, same.0)
]

-- Where all edges begin below the number of nodes, the least cycle before it is the least of all.
pub IsLeastCycle-before : (Edge Other : ℕ → ℕ → Type 0) (nodes : ℕ) (best : List ℕ) → ((x y : ℕ) → Other x y ↔ Edge x y) → ((x y : ℕ) → Edge x y → y < nodes) → IsLeastCycleBefore Edge nodes best → IsLeastCycle Other best
IsLeastCycle-before Edge Other nodes [] same below least = absurd least
IsLeastCycle-before Edge Other nodes (x ∷ rest) same below least = (IsCycle-mono Edge Other (λ a b. (same a b).1) (x ∷ rest) least.1, no_greater)
  where
    no_greater : (other : List ℕ) → IsCycle Other other → IsNoGreater (x ∷ rest) other
    no_greater [] c = absurd c
    no_greater (y ∷ other) c =
        let e = IsCycle-mono Other Edge (λ a b. (same a b).0) (y ∷ other) c in
        least.2 y other (below (last_of y other) y e.1) e

pub no_cycle_before : (Edge Other : ℕ → ℕ → Type 0) (nodes : ℕ) → ((x y : ℕ) → Other x y ↔ Edge x y) → ((x y : ℕ) → Edge x y → y < nodes) → NoCycleBefore Edge nodes → HasCycle Other → ⊥
no_cycle_before Edge Other nodes same below none found = at found.0 found.1
  where
    at : (cycle : List ℕ) → IsCycle Other cycle → ⊥
    at [] c = c
    at (y ∷ other) c =
        let e = IsCycle-mono Other Edge (λ a b. (same a b).0) (y ∷ other) c in
        none y other (below (last_of y other) y e.1) e

-- Some best cycle or none, at the next start: the start is on no cycle.
pub next_without : {V : Type 0} (items : V → List ℕ) (Edge : ℕ → ℕ → Type 0) (start : ℕ) (best : Option V) → (Reaches Edge start start → ⊥) →
    MatchOption best (NoCycleBefore Edge start) (λ cycle. IsLeastCycleBefore Edge start (items cycle)) →
    MatchOption best (NoCycleBefore Edge (start + 1)) (λ cycle. IsLeastCycleBefore Edge (start + 1) (items cycle))
next_without items Edge start None none before = before_more_none Edge start none before
next_without items Edge start (Some cycle) none before = before_more_same Edge start (items cycle) none before

-- Likewise: no cycle that begins with the start is within the limit.
pub next_longer : {V : Type 0} (items : V → List ℕ) (Edge : ℕ → ℕ → Type 0) (start : ℕ) (best : Option V) (limit : Option ℕ) →
    MatchOption best (limit ≡ None) (λ cycle. limit ≡ Some (length (items cycle) - 1)) →
    IsSomeAnd limit (λ count. (rest : List ℕ) → Track Edge start rest start → count ≤ length rest) →
    MatchOption best (NoCycleBefore Edge start) (λ cycle. IsLeastCycleBefore Edge start (items cycle)) →
    MatchOption best (NoCycleBefore Edge (start + 1)) (λ cycle. IsLeastCycleBefore Edge (start + 1) (items cycle))
next_longer items Edge start None limit is longer before =
    absurd (subst (λ o. IsSomeAnd o (λ count. (rest : List ℕ) → Track Edge start rest start → count ≤ length rest)) is longer)
next_longer items Edge start (Some cycle) limit is longer before =
    before_more_longer Edge start (items cycle) before (subst (λ o. IsSomeAnd o (λ count. (rest : List ℕ) → Track Edge start rest start → count ≤ length rest)) is longer)

-- Likewise: the least cycle that begins with the start is within the limit.
pub next_found : {V : Type 0} (items : V → List ℕ) (Edge : ℕ → ℕ → Type 0) (start : ℕ) (best : Option V) (limit : Option ℕ) (list : List ℕ) →
    MatchOption best (limit ≡ None) (λ cycle. limit ≡ Some (length (items cycle) - 1)) →
    IsLeastTrack Edge start start list → IfSome limit (λ most. length list ≤ most) →
    MatchOption best (NoCycleBefore Edge start) (λ cycle. IsLeastCycleBefore Edge start (items cycle)) → IsLeastCycleBefore Edge (start + 1) list
next_found items Edge start None limit list is least within before = before_more_found Edge start list least (λ y other h c. absurd (before y other h c))
next_found items Edge start (Some cycle) limit list is least within before =
    before_more_found Edge start list least (longer_than_limit Edge start (length list) (items cycle) before (subst (λ o. IfSome o (λ most. length list ≤ most)) is within))

-- After the last start the best cycle is the least, and none means that there is none.
pub last_start : {V : Type 0} (items : V → List ℕ) (Edge Other : ℕ → ℕ → Type 0) (nodes start : ℕ) (best : Option V) → ((x y : ℕ) → Other x y ↔ Edge x y) → ((x y : ℕ) → Edge x y → y < nodes) → start ≡ nodes →
    MatchOption best (NoCycleBefore Edge start) (λ cycle. IsLeastCycleBefore Edge start (items cycle)) → MatchOption best (HasCycle Other → ⊥) (λ cycle. IsLeastCycle Other (items cycle))
last_start items Edge Other nodes start None same below end before =
    no_cycle_before Edge Other nodes same below (subst (λ n. NoCycleBefore Edge n) end before)
last_start items Edge Other nodes start (Some cycle) same below end before =
    IsLeastCycle-before Edge Other nodes (items cycle) same below (subst (λ n. IsLeastCycleBefore Edge n (items cycle)) end before)
