-- Tables of some paths that gain paths: by edges to numbers that are done, and by edges that are no paths yet.
use Rattle.std.proofs.Common.{◌≡◌, ◌⊎◌, ◌↔◌, inl, inr, ℕ, ◌+◌, ◌*◌, ◌/◌, ◌%◌, ◌^◌, ◌<◌, List, length, get_or, replicate, sym, ap, subst, ◌∙◌, arith}
use Rattle.std.specs.Int.{bit_not, trailing_zeros, w64}
use Rattle.std.specs.Prelude.{bit_and}
use Rattle.std.proofs.lemmas.List.{length-replicate}
use Rattle.order_paths.specs.Paths.{Reaches}
use Rattle.order_paths.proofs.Reach.{Reaches-edge, Reaches-join, Reaches-into, Reaches-below}
use Rattle.bitsets.specs.Rows.{HasBit}
use Rattle.bitsets.specs.Tables.{IsSet, Adds}
use Rattle.order_graph.specs.Internal.Tables.{IsSelfOrSet, AreTransposed, Joined, IsTable}
use Rattle.order_graph.specs.Internal.KeptPaths.{KeepsAllPaths, KeepsSomePaths, KeepsPathsToDone}
use Rattle.bitsets.proofs.WordFacts.{HasBit-zero, HasBit-and, HasBit-not, HasBit-lowest, without_less}
use Rattle.bitsets.proofs.TableFacts.{IsSet-decided, IsSet-at, Adds-kept, column_within, no_bit}

-- some paths of which each edge is one: all paths
pub KeepsAllPaths-all : (nodes width : ℕ) (edges paths transposed : List ℕ) → IsTable nodes width edges → KeepsSomePaths nodes width edges paths → AreTransposed paths transposed width nodes →
    ((x y : ℕ) → x < nodes → y / 64 < width → IsSet edges width x y → IsSet paths width x y) → KeepsAllPaths nodes width edges paths transposed
KeepsAllPaths-all nodes width edges paths transposed keeps some are all = record {
  small = keeps.small;
  fits = keeps.fits;
  edges_sized = keeps.sized;
  edges_within = keeps.within;
  paths_transposed = are;
  tells = λ x y hx hy. (
    some.sound x y hx (column_within y nodes width keeps.fits hy),
    λ r. (Reaches-into (Joined edges width nodes) (Joined paths width nodes) join each x y r).2,
  );
}
  where
    join : (x y z : ℕ) → Joined paths width nodes x y → Joined paths width nodes y z → Joined paths width nodes x z
    join x y z p q = (p.0, q.1, some.transitive.joins x y z p.0 p.1 q.1 p.2 q.2)

    each : (x y : ℕ) → Joined edges width nodes x y → Joined paths width nodes x y
    each x y e = (e.0, e.1, all x y e.0 (column_within y nodes width keeps.fits e.1) e.2)

-- the paths lead to numbers below `nodes`
pub KeepsSomePaths-table : (nodes width : ℕ) (edges paths : List ℕ) → IsTable nodes width edges → KeepsSomePaths nodes width edges paths → IsTable nodes width paths
KeepsSomePaths-table nodes width edges paths keeps some = record {
  small = keeps.small;
  fits = keeps.fits;
  sized = some.sized;
  within = λ x y hx hy s. (Reaches-below (Joined edges width nodes) nodes (λ a b e. (e.0, e.1)) x y (some.sound x y hx hy s)).1;
}

-- a table of zeros has no paths
pub KeepsPathsToDone-empty : (nodes width : ℕ) (edges paths done : List ℕ) → paths ≡ replicate (nodes * width) 0 → KeepsPathsToDone nodes width edges paths done
KeepsPathsToDone-empty nodes width edges paths done same = record {
  some = record {
    sized = ap length same ∙ length-replicate {A = ℕ} (nodes * width) 0;
    sound = λ x y hx hy s. absurd (none x y s);
    transitive = record { joins = λ x y z hx hy hz p q. absurd (none x y p) };
  };
  ends = λ x y hx hy s. absurd (none x y s);
}
  where
    none : (x y : ℕ) → IsSet paths width x y → ⊥
    none x y s = no_bit (nodes * width) width x y (subst (λ l. IsSet l width x y) same s)

-- one number more may be done
pub KeepsPathsToDone-more : (nodes width : ℕ) (edges paths done more : List ℕ) (x : ℕ) → KeepsPathsToDone nodes width edges paths done →
    Adds done more width (λ i y. (i ≡ 0) × (y ≡ x)) → KeepsPathsToDone nodes width edges paths more
KeepsPathsToDone-more nodes width edges paths done more x keeps adds = record {
  some = keeps.some;
  ends = λ a b ha hb s. Adds-kept done more width _ adds 0 b hb (keeps.ends a b ha hb s);
}

-- Row x, not done yet, gains a number that is done and that an edge leads to from x, and what that leads to. No path leads to x by then.
pub KeepsPathsToDone-take : (nodes width : ℕ) (edges paths wider done : List ℕ) (x v : ℕ) → width ≡ (nodes + 63) / 64 → KeepsPathsToDone nodes width edges paths done →
    (IsSet done width 0 x → ⊥) → x < nodes → v < nodes → IsSet edges width x v → IsSet done width 0 v → length wider ≡ length paths →
    Adds paths wider width (λ i y. (i ≡ x) × IsSelfOrSet paths width v y) → KeepsPathsToDone nodes width edges wider done
KeepsPathsToDone-take nodes width edges paths wider done x v fits keeps not_done hx hv e done_v sized adds = record {
  some = record {
    sized = sized ∙ keeps.some.sized;
    sound = λ a b ha hb s. elim ((adds.bits a b hb).0 s) [
      | inl o ↦ keeps.some.sound a b ha hb o
      | inr g ↦ subst (λ n. Reaches (Joined edges width nodes) n b) (sym g.0) (from_x b hb g.1)
    ];
    transitive = record { joins = joins };
  };
  ends = ends;
}
  where
    edge : Reaches (Joined edges width nodes) x v
    edge = Reaches-edge (Joined edges width nodes) x v (hx, hv, e)

    from_x : (b : ℕ) → b / 64 < width → IsSelfOrSet paths width v b → Reaches (Joined edges width nodes) x b
    from_x b hb (inl same) = subst (λ n. Reaches (Joined edges width nodes) x n) (sym same) edge
    from_x b hb (inr set) = Reaches-join (Joined edges width nodes) x v b edge (keeps.some.sound v b hv hb set)

    ends : (a b : ℕ) → a < nodes → b / 64 < width → IsSet wider width a b → IsSet done width 0 b
    ends a b ha hb s = elim ((adds.bits a b hb).0 s) [
      | inl o ↦ keeps.ends a b ha hb o
      | inr g ↦ elim g.1 [ inl same ↦ subst (λ n. IsSet done width 0 n) (sym same) done_v | inr set ↦ keeps.ends v b hv hb set ]
    ]

    -- the row of a number done is as it was
    row_of_done : (b c : ℕ) → c / 64 < width → IsSet done width 0 b → IsSet wider width b c → IsSet paths width b c
    row_of_done b c hc d s = elim ((adds.bits b c hc).0 s) [ inl o ↦ o | inr g ↦ absurd (not_done (subst (λ n. IsSet done width 0 n) g.0 d)) ]

    onward : (b c : ℕ) → b < nodes → c < nodes → IsSelfOrSet paths width v b → IsSet paths width b c → IsSet paths width v c
    onward b c hb hc (inl same) s = subst (λ n. IsSet paths width n c) same s
    onward b c hb hc (inr set) s = keeps.some.transitive.joins v b c hv hb hc set s

    joins : (a b c : ℕ) → a < nodes → b < nodes → c < nodes → IsSet wider width a b → IsSet wider width b c → IsSet wider width a c
    joins a b c ha hb hc p q =
        let col_b = column_within b nodes width fits hb in
        let col_c = column_within c nodes width fits hc in
        let q' = row_of_done b c col_c (ends a b ha col_b p) q in
        elim ((adds.bits a b col_b).0 p) [
          | inl o ↦ (adds.bits a c col_c).1 (inl (keeps.some.transitive.joins a b c ha hb hc o q'))
          | inr g ↦ (adds.bits a c col_c).1 (inr (g.0, inr (onward b c hb hc g.1 q')))
        ]

-- The sources of u gain v and what v leads to, where an edge leads from u to v.
pub KeepsSomePaths-join : (nodes width : ℕ) (edges paths wider : List ℕ) (u v : ℕ) → width ≡ (nodes + 63) / 64 → KeepsSomePaths nodes width edges paths →
    u < nodes → v < nodes → IsSet edges width u v → length wider ≡ nodes * width →
    Adds paths wider width (λ x y. (x < nodes) × ((x ≡ u) ⊎ IsSet paths width x u) × IsSelfOrSet paths width v y) → KeepsSomePaths nodes width edges wider
KeepsSomePaths-join nodes width edges paths wider u v fits keeps hu hv e sized adds = record {
  sized = sized;
  sound = λ a b ha hb s. elim ((adds.bits a b hb).0 s) [
    | inl o ↦ keeps.sound a b ha hb o
    | inr g ↦ to_u a b ha g.1 (from_u b hb g.2)
  ];
  transitive = record { joins = joins };
}
  where
    edge : Reaches (Joined edges width nodes) u v
    edge = Reaches-edge (Joined edges width nodes) u v (hu, hv, e)

    col_u : u / 64 < width
    col_u = column_within u nodes width fits hu

    from_u : (b : ℕ) → b / 64 < width → IsSelfOrSet paths width v b → Reaches (Joined edges width nodes) u b
    from_u b hb (inl same) = subst (λ n. Reaches (Joined edges width nodes) u n) (sym same) edge
    from_u b hb (inr set) = Reaches-join (Joined edges width nodes) u v b edge (keeps.sound v b hv hb set)

    to_u : (a b : ℕ) → a < nodes → (a ≡ u) ⊎ IsSet paths width a u → Reaches (Joined edges width nodes) u b → Reaches (Joined edges width nodes) a b
    to_u a b ha (inl same) r = subst (λ n. Reaches (Joined edges width nodes) n b) (sym same) r
    to_u a b ha (inr set) r = Reaches-join (Joined edges width nodes) a u b (keeps.sound a u ha col_u set) r

    -- what leads to a source of u is one, and what a target of v leads to is one
    source : (a b : ℕ) → a < nodes → b < nodes → IsSet paths width a b → (b ≡ u) ⊎ IsSet paths width b u → (a ≡ u) ⊎ IsSet paths width a u
    source a b ha hb s (inl same) = inr (subst (λ n. IsSet paths width a n) same s)
    source a b ha hb s (inr set) = inr (keeps.transitive.joins a b u ha hb hu s set)

    target : (b c : ℕ) → b < nodes → c < nodes → IsSelfOrSet paths width v b → IsSet paths width b c → IsSelfOrSet paths width v c
    target b c hb hc (inl same) s = inr (subst (λ n. IsSet paths width n c) same s)
    target b c hb hc (inr set) s = inr (keeps.transitive.joins v b c hv hb hc set s)

    joins : (a b c : ℕ) → a < nodes → b < nodes → c < nodes → IsSet wider width a b → IsSet wider width b c → IsSet wider width a c
    joins a b c ha hb hc p q =
        let col_b = column_within b nodes width fits hb in
        let col_c = column_within c nodes width fits hc in
        elim ((adds.bits a b col_b).0 p) [
          | inl o ↦ elim ((adds.bits b c col_c).0 q) [
            | inl o' ↦ (adds.bits a c col_c).1 (inl (keeps.transitive.joins a b c ha hb hc o o'))
            | inr g ↦ (adds.bits a c col_c).1 (inr (ha, source a b ha hb o g.1, g.2))
          ]
          | inr g ↦ elim ((adds.bits b c col_c).0 q) [
            | inl o' ↦ (adds.bits a c col_c).1 (inr (ha, g.1, target b c hb hc g.2 o'))
            | inr g' ↦ (adds.bits a c col_c).1 (inr (ha, g.1, g'.2))
          ]
        ]

-- The numbers left of word j are done, and edges lead to them from x.
pub record JoinsDone (nodes width : ℕ) (edges paths done : List ℕ) (x j left : ℕ) : Type 0 where
  pub done_paths : KeepsPathsToDone nodes width edges paths done
  pub given : (k : ℕ) → k < 64 → HasBit left k → IsSet edges width x (64 * j + k) × IsSet done width 0 (64 * j + k)

pub JoinsDone-start : (nodes width : ℕ) (edges paths done : List ℕ) (x j word : ℕ) → KeepsPathsToDone nodes width edges paths done →
    JoinsDone nodes width edges paths done x j (bit_and (bit_and (get_or edges (x * width + j) 0) (get_or done j 0)) word)
JoinsDone-start nodes width edges paths done x j word keeps = record {
  done_paths = keeps;
  given = λ k h b.
      let both = (HasBit-and (get_or edges (x * width + j) 0) (get_or done j 0) k).0 ((HasBit-and (bit_and (get_or edges (x * width + j) 0) (get_or done j 0)) word k).0 b).0 in
      let first : 0 * width + j ≡ j = omega arith in
      ((IsSet-at edges width x j k h).1 both.0, (IsSet-at done width 0 j k h).1 (subst (λ n. HasBit (get_or done n 0) k) (sym first) both.1));
}

pub JoinsDone-step : (nodes width : ℕ) (edges paths wider done : List ℕ) (x j left : ℕ) → IsTable nodes width edges → JoinsDone nodes width edges paths done x j left →
    (IsSet done width 0 x → ⊥) → x < nodes → j < width → 0 < left → left < 2 ^ 64 → length wider ≡ length paths →
    Adds paths wider width (λ i y. (i ≡ x) × IsSelfOrSet paths width (64 * j + trailing_zeros w64 left) y) →
    JoinsDone nodes width edges wider done x j (bit_and left (bit_not w64 (get_or wider (x * width + j) 0)))
JoinsDone-step nodes width edges paths wider done x j left keeps joins not_done hx hj some fits sized adds =
    let low = HasBit-lowest left some fits in
    let bound : trailing_zeros w64 left < 64 = low.0 in
    let given = joins.given (trailing_zeros w64 left) low.0 low.1 in
    record {
      done_paths = KeepsPathsToDone-take nodes width edges paths wider done x (64 * j + trailing_zeros w64 left) keeps.fits joins.done_paths not_done hx
          (keeps.within x (64 * j + trailing_zeros w64 left) hx (omega arith) given.0) given.0 given.1 sized adds;
      given = λ k h b. joins.given k h ((HasBit-and left (bit_not w64 (get_or wider (x * width + j) 0)) k).0 b).0;
    }

-- Of the edges from x to numbers of word j those left may be no paths yet.
pub record Joining (nodes width : ℕ) (edges old now transposed : List ℕ) (x j left : ℕ) : Type 0 where
  pub some : KeepsSomePaths nodes width edges now
  pub are : AreTransposed now transposed width nodes
  pub kept : (a b : ℕ) → b / 64 < width → IsSet old width a b → IsSet now width a b
  pub given : (k : ℕ) → k < 64 → HasBit left k → IsSet edges width x (64 * j + k)
  pub rest : (k : ℕ) → k < 64 → IsSet edges width x (64 * j + k) → IsSet now width x (64 * j + k) ⊎ HasBit left k

-- the bits of a word that another lacks
without : (a word k : ℕ) → word < 2 ^ 64 → k < 64 → HasBit (bit_and a (bit_not w64 word)) k ↔ (HasBit a k × (HasBit word k → ⊥))
without a word k small h =
    let both = HasBit-and a (bit_not w64 word) k in
    let not = HasBit-not word k small h in
    (λ b. ((both.0 b).0, not.0 (both.0 b).1), λ p. both.1 (p.0, not.1 p.1))

-- the edges left, without the paths that word j of row x of a table has
rest_without : (width : ℕ) (edges now : List ℕ) (x j left : ℕ) → get_or now (x * width + j) 0 < 2 ^ 64 →
    ((k : ℕ) → k < 64 → IsSet edges width x (64 * j + k) → IsSet now width x (64 * j + k) ⊎ HasBit left k) →
    (k : ℕ) → k < 64 → IsSet edges width x (64 * j + k) → IsSet now width x (64 * j + k) ⊎ HasBit (bit_and left (bit_not w64 (get_or now (x * width + j) 0))) k
rest_without width edges now x j left small rest k h e = elim (IsSet-decided now width x (64 * j + k)) [
  | inl set ↦ inl set
  | inr none ↦ elim (rest k h e) [
    | inl set ↦ inl set
    | inr b ↦ inr ((without left (get_or now (x * width + j) 0) k small h).1 (b, λ w. none ((IsSet-at now width x j k h).1 w)))
  ]
]

pub Joining-start : (nodes width : ℕ) (edges paths transposed : List ℕ) (x j : ℕ) → KeepsSomePaths nodes width edges paths → AreTransposed paths transposed width nodes → get_or paths (x * width + j) 0 < 2 ^ 64 →
    Joining nodes width edges paths paths transposed x j (bit_and (get_or edges (x * width + j) 0) (bit_not w64 (get_or paths (x * width + j) 0)))
Joining-start nodes width edges paths transposed x j keeps are small = record {
  some = keeps;
  are = are;
  kept = λ a b h s. s;
  given = λ k h b. (IsSet-at edges width x j k h).1 ((HasBit-and (get_or edges (x * width + j) 0) (bit_not w64 (get_or paths (x * width + j) 0)) k).0 b).0;
  rest = rest_without width edges paths x j (get_or edges (x * width + j) 0) small (λ k h e. inr ((IsSet-at edges width x j k h).0 e));
}

pub Joining-step : (nodes width : ℕ) (edges old now wider transposed new_transposed : List ℕ) (x j left : ℕ) → IsTable nodes width edges → Joining nodes width edges old now transposed x j left →
    x < nodes → j < width → 0 < left → left < 2 ^ 64 → get_or wider (x * width + j) 0 < 2 ^ 64 →
    Adds now wider width (λ a b. (a < nodes) × ((a ≡ x) ⊎ IsSet now width a x) × IsSelfOrSet now width (64 * j + trailing_zeros w64 left) b) → AreTransposed wider new_transposed width nodes →
    Joining nodes width edges old wider new_transposed x j (bit_and left (bit_not w64 (get_or wider (x * width + j) 0)))
Joining-step nodes width edges old now wider transposed new_transposed x j left keeps joining hx hj some fits small adds are =
    let low = HasBit-lowest left some fits in
    let bound : trailing_zeros w64 left < 64 = low.0 in
    let given = joining.given (trailing_zeros w64 left) low.0 low.1 in
    record {
      some = KeepsSomePaths-join nodes width edges now wider x (64 * j + trailing_zeros w64 left) keeps.fits joining.some hx
          (keeps.within x (64 * j + trailing_zeros w64 left) hx (omega arith) given) given are.table_sized adds;
      are = are;
      kept = λ a b h s. Adds-kept now wider width _ adds a b h (joining.kept a b h s);
      given = λ k h b. joining.given k h ((HasBit-and left (bit_not w64 (get_or wider (x * width + j) 0)) k).0 b).0;
      rest = rest_without width edges wider x j left small
          (λ k h e. elim (joining.rest k h e) [ inl set ↦ inl (Adds-kept now wider width _ adds x (64 * j + k) (omega arith) set) | inr b ↦ inr b ]);
    }

-- the bit of the number that was joined is no longer left
pub left_less : (width : ℕ) (wider : List ℕ) (x j left : ℕ) → 0 < left → left < 2 ^ 64 → get_or wider (x * width + j) 0 < 2 ^ 64 →
    IsSet wider width x (64 * j + trailing_zeros w64 left) → bit_and left (bit_not w64 (get_or wider (x * width + j) 0)) < left
left_less width wider x j left some fits small set =
    let low = HasBit-lowest left some fits in
    without_less left (get_or wider (x * width + j) 0) (trailing_zeros w64 left) small low.0 low.1 ((IsSet-at wider width x j (trailing_zeros w64 left) low.0).0 set)

pub Joining-end : (nodes width : ℕ) (edges old now transposed : List ℕ) (x j : ℕ) → Joining nodes width edges old now transposed x j 0 →
    (y : ℕ) → y / 64 ≡ j → IsSet edges width x y → IsSet now width x y
Joining-end nodes width edges old now transposed x j joining y at s =
    let e : 64 * j + y % 64 ≡ y = omega (arith, at) in
    elim (joining.rest (y % 64) (omega arith) (subst (λ n. IsSet edges width x n) (sym e) s)) [
      | inl set ↦ subst (λ n. IsSet now width x n) e set
      | inr b ↦ absurd (HasBit-zero (y % 64) b)
    ]
