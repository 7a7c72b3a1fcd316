-- The numbers that have come to reach more since a graph was settled.
use Rattle.std.proofs.Common.{refl, ◌≡◌, ◌⊎◌, ◌↔◌, inl, inr, ℕ, ◌+◌, ◌*◌, ◌/◌, ◌%◌, ◌^◌, ◌<◌, ◌≤◌, false, IsTrue, List, length, get_or, replicate, sym, ap, subst, ◌∙◌, arith}
use Rattle.std.specs.Prelude.{bit_and}
use Rattle.std.specs.Int.{bit_not, w64}
use Rattle.std.proofs.lemmas.Bool.{cases_eq, cases_lt}
use Rattle.std.proofs.lemmas.List.{length-replicate, get_or_past}
use Rattle.order_paths.specs.Paths.{Reaches}
use Rattle.order_paths.proofs.Reach.{Reaches-join, Reaches-below}
use Rattle.bitsets.specs.Rows.{HasBit, HasNumber, IsListOf}
use Rattle.bitsets.specs.Tables.{IsSet, Adds}
use Rattle.bitsets.proofs.WordFacts.{HasBit-and, HasBit-not, HasBit-zero}
use Rattle.bitsets.proofs.TableFacts.{IsSet-word, Leaves, Leaves-start, Leaves-step, Leaves-end, column_within, no_bit}
use Rattle.order_graph.specs.Internal.Tables.{IsSelfOrSet, Joined}
use Rattle.order_graph.specs.Internal.KeptPaths.{KeepsAllPaths, IsNodeRow}
use Rattle.order_graph.specs.Digraphs.{Digraph, IsEdge, HasGrown, ReachesMore}
use Rattle.order_graph.specs.Internal.Views.{grown_graph_of}
use Rattle.order_graph.proofs.AddedBits.{given_is}
use Rattle.order_graph.proofs.AddedEdges.{WithEdge, reach_split, reach_through, reach_same}
use Rattle.order_graph.proofs.KeptTablesFacts.{sees_path, Reaches-more, test_is, no_test}

-- The numbers that gain something by an edge from u to v are u and those that reach u, but for those that reach v.
gains : (Edge : ℕ → ℕ → Type 0) (u v x : ℕ) → (((x ≡ u) ⊎ Reaches Edge x u) × (Reaches Edge x v → ⊥)) ↔ ReachesMore Edge (WithEdge Edge u v) x
gains Edge u v x = (
  λ p. (v, reach_through Edge u v x v (inr (p.0, inl refl)), p.1),
  λ more. let y = more.0 in elim (reach_split Edge u v x y more.1) [
    | inl old ↦ absurd (more.2 old)
    | inr through ↦ (through.0, λ p. more.2 (elim through.1 [ inl e ↦ subst (λ n. Reaches Edge x n) (sym e) p | inr q ↦ Reaches-join Edge x v y p q ]))
  ],
)

-- whether x has grown, from the row of bits
pub sees_grown : (g : Digraph) (nodes width : ℕ) (table grown : List ℕ) → grown_graph_of nodes width table grown ≡ g → (x : ℕ) → HasGrown g x ↔ ((x < nodes) × IsSet grown width 0 x)
unfolding HasGrown
sees_grown g nodes width table grown is x = subst (λ d. IsTrue (get_or d.grown x false) ↔ ((x < nodes) × IsSet grown width 0 x)) is (
  λ t. elim (cases_lt x nodes) [
    | inl h ↦ (h, (test_is nodes width grown 0 x h).0 t)
    | inr past ↦ absurd (no_test nodes width grown 0 x past t)
  ],
  λ p. (test_is nodes width grown 0 x p.0).1 p.1,
)

-- nothing has grown where no bit is set
pub sees_settled : (g : Digraph) (nodes width : ℕ) (table grown : List ℕ) → grown_graph_of nodes width table grown ≡ g → grown ≡ replicate width 0 → (x : ℕ) → HasGrown g x → ⊥
sees_settled g nodes width table grown is zeros x h =
    no_bit width width 0 x (subst (λ l. IsSet l width 0 x) zeros ((sees_grown g nodes width table grown is x).0 h).1)

pub IsNodeRow-empty : (nodes width : ℕ) (row : List ℕ) → row ≡ replicate width 0 → IsNodeRow nodes width row
IsNodeRow-empty nodes width row zeros = record {
  sized = ap length zeros ∙ length-replicate {A = ℕ} width 0;
  within = λ x h s. absurd (no_bit width width 0 x (subst (λ l. IsSet l width 0 x) zeros s));
}

-- what an edge from u to v marks: u and what leads to u, but what leads to v
abbrev pub IsMissing : List ℕ → ℕ → ℕ → ℕ → ℕ → ℕ → Type 0
IsMissing table width u v i x = (i ≡ 0) × IsSelfOrSet table width u x × (IsSet table width v x → ⊥)

-- the same from word j on
abbrev pub IsMissingFrom : List ℕ → ℕ → ℕ → ℕ → ℕ → ℕ → ℕ → Type 0
IsMissingFrom table width u v j i x = (i ≡ 0) × (j ≤ x / 64) × IsSelfOrSet table width u x × (IsSet table width v x → ⊥)

pub missing_start : (grown table : List ℕ) (width u v : ℕ) → Leaves grown grown width (IsMissing table width u v) (IsMissingFrom table width u v 0)
missing_start grown table width u v = Leaves-start grown width _ _ (λ i x h. (λ p. (p.0, omega arith, p.1, p.2), λ p. (p.0, p.2, p.3)))

missing_is : (table : List ℕ) (width u v j sources word : ℕ) → word ≡ get_or table (v * width + j) 0 → word < 2 ^ 64 →
    ((k : ℕ) → k < 64 → HasBit sources k ↔ ((64 * j + k ≡ u) ⊎ HasBit (get_or table (u * width + j) 0) k)) →
    (x : ℕ) → x / 64 ≡ j → HasBit (bit_and sources (bit_not w64 word)) (x % 64) ↔ (IsSelfOrSet table width u x × (IsSet table width v x → ⊥))
missing_is table width u v j sources word same fits bits x e =
    let at = subst (λ n. IsSet table width v x ↔ HasBit n (x % 64)) (sym same) (IsSet-word table width v j x e) in
    let both = HasBit-and sources (bit_not w64 word) (x % 64) in
    let not = HasBit-not word (x % 64) fits (omega arith) in
    let source = given_is table width u j sources bits x e in
    (λ b. let p = both.0 b in (source.0 p.0, λ s. not.0 p.1 (at.0 s)), λ p. both.1 (source.1 p.0, not.1 (λ b. p.1 (at.1 b))))

pub missing_step : (old now new table : List ℕ) (width u v j sources word : ℕ) → Leaves old now width (IsMissing table width u v) (IsMissingFrom table width u v j) →
    word ≡ get_or table (v * width + j) 0 → word < 2 ^ 64 →
    ((k : ℕ) → k < 64 → HasBit sources k ↔ ((64 * j + k ≡ u) ⊎ HasBit (get_or table (u * width + j) 0) k)) →
    Adds now new width (λ i x. (i ≡ 0) × (x / 64 ≡ j) × HasBit (bit_and sources (bit_not w64 word)) (x % 64)) →
    Leaves old new width (IsMissing table width u v) (IsMissingFrom table width u v (j + 1))
missing_step old now new table width u v j sources word leaves same fits bits adds =
    let is = missing_is table width u v j sources word same fits bits in
    Leaves-step old now new width _ _ _ _ leaves adds
    (λ i x h p. elim (cases_eq (x / 64) j) [
      | inl e ↦ inr (inl (p.0, e, (is x e).1 (p.2, p.3)))
      | inr ne ↦ inr (inr (p.0, omega (arith, p.1, ne), p.2, p.3))
    ])
    (λ i x h p. let q = (is x p.1).0 p.2 in (p.0, omega (arith, p.1), q.0, q.1))
    (λ i x h p. (p.0, omega (arith, p.1), p.2, p.3))

pub missing_end : (old now table : List ℕ) (width u v j : ℕ) → width ≤ j → Leaves old now width (IsMissing table width u v) (IsMissingFrom table width u v j) → Adds old now width (IsMissing table width u v)
missing_end old now table width u v j past leaves = Leaves-end old now width _ _ leaves (λ i x h p. omega (arith, p.1, h, past))

-- the row of bits stays one of numbers below `nodes`
pub IsNodeRow-more : (nodes width : ℕ) (edges paths transposed grown wider new : List ℕ) (u v : ℕ) → KeepsAllPaths nodes width edges paths transposed → IsNodeRow nodes width grown → u < nodes → new ≡ wider →
    length wider ≡ length grown → Adds grown wider width (IsMissing transposed width u v) → IsNodeRow nodes width new
IsNodeRow-more nodes width edges paths transposed grown wider new u v keeps row hu same sized adds = subst (IsNodeRow nodes width) (sym same) record {
  sized = sized ∙ row.sized;
  within = λ x h s. elim ((adds.bits 0 x h).0 s) [
    | inl old ↦ row.within x h old
    | inr m ↦ elim m.1 [ inl e ↦ omega (arith, e) | inr lead ↦ keeps.paths_transposed.transposed_within u x hu h lead ]
  ];
}

-- an edge where there is a path lets no number reach more
pub grown_same : (old new : Digraph) (nodes width : ℕ) (table more paths transposed grown : List ℕ) (u v : ℕ) → KeepsAllPaths nodes width table paths transposed → u < nodes → v < nodes →
    grown_graph_of nodes width table grown ≡ old → grown_graph_of nodes width more grown ≡ new → Adds table more width (λ x y. (x ≡ u) × (y ≡ v)) → IsSet paths width u v →
    (x : ℕ) → HasGrown new x ↔ (HasGrown old x ⊎ ReachesMore (IsEdge old) (IsEdge new) x)
grown_same old new nodes width table more paths transposed grown u v keeps hu hv is_old is_new adds path x =
    let o = sees_grown old nodes width table grown is_old x in
    let n = sees_grown new nodes width more grown is_new x in (
      λ h. inl (o.1 (n.0 h)),
      λ h. elim h [
        | inl before ↦ n.1 (o.0 before)
        | inr more_reached ↦ absurd (more_reached.2 ((sees_path old nodes width table (record { grown = grown; is = is_old }) x more_reached.0).1
            (reach_same (Joined table width nodes) u v x more_reached.0 ((keeps.tells u v hu hv).0 path)
            ((Reaches-more table more nodes width u v keeps.fits hu hv adds x more_reached.0).0 ((sees_path new nodes width more (record { grown = grown; is = is_new }) x more_reached.0).0 more_reached.1)))))
      ],
    )

-- an edge where there is none lets u and what reaches u reach more, but what reaches v by then
pub grown_more : (old new : Digraph) (nodes width : ℕ) (table more paths transposed grown wider : List ℕ) (u v : ℕ) → KeepsAllPaths nodes width table paths transposed → u < nodes → v < nodes →
    grown_graph_of nodes width table grown ≡ old → grown_graph_of nodes width more wider ≡ new → Adds table more width (λ x y. (x ≡ u) × (y ≡ v)) → Adds grown wider width (IsMissing transposed width u v) →
    (x : ℕ) → HasGrown new x ↔ (HasGrown old x ⊎ ReachesMore (IsEdge old) (IsEdge new) x)
grown_more old new nodes width table more paths transposed grown wider u v keeps hu hv is_old is_new adds marks x = (to, back)
  where
    E : ℕ → ℕ → Type 0
    E = Joined table width nodes

    old_path : (y : ℕ) → Reaches (IsEdge old) x y ↔ Reaches E x y
    old_path y = sees_path old nodes width table (record { grown = grown; is = is_old }) x y

    new_path : (y : ℕ) → Reaches (IsEdge new) x y ↔ Reaches (WithEdge E u v) x y
    new_path y =
        let s = sees_path new nodes width more (record { grown = wider; is = is_new }) x y in
        let r = Reaches-more table more nodes width u v keeps.fits hu hv adds x y in
        (λ p. r.0 (s.0 p), λ p. s.1 (r.1 p))

    more_reached : ReachesMore (IsEdge old) (IsEdge new) x ↔ ReachesMore E (WithEdge E u v) x
    more_reached = (
      λ m. (m.0, (new_path m.0).0 m.1, λ p. m.2 ((old_path m.0).1 p)),
      λ m. (m.0, (new_path m.0).1 m.1, λ p. m.2 ((old_path m.0).0 p)),
    )

    leads : (w : ℕ) → w < nodes → x < nodes → IsSet transposed width w x ↔ Reaches E x w
    leads w hw hx =
        let s = keeps.paths_transposed.same x w hx hw in
        let t = keeps.tells x w hx hw in
        (λ b. t.0 (s.0 b), λ p. s.1 (t.1 p))

    below : (y : ℕ) → Reaches (WithEdge E u v) x y → x < nodes
    below y p = (Reaches-below (WithEdge E u v) nodes (λ a b e. elim e [ inl j ↦ (j.0, j.1) | inr q ↦ (omega (arith, q.0), omega (arith, q.1)) ]) x y p).0

    to : HasGrown new x → HasGrown old x ⊎ ReachesMore (IsEdge old) (IsEdge new) x
    to h =
        let p = (sees_grown new nodes width more wider is_new x).0 h in
        elim ((marks.bits 0 x (column_within x nodes width keeps.fits p.0)).0 p.1) [
          | inl before ↦ inl ((sees_grown old nodes width table grown is_old x).1 (p.0, before))
          | inr m ↦ inr (more_reached.1 ((gains E u v x).0 (elim m.1 [ inl e ↦ inl e | inr lead ↦ inr ((leads u hu p.0).0 lead) ], λ path. m.2 ((leads v hv p.0).1 path))))
        ]

    back : HasGrown old x ⊎ ReachesMore (IsEdge old) (IsEdge new) x → HasGrown new x
    back (inl before) =
        let p = (sees_grown old nodes width table grown is_old x).0 before in
        (sees_grown new nodes width more wider is_new x).1 (p.0, (marks.bits 0 x (column_within x nodes width keeps.fits p.0)).1 (inl p.1))
    back (inr m) =
        let reached = more_reached.0 m in
        let hx = below reached.0 reached.1 in
        let g = (gains E u v x).1 reached in
        (sees_grown new nodes width more wider is_new x).1 (
          hx,
          (marks.bits 0 x (column_within x nodes width keeps.fits hx)).1
              (inr (refl, elim g.0 [ inl e ↦ inl e | inr path ↦ inr ((leads u hu hx).1 path) ], λ lead. g.1 ((leads v hv hx).0 lead))),
        )

-- the numbers of the row of bits are those whose bits are set in a table of this one row
row_numbers : (nodes width : ℕ) (row : List ℕ) → IsNodeRow nodes width row → width ≡ (nodes + 63) / 64 → (x : ℕ) → HasNumber row x ↔ ((x < nodes) × IsSet row width 0 x)
row_numbers nodes width row is fits x = (
  λ b. elim (cases_lt (x / 64) width) [
    | inl h ↦ (let s = (IsSet-word row width 0 (x / 64) x refl).1 (subst (λ n. HasBit (get_or row n 0) (x % 64)) (sym first) b) in (is.within x h s, s))
    | inr past ↦ absurd (HasBit-zero (x % 64) (subst (λ n. HasBit n (x % 64)) (get_or_past row (x / 64) 0 (omega (arith, is.sized, past))) b))
  ],
  λ p. subst (λ n. HasBit (get_or row n 0) (x % 64)) first ((IsSet-word row width 0 (x / 64) x refl).0 p.1),
)
  where
    first : 0 * width + x / 64 ≡ x / 64
    first = omega arith

pub numbers_within : (nodes width : ℕ) (row : List ℕ) → IsNodeRow nodes width row → width ≡ (nodes + 63) / 64 → (x : ℕ) → HasNumber row x → x < nodes
numbers_within nodes width row is fits x b = ((row_numbers nodes width row is fits x).0 b).0

-- the list of the numbers whose bits are set is that of those that have grown
pub grown_list : (g : Digraph) (nodes width : ℕ) (table grown : List ℕ) (list : List ℕ) → grown_graph_of nodes width table grown ≡ g → IsNodeRow nodes width grown → width ≡ (nodes + 63) / 64 →
    IsListOf list (HasNumber grown) → IsListOf list (HasGrown g)
grown_list g nodes width table grown list is row fits l =
    let same = row_numbers nodes width grown row fits in record {
      all = λ x h. l.all x ((same x).1 ((sees_grown g nodes width table grown is x).0 h));
      only = λ x h. (sees_grown g nodes width table grown is x).1 ((same x).0 (l.only x h));
      ascending = l.ascending;
    }
