-- How a search by words finds the numbers that paths lead to from one number.
use Rattle.std.proofs.Common.{◌≡◌, ◌⊎◌, ◌↔◌, inl, inr, ℕ, zero, suc, ◌+◌, ◌*◌, ◌/◌, ◌%◌, ◌<◌, ◌≤◌, Bool, true, false, IsTrue, cond, List, [], ◌∷◌, ◌++◌, length, get_or, replicate, refl, sym, ap, subst, ◌∙◌, arith}
use Rattle.std.proofs.lemmas.Bool.{cases_eq, cases_lt, cases_order, false≢true}
use Rattle.std.proofs.Math.Seq.{get_or-append_seam}
use Rattle.std.proofs.lemmas.List.{length-replicate, length-append, get_or_append_left, get_or_past}
use Rattle.order_paths.specs.Paths.{Reaches}
use Rattle.order_paths.proofs.Decisions.{Decision, Decision-both, Decision-not, test_of, test_of-holds, test_of-true}
use Rattle.order_paths.proofs.Reach.{Reaches-edge, Reaches-into, Reaches-join, Reaches-mono, Reaches-below}
use Rattle.std.specs.Prelude.{bit_and}
use Rattle.bitsets.specs.Rows.{HasBit}
use Rattle.bitsets.proofs.WordFacts.{HasBit-and}
use Rattle.bitsets.specs.Tables.{IsSet, Adds, Loses}
use Rattle.order_graph.specs.Internal.Tables.{Joined, IsMaskedEdge, JoinedWithin}
use Rattle.bitsets.proofs.TableFacts.{IsSet-decided, IsSet-word, Leaves, Leaves-start, Leaves-step, Leaves-end, Adds-kept, column_within, no_bit}
use Rattle.order_graph.specs.Digraphs.{Digraph, IsEdge}
use Rattle.order_graph.specs.Internal.KeptPaths.{Covers}
use Rattle.order_graph.proofs.KeptTablesFacts.{Sees, sees_path}

-- the numbers that x has an edge to, and of these those that weren't reached, from word j on
abbrev pub EdgeFrom : List ℕ → List ℕ → ℕ → ℕ → ℕ → ℕ → ℕ → Type 0
EdgeFrom edges mask width x j i y = (i ≡ 0) × (j ≤ y / 64) × IsMaskedEdge edges mask width x y

abbrev pub FreshEdgeFrom : List ℕ → List ℕ → List ℕ → ℕ → ℕ → ℕ → ℕ → ℕ → Type 0
FreshEdgeFrom edges mask reached width x j i y = (i ≡ 0) × (j ≤ y / 64) × IsMaskedEdge edges mask width x y × (IsSet reached width 0 y → ⊥)

-- The words before word j of both rows have what they gain.
pub record GoesOn (edges mask old_reached reached old_left left : List ℕ) (width x j : ℕ) : Type 0 where
  pub reached_leaves : Leaves old_reached reached width (EdgeFrom edges mask width x 0) (EdgeFrom edges mask width x j)
  pub left_leaves : Leaves old_left left width (FreshEdgeFrom edges mask old_reached width x 0) (FreshEdgeFrom edges mask old_reached width x j)
  pub later : (y : ℕ) → y / 64 < width → j ≤ y / 64 → IsSet reached width 0 y → IsSet old_reached width 0 y

pub GoesOn-start : (edges mask reached left : List ℕ) (width x : ℕ) → GoesOn edges mask reached reached left left width x 0
GoesOn-start edges mask reached left width x = record {
  reached_leaves = Leaves-start reached width _ _ (λ i y h. (λ p. p, λ p. p));
  left_leaves = Leaves-start left width _ _ (λ i y h. (λ p. p, λ p. p));
  later = λ y h l s. s;
}

pub GoesOn-step : (edges mask old_reached reached new_reached old_left left new_left : List ℕ) (width x j given fresh : ℕ) →
    GoesOn edges mask old_reached reached old_left left width x j → j < width →
    given ≡ bit_and (get_or edges (x * width + j) 0) (get_or mask j 0) →
    Adds reached new_reached width (λ i y. (i ≡ 0) × (y / 64 ≡ j) × HasBit given (y % 64)) →
    ((y : ℕ) → y / 64 ≡ j → HasBit fresh (y % 64) ↔ (HasBit given (y % 64) × (IsSet reached width 0 y → ⊥))) →
    Adds left new_left width (λ i y. (i ≡ 0) × (y / 64 ≡ j) × HasBit fresh (y % 64)) →
    GoesOn edges mask old_reached new_reached old_left new_left width x (j + 1)
GoesOn-step edges mask old_reached reached new_reached old_left left new_left width x j given fresh goes within same reaches news fills = record {
  reached_leaves = Leaves-step old_reached reached new_reached width _ _ _ _ goes.reached_leaves reaches
      (λ i y h p. elim (cases_eq (y / 64) j) [
        | inl e ↦ inr (inl (p.0, e, (given_is y e).1 p.2))
        | inr ne ↦ inr (inr (p.0, omega (arith, p.1, ne), p.2))
      ])
      (λ i y h p. (p.0, omega (arith, p.1), (given_is y p.1).0 p.2))
      (λ i y h p. (p.0, omega (arith, p.1), p.2));
  left_leaves = Leaves-step old_left left new_left width _ _ _ _ goes.left_leaves fills
      (λ i y h p. elim (cases_eq (y / 64) j) [
        | inl e ↦ inr (inl (p.0, e, (fresh_is y h e).1 (p.2, p.3)))
        | inr ne ↦ inr (inr (p.0, omega (arith, p.1, ne), p.2, p.3))
      ])
      (λ i y h p. let g = (fresh_is y h p.1).0 p.2 in (p.0, omega (arith, p.1), g.0, g.1))
      (λ i y h p. (p.0, omega (arith, p.1), p.2, p.3));
  later = λ y h l s. elim ((reaches.bits 0 y h).0 s) [
    | inl o ↦ goes.later y h (omega (arith, l)) o
    | inr g ↦ absurd (omega (arith, g.1, l))
  ];
}
  where
    given_is : (y : ℕ) → y / 64 ≡ j → HasBit given (y % 64) ↔ IsMaskedEdge edges mask width x y
    given_is y e =
        let both = HasBit-and (get_or edges (x * width + j) 0) (get_or mask j 0) (y % 64) in
        let zero : 0 * width + j ≡ j = omega arith in
        let m = subst (λ n. IsSet mask width 0 y ↔ HasBit (get_or mask n 0) (y % 64)) zero (IsSet-word mask width 0 j y e) in
        let t = IsSet-word edges width x j y e in (
          λ b. let p = both.0 (subst (λ n. HasBit n (y % 64)) same b) in record { edge = t.1 p.0; within = m.1 p.1 },
          λ p. subst (λ n. HasBit n (y % 64)) (sym same) (both.1 (t.0 p.edge, m.0 p.within)),
        )

    fresh_is : (y : ℕ) → y / 64 < width → y / 64 ≡ j → HasBit fresh (y % 64) ↔ (IsMaskedEdge edges mask width x y × (IsSet old_reached width 0 y → ⊥))
    fresh_is y h e = (
      λ b. let p = (news y e).0 b in ((given_is y e).0 p.0, λ s. p.1 (goes.reached_leaves.kept 0 y h s)),
      λ p. (news y e).1 ((given_is y e).1 p.0, λ s. p.1 (goes.later y h (omega (arith, e)) s)),
    )

pub GoesOn-reached : (edges mask old_reached reached old_left left : List ℕ) (width x j : ℕ) → width ≤ j → GoesOn edges mask old_reached reached old_left left width x j →
    Adds old_reached reached width (λ i y. (i ≡ 0) × IsMaskedEdge edges mask width x y)
GoesOn-reached edges mask old_reached reached old_left left width x j past goes = record {
  bits = λ i y h.
      let b = (Leaves-end old_reached reached width _ _ goes.reached_leaves (λ i y h p. omega (arith, p.1, h))).bits i y h in (
        λ s. elim (b.0 s) [ inl o ↦ inl o | inr g ↦ inr (g.0, g.2) ],
        λ s. b.1 (elim s [ inl o ↦ inl o | inr g ↦ inr (g.0, omega arith, g.1) ]),
      );
}

pub GoesOn-left : (edges mask old_reached reached old_left left : List ℕ) (width x j : ℕ) → width ≤ j → GoesOn edges mask old_reached reached old_left left width x j →
    Adds old_left left width (λ i y. (i ≡ 0) × IsMaskedEdge edges mask width x y × (IsSet old_reached width 0 y → ⊥))
GoesOn-left edges mask old_reached reached old_left left width x j past goes = record {
  bits = λ i y h.
      let b = (Leaves-end old_left left width _ _ goes.left_leaves (λ i y h p. omega (arith, p.1, h))).bits i y h in (
        λ s. elim (b.0 s) [ inl o ↦ inl o | inr g ↦ inr (g.0, g.2, g.3) ],
        λ s. b.1 (elim s [ inl o ↦ inl o | inr g ↦ inr (g.0, omega arith, g.1, g.2) ]),
      );
}

-- What the search knows: paths lead to the numbers reached, and edges lead on from u, and from those of them that aren't left, to numbers reached.
pub record Reaching (edges mask reached left : List ℕ) (width nodes u : ℕ) : Type 0 where
  pub reached_sized : length reached ≡ width
  pub left_sized : length left ≡ width
  pub sound : (y : ℕ) → y / 64 < width → IsSet reached width 0 y → Reaches (JoinedWithin edges mask width nodes) u y
  pub some : (y : ℕ) → y / 64 < width → IsSet left width 0 y → IsSet reached width 0 y
  pub first : (y : ℕ) → JoinedWithin edges mask width nodes u y → IsSet reached width 0 y
  pub closed : (x y : ℕ) → IsSet reached width 0 x → (IsSet left width 0 x → ⊥) → JoinedWithin edges mask width nodes x y → IsSet reached width 0 y

-- that edges of the table lie below `nodes`
abbrev pub IsWithin : List ℕ → ℕ → ℕ → Type 0
IsWithin edges width nodes = (x y : ℕ) → x < nodes → y / 64 < width → IsSet edges width x y → y < nodes

pub Reaching-start : (edges mask zeros reached left_zeros left : List ℕ) (width nodes u : ℕ) → width ≡ (nodes + 63) / 64 → u < nodes → IsWithin edges width nodes →
    zeros ≡ replicate width 0 → left_zeros ≡ replicate width 0 → length reached ≡ length zeros → length left ≡ length left_zeros →
    Adds zeros reached width (λ i y. (i ≡ 0) × IsMaskedEdge edges mask width u y) →
    Adds left_zeros left width (λ i y. (i ≡ 0) × IsMaskedEdge edges mask width u y × (IsSet zeros width 0 y → ⊥)) → Reaching edges mask reached left width nodes u
Reaching-start edges mask zeros reached left_zeros left width nodes u fits hu within zeros_are left_are sized left_sized reaches fills = record {
  reached_sized = sized ∙ ap length zeros_are ∙ length-replicate {A = ℕ} width 0;
  left_sized = left_sized ∙ ap length left_are ∙ length-replicate {A = ℕ} width 0;
  sound = λ y h s. Reaches-edge (JoinedWithin edges mask width nodes) u y (let e = edge y h s in (hu, within u y hu h e.edge, e));
  some = λ y h s. elim ((fills.bits 0 y h).0 s) [
    | inl o ↦ absurd (no_bit width width 0 y (subst (λ l. IsSet l width 0 y) left_are o))
    | inr g ↦ (reaches.bits 0 y h).1 (inr (refl, g.1))
  ];
  first = λ y e. (reaches.bits 0 y (column_within y nodes width fits e.1)).1 (inr (refl, e.2));
  closed = λ x y s out e.
      let h = column_within x nodes width fits e.0 in
      absurd (out ((fills.bits 0 x h).1 (inr (refl, edge x h s, none x))));
}
  where
    none : (y : ℕ) → IsSet zeros width 0 y → ⊥
    none y s = no_bit width width 0 y (subst (λ l. IsSet l width 0 y) zeros_are s)

    edge : (y : ℕ) → y / 64 < width → IsSet reached width 0 y → IsMaskedEdge edges mask width u y
    edge y h s = elim ((reaches.bits 0 y h).0 s) [ inl o ↦ absurd (none y o) | inr g ↦ g.1 ]

-- a number reached lies below `nodes`
pub Reaching-below : (edges mask reached left : List ℕ) (width nodes u y : ℕ) → Reaching edges mask reached left width nodes u → y / 64 < width → IsSet reached width 0 y → y < nodes
Reaching-below edges mask reached left width nodes u y reaching h s = (Reaches-below (JoinedWithin edges mask width nodes) nodes (λ x y e. (e.0, e.1)) u y (reaching.sound y h s)).1

pub Reaching-step : (edges mask reached wider left less new_left : List ℕ) (width nodes u x : ℕ) → width ≡ (nodes + 63) / 64 → IsWithin edges width nodes →
    Reaching edges mask reached left width nodes u → x / 64 < width → IsSet left width 0 x → Loses left less width 0 x →
    length wider ≡ length reached → length new_left ≡ length left →
    Adds reached wider width (λ i y. (i ≡ 0) × IsMaskedEdge edges mask width x y) →
    Adds less new_left width (λ i y. (i ≡ 0) × IsMaskedEdge edges mask width x y × (IsSet reached width 0 y → ⊥)) → Reaching edges mask wider new_left width nodes u
Reaching-step edges mask reached wider left less new_left width nodes u x fits within reaching hx on loses sized left_sized reaches fills = record {
  reached_sized = sized ∙ reaching.reached_sized;
  left_sized = left_sized ∙ reaching.left_sized;
  sound = λ y h s. elim ((reaches.bits 0 y h).0 s) [
    | inl o ↦ reaching.sound y h o
    | inr g ↦ Reaches-join (JoinedWithin edges mask width nodes) u x y (reaching.sound x hx met) (Reaches-edge (JoinedWithin edges mask width nodes) x y (below, within x y below h g.1.edge, g.1))
  ];
  some = λ y h s. elim ((fills.bits 0 y h).0 s) [
    | inl o ↦ kept y h (reaching.some y h ((loses.bits 0 y h).0 o).0)
    | inr g ↦ (reaches.bits 0 y h).1 (inr (refl, g.1))
  ];
  first = λ y e. kept y (column_within y nodes width fits e.1) (reaching.first y e);
  closed = closed;
}
  where
    met : IsSet reached width 0 x
    met = reaching.some x hx on

    below : x < nodes
    below = Reaching-below edges mask reached left width nodes u x reaching hx met

    kept : (y : ℕ) → y / 64 < width → IsSet reached width 0 y → IsSet wider width 0 y
    kept y h s = Adds-kept reached wider width _ reaches 0 y h s

    before : (y : ℕ) → y / 64 < width → IsSet wider width 0 y → (IsSet new_left width 0 y → ⊥) → IsSet reached width 0 y
    before y h s out = elim (IsSet-decided reached width 0 y) [
      | inl o ↦ o
      | inr new ↦ elim ((reaches.bits 0 y h).0 s) [ inl o ↦ o | inr g ↦ absurd (out ((fills.bits 0 y h).1 (inr (refl, g.1, new)))) ]
    ]

    closed : (y z : ℕ) → IsSet wider width 0 y → (IsSet new_left width 0 y → ⊥) → JoinedWithin edges mask width nodes y z → IsSet wider width 0 z
    closed y z s out e =
        let hy = column_within y nodes width fits e.0 in
        let hz = column_within z nodes width fits e.1 in
        elim (cases_eq y x) [
          | inl same ↦ (reaches.bits 0 z hz).1 (inr (refl, subst (λ n. IsMaskedEdge edges mask width n z) same e.2))
          | inr other ↦ kept z hz (reaching.closed y z (before y hy s out) (λ l. out ((fills.bits 0 y hy).1 (inl ((loses.bits 0 y hy).1 (l, λ p. other p.1))))) e)
        ]

-- where none is left, all numbers with a path are reached
pub Reaching-end : (edges mask reached left : List ℕ) (width nodes u : ℕ) → width ≡ (nodes + 63) / 64 → Reaching edges mask reached left width nodes u → ((y : ℕ) → y / 64 < width → IsSet left width 0 y → ⊥) →
    (y : ℕ) → y / 64 < width → IsSet reached width 0 y ↔ Reaches (JoinedWithin edges mask width nodes) u y
Reaching-end edges mask reached left width nodes u fits reaching none y h = (reaching.sound y h, λ p. all y p)
  where
    -- what is reached from u, or a number reached, is reached
    Onward : ℕ → ℕ → Type 0
    Onward x y = (x ≡ u) ⊎ IsSet reached width 0 x → IsSet reached width 0 y

    step : (x y : ℕ) → JoinedWithin edges mask width nodes x y → Onward x y
    step x y e (inl same) = reaching.first y (subst (λ n. JoinedWithin edges mask width nodes n y) same e)
    step x y e (inr s) = reaching.closed x y s (none x (column_within x nodes width fits e.0)) e

    all : (y : ℕ) → Reaches (JoinedWithin edges mask width nodes) u y → IsSet reached width 0 y
    all y p = Reaches-into (JoinedWithin edges mask width nodes) Onward (λ a b c to on from. on (inr (to from))) step u y p (inl refl)

-- the number is reached and not left
abbrev IsDone : List ℕ → List ℕ → ℕ → ℕ → Type 0
IsDone reached left width y = IsSet reached width 0 y × (IsSet left width 0 y → ⊥)

done-decided : (reached left : List ℕ) (width y : ℕ) → Decision (IsDone reached left width y)
done-decided reached left width y = Decision-both (IsSet-decided reached width 0 y) (Decision-not (IsSet-decided left width 0 y))

-- how many of these numbers have a test that answers false
failing : (ℕ → Bool) → ℕ → ℕ
failing test zero = 0
failing test (suc n) = cond (test n) (failing test n) (suc (failing test n))

failing-one : (a b : Bool) (m k : ℕ) → (IsTrue a → IsTrue b) → m ≤ k → cond b m (suc m) ≤ cond a k (suc k)
failing-one true true m k h le = le
failing-one true false m k h le = absurd (false≢true (h refl))
failing-one false true m k h le = omega (arith, le)
failing-one false false m k h le = omega (arith, le)

failing-more : (test other : ℕ → Bool) (n : ℕ) → ((y : ℕ) → y < n → IsTrue (test y) → IsTrue (other y)) → failing other n ≤ failing test n
unfolding failing
failing-more test other zero h = let z : 0 ≤ 0 = omega arith in z
failing-more test other (suc n) h =
    failing-one (test n) (other n) (failing other n) (failing test n) (h n (omega arith)) (failing-more test other n (λ y less. h y (omega (arith, less))))

failing-last : (a b : Bool) (m k : ℕ) → (IsTrue a → ⊥) → IsTrue b → m ≤ k → cond b m (suc m) < cond a k (suc k)
failing-last true b m k none h le = absurd (none refl)
failing-last false true m k none h le = omega (arith, le)
failing-last false false m k none h le = absurd (false≢true h)

failing-before : (a b : Bool) (m k : ℕ) → (IsTrue a → IsTrue b) → m < k → cond b m (suc m) < cond a k (suc k)
failing-before true true m k h le = le
failing-before true false m k h le = absurd (false≢true (h refl))
failing-before false true m k h le = omega (arith, le)
failing-before false false m k h le = omega (arith, le)

failing-less : (test other : ℕ → Bool) (n x : ℕ) → ((y : ℕ) → y < n → IsTrue (test y) → IsTrue (other y)) → x < n → (IsTrue (test x) → ⊥) → IsTrue (other x) →
    failing other n < failing test n
unfolding failing
failing-less test other zero x h less none some = absurd (omega (arith, less))
failing-less test other (suc n) x h less none some = elim (cases_eq x n) [
  | inl same ↦ failing-last (test n) (other n) (failing other n) (failing test n) (subst (λ k. IsTrue (test k) → ⊥) same none) (subst (λ k. IsTrue (other k)) same some)
      (failing-more test other n (λ y before. h y (omega (arith, before))))
  | inr ne ↦ failing-before (test n) (other n) (failing other n) (failing test n) (h n (omega arith))
      (failing-less test other n x (λ y before. h y (omega (arith, before))) (omega (arith, less, ne)) none some)
]

-- how many numbers aren't expanded
pub not_done : List ℕ → List ℕ → ℕ → ℕ → ℕ
not_done reached left width nodes = failing (λ y. test_of (done-decided reached left width y)) nodes

-- each step expands one number more
pub not_done-less : (edges mask reached wider left less new_left : List ℕ) (width nodes u x : ℕ) → width ≡ (nodes + 63) / 64 →
    Reaching edges mask reached left width nodes u → x / 64 < width → IsSet left width 0 x → Loses left less width 0 x →
    Adds reached wider width (λ i y. (i ≡ 0) × IsMaskedEdge edges mask width x y) →
    Adds less new_left width (λ i y. (i ≡ 0) × IsMaskedEdge edges mask width x y × (IsSet reached width 0 y → ⊥)) → not_done wider new_left width nodes < not_done reached left width nodes
unfolding not_done
not_done-less edges mask reached wider left less new_left width nodes u x fits reaching hx on loses reaches fills =
    failing-less (λ y. test_of (done-decided reached left width y)) (λ y. test_of (done-decided wider new_left width y)) nodes x more
    (Reaching-below edges mask reached left width nodes u x reaching hx (reaching.some x hx on))
    (λ t. (test_of-true (done-decided reached left width x) t).1 on)
    (test_of-holds (done-decided wider new_left width x) (kept x hx (reaching.some x hx on), out))
  where
    kept : (y : ℕ) → y / 64 < width → IsSet reached width 0 y → IsSet wider width 0 y
    kept y h s = Adds-kept reached wider width _ reaches 0 y h s

    out : IsSet new_left width 0 x → ⊥
    out s = elim ((fills.bits 0 x hx).0 s) [
      | inl l ↦ ((loses.bits 0 x hx).0 l).1 (refl, refl)
      | inr g ↦ g.2 (reaching.some x hx on)
    ]

    still : (y : ℕ) → y / 64 < width → IsDone reached left width y → IsSet new_left width 0 y → ⊥
    still y h done s = elim ((fills.bits 0 y h).0 s) [
      | inl l ↦ done.1 ((loses.bits 0 y h).0 l).0
      | inr g ↦ g.2 done.0
    ]

    more : (y : ℕ) → y < nodes → IsTrue (test_of (done-decided reached left width y)) → IsTrue (test_of (done-decided wider new_left width y))
    more y below t =
        let h = column_within y nodes width fits below in
        let done = test_of-true (done-decided reached left width y) t in
        test_of-holds (done-decided wider new_left width y) (kept y h done.0, still y h done)

-- where the mask has all numbers that paths lead to from u, the paths from u are over numbers of the mask
pub masked_from : (edges paths transposed mask : List ℕ) (width nodes u : ℕ) → Covers nodes width edges paths transposed → u < nodes →
    ((y : ℕ) → y / 64 < width → IsSet mask width 0 y ↔ IsSet paths width u y) → (y : ℕ) → Reaches (JoinedWithin edges mask width nodes) u y ↔ Reaches (Joined edges width nodes) u y
masked_from edges paths transposed mask width nodes u covers hu has y = (
  Reaches-mono (JoinedWithin edges mask width nodes) (Joined edges width nodes) (λ a b e. (e.0, e.1, e.2.edge)) u y,
  λ p. (Reaches-into (Joined edges width nodes) Onward onward step u y p (inl refl)).1,
)
  where
    Within : ℕ → Type 0
    Within x = (x ≡ u) ⊎ IsSet paths width u x

    Onward : ℕ → ℕ → Type 0
    Onward a b = Within a → IsSet paths width u b × Reaches (JoinedWithin edges mask width nodes) a b

    onward : (a b c : ℕ) → Onward a b → Onward b c → Onward a c
    onward a b c to on from =
        let one = to from in
        let two = on (inr one.0) in
        (two.0, Reaches-join (JoinedWithin edges mask width nodes) a b c one.1 two.1)

    step : (a b : ℕ) → Joined edges width nodes a b → Onward a b
    step a b e from =
        let met = covers.onward u a b hu from e in
        let h = column_within b nodes width covers.fits e.1 in
        (met, Reaches-edge (JoinedWithin edges mask width nodes) a b (e.0, e.1, record { edge = e.2; within = (has b h).1 met }))

-- where the mask has v and all numbers that paths lead from to v, the paths to v are over numbers of the mask
pub masked_to : (edges paths transposed mask : List ℕ) (width nodes v : ℕ) → Covers nodes width edges paths transposed → v < nodes →
    ((y : ℕ) → y / 64 < width → IsSet mask width 0 y ↔ (IsSet transposed width v y ⊎ (y ≡ v))) → (u : ℕ) → Reaches (JoinedWithin edges mask width nodes) u v ↔ Reaches (Joined edges width nodes) u v
masked_to edges paths transposed mask width nodes v covers hv has u = (
  Reaches-mono (JoinedWithin edges mask width nodes) (Joined edges width nodes) unmasked u v,
  λ p. Reaches-into (Joined edges width nodes) Onward onward step u v p (inr refl),
)
  where
    unmasked : (a b : ℕ) → JoinedWithin edges mask width nodes a b → Joined edges width nodes a b
    unmasked a b e = (e.0, e.1, e.2.edge)

    Leads : ℕ → Type 0
    Leads x = Reaches (Joined edges width nodes) x v ⊎ (x ≡ v)

    Onward : ℕ → ℕ → Type 0
    Onward a b = Leads b → Reaches (JoinedWithin edges mask width nodes) a b

    joined : (a b : ℕ) → Reaches (JoinedWithin edges mask width nodes) a b → Reaches (Joined edges width nodes) a b
    joined a b p = Reaches-mono (JoinedWithin edges mask width nodes) (Joined edges width nodes) unmasked a b p

    later : (b c : ℕ) → Reaches (Joined edges width nodes) b c → Leads c → Leads b
    later b c p (inl q) = inl (Reaches-join (Joined edges width nodes) b c v p q)
    later b c p (inr same) = inl (subst (λ n. Reaches (Joined edges width nodes) b n) same p)

    onward : (a b c : ℕ) → Onward a b → Onward b c → Onward a c
    onward a b c to on leads =
        let two = on leads in
        Reaches-join (JoinedWithin edges mask width nodes) a b c (to (later b c (joined b c two) leads)) two

    masked : (b : ℕ) → b < nodes → Leads b → IsSet mask width 0 b
    masked b h (inl p) = (has b (column_within b nodes width covers.fits h)).1 (inl (covers.back b v h hv p))
    masked b h (inr same) = (has b (column_within b nodes width covers.fits h)).1 (inr same)

    step : (a b : ℕ) → Joined edges width nodes a b → Onward a b
    step a b e leads = Reaches-edge (JoinedWithin edges mask width nodes) a b (e.0, e.1, record { edge = e.2; within = masked b e.1 leads })

-- The tests so far are those of the row's bits.
pub record TestsRow (row : List ℕ) (width x : ℕ) (tests : List Bool) (count : ℕ) : Type 0 where
  pub sized : length tests ≡ count
  pub are : (y : ℕ) → y < count → IsTrue (get_or tests y false) ↔ IsSet row width x y

pub TestsRow-step : (row : List ℕ) (width x : ℕ) (tests new : List Bool) (count : ℕ) (b : Bool) → TestsRow row width x tests count → new ≡ tests ++ b ∷ [] →
    IsTrue b ↔ IsSet row width x count → TestsRow row width x new (count + 1)
TestsRow-step row width x tests new count b tells same is = record {
  sized = ap length same ∙ length-append tests (b ∷ []) ∙ ap (λ n. n + 1) tells.sized;
  are = λ y h. subst (λ l. IsTrue (get_or l y false) ↔ IsSet row width x y) (sym same) (elim (cases_order y count) [
    | inl last ↦ subst (λ n. IsTrue (get_or (tests ++ b ∷ []) n false) ↔ IsSet row width x n) (sym last)
        (subst (λ t. IsTrue t ↔ IsSet row width x count) (sym (subst (λ n. get_or (tests ++ b ∷ []) n false ≡ b) tells.sized (get_or-append_seam tests b [] false))) is)
    | inr (inl less) ↦ subst (λ t. IsTrue t ↔ IsSet row width x y) (sym (get_or_append_left tests (b ∷ []) false y (omega (arith, less, tells.sized)))) (tells.are y less)
    | inr (inr more) ↦ absurd (omega (arith, more, h))
  ]);
}

pub TestsRow-end : (row : List ℕ) (width x nodes : ℕ) (tests : List Bool) → TestsRow row width x tests nodes → (y : ℕ) → IsTrue (get_or tests y false) ↔ ((y < nodes) × IsSet row width x y)
TestsRow-end row width x nodes tests tells y = (
  λ t. elim (cases_lt y nodes) [
    | inl h ↦ (h, (tells.are y h).0 t)
    | inr past ↦ absurd (false≢true (subst (λ b. IsTrue b) (get_or_past tests y false (omega (arith, past, tells.sized))) t))
  ],
  λ p. (tells.are y p.0).1 p.1,
)

-- so for the edges of a graph
pub tests_are_paths : (g : Digraph) (nodes width x : ℕ) (table row : List ℕ) (tests : List Bool) (u : ℕ) → Sees g nodes width table →
    ((y : ℕ) → y < nodes → IsSet row width x y ↔ Reaches (Joined table width nodes) u y) →
    ((y : ℕ) → IsTrue (get_or tests y false) ↔ ((y < nodes) × IsSet row width x y)) → (y : ℕ) → IsTrue (get_or tests y false) ↔ Reaches (IsEdge g) u y
tests_are_paths g nodes width x table row tests u sees reached tells y =
    let path = sees_path g nodes width table sees u y in (
      λ t. let p = (tells y).0 t in path.1 ((reached y p.0).0 p.1),
      λ p. let q = path.0 p in
          let h = (Reaches-below (Joined table width nodes) nodes (λ a b e. (e.0, e.1)) u y q).1 in
          (tells y).1 (h, (reached y h).1 q),
    )
