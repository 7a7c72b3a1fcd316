-- The pieces of the events of a list, and where each comes from.
use Rattle.std.proofs.Common.{◌≡◌, ◌⊎◌, ℕ, zero, suc, ◌+◌, ◌<◌, ◌≤◌, cond, Bool, true, false, IsTrue, List, [], ◌∷◌, ◌++◌, map, filter, Some, slice_get, inl, inr, ⊎_elim, refl, sym, ap, subst, arith}
use Rattle.std.specs.List.{flat_map}
use Rattle.std.proofs.lemmas.Option.{none-some, same_Some}
use Rattle.tso_ops.specs.declared.events.Event.{Event}
use Rattle.log_text.specs.Splits.{pieces}
use Rattle.wide_orders.proofs.Members.{Has, has_left, has_right, has_cases, has_map, from_map, has_flat, from_flat, from_filter, at_place}
use Rattle.wide_orders.proofs.Pieces.{Ascend, IsPlace, pieces-ascend}
use Rattle.wide_orders.proofs.SplitRanks.{piece_event}

-- a piece of the place of an event of this number
pub record Part : Type 0 where
  pub origin : Event
  pub number : ℕ
  pub piece : ℕ × ℕ

-- what the event does to it
abbrev pub part_event : Part → Event
part_event x = piece_event x.origin x.piece

-- one of an event
abbrev pub part_of : Event → ℕ → ℕ × ℕ → Part
part_of d n piece = record { origin = d; number = n; piece = piece }

-- one of a swap's load and one of its store
abbrev pub parts_of_swap : Event → Event → ℕ → ℕ × ℕ → List Part
parts_of_swap d e n piece = part_of d n piece ∷ part_of e (suc n) piece ∷ []

-- x may stand before y
abbrev pub MayPrecede : Part → Part → Type 0
MayPrecede x y =
    (x.number < y.number)
    ⊎ (((x.number ≡ y.number) × (x.piece.0 < y.piece.0)) ⊎ ((x.number ≡ suc y.number) × (IsTrue y.origin.load × IsTrue y.origin.swap) × (x.piece.0 < y.piece.0)))

-- each stands before those that it may
abbrev pub Ordered : List Part → Type 0
Ordered [] = Unit {0}
Ordered (x ∷ xs) = ((y : Part) → Has xs y → MayPrecede x y) × Ordered xs

-- by places
pub ordered_at : (xs : List Part) → Ordered xs → (i j : ℕ) (x y : Part) → i < j → slice_get xs i ≡ Some x → slice_get xs j ≡ Some y → MayPrecede x y
ordered_at [] ordered i j x y less at_i at_j = absurd (none-some x at_i)
ordered_at (z ∷ xs) ordered i zero x y less at_i at_j = absurd (omega (arith, less))
ordered_at (z ∷ xs) ordered zero (suc j) x y less at_i at_j = subst (λ w. MayPrecede w y) (same_Some z x at_i) (ordered.0 y (at_place xs j y at_j))
ordered_at (z ∷ xs) ordered (suc i) (suc j) x y less at_i at_j = ordered_at xs ordered.1 i j x y (omega (arith, less)) at_i at_j

-- behind each piece of a swap's load stands that of its store
abbrev pub ArePaired : List Part → Type 0
ArePaired xs = (k : ℕ) (x : Part) → slice_get xs k ≡ Some x → IsTrue x.origin.load → IsTrue x.origin.swap → (y : Part) × (slice_get xs (suc k) ≡ Some y) × (y.number ≡ suc x.number)

-- the ascent of what passes a test
ascend_filter : (test : ℕ × ℕ → Bool) (ps : List (ℕ × ℕ)) → Ascend ps → Ascend (filter test ps)
ascend_filter test [] ascent = tt
ascend_filter test (p ∷ ps) ascent = by_test (ascend_filter test ps ascent.1) (test p)
  where
    by_test : Ascend (filter test ps) → (b : Bool) → Ascend (cond b (p ∷ filter test ps) (filter test ps))
    by_test rest true = (λ next has. ascent.0 next (from_filter test ps next has).0, rest)
    by_test rest false = rest

module _ (xs : List Part) (d e : Event) (n : ℕ) where
  -- pieces of one event in front of those of later ones
  ordered_one : (ps : List (ℕ × ℕ)) → Ascend ps → ((x : Part) → Has xs x → n < x.number) → Ordered xs → Ordered (map (part_of d n) ps ++ xs)
  ordered_one [] ascent above ordered = ordered
  ordered_one (p ∷ ps) ascent above ordered = (first, ordered_one ps ascent.1 above ordered)
    where
      first : (y : Part) → Has (map (part_of d n) ps ++ xs) y → MayPrecede (part_of d n p) y
      first y has = elim (has_cases (map (part_of d n) ps) xs y has) [
        | inl own ↦ (let found = from_map (part_of d n) ps y own in subst (MayPrecede (part_of d n p)) found.2 (inr (inl (refl, ascent.0 found.0 found.1))))
        | inr later ↦ inl (above y later)
      ]

  -- of a swap
  ordered_swap : (ps : List (ℕ × ℕ)) → IsTrue d.load × IsTrue d.swap → Ascend ps → ((x : Part) → Has xs x → suc n < x.number) → Ordered xs → Ordered (flat_map (parts_of_swap d e n) ps ++ xs)
  ordered_swap [] swap ascent above ordered = ordered
  ordered_swap (p ∷ ps) swap ascent above ordered = (first, (second, ordered_swap ps swap ascent.1 above ordered))
    where
      -- what follows is of a later piece, or of a later event
      behind : (y : Part) → Has (flat_map (parts_of_swap d e n) ps ++ xs) y → ((q : ℕ × ℕ) × (p.0 < q.0) × ((part_of d n q ≡ y) ⊎ (part_of e (suc n) q ≡ y))) ⊎ (suc n < y.number)
      behind y has = elim (has_cases (flat_map (parts_of_swap d e n) ps) xs y has) [
        | inl own ↦ (
            let found = from_flat (parts_of_swap d e n) ps y own in
            inl (found.0, ascent.0 found.0 found.1, ⊎_elim (λ one. inl one) (λ more. ⊎_elim (λ two. inr two) (λ none. absurd none) more) found.2)
            )
        | inr later ↦ inr (above y later)
      ]

      second : (y : Part) → Has (flat_map (parts_of_swap d e n) ps ++ xs) y → MayPrecede (part_of e (suc n) p) y
      second y has = elim (behind y has) [
        | inl own ↦ elim own.2 [
          | inl is ↦ subst (MayPrecede (part_of e (suc n) p)) is (inr (inr (refl, swap, own.1)))
          | inr is ↦ subst (MayPrecede (part_of e (suc n) p)) is (inr (inl (refl, own.1)))
        ]
        | inr later ↦ inl later
      ]

      first : (y : Part) → (part_of e (suc n) p ≡ y) ⊎ Has (flat_map (parts_of_swap d e n) ps ++ xs) y → MayPrecede (part_of d n p) y
      first y (inl is) = subst (MayPrecede (part_of d n p)) is (inl (omega arith))
      first y (inr has) = elim (behind y has) [
        | inl own ↦ elim own.2 [
          | inl is ↦ subst (MayPrecede (part_of d n p)) is (inr (inl (refl, own.1)))
          | inr is ↦ subst (MayPrecede (part_of d n p)) is (inl (omega arith))
        ]
        | inr later ↦ inl (omega (arith, later))
      ]

  -- stores stand behind the pieces of swaps' loads, where there are others in front
  paired_one : (ps : List (ℕ × ℕ)) → (IsTrue d.load → IsTrue d.swap → ⊥) → ArePaired xs → ArePaired (map (part_of d n) ps ++ xs)
  paired_one [] other paired k x at load swap = paired k x at load swap
  paired_one (p ∷ ps) other paired zero x at load swap =
      let is = same_Some (part_of d n p) x at in
      absurd (other (subst (λ (w : Part). IsTrue w.origin.load) (sym is) load) (subst (λ (w : Part). IsTrue w.origin.swap) (sym is) swap))
  paired_one (p ∷ ps) other paired (suc k) x at load swap = paired_one ps other paired k x at load swap

  -- or those of a swap
  paired_swap : (ps : List (ℕ × ℕ)) → (IsTrue e.load → ⊥) → ArePaired xs → ArePaired (flat_map (parts_of_swap d e n) ps ++ xs)
  paired_swap [] other paired k x at load swap = paired k x at load swap
  paired_swap (p ∷ ps) other paired zero x at load swap =
      (part_of e (suc n) p, refl, ap (λ (w : Part). suc w.number) (same_Some (part_of d n p) x at))
  paired_swap (p ∷ ps) other paired (suc zero) x at load swap =
      absurd (other (subst (λ (w : Part). IsTrue w.origin.load) (sym (same_Some (part_of e (suc n) p) x at)) load))
  paired_swap (p ∷ ps) other paired (suc (suc k)) x at load swap = paired_swap ps other paired k x at load swap

module _ (bytes : Bool) (bs : List ℕ) (keep : ℕ × ℕ → Bool) where
  -- the pieces of a place that are kept
  abbrev pub kept_pieces : ℕ → ℕ → List (ℕ × ℕ)
  kept_pieces a width = filter keep (pieces bs a width)

  -- These are the pieces that are kept of the events, the first of which has this number. The events' places have these widths.
  pub record ArePartsOf (number : ℕ) (events : List Event) (widths : List ℕ) (xs : List Part) : Type 0 where
    pub origin : (x : Part) → Has xs x →
        (i : ℕ) × (width : ℕ) × (x.number ≡ number + i) × (slice_get events i ≡ Some x.origin) × (slice_get widths i ≡ Some width) × Has (kept_pieces x.origin.a width) x.piece
    pub all : (i width : ℕ) (d : Event) (piece : ℕ × ℕ) → slice_get events i ≡ Some d → slice_get widths i ≡ Some width → Has (kept_pieces d.a width) piece →
        (x : Part) × Has xs x × (x.number ≡ number + i) × (x.piece ≡ piece)
    pub placed : (i : ℕ) (d : Event) → slice_get events i ≡ Some d → (width : ℕ) × (slice_get widths i ≡ Some width) × IsPlace bytes bs d.a width
    pub ordered : Ordered xs
    pub paired : ArePaired xs

  -- of no events
  pub no_parts : (number : ℕ) → ArePartsOf number [] [] []
  no_parts number = record {
    origin = λ x has. absurd has;
    all = λ i width d piece at. absurd (none-some d at);
    placed = λ i d at. absurd (none-some d at);
    ordered = tt;
    paired = λ k x at. absurd (none-some x at);
  }

  -- all are of later events
  parts_above : (number : ℕ) (events : List Event) (widths : List ℕ) (xs : List Part) → ArePartsOf number events widths xs → (x : Part) → Has xs x → number ≤ x.number
  parts_above number events widths xs right x has = let is = (right.origin x has).2 in omega (arith, is)

  -- the pieces of one event more
  pub one_more : (n : ℕ) (events : List Event) (widths : List ℕ) (xs : List Part) (d : Event) (width : ℕ) → IsPlace bytes bs d.a width → (IsTrue d.load → IsTrue d.swap → ⊥) →
      ArePartsOf (suc n) events widths xs → ArePartsOf n (d ∷ events) (width ∷ widths) (map (part_of d n) (kept_pieces d.a width) ++ xs)
  one_more n events widths xs d width place other right = record {
    origin = origin;
    all = all;
    placed = placed;
    ordered = ordered_one xs d d n (kept_pieces d.a width) (ascend_filter keep (pieces bs d.a width) (pieces-ascend bs d.a width))
        (λ x has. (let low = parts_above (suc n) events widths xs right x has in omega (arith, low))) right.ordered;
    paired = paired_one xs d d n (kept_pieces d.a width) other right.paired;
  }
    where
      origin : (x : Part) → Has (map (part_of d n) (kept_pieces d.a width) ++ xs) x →
          (i : ℕ) × (w : ℕ) × (x.number ≡ n + i) × (slice_get (d ∷ events) i ≡ Some x.origin) × (slice_get (width ∷ widths) i ≡ Some w) × Has (kept_pieces x.origin.a w) x.piece
      origin x has = elim (has_cases (map (part_of d n) (kept_pieces d.a width)) xs x has) [
        | inl own ↦ (
            let found = from_map (part_of d n) (kept_pieces d.a width) x own in
            let number = ap (λ (y : Part). y.number) found.2 in (
              0,
              width,
              omega (arith, number),
              ap (λ (y : Part). Some y.origin) found.2,
              refl,
              subst (λ (y : Part). Has (kept_pieces y.origin.a width) y.piece) found.2 found.1,
            )
            )
        | inr later ↦ (let rest = right.origin x later in let is = rest.2 in (suc rest.0, rest.1, omega (arith, is), rest.3, rest.4, rest.5))
      ]

      all : (i w : ℕ) (e : Event) (piece : ℕ × ℕ) → slice_get (d ∷ events) i ≡ Some e → slice_get (width ∷ widths) i ≡ Some w → Has (kept_pieces e.a w) piece →
          (x : Part) × Has (map (part_of d n) (kept_pieces d.a width) ++ xs) x × (x.number ≡ n + i) × (x.piece ≡ piece)
      all zero w e piece at at_w has =
          let own : Has (kept_pieces d.a width) piece =
          subst (λ (y : Event). Has (kept_pieces y.a width) piece) (sym (same_Some d e at)) (subst (λ k. Has (kept_pieces e.a k) piece) (sym (same_Some width w at_w)) has) in
          (part_of d n piece, has_left (map (part_of d n) (kept_pieces d.a width)) xs (part_of d n piece) (has_map (part_of d n) (kept_pieces d.a width) piece own), omega arith, refl)
      all (suc i) w e piece at at_w has =
          let rest = right.all i w e piece at at_w has in
          let is = rest.2 in
          (rest.0, has_right (map (part_of d n) (kept_pieces d.a width)) xs rest.0 rest.1, omega (arith, is), rest.3)

      placed : (i : ℕ) (e : Event) → slice_get (d ∷ events) i ≡ Some e → (w : ℕ) × (slice_get (width ∷ widths) i ≡ Some w) × IsPlace bytes bs e.a w
      placed zero e at = (width, refl, subst (λ (y : Event). IsPlace bytes bs y.a width) (same_Some d e at) place)
      placed (suc i) e at = right.placed i e at

  -- the pieces of one swap more
  pub swap_more : (n : ℕ) (events : List Event) (widths : List ℕ) (xs : List Part) (d e : Event) (width : ℕ) → IsPlace bytes bs d.a width → IsTrue d.load × IsTrue d.swap →
      (IsTrue e.load → ⊥) × (d.a ≡ e.a) →
      ArePartsOf (suc (suc n)) events widths xs → ArePartsOf n (d ∷ e ∷ events) (width ∷ width ∷ widths) (flat_map (parts_of_swap d e n) (kept_pieces d.a width) ++ xs)
  swap_more n events widths xs d e width place swap other right = record {
    origin = origin;
    all = all;
    placed = placed;
    ordered = ordered_swap xs d e n (kept_pieces d.a width) swap (ascend_filter keep (pieces bs d.a width) (pieces-ascend bs d.a width))
        (λ x has. (let low = parts_above (suc (suc n)) events widths xs right x has in omega (arith, low))) right.ordered;
    paired = paired_swap xs d e n (kept_pieces d.a width) other.0 right.paired;
  }
    where
      -- each of the swap
      one_of : (piece : ℕ × ℕ) (x : Part) → Has (kept_pieces d.a width) piece → Has (parts_of_swap d e n piece) x → Has (flat_map (parts_of_swap d e n) (kept_pieces d.a width) ++ xs) x
      one_of piece x own has = has_left (flat_map (parts_of_swap d e n) (kept_pieces d.a width)) xs x (has_flat (parts_of_swap d e n) (kept_pieces d.a width) piece x own has)

      origin : (x : Part) → Has (flat_map (parts_of_swap d e n) (kept_pieces d.a width) ++ xs) x →
          (i : ℕ) × (w : ℕ) × (x.number ≡ n + i) × (slice_get (d ∷ e ∷ events) i ≡ Some x.origin) × (slice_get (width ∷ width ∷ widths) i ≡ Some w) × Has (kept_pieces x.origin.a w) x.piece
      origin x has = elim (has_cases (flat_map (parts_of_swap d e n) (kept_pieces d.a width)) xs x has) [
        | inl own ↦ (let found = from_flat (parts_of_swap d e n) (kept_pieces d.a width) x own in by_half found.0 found.1 found.2)
        | inr later ↦ (let rest = right.origin x later in let is = rest.2 in (suc (suc rest.0), rest.1, omega (arith, is), rest.3, rest.4, rest.5))
      ]
        where
          by_half : (piece : ℕ × ℕ) → Has (kept_pieces d.a width) piece → Has (parts_of_swap d e n piece) x →
              (i : ℕ) × (w : ℕ) × (x.number ≡ n + i) × (slice_get (d ∷ e ∷ events) i ≡ Some x.origin) × (slice_get (width ∷ width ∷ widths) i ≡ Some w) × Has (kept_pieces x.origin.a w) x.piece
          by_half piece own (inl is) =
              let number = ap (λ (y : Part). y.number) is in
              (0, width, omega (arith, number), ap (λ (y : Part). Some y.origin) is, refl, subst (λ (y : Part). Has (kept_pieces y.origin.a width) y.piece) is own)
          by_half piece own (inr (inl is)) =
              let number = ap (λ (y : Part). y.number) is in (
                1,
                width,
                omega (arith, number),
                ap (λ (y : Part). Some y.origin) is,
                refl,
                subst (λ (y : Part). Has (kept_pieces y.origin.a width) y.piece) is (subst (λ a. Has (kept_pieces a width) piece) other.1 own),
              )
          by_half piece own (inr (inr none)) = absurd none

      all : (i w : ℕ) (f : Event) (piece : ℕ × ℕ) → slice_get (d ∷ e ∷ events) i ≡ Some f → slice_get (width ∷ width ∷ widths) i ≡ Some w → Has (kept_pieces f.a w) piece →
          (x : Part) × Has (flat_map (parts_of_swap d e n) (kept_pieces d.a width) ++ xs) x × (x.number ≡ n + i) × (x.piece ≡ piece)
      all zero w f piece at at_w has =
          let own : Has (kept_pieces d.a width) piece =
          subst (λ (y : Event). Has (kept_pieces y.a width) piece) (sym (same_Some d f at)) (subst (λ k. Has (kept_pieces f.a k) piece) (sym (same_Some width w at_w)) has) in
          (part_of d n piece, one_of piece (part_of d n piece) own (inl refl), omega arith, refl)
      all (suc zero) w f piece at at_w has =
          let own : Has (kept_pieces d.a width) piece =
          subst (λ a. Has (kept_pieces a width) piece) (sym other.1)
          (subst (λ (y : Event). Has (kept_pieces y.a width) piece) (sym (same_Some e f at)) (subst (λ k. Has (kept_pieces f.a k) piece) (sym (same_Some width w at_w)) has)) in
          (part_of e (suc n) piece, one_of piece (part_of e (suc n) piece) own (inr (inl refl)), omega arith, refl)
      all (suc (suc i)) w f piece at at_w has =
          let rest = right.all i w f piece at at_w has in
          let is = rest.2 in
          (rest.0, has_right (flat_map (parts_of_swap d e n) (kept_pieces d.a width)) xs rest.0 rest.1, omega (arith, is), rest.3)

      placed : (i : ℕ) (f : Event) → slice_get (d ∷ e ∷ events) i ≡ Some f → (w : ℕ) × (slice_get (width ∷ width ∷ widths) i ≡ Some w) × IsPlace bytes bs f.a w
      placed zero f at = (width, refl, subst (λ (y : Event). IsPlace bytes bs y.a width) (same_Some d f at) place)
      placed (suc zero) f at = (width, refl, subst (λ (y : Event). IsPlace bytes bs y.a width) (same_Some e f at) (subst (λ a. IsPlace bytes bs a width) other.1 place))
      placed (suc (suc i)) f at = right.placed i f at
