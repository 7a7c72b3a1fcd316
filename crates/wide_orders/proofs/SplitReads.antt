-- What a load reads in each cell of a piece, its piece reads.
use Rattle.std.proofs.Common.{◌≡◌, ◌⊎◌, ◌∙◌, ℕ, ◌<◌, ◌≤◌, Bool, true, false, List, Some, inl, inr, sym, ap, subst, arith}
use Rattle.tso_ops.specs.declared.events.Event.{Event}
use Rattle.tso_ops.specs.Settings.{first_value}
use Rattle.tso_ops.specs.Values.{TraceValue}
use Rattle.tso_ops.specs.Events.{event_at, IsEvent, IsLoad, IsStore, SameAddress, Earlier}
use Rattle.tso_ops.proofs.NumberFacts.{event_unique, load_event, store_event}
use Rattle.log_text.specs.Splits.{piece_value, pieces}
use Rattle.log_thinning.proofs.RankModels.{IsModelRank, Sees, ReadsLast}
use Rattle.wide_orders.specs.WideOrders.{has_cell, cell_value}
use Rattle.wide_orders.proofs.Members.{Has}
use Rattle.wide_orders.proofs.Pieces.{IsPiece, IsPlace, IsWithin, piece_of, of_place, shared_within, first_of_piece, cell_within}
use Rattle.wide_orders.proofs.PieceValues.{IsKind, same_in_piece}
use Rattle.wide_orders.proofs.Homes.{IsWideRank}
use Rattle.wide_orders.proofs.SplitRanks.{IsSplit, piece_event, piece_rank, store_there, same_part, seen_there, seen_here, last_kept, split_ranks}

module _ (t : TraceValue) (width : ℕ → ℕ) where
  -- the place of event n has the cell c
  abbrev pub AtCell : ℕ → ℕ → Type 0
  AtCell c n = (e : Event) × (event_at t n ≡ Some e) × (has_cell e.a (width n) c ≡ true)

  -- both events have some cell
  abbrev pub Share : ℕ → ℕ → Type 0
  Share m n = (c : ℕ) × AtCell c m × AtCell c n

  -- what event n has in the cell c
  abbrev pub CellIs : ℕ → ℕ → ℕ → Type 0
  CellIs c n value = (e : Event) × (event_at t n ≡ Some e) × (cell_value e.a (width n) e.value c ≡ value)

  -- load l sees store s at the cell c
  abbrev pub VisibleAt : (ℕ → ℕ) → ℕ → ℕ → ℕ → Type 0
  VisibleAt rank c s l = IsStore t s × AtCell c s × ((rank s ≤ rank l) ⊎ Earlier t s l)

  -- it reads there what the last store that it sees wrote
  abbrev pub ReadsAt : (ℕ → ℕ) → (ℕ → ℕ) → ℕ → ℕ → Type 0
  ReadsAt rank first c l =
      (CellIs c l (first c) × ((s : ℕ) → VisibleAt rank c s l → ⊥))
      ⊎ ((s : ℕ) × (value : ℕ) × VisibleAt rank c s l × CellIs c s value × CellIs c l value × ((other : ℕ) → VisibleAt rank c other l → rank other ≤ rank s))

-- one value is the first value of each cell of a piece
pub record HasOneFirst (bytes : Bool) (first : ℕ → ℕ) (value : ℕ) (piece : ℕ × ℕ) : Type 0 where
  pub a : ℕ
  pub width : ℕ
  pub v : ℕ
  pub kind : IsKind bytes width
  pub within : IsWithin piece a width
  pub is : value ≡ piece_value a v piece
  pub cells : (c : ℕ) → has_cell piece.0 piece.1 c ≡ true → first c ≡ cell_value a width v c

-- The trace u has the pieces of the accesses of the trace t, each of them that is left, and these know what they read.
pub record IsCut (t u : TraceValue) (width : ℕ → ℕ) (bytes : Bool) (bs : List ℕ) (rank first : ℕ → ℕ) (g : ℕ → ℕ) (part : ℕ → ℕ × ℕ) : Type 0 where
  pub split : IsSplit t u g part
  pub setting : u.setting.order ≡ t.setting.order
  pub places : (n : ℕ) (e : Event) → event_at t n ≡ Some e → IsPlace bytes bs e.a (width n)
  pub parts : (n : ℕ) (d : Event) → IsEvent u n → event_at t (g n) ≡ Some d → Has (pieces bs d.a (width (g n))) (part n)
  pub all : (n s : ℕ) (f : Event) → IsEvent u n → event_at t s ≡ Some f → Has (pieces bs f.a (width s)) (part n) → (m : ℕ) × IsEvent u m × (g m ≡ s) × (part m ≡ part n)
  pub reads : (n c : ℕ) → IsLoad u n → has_cell (part n).0 (part n).1 c ≡ true → ReadsAt t width rank first c (g n)
  pub firsts : (n : ℕ) → IsEvent u n → HasOneFirst bytes first (first_value u.setting.first (part n).0) (part n)

-- a place is one of its kind
pub kind_of_place : (bytes : Bool) (bs : List ℕ) (a width : ℕ) → IsPlace bytes bs a width → IsKind bytes width
kind_of_place true bs a width place = place.0
kind_of_place false bs a width place = place

module _ (t u : TraceValue) (width : ℕ → ℕ) (bytes : Bool) (bs : List ℕ) (rank first : ℕ → ℕ) (g : ℕ → ℕ) (part : ℕ → ℕ × ℕ)
    (cut : IsCut t u width bytes bs rank first g part) where
  -- a piece of the trace is one, and within its access
  part_is : (n : ℕ) (d : Event) → IsEvent u n → event_at t (g n) ≡ Some d → IsPiece bytes bs (part n) × IsWithin (part n) d.a (width (g n))
  part_is n d event at = piece_of bytes bs d.a (width (g n)) (cut.places (g n) d at) (part n) (cut.parts n d event at)

  -- its access has each of its cells
  access_at : (n c : ℕ) → IsEvent u n → has_cell (part n).0 (part n).1 c ≡ true → AtCell t width c (g n)
  access_at n c event has =
      let from = cut.split.comes n event.0 event.1 in
      (from.0, from.1, cell_within (part n) from.0.a (width (g n)) c (part_is n from.0 event from.1).1 has)

  -- accesses with pieces of one address share a cell
  pub pieces_share : (m n : ℕ) → SameAddress u m n → Share t width (g m) (g n)
  pieces_share m n address =
      let same = same_part t u g part cut.split m n address in (
        (part m).0,
        access_at m (part m).0 (address.0, address.2) (first_of_piece (part m)),
        access_at n (part m).0 (address.1, address.3) (subst (λ a. has_cell (part n).0 (part n).1 a ≡ true) (sym same) (first_of_piece (part n))),
      )

  module _ (right : IsWideRank t (Share t width) rank) (bound : ℕ) (below : (n : ℕ) → rank n < bound) where
    -- the order of the pieces
    abbrev new : ℕ → ℕ
    new = piece_rank t u g part cut.split (Share t width) rank right bound below

    module _ (n : ℕ) (load : IsLoad u n) where
      -- the load of the access
      event : IsEvent u n
      event = load_event u n load

      abbrev access : Event
      access = (cut.split.comes n load.0 load.1).0

      access_is : event_at t (g n) ≡ Some access
      access_is = (cut.split.comes n load.0 load.1).1

      value_is : load.0 ≡ piece_event access (part n)
      value_is = (cut.split.comes n load.0 load.1).2

      is_piece : IsPiece bytes bs (part n)
      is_piece = (part_is n access event access_is).0

      within : IsWithin (part n) access.a (width (g n))
      within = (part_is n access event access_is).1

      kind : IsKind bytes (width (g n))
      kind = kind_of_place bytes bs access.a (width (g n)) (cut.places (g n) access access_is)

      -- what has a cell of the piece has all of them
      covers : (s : ℕ) (f : Event) (c : ℕ) → event_at t s ≡ Some f → has_cell (part n).0 (part n).1 c ≡ true → has_cell f.a (width s) c ≡ true → IsWithin (part n) f.a (width s)
      covers s f c at here there = shared_within bytes bs f.a (width s) (cut.places s f at) (part n) is_piece c here there

      -- so a store that is seen at one cell is seen at each
      seen_at : (s c c' : ℕ) → has_cell (part n).0 (part n).1 c ≡ true → has_cell (part n).0 (part n).1 c' ≡ true → VisibleAt t width rank c s (g n) → VisibleAt t width rank c' s (g n)
      seen_at s c c' here there (store, (f, at, has), seen) = (store, (f, at, cell_within (part n) f.a (width s) c' (covers s f c at here has) there), seen)

      -- the first cell
      here : has_cell (part n).0 (part n).1 (part n).0 ≡ true
      here = first_of_piece (part n)

      -- what the piece sees its access sees there
      access_sees : (o : ℕ) → Sees u new o n → VisibleAt t width rank (part n).0 (g o) (g n)
      access_sees o seen =
          let same = same_part t u g part cut.split o n seen.1 in (
            store_there t u g part cut.split o seen.0,
            access_at o (part n).0 (store_event u o seen.0) (subst (λ a. has_cell (part o).0 (part o).1 a ≡ true) same (first_of_piece (part o))),
            seen_there t u g part cut.split (Share t width) rank right bound below o n load seen,
          )

      -- the access reads in each cell what this place has there
      abbrev ReadsFrom : ℕ → ℕ → ℕ → Type 0
      ReadsFrom a w v = (c : ℕ) → has_cell (part n).0 (part n).1 c ≡ true → cell_value access.a (width (g n)) access.value c ≡ cell_value a w v c

      -- so its piece reads what the place has in the piece
      reads_piece : (a w v : ℕ) → IsKind bytes w → IsWithin (part n) a w → ReadsFrom a w v → load.0.value ≡ piece_value a v (part n)
      reads_piece a w v other inside same =
          ap (λ (x : Event). x.value) value_is ∙ same_in_piece bytes bs (part n) is_piece access.a (width (g n)) access.value a w v kind other within inside same

      -- the access reads first values
      first_read : ((s : ℕ) → VisibleAt t width rank (part n).0 s (g n) → ⊥) → ReadsLast u new n
      first_read none =
          let start = cut.firsts n event in
          let address = ap (λ (x : Event). x.a) value_is in
          inl (
            (load.0, load.1, reads_piece start.a start.width start.v start.kind start.within (cells start) ∙ sym start.is ∙ ap (first_value u.setting.first) (sym address)),
            λ o seen. none (g o) (access_sees o seen),
          )
        where
          cells : (start : HasOneFirst bytes first (first_value u.setting.first (part n).0) (part n)) → ReadsFrom start.a start.width start.v
          cells start c has = elim (cut.reads n c load has) [
            | inl is ↦ (
                let one : is.0.0 ≡ access = event_unique t (g n) is.0.0 access is.0.1 access_is in
                ap (λ (x : Event). cell_value x.a (width (g n)) x.value c) (sym one) ∙ is.0.2 ∙ start.cells c has
                )
            | inr seen ↦ absurd (none seen.0 (seen_at seen.0 c (part n).0 has here seen.2))
          ]

      -- the access reads what store s wrote
      store_read : (s : ℕ) → VisibleAt t width rank (part n).0 s (g n) → ((other : ℕ) → VisibleAt t width rank (part n).0 other (g n) → rank other ≤ rank s) → ReadsLast u new n
      store_read s (store, (f, at, has), seen) last = found (cut.all n s f event at (of_place bytes bs f.a (width s) (cut.places s f at) (part n) is_piece inside))
        where
          inside : IsWithin (part n) f.a (width s)
          inside = covers s f (part n).0 at here has

          cells : ReadsFrom f.a (width s) f.value
          cells c there = elim (cut.reads n c load there) [
            | inl is ↦ absurd (is.1 s (seen_at s (part n).0 c here there (store, (f, at, has), seen)))
            | inr is ↦ (
                let low = last is.0 (seen_at is.0 c (part n).0 there here is.2) in
                let high = is.5 s (seen_at s (part n).0 c here there (store, (f, at, has), seen)) in
                let one : is.0 ≡ s = right.apart is.0 s (store_event t is.0 is.2.0) (store_event t s store) (omega (arith, low, high)) in
                let wrote = is.3 in
                let read = is.4 in
                let same_load : read.0 ≡ access = event_unique t (g n) read.0 access read.1 access_is in
                let same_store : wrote.0 ≡ f = event_unique t s wrote.0 f (subst (λ k. event_at t k ≡ Some wrote.0) one wrote.1) at in
                ap (λ (x : Event). cell_value x.a (width (g n)) x.value c) (sym same_load) ∙ read.2 ∙ sym wrote.2
                ∙ ap (λ k. cell_value wrote.0.a (width k) wrote.0.value c) one ∙ ap (λ (x : Event). cell_value x.a (width s) x.value c) same_store
                )
          ]

          found : (m : ℕ) × IsEvent u m × (g m ≡ s) × (part m ≡ part n) → ReadsLast u new n
          found (m, (e, e_at), is, same) =
              let from = cut.split.comes m e e_at in
              let one : from.0 ≡ f = event_unique t s from.0 f (subst (λ k. event_at t k ≡ Some from.0) is from.1) at in
              let of_f : e ≡ piece_event f (part n) = from.2 ∙ ap (λ (x : Event). piece_event x (part m)) one ∙ ap (piece_event f) same in
              let f_stores : f.load ≡ false = ap (λ (x : Event). x.load) (event_unique t s f store.0 at store.1) ∙ store.2 in
              let store_m : IsStore u m = (e, e_at, ap (λ (x : Event). x.load) of_f ∙ f_stores) in
              let address : SameAddress u m n = (e, load.0, e_at, load.1, ap (λ (x : Event). x.a) of_f ∙ sym (ap (λ (x : Event). x.a) value_is)) in
              let read = reads_piece f.a (width s) f.value (kind_of_place bytes bs f.a (width s) (cut.places s f at)) inside cells in
              inr (
                m,
                seen_here t u g part cut.split (Share t width) rank right bound below m n store_m load address (subst (λ k. (rank k ≤ rank (g n)) ⊎ Earlier t k (g n)) (sym is) seen),
                (e, load.0, e_at, load.1, ap (λ (x : Event). x.value) of_f ∙ sym read),
                λ o o_seen. last_kept t u g part cut.split (Share t width) rank right bound below o m o_seen.0 store_m
                    (o_seen.1.0, e, o_seen.1.2, e_at, o_seen.1.4 ∙ ap (λ (x : Event). x.a) (event_unique u n o_seen.1.1 load.0 o_seen.1.3 load.1) ∙ sym address.4)
                    (subst (λ k. rank (g o) ≤ rank k) (sym is) (last (g o) (access_sees o o_seen))),
              )

      -- so the piece reads what it should
      piece_reads : ReadsLast u new n
      piece_reads = elim (cut.reads n (part n).0 load here) [
        | inl is ↦ first_read is.1
        | inr is ↦ store_read is.0 is.2 is.5
      ]

    -- the order of the pieces meets the axioms
    pub cut_ranks : IsModelRank u (piece_rank t u g part cut.split (Share t width) rank right bound below)
    cut_ranks = split_ranks t u g part cut.split (Share t width) rank right bound below cut.setting pieces_share piece_reads
