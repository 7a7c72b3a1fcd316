-- The events of what is cut out of a log, beside the log's events that they come from.
use Rattle.std.proofs.Common.{◌≡◌, ◌↔◌, ℕ, zero, suc, ◌+◌, ◌<◌, ◌≤◌, IsTrue, List, [], ◌∷◌, Some, slice_get, refl, subst, ◌∙◌, arith}
use Rattle.tso_ops.specs.declared.events.Event.{Event}

-- the event e of the trace is the log's event d, with another address and value
pub record IsEventFrom (addresses : List ℕ) (d e : Event) : Type 0 where
  pub load : e.load ≡ d.load
  pub address : slice_get addresses e.a ≡ Some d.a

-- The events `es` are some of the log's events `ds`, of which the first has number n, and `origins` has their numbers. The trace's are of processors
-- from the pth on, the log's that they come from are from its qth on, and the pth is cut out of the qth. Before those of the pth at least `bars`
-- barriers and `stbars` STBARs are left out. Processors are counted from 1 here.
pub data AreEventsFrom (addresses : List ℕ) : ℕ → ℕ → ℕ → ℕ → ℕ → List Event → List Event → List ℕ → Type 0 where
  none : (p q n bars stbars : ℕ) → AreEventsFrom addresses p q n bars stbars [] [] []
  skip : (p q n bars stbars : ℕ) (d : Event) (ds es : List Event) (origins : List ℕ) → AreEventsFrom addresses p q (suc n) bars stbars ds es origins
      → AreEventsFrom addresses p q n bars stbars (d ∷ ds) es origins
  take : (p q n bars stbars more most : ℕ) (d e : Event) (ds es : List Event) (origins : List ℕ) → IsEventFrom addresses d e → suc e.proc ≡ p → suc d.proc ≡ q
      → bars ≤ more → stbars ≤ most → d.bars ≡ e.bars + more → d.stbars ≡ e.stbars + most
      → (IsTrue e.load → IsTrue e.swap → IsTrue d.swap × (slice_get origins 0 ≡ Some (suc n)))
      → AreEventsFrom addresses p q (suc n) more most ds es origins → AreEventsFrom addresses p q n bars stbars (d ∷ ds) (e ∷ es) (n ∷ origins)
  next : (p q later after n bars stbars : ℕ) (ds es : List Event) (origins : List ℕ) → p < later → q < after
      → AreEventsFrom addresses later after n 0 0 ds es origins → AreEventsFrom addresses p q n bars stbars ds es origins

module _ (addresses : List ℕ) where
  -- The event of place k is the log's event of place j. After a swap's load the swap's store follows in both.
  pub record IsFound (p q n bars stbars : ℕ) (ds : List Event) (origins : List ℕ) (k : ℕ) (e : Event) : Type 0 where
    pub j : ℕ
    pub d : Event
    pub origin : slice_get origins k ≡ Some (n + j)
    pub at : slice_get ds j ≡ Some d
    pub like : IsEventFrom addresses d e
    pub proc : suc e.proc ≡ p ↔ suc d.proc ≡ q
    pub above : (p ≤ suc e.proc) × (q ≤ suc d.proc)
    pub barriers : suc e.proc ≡ p → (e.bars + bars ≤ d.bars) × (e.stbars + stbars ≤ d.stbars)
    pub swap : IsTrue e.load → IsTrue e.swap → IsTrue d.swap × (slice_get origins (suc k) ≡ Some (suc (n + j)))

  same_number : (m n : ℕ) (origins : List ℕ) (k : ℕ) → m ≡ n → slice_get origins k ≡ Some m → slice_get origins k ≡ Some n
  same_number m n origins k same at = subst (λ x. slice_get origins k ≡ Some x) same at

  pub found_event : (p q n bars stbars : ℕ) (ds es : List Event) (origins : List ℕ) → AreEventsFrom addresses p q n bars stbars ds es origins
      → (k : ℕ) (e : Event) → slice_get es k ≡ Some e → IsFound p q n bars stbars ds origins k e
  found_event p q n bars stbars ds es origins (none p1 q1 n1 bars1 stbars1) k e at = absurd cc
  found_event p q n bars stbars ds es origins (skip p1 q1 n1 bars1 stbars1 d ds1 es1 origins1 rest) k e at =
      let found = found_event p1 q1 (suc n1) bars1 stbars1 ds1 es1 origins1 rest k e at in
      record {
        j = suc found.j;
        d = found.d;
        origin = same_number (suc n1 + found.j) (n1 + suc found.j) origins1 k (omega arith) found.origin;
        at = found.at;
        like = found.like;
        proc = found.proc;
        above = found.above;
        barriers = found.barriers;
        swap = λ is_load is_swap. let after = found.swap is_load is_swap in
            (after.0, same_number (suc (suc n1 + found.j)) (suc (n1 + suc found.j)) origins1 (suc k) (omega arith) after.1);
      }
  found_event p q n bars stbars ds es origins (take p1 q1 n1 bars1 stbars1 more most d e1 ds1 es1 origins1 like of_p of_q low low_st is is_st swaps rest) zero e at =
      let same : e1 ≡ e = cc in
      subst (IsFound p1 q1 n1 bars1 stbars1 (d ∷ ds1) (n1 ∷ origins1) 0) same
      (record {
        j = 0;
        d = d;
        origin = same_number n1 (n1 + 0) (n1 ∷ origins1) 0 (omega arith) refl;
        at = refl;
        like = like;
        proc = (λ here. of_q, λ here. of_p);
        above = (omega arith, omega arith);
        barriers = λ here. (omega arith, omega arith);
        swap = λ is_load is_swap. let after = swaps is_load is_swap in
            (after.0, same_number (suc n1) (suc (n1 + 0)) (n1 ∷ origins1) 1 (omega arith) after.1);
      })
  found_event p q n bars stbars ds es origins (take p1 q1 n1 bars1 stbars1 more most d e1 ds1 es1 origins1 like of_p of_q low low_st is is_st swaps rest) (suc k) e at =
      let found = found_event p1 q1 (suc n1) more most ds1 es1 origins1 rest k e at in
      record {
        j = suc found.j;
        d = found.d;
        origin = same_number (suc n1 + found.j) (n1 + suc found.j) origins1 k (omega arith) found.origin;
        at = found.at;
        like = found.like;
        proc = found.proc;
        above = found.above;
        barriers = λ here. let kept = found.barriers here in (omega (arith, kept.0, low), omega (arith, kept.1, low_st));
        swap = λ is_load is_swap. let after = found.swap is_load is_swap in
            (after.0, same_number (suc (suc n1 + found.j)) (suc (n1 + suc found.j)) origins1 (suc k) (omega arith) after.1);
      }
  found_event p q n bars stbars ds es origins (next p1 q1 later after n1 bars1 stbars1 ds1 es1 origins1 above above_log rest) k e at =
      let found = found_event later after n1 0 0 ds1 es1 origins1 rest k e at in
      let from = found.above in
      record {
        j = found.j;
        d = found.d;
        origin = found.origin;
        at = found.at;
        like = found.like;
        proc = (λ here. absurd (omega (arith, above, from.0, here)), λ here. absurd (omega (arith, above_log, from.1, here)));
        above = (omega (arith, above, from.0), omega (arith, above_log, from.1));
        barriers = λ here. absurd (omega (arith, above, from.0, here));
        swap = found.swap;
      }

  -- Of two events the first comes from the first of two of the log's. They are of one processor where these are, and then a barrier between them is
  -- one between these.
  pub record AreFound (n : ℕ) (ds : List Event) (origins : List ℕ) (k m : ℕ) (e f : Event) : Type 0 where
    pub i : ℕ
    pub j : ℕ
    pub c : Event
    pub d : Event
    pub first_origin : slice_get origins k ≡ Some (n + i)
    pub second_origin : slice_get origins m ≡ Some (n + j)
    pub first_at : slice_get ds i ≡ Some c
    pub second_at : slice_get ds j ≡ Some d
    pub before : i < j
    pub proc : e.proc ≡ f.proc ↔ c.proc ≡ d.proc
    pub barriers : e.proc ≡ f.proc → e.bars < f.bars → c.bars < d.bars
    pub stbars : e.proc ≡ f.proc → e.stbars < f.stbars → c.stbars < d.stbars

  -- with an event of the log prepended
  both_later : (n : ℕ) (d : Event) (ds : List Event) (origins later : List ℕ) (k m k1 m1 : ℕ) (e f : Event)
      → slice_get later k1 ≡ slice_get origins k → slice_get later m1 ≡ slice_get origins m
      → AreFound (suc n) ds origins k m e f → AreFound n (d ∷ ds) later k1 m1 e f
  both_later n d ds origins later k m k1 m1 e f first second found = record {
    i = suc found.i;
    j = suc found.j;
    c = found.c;
    d = found.d;
    first_origin = first ∙ same_number (suc n + found.i) (n + suc found.i) origins k (omega arith) found.first_origin;
    second_origin = second ∙ same_number (suc n + found.j) (n + suc found.j) origins m (omega arith) found.second_origin;
    first_at = found.first_at;
    second_at = found.second_at;
    before = let before = found.before in omega arith;
    proc = found.proc;
    barriers = found.barriers;
    stbars = found.stbars;
  }

  pub found_events : (p q n bars stbars : ℕ) (ds es : List Event) (origins : List ℕ) → AreEventsFrom addresses p q n bars stbars ds es origins
      → (k m : ℕ) (e f : Event) → k < m → slice_get es k ≡ Some e → slice_get es m ≡ Some f → AreFound n ds origins k m e f
  found_events p q n bars stbars ds es origins (none p1 q1 n1 bars1 stbars1) k m e f before at_k at_m = absurd cc
  found_events p q n bars stbars ds es origins (skip p1 q1 n1 bars1 stbars1 d ds1 es1 origins1 rest) k m e f before at_k at_m =
      both_later n1 d ds1 origins1 origins1 k m k m e f refl refl (found_events p1 q1 (suc n1) bars1 stbars1 ds1 es1 origins1 rest k m e f before at_k at_m)
  found_events p q n bars stbars ds es origins (take p1 q1 n1 bars1 stbars1 more most d e1 ds1 es1 origins1 like of_p of_q low low_st is is_st swaps rest) k zero e f before at_k at_m =
      absurd (omega arith)
  found_events p q n bars stbars ds es origins (take p1 q1 n1 bars1 stbars1 more most d e1 ds1 es1 origins1 like of_p of_q low low_st is is_st swaps rest) zero (suc m) e f before at_k at_m =
      let found = found_event p1 q1 (suc n1) more most ds1 es1 origins1 rest m f at_m in
      let same : e1 ≡ e = cc in
      subst (λ x. AreFound n1 (d ∷ ds1) (n1 ∷ origins1) 0 (suc m) x f) same
      (record {
        i = 0;
        j = suc found.j;
        c = d;
        d = found.d;
        first_origin = same_number n1 (n1 + 0) (n1 ∷ origins1) 0 (omega arith) refl;
        second_origin = same_number (suc n1 + found.j) (n1 + suc found.j) origins1 m (omega arith) found.origin;
        first_at = refl;
        second_at = found.at;
        before = omega arith;
        proc = (
          λ one. let here = found.proc.0 (omega (arith, one, of_p)) in omega (arith, here, of_q),
          λ one. let here = found.proc.1 (omega (arith, one, of_q)) in omega (arith, here, of_p),
        );
        barriers = λ one fewer. let kept = (found.barriers (omega (arith, one, of_p))).0 in omega (arith, kept, is, fewer);
        stbars = λ one fewer. let kept = (found.barriers (omega (arith, one, of_p))).1 in omega (arith, kept, is_st, fewer);
      })
  found_events p q n bars stbars ds es origins (take p1 q1 n1 bars1 stbars1 more most d e1 ds1 es1 origins1 like of_p of_q low low_st is is_st swaps rest) (suc k) (suc m) e f before at_k at_m =
      both_later n1 d ds1 origins1 (n1 ∷ origins1) k m (suc k) (suc m) e f refl refl
      (found_events p1 q1 (suc n1) more most ds1 es1 origins1 rest k m e f (omega arith) at_k at_m)
  found_events p q n bars stbars ds es origins (next p1 q1 later after n1 bars1 stbars1 ds1 es1 origins1 above above_log rest) k m e f before at_k at_m =
      found_events later after n1 0 0 ds1 es1 origins1 rest k m e f before at_k at_m
