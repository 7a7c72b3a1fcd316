-- What is cut out of a log is a selection of it.
use Rattle.std.proofs.Common.{◌≡◌, ◌↔◌, ⊎_elim, ℕ, zero, suc, ◌+◌, ◌<◌, IsTrue, List, [], ◌∷◌, Some, slice_get, get_or, false, eqb, refl, sym, ap, subst, ◌∙◌, arith}
use Rattle.std.specs.List.{IsDistinct, AllByRecursion}
use Rattle.std.proofs.lemmas.Bool.{cases_lt}
use Rattle.std.proofs.lemmas.Bool.Decides.{nat_tests}
use Rattle.std.proofs.lemmas.Map.Keys.{IsDistinct-head, IsDistinct-tail}
use Rattle.std.proofs.lemmas.Option.{same_Some}
use Rattle.tso_ops.proofs.EventFacts.{each-at}
use Rattle.tso_ops.specs.declared.events.Event.{Event}
use Rattle.tso_ops.specs.Values.{TraceValue}
use Rattle.tso_ops.specs.Events.{events_of, event_at, IsEvent, IsLoad, IsStore, IsSwapLoad, SameAddress, Earlier, HasFewerBarriersBefore, HasFewerStbarsBefore}
use Rattle.tso_ops.proofs.NumberFacts.{event_unique}
use Rattle.log_selections.specs.Selections.{IsSelectionBy, IsSelection}
use Rattle.log_selections.specs.Cuts.{origin_in, IsCutBy, IsCut}
use Rattle.log_selections.proofs.CutEvents.{IsEventFrom, found_event, found_events}
use Rattle.log_selections.proofs.CutLists.{cut_events}

-- the first number doesn't stand among the others of such a list
not_again : (x : ℕ) (xs : List ℕ) → AllByRecursion (λ y. eqb x y ≡ false) xs → (c a : ℕ) → Some x ≡ Some a → slice_get xs c ≡ Some a → ⊥
not_again x xs others c a first second =
    let same : x ≡ a = same_Some x a first in
    let differs : eqb x a ≡ false = each-at (λ y. eqb x y ≡ false) xs c a second others in
    grind (arith, nat_tests)

-- a number stands at one place of a list that has each once
one_place : (xs : List ℕ) → IsDistinct eqb xs → (b c a : ℕ) → slice_get xs b ≡ Some a → slice_get xs c ≡ Some a → b ≡ c
one_place [] distinct b c a first second = absurd cc
one_place (x ∷ xs) distinct zero zero a first second = refl
one_place (x ∷ xs) distinct zero (suc c) a first second = absurd (not_again x xs (IsDistinct-head eqb x xs distinct) c a first second)
one_place (x ∷ xs) distinct (suc b) zero a first second = absurd (not_again x xs (IsDistinct-head eqb x xs distinct) b a second first)
one_place (x ∷ xs) distinct (suc b) (suc c) a first second = ap suc (one_place xs (IsDistinct-tail eqb x xs distinct) b c a first second)

-- a number found among the origins
origin_got : (origins : List ℕ) (k n : ℕ) → slice_get origins k ≡ Some n → get_or origins k 0 ≡ n
origin_got [] k n at = absurd cc
origin_got (x ∷ rest) zero n at = cc
origin_got (x ∷ rest) (suc k) n at = origin_got rest k n at

module _ (log t : TraceValue) (addresses origins : List ℕ) (cut : IsCutBy log t addresses origins) where
  abbrev origin : ℕ → ℕ
  origin n = origin_in origins n

  -- the event of the log that event n of the trace comes from
  record HasOrigin (n : ℕ) (e : Event) : Type 0 where
    d : Event
    at : event_at log (origin n) ≡ Some d
    like : IsEventFrom addresses d e
    swap : IsTrue e.load → IsTrue e.swap → IsTrue d.swap × (origin (suc n) ≡ suc (origin n))

  has_origin : (n : ℕ) (e : Event) → event_at t n ≡ Some e → HasOrigin n e
  unfolding event_at events_of
  has_origin zero e at = absurd cc
  has_origin (suc k) e at =
      let found = found_event addresses 0 0 1 0 0 (events_of log) (events_of t) origins (cut_events addresses log.lists t.lists origins cut.lists) k e at in
      let here : origin (suc k) ≡ suc found.j = origin_got origins k (1 + found.j) found.origin ∙ omega arith in
      record {
        d = found.d;
        at = subst (λ n. event_at log n ≡ Some found.d) (sym here) found.at;
        like = found.like;
        swap = λ is_load is_swap.
            let after = found.swap is_load is_swap in
            (after.0, origin_got origins (suc k) (suc (1 + found.j)) after.1 ∙ omega (arith, here));
      }

  -- the events of the log that two events of the trace come from
  record HaveOrigins (u v : ℕ) (e f : Event) : Type 0 where
    c : Event
    d : Event
    first : event_at log (origin u) ≡ Some c
    second : event_at log (origin v) ≡ Some d
    before : origin u < origin v
    proc : e.proc ≡ f.proc ↔ c.proc ≡ d.proc
    barriers : e.proc ≡ f.proc → e.bars < f.bars → c.bars < d.bars
    stbars : e.proc ≡ f.proc → e.stbars < f.stbars → c.stbars < d.stbars

  have_origins : (u v : ℕ) (e f : Event) → u < v → event_at t u ≡ Some e → event_at t v ≡ Some f → HaveOrigins u v e f
  unfolding event_at events_of
  have_origins zero v e f before at_u at_v = absurd cc
  have_origins (suc k) zero e f before at_u at_v = absurd (omega arith)
  have_origins (suc k) (suc m) e f before at_u at_v =
      let found = found_events addresses 0 0 1 0 0 (events_of log) (events_of t) origins (cut_events addresses log.lists t.lists origins cut.lists) k m e f (omega arith) at_u at_v in
      let first : origin (suc k) ≡ suc found.i = origin_got origins k (1 + found.i) found.first_origin ∙ omega arith in
      let second : origin (suc m) ≡ suc found.j = origin_got origins m (1 + found.j) found.second_origin ∙ omega arith in
      let below = found.before in
      record {
        c = found.c;
        d = found.d;
        first = subst (λ n. event_at log n ≡ Some found.c) (sym first) found.first_at;
        second = subst (λ n. event_at log n ≡ Some found.d) (sym second) found.second_at;
        before = omega (arith, first, second, below);
        proc = found.proc;
        barriers = found.barriers;
        stbars = found.stbars;
      }

  -- of two events the one before has the lesser origin
  origin_below : (u v : ℕ) → IsEvent t u → IsEvent t v → u < v → origin u < origin v
  origin_below u v (e, at_u) (f, at_v) before = let origins = have_origins u v e f before at_u at_v in origins.before

  below_of_origins : (u v : ℕ) → IsEvent t u → IsEvent t v → origin u < origin v → u < v
  below_of_origins u v event_u event_v below =
      ⊎_elim (λ before. before)
      (λ not_before. ⊎_elim (λ after. let other = origin_below v u event_v event_u after in absurd (omega (arith, other, below)))
      (λ not_after. let same : u ≡ v = omega arith in let one = ap origin same in absurd (omega (arith, one, below))) (cases_lt v u))
      (cases_lt u v)

  once : (u v : ℕ) → IsEvent t u → IsEvent t v → origin u ≡ origin v → u ≡ v
  once u v event_u event_v same =
      ⊎_elim (λ before. let below = origin_below u v event_u event_v before in absurd (omega (arith, below, same)))
      (λ not_before. ⊎_elim (λ after. let below = origin_below v u event_v event_u after in absurd (omega (arith, below, same))) (λ not_after. omega arith) (cases_lt v u))
      (cases_lt u v)

  loads : (n : ℕ) → IsLoad t n → IsLoad log (origin n)
  loads n (e, at, is) = let from = has_origin n e at in (from.d, from.at, sym from.like.load ∙ is)

  stores : (n : ℕ) → IsStore t n → IsStore log (origin n)
  stores n (e, at, is) = let from = has_origin n e at in (from.d, from.at, sym from.like.load ∙ is)

  program_order : (u v : ℕ) → IsEvent t u → IsEvent t v → Earlier t u v ↔ Earlier log (origin u) (origin v)
  program_order u v (e, at_u) (f, at_v) = (
    λ (d1, d2, got_u, got_v, one, before).
        let pair = have_origins u v d1 d2 before got_u got_v in
        (pair.c, pair.d, pair.first, pair.second, pair.proc.0 one, pair.before),
    λ (d1, d2, got_u, got_v, one, below).
        let before = below_of_origins u v (e, at_u) (f, at_v) below in
        let pair = have_origins u v e f before at_u at_v in
        let first = event_unique log (origin u) pair.c d1 pair.first got_u in
        let second = event_unique log (origin v) pair.d d2 pair.second got_v in
        (e, f, at_u, at_v, pair.proc.1 (ap (λ (x : Event). x.proc) first ∙ one ∙ ap (λ (x : Event). x.proc) (sym second)), before),
  )

  same_addresses : (u v : ℕ) → IsEvent t u → IsEvent t v → SameAddress t u v ↔ SameAddress log (origin u) (origin v)
  same_addresses u v (e, at_u) (f, at_v) = (
    λ same.
        let first = has_origin u same.0 same.2 in
        let second = has_origin v same.1 same.3 in
        let gives = sym first.like.address ∙ ap (slice_get addresses) same.4 ∙ second.like.address in
        (first.d, second.d, first.at, second.at, same_address first.d.a second.d.a gives),
    λ same.
        let first = has_origin u e at_u in
        let second = has_origin v f at_v in
        let one = event_unique log (origin u) first.d same.0 first.at same.2 in
        let other = event_unique log (origin v) second.d same.1 second.at same.3 in
        let address : second.d.a ≡ first.d.a = ap (λ (x : Event). x.a) other ∙ sym same.4 ∙ ap (λ (x : Event). x.a) (sym one) in
        (e, f, at_u, at_v, one_place addresses cut.distinct e.a f.a first.d.a first.like.address (second.like.address ∙ ap (λ a. Some a) address)),
  )
    where
      same_address : (a b : ℕ) → Some a ≡ Some b → a ≡ b
      same_address a b same = cc

  -- a barrier between two of the trace's events is one between the log's
  module _ (u v : ℕ) (earlier : Earlier t u v) where
    pair : HaveOrigins u v earlier.0 earlier.1
    pair = have_origins u v earlier.0 earlier.1 earlier.5 earlier.2 earlier.3

    fewer_barriers : HasFewerBarriersBefore t u v → HasFewerBarriersBefore log (origin u) (origin v)
    fewer_barriers (e, f, at_u, at_v, fewer) =
        let one = event_unique t u e earlier.0 at_u earlier.2 in
        let other = event_unique t v f earlier.1 at_v earlier.3 in
        (pair.c, pair.d, pair.first, pair.second, pair.barriers earlier.4 (subst (λ (x : Event). earlier.0.bars < x.bars) other (subst (λ (x : Event). x.bars < f.bars) one fewer)))

    fewer_stbars : HasFewerStbarsBefore t u v → HasFewerStbarsBefore log (origin u) (origin v)
    fewer_stbars (e, f, at_u, at_v, fewer) =
        let one = event_unique t u e earlier.0 at_u earlier.2 in
        let other = event_unique t v f earlier.1 at_v earlier.3 in
        (pair.c, pair.d, pair.first, pair.second, pair.stbars earlier.4 (subst (λ (x : Event). earlier.0.stbars < x.stbars) other (subst (λ (x : Event). x.stbars < f.stbars) one fewer)))

  swaps : (l : ℕ) → IsSwapLoad t l → IsSwapLoad log (origin l) × (origin (suc l) ≡ suc (origin l))
  swaps l (e, at, is_load, is_swap) =
      let from = has_origin l e at in
      let after = from.swap is_load is_swap in
      ((from.d, from.at, sym from.like.load ∙ is_load, after.0), after.1)

  selection_by : IsSelectionBy log t (origin_in origins)
  selection_by = record {
    model = cut.model;
    load = loads;
    store = stores;
    once = once;
    program_order = program_order;
    addresses = same_addresses;
    barriers = fewer_barriers;
    stbars = fewer_stbars;
    swap = swaps;
    init = refl;
    source = cut.sources;
  }

pub cut_selection : (log t : TraceValue) → IsCut log t → IsSelection log t
cut_selection log t (addresses, origins, cut) = (origin_in origins, selection_by log t addresses origins cut)
