-- The events of lists of operations, from one operation of a processor on.
use Rattle.std.proofs.Common.{◌≡◌, ◌∙◌, ℕ, zero, suc, ◌+◌, ◌<◌, List, [], ◌∷◌, ◌++◌, length, slice_get, refl, sym, ap, append_assoc, arith}
use Rattle.tso_ops.specs.declared.ops.Outcome.{Outcome}
use Rattle.tso_ops.specs.declared.ops.Outcome.TheVariants.{Ld, St, Sw, Mb, Sb}
use Rattle.tso_ops.specs.declared.events.Event.{Event}
use Rattle.tso_ops.specs.Values.{TraceValue}
use Rattle.tso_ops.specs.Events.{events_from, events_of_lists, events_of, event_at}

-- how many barriers stand before what follows these operations, with so many before them
abbrev pub bars_over : ℕ → List Outcome → ℕ
bars_over bars [] = bars
bars_over bars (Ld a r ∷ ops) = bars_over bars ops
bars_over bars (St a v ∷ ops) = bars_over bars ops
bars_over bars (Sw a r v ∷ ops) = bars_over bars ops
bars_over bars (Mb ∷ ops) = bars_over (suc bars) ops
bars_over bars (Sb ∷ ops) = bars_over bars ops

-- and how many STBARs
abbrev pub stbars_over : ℕ → List Outcome → ℕ
stbars_over stbars [] = stbars
stbars_over stbars (Ld a r ∷ ops) = stbars_over stbars ops
stbars_over stbars (St a v ∷ ops) = stbars_over stbars ops
stbars_over stbars (Sw a r v ∷ ops) = stbars_over stbars ops
stbars_over stbars (Mb ∷ ops) = stbars_over stbars ops
stbars_over stbars (Sb ∷ ops) = stbars_over (suc stbars) ops

-- the rest of a list changed
more : (e : Event) (xs ys : List Event) → xs ≡ ys → e ∷ xs ≡ e ∷ ys
more e xs ys same = ap (λ es. e ∷ es) same

-- the events of operations and of more of them
pub events_from-append : (p bars stbars : ℕ) (xs ys : List Outcome) →
    events_from p bars stbars (xs ++ ys) ≡ events_from p bars stbars xs ++ events_from p (bars_over bars xs) (stbars_over stbars xs) ys
events_from-append p bars stbars [] ys = refl
events_from-append p bars stbars (Ld a r ∷ xs) ys = more _ _ _ (events_from-append p bars stbars xs ys)
events_from-append p bars stbars (St a v ∷ xs) ys = more _ _ _ (events_from-append p bars stbars xs ys)
events_from-append p bars stbars (Sw a r v ∷ xs) ys = more _ _ _ (more _ _ _ (events_from-append p bars stbars xs ys))
events_from-append p bars stbars (Mb ∷ xs) ys = events_from-append p (suc bars) stbars xs ys
events_from-append p bars stbars (Sb ∷ xs) ys = events_from-append p bars (suc stbars) xs ys

-- the events of processors, of one more and of those behind it
events_of_lists-append : (p : ℕ) (before : List (List Outcome)) (ops : List Outcome) (after : List (List Outcome)) →
    events_of_lists p (before ++ ops ∷ after) ≡ events_of_lists p before ++ (events_from (p + length before) 0 0 ops ++ events_of_lists (suc (p + length before)) after)
events_of_lists-append p [] ops after =
    let none : p + 0 ≡ p = omega arith in ap (λ q. events_from q 0 0 ops ++ events_of_lists (suc q) after) (sym none)
events_of_lists-append p (list ∷ before) ops after =
    let next : suc p + length before ≡ p + suc (length before) = omega arith in
    ap (λ es. events_from p 0 0 list ++ es) (events_of_lists-append (suc p) before ops after)
    ∙ ap (λ q. events_from p 0 0 list ++ (events_of_lists (suc p) before ++ (events_from q 0 0 ops ++ events_of_lists (suc q) after))) next
    ∙ sym (append_assoc (events_from p 0 0 list) (events_of_lists (suc p) before) _)

-- the lists of processors, the next of which did these operations and then those
abbrev pub lists_around : List (List Outcome) → List Outcome → List Outcome → List (List Outcome) → List (List Outcome)
lists_around before done rest after = before ++ (done ++ rest) ∷ after

module _ (before : List (List Outcome)) (done : List Outcome) where
  -- the events before those of the rest
  unfoldable pub events_done : List Event
  events_done = events_of_lists 0 before ++ events_from (length before) 0 0 done

  -- those of the rest of the processor
  abbrev pub events_left : List Outcome → List Event
  events_left rest = events_from (length before) (bars_over 0 done) (stbars_over 0 done) rest

  -- all events are the ones before and the others
  pub events_around : (rest : List Outcome) (after : List (List Outcome)) →
      events_of_lists 0 (lists_around before done rest after) ≡ events_done ++ (events_left rest ++ events_of_lists (suc (length before)) after)
  unfolding events_done
  events_around rest after =
      let here : 0 + length before ≡ length before = omega arith in
      events_of_lists-append 0 before (done ++ rest) after
      ∙ ap (λ q. events_of_lists 0 before ++ (events_from q 0 0 (done ++ rest) ++ events_of_lists (suc q) after)) here
      ∙ ap (λ es. events_of_lists 0 before ++ (es ++ events_of_lists (suc (length before)) after)) (events_from-append (length before) 0 0 done rest)
      ∙ ap (λ es. events_of_lists 0 before ++ es) (append_assoc (events_from (length before) 0 0 done) (events_left rest) _)
      ∙ sym (append_assoc (events_of_lists 0 before) (events_from (length before) 0 0 done) _)

-- ---- events by their numbers

-- what stands at a place of a list stands there with anything behind
get-done : {X : Type 0} (xs ys zs : List X) (k : ℕ) → k < length xs → slice_get (xs ++ ys) k ≡ slice_get (xs ++ zs) k
get-done [] ys zs k below = absurd (omega (arith, below))
get-done (x ∷ xs) ys zs zero below = refl
get-done (x ∷ xs) ys zs (suc k) below = get-done xs ys zs k (omega (arith, below))

-- and what stands behind it
get-left : {X : Type 0} (xs ys : List X) (k : ℕ) → slice_get (xs ++ ys) (length xs + k) ≡ slice_get ys k
get-left [] ys k = let none : 0 + k ≡ k = omega arith in ap (slice_get ys) none
get-left (x ∷ xs) ys k =
    let next : suc (length xs) + k ≡ suc (length xs + k) = omega arith in ap (slice_get (x ∷ (xs ++ ys))) next ∙ get-left xs ys k

-- traces whose first events are the same have these at the same numbers
pub event_at-done : (s t : TraceValue) (xs ys zs : List Event) → events_of s ≡ xs ++ ys → events_of t ≡ xs ++ zs →
    (n : ℕ) → n < suc (length xs) → event_at s n ≡ event_at t n
unfolding event_at
event_at-done s t xs ys zs is_s is_t zero below = refl
event_at-done s t xs ys zs is_s is_t (suc k) below =
    ap (λ es. slice_get es k) is_s ∙ get-done xs ys zs k (omega (arith, below)) ∙ sym (ap (λ es. slice_get es k) is_t)

-- the events behind the first ones
pub event_at-left : (t : TraceValue) (xs ys : List Event) → events_of t ≡ xs ++ ys → (k : ℕ) → event_at t (suc (length xs + k)) ≡ slice_get ys k
unfolding event_at
event_at-left t xs ys is k = ap (λ es. slice_get es (length xs + k)) is ∙ get-left xs ys k
