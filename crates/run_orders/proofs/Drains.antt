-- A drain of a run is matched by one of the machine of units, where the location is known.
use Rattle.std.proofs.Common.{◌≡◌, ◌∙◌, sym, ap, refl, subst, inl, inr, ℕ, zero, suc, ◌-◌, ◌<◌, ◌≤◌, ◌==◌, Bool, true, false, not, cond, nat_le, nat_lt, eqb-true, Option, Some, List, [], ◌∷◌, ◌++◌, length, take, slice_get, arith}
use Rattle.std.specs.List.{AllByRecursion, remove}
use Rattle.std.specs.Option.{option_map_or}
use Rattle.std.proofs.lemmas.Bool.{cases_lt, not-false, or_parts}
use Rattle.std.proofs.lemmas.Bool.Decides.{nat_tests}
use Rattle.tso_ops.specs.declared.settings.Order.{Order}
use Rattle.tso_ops.specs.declared.settings.Order.TheVariants.{Tso, Pso}
use Rattle.run_steps.specs.declared.cells.Cell.TheVariants.{Stored}
use Rattle.run_steps.specs.declared.places.Place.{Place}
use Rattle.run_steps.specs.declared.processors.WaitingStore.{WaitingStore}
use Rattle.run_steps.specs.declared.steps.RunStep.TheVariants as step
use Rattle.run_steps.specs.Machine.{ProcessorState, MachineState, draining, keeps_back, next_state, processor_in, reaching, waits_of, with_waits}
use Rattle.run_steps.specs.Places.{overlaps}
use Rattle.run_steps.specs.Widths.{cells_of}
use Rattle.run_steps.specs.Reads.{with_cell}
use Rattle.run_steps.specs.Steps.{MayDrain}
use Rattle.unit_core.specs.declared.steps.Step.TheVariants.{Drain, DrainAt}
use Rattle.unit_core.specs.Machine.{Entry, State, buffer_of, drained, oldest_of, stbars_of}
use Rattle.embedding.specs.Sizes.{Sizes}
use Rattle.run_orders.specs.RunLogs.{IsLocation}
use Rattle.run_orders.proofs.Lists.{all-append, all-parts, all_both, all_map}
use Rattle.run_orders.proofs.Waiting.{entries, entry_by, is_known, kept, oldest_at}
use Rattle.run_orders.proofs.States.{IsSame, filled_location, other_processor, own_processor, reaching_same, same_after, tag_of}
use Rattle.run_orders.proofs.Matching.{AreTagged, IsBuffer, Matches, newer_tags}
use Rattle.run_orders.proofs.Moves.{buffer_known, entry_there, match_drain, match_drain_unknown, match_later}
use Rattle.run_orders.proofs.Told.{Matched}

-- ---- lists

-- the parts of a list around an element
pub record Parted {X : Type 0} (xs : List X) (k : ℕ) (y : X) : Type 0 where
  pub older : List X
  pub newer : List X
  pub is : xs ≡ older ++ y ∷ newer
  pub removed : remove xs k ≡ older ++ newer
  pub taken : take k xs ≡ older

pub parted_at : {X : Type 0} (xs : List X) (k : ℕ) (y : X) → slice_get xs k ≡ Some y → Parted xs k y
parted_at [] k y read = absurd cc
parted_at (x ∷ xs) zero y read = let same : x ≡ y = cc in record { older = []; newer = xs; is = ap (λ z. z ∷ xs) same; removed = refl; taken = refl }
parted_at (x ∷ xs) (suc k) y read =
    let rest = parted_at xs k y read in
    record {
      older = x ∷ rest.older;
      newer = rest.newer;
      is = ap (λ zs. x ∷ zs) rest.is;
      removed = ap (λ zs. x ∷ zs) rest.removed;
      taken = ap (λ zs. x ∷ zs) rest.taken;
    }

-- ---- which stores keep one back

shares : (a b width other : ℕ) → width ≡ 0 → a ≡ b → cond (nat_le a b) (nat_lt (b - a) (cells_of width)) (nat_lt (a - b) (cells_of other)) ≡ true
shares a b width other none same =
    let one : cells_of width ≡ 1 = ap cells_of none in
    grind (arith, nat_tests)

other_locations : (w x : WaitingStore) → IsLocation x.place → keeps_back Pso w x ≡ false → x.place.address ≡ w.place.address → ⊥
other_locations w x location passes same =
    let apart = (or_parts (overlaps x.place w.place) (not (x.stbar == w.stbar)) passes).0 in
    let here : overlaps x.place w.place ≡ true = shares x.place.address w.place.address x.place.width w.place.width location same in
    absurd cc

same_tags : (w x : WaitingStore) → keeps_back Pso w x ≡ false → w.stbar ≤ x.stbar
same_tags w x passes =
    let same : x.stbar ≡ w.stbar = eqb-true x.stbar w.stbar (not-false (x.stbar == w.stbar) (or_parts (overlaps x.place w.place) (not (x.stbar == w.stbar)) passes).1) in
    omega (arith, same)

pub none_older : (w : WaitingStore) (older : List WaitingStore) → AllByRecursion (λ x. keeps_back Tso w x ≡ false) older → older ≡ []
none_older w [] passes = refl
none_older w (x ∷ older) passes = let both : true ≡ false = passes.0 in absurd cc

-- stores with no lesser tag have no fewer STBARs
module _ (stbars : ℕ → ℕ) (rises : (m n : ℕ) → m ≤ n → stbars m ≤ stbars n) (unknown : List ℕ) (tag : ℕ) where
  least_next : (b : Bool) (x : WaitingStore) (rest : List Entry) → tag ≤ x.stbar → ((j : ℕ) (g : Entry) → slice_get rest j ≡ Some g → stbars tag ≤ g.stbars) → (j : ℕ) (g : Entry) →
      slice_get (kept b (entry_by stbars x) ++ rest) j ≡ Some g → stbars tag ≤ g.stbars
  least_next false x rest low others j g read = others j g read
  least_next true x rest low others zero g read = let same : entry_by stbars x ≡ g = cc in subst (λ (e : Entry). stbars tag ≤ e.stbars) same (rises tag x.stbar low)
  least_next true x rest low others (suc j) g read = others j g read

  least_stbars : (waits : List WaitingStore) → AllByRecursion (λ x. tag ≤ x.stbar) waits → (j : ℕ) (g : Entry) → slice_get (entries stbars unknown waits) j ≡ Some g → stbars tag ≤ g.stbars
  least_stbars [] low j g read = absurd cc
  least_stbars (x ∷ waits) low j g read =
      least_next (is_known unknown x.place.address) x (entries stbars unknown waits) low.0 (least_stbars waits low.1) j g read

-- ---- the drain

module _ (z : Sizes) (unknown : List ℕ) (line p : ℕ) (s : MachineState) (there : p < length s.processors) (u : State) (m : Matches z unknown line s u) where
  abbrev own : IsBuffer unknown line (waits_of s p) (tag_of s p) (buffer_of u p) (stbars_of u p)
  own = m.buffers p

  -- of a processor without a buffer no store waits
  small_processor : (k : ℕ) (w : WaitingStore) → slice_get (waits_of s p) k ≡ Some w → p < z.buffers
  small_processor k w read = elim (cases_lt p z.buffers) [
    | inl small ↦ small
    | inr past ↦ let none : slice_get [] k ≡ Some w = ap (λ ws. slice_get ws k) (sym (m.idle p past)) ∙ read in absurd cc
  ]

  module _ (k : ℕ) (w : WaitingStore) (read : slice_get (waits_of s p) k ≡ Some w) (parts : Parted (waits_of s p) k w) where
    abbrev t : MachineState
    t = reaching line p w (with_waits s p (remove (waits_of s p) k))

    within : p < z.buffers
    within = small_processor k w read

    locations : AllByRecursion (λ x. IsLocation x.place) parts.older × IsLocation w.place × AllByRecursion (λ x. IsLocation x.place) parts.newer
    locations = all-parts (λ x. IsLocation x.place) parts.older w parts.newer (subst (λ ws. AllByRecursion (λ x. IsLocation x.place) ws) parts.is own.locations)

    waits_left : waits_of t p ≡ parts.older ++ parts.newer
    waits_left =
        (reaching_same line p w (with_waits s p (remove (waits_of s p) k)) p).0
        ∙ ap (λ (x : ProcessorState). x.waits) (own_processor s p (record (processor_in s p) { waits = remove (waits_of s p) k }) there) ∙ parts.removed

    tag_left : tag_of t p ≡ tag_of s p
    tag_left =
        (reaching_same line p w (with_waits s p (remove (waits_of s p) k)) p).1
        ∙ ap (λ (x : ProcessorState). x.stbar) (own_processor s p (record (processor_in s p) { waits = remove (waits_of s p) k }) there)

    others_left : (q : ℕ) → (q ≡ p → ⊥) → IsSame t s q
    others_left q other =
        same_after t (with_waits s p (remove (waits_of s p) k)) s q (reaching_same line p w (with_waits s p (remove (waits_of s p) k)) q)
        (other_processor s p (record (processor_in s p) { waits = remove (waits_of s p) k }) q other)

    memory_left : (b : ℕ) → t.memory b ≡ with_cell s.memory w.place.address (Stored w.value w.store line) b
    memory_left b = ap (λ f. f b) (filled_location s.memory w.place w.value (λ part. Stored part w.store line) locations.1)

    drained_matches : (known : is_known unknown w.place.address ≡ true) → Matches z unknown (suc line) t (drained u p (length (entries own.stbars unknown parts.older)))
    drained_matches known =
        match_later z unknown line t (drained u p (length (entries own.stbars unknown parts.older)))
        (match_drain z unknown line s u m p within parts.older w parts.newer parts.is t w.store line waits_left tag_left others_left memory_left known) (suc line) (omega arith)

    drain_unknown : (order : Order) → is_known unknown w.place.address ≡ false → Matched z unknown order (suc line) t u p []
    drain_unknown order not_known = record {
      steps = [];
      run = tt;
      own = tt;
      answers = refl;
      matches =
          match_later z unknown line t u
          (match_drain_unknown z unknown line s u m p within parts.older w parts.newer parts.is t (Stored w.value w.store line) waits_left tag_left others_left memory_left not_known)
          (suc line) (omega arith);
    }

    -- under TSO it is the oldest of all
    drain_tso : AllByRecursion (λ x. keeps_back Tso w x ≡ false) (take k (waits_of s p)) → is_known unknown w.place.address ≡ true → Matched z unknown Tso (suc line) t u p []
    drain_tso passes known =
        let first : length (entries own.stbars unknown parts.older) ≡ 0 =
        ap (λ ws. length (entries own.stbars unknown ws)) (none_older w parts.older (subst (λ ws. AllByRecursion (λ x. keeps_back Tso w x ≡ false) ws) parts.taken passes)) in
        record {
          steps = Drain p ∷ [];
          run = (
            (
              within,
              (
                _,
                subst (λ n. slice_get (buffer_of u p) n ≡ Some (entry_by own.stbars w)) first
                    (entry_there z unknown line s u m p within parts.older w parts.newer parts.is known),
              ),
            ),
            tt,
          );
          own = (refl, tt);
          answers = refl;
          matches = subst (λ n. Matches z unknown (suc line) t (drained u p n)) first (drained_matches known);
        }

    -- under PSO the oldest of its location
    drain_pso : AllByRecursion (λ x. keeps_back Pso w x ≡ false) (take k (waits_of s p)) → is_known unknown w.place.address ≡ true → Matched z unknown Pso (suc line) t u p []
    drain_pso passes known =
        let e = entry_by own.stbars w in
        let passed = subst (λ ws. AllByRecursion (λ x. keeps_back Pso w x ≡ false) ws) parts.taken passes in
        let number : oldest_of (buffer_of u p) w.place.address ≡ length (entries own.stbars unknown parts.older) =
        ap (λ b. oldest_of b w.place.address) (buffer_known z unknown line s u m p within parts.older w parts.newer parts.is known)
        ∙ oldest_at own.stbars unknown parts.older e (entries own.stbars unknown parts.newer)
        (all_both (λ x. IsLocation x.place) (λ x. keeps_back Pso w x ≡ false) (λ x. x.place.address ≡ w.place.address → ⊥) (other_locations w) parts.older locations.0 passed) in
        let low : AllByRecursion (λ x. w.stbar ≤ x.stbar) (waits_of s p) =
        subst (λ ws. AllByRecursion (λ x. w.stbar ≤ x.stbar) ws) (sym parts.is)
        (all-append (λ x. w.stbar ≤ x.stbar) parts.older (w ∷ parts.newer)
        (all_map (λ x. keeps_back Pso w x ≡ false) (λ x. w.stbar ≤ x.stbar) (same_tags w) parts.older passed)
        (omega arith, newer_tags parts.older w parts.newer (tag_of s p) (subst (λ ws. AreTagged ws (tag_of s p)) parts.is own.tagged))) in
        let there_first : slice_get (buffer_of u p) (oldest_of (buffer_of u p) w.place.address) ≡ Some e =
        subst (λ n. slice_get (buffer_of u p) n ≡ Some e) (sym number) (entry_there z unknown line s u m p within parts.older w parts.newer parts.is known) in
        record {
          steps = DrainAt p w.place.address ∷ [];
          run = (
            (
              within,
              refl,
              (
                e,
                there_first,
                λ j g at_j. least_stbars own.stbars own.rises unknown w.stbar (waits_of s p) low j g (subst (λ b. slice_get b j ≡ Some g) own.is at_j),
              ),
            ),
            tt,
          );
          own = (refl, tt);
          answers = refl;
          matches = subst (λ n. Matches z unknown (suc line) t (drained u p n)) (sym number) (drained_matches known);
        }

    drain_known : (order : Order) → AllByRecursion (λ x. keeps_back order w x ≡ false) (take k (waits_of s p)) → is_known unknown w.place.address ≡ true → Matched z unknown order (suc line) t u p []
    drain_known Tso passes known = drain_tso passes known
    drain_known Pso passes known = drain_pso passes known

    drain_either : (order : Order) → AllByRecursion (λ x. keeps_back order w x ≡ false) (take k (waits_of s p)) → Matched z unknown order (suc line) t u p []
    drain_either order passes = by (is_known unknown w.place.address) refl
      where
        by : (b : Bool) → is_known unknown w.place.address ≡ b → Matched z unknown order (suc line) t u p []
        by true known = drain_known order passes known
        by false known = drain_unknown order known

  pub drain : (order : Order) (at : Option Place) (said : Option ℕ) → MayDrain order at (waits_of s p) said →
      Matched z unknown order (suc line) (next_state line p (step.Drain at said) s) u p []
  drain order at said may =
      let waits = waits_of s p in
      let k = may.number in
      let is : next_state line p (step.Drain at said) s ≡ reaching line p may.store (with_waits s p (remove waits k)) =
      ap (λ o. option_map_or (λ n. draining line p n s) o s) may.is
      ∙ ap (λ o. option_map_or (λ w. reaching line p w (with_waits s p (remove waits k))) o s) may.waits_there in
      subst (λ t. Matched z unknown order (suc line) t u p []) (sym is)
      (drain_either k may.store may.waits_there (parted_at waits k may.store may.waits_there) order may.passes)
