-- When a state of the machine of units is that of a run, where operations at some locations are left out, and how both change.
use Rattle.std.proofs.Common.{◌≡◌, ◌∙◌, sym, ap, subst, inl, inr, ℕ, suc, ◌<◌, ◌≤◌, true, false, cond, leb, List, [], ◌∷◌, ◌++◌, slice_index, le-leb, arith}
use Rattle.std.specs.List.{AllByRecursion}
use Rattle.std.proofs.lemmas.Bool.{cases_lt}
use Rattle.std.proofs.lemmas.Bool.Decides.{nat_tests}
use Rattle.std.proofs.lemmas.List.{append-nil}
use Rattle.run_steps.specs.declared.processors.WaitingStore.{WaitingStore}
use Rattle.run_steps.specs.Machine.{MachineState, waits_of}
use Rattle.unit_core.specs.Machine.{Entry, State, buffer_of, stbars_of}
use Rattle.embedding.specs.Sizes.{Sizes}
use Rattle.embedding.proofs.Moments.{HasSizes}
use Rattle.run_orders.specs.RunLogs.{IsLocation}
use Rattle.run_orders.proofs.Lists.{all-append, all-parts}
use Rattle.run_orders.proofs.Waiting.{HasWord, entries, entries-append, entries-same, entry_by, is_known, kept}
use Rattle.run_orders.proofs.States.{tag_of}

-- the tags of stores that wait never fall, and are up to that of the last STBAR
abbrev pub AreTagged : List WaitingStore → ℕ → Type 0
AreTagged [] tag = Unit {0}
AreTagged (w ∷ waits) tag = (w.stbar ≤ tag) × AllByRecursion (λ x. w.stbar ≤ x.stbar) waits × AreTagged waits tag

-- The buffer has the entries of the stores that wait, each with the number of STBARs before it, which its tag tells; all STBARs are on lines before this one.
pub record IsBuffer (unknown : List ℕ) (line : ℕ) (waits : List WaitingStore) (tag : ℕ) (buffer : List Entry) (made : ℕ) : Type 0 where
  pub stbars : ℕ → ℕ
  pub is : buffer ≡ entries stbars unknown waits
  pub now : stbars tag ≡ made
  pub rises : (m n : ℕ) → m ≤ n → stbars m ≤ stbars n
  pub most : (n : ℕ) → stbars n ≤ made
  pub locations : AllByRecursion (λ w. IsLocation w.place) waits
  pub tagged : AreTagged waits tag
  pub below : tag < line

-- The state of the machine of units has what that of the run has at the known locations, before the line of this number.
pub record Matches (z : Sizes) (unknown : List ℕ) (line : ℕ) (s : MachineState) (u : State) : Type 0 where
  pub sizes : HasSizes z u
  pub memory : (a : ℕ) → is_known unknown a ≡ true → a < z.words → HasWord (s.memory a) (slice_index u.memory a)
  pub buffers : (p : ℕ) → IsBuffer unknown line (waits_of s p) (tag_of s p) (buffer_of u p) (stbars_of u p)
  pub idle : (p : ℕ) → z.buffers ≤ p → waits_of s p ≡ []

-- the entry that a store is after so many STBARs
abbrev pub stored : WaitingStore → ℕ → Entry
stored w made = record { a = w.place.address; v = w.value; stbars = made }

-- ---- tags

tagged-push : (waits : List WaitingStore) (w : WaitingStore) (tag : ℕ) → w.stbar ≡ tag → AreTagged waits tag → AreTagged (waits ++ w ∷ []) tag
tagged-push [] w tag same tagged = (omega (arith, same), tt, tt)
tagged-push (x ∷ waits) w tag same tagged =
    let up : x.stbar ≤ tag = tagged.0 in
    (up, all-append (λ y. x.stbar ≤ y.stbar) waits (w ∷ []) tagged.1 (omega (arith, same, up), tt), tagged-push waits w tag same tagged.2)

tagged-remove : (older : List WaitingStore) (w : WaitingStore) (newer : List WaitingStore) (tag : ℕ) → AreTagged (older ++ w ∷ newer) tag → AreTagged (older ++ newer) tag
tagged-remove [] w newer tag tagged = tagged.2
tagged-remove (x ∷ older) w newer tag tagged =
    let parts = all-parts (λ y. x.stbar ≤ y.stbar) older w newer tagged.1 in
    (tagged.0, all-append (λ y. x.stbar ≤ y.stbar) older newer parts.0 parts.2, tagged-remove older w newer tag tagged.2)

tagged-more : (waits : List WaitingStore) (tag more : ℕ) → tag ≤ more → AreTagged waits tag → AreTagged waits more
tagged-more [] tag more up tagged = tt
tagged-more (w ∷ waits) tag more up tagged = let low : w.stbar ≤ tag = tagged.0 in (omega (arith, low, up), tagged.1, tagged-more waits tag more up tagged.2)

-- stores newer than one have no lesser tags
pub newer_tags : (older : List WaitingStore) (w : WaitingStore) (newer : List WaitingStore) (tag : ℕ) → AreTagged (older ++ w ∷ newer) tag →
    AllByRecursion (λ x. w.stbar ≤ x.stbar) newer
newer_tags [] w newer tag tagged = tagged.1
newer_tags (x ∷ older) w newer tag tagged = newer_tags older w newer tag tagged.2

past_leb : (m n : ℕ) → n < m → leb m n ≡ false
past_leb m n less = grind (arith, nat_tests)

-- ---- buffers

module _ (unknown : List ℕ) (line : ℕ) (waits : List WaitingStore) (tag : ℕ) (buffer : List Entry) (made : ℕ) (b : IsBuffer unknown line waits tag buffer made) where
  pub buffer-later : (more : ℕ) → line ≤ more → IsBuffer unknown more waits tag buffer made
  buffer-later more up = record { stbars = b.stbars; is = b.is; now = b.now; rises = b.rises; most = b.most; locations = b.locations; tagged = b.tagged; below = omega (arith, up, b.below) }

  -- one more store waits
  pub buffer-push : (w : WaitingStore) → IsLocation w.place → w.stbar ≡ tag →
      IsBuffer unknown line (waits ++ w ∷ []) tag (buffer ++ kept (is_known unknown w.place.address) (stored w made)) made
  buffer-push w location same = record {
    stbars = b.stbars;
    is =
        ap (λ n. buffer ++ kept (is_known unknown w.place.address) (stored w n)) (sym (ap b.stbars same ∙ b.now))
        ∙ ap (λ es. es ++ kept (is_known unknown w.place.address) (entry_by b.stbars w)) b.is
        ∙ ap (λ es. entries b.stbars unknown waits ++ es) (sym (append-nil (kept (is_known unknown w.place.address) (entry_by b.stbars w))))
        ∙ sym (entries-append b.stbars unknown waits (w ∷ []));
    now = b.now;
    rises = b.rises;
    most = b.most;
    locations = all-append (λ x. IsLocation x.place) waits (w ∷ []) b.locations (location, tt);
    tagged = tagged-push waits w tag same b.tagged;
    below = b.below;
  }

  -- a store no longer waits
  pub buffer-remove : (older : List WaitingStore) (w : WaitingStore) (newer : List WaitingStore) → waits ≡ older ++ w ∷ newer →
      IsBuffer unknown line (older ++ newer) tag (entries b.stbars unknown older ++ entries b.stbars unknown newer) made
  buffer-remove older w newer parted =
      let parts = all-parts (λ x. IsLocation x.place) older w newer (subst (λ ws. AllByRecursion (λ x. IsLocation x.place) ws) parted b.locations) in
      record {
        stbars = b.stbars;
        is = sym (entries-append b.stbars unknown older newer);
        now = b.now;
        rises = b.rises;
        most = b.most;
        locations = all-append (λ x. IsLocation x.place) older newer parts.0 parts.2;
        tagged = tagged-remove older w newer tag (subst (λ ws. AreTagged ws tag) parted b.tagged);
        below = b.below;
      }

  pub buffer_parted : (older : List WaitingStore) (w : WaitingStore) (newer : List WaitingStore) → waits ≡ older ++ w ∷ newer →
      buffer ≡ entries b.stbars unknown older ++ (kept (is_known unknown w.place.address) (entry_by b.stbars w) ++ entries b.stbars unknown newer)
  buffer_parted older w newer parted = b.is ∙ ap (entries b.stbars unknown) parted ∙ entries-append b.stbars unknown older (w ∷ newer)

  -- one more STBAR, on this line
  abbrev stbars_after : ℕ → ℕ
  stbars_after n = cond (leb line n) (suc made) (b.stbars n)

  after_below : (n : ℕ) → n < line → stbars_after n ≡ b.stbars n
  after_below n low = ap (λ t. cond t (suc made) (b.stbars n)) (past_leb line n low)

  after_above : (n : ℕ) → line ≤ n → stbars_after n ≡ suc made
  after_above n high = ap (λ t. cond t (suc made) (b.stbars n)) (le-leb line n high)

  all_below : (ws : List WaitingStore) → AreTagged ws tag → AllByRecursion (λ w. b.stbars w.stbar ≡ stbars_after w.stbar) ws
  all_below [] tagged = tt
  all_below (w ∷ ws) tagged = let low : w.stbar ≤ tag = tagged.0 in (sym (after_below w.stbar (omega (arith, low, b.below))), all_below ws tagged.2)

  pub buffer-stbar : IsBuffer unknown (suc line) waits line buffer (suc made)
  buffer-stbar = record {
    stbars = stbars_after;
    is = b.is ∙ entries-same b.stbars stbars_after unknown waits (all_below waits b.tagged);
    now = after_above line (omega arith);
    rises = rises;
    most = most;
    locations = b.locations;
    tagged = tagged-more waits tag line (omega (arith, b.below)) b.tagged;
    below = omega arith;
  }
    where
      most : (n : ℕ) → stbars_after n ≤ suc made
      most n = elim (cases_lt n line) [
        | inl low ↦ omega (arith, b.most n, after_below n low)
        | inr high ↦ omega (arith, after_above n high)
      ]

      rises : (m n : ℕ) → m ≤ n → stbars_after m ≤ stbars_after n
      rises m n up = elim (cases_lt n line) [
        | inl low ↦ let less : m < line = omega (arith, up, low) in omega (arith, b.rises m n up, after_below m less, after_below n low)
        | inr high ↦ omega (arith, most m, after_above n high)
      ]
