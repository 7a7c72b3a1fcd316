-- Each step of a run but a drain is matched by steps of the machine of units.
use Rattle.std.proofs.Common.{◌≡◌, ◌∙◌, sym, ap, refl, ℕ, suc, ◌<◌, Bool, true, false, List, [], ◌∷◌, ◌++◌, length, slice_index, arith}
use Rattle.tso_ops.specs.declared.ops.Outcome.TheVariants.{Ld, St, Sw, Mb, Sb}
use Rattle.tso_ops.specs.declared.settings.Order.{Order}
use Rattle.run_steps.specs.declared.cells.Cell.TheVariants.{Stored}
use Rattle.run_steps.specs.declared.places.Place.{Place}
use Rattle.run_steps.specs.declared.processors.WaitingStore.{WaitingStore}
use Rattle.run_steps.specs.Machine.{ProcessorState, MachineState, processor_in, view_of, waits_of, with_processor, with_store}
use Rattle.run_steps.specs.Reads.{sees, with_cell}
use Rattle.run_steps.specs.Steps.{IsRead}
use Rattle.unit_core.specs.declared.steps.Step.TheVariants.{Store, Drain, Load, Swap, Membar, Stbar}
use Rattle.unit_core.specs.Machine.{State, buffer_of, newest, next, seen_by, stbars_of}
use Rattle.embedding.specs.Sizes.{Sizes}
use Rattle.run_orders.specs.RunLogs.{IsLocation}
use Rattle.run_orders.proofs.Waiting.{entries, is_known, read_location, value_of_cell}
use Rattle.run_orders.proofs.States.{IsSame, other_processor, own_processor, tag_of}
use Rattle.run_orders.proofs.Matching.{IsBuffer, Matches}
use Rattle.run_orders.proofs.Moves.{entry_there, match_drain, match_kept, match_later, match_stbar, match_store, match_store_unknown, match_stored_unknown, match_swap}
use Rattle.run_orders.proofs.Told.{Matched, when_known}

module _ (z : Sizes) (unknown : List ℕ) (order : Order) (line p : ℕ) (within : p < z.buffers) (s : MachineState) (there : p < length s.processors) (u : State)
    (m : Matches z unknown line s u) where
  abbrev own : IsBuffer unknown line (waits_of s p) (tag_of s p) (buffer_of u p) (stbars_of u p)
  own = m.buffers p

  -- where nothing waits, the buffer is empty
  empty_buffer : waits_of s p ≡ [] → buffer_of u p ≡ []
  empty_buffer none = own.is ∙ ap (entries own.stbars unknown) none

  -- the state of the run is one that differs in nothing that matters
  later : (t : MachineState) → Matches z unknown line t u → Matches z unknown (suc line) t u
  later t same = match_later z unknown line t u same (suc line) (omega arith)

  -- ---- loads

  read_value : (place : Place) (v : ℕ) → IsLocation place → place.address < z.words → is_known unknown place.address ≡ true → IsRead place (view_of s p) v → v ≡ seen_by u p place.address
  read_value place v location small known read =
      let a = place.address in
      let word = slice_index u.memory a in
      let found = newest (entries own.stbars unknown (waits_of s p)) a word in
      let seen = value_of_cell own.stbars unknown s.memory a known (waits_of s p) word own.locations (m.memory a known small) in
      sym (read found (read_location place (view_of s p) found location seen)) ∙ ap (λ b. newest b a word) (sym own.is)

  pub load : (t : MachineState) → ((q : ℕ) → IsSame t s q) → ((a : ℕ) → t.memory a ≡ s.memory a) → (place : Place) (v : ℕ) → IsLocation place → place.address < z.words →
      IsRead place (view_of s p) v → Matched z unknown order (suc line) t u p (when_known (is_known unknown place.address) (Ld place.address v))
  load t same memory place v location small read = by (is_known unknown place.address) refl
    where
      by : (b : Bool) → is_known unknown place.address ≡ b → Matched z unknown order (suc line) t u p (when_known b (Ld place.address v))
      by true known = record {
        steps = Load p place.address v ∷ [];
        run = ((within, small, read_value place v location small known read), tt);
        own = (refl, tt);
        answers = refl;
        matches = later t (match_kept z unknown line s u m t same (λ a known. memory a));
      }
      by false known = record { steps = []; run = tt; own = tt; answers = refl; matches = later t (match_kept z unknown line s u m t same (λ a known. memory a)) }

  -- ---- stores

  -- the store that waits
  abbrev waiting : Place → ℕ → WaitingStore
  waiting place v = record { store = line; place = place; value = v; stbar = tag_of s p }

  abbrev with_waiting : Place → ℕ → MachineState
  with_waiting place v = with_processor s p (with_store line place v (processor_in s p))

  waits_with : (place : Place) (v : ℕ) → waits_of (with_waiting place v) p ≡ waits_of s p ++ waiting place v ∷ []
  waits_with place v = ap (λ (x : ProcessorState). x.waits) (own_processor s p (with_store line place v (processor_in s p)) there)

  tag_with : (place : Place) (v : ℕ) → tag_of (with_waiting place v) p ≡ tag_of s p
  tag_with place v = ap (λ (x : ProcessorState). x.stbar) (own_processor s p (with_store line place v (processor_in s p)) there)

  others_with : (place : Place) (v q : ℕ) → (q ≡ p → ⊥) → IsSame (with_waiting place v) s q
  others_with place v q other = other_processor s p (with_store line place v (processor_in s p)) q other

  stored_known : (place : Place) (v : ℕ) → IsLocation place → is_known unknown place.address ≡ true → Matches z unknown line (with_waiting place v) (next u (Store p place.address v))
  stored_known place v location known =
      match_store z unknown line s u m p within (with_waiting place v) (waiting place v) location refl (waits_with place v) (tag_with place v) (others_with place v) (λ a. refl) known

  pub store : (place : Place) (v : ℕ) → IsLocation place → place.address < z.words →
      Matched z unknown order (suc line) (with_waiting place v) u p (when_known (is_known unknown place.address) (St place.address v))
  store place v location small = by (is_known unknown place.address) refl
    where
      t : MachineState
      t = with_waiting place v

      by : (b : Bool) → is_known unknown place.address ≡ b → Matched z unknown order (suc line) (with_waiting place v) u p (when_known b (St place.address v))
      by true known = record {
        steps = Store p place.address v ∷ [];
        run = ((within, small), tt);
        own = (refl, tt);
        answers = refl;
        matches = match_later z unknown line (with_waiting place v) (next u (Store p place.address v)) (stored_known place v location known) (suc line) (omega arith);
      }
      by false known = record {
        steps = [];
        run = tt;
        own = tt;
        answers = refl;
        matches =
            later (with_waiting place v)
            (match_store_unknown z unknown line s u m p within (with_waiting place v) (waiting place v) location refl (waits_with place v) (tag_with place v) (others_with place v) (λ a. refl) known);
      }

  -- ---- stores that reach memory at once

  module _ (none : waits_of s p ≡ []) (t : MachineState) (same : (q : ℕ) → IsSame t s q) (place : Place) (v store reached : ℕ) (location : IsLocation place)
      (small : place.address < z.words) (memory : (b : ℕ) → t.memory b ≡ with_cell s.memory place.address (Stored v store reached) b) where
    at_once_unknown : is_known unknown place.address ≡ false → Matches z unknown (suc line) t u
    at_once_unknown known = later t (match_stored_unknown z unknown line s u m p within t place.address (Stored v store reached) same memory known)

    at_once_known : is_known unknown place.address ≡ true → Matched z unknown order (suc line) t u p (St place.address v ∷ [])
    at_once_known known =
        let one = with_waiting place v in
        let w = waiting place v in
        let u_one = next u (Store p place.address v) in
        let stored = stored_known place v location known in
        let parted : waits_of one p ≡ [] ++ w ∷ [] = waits_with place v ∙ ap (λ ws. ws ++ w ∷ []) none in
        record {
          steps = Store p place.address v ∷ Drain p ∷ [];
          run = ((within, small), ((within, (_, entry_there z unknown line one u_one stored p within [] w [] parted known)), tt));
          own = (refl, (refl, tt));
          answers = refl;
          matches =
              match_later z unknown line t (next u_one (Drain p))
              (match_drain z unknown line one u_one stored p within [] w [] parted t store reached ((same p).0 ∙ none) ((same p).1 ∙ sym (tag_with place v))
              (λ q other. let before = others_with place v q other in ((same q).0 ∙ sym before.0, (same q).1 ∙ sym before.1)) memory known)
              (suc line) (omega arith);
        }

    pub at_once : Matched z unknown order (suc line) t u p (when_known (is_known unknown place.address) (St place.address v))
    at_once = by (is_known unknown place.address) refl
      where
        by : (b : Bool) → is_known unknown place.address ≡ b → Matched z unknown order (suc line) t u p (when_known b (St place.address v))
        by true known = at_once_known known
        by false known = record { steps = []; run = tt; own = tt; answers = refl; matches = at_once_unknown known }

    read_memory : (r : ℕ) → is_known unknown place.address ≡ true → IsRead place (sees s.memory []) r → r ≡ slice_index u.memory place.address
    read_memory r known read =
        let a = place.address in
        let word = slice_index u.memory a in
        sym (read word (read_location place (sees s.memory []) word location (value_of_cell own.stbars unknown s.memory a known [] word tt (m.memory a known small))))

    pub swap : (r : ℕ) → IsRead place (sees s.memory []) r → Matched z unknown order (suc line) t u p (when_known (is_known unknown place.address) (Sw place.address r v))
    swap r read = by (is_known unknown place.address) refl
      where
        by : (b : Bool) → is_known unknown place.address ≡ b → Matched z unknown order (suc line) t u p (when_known b (Sw place.address r v))
        by true known = record {
          steps = Swap p place.address r v ∷ [];
          run = ((within, small, empty_buffer none, read_memory r known read), tt);
          own = (refl, tt);
          answers = refl;
          matches =
              match_later z unknown line t (next u (Swap p place.address r v)) (match_swap z unknown line s u m p within t place.address r v store reached same memory) (suc line)
              (omega arith);
        }
        by false known = record { steps = []; run = tt; own = tt; answers = refl; matches = at_once_unknown known }

  -- ---- barriers

  pub membar : waits_of s p ≡ [] → Matched z unknown order (suc line) s u p (Mb ∷ [])
  membar none = record { steps = Membar p ∷ []; run = ((within, empty_buffer none), tt); own = (refl, tt); answers = refl; matches = later s m }

  pub stbar : Matched z unknown order (suc line) (with_processor s p (record (processor_in s p) { stbar = line })) u p (Sb ∷ [])
  stbar =
      let x : ProcessorState = record (processor_in s p) { stbar = line } in
      let t = with_processor s p x in
      let is = own_processor s p x there in
      record {
        steps = Stbar p ∷ [];
        run = (within, tt);
        own = (refl, tt);
        answers = refl;
        matches =
            match_stbar z unknown line s u m p within t (ap (λ (y : ProcessorState). y.waits) is) (ap (λ (y : ProcessorState). y.stbar) is) (λ q other. other_processor s p x q other) (λ b. refl);
      }
