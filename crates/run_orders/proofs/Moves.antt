-- Steps of the machine of units that lead to what a change of the state of a run leads to.
use Rattle.std.proofs.Common.{◌≡◌, ◌∙◌, sym, ap, subst, inl, inr, ℕ, suc, ◌<◌, ◌≤◌, true, false, Some, List, [], ◌∷◌, ◌++◌, length, get_or, set, slice_get, slice_index, length-set, arith}
use Rattle.std.specs.List.{remove}
use Rattle.std.proofs.lemmas.Bool.{cases_eq}
use Rattle.std.proofs.lemmas.List.{append-nil, get_or-set_same, get_or-set_other}
use Rattle.run_steps.specs.declared.cells.Cell.{Cell}
use Rattle.run_steps.specs.declared.cells.Cell.TheVariants.{Stored}
use Rattle.run_steps.specs.declared.processors.WaitingStore.{WaitingStore}
use Rattle.run_steps.specs.Machine.{MachineState, waits_of}
use Rattle.run_steps.specs.Reads.{with_cell}
use Rattle.unit_core.specs.declared.steps.Step.TheVariants.{Store, Swap, Stbar}
use Rattle.unit_core.specs.Machine.{Entry, State, buffer_of, drained, next, stbars_of}
use Rattle.embedding.specs.Sizes.{Sizes}
use Rattle.embedding.proofs.Moments.{drained-is}
use Rattle.run_orders.specs.RunLogs.{IsLocation}
use Rattle.run_orders.proofs.Lists.{get_between, remove_between}
use Rattle.run_orders.proofs.Waiting.{HasWord, entries, entry_by, is_known, kept}
use Rattle.run_orders.proofs.States.{IsSame, tag_of, with_cell_here, with_cell_other}
use Rattle.run_orders.proofs.Matching.{IsBuffer, Matches, buffer-later, buffer-push, buffer-remove, buffer-stbar, buffer_parted, stored}

module _ (z : Sizes) (unknown : List ℕ) (line : ℕ) (s : MachineState) (u : State) (m : Matches z unknown line s u) where
  -- the buffer of a processor of which a state has the same
  buffer_of_same : (t : MachineState) (q : ℕ) → IsSame t s q → IsBuffer unknown line (waits_of t q) (tag_of t q) (buffer_of u q) (stbars_of u q)
  buffer_of_same t q same =
      subst (λ ws. IsBuffer unknown line ws (tag_of t q) (buffer_of u q) (stbars_of u q)) (sym same.0)
      (subst (λ n. IsBuffer unknown line (waits_of s q) n (buffer_of u q) (stbars_of u q)) (sym same.1) (m.buffers q))

  -- before a later line
  pub match_later : (more : ℕ) → line ≤ more → Matches z unknown more s u
  match_later more up = record {
    sizes = m.sizes;
    memory = m.memory;
    buffers = λ p. buffer-later unknown line (waits_of s p) (tag_of s p) (buffer_of u p) (stbars_of u p) (m.buffers p) more up;
    idle = m.idle;
  }

  -- nothing changes that matters
  pub match_kept : (t : MachineState) → ((q : ℕ) → IsSame t s q) → ((a : ℕ) → is_known unknown a ≡ true → t.memory a ≡ s.memory a) → Matches z unknown line t u
  match_kept t same memory = record {
    sizes = m.sizes;
    memory = λ a known within. subst (λ cell. HasWord cell (slice_index u.memory a)) (sym (memory a known)) (m.memory a known within);
    buffers = λ q. buffer_of_same t q (same q);
    idle = λ q past. (same q).0 ∙ m.idle q past;
  }

  -- ---- what changes of one processor

  -- that of another processor stays
  module _ (p : ℕ) (within : p < z.buffers) where
    idle_after : (t : MachineState) → ((q : ℕ) → (q ≡ p → ⊥) → IsSame t s q) → (q : ℕ) → z.buffers ≤ q → waits_of t q ≡ []
    idle_after t others q past = (others q (λ same. omega (arith, same, past, within))).0 ∙ m.idle q past

    buffers_after : (t : MachineState) (buffer : List Entry) → ((q : ℕ) → (q ≡ p → ⊥) → IsSame t s q) →
        IsBuffer unknown line (waits_of t p) (tag_of t p) buffer (stbars_of u p) →
        (q : ℕ) → IsBuffer unknown line (waits_of t q) (tag_of t q) (get_or (set u.buffers p buffer) q []) (stbars_of u q)
    buffers_after t buffer others own q = elim (cases_eq q p) [
      | inl same ↦
          let read : get_or (set u.buffers p buffer) p [] ≡ buffer = get_or-set_same u.buffers p buffer [] (omega (arith, within, m.sizes.buffers)) in
          subst (λ r. IsBuffer unknown line (waits_of t r) (tag_of t r) (get_or (set u.buffers p buffer) r []) (stbars_of u r)) (sym same)
          (subst (λ b. IsBuffer unknown line (waits_of t p) (tag_of t p) b (stbars_of u p)) (sym read) own)
      | inr other ↦
          let read : get_or (set u.buffers p buffer) q [] ≡ buffer_of u q = get_or-set_other u.buffers p q buffer [] other in
          subst (λ b. IsBuffer unknown line (waits_of t q) (tag_of t q) b (stbars_of u q)) (sym read) (buffer_of_same t q (others q other))
    ]

    -- ---- a store waits

    pushed : (t : MachineState) (w : WaitingStore) → IsLocation w.place → w.stbar ≡ tag_of s p → waits_of t p ≡ waits_of s p ++ w ∷ [] → tag_of t p ≡ tag_of s p →
        IsBuffer unknown line (waits_of t p) (tag_of t p)
        (buffer_of u p ++ kept (is_known unknown w.place.address) (stored w (stbars_of u p))) (stbars_of u p)
    pushed t w location tag waits same =
        let buffer = buffer_of u p ++ kept (is_known unknown w.place.address) (stored w (stbars_of u p)) in
        subst (λ ws. IsBuffer unknown line ws (tag_of t p) buffer (stbars_of u p)) (sym waits)
        (subst (λ n. IsBuffer unknown line (waits_of s p ++ w ∷ []) n buffer (stbars_of u p)) (sym same)
        (buffer-push unknown line (waits_of s p) (tag_of s p) (buffer_of u p) (stbars_of u p) (m.buffers p) w location tag))

    pub match_store : (t : MachineState) (w : WaitingStore) → IsLocation w.place → w.stbar ≡ tag_of s p → waits_of t p ≡ waits_of s p ++ w ∷ [] →
        tag_of t p ≡ tag_of s p → ((q : ℕ) → (q ≡ p → ⊥) → IsSame t s q) → ((a : ℕ) → t.memory a ≡ s.memory a) → is_known unknown w.place.address ≡ true →
        Matches z unknown line t (next u (Store p w.place.address w.value))
    match_store t w location tag waits same others memory known =
        let entry = stored w (stbars_of u p) in
        let buffer = buffer_of u p ++ entry ∷ [] in
        record {
          sizes = record { memory = m.sizes.memory; buffers = length-set u.buffers p buffer ∙ m.sizes.buffers; stbars = m.sizes.stbars };
          memory = λ a is_known within. subst (λ cell. HasWord cell (slice_index u.memory a)) (sym (memory a)) (m.memory a is_known within);
          buffers =
              buffers_after t buffer others
              (subst (λ b. IsBuffer unknown line (waits_of t p) (tag_of t p) (buffer_of u p ++ kept b entry) (stbars_of u p)) known (pushed t w location tag waits same));
          idle = idle_after t others;
        }

    pub match_store_unknown : (t : MachineState) (w : WaitingStore) → IsLocation w.place → w.stbar ≡ tag_of s p → waits_of t p ≡ waits_of s p ++ w ∷ [] →
        tag_of t p ≡ tag_of s p → ((q : ℕ) → (q ≡ p → ⊥) → IsSame t s q) → ((a : ℕ) → t.memory a ≡ s.memory a) → is_known unknown w.place.address ≡ false →
        Matches z unknown line t u
    match_store_unknown t w location tag waits same others memory known =
        let entry = stored w (stbars_of u p) in
        record {
          sizes = m.sizes;
          memory = λ a is_known within. subst (λ cell. HasWord cell (slice_index u.memory a)) (sym (memory a)) (m.memory a is_known within);
          buffers = λ q. elim (cases_eq q p) [
            | inl is ↦
                subst (λ r. IsBuffer unknown line (waits_of t r) (tag_of t r) (buffer_of u r) (stbars_of u r)) (sym is)
                (subst (λ b. IsBuffer unknown line (waits_of t p) (tag_of t p) b (stbars_of u p)) (append-nil (buffer_of u p))
                (subst (λ b. IsBuffer unknown line (waits_of t p) (tag_of t p) (buffer_of u p ++ kept b entry) (stbars_of u p)) known (pushed t w location tag waits same)))
            | inr other ↦ buffer_of_same t q (others q other)
          ];
          idle = idle_after t others;
        }

    -- ---- a store reaches memory

    word_after : (a v store reached b : ℕ) → is_known unknown b ≡ true → b < z.words →
        HasWord (with_cell s.memory a (Stored v store reached) b) (slice_index (set u.memory a v) b)
    word_after a v store reached b known small = elim (cases_eq b a) [
      | inl same ↦
          let read : get_or (set u.memory a v) b 0 ≡ v =
          ap (λ i. get_or (set u.memory a v) i 0) same ∙ get_or-set_same u.memory a v 0 (omega (arith, same, small, m.sizes.memory)) in
          subst (λ cell. HasWord cell (slice_index (set u.memory a v) b)) (sym (with_cell_here s.memory a (Stored v store reached) b (sym same))) (sym read)
      | inr other ↦
          let read : get_or (set u.memory a v) b 0 ≡ get_or u.memory b 0 = get_or-set_other u.memory a b v 0 other in
          subst (λ cell. HasWord cell (slice_index (set u.memory a v) b)) (sym (with_cell_other s.memory a (Stored v store reached) b (λ same. other (sym same))))
          (subst (λ word. HasWord (s.memory b) word) (sym read) (m.memory b known small))
    ]

    -- a store reaches memory at once
    pub match_swap : (t : MachineState) (a r v store reached : ℕ) → ((q : ℕ) → IsSame t s q) →
        ((b : ℕ) → t.memory b ≡ with_cell s.memory a (Stored v store reached) b) → Matches z unknown line t (next u (Swap p a r v))
    match_swap t a r v store reached same memory = record {
      sizes = record { memory = length-set u.memory a v ∙ m.sizes.memory; buffers = m.sizes.buffers; stbars = m.sizes.stbars };
      memory = λ b known small. subst (λ cell. HasWord cell (slice_index (set u.memory a v) b)) (sym (memory b)) (word_after a v store reached b known small);
      buffers = λ q. buffer_of_same t q (same q);
      idle = λ q past. (same q).0 ∙ m.idle q past;
    }

    -- where nothing is known of the location
    pub match_stored_unknown : (t : MachineState) (a : ℕ) (cell : Cell) → ((q : ℕ) → IsSame t s q) → ((b : ℕ) → t.memory b ≡ with_cell s.memory a cell b) →
        is_known unknown a ≡ false → Matches z unknown line t u
    match_stored_unknown t a cell same memory not_known =
        match_kept t same (λ b known. memory b ∙ with_cell_other s.memory a cell b (λ e. let both : true ≡ false = sym known ∙ ap (is_known unknown) (sym e) ∙ not_known in absurd cc))

    -- ---- a store that waits reaches memory

    module _ (older : List WaitingStore) (w : WaitingStore) (newer : List WaitingStore) (parted : waits_of s p ≡ older ++ w ∷ newer) where
      abbrev own : IsBuffer unknown line (waits_of s p) (tag_of s p) (buffer_of u p) (stbars_of u p)
      own = m.buffers p

      abbrev before : List Entry
      before = entries own.stbars unknown older

      abbrev behind : List Entry
      behind = entries own.stbars unknown newer

      pub buffer_known : is_known unknown w.place.address ≡ true → buffer_of u p ≡ before ++ entry_by own.stbars w ∷ behind
      buffer_known known =
          buffer_parted unknown line (waits_of s p) (tag_of s p) (buffer_of u p) (stbars_of u p) own older w newer parted
          ∙ ap (λ b. before ++ (kept b (entry_by own.stbars w) ++ behind)) known

      buffer_unknown : is_known unknown w.place.address ≡ false → buffer_of u p ≡ before ++ behind
      buffer_unknown known =
          buffer_parted unknown line (waits_of s p) (tag_of s p) (buffer_of u p) (stbars_of u p) own older w newer parted
          ∙ ap (λ b. before ++ (kept b (entry_by own.stbars w) ++ behind)) known

      removed : (t : MachineState) → waits_of t p ≡ older ++ newer → tag_of t p ≡ tag_of s p → IsBuffer unknown line (waits_of t p) (tag_of t p) (before ++ behind) (stbars_of u p)
      removed t waits same =
          subst (λ ws. IsBuffer unknown line ws (tag_of t p) (before ++ behind) (stbars_of u p)) (sym waits)
          (subst (λ n. IsBuffer unknown line (older ++ newer) n (before ++ behind) (stbars_of u p)) (sym same)
          (buffer-remove unknown line (waits_of s p) (tag_of s p) (buffer_of u p) (stbars_of u p) own older w newer parted))

      -- the entry of the store
      pub entry_there : is_known unknown w.place.address ≡ true → slice_get (buffer_of u p) (length before) ≡ Some (entry_by own.stbars w)
      entry_there known = ap (λ b. slice_get b (length before)) (buffer_known known) ∙ get_between before (entry_by own.stbars w) behind

      pub match_drain : (t : MachineState) (store reached : ℕ) → waits_of t p ≡ older ++ newer → tag_of t p ≡ tag_of s p → ((q : ℕ) → (q ≡ p → ⊥) → IsSame t s q) →
          ((b : ℕ) → t.memory b ≡ with_cell s.memory w.place.address (Stored w.value store reached) b) → is_known unknown w.place.address ≡ true →
          Matches z unknown line t (drained u p (length before))
      match_drain t store reached waits same others memory known =
          let left : remove (buffer_of u p) (length before) ≡ before ++ behind =
          ap (λ b. remove b (length before)) (buffer_known known) ∙ remove_between before (entry_by own.stbars w) behind in
          subst (λ v. Matches z unknown line t v) (sym (drained-is u p (length before) (entry_by own.stbars w) (entry_there known)))
          (subst (λ b. Matches z unknown line t (record u { memory = set u.memory w.place.address w.value; buffers = set u.buffers p b })) (sym left)
          (record {
            sizes = record {
              memory = length-set u.memory w.place.address w.value ∙ m.sizes.memory;
              buffers = length-set u.buffers p (before ++ behind) ∙ m.sizes.buffers;
              stbars = m.sizes.stbars;
            };
            memory = λ b is_known small.
                subst (λ cell. HasWord cell (slice_index (set u.memory w.place.address w.value) b)) (sym (memory b)) (word_after w.place.address w.value store reached b is_known small);
            buffers = buffers_after t (before ++ behind) others (removed t waits same);
            idle = idle_after t others;
          }))

      pub match_drain_unknown : (t : MachineState) (cell : Cell) → waits_of t p ≡ older ++ newer → tag_of t p ≡ tag_of s p → ((q : ℕ) → (q ≡ p → ⊥) → IsSame t s q) →
          ((b : ℕ) → t.memory b ≡ with_cell s.memory w.place.address cell b) → is_known unknown w.place.address ≡ false → Matches z unknown line t u
      match_drain_unknown t cell waits same others memory not_known = record {
        sizes = m.sizes;
        memory = λ b known small.
            subst (λ c. HasWord c (slice_index u.memory b))
            (sym (memory b ∙ with_cell_other s.memory w.place.address cell b (λ e. let both : true ≡ false = sym known ∙ ap (is_known unknown) (sym e) ∙ not_known in absurd cc)))
            (m.memory b known small);
        buffers = λ q. elim (cases_eq q p) [
          | inl is ↦
              subst (λ r. IsBuffer unknown line (waits_of t r) (tag_of t r) (buffer_of u r) (stbars_of u r)) (sym is)
              (subst (λ b. IsBuffer unknown line (waits_of t p) (tag_of t p) b (stbars_of u p)) (sym (buffer_unknown not_known)) (removed t waits same))
          | inr other ↦ buffer_of_same t q (others q other)
        ];
        idle = idle_after t others;
      }

    -- ---- an STBAR

    pub match_stbar : (t : MachineState) → waits_of t p ≡ waits_of s p → tag_of t p ≡ line → ((q : ℕ) → (q ≡ p → ⊥) → IsSame t s q) → ((b : ℕ) → t.memory b ≡ s.memory b) →
        Matches z unknown (suc line) t (next u (Stbar p))
    match_stbar t waits tag others memory = record {
      sizes = record { memory = m.sizes.memory; buffers = m.sizes.buffers; stbars = length-set u.stbars p (suc (stbars_of u p)) ∙ m.sizes.stbars };
      memory = λ b known small. subst (λ cell. HasWord cell (slice_index u.memory b)) (sym (memory b)) (m.memory b known small);
      buffers = λ q. elim (cases_eq q p) [
        | inl is ↦
            let read : get_or (set u.stbars p (suc (stbars_of u p))) p 0 ≡ suc (stbars_of u p) =
            get_or-set_same u.stbars p (suc (stbars_of u p)) 0 (omega (arith, within, m.sizes.stbars)) in
            subst (λ r. IsBuffer unknown (suc line) (waits_of t r) (tag_of t r) (buffer_of u r) (get_or (set u.stbars p (suc (stbars_of u p))) r 0)) (sym is)
            (subst (λ n. IsBuffer unknown (suc line) (waits_of t p) (tag_of t p) (buffer_of u p) n) (sym read)
            (subst (λ ws. IsBuffer unknown (suc line) ws (tag_of t p) (buffer_of u p) (suc (stbars_of u p))) (sym waits)
            (subst (λ n. IsBuffer unknown (suc line) (waits_of s p) n (buffer_of u p) (suc (stbars_of u p))) (sym tag)
            (buffer-stbar unknown line (waits_of s p) (tag_of s p) (buffer_of u p) (stbars_of u p) (m.buffers p)))))
        | inr other ↦
            let read : get_or (set u.stbars p (suc (stbars_of u p))) q 0 ≡ stbars_of u q = get_or-set_other u.stbars p q (suc (stbars_of u p)) 0 other in
            subst (λ n. IsBuffer unknown (suc line) (waits_of t q) (tag_of t q) (buffer_of u q) n) (sym read)
            (buffer-later unknown line (waits_of t q) (tag_of t q) (buffer_of u q) (stbars_of u q) (buffer_of_same t q (others q other)) (suc line) (omega arith))
      ];
      idle = idle_after t others;
    }
