-- How a run of 256 locations begins.
use Rattle.std.proofs.Common.{◌≡◌, ◌∙◌, ap, refl, subst, ℕ, zero, suc, ◌+◌, ◌%◌, ◌<◌, ◌≤◌, List, [], ◌∷◌, length, slice_index, cond, arith}
use Rattle.std.proofs.lemmas.Bool.{eq-eqb, ne_eqb}
use Rattle.std.proofs.Math.Nat.{mod-eq_of_lt, mod-lt}
use Rattle.run_steps.specs.declared.cells.Cell.TheVariants.{First}
use Rattle.run_steps.specs.declared.places.Place.{Place}
use Rattle.run_steps.specs.Machine.{MachineState, beginning_state, presetting}
use Rattle.unit_runs.specs.Lines.{AreLocations, IsStartOf, preset_from}
use Rattle.unit_runs.proofs.Moments.{filled_one}

-- the location at the least address from 0 on that ends as this one
abbrev location_of : ℕ → Place
location_of a = record {
  address = a % 256;
  width = 0;
  few = omega arith;
  within = (let low : a % 256 < 256 = mod-lt a (omega arith) in omega (arith, low));
}

pub all_located : (places : ℕ → Place) × AreLocations places
all_located = (location_of, λ a small. record { address = mod-eq_of_lt small; width = refl })

module _ (places : ℕ → Place) (located : AreLocations places) where
  -- a first value of an address
  preset_here : (a v : ℕ) (s : MachineState) → a < 256 → (presetting (places a) v s).memory a ≡ First v
  preset_here a v s small = ap (λ m. m a) (filled_one s.memory a (places a) _ v (located a small)) ∙ ap (λ t. cond t (First v) (s.memory a)) (eq-eqb a a refl)

  preset_other : (a v b : ℕ) (s : MachineState) → a < 256 → (a ≡ b → ⊥) → (presetting (places a) v s).memory b ≡ s.memory b
  preset_other a v b s small other =
      ap (λ m. m b) (filled_one s.memory a (places a) _ v (located a small))
      ∙ ap (λ t. cond t (First v) (s.memory b)) (ne_eqb a b other)

  -- first values from an address on leave those before it
  preset_before : (a : ℕ) (values : List ℕ) (s : MachineState) (b : ℕ) → a + length values ≤ 256 → b < a → (preset_from places a values s).memory b ≡ s.memory b
  preset_before a [] s b all before = refl
  preset_before a (v ∷ values) s b all before =
      preset_before (suc a) values (presetting (places a) v s) b (omega (arith, all)) (omega (arith, before))
      ∙ preset_other a v b s (omega (arith, all)) (λ same. omega (arith, same, before))

  preset_at : (a : ℕ) (values : List ℕ) (s : MachineState) (i : ℕ) → a + length values ≤ 256 → i < length values →
      (preset_from places a values s).memory (a + i) ≡ First (slice_index values i)
  preset_at a [] s i all within = absurd (omega (arith, within))
  preset_at a (v ∷ values) s zero all within =
      let here : a ≡ a + 0 = omega arith in
      subst (λ n. (preset_from places (suc a) values (presetting (places a) v s)).memory n ≡ First v) here
      (preset_before (suc a) values (presetting (places a) v s) a (omega (arith, all)) (omega arith) ∙ preset_here a v s (omega (arith, all)))
  preset_at a (v ∷ values) s (suc i) all within =
      let next : suc a + i ≡ a + suc i = omega arith in
      subst (λ n. (preset_from places (suc a) values (presetting (places a) v s)).memory n ≡ First (slice_index values i)) next
      (preset_at (suc a) values (presetting (places a) v s) i (omega (arith, all)) (omega (arith, within)))

  preset_processors : (a : ℕ) (values : List ℕ) (s : MachineState) → (preset_from places a values s).processors ≡ s.processors
  preset_processors a [] s = refl
  preset_processors a (v ∷ values) s = preset_processors (suc a) values (presetting (places a) v s)

  pub start_preset : (memory : List ℕ) → length memory ≡ 256 → IsStartOf memory (preset_from places 0 memory beginning_state)
  start_preset memory words = record {
    first = λ a small.
        let same : 0 + a ≡ a = omega arith in
        subst (λ n. (preset_from places 0 memory beginning_state).memory n ≡ First (slice_index memory a)) same
        (preset_at 0 memory beginning_state a (omega (arith, words)) (omega (arith, words, small)));
    processors = preset_processors 0 memory beginning_state;
  }
