-- Least numbers by chain that are lowered step by step.
use Rattle.std.proofs.Common.{◌≡◌, ◌⊎◌, inl, inr, ℕ, ◌+◌, ◌<◌, ◌≤◌, min, List, length, get_or, sym, subst, refl, ◌∙◌, arith}
use Rattle.std.proofs.lemmas.Bool.{cases_eq, cases_lt}
use Rattle.std.proofs.lemmas.List.{get_or_past}
use Rattle.chain_reach.specs.declared.types.Groups.{Groups}
use Rattle.chain_reach.specs.Groups.{node_count, group_of}
use Rattle.chain_rules.specs.Internal.Lowering.{Lowers, LowersAt}

-- the number of one chain was lowered, to the least that must be
pub Lowers-at : (chains : Groups) (old new : List ℕ) (chain n : ℕ) (Must May : ℕ → Type 0) → LowersAt old new chain n → group_of chains n ≡ chain → May n →
    ((v : ℕ) → Must v → (group_of chains v ≡ chain) × (n ≤ v)) → Lowers chains old new Must May
Lowers-at chains old new chain n Must May lowered is allowed least = record {
  sized = lowered.sized;
  kept = λ d. elim (cases_eq d chain) [
    | inl e ↦ subst (λ k. get_or new k 0 ≤ get_or old k 0) (sym e) (let same = lowered.at in omega (arith, same))
    | inr ne ↦ (let same = lowered.others d ne in omega (arith, same))
  ];
  must = λ v of. (let is_least = least v of in
      let le = is_least.1 in
      let same = lowered.at in
      subst (λ k. get_or new k 0 ≤ v) (sym is_least.0) (omega (arith, same, le)));
  may = λ d low within. elim (cases_eq d chain) [
    | inl e ↦ elim (cases_lt n (get_or old chain 0)) [
      | inl less ↦ (let same = lowered.at in
          let now : get_or new chain 0 ≡ n = omega (arith, same, less) in
          inr (subst (λ k. (group_of chains (get_or new k 0) ≡ k) × May (get_or new k 0)) (sym e) (subst (λ k. (group_of chains k ≡ chain) × May k) (sym now) (is, allowed))))
      | inr more ↦ inl (subst (λ k. get_or new k 0 ≡ get_or old k 0) (sym e) (let same = lowered.at in omega (arith, same, more)))
    ]
    | inr ne ↦ inl (lowered.others d ne)
  ];
}

-- each number was lowered to that of a row of a table
pub Lowers-row : (chains : Groups) (old new table : List ℕ) (start : ℕ) (Must May : ℕ → Type 0) → length new ≡ length old →
    ((d : ℕ) → d < length old → get_or new d 0 ≡ min (get_or old d 0) (get_or table (start + d) 0)) →
    ((v : ℕ) → Must v → (group_of chains v < length old) × (get_or table (start + group_of chains v) 0 ≤ v)) →
    ((d : ℕ) → d < length old → get_or table (start + d) 0 < node_count chains → (group_of chains (get_or table (start + d) 0) ≡ d) × May (get_or table (start + d) 0)) →
    Lowers chains old new Must May
Lowers-row chains old new table start Must May sized lowered least allowed = record {
  sized = sized;
  kept = λ d. elim (cases_lt d (length old)) [
    | inl low ↦ (let same = lowered d low in omega (arith, same))
    | inr high ↦ (let none = get_or_past new d 0 (omega (arith, high, sized)) in omega (arith, none))
  ];
  must = λ v of. (let is_least = least v of in
      let le = is_least.1 in
      let same = lowered (group_of chains v) is_least.0 in
      omega (arith, same, le));
  may = λ d low within. (let same = lowered d low in
      elim (cases_lt (get_or table (start + d) 0) (get_or old d 0)) [
        | inl less ↦ (let now : get_or new d 0 ≡ get_or table (start + d) 0 = omega (arith, same, less) in
            inr (subst (λ k. (group_of chains k ≡ d) × May k) (sym now) (allowed d low (omega (arith, now, within)))))
        | inr more ↦ inl (omega (arith, same, more))
      ]);
}

-- nothing was lowered, where nothing must be
pub Lowers-none : (chains : Groups) (old : List ℕ) (Must May : ℕ → Type 0) → ((v : ℕ) → Must v → ⊥) → Lowers chains old old Must May
Lowers-none chains old Must May none = record {
  sized = refl;
  kept = λ d. omega arith;
  must = λ v of. absurd (none v of);
  may = λ d low within. inl refl;
}

-- the numbers were lowered, and then lowered again
pub Lowers-then : (chains : Groups) (old now new : List ℕ) (First Second Both May : ℕ → Type 0) → Lowers chains old now First May → Lowers chains now new Second May →
    ((v : ℕ) → Both v → First v ⊎ Second v) → Lowers chains old new Both May
Lowers-then chains old now new First Second Both May first second both = record {
  sized = second.sized ∙ first.sized;
  kept = λ d. (let one = first.kept d in let two = second.kept d in omega (arith, one, two));
  must = λ v of. elim (both v of) [
    | inl is ↦ (let le = first.must v is in let more = second.kept (group_of chains v) in omega (arith, le, more))
    | inr is ↦ second.must v is
  ];
  may = λ d low within. (let size = first.sized in
      elim (second.may d (omega (arith, low, size)) within) [
        | inl same ↦ elim (first.may d low (omega (arith, within, same))) [
          | inl was ↦ inl (same ∙ was)
          | inr is ↦ inr (subst (λ k. (group_of chains k ≡ d) × May k) (sym same) is)
        ]
        | inr is ↦ inr is
      ]);
}

-- less must be
pub Lowers-as : (chains : Groups) (old new : List ℕ) (Must Less May : ℕ → Type 0) → Lowers chains old new Must May → ((v : ℕ) → Less v → Must v) → Lowers chains old new Less May
Lowers-as chains old new Must Less May is less = record { sized = is.sized; kept = is.kept; must = λ v of. is.must v (less v of); may = is.may }
