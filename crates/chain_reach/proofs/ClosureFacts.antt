-- Relations that lead on, once u leads to v too.
use Rattle.std.proofs.Common.{◌≡◌, ◌⊎◌, inl, inr, ℕ, sym, subst}

-- x is y, or leads to it
abbrev pub Or : (ℕ → ℕ → Type 0) → ℕ → ℕ → Type 0
Or L x y = (x ≡ y) ⊎ L x y

-- what a number leads to leads on
pub record LeadsOn (L : ℕ → ℕ → Type 0) : Type 0 where
  pub on : (x y z : ℕ) → L x y → L y z → L x z

-- The new relation has what the old one has, and what an edge from u to v adds.
pub record Closes (L N : ℕ → ℕ → Type 0) (u v : ℕ) : Type 0 where
  pub leads : (x y : ℕ) → N x y → L x y ⊎ (Or L x u × Or L v y)
  pub kept : (x y : ℕ) → L x y → N x y
  pub joined : (x y : ℕ) → Or L x u → Or L v y → N x y

pub or_leads : (L : ℕ → ℕ → Type 0) (x y z : ℕ) → LeadsOn L → Or L x y → L y z → L x z
or_leads L x y z on (inl e) l = subst (λ n. L n z) (sym e) l
or_leads L x y z on (inr k) l = on.on x y z k l

pub leads_or : (L : ℕ → ℕ → Type 0) (x y z : ℕ) → LeadsOn L → L x y → Or L y z → L x z
leads_or L x y z on l (inl e) = subst (λ n. L x n) e l
leads_or L x y z on l (inr k) = on.on x y z l k

pub Closes-on : (L N : ℕ → ℕ → Type 0) (u v : ℕ) → LeadsOn L → Closes L N u v → LeadsOn N
Closes-on L N u v on closes = record {
  on = λ x y z a b. elim (closes.leads x y a) [
    | inl l ↦ elim (closes.leads y z b) [
      | inl m ↦ closes.kept x z (on.on x y z l m)
      | inr m ↦ closes.joined x z (inr (leads_or L x y u on l m.0)) m.1
    ]
    | inr l ↦ elim (closes.leads y z b) [
      | inl m ↦ closes.joined x z l.0 (inr (or_leads L v y z on l.1 m))
      | inr m ↦ closes.joined x z l.0 m.1
    ]
  ];
}

-- where u leads to v already, the edge adds nothing
pub Closes-same : (L : ℕ → ℕ → Type 0) (u v : ℕ) → LeadsOn L → L u v → Closes L L u v
Closes-same L u v on edge = record {
  leads = λ x y l. inl l;
  kept = λ x y l. l;
  joined = λ x y a b. leads_or L x v y on (or_leads L x u v on a edge) b;
}
