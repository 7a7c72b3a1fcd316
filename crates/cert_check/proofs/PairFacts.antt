-- Lemmas on the pairs of a list of steps, and on what looks them up.
use Rattle.std.proofs.Common.{◌≡◌, ◌⊎◌, ◌↔◌, inl, inr, ℕ, zero, suc, ◌+◌, ◌<◌, ◌≤◌, List, [], ◌∷◌, ◌++◌, length, get_or, take, All, refl, sym, subst, arith}
use Rattle.std.proofs.lemmas.List.{take_more, take_all}
use Rattle.std.proofs.lemmas.List.Elements.{All-get_or}
use Rattle.std.proofs.lemmas.Option.{none-some, same_Some}
use Rattle.tso_cert.specs.declared.steps.CertStep.{CertStep}
use Rattle.tso_model.specs.Certs.{IsStep}
use Rattle.cert_check.specs.declared.pair_tables.PairTable.{PairTable}
use Rattle.cert_check.specs.declared.pairs.Pairs.{Pairs}
use Rattle.cert_check.specs.declared.pairs.Pairs.TheVariants.{Steps, Table}
use Rattle.cert_check.specs.Refusals.{IsStepUpTo}
use Rattle.cert_check.specs.PairTables.{HasPair, IsSquare}
use Rattle.cert_check.specs.Internal.Pairs.{Fits, HasPairsOf, ListsOf, ListsUpTo}

-- ---- the pairs of steps

pub none_listed : (u v : ℕ) → IsStep [] u v → ⊥
none_listed u v step = none-some step.1 step.2

-- a pair is that of the first step, or of a later one
pub first_or_later : (s : CertStep) (steps : List CertStep) (u v : ℕ) → IsStep (s ∷ steps) u v ↔ (((s.from ≡ u) × (s.to ≡ v)) ⊎ IsStep steps u v)
first_or_later s steps u v = (to, back)
  where
    to : IsStep (s ∷ steps) u v → ((s.from ≡ u) × (s.to ≡ v)) ⊎ IsStep steps u v
    to (zero, d, at, starts, ends) = inl (subst (λ e. (e.from ≡ u) × (e.to ≡ v)) (sym (same_Some s d at)) (starts, ends))
    to (suc k, d, at, starts, ends) = inr (k, d, at, starts, ends)

    back : ((s.from ≡ u) × (s.to ≡ v)) ⊎ IsStep steps u v → IsStep (s ∷ steps) u v
    back (inl here) = (0, s, refl, here.0, here.1)
    back (inr later) = (suc later.0, later.1, later.2, later.3, later.4)

-- a pair is that of an earlier step, or of the last one
pub earlier_or_last : (steps : List CertStep) (s : CertStep) (u v : ℕ) → IsStep (steps ++ s ∷ []) u v ↔ (IsStep steps u v ⊎ ((s.from ≡ u) × (s.to ≡ v)))
earlier_or_last [] s u v =
    let only = first_or_later s [] u v in (
      λ step. elim (only.0 step) [ inl here ↦ inr here | inr none ↦ inl none ],
      λ one. only.1 (elim one [ inl none ↦ inr none | inr here ↦ inl here ]),
    )
earlier_or_last (a ∷ steps) s u v =
    let more = earlier_or_last steps s u v in
    let new = first_or_later a (steps ++ s ∷ []) u v in
    let old = first_or_later a steps u v in (
      λ step. elim (new.0 step) [
        | inl here ↦ inl (old.1 (inl here))
        | inr later ↦ elim (more.0 later) [ inl earlier ↦ inl (old.1 (inr earlier)) | inr last ↦ inr last ]
      ],
      λ one. new.1 (elim one [
        | inl earlier ↦ elim (old.0 earlier) [ inl here ↦ inl here | inr later ↦ inr (more.1 (inl later)) ]
        | inr last ↦ inr (more.1 (inr last))
      ]),
    )

-- ---- the table

pub pairs_of_none : (table : PairTable) → IsSquare table → ((u v : ℕ) → HasPair table u v → ⊥) → HasPairsOf table []
pairs_of_none table square empty = record {
  square = square;
  pairs = λ u v. (λ has. absurd (empty u v has), λ step. absurd (none_listed u v step));
}

pub pairs_with_last : (old new : PairTable) (steps : List CertStep) (s : CertStep) → HasPairsOf old steps → IsSquare new →
    ((u v : ℕ) → HasPair new u v ↔ (HasPair old u v ⊎ ((s.from ≡ u) × (s.to ≡ v)))) → HasPairsOf new (steps ++ s ∷ [])
pairs_with_last old new steps s keeps square added = record {
  square = square;
  pairs = λ u v.
      let last = earlier_or_last steps s u v in
      let add = added u v in
      let pair = keeps.pairs u v in (
        λ has. last.1 (elim (add.0 has) [ inl before ↦ inl (pair.0 before) | inr here ↦ inr here ]),
        λ step. add.1 (elim (last.0 step) [ inl before ↦ inl (pair.1 before) | inr here ↦ inr here ]),
      );
}

-- ---- what looks pairs up, in the loop over the steps

pub lists_of : (last : ℕ) (pairs : Pairs) (steps : List CertStep) → ListsUpTo last pairs steps → ListsOf pairs steps
lists_of last Steps steps lists = tt
lists_of last (Table table) steps lists = lists.1

pub lists_all : (last : ℕ) (pairs : Pairs) (steps : List CertStep) (k : ℕ) → length steps ≤ k → ListsUpTo last pairs (take k steps) → ListsOf pairs steps
lists_all last pairs steps k whole lists = lists_of last pairs steps (subst (ListsUpTo last pairs) (take_all k steps whole) lists)

step_at : (last : ℕ) (steps : List CertStep) (k : ℕ) (s : CertStep) → k < length steps → s ≡ get_or steps k s → All (IsStepUpTo last) steps → IsStepUpTo last s
step_at last steps k s within read range = subst (IsStepUpTo last) (sym read) (All-get_or (IsStepUpTo last) steps k s within range)

pub fits_at : (last : ℕ) (pairs : Pairs) (steps : List CertStep) (k : ℕ) (s : CertStep) → k < length steps → s ≡ get_or steps k s → All (IsStepUpTo last) steps →
    ListsUpTo last pairs (take k steps) → Fits pairs s
fits_at last Steps steps k s within read range lists = tt
fits_at last (Table table) steps k s within read range lists =
    let up_to = step_at last steps k s within read range in (lists.1.square, omega (arith, up_to.0, lists.0), omega (arith, up_to.1, lists.0))

pub lists_more : (last : ℕ) (pairs : Pairs) (steps : List CertStep) (k : ℕ) (s : CertStep) → k < length steps → s ≡ get_or steps k s →
    ListsUpTo last pairs (take k steps ++ s ∷ []) → ListsUpTo last pairs (take (k + 1) steps)
lists_more last pairs steps k s within read lists =
    subst (ListsUpTo last pairs) (sym (subst (λ d. take (k + 1) steps ≡ take k steps ++ d ∷ []) (sym read) (take_more steps k s within))) lists
