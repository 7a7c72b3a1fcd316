-- Lemmas on the entries of a store buffer.
use Rattle.std.proofs.Common.{◌≡◌, ◌∙◌, ap, refl, ℕ, zero, suc, true, false, cond, ◌==◌, Option, None, Some, List, [], ◌∷◌, drop, slice_get}
use Rattle.std.specs.Option.{option_or}
use Rattle.store_buffers.specs.declared.entries.StoreEntry.{StoreEntry}
use Rattle.store_buffers.specs.Buffers.{newest_value}

-- where no newer entry is of the address
or_none : (o : Option ℕ) (x : Option ℕ) → o ≡ None → option_or o x ≡ x
or_none o x none = ap (λ r. option_or r x) none

-- the entry at k, with newer entries of other addresses alone
pub newest-here : (entries : List StoreEntry) (k a : ℕ) (e : StoreEntry) → slice_get entries k ≡ Some e → (e.a == a) ≡ true → newest_value (drop (suc k) entries) a ≡ None →
    newest_value entries a ≡ Some e.v
newest-here [] k a e read is none = absurd cc
newest-here (x ∷ entries) zero a e read is none =
    let same : x ≡ e = cc in
    or_none (newest_value entries a) _ none ∙ ap (λ y. cond (y.a == a) (Some y.v) None) same ∙ ap (λ b. cond b (Some e.v) None) is
newest-here (x ∷ entries) (suc k) a e read is none = ap (λ r. option_or r (cond (x.a == a) (Some x.v) None)) (newest-here entries k a e read is none)

-- the entry at k is of another address, as are the newer ones
pub newest-not_here : (entries : List StoreEntry) (k a : ℕ) → ((e : StoreEntry) → slice_get entries k ≡ Some e → (e.a == a) ≡ false) → newest_value (drop (suc k) entries) a ≡ None →
    newest_value (drop k entries) a ≡ None
newest-not_here [] zero a other none = refl
newest-not_here [] (suc k) a other none = refl
newest-not_here (x ∷ entries) zero a other none = or_none (newest_value entries a) _ none ∙ ap (λ b. cond b (Some x.v) None) (other x refl)
newest-not_here (x ∷ entries) (suc k) a other none = newest-not_here entries k a other none
