-- Lemmas on the operations that are left of a log without those at some addresses.
use Rattle.std.proofs.Common.{◌≡◌, ◌∙◌, ℕ, suc, ◌+◌, ◌<◌, List, [], ◌∷◌, ◌++◌, length, get_or, map, take, true, false, not, refl, sym, ap, arith}
use Rattle.std.specs.Global.{Vec}
use Rattle.std.specs.List.{sum_by}
use Rattle.std.proofs.Math.Seq.{take-suc}
use Rattle.std.proofs.lemmas.List.{append-nil, get_or-map, length-map, map-append}
use Rattle.std.proofs.lemmas.List.Elements.{filter-append}
use Rattle.std.proofs.lemmas.List.Sums.{sum_by_more}
use Rattle.tso_ops.specs.Values.{rows}
use Rattle.log_text.specs.declared.logs.LoggedOperation.{LoggedOperation}
use Rattle.log_text.specs.LogTexts.{is_at_one_of, without_addresses}

module _ (all : List ℕ) (list : List LoggedOperation) (i : ℕ) (d : LoggedOperation) (inside : i < length list) where
  next_left : without_addresses all (take (i + 1) list) ≡ without_addresses all (take i list) ++ without_addresses all (get_or list i d ∷ [])
  next_left =
      let next : i + 1 ≡ suc i = omega arith in
      let more : take (i + 1) list ≡ take i list ++ get_or list i d ∷ [] = ap (λ n. take n list) next ∙ take-suc list i d inside in
      ap (without_addresses all) more ∙ filter-append (λ y. not (is_at_one_of all y.operation)) (take i list) (get_or list i d ∷ [])

  module _ (left : List LoggedOperation) (was : left ≡ without_addresses all (take i list)) where
    -- an operation elsewhere is kept
    pub kept : is_at_one_of all (get_or list i d).operation ≡ false → left ++ get_or list i d ∷ [] ≡ without_addresses all (take (i + 1) list)
    kept elsewhere =
        let here : without_addresses all (get_or list i d ∷ []) ≡ get_or list i d ∷ [] = rw elsewhere refl in
        ap (λ xs. xs ++ get_or list i d ∷ []) was ∙ ap (λ xs. without_addresses all (take i list) ++ xs) (sym here) ∙ sym next_left

    -- one at these addresses isn't
    pub left_out : is_at_one_of all (get_or list i d).operation ≡ true → left ≡ without_addresses all (take (i + 1) list)
    left_out there =
        let here : without_addresses all (get_or list i d ∷ []) ≡ [] = rw there refl in
        was ∙ sym (append-nil (without_addresses all (take i list))) ∙ ap (λ xs. without_addresses all (take i list) ++ xs) (sym here) ∙ sym next_left

-- one more list in a sum
pub sum_next : {X : Type 0} (f : List X → ℕ) (lists : List (Vec X)) (i : ℕ) (d : Vec X) (before : ℕ) → i < length lists → before ≡ sum_by f (take i (rows lists)) →
    before + f (get_or lists i d).items ≡ sum_by f (take (i + 1) (rows lists))
sum_next {X} f lists i d before inside was =
    let long : i < length (rows lists) = omega (arith, length-map lists (λ (row : Vec X). row.items)) in
    let here : get_or (rows lists) i [] ≡ (get_or lists i d).items = get_or-map (λ (row : Vec X). row.items) lists i d [] inside in
    ap (λ n. n + f (get_or lists i d).items) was ∙ ap (λ xs. sum_by f (take i (rows lists)) + f xs) (sym here) ∙ sym (sum_by_more f (rows lists) i [] long)

-- one more list, made of the next of others
pub rows_next : {X Y : Type 0} (f : List X → List Y) (lists : List (Vec X)) (made : List (Vec Y)) (new : Vec Y) (i : ℕ) (d : Vec X) → i < length lists → rows made ≡ map f (take i (rows lists)) →
    new.items ≡ f (get_or lists i d).items → rows (made ++ new ∷ []) ≡ map f (take (i + 1) (rows lists))
rows_next {X} {Y} f lists made new i d inside was is =
    let next : i + 1 ≡ suc i = omega arith in
    let long : i < length (rows lists) = omega (arith, length-map lists (λ (row : Vec X). row.items)) in
    let here : get_or (rows lists) i [] ≡ (get_or lists i d).items = get_or-map (λ (row : Vec X). row.items) lists i d [] inside in
    map-append (λ (row : Vec Y). row.items) made (new ∷ []) ∙ ap (λ xs. xs ++ new.items ∷ []) was ∙ ap (λ x. map f (take i (rows lists)) ++ x ∷ []) (is ∙ ap f (sym here))
    ∙ sym (map-append f (take i (rows lists)) (get_or (rows lists) i [] ∷ [])) ∙ ap (map f) (sym (take-suc (rows lists) i [] long)) ∙ ap (λ n. map f (take n (rows lists))) (sym next)
