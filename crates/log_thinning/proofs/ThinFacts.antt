-- One more operation, of which the ones behind it are thinned.
use Rattle.std.proofs.Common.{◌≡◌, ◌∙◌, ℕ, ◌+◌, ◌-◌, ◌<◌, Bool, true, false, List, [], ◌∷◌, ◌++◌, Option, drop, length, get_or, reverse, refl, sym, ap, arith}
use Rattle.std.proofs.lemmas.List.{drop_more, reverse-append}
use Rattle.log_text.specs.declared.logs.LoggedOperation.{LoggedOperation}
use Rattle.log_thinning.specs.Thinned.{is_load_of, next_load, next_load_before, thinned_before}

-- so many operations are done, from the last on
module _ (list : List LoggedOperation) (done : ℕ) (d : LoggedOperation) (inside : done < length list) where
  -- the operation that comes next, and those behind it
  one_more : drop (length list - (done + 1)) list ≡ get_or list (length list - 1 - done) d ∷ drop (length list - done) list
  one_more =
      let place : length list - (done + 1) ≡ length list - 1 - done = omega (arith, inside) in
      let next : length list - 1 - done + 1 ≡ length list - done = omega (arith, inside) in
      ap (λ n. drop n list) place ∙ drop_more list (length list - 1 - done) d (omega (arith, inside)) ∙ ap (λ n. get_or list (length list - 1 - done) d ∷ drop n list) next

  module _ (next : Option (ℕ × ℕ)) (next_is : next ≡ next_load (drop (length list - done) list)) where
    -- the load before which barriers alone come
    pub next_more : next_load_before (get_or list (length list - 1 - done) d).operation next ≡ next_load (drop (length list - (done + 1)) list)
    next_more = ap (next_load_before (get_or list (length list - 1 - done) d).operation) next_is ∙ ap next_load (sym one_more)

    module _ (test : Bool) (tested : test ≡ is_load_of (get_or list (length list - 1 - done) d).operation next) (kept : List LoggedOperation)
        (was : kept ≡ reverse (thinned_before (drop (length list - done) list))) where
      -- it is kept
      pub kept_more : test ≡ false → kept ++ get_or list (length list - 1 - done) d ∷ [] ≡ reverse (thinned_before (drop (length list - (done + 1)) list))
      kept_more unlike =
          let answer : is_load_of (get_or list (length list - 1 - done) d).operation (next_load (drop (length list - done) list)) ≡ false =
          ap (is_load_of (get_or list (length list - 1 - done) d).operation) (sym next_is) ∙ sym tested ∙ unlike in
          let here : thinned_before (get_or list (length list - 1 - done) d ∷ drop (length list - done) list) ≡
          (get_or list (length list - 1 - done) d ∷ []) ++ thinned_before (drop (length list - done) list) = rw answer refl in
          ap (λ xs. xs ++ get_or list (length list - 1 - done) d ∷ []) was
          ∙ sym (reverse-append (get_or list (length list - 1 - done) d ∷ []) (thinned_before (drop (length list - done) list)))
          ∙ ap reverse (sym here) ∙ ap (λ xs. reverse (thinned_before xs)) (sym one_more)

      -- it is dropped
      pub dropped_more : test ≡ true → kept ≡ reverse (thinned_before (drop (length list - (done + 1)) list))
      dropped_more alike =
          let answer : is_load_of (get_or list (length list - 1 - done) d).operation (next_load (drop (length list - done) list)) ≡ true =
          ap (is_load_of (get_or list (length list - 1 - done) d).operation) (sym next_is) ∙ sym tested ∙ alike in
          let here : thinned_before (get_or list (length list - 1 - done) d ∷ drop (length list - done) list) ≡ thinned_before (drop (length list - done) list) = rw answer refl in
          was ∙ ap reverse (sym here) ∙ ap (λ xs. reverse (thinned_before xs)) (sym one_more)
