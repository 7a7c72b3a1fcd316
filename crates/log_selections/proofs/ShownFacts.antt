-- Lines that are shown grow at their end.
use Rattle.std.proofs.Common.{◌≡◌, ◌∙◌, ℕ, zero, suc, ◌+◌, ap, map, take, ◌<◌, List, [], ◌∷◌, ◌++◌, get_or, arith, sym, subst}
use Rattle.std.specs.List.{All, range_with_len}
use Rattle.std.specs.Global.{Vec}
use Rattle.std.proofs.Math.Seq.{take-suc}
use Rattle.std.proofs.lemmas.List.{map-append}
use Rattle.std.proofs.lemmas.List.FromFn.{get_or-map-range_with_len, length-map-range_with_len, take-map-range_with_len}
use Rattle.tso_ops.specs.Values.{rows}
use Rattle.std.proofs.lemmas.List.Elements.{All-append, All-nil}
use Rattle.log_text.specs.declared.logs.LoggedOperation.{LoggedOperation}
use Rattle.log_selections.specs.declared.shown.Shown.{Shown}
use Rattle.log_selections.specs.Internal.Ascents.{IsUpTo}
use Rattle.log_selections.specs.Shown.{AreLinesOf, IsBelow, IsLineOf, none, more}

-- a list of one
one_of : {X : Type 0} (P : X → Type 0) (x : X) → P x → All P (x ∷ [])
one_of P x holds zero d within = holds
one_of P x holds (suc k) d within = absurd (omega (arith, within))

-- what is up to a line is below one after it, and up to that
below : (line next : ℕ) (shown : List Shown) → line < next → All (IsUpTo line) shown → All (IsBelow next) shown
below line next shown later all k d within = omega (arith, all k d within, later)

up_to : (line next : ℕ) (shown : List Shown) → line < next → All (IsUpTo line) shown → All (IsUpTo next) shown
up_to line next shown later all k d within = omega (arith, all k d within, later)

-- no line yet
pub no_lines : (lists : List (List LoggedOperation)) (shown : List Shown) → shown ≡ [] → AreLinesOf lists shown × All (IsUpTo 0) shown
no_lines lists shown is = subst (λ xs. AreLinesOf lists xs × All (IsUpTo 0) xs) (sym is) (record { here = All-nil (IsLineOf lists); ascending = none }, All-nil (IsUpTo 0))

-- one more
pub more_lines : (lists : List (List LoggedOperation)) (shown after : List Shown) (line : ℕ) (s : Shown) → after ≡ shown ++ s ∷ [] → line < s.logged.line → IsLineOf lists s →
    AreLinesOf lists shown × All (IsUpTo line) shown → AreLinesOf lists after × All (IsUpTo s.logged.line) after
more_lines lists shown after line s is later here (are, all) =
    subst (λ xs. AreLinesOf lists xs × All (IsUpTo s.logged.line) xs) (sym is) (
      record {
        here = All-append (IsLineOf lists) shown (s ∷ []) are.here (one_of (IsLineOf lists) s here);
        ascending = more shown s are.ascending (below line s.logged.line shown later all);
      },
      All-append (IsUpTo s.logged.line) shown (s ∷ []) (up_to line s.logged.line shown later all) (one_of (IsUpTo s.logged.line) s (omega arith)),
    )

-- one more of the lists that count
pub count_more : {X : Type 0} (f : ℕ → List X) (lists after : List (Vec X)) (list : Vec X) (p : ℕ) → after ≡ lists ++ list ∷ [] → list.items ≡ f p → rows lists ≡ map f (range_with_len 0 p) →
    rows after ≡ map f (range_with_len 0 (p + 1))
count_more {X} f lists after list p is here was =
    let all : List (List X) = map f (range_with_len 0 (p + 1)) in
    let at : p + 1 ≡ suc p = omega arith in
    let next : take (p + 1) all ≡ take p all ++ get_or all p [] ∷ [] =
    ap (λ n. take n all) at ∙ take-suc all p [] (omega (arith, length-map-range_with_len f 0 (p + 1))) in
    let whole : take (p + 1) all ≡ all = take-map-range_with_len f 0 (p + 1) (p + 1) (omega arith) in
    let before : take p all ≡ map f (range_with_len 0 p) = take-map-range_with_len f 0 (p + 1) p (omega arith) in
    let last : get_or all p [] ≡ f p = get_or-map-range_with_len f 0 (p + 1) p p [] (omega arith) (omega arith) in
    ap rows is ∙ map-append (λ (row : Vec X). row.items) lists (list ∷ []) ∙ ap (λ xs. xs ++ list.items ∷ []) (was ∙ sym before) ∙ ap (λ x. take p all ++ x ∷ []) (here ∙ sym last) ∙ sym next ∙ whole
