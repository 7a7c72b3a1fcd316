-- Lemmas on how many operations and loads a log has.
use Rattle.std.proofs.Common.{◌≡◌, ◌∙◌, ℕ, suc, ◌+◌, ◌<◌, List, [], ◌∷◌, ◌++◌, length, map, take, get_or, ap, arith, sym, length-append}
use Rattle.std.specs.Global.{Vec}
use Rattle.std.specs.List.{flat_map}
use Rattle.std.proofs.Math.Seq.{take-suc}
use Rattle.std.proofs.lemmas.List.{append-nil, get_or-map, length-map, map-append}
use Rattle.std.proofs.lemmas.Grind.{flat_map-append}
use Rattle.tso_ops.specs.Values.{rows}
use Rattle.log_text.specs.declared.logs.LogOperation.{LogOperation}
use Rattle.log_text.specs.declared.logs.LoggedOperation.{LoggedOperation}
use Rattle.log_selections.specs.Unwritten.{read_by}
use Rattle.log_reports.specs.LogCounts.{loads_of}

operations_by : List LoggedOperation → List LogOperation
operations_by list = map (λ x. x.operation) list

loads_of-append : (xs ys : List LogOperation) → loads_of (xs ++ ys) ≡ loads_of xs + loads_of ys
loads_of-append xs ys = ap length (flat_map-append read_by xs ys) ∙ length-append (flat_map read_by xs) (flat_map read_by ys)

-- one more operation
pub loads_more : (list : List LoggedOperation) (i : ℕ) (d : LoggedOperation) (loads : ℕ) → i < length list → loads ≡ loads_of (map (λ x. x.operation) (take i list)) →
    loads + length (read_by (get_or list i d).operation) ≡ loads_of (map (λ x. x.operation) (take (i + 1) list))
unfolding operations_by
loads_more list i d loads within was =
    let at : i + 1 ≡ suc i = omega arith in
    let more : take (i + 1) list ≡ take i list ++ get_or list i d ∷ [] = ap (λ n. take n list) at ∙ take-suc list i d within in
    let one : loads_of (operations_by (get_or list i d ∷ [])) ≡ length (read_by (get_or list i d).operation) = ap length (append-nil (read_by (get_or list i d).operation)) in
    ap (λ n. n + length (read_by (get_or list i d).operation)) was ∙ ap (λ n. loads_of (operations_by (take i list)) + n) (sym one)
    ∙ sym (loads_of-append (operations_by (take i list)) (operations_by (get_or list i d ∷ []))) ∙ ap loads_of (sym (map-append (λ x. x.operation) (take i list) (get_or list i d ∷ [])))
    ∙ sym (ap (λ xs. loads_of (operations_by xs)) more)

-- one more processor
module _ (lists : List (Vec LoggedOperation)) (i : ℕ) (d : Vec LoggedOperation) (within : i < length lists) where
  pub operations_more : flat_map (map (λ x. x.operation)) (take (i + 1) (rows lists)) ≡ flat_map (map (λ x. x.operation)) (take i (rows lists)) ++ map (λ x. x.operation) (get_or lists i d).items
  unfolding operations_by
  operations_more =
      let at : i + 1 ≡ suc i = omega arith in
      let long : i < length (rows lists) = omega (arith, within, length-map lists (λ (row : Vec LoggedOperation). row.items)) in
      let here : get_or (rows lists) i [] ≡ (get_or lists i d).items = get_or-map (λ (row : Vec LoggedOperation). row.items) lists i d [] within in
      let more : take (i + 1) (rows lists) ≡ take i (rows lists) ++ get_or (rows lists) i [] ∷ [] = ap (λ n. take n (rows lists)) at ∙ take-suc (rows lists) i [] long in
      ap (flat_map operations_by) more ∙ flat_map-append operations_by (take i (rows lists)) (get_or (rows lists) i [] ∷ [])
      ∙ ap (λ xs. flat_map operations_by (take i (rows lists)) ++ xs) (append-nil (operations_by (get_or (rows lists) i [])) ∙ ap operations_by here)

  module _ (before : List LogOperation) (is : before ≡ flat_map (map (λ x. x.operation)) (take i (rows lists))) where
    pub length_more : (operations : ℕ) → operations ≡ length before → operations + length (get_or lists i d).items ≡ length (flat_map (map (λ x. x.operation)) (take (i + 1) (rows lists)))
    unfolding operations_by
    length_more operations was =
        ap (λ n. n + length (get_or lists i d).items) was ∙ ap (λ n. length before + n) (sym (length-map (get_or lists i d).items (λ x. x.operation))) ∙ sym (length-append before (operations_by (get_or lists i d).items))
        ∙ ap (λ xs. length (xs ++ operations_by (get_or lists i d).items)) is ∙ ap length (sym operations_more)

    pub loads_more_of_list : (loads : ℕ) → loads ≡ loads_of before → loads + loads_of (map (λ x. x.operation) (get_or lists i d).items) ≡ loads_of (flat_map (map (λ x. x.operation)) (take (i + 1) (rows lists)))
    unfolding operations_by
    loads_more_of_list loads was =
        ap (λ n. n + loads_of (operations_by (get_or lists i d).items)) was ∙ sym (loads_of-append before (operations_by (get_or lists i d).items))
        ∙ ap (λ xs. loads_of (xs ++ operations_by (get_or lists i d).items)) is ∙ ap loads_of (sym operations_more)
