-- Lemmas on the rows that workers computed.
use Rattle.std.proofs.Common.{◌≡◌, ◌∙◌, ℕ, ◌+◌, ◌<◌, ◌≤◌, List, [], ◌∷◌, ◌++◌, length, get_or, take, All, refl, sym, ap, subst, ⊎_elim, length-append, arith}
use Rattle.std.specs.Global.{Vec}
use Rattle.std.proofs.lemmas.Bool.{cases_lt}
use Rattle.std.proofs.lemmas.List.{map-append, take_more, get_or_at, get_or_append_left}
use Rattle.std.proofs.lemmas.List.Elements.{All-append, All-push}
use Rattle.bitsets.specs.Rows.{IsListOf}
use Rattle.order_graph.specs.Digraphs.{Digraph, IsEdge}
use Rattle.tso_ops.specs.Values.{TraceValue, rows}
use Rattle.tso_model.specs.NewEdges.{IsNew}
use Rattle.round_pool.specs.declared.claims.types.Claims.{Claims}
use Rattle.round_pool.specs.declared.worker_rows.ComputedRow.{ComputedRow}
use Rattle.round_pool.specs.declared.worker_rows.WorkerRows.{WorkerRows}
use Rattle.round_pool.specs.Claims.{held, IsOf}
use Rattle.round_pool.specs.Internal.WorkerRows.{IsRow, numbers_of, AreOfClaimant, AreRowsOf}

-- the rows of two
pub worker_rows_joined : (t : TraceValue) (g : Digraph) (claims : Claims) (one more both : WorkerRows) → AreOfClaimant t g claims one → AreOfClaimant t g claims more → IsOf claims both.claimant →
    held claims both.claimant ≡ held claims one.claimant ++ held claims more.claimant → both.rows.items ≡ one.rows.items ++ more.rows.items → AreOfClaimant t g claims both
worker_rows_joined t g claims one more both first second own holds items = record {
  own = own;
  numbers = ap numbers_of items ∙ (map-append (λ (c : ComputedRow). c.number) one.rows.items more.rows.items
      ∙ (ap (λ l. l ++ numbers_of more.rows.items) first.numbers ∙ (ap (λ l. held claims one.claimant ++ l) second.numbers ∙ sym holds)));
  each = subst (All (IsRow t g)) (sym items) (All-append (IsRow t g) one.rows.items more.rows.items first.each second.each);
}

-- one row more
pub worker_rows_more : (t : TraceValue) (g : Digraph) (claims : Claims) (before after : WorkerRows) (row : ComputedRow) → AreOfClaimant t g claims before → IsRow t g row → IsOf claims after.claimant →
    held claims after.claimant ≡ held claims before.claimant ++ row.number ∷ [] → after.rows.items ≡ before.rows.items ++ row ∷ [] → AreOfClaimant t g claims after
worker_rows_more t g claims before after row are is own holds items = record {
  own = own;
  numbers = ap numbers_of items ∙ (map-append (λ (c : ComputedRow). c.number) before.rows.items (row ∷ []) ∙ (ap (λ l. l ++ row.number ∷ []) are.numbers ∙ sym holds));
  each = subst (All (IsRow t g)) (sym items) (All-push (IsRow t g) before.rows.items row are.each is);
}

-- ---- the rows of numbers

-- one number more
pub rows_of_more : (t : TraceValue) (g : Digraph) (numbers : List ℕ) (lists : List (List ℕ)) (number : ℕ) (row : List ℕ) → AreRowsOf t g numbers lists → IsListOf row (IsNew t (IsEdge g) number) →
    AreRowsOf t g (numbers ++ number ∷ []) (lists ++ row ∷ [])
rows_of_more t g numbers lists number row are is = record {
  count_is = omega (arith, are.count_is, length-append lists (row ∷ []), length-append numbers (number ∷ []));
  row = λ i low. ⊎_elim
      (λ (before : i < length numbers).
      let size = are.count_is in
      subst (λ n. IsListOf (get_or (lists ++ row ∷ []) i []) (IsNew t (IsEdge g) n)) (sym (get_or_append_left numbers (number ∷ []) 0 i before))
      (subst (λ r. IsListOf r (IsNew t (IsEdge g) (get_or numbers i 0))) (sym (get_or_append_left lists (row ∷ []) [] i (omega (arith, before, size)))) (are.row i before)))
      (λ (past : length numbers ≤ i).
      let last : i ≡ length numbers = omega (arith, past, low, length-append numbers (number ∷ [])) in
      subst (λ k. IsListOf (get_or (lists ++ row ∷ []) k []) (IsNew t (IsEdge g) (get_or (numbers ++ number ∷ []) k 0))) (sym last)
      (subst (λ n. IsListOf (get_or (lists ++ row ∷ []) (length numbers) []) (IsNew t (IsEdge g) n)) (sym (get_or_at numbers number [] 0 (length numbers) refl))
      (subst (λ r. IsListOf r (IsNew t (IsEdge g) number)) (sym (get_or_at lists row [] [] (length numbers) are.count_is)) is)))
      (cases_lt i (length numbers));
}

-- the number at the next place, and the row that was pushed
pub rows_of_next : (t : TraceValue) (g : Digraph) (numbers : List ℕ) (i d : ℕ) (made next : List (Vec ℕ)) (row : Vec ℕ) → i < length numbers → AreRowsOf t g (take i numbers) (rows made) →
    IsListOf row.items (IsNew t (IsEdge g) (get_or numbers i d)) → next ≡ made ++ row ∷ [] → AreRowsOf t g (take (i + 1) numbers) (rows next)
rows_of_next t g numbers i d made next row inside are is pushed =
    subst (λ l. AreRowsOf t g (take (i + 1) numbers) l) (sym (ap (λ (l : List (Vec ℕ)). rows l) pushed ∙ map-append (λ (v : Vec ℕ). v.items) made (row ∷ [])))
    (subst (λ l. AreRowsOf t g l (rows made ++ row.items ∷ [])) (sym (take_more numbers i d inside))
    (rows_of_more t g (take i numbers) (rows made) (get_or numbers i d) row.items are is))
