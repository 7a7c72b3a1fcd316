-- Lemmas on the edges that the inferred rules give over a graph.
use Rattle.std.proofs.Common.{◌≡◌, ◌≢◌, ◌∙◌, ◌⊎◌, ◌↔◌, inl, inr, ℕ, suc, ◌+◌, ◌-◌, ◌<◌, ◌≤◌, Some, List, [], get_or, false, refl, sym, subst, arith, ⊎_elim, length}
use Rattle.std.specs.Prelude.{bit_and}
use Rattle.std.proofs.lemmas.Option.{same_Some}
use Rattle.std.proofs.lemmas.Bool.{cases_lt}
use Rattle.order_graph.specs.Digraphs.{Digraph, IsEdge, EdgesWithin}
use Rattle.bitsets.specs.Rows.{HasNumber, IsMask, Marks}
use Rattle.order_paths.specs.Paths.{Reaches}
use Rattle.order_paths.proofs.Reach.{Reaches-below}
use Rattle.tso_ops.specs.Values.{TraceValue}
use Rattle.tso_ops.specs.declared.events.Event.{Event}
use Rattle.tso_ops.specs.Events.{event_total, event_at, HasSource, IsStore, IsLoadAt, IsStoreTo, IsSwapLoad, SameAddress}
use Rattle.tso_cert.specs.declared.rules.InferredRule.{InferredRule}
use Rattle.tso_cert.specs.declared.rules.InferredRule.TheVariants.{LoadPast, StorePast, SwapBefore, SwapAfter}
use Rattle.tso_model.specs.Certs.{inferred_index}
use Rattle.tso_model.specs.NewEdges.{IsNew, IsGivenBy}
use Rattle.tso_ops.proofs.NumberFacts.{event_above_zero, store_event}
use Rattle.tso_model.proofs.NewEdgeFacts.{new_within}
use Rattle.tso_rules.specs.Internal.MarkedRows.{IsNewRow, IsOtherSource, IsSourceIn, IsSourceOf, GivesBy}
use Rattle.tso_rules.specs.Rows.{IsFirstGiven}
use Rattle.tso_rules.proofs.BaseFacts.{load_at, at_load, store_to}
use Rattle.tso_ops.proofs.TableFacts.{source_load}
use Rattle.bitsets.proofs.MarkFacts.{marks_both, marks_as, words_more, ByWords, words_by, marked_is}
use Rattle.bitsets.proofs.RowFacts.{both_number, HasNumber-none, HasNumber-within}

-- a new edge of a rule is a new edge
pub row_new : (t : TraceValue) (rule : InferredRule) (Edge : ℕ → ℕ → Type 0) (u v : ℕ) → IsNewRow t rule Edge u v → IsNew t Edge u v
row_new t rule Edge u v new = let given = new.1.0 in ((rule, new.0, given.0, given.1, given.2, given.3), new.1.1)

pub row_within : (t : TraceValue) (rule : InferredRule) (Edge : ℕ → ℕ → Type 0) (u v : ℕ) → IsNewRow t rule Edge u v → v < suc (event_total t)
row_within t rule Edge u v new = (new_within t Edge u v (row_new t rule Edge u v new)).1

-- a store's new edges by LoadPast lead to the other sources, which it doesn't reach, of the loads of its address that it reaches
pub load_past_is : (t : TraceValue) (Edge : ℕ → ℕ → Type 0) (u v : ℕ) (event : Event) (loads reached : List ℕ) → event_at t u ≡ Some event → event.load ≡ false →
    IsMask loads (IsLoadAt t event.a) → ((n : ℕ) → HasNumber reached n ↔ Reaches Edge u n) →
    (IsSourceOf t reached loads u v × (HasNumber reached v → ⊥)) ↔ IsNewRow t LoadPast Edge u v
load_past_is t Edge u v event loads reached at store loads_are paths = (
  λ is. let source = is.0 in
      let l = source.0 in
      let of = (loads_are.bits l).0 source.2 in
      (l, ((u, l, ((event, at, store), at_load t u l event at of, source.3.0, source.3.1, refl, refl), (paths l).0 source.1), λ path. is.1 ((paths v).1 path))),
  λ new. let l = new.0 in
      let given = new.1.0 in
      let by = given.2 in (
        (
          l,
          (paths l).1 (subst (λ x. Reaches Edge x l) by.4 (subst (λ y. Reaches Edge given.0 y) by.5 given.3)),
          (loads_are.bits l).1 (load_at t u l event at (source_load t l v by.2) by.1),
          (by.2, by.3),
        ),
        λ has. new.1.1 ((paths v).0 has),
      ),
)

-- the sources of the loads in both rows, before word j
abbrev pub SourcesBefore : TraceValue → List ℕ → List ℕ → ℕ → ℕ → ℕ → Type 0
SourcesBefore t one two u j v = ByWords (λ l x. HasNumber one l × HasNumber two l × IsOtherSource t u l x) j v

-- one word more
pub sources_more : (t : TraceValue) (u : ℕ) (first old new one two : List ℕ) (j a b : ℕ) → Marks first old (SourcesBefore t one two u j) → Marks old new (IsSourceIn t u j (bit_and a b)) →
    a ≡ get_or one j 0 → b ≡ get_or two j 0 → Marks first new (SourcesBefore t one two u (j + 1))
sources_more t u first old new one two j a b before step a_is b_is =
    words_more first old new j (λ l v. HasNumber one l × HasNumber two l × IsOtherSource t u l v) before
    (marks_as old new _ _ step (λ v. (
      λ by. (let both = (both_number one two j a b by.0 by.1 a_is b_is).0 by.2 in (by.0, by.1, (both.0, both.1, by.3))),
      λ by. (by.0, by.1, (both_number one two j a b by.0 by.1 a_is b_is).1 (by.2.0, by.2.1), by.2.2),
    )))

-- all words
pub sources_all : (t : TraceValue) (u : ℕ) (last one two : List ℕ) (j : ℕ) → Marks [] last (SourcesBefore t one two u j) → length one ≤ j →
    (v : ℕ) → HasNumber last v ↔ IsSourceOf t one two u v
sources_all t u last one two j marks whole v =
    let By = λ (l x : ℕ). HasNumber one l × HasNumber two l × IsOtherSource t u l x in
    let all = words_by [] last j By marks (λ n x by. let low = HasNumber-within one n by.0 in omega (arith, low, whole)) in
    (λ has. let is = marked_is [] last _ refl all v has in (is.0, is.1.0, is.1.1, is.1.2), λ is. (all.marked v).1 (inr (is.0, (is.1, is.2, is.3))))

-- a load's new edges by StorePast lead to the other stores to its address that come after its source, and not after it
pub store_past_is : (t : TraceValue) (Edge : ℕ → ℕ → Type 0) (u s v : ℕ) (event : Event) (from stores reached : List ℕ) → event_at t u ≡ Some event → HasSource t u s →
    ((x : ℕ) → HasSource t u x → Some s ≡ Some x) → ((n : ℕ) → HasNumber from n ↔ Reaches Edge s n) → IsMask stores (IsStoreTo t event.a) →
    ((n : ℕ) → HasNumber reached n ↔ Reaches Edge u n) → ((HasNumber from v × HasNumber stores v × (HasNumber reached v → ⊥)) × (v ≢ s)) ↔ IsNewRow t StorePast Edge u v
store_past_is t Edge u s v event from stores reached at source all from_paths stores_are paths = (
  λ is. let to = (stores_are.bits v).0 is.0.1 in
      (u, ((s, v, (refl, (to.0, to.1, to.2), (to.0, event, to.1, at, to.3), source, is.1, refl), (from_paths v).0 is.0.0), λ path. is.0.2 ((paths v).1 path))),
  λ new. let given = new.1.0 in
      let by = given.2 in
      let one : given.0 ≡ s = sym (same_Some s given.0 (all given.0 (subst (λ l. HasSource t l given.0) (sym by.0) by.3))) in
      let path = subst (λ x. Reaches Edge x v) one (subst (λ y. Reaches Edge given.0 y) by.5 given.3) in
      let same = subst (λ l. SameAddress t v l) (sym by.0) by.2 in (
        ((from_paths v).1 path, (stores_are.bits v).1 (store_to t u v event at by.1 same), λ has. new.1.1 ((paths v).0 has)),
        λ e. by.4 (e ∙ sym one),
      ),
)

-- a store's new edges by SwapBefore lead to the loads of other swaps whose stores it reaches, where it doesn't reach them
pub swap_before_is : (t : TraceValue) (Edge : ℕ → ℕ → Type 0) (u v : ℕ) (loads reached : List ℕ) → IsStore t u → IsMask loads (IsSwapLoad t) →
    ((n : ℕ) → HasNumber reached n ↔ Reaches Edge u n) → ((HasNumber reached (suc v) × HasNumber loads v × (HasNumber reached v → ⊥)) × (v ≢ (u - 1))) ↔ IsNewRow t SwapBefore Edge u v
swap_before_is t Edge u v loads reached store loads_are paths = (
  λ is. (
    v,
    (
      (u, suc v, ((loads_are.bits v).0 is.0.1, refl, store, λ e. is.1 (omega (arith, e)), refl, refl), (paths (suc v)).0 is.0.0),
      λ path. is.0.2 ((paths v).1 path),
    ),
  ),
  λ new. let given = new.1.0 in
      let by = given.2 in
      let one : new.0 ≡ v = sym by.1 in
      let path = subst (λ k. Reaches Edge u (suc k)) one (subst (λ y. Reaches Edge u y) by.5 (subst (λ x. Reaches Edge x given.1) by.4 given.3)) in (
        (
          (paths (suc v)).1 path,
          (loads_are.bits v).1 (subst (λ k. IsSwapLoad t k) one by.0),
          λ has. new.1.1 ((paths v).0 has),
        ),
        λ e. by.3 (let above = event_above_zero t u (store_event t u store) in omega (arith, e, one)),
      ),
)

-- a swap's new edges by SwapAfter lead from its store to the other stores that come after its load, and not after its store
pub swap_after_is : (t : TraceValue) (Edge : ℕ → ℕ → Type 0) (u l v : ℕ) (from stores reached : List ℕ) → IsSwapLoad t l → u ≡ suc l → ((n : ℕ) → HasNumber from n ↔ Reaches Edge l n) →
    IsMask stores (IsStore t) → ((n : ℕ) → HasNumber reached n ↔ Reaches Edge u n) →
    ((HasNumber from v × HasNumber stores v × (HasNumber reached v → ⊥)) × (v ≢ u)) ↔ IsNewRow t SwapAfter Edge u v
swap_after_is t Edge u l v from stores reached swap next from_paths stores_are paths = (
  λ is. (
    l,
    (
      (l, v, (swap, next, (stores_are.bits v).0 is.0.1, λ e. is.1 (e ∙ sym next), refl, refl), (from_paths v).0 is.0.0),
      λ path. is.0.2 ((paths v).1 path),
    ),
  ),
  λ new. let given = new.1.0 in
      let by = given.2 in
      let one : given.0 ≡ l = (let store = by.1 in let from_load = by.4 in omega arith) in
      let path = subst (λ x. Reaches Edge x v) one (subst (λ y. Reaches Edge given.0 y) by.5 given.3) in (
        ((from_paths v).1 path, (stores_are.bits v).1 by.2, λ has. new.1.1 ((paths v).0 has)),
        λ e. by.3 (e ∙ by.1),
      ),
)

-- a row without words has the numbers that are reached from past the graph's numbers: none
pub no_row_past : (g : Digraph) (u v : ℕ) → EdgesWithin g → (u < g.nodes → ⊥) → HasNumber [] v ↔ Reaches (IsEdge g) u v
no_row_past g u v within past = (λ has. absurd (HasNumber-none v has), λ path. absurd (past (Reaches-below (IsEdge g) g.nodes within u v path).0))

row_of : (t : TraceValue) (Edge : ℕ → ℕ → Type 0) (u v : ℕ) (rule : InferredRule) → IsNewRow t rule Edge u v →
    ((IsNewRow t LoadPast Edge u v ⊎ IsNewRow t StorePast Edge u v) ⊎ IsNewRow t SwapBefore Edge u v) ⊎ IsNewRow t SwapAfter Edge u v
row_of t Edge u v LoadPast new = inl (inl (inl new))
row_of t Edge u v StorePast new = inl (inl (inr new))
row_of t Edge u v SwapBefore new = inl (inr new)
row_of t Edge u v SwapAfter new = inr new

of_row : (t : TraceValue) (Edge : ℕ → ℕ → Type 0) (u v : ℕ) →
    ((IsNewRow t LoadPast Edge u v ⊎ IsNewRow t StorePast Edge u v) ⊎ IsNewRow t SwapBefore Edge u v) ⊎ IsNewRow t SwapAfter Edge u v → IsNew t Edge u v
of_row t Edge u v (inl (inl (inl new))) = row_new t LoadPast Edge u v new
of_row t Edge u v (inl (inl (inr new))) = row_new t StorePast Edge u v new
of_row t Edge u v (inl (inr new)) = row_new t SwapBefore Edge u v new
of_row t Edge u v (inr new) = row_new t SwapAfter Edge u v new

-- the marks of all rules
pub marks_rules : (t : TraceValue) (Edge : ℕ → ℕ → Type 0) (u : ℕ) (first second third fourth last : List ℕ) → Marks first second (IsNewRow t LoadPast Edge u) →
    Marks second third (IsNewRow t StorePast Edge u) → Marks third fourth (IsNewRow t SwapBefore Edge u) → Marks fourth last (IsNewRow t SwapAfter Edge u) → Marks first last (IsNew t Edge u)
marks_rules t Edge u first second third fourth last a b c d =
    let two = marks_both first second third (IsNewRow t LoadPast Edge u) (IsNewRow t StorePast Edge u) a b in
    let three = marks_both first third fourth (λ v. IsNewRow t LoadPast Edge u v ⊎ IsNewRow t StorePast Edge u v) (IsNewRow t SwapBefore Edge u) two c in
    let four = marks_both first fourth last (λ v. (IsNewRow t LoadPast Edge u v ⊎ IsNewRow t StorePast Edge u v) ⊎ IsNewRow t SwapBefore Edge u v) (IsNewRow t SwapAfter Edge u) three d in
    marks_as first last (λ v. ((IsNewRow t LoadPast Edge u v ⊎ IsNewRow t StorePast Edge u v) ⊎ IsNewRow t SwapBefore Edge u v) ⊎ IsNewRow t SwapAfter Edge u v) (IsNew t Edge u) four
    (λ v. (of_row t Edge u v, λ new. let given = new.0 in row_of t Edge u v given.0 (given.1, ((given.2, given.3, given.4, given.5), new.1))))

-- ---- the first rule

-- the rule gives the edge for no load
abbrev pub IsUngivenBy : TraceValue → (ℕ → ℕ → Type 0) → ℕ → ℕ → InferredRule → Type 0
IsUngivenBy t Edge u v rule = (l : ℕ) → IsGivenBy t rule l (Reaches Edge) u v → ⊥

-- no rule before this one gives the edge
abbrev pub AreUngivenBefore : TraceValue → (ℕ → ℕ → Type 0) → ℕ → ℕ → InferredRule → Type 0
AreUngivenBefore t Edge u v rule = (other : InferredRule) → inferred_index other < inferred_index rule → IsUngivenBy t Edge u v other

same_index : (rule other : InferredRule) → inferred_index rule ≡ inferred_index other → rule ≡ other
same_index LoadPast LoadPast e = refl
same_index StorePast StorePast e = refl
same_index SwapBefore SwapBefore e = refl
same_index SwapAfter SwapAfter e = refl
same_index rule other e = absurd (omega arith)

pub before_load_past : (t : TraceValue) (Edge : ℕ → ℕ → Type 0) (u v : ℕ) → AreUngivenBefore t Edge u v LoadPast
before_load_past t Edge u v other low = absurd (omega arith)

pub before_store_past : (t : TraceValue) (Edge : ℕ → ℕ → Type 0) (u v : ℕ) → IsUngivenBy t Edge u v LoadPast → AreUngivenBefore t Edge u v StorePast
before_store_past t Edge u v none LoadPast low = none
before_store_past t Edge u v none StorePast low = absurd (omega arith)
before_store_past t Edge u v none SwapBefore low = absurd (omega arith)
before_store_past t Edge u v none SwapAfter low = absurd (omega arith)

pub before_swap_before : (t : TraceValue) (Edge : ℕ → ℕ → Type 0) (u v : ℕ) → IsUngivenBy t Edge u v LoadPast → IsUngivenBy t Edge u v StorePast → AreUngivenBefore t Edge u v SwapBefore
before_swap_before t Edge u v none also LoadPast low = none
before_swap_before t Edge u v none also StorePast low = also
before_swap_before t Edge u v none also SwapBefore low = absurd (omega arith)
before_swap_before t Edge u v none also SwapAfter low = absurd (omega arith)

pub before_swap_after : (t : TraceValue) (Edge : ℕ → ℕ → Type 0) (u v : ℕ) → IsUngivenBy t Edge u v LoadPast → IsUngivenBy t Edge u v StorePast → IsUngivenBy t Edge u v SwapBefore →
    AreUngivenBefore t Edge u v SwapAfter
before_swap_after t Edge u v none also third LoadPast low = none
before_swap_after t Edge u v none also third StorePast low = also
before_swap_after t Edge u v none also third SwapBefore low = third
before_swap_after t Edge u v none also third SwapAfter low = absurd (omega arith)

pub none_given : (t : TraceValue) (Edge : ℕ → ℕ → Type 0) (u v : ℕ) → IsUngivenBy t Edge u v LoadPast → IsUngivenBy t Edge u v StorePast → IsUngivenBy t Edge u v SwapBefore →
    IsUngivenBy t Edge u v SwapAfter → (rule : InferredRule) → IsUngivenBy t Edge u v rule
none_given t Edge u v a b c d LoadPast = a
none_given t Edge u v a b c d StorePast = b
none_given t Edge u v a b c d SwapBefore = c
none_given t Edge u v a b c d SwapAfter = d

-- what gives the edge by a rule, with none before it, comes first
pub first_is : (t : TraceValue) (Edge : ℕ → ℕ → Type 0) (u v : ℕ) (rule r : InferredRule) (load from to : ℕ) → rule ≡ r → GivesBy t Edge u v r load from to → AreUngivenBefore t Edge u v r →
    GivesBy t Edge u v rule load from to × IsFirstGiven t Edge u v rule load
first_is t Edge u v rule r load from to is gives none =
    let here : GivesBy t Edge u v rule load from to = subst (λ k. GivesBy t Edge u v k load from to) (sym is) gives in
    let before : AreUngivenBefore t Edge u v rule = subst (AreUngivenBefore t Edge u v) (sym is) none in (
      here,
      λ other l x y by path. ⊎_elim
          (λ (less : inferred_index other < inferred_index rule). absurd (before other less l (x, y, by, path)))
          (λ (not_less : inferred_index rule ≤ inferred_index other). ⊎_elim
          (λ (more : inferred_index rule < inferred_index other). inl more)
          (λ (not_more : inferred_index other ≤ inferred_index rule).
          let same : inferred_index rule ≡ inferred_index other = omega arith in
          inr (same, here.least l (subst (λ k. IsGivenBy t k l (Reaches Edge) u v) (sym (same_index rule other same)) (x, y, by, path))))
          (cases_lt (inferred_index rule) (inferred_index other)))
          (cases_lt (inferred_index other) (inferred_index rule)),
    )

-- the ends of a path are numbers of the graph
pub path_within : (g : Digraph) (x y : ℕ) → EdgesWithin g → Reaches (IsEdge g) x y → (x < g.nodes) × (y < g.nodes)
path_within g x y within path = Reaches-below (IsEdge g) g.nodes within x y path
