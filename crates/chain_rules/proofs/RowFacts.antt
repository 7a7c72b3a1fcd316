-- Rows of what is left of the least numbers.
use Rattle.std.proofs.Common.{◌≡◌, ◌≢◌, ◌⊎◌, inl, inr, ℕ, suc, ◌+◌, ◌<◌, ◌≤◌, List, [], ◌∷◌, ◌++◌, length, get_or, replicate, take, drop, refl, sym, subst, ap, ◌∙◌, arith, Option, Some, None, false}
use Rattle.std.specs.Prelude.{⊤, Contains}
use Rattle.std.specs.Option.{MatchOption, is_some}
use Rattle.std.proofs.Math.Seq.{take-append_seam}
use Rattle.std.proofs.lemmas.Bool.{cases_eq}
use Rattle.std.proofs.lemmas.List.{length-replicate, get_or-replicate}
use Rattle.std.proofs.lemmas.List.Elements.{Contains-append_left, Contains-push, Contains-push_cases}
use Rattle.tso_ops.specs.Values.{TraceValue}
use Rattle.tso_ops.specs.Events.{event_total, HasSource, IsEvent, IsLoad, IsStore, IsSwapLoad}
use Rattle.tso_ops.proofs.NumberFacts.{load_is_no_store, store_event, load_event}
use Rattle.tso_ops.proofs.SwapFacts.{IsSwapLoad-store}
use Rattle.tso_ops.proofs.TableFacts.{source_load}
use Rattle.tso_cert.specs.declared.rules.InferredRule.{InferredRule}
use Rattle.tso_cert.specs.declared.rules.InferredRule.TheVariants.{LoadPast, StorePast, SwapBefore, SwapAfter}
use Rattle.tso_model.proofs.Bounds.{InferredBy-within}
use Rattle.tso_model.specs.Rules.{InferredBy}
use Rattle.chain_reach.specs.declared.types.Reach.{Reach}
use Rattle.chain_reach.specs.Groups.{node_count, count_of, group_of, IsLaterIn}
use Rattle.chain_reach.specs.Leading.{Leads}
use Rattle.chain_rules.specs.declared.types.RuleTables.{RuleTables}
use Rattle.chain_rules.specs.Rows.{IsNewBy, IsLeastRow}
use Rattle.chain_rules.specs.Internal.Lowering.{Lowers, LowersFor, AreReady, IsNewOf, IsGivenOrSame, IsUnled, IsLeft, AreLeft}
use Rattle.chain_rules.proofs.LoweringFacts.{Lowers-none, Lowers-then, Lowers-as}
use Rattle.chain_rules.proofs.RuleFacts.{group_within, ready_within}

-- a number leads to those after it in its chain
leads_later : (r : Reach) (x y : ℕ) → IsLaterIn r.chains x y → Leads r x y
unfolding Leads
leads_later r x y later = r.kept.ordered x y later.0 later.1 later.2

-- what it leads to leads on
leads_on : (r : Reach) (x y z : ℕ) → Leads r x y → Leads r y z → Leads r x z
unfolding Leads
leads_on r x y z one two = r.kept.transitive x y z one two

-- no rule gives an edge to its own start
given_apart : (t : TraceValue) (rule : InferredRule) (l u v x y : ℕ) → InferredBy t rule l u v x y → v ≢ u
given_apart t LoadPast l u v x y by e = by.3 (sym e)
given_apart t StorePast l u v x y by e = load_is_no_store t u (subst (λ k. IsLoad t k) (sym by.0) (source_load t l x by.3)) (subst (λ k. IsStore t k) e by.1)
given_apart t SwapBefore l u v x y by e = load_is_no_store t u (subst (λ k. IsLoad t k) (sym by.1 ∙ e) (by.0.0, by.0.1, by.0.2)) by.2
given_apart t SwapAfter l u v x y by e = by.3 (e ∙ by.1)

-- a new edge leads elsewhere
new_apart : (t : TraceValue) (r : Reach) (u v : ℕ) → IsNewBy t r u v → v ≢ u
new_apart t r u v new = (let given = new.0.2 in given_apart t new.0.0 new.0.1 u v given.0 given.1 given.2)

-- the ends of a new edge are `init` and numbers of events
pub new_ends : (t : TraceValue) (r : Reach) (u v : ℕ) → IsNewBy t r u v → (u < suc (event_total t)) × (v < suc (event_total t))
new_ends t r u v new = (let p = new.0 in let by = p.2 in let within = InferredBy-within t p.0 p.1 u v by.0 by.1 by.2 in (within.from, within.to))

-- The numbers of the chains were lowered from none, to what the rules give from u.
pub record AreLowered (t : TraceValue) (tables : RuleTables) (r : Reach) (u : ℕ) (least : List ℕ) : Type 0 where
  pub ready : AreReady t tables r
  pub sized : length least ≡ count_of r.chains
  pub must : (v : ℕ) → IsNewBy t r u v → get_or least (group_of r.chains v) 0 ≤ v
  pub may : (d : ℕ) → d < length least → get_or least d 0 < node_count r.chains → (group_of r.chains (get_or least d 0) ≡ d) × IsGivenOrSame t r u (get_or least d 0)

pub AreLowered-from : (t : TraceValue) (tables : RuleTables) (r : Reach) (u nodes count : ℕ) (first least : List ℕ) → AreReady t tables r → nodes ≡ suc (event_total t) → count ≡ count_of r.chains →
    first ≡ replicate count nodes → Lowers r.chains first least (IsNewBy t r u) (IsGivenOrSame t r u) → AreLowered t tables r u least
AreLowered-from t tables r u nodes count first least ready is_nodes is_count is_first lowers = record {
  ready = ready;
  sized = lowers.sized ∙ size ∙ is_count;
  must = lowers.must;
  may = λ d less within. (let sized = lowers.sized in
      let is = ready.chains.nodes in
      elim (lowers.may d (omega (arith, less, sized)) within) [
        | inl same ↦ absurd (let at : get_or first d 0 ≡ nodes = ap (λ xs. get_or xs d 0) is_first ∙ get_or-replicate count d nodes 0 (omega (arith, less, sized, size)) in
            omega (arith, same, at, within, is, is_nodes))
        | inr of ↦ of
      ]);
}
  where
    size : length first ≡ count
    size = ap length is_first ∙ length-replicate count nodes

-- what is left of them is what the rules give, and to which u doesn't lead
pub LeastRow : (t : TraceValue) (tables : RuleTables) (r : Reach) (u : ℕ) (least row : List ℕ) → AreLowered t tables r u least → AreLeft r u least (length least) row → IsLeastRow t r u row
LeastRow t tables r u least row lowered left = record { only = only; all = all }
  where
    only : (v : ℕ) → Contains row v → IsNewBy t r u v
    only v has =
        let of = left.only v has in
        let is = (lowered.may of.0 of.1 (subst (λ k. k < node_count r.chains) (sym of.2) of.3.1)).1 in
        elim (subst (λ k. IsGivenOrSame t r u k) of.2 is) [
          | inl given ↦ (given, of.3.2)
          | inr same ↦ absurd (of.3.0 same)
        ]

    all : (v : ℕ) → IsNewBy t r u v → (w : ℕ) × Contains row w × ((w ≡ v) ⊎ IsLaterIn r.chains w v)
    all v new =
        let within : v < node_count r.chains = ready_within t tables r v lowered.ready (new_ends t r u v new).1 in
        let chain : group_of r.chains v < count_of r.chains = group_within r.chains v within in
        let w = get_or least (group_of r.chains v) 0 in
        let le : get_or least (group_of r.chains v) 0 ≤ v = lowered.must v new in
        let sized = lowered.sized in
        let place : group_of r.chains v < length least = omega (arith, chain, sized) in
        let inside : get_or least (group_of r.chains v) 0 < node_count r.chains = omega (arith, le, within) in
        let of = lowered.may (group_of r.chains v) place inside in
        let later : (x : ℕ) → group_of r.chains x ≡ group_of r.chains v → x ≤ v → x ≢ v → IsLaterIn r.chains x v = λ x same less ne. (omega (arith, less, ne), within, same) in
        let apart : get_or least (group_of r.chains v) 0 ≢ u = λ e. new.1 (leads_later r u v
        (later u (ap (λ k. group_of r.chains k) (sym e) ∙ of.0) (omega (arith, e, le)) (λ same. new_apart t r u v new (sym same)))) in
        let unled : Leads r u (get_or least (group_of r.chains v) 0) → ⊥ = λ path. elim (cases_eq (get_or least (group_of r.chains v) 0) v) [
          | inl e ↦ new.1 (subst (λ k. Leads r u k) e path)
          | inr ne ↦ new.1 (leads_on r u w v path (leads_later r w v (later w of.0 le ne)))
        ] in
        (w, left.all w (group_of r.chains v, place, refl, (apart, inside, unled)), elim (cases_eq (get_or least (group_of r.chains v) 0) v) [ inl e ↦ inl e | inr ne ↦ inr (later w of.0 le ne) ])

-- a rule gives edges from events alone
given_event : (t : TraceValue) (rule : InferredRule) (l u v x y : ℕ) → InferredBy t rule l u v x y → IsEvent t u
given_event t LoadPast l u v x y by = store_event t u by.0
given_event t StorePast l u v x y by = load_event t u (subst (λ k. IsLoad t k) (sym by.0) (source_load t l x by.3))
given_event t SwapBefore l u v x y by = store_event t u by.2
given_event t SwapAfter l u v x y by = store_event t u (subst (λ k. IsStore t k) (sym by.1) (IsSwapLoad-store t l by.0))

pub LeastRow-none : (t : TraceValue) (r : Reach) (u : ℕ) → (IsEvent t u → ⊥) → IsLeastRow t r u []
LeastRow-none t r u none = record {
  only = λ v has. absurd (let low = has.1 in omega (arith, low));
  all = λ v new. absurd (let given = new.0.2 in none (given_event t new.0.0 new.0.1 u v given.0 given.1 given.2));
}

-- ---- the rules that give edges from a load, and from a store

given_by_load : (t : TraceValue) (rule : InferredRule) (l u v x y : ℕ) → IsLoad t u → InferredBy t rule l u v x y → InferredBy t StorePast l u v x y
given_by_load t LoadPast l u v x y load by = absurd (load_is_no_store t u load by.0)
given_by_load t StorePast l u v x y load by = by
given_by_load t SwapBefore l u v x y load by = absurd (load_is_no_store t u load by.2)
given_by_load t SwapAfter l u v x y load by = absurd (load_is_no_store t u load (subst (λ k. IsStore t k) (sym by.1) (IsSwapLoad-store t l by.0)))

pub ByLoad : (t : TraceValue) (r : Reach) (u : ℕ) (old new : List ℕ) → IsLoad t u → LowersFor t r StorePast (λ l v. ⊤) u old new → Lowers r.chains old new (IsNewBy t r u) (IsGivenOrSame t r u)
ByLoad t r u old new load lowers = Lowers-as r.chains old new (IsNewOf t r StorePast (λ l v. ⊤) u) (IsNewBy t r u) (IsGivenOrSame t r u) lowers (λ v of. (let given = of.0.2 in
    ((of.0.1, tt, (given.0, given.1, given_by_load t of.0.0 of.0.1 u v given.0 given.1 load given.2, given.3)), of.1)))

-- a load without a source gives none
pub ByLoad-none : (t : TraceValue) (r : Reach) (u : ℕ) (old : List ℕ) → IsLoad t u → ((s : ℕ) → HasSource t u s → ⊥) → Lowers r.chains old old (IsNewBy t r u) (IsGivenOrSame t r u)
ByLoad-none t r u old load none = Lowers-none r.chains old (IsNewBy t r u) (IsGivenOrSame t r u) (λ v of. (let given = of.0.2 in
    let by = given_by_load t of.0.0 of.0.1 u v given.0 given.1 load given.2 in
    none given.0 (subst (λ k. HasSource t k given.0) (sym by.0) by.3)))

given_by_store : (t : TraceValue) (rule : InferredRule) (l u v x y : ℕ) → IsStore t u → InferredBy t rule l u v x y →
    (InferredBy t LoadPast l u v x y ⊎ InferredBy t SwapBefore l u v x y) ⊎ InferredBy t SwapAfter l u v x y
given_by_store t LoadPast l u v x y store by = inl (inl by)
given_by_store t StorePast l u v x y store by = absurd (load_is_no_store t u (subst (λ k. IsLoad t k) (sym by.0) (source_load t l x by.3)) store)
given_by_store t SwapBefore l u v x y store by = inl (inr by)
given_by_store t SwapAfter l u v x y store by = inr by

-- what the rules LoadPast and SwapBefore give
abbrev pub IsNewOfBoth : TraceValue → Reach → ℕ → ℕ → Type 0
IsNewOfBoth t r u v = IsNewOf t r LoadPast (λ l v. ⊤) u v ⊎ IsNewOf t r SwapBefore (λ l v. ⊤) u v

new_by_store : (t : TraceValue) (r : Reach) (u v : ℕ) → IsStore t u → IsNewBy t r u v → IsNewOfBoth t r u v ⊎ IsNewOf t r SwapAfter (λ l v. ⊤) u v
new_by_store t r u v store of =
    let given = of.0.2 in
    elim (given_by_store t of.0.0 of.0.1 u v given.0 given.1 store given.2) [
      | inl either ↦ elim either [
        | inl by ↦ inl (inl ((of.0.1, tt, (given.0, given.1, by, given.3)), of.1))
        | inr by ↦ inl (inr ((of.0.1, tt, (given.0, given.1, by, given.3)), of.1))
      ]
      | inr by ↦ inr ((of.0.1, tt, (given.0, given.1, by, given.3)), of.1)
    ]

by_both : (t : TraceValue) (r : Reach) (u : ℕ) (old now new : List ℕ) → LowersFor t r LoadPast (λ l v. ⊤) u old now → LowersFor t r SwapBefore (λ l v. ⊤) u now new →
    Lowers r.chains old new (IsNewOfBoth t r u) (IsGivenOrSame t r u)
by_both t r u old now new first second =
    Lowers-then r.chains old now new (IsNewOf t r LoadPast (λ l v. ⊤) u) (IsNewOf t r SwapBefore (λ l v. ⊤) u) (IsNewOfBoth t r u) (IsGivenOrSame t r u) first second (λ v of. of)

pub ByStore : (t : TraceValue) (r : Reach) (u l : ℕ) (old now new last : List ℕ) → IsStore t u → LowersFor t r LoadPast (λ l v. ⊤) u old now → LowersFor t r SwapBefore (λ l v. ⊤) u now new →
    l ≡ u → LowersFor t r SwapAfter (λ l v. ⊤) l new last → Lowers r.chains old last (IsNewBy t r u) (IsGivenOrSame t r u)
ByStore t r u l old now new last store first second same third =
    Lowers-then r.chains old new last (IsNewOfBoth t r u) (IsNewOf t r SwapAfter (λ l v. ⊤) u) (IsNewBy t r u) (IsGivenOrSame t r u) (by_both t r u old now new first second)
    (subst (λ k. LowersFor t r SwapAfter (λ l v. ⊤) k new last) same third) (λ v of. new_by_store t r u v store of)

-- a store that is no swap's gives no more
pub ByStore-none : (t : TraceValue) (r : Reach) (u l : ℕ) (old now new : List ℕ) → IsStore t u → LowersFor t r LoadPast (λ l v. ⊤) u old now → LowersFor t r SwapBefore (λ l v. ⊤) u now new →
    suc l ≡ u → (IsSwapLoad t l → ⊥) → Lowers r.chains old new (IsNewBy t r u) (IsGivenOrSame t r u)
ByStore-none t r u l old now new store first second same other =
    Lowers-as r.chains old new (IsNewOfBoth t r u) (IsNewBy t r u) (IsGivenOrSame t r u) (by_both t r u old now new first second) (λ v of. elim (new_by_store t r u v store of) [
      | inl both ↦ both
      | inr after ↦ absurd (let by = after.0.2.2 in
          let next = by.1 in
          let one : after.0.0 ≡ l = omega (arith, next, same) in
          other (subst (λ k. IsSwapLoad t k) one by.0))
    ])

-- a number whose swap has no store is no swap's load
pub no_swap : (t : TraceValue) (l : ℕ) (store : Option ℕ) → MatchOption store (IsSwapLoad t l → ⊥) (λ s. IsSwapLoad t l × (s ≡ suc l)) → false ≡ is_some store → IsSwapLoad t l → ⊥
no_swap t l None is none = is
no_swap t l (Some s) is none = absurd cc

-- ---- what is left

less_of : (r : Reach) (u : ℕ) (least : List ℕ) (d v : ℕ) → IsLeft r u least (d + 1) v → IsLeft r u least d v ⊎ (v ≡ get_or least d 0)
less_of r u least d v of = elim (cases_eq of.0 d) [
  | inl e ↦ inr (sym of.2 ∙ ap (λ k. get_or least k 0) e)
  | inr ne ↦ inl (of.0, (let low = of.1 in omega (arith, low, ne)), of.2, of.3)
]

more_of : (r : Reach) (u : ℕ) (least : List ℕ) (d v : ℕ) → IsLeft r u least d v → IsLeft r u least (d + 1) v
more_of r u least d v of = (of.0, (let low = of.1 in omega (arith, low)), of.2, of.3)

-- one number more
pub AreLeft-push : (r : Reach) (u : ℕ) (least : List ℕ) (d n : ℕ) (row : List ℕ) → AreLeft r u least d row → n ≡ get_or least d 0 → IsUnled r u n → AreLeft r u least (d + 1) (row ++ n ∷ [])
AreLeft-push r u least d n row is same unled = record {
  only = λ v has. elim (Contains-push_cases row n v has) [
    | inl before ↦ more_of r u least d v (is.only v before)
    | inr e ↦ subst (λ k. IsLeft r u least (d + 1) k) e (d, omega arith, sym same, unled)
  ];
  all = λ v of. elim (less_of r u least d v of) [
    | inl before ↦ Contains-append_left row (n ∷ []) v (is.all v before)
    | inr e ↦ subst (λ k. Contains (row ++ n ∷ []) k) (same ∙ sym e) (Contains-push row n)
  ];
}

-- a number that isn't left
pub AreLeft-pass : (r : Reach) (u : ℕ) (least : List ℕ) (d : ℕ) (row : List ℕ) → AreLeft r u least d row → (IsUnled r u (get_or least d 0) → ⊥) → AreLeft r u least (d + 1) row
AreLeft-pass r u least d row is not = record {
  only = λ v has. more_of r u least d v (is.only v has);
  all = λ v of. elim (less_of r u least d v of) [
    | inl before ↦ is.all v before
    | inr e ↦ absurd (not (subst (λ k. IsUnled r u k) e of.3))
  ];
}

-- a list that is written back over another of its length
pub written_back : (now lowered old : List ℕ) (n : ℕ) → now ≡ take n (lowered ++ drop (length lowered) old) → n ≡ length lowered → now ≡ lowered
written_back now lowered old n is same = is ∙ ap (λ k. take k (lowered ++ drop (length lowered) old)) same ∙ take-append_seam lowered (drop (length lowered) old)
