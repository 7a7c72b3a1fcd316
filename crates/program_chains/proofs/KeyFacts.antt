-- How the chains of events are found by what their events have in common.
use Rattle.std.proofs.Common.{◌≡◌, inl, inr, refl, sym, ap, subst, ◌∙◌, ℕ, ◌+◌, ◌<◌, true, false, Bool, List, [], ◌∷◌, ◌++◌, length, get_or, Option, None, Some, arith}
use Rattle.std.specs.Ordering.{nat_cmp, ordering_then, is_eq}
use Rattle.std.specs.Option.{option_cmp}
use Rattle.std.specs.declared.cmp.Ordering.{Ordering}
use Rattle.std.specs.declared.cmp.Ordering.TheVariants.{Less, Equal, Greater}
use Rattle.std.specs.BTreeMap.{BTreeMap, Updates, IsEmpty, is_at, get}
use Rattle.std.proofs.lemmas.Bool.{cases_eq, cases_Bool}
use Rattle.std.proofs.lemmas.Bool.Decides.{nat_tests}
use Rattle.std.proofs.lemmas.Option.{same_Some, none-some}
use Rattle.std.proofs.lemmas.List.{length_push, get_or_default, get_or_push, get_or_append_left}
use Rattle.tso_ops.specs.declared.settings.Order.{Order}
use Rattle.chain_reach.specs.declared.types.Groups.{Groups}
use Rattle.chain_reach.specs.Groups.{node_count, count_of, group_of}
use Rattle.program_chains.specs.declared.events.LogEvent.{LogEvent}
use Rattle.program_chains.specs.Internal.Keys.{key_cmp, key_in, AreKeyed, FindsChain, HaveChains}

-- ---- keys that compare as equal are the same

nat_equal : (x y : ℕ) → is_eq (nat_cmp x y) ≡ true → x ≡ y
nat_equal x y e = grind (arith, nat_tests)

option_equal : (x y : Option ℕ) → is_eq (option_cmp nat_cmp x y) ≡ true → x ≡ y
option_equal None None e = refl
option_equal None (Some y) e = absurd cc
option_equal (Some x) None e = absurd cc
option_equal (Some x) (Some y) e = ap Some (nat_equal x y e)

then_equal : (a b : Ordering) → is_eq (ordering_then a b) ≡ true → (is_eq a ≡ true) × (is_eq b ≡ true)
then_equal Less b e = absurd cc
then_equal Equal b e = (refl, e)
then_equal Greater b e = absurd cc

is_not : (b : Bool) → (b ≡ true → ⊥) → b ≡ false
is_not true not = absurd (not refl)
is_not false not = refl

key_equal : (x y : ℕ × Option ℕ) → is_at (key_cmp x) y ≡ true → x ≡ y
key_equal (p, o) (q, w) e =
    let both = then_equal (nat_cmp p q) (option_cmp nat_cmp o w) e in
    ap (λ n. (n, o)) (nat_equal p q both.0) ∙ ap (λ v. (q, v)) (option_equal o w both.1)

-- ---- the chains of the events so far

-- the keys of numbers below n, with one more chain
kept : (keys : List ℕ) (n chain x : ℕ) → length keys ≡ n → x < n → get_or (keys ++ chain ∷ []) x 0 ≡ get_or keys x 0
kept keys n chain x sized low = get_or_append_left keys (chain ∷ []) 0 x (omega (arith, sized, low))

pub HaveChains-none : (order : Order) (events : List LogEvent) (keys : List ℕ) (chains : BTreeMap (ℕ × Option ℕ) ℕ) → keys ≡ [] → IsEmpty chains → HaveChains order events 0 keys chains 0
HaveChains-none order events keys chains none empty = record {
  sized = ap length none;
  found = λ x low. absurd (omega (arith, low));
  from = λ q d at. absurd (let nothing : get key_cmp chains q ≡ None = rw empty refl in none-some d (sym nothing ∙ at));
  apart = λ x y low_x low_y same. absurd (omega (arith, low_x));
  below = λ x low. absurd (omega (arith, low));
  used = λ d low. absurd (omega (arith, low));
  few = omega arith;
}

-- one more event of a chain that there is
pub HaveChains-old : (order : Order) (events : List LogEvent) (n : ℕ) (keys : List ℕ) (chains : BTreeMap (ℕ × Option ℕ) ℕ) (count chain : ℕ) → HaveChains order events n keys chains count →
    get key_cmp chains (key_in order events n) ≡ Some chain → (chain < count) × HaveChains order events (n + 1) (keys ++ chain ∷ []) chains count
HaveChains-old order events n keys chains count chain have at =
    let place = have.from (key_in order events n) chain at in
    let here : get_or (keys ++ chain ∷ []) n 0 ≡ chain = get_or_push keys chain 0 n have.sized in
    let new : get_or (keys ++ chain ∷ []) n 0 ≡ get_or keys place.0 0 = here ∙ sym place.3 in
    let low : chain < count = subst (λ d. d < count) place.3 (have.below place.0 place.1) in
    let apart_new : (y : ℕ) → y < n → get_or keys y 0 ≡ chain → key_in order events n ≡ key_in order events y =
    λ y low_y same. sym place.2 ∙ have.apart place.0 y place.1 low_y (place.3 ∙ sym same) in (
      low,
      record {
        sized = length_push keys chain ∙ ap (λ k. k + 1) have.sized;
        found = λ x less. elim (cases_eq x n) [
          | inl e ↦ subst (λ k. get key_cmp chains (key_in order events k) ≡ Some (get_or (keys ++ chain ∷ []) k 0)) (sym e) (at ∙ ap Some (sym here))
          | inr ne ↦ have.found x (omega (arith, less, ne)) ∙ ap Some (sym (kept keys n chain x have.sized (omega (arith, less, ne))))
        ];
        from = λ q d found. (let old = have.from q d found in (old.0, omega (arith, old.1), old.2, kept keys n chain old.0 have.sized old.1 ∙ old.3));
        apart = λ x y less_x less_y same. elim (cases_eq x n) [
          | inl e ↦ elim (cases_eq y n) [
            | inl e' ↦ ap (key_in order events) (e ∙ sym e')
            | inr ne ↦ (let less : y < n = omega (arith, less_y, ne) in
                ap (key_in order events) e ∙ apart_new y less (sym (kept keys n chain y have.sized less) ∙ sym same ∙ ap (λ k. get_or (keys ++ chain ∷ []) k 0) e ∙ here))
          ]
          | inr ne ↦ (let less : x < n = omega (arith, less_x, ne) in elim (cases_eq y n) [
            | inl e' ↦ sym (apart_new x less (sym (kept keys n chain x have.sized less) ∙ same ∙ ap (λ k. get_or (keys ++ chain ∷ []) k 0) e' ∙ here)) ∙ ap (key_in order events) (sym e')
            | inr ne' ↦ (let less' : y < n = omega (arith, less_y, ne') in
                have.apart x y less less' (sym (kept keys n chain x have.sized less) ∙ same ∙ kept keys n chain y have.sized less'))
          ])
        ];
        below = λ x less. elim (cases_eq x n) [
          | inl e ↦ subst (λ k. get_or (keys ++ chain ∷ []) k 0 < count) (sym e) (subst (λ d. d < count) (sym here) low)
          | inr ne ↦ (let less' : x < n = omega (arith, less, ne) in subst (λ d. d < count) (sym (kept keys n chain x have.sized less')) (have.below x less'))
        ];
        used = λ d less. (let old = have.used d less in (old.0, omega (arith, old.1), kept keys n chain old.0 have.sized old.1 ∙ old.2));
        few = (let most = have.few in omega (arith, most));
      },
    )

-- the first event of a new chain
pub HaveChains-new : (order : Order) (events : List LogEvent) (n : ℕ) (keys : List ℕ) (old new : BTreeMap (ℕ × Option ℕ) ℕ) (count : ℕ) → HaveChains order events n keys old count →
    get key_cmp old (key_in order events n) ≡ None → Updates key_cmp old new (key_in order events n) (Some count) → HaveChains order events (n + 1) (keys ++ count ∷ []) new (count + 1)
HaveChains-new order events n keys old new count have at updates =
    let key = key_in order events n in
    let here : get_or (keys ++ count ∷ []) n 0 ≡ count = get_or_push keys count 0 n have.sized in
    let other : (x : ℕ) → x < n → key_in order events x ≡ key → ⊥ =
    λ x low same. none-some (get_or keys x 0) (sym at ∙ ap (get key_cmp old) (sym same) ∙ have.found x low) in
    let apart_old : (x : ℕ) → x < n → get_or (keys ++ count ∷ []) x 0 ≡ count → ⊥ =
    λ x low same. (let less = have.below x low in let is = kept keys n count x have.sized low in omega (arith, less, is, same)) in
    record {
      sized = length_push keys count ∙ ap (λ k. k + 1) have.sized;
      found = λ x less. elim (cases_eq x n) [
        | inl e ↦ subst (λ k. get key_cmp new (key_in order events k) ≡ Some (get_or (keys ++ count ∷ []) k 0)) (sym e) (updates.1 ∙ ap Some (sym here))
        | inr ne ↦ (let less' : x < n = omega (arith, less, ne) in
            updates.2 (key_in order events x) (is_not (is_at (key_cmp key) (key_in order events x)) (λ same. other x less' (sym (key_equal key (key_in order events x) same))))
            ∙ have.found x less' ∙ ap Some (sym (kept keys n count x have.sized less')))
      ];
      from = λ q d found. elim (cases_Bool (is_at (key_cmp key) q)) [
        | inl same ↦ (let e : key ≡ q = key_equal key q same in
            let is : count ≡ d = same_Some count d (sym updates.1 ∙ ap (get key_cmp new) e ∙ found) in
            (n, omega arith, e, here ∙ is))
        | inr apart ↦ (let before = have.from q d (sym (updates.2 q apart) ∙ found) in (before.0, omega (arith, before.1), before.2, kept keys n count before.0 have.sized before.1 ∙ before.3))
      ];
      apart = λ x y less_x less_y same. elim (cases_eq x n) [
        | inl e ↦ elim (cases_eq y n) [
          | inl e' ↦ ap (key_in order events) (e ∙ sym e')
          | inr ne ↦ absurd (apart_old y (omega (arith, less_y, ne)) (sym same ∙ ap (λ k. get_or (keys ++ count ∷ []) k 0) e ∙ here))
        ]
        | inr ne ↦ (let less : x < n = omega (arith, less_x, ne) in elim (cases_eq y n) [
          | inl e' ↦ absurd (apart_old x less (same ∙ ap (λ k. get_or (keys ++ count ∷ []) k 0) e' ∙ here))
          | inr ne' ↦ (let less' : y < n = omega (arith, less_y, ne') in
              have.apart x y less less' (sym (kept keys n count x have.sized less) ∙ same ∙ kept keys n count y have.sized less'))
        ])
      ];
      below = λ x less. elim (cases_eq x n) [
        | inl e ↦ subst (λ k. get_or (keys ++ count ∷ []) k 0 < count + 1) (sym e) (omega (arith, here))
        | inr ne ↦ (let less' : x < n = omega (arith, less, ne) in let low = have.below x less' in let is = kept keys n count x have.sized less' in omega (arith, low, is))
      ];
      used = λ d less. elim (cases_eq d count) [
        | inl e ↦ (n, omega arith, here ∙ sym e)
        | inr ne ↦ (let before = have.used d (omega (arith, less, ne)) in (before.0, omega (arith, before.1), kept keys n count before.0 have.sized before.1 ∙ before.2))
      ];
      few = (let most = have.few in omega (arith, most));
    }

-- one more event
pub HaveChains-next : (order : Order) (events : List LogEvent) (n : ℕ) (keys : List ℕ) (old new : BTreeMap (ℕ × Option ℕ) ℕ) (count chain after : ℕ) → HaveChains order events n keys old count →
    FindsChain old new (key_in order events n) count chain → (chain ≡ count → after ≡ count + 1) → ((chain ≡ count → ⊥) → after ≡ count) →
    HaveChains order events (n + 1) (keys ++ chain ∷ []) new after
HaveChains-next order events n keys old new count chain after have found more same = elim found [
  | inl f ↦ (let next = HaveChains-old order events n keys old count chain have f.0 in
      let low = next.0 in
      let is : after ≡ count = same (λ e. (omega (arith, low, e))) in
      subst (λ k. HaveChains order events (n + 1) (keys ++ chain ∷ []) new k) (sym is) (subst (λ m. HaveChains order events (n + 1) (keys ++ chain ∷ []) m count) (sym f.1) next.1))
  | inr f ↦ (let next = HaveChains-new order events n keys old new count have f.0 f.2 in
      subst (λ k. HaveChains order events (n + 1) (keys ++ chain ∷ []) new k) (sym (more f.1))
      (subst (λ d. HaveChains order events (n + 1) (keys ++ d ∷ []) new (count + 1)) (sym f.1) next))
]

-- the chain of each number is below their count
pub HaveChains-within : (order : Order) (events : List LogEvent) (n : ℕ) (keys : List ℕ) (chains : BTreeMap (ℕ × Option ℕ) ℕ) (count : ℕ) → HaveChains order events n keys chains count →
    (k d : ℕ) → k < length keys → get_or keys k d < count
HaveChains-within order events n keys chains count have k d low =
    subst (λ c. c < count) (get_or_default keys k 0 d low) (have.below k (let sized = have.sized in omega (arith, sized, low)))

-- all events have their chains
pub AreKeyed-all : (order : Order) (events : List LogEvent) (keys : List ℕ) (chains : BTreeMap (ℕ × Option ℕ) ℕ) (count n : ℕ) (g : Groups) → HaveChains order events n keys chains count → n ≡ length events →
    node_count g ≡ length keys → ((x : ℕ) → x < length keys → group_of g x ≡ get_or keys x 0) → count_of g ≡ count → AreKeyed order events g
AreKeyed-all order events keys chains count n g have all nodes same counted = record {
  nodes = nodes ∙ have.sized ∙ all;
  same = λ x y low_x low_y. (let x_is = same x (let sized = have.sized in omega (arith, low_x, all, sized)) in let y_is = same y (let sized = have.sized in omega (arith, low_y, all, sized)) in (
    λ e. have.apart x y (omega (arith, low_x, all)) (omega (arith, low_y, all)) (sym x_is ∙ e ∙ y_is),
    λ e. x_is ∙ same_Some (get_or keys x 0) (get_or keys y 0) (sym (have.found x (omega (arith, low_x, all))) ∙ ap (get key_cmp chains) e ∙ have.found y (omega (arith, low_y, all))) ∙ sym y_is,
  ));
  used = λ d low. (let place = have.used d (omega (arith, low, counted)) in let within : place.0 < length keys = (let sized = have.sized in omega (arith, place.1, sized)) in
      (place.0, (omega (arith, within, nodes), same place.0 within ∙ place.2)));
}
