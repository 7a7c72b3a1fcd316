-- Lemmas on what is in force behind a line.
use Rattle.std.proofs.Common.{◌≡◌, ◌∙◌, ◌↔◌, ℕ, List, [], ◌∷◌, ◌++◌, length, take, get_or, reverse, refl, sym, ap, subst, ◌+◌, ◌<◌, All, Bool, false, IsTrue, Option, None, Some, MatchOption, Vec, Global, arith}
use Rattle.std.proofs.lemmas.Bool.{false≢true}
use Rattle.std.proofs.lemmas.List.{append-nil, reverse-append, take_at, take_more}
use Rattle.std.proofs.lemmas.List.Elements.{All-append, All-contains, All-from_recursion, All-take}
use Rattle.tso_ops.specs.Values.{TraceValue}
use Rattle.tso_ops.specs.Events.{IsEvent, IsLoad}
use Rattle.value_evidence.specs.declared.steps.ValueStep.{ValueStep}
use Rattle.value_evidence.specs.declared.steps.ValueStep.TheVariants.{Read}
use Rattle.value_evidence.specs.Refutations.{supposed_before, AreTwoLogEvents}
use Rattle.value_check.specs.declared.in_force.InForce.{InForce}
use Rattle.value_check.specs.declared.in_force.OpenCase.{OpenCase}
use Rattle.value_check.specs.declared.in_force.Supposition.{Supposition}
use Rattle.value_check.specs.declared.known.Known.{Known}
use Rattle.value_check.specs.declared.refusals.ValueRefutationFault.{ValueRefutationFault}
use Rattle.value_check.specs.Internal.InForce.{Place, IsAt, IsCaseOfEvents, in_second, place_of, supposed, with_opposite, with_step}
use Rattle.value_check.specs.Internal.Known.{IsKnownBy, IsOfEvents}
use Rattle.value_check.proofs.LeadingFacts.{last_contained}

-- two places are the same where their steps, what is set aside and their cases are
pub one_place : (steps others : List ValueStep) (aside far : List (ℕ × ℕ)) (cases next : List OpenCase) → steps ≡ others → aside ≡ far → cases ≡ next →
    (let p : Place = record { steps = steps; aside = aside; cases = cases } in p) ≡ record { steps = others; aside = far; cases = next }
one_place steps others aside far cases next same_steps same_aside same_cases = cc

-- and two cases
one_case : (a b c d : ℕ) (supposes : Supposition) → a ≡ b → c ≡ d →
    (let it : OpenCase = record { steps = a; aside = c; supposes = supposes } in it) ≡ record { steps = b; aside = d; supposes = supposes }
one_case a b c d supposes same_steps same_aside = cc

all_one : {X : Type 0} (P : X → Type 0) (x : X) → P x → All P (x ∷ [])
all_one P x is = All-from_recursion P (x ∷ []) (is, tt)

-- all of a list with one more
pub all_with : {X : Type 0} (P : X → Type 0) (xs ys : List X) (x : X) → ys ≡ xs ++ x ∷ [] → All P xs → P x → All P ys
all_with P xs ys x same all is = subst (All P) (sym same) (All-append P xs (x ∷ []) all (all_one P x is))

-- what is supposed of events is so the other way round too
pub reversed_events : (t : TraceValue) (u v : ℕ) → IsOfEvents t (supposed_before u v) → IsOfEvents t (supposed_before v u)
reversed_events t u v of = record {
  pairs = λ x y said. (let both = of.pairs u v (refl, refl) in (subst (IsEvent t) said.0 both.1, subst (IsEvent t) said.1 both.0));
  loads = λ l r same. absurd cc;
}

pub read_of_events : (t : TraceValue) (load source : ℕ) → IsLoad t load → IsOfEvents t (Read load source)
read_of_events t load source is = record { pairs = λ u v said. absurd said; loads = λ l r same. (let one : load ≡ l = cc in subst (IsLoad t) one is) }

pub order_of_events : (t : TraceValue) (u v : ℕ) → AreTwoLogEvents t u v → IsOfEvents t (supposed_before u v)
order_of_events t u v two = record {
  pairs = λ x y said. (subst (IsEvent t) said.0 two.0, subst (IsEvent t) said.1 two.1);
  loads = λ l r same. absurd cc;
}

-- the place with a case more
abbrev pub with_case : Supposition → Place → Place
with_case supposes p = record {
  steps = p.steps;
  aside = p.aside;
  cases = record { steps = length p.steps; aside = length p.aside; supposes = supposes } ∷ p.cases;
}

module _ (t : TraceValue) (f : InForce) (p : Place) (at : IsAt t f p) where
  -- a step was put in force
  pub step_added : (known : Known) (steps : Vec ValueStep Global) (s : ValueStep) → steps.items ≡ f.steps.items ++ s ∷ [] →
      (IsKnownBy t f.steps.items f.known → IsOfEvents t s → IsKnownBy t (f.steps.items ++ s ∷ []) known) → IsOfEvents t s →
      IsAt t (record f { known = known; steps = steps }) (with_step s p)
  step_added known steps s items follows of = record {
    kept = record {
      known = subst (λ all. IsKnownBy t all known) (sym items) (follows at.kept.known of);
      steps = all_with (IsOfEvents t) f.steps.items steps.items s items at.kept.steps of;
      cases = at.kept.cases;
    };
    place = one_place _ _ _ _ (reverse f.cases.items) _ items refl refl ∙ ap (with_step s) at.place;
  }

  -- a case was opened
  pub case_opened : (cases : Vec OpenCase Global) (supposes : Supposition) (a b : ℕ) → a ≡ length f.steps.items → b ≡ length f.aside.items →
      cases.items ≡ f.cases.items ++ record { steps = a; aside = b; supposes = supposes } ∷ [] → IsOfEvents t (supposed supposes) →
      IsAt t (record f { cases = cases }) (with_case supposes p)
  case_opened cases supposes a b is_a is_b items of =
      let c : OpenCase = record { steps = length f.steps.items; aside = length f.aside.items; supposes = supposes } in
      let same = items ∙ ap (λ x. f.cases.items ++ x ∷ []) (one_case a _ b _ supposes is_a is_b) in record {
        kept = record {
          known = at.kept.known;
          steps = at.kept.steps;
          cases = all_with (IsCaseOfEvents t) f.cases.items cases.items c same at.kept.cases of;
        };
        place = one_place f.steps.items _ f.aside.items _ _ _ refl refl (ap reverse same ∙ reverse-append f.cases.items (c ∷ [])) ∙ ap (with_case supposes) at.place;
      }

  -- The second part of the last open case was begun, from these tables, cut back to where the case began.
  module _ (c : OpenCase) (cut new : InForce) (known : Known) (opened : f.cases.items ≡ cut.cases.items ++ c ∷ []) (cut_steps : cut.steps.items ≡ take c.steps f.steps.items)
      (cut_aside : cut.aside.items ≡ take c.aside f.aside.items) (opposed : place_of new ≡ with_opposite c.supposes (place_of cut)) (cases : new.cases.items ≡ cut.cases.items) where
    opened_events : All (IsCaseOfEvents t) (cut.cases.items ++ c ∷ [])
    opened_events = subst (All (IsCaseOfEvents t)) opened at.kept.cases

    second_place : place_of new ≡ in_second p.cases p
    second_place =
        let reversed : reverse f.cases.items ≡ c ∷ reverse cut.cases.items = ap reverse opened ∙ reverse-append cut.cases.items (c ∷ []) in
        opposed ∙ ap (with_opposite c.supposes) (one_place _ _ _ _ (reverse cut.cases.items) _ cut_steps cut_aside refl)
        ∙ ap (λ open_cases. in_second open_cases (place_of f)) (sym reversed) ∙ ap (λ q. in_second q.cases q) at.place

    pub second_part_begun : (IsOfEvents t (supposed c.supposes) → All (IsOfEvents t) cut.steps.items → All (IsOfEvents t) new.steps.items) →
        (All (IsOfEvents t) new.steps.items → IsKnownBy t new.steps.items known) → IsAt t (record new { known = known }) (in_second p.cases p)
    second_part_begun events knows =
        let of = All-contains (IsCaseOfEvents t) (cut.cases.items ++ c ∷ []) c opened_events (last_contained cut.cases.items c) in
        let steps = events of (subst (All (IsOfEvents t)) (sym cut_steps) (All-take (IsOfEvents t) c.steps f.steps.items at.kept.steps)) in record {
          kept = record {
            known = knows steps;
            steps = steps;
            cases = subst (All (IsCaseOfEvents t)) (take_at cut.cases.items (c ∷ []) (length cut.cases.items) refl ∙ sym cases)
                (All-take (IsCaseOfEvents t) (length cut.cases.items) (cut.cases.items ++ c ∷ []) opened_events);
          };
          place = second_place;
        }

  -- no case was open
  pub none_open : (cases : Vec OpenCase Global) → f.cases.items ≡ cases.items ++ [] → length f.cases.items ≡ 0 → IsAt t (record f { cases = cases }) (in_second p.cases p)
  none_open cases items none =
      let same : cases.items ≡ f.cases.items = sym (items ∙ append-nil cases.items) in
      let closed : p.cases ≡ [] = sym (ap (λ q. q.cases) at.place) ∙ ap reverse (empty f.cases.items none) in
      let still : IsAt t (record f { cases = cases }) p = record {
        kept = record { known = at.kept.known; steps = at.kept.steps; cases = subst (All (IsCaseOfEvents t)) (sym same) at.kept.cases };
        place = one_place _ _ _ _ _ _ refl refl (ap reverse same) ∙ at.place;
      } in
      subst (λ open_cases. IsAt t (record f { cases = cases }) (in_second open_cases p)) (sym closed) still
    where
      empty : (xs : List OpenCase) → length xs ≡ 0 → xs ≡ []
      empty [] none = refl
      empty (x ∷ xs) none = absurd (omega (arith, none))

-- the steps so far, with one more of them
pub steps_followed : (t : TraceValue) (steps : List ValueStep) (k : ℕ) (old new : Known) (none : ValueStep) → k < length steps → All (IsOfEvents t) steps →
    IsKnownBy t (take k steps) old →
    (IsKnownBy t (take k steps) old → IsOfEvents t (get_or steps k none) → IsKnownBy t (take k steps ++ get_or steps k none ∷ []) new) → IsKnownBy t (take (k + 1) steps) new
steps_followed t steps k old new none within all known follows =
    subst (λ some. IsKnownBy t some new) (sym (take_more steps k none within)) (follows known (all k none within))

-- the fault of a line that holds or doesn't
pub fault_of : (o : Option ValueRefutationFault) (holds : Bool) (fault : ValueRefutationFault) (P : Type 0) → IsTrue holds ↔ P →
    MatchOption o (IsTrue holds) (λ said. (said ≡ fault) × (holds ≡ false)) → MatchOption o P (λ said. (said ≡ fault) × (P → ⊥))
fault_of None holds fault P iff is = iff.0 is
fault_of (Some said) holds fault P iff is = (is.0, λ so. false≢true (sym is.1 ∙ iff.1 so))
