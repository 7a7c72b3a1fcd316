-- What the tokens of a line say: what they say is written in one way, and tokens that say nothing are those of nothing.
use Rattle.std.proofs.Common.{◌≡◌, ℕ, zero, suc, Bool, true, false, cond, List, [], ◌∷◌, map, Option, Some, None, Result, Ok, Err, refl, ap, sym, ◌∙◌, arith, inl, inr, ⊎_elim, ◌⊎◌}
use Rattle.std.specs.Prelude.{codes, All}
use Rattle.std.specs.Fmt.{decimal}
use Rattle.std.specs.List.{list_all}
use Rattle.std.specs.Str.{bytes_eq}
use Rattle.std.specs.Char.{is_ascii_digit}
use Rattle.std.proofs.lemmas.Bool.{false≢true}
use Rattle.std.proofs.lemmas.List.Elements.{All-nil, All-cons}
use Rattle.std.proofs.lemmas.Slice.Eq.{bytes_eq-Decides}
use Rattle.line_text.specs.Numbers.{number}
use Rattle.line_text.proofs.SplitFacts.{decimal_digits}
use Rattle.line_text.proofs.NumberFacts.{number_is, number_fits, number-decimal}
use Rattle.tso_cert.specs.declared.rules.BaseRule.{BaseRule}
use Rattle.tso_cert.specs.declared.rules.BaseRule.TheVariants.{Init, LoadOp, StoreStore, Stbar, Membar, Read, Own}
use Rattle.tso_cert.specs.declared.rules.InferredRule.{InferredRule}
use Rattle.tso_cert.specs.declared.rules.InferredRule.TheVariants.{LoadPast, StorePast, SwapBefore, SwapAfter}
use Rattle.tso_cert.specs.declared.steps.Reason.{Reason}
use Rattle.tso_cert.specs.declared.steps.Reason.TheVariants.{Base, Inferred}
use Rattle.tso_cert.specs.declared.faults.CertificateRefusal.{CertificateRefusal}
use Rattle.tso_cert.specs.declared.faults.CertificateRefusal.TheVariants.{BadNumber, BadRule}
use Rattle.tso_cert.specs.Printed.{base_name, inferred_name, event_text, reason_tokens, Fits, ReasonFits}
use Rattle.tso_cert.specs.Spelling.{IsEventToken}
use Rattle.line_text.specs.Results.{◌>>=◌}
use Rattle.tso_cert.specs.Internal.LineValues.{above_zero, event_number, or_bad_event, event, events, named, base_rule, inferred_rule, reason_said, base_rules, inferred_rules}

-- ---- steps of a reading

pub bind_ok : {A B : Type 0} (r : Result A CertificateRefusal) (f : A → Result B CertificateRefusal) (b : B) → (r >>= f) ≡ Ok b → (a : A) × (r ≡ Ok a) × (f a ≡ Ok b)
bind_ok (Ok a) f b e = (a, refl, e)
bind_ok (Err why) f b e = absurd cc

pub bind_err : {A B : Type 0} (r : Result A CertificateRefusal) (f : A → Result B CertificateRefusal) (why : CertificateRefusal) → (r >>= f) ≡ Err why → (r ≡ Err why) ⊎ ((a : A) × (r ≡ Ok a) × (f a ≡ Err why))
bind_err (Ok a) f why e = inr (a, refl, e)
bind_err (Err other) f why e = inl cc

-- and a last step that has no fault
pub bind_one : {A B : Type 0} (r : Result A CertificateRefusal) (f : A → B) (b : B) → (r >>= λ a. Ok (f a)) ≡ Ok b → (a : A) × (r ≡ Ok a) × (f a ≡ b)
bind_one (Ok a) f b e = (a, refl, cc)
bind_one (Err why) f b e = absurd cc

pub bind_last : {A B : Type 0} (r : Result A CertificateRefusal) (f : A → B) (why : CertificateRefusal) → (r >>= λ a. Ok (f a)) ≡ Err why → r ≡ Err why
bind_last (Ok a) f why e = absurd cc
bind_last (Err other) f why e = cc

pub cond_true : {X : Type 0} (b : Bool) (x y z : X) → b ≡ true → cond b x y ≡ z → x ≡ z
cond_true true x y z is e = e
cond_true false x y z is e = absurd cc

pub cond_false : {X : Type 0} (b : Bool) (x y z : X) → b ≡ false → cond b x y ≡ z → y ≡ z
cond_false true x y z is e = absurd cc
cond_false false x y z is e = e

pub cond_ok : {A : Type 0} (b : Bool) (r : Result A CertificateRefusal) (why : CertificateRefusal) (a : A) → cond b r (Err why) ≡ Ok a → (b ≡ true) × (r ≡ Ok a)
cond_ok true r why a e = (refl, e)
cond_ok false r why a e = absurd cc

pub cases : (b : Bool) → (b ≡ true) ⊎ (b ≡ false)
cases true = inl refl
cases false = inr refl

pub uncons : {X : Type 0} (x y : X) (xs ys : List X) → x ∷ xs ≡ y ∷ ys → (x ≡ y) × (xs ≡ ys)
uncons x y xs ys e = (cc, cc)

-- the first of elements, and those after it
pub all_first : {X : Type 0} (P : X → Type 0) (x : X) (xs : List X) → All P (x ∷ xs) → P x
all_first P x xs all = all 0 x (omega arith)

pub all_after : {X : Type 0} (P : X → Type 0) (x : X) (xs : List X) → All P (x ∷ xs) → All P xs
all_after P x xs all k d low = all (suc k) d (omega arith)

-- ---- event numbers

above_zero_is : (o : Option ℕ) (n : ℕ) → above_zero o ≡ Some n → (m : ℕ) × (o ≡ Some (suc m)) × (n ≡ suc m)
above_zero_is None n e = absurd cc
above_zero_is (Some zero) n e = absurd cc
above_zero_is (Some (suc m)) n e = (m, refl, cc)

-- an event number is written in one way
event_number_is : (p : List ℕ) (n : ℕ) → event_number p ≡ Some n → (p ≡ event_text n) × Fits n
event_number_is p n e =
    ⊎_elim
    (λ (init : bytes_eq p (codes "init") ≡ true).
    let none : n ≡ 0 = (let s = cond_true _ (Some 0) (above_zero (number p)) (Some n) init e in cc) in
    rw none ((bytes_eq-Decides p (codes "init")).0 init, omega arith))
    (λ (other : bytes_eq p (codes "init") ≡ false).
    let s = above_zero_is (number p) n (cond_false _ (Some 0) (above_zero (number p)) (Some n) other e) in
    rw s.2 (number_is p (suc s.0) s.1, number_fits p (suc s.0) s.1))
    (cases (bytes_eq p (codes "init")))

-- digits are no word of letters
digits_differ : (p word : List ℕ) → list_all is_ascii_digit p ≡ true → list_all is_ascii_digit word ≡ false → bytes_eq p word ≡ false
digits_differ p word digits letters =
    ⊎_elim
    (λ (same : bytes_eq p word ≡ true). absurd (false≢true (sym letters ∙ ap (list_all is_ascii_digit) (sym ((bytes_eq-Decides p word).0 same)) ∙ digits)))
    (λ (other : bytes_eq p word ≡ false). other)
    (cases (bytes_eq p word))

pub decimal_differs : (n : ℕ) (word : List ℕ) → list_all is_ascii_digit word ≡ false → bytes_eq (decimal n) word ≡ false
decimal_differs n word letters = digits_differ (decimal n) word (decimal_digits n) letters

event_number-text : (n : ℕ) → Fits n → event_number (event_text n) ≡ Some n
event_number-text zero fits = refl
event_number-text (suc n) fits = rw (decimal_differs (suc n) (codes "init") refl, number-decimal (suc n) fits) refl

or_bad_ok : (o : Option ℕ) (n : ℕ) → or_bad_event o ≡ Ok n → o ≡ Some n
or_bad_ok None n e = absurd cc
or_bad_ok (Some m) n e = cc

or_bad_err : (o : Option ℕ) (why : CertificateRefusal) → or_bad_event o ≡ Err why → (o ≡ None) × (why ≡ BadNumber)
or_bad_err None why e = (refl, cc)
or_bad_err (Some m) why e = absurd cc

pub event_is : (p : List ℕ) (n : ℕ) → event p ≡ Ok n → (p ≡ event_text n) × Fits n
event_is p n e = event_number_is p n (or_bad_ok (event_number p) n e)

pub event-text : (n : ℕ) → Fits n → event (event_text n) ≡ Ok n
event-text n fits = ap or_bad_event (event_number-text n fits)

pub event_token : (p : List ℕ) (n : ℕ) → event p ≡ Ok n → IsEventToken p
event_token p n e = let s = event_is p n e in (n, s.1, s.0)

pub event_none : (p : List ℕ) (why : CertificateRefusal) → event p ≡ Err why → (IsEventToken p → ⊥) × (why ≡ BadNumber)
event_none p why e = (λ t. let s : Ok t.0 ≡ Err why = sym (event-text t.0 t.1) ∙ ap event (sym t.2) ∙ e in absurd cc, (or_bad_err (event_number p) why e).1)

pub events_are : (ps : List (List ℕ)) (ns : List ℕ) → events ps ≡ Ok ns → (ps ≡ map event_text ns) × All Fits ns
events_are [] ns e = let none : [] ≡ ns = cc in rw (← none) (refl, All-nil Fits)
events_are (p ∷ ps) ns e =
    let first = bind_ok (event p) _ ns e in
    let others = bind_one (events ps) _ ns first.2 in
    let one = event_is p first.0 first.1 in
    let more = events_are ps others.0 others.1 in
    rw (← others.2) (ap (λ q. q ∷ ps) one.0 ∙ ap (λ qs. event_text first.0 ∷ qs) more.0, All-cons Fits first.0 others.0 one.1 more.1)

pub events_tokens : (ps : List (List ℕ)) (ns : List ℕ) → events ps ≡ Ok ns → All IsEventToken ps
events_tokens [] ns e = All-nil IsEventToken
events_tokens (p ∷ ps) ns e =
    let first = bind_ok (event p) _ ns e in
    let others = bind_ok (events ps) _ ns first.2 in
    All-cons IsEventToken p ps (event_token p first.0 first.1) (events_tokens ps others.0 others.1)

pub events_none : (ps : List (List ℕ)) (why : CertificateRefusal) → events ps ≡ Err why → (All IsEventToken ps → ⊥) × (why ≡ BadNumber)
events_none [] why e = absurd cc
events_none (p ∷ ps) why e =
    ⊎_elim
    (λ (first : event p ≡ Err why). let s = event_none p why first in (λ all. s.0 (all_first IsEventToken p ps all), s.1))
    (λ (n : (a : ℕ) × (event p ≡ Ok a) × ((events ps >>= λ ns. Ok (a ∷ ns)) ≡ Err why)).
    let more = bind_last (events ps) _ why n.2 in
    let s = events_none ps why more in (λ all. s.0 (all_after IsEventToken p ps all), s.1))
    (bind_err (event p) _ why e)

pub events-text : (ns : List ℕ) → All Fits ns → events (map event_text ns) ≡ Ok ns
events-text [] fits = refl
events-text (n ∷ ns) fits = rw (event-text n (all_first Fits n ns fits), events-text ns (all_after Fits n ns fits)) refl

-- ---- rules

named_is : {R : Type 0} (name_of : R → List ℕ) (rules : List R) (name : List ℕ) (r : R) → named name_of rules name ≡ Ok r → name ≡ name_of r
named_is name_of [] name r e = absurd cc
named_is name_of (rule ∷ rules) name r e =
    ⊎_elim
    (λ (same : bytes_eq name (name_of rule) ≡ true).
    let is : rule ≡ r = (let s = cond_true _ (Ok rule) (named name_of rules name) (Ok r) same e in cc) in
    (bytes_eq-Decides name (name_of rule)).0 same ∙ ap name_of is)
    (λ (other : bytes_eq name (name_of rule) ≡ false). named_is name_of rules name r (cond_false _ (Ok rule) (named name_of rules name) (Ok r) other e))
    (cases (bytes_eq name (name_of rule)))

named_none : {R : Type 0} (name_of : R → List ℕ) (rules : List R) (name : List ℕ) (why : CertificateRefusal) → named name_of rules name ≡ Err why → why ≡ BadRule
named_none name_of [] name why e = cc
named_none name_of (rule ∷ rules) name why e =
    ⊎_elim
    (λ (same : bytes_eq name (name_of rule) ≡ true). absurd (let s = cond_true _ (Ok rule) (named name_of rules name) (Err why) same e in cc))
    (λ (other : bytes_eq name (name_of rule) ≡ false). named_none name_of rules name why (cond_false _ (Ok rule) (named name_of rules name) (Err why) other e))
    (cases (bytes_eq name (name_of rule)))

base_rule-name : (r : BaseRule) → base_rule (base_name r) ≡ Ok r
unfolding base_rule
base_rule-name Init = refl
base_rule-name LoadOp = refl
base_rule-name StoreStore = refl
base_rule-name Stbar = refl
base_rule-name Membar = refl
base_rule-name Read = refl
base_rule-name Own = refl

inferred_rule-name : (r : InferredRule) → inferred_rule (inferred_name r) ≡ Ok r
unfolding inferred_rule
inferred_rule-name LoadPast = refl
inferred_rule-name StorePast = refl
inferred_rule-name SwapBefore = refl
inferred_rule-name SwapAfter = refl

-- ---- reasons

-- the name of a rule and the tokens after it are those of the reason
pub record ReasonTold (name : List ℕ) (ps : List (List ℕ)) (r : Reason) : Type 0 where
  pub says : name ∷ ps ≡ reason_tokens r
  pub fits : ReasonFits r

pub reason_told : (name : List ℕ) (ps : List (List ℕ)) (r : Reason) → reason_said name ps ≡ Ok r → ReasonTold name ps r
unfolding reason_said base_rule inferred_rule
reason_told name [] r e =
    let rule = bind_one (named base_name base_rules name) _ r e in
    rw (← rule.2) record { says = ap (λ q. q ∷ []) (named_is base_name base_rules name rule.0 rule.1); fits = tt }
reason_told name (load ∷ path) r e =
    let l = bind_ok (event load) _ r e in
    let p = bind_ok (events path) _ r l.2 in
    let rule = bind_one (named inferred_name inferred_rules name) _ r p.2 in
    let one = event_is load l.0 l.1 in
    let more = events_are path p.0 p.1 in
    rw (← rule.2) record {
      says = ap (λ q. q ∷ load ∷ path) (named_is inferred_name inferred_rules name rule.0 rule.1) ∙ ap (λ q. inferred_name rule.0 ∷ q ∷ path) one.0 ∙ ap (λ qs. inferred_name rule.0 ∷ event_text l.0 ∷ qs) more.0;
      fits = (one.1, more.1);
    }

-- a token after the name is no event number; or they are the tokens of no reason
abbrev pub ReasonFault : List ℕ → List (List ℕ) → CertificateRefusal → Type 0
ReasonFault name ps why = ((why ≡ BadNumber) × (All IsEventToken ps → ⊥)) ⊎ ((why ≡ BadRule) × All IsEventToken ps × ((r : Reason) → name ∷ ps ≡ reason_tokens r → ⊥))

no_base : (name : List ℕ) (why : CertificateRefusal) → base_rule name ≡ Err why → (r : Reason) → name ∷ [] ≡ reason_tokens r → ⊥
no_base name why e (Base rule) is = let s : Ok rule ≡ Err why = sym (base_rule-name rule) ∙ ap base_rule (sym (uncons _ _ _ _ is).0) ∙ e in absurd cc
no_base name why e (Inferred rule load path) is = absurd (let s = (uncons _ _ _ _ is).1 in cc)

no_inferred : (name load : List ℕ) (path : List (List ℕ)) (why : CertificateRefusal) → inferred_rule name ≡ Err why → (r : Reason) → name ∷ load ∷ path ≡ reason_tokens r → ⊥
no_inferred name load path why e (Base rule) is = absurd (let s = (uncons _ _ _ _ is).1 in cc)
no_inferred name load path why e (Inferred rule l p) is = let s : Ok rule ≡ Err why = sym (inferred_rule-name rule) ∙ ap inferred_rule (sym (uncons _ _ _ _ is).0) ∙ e in absurd cc

pub reason_refused : (name : List ℕ) (ps : List (List ℕ)) (why : CertificateRefusal) → reason_said name ps ≡ Err why → ReasonFault name ps why
unfolding reason_said base_rule inferred_rule
reason_refused name [] why e =
    let none = bind_last (named base_name base_rules name) _ why e in
    inr (named_none base_name base_rules name why none, All-nil IsEventToken, no_base name why none)
reason_refused name (load ∷ path) why e =
    ⊎_elim
    (λ (no_load : event load ≡ Err why). let s = event_none load why no_load in inl (s.1, λ all. s.0 (all_first IsEventToken load path all)))
    (λ (l : (n : ℕ) × (event load ≡ Ok n) × ((events path >>= λ p. named inferred_name inferred_rules name >>= λ rule. Ok (Inferred rule n p)) ≡ Err why)).
    ⊎_elim
    (λ (no_path : events path ≡ Err why). let s = events_none path why no_path in inl (s.1, λ all. s.0 (all_after IsEventToken load path all)))
    (λ (p : (ns : List ℕ) × (events path ≡ Ok ns) × ((named inferred_name inferred_rules name >>= λ rule. Ok (Inferred rule l.0 ns)) ≡ Err why)).
    let none = bind_last (named inferred_name inferred_rules name) _ why p.2 in
    inr (named_none inferred_name inferred_rules name why none, All-cons IsEventToken load path (event_token load l.0 l.1) (events_tokens path p.0 p.1), no_inferred name load path why none))
    (bind_err (events path) _ why l.2))
    (bind_err (event load) _ why e)

-- what a reason's tokens say
pub base_said : (rule : BaseRule) → reason_said (base_name rule) [] ≡ Ok (Base rule)
unfolding reason_said
base_said rule = rw (base_rule-name rule) refl

pub inferred_said : (rule : InferredRule) (load : ℕ) (path : List ℕ) → Fits load → All Fits path →
    reason_said (inferred_name rule) (event_text load ∷ map event_text path) ≡ Ok (Inferred rule load path)
unfolding reason_said
inferred_said rule load path fits more = rw (event-text load fits, events-text path more, inferred_rule-name rule) refl
