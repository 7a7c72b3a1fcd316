-- Lemmas on the lists that lines make, and on parts and tokens that a line has no use for.
use Rattle.std.proofs.Common.{◌≡◌, ℕ, List, [], ◌∷◌, length, Err, refl, zero, suc, ◌<◌, Bool, true, false, cond, eqb, ◌++◌, get_or, set, Result, Ok, ap, sym, ◌∙◌, arith, map, append_assoc}
use Rattle.line_text.specs.Lines.{SomeToken}
use Rattle.tso_text.specs.Internal.Spelling.{unended_text_fault, push_last, items_of}
use Rattle.tso_text.specs.Numbers.{numbers}
use Rattle.tso_text.specs.declared.faults.Why.TheVariants.{BadLine}
use Rattle.std.specs.Global.{Vec}
use Rattle.std.specs.Result.{is_ok, OnOk}
use Rattle.std.proofs.lemmas.List.{append-nil, map-append}
use Rattle.std.proofs.lemmas.Bool.Decides.{nat_tests}
use Rattle.tso_ops.specs.Values.{rows}

-- bytes that no line end follows are no line
pub unended_some : (part : List ℕ) → (length part ≡ 0 → ⊥) → unended_text_fault part ≡ BadLine
unended_some [] some = absurd (some refl)
unended_some (b ∷ part) some = refl

-- where a token stands, none is too many
pub no_number-some : (tokens : List (List ℕ)) → SomeToken tokens → numbers 0 tokens ≡ Err BadLine
unfolding numbers
no_number-some tokens some = rw some.parts refl

-- one more item in the last list
pub items_of-push_last : {X : Type 0} (lists : List (List X)) (x : X) → 0 < length lists → items_of (push_last lists x) ≡ items_of lists ++ x ∷ []
items_of-push_last [] x some = absurd (omega arith)
items_of-push_last (row ∷ []) x some = append-nil (row ++ x ∷ []) ∙ ap (λ r. r ++ x ∷ []) (sym (append-nil row))
items_of-push_last (row ∷ next ∷ lists) x some =
    ap (λ r. row ++ r) (items_of-push_last (next ∷ lists) x (omega arith)) ∙ sym (append_assoc row (items_of (next ∷ lists)) (x ∷ []))

pub length-push_last : {X : Type 0} (lists : List (List X)) (x : X) → length (push_last lists x) ≡ length lists
length-push_last [] x = refl
length-push_last (row ∷ []) x = refl
length-push_last (row ∷ next ∷ lists) x = ap suc (length-push_last (next ∷ lists) x)

-- the last vector with one more item
rows-set_last : {X : Type 0} (lists : List (Vec X)) (k : ℕ) (old new : Vec X) (x : X) → suc k ≡ length lists → old ≡ get_or lists k old → new.items ≡ old.items ++ x ∷ [] →
    rows (set lists k new) ≡ push_last (rows lists) x
rows-set_last [] k old new x last is pushed = absurd (omega arith)
rows-set_last {X} (v ∷ []) zero old new x last is pushed = ap (λ (r : List X). r ∷ []) (pushed ∙ ap (λ (o : Vec X). o.items ++ x ∷ []) is)
rows-set_last (v ∷ []) (suc k) old new x last is pushed = absurd (omega arith)
rows-set_last (v ∷ w ∷ lists) zero old new x last is pushed = absurd (omega arith)
rows-set_last {X} (v ∷ w ∷ lists) (suc k) old new x last is pushed = ap (λ (r : List (List X)). v.items ∷ r) (rows-set_last (w ∷ lists) k old new x (omega arith) is pushed)

pub rows-push_last : {X E : Type 0} (lists : List (Vec X)) (k : ℕ) (old new : Vec X) (x : X) (r : Result (Unit {0}) E) → suc k ≡ length lists → old ≡ get_or lists k old →
    new.items ≡ cond (is_ok r) (old.items ++ x ∷ []) old.items → OnOk r (rows (set lists k new) ≡ push_last (rows lists) x)
rows-push_last lists k old new x (Ok u) last is pushed = rows-set_last lists k old new x last is pushed
rows-push_last lists k old new x (Err e) last is pushed = tt

-- where there are lists, some are there
pub some_lists : {X : Type 0} (lists : List (Vec X)) (n : ℕ) → (n ≡ 0 → ⊥) → n ≡ length lists → 0 < length (rows lists)
some_lists [] n some is = absurd (some is)
some_lists (v ∷ lists) n some is = omega arith

-- what the test of a length against 0 says
pub not_zero : (n : ℕ) (b : Bool) → b ≡ eqb n 0 → b ≡ false → n ≡ 0 → ⊥
not_zero n b is off none = grind (arith, nat_tests)

pub is_zero : (n : ℕ) (b : Bool) → b ≡ eqb n 0 → b ≡ true → n ≡ 0
is_zero n b is on = grind (arith, nat_tests)

-- the items of all lists, as something else
pub items_of-map : {X Y : Type 0} (f : X → Y) (lists : List (List X)) → items_of (map (map f) lists) ≡ map f (items_of lists)
items_of-map f [] = refl
items_of-map f (row ∷ lists) = ap (λ r. map f row ++ r) (items_of-map f lists) ∙ sym (map-append f row (items_of lists))
