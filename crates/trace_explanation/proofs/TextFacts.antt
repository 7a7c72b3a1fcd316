-- Lemmas on the text of an explanation, part by part.
use Rattle.std.proofs.Common.{◌≡◌, sym, ap, refl, ◌∙◌, ℕ, suc, ◌+◌, ◌-◌, ◌<◌, ◌≤◌, eqb, List, [], ◌∷◌, ◌++◌, length, map, get_or, take, drop, Some, String, string_bytes, Result, Ok, Err, arith, append_assoc}
use Rattle.std.specs.Prelude.{codes, reverse}
use Rattle.std.specs.Fmt.{decimal}
use Rattle.std.specs.List.{enumerate_from, flat_map, range_with_len, zip}
use Rattle.std.specs.Result.{OnOk}
use Rattle.std.specs.Global.{Global}
use Rattle.std.proofs.lemmas.List.{drop_more, flat_map_more, map-append, reverse-append, take_more}
use Rattle.std.proofs.lemmas.List.FromFn.{get_or-enumerate_from, length-enumerate_from}
use Rattle.line_text.specs.Lines.{parts_of}
use Rattle.line_text.proofs.CutFacts.{split_parts}
use Rattle.tso_ops.specs.Values.{TraceValue}
use Rattle.tso_cert.specs.declared.steps.CertStep.{CertStep}
use Rattle.trace_explanation.specs.Explanations.{more_text, stores_text}
use Rattle.trace_explanation.specs.Namings.{NamingValue}
use Rattle.trace_explanation.specs.Places.{place_text}
use Rattle.trace_explanation.specs.JoinedTexts.{joined}
use Rattle.trace_explanation.specs.Refusals.{line_there}
use Rattle.trace_explanation.proofs.SearchFacts.{numbers_more, places_more}

-- ---- the line of a refusal

-- a later line
pub there-later : (line rest : List ℕ) (k : ℕ) → line_there (line ∷ parts_of rest) (suc k) ≡ line_there (parts_of rest) k
unfolding parts_of
there-later line rest k = let p = split_parts (λ b. eqb b 10) rest in rw p.2 refl

-- the line itself
pub there-first : (line rest : List ℕ) → line_there (line ∷ parts_of rest) 0 ≡ Some line
unfolding parts_of
there-first line rest = let p = split_parts (λ b. eqb b 10) rest in rw p.2 refl

-- ---- items, the last first

-- one more item
pub reversed-more : {X A : Type 0} (f : X → List A) (xs : List X) (n done : ℕ) (x : X) (old new whole : List A) → length xs ≡ n → done < n → x ≡ get_or xs (n - (done + 1)) x →
    new ≡ old ++ f x → old ++ flat_map f (reverse (take (n - done) xs)) ≡ whole → new ++ flat_map f (reverse (take (n - (done + 1)) xs)) ≡ whole
reversed-more f xs n done x old new whole count within at added before =
    let k = n - (done + 1) in
    let rest : n - done ≡ k + 1 = omega arith in
    let more : take (k + 1) xs ≡ take k xs ++ x ∷ [] = take_more xs k x (omega (arith, count)) ∙ ap (λ y. take k xs ++ y ∷ []) (sym at) in
    let turned : reverse (take (k + 1) xs) ≡ x ∷ reverse (take k xs) = ap reverse more ∙ reverse-append (take k xs) (x ∷ []) in
    ap (λ said. said ++ flat_map f (reverse (take k xs))) added ∙ append_assoc old (f x) (flat_map f (reverse (take k xs)))
    ∙ ap (λ ys. old ++ flat_map f ys) (sym turned) ∙ ap (λ m. old ++ flat_map f (reverse (take m xs))) (sym rest) ∙ before

-- one more step, after its number
pub steps-more : (f : ℕ × CertStep → List ℕ) (steps : List CertStep) (done number : ℕ) (s : CertStep) (old new whole : List ℕ) → done < length steps → number ≡ length steps - done →
    s ≡ get_or steps (number - 1) s → new ≡ old ++ f (number, s) → old ++ flat_map f (reverse (take (length steps - done) (enumerate_from 1 steps))) ≡ whole →
    new ++ flat_map f (reverse (take (length steps - (done + 1)) (enumerate_from 1 steps))) ≡ whole
steps-more f steps done number s old new whole within is at added before =
    let k = length steps - (done + 1) in
    let place : number - 1 ≡ k = omega arith in
    let first : number ≡ 1 + k = omega arith in
    let here : (number, s) ≡ get_or (enumerate_from 1 steps) k (number, s) =
    ap (λ n. (n, s)) first ∙ ap (λ d. (1 + k, d)) (at ∙ ap (λ i. get_or steps i s) place) ∙ sym (get_or-enumerate_from 1 steps k (number, s) (omega arith)) in
    reversed-more f (enumerate_from 1 steps) (length steps) done (number, s) old new whole (length-enumerate_from 1 steps) within here added before

-- ---- edges

-- one more edge along some numbers
pub edges-more : (f : ℕ × ℕ → List ℕ) (rest : List ℕ) (i last next : ℕ) (old new whole : List ℕ) → i < length rest → next ≡ get_or rest i 0 → new ≡ old ++ f (last, next) →
    old ++ flat_map f (zip (last ∷ drop i rest) (drop i rest)) ≡ whole → new ++ flat_map f (zip (next ∷ drop (i + 1) rest) (drop (i + 1) rest)) ≡ whole
edges-more f rest i last next old new whole within at added before =
    let dropped : drop i rest ≡ next ∷ drop (i + 1) rest = drop_more rest i 0 within ∙ ap (λ y. y ∷ drop (i + 1) rest) (sym at) in
    ap (λ said. said ++ flat_map f (zip (next ∷ drop (i + 1) rest) (drop (i + 1) rest))) added ∙ append_assoc old (f (last, next)) (flat_map f (zip (next ∷ drop (i + 1) rest) (drop (i + 1) rest)))
    ∙ ap (λ later. old ++ flat_map f (zip (last ∷ later) later)) (sym dropped) ∙ before

-- ---- texts of numbers

-- a text after that of one more number, from 1, or from 0
pub numbers-grown : (f : ℕ → List ℕ) (n : ℕ) (start old new : List ℕ) → old ≡ start ++ flat_map f (range_with_len 1 n) → new ≡ old ++ f (n + 1) → new ≡ start ++ flat_map f (range_with_len 1 (n + 1))
numbers-grown f n start old new before added =
    added ∙ ap (λ x. x ++ f (n + 1)) before ∙ flat_map_more f start (range_with_len 1 n) (n + 1) ∙ ap (λ ns. start ++ flat_map f ns) (sym (numbers_more n))

pub places-grown : (f : ℕ → List ℕ) (n : ℕ) (start old new : List ℕ) → old ≡ start ++ flat_map f (range_with_len 0 n) → new ≡ old ++ f n → new ≡ start ++ flat_map f (range_with_len 0 (n + 1))
places-grown f n start old new before added =
    added ∙ ap (λ x. x ++ f n) before ∙ flat_map_more f start (range_with_len 0 n) n ∙ ap (λ ns. start ++ flat_map f ns) (sym (places_more n))

-- what is listed of one more number, from 1
pub items-more : {A : Type 0} (f : ℕ → A) (n : ℕ) (old new : List A) (x : A) → new ≡ old ++ x ∷ [] → x ≡ f (n + 1) → old ≡ map f (range_with_len 1 n) → new ≡ map f (range_with_len 1 (n + 1))
items-more f n old new x added is before =
    added ∙ ap (λ xs. xs ++ x ∷ []) before ∙ ap (λ y. map f (range_with_len 1 n) ++ y ∷ []) is
    ∙ sym (ap (map f) (numbers_more n) ∙ map-append f (range_with_len 1 n) ((n + 1) ∷ []))

-- the same of texts
pub names-more : (f : ℕ → List ℕ) (n : ℕ) (old new : List (String Global)) (s : String Global) → new ≡ old ++ s ∷ [] → string_bytes s ≡ f (n + 1) → map string_bytes old ≡ map f (range_with_len 1 n) →
    map string_bytes new ≡ map f (range_with_len 1 (n + 1))
names-more f n old new s added is before = items-more f n (map string_bytes old) (map string_bytes new) (string_bytes s) (ap (map string_bytes) added ∙ map-append string_bytes old (s ∷ [])) is before

-- ---- one part after another

-- a text after one more part
pub grown : (old a b mid new : List ℕ) → mid ≡ old ++ a → new ≡ mid ++ b → new ≡ old ++ (a ++ b)
grown old a b mid new before added = added ∙ ap (λ x. x ++ b) before ∙ append_assoc old a b

-- the same of the last part, where it was appended
pub grown-last : {E : Type 0} (r : Result (Unit {0}) E) (old a b mid new : List ℕ) → mid ≡ old ++ a → OnOk r (new ≡ mid ++ b) → OnOk r (new ≡ old ++ (a ++ b))
grown-last (Ok u) old a b mid new before added = grown old a b mid new before added
grown-last (Err e) old a b mid new before added = tt

-- ---- stores

-- the text of some stores
pub stores_some : (naming : NamingValue) (t : TraceValue) (a : ℕ) (stores : List ℕ) → 1 ≤ length stores →
    stores_text naming t a stores
    ≡ joined (codes "The stores to address " ∷ decimal a ∷ codes ", " ∷ decimal (length stores) ∷ codes " in all:\n\n" ∷ []) ++ flat_map (place_text naming t) (take 16 stores) ++ more_text (length stores)
unfolding stores_text
stores_some naming t a [] some = absurd (omega arith)
stores_some naming t a (m ∷ others) some = refl
