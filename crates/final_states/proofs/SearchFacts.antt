-- Steps of the search.
use Rattle.std.proofs.Common.{◌≡◌, ◌∙◌, ◌⊎◌, sym, ap, refl, subst, inl, inr, ℕ, zero, suc, ◌+◌, ◌<◌, ◌≤◌, ◌&&◌, ◌||◌, cond, nat_eq, Bool, true, false, None, Some, List, [], ◌∷◌, ◌++◌, length, slice_get, eq-eqb, arith}
use Rattle.std.specs.Cmp.Lexicographic.{pointwise}
use Rattle.std.specs.Global.{Vec}
use Rattle.std.specs.List.{AllByRecursion, IsDistinct, list_any}
use Rattle.std.proofs.lemmas.Bool.{cases_lt, eqb-true}
use Rattle.std.proofs.lemmas.List.{append-nil, append_assoc, length-map, map-append}
use Rattle.std.proofs.lemmas.Option.{slice_get_within}
use Rattle.tso_ops.specs.Values.{ProgramValue, rows}
use Rattle.tso_ops.proofs.PlaceFacts.{get-split}
use Rattle.indexmap.specs.IndexSet.{insert_key}
use Rattle.final_states.specs.Internal.Search.{AddsAll, AddsSome, AreOnce, AreSound, IsIn, IsPastLimit, IsSearched, IsSearching}
use Rattle.final_states.specs.Internal.Stands.{HasPlaces, Reaches}
use Rattle.final_states.specs.Internal.Words.{first_words, following, width_of}
use Rattle.final_states.proofs.Members.{in-either, in-left, in-right, place-in, read-in}
use Rattle.final_states.proofs.Options.{both}
use Rattle.final_states.proofs.ReachedStates.{first-reached, next-reached}

-- ---- vectors with the same words

-- two vectors have the same words
abbrev pub same_words : Vec ℕ → Vec ℕ → Bool
same_words x y = pointwise nat_eq x.items y.items

same-lists : (xs ys : List ℕ) → pointwise nat_eq xs ys ≡ true → xs ≡ ys
same-lists [] [] same = refl
same-lists [] (y ∷ ys) same = absurd cc
same-lists (x ∷ xs) [] same = absurd cc
same-lists (x ∷ xs) (y ∷ ys) same =
    let parts = both (nat_eq x y) (pointwise nat_eq xs ys) same in
    ap (λ z. z ∷ xs) (eqb-true x y parts.0) ∙ ap (λ zs. y ∷ zs) (same-lists xs ys parts.1)

lists-same : (xs ys : List ℕ) → xs ≡ ys → pointwise nat_eq xs ys ≡ true
lists-same xs ys same = ap (pointwise nat_eq xs) (sym same) ∙ itself xs
  where
    itself : (zs : List ℕ) → pointwise nat_eq zs zs ≡ true
    itself [] = refl
    itself (z ∷ zs) = ap (λ b. b && pointwise nat_eq zs zs) (eq-eqb z z refl) ∙ itself zs

any-in : (v : Vec ℕ) (vs : List (Vec ℕ)) → list_any (same_words v) vs ≡ true → IsIn (rows vs) v.items
any-in v [] some = absurd cc
any-in v (w ∷ vs) some = by (same_words v w) refl (any-in v vs)
  where
    by : (b : Bool) → same_words v w ≡ b → (list_any (same_words v) vs ≡ true → IsIn (rows vs) v.items) → IsIn (rows (w ∷ vs)) v.items
    by true same later = inl (sym (same-lists v.items w.items same))
    by false other later = inr (later (sym (ap (λ b. b || list_any (same_words v) vs) other) ∙ some))

distinct-parts : (v : Vec ℕ) (vs : List (Vec ℕ)) → IsDistinct same_words (v ∷ vs) → AllByRecursion (λ w. same_words v w ≡ false) vs × IsDistinct same_words vs
unfolding IsDistinct
distinct-parts v vs distinct = distinct

distinct-join : (v : Vec ℕ) (vs : List (Vec ℕ)) → AllByRecursion (λ w. same_words v w ≡ false) vs → IsDistinct same_words vs → IsDistinct same_words (v ∷ vs)
unfolding IsDistinct
distinct-join v vs apart distinct = (apart, distinct)

distinct-none : IsDistinct same_words []
unfolding IsDistinct
distinct-none = tt

apart-in : (v : Vec ℕ) (vs : List (Vec ℕ)) → AllByRecursion (λ w. same_words v w ≡ false) vs → IsIn (rows vs) v.items → ⊥
apart-in v [] apart in_it = in_it
apart-in v (w ∷ vs) apart (inl same) = let e : same_words v w ≡ true = lists-same v.items w.items (sym same) in absurd cc
apart-in v (w ∷ vs) apart (inr later) = apart-in v vs apart.1 later

in-apart : (v : Vec ℕ) (vs : List (Vec ℕ)) → (IsIn (rows vs) v.items → ⊥) → AllByRecursion (λ w. same_words v w ≡ false) vs
in-apart v [] apart = tt
in-apart v (w ∷ vs) apart = (here (same_words v w) refl, in-apart v vs (λ later. apart (inr later)))
  where
    here : (b : Bool) → same_words v w ≡ b → same_words v w ≡ false
    here true same = absurd (apart (inl (sym (same-lists v.items w.items same))))
    here false other = other

pub distinct-once : (vs : List (Vec ℕ)) → IsDistinct same_words vs → AreOnce (rows vs)
distinct-once [] distinct = tt
distinct-once (v ∷ vs) distinct = let parts = distinct-parts v vs distinct in (apart-in v vs parts.0, distinct-once vs parts.1)

pub once-distinct : (vs : List (Vec ℕ)) → AreOnce (rows vs) → IsDistinct same_words vs
once-distinct [] once = distinct-none
once-distinct (v ∷ vs) once = distinct-join v vs (in-apart v vs once.0) (once-distinct vs once.1)

-- ---- words are added

pub rows-length : (vs : List (Vec ℕ)) → length (rows vs) ≡ length vs
rows-length vs = length-map vs (λ (row : Vec ℕ). row.items)

pub adds-one : (old new : List (Vec ℕ)) (v : Vec ℕ) → new ≡ insert_key same_words old v → IsDistinct same_words new → AddsAll (v.items ∷ []) (rows old) (rows new)
adds-one old new v is distinct = by (list_any (same_words v) old) refl
  where
    by : (b : Bool) → list_any (same_words v) old ≡ b → AddsAll (v.items ∷ []) (rows old) (rows new)
    by true there =
        let same : new ≡ old = is ∙ ap (λ b. cond b old (old ++ v ∷ [])) there in
        record {
          some = record {
            more = [];
            parts = ap rows same ∙ sym (append-nil (rows old));
            among = λ words in_it. absurd in_it;
            once = distinct-once new distinct;
          };
          all = λ words in_it. elim in_it [ inl here ↦ subst (IsIn (rows new)) here (subst (λ (vs : List (Vec ℕ)). IsIn (rows vs) v.items) (sym same) (any-in v old there)) | inr none ↦ absurd none ];
        }
    by false not_there =
        let added : new ≡ old ++ v ∷ [] = is ∙ ap (λ b. cond b old (old ++ v ∷ [])) not_there in
        let parts : rows new ≡ rows old ++ v.items ∷ [] = ap rows added ∙ map-append (λ (row : Vec ℕ). row.items) old (v ∷ []) in
        record {
          some = record { more = v.items ∷ []; parts = parts; among = λ words in_it. in_it; once = distinct-once new distinct };
          all = λ words in_it. subst (λ xs. IsIn xs words) (sym parts) (in-right (rows old) (v.items ∷ []) words in_it);
        }

pub adds-none : (added old : List (List ℕ)) → AreOnce old → AddsSome added old old
adds-none added old once = record { more = []; parts = sym (append-nil old); among = λ words in_it. absurd in_it; once = once }

pub adds-then : (added old between new : List (List ℕ)) (words : List ℕ) → IsIn added words → AddsSome added old between → AddsAll (words ∷ []) between new → AddsSome added old new
adds-then added old between new words in_added first second = record {
  more = first.more ++ second.some.more;
  parts = second.some.parts ∙ ap (λ xs. xs ++ second.some.more) first.parts ∙ append_assoc old first.more second.some.more;
  among = λ w in_it.
      elim (in-either first.more second.some.more w in_it) [
        | inl early ↦ first.among w early
        | inr late ↦ elim (second.some.among w late) [ inl here ↦ subst (IsIn added) here in_added | inr none ↦ absurd none ]
      ];
  once = second.some.once;
}

-- what was there stays there
pub kept-in : (added old new : List (List ℕ)) → AddsSome added old new → (words : List ℕ) → IsIn old words → IsIn new words
kept-in added old new adds words in_it = subst (λ xs. IsIn xs words) (sym adds.parts) (in-left old adds.more words in_it)

-- what is left to add after one more
pub left-next : (all before rest old new : List (List ℕ)) (words : List ℕ) → before ≡ rest ++ words ∷ [] → AddsAll (words ∷ []) old new →
    ((w : List ℕ) → IsIn all w → IsIn before w ⊎ IsIn old w) → (w : List ℕ) → IsIn all w → IsIn rest w ⊎ IsIn new w
left-next all before rest old new words popped adds left w in_it =
    elim (left w in_it) [
      | inl waits ↦ elim (in-either rest (words ∷ []) w (subst (λ xs. IsIn xs w) popped waits)) [ inl later ↦ inl later | inr here ↦ inr (adds.all w here) ]
      | inr there ↦ inr (kept-in (words ∷ []) old new adds.some w there)
    ]

pub left-among : (all before rest : List (List ℕ)) (words : List ℕ) → before ≡ rest ++ words ∷ [] → ((w : List ℕ) → IsIn before w → IsIn all w) →
    ((w : List ℕ) → IsIn rest w → IsIn all w) × IsIn all words
left-among all before rest words popped among = (
  (λ w in_it. among w (subst (λ xs. IsIn xs w) (sym popped) (in-left rest (words ∷ []) w in_it))),
  among words (subst (λ xs. IsIn xs words) (sym popped) (in-right rest (words ∷ []) words (inl refl))),
)

-- ---- the search goes on

module _ (program : ProgramValue) (addresses : List ℕ) (limit : ℕ) (places : HasPlaces program addresses) where
  -- the first words are there
  pub searching-first : (found : List (List ℕ)) → AddsAll (first_words program addresses ∷ []) [] found → length found ≤ limit → IsSearching program addresses limit found 0
  searching-first found adds few = record {
    sound = sound-first found adds;
    first = adds.all (first_words program addresses) (inl refl);
    closed = λ k words new small read in_it. absurd (omega arith);
    once = adds.some.once;
    few = few;
  }
    where
      sound-first : (all : List (List ℕ)) → AddsAll (first_words program addresses ∷ []) [] all → AreSound program addresses all
      sound-first all added words in_it =
          elim (added.some.among words (subst (λ xs. IsIn xs words) added.some.parts in_it)) [
            | inl here ↦ subst (Reaches program addresses) here (first-reached program addresses)
            | inr none ↦ absurd none
          ]

  pub first-past : (found : List (List ℕ)) → AddsAll (first_words program addresses ∷ []) [] found → limit < length found → IsPastLimit program addresses limit found
  first-past found added many = record {
    sound = λ words in_it.
        elim (added.some.among words (subst (λ xs. IsIn xs words) added.some.parts in_it)) [
          | inl here ↦ subst (Reaches program addresses) here (first-reached program addresses)
          | inr none ↦ absurd none
        ];
    once = added.some.once;
    many = many;
  }

  -- words that follow found ones are sound
  sound-more : (found more new : List (List ℕ)) (words : List ℕ) → AreSound program addresses found → IsIn found words → more ≡ following program addresses words → AddsSome more found new → AreSound program addresses new
  sound-more found more new words sound there are adds w in_it =
      elim (in-either found adds.more w (subst (λ xs. IsIn xs w) adds.parts in_it)) [
        | inl old ↦ sound w old
        | inr late ↦ next-reached program addresses words w places (sound words there) (subst (λ xs. IsIn xs w) are (adds.among w late))
      ]

  pub searching-next : (found more new : List (List ℕ)) (index : ℕ) (words : List ℕ) → IsSearching program addresses limit found index → slice_get found index ≡ Some words →
      more ≡ following program addresses words → AddsAll more found new → length new ≤ limit → IsSearching program addresses limit new (index + 1)
  searching-next found more new index words searching read are adds few = record {
    sound = sound-more found more new words searching.sound (read-in found index words read) are adds.some;
    first = kept-in more found new adds.some (first_words program addresses) searching.first;
    closed = λ k w after small at in_it.
        let old_read : slice_get found k ≡ Some w =
        elim (get-split found adds.some.more k w (ap (λ xs. slice_get xs k) (sym adds.some.parts) ∙ at)) [
          | inl here ↦ here
          | inr later ↦ absurd (omega (arith, later.1, small, slice_get_within found index words read))
        ] in
        elim (cases_lt k index) [
          | inl before ↦ kept-in more found new adds.some after (searching.closed k w after before old_read in_it)
          | inr not_before ↦
              let same : k ≡ index = omega (arith, small, not_before) in
              let there : slice_get found index ≡ Some w = ap (slice_get found) (sym same) ∙ old_read in
              let same_words_there : words ≡ w = cc in
              adds.all after (subst (λ xs. IsIn xs after) (sym are) (subst (λ v. IsIn (following program addresses v) after) (sym same_words_there) in_it))
        ];
    once = adds.some.once;
    few = few;
  }

  pub searching-past : (found more new : List (List ℕ)) (index : ℕ) (words : List ℕ) → IsSearching program addresses limit found index → slice_get found index ≡ Some words →
      more ≡ following program addresses words → AddsSome more found new → limit < length new → IsPastLimit program addresses limit new
  searching-past found more new index words searching read are adds many = record {
    sound = sound-more found more new words searching.sound (read-in found index words read) are adds;
    once = adds.once;
    many = many;
  }

  pub searching-all : (found : List (List ℕ)) (index : ℕ) → IsSearching program addresses limit found index → length found ≤ index → IsSearched program addresses limit found
  searching-all found index searching past = record {
    sound = searching.sound;
    first = searching.first;
    closed = λ words new in_found in_it.
        let at = place-in found words in_found in
        searching.closed at.0 words new (omega (arith, slice_get_within found at.0 words at.1, past)) at.1 in_it;
    different = searching.once;
    few = searching.few;
  }

-- all were added where none is left
pub adds-all : (added rest old new : List (List ℕ)) → rest ≡ [] → AddsSome added old new → ((w : List ℕ) → IsIn added w → IsIn rest w ⊎ IsIn new w) → AddsAll added old new
adds-all added rest old new none some left = record {
  some = some;
  all = λ w in_it. elim (left w in_it) [ inl waits ↦ absurd (subst (λ xs. IsIn xs w) none waits) | inr there ↦ there ];
}

-- the last of vectors
pub rows-last : (before rest : List (Vec ℕ)) (v : Vec ℕ) → before ≡ rest ++ v ∷ [] → rows before ≡ rows rest ++ v.items ∷ []
rows-last before rest v popped = ap rows popped ∙ map-append (λ (row : Vec ℕ). row.items) rest (v ∷ [])

-- ---- words by their place

pub rows-read : (vs : List (Vec ℕ)) (k : ℕ) (v : Vec ℕ) → slice_get vs k ≡ Some v → slice_get (rows vs) k ≡ Some v.items
rows-read [] k v read = absurd cc
rows-read (w ∷ vs) zero v read = let e : w ≡ v = cc in ap (λ (x : Vec ℕ). Some x.items) e
rows-read (w ∷ vs) (suc k) v read = rows-read vs k v read

pub none-past : (vs : List (Vec ℕ)) (k : ℕ) → slice_get vs k ≡ None → length vs ≤ k
none-past [] k none = omega arith
none-past (v ∷ vs) zero none = absurd cc
none-past (v ∷ vs) (suc k) none = omega (arith, none-past vs k none)

-- the words at a place have the width
pub width-read : (program : ProgramValue) (addresses : List ℕ) (limit : ℕ) (found : List (List ℕ)) (index : ℕ) (words : List ℕ) → IsSearching program addresses limit found index → slice_get found index ≡ Some words →
    length words ≡ width_of program addresses
width-read program addresses limit found index words searching read = (searching.sound words (read-in found index words read)).stands.width
