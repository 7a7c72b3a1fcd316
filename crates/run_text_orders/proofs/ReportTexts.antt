-- What is rendered of a run depends on what is told, and not on where the texts that it names lie in memory.
use Rattle.std.proofs.Common.{◌≡◌, ◌∙◌, sym, ap, refl, subst, inl, inr, ℕ, ◌+◌, Bool, if◌then◌else◌, List, [], ◌∷◌, ◌++◌, map, string_bytes}
use Rattle.std.specs.Prelude.{codes}
use Rattle.std.specs.List.{flat_map}
use Rattle.std.specs.Fmt.{decimal}
use Rattle.request_options.specs.declared.following.FollowOptions.{FollowOptions}
use Rattle.trace_reports.specs.Renderings.{RendersRefusal}
use Rattle.trace_reports.specs.declared.answers.Answer.{Answer}
use Rattle.run_following.specs.declared.facts.Fact.{Fact}
use Rattle.run_following.specs.declared.facts.Fact.TheVariants.{Has, First, Store}
use Rattle.run_following.specs.declared.facts.NamedLine.{NamedLine}
use Rattle.run_following.specs.declared.facts.RefusalKind.{RefusalKind}
use Rattle.run_following.specs.declared.facts.Standing.{Standing}
use Rattle.run_following.specs.declared.facts.Standing.TheVariants as standing
use Rattle.run_following.specs.declared.facts.ToldRefusal.{ToldRefusal}
use Rattle.run_following.specs.declared.found.RunFound.{RunFound}
use Rattle.run_following.specs.Accounts.{Account}
use Rattle.run_following.specs.Facts.{fact_value, named_value, told_value}
use Rattle.run_following.specs.Found.{IsFoundIn, run_answer}
use Rattle.run_following.specs.JsonLines.{fact_members, facts_members, line_members, refusal_object, refusal_opening, refusals_objects, run_json, separator, store_object, explanation_member, before_facts, after_facts, counted_members, shown_members, refused_json}
use Rattle.run_following.specs.Reports.{IsRunReport, RendersRun}
use Rattle.run_following.specs.Sentences.{fact_phrase, sentence_words, reason_words, store_phrase}
use Rattle.run_following.specs.Words.{explanation_words, fact_words, kind_word, line_words, refusals_words, refused_words, run_words, standing_words, told_words}
use Rattle.run_text_orders.proofs.Stops.{followed_once, followed_or_refused, refusal_once}

-- ---- lists of which the values are the same

-- What is rendered of each is the same where the values are, so that of the list is.
all_same : {X Y : Type 0} (value : X → Y) (one : ℕ → X → List ℕ) (all : ℕ → List X → List ℕ) → ((k : ℕ) → all k [] ≡ []) →
    ((k : ℕ) (x : X) (xs : List X) → all k (x ∷ xs) ≡ one k x ++ all (k + 1) xs) → ((k : ℕ) (x y : X) → value x ≡ value y → one k x ≡ one k y) →
    (k : ℕ) (xs ys : List X) → map value xs ≡ map value ys → all k xs ≡ all k ys
all_same value one all none more same k [] [] is = refl
all_same value one all none more same k [] (y ∷ ys) is = absurd cc
all_same value one all none more same k (x ∷ xs) [] is = absurd cc
all_same value one all none more same k (x ∷ xs) (y ∷ ys) is =
    let here : value x ≡ value y = cc in
    let rest : map value xs ≡ map value ys = cc in
    more k x xs ∙ ap (λ t. t ++ all (k + 1) xs) (same k x y here)
    ∙ ap (λ t. one k y ++ t) (all_same value one all none more same (k + 1) xs ys rest) ∙ sym (more k y ys)

flat_same : {X Y : Type 0} (value : X → Y) (one : X → List ℕ) → ((x y : X) → value x ≡ value y → one x ≡ one y) → (xs ys : List X) → map value xs ≡ map value ys →
    flat_map one xs ≡ flat_map one ys
flat_same value one same = all_same value (λ k. one) (λ k. flat_map one) (λ k. refl) (λ k x xs. refl) (λ k. same) 0

-- ---- facts

fact_same : (words : Fact → List ℕ) → ((line other : NamedLine) (at : Standing) → named_value line ≡ named_value other → words (Store line at) ≡ words (Store other at)) →
    (f g : Fact) → fact_value f ≡ fact_value g → words f ≡ words g
fact_same words by_line (Has v) (Has w) is = let same : v ≡ w = cc in ap (λ v. words (Has v)) same
fact_same words by_line (Has v) First is = absurd cc
fact_same words by_line (Has v) (Store other at) is = absurd cc
fact_same words by_line First (Has w) is = absurd cc
fact_same words by_line First First is = refl
fact_same words by_line First (Store other at) is = absurd cc
fact_same words by_line (Store line at) (Has w) is = absurd cc
fact_same words by_line (Store line at) First is = absurd cc
fact_same words by_line (Store line at) (Store other also) is =
    let number : line.number ≡ other.number = cc in
    let text : string_bytes line.text ≡ string_bytes other.text = cc in
    let same : at ≡ also = cc in
    by_line line other at (ap (λ n. (n, string_bytes line.text)) number ∙ ap (λ t. (other.number, t)) text) ∙ ap (λ at. words (Store other at)) same

-- ---- in words

line_same : (line other : NamedLine) → named_value line ≡ named_value other → line_words line ≡ line_words other
line_same line other is = ap (λ (v : ℕ × List ℕ). codes "line " ++ decimal v.0 ++ codes " " ++ v.1 ++ codes "\n") is

standing_same : (line other : NamedLine) (at : Standing) → named_value line ≡ named_value other → standing_words line at ≡ standing_words other at
standing_same line other standing.Named is = line_same line other is
standing_same line other standing.Waiting is = ap (λ t. t ++ codes "waiting\n") (line_same line other is)
standing_same line other (standing.Reached n) is = ap (λ t. t ++ codes "reached " ++ decimal n ++ codes "\n") (line_same line other is)
standing_same line other standing.Before is = ap (λ t. codes "after\n" ++ t) (line_same line other is)

phrase_same : (line other : NamedLine) (at : Standing) → named_value line ≡ named_value other → store_phrase line at ≡ store_phrase other at
phrase_same line other standing.Named is = ap (λ (v : ℕ × List ℕ). codes " the store of line " ++ decimal v.0) is
phrase_same line other standing.Waiting is = ap (λ (v : ℕ × List ℕ). codes "; the store of line " ++ decimal v.0 ++ codes " waits") is
phrase_same line other (standing.Reached n) is =
    ap (λ (v : ℕ × List ℕ). codes "; the store of line " ++ decimal v.0 ++ codes " reached memory at line " ++ decimal n) is
phrase_same line other standing.Before is = ap (λ (v : ℕ × List ℕ). codes " must reach memory after that of line " ++ decimal v.0) is

-- the sentence on a line of this number, with these phrases
abbrev sentence_of : ℕ → RefusalKind → List ℕ → List ℕ
sentence_of n kind phrases = reason_words n kind ++ phrases ++ codes "."

-- what is told of two refusals is the same
module _ (t u : ToldRefusal) (is : told_value t ≡ told_value u) where
  lines_are : named_value t.line ≡ named_value u.line
  lines_are = ap (λ v. v.line) is

  kinds_are : t.kind ≡ u.kind
  kinds_are = ap (λ v. v.kind) is

  facts_are : map fact_value t.facts.items ≡ map fact_value u.facts.items
  facts_are = ap (λ v. v.facts) is

  told_same : told_words t ≡ told_words u
  told_same =
      ap (λ l. l ++ flat_map fact_words t.facts.items) (line_same t.line u.line lines_are)
      ∙ ap (λ fs. line_words u.line ++ fs) (flat_same fact_value fact_words (fact_same fact_words standing_same) t.facts.items u.facts.items facts_are)

  phrases_same : flat_map fact_phrase t.facts.items ≡ flat_map fact_phrase u.facts.items
  phrases_same = flat_same fact_value fact_phrase (fact_same fact_phrase phrase_same) t.facts.items u.facts.items facts_are

  sentence_same : sentence_words t ≡ sentence_words u
  sentence_same =
      ap (λ (v : ℕ × List ℕ). sentence_of v.0 t.kind (flat_map fact_phrase t.facts.items)) lines_are
      ∙ ap (λ kind. sentence_of u.line.number kind (flat_map fact_phrase t.facts.items)) kinds_are
      ∙ ap (sentence_of u.line.number u.kind) phrases_same

-- a refusal of this number, with what is told of it and what explains it
abbrev numbered_words : ℕ → RefusalKind → List ℕ → List ℕ → List ℕ
numbered_words k kind told explanation = codes "refusal " ++ decimal k ++ codes " " ++ kind_word kind ++ codes "\n" ++ told ++ explanation

abbrev refusal_words : Bool → ℕ → ToldRefusal → List ℕ
refusal_words explained k t = numbered_words k t.kind (told_words t) (explanation_words explained t)

refusal_same : (explained : Bool) (k : ℕ) (t u : ToldRefusal) → told_value t ≡ told_value u → refusal_words explained k t ≡ refusal_words explained k u
refusal_same explained k t u is =
    ap (λ kind. numbered_words k kind (told_words t) (explanation_words explained t)) (kinds_are t u is)
    ∙ ap (λ told. numbered_words k u.kind told (explanation_words explained t)) (told_same t u is)
    ∙ ap (λ s. numbered_words k u.kind (told_words u) (if explained then s ++ codes "\n" else [])) (sentence_same t u is)

refusals_same : (explained : Bool) (xs ys : List ToldRefusal) → map told_value xs ≡ map told_value ys → refusals_words explained 1 xs ≡ refusals_words explained 1 ys
refusals_same explained =
    all_same told_value (refusal_words explained) (refusals_words explained) (λ k. refl) (λ k x xs. refl) (refusal_same explained) 1

-- ---- as JSON

members_same : (line other : NamedLine) → named_value line ≡ named_value other → line_members line ≡ line_members other
members_same line other is =
    let number : line.number ≡ other.number = ap (λ v. v.0) is in
    let text : string_bytes line.text ≡ string_bytes other.text = ap (λ v. v.1) is in
    rw (number, text) refl

object_same : (k : ℕ) (line other : NamedLine) (at : Standing) → named_value line ≡ named_value other → store_object k line at ≡ store_object k other at
object_same k line other standing.Named is = ap (λ t. codes "{" ++ t ++ codes "}") (members_same line other is)
object_same k line other standing.Waiting is = ap (λ t. separator k ++ codes "{" ++ t ++ codes ",\"waiting\":true}") (members_same line other is)
object_same k line other (standing.Reached n) is =
    ap (λ t. separator k ++ codes "{" ++ t ++ codes ",\"reached\":" ++ decimal n ++ codes "}") (members_same line other is)
object_same k line other standing.Before is = ap (λ t. codes ",\"after\":{" ++ t ++ codes "}") (members_same line other is)

facts_same : (xs ys : List Fact) → map fact_value xs ≡ map fact_value ys → facts_members 0 xs ≡ facts_members 0 ys
facts_same = all_same fact_value fact_members facts_members (λ k. refl) (λ k x xs. refl) (λ k. fact_same (fact_members k) (object_same k)) 0

-- the object of a refusal, with these members of its line and its facts, and what explains it
abbrev object_of : ℕ → RefusalKind → List ℕ → List ℕ → List ℕ → List ℕ
object_of k kind line facts explanation =
    refusal_opening k kind ++ (line ++ (before_facts kind ++ facts ++ after_facts kind) ++ explanation) ++ codes "}"

shown_same : (explained : Bool) (k : ℕ) (t u : ToldRefusal) → told_value t ≡ told_value u → refusal_object explained k t ≡ refusal_object explained k u
unfolding refusal_object
shown_same explained k t u is =
    let explanation = explanation_member explained t in
    ap (λ line. object_of k t.kind line (facts_members 0 t.facts.items) explanation) (members_same t.line u.line (lines_are t u is))
    ∙ ap (λ kind. object_of k kind (line_members u.line) (facts_members 0 t.facts.items) explanation) (kinds_are t u is)
    ∙ ap (λ facts. object_of k u.kind (line_members u.line) facts explanation) (facts_same t.facts.items u.facts.items (facts_are t u is))
    ∙ ap
    (λ s. object_of k u.kind (line_members u.line) (facts_members 0 u.facts.items) (if explained then codes ",\"explanation\":\"" ++ s ++ codes "\"" else []))
    (sentence_same t u is)

objects_same : (explained : Bool) (xs ys : List ToldRefusal) → map told_value xs ≡ map told_value ys → refusals_objects explained 1 xs ≡ refusals_objects explained 1 ys
objects_same explained = all_same told_value (refusal_object explained) (refusals_objects explained) (λ k. refl) (λ k x xs. refl) (shown_same explained) 1

-- ---- whole reports

-- what is found is the same, but for where texts lie in memory
record IsFoundAlike (f g : RunFound) : Type 0 where
  counts : f.counts ≡ g.counts
  waiting : f.waiting ≡ g.waiting
  compared : f.is_compared ≡ g.is_compared
  refusals : f.refusals ≡ g.refusals
  told : map told_value f.told.items ≡ map told_value g.told.items

-- what is rendered depends on nothing else
abbrev IsOfFound : RendersRun → Type 0
IsOfFound renders = (f g : RunFound) → IsFoundAlike f g → renders f ≡ renders g

words_of_found : (explained : Bool) → IsOfFound (run_words explained)
words_of_found explained f g alike =
    rw (alike.counts, alike.waiting, alike.compared, alike.refusals, refusals_same explained f.told.items g.told.items alike.told) refl

json_of_found : (explained : Bool) → IsOfFound (run_json explained)
unfolding counted_members shown_members
json_of_found explained f g alike =
    rw (alike.counts, alike.waiting, alike.compared, alike.refusals, objects_same explained f.told.items g.told.items alike.told) refl

-- what is found of one account is alike
found_once : (most : ℕ) (account : Account) (f g : RunFound) → IsFoundIn most account f → IsFoundIn most account g → IsFoundAlike f g
found_once most account f g one two = record {
  counts = one.counts ∙ sym two.counts;
  waiting = one.waiting ∙ sym two.waiting;
  compared = one.compared ∙ sym two.compared;
  refusals = one.refusals ∙ sym two.refusals;
  told = one.told_first ∙ sym two.told_first;
}

answer_once : (f g : RunFound) → IsFoundAlike f g → run_answer f ≡ run_answer g
answer_once f g alike = rw (alike.compared, alike.refusals) refl

-- a text has one report and one answer
report_once : (renders : RendersRun) (refused : RendersRefusal) (options : FollowOptions) (bytes text other : List ℕ) (answer another : Answer) → IsOfFound renders →
    IsRunReport renders refused options bytes text answer → IsRunReport renders refused options bytes other another → (text ≡ other) × (answer ≡ another)
report_once renders refused options bytes text other answer another of_found (inl (account, followed, one)) (inl (also, again, two)) =
    let same : also ≡ account = followed_once options.needs_end options.is_fast bytes also account again followed in
    let alike = found_once options.most account one.found two.found one.is (subst (λ a. IsFoundIn options.most a two.found) same two.is) in
    (one.says ∙ of_found one.found two.found alike ∙ sym two.says, one.gives ∙ answer_once one.found two.found alike ∙ sym two.gives)
report_once renders refused options bytes text other answer another of_found (inl (account, followed, one)) (inr two) =
    absurd (followed_or_refused options.needs_end options.is_fast bytes account two.line two.why followed two.is)
report_once renders refused options bytes text other answer another of_found (inr one) (inl (account, followed, two)) =
    absurd (followed_or_refused options.needs_end options.is_fast bytes account one.line one.why followed one.is)
report_once renders refused options bytes text other answer another of_found (inr one) (inr two) =
    let same = refusal_once options.needs_end options.is_fast bytes one.line two.line one.why two.why one.is two.is in
    (one.says ∙ ap (λ line. refused [] line one.why) same.0 ∙ ap (λ why. refused [] two.line why) same.1 ∙ sym two.says, one.gives ∙ sym two.gives)

pub words_once : (explained : Bool) (options : FollowOptions) (bytes text other : List ℕ) (answer another : Answer) →
    IsRunReport (run_words explained) (λ head. refused_words) options bytes text answer → IsRunReport (run_words explained) (λ head. refused_words) options bytes other another →
    (text ≡ other) × (answer ≡ another)
words_once explained options bytes text other answer another =
    report_once (run_words explained) (λ head. refused_words) options bytes text other answer another (words_of_found explained)

pub json_once : (explained : Bool) (options : FollowOptions) (bytes text other : List ℕ) (answer another : Answer) →
    IsRunReport (run_json explained) (λ head. refused_json) options bytes text answer → IsRunReport (run_json explained) (λ head. refused_json) options bytes other another →
    (text ≡ other) × (answer ≡ another)
json_once explained options bytes text other answer another =
    report_once (run_json explained) (λ head. refused_json) options bytes text other answer another (json_of_found explained)
