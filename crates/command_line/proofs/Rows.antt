-- The rows that a parse has after uses of which no two have the same id but those of one argument, and after the defaults.
use Rattle.std.proofs.Common.{◌≡◌, ◌∙◌, ap, inl, inr, refl, sym, subst, true≢false, arith, Bool, true, false, not, ◌&&◌, ◌||◌, cond, List, [], ◌∷◌, ◌++◌, length, Option, Some, None, append-nil, is_some}
use Rattle.std.specs.Prelude.{◌⊎◌, if◌then◌else◌}
use Rattle.std.specs.List.{AllByRecursion, find, fold, list_any}
use Rattle.std.specs.Option.{option_map, option_map_or, option_or}
use Rattle.std.specs.Str.{bytes_eq}
use Rattle.std.proofs.lemmas.Bool.{ne_eqb, or_parts}
use Rattle.std.proofs.lemmas.List.Folds.{find-append}
use Rattle.std.proofs.lemmas.Slice.Eq.{bytes_eq-Decides}
use Rattle.clap.specs.Walk.{Row, Rule, Text, action_of, at_row, has_row, is_append, is_empty, more_values, most_values, reading_by, stronger, used, values_or_missing, with_default, without}
use Rattle.clap.specs.Facts.{unwrap_or_range}
use Rattle.clap.specs.Kinds.{Kinds, or_else, range_kinds}
use Rattle.clap.specs.Faults.{default_fault, defaults_fault, given_default_fault, use_fault, values_fault}
use Rattle.clap.specs.declared.builder.action.ArgAction.{ArgAction}
use Rattle.clap.specs.declared.builder.action.ArgAction.TheVariants.{Append, Set, SetTrue}
use Rattle.clap.specs.declared.parser.matches.ValueSource.TheVariants.{DefaultValue, CommandLine}
use Rattle.command_line.specs.Offered.{default_for, default_row}
use Rattle.command_line.proofs.ValueTexts.{other_order}
use Rattle.command_line.proofs.Walks.{Use, used_all, uses_fault}

abbrev pub has_id : Text → Row → Bool
has_id id r = bytes_eq r.id id

abbrev pub uses_id : Text → Use → Bool
uses_id id u = bytes_eq u.0.id id

-- ---- a row that is not there yet stands at the end

at_end : (id : Text) (change : Row → List Row) (missing rows : List Row) → has_row id rows ≡ false → at_row id change missing rows ≡ rows ++ missing
at_end id change missing [] none = refl
at_end id change missing (r ∷ rs) none =
    let parts = or_parts (bytes_eq r.id id) (has_row id rs) none in
    rw parts.0 (ap (λ others. r ∷ others) (at_end id change missing rs parts.1))

none_left_out : (id : Text) (rows : List Row) → has_row id rows ≡ false → without id rows ≡ rows
none_left_out id rows none = at_end id (λ _. []) [] rows none ∙ append-nil rows

-- ---- uses

-- the row of a use
abbrev pub use_row : Use → Row
use_row u = record {
  id = u.0.id;
  values = values_or_missing u.0 u.1;
  count = None;
  source = Some CommandLine;
  reading = reading_by u.0;
}

-- the use adds its values to those of earlier uses
abbrev pub appends : Use → Bool
appends u = is_append (action_of u.0)

-- the use, where there is no row of its id, makes its row and fails nothing; nor does it fail after others where it adds its values to theirs
pub record MakesRow (u : Use) : Type 0 where
  pub makes : (rows : List Row) → has_row u.0.id rows ≡ false → used u.0 u.1 rows ≡ rows ++ use_row u ∷ []
  pub passes : (rows : List Row) → has_row u.0.id rows ≡ false → use_fault false u.0 u.1 rows ≡ []
  pub passes_again : appends u ≡ true → (rows : List Row) → use_fault false u.0 u.1 rows ≡ []

-- a use of which a value is refused
pub option_fails : (kinds : Kinds) (a : Rule) (values : List Text) (rows : List Row) → range_kinds (unwrap_or_range a.range).start_inclusive (most_values a) (length values) ≡ []
    → values_fault a (values_or_missing a values) ≡ kinds → action_of a ≡ Set → has_row a.id rows ≡ false → use_fault false a values rows ≡ kinds
option_fails kinds a values rows in_range refused sets none = rw (in_range, sets, none) refused

module _ (a : Rule) (values : List Text) (in_range : range_kinds (unwrap_or_range a.range).start_inclusive (most_values a) (length values) ≡ [])
    (accepted : values_fault a (values_or_missing a values) ≡ []) where
  pub option_makes : action_of a ≡ Set → MakesRow (a, values)
  option_makes sets = record {
    makes = λ rows none. rw sets (rw (none_left_out a.id rows none) (at_end a.id (more_values CommandLine (values_or_missing a values)) _ rows none));
    passes = λ rows none. rw (in_range, sets, none, accepted) refl;
    passes_again = λ adds rows. absurd (true≢false (sym adds ∙ ap is_append sets));
  }

  pub flag_makes : action_of a ≡ SetTrue → MakesRow (a, values)
  flag_makes sets = record {
    makes = λ rows none. rw sets (rw (none_left_out a.id rows none) (at_end a.id (more_values CommandLine (values_or_missing a values)) _ rows none));
    passes = λ rows none. rw (in_range, sets, none, accepted) refl;
    passes_again = λ adds rows. absurd (true≢false (sym adds ∙ ap is_append sets));
  }

  pub several_makes : action_of a ≡ Append → MakesRow (a, values)
  several_makes sets = record {
    makes = λ rows none. rw sets (at_end a.id (more_values CommandLine (values_or_missing a values)) _ rows none);
    passes = λ rows none. rw (in_range, sets, accepted) refl;
    passes_again = λ adds rows. rw (in_range, sets, accepted) refl;
  }

-- no two uses have the same id
abbrev pub AreApart : List Use → Type 0
AreApart [] = Unit {0}
AreApart (u ∷ us) = AllByRecursion (λ v. bytes_eq u.0.id v.0.id ≡ false) us × AreApart us

-- two uses have not the same id, or both add their values
abbrev pub ArePartable : Use → Use → Type 0
ArePartable u v = (bytes_eq u.0.id v.0.id ≡ false) ⊎ ((appends u ≡ true) × (appends v ≡ true))

abbrev pub EachPartable : List Use → Type 0
EachPartable [] = Unit {0}
EachPartable (u ∷ us) = AllByRecursion (ArePartable u) us × EachPartable us

pub partable : (u : Use) (vs : List Use) → AllByRecursion (λ v. bytes_eq u.0.id v.0.id ≡ false) vs → AllByRecursion (ArePartable u) vs
partable u [] apart = tt
partable u (v ∷ vs) apart = (inl apart.0, partable u vs apart.1)

pub each_partable : (us : List Use) → AreApart us → EachPartable us
each_partable [] apart = tt
each_partable (u ∷ us) apart = (partable u us apart.0, each_partable us apart.1)

-- the row of an id after one use more
abbrev pub with_use : Use → Option Row → Row
with_use u None = use_row u
with_use u (Some r) = record r { values = r.values ++ values_or_missing u.0 u.1; source = Some (stronger r.source CommandLine) }

-- the row of an id after uses
abbrev pub joined : Text → List Use → Option Row → Option Row
joined id [] found = found
joined id (u ∷ us) found = joined id us (cond (uses_id id u) (Some (with_use u found)) found)

-- ---- what is found after one use

pub or_none : {X : Type 0} (o : Option X) → option_or o None ≡ o
or_none None = refl
or_none (Some x) = refl

pub any_found : {X : Type 0} (p : X → Bool) (xs : List X) → list_any p xs ≡ is_some (find p xs)
any_found p [] = refl
any_found p (x ∷ xs) = go (p x) (any_found p xs)
  where
    go : (b : Bool) → list_any p xs ≡ is_some (find p xs) → (b || list_any p xs) ≡ is_some (cond b (Some x) (find p xs))
    go true later = refl
    go false later = later

none_found : (id : Text) (rows : List Row) → has_row id rows ≡ false → find (has_id id) rows ≡ None
none_found id rows none = go (find (has_id id) rows) (sym (any_found (has_id id) rows) ∙ none)
  where
    go : (found : Option Row) → is_some found ≡ false → found ≡ None
    go None is = refl
    go (Some r) is = absurd (true≢false is)

-- the row of an id that was changed, or is new
module _ (id wanted : Text) (change : Row → Row) (new : Row) (same : (r : Row) → (change r).id ≡ r.id) (named : new.id ≡ id) where
  abbrev changed : List Row → List Row
  changed rows = at_row id (λ r. change r ∷ []) (new ∷ []) rows

  abbrev expected : List Row → Option Row
  expected rows = cond (bytes_eq id wanted) (Some (option_map_or change (find (has_id id) rows) new)) (find (has_id wanted) rows)

  found_changed : (rows : List Row) → find (has_id wanted) (changed rows) ≡ expected rows
  found_changed [] = ap (λ t. cond (bytes_eq t wanted) (Some new) None) named
  found_changed (r ∷ rows) = go (bytes_eq r.id id) refl (bytes_eq r.id wanted) refl (bytes_eq id wanted) refl (found_changed rows)
    where
      go : (here : Bool) → bytes_eq r.id id ≡ here → (this : Bool) → bytes_eq r.id wanted ≡ this → (asked : Bool) → bytes_eq id wanted ≡ asked → find (has_id wanted) (changed rows) ≡ expected rows
          → find (has_id wanted) (cond here (change r ∷ rows) (r ∷ changed rows))
          ≡ cond asked (Some (option_map_or change (cond here (Some r) (find (has_id id) rows)) new)) (cond this (Some r) (find (has_id wanted) rows))
      go true e this f asked h later =
          let is : r.id ≡ id = (bytes_eq-Decides r.id id).0 e in
          let both : this ≡ asked = sym f ∙ ap (λ t. bytes_eq t wanted) is ∙ h in
          let at : bytes_eq (change r).id wanted ≡ asked = ap (λ t. bytes_eq t wanted) (same r ∙ is) ∙ h in
          rw (at, both) (cases asked)
        where
          cases : (b : Bool) → cond b (Some (change r)) (find (has_id wanted) rows) ≡ cond b (Some (change r)) (cond b (Some r) (find (has_id wanted) rows))
          cases true = refl
          cases false = refl
      go false e true f true h later =
          let is : r.id ≡ wanted = (bytes_eq-Decides r.id wanted).0 f in
          let also : id ≡ wanted = (bytes_eq-Decides id wanted).0 h in
          absurd (true≢false (sym ((bytes_eq-Decides r.id id).1 (is ∙ sym also)) ∙ e))
      go false e true f false h later = rw f refl
      go false e false f asked h later = rw f (later ∙ rw h refl)

module _ (u : Use) (make : MakesRow u) (rows : List Row) where
  -- no row has its id yet, or it adds its values
  abbrev IsFree : Type 0
  IsFree = (has_row u.0.id rows ≡ false) ⊎ (appends u ≡ true)

  use_passes : IsFree → use_fault false u.0 u.1 rows ≡ []
  use_passes (inl none) = make.passes rows none
  use_passes (inr adds) = make.passes_again adds rows

  found_after_use : IsFree → (id : Text) → find (has_id id) (used u.0 u.1 rows) ≡ cond (uses_id id u) (Some (with_use u (find (has_id id) rows))) (find (has_id id) rows)
  found_after_use (inl none) id =
      ap (find (has_id id)) (make.makes rows none) ∙ find-append (has_id id) rows (use_row u ∷ []) ∙ go (uses_id id u) refl
    where
      go : (b : Bool) → uses_id id u ≡ b → option_or (find (has_id id) rows) (cond b (Some (use_row u)) None) ≡ cond b (Some (with_use u (find (has_id id) rows))) (find (has_id id) rows)
      go true e =
          let nothing : find (has_id id) rows ≡ None = subst (λ (t : Text). find (has_id t) rows ≡ None) ((bytes_eq-Decides u.0.id id).0 e) (none_found u.0.id rows none) in
          rw nothing refl
      go false e = or_none (find (has_id id) rows)
  found_after_use (inr adds) id = appended (action_of u.0) refl adds
    where
      more : Row → Row
      more r = record r { values = r.values ++ values_or_missing u.0 u.1; source = Some (stronger r.source CommandLine) }

      at_id : find (has_id id) (at_row u.0.id (λ r. more r ∷ []) (use_row u ∷ []) rows) ≡ cond (uses_id id u) (Some (with_use u (find (has_id id) rows))) (find (has_id id) rows)
      at_id = found_changed u.0.id id more (use_row u) (λ r. refl) refl rows ∙ go (uses_id id u) refl
        where
          go : (b : Bool) → uses_id id u ≡ b → cond b (Some (option_map_or more (find (has_id u.0.id) rows) (use_row u))) (find (has_id id) rows)
              ≡ cond b (Some (with_use u (find (has_id id) rows))) (find (has_id id) rows)
          go true e =
              let is : u.0.id ≡ id = (bytes_eq-Decides u.0.id id).0 e in
              ap (λ t. Some (option_map_or more (find (has_id t) rows) (use_row u))) is ∙ cases (find (has_id id) rows)
            where
              cases : (found : Option Row) → Some (option_map_or more found (use_row u)) ≡ Some (with_use u found)
              cases None = refl
              cases (Some r) = refl
          go false e = refl

      appended : (action : ArgAction) → action_of u.0 ≡ action → is_append action ≡ true → find (has_id id) (used u.0 u.1 rows) ≡ cond (uses_id id u) (Some (with_use u (find (has_id id) rows))) (find (has_id id) rows)
      appended Append is same = rw is at_id
      appended action is same = absurd (true≢false (sym same))

-- ---- what is found after uses

-- no row has the id of a use that doesn't add its values
abbrev AreFree : List Row → List Use → Type 0
AreFree rows us = AllByRecursion (λ v. (has_row v.0.id rows ≡ false) ⊎ (appends v ≡ true)) us

still_free : (u : Use) (us : List Use) (rows : List Row) → MakesRow u → (has_row u.0.id rows ≡ false) ⊎ (appends u ≡ true) → AllByRecursion (ArePartable u) us → AreFree rows us → AreFree (used u.0 u.1 rows) us
still_free u [] rows make this apart free = tt
still_free u (v ∷ vs) rows make this apart free = (go apart.0 free.0, still_free u vs rows make this apart.1 free.1)
  where
    go : ArePartable u v → (has_row v.0.id rows ≡ false) ⊎ (appends v ≡ true) → (has_row v.0.id (used u.0 u.1 rows) ≡ false) ⊎ (appends v ≡ true)
    go (inr both) free = inr both.1
    go (inl other) (inr adds) = inr adds
    go (inl other) (inl none) =
        inl (any_found (has_id v.0.id) (used u.0 u.1 rows) ∙ ap (λ found. is_some found) (found_after_use u make rows this v.0.id) ∙ ap (λ b. is_some (cond b (Some (with_use u (find (has_id v.0.id) rows))) (find (has_id v.0.id) rows))) other
        ∙ sym (any_found (has_id v.0.id) rows) ∙ none)

pub rows_made : (us : List Use) (rows : List Row) → AllByRecursion MakesRow us → EachPartable us → AreFree rows us
    → (uses_fault false us rows ≡ []) × ((id : Text) → find (has_id id) (used_all us rows) ≡ joined id us (find (has_id id) rows))
rows_made [] rows make apart free = (refl, λ id. refl)
rows_made (u ∷ us) rows make apart free =
    let rest = rows_made us (used u.0 u.1 rows) make.1 apart.1 (still_free u us rows make.0 free.0 apart.0 free.1) in (
      ap (λ kinds. or_else kinds (uses_fault false us (used u.0 u.1 rows))) (use_passes u make.0 rows free.0) ∙ rest.0,
      λ id. rest.1 id ∙ ap (joined id us) (found_after_use u make.0 rows free.0 id),
    )

pub no_rows : (us : List Use) → AreFree [] us
no_rows [] = tt
no_rows (u ∷ us) = (inl refl, no_rows us)

-- ---- the row of one id

-- none of them has it
pub joined_other : (id : Text) (us : List Use) (found : Option Row) → AllByRecursion (λ u. uses_id id u ≡ false) us → joined id us found ≡ found
joined_other id [] found other = refl
joined_other id (u ∷ us) found other = ap (λ b. joined id us (cond b (Some (with_use u found)) found)) other.0 ∙ joined_other id us found other.1

-- one of them may
pub joined_once : (id : Text) (us : List Use) → AreApart us → joined id us None ≡ option_map use_row (find (uses_id id) us)
joined_once id [] apart = refl
joined_once id (u ∷ us) apart = go (uses_id id u) refl (joined_once id us apart.1)
  where
    others : (t : Text) → t ≡ id → (vs : List Use) → AllByRecursion (λ v. bytes_eq t v.0.id ≡ false) vs → AllByRecursion (λ v. uses_id id v ≡ false) vs
    others t is [] none = tt
    others t is (v ∷ vs) none = (ap (bytes_eq v.0.id) (sym is) ∙ other_order t v.0.id none.0, others t is vs none.1)

    go : (b : Bool) → uses_id id u ≡ b → joined id us None ≡ option_map use_row (find (uses_id id) us) → joined id us (cond b (Some (use_row u)) None) ≡ option_map use_row (cond b (Some u) (find (uses_id id) us))
    go true e later = joined_other id us (Some (use_row u)) (others u.0.id ((bytes_eq-Decides u.0.id id).0 e) us apart.0)
    go false e later = later

-- ---- defaults

or_assoc : {X : Type 0} (o p q : Option X) → option_or (option_or o p) q ≡ option_or o (option_or p q)
or_assoc None p q = refl
or_assoc (Some x) p q = refl

found_any : {X : Type 0} (p : X → Bool) (xs : List X) (more : Option X) → list_any p xs ≡ true → option_or (find p xs) more ≡ find p xs
found_any p [] more some = absurd (true≢false (sym some))
found_any p (x ∷ xs) more some = go (p x) some (λ h. found_any p xs more h)
  where
    go : (b : Bool) → (b || list_any p xs) ≡ true → (list_any p xs ≡ true → option_or (find p xs) more ≡ find p xs)
        → option_or (cond b (Some x) (find p xs)) more ≡ cond b (Some x) (find p xs)
    go true h rest = refl
    go false h rest = rest h

not_empty : (v : Text) (vs : List Text) → is_empty (v ∷ vs) ≡ false
not_empty v vs = ne_eqb _ _ (λ e. omega (arith, e))

module _ (rows : List Row) (a : Rule) (id : Text) where
  added : {v : Text} {vs : List Text} → has_row a.id rows ≡ false → a.defaults ≡ v ∷ vs → with_default rows a ≡ rows ++ default_row a ∷ []
  added {v = v} {vs = vs} none some = rw (none, some) (at_end a.id (more_values DefaultValue (v ∷ vs)) _ rows none)

  -- the row of this id after one rule's default
  found_default : find (has_id id) (with_default rows a) ≡ option_or (find (has_id id) rows) (default_for id (a ∷ []))
  found_default = go (has_row a.id rows) (bytes_eq a.id id) a.defaults refl refl refl
    where
      go : (h b : Bool) (values : List Text) → has_row a.id rows ≡ h → bytes_eq a.id id ≡ b → a.defaults ≡ values
          → find (has_id id) (with_default rows a) ≡ option_or (find (has_id id) rows) (default_for id (a ∷ []))
      go true true (v ∷ vs) e f g =
          let there : has_row id rows ≡ true = subst (λ (t : Text). has_row t rows ≡ true) ((bytes_eq-Decides a.id id).0 f) e in
          rw (e, f, g) (sym (found_any (has_id id) rows _ there))
      go true false values e f g = rw (e, f) (sym (or_none (find (has_id id) rows)))
      go false true (v ∷ vs) e f g =
          let more = find-append (has_id id) rows (default_row a ∷ []) in
          let last : find (has_id id) (default_row a ∷ []) ≡ default_for id (a ∷ []) = rw (f, g, not_empty v vs) refl in
          ap (find (has_id id)) (added e g) ∙ more ∙ ap (option_or (find (has_id id) rows)) last
      go false false (v ∷ vs) e f g =
          let more = find-append (has_id id) rows (default_row a ∷ []) in
          let last : find (has_id id) (default_row a ∷ []) ≡ default_for id (a ∷ []) = rw f refl in
          ap (find (has_id id)) (added e g) ∙ more ∙ ap (option_or (find (has_id id) rows)) last
      go h b values e f g = rw (e, f, g) (sym (or_none (find (has_id id) rows)))

default_split : (id : Text) (a : Rule) (rest : List Rule) → option_or (default_for id (a ∷ [])) (default_for id rest) ≡ default_for id (a ∷ rest)
default_split id a rest = go (bytes_eq a.id id && not (is_empty a.defaults))
  where
    go : (b : Bool) → option_or (cond b (Some (default_row a)) None) (default_for id rest) ≡ cond b (Some (default_row a)) (default_for id rest)
    go true = refl
    go false = refl

-- the row of an id after the defaults: the one that was there, or else the first default's
pub found_after_defaults : (rules : List Rule) (rows : List Row) (id : Text) → find (has_id id) (fold with_default rows rules) ≡ option_or (find (has_id id) rows) (default_for id rules)
found_after_defaults [] rows id = sym (or_none (find (has_id id) rows))
found_after_defaults (a ∷ rest) rows id =
    found_after_defaults rest (with_default rows a) id
    ∙ ap (λ o. option_or o (default_for id rest)) (found_default rows a id)
    ∙ or_assoc (find (has_id id) rows) (default_for id (a ∷ [])) (default_for id rest)
    ∙ ap (option_or (find (has_id id) rows)) (default_split id a rest)

-- no default of the rules is refused
abbrev pub DefaultsPass : List Rule → Type 0
DefaultsPass = AllByRecursion (λ a. (if is_empty a.defaults then [] else given_default_fault a a.defaults) ≡ [])

default_passes : (a : Rule) (rows : List Row) → (if is_empty a.defaults then [] else given_default_fault a a.defaults) ≡ [] → default_fault rows a ≡ []
default_passes a rows pass = go (has_row a.id rows)
  where
    go : (b : Bool) → (if b || is_empty a.defaults then [] else given_default_fault a a.defaults) ≡ []
    go true = refl
    go false = pass

pub defaults_pass : (rules : List Rule) (rows : List Row) → DefaultsPass rules → defaults_fault rows rules ≡ []
unfolding defaults_fault
defaults_pass [] rows pass = refl
defaults_pass (a ∷ rest) rows pass =
    ap (λ kinds. or_else kinds (defaults_fault (with_default rows a) rest)) (default_passes a rows pass.0) ∙ defaults_pass rest (with_default rows a) pass.1
