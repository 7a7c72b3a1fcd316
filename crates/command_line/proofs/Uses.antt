-- What a parse makes of options, flags and other arguments in any order, of which no two have the same id but those of one argument.
use Rattle.std.proofs.Common.{◌≡◌, ◌∙◌, ap, refl, subst, sym, arith, ℕ, Bool, true, false, cond, List, [], ◌∷◌, Option, Some, None, map, is_some, suc}
use Rattle.std.specs.Prelude.{if◌then◌else◌, slice_get}
use Rattle.std.specs.List.{All, AllByRecursion, IsDistinct, find, fold}
use Rattle.std.specs.Option.{option_map, option_map_or, option_or}
use Rattle.std.specs.Str.{bytes_eq}
use Rattle.std.proofs.lemmas.Slice.Eq.{bytes_eq-Decides}
use Rattle.std.proofs.lemmas.Map.Keys.{IsDistinct-head, IsDistinct-tail}
use Rattle.clap.specs.Facts.{explicit_source}
use Rattle.clap.specs.Faults.{check_fault, level_fault}
use Rattle.clap.specs.Simple.{Shape}
use Rattle.clap.specs.Walk.{Row, Rule, Text, arg_by_id, nothing_held, reading_by, row_text, rows_after, takes_values, with_default}
use Rattle.clap.specs.declared.builder.value_parser.Reading.TheVariants.{AsWritten}
use Rattle.command_line.specs.Given.{AreGiven, value_named}
use Rattle.command_line.specs.Offered.{default_for}
use Rattle.command_line.proofs.Walks.{Flagged, GivesSome, IsOption, Merges, Offered, Placed, Use, first, gives_of, level_fault_uses, merged, no_option, offered, rows_after_uses, second, third, used_all, uses_fault}
use Rattle.command_line.proofs.Rows.{AreApart, ArePartable, DefaultsPass, EachPartable, MakesRow, defaults_pass, each_partable, found_after_defaults, has_id, joined, joined_once, no_rows, partable, rows_made, use_row, uses_id, with_use}

-- what a rule is of: 0 an option with a value, 1 a flag, 2 another argument
abbrev pub sort_of : Rule → ℕ
sort_of a = if is_some a.index then 2 else (if takes_values a then 0 else 1)

-- the use is of a rule of the list, which is of this sort
pub record IsOfSort (rules : List Rule) (sort : ℕ) (u : Use) : Type 0 where
  pub by_id : arg_by_id rules u.0.id ≡ Some u.0
  pub of : sort_of u.0 ≡ sort

-- a use has another id than a rule of another sort
other_sort : (rules : List Rule) (sort : ℕ) (u : Use) (id : Text) (a : Rule) → IsOfSort rules sort u → arg_by_id rules id ≡ Some a → (sort ≡ sort_of a → ⊥) → uses_id id u ≡ false
other_sort rules sort u id a is by_id differs = go (uses_id id u) refl
  where
    go : (b : Bool) → uses_id id u ≡ b → b ≡ false
    go false e = refl
    go true e =
        let same : arg_by_id rules u.0.id ≡ Some a = ap (arg_by_id rules) ((bytes_eq-Decides u.0.id id).0 e) ∙ by_id in
        absurd (differs (sym is.of ∙ ap (λ o. option_map_or sort_of o 3) (sym is.by_id ∙ same)))

pub all_other : (rules : List Rule) (sort : ℕ) (us : List Use) (id : Text) (a : Rule) → AllByRecursion (IsOfSort rules sort) us → arg_by_id rules id ≡ Some a → (sort ≡ sort_of a → ⊥)
    → AllByRecursion (λ u. uses_id id u ≡ false) us
all_other rules sort [] id a are by_id differs = tt
all_other rules sort (u ∷ us) id a are by_id differs = (other_sort rules sort u id a are.0 by_id differs, all_other rules sort us id a are.1 by_id differs)

-- and a use of another sort another id
apart_from : (rules : List Rule) (one two : ℕ) (u : Use) (vs : List Use) → IsOfSort rules one u → AllByRecursion (IsOfSort rules two) vs → (one ≡ two → ⊥)
    → AllByRecursion (λ v. bytes_eq u.0.id v.0.id ≡ false) vs
apart_from rules one two u [] is are differs = tt
apart_from rules one two u (v ∷ vs) is are differs =
    (other_sort rules one u v.0.id v.0 is are.0.by_id (λ e. differs (e ∙ are.0.of)), apart_from rules one two u vs is are.1 differs)

-- ---- three lists of uses as one

pub merges_each : (P : Use → Type 0) (xs ys zs all : List Use) → Merges xs ys zs all → AllByRecursion P xs → AllByRecursion P ys → AllByRecursion P zs → AllByRecursion P all
merges_each P xs ys zs all merged x y z = tt
merges_each P xs ys zs all (first u xs1 ys1 zs1 all1 more) x y z = (x.0, merges_each P xs1 ys1 zs1 all1 more x.1 y z)
merges_each P xs ys zs all (second u xs1 ys1 zs1 all1 more) x y z = (y.0, merges_each P xs1 ys1 zs1 all1 more x y.1 z)
merges_each P xs ys zs all (third u xs1 ys1 zs1 all1 more) x y z = (z.0, merges_each P xs1 ys1 zs1 all1 more x y z.1)

module _ (rules : List Rule) where
  pub merges_apart : (xs ys zs all : List Use) → Merges xs ys zs all
      → AllByRecursion (IsOfSort rules 0) xs → AllByRecursion (IsOfSort rules 1) ys → AllByRecursion (IsOfSort rules 2) zs
      → EachPartable xs → EachPartable ys → EachPartable zs → EachPartable all
  merges_apart xs ys zs all merged x y z ax ay az = tt
  merges_apart xs ys zs all (first u xs1 ys1 zs1 all1 more) x y z ax ay az = (
    merges_each (ArePartable u) xs1 ys1 zs1 all1 more ax.0 (partable u ys1 (apart_from rules 0 1 u ys1 x.0 y (λ e. omega (arith, e)))) (partable u zs1 (apart_from rules 0 2 u zs1 x.0 z (λ e. omega (arith, e)))),
    merges_apart xs1 ys1 zs1 all1 more x.1 y z ax.1 ay az,
  )
  merges_apart xs ys zs all (second u xs1 ys1 zs1 all1 more) x y z ax ay az = (
    merges_each (ArePartable u) xs1 ys1 zs1 all1 more (partable u xs1 (apart_from rules 1 0 u xs1 y.0 x (λ e. omega (arith, e)))) ay.0 (partable u zs1 (apart_from rules 1 2 u zs1 y.0 z (λ e. omega (arith, e)))),
    merges_apart xs1 ys1 zs1 all1 more x y.1 z ax ay.1 az,
  )
  merges_apart xs ys zs all (third u xs1 ys1 zs1 all1 more) x y z ax ay az = (
    merges_each (ArePartable u) xs1 ys1 zs1 all1 more (partable u xs1 (apart_from rules 2 0 u xs1 z.0 x (λ e. omega (arith, e)))) (partable u ys1 (apart_from rules 2 1 u ys1 z.0 y (λ e. omega (arith, e)))) az.0,
    merges_apart xs1 ys1 zs1 all1 more x y z.1 ax ay az.1,
  )

-- the lists in another order
rotated : (xs ys zs all : List Use) → Merges xs ys zs all → Merges ys zs xs all
rotated xs ys zs all merged = merged
rotated xs ys zs all (first u xs1 ys1 zs1 all1 more) = third u ys1 zs1 xs1 all1 (rotated xs1 ys1 zs1 all1 more)
rotated xs ys zs all (second u xs1 ys1 zs1 all1 more) = first u ys1 zs1 xs1 all1 (rotated xs1 ys1 zs1 all1 more)
rotated xs ys zs all (third u xs1 ys1 zs1 all1 more) = second u ys1 zs1 xs1 all1 (rotated xs1 ys1 zs1 all1 more)

-- the row of an id that just the first of the lists has
joined_first : (id : Text) (xs ys zs all : List Use) (found : Option Row) → Merges xs ys zs all → AllByRecursion (λ u. uses_id id u ≡ false) ys → AllByRecursion (λ u. uses_id id u ≡ false) zs
    → joined id all found ≡ joined id xs found
joined_first id xs ys zs all found merged y z = refl
joined_first id xs ys zs all found (first u xs1 ys1 zs1 all1 more) y z = joined_first id xs1 ys1 zs1 all1 (cond (uses_id id u) (Some (with_use u found)) found) more y z
joined_first id xs ys zs all found (second u xs1 ys1 zs1 all1 more) y z = ap (λ b. joined id all1 (cond b (Some (with_use u found)) found)) y.0 ∙ joined_first id xs1 ys1 zs1 all1 found more y.1 z
joined_first id xs ys zs all found (third u xs1 ys1 zs1 all1 more) y z = ap (λ b. joined id all1 (cond b (Some (with_use u found)) found)) z.0 ∙ joined_first id xs1 ys1 zs1 all1 found more y z.1

-- ---- options, of which no two have the same name

-- the use of an option with its value, which passes
pub record OptionUse (rules : List Rule) (name value : Text) : Type 0 where
  pub rule : Rule
  pub is : IsOption rules rule name
  pub named : rule.id ≡ name
  pub as_written : reading_by rule ≡ AsWritten
  pub of : sort_of rule ≡ 0
  pub makes : MakesRow (rule, value ∷ [])

-- the use of the option of a name, where it has this value, or none
abbrev pub IsUsed : Option Text → Option Use → Type 0
IsUsed None found = found ≡ None
IsUsed (Some value) found = (a : Rule) × (found ≡ Some (a, value ∷ [])) × (reading_by a ≡ AsWritten)

pub record OptionUses (s : Shape) (options : List (Text × Text)) : Type 0 where
  pub uses : List Use
  pub offered : Offered s options uses
  pub make : AllByRecursion MakesRow uses
  pub sorts : AllByRecursion (IsOfSort s.rules 0) uses
  pub other : (name : Text) → AllByRecursion (λ y. bytes_eq name y ≡ false) (map (λ o. o.0) options) → AllByRecursion (λ v. bytes_eq name v.0.id ≡ false) uses
  pub apart : AreApart uses
  pub found : (id : Text) → IsUsed (value_named id options) (find (uses_id id) uses)

found_head : (name value : Text) (options : List (Text × Text)) (a : Rule) (uses : List Use) (id : Text) → a.id ≡ name → reading_by a ≡ AsWritten
    → IsUsed (value_named id options) (find (uses_id id) uses) → IsUsed (value_named id ((name, value) ∷ options)) (find (uses_id id) ((a, value ∷ []) ∷ uses))
found_head name value options a uses id named as_written rest =
    subst (λ (b : Bool). IsUsed (value_named id ((name, value) ∷ options)) (cond b (Some (a, value ∷ [])) (find (uses_id id) uses))) (ap (λ (t : Text). bytes_eq t id) (sym named)) (go (bytes_eq name id))
  where
    go : (b : Bool) → IsUsed (option_map (λ o. o.1) (cond b (Some (name, value)) (find (λ o. bytes_eq o.0 id) options))) (cond b (Some (a, value ∷ [])) (find (uses_id id) uses))
    go true = (a, refl, as_written)
    go false = rest

pub option_uses : (s : Shape) (options : List (Text × Text)) → AllByRecursion (λ o. OptionUse s.rules o.0 o.1) options → IsDistinct bytes_eq (map (λ o. o.0) options) → OptionUses s options
option_uses s [] each once = record { uses = []; offered = no_option; make = tt; sorts = tt; other = λ name h. tt; apart = tt; found = λ id. refl }
option_uses s ((name, value) ∷ options) each once =
    let rest = option_uses s options each.1 (IsDistinct-tail bytes_eq name (map (λ o. o.0) options) once) in
    let one = each.0 in
    record {
      uses = (one.rule, value ∷ []) ∷ rest.uses;
      offered = offered one.rule name value options rest.uses one.is rest.offered;
      make = (one.makes, rest.make);
      sorts = (record { by_id = one.is.takes.by_id; of = one.of }, rest.sorts);
      other = λ other h. (rw one.named h.0, rest.other other h.1);
      apart = (rw one.named (rest.other name (IsDistinct-head bytes_eq name (map (λ o. o.0) options) once)), rest.apart);
      found = λ id. found_head name value options one.rule rest.uses id one.named one.as_written (rest.found id);
    }

pub each_of : {X : Type 0} (P : X → Type 0) (xs : List X) → All P xs → AllByRecursion P xs
each_of P [] all = tt
each_of P (x ∷ xs) all = (all 0 x (omega arith), each_of P xs (λ k d below. all (suc k) d (omega (arith, below))))

pub each_as : {X : Type 0} (P Q : X → Type 0) (xs : List X) → ((x : X) → P x → Q x) → AllByRecursion P xs → AllByRecursion Q xs
each_as P Q [] gives p = tt
each_as P Q (x ∷ xs) gives p = (gives x p.0, each_as P Q xs gives p.1)

-- ---- the rows that are left

-- the row of an option has its value, or is the default's where it isn't used
abbrev pub IsOptionRow : Option Text → Option Row → Option Row → Type 0
IsOptionRow None default found = found ≡ default
IsOptionRow (Some value) default found =
    (r : Row) × (found ≡ Some r) × (row_text r ≡ Some value) × (slice_get r.values 0 ≡ Some value) × (explicit_source r.source ≡ true)

option_row : (value : Option Text) (default : Option Row) (found : Option Use) → IsUsed value found → IsOptionRow value default (option_or (option_map use_row found) default)
option_row None default found used = rw used refl
option_row (Some value) default found used = (use_row (used.0, value ∷ []), rw used.1 refl, rw used.2 refl, refl, refl)

-- what a parse leaves of arguments that are these options, these uses of flags and these of other arguments
pub record LeavesRows (s : Shape) (arguments : List Text) (options : List (Text × Text)) (flags others : List Use) : Type 0 where
  pub rows : List Row
  pub after : rows_after s.rules [] arguments ≡ rows
  pub fault : level_fault s [] nothing_held arguments false [] ≡ check_fault s rows false
  pub option : (id : Text) (a : Rule) → arg_by_id s.rules id ≡ Some a → sort_of a ≡ 0 → IsOptionRow (value_named id options) (default_for id s.rules) (find (has_id id) rows)
  pub flag : (id : Text) (a : Rule) → arg_by_id s.rules id ≡ Some a → sort_of a ≡ 1
      → find (has_id id) rows ≡ option_or (option_map use_row (find (uses_id id) flags)) (default_for id s.rules)
  pub other : (id : Text) (a : Rule) → arg_by_id s.rules id ≡ Some a → sort_of a ≡ 2
      → find (has_id id) rows ≡ option_or (joined id others None) (default_for id s.rules)

-- uses of flags or of other arguments, of this sort
pub record AreUses (s : Shape) (sort : ℕ) (us : List Use) : Type 0 where
  pub make : AllByRecursion MakesRow us
  pub sorts : AllByRecursion (IsOfSort s.rules sort) us
  pub apart : EachPartable us

pub no_uses : (s : Shape) (sort : ℕ) → AreUses s sort []
no_uses s sort = record { make = tt; sorts = tt; apart = tt }

module _ (s : Shape) (single : s.args_override_self ≡ false) (pass : DefaultsPass s.rules)
    (options : List (Text × Text)) (flags others arguments : List Text) (flag_uses other_uses : List Use) where
  module _ (xs : OptionUses s options) (ys : AreUses s 1 flag_uses) (once : AreApart flag_uses) (zs : AreUses s 2 other_uses)
      (given : AreGiven options flags others arguments) (flagged : Flagged s flags flag_uses) (placed : Placed s 1 others other_uses) where
    abbrev some : GivesSome s 1 xs.uses flag_uses other_uses arguments
    some = gives_of s 1 options flags others arguments xs.uses flag_uses other_uses given xs.offered flagged placed

    made : (uses_fault false some.uses [] ≡ []) × ((id : Text) → find (has_id id) (used_all some.uses []) ≡ joined id some.uses None)
    made = rows_made some.uses []
        (merges_each MakesRow xs.uses flag_uses other_uses some.uses some.merges xs.make ys.make zs.make)
        (merges_apart s.rules xs.uses flag_uses other_uses some.uses some.merges xs.sorts ys.sorts zs.sorts (each_partable xs.uses xs.apart) ys.apart zs.apart)
        (no_rows some.uses)

    passes : uses_fault s.args_override_self some.uses [] ≡ []
    passes = subst (λ (b : Bool). uses_fault b some.uses [] ≡ []) (sym single) made.0

    abbrev left : List Row
    left = fold with_default (used_all some.uses []) s.rules

    found_in : (id : Text) → find (has_id id) left ≡ option_or (joined id some.uses None) (default_for id s.rules)
    found_in id = found_after_defaults s.rules (used_all some.uses []) id ∙ ap (λ o. option_or o (default_for id s.rules)) (made.1 id)

    leaves_fault : level_fault s [] nothing_held arguments false [] ≡ check_fault s left false
    leaves_fault = level_fault_uses s some.uses arguments some.gives ∙ rw (passes, defaults_pass s.rules (used_all some.uses []) pass) refl

    module _ (id : Text) (a : Rule) (by_id : arg_by_id s.rules id ≡ Some a) where
      option_left : sort_of a ≡ 0 → IsOptionRow (value_named id options) (default_for id s.rules) (find (has_id id) left)
      option_left of =
          let only = joined_first id xs.uses flag_uses other_uses some.uses None some.merges
          (all_other s.rules 1 flag_uses id a ys.sorts by_id (λ e. omega (arith, e ∙ of))) (all_other s.rules 2 other_uses id a zs.sorts by_id (λ e. omega (arith, e ∙ of))) in
          let row = found_in id ∙ ap (λ o. option_or o (default_for id s.rules)) (only ∙ joined_once id xs.uses xs.apart) in
          subst (λ (o : Option Row). IsOptionRow (value_named id options) (default_for id s.rules) o) (sym row) (option_row (value_named id options) (default_for id s.rules) _ (xs.found id))

      flag_left : sort_of a ≡ 1 → find (has_id id) left ≡ option_or (option_map use_row (find (uses_id id) flag_uses)) (default_for id s.rules)
      flag_left of =
          let only = joined_first id flag_uses other_uses xs.uses some.uses None (rotated _ _ _ _ some.merges)
          (all_other s.rules 2 other_uses id a zs.sorts by_id (λ e. omega (arith, e ∙ of))) (all_other s.rules 0 xs.uses id a xs.sorts by_id (λ e. omega (arith, e ∙ of))) in
          found_in id ∙ ap (λ o. option_or o (default_for id s.rules)) (only ∙ joined_once id flag_uses once)

      other_left : sort_of a ≡ 2 → find (has_id id) left ≡ option_or (joined id other_uses None) (default_for id s.rules)
      other_left of =
          let only = joined_first id other_uses xs.uses flag_uses some.uses None (rotated _ _ _ _ (rotated _ _ _ _ some.merges))
          (all_other s.rules 0 xs.uses id a xs.sorts by_id (λ e. omega (arith, e ∙ of))) (all_other s.rules 1 flag_uses id a ys.sorts by_id (λ e. omega (arith, e ∙ of))) in
          found_in id ∙ ap (λ o. option_or o (default_for id s.rules)) only

    -- among uses with distinct ids, in any order, each option's row has its value, or the default where it isn't used
    pub leaves_rows : LeavesRows s arguments options flag_uses other_uses
    leaves_rows = record {
      rows = left;
      after = rows_after_uses s some.uses arguments some.gives;
      fault = leaves_fault;
      option = option_left;
      flag = flag_left;
      other = other_left;
    }
