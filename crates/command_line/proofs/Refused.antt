-- Arguments of which an option has a value that is refused, after others that pass.
use Rattle.std.proofs.Common.{◌≡◌, ◌∙◌, ap, refl, subst, sym, arith, ℕ, Bool, false, List, [], ◌∷◌, ◌++◌, None, find, is_some, map}
use Rattle.std.specs.List.{AllByRecursion, IsDistinct}
use Rattle.std.specs.Str.{bytes_eq}
use Rattle.std.proofs.lemmas.List.{map-append}
use Rattle.clap.specs.Faults.{level_fault, use_fault}
use Rattle.clap.specs.Kinds.{Kinds, or_else}
use Rattle.clap.specs.Simple.{Shape}
use Rattle.clap.specs.Walk.{Row, Rule, Text, has_row, nothing_held, used}
use Rattle.clap.specs.declared.error.kind.ErrorKind.{ErrorKind}
use Rattle.command_line.specs.Given.{AreGiven}
use Rattle.command_line.proofs.Walks.{Flagged, IsOption, Merges, Offered, Placed, Use, gives_of, level_fault_uses, no_option, offered, used_all, uses_fault}
use Rattle.command_line.proofs.Walks as walks
use Rattle.command_line.proofs.Rows.{EachPartable, MakesRow, any_found, each_partable, has_id, joined, joined_other, no_rows, rows_made, uses_id}
use Rattle.command_line.proofs.Uses.{AreUses, OptionUse, OptionUses, all_other, each_as, merges_apart, merges_each, option_uses, sort_of}
use Rattle.command_line.proofs.ValueTexts.{other_order}

-- ---- from the options to their uses

-- an option whose value is refused
pub record RefusedOption (s : Shape) (kind : ErrorKind) (name value : Text) : Type 0 where
  pub rule : Rule
  pub is : IsOption s.rules rule name
  pub named : rule.id ≡ name
  pub of : sort_of rule ≡ 0
  pub fails : (rows : List Row) → has_row rule.id rows ≡ false → use_fault false rule (value ∷ []) rows ≡ kind ∷ []

-- an option of this name is offered
pub record OffersOption (s : Shape) (name : Text) : Type 0 where
  pub rule : Rule
  pub is : IsOption s.rules rule name

record OfferedUses (s : Shape) (options : List (Text × Text)) : Type 0 where
  pub uses : List Use
  pub offered : Offered s options uses

offered_uses : (s : Shape) (options : List (Text × Text)) → AllByRecursion (λ o. OffersOption s o.0) options → OfferedUses s options
offered_uses s [] each = record { uses = []; offered = no_option }
offered_uses s ((name, value) ∷ options) each =
    let rest = offered_uses s options each.1 in
    record { uses = (each.0.rule, value ∷ []) ∷ rest.uses; offered = offered each.0.rule name value options rest.uses each.0.is rest.offered }

offered_both : (s : Shape) (first second : List (Text × Text)) (xs ys : List Use) → Offered s first xs → Offered s second ys → Offered s (first ++ second) (xs ++ ys)
offered_both s first second xs ys no_option more = more
offered_both s first second xs ys (offered a name value options uses is rest) more =
    offered a name value (options ++ second) (uses ++ ys) is (offered_both s options second uses ys rest more)

pub all_parts : {X : Type 0} (P : X → Type 0) (xs ys : List X) → AllByRecursion P (xs ++ ys) → AllByRecursion P xs × AllByRecursion P ys
all_parts P [] ys all = (tt, all)
all_parts P (x ∷ xs) ys all =
    let parts = all_parts P xs ys all.1 in
    ((all.0, parts.0), parts.1)

distinct_before : (xs ys : List Text) → IsDistinct bytes_eq (xs ++ ys) → IsDistinct bytes_eq xs
unfolding IsDistinct
distinct_before [] ys once = tt
distinct_before (x ∷ xs) ys once = ((all_parts _ xs ys once.0).0, distinct_before xs ys once.1)

apart_before : (xs ys : List Text) (name : Text) → IsDistinct bytes_eq (xs ++ name ∷ ys) → AllByRecursion (λ y. bytes_eq name y ≡ false) xs
unfolding IsDistinct
apart_before [] ys name once = tt
apart_before (x ∷ xs) ys name once = (other_order x name (all_parts _ xs (name ∷ ys) once.0).1.0, apart_before xs ys name once.1)

both_empty : (first second : Kinds) → or_else first second ≡ [] → (first ≡ []) × (second ≡ [])
both_empty [] second is = (refl, is)
both_empty (k ∷ ks) second is = absurd cc

fault_after : (again : Bool) (us vs : List Use) (rows : List Row) → uses_fault again us rows ≡ [] → uses_fault again (us ++ vs) rows ≡ uses_fault again vs (used_all us rows)
fault_after again [] vs rows none = refl
fault_after again (u ∷ us) vs rows none =
    let parts = both_empty (use_fault again u.0 u.1 rows) (uses_fault again us (used u.0 u.1 rows)) none in
    rw parts.0 (fault_after again us vs (used u.0 u.1 rows) parts.1)

-- ---- merged lists of uses that begin alike

-- the lists up to one use of the first
data SplitAt (xs : List Use) (bad : Use) : List Use → List Use → List Use → Type 0 where
  split : (ys more_ys zs more_zs before after : List Use) → Merges xs ys zs before → SplitAt xs bad (ys ++ more_ys) (zs ++ more_zs) (before ++ bad ∷ after)

split_first : (u bad : Use) (xs ys zs all : List Use) → SplitAt xs bad ys zs all → SplitAt (u ∷ xs) bad ys zs (u ∷ all)
split_first u bad xs ys zs all (split ys1 more_ys zs1 more_zs before after merges) = split ys1 more_ys zs1 more_zs (u ∷ before) after (walks.first u xs ys1 zs1 before merges)

split_second : (u bad : Use) (xs ys zs all : List Use) → SplitAt xs bad ys zs all → SplitAt xs bad (u ∷ ys) zs (u ∷ all)
split_second u bad xs ys zs all (split ys1 more_ys zs1 more_zs before after merges) = split (u ∷ ys1) more_ys zs1 more_zs (u ∷ before) after (walks.second u xs ys1 zs1 before merges)

split_third : (u bad : Use) (xs ys zs all : List Use) → SplitAt xs bad ys zs all → SplitAt xs bad ys (u ∷ zs) (u ∷ all)
split_third u bad xs ys zs all (split ys1 more_ys zs1 more_zs before after merges) = split ys1 more_ys (u ∷ zs1) more_zs (u ∷ before) after (walks.third u xs ys1 zs1 before merges)

split_at : (xs : List Use) (bad : Use) (more whole ys zs all : List Use) → Merges whole ys zs all → whole ≡ xs ++ bad ∷ more → SplitAt xs bad ys zs all
split_at [] bad more whole ys zs all walks.merged is = absurd cc
split_at (x ∷ xs) bad more whole ys zs all walks.merged is = absurd cc
split_at [] bad more whole ys zs all (walks.first u xs1 ys1 zs1 all1 rest) is =
    let same : bad ≡ u = cc in
    subst (λ v. SplitAt [] bad ys1 zs1 (v ∷ all1)) same (split [] ys1 [] zs1 [] all1 walks.merged)
split_at (x ∷ xs) bad more whole ys zs all (walks.first u xs1 ys1 zs1 all1 rest) is =
    let same : x ≡ u = cc in
    subst (λ v. SplitAt (x ∷ xs) bad ys1 zs1 (v ∷ all1)) same (split_first x bad xs ys1 zs1 all1 (split_at xs bad more xs1 ys1 zs1 all1 rest cc))
split_at xs bad more whole ys zs all (walks.second u xs1 ys1 zs1 all1 rest) is = split_second u bad xs ys1 zs1 all1 (split_at xs bad more xs1 ys1 zs1 all1 rest is)
split_at xs bad more whole ys zs all (walks.third u xs1 ys1 zs1 all1 rest) is = split_third u bad xs ys1 zs1 all1 (split_at xs bad more xs1 ys1 zs1 all1 rest is)

apart_first : (xs ys : List Use) → EachPartable (xs ++ ys) → EachPartable xs
apart_first [] ys apart = tt
apart_first (x ∷ xs) ys apart = ((all_parts _ xs ys apart.0).0, apart_first xs ys apart.1)

uses_first : (s : Shape) (sort : ℕ) (xs ys : List Use) → AreUses s sort (xs ++ ys) → AreUses s sort xs
uses_first s sort xs ys are = record { make = (all_parts _ xs ys are.make).0; sorts = (all_parts _ xs ys are.sorts).0; apart = apart_first xs ys are.apart }

module _ (s : Shape) (single : s.args_override_self ≡ false) (kind : ErrorKind) (name value : Text) (before after : List (Text × Text))
    (once : IsDistinct bytes_eq (map (λ o. o.0) (before ++ (name, value) ∷ after)))
    (each : AllByRecursion (λ o. OptionUse s.rules o.0 o.1) before) (wrong : RefusedOption s kind name value) (last : AllByRecursion (λ o. OffersOption s o.0) after) where
  names_once : IsDistinct bytes_eq (map (λ o. o.0) before ++ name ∷ map (λ o. o.0) after)
  names_once = subst (IsDistinct bytes_eq) (map-append (λ o. o.0) before ((name, value) ∷ after)) once

  first_uses : OptionUses s before
  first_uses = option_uses s before each (distinct_before _ _ names_once)

  last_uses : OfferedUses s after
  last_uses = offered_uses s after last

  abbrev bad : Use
  bad = (wrong.rule, value ∷ [])

  abbrev option_all : List Use
  option_all = first_uses.uses ++ bad ∷ last_uses.uses

  module _ (ys zs before_uses after_uses : List Use) (merges : Merges first_uses.uses ys zs before_uses) (flags : AreUses s 1 ys) (others : AreUses s 2 zs) where
    made : (uses_fault false before_uses [] ≡ []) × ((id : Text) → find (has_id id) (used_all before_uses []) ≡ joined id before_uses None)
    made = rows_made before_uses []
        (merges_each MakesRow first_uses.uses ys zs before_uses merges first_uses.make flags.make others.make)
        (merges_apart s.rules first_uses.uses ys zs before_uses merges first_uses.sorts flags.sorts others.sorts (each_partable first_uses.uses first_uses.apart) flags.apart others.apart)
        (no_rows before_uses)

    -- none of those before has the id of the wrong one
    other_ids : AllByRecursion (λ u. uses_id wrong.rule.id u ≡ false) before_uses
    other_ids = merges_each (λ u. uses_id wrong.rule.id u ≡ false) first_uses.uses ys zs before_uses merges
        (each_as (λ u. bytes_eq name u.0.id ≡ false) (λ u. uses_id wrong.rule.id u ≡ false) first_uses.uses
        (λ u e. ap (bytes_eq u.0.id) wrong.named ∙ other_order name u.0.id e) (first_uses.other name (apart_before _ _ name names_once)))
        (all_other s.rules 1 ys wrong.rule.id wrong.rule flags.sorts wrong.is.takes.by_id (λ e. omega (arith, e ∙ wrong.of)))
        (all_other s.rules 2 zs wrong.rule.id wrong.rule others.sorts wrong.is.takes.by_id (λ e. omega (arith, e ∙ wrong.of)))

    fails_there : uses_fault false (before_uses ++ bad ∷ after_uses) [] ≡ kind ∷ []
    fails_there =
        let there : has_row wrong.rule.id (used_all before_uses []) ≡ false =
        any_found (has_id wrong.rule.id) (used_all before_uses []) ∙ ap (λ found. is_some found) (made.1 wrong.rule.id ∙ joined_other wrong.rule.id before_uses None other_ids) in
        fault_after false before_uses (bad ∷ after_uses) [] made.0
        ∙ ap (λ kinds. or_else kinds (uses_fault false after_uses (used wrong.rule (value ∷ []) (used_all before_uses [])))) (wrong.fails (used_all before_uses []) there)

  fails : (flag_uses other_uses all : List Use) → AreUses s 1 flag_uses → AreUses s 2 other_uses → SplitAt first_uses.uses bad flag_uses other_uses all → uses_fault false all [] ≡ kind ∷ []
  fails flag_uses other_uses all flags others (split ys more_ys zs more_zs before_uses after_uses merges) =
      fails_there ys zs before_uses after_uses merges (uses_first s 1 ys more_ys flags) (uses_first s 2 zs more_zs others)

  -- the parse is refused at the option
  pub option_among_refused : (flag_uses other_uses : List Use) → AreUses s 1 flag_uses → AreUses s 2 other_uses → (flags others arguments : List Text)
      → AreGiven (before ++ (name, value) ∷ after) flags others arguments → Flagged s flags flag_uses → Placed s 1 others other_uses → level_fault s [] nothing_held arguments false [] ≡ kind ∷ []
  option_among_refused flag_uses other_uses ys zs flags others arguments given uses_flagged uses_placed =
      let offers = offered_both s before ((name, value) ∷ after) first_uses.uses (bad ∷ last_uses.uses) first_uses.offered
      (offered wrong.rule name value after last_uses.uses wrong.is last_uses.offered) in
      let some = gives_of s 1 (before ++ (name, value) ∷ after) flags others arguments option_all flag_uses other_uses given offers uses_flagged uses_placed in
      let fault = fails flag_uses other_uses some.uses ys zs (split_at first_uses.uses bad last_uses.uses option_all flag_uses other_uses some.uses some.merges refl) in
      rw (subst (λ (b : Bool). uses_fault b some.uses [] ≡ kind ∷ []) (sym single) fault) at (level_fault_uses s some.uses arguments some.gives)
