-- From what is parsed to the arguments that were given.
use Rattle.std.proofs.Common.{◌≡◌, refl, subst, sym, inl, Bool, true, false, List, [], ◌∷◌, Option, Some, None, Result, IfOk, IsErr, codes}
use Rattle.std.specs.declared.alloc.AllocError.{AllocError}
use Rattle.std.specs.List.{find}
use Rattle.std.specs.Str.{bytes_eq}
use Rattle.std.proofs.lemmas.Slice.Eq.{bytes_eq-Decides}
use Rattle.clap.specs.Words.{HasKind, Kinds, fault_of, kind_of, subcommand_of}
use Rattle.clap.specs.declared.error.kind.ErrorKind.TheVariants.{DisplayHelp, InvalidSubcommand, OutOfMemory}
use Rattle.clap.specs.declared.error.Error.{Error}
use Rattle.command_line.specs.Commands.{HasKnownNames, IsAskedBy, IsAskedFor, asked_at, tsobench_app}
use Rattle.command_line.specs.Internal.Computed.{IsFound, parsed_as}
use Rattle.command_line.specs.Requests.{Text, Asked, asked_of, showing}
use Rattle.command_line.specs.Spellings as asks
use Rattle.command_line.specs.Subcommands.{Subcommand, subcommands}
use Rattle.command_line.specs.declared.options.OptionNames.{OptionNames}
use Rattle.command_line.specs.declared.requests.Request.{Request}
use Rattle.command_line.proofs.KindLemmas.{asked_by_error}
use Rattle.command_line.proofs.MemberLemmas.{found_among, help_called, program_help_called}
use Rattle.command_line.proofs.SpellingLemmas.{help_is}

text_is : (a b : Text) → bytes_eq a b ≡ true → a ≡ b
text_is a b e = (bytes_eq-Decides a b).0 e

module _ (names : OptionNames) where
  abbrev IsAskedBelow : List Text → Asked → Type 0
  IsAskedBelow arguments asked = IsAskedBy (fault_of (tsobench_app names) arguments) (subcommand_of (tsobench_app names) arguments) asked

  -- where they are parsed as they stand
  as_given : (arguments : List Text) (asked : Asked) → parsed_as arguments ≡ arguments → IsFound names arguments asked → IsAskedBelow arguments asked
  as_given arguments asked same is = subst (λ (a : List Text). IsAskedBelow a asked) same is

  -- `help` may show its text or be refused
  shown : (arguments : List Text) (asked : Asked) → fault_of (tsobench_app names) arguments ≡ DisplayHelp ∷ InvalidSubcommand ∷ [] → asked ≡ showing → IsAskedBelow arguments asked
  shown arguments asked kinds is = subst (λ (k : Kinds). IsAskedBy k (subcommand_of (tsobench_app names) arguments) asked) (sym kinds) (DisplayHelp, inl refl, is)

  one_asked : (first : Text) (asked : Asked) → IsFound names (first ∷ []) asked → IsAskedBelow (first ∷ []) asked
  one_asked first asked is = go (bytes_eq first (codes "help")) refl
    where
      go : (b : Bool) → bytes_eq first (codes "help") ≡ b → IsAskedBelow (first ∷ []) asked
      go false e = as_given (first ∷ []) asked (rw e refl) is
      go true e =
          let named = text_is first (codes "help") e in
          let shows = help_is names (codes "help" ∷ []) asked asks.help (subst (λ (t : Text). IsFound names (t ∷ []) asked) named is) in
          subst (λ (t : Text). IsAskedBelow (t ∷ []) asked) (sym named) (shown (codes "help" ∷ []) asked (program_help_called names) shows)

  -- `help` with the name of a subcommand
  help_asked : (wanted : Text) (asked : Asked) (found : Option Subcommand) → find (λ c. bytes_eq c.name wanted) subcommands ≡ found → IsFound names (codes "help" ∷ wanted ∷ []) asked
      → IsAskedBelow (codes "help" ∷ wanted ∷ []) asked
  help_asked wanted asked None none is = as_given (codes "help" ∷ wanted ∷ []) asked (rw none refl) is
  help_asked wanted asked (Some c) some is =
      let one = found_among (λ c. bytes_eq c.name wanted) subcommands c some in
      let named = text_is c.name wanted one.0 in
      let found = subst (λ (t : Text). IsFound names (codes "help" ∷ t ∷ []) asked) (sym named) is in
      subst (λ (t : Text). IsAskedBelow (codes "help" ∷ t ∷ []) asked) named
      (shown (codes "help" ∷ c.name ∷ []) asked (help_called names c one.1) (help_is names (codes "help" ∷ c.name ∷ []) asked (asks.help_of c one.1) found))

  two_asked : (first wanted : Text) (asked : Asked) → IsFound names (first ∷ wanted ∷ []) asked → IsAskedBelow (first ∷ wanted ∷ []) asked
  two_asked first wanted asked is = go (bytes_eq first (codes "help")) refl
    where
      go : (b : Bool) → bytes_eq first (codes "help") ≡ b → IsAskedBelow (first ∷ wanted ∷ []) asked
      go false e = as_given (first ∷ wanted ∷ []) asked (rw e refl) is
      go true e =
          let named = text_is first (codes "help") e in
          let found = subst (λ (t : Text). IsFound names (t ∷ wanted ∷ []) asked) named is in
          subst (λ (t : Text). IsAskedBelow (t ∷ wanted ∷ []) asked) (sym named) (help_asked wanted asked (find (λ c. bytes_eq c.name wanted) subcommands) refl found)

  parsed_asked : (arguments : List Text) (asked : Asked) → IsFound names arguments asked → IsAskedBelow arguments asked
  parsed_asked [] asked is = is
  parsed_asked (first ∷ []) asked is = one_asked first asked is
  parsed_asked (first ∷ wanted ∷ []) asked is = two_asked first wanted asked is
  parsed_asked (first ∷ second ∷ third ∷ rest) asked is = is

  -- what the arguments ask for that are parsed is asked for by those that were given
  pub asked_for : HasKnownNames names → (arguments : List Text) (asked : Asked) → IsFound names arguments asked → IsAskedFor arguments asked
  asked_for are arguments asked is = (names, are, parsed_asked arguments asked is)

  -- what a request that an error stands for asks for
  pub error_found : (r : Result Request AllocError) (texts : List Text) (e : Error) → HasKind (fault_of (tsobench_app names) (parsed_as texts)) e
      → (kind_of e ≡ OutOfMemory → IsErr r) → IfOk r (λ request. asked_of request ≡ asked_at (kind_of e)) → IfOk r (λ request. IsFound names texts (asked_of request))
  error_found r texts e has memory asked = asked_by_error r (fault_of (tsobench_app names) (parsed_as texts)) (subcommand_of (tsobench_app names) (parsed_as texts)) e has memory asked
