-- The text of a memory unit's account.
use Rattle.std.specs.Prelude.{ℕ, Bool, true, false, List, [], ◌∷◌, ◌++◌, codes}
use Rattle.std.specs.Fmt.{decimal}
use Rattle.unit_core.specs.declared.accounts.Account.{Account}

-- whether the account is closed
abbrev pub closed_name : Bool → List ℕ
closed_name true = codes "closed"
closed_name false = codes "open"

-- the line of an account
abbrev pub account_text : Account → List ℕ
account_text account =
    codes "account loads " ++ decimal account.loads ++ codes " stores " ++ decimal account.stores ++ codes " swaps " ++ decimal account.swaps
    ++ codes " membars " ++ decimal account.membars ++ codes " drains " ++ decimal account.drains ++ codes " " ++ closed_name account.closed ++ 10 ∷ []
