-- The account of a unit's steps.
use Rattle.std.specs.Prelude.{◌≡◌, true, List}
use Rattle.std.specs.List.{count_by}
use Rattle.unit_core.specs.declared.steps.Step.{Step}
use Rattle.unit_core.specs.declared.accounts.Account.{Account}
use Rattle.unit_core.specs.Machine.{is_load, is_store, is_swap, is_membar, is_drain}

-- The account is closed, with the numbers of these steps.
pub record IsAccountOf (steps : List Step) (account : Account) : Type 0 where
  pub loads : account.loads ≡ count_by is_load steps
  pub stores : account.stores ≡ count_by is_store steps
  pub swaps : account.swaps ≡ count_by is_swap steps
  pub membars : account.membars ≡ count_by is_membar steps
  pub drains : account.drains ≡ count_by is_drain steps
  pub closed : account.closed ≡ true
