use Rattle.std.proofs.Common.{◌≡◌, ◌≤◌, ℕ, List, take}
use Rattle.std.specs.HashSet.{contains}
use Rattle.std.specs.List.{count_by, list_any}
use Rattle.std.specs.Prelude.{nat_eq}
use Rattle.log_text.specs.LogTexts.{is_operation_at}
use Rattle.log_text.proofs.known.count_at.Given as goal

abbrev pub invariant-loop-logged : goal.invariant-loop-logged
invariant-loop-logged l =
    ((all : List ℕ) → ((a : ℕ) → contains nat_eq l.fn.addresses a ≡ list_any (nat_eq a) all) → l.count ≡ count_by (is_operation_at all) (take l.logged-index l.fn.list)) × (l.count ≤ l.logged-index)
