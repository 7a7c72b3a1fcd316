use Rattle.std.proofs.Common.{ℕ, List, [], ◌∷◌, ◌++◌, ◌≡◌, ◌∙◌, append_assoc}
use Rattle.std.specs.Prelude.{codes}
use Rattle.std.specs.Fmt.{decimal}
use Rattle.std.proofs.lemmas.Result.{IfOk-weaker}
use Rattle.tso_report.proofs.account_rendering.account_text.Goals as goal

regroup : (p a q b r c s d t e u f v : List ℕ) → (p ++ (a ++ (q ++ (b ++ (r ++ (c ++ (s ++ (d ++ (t ++ (e ++ (u ++ f))))))))))) ++ v ≡ p ++ a ++ q ++ b ++ r ++ c ++ s ++ d ++ t ++ e ++ u ++ f ++ v
regroup p a q b r c s d t e u f v = simp append_assoc

pub returns : goal.returns
returns c =
    let account = c.args.account.now in
    rw (← c.closed_name-closed.ensures)
    (IfOk-weaker c.format.result _ _
    (λ text is. is ∙ regroup (codes "account loads ") (decimal account.loads) (codes " stores ") (decimal account.stores) (codes " swaps ") (decimal account.swaps) (codes " membars ")
    (decimal account.membars) (codes " drains ") (decimal account.drains) (codes " ") c.closed_name-closed.result.now (10 ∷ []))
    c.format.ensures.ok)
