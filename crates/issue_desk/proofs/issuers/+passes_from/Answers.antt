use Rattle.std.proofs.Common.{◌≡◌, ◌+◌, ◌-◌, subst, arith}
use Rattle.std.specs.Prelude.{IfOk}
use Rattle.issue_desk.specs.Internal.Passes.{ArePassesFrom}
use Rattle.issue_desk.proofs.issuers.+passes_from.Goals as goal

pub returns : goal.returns
returns g t c =
    let own = subst (λ issuer. IfOk c.join.result (λ pass. pass.processor ≡ issuer.processor)) c.in_ok-child.ensures c.join.ensures in
    let count : c.args.shared.processors - (c.args.p + 1) + 1 ≡ c.args.shared.processors - c.args.p = omega (arith, c.requires.within, c.if-p-shared.false) in
    subst (λ n. IfOk c.joined_passes.result (λ passes. ArePassesFrom c.args.p n passes.items)) count
    (c.joined_passes.ensures c.args.p (c.args.shared.processors - (c.args.p + 1)) own c.passes_from-rest.ensures)
