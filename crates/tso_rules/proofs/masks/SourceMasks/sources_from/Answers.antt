use Rattle.std.proofs.Common.{◌+◌, ◌-◌, ◌*◌, ◌/◌, ◌<◌, ◌↔◌, take, drop, sym, subst, arith}
use Rattle.bitsets.specs.Rows.{HasNumber}
use Rattle.bitsets.specs.Tables.{IsSet}
use Rattle.bitsets.proofs.TableFacts.{HasNumber-row}
use Rattle.tso_rules.proofs.masks.SourceMasks.sources_from.Goals as goal

pub returns : goal.returns
returns c =
    let masks = c.args.self.now in
    let start = c.args.load * masks.width in
    let count = start + masks.width - start in
    λ v. subst (λ t. HasNumber (take count (drop start t)) v ↔ ((v / 64 < masks.width) × IsSet masks.words.items masks.width c.args.load v)) (sym c.deref.ensures.value)
    (HasNumber-row masks.words.items masks.width count c.args.load v (omega arith))
