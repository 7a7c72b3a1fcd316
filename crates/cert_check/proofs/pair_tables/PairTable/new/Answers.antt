use Rattle.std.proofs.Common.{subst}
use Rattle.bitsets.specs.Tables.{IsSet}
use Rattle.bitsets.proofs.TableFacts.{no_bit}
use Rattle.cert_check.proofs.pair_tables.PairTable.new.Goals as goal

pub returns-clause-empty : goal.returns-clause-empty
returns-clause-empty c = λ u v has.
    no_bit _ c.div_ceil-width.result u v (subst (λ words. IsSet words c.div_ceil-width.result u v) (c.in_ok-vec.ensures.items_if_clones_equal (λ y e. e)) has.2)
