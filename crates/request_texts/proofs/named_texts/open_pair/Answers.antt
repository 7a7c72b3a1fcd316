use Rattle.request_texts.proofs.KnownFacts.{opens_all, opens_both}
use Rattle.request_texts.proofs.named_texts.open_pair.Goals as goal

pub returns-in_err-second-in-Files-clause-first : goal.returns-in_err-second-in-Files-clause-first
returns-in_err-second-in-Files-clause-first g c =
    rw c.in-Files.is (opens_all _ _ _ (opens_both (g.O.Environment.opened c.args.files.now) (g.O.Environment.opened c.open.new.files) (g.O.Environment.opened c.open-in-Files.new.files) c.in-Files.first.now c.in-Files.second.now
    c.in_ok-first-in-Files.ensures.opened c.in_err-second-in-Files.ensures.opened))

pub returns-in_ok-second-in-Files-clause-first : goal.returns-in_ok-second-in-Files-clause-first
returns-in_ok-second-in-Files-clause-first g c =
    rw c.in-Files.is (opens_all _ _ _ (opens_both (g.O.Environment.opened c.args.files.now) (g.O.Environment.opened c.open.new.files) (g.O.Environment.opened c.open-in-Files.new.files) c.in-Files.first.now c.in-Files.second.now
    c.in_ok-first-in-Files.ensures.opened c.in_ok-second-in-Files.ensures.opened))
