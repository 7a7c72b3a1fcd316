use Rattle.tso_ops.proofs.EntryFacts.{IsNextEntry, KeepsEntries-push, next_faultless}
use Rattle.tso_ops.proofs.settings.Setting.push_first.Goals as goal

pub returns-clause-kept : goal.returns-clause-kept
returns-clause-kept c =
    let ok = c.in_ok-check_entry.ensures in
    let next : IsNextEntry c.end_of.result (c.args.address, c.args.value) = record { within = ok.within; non_zero = ok.non_zero; fits = ok.fits; after = ok.after } in
    rw c.in_ok-push.ensures.items (KeepsEntries-push c.args.self.now.first.items c.end_of.result (c.args.address, c.args.value) c.requires (rw c.deref.ensures.value at c.end_of.ensures c.requires) next)

pub returns-clause-clean : goal.returns-clause-clean
returns-clause-clean c =
    let ok = c.in_ok-check_entry.ensures in
    let next : IsNextEntry c.end_of.result (c.args.address, c.args.value) = record { within = ok.within; non_zero = ok.non_zero; fits = ok.fits; after = ok.after } in
    next_faultless c.args.self.now.first.items c.end_of.result (c.args.address, c.args.value) (rw c.deref.ensures.value at c.end_of.ensures c.requires) next
