use Rattle.std.proofs.Common.{◌∙◌, subst, refl, arith}
use Rattle.std.proofs.lemmas.List.{get_or_default, length-map}
use Rattle.value_check.specs.Internal.Cells.{class_in}
use Rattle.value_check.specs.Internal.Known.{address_only}
use Rattle.value_check.specs.Internal.Noted.{IsNotedAt}
use Rattle.value_check.proofs.FollowingFacts.{known_first_taken}
use Rattle.value_check.proofs.known.Known.note_first_taker.Goals as goal

pub returns-then-load-len : goal.returns-then-load-len
returns-then-load-len c = λ t steps known swap below.
    let k = c.args.self.now in
    let within = known.tables.addresses.class_below c.args.load (omega (arith, below, length-map k.events.items address_only)) in
    let noted : IsNotedAt k.first_takers.items c.note.new.table.items (class_in k.addresses c.args.load) c.args.load =
    let index = c.index.ensures ∙ get_or_default k.addresses.class_of.items c.args.load c.index.result.now 0 (omega (arith, below, known.tables.addresses.whole, length-map k.events.items address_only)) in
    subst (λ d. IsNotedAt k.first_takers.items c.note.new.table.items d c.args.load) index c.note.ensures in
    known_first_taken t steps c.args.load 0 k c.note.new.table refl noted within swap known

pub returns-else-load-len : goal.returns-else-load-len
returns-else-load-len c = λ t steps known swap below.
    let k = c.args.self.now in
    absurd (omega (arith, below, known.tables.addresses.whole, length-map k.events.items address_only))
