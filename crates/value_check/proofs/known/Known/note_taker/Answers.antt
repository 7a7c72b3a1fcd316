use Rattle.std.proofs.Common.{◌≡◌, sym, subst, suc, ◌∷◌, ◌++◌, [], arith}
use Rattle.tso_ops.specs.Events.{SameAddress}
use Rattle.value_evidence.specs.declared.steps.ValueStep.TheVariants.{Read}
use Rattle.value_check.specs.Internal.Known.{IsKnownBy, IsKnownFrom}
use Rattle.value_check.proofs.AnswerFacts.{not_so}
use Rattle.value_check.proofs.CellFacts.{index_below}
use Rattle.value_check.proofs.FollowingFacts.{known_taken, known_untaken}
use Rattle.value_check.proofs.known.Known.note_taker.Goals as goal

pub returns-then-is_one_address : goal.returns-then-is_one_address
returns-then-is_one_address c = λ t steps known swap below.
    let k = c.args.self.now in
    let x = c.in-Some.store in
    let address = (c.is_one_address.ensures t known.tables.events).0 c.if-is_one_address.true in
    let is : c.args.source ≡ suc x = omega (arith, c.in-Some.ensures.0, c.in-Some.ensures.1) in
    known_taken t steps c.args.load c.args.source k c.note.new.table x is c.note.ensures (index_below t k known.tables x (address.0, address.2)) swap address known

pub returns-else-is_one_address : goal.returns-else-is_one_address
returns-else-is_one_address c = λ t steps known swap below.
    let k = c.args.self.now in
    let x = c.in-Some.store in
    let is : c.args.source ≡ suc x = omega (arith, c.in-Some.ensures.0, c.in-Some.ensures.1) in
    known_untaken t steps c.args.load c.args.source k
    (λ y same swapped address.
    let one : y ≡ x = omega (arith, is, same) in
    not_so c.is_one_address.result (SameAddress t (suc x) (suc c.args.load)) (c.is_one_address.ensures t known.tables.events) c.if-is_one_address.false
    (subst (λ n. SameAddress t (suc n) (suc c.args.load)) one address))
    (λ zero swapped. omega (arith, is, zero)) known

pub returns-in-None : goal.returns-in-None
returns-in-None c = λ t steps known swap below.
    let zero : c.args.source ≡ 0 = omega (arith, c.in-None.ensures) in
    subst (λ n. IsKnownBy t (steps ++ Read (suc c.args.load) n ∷ []) c.note_first_taker.new.self) (sym zero)
    (c.note_first_taker.ensures t steps (subst (λ n. IsKnownFrom t (steps ++ Read (suc c.args.load) n ∷ []) steps c.args.self.now) zero known) swap below)
