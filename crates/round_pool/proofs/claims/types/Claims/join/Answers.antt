use Rattle.std.proofs.Common.{◌≡◌, ◌<◌, ◌++◌, ◌∙◌, ℕ, length, All, ap, sym, subst, arith}
use Rattle.std.proofs.lemmas.List.Elements.{All-append}
use Rattle.atomic_table.specs.Table.{Me}
use Rattle.round_pool.specs.declared.claims.seat_view.SeatView.{SeatView}
use Rattle.round_pool.specs.Claims.{rows_to_claim, places_of}
use Rattle.round_pool.proofs.ClaimFacts.{joins, looks_at, distinct_rows}
use Rattle.round_pool.proofs.claims.types.Claims.join.Goals as goal

pub join_seat-requires : goal.join_seat-requires
join_seat-requires c =
    let claims = c.args.self.now in
    let into = c.args.into.now.seat in
    let from = c.args.from.seat in
    let words = claims.words in (
      c.requires.into.table,
      c.requires.from.table,
      c.args.from.carries,
      omega (arith, words),
      joins claims.table.shared.key into.id into.me.0 from.id from.me.0 c.requires.into.some,
    )

pub load-requires : goal.load-requires
load-requires c =
    let claims = c.args.self.now in
    let words = claims.words in (
      c.join_seat.ensures.0 ∙ c.requires.into.table,
      omega (arith, words),
      looks_at claims.table.shared.key claims.table.shared.table_id.slots c.join_seat.new.seat.id c.join_seat.new.seat.me,
    )

pub returns-clause-once : goal.returns-clause-once
returns-clause-once c =
    let claims = c.args.self.now in
    let into = places_of c.args.into.now in
    let from = places_of c.args.from in
    let joined : c.load.new.seat.me.0.places ≡ into ++ from =
    ap (λ (me : Me (Unit {0}) SeatView). me.0.places) c.load.ensures.2.0 ∙ ap (λ (me : Me (Unit {0}) SeatView). me.0.places) c.join_seat.ensures.2 in
    let below : ℕ → Type 0 = λ place. place < length (rows_to_claim claims) in
    let within = subst (All below) (sym joined) (All-append below into from c.requires.into.places c.requires.from.places) in
    distinct_rows (rows_to_claim claims) c.load.new.seat.me.0.places claims.ascending within c.load.ensures.2.1.0

pub returns-clause-all : goal.returns-clause-all
returns-clause-all c = λ parts all place inside.
    let tries = c.args.into.now.tries in
    let joined : c.load.new.seat.me.0.tried ≡ c.args.into.now.seat.me.0.tried =
    ap (λ (me : Me (Unit {0}) SeatView). me.0.tried) c.load.ensures.2.0 ∙ ap (λ (me : Me (Unit {0}) SeatView). me.0.tried) c.join_seat.ensures.2 in
    c.load.ensures.2.1.1 parts place (omega (arith, all, inside, tries, joined))
