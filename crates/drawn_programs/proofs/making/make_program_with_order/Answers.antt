use Rattle.std.proofs.Common.{◌≡◌, ◌∙◌, [], ◌∷◌, ap, sym, subst, map, arith, refl}
use Rattle.std.specs.Global.{Vec}
use Rattle.std.specs.List.{range_with_len}
use Rattle.std.proofs.Math.Nat.{zero-mul}
use Rattle.std.proofs.lemmas.List.{map-append}
use Rattle.tso_ops.specs.declared.ops.Op.{Op}
use Rattle.tso_ops.specs.Settings.{setting_of_order}
use Rattle.tso_ops.specs.Values.{rows, program_of_lists}
use Rattle.tso_ops.specs.Limits.{IsProgram}
use Rattle.drawn_programs.specs.Internal.MadeOps.{ops_of_processor}
use Rattle.drawn_programs.proofs.WordFacts.{after_words-none, writes_of-none, after_processors-more, writes_of_processors-more, processors-more, last_value_fits, made_program-is}
use Rattle.drawn_programs.proofs.MakingFacts.{IsProgram-made}
use Rattle.drawn_programs.proofs.making.make_program_with_order.Goals as goal

pub loop-init : goal.loop-init
loop-init g c = record {
  lists = ap rows c.new-lists.ensures.items;
  left = rw (zero-mul c.args.shape.operations, after_words-none) refl;
  last = rw (zero-mul c.args.shape.operations, writes_of-none) refl;
}

pub make_list-requires : goal.make_list-requires
make_list-requires g c =
    last_value_fits c.args.shape (g.R.Rng.stream c.args.rng.now) c.loop.counter c.loop.last c.processors-end.ensures.kept
    (omega (arith, c.loop-test.true, c.processors-end.ensures.is)) c.loop.invariant.last

pub loop-preserved : goal.loop-preserved
loop-preserved g c =
    let s = g.R.Rng.stream c.args.rng.now in
    let rest = g.R.Rng.stream c.loop.rng in
    let list = c.in_ok-make_list.field-0 in
    record {
      lists = rw c.in_ok-push.ensures.items (map-append (λ (row : Vec Op). row.items) c.loop.lists.items (list ∷ [])
          ∙ processors-more c.args.order c.args.shape s rest c.loop.counter c.loop.last (rows c.loop.lists.items) list.items c.loop.invariant.left c.loop.invariant.last c.loop.invariant.lists c.in_ok-make_list.ensures.list);
      left = c.in_ok-make_list.ensures.left ∙ after_processors-more c.args.shape s rest c.loop.counter c.loop.invariant.left;
      last = c.in_ok-make_list.ensures.last ∙ writes_of_processors-more c.args.shape s rest c.loop.counter c.loop.last c.loop.invariant.left c.loop.invariant.last;
    }

pub of_lists-requires : goal.of_lists-requires
of_lists-requires g c =
    let all : c.loop.counter ≡ c.args.shape.processors = omega (arith, c.loop-test.false, c.loop.auto.counter-end, c.processors-end.ensures.is) in
    subst (λ setting. IsProgram (program_of_lists setting (rows c.loop.lists.items))) (sym c.of_order-setting.ensures)
    (subst (λ lists. IsProgram (program_of_lists (setting_of_order c.args.order) lists))
    (sym (c.loop.invariant.lists ∙ ap (λ n. map (ops_of_processor c.args.order c.args.shape (g.R.Rng.stream c.args.rng.now)) (range_with_len 0 n)) all))
    (IsProgram-made c.args.order c.args.shape (g.R.Rng.stream c.args.rng.now) c.processors-end.ensures.kept))

pub returns-clause-made : goal.returns-clause-made
returns-clause-made g c =
    let all : c.loop.counter ≡ c.args.shape.processors = omega (arith, c.loop-test.false, c.loop.auto.counter-end, c.processors-end.ensures.is) in
    c.of_lists.ensures ∙ ap (λ setting. program_of_lists setting (rows c.loop.lists.items)) c.of_order-setting.ensures
    ∙ ap (program_of_lists (setting_of_order c.args.order))
    (c.loop.invariant.lists ∙ ap (λ n. map (ops_of_processor c.args.order c.args.shape (g.R.Rng.stream c.args.rng.now)) (range_with_len 0 n)) all)
    ∙ made_program-is c.args.order c.args.shape (g.R.Rng.stream c.args.rng.now)
