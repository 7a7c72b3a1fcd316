use Rattle.std.proofs.Common.{ℕ, ◌<◌, ◌↔◌, length, sym, subst, arith}
use Rattle.std.specs.Global.{Vec}
use Rattle.bitsets.specs.Rows.{HasNumber}
use Rattle.bitsets.proofs.MarkFacts.{marks_zero, marks_word_in}
use Rattle.bitsets.proofs.marks.mark_word.Goals as goal
use Rattle.bitsets.proofs.marks.mark_word.Goals.{then-len-j+in_ok-extend, else-len-j}

pub returns-then-word-eq0 : goal.returns-then-word-eq0
returns-then-word-eq0 c = marks_zero c.args.marks.now.items c.args.j c.args.word (omega (arith, c.if-word-eq0.true))

pub returns : goal.returns
returns c =
    let same : (v : ℕ) → HasNumber c.if-len-j.marks.items v ↔ HasNumber c.args.marks.now.items v = elim c.if-len-j.branch [
      | then-len-j+in_ok-extend w ↦ subst (λ (m : Vec ℕ). (v : ℕ) → HasNumber m.items v ↔ HasNumber c.args.marks.now.items v) (sym w.marks-is) w.in_ok-extend.ensures.same
      | else-len-j w ↦ subst (λ (m : Vec ℕ). (v : ℕ) → HasNumber m.items v ↔ HasNumber c.args.marks.now.items v) (sym w.marks-is) (λ v. (λ has. has, λ has. has))
    ] in
    let long : c.args.j < length c.if-len-j.marks.items = elim c.if-len-j.branch [
      | then-len-j+in_ok-extend w ↦ subst (λ (m : Vec ℕ). c.args.j < length m.items) (sym w.marks-is) w.in_ok-extend.ensures.long
      | else-len-j w ↦ subst (λ (m : Vec ℕ). c.args.j < length m.items) (sym w.marks-is) (omega (arith, w.if-len-j.false, c.len.ensures))
    ] in
    marks_word_in c.args.marks.now.items c.if-len-j.marks.items c.args.j c.index_mut.result.now c.args.word same long c.index_mut.ensures.value
