use Rattle.std.proofs.Common.{◌≡◌, false, refl, true}
use Rattle.std.specs.Str.{is_utf8}
use Rattle.std.proofs.lemmas.Bool.{false_from_ne_true}
use Rattle.std.proofs.lemmas.Str.{IsUtf8-from_is_utf8, is_utf8-from_IsUtf8}
use Rattle.log_reports.proofs.lines.repeated.Goals as goal

pub returns-in-Ok : goal.returns-in-Ok
returns-in-Ok c =
    let (same, valid) = c.in-Ok.ensures.cases in
    let yes : is_utf8 c.args.tag.now ≡ true = is_utf8-from_IsUtf8 c.args.tag.now valid in
    rw yes same

pub returns-in-Err : goal.returns-in-Err
returns-in-Err c =
    let (invalid, up_to) = c.in-Err.ensures.cases in
    let no : is_utf8 c.args.tag.now ≡ false = false_from_ne_true (is_utf8 c.args.tag.now) (λ yes. invalid (IsUtf8-from_is_utf8 c.args.tag.now yes)) in
    rw no refl
