use Rattle.std.proofs.Common.{◌++◌, ◌∷◌, []}
use Rattle.std.specs.Fmt.{decimal}
use Rattle.request_serving.proofs.PartedLines.{appends_both, appends_next, prefix_longer}
use Rattle.request_serving.proofs.endings.write_numbered.Goals as goal

pub returns-in_err-write_text-2 : goal.returns-in_err-write_text-2
returns-in_err-write_text-2 g c =
    let digits = rw (c.as_bytes.ensures.value, c.format.ensures.text) at c.in_err-write_text-2.ensures.prefix in
    prefix_longer _ _ (c.args.name.now ++ decimal c.args.number) (10 ∷ []) (appends_next _ _ _ c.args.name.now (decimal c.args.number) c.in_ok-write_text.ensures.whole digits)

pub returns : goal.returns
returns g c =
    let digits = rw (c.as_bytes.ensures.value, c.format.ensures.text) at c.in_ok-write_text-2.ensures.whole in
    appends_next _ _ _ (c.args.name.now ++ decimal c.args.number) (10 ∷ []) (appends_both _ _ _ c.args.name.now (decimal c.args.number) c.in_ok-write_text.ensures.whole digits) c.write_text-3.ensures.prefix
