use Rattle.std.proofs.Common.{◌≡◌, ◌∙◌, ◌++◌, ◌∷◌, [], true, cond, sym, ap}
use Rattle.std.specs.List.{list_any}
use Rattle.run_steps.specs.Reads.{is_origin, with_origin}
use Rattle.run_steps.proofs.views.add_origin.Goals as goal

pub returns-else-not-is_among : goal.returns-else-not-is_among
returns-else-not-is_among c =
    let found = c.args.origins.now.items in
    let origin = c.in-Some.seen.origin in
    let among : list_any (λ o. is_origin o origin) found ≡ true = ap (list_any (λ o. is_origin o origin)) (sym c.deref.ensures.value) ∙ sym c.is_among.ensures ∙ c.if-not-is_among.false in
    sym (ap (with_origin found) c.in-Some.is ∙ ap (λ b. cond b found (found ++ origin ∷ [])) among)
