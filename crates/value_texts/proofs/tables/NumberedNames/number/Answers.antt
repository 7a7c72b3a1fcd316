use Rattle.std.proofs.Common.{◌∙◌, ap, sym}
use Rattle.std.specs.HashMap.{get}
use Rattle.value_texts.specs.Spelling.{event_named}
use Rattle.value_texts.specs.Internal.Tables.{name_key, same_key}
use Rattle.value_texts.proofs.NameFacts.{number_named, number_unnamed}
use Rattle.value_texts.proofs.tables.NumberedNames.number.Goals as goal

pub returns-in_err-name : goal.returns-in_err-name
returns-in_err-name c = c.from_residual.ensures ∙ sym (number_unnamed c.args.self.now c.args.token.now c.in_err-name.ensures.none)

pub returns : goal.returns
returns c =
    let name = c.in_ok-name.name in
    let spelled = c.in_ok-name.ensures.some in
    let found = c.copied.ensures ∙ c.get.ensures.value ∙ ap (get same_key c.self.inside.numbers) c.key_of.ensures in
    found ∙ c.self.invariant (name_key name) ∙ number_named c.self.inside.names.now c.args.token.now name spelled.0 spelled.1
    ∙ ap (λ names. event_named names c.args.token.now) c.self.view_is
