use Rattle.std.proofs.Common.{◌≡◌, ◌∙◌, ◌++◌, ap, sym, string_bytes}
use Rattle.std.specs.Prelude.{flat_map}
use Rattle.std.proofs.lemmas.Iterator.{YieldsList-from_chars}
use Rattle.std.proofs.lemmas.Iterator.Consumers.{YieldsList-end}
use Rattle.json_texts.specs.Characters.{json_character}
use Rattle.json_texts.proofs.TextFacts.{each_itself}
use Rattle.json_texts.proofs.texts.push_json_text.Goals as goal

pub returns : goal.returns
returns c =
    let all = YieldsList-end (YieldsList-from_chars c.args.said.now c.utf8.said cc) c.loop-character.yielded _ c.loop-character.yielded_by _ _ c.in-None.is c.next.ensures.steps in
    c.loop-character.invariant ∙ ap (λ list. string_bytes c.args.text.now ++ flat_map json_character list) (sym (each_itself c.loop-character.yielded) ∙ all.0)
