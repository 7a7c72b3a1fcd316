use Rattle.std.proofs.Common.{Ok}
use Rattle.command_line.specs.Requests.{texts_in}
use Rattle.command_line.proofs.MatchLemmas.{error_found}
use Rattle.command_line.proofs.requests.command_line_by.Goals as goal

pub returns-in_ok-text_request-in-Err-clause-found : goal.returns-in_ok-text_request-in-Err-clause-found
returns-in_ok-text_request-in-Err-clause-found c =
    let found = c.in_ok-text_request-in-Err in
    error_found _ (Ok found.field-0) (texts_in c.args.arguments.now) c.in-Err.error c.in-Err.ensures.kinds found.ensures.memory found.ensures.asked
