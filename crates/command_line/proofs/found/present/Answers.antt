use Rattle.std.proofs.Common.{◌∙◌, codes, sym}
use Rattle.clap.specs.Words.{first_of, found_of, one_of, rows_of}
use Rattle.command_line.specs.Requests.{deciding, judging, requested_worker_limit}
use Rattle.command_line.specs.Options.{given_number, is_true, number_or, within}
use Rattle.command_line.specs.Subcommands.{file_of}
use Rattle.command_line.proofs.FoundLemmas.{asked_with_effort, asked_without_effort}
use Rattle.command_line.proofs.found.present.Goals as goal

pub returns-in-Some : goal.returns-in-Some
returns-in-Some c =
    let rows = rows_of (found_of c.args.matches.now) in
    let file = file_of (first_of (codes "file") rows) in
    let workers = within 1 requested_worker_limit (number_or 1 (one_of (codes "workers") rows)) in
    let nth = given_number (one_of (codes "nth") rows) in
    rw (c.file.ensures, c.workers.ensures, c.nth.ensures)
    (asked_with_effort (is_true (one_of (codes "decide") rows)) (number_or 100000 (one_of (codes "effort") rows)) c.in-Some.effort (sym c.in-Some.is ∙ c.decision_effort.ensures)
    (deciding c.args.presentation file workers nth) (judging c.args.presentation file workers nth))

pub returns-in-None : goal.returns-in-None
returns-in-None c =
    let rows = rows_of (found_of c.args.matches.now) in
    let file = file_of (first_of (codes "file") rows) in
    let workers = within 1 requested_worker_limit (number_or 1 (one_of (codes "workers") rows)) in
    let nth = given_number (one_of (codes "nth") rows) in
    let effort = number_or 100000 (one_of (codes "effort") rows) in
    rw (c.file-in-None.ensures, c.workers-in-None.ensures, c.nth-in-None.ensures)
    (asked_without_effort (is_true (one_of (codes "decide") rows)) effort (sym c.in-None.is ∙ c.decision_effort.ensures) (deciding c.args.presentation file workers nth effort)
    (judging c.args.presentation file workers nth))
