use Rattle.issue_desk.proofs.running.run_with_drainer_over.Given as goal

abbrev pub ghosts-run_of : goal.ghosts-run_of
ghosts-run_of g a = record { design = (g.U.MemoryUnit.value_of a.unit).design }
