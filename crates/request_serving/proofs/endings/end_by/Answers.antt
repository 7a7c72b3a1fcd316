use Rattle.request_serving.proofs.endings.end_by.Goals as goal

pub returns-in-OutOfMemory-clause-line : goal.returns-in-OutOfMemory-clause-line
returns-in-OutOfMemory-clause-line g c = rw c.in-OutOfMemory.is c.write_text.ensures.prefix
