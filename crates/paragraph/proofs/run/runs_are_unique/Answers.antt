use Rattle.paragraph.proofs.Uniqueness.{run_is_unique}
use Rattle.paragraph.proofs.run.runs_are_unique.Goals as goal

pub returns : goal.returns
returns c = run_is_unique
