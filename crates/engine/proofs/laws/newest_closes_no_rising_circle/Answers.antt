use Rattle.engine.proofs.Theorems.{newest}
use Rattle.engine.proofs.laws.newest_closes_no_rising_circle.Goals as goal

pub returns : goal.returns
returns c = newest
