use Rattle.engine.proofs.Theorems.{excluded}
use Rattle.engine.proofs.laws.numbers_exclude_rising_circles.Goals as goal

pub returns : goal.returns
returns c = excluded
