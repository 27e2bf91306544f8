use Rattle.engine.proofs.Theorems.{parts}
use Rattle.engine.proofs.laws.parts_have_no_rising_circle.Goals as goal

pub returns : goal.returns
returns c = parts
