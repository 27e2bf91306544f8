-- What the faults of an engine say in words: the bytes that `{}` prints.
use Rattle.std.specs.Prelude.{ℕ, List, codes}
use Rattle.engine.specs.declared.fault.EngineFault.{EngineFault}
use Rattle.engine.specs.declared.fault.EngineFault.TheVariants.{EventOutOfRange, KOutOfRange, Full, RisingCircle, NoneHeld}

abbrev pub words : EngineFault → List ℕ
words EventOutOfRange = codes "there is no such event, or no engine has that number of events"
words KOutOfRange = codes "k is not from -1000 to 1000"
words Full = codes "1100 differences are held"
words RisingCircle = codes "a circle would sum above zero"
words NoneHeld = codes "no such difference is held"
