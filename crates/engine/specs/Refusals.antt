-- The number, layer and place of each fault of an engine.
use Rattle.net.specs.declared.fault.Layer.TheVariants as layers
use Rattle.net.specs.declared.fault.Refusal.{Refusal}
use Rattle.engine.specs.declared.fault.EngineFault.{EngineFault}
use Rattle.engine.specs.declared.fault.EngineFault.TheVariants.{EventOutOfRange, KOutOfRange, Full, RisingCircle, NoneHeld}

abbrev pub told : EngineFault → Refusal
told EventOutOfRange = record { number = 20; layer = layers.Engine; place = 0 }
told KOutOfRange = record { number = 21; layer = layers.Engine; place = 0 }
told Full = record { number = 22; layer = layers.Engine; place = 0 }
told RisingCircle = record { number = 23; layer = layers.Engine; place = 0 }
told NoneHeld = record { number = 24; layer = layers.Engine; place = 0 }
