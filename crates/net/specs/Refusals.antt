-- The number, layer and place of each fault of a walk.
use Rattle.net.specs.declared.fault.Layer.TheVariants as layers
use Rattle.net.specs.declared.fault.Refusal.{Refusal}
use Rattle.net.specs.declared.fault.WalkFault.{WalkFault}
use Rattle.net.specs.declared.fault.WalkFault.TheVariants.{ShortMarks, NoSuchNode}

abbrev pub told : WalkFault → Refusal
told ShortMarks = record { number = 10; layer = layers.Watch; place = 0 }
told NoSuchNode = record { number = 20; layer = layers.Engine; place = 0 }
