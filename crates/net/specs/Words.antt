-- What refusals, and the faults of a walk, say in words: the bytes that `{}` prints.
use Rattle.std.specs.Prelude.{ℕ, List, ◌++◌, codes}
use Rattle.std.specs.Fmt.{decimal}
use Rattle.net.specs.declared.fault.Refusal.{Refusal}
use Rattle.net.specs.declared.fault.WalkFault.{WalkFault}
use Rattle.net.specs.declared.fault.WalkFault.TheVariants.{ShortMarks, NoSuchNode}

abbrev pub refusal_words : Refusal → List ℕ
refusal_words r = codes "refused " ++ decimal r.number ++ codes " at " ++ decimal r.place

abbrev pub words : WalkFault → List ℕ
words ShortMarks = codes "fewer than 96 mark bytes were lent"
words NoSuchNode = codes "a walk was to start outside its net"
