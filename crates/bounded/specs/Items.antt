-- What a bounded list holds.
use Rattle.std.specs.Prelude.{ℕ, List, take}
use Rattle.bounded.specs.declared.list.BoundedList.{BoundedList}

-- the items, the newest last
abbrev pub items : {T : Type 0} {N : ℕ} → BoundedList T N → List T
items l = take l.count l.entries
