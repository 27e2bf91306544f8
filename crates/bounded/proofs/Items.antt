-- How many items a bounded list holds.
use Rattle.std.proofs.Common.{ℕ, ◌≤◌, length, arith}
use Rattle.std.proofs.lemmas.List.{length-take}
use Rattle.bounded.specs.Items.{items}
use Rattle.bounded.specs.declared.list.BoundedList.{BoundedList}

pub few_items : {T : Type 0} {N : ℕ} (l : BoundedList T N) → length (items l) ≤ N
few_items l = omega (arith, length-take l.count l.entries, l.few)
