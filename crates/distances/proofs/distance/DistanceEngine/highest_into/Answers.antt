use Rattle.std.proofs.Common.{◌≡◌, sym, ◌∙◌, subst, arith, w32, to_z, of_z}
use Rattle.std.proofs.lemmas.Int.{ints}
use Rattle.engine.specs.States.{Near}
use Rattle.distances.specs.Engines.{sound_of}
use Rattle.distances.proofs.Sums.{table_peak}
use Rattle.distances.proofs.distance.DistanceEngine.highest_into.Goals as goal

pub returns : goal.returns
returns c =
    let e = c.args.self.now in
    let y = c.args.event in
    let same : to_z w32 (of_z w32 c.highest.result) ≡ c.highest.result = omega (arith, ints) in
    let told = same ∙ (c.highest.ensures ∙ table_peak e y (omega arith)) in
    (c.requires, told, subst Near (sym told) ((sound_of e).near y c.requires), (sound_of e).meets)
