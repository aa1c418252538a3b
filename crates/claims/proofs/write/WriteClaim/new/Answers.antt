use Rattle.std.proofs.Common.{None, map, ap, ◌∙◌, rules}
use Rattle.std.specs.Option.{option_map}
use Rattle.admission.specs.Landings.{landing}
use Rattle.claims.proofs.Places.{map_of}
use Rattle.claims.proofs.write.WriteClaim.new.Goals as goal

pub returns-clause-landings : goal.returns-clause-landings
returns-clause-landings c =
    let f = option_map (landing c.args.issue) in
    map_of _ _ f (λ q x y h. search rules) c.writes.result _ 3 None None (search rules) c.map-landings.ensures.items
    ∙ ap (map f) c.writes.ensures.places
