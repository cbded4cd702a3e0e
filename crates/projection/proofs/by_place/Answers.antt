use Rattle.projection.proofs.ByPosition.{get_by_place, place_projected, all_projected}
use Rattle.projection.proofs.by_place.Goals as goal

pub returns : goal.returns
returns c = record { get = get_by_place; place = place_projected; whole = all_projected }
