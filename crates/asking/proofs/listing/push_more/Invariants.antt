use Rattle.std.proofs.Common.{◌≡◌, ◌++◌, map, take, vec_items}
use Rattle.std.specs.List.{flat_map}
use Rattle.reference_values.specs.Values.{meant}
use Rattle.asking.specs.Listing.{behind_comma}
use Rattle.asking.proofs.listing.push_more.Given as goal

abbrev pub invariant-loop-value : goal.invariant-loop-value
invariant-loop-value l =
    vec_items l.out ≡ vec_items l.initial.out ++ flat_map behind_comma (map meant (take l.value-index l.values))
