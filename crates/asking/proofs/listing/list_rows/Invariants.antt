use Rattle.std.proofs.Common.{◌≡◌, map, take, vec_items}
use Rattle.asking.specs.Listing.{listing, meant_row}
use Rattle.asking.proofs.listing.list_rows.Given as goal

abbrev pub invariant-loop-row : goal.invariant-loop-row
invariant-loop-row l = vec_items l.out ≡ listing (map meant_row (take l.row-index l.rows))
