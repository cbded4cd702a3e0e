use Rattle.std.proofs.Common.{◌≡◌, length}
use Rattle.asking.specs.Listing.{trimmed}
use Rattle.asking.proofs.listing.trimmed.Given as goal

abbrev pub invariant-loop-bytes : goal.invariant-loop-bytes
invariant-loop-bytes l = trimmed l.bytes ≡ trimmed l.fn.bytes

abbrev pub decreases-loop-bytes : goal.decreases-loop-bytes
decreases-loop-bytes l = length l.bytes
