use Rattle.std.proofs.Common.{◌≡◌, ℕ, ◌+◌, List, ◌++◌, reverse, ap, ◌∙◌}
use Rattle.std.specs.List.{sum_by}
use Rattle.std.proofs.lemmas.Iterator.Adapters.{items_from_extend, YieldsList-from_rev_slice}
use Rattle.std.proofs.lemmas.Iterator.Consumers.{YieldsList-from_copied}
use Rattle.std.proofs.lemmas.List.Sorted.{IsPermutation-reverse, sum_by-IsPermutation}
use Rattle.std.proofs.lemmas.List.Sums.{sum_by-append}
use Rattle.std.proofs.lemmas.Result.{on_ok_weaker}
use Rattle.compare_reading.specs.Growth.{turns_of}
use Rattle.compare_reading.proofs.growth.Growth.wait.Goals as goal

-- a sum over a list that was put behind another, the last element first
sum_behind : {X : Type 0} (f : X → ℕ) (old new more : List X) → new ≡ old ++ reverse more → sum_by f new ≡ sum_by f old + sum_by f more
sum_behind f old new more is =
    ap (sum_by f) is
    ∙ (sum_by-append f old (reverse more)
    ∙ ap (λ n. sum_by f old + n) (sum_by-IsPermutation f more (reverse more) (IsPermutation-reverse more)))

pub returns-clause-waiting : goal.returns-clause-waiting
returns-clause-waiting c =
    let parts = c.args.parts.now in
    let more = items_from_extend c.extend.result c.extend.ensures.ran (YieldsList-from_copied (YieldsList-from_rev_slice parts cc)) in
    on_ok_weaker c.extend.result (λ h. sum_behind turns_of c.args.self.now.waiting.items c.extend.new.self.items parts h.0) more
