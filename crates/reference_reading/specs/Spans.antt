-- Parts of a text.
use Rattle.std.specs.Prelude.{ℕ, ◌-◌, cond, ◌&&◌, List, [], length, take, drop, nat_le}
use Rattle.reference_reading.specs.declared.spans.Span.{Span}

-- the bytes of a part of a text; none where it doesn't lie within the text
abbrev pub part : List ℕ → Span → List ℕ
part text span =
    cond (nat_le span.start span.end && nat_le span.end (length text))
    (take (span.end - span.start) (drop span.start text)) []
