-- What a reader has before it.
use Rattle.std.specs.Prelude.{ℕ, ◌+◌, cond, List, [], ◌∷◌, drop}
use Rattle.std.specs.List.{prefix_len}
use Rattle.meaning.specs.Base.{Bytes}
use Rattle.meaning.specs.Text.{is_blank}
use Rattle.language_pieces.specs.Pieces.{cuts}
use Rattle.language_pieces.specs.declared.reader.Reader.{Reader}

-- the pieces that are still to be read; of quotes that are not closed, which come twice, one may be behind
unfoldable pub ahead : Reader → List Bytes
ahead r = cond r.unclosed ((39 ∷ []) ∷ []) (cuts (drop r.at r.line.now))

-- the place of the piece that stands next: behind the blanks
abbrev pub place_of : Reader → ℕ
place_of r = r.at + prefix_len is_blank (drop r.at r.line.now)
