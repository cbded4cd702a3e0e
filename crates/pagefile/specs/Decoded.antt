-- What comes of reading a page file.
use Rattle.std.specs.Prelude.{ℕ, List, Ok, Err, vec_items, Result, Vec}
use Rattle.std.specs.declared.alloc.Global.{Global}
use Rattle.pagefile.specs.declared.PageFileError.{PageFileError}
use Rattle.pagefile.specs.declared.PageFileError.TheVariants.{NotWhole, OutOfMemory}
use Rattle.pagefile.specs.Words.{Words, Broken}

-- the words of a whole file; a broken one is refused, and no other
abbrev pub Decoded : List ℕ → Result (Vec ℕ Global) PageFileError → Type 0
Decoded bytes (Ok words) = Words bytes (vec_items words)
Decoded bytes (Err NotWhole) = Broken bytes
Decoded bytes (Err OutOfMemory) = Unit {0}
