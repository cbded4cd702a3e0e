-- What the program says where it has no rows.
use Rattle.std.specs.Prelude.{string_bytes, codes}
use Rattle.meaning.specs.Base.{Bytes}
use Rattle.asking.specs.declared.replies.Failure.{Failure}
use Rattle.asking.specs.declared.replies.Failure.TheVariants.{Said, OutOfMemory}

-- the line that says why
abbrev pub told : Failure → Bytes
told (Said line) = string_bytes line
told OutOfMemory = codes "ask: out of memory"
