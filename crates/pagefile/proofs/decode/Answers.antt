use Rattle.std.proofs.Common.{rules}
use Rattle.pagefile.proofs.Chunks.{words_whole}
use Rattle.pagefile.proofs.decode.Goals as goal

pub returns : goal.returns
returns c = words_whole c.args.bytes.now _ c.if-bytes-ne0.false (search rules)
