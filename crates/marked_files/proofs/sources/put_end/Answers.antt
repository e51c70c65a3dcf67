use Rattle.std.proofs.Common.{refl, sym}
use Rattle.marked_files.specs.Sources.{close-lacks, close-ends}
use Rattle.marked_files.proofs.sources.put_end.Goals as goal

pub returns-then-lacks_newline : goal.returns-then-lacks_newline
returns-then-lacks_newline c = rw (sym (close-lacks c.args.content.now c.last.result c.last.ensures.value _ refl c.if-lacks_newline.ensures)) c.put.ensures

pub returns : goal.returns
returns c = rw (sym (close-ends c.args.content.now c.last.result c.last.ensures.value _ refl c.if-lacks_newline.ensures)) c.put-2.ensures
