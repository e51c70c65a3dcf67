use Rattle.std.proofs.Common.{rules, arith}
use Rattle.scan.specs.Stretches.{spans-but}
use Rattle.raw_content.specs.Content.{read-back, told-long, told-file, read-file}
use Rattle.raw_content.proofs.read_call.Goals as goal
use Rattle.raw_content.proofs.read_call.Goals.{in-Ok, in-Err}

pub returns-then-not-at : goal.returns-then-not-at
returns-then-not-at c = read-back _ _ _ c.span-i.ensures c.at.ensures c.if-not-at.true

pub returns : goal.returns
returns c =
    read-file _ _ _ c.span-i.ensures c.at.ensures c.if-not-at.false c.expression-read.ensures c.new-w.ensures (spans-but ")" c.find-end.ensures) c.skip.ensures _
    (elim c.match-read.branch [
      | in-Ok w ↦ told-file _ _ _ c.span-i.ensures c.at.ensures c.if-not-at.false c.expression-read.ensures c.new-w.ensures w.in-Ok.is w.text.ensures _ (rw w.what-is (w.file_content-what.ensures _))
      | in-Err w ↦ told-long _ _ _ c.span-i.ensures c.at.ensures c.if-not-at.false c.expression-read.ensures c.new-w.ensures (search rules) w.in-Err.is (grind arith)
    ])
