use Rattle.std.proofs.Common.{◌+◌, refl}
use Rattle.scan.specs.Laws.{tail-part}
use Rattle.scan.specs.Stretches.{spans-but}
use Rattle.definition_imports.specs.Import.{import-none, is-path, import-read}
use Rattle.definition_imports.proofs.find_import.Goals as goal

pub returns-then-not-at-clause-reads : goal.returns-then-not-at-clause-reads
returns-then-not-at-clause-reads c = import-none _ _ _ c.span-from.ensures c.at.ensures c.if-not-at.true (spans-but "\n" c.find-used.ensures) refl refl

pub returns : goal.returns
returns c =
    let tail = tail-part c.args.text.now (c.span-from.result + 1) in
    let path = is-path refl c.new-w.ensures c.literal-read.ensures _ c.text.ensures c.and-path.ensures in
    record {
      reads = import-read _ _ _ c.span-from.ensures c.at.ensures c.if-not-at.false tail c.literal-read.ensures c.span-names.ensures (spans-but "\n" c.find-used-2.ensures) (c.named_file.ensures.opens _ path) refl (tail-part c.args.text.now c.span-names.result) refl;
      listed = c.named_file.ensures.listed _ path;
    }
