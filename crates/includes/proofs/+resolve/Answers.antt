use Rattle.std.proofs.Common.{◌≡◌, Err, sym, ◌∙◌, arith}
use Rattle.rules.specs.Reader.{bytes}
use Rattle.rules.specs.Run.{put, ok}
use Rattle.buffers.specs.Wrote.{puts-wrote, wrote-fail, wrote-then, wrote-no}
use Rattle.marks.specs.Read.{emit_of}
use Rattle.marks.specs.Marks.{mark-some}
use Rattle.includes.specs.Resolve.{resolving-start, resolving-full, resolving-end, resolving-refused, resolving-on}
use Rattle.includes.proofs.+resolve.Goals as goal

pub put_mark-returns-in_err-file-in-Include : goal.put_mark-returns-in_err-file-in-Include
unfolding emit_of
put_mark-returns-in_err-file-in-Include t c =
    let gone : c.from_residual.result ≡ Err c.in_err-file-in-Include.field-0.0 = grind arith in
    rw (c.in-Include.is, c.in_err-file-in-Include.ensures.opens c.args.folder.now, gone) (wrote-fail _ _)

pub put_mark-returns-in_err-resolve-in-Include : goal.put_mark-returns-in_err-resolve-in-Include
unfolding emit_of
put_mark-returns-in_err-resolve-in-Include t c =
    rw (c.in-Include.is, c.in_ok-file-in-Include.ensures.opens.goes c.args.folder.now c.folder.ensures)
    (wrote-no (put (bytes "\n") ok) c.in_err-resolve-in-Include.was c.resolve.ensures.wrote (grind arith))

pub put_mark-returns-in-Copied : goal.put_mark-returns-in-Copied
unfolding emit_of
put_mark-returns-in-Copied t c = rw c.in-Copied.is (puts-wrote c.put.ensures)

pub put_mark-returns-in-Source : goal.put_mark-returns-in-Source
unfolding emit_of
put_mark-returns-in-Source t c = rw c.in-Source.is c.put_source.ensures

pub put_mark-returns-in_ok-resolve-in-Include : goal.put_mark-returns-in_ok-resolve-in-Include
unfolding emit_of
put_mark-returns-in_ok-resolve-in-Include t c =
    rw (c.in-Include.is, c.in_ok-file-in-Include.ensures.opens.goes c.args.folder.now c.folder.ensures)
    (wrote-then c.in_ok-resolve-in-Include.was c.resolve.ensures.wrote (puts-wrote c.put-in-Include.ensures))

pub resolve-marks-init : goal.resolve-marks-init
resolve-marks-init t c = record { reads = c.new-reader.ensures; resolving = resolving-start _ _ _ _ _ }

pub resolve-returns-in_err-put : goal.resolve-returns-in_err-put
resolve-returns-in_err-put t c = resolving-full _ _ _ _ c.marks.invariant.resolving c.next_mark-next.ensures c.put.ensures c.in_err-put.was (grind arith)

pub resolve-returns-in_default : goal.resolve-returns-in_default
resolve-returns-in_default t c = resolving-end _ _ _ _ c.marks.invariant.resolving c.next_mark-next.ensures c.put.ensures c.in_ok-put.was c.in_default.is

pub resolve-read-read-requires : goal.resolve-read-read-requires
resolve-read-read-requires t c = rw c.marks.invariant.reads (c.next_mark-next.ensures.before.on, c.next_mark-next.ensures.before.inside, sym c.in-Some.is ∙ c.next_mark-next.ensures.there)

pub resolve-returns-in_err-put_mark : goal.resolve-returns-in_err-put_mark
resolve-returns-in_err-put_mark t c = resolving-refused _ _ _ _ c.marks.invariant.resolving c.next_mark-next.ensures c.put.ensures c.in_ok-put.was c.in-Some.mark (rw c.marks.invariant.reads at c.read-read.ensures.reads) c.put_mark.ensures c.in_err-put_mark.was (grind arith)

pub resolve-marks-smaller : goal.resolve-marks-smaller
resolve-marks-smaller t c =
    let n = c.next_mark-next.ensures.before.on in
    let r = rw c.marks.invariant.reads at c.read-read.ensures.reads in
    let o = r.on in
    let i = r.inside in
    omega (arith, mark-some c.in-Some.mark)

pub resolve-marks-preserved : goal.resolve-marks-preserved
resolve-marks-preserved t c = record {
  reads = c.read-read.ensures.same ∙ c.marks.invariant.reads;
  resolving = resolving-on _ _ _ _ c.marks.invariant.resolving c.next_mark-next.ensures c.put.ensures c.in_ok-put.was c.in-Some.mark (rw c.marks.invariant.reads at c.read-read.ensures.reads) c.put_mark.ensures c.in_ok-put_mark.was;
}
