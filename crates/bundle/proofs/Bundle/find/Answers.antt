use Rattle.std.proofs.Common.{◌≡◌, ◌-◌, ◌+◌, suc, ◌∙◌, arith}
use Rattle.bundle.specs.Find.{find_long, finding-start, is-there, ahead, reachable, finding-same, finding-on, finding-folder, finding-absent}
use Rattle.bundle.proofs.Bundle.find.Goals as goal

pub word-done-end-requires : goal.word-done-end-requires
word-done-end-requires c = find_long _ c.self.invariant

pub loop-done-init : goal.loop-done-init
loop-done-init c = let z : c.word-done-end.result - 0 ≡ c.word-done-end.result = omega arith in rw z (finding-start _ _ c.self.invariant c.word-done-end.ensures)

pub unwrap-entry-requires : goal.unwrap-entry-requires
unwrap-entry-requires c = is-there c.loop-done.invariant (c.word-done-end.result - (c.loop-done.done + 1)) (omega arith) _ c.entry_at.ensures

pub path_of-requires : goal.path_of-requires
path_of-requires c = let H = rw c.unwrap-entry.ensures at c.entry_at.ensures in (H.folder, H.name)

pub unwrap-requires : goal.unwrap-requires
unwrap-requires c =
    let z : c.word-done-end.result - c.loop-done.done ≡ suc (c.word-done-end.result - (c.loop-done.done + 1)) = omega arith in
    reachable (ahead c.loop-done.invariant z (rw c.unwrap-entry.ensures at c.entry_at.ensures)) c.path_of.new.path _ c.path_of.ensures

pub returns-then-same : goal.returns-then-same
returns-then-same c =
    let z : c.word-done-end.result - c.loop-done.done ≡ suc (c.word-done-end.result - (c.loop-done.done + 1)) = omega arith in
    let H = rw c.unwrap-entry.ensures at c.entry_at.ensures in
    rw (← c.self.view_is) (finding-same (ahead c.loop-done.invariant z H) H (c.as_bytes-here.ensures ∙ (rw c.unwrap.ensures at c.path_of.ensures)) c.same.ensures c.if-same.true)

pub loop-done-preserved : goal.loop-done-preserved
loop-done-preserved c =
    let z : c.word-done-end.result - c.loop-done.done ≡ suc (c.word-done-end.result - (c.loop-done.done + 1)) = omega arith in
    let H = rw c.unwrap-entry.ensures at c.entry_at.ensures in
    finding-on (ahead c.loop-done.invariant z H) H (c.as_bytes-here.ensures ∙ (rw c.unwrap.ensures at c.path_of.ensures)) c.same.ensures c.if-same.false c.above-folder.ensures

pub returns-then-folder : goal.returns-then-folder
returns-then-folder c = rw (← c.self.view_is) (finding-folder c.loop-done.invariant (omega arith) c.if-folder.true)

pub returns : goal.returns
returns c = rw (← c.self.view_is) (finding-absent c.loop-done.invariant (omega arith) c.if-folder.false)
