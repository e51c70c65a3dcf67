use native.Mathlib.Omega.{arith}
use Rattle.imported_names.proofs.Names.{word-is}
use Rattle.imported_names.proofs.Words.{more-start, more-end, more-over, more-on}
use Rattle.imported_names.proofs.bind_more.Goals as goal

pub loop-i-init : goal.loop-i-init
loop-i-init c = more-start _ _ _

pub returns-then-not-starts_with : goal.returns-then-not-starts_with
returns-then-not-starts_with c = more-end c.loop-i.invariant c.span-comma.ensures c.starts_with.ensures c.if-not-starts_with.true

pub bind_later-requires : goal.bind_later-requires
bind_later-requires c = word-is c.span-to.ensures

pub returns-in_err-bind_later : goal.returns-in_err-bind_later
returns-in_err-bind_later c = more-over c.loop-i.invariant c.span-comma.ensures c.starts_with.ensures c.if-not-starts_with.false c.span-from.ensures c.span-to.ensures c.bind_later.ensures c.in_err-bind_later.was (grind arith)

pub loop-i-preserved : goal.loop-i-preserved
loop-i-preserved c = more-on c.loop-i.invariant c.span-comma.ensures c.starts_with.ensures c.if-not-starts_with.false c.span-from.ensures c.span-to.ensures c.bind_later.ensures c.in_ok-bind_later.was
