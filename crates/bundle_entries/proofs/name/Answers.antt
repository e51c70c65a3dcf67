use Rattle.bundle_entries.specs.Entries.{name-none, name-slash, name-some}
use Rattle.bundle_entries.proofs.name.Goals as goal

pub returns-in_err-name : goal.returns-in_err-name
returns-in_err-name c = rw c.from_residual.ensures (name-none c.args.b.now c.args.at c.in_err-name.ensures)

pub returns-then-not-without_slash : goal.returns-then-not-without_slash
returns-then-not-without_slash c = name-slash c.args.b.now c.args.at c.in_ok-name.ensures (rw c.of.ensures at c.without_slash.ensures) c.if-not-without_slash.true

pub returns : goal.returns
returns c = name-some c.args.b.now c.args.at c.in_ok-name.ensures (rw c.of.ensures at c.without_slash.ensures) c.if-not-without_slash.false
