use Rattle.bundle_entries.specs.Entries.{no-folder, no-name, no-content, all-fields}
use Rattle.bundle_entries.proofs.fields.Goals as goal

pub returns-in_err-folder : goal.returns-in_err-folder
returns-in_err-folder c = rw c.from_residual.ensures (no-folder c.args.b.now c.args.map c.args.at c.in_err-folder.ensures)

pub returns-in_err-name : goal.returns-in_err-name
returns-in_err-name c = rw c.from_residual-in_err-name.ensures (no-name c.args.b.now c.args.map c.args.at c.in_ok-folder.ensures c.in_err-name.ensures)

pub returns-in_err-content : goal.returns-in_err-content
returns-in_err-content c = rw c.from_residual-in_err-content.ensures (no-content c.args.b.now c.args.map c.args.at c.in_ok-folder.ensures c.in_ok-name.ensures c.in_err-content.ensures)

pub returns : goal.returns
returns c = all-fields c.args.b.now c.args.map c.args.at c.in_ok-folder.ensures c.in_ok-name.ensures c.in_ok-content.ensures
