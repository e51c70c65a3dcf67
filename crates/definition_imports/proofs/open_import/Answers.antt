use Rattle.std.proofs.Common.{◌≡◌, Err, refl, arith}
use Rattle.bundle.specs.Find.{entries_of}
use Rattle.definition_imports.specs.Import.{open-absent, open-folder, open-no, open-file}
use Rattle.definition_imports.proofs.open_import.Goals as goal

pub returns-in-Absent-clause-opens : goal.returns-in-Absent-clause-opens
returns-in-Absent-clause-opens c = open-absent _ c.args.bundle.now (entries_of c.args.bundle.now) _ (rw c.as_bytes.ensures at c.in-Absent.ensures)

pub returns-in-Folder-clause-opens : goal.returns-in-Folder-clause-opens
returns-in-Folder-clause-opens c = open-folder _ c.args.bundle.now (entries_of c.args.bundle.now) _ (rw c.as_bytes.ensures at c.in-Folder.ensures)

pub returns-in_err-text-in-File-clause-opens : goal.returns-in_err-text-in-File-clause-opens
returns-in_err-text-in-File-clause-opens c =
    let gone : c.from_residual.result ≡ Err c.in_err-text-in-File.field-0.0 = grind arith in
    rw gone (open-no _ c.args.bundle.now (entries_of c.args.bundle.now) _ (rw c.as_bytes.ensures at c.in-File.ensures) (rw c.bytes.ensures at c.of.ensures) c.in_err-text-in-File.ensures)

pub returns-in_ok-text-in-File-clause-opens : goal.returns-in_ok-text-in-File-clause-opens
returns-in_ok-text-in-File-clause-opens c = open-file _ c.args.bundle.now (entries_of c.args.bundle.now) _ (rw c.as_bytes.ensures at c.in-File.ensures) (rw c.bytes.ensures at c.of.ensures) refl c.in_ok-text-in-File.ensures
