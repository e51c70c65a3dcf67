use Rattle.std.proofs.Common.{◌∙◌}
use Rattle.bundle_entries.specs.Entries.{free-of_slash}
use Rattle.bundle_entries.proofs.without_slash.Goals as goal

pub returns : goal.returns
returns c = c.all.ensures ∙ free-of_slash c.args.text.now
