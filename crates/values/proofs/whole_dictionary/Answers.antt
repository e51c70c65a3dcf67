use mathlib.Core.Path.{refl, sym}
use Rattle.binding.specs.Write.{dictionary-source}
use Rattle.values.proofs.whole_dictionary.Goals as goal

pub returns : goal.returns
returns c = record { place = refl; own = refl; source = λ d e. rw e (dictionary-source d (sym (c.count.ensures d e))) }
