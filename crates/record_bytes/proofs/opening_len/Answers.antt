use Rattle.record_bytes.specs.Opening.{open_plain, open_numbered}
use Rattle.record_bytes.proofs.opening_len.Goals as goal

pub returns-in-None : goal.returns-in-None
returns-in-None c = open_plain _ _ c.sized-n.ensures c.number.ensures c.in-None.is

pub returns-in-Some : goal.returns-in-Some
returns-in-Some c = open_numbered _ _ c.sized-n.ensures c.number.ensures c.in-Some.is
