use Rattle.std.proofs.Common.{rules}
use Rattle.sheet.specs.Heads.{value_as_text, value-dictionary, value-no-count, value-nothing, value-empty}
use Rattle.sheet.proofs.head.value_head.Goals as goal
use Rattle.sheet.proofs.head.value_head.Goals.{then-m-ne0-3, else-m-ne0-3}

pub returns-then-m-ne0 : goal.returns-then-m-ne0
returns-then-m-ne0 c = value_as_text _ _ _ _ c.requires.1 _ c.if-m-ne0.true c.text_head.ensures

pub returns-then-s-at-lt2 : goal.returns-then-s-at-lt2
returns-then-s-at-lt2 c = value-no-count _ _ c.args.name _ c.requires.1 c.if-m-ne0-2.true (search rules)

pub returns-then-m-ne0-2 : goal.returns-then-m-ne0-2
returns-then-m-ne0-2 c = value-dictionary _ _ _ _ c.requires.1 c.if-m-ne0-2.true (search rules) c.word.ensures

pub returns : goal.returns
returns c = elim c.if-m-ne0-3.branch [
  | then-m-ne0-3 w ↦ rw w.kind-is (value-nothing _ _ c.args.name _ c.requires.1 c.requires.0 w.if-m-ne0-3.true)
  | else-m-ne0-3 w ↦ rw w.kind-is (value-empty _ _ c.args.name _ c.requires.1 c.requires.0 c.if-m-ne0.false c.if-m-ne0-2.false w.if-m-ne0-3.false)
]
