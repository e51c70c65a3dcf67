use Rattle.raw_call.specs.Raw.{line-over, line-put, block-over, block-put}
use Rattle.raw_call.proofs.put_raw.Goals as goal

pub returns-in_default : goal.returns-in_default
returns-in_default c = block-over _ _ _ c.if-args.true (c.block_len.ensures _ _ (rw c.look_up-lang.ensures at c.measure-len.ensures) c.requires.kept) c.in_default.is

pub returns-then-args : goal.returns-then-args
returns-then-args c = block-put _ _ _ c.if-args.true (c.block_len.ensures _ _ (rw c.look_up-lang.ensures at c.measure-len.ensures) c.requires.kept) c.in-Some.is (rw c.look_up-lang.ensures at c.put_block.ensures)

pub returns-in_default-line_len : goal.returns-in_default-line_len
returns-in_default-line_len c = line-over _ _ _ c.if-args.false (c.line_len.ensures _ c.requires.len) c.in_default-line_len.is

pub returns : goal.returns
returns c = line-put _ _ _ c.if-args.false (c.line_len.ensures _ c.requires.len) c.in-Some-line_len.is c.put_line.ensures
