use Rattle.std.proofs.Common.{◌≡◌, Err, arith}
use Rattle.bundle.specs.Open.{open_refused, open-six, open-text}
use Rattle.bundle.proofs.Bundle.open_text.Goals as goal

pub returns-in_err-text : goal.returns-in_err-text
returns-in_err-text c = let gone : c.from_residual.result ≡ Err c.in_err-text.field-0.0 = grind arith in rw gone (open_refused _ _ c.in_err-text.ensures.answers)

pub returns-then-not-is_ascii : goal.returns-then-not-is_ascii
returns-then-not-is_ascii c = open-six _ _ c.in_ok-text.ensures.answers c.is_ascii.ensures c.if-not-is_ascii.true

pub returns : goal.returns
returns c = open-text _ _ c.in_ok-text.ensures.answers c.is_ascii.ensures c.if-not-is_ascii.false
