use Rattle.std.proofs.Common.{◌≡◌, Err, refl, arith, rules, length, ◌*◌, ◌≤◌}
use Rattle.rules.specs.Calls.{limit}
use Rattle.places.specs.Mark.{begins-first}
use Rattle.definitions.specs.File.{no-bytes}
use Rattle.define.specs.Define.{defines-refused, limit-small, limit-within, define_room, definitions-one, definitions-two, definitions-no, definitions-file, opened-ascii, defines-no, defines-sheet}
use Rattle.define.proofs.parse_definitions.Goals as goal

pub overflow_mul-limit : goal.overflow_mul-limit
overflow_mul-limit c = record { fits = omega (arith, limit-small _ c.sheet_limit-limit.ensures) }

pub returns-then-work-limit : goal.returns-then-work-limit
returns-then-work-limit c = defines-refused refl refl refl (definitions-one _ _ _ _ (omega (arith, c.sheet_limit-limit.ensures, c.if-work-limit.true)))

pub returns-in_default : goal.returns-in_default
returns-in_default c = defines-refused refl refl refl (definitions-two _ _ _ _ (omega (arith, c.sheet_limit-limit.ensures, c.if-work-limit.false)) c.in_default.ensures)

pub returns-in_err-text : goal.returns-in_err-text
returns-in_err-text c = defines-refused (grind arith) refl refl (definitions-no _ _ _ _ (omega (arith, c.sheet_limit-limit.ensures, c.if-work-limit.false)) c.in-Some.ensures.layout (rw c.in-Some.ensures.bytes at c.in_err-text.ensures))

pub invariant_of-records : goal.invariant_of-records
invariant_of-records c = record { fits = omega arith; room = limit-within _ c.sheet_limit-limit.ensures; small = limit-small _ c.sheet_limit-limit.ensures; place = λ r _ _. begins-first r }

pub invariant_of-sheet : goal.invariant_of-sheet
invariant_of-sheet c = record { sheet = no-bytes; within = omega arith }

pub new-requires : goal.new-requires
new-requires c = opened-ascii _ _ c.in_ok-text.ensures

pub parse-requires : goal.parse-requires
parse-requires c = define_room _ _ (omega arith) (limit-small _ c.sheet_limit-limit.ensures) (omega (arith, c.if-work-limit.false))

pub returns-in_err-parse : goal.returns-in_err-parse
returns-in_err-parse c =
    let room : 16 * limit (length c.args.left.now) ≤ length c.args.work.now = omega (arith, c.sheet_limit-limit.ensures, c.if-work-limit.false) in
    let file = definitions-file c.args.bundle.now c.args.path.now _ _ room c.in-Some.ensures.layout (rw c.in-Some.ensures.bytes at c.in_ok-text.ensures) c.sheet_limit-limit.ensures c.parent.ensures in
    let gone : c.from_residual-in_err-parse.result ≡ Err c.in_err-parse.field-0.0 = grind arith in
    defines-no file c.parse.new.left (rw (c.in-Some.ensures.bytes, c.new.ensures) at c.parse.ensures.parses) c.parse.ensures.over.over.long c.parse.auto.work c.in_err-parse.was gone (search rules)

pub returns : goal.returns
returns c =
    let room : 16 * limit (length c.args.left.now) ≤ length c.args.work.now = omega (arith, c.sheet_limit-limit.ensures, c.if-work-limit.false) in
    let file = definitions-file c.args.bundle.now c.args.path.now _ _ room c.in-Some.ensures.layout (rw c.in-Some.ensures.bytes at c.in_ok-text.ensures) c.sheet_limit-limit.ensures c.parent.ensures in
    let h = defines-sheet file c.parse.new.left (rw (c.in-Some.ensures.bytes, c.new.ensures) at c.parse.ensures.parses) {l = c.args.left.now} {w = c.args.work.now} c.parse.ensures.over.over.long c.parse.auto.work c.in_ok-parse.was in
    search (rules, h)
