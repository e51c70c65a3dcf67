use Rattle.std.proofs.Common.{◌≡◌, ◌∙◌, Ok, Err, sym, ap, arith, length, length-drop, drop}
use Rattle.scan.specs.Laws.{tail-part, starts_as}
use Rattle.binding.specs.Buffer.{same-then}
use Rattle.binding.specs.Sheets.{ComesTo}
use Rattle.values.specs.Slots.{room-slot}
use Rattle.definition_imports.specs.Import.{file-there}
use Rattle.definitions.specs.Steps.{step-behind}
use Rattle.definitions.specs.File.{import-refused, import-nothing, import-stopped, import-over, import-bound, import-at, saved-bytes, saved-sheet, saved-short, no-bytes, parsing-start, parsing-inside, parsing-on, parsed-no, parsed, room-value, room-inner}
use Rattle.definitions.proofs.files.+parse_step.Goals as goal

pub import_step-returns-in_err-file-clause-steps : goal.import_step-returns-in_err-file-clause-steps
import_step-returns-in_err-file-clause-steps t c =
    let gone : c.from_residual.result ≡ Err c.in_err-file.field-0.0 = grind arith in
    rw gone (import-refused _ _ _ _ c.args.left.now c.find_import-import.ensures.reads c.in_err-file.was)

pub import_step-returns-in_default-clause-steps : goal.import_step-returns-in_default-clause-steps
import_step-returns-in_default-clause-steps t c = import-nothing _ _ _ _ c.args.left.now c.find_import-import.ensures.reads (c.in_ok-file.was ∙ ap Ok c.in_default.is)

pub import_step-split_at_mut-own-requires : goal.import_step-split_at_mut-own-requires
import_step-split_at_mut-own-requires t c = room-slot c.requires

pub import_step-overflow_sub-levels : goal.import_step-overflow_sub-levels
import_step-overflow_sub-levels t c = (file-there c.find_import-import.ensures.reads (c.in_ok-file.was ∙ ap Ok c.in-Some.is)).0

pub import_step-new-requires : goal.import_step-new-requires
import_step-new-requires t c = (file-there c.find_import-import.ensures.reads (c.in_ok-file.was ∙ ap Ok c.in-Some.is)).1

pub import_step-parse-requires : goal.import_step-parse-requires
import_step-parse-requires t c =
    let there = file-there c.find_import-import.ensures.reads (c.in_ok-file.was ∙ ap Ok c.in-Some.is) in
    (omega (arith, there.0), room-inner c.args.levels c.requires there.0 _ c.split_at_mut-own.ensures.back_len)

pub import_step-returns-in_err-parse-clause-steps : goal.import_step-returns-in_err-parse-clause-steps
unfolding ComesTo
import_step-returns-in_err-parse-clause-steps t c =
    let gone : c.from_residual-in_err-parse.result ≡ Err c.in_err-parse.field-0.0 = grind arith in
    rw gone (import-stopped _ _ _ _ c.args.left.now c.find_import-import.ensures.reads (c.in_ok-file.was ∙ ap Ok c.in-Some.is) c.folder.ensures (rw c.new.ensures at c.in_err-parse.ensures.parses) c.in_err-parse.ensures.over.over)

pub import_step-new-requires-2 : goal.import_step-new-requires-2
import_step-new-requires-2 t c = saved-sheet c.args.left.now c.records.ensures c.split_at_mut-own.result.0.now c.store.ensures (omega (arith, c.split_at_mut-own.ensures.front_len))

pub import_step-bind_imported-requires : goal.import_step-bind_imported-requires
import_step-bind_imported-requires t c =
    let there = file-there c.find_import-import.ensures.reads (c.in_ok-file.was ∙ ap Ok c.in-Some.is) in
    let room = room-inner c.args.levels c.requires there.0 _ c.split_at_mut-own.ensures.back_len in
    (omega (arith, ap length c.new-2.ensures, saved-short c.args.left.now c.records.ensures c.split_at_mut-own.result.0.now c.store.ensures (omega (arith, c.split_at_mut-own.ensures.front_len)), c.in_ok-parse.ensures.over.over.limit), omega (arith, room-slot room, c.parse.auto.work, c.in_ok-parse.ensures.over.over.limit))

pub import_step-returns-in_err-bind_imported-clause-steps : goal.import_step-returns-in_err-bind_imported-clause-steps
unfolding ComesTo
import_step-returns-in_err-bind_imported-clause-steps t c =
    let gone : c.from_residual-in_err-bind_imported.result ≡ Err c.in_err-bind_imported.field-0.0 = grind arith in
    let saved = c.new-2.ensures ∙ saved-bytes c.args.left.now c.records.ensures c.split_at_mut-own.result.0.now c.store.ensures (omega (arith, c.split_at_mut-own.ensures.front_len)) in
    rw gone (import-over _ _ _ _ c.args.left.now c.find_import-import.ensures.reads (c.in_ok-file.was ∙ ap Ok c.in-Some.is) c.folder.ensures c.parse.new.left (rw c.new.ensures at c.in_ok-parse.ensures.parses) saved c.in_ok-parse.ensures.over.over.limit c.in_err-bind_imported.ensures.binds (same-then c.in_ok-parse.ensures.over.over c.in_err-bind_imported.ensures.over.over))

pub import_step-returns-clause-steps : goal.import_step-returns-clause-steps
unfolding ComesTo
import_step-returns-clause-steps t c =
    let saved = c.new-2.ensures ∙ saved-bytes c.args.left.now c.records.ensures c.split_at_mut-own.result.0.now c.store.ensures (omega (arith, c.split_at_mut-own.ensures.front_len)) in
    import-bound _ _ _ _ c.args.left.now c.find_import-import.ensures.reads (c.in_ok-file.was ∙ ap Ok c.in-Some.is) c.folder.ensures c.parse.new.left (rw c.new.ensures at c.in_ok-parse.ensures.parses) saved c.in_ok-parse.ensures.over.over.limit c.bind_imported.new.left c.in_ok-bind_imported.ensures.binds

pub parse-new-requires : goal.parse-new-requires
parse-new-requires t c = no-bytes

pub parse-steps-init : goal.parse-steps-init
parse-steps-init t c = parsing-start _ _ c.args.left.now _ c.replace.ensures.over (c.replace.ensures.bytes ∙ c.new.ensures)

pub parse-behind-requires : goal.parse-behind-requires
parse-behind-requires t c = omega (arith, c.steps.invariant.inside, ap length c.bytes-bytes.ensures.same)

pub parse-step-requires : goal.parse-step-requires
parse-step-requires t c = (
  omega arith,
  (
    omega (arith, ap length c.behind.ensures, length-drop c.steps.done c.args.text.now, ap length c.bytes-bytes.ensures.same, c.steps-test.true),
    rw c.steps.invariant.over.over.limit (record { fits = omega (arith, c.requires.fits, c.steps.auto.work); most = c.requires.most }),
  ),
)

pub parse-returns-in_err-used-clause-parses : goal.parse-returns-in_err-used-clause-parses
unfolding ComesTo
parse-returns-in_err-used-clause-parses t c =
    let gone : c.from_residual.result ≡ Err c.in_err-used.field-0.0 = grind arith in
    let p = c.behind.ensures ∙ ap (drop c.steps.done) (sym c.bytes-bytes.ensures.same) in
    rw (gone, ← c.bytes-bytes.ensures.same) (parsed-no _ _ _ (rw c.bytes-bytes.ensures.same c.bytes-bytes.ensures.ascii) c.steps.invariant p c.step.ensures.over.over c.in_err-used.ensures.steps (omega arith))

pub parse-overflow_add-done : goal.parse-overflow_add-done
parse-overflow_add-done t c =
    let p = c.behind.ensures ∙ ap (drop c.steps.done) (sym c.bytes-bytes.ensures.same) in
    record { fits = omega (arith, parsing-inside c.steps.invariant p c.in_ok-used.ensures.steps) }

pub parse-steps-preserved : goal.parse-steps-preserved
parse-steps-preserved t c =
    let p = c.behind.ensures ∙ ap (drop c.steps.done) (sym c.bytes-bytes.ensures.same) in
    parsing-on c.steps.invariant p c.step.ensures.over c.in_ok-used.ensures.steps c.in_ok-used.ensures.on

pub parse-returns-clause-parses : goal.parse-returns-clause-parses
unfolding ComesTo
parse-returns-clause-parses t c = rw (← c.bytes-bytes.ensures.same) (parsed _ _ _ (rw c.bytes-bytes.ensures.same c.bytes-bytes.ensures.ascii) c.steps.invariant (omega arith))

pub step-other_step-requires : goal.step-other_step-requires
step-other_step-requires t c = (c.requires.0, starts_as (rw c.bytes-bytes.ensures.same at c.starts_with.ensures) c.if-not-starts_with.true, room-value c.args.levels c.requires.1)

pub step-returns-then-not-starts_with-clause-steps : goal.step-returns-then-not-starts_with-clause-steps
step-returns-then-not-starts_with-clause-steps t c = c.other_step.ensures.steps _

pub step-returns-in_err-used-clause-steps : goal.step-returns-in_err-used-clause-steps
step-returns-in_err-used-clause-steps t c =
    let gone : c.from_residual.result ≡ Err c.in_err-used.field-0.0 = grind arith in
    rw (gone, ← c.bytes-bytes.ensures.same, import-at _ _ _ _ _ c.starts_with.ensures c.if-not-starts_with.false (tail-part c.bytes-bytes.result.now 7)) c.in_err-used.ensures.steps

pub step-returns-clause-steps : goal.step-returns-clause-steps
step-returns-clause-steps t c =
    rw (← c.bytes-bytes.ensures.same) (step-behind (c.starts_with.ensures.there c.if-not-starts_with.false) (tail-part c.bytes-bytes.result.now 7) (import-at _ _ _ _ _ c.starts_with.ensures c.if-not-starts_with.false (tail-part c.bytes-bytes.result.now 7)) c.in_ok-used.ensures.steps)
