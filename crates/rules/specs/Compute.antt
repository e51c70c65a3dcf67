-- One name to unfold every definition of the rules by: a theorem by computation says `unfolding rules`. Written by tools/unfolding.
use Rattle.std.specs.Prelude.{ℕ}
use Rattle.rules.specs.Answer
use Rattle.rules.specs.Reader
use Rattle.rules.specs.Run
use Rattle.rules.specs.Bytes
use Rattle.rules.specs.Layout
use Rattle.rules.specs.Bundle
use Rattle.rules.specs.Files
use Rattle.rules.specs.Sheet
use Rattle.rules.specs.Strings
use Rattle.rules.specs.Includes
use Rattle.rules.specs.Expansion
use Rattle.rules.specs.Pass
use Rattle.rules.specs.Definitions
use Rattle.rules.specs.Imports
use Rattle.rules.specs.Load
use Rattle.rules.specs.Calls
use Rattle.rules.specs.Parts
use Rattle.rules.specs.Manual

unfoldable pub rules : ℕ
unfolding Answer.is_refusal Answer.◌>>=◌ Answer.◌>>◌ Answer.check Answer.is_some Answer.or_refuse Answer.first_broken Reader.the Reader.but Reader.either Reader.all Reader.empty Reader.prefix Reader.same Reader.ret Reader.if_r Reader.◌>>=◌ Reader.◌>>◌ Reader.span Reader.sees Reader.skip Reader.mark Reader.loop Reader.rounds Run.and_then Run.unrefused Run.pieces Run.ends_in_newline Run.run Run.all_whole Run.emitted Run.written Run.final Run.write Run.limited Bytes.is_byte Bytes.ascii Bytes.blank Bytes.line_blank Bytes.letter Bytes.digit Bytes.word Bytes.name_byte Bytes.run_byte Bytes.underscored Bytes.trim_end Bytes.trim Bytes.prepend Bytes.split Bytes.holds Bytes.less Bytes.is_segment Bytes.is_path Bytes.is_folder Bytes.join Bytes.parent Layout.bind Layout.◌>>=◌ Layout.◌>>◌ Layout.pure Layout.broken Layout.require Layout.bit Layout.remaining Layout.byte Layout.word16 Layout.take_bytes Layout.field Layout.field_if Layout.times Bundle.entry Bundle.ascending Bundle.above Bundle.good_paths Bundle.paths_of Bundle.bundle_parser Bundle.bundle_of Files.entry_at Files.is_folder_of Files.file_of Files.view Files.content_of Files.fetch Files.plain Files.opened Files.exists Files.has_citation Files.upward Files.project_root Sheet.word16_bytes Sheet.field_bytes Sheet.field_mask Sheet.count Sheet.value_mask Sheet.sheet_length Sheet.value_length Sheet.value Sheet.one_record Sheet.some_records Sheet.all_records Sheet.levels Sheet.decode Sheet.before Sheet.sheet_of Sheet.get Sheet.get_fields Sheet.get_pieces Sheet.resolve Sheet.kind_of Sheet.text_of Sheet.set Sheet.value_bytes Sheet.encode Sheet.good_value Sheet.good_records Strings.escape Strings.onto Strings.literal_from Strings.literal Strings.reference Strings.plus Strings.expression_round Strings.expression Includes.commented Includes.quoted_if Includes.quote Includes.with_language Includes.with_path Includes.source_arguments Includes.over_paren Includes.to_newline Includes.behind_source Includes.last_newline Includes.fenced Includes.wrote Includes.copied Includes.copy_byte Includes.included Includes.include_of Includes.include_mark Includes.source_text Includes.source_of Includes.source_mark Includes.include_step Includes.inside_file Includes.includes Expansion.raw_content Expansion.without_slash Expansion.read_call Expansion.content Expansion.lang_value Expansion.block_value Expansion.argument_value Expansion.argument_round Expansion.raw_text Expansion.raw_end Expansion.raw_arguments Expansion.raw Expansion.link_text Expansion.link_content_block Expansion.link_end Expansion.link Expansion.writes Expansion.binds Expansion.call_did Expansion.calling Expansion.call_step Expansion.import_step Expansion.let_value Expansion.let_step Expansion.reference_step Expansion.copy_step Expansion.expansion_step Expansion.expansion Pass.middle_text Pass.expanded Pass.passed Pass.closed Definitions.measured Definitions.text_value Definitions.value Definitions.grown Definitions.entry_round Definitions.dictionary_value Definitions.listed_more Definitions.word_round Definitions.names Definitions.bound Definitions.let_bound Definitions.import_step Definitions.let_step Definitions.definition_step Imports.bind_one Imports.bind_if Imports.bind_all Imports.bind_listed Imports.bind_names Imports.import_file Imports.imported Imports.file_sheet Imports.imported_sheet Imports.definitions Load.wrap Load.next Load.draw Load.piece_count Load.concat Load.pieces_from Load.pieces Load.load Load.document_pieces Load.definition_pieces Load.list_of Calls.limit Calls.zeros Calls.padded Calls.looked_answer Calls.resolve_result Calls.resolve_of Calls.found_entry Calls.found_answer Calls.find_file_result Calls.find_file_of Calls.output_answer Calls.resolve_includes_result Calls.resolve_includes_of Calls.test_load_result Calls.test_load_of Calls.expanded_answer Calls.preprocess_typst_result Calls.preprocess_typst_of Calls.defined_answer Calls.parse_definitions_result Calls.parse_definitions_of Calls.closed_in Calls.closed_of Calls.passed_answer Calls.pass_result Calls.pass_of Parts.output_of Parts.sheet_left Parts.passes Parts.closed_parts Parts.joined Parts.all_accepted Parts.outputs Parts.last_sheet Manual.decimal Manual.answered Manual.sheet_from Manual.output_from Manual.built Manual.shown Manual.manual Manual.manual_of
rules = 0
