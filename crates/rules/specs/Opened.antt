-- Written by tools/opened: the definitions of the rules with all of them open, so that worked cases compute.

unfoldable pub opened_base : Unit {0}
unfolding Rattle.rules.specs.Base.◌>>=◌ Rattle.rules.specs.Base.need Rattle.rules.specs.Base.same Rattle.rules.specs.Base.member Rattle.rules.specs.Base.bytes
opened_base = tt

unfoldable pub opened_numbers : Unit {0}
unfolding Rattle.rules.specs.Numbers.low Rattle.rules.specs.Numbers.high Rattle.rules.specs.Numbers.between Rattle.rules.specs.Numbers.holds Rattle.rules.specs.Numbers.is_dint Rattle.rules.specs.Numbers.same_ty Rattle.rules.specs.Numbers.of_bool Rattle.rules.specs.Numbers.is_zero Rattle.rules.specs.Numbers.eq_z
opened_numbers = tt

unfoldable pub opened_bytes : Unit {0}
unfolding Rattle.rules.specs.Bytes.to_u Rattle.rules.specs.Bytes.of_u Rattle.rules.specs.Bytes.put2 Rattle.rules.specs.Bytes.put4 Rattle.rules.specs.Bytes.of2 Rattle.rules.specs.Bytes.of4 Rattle.rules.specs.Bytes.record_of Rattle.rules.specs.Bytes.record_in
opened_bytes = tt

unfoldable pub opened_tokens : Unit {0}
unfolding Rattle.rules.specs.Tokens.plain Rattle.rules.specs.Tokens.within Rattle.rules.specs.Tokens.is_blank Rattle.rules.specs.Tokens.is_capital Rattle.rules.specs.Tokens.is_small Rattle.rules.specs.Tokens.is_digit Rattle.rules.specs.Tokens.is_under Rattle.rules.specs.Tokens.starts_name Rattle.rules.specs.Tokens.in_name Rattle.rules.specs.Tokens.in_integer Rattle.rules.specs.Tokens.upper Rattle.rules.specs.Tokens.fold Rattle.rules.specs.Tokens.run Rattle.rules.specs.Tokens.starts Rattle.rules.specs.Tokens.in_line Rattle.rules.specs.Tokens.comment Rattle.rules.specs.Tokens.parts_well Rattle.rules.specs.Tokens.is_name Rattle.rules.specs.Tokens.entry Rattle.rules.specs.Tokens.reserved Rattle.rules.specs.Tokens.lookup Rattle.rules.specs.Tokens.word_kind Rattle.rules.specs.Tokens.word Rattle.rules.specs.Tokens.digit_of Rattle.rules.specs.Tokens.digits Rattle.rules.specs.Tokens.integer Rattle.rules.specs.Tokens.symbol2 Rattle.rules.specs.Tokens.symbol1 Rattle.rules.specs.Tokens.comment_piece Rattle.rules.specs.Tokens.name_piece Rattle.rules.specs.Tokens.integer_piece Rattle.rules.specs.Tokens.symbol_piece Rattle.rules.specs.Tokens.piece Rattle.rules.specs.Tokens.put Rattle.rules.specs.Tokens.follow Rattle.rules.specs.Tokens.tokens_at Rattle.rules.specs.Tokens.tokens
opened_tokens = tt

unfoldable pub opened_syntax : Unit {0}
unfolding Rattle.rules.specs.Syntax.on_read Rattle.rules.specs.Syntax.◌>>=◌ Rattle.rules.specs.Syntax.◌>>◌ Rattle.rules.specs.Syntax.give Rattle.rules.specs.Syntax.next Rattle.rules.specs.Syntax.rest Rattle.rules.specs.Syntax.skip Rattle.rules.specs.Syntax.take Rattle.rules.specs.Syntax.when Rattle.rules.specs.Syntax.whether Rattle.rules.specs.Syntax.unexpected Rattle.rules.specs.Syntax.nested Rattle.rules.specs.Syntax.name_of Rattle.rules.specs.Syntax.take_name Rattle.rules.specs.Syntax.signed Rattle.rules.specs.Syntax.truth_con Rattle.rules.specs.Syntax.unsigned Rattle.rules.specs.Syntax.constant Rattle.rules.specs.Syntax.maybe Rattle.rules.specs.Syntax.operator Rattle.rules.specs.Syntax.operators Rattle.rules.specs.Syntax.operator_of Rattle.rules.specs.Syntax.leaf Rattle.rules.specs.Syntax.parens Rattle.rules.specs.Syntax.operand Rattle.rules.specs.Syntax.prefixed Rattle.rules.specs.Syntax.signed_operand Rattle.rules.specs.Syntax.expr Rattle.rules.specs.Syntax.assignment Rattle.rules.specs.Syntax.if_then Rattle.rules.specs.Syntax.case_of Rattle.rules.specs.Syntax.for_do Rattle.rules.specs.Syntax.while_do Rattle.rules.specs.Syntax.repeat_until Rattle.rules.specs.Syntax.exit Rattle.rules.specs.Syntax.one_label Rattle.rules.specs.Syntax.labels Rattle.rules.specs.Syntax.starts_constant Rattle.rules.specs.Syntax.starts_statement Rattle.rules.specs.Syntax.one_branch Rattle.rules.specs.Syntax.one_group Rattle.rules.specs.Syntax.one_more Rattle.rules.specs.Syntax.statement Rattle.rules.specs.Syntax.declaration Rattle.rules.specs.Syntax.declarations Rattle.rules.specs.Syntax.variables Rattle.rules.specs.Syntax.program Rattle.rules.specs.Syntax.tree_of Rattle.rules.specs.Syntax.parse
opened_syntax = tt

unfoldable pub opened_core : Unit {0}
unfolding Rattle.rules.specs.Core.result Rattle.rules.specs.Core.types Rattle.rules.specs.Core.initials
opened_core = tt

unfoldable pub opened_depth : Unit {0}
unfolding Rattle.rules.specs.Depth.height Rattle.rules.specs.Depth.depth_s
opened_depth = tt

unfoldable pub opened_walk : Unit {0}
unfolding Rattle.rules.specs.Walk.nameless Rattle.rules.specs.Walk.find Rattle.rules.specs.Walk.is_none Rattle.rules.specs.Walk.known_at Rattle.rules.specs.Walk.known Rattle.rules.specs.Walk.con_first Rattle.rules.specs.Walk.con_type Rattle.rules.specs.Walk.con_value Rattle.rules.specs.Walk.largest Rattle.rules.specs.Walk.exact Rattle.rules.specs.Walk.initial Rattle.rules.specs.Walk.declare Rattle.rules.specs.Walk.declare_all Rattle.rules.specs.Walk.high_of Rattle.rules.specs.Walk.span Rattle.rules.specs.Walk.labels Rattle.rules.specs.Walk.step Rattle.rules.specs.Walk.first Rattle.rules.specs.Walk.typed Rattle.rules.specs.Walk.takes Rattle.rules.specs.Walk.sign_ty Rattle.rules.specs.Walk.sign_core Rattle.rules.specs.Walk.expression Rattle.rules.specs.Walk.placed Rattle.rules.specs.Walk.condition Rattle.rules.specs.Walk.selector Rattle.rules.specs.Walk.final Rattle.rules.specs.Walk.assigned Rattle.rules.specs.Walk.statement Rattle.rules.specs.Walk.walk
opened_walk = tt

unfoldable pub opened_meaning : Unit {0}
unfolding Rattle.rules.specs.Meaning.fit Rattle.rules.specs.Meaning.unop Rattle.rules.specs.Meaning.logic Rattle.rules.specs.Meaning.binop Rattle.rules.specs.Meaning.load Rattle.rules.specs.Meaning.bind_e Rattle.rules.specs.Meaning.eval Rattle.rules.specs.Meaning.tick Rattle.rules.specs.Meaning.on_e Rattle.rules.specs.Meaning.on_go Rattle.rules.specs.Meaning.storable Rattle.rules.specs.Meaning.load_d Rattle.rules.specs.Meaning.store Rattle.rules.specs.Meaning.in_labels Rattle.rules.specs.Meaning.passes Rattle.rules.specs.Meaning.on_pass Rattle.rules.specs.Meaning.loop_w Rattle.rules.specs.Meaning.loop_r Rattle.rules.specs.Meaning.loop_f Rattle.rules.specs.Meaning.exec Rattle.rules.specs.Meaning.ans_of Rattle.rules.specs.Meaning.meaning
opened_meaning = tt

unfoldable pub opened_codes : Unit {0}
unfolding Rattle.rules.specs.Codes.get1 Rattle.rules.specs.Codes.get2 Rattle.rules.specs.Codes.get4 Rattle.rules.specs.Codes.un_code Rattle.rules.specs.Codes.bin_code Rattle.rules.specs.Codes.readers Rattle.rules.specs.Codes.decode_op Rattle.rules.specs.Codes.decode Rattle.rules.specs.Codes.enc Rattle.rules.specs.Codes.enc_all
opened_codes = tt

unfoldable pub opened_translation : Unit {0}
unfolding Rattle.rules.specs.Translation.size_e Rattle.rules.specs.Translation.code_e Rattle.rules.specs.Translation.size_lb Rattle.rules.specs.Translation.code_lb Rattle.rules.specs.Translation.jlen Rattle.rules.specs.Translation.jmp Rattle.rules.specs.Translation.size_s Rattle.rules.specs.Translation.code_s Rattle.rules.specs.Translation.prog Rattle.rules.specs.Translation.code_of
opened_translation = tt

unfoldable pub opened_worst : Unit {0}
unfolding Rattle.rules.specs.Worst.add_w Rattle.rules.specs.Worst.max_w Rattle.rules.specs.Worst.con_of Rattle.rules.specs.Worst.neg_lit Rattle.rules.specs.Worst.lit_of Rattle.rules.specs.Worst.to_nat Rattle.rules.specs.Worst.pass_count Rattle.rules.specs.Worst.for_w Rattle.rules.specs.Worst.worst_s Rattle.rules.specs.Worst.figure
opened_worst = tt

unfoldable pub opened_image : Unit {0}
unfolding Rattle.rules.specs.Image.type_byte Rattle.rules.specs.Image.var_bytes Rattle.rules.specs.Image.figure_bytes Rattle.rules.specs.Image.image Rattle.rules.specs.Image.type_in Rattle.rules.specs.Image.variable_in Rattle.rules.specs.Image.before Rattle.rules.specs.Image.variables_in Rattle.rules.specs.Image.on_kind Rattle.rules.specs.Image.loaded_of Rattle.rules.specs.Image.image_in
opened_image = tt

unfoldable pub opened_machine : Unit {0}
unfolding Rattle.rules.specs.Machine.bump Rattle.rules.specs.Machine.view Rattle.rules.specs.Machine.is_tick Rattle.rules.specs.Machine.push_e Rattle.rules.specs.Machine.ok_jump Rattle.rules.specs.Machine.jump_to Rattle.rules.specs.Machine.push Rattle.rules.specs.Machine.push_r Rattle.rules.specs.Machine.first_on Rattle.rules.specs.Machine.next_on Rattle.rules.specs.Machine.act Rattle.rules.specs.Machine.step Rattle.rules.specs.Machine.finish Rattle.rules.specs.Machine.adv Rattle.rules.specs.Machine.seg Rattle.rules.specs.Machine.run Rattle.rules.specs.Machine.code_in Rattle.rules.specs.Machine.start
opened_machine = tt

unfoldable pub opened_run : Unit {0}
unfolding Rattle.rules.specs.Run.number Rattle.rules.specs.Run.report_of Rattle.rules.specs.Run.refused_run Rattle.rules.specs.Run.all_hold Rattle.rules.specs.Run.valid Rattle.rules.specs.Run.valid_for Rattle.rules.specs.Run.run_loaded Rattle.rules.specs.Run.run_image Rattle.rules.specs.Run.fill_loaded Rattle.rules.specs.Run.fill_image
opened_run = tt

unfoldable pub opened_compile : Unit {0}
unfolding Rattle.rules.specs.Compile.front Rattle.rules.specs.Compile.compiled Rattle.rules.specs.Compile.answer Rattle.rules.specs.Compile.compile Rattle.rules.specs.Compile.buffer_after Rattle.rules.specs.Compile.memory_after
opened_compile = tt

unfoldable pub opened_evaluate : Unit {0}
unfolding Rattle.rules.specs.Evaluate.told_of Rattle.rules.specs.Evaluate.told_by Rattle.rules.specs.Evaluate.evaluated Rattle.rules.specs.Evaluate.evaluate Rattle.rules.specs.Evaluate.table_after
opened_evaluate = tt

unfoldable pub opened : Unit {0}
unfolding opened_base opened_numbers opened_bytes opened_tokens opened_syntax opened_core opened_depth opened_walk opened_meaning opened_codes opened_translation opened_worst opened_image opened_machine opened_run opened_compile opened_evaluate
opened = tt
