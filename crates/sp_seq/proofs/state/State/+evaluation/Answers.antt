use Rattle.std.proofs.Common.{◌≡◌, ◌<◌, ◌^◌, ◌+◌, [], ◌∷◌, map, length, get_or, take, drop, refl, sym, ◌∙◌, ap, subst, rules, arith, All, length-take-le}
use Rattle.std.proofs.lemmas.List.{get_or_read, drop_more, drop_all, take_more_set, length-map}
use Rattle.std.proofs.lemmas.List.Elements.{All-push}
use Rattle.std.proofs.lemmas.Result.{IfOk-weaker}
use Rattle.sp_words.specs.Interface.{IsCount, word_count}
use Rattle.sp_words.specs.Types.{int_type, width_of}
use Rattle.sp_words.specs.Words.{IsWord, word_cast}
use Rattle.sp_tree.specs.declared.expression.Expr.{Expr}
use Rattle.sp_tree.specs.declared.expression.ExprKind.{Lit, Count, Val, GetReg, GetArg, GetSram, GetLine, Deq, One, Two, Shift, Mux, Cast, the_lemmas}
use Rattle.sp_tree.specs.Accesses.{read_cell, read_line, read_word, dequeue}
use Rattle.sp_tree.specs.Expressions.{dims, word_of, words}
use Rattle.sp_tree.specs.Operators.{two_word}
use Rattle.sp_tree.specs.Plain.{plain_expr, plain_exprs, plain_mem}
use Rattle.sp_tree.specs.Step.{went}
use Rattle.sp_tree.specs.Typing.{expr_count}
use Rattle.sp_seq.specs.declared.memory.Storage.TheVariants.{Cells, Queue, Rows}
use Rattle.sp_seq.specs.Evaluating.{placed}
use Rattle.sp_seq.specs.Places.{place_in}
use Rattle.sp_seq.specs.States.{store_of, Ran, IsLive}
use Rattle.sp_seq.proofs.EvaluationLemmas.{plain-GetSram, kind_typed, operand, can_later, word_is, eval_as, literal_went, count_went, value_went, reg_is, arg_is, deq_is, one_went, one_halted, two_went, two_halted, two_halted_later, shift_went, shift_halted, mux_went, mux_halted, mux_halted_second, mux_halted_third, cast_went, cast_halted, sram_can, sram_went, sram_halted, placed_went, placed_halted, line_halted, line_halted_later, line_went, line_outside, element_went, element_outside, count-exprs, index_typed, words_left, none_done, one_done, one_halted_of, all_done}
use Rattle.sp_seq.proofs.PlaceLemmas.{place_below, place_inside, place_outside, line_inside}
use Rattle.sp_seq.proofs.SeesLemmas.{setting_later, seen_mem, live_reg, live_sram, live_fifo, live_rows, keeps_same, keeps_on, dims_at, counts_of, sram_rank}
use Rattle.sp_seq.proofs.StepLemmas.{ran_stop, ran_stop_with}
use Rattle.sp_seq.proofs.state.State.+evaluation.Goals as goal

pub word-word-requires-in-One : goal.word-word-requires-in-One
word-word-requires-in-One t c =
    let a = c.args in
    let mems = map plain_mem a.decls.now in
    let e = a.e.now in
    let s = a.self.now in
    let typed = kind_typed e (One c.in-One.op c.in-One.a) c.requires c.in-One.is in
    (search (rules, the_lemmas), (operand c.requires _ c.in-One.a.value c.deref-in-One.ensures typed.0))

pub word-word-requires-in-Two : goal.word-word-requires-in-Two
word-word-requires-in-Two t c =
    let a = c.args in
    let mems = map plain_mem a.decls.now in
    let e = a.e.now in
    let s = a.self.now in
    let typed = kind_typed e (Two c.in-Two.op c.in-Two.a c.in-Two.b) c.requires c.in-Two.is in
    (search (rules, the_lemmas), (operand c.requires _ c.in-Two.a.value c.deref-in-Two.ensures typed.0))

pub word-word-requires-in-Two-2 : goal.word-word-requires-in-Two-2
word-word-requires-in-Two-2 t c =
    let a = c.args in
    let mems = map plain_mem a.decls.now in
    let e = a.e.now in
    let s = a.self.now in
    let typed = kind_typed e (Two c.in-Two.op c.in-Two.a c.in-Two.b) c.requires c.in-Two.is in
    (search (rules, the_lemmas), (can_later (operand c.requires _ c.in-Two.b.value c.deref-in-Two-2.ensures typed.1) c.in_ok-x-in-Two.ensures.keeps))

pub word-word-requires-in-Shift : goal.word-word-requires-in-Shift
word-word-requires-in-Shift t c =
    let a = c.args in
    let mems = map plain_mem a.decls.now in
    let e = a.e.now in
    let s = a.self.now in
    let typed = kind_typed e (Shift c.in-Shift.left c.in-Shift.a c.in-Shift.by) c.requires c.in-Shift.is in
    (search (rules, the_lemmas), (operand c.requires _ c.in-Shift.a.value c.deref-in-Shift.ensures typed.0))

pub word-word-requires-in-Mux : goal.word-word-requires-in-Mux
word-word-requires-in-Mux t c =
    let a = c.args in
    let mems = map plain_mem a.decls.now in
    let e = a.e.now in
    let s = a.self.now in
    let typed = kind_typed e (Mux c.in-Mux.c c.in-Mux.a c.in-Mux.b) c.requires c.in-Mux.is in
    (search (rules, the_lemmas), (operand c.requires _ c.in-Mux.c.value c.deref-in-Mux.ensures typed.0))

pub word-word-requires-in-Mux-2 : goal.word-word-requires-in-Mux-2
word-word-requires-in-Mux-2 t c =
    let a = c.args in
    let mems = map plain_mem a.decls.now in
    let e = a.e.now in
    let s = a.self.now in
    let typed = kind_typed e (Mux c.in-Mux.c c.in-Mux.a c.in-Mux.b) c.requires c.in-Mux.is in
    (search (rules, the_lemmas), (can_later (operand c.requires _ c.in-Mux.a.value c.deref-in-Mux-2.ensures typed.2) c.in_ok-x-in-Mux.ensures.keeps))

pub word-word-requires-in-Mux-3 : goal.word-word-requires-in-Mux-3
word-word-requires-in-Mux-3 t c =
    let a = c.args in
    let mems = map plain_mem a.decls.now in
    let e = a.e.now in
    let s = a.self.now in
    let typed = kind_typed e (Mux c.in-Mux.c c.in-Mux.a c.in-Mux.b) c.requires c.in-Mux.is in
    (search (rules, the_lemmas), (can_later (can_later (operand c.requires _ c.in-Mux.b.value c.deref-in-Mux-3.ensures typed.4) c.in_ok-x-in-Mux.ensures.keeps) c.in_ok-y-in-Mux.ensures.keeps))

pub word-word-requires-in-Cast : goal.word-word-requires-in-Cast
word-word-requires-in-Cast t c =
    let a = c.args in
    let mems = map plain_mem a.decls.now in
    let e = a.e.now in
    let s = a.self.now in
    let typed = kind_typed e (Cast c.in-Cast.a) c.requires c.in-Cast.is in
    (search (rules, the_lemmas), (operand c.requires _ c.in-Cast.a.value c.deref-in-Cast.ensures typed))

pub word-word-requires : goal.word-word-requires
word-word-requires t c =
    let a = c.args in
    let mems = map plain_mem a.decls.now in
    let e = a.e.now in
    let s = a.self.now in
    let typed = kind_typed e (GetLine c.in-GetLine.port c.in-GetLine.row c.in-GetLine.column) c.requires c.in-GetLine.is in
    (search (rules, the_lemmas), (operand c.requires _ c.in-GetLine.row.value c.deref-in-GetLine.ensures typed.1))

pub word-word-requires-in-GetLine : goal.word-word-requires-in-GetLine
word-word-requires-in-GetLine t c =
    let a = c.args in
    let mems = map plain_mem a.decls.now in
    let e = a.e.now in
    let s = a.self.now in
    let typed = kind_typed e (GetLine c.in-GetLine.port c.in-GetLine.row c.in-GetLine.column) c.requires c.in-GetLine.is in
    (search (rules, the_lemmas), (can_later (operand c.requires _ c.in-GetLine.column.value c.deref-in-GetLine-2.ensures typed.3) c.in_ok-r-in-GetLine.ensures.keeps))

pub word-returns-in_err-x-in-One-clause-ran : goal.word-returns-in_err-x-in-One-clause-ran
word-returns-in_err-x-in-One-clause-ran t c =
    let a = c.args in
    let mems = map plain_mem a.decls.now in
    let e = a.e.now in
    let s = a.self.now in
    ran_stop _ _ _ c.in_err-x-in-One.field-0.0 c.from_residual-in_err-x-in-One.ensures.1
    (word_is mems e (One c.in-One.op c.in-One.a) s.left (store_of s) c.in-One.is
    ∙ one_halted mems e.at e.ty s.left (store_of s) c.in-One.op (plain_expr c.in-One.a.value) c.in_err-x-in-One.field-0.0
    (eval_as mems s.left (store_of s) _ c.in-One.a.value _ c.deref-in-One.ensures c.in_err-x-in-One.ensures.ran))

pub word-returns-in_err-x-in-Two-clause-ran : goal.word-returns-in_err-x-in-Two-clause-ran
word-returns-in_err-x-in-Two-clause-ran t c =
    let a = c.args in
    let mems = map plain_mem a.decls.now in
    let e = a.e.now in
    let s = a.self.now in
    ran_stop _ _ _ c.in_err-x-in-Two.field-0.0 c.from_residual-in_err-x-in-Two.ensures.1
    (word_is mems e (Two c.in-Two.op c.in-Two.a c.in-Two.b) s.left (store_of s) c.in-Two.is
    ∙ two_halted mems e.at e.ty s.left (store_of s) c.in-Two.op (plain_expr c.in-Two.a.value) (plain_expr c.in-Two.b.value) c.in_err-x-in-Two.field-0.0
    (eval_as mems s.left (store_of s) _ c.in-Two.a.value _ c.deref-in-Two.ensures c.in_err-x-in-Two.ensures.ran))

pub word-returns-in_err-y-in-Two-clause-ran : goal.word-returns-in_err-y-in-Two-clause-ran
word-returns-in_err-y-in-Two-clause-ran t c =
    let a = c.args in
    let mems = map plain_mem a.decls.now in
    let e = a.e.now in
    let s = a.self.now in
    ran_stop _ _ _ c.in_err-y-in-Two.field-0.0 c.from_residual-in_err-y-in-Two.ensures.1
    (word_is mems e (Two c.in-Two.op c.in-Two.a c.in-Two.b) s.left (store_of s) c.in-Two.is
    ∙ two_halted_later mems e.at e.ty s.left (store_of s) c.in-Two.op (plain_expr c.in-Two.a.value) (plain_expr c.in-Two.b.value) c.in_ok-x-in-Two.x c.word-in-Two.new.self.left (store_of c.word-in-Two.new.self) c.in_err-y-in-Two.field-0.0
    (eval_as mems s.left (store_of s) _ c.in-Two.a.value _ c.deref-in-Two.ensures c.in_ok-x-in-Two.ensures.ran) (eval_as mems c.word-in-Two.new.self.left (store_of c.word-in-Two.new.self) _ c.in-Two.b.value _ c.deref-in-Two-2.ensures c.in_err-y-in-Two.ensures.ran))

pub word-returns-in_err-x-in-Shift-clause-ran : goal.word-returns-in_err-x-in-Shift-clause-ran
word-returns-in_err-x-in-Shift-clause-ran t c =
    let a = c.args in
    let mems = map plain_mem a.decls.now in
    let e = a.e.now in
    let s = a.self.now in
    ran_stop _ _ _ c.in_err-x-in-Shift.field-0.0 c.from_residual-in_err-x-in-Shift.ensures.1
    (word_is mems e (Shift c.in-Shift.left c.in-Shift.a c.in-Shift.by) s.left (store_of s) c.in-Shift.is
    ∙ shift_halted mems e.at e.ty s.left (store_of s) c.in-Shift.left (plain_expr c.in-Shift.a.value) c.in-Shift.by c.in_err-x-in-Shift.field-0.0
    (eval_as mems s.left (store_of s) _ c.in-Shift.a.value _ c.deref-in-Shift.ensures c.in_err-x-in-Shift.ensures.ran))

pub word-returns-in_err-x-in-Mux-clause-ran : goal.word-returns-in_err-x-in-Mux-clause-ran
word-returns-in_err-x-in-Mux-clause-ran t c =
    let a = c.args in
    let mems = map plain_mem a.decls.now in
    let e = a.e.now in
    let s = a.self.now in
    ran_stop _ _ _ c.in_err-x-in-Mux.field-0.0 c.from_residual-in_err-x-in-Mux.ensures.1
    (word_is mems e (Mux c.in-Mux.c c.in-Mux.a c.in-Mux.b) s.left (store_of s) c.in-Mux.is
    ∙ mux_halted mems e.at e.ty s.left (store_of s) (plain_expr c.in-Mux.c.value) (plain_expr c.in-Mux.a.value) (plain_expr c.in-Mux.b.value) c.in_err-x-in-Mux.field-0.0
    (eval_as mems s.left (store_of s) _ c.in-Mux.c.value _ c.deref-in-Mux.ensures c.in_err-x-in-Mux.ensures.ran))

pub word-returns-in_err-y-in-Mux-clause-ran : goal.word-returns-in_err-y-in-Mux-clause-ran
word-returns-in_err-y-in-Mux-clause-ran t c =
    let a = c.args in
    let mems = map plain_mem a.decls.now in
    let e = a.e.now in
    let s = a.self.now in
    ran_stop _ _ _ c.in_err-y-in-Mux.field-0.0 c.from_residual-in_err-y-in-Mux.ensures.1
    (word_is mems e (Mux c.in-Mux.c c.in-Mux.a c.in-Mux.b) s.left (store_of s) c.in-Mux.is
    ∙ mux_halted_second mems e.at e.ty s.left (store_of s) (plain_expr c.in-Mux.c.value) (plain_expr c.in-Mux.a.value) (plain_expr c.in-Mux.b.value) c.in_ok-x-in-Mux.x c.word-in-Mux.new.self.left (store_of c.word-in-Mux.new.self) c.in_err-y-in-Mux.field-0.0
    (eval_as mems s.left (store_of s) _ c.in-Mux.c.value _ c.deref-in-Mux.ensures c.in_ok-x-in-Mux.ensures.ran) (eval_as mems c.word-in-Mux.new.self.left (store_of c.word-in-Mux.new.self) _ c.in-Mux.a.value _ c.deref-in-Mux-2.ensures c.in_err-y-in-Mux.ensures.ran))

pub word-returns-in_err-z-in-Mux-clause-ran : goal.word-returns-in_err-z-in-Mux-clause-ran
word-returns-in_err-z-in-Mux-clause-ran t c =
    let a = c.args in
    let mems = map plain_mem a.decls.now in
    let e = a.e.now in
    let s = a.self.now in
    ran_stop _ _ _ c.in_err-z-in-Mux.field-0.0 c.from_residual-in_err-z-in-Mux.ensures.1
    (word_is mems e (Mux c.in-Mux.c c.in-Mux.a c.in-Mux.b) s.left (store_of s) c.in-Mux.is
    ∙ mux_halted_third mems e.at e.ty s.left (store_of s) (plain_expr c.in-Mux.c.value) (plain_expr c.in-Mux.a.value) (plain_expr c.in-Mux.b.value) c.in_ok-x-in-Mux.x c.word-in-Mux.new.self.left (store_of c.word-in-Mux.new.self) c.in_ok-y-in-Mux.y c.word-in-Mux-2.new.self.left (store_of c.word-in-Mux-2.new.self) c.in_err-z-in-Mux.field-0.0
    (eval_as mems s.left (store_of s) _ c.in-Mux.c.value _ c.deref-in-Mux.ensures c.in_ok-x-in-Mux.ensures.ran) (eval_as mems c.word-in-Mux.new.self.left (store_of c.word-in-Mux.new.self) _ c.in-Mux.a.value _ c.deref-in-Mux-2.ensures c.in_ok-y-in-Mux.ensures.ran) (eval_as mems c.word-in-Mux-2.new.self.left (store_of c.word-in-Mux-2.new.self) _ c.in-Mux.b.value _ c.deref-in-Mux-3.ensures c.in_err-z-in-Mux.ensures.ran))

pub word-returns-in_err-x-in-Cast-clause-ran : goal.word-returns-in_err-x-in-Cast-clause-ran
word-returns-in_err-x-in-Cast-clause-ran t c =
    let a = c.args in
    let mems = map plain_mem a.decls.now in
    let e = a.e.now in
    let s = a.self.now in
    ran_stop _ _ _ c.in_err-x-in-Cast.field-0.0 c.from_residual-in_err-x-in-Cast.ensures.1
    (word_is mems e (Cast c.in-Cast.a) s.left (store_of s) c.in-Cast.is
    ∙ cast_halted mems e.at e.ty s.left (store_of s) (plain_expr c.in-Cast.a.value) c.in_err-x-in-Cast.field-0.0
    (eval_as mems s.left (store_of s) _ c.in-Cast.a.value _ c.deref-in-Cast.ensures c.in_err-x-in-Cast.ensures.ran))

pub word-returns-in_err-r-in-GetLine-clause-ran : goal.word-returns-in_err-r-in-GetLine-clause-ran
word-returns-in_err-r-in-GetLine-clause-ran t c =
    let a = c.args in
    let mems = map plain_mem a.decls.now in
    let e = a.e.now in
    let s = a.self.now in
    ran_stop _ _ _ c.in_err-r-in-GetLine.field-0.0 c.from_residual-in_err-r-in-GetLine.ensures.1
    (word_is mems e (GetLine c.in-GetLine.port c.in-GetLine.row c.in-GetLine.column) s.left (store_of s) c.in-GetLine.is
    ∙ line_halted mems e.at e.ty s.left (store_of s) c.in-GetLine.port (plain_expr c.in-GetLine.row.value) (plain_expr c.in-GetLine.column.value) c.in_err-r-in-GetLine.field-0.0
    (eval_as mems s.left (store_of s) _ c.in-GetLine.row.value _ c.deref-in-GetLine.ensures c.in_err-r-in-GetLine.ensures.ran))

pub word-returns-in_err-c-in-GetLine-clause-ran : goal.word-returns-in_err-c-in-GetLine-clause-ran
word-returns-in_err-c-in-GetLine-clause-ran t c =
    let a = c.args in
    let mems = map plain_mem a.decls.now in
    let e = a.e.now in
    let s = a.self.now in
    ran_stop _ _ _ c.in_err-c-in-GetLine.field-0.0 c.from_residual-in_err-c-in-GetLine.ensures.1
    (word_is mems e (GetLine c.in-GetLine.port c.in-GetLine.row c.in-GetLine.column) s.left (store_of s) c.in-GetLine.is
    ∙ line_halted_later mems e.at e.ty s.left (store_of s) c.in-GetLine.port (plain_expr c.in-GetLine.row.value) (plain_expr c.in-GetLine.column.value) c.in_ok-r-in-GetLine.r c.word.new.self.left (store_of c.word.new.self) c.in_err-c-in-GetLine.field-0.0
    (eval_as mems s.left (store_of s) _ c.in-GetLine.row.value _ c.deref-in-GetLine.ensures c.in_ok-r-in-GetLine.ensures.ran) (eval_as mems c.word.new.self.left (store_of c.word.new.self) _ c.in-GetLine.column.value _ c.deref-in-GetLine-2.ensures c.in_err-c-in-GetLine.ensures.ran))

pub word-returns-in_ok-x-in-One-clause-ran : goal.word-returns-in_ok-x-in-One-clause-ran
word-returns-in_ok-x-in-One-clause-ran t c =
    let a = c.args in
    let mems = map plain_mem a.decls.now in
    let e = a.e.now in
    let s = a.self.now in
    word_is mems e (One c.in-One.op c.in-One.a) s.left (store_of s) c.in-One.is
    ∙ one_went mems e.at e.ty s.left (store_of s) c.in-One.op (plain_expr c.in-One.a.value) c.in_ok-x-in-One.x c.word-in-One.new.self.left (store_of c.word-in-One.new.self)
    (eval_as mems s.left (store_of s) _ c.in-One.a.value _ c.deref-in-One.ensures c.in_ok-x-in-One.ensures.ran)
    ∙ ap (λ w. went w c.word-in-One.new.self.left (store_of c.word-in-One.new.self)) (sym (c.one_word.ensures.value))

pub word-returns-in_ok-y-in-Two-clause-ran : goal.word-returns-in_ok-y-in-Two-clause-ran
word-returns-in_ok-y-in-Two-clause-ran t c =
    let a = c.args in
    let mems = map plain_mem a.decls.now in
    let e = a.e.now in
    let s = a.self.now in
    word_is mems e (Two c.in-Two.op c.in-Two.a c.in-Two.b) s.left (store_of s) c.in-Two.is
    ∙ two_went mems e.at e.ty s.left (store_of s) c.in-Two.op (plain_expr c.in-Two.a.value) (plain_expr c.in-Two.b.value) c.in_ok-x-in-Two.x c.word-in-Two.new.self.left (store_of c.word-in-Two.new.self) c.in_ok-y-in-Two.y c.word-in-Two-2.new.self.left (store_of c.word-in-Two-2.new.self)
    (eval_as mems s.left (store_of s) _ c.in-Two.a.value _ c.deref-in-Two.ensures c.in_ok-x-in-Two.ensures.ran)
    (eval_as mems c.word-in-Two.new.self.left (store_of c.word-in-Two.new.self) _ c.in-Two.b.value _ c.deref-in-Two-2.ensures c.in_ok-y-in-Two.ensures.ran)
    ∙ ap (λ w. went w c.word-in-Two-2.new.self.left (store_of c.word-in-Two-2.new.self)) (sym (c.two_word.ensures.value ∙ ap (λ (z : Expr). two_word c.in-Two.op z.ty c.in_ok-x-in-Two.x c.in_ok-y-in-Two.y) c.deref-in-Two-3.ensures))

pub word-returns-in_ok-x-in-Shift-clause-ran : goal.word-returns-in_ok-x-in-Shift-clause-ran
word-returns-in_ok-x-in-Shift-clause-ran t c =
    let a = c.args in
    let mems = map plain_mem a.decls.now in
    let e = a.e.now in
    let s = a.self.now in
    word_is mems e (Shift c.in-Shift.left c.in-Shift.a c.in-Shift.by) s.left (store_of s) c.in-Shift.is
    ∙ shift_went mems e.at e.ty s.left (store_of s) c.in-Shift.left (plain_expr c.in-Shift.a.value) c.in-Shift.by c.in_ok-x-in-Shift.x c.word-in-Shift.new.self.left (store_of c.word-in-Shift.new.self)
    (eval_as mems s.left (store_of s) _ c.in-Shift.a.value _ c.deref-in-Shift.ensures c.in_ok-x-in-Shift.ensures.ran)
    ∙ ap (λ w. went w c.word-in-Shift.new.self.left (store_of c.word-in-Shift.new.self)) (sym (c.shifted.ensures.value))

pub word-returns-in_ok-z-in-Mux-clause-ran : goal.word-returns-in_ok-z-in-Mux-clause-ran
word-returns-in_ok-z-in-Mux-clause-ran t c =
    let a = c.args in
    let mems = map plain_mem a.decls.now in
    let e = a.e.now in
    let s = a.self.now in
    word_is mems e (Mux c.in-Mux.c c.in-Mux.a c.in-Mux.b) s.left (store_of s) c.in-Mux.is
    ∙ mux_went mems e.at e.ty s.left (store_of s) (plain_expr c.in-Mux.c.value) (plain_expr c.in-Mux.a.value) (plain_expr c.in-Mux.b.value) c.in_ok-x-in-Mux.x c.word-in-Mux.new.self.left (store_of c.word-in-Mux.new.self) c.in_ok-y-in-Mux.y c.word-in-Mux-2.new.self.left (store_of c.word-in-Mux-2.new.self) c.in_ok-z-in-Mux.z c.word-in-Mux-3.new.self.left (store_of c.word-in-Mux-3.new.self)
    (eval_as mems s.left (store_of s) _ c.in-Mux.c.value _ c.deref-in-Mux.ensures c.in_ok-x-in-Mux.ensures.ran)
    (eval_as mems c.word-in-Mux.new.self.left (store_of c.word-in-Mux.new.self) _ c.in-Mux.a.value _ c.deref-in-Mux-2.ensures c.in_ok-y-in-Mux.ensures.ran)
    (eval_as mems c.word-in-Mux-2.new.self.left (store_of c.word-in-Mux-2.new.self) _ c.in-Mux.b.value _ c.deref-in-Mux-3.ensures c.in_ok-z-in-Mux.ensures.ran)
    ∙ ap (λ w. went w c.word-in-Mux-3.new.self.left (store_of c.word-in-Mux-3.new.self)) (sym (c.chosen.ensures))

pub word-returns-in_ok-x-in-Cast-clause-ran : goal.word-returns-in_ok-x-in-Cast-clause-ran
word-returns-in_ok-x-in-Cast-clause-ran t c =
    let a = c.args in
    let mems = map plain_mem a.decls.now in
    let e = a.e.now in
    let s = a.self.now in
    word_is mems e (Cast c.in-Cast.a) s.left (store_of s) c.in-Cast.is
    ∙ cast_went mems e.at e.ty s.left (store_of s) (plain_expr c.in-Cast.a.value) c.in_ok-x-in-Cast.x c.word-in-Cast.new.self.left (store_of c.word-in-Cast.new.self)
    (eval_as mems s.left (store_of s) _ c.in-Cast.a.value _ c.deref-in-Cast.ensures c.in_ok-x-in-Cast.ensures.ran)
    ∙ ap (λ w. went w c.word-in-Cast.new.self.left (store_of c.word-in-Cast.new.self)) (sym (c.cast.ensures.value ∙ ap (λ (z : Expr). word_cast z.ty e.ty c.in_ok-x-in-Cast.x) c.deref-in-Cast-2.ensures))

pub word-index-requires : goal.word-index-requires
word-index-requires t c =
    let a = c.args in
    let mems = map plain_mem a.decls.now in
    let e = a.e.now in
    let s = a.self.now in
    let typed = kind_typed e (Count c.in-Count.counter) c.requires c.in-Count.is in
    let inside = (c.requires.setting.sees.counters c.in-Count.counter typed.0).0 in
    omega (arith, s.counts.ok.0, c.number.ensures)

pub word-index-requires-in-Val : goal.word-index-requires-in-Val
word-index-requires-in-Val t c =
    let a = c.args in
    let mems = map plain_mem a.decls.now in
    let e = a.e.now in
    let s = a.self.now in
    let typed = kind_typed e (Val c.in-Val.value) c.requires c.in-Val.is in
    let inside = (c.requires.setting.sees.values c.in-Val.value e.ty typed).0 in
    omega (arith, s.values.ok.0, c.number-in-Val.ensures)

pub word-returns-in-Lit-clause-ran : goal.word-returns-in-Lit-clause-ran
word-returns-in-Lit-clause-ran t c =
    let a = c.args in
    let mems = map plain_mem a.decls.now in
    let e = a.e.now in
    let s = a.self.now in
    word_is mems e (Lit c.in-Lit.word) s.left (store_of s) c.in-Lit.is ∙ literal_went mems e.at e.ty s.left (store_of s) c.in-Lit.word

pub word-returns-in-Count-clause-ran : goal.word-returns-in-Count-clause-ran
word-returns-in-Count-clause-ran t c =
    let a = c.args in
    let mems = map plain_mem a.decls.now in
    let e = a.e.now in
    let s = a.self.now in
    let typed = kind_typed e (Count c.in-Count.counter) c.requires c.in-Count.is in
    let inside = (c.requires.setting.sees.counters c.in-Count.counter typed.0).0 in
    let here : c.number.result < length s.counts.items = omega (arith, c.number.ensures) in
    word_is mems e (Count c.in-Count.counter) s.left (store_of s) c.in-Count.is ∙ count_went mems e.at e.ty s c.in-Count.counter c.index.result.now (get_or_read s.counts.items c.number.result c.index.result.now here c.index.ensures 0 ∙ ap (λ k. get_or s.counts.items k 0) c.number.ensures)

pub word-returns-in-Val-clause-ran : goal.word-returns-in-Val-clause-ran
word-returns-in-Val-clause-ran t c =
    let a = c.args in
    let mems = map plain_mem a.decls.now in
    let e = a.e.now in
    let s = a.self.now in
    let typed = kind_typed e (Val c.in-Val.value) c.requires c.in-Val.is in
    let inside = (c.requires.setting.sees.values c.in-Val.value e.ty typed).0 in
    let here : c.number-in-Val.result < length s.values.items = omega (arith, c.number-in-Val.ensures) in
    word_is mems e (Val c.in-Val.value) s.left (store_of s) c.in-Val.is ∙ value_went mems e.at e.ty s c.in-Val.value c.index-in-Val.result.now (get_or_read s.values.items c.number-in-Val.result c.index-in-Val.result.now here c.index-in-Val.ensures 0 ∙ ap (λ k. get_or s.values.items k 0) c.number-in-Val.ensures)

pub word-returns-in-GetReg-clause-ran : goal.word-returns-in-GetReg-clause-ran
word-returns-in-GetReg-clause-ran t c =
    let a = c.args in
    let mems = map plain_mem a.decls.now in
    let e = a.e.now in
    let s = a.self.now in
    subst (λ w. Ran w c.read_cell.result s) (sym (word_is mems e (GetReg c.in-GetReg.port) s.left (store_of s) c.in-GetReg.is ∙ reg_is mems e.at e.ty s.left (store_of s) c.in-GetReg.port ∙ ap (λ m. read_cell m 0 e.at s.left (store_of s)) (sym c.number-in-GetReg.ensures))) c.read_cell.ensures.ran

pub word-returns-in-GetReg-clause-fits : goal.word-returns-in-GetReg-clause-fits
word-returns-in-GetReg-clause-fits t c =
    let a = c.args in
    let mems = map plain_mem a.decls.now in
    let e = a.e.now in
    let s = a.self.now in
    let typed = kind_typed e (GetReg c.in-GetReg.port) c.requires c.in-GetReg.is in
    let live = live_reg (seen_mem c.requires.setting c.in-GetReg.port _ e.ty typed) in
    IfOk-weaker _ _ _ (λ w f. subst (λ n. w < 2 ^ n) live.2 (f live.0 (subst (λ m. IsLive s m (Cells live.0)) (sym c.number-in-GetReg.ensures) live.1))) c.read_cell.ensures.fits

pub word-returns-in-GetArg-clause-ran : goal.word-returns-in-GetArg-clause-ran
word-returns-in-GetArg-clause-ran t c =
    let a = c.args in
    let mems = map plain_mem a.decls.now in
    let e = a.e.now in
    let s = a.self.now in
    word_is mems e (GetArg c.in-GetArg.port) s.left (store_of s) c.in-GetArg.is ∙ arg_is mems e.at e.ty s.left (store_of s) c.in-GetArg.port ∙ ap (λ m. read_word m 0 s.left (store_of s)) (sym c.number-in-GetArg.ensures) ∙ c.read_word.ensures.ran

pub word-dequeue-requires : goal.word-dequeue-requires
word-dequeue-requires t c =
    let a = c.args in
    let mems = map plain_mem a.decls.now in
    let e = a.e.now in
    let s = a.self.now in
    let typed = kind_typed e (Deq c.in-Deq.port) c.requires c.in-Deq.is in
    let live = live_fifo (seen_mem c.requires.setting c.in-Deq.port _ e.ty typed) in
    (live.0, subst (λ m. IsLive s m (Queue live.0)) (sym c.number-in-Deq.ensures) live.1)

pub word-returns-in-Deq-clause-ran : goal.word-returns-in-Deq-clause-ran
word-returns-in-Deq-clause-ran t c =
    let a = c.args in
    let mems = map plain_mem a.decls.now in
    let e = a.e.now in
    let s = a.self.now in
    subst (λ w. Ran w c.dequeue.result c.dequeue.new.self) (sym (word_is mems e (Deq c.in-Deq.port) s.left (store_of s) c.in-Deq.is ∙ deq_is mems e.at e.ty s.left (store_of s) c.in-Deq.port ∙ ap (λ m. dequeue m e.at s.left (store_of s)) (sym c.number-in-Deq.ensures))) c.dequeue.ensures.ran

pub word-returns-in-Deq-clause-fits : goal.word-returns-in-Deq-clause-fits
word-returns-in-Deq-clause-fits t c =
    let a = c.args in
    let mems = map plain_mem a.decls.now in
    let e = a.e.now in
    let s = a.self.now in
    let typed = kind_typed e (Deq c.in-Deq.port) c.requires c.in-Deq.is in
    let live = live_fifo (seen_mem c.requires.setting c.in-Deq.port _ e.ty typed) in
    IfOk-weaker _ _ _ (λ w f. subst (λ n. w < 2 ^ n) live.2 (f live.0 (subst (λ m. IsLive s m (Queue live.0)) (sym c.number-in-Deq.ensures) live.1))) c.dequeue.ensures.fits

pub word-element-requires : goal.word-element-requires
word-element-requires t c =
    let a = c.args in
    let mems = map plain_mem a.decls.now in
    let e = a.e.now in
    let s = a.self.now in
    (search (rules, the_lemmas), (e.ty, sram_can e c.in-GetSram.port c.in-GetSram.indices c.requires c.in-GetSram.is c.number-in-GetSram.result c.deref.result.now c.number-in-GetSram.ensures c.deref.ensures.value))

pub word-read_cell-requires-in-GetSram : goal.word-read_cell-requires-in-GetSram
word-read_cell-requires-in-GetSram t c =
    let a = c.args in
    let mems = map plain_mem a.decls.now in
    let e = a.e.now in
    let s = a.self.now in
    let can = sram_can e c.in-GetSram.port c.in-GetSram.indices c.requires c.in-GetSram.is c.in-GetSram.port c.in-GetSram.indices.items refl refl in
    let u = c.element.new.self in
    let next = setting_later can.setting c.in_ok-at-in-GetSram.ensures.keeps in
    let live = live_sram (seen_mem next c.in-GetSram.port _ e.ty can.typed.0) in
    let size = ap (λ m. word_count (dims mems m)) c.number-in-GetSram.ensures in
    (live.0, subst (λ m. IsLive u m (Cells live.0)) (sym c.number-in-GetSram-2.ensures) live.1, omega (arith, live.3, size, c.in_ok-at-in-GetSram.ensures.inside))

pub word-returns-in_err-at-in-GetSram-clause-ran : goal.word-returns-in_err-at-in-GetSram-clause-ran
word-returns-in_err-at-in-GetSram-clause-ran t c =
    let a = c.args in
    let mems = map plain_mem a.decls.now in
    let e = a.e.now in
    let s = a.self.now in
    let placed_by = ap (λ m. placed mems m e.at (plain_exprs c.deref.result.now) s.left (store_of s)) (sym c.number-in-GetSram.ensures) in
    let placed_of = ap (λ xs. placed mems c.in-GetSram.port e.at (plain_exprs xs) s.left (store_of s)) (sym c.deref.ensures.value) in
    ran_stop _ _ _ c.in_err-at-in-GetSram.field-0.0 c.from_residual.ensures.1
    (word_is mems e (GetSram c.in-GetSram.port c.in-GetSram.indices) s.left (store_of s) c.in-GetSram.is ∙ ap (λ k. word_of mems k e.at e.ty s.left (store_of s)) (plain-GetSram c.in-GetSram.port c.in-GetSram.indices)
    ∙ sram_halted mems e.at e.ty s.left (store_of s) c.in-GetSram.port (plain_exprs c.in-GetSram.indices.items) c.in_err-at-in-GetSram.field-0.0 (placed_of ∙ placed_by ∙ c.in_err-at-in-GetSram.ensures.ran))

pub word-returns-in_ok-at-in-GetSram-clause-ran : goal.word-returns-in_ok-at-in-GetSram-clause-ran
word-returns-in_ok-at-in-GetSram-clause-ran t c =
    let a = c.args in
    let mems = map plain_mem a.decls.now in
    let e = a.e.now in
    let s = a.self.now in
    let placed_by = ap (λ m. placed mems m e.at (plain_exprs c.deref.result.now) s.left (store_of s)) (sym c.number-in-GetSram.ensures) in
    let placed_of = ap (λ xs. placed mems c.in-GetSram.port e.at (plain_exprs xs) s.left (store_of s)) (sym c.deref.ensures.value) in
    let u = c.element.new.self in
    let at = c.in_ok-at-in-GetSram.at in
    subst (λ w. Ran w c.read_cell-in-GetSram.result u) (sym (word_is mems e (GetSram c.in-GetSram.port c.in-GetSram.indices) s.left (store_of s) c.in-GetSram.is ∙ ap (λ k. word_of mems k e.at e.ty s.left (store_of s)) (plain-GetSram c.in-GetSram.port c.in-GetSram.indices)
    ∙ sram_went mems e.at e.ty s.left (store_of s) c.in-GetSram.port (plain_exprs c.in-GetSram.indices.items) at u.left (store_of u) (placed_of ∙ placed_by ∙ c.in_ok-at-in-GetSram.ensures.ran)
    ∙ ap (λ m. read_cell m at e.at u.left (store_of u)) (sym c.number-in-GetSram-2.ensures))) c.read_cell-in-GetSram.ensures.ran

pub word-returns-in_ok-at-in-GetSram-clause-fits : goal.word-returns-in_ok-at-in-GetSram-clause-fits
word-returns-in_ok-at-in-GetSram-clause-fits t c =
    let a = c.args in
    let mems = map plain_mem a.decls.now in
    let e = a.e.now in
    let s = a.self.now in
    let can = sram_can e c.in-GetSram.port c.in-GetSram.indices c.requires c.in-GetSram.is c.in-GetSram.port c.in-GetSram.indices.items refl refl in
    let u = c.element.new.self in
    let next = setting_later can.setting c.in_ok-at-in-GetSram.ensures.keeps in
    let live = live_sram (seen_mem next c.in-GetSram.port _ e.ty can.typed.0) in
    IfOk-weaker _ _ _ (λ w f. subst (λ n. w < 2 ^ n) live.2 (f live.0 (subst (λ m. IsLive u m (Cells live.0)) (sym c.number-in-GetSram-2.ensures) live.1))) c.read_cell-in-GetSram.ensures.fits

pub element-words-requires : goal.element-words-requires
element-words-requires t c =
    let a = c.args in
    let mems = map plain_mem a.decls.now in
    let s = a.self.now in
    let h = c.requires.1 in
    let seen = seen_mem h.setting a.memory _ c.requires.0 h.typed.0 in
    let few = sram_rank h.setting a.memory c.requires.0 seen in
    let rank = subst (λ ms. expr_count (plain_exprs a.indices.now) ≡ length (dims ms a.memory)) h.setting.same h.typed.1 in
    let count = count-exprs a.indices.now in
    (search (rules, the_lemmas), (omega arith, record { setting = h.setting; typed = h.typed.2 }))

pub element-returns-in_err-words-clause-ran : goal.element-returns-in_err-words-clause-ran
element-returns-in_err-words-clause-ran t c =
    let a = c.args in
    let mems = map plain_mem a.decls.now in
    let s = a.self.now in
    let h = c.requires.1 in
    let seen = seen_mem h.setting a.memory _ c.requires.0 h.typed.0 in
    let few = sram_rank h.setting a.memory c.requires.0 seen in
    let rank = subst (λ ms. expr_count (plain_exprs a.indices.now) ≡ length (dims ms a.memory)) h.setting.same h.typed.1 in
    let count = count-exprs a.indices.now in
    let step = words mems (plain_exprs a.indices.now) in
    ran_stop _ _ _ c.in_err-words.field-0.0 c.from_residual.ensures.1 (placed_halted mems a.memory a.at (plain_exprs a.indices.now) s.left (store_of s) c.in_err-words.field-0.0 c.in_err-words.ensures.ran)

pub element-slice_bounds-found-end : goal.element-slice_bounds-found-end
element-slice_bounds-found-end t c =
    let a = c.args in
    let mems = map plain_mem a.decls.now in
    let s = a.self.now in
    let h = c.requires.1 in
    let seen = seen_mem h.setting a.memory _ c.requires.0 h.typed.0 in
    let few = sram_rank h.setting a.memory c.requires.0 seen in
    let rank = subst (λ ms. expr_count (plain_exprs a.indices.now) ≡ length (dims ms a.memory)) h.setting.same h.typed.1 in
    let count = count-exprs a.indices.now in
    omega arith

pub element-slice_bounds-place-end : goal.element-slice_bounds-place-end
element-slice_bounds-place-end t c =
    let a = c.args in
    let mems = map plain_mem a.decls.now in
    let s = a.self.now in
    let h = c.requires.1 in
    let seen = seen_mem h.setting a.memory _ c.requires.0 h.typed.0 in
    let few = sram_rank h.setting a.memory c.requires.0 seen in
    let rank = subst (λ ms. expr_count (plain_exprs a.indices.now) ≡ length (dims ms a.memory)) h.setting.same h.typed.1 in
    let count = count-exprs a.indices.now in
    sym (length-take-le (length a.indices.now) c.words.new.found (omega arith))

pub element-place-requires-clause-dims : goal.element-place-requires-clause-dims
element-place-requires-clause-dims t c =
    let a = c.args in
    let mems = map plain_mem a.decls.now in
    let s = a.self.now in
    let h = c.requires.1 in
    let seen = seen_mem h.setting a.memory _ c.requires.0 h.typed.0 in
    let few = sram_rank h.setting a.memory c.requires.0 seen in
    let rank = subst (λ ms. expr_count (plain_exprs a.indices.now) ≡ length (dims ms a.memory)) h.setting.same h.typed.1 in
    let count = count-exprs a.indices.now in
    let inside : a.memory < length a.decls.now = omega (arith, seen.inside, length-map a.decls.now plain_mem) in
    let same = dims_at a.decls.now a.memory c.index-decls-memory.result inside ∙ sym c.deref.ensures.value in
    subst (λ ds. All IsCount ds) same (counts_of h.setting a.memory seen.inside)

pub element-place-requires-clause-size : goal.element-place-requires-clause-size
element-place-requires-clause-size t c =
    let a = c.args in
    let mems = map plain_mem a.decls.now in
    let s = a.self.now in
    let h = c.requires.1 in
    let seen = seen_mem h.setting a.memory _ c.requires.0 h.typed.0 in
    let few = sram_rank h.setting a.memory c.requires.0 seen in
    let rank = subst (λ ms. expr_count (plain_exprs a.indices.now) ≡ length (dims ms a.memory)) h.setting.same h.typed.1 in
    let count = count-exprs a.indices.now in
    let inside : a.memory < length a.decls.now = omega (arith, seen.inside, length-map a.decls.now plain_mem) in
    let same = dims_at a.decls.now a.memory c.index-decls-memory.result inside ∙ sym c.deref.ensures.value in
    subst (λ ds. word_count ds < 2 ^ 32) same (h.setting.sees.sizes a.memory)

pub element-returns-in-Some-clause-ran : goal.element-returns-in-Some-clause-ran
element-returns-in-Some-clause-ran t c =
    let a = c.args in
    let mems = map plain_mem a.decls.now in
    let s = a.self.now in
    let h = c.requires.1 in
    let seen = seen_mem h.setting a.memory _ c.requires.0 h.typed.0 in
    let few = sram_rank h.setting a.memory c.requires.0 seen in
    let rank = subst (λ ms. expr_count (plain_exprs a.indices.now) ≡ length (dims ms a.memory)) h.setting.same h.typed.1 in
    let count = count-exprs a.indices.now in
    let inside : a.memory < length a.decls.now = omega (arith, seen.inside, length-map a.decls.now plain_mem) in
    let same = dims_at a.decls.now a.memory c.index-decls-memory.result inside ∙ sym c.deref.ensures.value in
    let u = c.words.new.self in
    let is = take (length a.indices.now) c.words.new.found in
    placed_went mems a.memory a.at (plain_exprs a.indices.now) s.left (store_of s) is u.left (store_of u) c.in_ok-words.ensures.ran
    ∙ element_went mems a.memory a.at is u.left (store_of u) c.in-Some.k (ap (λ ds. place_in ds is) same ∙ sym c.in-Some.ensures)

pub element-returns-in-Some-clause-inside : goal.element-returns-in-Some-clause-inside
element-returns-in-Some-clause-inside t c =
    let a = c.args in
    let mems = map plain_mem a.decls.now in
    let s = a.self.now in
    let h = c.requires.1 in
    let seen = seen_mem h.setting a.memory _ c.requires.0 h.typed.0 in
    let few = sram_rank h.setting a.memory c.requires.0 seen in
    let rank = subst (λ ms. expr_count (plain_exprs a.indices.now) ≡ length (dims ms a.memory)) h.setting.same h.typed.1 in
    let count = count-exprs a.indices.now in
    let inside : a.memory < length a.decls.now = omega (arith, seen.inside, length-map a.decls.now plain_mem) in
    let same = dims_at a.decls.now a.memory c.index-decls-memory.result inside ∙ sym c.deref.ensures.value in
    let u = c.words.new.self in
    let is = take (length a.indices.now) c.words.new.found in
    place_below (dims mems a.memory) is c.in-Some.k (ap (λ ds. place_in ds is) same ∙ sym c.in-Some.ensures)

pub element-returns-in-None-clause-ran : goal.element-returns-in-None-clause-ran
element-returns-in-None-clause-ran t c =
    let a = c.args in
    let mems = map plain_mem a.decls.now in
    let s = a.self.now in
    let h = c.requires.1 in
    let seen = seen_mem h.setting a.memory _ c.requires.0 h.typed.0 in
    let few = sram_rank h.setting a.memory c.requires.0 seen in
    let rank = subst (λ ms. expr_count (plain_exprs a.indices.now) ≡ length (dims ms a.memory)) h.setting.same h.typed.1 in
    let count = count-exprs a.indices.now in
    let inside : a.memory < length a.decls.now = omega (arith, seen.inside, length-map a.decls.now plain_mem) in
    let same = dims_at a.decls.now a.memory c.index-decls-memory.result inside ∙ sym c.deref.ensures.value in
    let u = c.words.new.self in
    let is = take (length a.indices.now) c.words.new.found in
    placed_went mems a.memory a.at (plain_exprs a.indices.now) s.left (store_of s) is u.left (store_of u) c.in_ok-words.ensures.ran
    ∙ element_outside mems a.memory a.at is u.left (store_of u) (ap (λ ds. place_in ds is) same ∙ sym c.in-None.ensures)

pub words-loop-k-init : goal.words-loop-k-init
words-loop-k-init t c =
    let a = c.args in
    let mems = map plain_mem a.decls.now in
    record { ran = none_done mems a.self.now.left (store_of a.self.now) a.all.now; keeps = keeps_same a.self.now; fits = λ k d l. absurd (omega arith) }

pub words-word-requires : goal.words-word-requires
words-word-requires t c =
    let a = c.args in
    let mems = map plain_mem a.decls.now in
    let all = a.all.now in
    let inv = c.loop-k.invariant in
    let typed = index_typed c.requires.can.setting.program c.requires.can.setting.scope all c.requires.can.typed c.loop-k.k c.index-all-k.result c.loop-k-test.true c.index-all-k.is in
    (search (rules, the_lemmas), can_later (record { setting = c.requires.can.setting; typed = typed.0 }) inv.keeps)

pub words-returns-in_err-word-clause-ran : goal.words-returns-in_err-word-clause-ran
words-returns-in_err-word-clause-ran t c =
    let a = c.args in
    let mems = map plain_mem a.decls.now in
    let all = a.all.now in
    let inv = c.loop-k.invariant in
    let split = drop_more all c.loop-k.k c.index-all-k.result c.loop-k-test.true ∙ ap (λ x. x ∷ drop (c.loop-k.k + 1) all) (sym c.index-all-k.is) in
    let here = inv.ran ∙ ap (λ es. words_left mems (take c.loop-k.k c.loop-k.found) es c.loop-k.self.left (store_of c.loop-k.self)) split in
    ran_stop_with _ _ _ _ c.in_err-word.field-0.0 c.from_residual.ensures.1
    (here ∙ one_halted_of mems c.loop-k.self.left (store_of c.loop-k.self) (take c.loop-k.k c.loop-k.found) c.index-all-k.result (drop (c.loop-k.k + 1) all) c.in_err-word.field-0.0 c.in_err-word.ensures.ran)

pub words-loop-k-preserved : goal.words-loop-k-preserved
words-loop-k-preserved t c =
    let a = c.args in
    let mems = map plain_mem a.decls.now in
    let all = a.all.now in
    let inv = c.loop-k.invariant in
    let split = drop_more all c.loop-k.k c.index-all-k.result c.loop-k-test.true ∙ ap (λ x. x ∷ drop (c.loop-k.k + 1) all) (sym c.index-all-k.is) in
    let here = inv.ran ∙ ap (λ es. words_left mems (take c.loop-k.k c.loop-k.found) es c.loop-k.self.left (store_of c.loop-k.self)) split in
    let u = c.word.new.self in
    let w = c.in_ok-word.word in
    let typed = index_typed c.requires.can.setting.program c.requires.can.setting.scope all c.requires.can.typed c.loop-k.k c.index-all-k.result c.loop-k-test.true c.index-all-k.is in
    let more = take_more_set c.loop-k.found c.loop-k.k w (omega arith) in
    record {
      ran = here ∙ one_done mems c.loop-k.self.left (store_of c.loop-k.self) (take c.loop-k.k c.loop-k.found) c.index-all-k.result (drop (c.loop-k.k + 1) all) w u.left (store_of u) c.in_ok-word.ensures.ran
          ∙ ap (λ ws. words_left mems ws (drop (c.loop-k.k + 1) all) u.left (store_of u)) (sym more);
      keeps = keeps_on _ _ _ inv.keeps c.in_ok-word.ensures.keeps;
      fits = subst (λ ws. All (IsWord int_type) ws) (sym more) (All-push (IsWord int_type) (take c.loop-k.k c.loop-k.found) w inv.fits (subst (λ t. IsWord t w) typed.1 c.in_ok-word.ensures.fits));
    }

pub words-returns-clause-ran : goal.words-returns-clause-ran
words-returns-clause-ran t c =
    let a = c.args in
    let mems = map plain_mem a.decls.now in
    let all = a.all.now in
    let inv = c.loop-k.invariant in
    let over : c.loop-k.k ≡ length all = omega arith in
    inv.ran ∙ ap (λ es. words_left mems (take c.loop-k.k c.loop-k.found) es c.loop-k.self.left (store_of c.loop-k.self)) (drop_all c.loop-k.k all (omega arith))
    ∙ all_done mems c.loop-k.self.left (store_of c.loop-k.self) (take c.loop-k.k c.loop-k.found)
    ∙ ap (λ n. went (take n c.loop-k.found) c.loop-k.self.left (store_of c.loop-k.self)) over

pub words-returns-clause-keeps : goal.words-returns-clause-keeps
words-returns-clause-keeps t c =
    c.loop-k.invariant.keeps

pub words-returns-clause-fits : goal.words-returns-clause-fits
words-returns-clause-fits t c =
    let a = c.args in
    let mems = map plain_mem a.decls.now in
    let all = a.all.now in
    let inv = c.loop-k.invariant in
    let over : c.loop-k.k ≡ length all = omega arith in
    subst (λ n. All (IsWord int_type) (take n c.loop-k.found)) over inv.fits

pub word-place-requires-clause-dims : goal.word-place-requires-clause-dims
word-place-requires-clause-dims t c =
    let a = c.args in
    let mems = map plain_mem a.decls.now in
    let e = a.e.now in
    let s = a.self.now in
    let k = GetLine c.in-GetLine.port c.in-GetLine.row c.in-GetLine.column in
    let typed = kind_typed e k c.requires c.in-GetLine.is in
    let setting = setting_later (setting_later c.requires.setting c.in_ok-r-in-GetLine.ensures.keeps) c.in_ok-c-in-GetLine.ensures.keeps in
    let seen = seen_mem setting c.in-GetLine.port _ e.ty typed.0 in
    let inside : c.number-m.result < length a.decls.now = omega (arith, seen.inside, length-map a.decls.now plain_mem, c.number-m.ensures) in
    let number = ap (dims mems) c.number-m.ensures in
    let same = sym number ∙ dims_at a.decls.now c.number-m.result c.index-decls-m.result inside ∙ sym c.deref-in-GetLine-3.ensures.value in
    subst (λ ds. All IsCount ds) same (counts_of setting c.in-GetLine.port seen.inside)

pub word-place-requires-clause-size : goal.word-place-requires-clause-size
word-place-requires-clause-size t c =
    let a = c.args in
    let mems = map plain_mem a.decls.now in
    let e = a.e.now in
    let s = a.self.now in
    let k = GetLine c.in-GetLine.port c.in-GetLine.row c.in-GetLine.column in
    let typed = kind_typed e k c.requires c.in-GetLine.is in
    let setting = setting_later (setting_later c.requires.setting c.in_ok-r-in-GetLine.ensures.keeps) c.in_ok-c-in-GetLine.ensures.keeps in
    let seen = seen_mem setting c.in-GetLine.port _ e.ty typed.0 in
    let inside : c.number-m.result < length a.decls.now = omega (arith, seen.inside, length-map a.decls.now plain_mem, c.number-m.ensures) in
    let number = ap (dims mems) c.number-m.ensures in
    let same = sym number ∙ dims_at a.decls.now c.number-m.result c.index-decls-m.result inside ∙ sym c.deref-in-GetLine-3.ensures.value in
    subst (λ ds. word_count ds < 2 ^ 32) same (setting.sees.sizes c.in-GetLine.port)

pub word-read_line-requires : goal.word-read_line-requires
word-read_line-requires t c =
    let a = c.args in
    let mems = map plain_mem a.decls.now in
    let e = a.e.now in
    let s = a.self.now in
    let k = GetLine c.in-GetLine.port c.in-GetLine.row c.in-GetLine.column in
    let typed = kind_typed e k c.requires c.in-GetLine.is in
    let setting = setting_later (setting_later c.requires.setting c.in_ok-r-in-GetLine.ensures.keeps) c.in_ok-c-in-GetLine.ensures.keeps in
    let seen = seen_mem setting c.in-GetLine.port _ e.ty typed.0 in
    let inside : c.number-m.result < length a.decls.now = omega (arith, seen.inside, length-map a.decls.now plain_mem, c.number-m.ensures) in
    let number = ap (dims mems) c.number-m.ensures in
    let same = sym number ∙ dims_at a.decls.now c.number-m.result c.index-decls-m.result inside ∙ sym c.deref-in-GetLine-3.ensures.value in
    let u = c.word-in-GetLine.new.self in
    let r = c.in_ok-r-in-GetLine.r in
    let q = c.in_ok-c-in-GetLine.c in
    let r_word = subst (λ t. IsWord t r) (ap (λ (z : Expr). z.ty) c.deref-in-GetLine.ensures ∙ typed.2) c.in_ok-r-in-GetLine.ensures.fits in
    let q_word = subst (λ t. IsWord t q) (ap (λ (z : Expr). z.ty) c.deref-in-GetLine-2.ensures ∙ typed.4) c.in_ok-c-in-GetLine.ensures.fits in
    let placed = ap (λ ds. place_in ds (r ∷ q ∷ [])) same ∙ sym c.in-Some.ensures in
    let live = live_rows seen in
    let cell = line_inside (width_of e.ty) (dims mems c.in-GetLine.port) live.0.items r q c.in-Some.field-0 live.2 (counts_of setting c.in-GetLine.port seen.inside) r_word q_word placed in
    (live.0, subst (λ m. IsLive u m (Rows live.0)) (sym c.number-m.ensures) live.1, cell.0, cell.1)

pub word-returns-in-Some-clause-ran : goal.word-returns-in-Some-clause-ran
word-returns-in-Some-clause-ran t c =
    let a = c.args in
    let mems = map plain_mem a.decls.now in
    let e = a.e.now in
    let s = a.self.now in
    let k = GetLine c.in-GetLine.port c.in-GetLine.row c.in-GetLine.column in
    let typed = kind_typed e k c.requires c.in-GetLine.is in
    let setting = setting_later (setting_later c.requires.setting c.in_ok-r-in-GetLine.ensures.keeps) c.in_ok-c-in-GetLine.ensures.keeps in
    let seen = seen_mem setting c.in-GetLine.port _ e.ty typed.0 in
    let inside : c.number-m.result < length a.decls.now = omega (arith, seen.inside, length-map a.decls.now plain_mem, c.number-m.ensures) in
    let number = ap (dims mems) c.number-m.ensures in
    let same = sym number ∙ dims_at a.decls.now c.number-m.result c.index-decls-m.result inside ∙ sym c.deref-in-GetLine-3.ensures.value in
    let u = c.word-in-GetLine.new.self in
    let r = c.in_ok-r-in-GetLine.r in
    let q = c.in_ok-c-in-GetLine.c in
    let r_word = subst (λ t. IsWord t r) (ap (λ (z : Expr). z.ty) c.deref-in-GetLine.ensures ∙ typed.2) c.in_ok-r-in-GetLine.ensures.fits in
    let q_word = subst (λ t. IsWord t q) (ap (λ (z : Expr). z.ty) c.deref-in-GetLine-2.ensures ∙ typed.4) c.in_ok-c-in-GetLine.ensures.fits in
    let placed = ap (λ ds. place_in ds (r ∷ q ∷ [])) same ∙ sym c.in-Some.ensures in
    let live = live_rows seen in
    let cell = line_inside (width_of e.ty) (dims mems c.in-GetLine.port) live.0.items r q c.in-Some.field-0 live.2 (counts_of setting c.in-GetLine.port seen.inside) r_word q_word placed in
    let v = c.word.new.self in
    let first = eval_as mems s.left (store_of s) _ c.in-GetLine.row.value _ c.deref-in-GetLine.ensures c.in_ok-r-in-GetLine.ensures.ran in
    let second = eval_as mems v.left (store_of v) _ c.in-GetLine.column.value _ c.deref-in-GetLine-2.ensures c.in_ok-c-in-GetLine.ensures.ran in
    subst (λ w. Ran w c.read_line.result u) (sym (word_is mems e k s.left (store_of s) c.in-GetLine.is
    ∙ line_went mems e.at e.ty s.left (store_of s) c.in-GetLine.port (plain_expr c.in-GetLine.row.value) (plain_expr c.in-GetLine.column.value) r v.left (store_of v) q u.left (store_of u) first second
    (place_inside (dims mems c.in-GetLine.port) (r ∷ q ∷ []) c.in-Some.field-0 placed) cell.3 cell.4
    ∙ ap (λ m. read_line m r q e.at u.left (store_of u)) (sym c.number-m.ensures))) c.read_line.ensures.ran

pub word-returns-in-Some-clause-fits : goal.word-returns-in-Some-clause-fits
word-returns-in-Some-clause-fits t c =
    let a = c.args in
    let mems = map plain_mem a.decls.now in
    let e = a.e.now in
    let s = a.self.now in
    let k = GetLine c.in-GetLine.port c.in-GetLine.row c.in-GetLine.column in
    let typed = kind_typed e k c.requires c.in-GetLine.is in
    let setting = setting_later (setting_later c.requires.setting c.in_ok-r-in-GetLine.ensures.keeps) c.in_ok-c-in-GetLine.ensures.keeps in
    let seen = seen_mem setting c.in-GetLine.port _ e.ty typed.0 in
    let inside : c.number-m.result < length a.decls.now = omega (arith, seen.inside, length-map a.decls.now plain_mem, c.number-m.ensures) in
    let number = ap (dims mems) c.number-m.ensures in
    let same = sym number ∙ dims_at a.decls.now c.number-m.result c.index-decls-m.result inside ∙ sym c.deref-in-GetLine-3.ensures.value in
    let u = c.word-in-GetLine.new.self in
    let r = c.in_ok-r-in-GetLine.r in
    let q = c.in_ok-c-in-GetLine.c in
    let r_word = subst (λ t. IsWord t r) (ap (λ (z : Expr). z.ty) c.deref-in-GetLine.ensures ∙ typed.2) c.in_ok-r-in-GetLine.ensures.fits in
    let q_word = subst (λ t. IsWord t q) (ap (λ (z : Expr). z.ty) c.deref-in-GetLine-2.ensures ∙ typed.4) c.in_ok-c-in-GetLine.ensures.fits in
    let placed = ap (λ ds. place_in ds (r ∷ q ∷ [])) same ∙ sym c.in-Some.ensures in
    let live = live_rows seen in
    let cell = line_inside (width_of e.ty) (dims mems c.in-GetLine.port) live.0.items r q c.in-Some.field-0 live.2 (counts_of setting c.in-GetLine.port seen.inside) r_word q_word placed in
    IfOk-weaker _ _ _ (λ w f. subst (λ n. w < 2 ^ n) cell.2 (f live.0 (subst (λ m. IsLive u m (Rows live.0)) (sym c.number-m.ensures) live.1))) c.read_line.ensures.fits

pub word-returns-in-None-clause-ran : goal.word-returns-in-None-clause-ran
word-returns-in-None-clause-ran t c =
    let a = c.args in
    let mems = map plain_mem a.decls.now in
    let e = a.e.now in
    let s = a.self.now in
    let k = GetLine c.in-GetLine.port c.in-GetLine.row c.in-GetLine.column in
    let typed = kind_typed e k c.requires c.in-GetLine.is in
    let setting = setting_later (setting_later c.requires.setting c.in_ok-r-in-GetLine.ensures.keeps) c.in_ok-c-in-GetLine.ensures.keeps in
    let seen = seen_mem setting c.in-GetLine.port _ e.ty typed.0 in
    let inside : c.number-m.result < length a.decls.now = omega (arith, seen.inside, length-map a.decls.now plain_mem, c.number-m.ensures) in
    let number = ap (dims mems) c.number-m.ensures in
    let same = sym number ∙ dims_at a.decls.now c.number-m.result c.index-decls-m.result inside ∙ sym c.deref-in-GetLine-3.ensures.value in
    let u = c.word-in-GetLine.new.self in
    let r = c.in_ok-r-in-GetLine.r in
    let q = c.in_ok-c-in-GetLine.c in
    let r_word = subst (λ t. IsWord t r) (ap (λ (z : Expr). z.ty) c.deref-in-GetLine.ensures ∙ typed.2) c.in_ok-r-in-GetLine.ensures.fits in
    let q_word = subst (λ t. IsWord t q) (ap (λ (z : Expr). z.ty) c.deref-in-GetLine-2.ensures ∙ typed.4) c.in_ok-c-in-GetLine.ensures.fits in
    let placed = ap (λ ds. place_in ds (r ∷ q ∷ [])) same ∙ sym c.in-None.ensures in
    let v = c.word.new.self in
    let first = eval_as mems s.left (store_of s) _ c.in-GetLine.row.value _ c.deref-in-GetLine.ensures c.in_ok-r-in-GetLine.ensures.ran in
    let second = eval_as mems v.left (store_of v) _ c.in-GetLine.column.value _ c.deref-in-GetLine-2.ensures c.in_ok-c-in-GetLine.ensures.ran in
    word_is mems e k s.left (store_of s) c.in-GetLine.is
    ∙ line_outside mems e.at e.ty s.left (store_of s) c.in-GetLine.port (plain_expr c.in-GetLine.row.value) (plain_expr c.in-GetLine.column.value) r v.left (store_of v) q u.left (store_of u) first second
    (place_outside (dims mems c.in-GetLine.port) (r ∷ q ∷ []) placed)
