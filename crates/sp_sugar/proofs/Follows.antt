-- The operations of an expression go on as the expression does.
use Rattle.std.proofs.Common.{◌≡◌, ℕ, ◌+◌, ◌<◌, true, not, List, [], ◌∷◌, ◌++◌, Some, None, refl, sym, ◌∙◌, ap, subst, arith, length-append}
use Rattle.std.specs.Prelude.{length, map, slice_index, slice_index_or}
use Rattle.sp_words.specs.declared.kind.Kind.TheVariants.{Reg, ArgIn}
use Rattle.sp_words.specs.declared.types.Ty.{Ty}
use Rattle.sp_words.specs.Memory.{queue}
use Rattle.sp_words.specs.Words.{word_cast}
use Rattle.sp_tree.specs.declared.statement.FaultKind.TheVariants.{Bounds}
use Rattle.sp_tree.specs.Accesses as program
use Rattle.sp_tree.specs.Elements as elements
use Rattle.sp_tree.specs.Expressions as expressions
use Rattle.sp_tree.specs.Expressions.{word, word_of, words}
use Rattle.sp_tree.specs.Meaning.{is_dram}
use Rattle.sp_tree.specs.Operators as operators
use Rattle.sp_tree.specs.PlainExpression.{PlainExpr, PlainExprKind, PlainExprs, expr, literal, counter, value, get_reg, get_arg, get_sram, get_line, deq, one, two, shift, mux, cast, no_expr, more_expr, type_of}
use Rattle.sp_tree.specs.PlainProgram.{PlainProgram}
use Rattle.sp_tree.specs.Step as step
use Rattle.sp_tree.specs.Store as program_store
use Rattle.sp_tree.specs.Typing.{Typed, KindTyped, IndicesTyped}
use Rattle.sp_core.specs.declared.operation.OpKind.TheVariants as kind
use Rattle.sp_core.specs.Accesses.{dequeue}
use Rattle.sp_core.specs.Declarations.{dims}
use Rattle.sp_core.specs.Elements.{index_value, natural, are_inside}
use Rattle.sp_core.specs.History.{Entry, gave, touched}
use Rattle.sp_core.specs.Operators as core_operators
use Rattle.sp_core.specs.PlainCore.{PlainCore}
use Rattle.sp_core.specs.Scope as counters
use Rattle.sp_core.specs.Step as core_step
use Rattle.sp_core.specs.Store as store
use Rattle.sp_sugar.specs.Agreement.{HasMemories, View, Finds, Agree, GoOn}
use Rattle.sp_sugar.specs.Numbers.{is_off_dram, mem_number}
use Rattle.sp_sugar.specs.Operations.{Code, Codes, source_code, code, code_of, codes}
use Rattle.sp_sugar.specs.Values.{Source, at_place, in_register, constant, count}
use Rattle.sp_sugar.proofs.GoOnLemmas.{at_rest, in_place, then_others, then_one, alone_on}
use Rattle.sp_sugar.proofs.MemoryLemmas.{dimensionless, chip_kind, chip_dims, chip_holds, agree_held, core_reads, word_found, passed, oldest_taken, core_takes, element_found, reg_word, arg_word, sram_word, line_word}
use Rattle.sp_sugar.proofs.StepLemmas.{as_it_went, taken_apart, then_on}
use Rattle.sp_sugar.proofs.TwinLemmas.{same_queue, same_inside, same_natural, same_one, same_two, same_shift}

module _ (p : PlainProgram) (core : PlainCore) (h : HasMemories p core) (view : View) where
  -- what is to be shown of a word, and of several
  abbrev Answer : (done : List Entry) (t : store.Store) → Code → (left rest w : ℕ) → program_store.Store → Type 0
  Answer done t c left rest w after = (rest ≡ left) × GoOn p core view done c.ops t after (c.word ∷ []) (w ∷ [])

  abbrev Answers : (done : List Entry) (t : store.Store) → Codes → (left rest : ℕ) → List ℕ → program_store.Store → Type 0
  Answers done t c left rest ws after = (rest ≡ left) × GoOn p core view done c.ops t after c.words ws

  abbrev Agrees : List Entry → program_store.Store → store.Store → Type 0
  Agrees done s t = Agree p core view done s t

  -- a use of a value
  value_follows : (source : Source) (ty : Ty) (at w : ℕ) (done : List Entry) (s : program_store.Store) (t : store.Store) → at ≡ length done → Agrees done s t → Finds p core view.around done t source w
      → GoOn p core view done (source_code at ty source).ops t s ((source_code at ty source).word ∷ []) (w ∷ [])
  unfolding core_step.pure
  value_follows (at_place k) ty at w done s t e a f = in_place p core view done s t k w a f
  value_follows (in_register r) ty at w done s t e a f =
      alone_on p core view done t s s kind.Read ty (Some r) (touched [] w) t at a
      (core_reads core r [] t w (ap (λ d. are_inside d []) f.0.has_none) (reg_word core r (t r) _ f.0.is_kind f.1)) a e
  value_follows (constant c) ty at w done s t e a f =
      subst (λ x. GoOn p core view done (source_code at ty (constant c)).ops t s (at ∷ []) (x ∷ [])) f
      (alone_on p core view done t s s (kind.Word c) ty None (gave c) t at a refl a e)
  value_follows (count c) ty at w done s t e a f =
      subst (λ x. GoOn p core view done (source_code at ty (count c)).ops t s (at ∷ []) (x ∷ [])) f
      (alone_on p core view done t s s (kind.Count c 0) ty None (gave (counters.count_word (view.around c) 0)) t at a refl a e)

  mutual
    unfolding word word_of words code code_of codes step.◌>>=◌ step.pure step.read core_step.pure

    pub follows : (e : PlainExpr) (at : ℕ) (done : List Entry) (s after : program_store.Store) (t : store.Store) (left rest w : ℕ)
        → at ≡ length done → Typed p view.scope e → Agrees done s t → word p.mems e left s ≡ step.went w rest after → Answer done t (code p.mems view.sources at e) left rest w after
    follows (expr place ty k) at done s after t left rest w eq typed a e = kind_follows k place ty at done s after t left rest w eq typed a e

    kind_follows : (k : PlainExprKind) (place : ℕ) (ty : Ty) (at : ℕ) (done : List Entry) (s after : program_store.Store) (t : store.Store) (left rest w : ℕ)
        → at ≡ length done → KindTyped p view.scope k ty → Agrees done s t → word_of p.mems k place ty left s ≡ step.went w rest after → Answer done t (code_of p.mems view.sources at ty k) left rest w after
    kind_follows (literal v) place ty at done s after t left rest w eq typed a e =
        as_it_went (λ x n u. Answer done t (code_of p.mems view.sources at ty (literal v)) left n x u) v w left rest s after e (refl, value_follows (constant v) ty at v done s t eq a refl)
    kind_follows (counter c) place ty at done s after t left rest w eq typed a e =
        as_it_went (λ x n u. Answer done t (code_of p.mems view.sources at ty (counter c)) left n x u) (s.counts c) w left rest s after e (refl, value_follows (count c) ty at (s.counts c) done s t eq a (a.counts c typed.0))
    kind_follows (value v) place ty at done s after t left rest w eq typed a e =
        as_it_went (λ x n u. Answer done t (code_of p.mems view.sources at ty (value v)) left n x u) (s.values v) w left rest s after e (refl, value_follows (view.sources v) ty at (s.values v) done s t eq a (a.vals (v, ty) typed))
    kind_follows (get_reg m) place ty at done s after t left rest w eq typed a e =
        let lt : m < length p.mems = (a.mems m typed.seen).0 in
        let off : is_off_dram (expressions.mem p.mems m) ≡ true = ap (λ k. not (is_dram k)) typed.is_kind in
        let found = word_found place (slice_index_or (program_store.cells_of (s.held m)) 0 None) w left rest s after e in
        let has : dims core (mem_number p.mems m) ≡ [] = chip_dims p core h m lt off ∙ dimensionless p core h m lt Reg typed.is_kind (λ n r. r) in (
          found.1,
          alone_on p core view done t s after kind.Read ty (Some (mem_number p.mems m)) (touched [] w) t at a
              (core_reads core (mem_number p.mems m) [] t w (ap (λ d. are_inside d []) has)
              (reg_word core (mem_number p.mems m) (t (mem_number p.mems m)) (s.held m) (chip_kind p core h m lt off ∙ typed.is_kind) (chip_holds p core h m lt off view done s t a typed.seen) ∙ found.0))
              (subst (λ u. Agrees done u t) (sym found.2) a) eq,
        )
    kind_follows (get_arg m) place ty at done s after t left rest w eq typed a e =
        let lt : m < length p.mems = (a.mems m typed.seen).0 in
        let off : is_off_dram (expressions.mem p.mems m) ≡ true = ap (λ k. not (is_dram k)) typed.is_kind in
        let has : dims core (mem_number p.mems m) ≡ [] = chip_dims p core h m lt off ∙ dimensionless p core h m lt ArgIn typed.is_kind (λ n r. r) in
        as_it_went (λ v n u. Answer done t (code_of p.mems view.sources at ty (get_arg m)) left n v u) (slice_index (program_store.words_of (s.held m)) 0) w left rest s after e (
          refl,
          alone_on p core view done t s s kind.Read ty (Some (mem_number p.mems m)) (touched [] (slice_index (program_store.words_of (s.held m)) 0)) t at a
              (core_reads core (mem_number p.mems m) [] t (slice_index (program_store.words_of (s.held m)) 0) (ap (λ d. are_inside d []) has)
              (arg_word core (mem_number p.mems m) (t (mem_number p.mems m)) (s.held m) (chip_kind p core h m lt off ∙ typed.is_kind) (chip_holds p core h m lt off view done s t a typed.seen)))
              a eq,
        )
    kind_follows (get_sram m indices) place ty at done s after t left rest w eq typed a e =
        let seen = typed.0.seen in
        let lt : m < length p.mems = (a.mems m seen).0 in
        let off : is_off_dram (expressions.mem p.mems m) ≡ true = ap (λ k. not (is_dram k)) typed.0.is_kind in
        let n : ℕ = mem_number p.mems m in
        let b = taken_apart (words p.mems indices) (λ is. step.◌>>=◌ (expressions.element p.mems m place is) (λ i. program.read_cell m i place)) left s w rest after e in
        let c : Codes = codes p.mems view.sources at indices in
        let first = row_follow indices at done s b.store t left b.between b.answer eq typed.2 a b.first in
        let d = taken_apart (expressions.element p.mems m place b.answer) (λ i. program.read_cell m i place) b.between b.store w rest after b.second in
        let at_element = element_found p m place b.answer d.answer b.between d.between b.store d.store d.first in
        let found = word_found place (slice_index_or (program_store.cells_of (d.store.held m)) d.answer None) w d.between rest d.store after d.second in
        let holds : first.1.after n ≡ d.store.held m = chip_holds p core h m lt off view first.1.all b.store first.1.after first.1.agree seen ∙ ap (λ (u : program_store.Store). u.held m) (sym at_element.3) in (
          found.1 ∙ at_element.2 ∙ first.0,
          then_one p core view done c.ops t b.store after c.words b.answer kind.Read ty (Some n) (touched (map (λ i. natural (index_value i)) b.answer) w) first.1.after (at + length c.ops) first.1
              (core_reads core n b.answer first.1.after w (ap (λ x. are_inside x (map index_value b.answer)) (chip_dims p core h m lt off) ∙ at_element.0)
              (sram_word core n (map (λ i. natural (index_value i)) b.answer) (expressions.dims p.mems m) (first.1.after n) (d.store.held m) (chip_kind p core h m lt off ∙ typed.0.is_kind) (chip_dims p core h m lt off) holds
              ∙ ap (λ x. slice_index_or (program_store.cells_of (d.store.held m)) x None) (sym at_element.1) ∙ found.0))
              (subst (λ u. Agrees first.1.all u first.1.after) (sym at_element.3 ∙ sym found.2) first.1.agree) (ap (λ x. x + length c.ops) eq),
        )
    kind_follows (get_line m row column) place ty at done s after t left rest w eq typed a e =
        let seen = typed.0.seen in
        let lt : m < length p.mems = (a.mems m seen).0 in
        let off : is_off_dram (expressions.mem p.mems m) ≡ true = ap (λ k. not (is_dram k)) typed.0.is_kind in
        let n : ℕ = mem_number p.mems m in
        let b = taken_apart (word p.mems row) (λ r. step.◌>>=◌ (word p.mems column) (λ c. step.◌>>◌ (step.ensure (elements.are_inside (expressions.dims p.mems m) (map elements.index_value (r ∷ c ∷ []))) Bounds place) (program.read_line m (elements.natural (elements.index_value r)) (elements.natural (elements.index_value c)) place))) left s w rest after e in
        let d = taken_apart (word p.mems column) (λ c. step.◌>>◌ (step.ensure (elements.are_inside (expressions.dims p.mems m) (map elements.index_value (b.answer ∷ c ∷ []))) Bounds place) (program.read_line m (elements.natural (elements.index_value b.answer)) (elements.natural (elements.index_value c)) place)) b.between b.store w rest after b.second in
        let r : Code = code p.mems view.sources at row in
        let c : Code = code p.mems view.sources (at + length r.ops) column in
        let first = follows row at done s b.store t left b.between b.answer eq typed.1 a b.first in
        let second = follows column (at + length r.ops) first.1.all b.store d.store first.1.after b.between d.between d.answer (ap (λ x. x + length r.ops) eq ∙ sym first.1.counted) typed.3 first.1.agree d.first in
        let both = then_others p core view done r.ops c.ops t b.store d.store (r.word ∷ []) (c.word ∷ []) (b.answer ∷ []) (d.answer ∷ []) first.1 second.1 in
        let test = passed (elements.are_inside (expressions.dims p.mems m) (map elements.index_value (b.answer ∷ d.answer ∷ []))) Bounds place (program.read_line m (elements.natural (elements.index_value b.answer)) (elements.natural (elements.index_value d.answer)) place) w d.between rest d.store after d.second in
        let rows = program_store.rows_of (d.store.held m) in
        let found = word_found place (slice_index_or (slice_index_or rows (elements.natural (elements.index_value b.answer)) []) (elements.natural (elements.index_value d.answer)) None) w d.between rest d.store after test.1 in
        let holds : both.after n ≡ d.store.held m = chip_holds p core h m lt off view both.all d.store both.after both.agree seen in (
          found.1 ∙ second.0 ∙ first.0,
          then_one p core view done (r.ops ++ c.ops) t d.store after (r.word ∷ c.word ∷ []) (b.answer ∷ d.answer ∷ []) kind.Read ty (Some n) (touched (map (λ i. natural (index_value i)) (b.answer ∷ d.answer ∷ [])) w) both.after (at + length (r.ops ++ c.ops)) both
              (core_reads core n (b.answer ∷ d.answer ∷ []) both.after w
              (ap (λ x. are_inside x (map index_value (b.answer ∷ d.answer ∷ []))) (chip_dims p core h m lt off) ∙ same_inside (expressions.dims p.mems m) (map index_value (b.answer ∷ d.answer ∷ [])) ∙ test.0)
              (line_word core n (natural (index_value b.answer)) (natural (index_value d.answer)) (both.after n) (d.store.held m) (chip_kind p core h m lt off ∙ typed.0.is_kind) holds
              ∙ ap (λ x. slice_index_or (slice_index_or rows x []) (natural (index_value d.answer)) None) (same_natural (index_value b.answer))
              ∙ ap (λ x. slice_index_or (slice_index_or rows (elements.natural (elements.index_value b.answer)) []) x None) (same_natural (index_value d.answer))
              ∙ found.0))
              (subst (λ u. Agrees both.all u both.after) (sym found.2) both.agree) (ap (λ x. x + length (r.ops ++ c.ops)) eq),
        )
    kind_follows (deq m) place ty at done s after t left rest w eq typed a e =
        let lt : m < length p.mems = (a.mems m typed.seen).0 in
        let off : is_off_dram (expressions.mem p.mems m) ≡ true = ap (λ k. not (is_dram k)) typed.is_kind in
        let n : ℕ = mem_number p.mems m in
        let taken = oldest_taken m place (program_store.queue_of (s.held m)) w left rest s after e in
        let holds : store.queue_of (t n) ≡ w ∷ taken.0 = ap store.queue_of (chip_holds p core h m lt off view done s t a typed.seen) ∙ same_queue (s.held m) ∙ taken.1 in (
          taken.2,
          alone_on p core view done t s after kind.Deq ty (Some n) (touched [] w) (store.hold t n (queue taken.0)) at a
              (then_on (dequeue core n) (λ x. core_step.pure (touched [] x)) t w (store.hold t n (queue taken.0)) (core_takes core n t w taken.0 holds))
              (subst (λ u. Agrees done u (store.hold t n (queue taken.0))) (sym taken.3) (agree_held p core h m lt off view done s t a typed.seen (queue taken.0))) eq,
        )
    kind_follows (one op x) place ty at done s after t left rest w eq typed a e =
        let b = taken_apart (word p.mems x) (λ v. step.pure (operators.one_word op ty v)) left s w rest after e in
        let c : Code = code p.mems view.sources at x in
        let first = follows x at done s b.store t left b.between b.answer eq typed.0 a b.first in
        as_it_went (λ v n u. Answer done t (code_of p.mems view.sources at ty (one op x)) left n v u) (operators.one_word op ty b.answer) w b.between rest b.store after b.second (
          first.0,
          subst (λ v. GoOn p core view done (code_of p.mems view.sources at ty (one op x)).ops t b.store ((at + length c.ops) ∷ []) (v ∷ [])) (same_one op ty b.answer)
              (then_one p core view done c.ops t b.store b.store (c.word ∷ []) (b.answer ∷ []) (kind.One op) ty None (gave (core_operators.one_word op ty b.answer)) first.1.after (at + length c.ops) first.1 refl first.1.agree (ap (λ n. n + length c.ops) eq)),
        )
    kind_follows (two op x y) place ty at done s after t left rest w eq typed a e =
        let b = taken_apart (word p.mems x) (λ v. step.◌>>=◌ (word p.mems y) (λ u. step.pure (operators.two_word op (type_of x) v u))) left s w rest after e in
        let d = taken_apart (word p.mems y) (λ u. step.pure (operators.two_word op (type_of x) b.answer u)) b.between b.store w rest after b.second in
        let cx : Code = code p.mems view.sources at x in
        let cy : Code = code p.mems view.sources (at + length cx.ops) y in
        let first = follows x at done s b.store t left b.between b.answer eq typed.0 a b.first in
        let second = follows y (at + length cx.ops) first.1.all b.store d.store first.1.after b.between d.between d.answer (ap (λ n. n + length cx.ops) eq ∙ sym first.1.counted) typed.1 first.1.agree d.first in
        let both = then_others p core view done cx.ops cy.ops t b.store d.store (cx.word ∷ []) (cy.word ∷ []) (b.answer ∷ []) (d.answer ∷ []) first.1 second.1 in
        as_it_went (λ v n u. Answer done t (code_of p.mems view.sources at ty (two op x y)) left n v u) (operators.two_word op (type_of x) b.answer d.answer) w d.between rest d.store after d.second (
          second.0 ∙ first.0,
          subst (λ v. GoOn p core view done (code_of p.mems view.sources at ty (two op x y)).ops t d.store ((at + length (cx.ops ++ cy.ops)) ∷ []) (v ∷ [])) (same_two op (type_of x) b.answer d.answer)
              (then_one p core view done (cx.ops ++ cy.ops) t d.store d.store (cx.word ∷ cy.word ∷ []) (b.answer ∷ d.answer ∷ []) (kind.Two op) (type_of x) None (gave (core_operators.two_word op (type_of x) b.answer d.answer)) both.after
              (at + length (cx.ops ++ cy.ops)) both refl both.agree (ap (λ n. n + length (cx.ops ++ cy.ops)) eq)),
        )
    kind_follows (shift to x by) place ty at done s after t left rest w eq typed a e =
        let b = taken_apart (word p.mems x) (λ v. step.pure (operators.shifted to ty v by)) left s w rest after e in
        let c : Code = code p.mems view.sources at x in
        let first = follows x at done s b.store t left b.between b.answer eq typed.0 a b.first in
        as_it_went (λ v n u. Answer done t (code_of p.mems view.sources at ty (shift to x by)) left n v u) (operators.shifted to ty b.answer by) w b.between rest b.store after b.second (
          first.0,
          subst (λ v. GoOn p core view done (code_of p.mems view.sources at ty (shift to x by)).ops t b.store ((at + length c.ops) ∷ []) (v ∷ [])) (same_shift to ty b.answer by)
              (then_one p core view done c.ops t b.store b.store (c.word ∷ []) (b.answer ∷ []) (kind.Shift to by) ty None (gave (core_operators.shifted to ty b.answer by)) first.1.after (at + length c.ops) first.1 refl first.1.agree (ap (λ n. n + length c.ops) eq)),
        )
    kind_follows (mux c x y) place ty at done s after t left rest w eq typed a e =
        let b = taken_apart (word p.mems c) (λ i. step.◌>>=◌ (word p.mems x) (λ j. step.◌>>=◌ (word p.mems y) (λ k. step.pure (operators.chosen i j k)))) left s w rest after e in
        let d = taken_apart (word p.mems x) (λ j. step.◌>>=◌ (word p.mems y) (λ k. step.pure (operators.chosen b.answer j k))) b.between b.store w rest after b.second in
        let f = taken_apart (word p.mems y) (λ k. step.pure (operators.chosen b.answer d.answer k)) d.between d.store w rest after d.second in
        let cc : Code = code p.mems view.sources at c in
        let cx : Code = code p.mems view.sources (at + length cc.ops) x in
        let cy : Code = code p.mems view.sources (at + length cc.ops + length cx.ops) y in
        let first = follows c at done s b.store t left b.between b.answer eq typed.0 a b.first in
        let second = follows x (at + length cc.ops) first.1.all b.store d.store first.1.after b.between d.between d.answer (ap (λ n. n + length cc.ops) eq ∙ sym first.1.counted) typed.2 first.1.agree d.first in
        let both = then_others p core view done cc.ops cx.ops t b.store d.store (cc.word ∷ []) (cx.word ∷ []) (b.answer ∷ []) (d.answer ∷ []) first.1 second.1 in
        let third = follows y (at + length cc.ops + length cx.ops) both.all d.store f.store both.after d.between f.between f.answer (omega (arith, eq, both.counted, length-append cc.ops cx.ops)) typed.4 both.agree f.first in
        let whole = then_others p core view done (cc.ops ++ cx.ops) cy.ops t d.store f.store (cc.word ∷ cx.word ∷ []) (cy.word ∷ []) (b.answer ∷ d.answer ∷ []) (f.answer ∷ []) both third.1 in
        as_it_went (λ v n u. Answer done t (code_of p.mems view.sources at ty (mux c x y)) left n v u) (operators.chosen b.answer d.answer f.answer) w f.between rest f.store after f.second (
          third.0 ∙ second.0 ∙ first.0,
          then_one p core view done (cc.ops ++ cx.ops ++ cy.ops) t f.store f.store (cc.word ∷ cx.word ∷ cy.word ∷ []) (b.answer ∷ d.answer ∷ f.answer ∷ []) kind.Mux ty None (gave (operators.chosen b.answer d.answer f.answer)) whole.after
              (at + length (cc.ops ++ cx.ops ++ cy.ops)) whole refl whole.agree (ap (λ n. n + length (cc.ops ++ cx.ops ++ cy.ops)) eq),
        )
    kind_follows (cast x) place ty at done s after t left rest w eq typed a e =
        let b = taken_apart (word p.mems x) (λ v. step.pure (word_cast (type_of x) ty v)) left s w rest after e in
        let c : Code = code p.mems view.sources at x in
        let first = follows x at done s b.store t left b.between b.answer eq typed a b.first in
        as_it_went (λ v n u. Answer done t (code_of p.mems view.sources at ty (cast x)) left n v u) (word_cast (type_of x) ty b.answer) w b.between rest b.store after b.second
        (first.0, then_one p core view done c.ops t b.store b.store (c.word ∷ []) (b.answer ∷ []) (kind.Cast ty) (type_of x) None (gave (word_cast (type_of x) ty b.answer)) first.1.after (at + length c.ops) first.1 refl first.1.agree (ap (λ n. n + length c.ops) eq))

    pub row_follow : (es : PlainExprs) (at : ℕ) (done : List Entry) (s after : program_store.Store) (t : store.Store) (left rest : ℕ) (ws : List ℕ)
        → at ≡ length done → IndicesTyped p view.scope es → Agrees done s t → words p.mems es left s ≡ step.went ws rest after → Answers done t (codes p.mems view.sources at es) left rest ws after
    row_follow no_expr at done s after t left rest ws eq typed a e =
        as_it_went (λ x n u. Answers done t (codes p.mems view.sources at no_expr) left n x u) [] ws left rest s after e (refl, at_rest p core view done s t a)
    row_follow (more_expr x xs) at done s after t left rest ws eq typed a e =
        let b = taken_apart (word p.mems x) (λ v. step.◌>>=◌ (words p.mems xs) (λ vs. step.pure (v ∷ vs))) left s ws rest after e in
        let d = taken_apart (words p.mems xs) (λ vs. step.pure (b.answer ∷ vs)) b.between b.store ws rest after b.second in
        let c : Code = code p.mems view.sources at x in
        let cs : Codes = codes p.mems view.sources (at + length c.ops) xs in
        let first = follows x at done s b.store t left b.between b.answer eq typed.0 a b.first in
        let others = row_follow xs (at + length c.ops) first.1.all b.store d.store first.1.after b.between d.between d.answer (ap (λ n. n + length c.ops) eq ∙ sym first.1.counted) typed.2 first.1.agree d.first in
        as_it_went (λ v n u. Answers done t (codes p.mems view.sources at (more_expr x xs)) left n v u) (b.answer ∷ d.answer) ws d.between rest d.store after d.second
        (others.0 ∙ first.0, then_others p core view done c.ops cs.ops t b.store d.store (c.word ∷ []) cs.words (b.answer ∷ []) d.answer first.1 others.1)
