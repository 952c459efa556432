-- The words of bounds, spans and counts, as a program and its core take them.
use Rattle.std.proofs.Common.{◌≡◌, ℕ, zero, suc, ◌+◌, Bool, true, List, [], ◌∷◌, ◌++◌, Some, sym, ◌∙◌, ap, subst, arith, length-append, if◌then◌else◌}
use Rattle.std.specs.Prelude.{length}
use Rattle.sp_words.specs.declared.types.Ty.{Ty}
use Rattle.sp_words.specs.Types.{int_type}
use Rattle.sp_tree.specs.Expressions.{word}
use Rattle.sp_tree.specs.Footprint.{Names}
use Rattle.sp_tree.specs.PlainExpression.{PlainExpr, expr, literal, counter, value, get_reg, get_arg, get_sram, get_line, deq, one, two, shift, mux, cast, type_of}
use Rattle.sp_tree.specs.PlainProgram.{PlainProgram}
use Rattle.sp_tree.specs.Step as program_step
use Rattle.sp_tree.specs.Store as program_store
use Rattle.sp_tree.specs.Typing.{Typed, HasTypeStill}
use Rattle.sp_core.specs.declared.operation.OpKind.TheVariants as kind
use Rattle.sp_core.specs.Elements.{are_inside}
use Rattle.sp_core.specs.History.{Entry, touched, word_at, last_word}
use Rattle.sp_core.specs.Operations.{operations}
use Rattle.sp_core.specs.PlainCore.{PlainOp, PlainCore}
use Rattle.sp_core.specs.Step.{went}
use Rattle.sp_core.specs.Store as store
use Rattle.sp_sugar.specs.Agreement.{HasMemories, View, Finds, Agree, GoOn}
use Rattle.sp_sugar.specs.Early.{from_register}
use Rattle.sp_sugar.specs.Numbers.{mem_number}
use Rattle.sp_sugar.specs.Operations.{Code, Codes, computes, read_op, source_code, code, code_of, codes, word_list}
use Rattle.sp_sugar.specs.Values.{Source, at_place, in_register, constant, count}
use Rattle.sp_sugar.proofs.Follows.{follows}
use Rattle.sp_sugar.proofs.GoOnLemmas.{alone_on}
use Rattle.sp_sugar.proofs.MemoryLemmas.{core_reads, reg_word}
use Rattle.sp_sugar.proofs.NumberLemmas.{either}
use Rattle.sp_same.specs.Following.{HoldsWord}
use Rattle.sp_same.proofs.StillWords.{is_no_fifo, word_still}
use Rattle.sp_same.proofs.StillOps.{AllStill, ops_still, code_still}

-- the word of a list is that of its last place
pub last_at : (all : List Entry) (k : ℕ) → suc k ≡ length all → last_word all ≡ word_at all k
last_at [] k e = absurd (omega (arith, e))
last_at (x ∷ []) k e = ap (λ j. word_at (x ∷ []) j) {x = 0} {y = k} (omega (arith, e))
last_at (x ∷ y ∷ rest) zero e = absurd (omega (arith, e))
last_at (x ∷ y ∷ rest) (suc k) e = last_at (y ∷ rest) k (omega (arith, e))

ended : (before : List PlainOp) (op : PlainOp) → suc (0 + length before) ≡ length (before ++ op ∷ [])
ended before op = omega (arith, length-append before (op ∷ []))

module _ (p : PlainProgram) (core : PlainCore) (h : HasMemories p core) (view : View) where
  -- at the beginning of a list the word of an expression is that of the last operation
  module _ (t : store.Store) where
    source_last : (s : Source) (ty : Ty) (w : ℕ) → Finds p core view.around [] t s w → suc (source_code 0 ty s).word ≡ length (source_code 0 ty s).ops
    source_last (at_place k) ty w f = absurd (omega (arith, f.0))
    source_last (in_register r) ty w f = omega arith
    source_last (constant c) ty w f = omega arith
    source_last (count c) ty w f = omega arith

    code_last : (e : PlainExpr) (s : program_store.Store) → Typed p view.scope e → Agree p core view [] s t → suc (code p.mems view.sources 0 e).word ≡ length (code p.mems view.sources 0 e).ops
    unfolding code code_of
    code_last (expr place ty (literal v)) s typed a = omega arith
    code_last (expr place ty (counter c)) s typed a = omega arith
    code_last (expr place ty (value v)) s typed a = source_last (view.sources v) ty (s.values v) (a.vals (v, ty) typed)
    code_last (expr place ty (get_reg m)) s typed a = omega arith
    code_last (expr place ty (get_arg m)) s typed a = omega arith
    code_last (expr place ty (get_sram m indices)) s typed a = let is : Codes = codes p.mems view.sources 0 indices in ended is.ops (read_op ty (mem_number p.mems m) is.words)
    code_last (expr place ty (get_line m row column)) s typed a =
        let r : Code = code p.mems view.sources 0 row in
        let c : Code = code p.mems view.sources (0 + length r.ops) column in
        ended (r.ops ++ c.ops) (read_op ty (mem_number p.mems m) (r.word ∷ c.word ∷ []))
    code_last (expr place ty (deq m)) s typed a = omega arith
    code_last (expr place ty (one op x)) s typed a = let c : Code = code p.mems view.sources 0 x in ended c.ops (computes (kind.One op) ty (c.word ∷ []))
    code_last (expr place ty (two op x y)) s typed a =
        let c : Code = code p.mems view.sources 0 x in
        let d : Code = code p.mems view.sources (0 + length c.ops) y in
        ended (c.ops ++ d.ops) (computes (kind.Two op) (type_of x) (c.word ∷ d.word ∷ []))
    code_last (expr place ty (shift left x by)) s typed a = let c : Code = code p.mems view.sources 0 x in ended c.ops (computes (kind.Shift left by) ty (c.word ∷ []))
    code_last (expr place ty (mux i x y)) s typed a =
        let b : Code = code p.mems view.sources 0 i in
        let c : Code = code p.mems view.sources (0 + length b.ops) x in
        let d : Code = code p.mems view.sources (0 + length b.ops + length c.ops) y in
        ended (b.ops ++ c.ops ++ d.ops) (computes kind.Mux ty (b.word ∷ c.word ∷ d.word ∷ []))
    code_last (expr place ty (cast x)) s typed a = let c : Code = code p.mems view.sources 0 x in ended c.ops (computes (kind.Cast ty) (type_of x) (c.word ∷ []))

  -- a list that goes on and changes nothing gives its last word
  abbrev pub Takes : (ops : List PlainOp) (t : store.Store) (w : ℕ) → Type 0
  Takes ops t w = (all : List Entry) × (operations core view.around ops t ≡ went all t) × (last_word all ≡ w)

  list_taken : (ops : List PlainOp) (t : store.Store) (s : program_store.Store) (k w : ℕ) → GoOn p core view [] ops t s (k ∷ []) (w ∷ []) → AllStill ops → suc k ≡ length ops → Takes ops t w
  list_taken ops t s k w g still at = (
    g.all,
    g.goes ∙ ap (λ u. went g.all u) (ops_still core view.around ops [] g.all t g.after still g.goes),
    last_at g.all k (omega (arith, at, g.counted)) ∙ g.give.1,
  )

  pub word_taken : (e : PlainExpr) (s after : program_store.Store) (t : store.Store) (left rest w : ℕ) → Typed p view.scope e → Names (is_no_fifo p) e → Agree p core view [] s t → word p.mems e left s ≡ program_step.went w rest after
      → Takes (word_list p.mems view.sources e) t w
  word_taken e s after t left rest w typed named a goes =
      let f = follows p core h view e 0 [] s after t left rest w (omega arith) typed a goes in
      list_taken (word_list p.mems view.sources e) t after (code p.mems view.sources 0 e).word w f.1 (code_still p view.scope view.sources e 0 typed named) (code_last t e s typed a)

  -- a word that crossed is read from its register
  register_taken : (r w : ℕ) (s : program_store.Store) (t : store.Store) → Agree p core view [] s t → HoldsWord p core t r w → Takes (read_op int_type r [] ∷ []) t w
  register_taken r w s t a f =
      list_taken (read_op int_type r [] ∷ []) t s 0 w
      (alone_on p core view [] t s s kind.Read int_type (Some r) (touched [] w) t 0 a
      (core_reads core r [] t w (ap (λ d. are_inside d []) f.0.has_none) (reg_word core r (t r) _ f.0.is_kind f.1)) a (omega arith))
      (tt, tt) (omega arith)

  -- a bound or a part, wherever it is computed
  pub part_taken : (crosses : PlainExpr → Bool) (r : ℕ) (e : PlainExpr) (s after : program_store.Store) (t : store.Store) (left rest w : ℕ) (ty : Ty)
      → HasTypeStill p view.scope ty e → Agree p core view [] s t
      → (crosses e ≡ true → (w : ℕ) → word p.mems e left s ≡ program_step.went w left s → HoldsWord p core t r w)
      → word p.mems e left s ≡ program_step.went w rest after → (rest ≡ left) × (after ≡ s) × Takes (from_register p.mems view.sources crosses r e) t w
  part_taken crosses r e s after t left rest w ty typed a ready goes =
      let same = word_still p view.scope e left rest w s after typed.0.0 typed.1 goes in
      let here : word p.mems e left s ≡ program_step.went w left s = goes ∙ ap (λ n. program_step.went w n after) same.0 ∙ ap (λ u. program_step.went w left u) same.1 in (
        same.0,
        same.1,
        either (crosses e)
            (λ c. subst (λ b. Takes (if b then read_op int_type r [] ∷ [] else word_list p.mems view.sources e) t w) (sym c) (register_taken r w s t a (ready c w here)))
            (λ c. subst (λ b. Takes (if b then read_op int_type r [] ∷ [] else word_list p.mems view.sources e) t w) (sym c) (word_taken e s s t left left w typed.0.0 typed.1 a here)),
      )
