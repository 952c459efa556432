-- The operations of a typed expression keep the rules, and give a word of its type.
use Rattle.std.proofs.Common.{◌≡◌, ℕ, suc, ◌+◌, ◌<◌, ◌^◌, true, false, not, [], ◌∷◌, ◌++◌, Option, Some, None, refl, sym, ◌∙◌, ap, subst, arith, length-append}
use Rattle.std.proofs.lemmas.Bool.{lt-ltb, and_from}
use Rattle.std.specs.Prelude.{length, replicate}
use Rattle.sp_words.specs.declared.kind.BinOp.{BinOp}
use Rattle.sp_words.specs.declared.kind.BinOp.TheVariants as binary
use Rattle.sp_words.specs.declared.kind.Kind.{Kind}
use Rattle.sp_words.specs.declared.kind.Kind.TheVariants.{Reg, Sram, Fifo, LineBuf, ArgIn}
use Rattle.sp_words.specs.declared.kind.UnOp.{UnOp}
use Rattle.sp_words.specs.declared.kind.UnOp.TheVariants as unary
use Rattle.sp_words.specs.declared.types.Ty.{Ty}
use Rattle.sp_words.specs.Types.{int_type, width_of}
use Rattle.sp_tree.specs.Declarations.{HasRank}
use Rattle.sp_tree.specs.Expressions as expressions
use Rattle.sp_tree.specs.Meaning.{is_dram}
use Rattle.sp_tree.specs.PlainExpression.{PlainExpr, PlainExprKind, PlainExprs, expr, literal, counter, value, get_reg, get_arg, get_sram, get_line, deq, one, two, shift, mux, cast, no_expr, more_expr, type_of}
use Rattle.sp_tree.specs.PlainProgram.{PlainProgram, no_mem}
use Rattle.sp_tree.specs.Typing.{Scope, OneTyped, TwoTyped, IsMem, expr_count, Typed, KindTyped, IndicesTyped}
use Rattle.sp_core.specs.declared.operation.OpKind.{OpKind}
use Rattle.sp_core.specs.declared.operation.OpKind.TheVariants as kind
use Rattle.sp_core.specs.Around.{Around, is_usable}
use Rattle.sp_core.specs.Declarations.{mem}
use Rattle.sp_core.specs.OperationRules.{is_access, can, names_rightly}
use Rattle.sp_core.specs.PlainCore as plain
use Rattle.sp_core.specs.PlainCore.{PlainCore}
use Rattle.sp_core.specs.Typed.{is_type, Given, given_type, index_count}
use Rattle.sp_sugar.specs.Agreement.{HasMemories}
use Rattle.sp_sugar.specs.Numbers.{is_off_dram, mem_number, written_mem}
use Rattle.sp_sugar.specs.Operations.{Code, Codes, source_code, code, code_of, codes}
use Rattle.sp_sugar.specs.Rules.{given_by, IsRegister, IsSource, MayUse, Keep}
use Rattle.sp_sugar.specs.Values.{Source, at_place, in_register, constant, count, Sources}
use Rattle.sp_sugar.proofs.KeepLemmas.{type_is, gives_still, given_length, keep_nothing, keep_others, keep_one}
use Rattle.sp_sugar.proofs.MemoryLemmas.{chip_mem}

pub one_type : (op : UnOp) (from to : Ty) → OneTyped op from to → from ≡ to
one_type unary.Neg from to h = h.0
one_type unary.Not from to h = h

pub two_type : (op : BinOp) (from to : Ty) → TwoTyped op from to → given_type (kind.Two op) from ≡ Some to
two_type binary.Add from to h = ap Some h.0
two_type binary.Sub from to h = ap Some h.0
two_type binary.Mul from to h = ap Some h.0
two_type binary.Div from to h = ap Some h.0
two_type binary.Rem from to h = ap Some h.0
two_type binary.And from to h = ap Some h
two_type binary.Or from to h = ap Some h
two_type binary.Xor from to h = ap Some h
two_type binary.Lt from to h = ap Some (sym h.1)
two_type binary.Le from to h = ap Some (sym h.1)
two_type binary.Gt from to h = ap Some (sym h.1)
two_type binary.Ge from to h = ap Some (sym h.1)
two_type binary.Eq from to h = ap Some (sym h)
two_type binary.Ne from to h = ap Some (sym h)
two_type binary.Min from to h = ap Some h.0
two_type binary.Max from to h = ap Some h.0

module _ (core : PlainCore) (around : Around) where
  -- an access to a memory of a kind that allows it
  pub access_named : (k : OpKind) (ty : Ty) (n : ℕ) (K : Kind) → is_access k ≡ true → is_usable core around n ≡ true → (mem core n).kind ≡ K → ((start : Option ℕ) → can k K start ≡ true) → (mem core n).ty ≡ ty → names_rightly core around k ty (Some n) ≡ true
  access_named k ty n K a u e c t = and_from _ _ (and_from _ _ a u)
      (and_from _ _ (subst (λ x. can k x (mem core n).start ≡ true) (sym e) (c (mem core n).start)) (subst (λ x. is_type ty x ≡ true) (sym t) (type_is ty)))

  -- a read of a register
  pub register_read : (earlier : Given) (r at : ℕ) (ty : Ty) → IsRegister core around r ty → at ≡ length earlier → Keep core around earlier (source_code at ty (in_register r)).ops (at ∷ []) (ty ∷ [])
  register_read earlier r at ty f e =
      keep_one core around earlier [] [] [] (keep_nothing core around earlier) kind.Read ty (Some r) refl (access_named kind.Read ty r Reg refl f.usable f.is_kind (λ s. refl) f.is_type)
      (ap (λ k. replicate (index_count (record (mem core r) { kind = k })) int_type) f.is_kind) ty at refl (omega (arith, e))

  pub source_keeps : (source : Source) (ty : Ty) (at : ℕ) (earlier : Given) → at ≡ length earlier → IsSource core around earlier ty source → Keep core around earlier (source_code at ty source).ops ((source_code at ty source).word ∷ []) (ty ∷ [])
  source_keeps (at_place k) ty at earlier e f = record { right = refl; give = and_from _ _ (gives_still earlier [] k ty f) refl }
  source_keeps (in_register r) ty at earlier e f = register_read earlier r at ty f e
  source_keeps (constant w) ty at earlier e f = keep_one core around earlier [] [] [] (keep_nothing core around earlier) (kind.Word w) ty None (lt-ltb w (2 ^ width_of ty) f) refl refl ty at refl (omega (arith, e))
  source_keeps (count c) ty at earlier e f = keep_one core around earlier [] [] [] (keep_nothing core around earlier) (kind.Count c 0) ty None (and_from _ _ f.0 (subst (λ x. is_type x int_type ≡ true) (sym f.1) (type_is int_type))) refl refl ty at refl (omega (arith, e))

  pub source_still : (earlier more : Given) (source : Source) (ty : Ty) → IsSource core around earlier ty source → IsSource core around (earlier ++ more) ty source
  source_still earlier more (at_place k) ty f = gives_still earlier more k ty f
  source_still earlier more (in_register r) ty f = f
  source_still earlier more (constant w) ty f = f
  source_still earlier more (count c) ty f = f

module _ (p : PlainProgram) (core : PlainCore) (h : HasMemories p core) (around : Around) (scope : Scope) (sources : Sources) where
  abbrev May : Given → Type 0
  May earlier = MayUse core around p scope sources earlier

  abbrev Keeps : Given → Code → Ty → Type 0
  Keeps earlier c ty = Keep core around earlier c.ops (c.word ∷ []) (ty ∷ [])

  -- what may be used still may
  pub may_still : (earlier more : Given) → May earlier → May (earlier ++ more)
  may_still earlier more m = record { mems = m.mems; vals = λ v c. source_still core around earlier more (sources v.0) v.1 (m.vals v c); counters = m.counters }

  -- a visible memory on the chip
  module _ (m : ℕ) (K : Kind) (ty : Ty) (is : IsMem p scope m K ty) (chip : is_dram K ≡ false) (earlier : Given) (may : May earlier) where
    off : is_off_dram (expressions.mem p.mems m) ≡ true
    off = ap (λ x. not (is_dram x)) is.is_kind ∙ ap not chip

    lt : m < length p.mems
    lt = (may.mems m is.seen off).0

    usable : is_usable core around (mem_number p.mems m) ≡ true
    usable = (may.mems m is.seen off).1

    kind_there : (mem core (mem_number p.mems m)).kind ≡ K
    kind_there = ap (λ (x : plain.PlainMem). x.kind) (chip_mem p core h m lt off) ∙ is.is_kind

    pub named : (k : OpKind) → is_access k ≡ true → ((start : Option ℕ) → can k K start ≡ true) → names_rightly core around k ty (Some (mem_number p.mems m)) ≡ true
    named k a c = access_named core around k ty (mem_number p.mems m) K a usable kind_there c (ap (λ (x : plain.PlainMem). x.ty) (chip_mem p core h m lt off) ∙ is.is_type)

    pub indices : index_count (mem core (mem_number p.mems m)) ≡ index_count (written_mem (record (expressions.mem p.mems m) { kind = K }))
    indices = ap index_count (chip_mem p core h m lt off) ∙ ap (λ x. index_count (written_mem (record (expressions.mem p.mems m) { kind = x }))) is.is_kind

    pub rank : HasRank K (length (expressions.mem p.mems m).dims)
    rank = subst (λ x. HasRank x (length (expressions.mem p.mems m).dims)) is.is_kind (h.declared m no_mem lt).rank

  mutual
    unfolding code code_of codes

    pub keeps : (e : PlainExpr) (at : ℕ) (earlier : Given) → at ≡ length earlier → Typed p scope e → May earlier → Keeps earlier (code p.mems sources at e) (type_of e)
    keeps (expr place ty k) at earlier eq typed may = kind_keeps k ty at earlier eq typed may

    kind_keeps : (k : PlainExprKind) (ty : Ty) (at : ℕ) (earlier : Given) → at ≡ length earlier → KindTyped p scope k ty → May earlier → Keeps earlier (code_of p.mems sources at ty k) ty
    kind_keeps (literal w) ty at earlier eq typed may = source_keeps core around (constant w) ty at earlier eq typed
    kind_keeps (counter c) ty at earlier eq typed may = source_keeps core around (count c) ty at earlier eq (may.counters c typed.0, typed.1)
    kind_keeps (value v) ty at earlier eq typed may = source_keeps core around (sources v) ty at earlier eq (may.vals (v, ty) typed)
    kind_keeps (get_reg m) ty at earlier eq typed may =
        keep_one core around earlier [] [] [] (keep_nothing core around earlier) kind.Read ty (Some (mem_number p.mems m)) refl (named m Reg ty typed refl earlier may kind.Read refl (λ s. refl))
        (ap (λ n. replicate n int_type) (indices m Reg ty typed refl earlier may)) ty at refl (omega (arith, eq))
    kind_keeps (get_arg m) ty at earlier eq typed may =
        keep_one core around earlier [] [] [] (keep_nothing core around earlier) kind.Read ty (Some (mem_number p.mems m)) refl (named m ArgIn ty typed refl earlier may kind.Read refl (λ s. refl))
        (ap (λ n. replicate n int_type) (indices m ArgIn ty typed refl earlier may)) ty at refl (omega (arith, eq))
    kind_keeps (get_sram m is) ty at earlier eq typed may =
        let c : Codes = codes p.mems sources at is in
        keep_one core around earlier c.ops c.words (replicate (expr_count is) int_type) (rows_keep is at earlier eq typed.2 may) kind.Read ty (Some (mem_number p.mems m)) refl (named m Sram ty typed.0 refl earlier may kind.Read refl (λ s. refl))
        (ap (λ n. replicate n int_type) (indices m Sram ty typed.0 refl earlier may ∙ sym typed.1)) ty (at + length c.ops) refl (ap (λ n. n + length c.ops) eq)
    kind_keeps (get_line m row column) ty at earlier eq typed may =
        let r : Code = code p.mems sources at row in
        let c : Code = code p.mems sources (at + length r.ops) column in
        let both = keep_others core around earlier r.ops c.ops (r.word ∷ []) (c.word ∷ []) (type_of row ∷ []) (type_of column ∷ []) (keeps row at earlier eq typed.1 may)
        (keeps column (at + length r.ops) (earlier ++ given_by r.ops) (omega (arith, eq, length-append earlier (given_by r.ops), given_length r.ops)) typed.3 (may_still earlier (given_by r.ops) may)) in
        keep_one core around earlier (r.ops ++ c.ops) (r.word ∷ c.word ∷ []) (type_of row ∷ type_of column ∷ []) both kind.Read ty (Some (mem_number p.mems m)) refl (named m LineBuf ty typed.0 refl earlier may kind.Read refl (λ s. refl))
        (ap (λ n. replicate n int_type) (indices m LineBuf ty typed.0 refl earlier may ∙ rank m LineBuf ty typed.0 refl earlier may) ∙ ap (λ x. x ∷ int_type ∷ []) (sym typed.2) ∙ ap (λ x. type_of row ∷ x ∷ []) (sym typed.4))
        ty (at + length (r.ops ++ c.ops)) refl (ap (λ n. n + length (r.ops ++ c.ops)) eq)
    kind_keeps (deq m) ty at earlier eq typed may =
        keep_one core around earlier [] [] [] (keep_nothing core around earlier) kind.Deq ty (Some (mem_number p.mems m)) refl (named m Fifo ty typed refl earlier may kind.Deq refl (λ s. refl)) refl ty at refl (omega (arith, eq))
    kind_keeps (one op a) ty at earlier eq typed may =
        let x : Code = code p.mems sources at a in
        keep_one core around earlier x.ops (x.word ∷ []) (type_of a ∷ []) (keeps a at earlier eq typed.0 may) (kind.One op) ty None refl refl (ap (λ t. t ∷ []) (sym (one_type op (type_of a) ty typed.1)))
        ty (at + length x.ops) refl (ap (λ n. n + length x.ops) eq)
    kind_keeps (two op a b) ty at earlier eq typed may =
        let x : Code = code p.mems sources at a in
        let y : Code = code p.mems sources (at + length x.ops) b in
        let both = keep_others core around earlier x.ops y.ops (x.word ∷ []) (y.word ∷ []) (type_of a ∷ []) (type_of b ∷ []) (keeps a at earlier eq typed.0 may)
        (keeps b (at + length x.ops) (earlier ++ given_by x.ops) (omega (arith, eq, length-append earlier (given_by x.ops), given_length x.ops)) typed.1 (may_still earlier (given_by x.ops) may)) in
        keep_one core around earlier (x.ops ++ y.ops) (x.word ∷ y.word ∷ []) (type_of a ∷ type_of b ∷ []) both (kind.Two op) (type_of a) None refl refl (ap (λ t. type_of a ∷ t ∷ []) typed.2)
        ty (at + length (x.ops ++ y.ops)) (two_type op (type_of a) ty typed.3) (ap (λ n. n + length (x.ops ++ y.ops)) eq)
    kind_keeps (shift left a by) ty at earlier eq typed may =
        let x : Code = code p.mems sources at a in
        keep_one core around earlier x.ops (x.word ∷ []) (type_of a ∷ []) (keeps a at earlier eq typed.0 may) (kind.Shift left by) ty None (lt-ltb by 64 typed.3) refl (ap (λ t. t ∷ []) (sym typed.1))
        ty (at + length x.ops) refl (ap (λ n. n + length x.ops) eq)
    kind_keeps (mux c a b) ty at earlier eq typed may =
        let z : Code = code p.mems sources at c in
        let x : Code = code p.mems sources (at + length z.ops) a in
        let y : Code = code p.mems sources (at + length z.ops + length x.ops) b in
        let first = keep_others core around earlier z.ops x.ops (z.word ∷ []) (x.word ∷ []) (type_of c ∷ []) (type_of a ∷ []) (keeps c at earlier eq typed.0 may)
        (keeps a (at + length z.ops) (earlier ++ given_by z.ops) (omega (arith, eq, length-append earlier (given_by z.ops), given_length z.ops)) typed.2 (may_still earlier (given_by z.ops) may)) in
        let all = keep_others core around earlier (z.ops ++ x.ops) y.ops (z.word ∷ x.word ∷ []) (y.word ∷ []) (type_of c ∷ type_of a ∷ []) (type_of b ∷ []) first
        (keeps b (at + length z.ops + length x.ops) (earlier ++ given_by (z.ops ++ x.ops)) (omega (arith, eq, length-append earlier (given_by (z.ops ++ x.ops)), given_length (z.ops ++ x.ops), length-append z.ops x.ops)) typed.4 (may_still earlier (given_by (z.ops ++ x.ops)) may)) in
        keep_one core around earlier (z.ops ++ x.ops ++ y.ops) (z.word ∷ x.word ∷ y.word ∷ []) (type_of c ∷ type_of a ∷ type_of b ∷ []) all kind.Mux ty None refl refl
        (ap (λ t. t ∷ ty ∷ ty ∷ []) (sym typed.1) ∙ ap (λ t. type_of c ∷ t ∷ ty ∷ []) (sym typed.3) ∙ ap (λ t. type_of c ∷ type_of a ∷ t ∷ []) (sym typed.5))
        ty (at + length (z.ops ++ x.ops ++ y.ops)) refl (ap (λ n. n + length (z.ops ++ x.ops ++ y.ops)) eq)
    kind_keeps (cast a) ty at earlier eq typed may =
        let x : Code = code p.mems sources at a in
        keep_one core around earlier x.ops (x.word ∷ []) (type_of a ∷ []) (keeps a at earlier eq typed may) (kind.Cast ty) (type_of a) None refl refl refl ty (at + length x.ops) refl (ap (λ n. n + length x.ops) eq)

    pub rows_keep : (es : PlainExprs) (at : ℕ) (earlier : Given) → at ≡ length earlier → IndicesTyped p scope es → May earlier
        → Keep core around earlier (codes p.mems sources at es).ops (codes p.mems sources at es).words (replicate (expr_count es) int_type)
    rows_keep no_expr at earlier eq typed may = keep_nothing core around earlier
    rows_keep (more_expr e es) at earlier eq typed may =
        let x : Code = code p.mems sources at e in
        let xs : Codes = codes p.mems sources (at + length x.ops) es in
        let both = keep_others core around earlier x.ops xs.ops (x.word ∷ []) xs.words (type_of e ∷ []) (replicate (expr_count es) int_type) (keeps e at earlier eq typed.0 may)
        (rows_keep es (at + length x.ops) (earlier ++ given_by x.ops) (omega (arith, eq, length-append earlier (given_by x.ops), given_length x.ops)) typed.2 (may_still earlier (given_by x.ops) may)) in
        subst (λ ts. Keep core around earlier (x.ops ++ xs.ops) (x.word ∷ xs.words) ts)
        (ap (λ t. t ∷ replicate (expr_count es) int_type) typed.1 ∙ ap (λ n. replicate n int_type) {x = suc (expr_count es)} {y = 1 + expr_count es} (omega arith)) both
