-- Each typed expression of a printed text is read as a tree that spells it.
use Rattle.std.proofs.Common.{◌≡◌, ℕ, ◌≤◌, ◌<◌, true, subst, length, slice_index_or, [], Contains, arith}
use Rattle.sp_words.specs.declared.kind.Kind.TheVariants.{Sram, Dram}
use Rattle.sp_words.specs.declared.types.Ty.{Ty}
use Rattle.sp_words.specs.Names.{IsName}
use Rattle.sp_tree.specs.PlainExpression as program
use Rattle.sp_tree.specs.PlainExpression.{PlainExpr, PlainExprKind, PlainExprs}
use Rattle.sp_tree.specs.Counts.{is_port}
use Rattle.sp_tree.specs.Declarations.{HasRank, IsDeclaration}
use Rattle.sp_tree.specs.PlainProgram.{PlainMem, PlainProgram}
use Rattle.sp_tree.specs.Typing.{Scope, mem_at, Typed, KindTyped, IndicesTyped}
use Rattle.sp_reader.specs.Steps.{Text}
use Rattle.sp_printer.specs.Names.{names_in}
use Rattle.sp_printed.specs.Trees.{IsTree}
use Rattle.sp_printed.proofs.Takings.{Binds, as_more}
use Rattle.sp_printed.proofs.Literals.{literal_printed}
use Rattle.sp_printed.proofs.Calls.{ExprReads, KindReads, RowReads, enclosed_reads, name_reads, deq_reads, element_reads, line_reads, two_reads, shift_reads, mux_reads}
use Rattle.sp_printed.proofs.Signs.{one_reads, cast_reads}

-- an SRAM and a DRAM have a dimension
pub sram_rank : (m : PlainMem) → IsDeclaration m → m.kind ≡ Sram → 1 ≤ length m.dims
sram_rank m d is = (subst (λ k. HasRank k (length m.dims)) is d.rank).0

pub dram_rank : (m : PlainMem) → IsDeclaration m → m.kind ≡ Dram → 1 ≤ length m.dims
dram_rank m d is = (subst (λ k. HasRank k (length m.dims)) is d.rank).0

module _ (p : PlainProgram) where
  -- what is visible is declared, under a name, and all ports are visible
  pub record Named (scope : Scope) : Type 0 where
    pub mems : (m : ℕ) → Contains scope.mems m → IsDeclaration (mem_at p m)
    pub ports : (m : ℕ) → m < length p.mems → is_port (mem_at p m).kind ≡ true → Contains scope.mems m
    pub vals : (v : ℕ) (ty : Ty) → Contains scope.vals (v, ty) → IsName (slice_index_or p.vals v [])
    pub counters : (c : ℕ) → Contains scope.counters c → IsName (slice_index_or p.counters c [])

  module _ (source : Text) (scope : Scope) (named : Named scope) where
    mutual
      pub expr_reads : (e : PlainExpr) → Typed p scope e → (least : ℕ) → ExprReads source (names_in p) least e
      expr_reads (program.expr place ty kind) h least = enclosed_reads source (names_in p) least place ty kind (kind_reads kind place ty h)

      kind_reads : (kind : PlainExprKind) → (place : ℕ) (ty : Ty) → KindTyped p scope kind ty → KindReads source (names_in p) place ty kind
      kind_reads (program.literal w) place ty h = as_more (λ ts us x r. (Binds.tight r.0, r.1)) (literal_printed source (names_in p) place ty w)
      kind_reads (program.counter c) place ty h = name_reads source (names_in p) (program.expr place ty (program.counter c)) (slice_index_or p.counters c []) (named.counters c h.0) (λ at i e. IsTree.a_counter e)
      kind_reads (program.value v) place ty h = name_reads source (names_in p) (program.expr place ty (program.value v)) (slice_index_or p.vals v []) (named.vals v ty h) (λ at i e. IsTree.a_value e)
      kind_reads (program.get_reg m) place ty h = name_reads source (names_in p) (program.expr place ty (program.get_reg m)) (mem_at p m).name (named.mems m h.seen).name (λ at i e. IsTree.a_reg e)
      kind_reads (program.get_arg m) place ty h = name_reads source (names_in p) (program.expr place ty (program.get_arg m)) (mem_at p m).name (named.mems m h.seen).name (λ at i e. IsTree.an_arg e)
      kind_reads (program.get_sram m program.no_expr) place ty h = absurd (omega (arith, h.1, sram_rank (mem_at p m) (named.mems m h.0.seen) h.0.is_kind))
      kind_reads (program.get_sram m (program.more_expr e all)) place ty h = element_reads source (names_in p) place m ty e all (named.mems m h.0.seen).name (expr_reads e h.2.0 0) (rows_read all h.2.2)
      kind_reads (program.get_line m row column) place ty h = line_reads source (names_in p) place m ty row column (named.mems m h.0.seen).name (expr_reads row h.1 0) (expr_reads column h.3 0)
      kind_reads (program.deq m) place ty h = deq_reads source (names_in p) place m ty (named.mems m h.seen).name
      kind_reads (program.one o a) place ty h = one_reads source (names_in p) place ty o a (λ least. expr_reads a h.0 least)
      kind_reads (program.two o a b) place ty h = two_reads source (names_in p) place ty o a b (λ least. expr_reads a h.0 least) (λ least. expr_reads b h.1 least)
      kind_reads (program.shift left a by) place ty h = shift_reads source (names_in p) place ty left a by h.3 (expr_reads a h.0 5)
      kind_reads (program.mux c a b) place ty h = mux_reads source (names_in p) place ty c a b (expr_reads c h.0 0) (expr_reads a h.2 0) (expr_reads b h.4 0)
      kind_reads (program.cast a) place ty h = cast_reads source (names_in p) place ty a (expr_reads a h 9)

      pub rows_read : (all : PlainExprs) → IndicesTyped p scope all → RowReads source (names_in p) all
      rows_read program.no_expr h = tt
      rows_read (program.more_expr e rest) h = (expr_reads e h.0 0, rows_read rest h.2)
