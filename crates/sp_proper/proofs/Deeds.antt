-- What the operations of a stage do with memories. Each changes no more than the tally of the stage lists, but for resets of the
-- memories that the stage declares itself, and for the register beside a reduction; and registers from before the block are
-- only read.
use Rattle.std.proofs.Common.{◌≡◌, ℕ, ◌+◌, ◌<◌, ◌≤◌, ◌==◌, Bool, true, false, not, List, [], ◌∷◌, ◌++◌, length, None, Some, refl, sym, ◌∙◌, ap, true≢false}
use Rattle.std.specs.List.{list_any}
use Rattle.std.proofs.lemmas.Bool.{eq-eqb}
use Rattle.std.proofs.lemmas.List.Folds.{list_any-append}
use Rattle.sp_words.specs.declared.kind.Kind.{Kind}
use Rattle.sp_words.specs.declared.kind.Kind.TheVariants.{Reg, Sram, Fifo, LineBuf, ArgIn}
use Rattle.sp_words.specs.declared.types.Ty.{Ty}
use Rattle.sp_tree.specs.Expressions.{mem}
use Rattle.sp_tree.specs.Meaning.{is_dram}
use Rattle.sp_tree.specs.PlainExpression.{PlainExpr, PlainExprKind, PlainExprs, expr, literal, counter, value, get_reg, get_arg, get_sram, get_line, deq, one, two, shift, mux, cast, no_expr, more_expr}
use Rattle.sp_tree.specs.PlainProgram.{PlainProgram}
use Rattle.sp_tree.specs.Tallies.{Tally, ◌&◌, changes_of, uses_of, is_among, an_operation, a_read, tally, kind_tally, tallies}
use Rattle.sp_tree.specs.Typing.{Scope, IsMem, Typed, KindTyped, IndicesTyped}
use Rattle.sp_core.specs.declared.operation.OpKind.{OpKind}
use Rattle.sp_core.specs.declared.operation.OpKind.TheVariants as kind
use Rattle.sp_core.specs.PlainCore.{PlainOp}
use Rattle.sp_sugar.specs.Numbers.{is_off_dram, mem_number, written_mems}
use Rattle.sp_sugar.specs.Operations.{Code, source_code, code, code_of, codes}
use Rattle.sp_sugar.specs.Values.{Source, at_place, in_register, constant, count, Sources}
use Rattle.sp_sugar.proofs.Cores.{contains_count}
use Rattle.sp_sugar.proofs.OwnerCounts.{count_of}
use Rattle.sp_lane_cores.proofs.LanedNaming.{SourceHas, SourcesHave}
use Rattle.sp_stream.proofs.Ways.{or_elim, or_first, or_second}

-- what holds of each operation of a list
abbrev pub EachOp : (PlainOp → Type 0) → List PlainOp → Type 0
EachOp P [] = Unit {0}
EachOp P (op ∷ ops) = P op × EachOp P ops

pub each_append : (P : PlainOp → Type 0) (xs ys : List PlainOp) → EachOp P xs → EachOp P ys → EachOp P (xs ++ ys)
each_append P [] ys h k = k
each_append P (x ∷ xs) ys (h, hs) k = (h, each_append P xs ys hs k)

-- one of them passes a test
pub each_any : {R : Type 0} (P : PlainOp → Type 0) (test : PlainOp → Bool) (ops : List PlainOp) → EachOp P ops → list_any test ops ≡ true → ((op : PlainOp) → P op → test op ≡ true → R) → R
each_any P test [] h e f = absurd (true≢false (sym e))
each_any P test (op ∷ ops) (h, hs) e f = or_elim (test op) (list_any test ops) e (λ t. f op h t) (λ t. each_any P test ops hs t f)

-- where a stage stands: the memories of the program that are visible around it, those that it declares, the number from which
-- on the block's own registers are numbered, and the numbers of the registers beside the stage
pub record Place : Type 0 where
  pub outer : List ℕ
  pub own : List ℕ
  pub low : ℕ
  pub from : ℕ
  pub until : ℕ

-- the memories that a tally lists for an operation. What a combination reads, its tally lists among what it writes
abbrev pub listed : OpKind → Tally → List ℕ
listed kind.Read t = uses_of t
listed kind.Write t = t.writes
listed kind.Enq t = t.puts
listed kind.Deq t = t.takes
listed _ t = []

-- a memory of the program that has a number in the core
pub record IsChip (p : PlainProgram) (m : ℕ) : Type 0 where
  pub exists : m < length p.mems
  pub on_chip : is_off_dram (mem p.mems m) ≡ true

pub data Deed (p : PlainProgram) (place : Place) (t : Tally) (op : PlainOp) : Type 0 where
  computes : op.mem ≡ None → Deed p place t op
  recalls : (r : ℕ) → op.mem ≡ Some r → op.kind ≡ kind.Read → length (written_mems p.mems) ≤ r → r < place.low → Deed p place t op
  touches : (m : ℕ) → op.mem ≡ Some (mem_number p.mems m) → IsChip p m → 1 ≤ count_of m place.outer + count_of m place.own → is_among m (listed op.kind t) ≡ true → Deed p place t op
  resets : (m : ℕ) → op.mem ≡ Some (mem_number p.mems m) → IsChip p m → 1 ≤ count_of m place.own → op.kind ≡ kind.Reset → Deed p place t op
  begins : (r : ℕ) → op.mem ≡ Some r → place.from ≤ r → r < place.until → Deed p place t op

-- all of a list is in another one
abbrev pub Sub : List ℕ → List ℕ → Type 0
Sub xs ys = (m : ℕ) → is_among m xs ≡ true → is_among m ys ≡ true

pub among_front : (xs ys : List ℕ) → Sub xs (xs ++ ys)
among_front xs ys m h = list_any-append (λ k. k == m) xs ys ∙ or_first (is_among m xs) (is_among m ys) h

pub among_back : (xs ys : List ℕ) → Sub ys (xs ++ ys)
among_back xs ys m h = list_any-append (λ k. k == m) xs ys ∙ or_second (is_among m xs) (is_among m ys) h

front_of : (xs ys zs : List ℕ) → Sub (xs ++ ys) zs → Sub xs zs
front_of xs ys zs h m e = h m (among_front xs ys m e)

back_of : (xs ys zs : List ℕ) → Sub (xs ++ ys) zs → Sub ys zs
back_of xs ys zs h m e = h m (among_back xs ys m e)

-- a tally lists all that another one does
abbrev pub Includes : Tally → Tally → Type 0
Includes t u = Sub u.reads (uses_of t) × Sub u.writes t.writes × Sub u.puts t.puts × Sub u.takes t.takes

pub includes_itself : (t : Tally) → Includes t t
includes_itself t = (among_front t.reads (changes_of t), (λ m h. h), (λ m h. h), (λ m h. h))

pub left_part : (t a b : Tally) → Includes t (a & b) → Includes t a
left_part t a b h = (front_of a.reads b.reads (uses_of t) h.0, front_of a.writes b.writes t.writes h.1, front_of a.puts b.puts t.puts h.2, front_of a.takes b.takes t.takes h.3)

pub right_part : (t a b : Tally) → Includes t (a & b) → Includes t b
right_part t a b h = (back_of a.reads b.reads (uses_of t) h.0, back_of a.writes b.writes t.writes h.1, back_of a.puts b.puts t.puts h.2, back_of a.takes b.takes t.takes h.3)

-- a memory is in a list of it alone
alone_among : (m : ℕ) (xs ys : List ℕ) → Sub (m ∷ xs) ys → is_among m ys ≡ true
alone_among m xs ys h = h m (or_first (m == m) (is_among m xs) (same m))
  where
    same : (m : ℕ) → (m == m) ≡ true
    same m = eq-eqb m m refl

module _ (p : PlainProgram) where
  -- a register of those before a number
  abbrev pub Low : ℕ → ℕ → Type 0
  Low n r = (length (written_mems p.mems) ≤ r) × (r < n)

  -- what is visible is declared, and visible around the stage or declared in it
  abbrev pub Sees : Place → Scope → Type 0
  Sees place scope = (m : ℕ) → 1 ≤ count_of m scope.mems → (m < length p.mems) × (1 ≤ count_of m place.outer + count_of m place.own)

  module _ (place : Place) (t : Tally) where
    abbrev pub Does : List PlainOp → Type 0
    Does ops = EachOp (Deed p place t) ops

    pub touching : (scope : Scope) (m : ℕ) (K : Kind) (ty : Ty) (op : PlainOp) → Sees place scope → IsMem p scope m K ty → is_dram K ≡ false → op.mem ≡ Some (mem_number p.mems m) → is_among m (listed op.kind t) ≡ true → Deed p place t op
    touching scope m K ty op sees is off e l =
        let seen = sees m (contains_count scope.mems m is.seen) in
        touches m e (record { exists = seen.0; on_chip = ap (λ x. not (is_dram x)) is.is_kind ∙ ap not off }) seen.1 l

    source_does : (at : ℕ) (ty : Ty) (source : Source) → SourceHas (Low place.low) source → Does (source_code at ty source).ops
    source_does at ty (at_place k) h = tt
    source_does at ty (in_register r) h = (recalls r refl refl h.0 h.1, tt)
    source_does at ty (constant w) h = (computes refl, tt)
    source_does at ty (count c) h = (computes refl, tt)

    module _ (sources : Sources) (have : SourcesHave (Low place.low) sources) (scope : Scope) (sees : Sees place scope) where
      abbrev ending : (xs : List PlainOp) (op : PlainOp) → Does xs → Deed p place t op → Does (xs ++ op ∷ [])
      ending xs op h k = each_append (Deed p place t) xs (op ∷ []) h (k, tt)

      mutual
        unfolding code code_of codes

        pub code_does : (e : PlainExpr) (at : ℕ) → Typed p scope e → Includes t (tally e) → Does (code p.mems sources at e).ops
        code_does (expr place' ty k) at typed in_t = code_of_does k at ty typed in_t

        code_of_does : (k : PlainExprKind) (at : ℕ) (ty : Ty) → KindTyped p scope k ty → Includes t (kind_tally k) → Does (code_of p.mems sources at ty k).ops
        code_of_does (literal w) at ty typed in_t = (computes refl, tt)
        code_of_does (counter c) at ty typed in_t = (computes refl, tt)
        code_of_does (value v) at ty typed in_t = source_does at ty (sources v) (have v)
        code_of_does (get_reg m) at ty typed in_t = (touching scope m Reg ty _ sees typed refl refl (alone_among m [] (uses_of t) in_t.0), tt)
        code_of_does (get_arg m) at ty typed in_t = (touching scope m ArgIn ty _ sees typed refl refl (alone_among m [] (uses_of t) in_t.0), tt)
        code_of_does (get_sram m indices) at ty typed in_t =
            let own : Includes t (a_read true m) = right_part t (tallies indices) (a_read true m) in_t in
            ending (codes p.mems sources at indices).ops _ (codes_does indices at typed.2 (left_part t (tallies indices) (a_read true m) in_t))
            (touching scope m Sram ty _ sees typed.0 refl refl (alone_among m [] (uses_of t) own.0))
        code_of_does (get_line m row column) at ty typed in_t =
            let r : Code = code p.mems sources at row in let c : Code = code p.mems sources (at + length r.ops) column in
            let both : Includes t (tally row & tally column) = left_part t (tally row & tally column) (a_read true m) in_t in
            let own : Includes t (a_read true m) = right_part t (tally row & tally column) (a_read true m) in_t in
            ending (r.ops ++ c.ops) _
            (each_append (Deed p place t) r.ops c.ops (code_does row at typed.1 (left_part t (tally row) (tally column) both)) (code_does column (at + length r.ops) typed.3 (right_part t (tally row) (tally column) both)))
            (touching scope m LineBuf ty _ sees typed.0 refl refl (alone_among m [] (uses_of t) own.0))
        code_of_does (deq m) at ty typed in_t = (touching scope m Fifo ty _ sees typed refl refl (alone_among m [] t.takes in_t.3), tt)
        code_of_does (one op a) at ty typed in_t = ending (code p.mems sources at a).ops _ (code_does a at typed.0 (left_part t (tally a) an_operation in_t)) (computes refl)
        code_of_does (two op a b) at ty typed in_t =
            let x : Code = code p.mems sources at a in let y : Code = code p.mems sources (at + length x.ops) b in
            let both : Includes t (tally a & tally b) = left_part t (tally a & tally b) an_operation in_t in
            ending (x.ops ++ y.ops) _
            (each_append (Deed p place t) x.ops y.ops (code_does a at typed.0 (left_part t (tally a) (tally b) both)) (code_does b (at + length x.ops) typed.1 (right_part t (tally a) (tally b) both)))
            (computes refl)
        code_of_does (shift left a by) at ty typed in_t = ending (code p.mems sources at a).ops _ (code_does a at typed.0 (left_part t (tally a) an_operation in_t)) (computes refl)
        code_of_does (mux c a b) at ty typed in_t =
            let z : Code = code p.mems sources at c in let x : Code = code p.mems sources (at + length z.ops) a in let y : Code = code p.mems sources (at + length z.ops + length x.ops) b in
            let all : Includes t (tally c & tally a & tally b) = left_part t (tally c & tally a & tally b) an_operation in_t in
            let both : Includes t (tally c & tally a) = left_part t (tally c & tally a) (tally b) all in
            ending (z.ops ++ x.ops ++ y.ops) _
            (each_append (Deed p place t) (z.ops ++ x.ops) y.ops
            (each_append (Deed p place t) z.ops x.ops (code_does c at typed.0 (left_part t (tally c) (tally a) both)) (code_does a (at + length z.ops) typed.2 (right_part t (tally c) (tally a) both)))
            (code_does b (at + length z.ops + length x.ops) typed.4 (right_part t (tally c & tally a) (tally b) all)))
            (computes refl)
        code_of_does (cast a) at ty typed in_t = ending (code p.mems sources at a).ops _ (code_does a at typed (left_part t (tally a) an_operation in_t)) (computes refl)

        pub codes_does : (es : PlainExprs) (at : ℕ) → IndicesTyped p scope es → Includes t (tallies es) → Does (codes p.mems sources at es).ops
        codes_does no_expr at typed in_t = tt
        codes_does (more_expr e es) at typed in_t =
            let x : Code = code p.mems sources at e in
            each_append (Deed p place t) x.ops (codes p.mems sources (at + length x.ops) es).ops (code_does e at typed.0 (left_part t (tally e) (tallies es) in_t))
            (codes_does es (at + length x.ops) typed.2 (right_part t (tally e) (tallies es) in_t))
