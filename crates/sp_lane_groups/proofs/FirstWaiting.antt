-- What waits in an inner body is declared in what is to come, and isn't named before.
use Rattle.std.proofs.Common.{◌≡◌, ℕ, zero, suc, ◌<◌, ◌≤◌, Bool, true, false, not, List, [], ◌∷◌, length, map, refl, sym, ◌∙◌, ap, subst, arith}
use Rattle.std.specs.Prelude.{Contains}
use Rattle.sp_words.specs.declared.kind.Kind.{Kind}
use Rattle.sp_words.specs.declared.kind.Kind.TheVariants.{Reg, Sram, Fifo, LineBuf, ArgIn}
use Rattle.sp_words.specs.declared.types.Ty.{Ty}
use Rattle.sp_tree.specs.Expressions.{mem}
use Rattle.sp_tree.specs.Footprint.{Names, KindNames, AllName}
use Rattle.sp_tree.specs.Meaning.{is_dram}
use Rattle.sp_tree.specs.PlainExpression.{PlainExpr, PlainExprKind, PlainExprs, expr, literal, counter, value, get_reg, get_arg, get_sram, get_line, deq, one, two, shift, mux, cast, no_expr, more_expr}
use Rattle.sp_tree.specs.PlainProgram.{PlainProgram}
use Rattle.sp_tree.specs.PlainStatement.{PlainStmtKind, PlainStmts, stmt, declare, name, no_stmt, more_stmt}
use Rattle.sp_tree.specs.Structure.{mems_declared, own_mems}
use Rattle.sp_tree.specs.Typing.{Scope, IsMem, Typed, KindTyped, IndicesTyped, BodyTyped, after, mem_at, visible}
use Rattle.sp_core.specs.PlainCore.{PlainCore}
use Rattle.sp_core.specs.Sequential.{has_reset}
use Rattle.sp_core.specs.Declarations.{dram_number}
use Rattle.sp_sugar.specs.Numbers.{mem_number, written_mems}
use Rattle.sp_sugar.proofs.Entering.{own_declared}
use Rattle.sp_sugar.proofs.NumberLemmas.{number_below, numbers_apart}
use Rattle.sp_sugar.proofs.RunKeeps.{in_front}
use Rattle.sp_lane_cores.proofs.LanedNaming.{Test, InRange, Declared}

module _ (p : PlainProgram) where
  name_there : (f : ℕ → List ℕ) (xs : List ℕ) (m : ℕ) → Contains xs m → Contains (map f xs) (f m)
  name_there f [] m c = absurd (omega (arith, c.1))
  name_there f (x ∷ xs) m (zero, lt, e) = (zero, omega arith, ap f e)
  name_there f (x ∷ xs) m (suc j, lt, e) = let r = name_there f xs m (j, omega arith, e) in (suc r.0, omega (arith, r.1), r.2)

  -- the name of a memory that is visible is visible
  seen : (scope : Scope) (m : ℕ) → Contains scope.mems m → Contains (visible p scope) (mem_at p m).name
  seen scope m c = in_front _ _ (mem_at p m).name (in_front (map (λ m. (mem_at p m).name) scope.mems) _ (mem_at p m).name (name_there (λ m. (mem_at p m).name) scope.mems m c))

  still : (scope : Scope) (k : PlainStmtKind) (m : ℕ) → Contains scope.mems m → Contains (after scope k).mems m
  still scope (declare x) m c = (suc c.0, omega (arith, c.1), c.2)
  still scope (name v e) m c = c
  still scope _ m c = c

  -- what isn't declared yet isn't visible
  pub not_yet : (scope : Scope) (body : PlainStmts) (m : ℕ) → BodyTyped p scope body → Contains (own_mems body) m → Contains scope.mems m → ⊥
  not_yet scope no_stmt m typed c d = omega (arith, c.1)
  not_yet scope (more_stmt (stmt place (declare x)) rest) m typed (zero, lt, e) d = typed.0 (subst (λ y. Contains (visible p scope) (mem_at p y).name) (sym e) (seen scope m d))
  not_yet scope (more_stmt (stmt place (declare x)) rest) m typed (suc j, lt, e) d = not_yet (after scope (declare x)) rest m typed.1 (j, omega arith, e) (still scope (declare x) m d)
  not_yet scope (more_stmt (stmt place (name v e)) rest) m typed c d = not_yet (after scope (name v e)) rest m typed.1 c d
  not_yet scope (more_stmt (stmt place k) rest) m typed c d = not_yet scope rest m typed.1 c d

  -- each memory of the core that waits is one that these statements declare, with a reset operation
  abbrev pub Waiting : (rest : PlainStmts) → (ℕ → Bool) → Type 0
  Waiting rest waits = (k : ℕ) → waits k ≡ true → (x : ℕ) × Contains (own_mems rest) x × (mem_number p.mems x ≡ k) × (has_reset (mem p.mems x).kind (mem p.mems x).start ≡ true)

  module _ (core : PlainCore) (wide : length (written_mems p.mems) ≤ length core.mems) (scope : Scope) (rest : PlainStmts) (waits : ℕ → Bool) (waiting : Waiting rest waits) (ran : InRange p scope) (d : Declared p (mems_declared rest)) (typed : BodyTyped p scope rest) where
    negated : (b : Bool) → (b ≡ true → ⊥) → not b ≡ true
    negated true h = absurd (h refl)
    negated false h = refl

    -- a register of the compiler doesn't wait
    pub late : (r : ℕ) → length (written_mems p.mems) ≤ r → not (waits r) ≡ true
    late r le = negated (waits r) (λ w.
        let x = waiting r w in
        let is = d x.0 (own_declared rest x.0 x.1) in
        let low : mem_number p.mems x.0 < length (written_mems p.mems) = number_below p.mems x.0 is.0 is.1 in
        omega (arith, low, le, x.2))

    -- what doesn't wait, by the program's number and by the core's
    abbrev pub test : Test p core
    test = record { ok = λ m. not (waits (mem_number p.mems m)); is = λ k. not (waits k); chips = λ m o lt off. o; drams = λ r. late (dram_number core r) (omega (arith, wide)) }

    -- what is visible doesn't
    pub visible_ok : (m : ℕ) (K : Kind) (ty : Ty) → IsMem p scope m K ty → is_dram K ≡ false → not (waits (mem_number p.mems m)) ≡ true
    visible_ok m K ty h off = negated (waits (mem_number p.mems m)) (λ w.
        let x = waiting (mem_number p.mems m) w in
        let is = d x.0 (own_declared rest x.0 x.1) in
        let same : x.0 ≡ m = numbers_apart p.mems x.0 m is.0 (ran m h.seen) is.1 (ap (λ k. not (is_dram k)) h.is_kind ∙ ap not off) x.2 in
        not_yet scope rest m typed (subst (Contains (own_mems rest)) same x.1) h.seen)

    mutual
      pub names_ok : (e : PlainExpr) → Typed p scope e → Names (λ m. not (waits (mem_number p.mems m))) e
      names_ok (expr place ty k) t = kind_ok k ty t

      kind_ok : (k : PlainExprKind) (ty : Ty) → KindTyped p scope k ty → KindNames (λ m. not (waits (mem_number p.mems m))) k
      kind_ok (literal w) ty t = tt
      kind_ok (counter c) ty t = tt
      kind_ok (value v) ty t = tt
      kind_ok (get_reg m) ty t = visible_ok m Reg ty t refl
      kind_ok (get_arg m) ty t = visible_ok m ArgIn ty t refl
      kind_ok (get_sram m indices) ty t = (visible_ok m Sram ty t.0 refl, all_ok indices t.2)
      kind_ok (get_line m row column) ty t = (visible_ok m LineBuf ty t.0 refl, names_ok row t.1, names_ok column t.3)
      kind_ok (deq m) ty t = visible_ok m Fifo ty t refl
      kind_ok (one op a) ty t = names_ok a t.0
      kind_ok (two op a b) ty t = (names_ok a t.0, names_ok b t.1)
      kind_ok (shift left a by) ty t = names_ok a t.0
      kind_ok (mux c a b) ty t = (names_ok c t.0, names_ok a t.2, names_ok b t.4)
      kind_ok (cast a) ty t = names_ok a t

      pub all_ok : (es : PlainExprs) → IndicesTyped p scope es → AllName (λ m. not (waits (mem_number p.mems m))) es
      all_ok no_expr t = tt
      all_ok (more_expr e es) t = (names_ok e t.0, all_ok es t.2)
