-- The memories and registers of a body, statement by statement.
use Rattle.std.proofs.Common.{◌≡◌, ℕ, zero, suc, ◌+◌, ◌<◌, ◌≤◌, List, [], ◌∷◌, ◌++◌, Option, refl, sym, ◌∙◌, ap, subst, arith, length-append, append_assoc}
use Rattle.std.specs.Prelude.{length, slice_index_or, Contains}
use Rattle.sp_tree.specs.PlainProgram.{PlainProgram}
use Rattle.sp_tree.specs.PlainStatement.{PlainStmtKind, PlainStmts, stmt, declare, name, set_reg, set_out, set_sram, enq, load_sram, load_line, store, gather, scatter, block, foreach, reduce, mem_reduce, fsm, branch, no_stmt, more_stmt}
use Rattle.sp_tree.specs.Structure.{own_mems, mems_declared, mems_in}
use Rattle.sp_core.specs.Declarations.{mem as core_mem}
use Rattle.sp_core.specs.PlainCore.{PlainMem, PlainCore, no_mem}
use Rattle.sp_sugar.specs.Agreement.{Apart}
use Rattle.sp_sugar.specs.Early.{early_registers}
use Rattle.sp_sugar.specs.Registers.{beside, inside, at_end, registers}
use Rattle.sp_sugar.specs.Uses.{Ending}
use Rattle.sp_sugar.specs.Values.{Source, at_place, in_register, constant, count}
use Rattle.sp_sugar.proofs.Entering.{own_declared}
use Rattle.sp_sugar.proofs.OwnerCounts.{IsStageKind}
use Rattle.sp_sugar.proofs.RunKeeps.{in_front, in_back}
use Rattle.sp_same.specs.Following.{SourceBefore}
use Rattle.sp_same.proofs.Renewed.{in_either}
use Rattle.sp_bodies.specs.Bodies.{AreDeclared, beside_of}
use Rattle.sp_bodies.proofs.StageSteps.{cells_from, cells_number}

append_nothing : {A : Type 0} (xs : List A) → xs ++ [] ≡ xs
append_nothing [] = refl
append_nothing (x ∷ xs) = ap (λ l. x ∷ l) (append_nothing xs)

-- the registers beside a controller or transfer don't depend on what comes after it
pub same_beside : (k : PlainStmtKind) → IsStageKind k → (rest : PlainStmts) (ending : Ending) → beside_of k ≡ beside k rest ending
same_beside (reduce style fold acc loops body e comb) t rest ending = refl
same_beside (mem_reduce style acc loops body part comb) t rest ending = refl
same_beside (load_sram sram dram spans) t rest ending = append_nothing (early_registers (load_sram sram dram spans))
same_beside (load_line line dram spans) t rest ending = append_nothing (early_registers (load_line line dram spans))
same_beside (store dram spans sram) t rest ending = append_nothing (early_registers (store dram spans sram))
same_beside (gather sram dram places n) t rest ending = append_nothing (early_registers (gather sram dram places n))
same_beside (scatter dram places n sram) t rest ending = append_nothing (early_registers (scatter dram places n sram))
same_beside (foreach style loops body) t rest ending = append_nothing (early_registers (foreach style loops body))
same_beside (block style body) t rest ending = refl
same_beside (fsm start tested test state body last next) t rest ending = refl
same_beside (branch test first second) t rest ending = refl
same_beside (declare m) t rest ending = absurd t
same_beside (name v e) t rest ending = absurd t
same_beside (set_reg m e) t rest ending = absurd t
same_beside (set_out m e) t rest ending = absurd t
same_beside (set_sram m xs e) t rest ending = absurd t
same_beside (enq m e) t rest ending = absurd t

-- what the registers that the rest of a body owns hold when they are fresh
abbrev pub cells_of_body : ℕ → PlainStmts → Ending → List (ℕ × Option ℕ)
cells_of_body n no_stmt ending = cells_from n (at_end ending)
cells_of_body n (more_stmt (stmt place kind) rest) ending = cells_from n (beside kind rest ending) ++ cells_of_body (n + length (beside kind rest ending) + length (inside kind)) rest ending

pub body_number : (n : ℕ) (body : PlainStmts) (ending : Ending) (x : ℕ × Option ℕ) → Contains (cells_of_body n body ending) x → n ≤ x.0
body_number n no_stmt ending x c = (cells_number n (at_end ending) x c).0
body_number n (more_stmt (stmt place kind) rest) ending x c = in_either (cells_from n (beside kind rest ending)) (cells_of_body (n + length (beside kind rest ending) + length (inside kind)) rest ending) x c
    (λ d. (cells_number n (beside kind rest ending) x d).0)
    (λ d. let f = body_number (n + length (beside kind rest ending) + length (inside kind)) rest ending x d in omega (arith, f))

pub registers_count : (place : ℕ) (k : PlainStmtKind) (rest : PlainStmts) (ending : Ending) → length (registers (more_stmt (stmt place k) rest) ending) ≡ length (beside k rest ending) + length (inside k) + length (registers rest ending)
unfolding registers
registers_count place k rest ending = omega (arith, length-append (beside k rest ending ++ inside k) (registers rest ending), length-append (beside k rest ending) (inside k))

pub before_more : (n m : ℕ) (source : Source) → n ≤ m → SourceBefore n source → SourceBefore m source
before_more n m (at_place k) le b = tt
before_more n m (in_register r) le b = omega (arith, le, b)
before_more n m (constant c) le b = tt
before_more n m (count c) le b = tt

-- no memory is declared twice: neither among some of them
pub apart_drop : (xs ys : List ℕ) → Apart (xs ++ ys) → Apart ys
apart_drop [] ys a = a
apart_drop (x ∷ xs) ys a = apart_drop xs ys a.1

pub apart_own : (body : PlainStmts) (waits : List ℕ) → Apart (mems_declared body ++ waits) → Apart (own_mems body ++ waits)
apart_own no_stmt waits a = a
apart_own (more_stmt (stmt place (declare m)) rest) waits a = (
  λ c. a.0 (in_either (own_mems rest) waits m c (λ d. in_front (mems_declared rest) waits m (own_declared rest m d)) (λ d. in_back (mems_declared rest) waits m d)),
  apart_own rest waits a.1,
)
apart_own (more_stmt (stmt place k) rest) waits a = apart_own rest waits (apart_drop (mems_in k) (mems_declared rest ++ waits) (subst Apart (append_assoc (mems_in k) (mems_declared rest) waits) a))

pub apart_inside : (xs : List ℕ) (rest : PlainStmts) (waits : List ℕ) → Apart ((xs ++ mems_declared rest) ++ waits) → Apart (xs ++ (own_mems rest ++ waits))
apart_inside [] rest waits a = apart_own rest waits a
apart_inside (x ∷ xs) rest waits a = (
  λ c. a.0 (in_either xs (own_mems rest ++ waits) x c (λ d. in_front (xs ++ mems_declared rest) waits x (in_front xs (mems_declared rest) x d))
      (λ d. in_either (own_mems rest) waits x d (λ e. in_front (xs ++ mems_declared rest) waits x (in_back xs (mems_declared rest) x (own_declared rest x e))) (λ e. in_back (xs ++ mems_declared rest) waits x e))),
  apart_inside xs rest waits a.1,
)

pub apart_left : (xs ys waits : List ℕ) → Apart ((xs ++ ys) ++ waits) → Apart (xs ++ waits)
apart_left [] ys waits a = apart_drop ys waits a
apart_left (x ∷ xs) ys waits a = (
  λ c. a.0 (in_either xs waits x c (λ d. in_front (xs ++ ys) waits x (in_front xs ys x d)) (λ d. in_back (xs ++ ys) waits x d)),
  apart_left xs ys waits a.1,
)

pub apart_after : (xs ys waits : List ℕ) → Apart ((xs ++ ys) ++ waits) → Apart (ys ++ waits)
apart_after xs ys waits a = apart_drop xs (ys ++ waits) (subst Apart (append_assoc xs ys waits) a)

-- registers that stand one after the other
pub declared_left : (p : PlainProgram) (core : PlainCore) (n : ℕ) (xs ys : List PlainMem) → AreDeclared p core n (xs ++ ys) → AreDeclared p core n xs
declared_left p core n xs ys g = (g.0, λ j lt. let f = g.1 j (omega (arith, lt, length-append xs ys)) in (f.0, f.1 ∙ front xs ys j lt))
  where
    front : (xs ys : List PlainMem) (j : ℕ) → j < length xs → slice_index_or (xs ++ ys) j no_mem ≡ slice_index_or xs j no_mem
    front [] ys j lt = absurd (omega arith)
    front (x ∷ xs) ys zero lt = refl
    front (x ∷ xs) ys (suc j) lt = front xs ys j (omega arith)

pub declared_right : (p : PlainProgram) (core : PlainCore) (n m : ℕ) (xs ys : List PlainMem) → n + length xs ≡ m → AreDeclared p core n (xs ++ ys) → AreDeclared p core m ys
declared_right p core n m xs ys e g = (
  omega (arith, e, g.0),
  λ j lt.
      let f = g.1 (length xs + j) (omega (arith, lt, length-append xs ys)) in
      let same : n + (length xs + j) ≡ m + j = omega (arith, e) in
      (omega (arith, f.0, same), ap (λ i. core_mem core i) (sym same) ∙ f.1 ∙ back xs ys j),
)
  where
    back : (xs ys : List PlainMem) (j : ℕ) → slice_index_or (xs ++ ys) (length xs + j) no_mem ≡ slice_index_or ys j no_mem
    back [] ys j = ap (λ k. slice_index_or ys k no_mem) {x = 0 + j} {y = j} (omega arith)
    back (x ∷ xs) ys j = ap (λ k. slice_index_or (x ∷ xs ++ ys) k no_mem) {x = suc (length xs) + j} {y = suc (length xs + j)} (omega arith) ∙ back xs ys j
