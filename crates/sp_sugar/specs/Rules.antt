-- What a core that keeps its rules has where a part of a program stands: memories that may be used there, counters around,
-- and values of their types.
use Rattle.std.specs.Prelude.{◌≡◌, ℕ, ◌<◌, Bool, true, List, [], ◌++◌, map, length, Contains}
use Rattle.sp_words.specs.declared.kind.Kind.TheVariants.{Reg, Sram}
use Rattle.sp_words.specs.declared.types.Ty.{Ty}
use Rattle.sp_words.specs.Types.{int_type}
use Rattle.sp_words.specs.Words.{IsWord}
use Rattle.sp_tree.specs.Expressions as program
use Rattle.sp_tree.specs.PlainProgram.{PlainProgram}
use Rattle.sp_tree.specs.Typing.{Scope}
use Rattle.sp_core.specs.Around.{Around, has_lane, is_usable}
use Rattle.sp_core.specs.Declarations.{mem}
use Rattle.sp_core.specs.OperationRules.{are_operations_right_after}
use Rattle.sp_core.specs.PlainCore.{PlainOp, PlainCore}
use Rattle.sp_core.specs.Typed.{Given, given_type, gives, give_all}
use Rattle.sp_sugar.specs.Numbers.{is_off_dram, mem_number}
use Rattle.sp_sugar.specs.Values.{Source, at_place, in_register, constant, count, Sources}

-- what each operation of a list gives
abbrev pub given_by : List PlainOp → Given
given_by ops = map (λ (op : PlainOp). given_type op.kind op.ty) ops

module _ (core : PlainCore) (around : Around) where
  -- a register of a type that may be used
  pub record IsRegister (r : ℕ) (ty : Ty) : Type 0 where
    pub usable : is_usable core around r ≡ true
    pub is_kind : (mem core r).kind ≡ Reg
    pub is_type : (mem core r).ty ≡ ty

  -- a memory of elements of a type that may be used
  pub record IsElements (r : ℕ) (ty : Ty) (rank : ℕ) : Type 0 where
    pub usable : is_usable core around r ≡ true
    pub is_kind : (mem core r).kind ≡ Sram
    pub is_type : (mem core r).ty ≡ ty
    pub has_rank : length (mem core r).dims ≡ rank

  -- a word of a type is found at a source, in a list whose earlier operations give this
  abbrev pub IsSource : Given → Ty → Source → Type 0
  IsSource earlier ty (at_place k) = gives earlier k ty ≡ true
  IsSource earlier ty (in_register r) = IsRegister r ty
  IsSource earlier ty (constant w) = IsWord ty w
  IsSource earlier ty (count c) = (has_lane around.counters c 0 ≡ true) × (ty ≡ int_type)

  -- what is visible may be used
  pub record MayUse (p : PlainProgram) (scope : Scope) (sources : Sources) (earlier : Given) : Type 0 where
    pub mems : (m : ℕ) → Contains scope.mems m → is_off_dram (program.mem p.mems m) ≡ true → (m < length p.mems) × (is_usable core around (mem_number p.mems m) ≡ true)
    pub vals : (v : ℕ × Ty) → Contains scope.vals v → IsSource earlier v.1 (sources v.0)
    pub counters : (c : ℕ) → Contains scope.counters c → has_lane around.counters c 0 ≡ true

  -- the same at the beginning of a list, of values that are needed there alone
  pub record MayNeed (p : PlainProgram) (scope : Scope) (sources : Sources) (needed : ℕ → Bool) : Type 0 where
    pub mems : (m : ℕ) → Contains scope.mems m → is_off_dram (program.mem p.mems m) ≡ true → (m < length p.mems) × (is_usable core around (mem_number p.mems m) ≡ true)
    pub vals : (v : ℕ × Ty) → Contains scope.vals v → needed v.0 ≡ true → IsSource [] v.1 (sources v.0)
    pub counters : (c : ℕ) → Contains scope.counters c → has_lane around.counters c 0 ≡ true

  -- a memory on the chip that may be used
  pub record MayOwn (p : PlainProgram) (m : ℕ) : Type 0 where
    pub exists : m < length p.mems
    pub on_chip : is_off_dram (program.mem p.mems m) ≡ true
    pub usable : is_usable core around (mem_number p.mems m) ≡ true

  -- operations after others keep the rules, and words of these types stand at these places then
  pub record Keep (earlier : Given) (ops : List PlainOp) (places : List ℕ) (types : List Ty) : Type 0 where
    pub right : are_operations_right_after core around earlier ops ≡ true
    pub give : give_all (earlier ++ given_by ops) places types ≡ true
