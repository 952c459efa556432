-- The lines of a report that tell of memories.
use Rattle.std.specs.Prelude.{ℕ, suc, Bool, ◌&&◌, not, List, [], ◌∷◌, ◌++◌, Option, Some, None, codes, decimal, if◌then◌else◌}
use Rattle.sp_bank.specs.Banking.{Banking}
use Rattle.sp_core.specs.Around.{is_port_kind}
use Rattle.sp_core.specs.PlainCore.{PlainMem}
use Rattle.sp_plan.specs.PlainPlan.{PlainMemPlan}
use Rattle.sp_plan.specs.Ports.{has_banks}

-- numbers, each with a blank before it
abbrev pub numbers_text : List ℕ → List ℕ
numbers_text [] = []
numbers_text (n ∷ rest) = codes " " ++ (decimal n ++ numbers_text rest)

-- a memory with banks and without a scheme is serial
unfoldable pub scheme_text : Option Banking → List ℕ
scheme_text None = codes " serial"
scheme_text (Some s) =
    codes " banks " ++ (decimal s.banks ++ (codes " block " ++ (decimal s.block ++ (codes " alpha" ++ (numbers_text s.alpha ++ (codes " hinge " ++ decimal s.hinge))))))

unfoldable pub depth_text : (depth : ℕ) → List ℕ
depth_text depth = codes " depth " ++ decimal depth

unfoldable pub duplicates_text : (duplicates : ℕ) → List ℕ
duplicates_text duplicates = codes " duplicates " ++ decimal duplicates

-- what has no banks has no duplicates
unfoldable pub mem_plan_text : (banked : Bool) → PlainMemPlan → List ℕ
mem_plan_text banked plan =
    if banked then scheme_text plan.scheme ++ (depth_text plan.depth ++ duplicates_text plan.duplicates) else depth_text plan.depth

unfoldable pub mem_line : (number : ℕ) → PlainMem → PlainMemPlan → List ℕ
mem_line number m plan = codes "mem " ++ (decimal number ++ (codes " " ++ (m.name ++ (mem_plan_text (has_banks m.kind) plan ++ codes "\n"))))

-- memories on the chip that stand in the program's text
abbrev pub has_line : PlainMem → Bool
has_line m = m.written && not (is_port_kind m.kind)

-- these are numbered
abbrev pub mem_lines : (number : ℕ) → List PlainMem → List PlainMemPlan → List ℕ
mem_lines number (m ∷ mems) (plan ∷ plans) = if has_line m then mem_line number m plan ++ mem_lines (suc number) mems plans else mem_lines number mems plans
mem_lines number _ _ = []
