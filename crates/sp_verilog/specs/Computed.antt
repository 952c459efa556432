-- The lines of the cells that compute: operators, shifts, casts.
use Rattle.std.specs.Prelude.{ℕ, ◌+◌, ◌-◌, ◌*◌, nat_le, List, [], ◌∷◌, ◌++◌, codes, decimal, if◌then◌else◌}
use Rattle.sp_words.specs.declared.types.Ty.{Ty}
use Rattle.sp_words.specs.Types.{signed_of, width_of, frac_of}
use Rattle.sp_netlist.specs.declared.cell.CellOp.{CellOp}
use Rattle.sp_netlist.specs.declared.cell.CellOp.TheVariants.{Add, Sub, Mul, Div, Rem, And, Or, Xor, Min, Max, Lt, Eq}
use Rattle.sp_netlist.specs.declared.cell.CellShift.{CellShift}
use Rattle.sp_netlist.specs.declared.cell.CellShift.TheVariants.{Shl, Shr}
use Rattle.sp_verilog.specs.Pieces.{net_name, part_name, range, sized, assign, wire, choose, negated, sign, less, top_ones}

-- two nets with a sign between them
abbrev pub between : (a : ℕ) → List ℕ → (b : ℕ) → List ℕ
between a sign b = net_name a ++ (codes " " ++ (sign ++ (codes " " ++ net_name b)))

abbrev pub operation : ℕ → (a : ℕ) → List ℕ → (b : ℕ) → List (List ℕ)
operation net a sign b = assign (net_name net) (between a sign b) ∷ []

-- one of two nets, as the first is less than the second or not
abbrev pub selection : Ty → (net a b : ℕ) → (lesser other : ℕ) → List (List ℕ)
selection ty net a b lesser other = assign (net_name net) (choose (codes "(" ++ (less ty a b ++ codes ")")) (net_name lesser) (net_name other)) ∷ []

-- a net with as many copies of its sign bit before it as it has bits
abbrev pub extended : Ty → ℕ → List ℕ
extended ty net = codes "{{" ++ (decimal (width_of ty) ++ (codes "{" ++ (sign ty net ++ (codes "}}, " ++ (net_name net ++ codes "}")))))

-- the exact product, and its bits from the point on
abbrev pub product : Ty → (net a b : ℕ) → List (List ℕ)
product ty net a b =
    wire (2 * width_of ty) (part_name net (codes "a")) (extended ty a)
    ∷ wire (2 * width_of ty) (part_name net (codes "b")) (extended ty b)
    ∷ wire (2 * width_of ty) (part_name net (codes "p")) (part_name net (codes "a") ++ (codes " * " ++ part_name net (codes "b")))
    ∷ assign (net_name net) (part_name net (codes "p") ++ (codes "[" ++ (decimal (frac_of ty + width_of ty - 1) ++ (codes ":" ++ (decimal (frac_of ty) ++ codes "]")))))
    ∷ []

-- the absolute values of both operands
abbrev pub magnitudes : Ty → (net a b : ℕ) → List (List ℕ)
magnitudes ty net a b =
    wire (width_of ty) (part_name net (codes "a")) (choose (sign ty a) (negated (width_of ty) (net_name a)) (net_name a))
    ∷ wire (width_of ty) (part_name net (codes "b")) (choose (sign ty b) (negated (width_of ty) (net_name b)) (net_name b))
    ∷ []

-- a net at twice its width
unfoldable pub widened : ℕ → List ℕ → List ℕ
widened width name = codes "{" ++ (sized width 0 ++ (codes ", " ++ (name ++ codes "}")))

-- whether a net is 0
unfoldable pub is_zero : ℕ → ℕ → List ℕ
is_zero width net = codes "(" ++ (net_name net ++ (codes " == " ++ (sized width 0 ++ codes ")")))

-- the lowest bits of a part
unfoldable pub low_part : ℕ → ℕ → List ℕ → List ℕ
low_part width net part = part_name net part ++ range width

-- whether the signs of two nets differ
unfoldable pub is_negative : Ty → (a b : ℕ) → List ℕ
is_negative ty a b = codes "(" ++ (sign ty a ++ (codes " ^ " ++ (sign ty b ++ codes ")")))

-- the quotient of the absolute values, the first with its fraction bits doubled, with the sign of both
abbrev pub quotient : Ty → (net a b : ℕ) → List (List ℕ)
quotient ty net a b =
    magnitudes ty net a b
    ++ wire (2 * width_of ty) (part_name net (codes "x")) (widened (width_of ty) (part_name net (codes "a")) ++ (codes " << 7'd" ++ decimal (frac_of ty)))
    ∷ wire (2 * width_of ty) (part_name net (codes "q"))
    (choose (is_zero (width_of ty) b) (sized (2 * width_of ty) 0) (part_name net (codes "x") ++ (codes " / " ++ widened (width_of ty) (part_name net (codes "b")))))
    ∷ assign (net_name net)
    (choose (is_negative ty a b) (negated (width_of ty) (low_part (width_of ty) net (codes "q"))) (low_part (width_of ty) net (codes "q")))
    ∷ []

-- what the quotient leaves, with the sign of the first
abbrev pub remainder : Ty → (net a b : ℕ) → List (List ℕ)
remainder ty net a b =
    magnitudes ty net a b
    ++ wire (width_of ty) (part_name net (codes "r"))
    (choose (is_zero (width_of ty) b) (part_name net (codes "a")) (part_name net (codes "a") ++ (codes " % " ++ part_name net (codes "b"))))
    ∷ assign (net_name net) (choose (sign ty a) (negated (width_of ty) (part_name net (codes "r"))) (part_name net (codes "r")))
    ∷ []

abbrev pub op_lines : (net : ℕ) → Ty → CellOp → (a b : ℕ) → List (List ℕ)
op_lines net ty Add a b = operation net a (codes "+") b
op_lines net ty Sub a b = operation net a (codes "-") b
op_lines net ty Mul a b = product ty net a b
op_lines net ty Div a b = quotient ty net a b
op_lines net ty Rem a b = remainder ty net a b
op_lines net ty And a b = operation net a (codes "&") b
op_lines net ty Or a b = operation net a (codes "|") b
op_lines net ty Xor a b = operation net a (codes "^") b
op_lines net ty Min a b = selection ty net a b a b
op_lines net ty Max a b = selection ty net a b b a
op_lines net ty Lt a b = assign (net_name net) (less ty a b) ∷ []
op_lines net ty Eq a b = operation net a (codes "==") b

-- a net with its bits moved
abbrev pub moved : (a : ℕ) → List ℕ → ℕ → List ℕ
moved a sign places = net_name a ++ (codes " " ++ (sign ++ (codes " 6'd" ++ decimal places)))

-- to the right a word with sign is filled with its sign bit
abbrev pub shift_lines : (net : ℕ) → Ty → CellShift → (a places : ℕ) → List (List ℕ)
shift_lines net ty Shl a places = assign (net_name net) (moved a (codes "<<") places) ∷ []
shift_lines net ty Shr a places =
    if signed_of ty
    then assign (net_name net)
    (codes "(" ++ (moved a (codes ">>") places ++ (codes ") | (" ++ (choose (sign ty a) (sized (width_of ty) (top_ones (width_of ty) places)) (sized (width_of ty) 0) ++ codes ")")))) ∷ []
    else assign (net_name net) (moved a (codes ">>") places) ∷ []

-- the point is moved in 128 bits
abbrev pub point_moved : ℕ → (from to : ℕ) → List ℕ
point_moved net from to =
    if nat_le from to
    then part_name net (codes "e") ++ (codes " << 7'd" ++ decimal (to - from))
    else part_name net (codes "e") ++ (codes " >> 7'd" ++ decimal (from - to))

abbrev pub cast_lines : (net : ℕ) → (from to : Ty) → (a : ℕ) → List (List ℕ)
cast_lines net from to a =
    wire 128 (part_name net (codes "e")) (codes "{{" ++ (decimal (128 - width_of from) ++ (codes "{" ++ (sign from a ++ (codes "}}, " ++ (net_name a ++ codes "}"))))))
    ∷ wire 128 (part_name net (codes "t")) (point_moved net (frac_of from) (frac_of to))
    ∷ assign (net_name net) (low_part (width_of to) net (codes "t"))
    ∷ []
