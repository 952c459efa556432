-- The cells of DRAMs behind those of arguments.
use Rattle.std.proofs.Common.{◌≡◌, ℕ, zero, suc, ◌+◌, ◌<◌, cond, List, [], ◌∷◌, ◌++◌, length, count_by, slice_index_or, refl, ap, ◌∙◌, arith, eq-eqb, ne_eqb}
use Rattle.std.proofs.lemmas.List.Sums.{sum_by-cons}
use Rattle.sp_words.specs.Ports.{PlainPort}
use Rattle.sp_words.specs.Types.{width_of}
use Rattle.sp_netlist.specs.Cells.{PlainCell, dram_cell}
use Rattle.sp_netlist.specs.Rules.{is_dram, dram_width}
use Rattle.sp_core.specs.PlainCore.{PlainCore, no_port}
use Rattle.sp_frames.specs.Framed.{in_cells, dram_cells, front_cells}
use Rattle.sp_load_units.specs.Units.{HasDrams}

-- there are as many as ports
counted : (first : ℕ) (ports : List PlainPort) → count_by is_dram (dram_cells first ports) ≡ length ports
counted first [] = refl
counted first (port ∷ ports) = (let e = counted (suc first) ports in let s = sum_by-cons (λ c. cond (is_dram c) 1 0) (dram_cell first port.name port.ty port.dims) (dram_cells (suc first) ports) in omega (arith, e, s))

-- each has the width of its port
wide : (first : ℕ) (ports : List PlainPort) (r : ℕ) → r < length ports → dram_width (dram_cells first ports) (first + r) ≡ width_of (slice_index_or ports r no_port).ty
wide first [] r l = absurd (omega (arith, l))
wide first (port ∷ ports) zero l = rw (eq-eqb first (first + 0) (omega arith)) refl
wide first (port ∷ ports) (suc r) l =
    rw (ne_eqb first (first + suc r) (λ e. absurd (omega (arith, e)))) (ap (dram_width (dram_cells (suc first) ports)) shift ∙ wide (suc first) ports r (omega (arith, l)))
  where
    shift : first + suc r ≡ suc first + r
    shift = omega arith

-- arguments are none
behind_args : (args : List PlainPort) (nets : List ℕ) (cells : List PlainCell) (r : ℕ) → dram_width (in_cells args nets ++ cells) r ≡ dram_width cells r
behind_args [] nets cells r = refl
behind_args (arg ∷ args) [] cells r = refl
behind_args (arg ∷ args) (net ∷ nets) cells r = behind_args args nets cells r

count_args : (args : List PlainPort) (nets : List ℕ) (cells : List PlainCell) → count_by is_dram (in_cells args nets ++ cells) ≡ count_by is_dram cells
count_args [] nets cells = refl
count_args (arg ∷ args) [] cells = refl
count_args (arg ∷ args) (net ∷ nets) cells = count_args args nets cells

pub drams_stand : (core : PlainCore) (args : List PlainPort) (nets : List ℕ) → HasDrams core (front_cells args nets core.ports.drams)
drams_stand core args nets r low =
    let drams = core.ports.drams in
    let many = count_args args nets (dram_cells 0 drams) ∙ counted 0 drams in
    (omega (arith, many, low), behind_args args nets (dram_cells 0 drams) r ∙ ap (dram_width (dram_cells 0 drams)) same ∙ wide 0 drams r low)
  where
    same : r ≡ 0 + r
    same = omega arith
