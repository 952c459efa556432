-- What the cells keep for the next cycle.
use Rattle.std.specs.Prelude.{ℕ, ◌==◌, if◌then◌else◌, List, [], ◌∷◌}
use Rattle.std.specs.List.{fold}
use Rattle.sp_netlist.specs.Cells.{PlainCell, in_cell, const_cell, reg_cell, read_tap, load_unit, store_unit}
use Rattle.sp_netlist.specs.Signals.{Phase, ready_word}
use Rattle.sp_sim.specs.Rows.{with_word}

-- the nets of a cell with their words in the next cycle, at the words of the nets, of the banks and of the
-- DRAMs in this one and the phases of the channels in the next
abbrev pub held : (ℕ → ℕ) → (ℕ → ℕ → ℕ) → (ℕ → ℕ → ℕ) → (ℕ → Phase) → PlainCell → List (ℕ × ℕ)
held w bank dram phase (in_cell name net ty) = (net, w net) ∷ []
held w bank dram phase (const_cell net width word) = (net, w net) ∷ []
held w bank dram phase (reg_cell net width first next enable) = (net, if w enable == 1 then w next else w net) ∷ []
held w bank dram phase (read_tap net of enable addr) = (net, if w enable == 1 then bank of (w addr) else w net) ∷ []
held w bank dram phase (load_unit channel of ready net request last addr) =
    (ready, ready_word (phase channel)) ∷ (net, if w ready == 1 then dram of (w addr) else w net) ∷ []
held w bank dram phase (store_unit channel of ready request last addr word) = (ready, ready_word (phase channel)) ∷ []
held w bank dram phase cell = []

-- the row with these words
abbrev pub put_all : List (ℕ × ℕ) → List (ℕ × ℕ) → List (ℕ × ℕ)
put_all = fold (λ r p. with_word r p.0 p.1)
