-- The cells of DRAMs, and the lists of their words.
use Rattle.std.proofs.Common.{◌≡◌, ℕ, zero, suc, ◌+◌, ◌<◌, Bool, false, List, [], ◌∷◌, ◌++◌, length, map, filter_map, slice_index_or, Option, None, refl, sym, ap, ◌∙◌, arith, append_assoc}
use Rattle.std.specs.List.{list_any, range_with_len}
use Rattle.sp_words.specs.declared.types.Ty.{Ty}
use Rattle.sp_words.specs.Interface.{word_count}
use Rattle.sp_words.specs.Ports.{PlainPort}
use Rattle.sp_netlist.specs.Cells.{PlainCell, dram_cell}
use Rattle.sp_netlist.specs.Cycle.{out_words, dram_lists}
use Rattle.sp_netlist.specs.Ports.{dram_port}
use Rattle.sp_frames.specs.Framed.{dram_cells}
use Rattle.sp_frames.specs.Laws.{held_lists, HasDramCell}

-- they pass no test that none of them passes, and give nothing that none of them gives
pub drams_fail : (test : PlainCell → Bool) → ((dram : ℕ) (name : List ℕ) (ty : Ty) (dims : List ℕ) → test (dram_cell dram name ty dims) ≡ false) → (first : ℕ) (ports : List PlainPort) → list_any test (dram_cells first ports) ≡ false
drams_fail test fails first [] = refl
drams_fail test fails first (port ∷ ports) = rw (fails first port.name port.ty port.dims, drams_fail test fails (suc first) ports) refl

pub drams_give : {X : Type 0} (f : PlainCell → Option X) → ((dram : ℕ) (name : List ℕ) (ty : Ty) (dims : List ℕ) → f (dram_cell dram name ty dims) ≡ None) → (first : ℕ) (ports : List PlainPort) → filter_map f (dram_cells first ports) ≡ []
drams_give f none first [] = refl
drams_give f none first (port ∷ ports) = rw (none first port.name port.ty port.dims, drams_give f none (suc first) ports) refl

pub drams_declare : (first : ℕ) (ports : List PlainPort) → filter_map dram_port (dram_cells first ports) ≡ ports
drams_declare first [] = refl
drams_declare first (port ∷ ports) = ap (λ ps. port ∷ ps) (drams_declare (suc first) ports)

pub drams_words : (first : ℕ) (ports : List PlainPort) (words : ℕ → ℕ) → out_words (dram_cells first ports) words ≡ []
drams_words first [] words = refl
drams_words first (port ∷ ports) words = drams_words (suc first) ports words

-- their lists are the words that they hold
pub lists_read : (held : ℕ → ℕ → ℕ) (first : ℕ) (ports : List PlainPort) → dram_lists (dram_cells first ports) held ≡ held_lists held first ports
lists_read held first [] = refl
lists_read held first (port ∷ ports) = ap (λ rest. map (held first) (range_with_len 0 (word_count port.dims)) ∷ rest) (lists_read held (suc first) ports)

-- each of them stands, and so it does between other cells
behind_one : (x : PlainCell) (cells : List PlainCell) (n : ℕ) (port : PlainPort) → HasDramCell cells n port → HasDramCell (x ∷ cells) n port
behind_one x cells n port h = record { before = x ∷ h.before; after = h.after; stands = ap (λ cs. x ∷ cs) h.stands }

pub cell_stands : (first : ℕ) (ports : List PlainPort) (n r : ℕ) (other : PlainPort) → r < length ports → first + r ≡ n → HasDramCell (dram_cells first ports) n (slice_index_or ports r other)
cell_stands first [] n r other l e = absurd (omega (arith, l))
cell_stands first (port ∷ ports) n zero other l e =
    let here : first ≡ n = omega (arith, e) in
    record { before = []; after = dram_cells (suc first) ports; stands = ap (λ d. dram_cell d port.name port.ty port.dims ∷ dram_cells (suc first) ports) here }
cell_stands first (port ∷ ports) n (suc r) other l e =
    behind_one (dram_cell first port.name port.ty port.dims) (dram_cells (suc first) ports) n (slice_index_or ports r other) (cell_stands (suc first) ports n r other (omega (arith, l)) (omega (arith, e)))

pub cell_between : (front cells back : List PlainCell) (n : ℕ) (port : PlainPort) → HasDramCell cells n port → HasDramCell ((front ++ cells) ++ back) n port
cell_between front cells back n port x =
    let cell = dram_cell n port.name port.ty port.dims in
    record {
      before = front ++ x.before;
      after = x.after ++ back;
      stands =
          ap (λ cs. (front ++ cs) ++ back) x.stands ∙ append_assoc front (x.before ++ cell ∷ x.after) back ∙ ap (λ cs. front ++ cs) (append_assoc x.before (cell ∷ x.after) back)
          ∙ sym (append_assoc front x.before (cell ∷ (x.after ++ back)));
    }
