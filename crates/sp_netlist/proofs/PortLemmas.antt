-- The ports of a list of cells, one cell after another.
use Rattle.std.proofs.Common.{◌≡◌, ℕ, ◌+◌, ◌<◌, List, [], ◌∷◌, ◌++◌, length, get_or, take, filter_map, ap, sym, ◌∙◌}
use Rattle.std.proofs.lemmas.List.{take_more, map_push}
use Rattle.std.proofs.lemmas.List.Elements.{filter_map-append}
use Rattle.sp_netlist.specs.declared.cell.Cell.{Cell}
use Rattle.sp_netlist.specs.Cells.{plain_cell, plain_cells}
use Rattle.sp_words.specs.Ports.{PlainPort, PlainPorts}
use Rattle.sp_netlist.specs.Ports.{ports_of, in_port, out_port, dram_port}

same_ports : (a b : PlainPorts) → a.args ≡ b.args → a.outs ≡ b.outs → a.drams ≡ b.drams → a ≡ b
same_ports a b args outs drams =
    let one : a ≡ record { args = b.args; outs = a.outs; drams = a.drams } = ap (λ (x : List PlainPort). record a { args = x }) args in
    let two : record { args = b.args; outs = a.outs; drams = a.drams } ≡ record { args = b.args; outs = b.outs; drams = a.drams } = ap (λ (y : List PlainPort). record a { args = b.args; outs = y }) outs in
    let three : record { args = b.args; outs = b.outs; drams = a.drams } ≡ b = ap (λ (z : List PlainPort). record b { drams = z }) drams in
    one ∙ two ∙ three

-- one more cell declares its ports after those before
pub ports_of-more : (cells : List Cell) (i : ℕ) (cell : Cell) (old new : PlainPorts) → i < length cells → cell ≡ get_or cells i cell → old ≡ ports_of (plain_cells (take i cells))
    → new.args ≡ old.args ++ filter_map in_port (plain_cell cell ∷ [])
    → new.outs ≡ old.outs ++ filter_map out_port (plain_cell cell ∷ [])
    → new.drams ≡ old.drams ++ filter_map dram_port (plain_cell cell ∷ [])
    → new ≡ ports_of (plain_cells (take (i + 1) cells))
ports_of-more cells i cell old new within is before args outs drams =
    let more : take (i + 1) cells ≡ take i cells ++ cell ∷ [] = take_more cells i cell within ∙ ap (λ c. take i cells ++ c ∷ []) (sym is) in
    let all : plain_cells (take (i + 1) cells) ≡ plain_cells (take i cells) ++ plain_cell cell ∷ [] = ap plain_cells more ∙ map_push plain_cell (take i cells) cell in
    rw all (same_ports new (ports_of (plain_cells (take i cells) ++ plain_cell cell ∷ []))
    (args ∙ ap (λ p. p.args ++ filter_map in_port (plain_cell cell ∷ [])) before ∙ sym (filter_map-append in_port (plain_cells (take i cells)) (plain_cell cell ∷ [])))
    (outs ∙ ap (λ p. p.outs ++ filter_map out_port (plain_cell cell ∷ [])) before ∙ sym (filter_map-append out_port (plain_cells (take i cells)) (plain_cell cell ∷ [])))
    (drams ∙ ap (λ p. p.drams ++ filter_map dram_port (plain_cell cell ∷ [])) before ∙ sym (filter_map-append dram_port (plain_cells (take i cells)) (plain_cell cell ∷ []))))
