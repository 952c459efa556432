use Rattle.std.proofs.Common.{◌≡◌, ℕ, List, ◌++◌, ◌∷◌, [], ◌∙◌, sym, ap, map, flat_map, take}
use Rattle.std.proofs.lemmas.List.{map-append, append-nil, take_all}
use Rattle.std.proofs.lemmas.List.Concat.{flat_map-append}
use Rattle.sp_netlist.specs.Cells.{PlainCell, plain_cell, plain_cells}
use Rattle.sp_netlist.specs.Rules.{drives}
use Rattle.sp_sim.proofs.CellLemmas.{plain_more}
use Rattle.sp_sim.proofs.load.driven.Goals as goal

abbrev firsts : List (ℕ × ℕ) → List ℕ
firsts ps = map (λ p. p.0) ps

abbrev nets : List PlainCell → List PlainCell → List ℕ
nets cells xs = firsts (flat_map (drives cells) xs)

nets_push : (cells xs : List PlainCell) (x : PlainCell) → nets cells (xs ++ x ∷ []) ≡ nets cells xs ++ firsts (drives cells x)
nets_push cells xs x = ap firsts (flat_map-append (drives cells) xs (x ∷ [])) ∙ map-append (λ (p : ℕ × ℕ). p.0) (flat_map (drives cells) xs) (drives cells x ++ [])
    ∙ ap (λ ps. nets cells xs ++ firsts ps) (append-nil (drives cells x))

pub loop-cell-preserved : goal.loop-cell-preserved
loop-cell-preserved c = λ cells.
    let x = plain_cell c.cell-item.result in
    let more = plain_more c.args.cells.now c.loop-cell.cell-index c.cell-item.result c.loop-cell-test.true c.cell-item.is in
    c.in_ok-push_nets.ensures cells ∙ ap (λ ns. ns ++ firsts (drives cells x)) (c.loop-cell.invariant cells)
    ∙ sym (ap (nets cells) more ∙ nets_push cells (plain_cells (take c.loop-cell.cell-index c.args.cells.now)) x)

pub returns : goal.returns
returns c =
    let all = take_all c.loop-cell.cell-index c.args.cells.now c.loop-cell-test.false in
    c.loop-cell.invariant (plain_cells c.args.cells.now) ∙ ap (λ xs. nets (plain_cells c.args.cells.now) (plain_cells xs)) all
