use Rattle.std.specs.Global.{Vec}
use Rattle.std.proofs.Common.{◌∙◌, ℕ, map, ap, sym, subst, get_or, Contains, count_by, replicate, flat_map, List, refl}
use Rattle.std.specs.List.{fold}
use Rattle.std.proofs.lemmas.List.Elements.{Contains-get_or}
use Rattle.sp_netlist.specs.Cells.{PlainCell, plain_cells}
use Rattle.sp_netlist.specs.Rules.{is_unit}
use Rattle.sp_netlist.specs.Signals.{idle}
use Rattle.sp_sim.specs.Loading.{AreNets, First, HasContents, first_one, fresh_bank, fresh_dram}
use Rattle.sp_sim.proofs.Loads.{has_width, has_contents}
use Rattle.sp_sim.proofs.load.first_state.Goals as goal

pub first_banks-requires : goal.first_banks-requires
first_banks-requires c = λ k d l.
    let cells = plain_cells c.cells-cells.result.now in
    has_width c.args.netlist.now c.cells-cells.ensures.netlist (get_or cells k d) (subst (λ xs. Contains xs (get_or cells k d)) c.cells-cells.ensures.cells (Contains-get_or cells k d l))

abbrev lists : List (Vec ℕ) → List (List ℕ)
lists vs = map (λ v. v.items) vs

abbrev zeros : List ℕ → List (ℕ × ℕ)
zeros ns = map (λ n. (n, 0)) ns

abbrev first_of : List ℕ → List (ℕ × ℕ) → List PlainCell → First
first_of args row cells = fold (first_one args) (record { row = row; seen = 0 }) cells

pub first_drams-requires : goal.first_drams-requires
first_drams-requires c = λ k d l.
    let cells = plain_cells c.cells-cells.result.now in
    subst (λ vs. HasContents (lists vs) (get_or cells k d)) (sym c.deref-3.ensures.value)
    (has_contents c.args.netlist.now c.cells-cells.ensures.netlist c.args.input.now.args.items (lists c.args.input.now.drams.items) c.requires (get_or cells k d)
    (subst (λ xs. Contains xs (get_or cells k d)) c.cells-cells.ensures.cells (Contains-get_or cells k d l)))

pub returns : goal.returns
returns c =
    let cells = c.cells-cells.ensures.cells in
    let plain = plain_cells c.cells-cells.result.now in
    let args = c.args.input.now.args.items in
    let row = c.in_ok-row.ensures in
    let next = c.in_ok-next.ensures in
    let words = c.first_words-seen.ensures ∙ ap (λ xs. first_of xs c.in_ok-row.row plain) c.deref.ensures.value ∙ ap (first_of args c.in_ok-row.row) cells ∙ ap (λ r. first_of args r c.args.netlist.now) row.1 in
    let next_words = c.first_words-seen-2.ensures ∙ ap (λ xs. first_of xs c.in_ok-next.next plain) c.deref-2.ensures.value ∙ ap (first_of args c.in_ok-next.next) cells ∙ ap (λ r. first_of args r c.args.netlist.now) next.1 in
    record {
      row_nets = row.0;
      row_same = subst (λ xs. AreNets xs row.0) cells row.2;
      row = ap (λ f. f.row) words;
      next_nets = next.0;
      next_same = subst (λ xs. AreNets xs next.0) cells next.2;
      next = ap (λ f. f.row) next_words;
      banks = c.in_ok-banks.ensures ∙ ap (flat_map fresh_bank) cells;
      drams = c.in_ok-drams.ensures ∙ ap (λ vs. flat_map (fresh_dram (lists vs)) plain) c.deref-3.ensures.value ∙ ap (flat_map (fresh_dram (lists c.args.input.now.drams.items))) cells;
      phases = c.in_ok-phases.ensures ∙ ap (λ xs. replicate (count_by is_unit xs) idle) cells;
      taken = refl;
      reads = c.in_ok-reads.ensures ∙ c.len.ensures ∙ c.in_ok-banks.banks.ok.0;
      writes = c.in_ok-writes.ensures ∙ c.len-2.ensures ∙ c.in_ok-banks.banks.ok.0;
    }
