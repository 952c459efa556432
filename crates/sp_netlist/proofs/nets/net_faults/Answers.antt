use Rattle.std.proofs.Common.{◌≡◌, ◌<◌, ◌^◌, All, ap, subst, sym, ◌∙◌}
use Rattle.sp_netlist.specs.Cells.{plain_cells}
use Rattle.sp_netlist.specs.Rules.{driven_nets, read_nets}
use Rattle.sp_netlist.specs.Refusals.{DrivenNotOnce}
use Rattle.sp_netlist.specs.Tables.{IsLeastOrNone, wire_pairs}
use Rattle.sp_netlist.proofs.NetFaults.{not_once_at, widths_differ_at}
use Rattle.sp_netlist.proofs.nets.net_faults.Goals as goal

pub returns-clause-numbers : goal.returns-clause-numbers
returns-clause-numbers c =
    let ed : wire_pairs c.deref.result.now ≡ driven_nets (plain_cells c.args.cells.now) = ap wire_pairs c.deref.ensures.value ∙ c.in_ok-driven.ensures ∙ ap (λ cells. driven_nets (plain_cells cells)) c.in_ok-tables.ensures.same in
    subst (All (λ p. p.0 < 2 ^ 64)) ed c.in_ok-widths.ensures.numbers

pub returns-clause-driven : goal.returns-clause-driven
returns-clause-driven c =
    let ed : wire_pairs c.deref.result.now ≡ driven_nets (plain_cells c.args.cells.now) = ap wire_pairs c.deref.ensures.value ∙ c.in_ok-driven.ensures ∙ ap (λ cells. driven_nets (plain_cells cells)) c.in_ok-tables.ensures.same in
    let er : wire_pairs c.deref-2.result.now ≡ read_nets (plain_cells c.args.cells.now) = ap wire_pairs c.deref-2.ensures.value ∙ c.in_ok-read.ensures ∙ ap (λ cells. read_nets (plain_cells cells)) c.in_ok-tables.ensures.same in
    subst (IsLeastOrNone (DrivenNotOnce (plain_cells c.args.cells.now))) (sym c.least_of_two.ensures)
    (not_once_at (plain_cells c.args.cells.now) _ _ _ _ _ ed er c.in_ok-widths.ensures.widths c.in_ok-widths.ensures.twice c.read_faults-missing.ensures.missing)

pub returns-clause-widths : goal.returns-clause-widths
returns-clause-widths c = λ none.
    let ed : wire_pairs c.deref.result.now ≡ driven_nets (plain_cells c.args.cells.now) = ap wire_pairs c.deref.ensures.value ∙ c.in_ok-driven.ensures ∙ ap (λ cells. driven_nets (plain_cells cells)) c.in_ok-tables.ensures.same in
    let er : wire_pairs c.deref-2.result.now ≡ read_nets (plain_cells c.args.cells.now) = ap wire_pairs c.deref-2.ensures.value ∙ c.in_ok-read.ensures ∙ ap (λ cells. read_nets (plain_cells cells)) c.in_ok-tables.ensures.same in
    widths_differ_at (plain_cells c.args.cells.now) _ _ _ _ _ ed er c.in_ok-widths.ensures.widths
    (not_once_at (plain_cells c.args.cells.now) _ _ _ _ _ ed er c.in_ok-widths.ensures.widths c.in_ok-widths.ensures.twice c.read_faults-missing.ensures.missing)
    (sym c.least_of_two.ensures ∙ none) c.read_faults-missing.ensures.clash
