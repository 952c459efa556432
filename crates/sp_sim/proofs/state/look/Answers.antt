use Rattle.std.proofs.Common.{ℕ, List, length, count_by, replicate, All, Contains, refl, sym, ap, ◌∙◌, subst}
use Rattle.std.specs.List.{fold}
use Rattle.std.specs.Vec.{with_items}
use Rattle.std.proofs.lemmas.List.{with_items_is}
use Rattle.sp_netlist.specs.declared.cell.Port.TheVariants.{Read, Write}
use Rattle.sp_netlist.specs.Cells.{plain_cells}
use Rattle.sp_netlist.specs.Cycle as cycle
use Rattle.sp_netlist.specs.Rules.{is_bank}
use Rattle.sp_netlist.specs.Signals.{Setting}
use Rattle.sp_sim.specs.declared.state.State.{State}
use Rattle.sp_sim.specs.Rows.{word_of, nets_of}
use Rattle.sp_sim.specs.States.{LookedIn, finding}
use Rattle.sp_sim.specs.Conflicts.{tally}
use Rattle.sp_sim.specs.Settling.{settle_cell}
use Rattle.sp_sim.specs.Runs.{runs_cells, IsRunWithin}
use Rattle.sp_sim.proofs.SettleLemmas.{settled_as_cells}
use Rattle.sp_sim.proofs.Held.{all_stand}
use Rattle.sp_sim.proofs.Parts.{reads_tallied, writes_tallied, over_by_dones}
use Rattle.sp_sim.proofs.Looked.{Settles, Tells, looked, tells}
use Rattle.sp_sim.proofs.state.look.Goals as goal

abbrev zeros : ℕ → List ℕ
zeros n = replicate n 0

pub returns-clause-looked : goal.returns-clause-looked
returns-clause-looked c = λ args drams delays s t q stands.
    let g : Setting = record { cells = c.args.netlist.now; args = args; drams = drams; delays = delays } in
    let old = c.args.state.now in
    let w = word_of c.settle.new.self in
    let clash = c.conflict-clash.result in
    let over = c.is_over-over.result in
    let cells = c.args.netlist.now in
    let prog = c.requires.program in
    let none = zeros (count_by is_bank cells) in
    let reads = with_items_is old.reads c.conflict-clash.new.reads (c.conflict-clash.auto.reads ∙ c.deref_mut.ensures.len) in
    let writes = with_items_is old.writes c.conflict-clash.new.writes (c.conflict-clash.auto.writes ∙ c.deref_mut-2.ensures.len) in
    let number = ap length c.deref_mut.ensures.value ∙ c.requires.state.reads in
    let new : State = record {
      row = c.settle.new.self;
      next = old.next;
      banks = old.banks;
      drams = old.drams;
      phases = old.phases;
      taken = old.taken;
      reads = with_items old.reads c.conflict-clash.new.reads;
      writes = with_items old.writes c.conflict-clash.new.writes;
    } in
    let settles : Settles c.args.netlist.now prog.order old new = record {
      row = c.settle.ensures.settled ∙ ap (λ xs. fold settle_cell old.row (runs_cells (nets_of old.row) xs)) c.deref.ensures.value
          ∙ ap (fold settle_cell old.row) (prog.computed.same (nets_of old.row) c.settle.ensures.nets) ∙ settled_as_cells cells prog.order old.row;
      is_row = c.settle.ensures.is_row;
      next = refl;
      banks = refl;
      drams = refl;
      phases = refl;
      taken = refl;
      reads = reads ∙ c.conflict-clash.ensures.reads ∙ ap (λ n. fold (tally w Read) (zeros n) (plain_cells c.deref-2.result.now)) number
          ∙ ap (λ xs. fold (tally w Read) none (plain_cells xs)) c.deref-2.ensures.value ∙ ap (fold (tally w Read) none) prog.reads ∙ reads_tallied w cells none;
      writes = writes ∙ c.conflict-clash.ensures.writes ∙ ap (λ n. fold (tally w Write) (zeros n) (plain_cells c.deref-3.result.now)) number
          ∙ ap (λ xs. fold (tally w Write) none (plain_cells xs)) c.deref-3.ensures.value ∙ ap (fold (tally w Write) none) prog.writes ∙ writes_tallied w cells none;
      read_number = ap length reads ∙ c.conflict-clash.auto.reads ∙ ap length c.deref_mut.ensures.value;
      write_number = ap length writes ∙ c.conflict-clash.auto.writes ∙ ap length c.deref_mut-2.ensures.value;
    } in
    let plain_tells = tells c.conflict-clash.new.reads c.conflict-clash.new.writes c.args.netlist.now w clash over (c.is_over-over.ensures ∙ ap (λ xs. cycle.is_over (plain_cells xs) w) c.deref-4.ensures.value ∙ ap (λ xs. cycle.is_over xs w) prog.dones ∙ over_by_dones w cells) c.conflict-clash.ensures.first in
    let told = subst (λ rs. Tells rs new.writes.items c.args.netlist.now w (finding clash over)) (sym reads)
    (subst (λ ws. Tells c.conflict-clash.new.reads ws c.args.netlist.now w (finding clash over)) (sym writes) plain_tells) in
    subst (LookedIn g s t new) (sym c.found_by.ensures) (looked g c.requires.netlist prog.order prog.is_order old new settles c.requires.state (finding clash over) told s q t stands)

pub settle-requires-clause-runs : goal.settle-requires-clause-runs
settle-requires-clause-runs c = λ nets k.
    let cells = c.args.netlist.now in
    let prog = c.requires.program in
    subst (λ runs. All (IsRunWithin (length nets)) runs × All (Contains cells) (runs_cells nets runs)) (sym c.deref.ensures.value)
    (prog.computed.within nets k, subst (All (Contains cells)) (sym (prog.computed.same nets k)) (all_stand cells prog.order prog.is_order.computing))
