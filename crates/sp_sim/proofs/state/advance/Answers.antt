use Rattle.std.proofs.Common.{ℕ, List, length, map, refl, sym, ap, ◌∙◌, subst, Contains, get_or}
use Rattle.std.specs.List.{fold}
use Rattle.std.proofs.lemmas.List.{with_items_is}
use Rattle.std.proofs.lemmas.List.Elements.{Contains-get_or}
use Rattle.std.specs.Vec.{with_items}
use Rattle.sp_netlist.specs.Cells.{plain_cells}
use Rattle.sp_netlist.specs.Signals.{Setting}
use Rattle.sp_sim.specs.declared.phase.Phase.{Phase}
use Rattle.sp_sim.specs.Rows.{word_of}
use Rattle.sp_sim.specs.Memories.{word_at}
use Rattle.sp_sim.specs.Phases.{plain_phase, phase_at}
use Rattle.sp_sim.specs.Serving.{Channels, serve_one}
use Rattle.sp_sim.specs.Writing.{bank_write, dram_write, BankWordFits, DramWordFits}
use Rattle.sp_netlist.specs.Rules.{is_unit}
use Rattle.sp_sim.specs.Programs.{is_write}
use Rattle.sp_sim.proofs.Parts.{Contains-from_filter, units_served, banks_written, drams_written}
use Rattle.sp_sim.proofs.Written.{bank_word, dram_word}
use Rattle.sp_sim.proofs.Advanced.{Advances, row_of, advanced_state, advanced_stands}
use Rattle.sp_sim.proofs.state.advance.Goals as goal

abbrev channels : List Phase → ℕ → Channels
channels phases taken = record { phases = map plain_phase phases; taken = taken }

pub write_banks-requires : goal.write_banks-requires
write_banks-requires c = λ k d l.
    let w = word_of c.args.state.now.row in
    let cells = plain_cells c.deref-6.result.now in
    let part = ap plain_cells c.deref-6.ensures.value ∙ c.requires.program.writes in
    let within = Contains-from_filter is_write c.args.netlist.now (get_or cells k d) (subst (λ xs. Contains xs (get_or cells k d)) part (Contains-get_or cells k d l)) in
    subst (λ ms. BankWordFits w ms (get_or cells k d)) (sym c.deref_mut-2.ensures.value)
    (bank_word c.args.netlist.now c.requires.netlist w c.requires.state.row.fits c.args.state.now.banks.items c.requires.state.banks (get_or cells k d) within)

pub write_drams-requires : goal.write_drams-requires
write_drams-requires c = λ k d l.
    let w = word_of c.args.state.now.row in
    let cells = plain_cells c.deref-7.result.now in
    let part = ap plain_cells c.deref-7.ensures.value ∙ c.requires.program.units in
    let within = Contains-from_filter is_unit c.args.netlist.now (get_or cells k d) (subst (λ xs. Contains xs (get_or cells k d)) part (Contains-get_or cells k d l)) in
    subst (λ ms. DramWordFits w ms (get_or cells k d)) (sym c.deref_mut-3.ensures.value)
    (dram_word c.args.netlist.now c.requires.netlist w c.requires.state.row.fits c.args.state.now.drams.items c.requires.state.drams (get_or cells k d) within)

-- what the calls leave is what a cycle leaves
advances : (c : goal.After-swap) → Advances c.args.netlist.now c.args.delays.now c.args.state.now (record {
  row = c.swap.new.x;
  next = c.swap.new.y;
  banks = with_items c.args.state.now.banks c.write_banks.new.banks;
  drams = with_items c.args.state.now.drams c.write_drams.new.drams;
  phases = with_items c.args.state.now.phases c.serve-state.new.phases;
  taken = c.serve-state.result;
  reads = c.args.state.now.reads;
  writes = c.args.state.now.writes;
})
advances c =
    let old = c.args.state.now in
    let w = word_of old.row in
    let netlist = c.args.netlist.now in
    let prog = c.requires.program in
    let delays = c.args.delays.now in
    let first = channels old.phases.items old.taken in
    let phases = with_items_is old.phases c.serve-state.new.phases (c.serve-state.auto.phases ∙ c.deref_mut.ensures.len) in
    let next_phases = with_items old.phases c.serve-state.new.phases in
    let served = c.serve-state.ensures ∙ ap (λ ps. fold (serve_one w delays) (channels ps old.taken) (plain_cells c.deref.result.now)) c.deref_mut.ensures.value
    ∙ ap (λ xs. fold (serve_one w delays) first (plain_cells xs)) c.deref.ensures.value ∙ ap (fold (serve_one w delays) first) prog.units ∙ units_served w delays netlist first in
    record {
      row = c.swap.ensures.x_after ∙ c.hold.ensures
          ∙ ap (λ ms. row_of w (word_at ms) (word_at c.deref-4.result.now) (phase_at c.deref-5.result.now) old.next (plain_cells c.deref-2.result.now)) c.deref-3.ensures.value
          ∙ ap (λ ms. row_of w (word_at old.banks.items) (word_at ms) (phase_at c.deref-5.result.now) old.next (plain_cells c.deref-2.result.now)) c.deref-4.ensures.value
          ∙ ap (λ ps. row_of w (word_at old.banks.items) (word_at old.drams.items) (phase_at ps) old.next (plain_cells c.deref-2.result.now)) c.deref-5.ensures.value
          ∙ ap (λ xs. row_of w (word_at old.banks.items) (word_at old.drams.items) (phase_at next_phases.items) old.next (plain_cells xs)) c.deref-2.ensures.value
          ∙ ap (row_of w (word_at old.banks.items) (word_at old.drams.items) (phase_at next_phases.items) old.next) prog.kept;
      next = c.swap.ensures.y_after;
      banks = with_items_is old.banks c.write_banks.new.banks (c.write_banks.auto.banks ∙ c.deref_mut-2.ensures.len) ∙ c.write_banks.ensures
          ∙ ap (λ ms. fold (bank_write w) ms (plain_cells c.deref-6.result.now)) c.deref_mut-2.ensures.value
          ∙ ap (λ xs. fold (bank_write w) old.banks.items (plain_cells xs)) c.deref-6.ensures.value ∙ ap (fold (bank_write w) old.banks.items) prog.writes ∙ banks_written w netlist old.banks.items;
      drams = with_items_is old.drams c.write_drams.new.drams (c.write_drams.auto.drams ∙ c.deref_mut-3.ensures.len) ∙ c.write_drams.ensures
          ∙ ap (λ ms. fold (dram_write w) ms (plain_cells c.deref-7.result.now)) c.deref_mut-3.ensures.value
          ∙ ap (λ xs. fold (dram_write w) old.drams.items (plain_cells xs)) c.deref-7.ensures.value ∙ ap (fold (dram_write w) old.drams.items) prog.units ∙ drams_written w netlist old.drams.items;
      phases = ap (map plain_phase) phases ∙ ap (λ d. d.phases) served;
      taken = ap (λ d. d.taken) served;
      number = ap length phases ∙ c.serve-state.auto.phases ∙ ap length c.deref_mut.ensures.value;
      reads = refl;
      writes = refl;
    }

pub returns-clause-state : goal.returns-clause-state
returns-clause-state c = advanced_state c.args.netlist.now c.requires.netlist c.args.delays.now c.args.state.now _ (advances c) c.requires.state

pub returns-clause-stands : goal.returns-clause-stands
returns-clause-stands c = λ args drams s t given q stands words.
    let g : Setting = record { cells = c.args.netlist.now; args = args; drams = drams; delays = c.args.delays.now } in
    advanced_stands g c.requires.netlist c.args.state.now _ (advances c) c.requires.state given s q t stands words
