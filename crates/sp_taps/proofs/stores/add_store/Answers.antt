use Rattle.std.proofs.Common.{List, refl, ap, ◌∙◌, ◌++◌, ◌∷◌, [], arith}
use Rattle.sp_netlist.specs.Cells.{PlainCell, bank_cell, write_tap, read_tap}
use Rattle.sp_netlist.specs.Draft.{driver_count}
use Rattle.sp_netlist.specs.Rules.{is_bank}
use Rattle.std.proofs.Common.{count_by, sym}
use Rattle.sp_netlist.proofs.DraftNames.{draft_laws}
use Rattle.sp_taps.proofs.Banks.{one_bank, banks_are, is_store, no_clash}
use Rattle.sp_taps.proofs.Ports.{promised_at, wires, longer, found, promises}
use Rattle.sp_taps.proofs.stores.add_store.Goals as goal

pub add_taps-requires : goal.add_taps-requires
add_taps-requires c =
    let p = c.in_ok-store.ensures in
    let row = p.row in
    record {
      bank = c.requires.bank ∙ ap (count_by is_bank) (sym p.same_cells);
      width = c.requires.width;
      length = c.requires.length;
      write = promised_at c.args.builder.now c.promise_ports.new.builder c.args.width c.in_ok-store.store.write 0 p.promised (let r = row.write in omega (arith, r));
      write_at = promised_at c.args.builder.now c.promise_ports.new.builder c.args.width c.in_ok-store.store.write_at 1 p.promised row.write_at;
      word = promised_at c.args.builder.now c.promise_ports.new.builder c.args.width c.in_ok-store.store.word 2 p.promised row.word;
      read = promised_at c.args.builder.now c.promise_ports.new.builder c.args.width c.in_ok-store.store.read 3 p.promised row.read;
      read_at = promised_at c.args.builder.now c.promise_ports.new.builder c.args.width c.in_ok-store.store.read_at 4 p.promised row.read_at;
      found = promised_at c.args.builder.now c.promise_ports.new.builder c.args.width c.in_ok-store.store.found 5 p.promised row.found;
      undriven = ap (λ cells. driver_count cells c.in_ok-store.store.found) p.same_cells ∙ draft_laws.net c.args.builder.now c.in_ok-store.store.found c.requires.draft (let r = row.found in omega (arith, r));
    }

pub returns-clause-promises : goal.returns-clause-promises
returns-clause-promises c =
    let p = c.in_ok-store.ensures in
    let a = c.in_ok-add_taps.ensures in
    promises c.args.builder.now c.promise_ports.new.builder c.add_taps.new.builder c.args.bank c.args.width c.args.len c.in_ok-store.store c.requires.draft c.requires.bank p.promised p.row p.same_cells p.keeps a.keeps a.draft a.added a.same_nets a.drivers

pub returns-clause-longer : goal.returns-clause-longer
returns-clause-longer c =
    let p = c.in_ok-store.ensures in
    let a = c.in_ok-add_taps.ensures in
    longer c.args.builder.now c.promise_ports.new.builder c.add_taps.new.builder c.args.bank c.args.width c.args.len c.in_ok-store.store c.requires.draft c.requires.bank p.promised p.row p.same_cells p.keeps a.keeps a.draft a.added a.same_nets a.drivers

pub returns-clause-wires : goal.returns-clause-wires
returns-clause-wires c =
    let p = c.in_ok-store.ensures in
    let a = c.in_ok-add_taps.ensures in
    wires c.args.builder.now c.promise_ports.new.builder c.add_taps.new.builder c.args.bank c.args.width c.args.len c.in_ok-store.store c.requires.draft c.requires.bank p.promised p.row p.same_cells p.keeps a.keeps a.draft a.added a.same_nets a.drivers

pub returns-clause-store : goal.returns-clause-store
returns-clause-store c =
    let p = c.in_ok-store.ensures in
    let a = c.in_ok-add_taps.ensures in
    let cells = a.added ∙ ap (λ (cs : List PlainCell). cs ++ bank_cell c.args.bank c.args.width c.args.len ∷ write_tap c.args.bank c.in_ok-store.store.write c.in_ok-store.store.write_at c.in_ok-store.store.word ∷ read_tap c.in_ok-store.store.found c.args.bank c.in_ok-store.store.read c.in_ok-store.store.read_at ∷ []) p.same_cells in
    record {
      found = found c.args.builder.now c.promise_ports.new.builder c.add_taps.new.builder c.args.bank c.args.width c.args.len c.in_ok-store.store c.requires.draft c.requires.bank p.promised p.row p.same_cells p.keeps a.keeps a.draft a.added a.same_nets a.drivers;
      runs = is_store c.args.builder.now c.add_taps.new.builder c.args.bank c.args.width c.args.len c.in_ok-store.store c.requires.draft c.requires.bank cells;
      no_conflict = no_clash c.args.builder.now c.add_taps.new.builder c.args.bank c.args.width c.args.len c.in_ok-store.store c.requires.draft c.requires.bank cells;
    }

pub returns-clause-banks : goal.returns-clause-banks
returns-clause-banks c =
    let p = c.in_ok-store.ensures in
    let a = c.in_ok-add_taps.ensures in
    let cells = a.added ∙ ap (λ (cs : List PlainCell). cs ++ bank_cell c.args.bank c.args.width c.args.len ∷ write_tap c.args.bank c.in_ok-store.store.write c.in_ok-store.store.write_at c.in_ok-store.store.word ∷ read_tap c.in_ok-store.store.found c.args.bank c.in_ok-store.store.read c.in_ok-store.store.read_at ∷ []) p.same_cells in
    banks_are c.args.builder.now c.add_taps.new.builder c.args.bank c.args.width c.args.len c.in_ok-store.store c.requires.draft c.requires.bank cells

pub returns-clause-one_more : goal.returns-clause-one_more
returns-clause-one_more c =
    let p = c.in_ok-store.ensures in
    let a = c.in_ok-add_taps.ensures in
    let cells = a.added ∙ ap (λ (cs : List PlainCell). cs ++ bank_cell c.args.bank c.args.width c.args.len ∷ write_tap c.args.bank c.in_ok-store.store.write c.in_ok-store.store.write_at c.in_ok-store.store.word ∷ read_tap c.in_ok-store.store.found c.args.bank c.in_ok-store.store.read c.in_ok-store.store.read_at ∷ []) p.same_cells in
    one_bank c.args.builder.now c.add_taps.new.builder c.args.bank c.args.width c.args.len c.in_ok-store.store c.requires.draft c.requires.bank cells

pub returns-clause-cells : goal.returns-clause-cells
returns-clause-cells c =
    let p = c.in_ok-store.ensures in
    let a = c.in_ok-add_taps.ensures in
    let cells = a.added ∙ ap (λ (cs : List PlainCell). cs ++ bank_cell c.args.bank c.args.width c.args.len ∷ write_tap c.args.bank c.in_ok-store.store.write c.in_ok-store.store.write_at c.in_ok-store.store.word ∷ read_tap c.in_ok-store.store.found c.args.bank c.in_ok-store.store.read c.in_ok-store.store.read_at ∷ []) p.same_cells in
    record { added = _; stands = cells; all = refl }
