use Rattle.std.proofs.Common.{◌+◌, ◌*◌, ◌++◌, [], ◌∷◌, List, length, filter, flat_map, ap, sym, subst, ◌∙◌, arith, add-one, append_assoc}
use Rattle.std.proofs.lemmas.List.{append-nil, length_push}
use Rattle.std.proofs.lemmas.List.Elements.{All-push}
use Rattle.sp_netlist.specs.Cells.{PlainCell, bank_cell}
use Rattle.sp_netlist.specs.Rules.{is_bank}
use Rattle.sp_taps.specs.Stores.{IsStore, bank_cells}
use Rattle.sp_taps.specs.Wires.{AreInRow, AreWires, wires_of}
use Rattle.sp_taps.proofs.Rows.{none_promised, no_banks, more_banks, promises_join, wires_kept, stores_kept, placed_push, nets_push}
use Rattle.sp_taps.proofs.stores.add_stores.Goals as goal

pub loop-i-init : goal.loop-i-init
loop-i-init c =
    let none = c.new-stores.ensures.items in
    let empty = ap length none in
    let first = c.requires.first in
    record {
      draft = c.requires.draft;
      promises = rw none (none_promised c.args.builder.now);
      each = empty;
      longer = omega arith;
      rows = λ i other l. absurd (omega (arith, empty, l));
      wires = λ k d l. absurd (omega (arith, empty, l));
      stores = λ i other l. absurd (omega (arith, empty, l));
      banks = sym (append-nil (filter is_bank c.args.builder.now.cells));
      more = omega (arith, first);
      cells = no_banks c.args.builder.now;
    }

pub loop-i-preserved : goal.loop-i-preserved
loop-i-preserved c =
    let i = c.loop-i.invariant in
    let e = c.in_ok-store.ensures in
    let items = c.in_ok-push.ensures.items in
    let longer = i.longer in
    let more = e.longer in
    let one = e.one_more in
    let at = c.from.ensures in
    record {
      draft = e.promises.grows.draft i.draft;
      promises = rw (items, nets_push c.loop-i.stores.items c.in_ok-store.store) (promises_join _ _ _ (flat_map wires_of c.loop-i.stores.items) (wires_of c.in_ok-store.store) i.promises e.promises);
      each = ap length items ∙ length_push _ _ ∙ ap (λ n. n + 1) i.each;
      longer = omega (arith, longer, more);
      rows = rw items (placed_push (λ k store. AreInRow (length c.args.builder.now.promised + 6 * k) store) c.loop-i.stores.items c.in_ok-store.store c.loop-i.i i.each i.rows (subst (λ n. AreInRow n c.in_ok-store.store) longer e.row));
      wires = rw items (All-push (AreWires c.add_store.new.builder c.args.width) c.loop-i.stores.items c.in_ok-store.store (wires_kept _ _ (wires_of c.in_ok-store.store) e.promises c.args.width c.loop-i.stores.items i.wires) e.wires);
      stores = rw items
          (placed_push (λ k store. IsStore c.add_store.new.builder (c.args.first + k) c.args.width c.args.len store) c.loop-i.stores.items c.in_ok-store.store c.loop-i.i i.each
          (stores_kept _ _ c.args.first c.args.width c.args.len c.loop-i.stores.items e.promises.grows i.stores) (subst (λ n. IsStore c.add_store.new.builder (c.args.first + n) c.args.width c.args.len c.in_ok-store.store) at e.store));
      banks = e.banks
          ∙ ap (λ (cs : List PlainCell). cs ++ bank_cell (c.args.first + c.from.result) c.args.width c.args.len ∷ []) i.banks
          ∙ append_assoc (filter is_bank c.args.builder.now.cells) (bank_cells c.args.first c.args.width c.args.len c.loop-i.i) (bank_cell (c.args.first + c.from.result) c.args.width c.args.len ∷ [])
          ∙ ap (λ n. filter is_bank c.args.builder.now.cells ++ (bank_cells c.args.first c.args.width c.args.len c.loop-i.i ++ bank_cell (c.args.first + n) c.args.width c.args.len ∷ [])) at
          ∙ ap (λ n. filter is_bank c.args.builder.now.cells ++ bank_cells c.args.first c.args.width c.args.len n) (sym (add-one c.loop-i.i));
      more = omega (arith, one, at);
      cells = more_banks _ _ _ i.cells e.cells;
    }
