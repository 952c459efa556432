use Rattle.std.proofs.Common.{◌≡◌, ℕ, suc, ◌+◌, ◌++◌, List, length, filter, flat_map, sym, ap, ◌∙◌, arith, append_assoc}
use Rattle.std.proofs.lemmas.List.{append-nil, length-map, length_push}
use Rattle.sp_words.specs.Types.{width_of}
use Rattle.sp_netlist.specs.Cells.{PlainCell}
use Rattle.sp_netlist.specs.Rules.{is_bank}
use Rattle.sp_core.specs.CoreParts.{plain_core}
use Rattle.sp_core.specs.Declarations.{mem}
use Rattle.sp_core.specs.Plain.{plain_mem}
use Rattle.sp_core.specs.PlainCore.{PlainMem}
use Rattle.sp_plan.specs.Plain.{plain_plan}
use Rattle.sp_taps.specs.Wires.{wires_of}
use Rattle.sp_taps.specs.Stores.{bank_cells}
use Rattle.sp_taps.proofs.Rows.{none_promised, promises_join, no_banks, more_banks}
use Rattle.sp_memory_nets.specs.declared.array_array.Array.{Array}
use Rattle.sp_memory_nets.specs.ArrayBanks.{array_banks, array_size, array_cells, banks_before, wires_in}
use Rattle.sp_memory_nets.proofs.ArrayPushing.{wires_push, stand_more, numbered_more, apart_more}
use Rattle.sp_memory_nets.proofs.array_adding.add_arrays.Goals as goal

pub loop-m-init : goal.loop-m-init
loop-m-init c =
    let none = c.new-arrays.ensures.items in
    let first = c.requires.first in
    record {
      draft = c.requires.draft;
      promises = rw none (none_promised c.args.builder.now);
      each = ap (λ (xs : List Array). length xs) none;
      bank = first;
      before = omega arith;
      stand = λ k l. absurd (omega (arith, l));
      numbers = λ k l. absurd (omega (arith, l));
      apart = λ i k net lt l. absurd (omega (arith, l));
      banks = sym (append-nil (filter is_bank c.args.builder.now.cells));
      cells = no_banks c.args.builder.now;
    }

pub loop-m-preserved : goal.loop-m-preserved
loop-m-preserved c =
    let core = plain_core c.args.core.now in
    let plan = plain_plan c.args.plan.now in
    let i = c.loop-m.invariant in
    let e = c.in_ok-array.ensures in
    let items = c.in_ok-push.ensures.items in
    let arrays = c.loop-m.arrays.items in
    let array = c.in_ok-array.array in
    let bank = c.loop-m.bank in
    let m = c.loop-m.m in
    let len = c.len.ensures in
    let each = e.stands.each in
    let more = e.more in
    let before = i.before in
    let next : suc m ≡ m + 1 = omega arith in
    let sum : banks_before core plan (m + 1) ≡ banks_before core plan m + array_banks core plan m = ap (banks_before core plan) (sym next) in
    let old = filter is_bank c.args.builder.now.cells in
    let own : ℕ → List PlainCell = λ n. bank_cells n (width_of (mem core m).ty) (array_size core plan m) (array_banks core plan m) in
    record {
      draft = e.promises.grows.draft i.draft;
      promises = rw (items, wires_push arrays array) (promises_join _ _ _ (wires_in arrays) (flat_map wires_of array.stores.items) i.promises e.promises);
      each = ap (λ (xs : List Array). length xs) items ∙ length_push _ _ ∙ ap (λ n. n + 1) i.each;
      bank = omega (arith, len, each, more);
      before = omega (arith, before, sum, len, each);
      stand = rw items (stand_more c.loop-m.builder c.add_array.new.builder core plan arrays array bank m i.each e.promises i.stand e.bank e.stands);
      numbers = rw items (numbered_more c.loop-m.builder c.add_array.new.builder core plan arrays array bank m i.each e.promises i.stand c.args.first e.bank i.before i.numbers);
      apart = rw items (apart_more c.loop-m.builder c.add_array.new.builder core plan arrays array bank m i.each e.promises i.stand i.apart);
      banks = e.banks
          ∙ ap (λ (cs : List PlainCell). cs ++ own bank) i.banks
          ∙ append_assoc old (array_cells core plan c.args.first m) (own bank)
          ∙ ap (λ n. old ++ (array_cells core plan c.args.first m ++ own n)) before
          ∙ ap (λ k. old ++ array_cells core plan c.args.first k) next;
      cells = more_banks _ _ _ i.cells e.cells;
    }

pub returns-clause-stand : goal.returns-clause-stand
returns-clause-stand c =
    let i = c.loop-m.invariant in
    let each = i.each in
    let ended = c.loop-m.auto.m-end in
    let past = c.loop-m-test.false in
    let q = length-map c.mems-m-end.result.now plain_mem in
    let same = ap (λ (ms : List PlainMem). length ms) c.mems-m-end.ensures.mems in
    record {
      each = omega (arith, each, ended, past, q, same);
      stand = λ m l. i.stand m (omega (arith, l, past, q, same));
      apart = λ j k net lt l. i.apart j k net lt (omega (arith, l, past, q, same));
    }

pub returns-clause-numbers : goal.returns-clause-numbers
returns-clause-numbers c =
    let ended = c.loop-m.auto.m-end in
    let past = c.loop-m-test.false in
    let q = length-map c.mems-m-end.result.now plain_mem in
    let same = ap (λ (ms : List PlainMem). length ms) c.mems-m-end.ensures.mems in
    λ m l. c.loop-m.invariant.numbers m (omega (arith, l, past, q, same))

pub returns-clause-count : goal.returns-clause-count
returns-clause-count c =
    let i = c.loop-m.invariant in
    let bank = i.bank in
    let each = i.each in
    let ended = c.loop-m.auto.m-end in
    let past = c.loop-m-test.false in
    let q = length-map c.mems-m-end.result.now plain_mem in
    let same = ap (λ (ms : List PlainMem). length ms) c.mems-m-end.ensures.mems in
    let at : c.loop-m.m ≡ length (plain_core c.args.core.now).mems = omega (arith, ended, past, q, same) in
    sym bank ∙ i.before ∙ ap (λ n. c.args.first + banks_before (plain_core c.args.core.now) (plain_plan c.args.plan.now) n) at
