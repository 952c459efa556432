use Rattle.std.proofs.Common.{List, ◌++◌, flat_map, sym, subst}
use Rattle.sp_gates.specs.Grows.{Fills}
use Rattle.sp_core.specs.CoreParts.{plain_core}
use Rattle.sp_plan.specs.Plain.{plain_plan}
use Rattle.sp_mem.specs.Fits.{words_of}
use Rattle.sp_taps.specs.declared.store.Store.{Store}
use Rattle.sp_taps.specs.Wires.{wires_of}
use Rattle.sp_memory_nets.specs.ArrayBanks.{ArrayStands}
use Rattle.sp_memory_nets.proofs.ArrayFitting.{banked_fits, words_are}
use Rattle.sp_memory_nets.proofs.ArrayShapes.{stores_fit}
use Rattle.sp_memory_nets.proofs.ArrayTouched.{shape_of}
use Rattle.sp_memory_nets.proofs.array_arrays.emit_array.Goals as goal

pub emit_banked-requires-clause-fits : goal.emit_banked-requires-clause-fits
emit_banked-requires-clause-fits c =
    let e = c.in_ok-part.ensures in
    let fits = c.requires.fits in
    banked_fits c.picks_accesses_to.ensures c.args.builder.now (plain_core c.args.core.now) (plain_plan c.args.plan.now) c.args.accesses.now fits.0 fits.1 c.args.array.now.bank c.args.array.now.stores.items c.args.start c.args.m
    fits.2 c.requires.sram c.in_ok-part.part e.array e.start e.bank

pub emit_banked-requires-clause-stores : goal.emit_banked-requires-clause-stores
emit_banked-requires-clause-stores c =
    let core = plain_core c.args.core.now in
    let plan = plain_plan c.args.plan.now in
    let part = c.in_ok-part.part in
    let e = c.in_ok-part.ensures in
    rw c.deref.ensures.value
    (stores_fit core plan c.args.m part c.requires.sram (shape_of core plan c.args.accesses.now c.args.m part e.array) c.args.builder.now c.args.array.now.stores.items
    (subst (λ n. ArrayStands c.args.builder.now core plan c.args.m n c.args.array.now.stores.items) (sym e.bank) c.requires.fits.2.banks))

pub returns-clause-fills : goal.returns-clause-fills
returns-clause-fills c =
    let part = c.in_ok-part.part in
    subst (λ ns. Fills c.args.builder.now c.emit_banked.new.builder (flat_map wires_of c.args.array.now.stores.items ++ ns)) (words_are (plain_core c.args.core.now) (plain_plan c.args.plan.now) c.args.m c.args.accesses.now part.reads.items c.in_ok-part.ensures.array.reads)
    (subst (λ (ss : List Store). Fills c.args.builder.now c.emit_banked.new.builder (flat_map wires_of ss ++ words_of part.reads.items)) c.deref.ensures.value c.in_ok-emit_banked.ensures.fills)

pub returns-clause-runs : goal.returns-clause-runs
returns-clause-runs c = λ s run. (c.in_ok-part.part, c.in_ok-part.ensures.array, c.in_ok-emit_banked.ensures.runs s run)
