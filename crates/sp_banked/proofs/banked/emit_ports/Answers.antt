use Rattle.std.proofs.Common.{[], List, length, flat_map, ap, sym, subst, ◌∙◌, arith}
use Rattle.sp_words.specs.Types.{width_of}
use Rattle.sp_gates.proofs.Growing.{Fills-join, IsOne-stays}
use Rattle.sp_taps.specs.Wires.{wires_of}
use Rattle.sp_taps.specs.Stores.{AreStores}
use Rattle.sp_taps.proofs.Rows.{stores_kept}
use Rattle.sp_bank_ports.specs.declared.port.WritePort.{WritePort}
use Rattle.sp_stores.specs.Lines.{RunLines, AreWriteLines}
use Rattle.sp_stores.proofs.Kept.{all_fit}
use Rattle.sp_banked.specs.Fits.{bank_size}
use Rattle.sp_banked.proofs.Shapes.{lines_few, lines_some}
use Rattle.sp_banked.proofs.Asked.{stores_fit_kept}
use Rattle.sp_banked.proofs.banked.emit_ports.Goals as goal

pub write_lines-requires-clause-words : goal.write_lines-requires-clause-words
write_lines-requires-clause-words c = rw c.width-width.ensures.value c.requires.words

pub write_lines-requires-clause-some : goal.write_lines-requires-clause-some
write_lines-requires-clause-some c = c.requires.shape.layout.space.size.some_bank

pub write_lines-requires-clause-few : goal.write_lines-requires-clause-few
write_lines-requires-clause-few c = lines_few c.args.part.now c.requires.shape

pub serve_all-requires-clause-rows : goal.serve_all-requires-clause-rows
serve_all-requires-clause-rows c = c.requires.stores.rows

pub serve_all-requires-clause-wires : goal.serve_all-requires-clause-wires
serve_all-requires-clause-wires c = rw c.width-width.ensures.value (stores_fit_kept _ _ c.args.part.now c.args.stores.now c.in_ok-ports.ensures.fills c.requires.stores).wires

pub serve_all-requires-clause-few : goal.serve_all-requires-clause-few
serve_all-requires-clause-few c = let each = c.requires.stores.each in let few = c.requires.shape.few in omega (arith, each, few)

pub serve_all-requires-clause-some : goal.serve_all-requires-clause-some
serve_all-requires-clause-some c =
    let each = ap length c.deref.ensures.value ∙ c.in_ok-ports.ensures.each in
    let some = lines_some c.args.part.now c.requires.shape in
    omega (arith, each, some)

pub serve_all-requires-clause-ports : goal.serve_all-requires-clause-ports
serve_all-requires-clause-ports c = rw c.deref.ensures.value c.in_ok-ports.ensures.fit

pub serve_all-requires-clause-reads : goal.serve_all-requires-clause-reads
serve_all-requires-clause-reads c = all_fit _ _ c.in_ok-ports.ensures.fills.grows c.args.reads.now c.requires.reads

pub serve_all-requires-clause-banks : goal.serve_all-requires-clause-banks
serve_all-requires-clause-banks c = c.requires.shape.layout.space.size.some_bank

pub serve_all-requires-clause-few_lines : goal.serve_all-requires-clause-few_lines
serve_all-requires-clause-few_lines c =
    let each = ap length c.deref.ensures.value ∙ c.in_ok-ports.ensures.each in
    let few = lines_few c.args.part.now c.requires.shape in
    omega (arith, each, few)

pub serve_all-requires-clause-one : goal.serve_all-requires-clause-one
serve_all-requires-clause-one c = IsOne-stays _ _ _ c.in_ok-ports.ensures.fills.grows c.requires.one

pub returns-clause-fills : goal.returns-clause-fills
returns-clause-fills c = Fills-join _ _ _ [] (flat_map wires_of c.args.stores.now) c.in_ok-ports.ensures.fills c.in_ok-serve_all.ensures.fills

pub returns-clause-runs : goal.returns-clause-runs
returns-clause-runs c = λ s run.
    let each = ap length c.deref.ensures.value ∙ c.in_ok-ports.ensures.each in
    let lines : AreWriteLines c.write_lines.new.builder c.args.part.now.layout.banks c.args.writes.now c.deref.result.now =
    subst (λ (ps : List WritePort). AreWriteLines c.write_lines.new.builder c.args.part.now.layout.banks c.args.writes.now ps) (sym c.deref.ensures.value) c.in_ok-ports.ensures.lines in
    let banks : AreStores c.write_lines.new.builder c.args.part.now.bank (width_of c.args.part.now.ty) (bank_size c.args.part.now) c.args.stores.now = stores_kept _ _ _ _ _ c.args.stores.now c.in_ok-ports.ensures.fills.grows c.requires.stores.banks in
    subst (λ n. RunLines s c.args.part.now.bank (bank_size c.args.part.now) c.args.stores.now n c.args.part.now.layout.banks c.args.writes.now c.args.reads.now) each
    (c.in_ok-serve_all.ensures.runs c.args.writes.now lines c.args.part.now.bank (bank_size c.args.part.now)
    (subst (λ w. AreStores c.write_lines.new.builder c.args.part.now.bank w (bank_size c.args.part.now) c.args.stores.now) (sym c.width-width.ensures.value) banks) s run)
