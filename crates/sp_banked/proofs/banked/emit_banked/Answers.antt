use Rattle.std.proofs.Common.{◌*◌, ◌++◌, [], List, flat_map, All, ap, subst, ◌∙◌, arith}
use Rattle.std.specs.List.{AllZip}
use Rattle.sp_words.specs.Types.{width_of}
use Rattle.sp_gates.specs.Grows.{Fills}
use Rattle.sp_gates.specs.Nets.{HasNet}
use Rattle.sp_gates.proofs.Growing.{Fills-join, IsOne-stays}
use Rattle.sp_gates.proofs.Running.{runs_earlier}
use Rattle.sp_mem.specs.declared.part.Touch.{Touch}
use Rattle.sp_taps.specs.Wires.{wires_of}
use Rattle.sp_taps.proofs.Rows.{stores_kept}
use Rattle.sp_requests.specs.declared.part.Request.{Request}
use Rattle.sp_requests.specs.Requests.{IsRequest}
use Rattle.sp_requests.proofs.Kept.{requests_stay}
use Rattle.sp_stores.specs.Lines.{RunLines}
use Rattle.sp_banked.specs.Fits.{bank_size}
use Rattle.sp_banked.specs.Readers.{RunsReader, words_of}
use Rattle.sp_banked.proofs.Reading.{founds_kept}
use Rattle.sp_banked.proofs.Shapes.{touches_kept, written_kept, waits_kept, founds_stand}
use Rattle.sp_banked.proofs.Asked.{zip_fits, zip_words, words_known, apart_known, readers_fit, stores_fit_kept}
use Rattle.sp_banked.proofs.Whole.{banked_runs}
use Rattle.sp_banked.proofs.banked.emit_banked.Goals as goal

pub requests-requires-clause-touches : goal.requests-requires-clause-touches
requests-requires-clause-touches c = rw c.deref.ensures.value (touches_kept _ _ c.args.part.now.layout c.args.part.now.writes.items c.in_ok-one.ensures.fills.grows c.requires.fits.writes)

pub requests-requires-2-clause-touches : goal.requests-requires-2-clause-touches
requests-requires-2-clause-touches c =
    rw c.deref-2.ensures.value
    (touches_kept _ _ c.args.part.now.layout c.args.part.now.reads.items c.in_ok-writes.ensures.fills.grows (touches_kept _ _ c.args.part.now.layout c.args.part.now.reads.items c.in_ok-one.ensures.fills.grows c.requires.fits.reads))

pub requests-requires-clause-layout : goal.requests-requires-clause-layout
requests-requires-clause-layout c = c.requires.fits.shape.layout

pub requests-requires-2-clause-layout : goal.requests-requires-2-clause-layout
requests-requires-2-clause-layout c = c.requires.fits.shape.layout

pub emit_ports-requires : goal.emit_ports-requires
emit_ports-requires c =
    let part = c.args.part.now in
    let first = c.in_ok-one.ensures.fills in
    let second = c.in_ok-writes.ensures.fills in
    let third = c.in_ok-reads.ensures.fills in
    let before : Fills c.args.builder.now c.requests-2.new.builder [] = Fills-join _ _ _ [] [] first (Fills-join _ _ _ [] [] second third) in
    let writes_are : AllZip (IsRequest c.requests.new.builder c.args.part.now.layout) c.args.part.now.writes.items c.in_ok-writes.writes.items =
    subst (λ (ts : List Touch). AllZip (IsRequest c.requests.new.builder c.args.part.now.layout) ts c.in_ok-writes.writes.items) c.deref.ensures.value c.in_ok-writes.ensures.requests in
    let reads_are : AllZip (IsRequest c.requests-2.new.builder c.args.part.now.layout) c.args.part.now.reads.items c.in_ok-reads.reads.items =
    subst (λ (ts : List Touch). AllZip (IsRequest c.requests-2.new.builder c.args.part.now.layout) ts c.in_ok-reads.reads.items) c.deref-2.ensures.value c.in_ok-reads.ensures.requests in
    let kept = requests_stay c.requests.new.builder c.requests-2.new.builder c.args.part.now.layout c.args.part.now.writes.items c.in_ok-writes.writes.items third.grows writes_are in
    record {
      shape = c.requires.fits.shape;
      stores = stores_fit_kept _ _ c.args.part.now c.args.stores.now before c.requires.stores;
      writes = rw c.deref-3.ensures.value (zip_fits c.requests-2.new.builder c.args.part.now.layout c.args.part.now.writes.items c.in_ok-writes.writes.items kept);
      words = rw c.deref-3.ensures.value
          (words_known (λ net. HasNet c.requests-2.new.builder net (width_of c.args.part.now.ty)) c.requests-2.new.builder c.args.part.now.layout c.args.part.now.writes.items c.in_ok-writes.writes.items kept
          (written_kept c.args.builder.now c.requests-2.new.builder (width_of c.args.part.now.ty) c.args.part.now.writes.items before.grows c.requires.fits.words));
      reads = rw c.deref-4.ensures.value (zip_fits c.requests-2.new.builder c.args.part.now.layout c.args.part.now.reads.items c.in_ok-reads.reads.items reads_are);
      one = IsOne-stays _ _ _ third.grows (IsOne-stays _ _ _ second.grows c.in_ok-one.ensures.one);
    }

pub emit_readers-requires-clause-requests : goal.emit_readers-requires-clause-requests
emit_readers-requires-clause-requests c =
    let before : Fills c.args.builder.now c.requests-2.new.builder [] = Fills-join _ _ _ [] [] c.in_ok-one.ensures.fills (Fills-join _ _ _ [] [] c.in_ok-writes.ensures.fills c.in_ok-reads.ensures.fills) in
    let reads_are : AllZip (IsRequest c.requests-2.new.builder c.args.part.now.layout) c.args.part.now.reads.items c.in_ok-reads.reads.items =
    subst (λ (ts : List Touch). AllZip (IsRequest c.requests-2.new.builder c.args.part.now.layout) ts c.in_ok-reads.reads.items) c.deref-2.ensures.value c.in_ok-reads.ensures.requests in
    let stores = stores_fit_kept _ _ c.args.part.now c.args.stores.now before c.requires.stores in
    rw (c.deref-5.ensures.value, c.width-width.ensures.value)
    (readers_fit c.requests-2.new.builder c.emit_ports.new.builder c.args.part.now.layout (width_of c.args.part.now.ty) c.args.part.now.duplicates (c.args.part.now.copies * c.args.part.now.layout.banks) c.args.stores.now c.args.part.now.reads.items c.in_ok-reads.reads.items
    c.in_ok-emit_ports.ensures.fills stores.wires c.requires.stores.each reads_are (waits_kept _ _ (width_of c.args.part.now.ty) c.args.part.now.reads.items before c.requires.fits.found) c.requires.fits.duplicates)

pub emit_readers-requires-clause-apart : goal.emit_readers-requires-clause-apart
emit_readers-requires-clause-apart c =
    let reads_are : AllZip (IsRequest c.requests-2.new.builder c.args.part.now.layout) c.args.part.now.reads.items c.in_ok-reads.reads.items =
    subst (λ (ts : List Touch). AllZip (IsRequest c.requests-2.new.builder c.args.part.now.layout) ts c.in_ok-reads.reads.items) c.deref-2.ensures.value c.in_ok-reads.ensures.requests in
    rw c.deref-5.ensures.value (apart_known c.requests-2.new.builder c.args.part.now.layout c.args.part.now.reads.items c.in_ok-reads.reads.items reads_are c.requires.fits.apart)

pub emit_readers-requires-clause-stores : goal.emit_readers-requires-clause-stores
emit_readers-requires-clause-stores c =
    let before : Fills c.args.builder.now c.requests-2.new.builder [] = Fills-join _ _ _ [] [] c.in_ok-one.ensures.fills (Fills-join _ _ _ [] [] c.in_ok-writes.ensures.fills c.in_ok-reads.ensures.fills) in
    rw c.width-width.ensures.value
    (founds_kept c.args.builder.now c.emit_ports.new.builder (width_of c.args.part.now.ty) c.args.stores.now
    (Fills-join _ _ _ [] (flat_map wires_of c.args.stores.now) before c.in_ok-emit_ports.ensures.fills).grows (founds_stand c.args.builder.now c.args.part.now.bank (width_of c.args.part.now.ty) (bank_size c.args.part.now) c.args.stores.now c.requires.stores.banks))

pub emit_readers-requires-clause-few : goal.emit_readers-requires-clause-few
emit_readers-requires-clause-few c = let each = c.requires.stores.each in let few = c.requires.fits.shape.few in omega (arith, each, few)

pub emit_readers-requires-clause-some : goal.emit_readers-requires-clause-some
emit_readers-requires-clause-some c = c.requires.fits.shape.layout.space.size.some_bank

pub emit_readers-requires-clause-one : goal.emit_readers-requires-clause-one
emit_readers-requires-clause-one c =
    IsOne-stays _ _ _ c.in_ok-emit_ports.ensures.fills.grows (IsOne-stays _ _ _ c.in_ok-reads.ensures.fills.grows (IsOne-stays _ _ _ c.in_ok-writes.ensures.fills.grows c.in_ok-one.ensures.one))

pub returns-clause-fills : goal.returns-clause-fills
returns-clause-fills c =
    let before : Fills c.args.builder.now c.requests-2.new.builder [] = Fills-join _ _ _ [] [] c.in_ok-one.ensures.fills (Fills-join _ _ _ [] [] c.in_ok-writes.ensures.fills c.in_ok-reads.ensures.fills) in
    let reads_are : AllZip (IsRequest c.requests-2.new.builder c.args.part.now.layout) c.args.part.now.reads.items c.in_ok-reads.reads.items =
    subst (λ (ts : List Touch). AllZip (IsRequest c.requests-2.new.builder c.args.part.now.layout) ts c.in_ok-reads.reads.items) c.deref-2.ensures.value c.in_ok-reads.ensures.requests in
    let names = ap words_of c.deref-5.ensures.value ∙ zip_words c.requests-2.new.builder c.args.part.now.layout c.args.part.now.reads.items c.in_ok-reads.reads.items reads_are in
    subst (λ xs. Fills c.args.builder.now c.emit_readers.new.builder (flat_map wires_of c.args.stores.now ++ xs)) names
    (Fills-join _ _ _ [] (flat_map wires_of c.args.stores.now ++ words_of c.deref-5.result.now) before
    (Fills-join _ _ _ (flat_map wires_of c.args.stores.now) (words_of c.deref-5.result.now) c.in_ok-emit_ports.ensures.fills c.in_ok-emit_readers.ensures.fills))

pub returns-clause-stores_stay : goal.returns-clause-stores_stay
returns-clause-stores_stay c = stores_kept _ _ _ _ _ c.args.stores.now (returns-clause-fills c).grows c.requires.stores.banks

pub returns-clause-runs : goal.returns-clause-runs
returns-clause-runs c = λ s run.
    let ports = runs_earlier _ _ s c.in_ok-emit_readers.ensures.fills.grows run in
    let before = runs_earlier _ _ s c.in_ok-emit_ports.ensures.fills.grows ports in
    let third = c.in_ok-reads.ensures.fills in
    let writes_are : AllZip (IsRequest c.requests.new.builder c.args.part.now.layout) c.args.part.now.writes.items c.in_ok-writes.writes.items =
    subst (λ (ts : List Touch). AllZip (IsRequest c.requests.new.builder c.args.part.now.layout) ts c.in_ok-writes.writes.items) c.deref.ensures.value c.in_ok-writes.ensures.requests in
    let reads_are : AllZip (IsRequest c.requests-2.new.builder c.args.part.now.layout) c.args.part.now.reads.items c.in_ok-reads.reads.items =
    subst (λ (ts : List Touch). AllZip (IsRequest c.requests-2.new.builder c.args.part.now.layout) ts c.in_ok-reads.reads.items) c.deref-2.ensures.value c.in_ok-reads.ensures.requests in
    let kept = requests_stay c.requests.new.builder c.requests-2.new.builder c.args.part.now.layout c.args.part.now.writes.items c.in_ok-writes.writes.items third.grows writes_are in
    banked_runs c.requests-2.new.builder s c.args.part.now c.args.stores.now c.in_ok-writes.writes.items c.in_ok-reads.reads.items c.requires.fits.shape c.requires.stores.each before kept reads_are
    (subst (λ (rs : List Request). RunLines s c.args.part.now.bank (bank_size c.args.part.now) c.args.stores.now (c.args.part.now.copies * c.args.part.now.layout.banks) c.args.part.now.layout.banks c.in_ok-writes.writes.items rs) c.deref-4.ensures.value
    (subst (λ (ws : List Request). RunLines s c.args.part.now.bank (bank_size c.args.part.now) c.args.stores.now (c.args.part.now.copies * c.args.part.now.layout.banks) c.args.part.now.layout.banks ws c.deref-4.result.now) c.deref-3.ensures.value
    (c.in_ok-emit_ports.ensures.runs s ports)))
    (subst (λ (rs : List Request). All (RunsReader s c.args.stores.now (c.args.part.now.copies * c.args.part.now.layout.banks) c.args.part.now.layout.banks) rs) c.deref-5.ensures.value (c.in_ok-emit_readers.ensures.runs s run))
    c.requires.fits.duplicates
