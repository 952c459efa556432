use Rattle.std.proofs.Common.{◌≡◌, ◌∙◌, length, inl, arith}
use Rattle.csv.specs.Records.{fields_of}
use Rattle.sp_words.specs.Ports.{plain_port}
use Rattle.sp_setup.specs.Cells.{CellsEnd}
use Rattle.sp_setup.proofs.Turns.{passed_on}
use Rattle.sp_setup.proofs.FileLemmas.{so_far-start, so_far-more, so_far-refused, so_far-gives, so_far-size}
use Rattle.sp_setup.proofs.cells.read_cells.Goals as goal

pub loop-line-init : goal.loop-line-init
loop-line-init c =
    let start = c.into_iter-line-iterator.ensures.into_iter_gives in
    let rdr = c.into_byte_records-line-items.ensures.rdr in
    let r = c.reader_of.ensures in
    rw (start, rdr) (record {
      plain = r.trim;
      ready = r.ready;
      left = c.into_byte_records-line-items.ensures.left;
      config = r.config;
      so_far = so_far-start (plain_port c.args.port.now) c.args.bytes.now c.reader_of.result r.source r.state c.new-words.result.items c.new-words.ensures.items;
    })

pub loop-line-preserved : goal.loop-line-preserved
loop-line-preserved c =
    let inv = c.loop-line.invariant in
    let s = rw (c.in-Some.is, c.in-Ok.is) at ((c.next.ensures.steps inv.left inv.plain).0 inv.ready) in
    record {
      plain = s.0.3 ∙ inv.plain;
      ready = inl s.1;
      left = s.2;
      config = s.0.2 ∙ inv.config;
      so_far = so_far-more (plain_port c.args.port.now) c.args.bytes.now c.loop-line.line-iterator.rdr c.next.new.self.rdr c.loop-line.row c.in-Some-next_row.next
          c.loop-line.words.items c.read_record.new.words.items (fields_of c.in-Ok.cells) inv.so_far inv.config s.0 c.in-Some-next_row.ensures
          c.in_ok-read_record.ensures.passes c.in_ok-read_record.ensures.words;
    }

pub returns-in_err-read_record-clause-refused : goal.returns-in_err-read_record-clause-refused
returns-in_err-read_record-clause-refused c =
    let inv = c.loop-line.invariant in
    let s = rw (c.in-Some.is, c.in-Ok.is) at ((c.next.ensures.steps inv.left inv.plain).0 inv.ready) in
    let h : CellsEnd (plain_port c.args.port.now) c.args.bytes.now c.in_err-read_record.field-0.0 =
    so_far-refused (plain_port c.args.port.now) c.args.bytes.now c.loop-line.line-iterator.rdr c.next.new.self.rdr c.loop-line.row c.in-Some-next_row.next
    c.loop-line.words.items (fields_of c.in-Ok.cells) _ inv.so_far inv.config s.0 c.in-Some-next_row.ensures c.in_err-read_record.ensures.refused in
    passed_on c.from_residual.result c.in_err-read_record.field-0.0 _ _ c.from_residual.ensures.1 (λ y p. p) h

pub returns-in_err-check_size-clause-refused : goal.returns-in_err-check_size-clause-refused
returns-in_err-check_size-clause-refused c =
    let inv = c.loop-line.invariant in
    let s = rw c.in-None.is at ((c.next.ensures.steps inv.left inv.plain).0 inv.ready) in
    let size : c.len.result ≡ length c.loop-line.words.items = omega arith in
    let h : CellsEnd (plain_port c.args.port.now) c.args.bytes.now c.in_err-check_size.field-0.0 =
    so_far-size (plain_port c.args.port.now) c.args.bytes.now c.loop-line.line-iterator.rdr c.next.new.self.rdr c.loop-line.row
    c.loop-line.words.items c.len.result _ inv.so_far inv.config s size c.in_err-check_size.ensures.apart c.in_err-check_size.ensures.refused in
    passed_on c.from_residual-in_err-check_size.result c.in_err-check_size.field-0.0 _ _ c.from_residual-in_err-check_size.ensures.1 (λ y p. p) h

pub returns-clause-ok : goal.returns-clause-ok
returns-clause-ok c =
    let inv = c.loop-line.invariant in
    let s = rw c.in-None.is at ((c.next.ensures.steps inv.left inv.plain).0 inv.ready) in
    let size : c.len.result ≡ length c.loop-line.words.items = omega arith in
    let count = c.in_ok-check_size.ensures.ok in
    so_far-gives (plain_port c.args.port.now) c.args.bytes.now c.loop-line.line-iterator.rdr c.next.new.self.rdr c.loop-line.row
    c.loop-line.words.items inv.so_far inv.config s (omega (arith, size, count))
