use Rattle.std.proofs.Common.{sym, ◌∙◌}
use Rattle.sp_listing.proofs.ReadingLemmas.{end_line}
use Rattle.sp_listing.proofs.reading.Reading.broken_end.Goals as goal

pub returns : goal.returns
returns c =
    end_line c.args.declared.now c.args.self.now c.take.new.self c.args.last.now c.next_line-2.result c.in_ok-take.field-0 (sym c.is_empty.ensures ∙ c.if-is_empty.false) c.in_ok-take.ensures c.next_line-2.ensures
