use Rattle.std.proofs.Common.{rules, ◌≡◌, sym, ◌∙◌}
use Rattle.std.specs.Prelude.{count_by}
use Rattle.sp_reader.specs.PlainProgram.{plain_span}
use Rattle.sp_types.specs.Spans.{is_range}
use Rattle.sp_types.proofs.SpanLemmas.{count_shown}
use Rattle.sp_types.proofs.span.range_count.Goals as goal

pub returns : goal.returns
returns c =
    let e : c.count.result ≡ count_by (λ s. is_range (plain_span s)) c.args.spans.now = search rules in
    e ∙ sym (count_shown c.args.spans.now)
