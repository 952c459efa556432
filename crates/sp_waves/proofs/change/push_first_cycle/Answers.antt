use Rattle.std.proofs.Common.{◌++◌, map, string_bytes}
use Rattle.std.proofs.lemmas.Result.{on_ok_weaker}
use Rattle.sp_waves.specs.Signals.{plain_signal}
use Rattle.sp_waves.specs.Text.{at_time, dump_begin, rises, values, dump_end, falls}
use Rattle.sp_waves.proofs.ListLemmas.{join}
use Rattle.sp_waves.proofs.change.push_first_cycle.Goals as goal

pub returns : goal.returns
returns c =
    let end = string_bytes c.push_value-2.new.text in
    let rest6 = falls in
    let rest5 = at_time 5 ++ rest6 in
    let rest4 = dump_end ++ rest5 in
    let rest3 = values 1 (map plain_signal c.args.signals.now) c.args.now.now ++ rest4 in
    let rest2 = rises ++ rest3 in
    let rest1 = dump_begin ++ rest2 in
    let text1 = string_bytes c.push_time.new.text in
    let text2 = string_bytes c.push_dump_begin.new.text in
    let text3 = string_bytes c.push_value.new.text in
    let text4 = string_bytes c.push_values.new.text in
    let text5 = string_bytes c.push_dump_end.new.text in
    let text6 = string_bytes c.push_time-2.new.text in
    on_ok_weaker c.push_value-2.result (λ last. join (string_bytes c.args.text.now) text1 end (at_time 0) rest1 c.in_ok-push_time.ensures (join text1 text2 end (dump_begin) rest2 c.in_ok-push_dump_begin.ensures (join text2 text3 end (rises) rest3 c.in_ok-push_value.ensures (join text3 text4 end (values 1 (map plain_signal c.args.signals.now) c.args.now.now) rest4 c.in_ok-push_values.ensures (join text4 text5 end (dump_end) rest5 c.in_ok-push_dump_end.ensures (join text5 text6 end (at_time 5) rest6 c.in_ok-push_time-2.ensures (last))))))) c.push_value-2.ensures
