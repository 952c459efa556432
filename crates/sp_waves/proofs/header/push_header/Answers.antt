use Rattle.std.proofs.Common.{◌++◌, map, flat_map, string_bytes}
use Rattle.std.proofs.lemmas.Result.{on_ok_weaker}
use Rattle.sp_netlist.specs.Cells.{plain_cells}
use Rattle.sp_waves.specs.Signals.{plain_signal}
use Rattle.sp_waves.specs.Text.{version, time_scale, port_comment, scope_begin, clock_declaration, declarations, scope_end, definitions_end}
use Rattle.sp_waves.proofs.ListLemmas.{join}
use Rattle.sp_waves.proofs.header.push_header.Goals as goal

pub returns : goal.returns
returns c =
    let end = string_bytes c.push_definitions_end.new.text in
    let rest7 = definitions_end in
    let rest6 = scope_end ++ rest7 in
    let rest5 = declarations 1 (map plain_signal c.args.signals.now) ++ rest6 in
    let rest4 = clock_declaration ++ rest5 in
    let rest3 = scope_begin ++ rest4 in
    let rest2 = flat_map port_comment (plain_cells c.args.cells.now) ++ rest3 in
    let rest1 = time_scale ++ rest2 in
    let text1 = string_bytes c.push_version.new.text in
    let text2 = string_bytes c.push_time_scale.new.text in
    let text3 = string_bytes c.push_comments.new.text in
    let text4 = string_bytes c.push_scope_begin.new.text in
    let text5 = string_bytes c.push_declaration.new.text in
    let text6 = string_bytes c.push_declarations.new.text in
    let text7 = string_bytes c.push_scope_end.new.text in
    on_ok_weaker c.push_definitions_end.result (λ last. join (string_bytes c.args.text.now) text1 end (version) rest1 c.in_ok-push_version.ensures (join text1 text2 end (time_scale) rest2 c.in_ok-push_time_scale.ensures (join text2 text3 end (flat_map port_comment (plain_cells c.args.cells.now)) rest3 c.in_ok-push_comments.ensures (join text3 text4 end (scope_begin) rest4 c.in_ok-push_scope_begin.ensures (join text4 text5 end (clock_declaration) rest5 c.in_ok-push_declaration.ensures (join text5 text6 end (declarations 1 (map plain_signal c.args.signals.now)) rest6 c.in_ok-push_declarations.ensures (join text6 text7 end (scope_end) rest7 c.in_ok-push_scope_end.ensures (last)))))))) c.push_definitions_end.ensures
