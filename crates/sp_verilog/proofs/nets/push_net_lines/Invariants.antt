use Rattle.std.proofs.Common.{◌≡◌, ◌++◌, take, flat_map, string_bytes}
use Rattle.sp_verilog.specs.Text.{net_text}
use Rattle.sp_verilog.proofs.nets.push_net_lines.Given as goal

abbrev pub invariant-loop-line : goal.invariant-loop-line
invariant-loop-line l = string_bytes l.text ≡ string_bytes l.initial.text ++ flat_map net_text (take l.line-index l.nets)
