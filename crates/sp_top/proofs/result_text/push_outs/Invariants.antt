use Rattle.std.proofs.Common.{◌≡◌, ◌++◌, map, drop, string_bytes}
use Rattle.sp_words.specs.Ports.{plain_port}
use Rattle.sp_top.specs.ResultText.{lines_of, out_line}
use Rattle.sp_top.proofs.result_text.push_outs.Given as goal

abbrev pub invariant-loop-i : goal.invariant-loop-i
invariant-loop-i l =
    string_bytes l.text ++ lines_of out_line (map plain_port (drop l.i l.ports)) (drop l.i l.words)
    ≡ string_bytes l.initial.text ++ lines_of out_line (map plain_port l.ports) l.words
