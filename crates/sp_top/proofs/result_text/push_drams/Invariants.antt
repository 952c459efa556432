use Rattle.std.proofs.Common.{◌≡◌, ◌++◌, ℕ, map, drop, string_bytes}
use Rattle.std.specs.Global.{Vec}
use Rattle.sp_words.specs.Ports.{plain_port}
use Rattle.sp_top.specs.ResultText.{lines_of, dram_line}
use Rattle.sp_top.proofs.result_text.push_drams.Given as goal

abbrev pub invariant-loop-i : goal.invariant-loop-i
invariant-loop-i l =
    string_bytes l.text ++ lines_of dram_line (map plain_port (drop l.i l.ports)) (map (λ (words : Vec ℕ). words.items) (drop l.i l.drams))
    ≡ string_bytes l.initial.text ++ lines_of dram_line (map plain_port l.ports) (map (λ (words : Vec ℕ). words.items) l.drams)
