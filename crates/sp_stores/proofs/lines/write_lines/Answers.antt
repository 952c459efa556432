use Rattle.std.proofs.Common.{[], ◌+◌, ◌/◌, ◌%◌, length, ap, ◌∙◌, arith}
use Rattle.std.proofs.lemmas.List.{length_push}
use Rattle.std.proofs.lemmas.List.Elements.{All-nil, All-push}
use Rattle.sp_gates.proofs.Growing.{Fills-none, Fills-join}
use Rattle.sp_taps.proofs.Rows.{placed_push}
use Rattle.sp_bank_ports.specs.Ports.{WriteFits}
use Rattle.sp_stores.specs.Lines.{IsWriteLine}
use Rattle.sp_stores.proofs.Kept.{all_fit, words_kept, ports_kept, lines_kept}
use Rattle.sp_stores.proofs.lines.write_lines.Goals as goal

pub loop-i-init : goal.loop-i-init
loop-i-init c =
    let empty = ap length c.new-ports.ensures.items in
    record {
      fills = Fills-none _;
      each = empty;
      fit = rw c.new-ports.ensures.items (All-nil (WriteFits c.args.builder.now c.args.width));
      lines = λ i other l. absurd (omega (arith, empty, l));
    }

pub write_line-requires-clause-requests : goal.write_line-requires-clause-requests
write_line-requires-clause-requests c = all_fit _ _ c.loop-i.invariant.fills.grows c.args.requests.now c.requires.requests

pub write_line-requires-clause-words : goal.write_line-requires-clause-words
write_line-requires-clause-words c = words_kept _ _ c.loop-i.invariant.fills.grows c.args.width c.args.requests.now c.requires.words

pub loop-i-preserved : goal.loop-i-preserved
loop-i-preserved c =
    let i = c.loop-i.invariant in
    let e = c.in_ok-port.ensures in
    let items = c.in_ok-push.ensures.items in
    record {
      fills = Fills-join _ _ _ [] [] i.fills e.fills;
      each = ap length items ∙ length_push _ _ ∙ ap (λ n. n + 1) i.each;
      fit = rw items (All-push (WriteFits c.write_line.new.builder c.args.width) c.loop-i.ports.items c.in_ok-port.port (ports_kept _ _ e.fills.grows c.args.width c.loop-i.ports.items i.fit) e.fits);
      lines = rw items
          (placed_push (λ k port. IsWriteLine c.write_line.new.builder (k / c.args.banks) (k % c.args.banks) c.args.requests.now port) c.loop-i.ports.items c.in_ok-port.port c.loop-i.i i.each
          (lines_kept _ _ e.fills.grows c.args.banks c.args.requests.now c.loop-i.ports.items i.lines) e.line);
    }
