use Rattle.std.proofs.Common.{[], ◌+◌, ◌∙◌, sym, ap, length, arith}
use Rattle.std.proofs.lemmas.List.{length_push}
use Rattle.std.proofs.lemmas.List.Elements.{All-push, All-nil}
use Rattle.sp_words.specs.Types.{width_of}
use Rattle.sp_gates.specs.Nets.{HasNet}
use Rattle.sp_gates.proofs.Growing.{Fills-none, Fills-join, IsOne-stays, HasNet-stays}
use Rattle.sp_gates.proofs.Running.{runs_earlier}
use Rattle.sp_mem.proofs.Holding.{copies_pushed}
use Rattle.sp_mem.proofs.Kept.{register_kept, nets_kept}
use Rattle.sp_mem.proofs.copies.emit_copies.Goals as goal

pub loop-number-init : goal.loop-number-init
loop-number-init c = record {
  fills = Fills-none _;
  each = ap length c.new-nets.ensures.items;
  nets = rw c.new-nets.ensures.items (All-nil (λ net. HasNet c.constant.new.builder net (width_of c.args.part.now.ty)));
  runs = λ s r copy l. absurd (omega (arith, l));
}

pub emit_copy-requires-clause-fits : goal.emit_copy-requires-clause-fits
emit_copy-requires-clause-fits c = register_kept _ _ _ c.loop-number.invariant.fills (register_kept _ _ _ c.in_ok-first.ensures.fills c.requires.fits)

pub emit_copy-requires-clause-first : goal.emit_copy-requires-clause-first
emit_copy-requires-clause-first c = rw (sym c.width.ensures.value) (HasNet-stays _ _ _ _ c.loop-number.invariant.fills.grows c.in_ok-first.ensures.net)

pub emit_copy-requires-clause-first_word : goal.emit_copy-requires-clause-first_word
emit_copy-requires-clause-first_word c = λ s run t. c.in_ok-first.ensures.word s (runs_earlier _ _ s c.loop-number.invariant.fills.grows run) t ∙ c.first_of.ensures

pub emit_copy-requires-clause-one : goal.emit_copy-requires-clause-one
emit_copy-requires-clause-one c = IsOne-stays _ _ _ c.loop-number.invariant.fills.grows (IsOne-stays _ _ _ c.in_ok-first.ensures.fills.grows c.requires.one)

pub loop-number-preserved : goal.loop-number-preserved
loop-number-preserved c =
    let i = c.loop-number.invariant in
    let e = c.in_ok-net.ensures in
    record {
      fills = Fills-join _ _ _ [] [] i.fills e.fills;
      each = ap length c.in_ok-push.ensures.items ∙ length_push _ _ ∙ ap (λ n. n + 1) i.each;
      nets = rw c.in_ok-push.ensures.items
          (All-push (λ net. HasNet c.emit_copy.new.builder net (width_of c.args.part.now.ty)) c.loop-number.nets.items c.in_ok-net.net (nets_kept _ _ e.fills.grows (width_of c.args.part.now.ty) c.loop-number.nets.items i.nets) e.net);
      runs = λ s run. rw c.in_ok-push.ensures.items
          (copies_pushed s c.args.part.now c.loop-number.nets.items c.in_ok-net.net c.loop-number.number i.each (i.runs s (runs_earlier _ _ s e.fills.grows run)) (e.runs s run));
    }

pub returns-clause-fills : goal.returns-clause-fills
returns-clause-fills c = Fills-join _ _ _ [] [] c.in_ok-first.ensures.fills c.loop-number.invariant.fills

pub returns-clause-runs : goal.returns-clause-runs
returns-clause-runs c = λ s run copy l.
    let past = c.loop-number-test.false in
    c.loop-number.invariant.runs s run copy (omega (arith, past, l))
