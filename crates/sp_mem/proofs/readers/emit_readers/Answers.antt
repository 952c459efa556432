use Rattle.std.proofs.Common.{[], ◌∷◌, ◌∙◌, subst, take, All, arith}
use Rattle.std.proofs.lemmas.List.Elements.{All-nil, All-more}
use Rattle.std.proofs.lemmas.List.{take_all}
use Rattle.sp_gates.specs.Grows.{Fills}
use Rattle.sp_gates.proofs.Growing.{Fills-none, Fills-join, IsOne-stays}
use Rattle.sp_gates.proofs.Running.{runs_earlier}
use Rattle.sp_gates.proofs.Words.{always}
use Rattle.sp_mem.specs.Fits.{ReadFits, words_of}
use Rattle.sp_mem.specs.Runs.{RunsReader}
use Rattle.sp_mem.proofs.CopyLemmas.{at_item}
use Rattle.sp_mem.proofs.Kept.{copy_kept, nets_kept}
use Rattle.sp_mem.proofs.Reading.{not_before, words_more}
use Rattle.sp_mem.proofs.Waiting.{awaits_kept, awaits_beside}
use Rattle.sp_mem.proofs.readers.emit_readers.Goals as goal

pub loop-r-init : goal.loop-r-init
loop-r-init c = record { fills = Fills-none _; runs = λ s run. All-nil (RunsReader s c.args.copies c.args.nets.now) }

pub read_word-requires-clause-copy : goal.read_word-requires-clause-copy
read_word-requires-clause-copy c =
    let fit = at_item (ReadFits c.args.builder.now c.args.width) c.args.reads.now c.loop-r.r-index _ c.requires.reads c.loop-r-test.true c.r-item.is in
    copy_kept _ _ c.loop-r.invariant.fills.grows _ fit.copy

pub read_word-requires-clause-nets : goal.read_word-requires-clause-nets
read_word-requires-clause-nets c = nets_kept _ _ c.loop-r.invariant.fills.grows _ _ c.requires.nets

pub drive-requires-clause-net : goal.drive-requires-clause-net
drive-requires-clause-net c =
    let fit = at_item (ReadFits c.args.builder.now c.args.width) c.args.reads.now c.loop-r.r-index _ c.requires.reads c.loop-r-test.true c.r-item.is in
    awaits_kept _ _ _ _ c.in_ok-word.ensures.fills
    (awaits_beside _ _ _ _ (words_of (take c.loop-r.r-index c.args.reads.now)) c.loop-r.invariant.fills (not_before c.args.reads.now c.loop-r.r-index c.r-item.result c.requires.apart c.loop-r-test.true c.r-item.is) fit.word)

pub drive-requires-clause-enable : goal.drive-requires-clause-enable
drive-requires-clause-enable c = (IsOne-stays _ _ _ c.in_ok-word.ensures.fills.grows (IsOne-stays _ _ _ c.loop-r.invariant.fills.grows c.requires.one)).net_stands

pub loop-r-preserved : goal.loop-r-preserved
loop-r-preserved c =
    let i = c.loop-r.invariant in
    let w = c.in_ok-word.ensures in
    let e = c.in_ok-drive.ensures in
    let r = c.r-item.result in
    record {
      fills = subst (Fills c.args.builder.now c.drive.new.builder) (words_more c.args.reads.now c.loop-r.r-index c.r-item.result c.loop-r-test.true c.r-item.is)
          (Fills-join _ _ _ (words_of (take c.loop-r.r-index c.args.reads.now)) (c.r-item.result.word ∷ []) i.fills (Fills-join _ _ _ [] (c.r-item.result.word ∷ []) w.fills e.fills));
      runs = λ s run.
          let middle = runs_earlier _ _ s e.fills.grows run in
          let before = runs_earlier _ _ s w.fills.grows middle in
          let first = runs_earlier _ _ s i.fills.grows before in
          All-more (RunsReader s c.args.copies c.args.nets.now) c.args.reads.now c.loop-r.r-index c.r-item.result c.loop-r-test.true (i.runs s before)
          (subst (RunsReader s c.args.copies c.args.nets.now) c.r-item.is
          (λ t copy l at.
          always (λ t. s.net t c.r-item.result.word) (λ t. s.net t c.in_ok-word.word) (λ t. s.net t c.args.one) 0 (e.word s run) (c.requires.one.always s first) t ∙ w.word s middle t copy l at));
    }

pub returns-clause-fills : goal.returns-clause-fills
returns-clause-fills c =
    subst (λ rs. Fills c.args.builder.now c.loop-r.builder (words_of rs)) (take_all c.loop-r.r-index c.args.reads.now (let past = c.loop-r-test.false in omega (arith, past))) c.loop-r.invariant.fills

pub returns-clause-runs : goal.returns-clause-runs
returns-clause-runs c = λ s run.
    subst (All (RunsReader s c.args.copies c.args.nets.now)) (take_all c.loop-r.r-index c.args.reads.now (let past = c.loop-r-test.false in omega (arith, past))) (c.loop-r.invariant.runs s run)
