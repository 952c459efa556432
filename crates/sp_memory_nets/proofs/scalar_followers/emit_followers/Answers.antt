use Rattle.std.proofs.Common.{[], ◌∷◌, subst, take, All, arith}
use Rattle.std.proofs.lemmas.List.Elements.{All-nil, All-more}
use Rattle.std.proofs.lemmas.List.{take_all}
use Rattle.sp_gates.specs.Grows.{Fills}
use Rattle.sp_gates.proofs.Growing.{Fills-none, Fills-join, HasNet-stays, IsOne-stays}
use Rattle.sp_gates.proofs.Running.{runs_earlier}
use Rattle.sp_gates.proofs.Words.{always}
use Rattle.sp_mem.specs.Fits.{ReadFits, words_of}
use Rattle.sp_mem.proofs.CopyLemmas.{at_item}
use Rattle.sp_mem.proofs.Reading.{not_before, words_more}
use Rattle.sp_mem.proofs.Waiting.{awaits_beside}
use Rattle.sp_memory_nets.specs.ScalarRuns.{Follows}
use Rattle.sp_memory_nets.proofs.scalar_followers.emit_followers.Goals as goal

pub loop-r-init : goal.loop-r-init
loop-r-init c = record { fills = Fills-none _; runs = λ s run. All-nil (Follows s c.args.port) }

pub drive-requires-clause-net : goal.drive-requires-clause-net
drive-requires-clause-net c =
    let fit = at_item (ReadFits c.args.builder.now c.args.width) c.args.reads.now c.loop-r.r-index _ c.requires.reads c.loop-r-test.true c.r-item.is in
    awaits_beside _ _ _ _ (words_of (take c.loop-r.r-index c.args.reads.now)) c.loop-r.invariant.fills (not_before c.args.reads.now c.loop-r.r-index c.r-item.result c.requires.apart c.loop-r-test.true c.r-item.is) fit.word

pub drive-requires-clause-next : goal.drive-requires-clause-next
drive-requires-clause-next c = HasNet-stays _ _ _ _ c.loop-r.invariant.fills.grows c.requires.port

pub drive-requires-clause-enable : goal.drive-requires-clause-enable
drive-requires-clause-enable c = (IsOne-stays _ _ _ c.loop-r.invariant.fills.grows c.requires.one).net_stands

pub loop-r-preserved : goal.loop-r-preserved
loop-r-preserved c =
    let i = c.loop-r.invariant in
    let e = c.in_ok-drive.ensures in
    let r = c.r-item.result in
    record {
      fills = subst (Fills c.args.builder.now c.drive.new.builder) (words_more c.args.reads.now c.loop-r.r-index c.r-item.result c.loop-r-test.true c.r-item.is)
          (Fills-join _ _ _ (words_of (take c.loop-r.r-index c.args.reads.now)) (c.r-item.result.word ∷ []) i.fills e.fills);
      runs = λ s run.
          let before = runs_earlier _ _ s e.fills.grows run in
          let first = runs_earlier _ _ s i.fills.grows before in
          All-more (Follows s c.args.port) c.args.reads.now c.loop-r.r-index c.r-item.result c.loop-r-test.true (i.runs s before)
          (subst (Follows s c.args.port) c.r-item.is
          (λ t. always (λ t. s.net t c.r-item.result.word) (λ t. s.net t c.args.port) (λ t. s.net t c.args.one) 0 (e.word s run) (c.requires.one.always s first) t));
    }

pub returns-clause-fills : goal.returns-clause-fills
returns-clause-fills c =
    subst (λ rs. Fills c.args.builder.now c.loop-r.builder (words_of rs)) (take_all c.loop-r.r-index c.args.reads.now (let past = c.loop-r-test.false in omega (arith, past))) c.loop-r.invariant.fills

pub returns-clause-runs : goal.returns-clause-runs
returns-clause-runs c = λ s run.
    subst (All (Follows s c.args.port)) (take_all c.loop-r.r-index c.args.reads.now (let past = c.loop-r-test.false in omega (arith, past))) (c.loop-r.invariant.runs s run)
