use Rattle.std.proofs.Common.{[], ◌∷◌, subst, take, All, length, arith}
use Rattle.std.proofs.lemmas.List.Elements.{All-nil, All-more}
use Rattle.std.proofs.lemmas.List.{take_all}
use Rattle.sp_gates.specs.Grows.{Fills}
use Rattle.sp_gates.proofs.Growing.{Fills-none, Fills-join, IsOne-stays}
use Rattle.sp_gates.proofs.Running.{runs_earlier}
use Rattle.sp_mem.proofs.Waiting.{awaits_beside}
use Rattle.sp_requests.proofs.Kept.{fits_kept}
use Rattle.sp_banked.specs.Readers.{ReaderFits, words_of, RunsReader}
use Rattle.sp_banked.proofs.Reading.{at_item, founds_kept, not_before, words_more}
use Rattle.sp_banked.proofs.readers.emit_readers.Goals as goal

pub loop-r-init : goal.loop-r-init
loop-r-init c = record { fills = Fills-none _; runs = λ s run. All-nil (RunsReader s c.args.stores.now c.args.lines c.args.banks) }

pub emit_reader-requires : goal.emit_reader-requires
emit_reader-requires c =
    let i = c.loop-r.invariant in
    let fit = at_item (ReaderFits c.args.builder.now c.args.width (length c.args.stores.now) c.args.lines) c.args.requests.now c.loop-r.r-index c.r-item.result c.requires.requests c.loop-r-test.true c.r-item.is in
    record {
      width = c.requires.width;
      request = fits_kept c.args.builder.now c.loop-r.builder i.fills.grows c.r-item.result fit.fits;
      word = awaits_beside c.args.builder.now c.loop-r.builder c.r-item.result.word c.args.width (words_of (take c.loop-r.r-index c.args.requests.now)) i.fills (not_before c.args.requests.now c.loop-r.r-index c.r-item.result c.requires.apart c.loop-r-test.true c.r-item.is) fit.word;
      stores = founds_kept c.args.builder.now c.loop-r.builder c.args.width c.args.stores.now i.fills.grows c.requires.stores;
      within = fit.within;
      few = c.requires.few;
      some = c.requires.some;
      one = IsOne-stays c.args.builder.now c.loop-r.builder c.args.one i.fills.grows c.requires.one;
    }

pub loop-r-preserved : goal.loop-r-preserved
loop-r-preserved c =
    let i = c.loop-r.invariant in
    let e = c.in_ok-emit_reader.ensures in
    record {
      fills = subst (Fills c.args.builder.now c.emit_reader.new.builder) (words_more c.args.requests.now c.loop-r.r-index c.r-item.result c.loop-r-test.true c.r-item.is)
          (Fills-join _ _ _ (words_of (take c.loop-r.r-index c.args.requests.now)) (c.r-item.result.word ∷ []) i.fills e.fills);
      runs = λ s run.
          All-more (RunsReader s c.args.stores.now c.args.lines c.args.banks) c.args.requests.now c.loop-r.r-index c.r-item.result c.loop-r-test.true (i.runs s (runs_earlier _ _ s e.fills.grows run))
          (subst (RunsReader s c.args.stores.now c.args.lines c.args.banks) c.r-item.is (e.runs s run));
    }

pub returns-clause-fills : goal.returns-clause-fills
returns-clause-fills c =
    subst (λ rs. Fills c.args.builder.now c.loop-r.builder (words_of rs)) (take_all c.loop-r.r-index c.args.requests.now (let past = c.loop-r-test.false in omega (arith, past))) c.loop-r.invariant.fills

pub returns-clause-runs : goal.returns-clause-runs
returns-clause-runs c = λ s run.
    subst (All (RunsReader s c.args.stores.now c.args.lines c.args.banks)) (take_all c.loop-r.r-index c.args.requests.now (let past = c.loop-r-test.false in omega (arith, past))) (c.loop-r.invariant.runs s run)
