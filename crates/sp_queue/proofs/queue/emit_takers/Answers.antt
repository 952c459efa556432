use Rattle.std.proofs.Common.{[], List, length, All, ap, subst, ◌∙◌}
use Rattle.std.specs.List.{AllZip}
use Rattle.sp_words.specs.Types.{width_of}
use Rattle.sp_gates.specs.Grows.{Fills}
use Rattle.sp_gates.proofs.Growing.{Fills-join, IsOne-stays}
use Rattle.sp_gates.proofs.Running.{runs_earlier}
use Rattle.sp_mem.specs.declared.part.Touch.{Touch}
use Rattle.sp_requests.specs.declared.part.Request.{Request}
use Rattle.sp_banked.specs.Readers.{RunsReader, words_of}
use Rattle.sp_banked.proofs.Reading.{founds_kept}
use Rattle.sp_banked.proofs.Shapes.{founds_stand}
use Rattle.sp_queue.specs.Takes.{IsTake}
use Rattle.sp_queue.proofs.Taken.{takes_fit_kept, take_words, takers_fit, takers_apart, takers_run}
use Rattle.sp_queue.proofs.queue.emit_takers.Goals as goal

pub take_requests-requires-clause-takes : goal.take_requests-requires-clause-takes
take_requests-requires-clause-takes c = rw c.deref.ensures.value (takes_fit_kept _ _ c.args.part.now c.in_ok-zero.ensures.fills c.requires.takes).takes

pub emit_readers-requires-clause-requests : goal.emit_readers-requires-clause-requests
emit_readers-requires-clause-requests c =
    let are : AllZip (IsTake c.take_requests.new.builder c.in_ok-zero.zero) c.args.part.now.takes.items c.in_ok-requests.requests.items =
    subst (λ (ts : List Touch). AllZip (IsTake c.take_requests.new.builder c.in_ok-zero.zero) ts c.in_ok-requests.requests.items) c.deref.ensures.value c.in_ok-requests.ensures.takes in
    let before : Fills c.args.builder.now c.take_requests.new.builder [] = Fills-join _ _ _ [] [] c.in_ok-zero.ensures.fills c.in_ok-requests.ensures.fills in
    rw (c.deref-2.ensures.value, c.width.ensures.value)
    (takers_fit c.take_requests.new.builder c.in_ok-zero.zero (width_of c.args.part.now.ty) c.args.part.now.copies (length c.args.stores.now) c.args.part.now.takes.items c.in_ok-requests.requests.items are
    (takes_fit_kept _ _ c.args.part.now before c.requires.takes).found c.requires.banks)

pub emit_readers-requires-clause-apart : goal.emit_readers-requires-clause-apart
emit_readers-requires-clause-apart c =
    let are : AllZip (IsTake c.take_requests.new.builder c.in_ok-zero.zero) c.args.part.now.takes.items c.in_ok-requests.requests.items =
    subst (λ (ts : List Touch). AllZip (IsTake c.take_requests.new.builder c.in_ok-zero.zero) ts c.in_ok-requests.requests.items) c.deref.ensures.value c.in_ok-requests.ensures.takes in
    rw c.deref-2.ensures.value (takers_apart c.take_requests.new.builder c.in_ok-zero.zero c.args.part.now.takes.items c.in_ok-requests.requests.items are c.requires.takes.apart)

pub emit_readers-requires-clause-stores : goal.emit_readers-requires-clause-stores
emit_readers-requires-clause-stores c =
    let before : Fills c.args.builder.now c.take_requests.new.builder [] = Fills-join _ _ _ [] [] c.in_ok-zero.ensures.fills c.in_ok-requests.ensures.fills in
    rw c.width.ensures.value
    (founds_kept c.args.builder.now c.take_requests.new.builder (width_of c.args.part.now.ty) c.args.stores.now before.grows (founds_stand c.args.builder.now c.args.part.now.bank (width_of c.args.part.now.ty) c.args.part.now.depth c.args.stores.now c.requires.stores))

pub emit_readers-requires-clause-one : goal.emit_readers-requires-clause-one
emit_readers-requires-clause-one c = IsOne-stays _ _ _ c.in_ok-requests.ensures.fills.grows (IsOne-stays _ _ _ c.in_ok-zero.ensures.fills.grows c.requires.one)

pub returns-clause-fills : goal.returns-clause-fills
returns-clause-fills c =
    let are : AllZip (IsTake c.take_requests.new.builder c.in_ok-zero.zero) c.args.part.now.takes.items c.in_ok-requests.requests.items =
    subst (λ (ts : List Touch). AllZip (IsTake c.take_requests.new.builder c.in_ok-zero.zero) ts c.in_ok-requests.requests.items) c.deref.ensures.value c.in_ok-requests.ensures.takes in
    let names = ap words_of c.deref-2.ensures.value ∙ take_words c.take_requests.new.builder c.in_ok-zero.zero c.args.part.now.takes.items c.in_ok-requests.requests.items are in
    subst (λ xs. Fills c.args.builder.now c.emit_readers.new.builder xs) names
    (Fills-join _ _ _ [] (words_of c.deref-2.result.now) c.in_ok-zero.ensures.fills (Fills-join _ _ _ [] (words_of c.deref-2.result.now) c.in_ok-requests.ensures.fills c.in_ok-emit_readers.ensures.fills))

pub returns-clause-runs : goal.returns-clause-runs
returns-clause-runs c = λ s run.
    let second = runs_earlier _ _ s c.in_ok-emit_readers.ensures.fills.grows run in
    let first = runs_earlier _ _ s c.in_ok-requests.ensures.fills.grows second in
    let are : AllZip (IsTake c.take_requests.new.builder c.in_ok-zero.zero) c.args.part.now.takes.items c.in_ok-requests.requests.items =
    subst (λ (ts : List Touch). AllZip (IsTake c.take_requests.new.builder c.in_ok-zero.zero) ts c.in_ok-requests.requests.items) c.deref.ensures.value c.in_ok-requests.ensures.takes in
    takers_run c.take_requests.new.builder c.in_ok-zero.zero s second (c.in_ok-zero.ensures.word s first) c.args.part.now.copies c.args.stores.now c.args.part.now.takes.items c.in_ok-requests.requests.items are
    (subst (λ (rs : List Request). All (RunsReader s c.args.stores.now c.args.part.now.copies 1) rs) c.deref-2.ensures.value (c.in_ok-emit_readers.ensures.runs s run))
