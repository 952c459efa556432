use Rattle.std.proofs.Common.{[], subst, arith, ◌+◌, ◌∙◌, ap, length}
use Rattle.std.specs.List.{AllZip}
use Rattle.std.proofs.lemmas.List.{take_all, length_push}
use Rattle.std.proofs.lemmas.List.Elements.{All-nil, All-push}
use Rattle.sp_gates.proofs.Growing.{Fills-none, Fills-join, HasNet-stays}
use Rattle.sp_gates.proofs.Running.{runs_earlier}
use Rattle.sp_access.specs.Asking.{AccessFits}
use Rattle.sp_requests.specs.Requests.{RequestFits, Asks}
use Rattle.sp_requests.proofs.Kept.{at_item, fits_kept, accesses_kept, one_access, asks_one}
use Rattle.sp_requests.proofs.Zips.{zip_more}
use Rattle.sp_requests.proofs.asking.accesses_to.Goals as goal

pub loop-r-init : goal.loop-r-init
loop-r-init c = record {
  fills = Fills-none _;
  each = ap length c.new-list.ensures.items;
  fit = rw c.new-list.ensures.items (All-nil (AccessFits c.args.builder.now));
  accesses = λ s run t. rw c.new-list.ensures.items tt;
}

pub wanted-requires : goal.wanted-requires
wanted-requires c =
    fits_kept _ _ c.loop-r.invariant.fills.grows c.r-item.result (at_item (RequestFits c.args.builder.now) c.args.requests.now c.loop-r.r-index c.r-item.result c.requires c.loop-r-test.true c.r-item.is)

pub loop-r-preserved : goal.loop-r-preserved
loop-r-preserved c =
    let i = c.loop-r.invariant in
    let e = c.in_ok-on.ensures in
    let r = c.r-item.result in
    let fit = fits_kept _ _ i.fills.grows r (at_item (RequestFits c.args.builder.now) c.args.requests.now c.loop-r.r-index r c.requires c.loop-r-test.true c.r-item.is) in
    record {
      fills = Fills-join _ _ _ [] [] i.fills e.fills;
      each = ap length c.in_ok-push.ensures.items ∙ length_push _ _ ∙ ap (λ n. n + 1) i.each;
      fit = rw c.in_ok-push.ensures.items
          (All-push (AccessFits c.wanted.new.builder) c.loop-r.list.items _ (accesses_kept _ _ e.fills.grows c.loop-r.list.items i.fit) (one_access c.wanted.new.builder c.in_ok-on.on r.place e.net (HasNet-stays _ _ _ _ e.fills.grows fit.place)));
      accesses = λ s run t. rw c.in_ok-push.ensures.items
          (zip_more (Asks s t c.args.copy c.args.bank) c.args.requests.now c.loop-r.list.items c.loop-r.r-index r _ c.loop-r-test.true c.r-item.is (i.accesses s (runs_earlier _ _ s e.fills.grows run) t) (asks_one s t c.args.copy c.args.bank r c.in_ok-on.on (e.on s run t)));
    }

pub returns-clause-accesses : goal.returns-clause-accesses
returns-clause-accesses c = λ s run t.
    let past = c.loop-r-test.false in
    subst (λ rs. AllZip (Asks s t c.args.copy c.args.bank) rs c.loop-r.list.items) (take_all c.loop-r.r-index c.args.requests.now (omega (arith, past))) (c.loop-r.invariant.accesses s run t)
