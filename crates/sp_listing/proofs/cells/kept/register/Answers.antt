use Rattle.std.proofs.Common.{◌≡◌, refl, arith}
use Rattle.sp_listing.proofs.WordLemmas.{word_is, texts_are}
use Rattle.sp_listing.proofs.NumberLemmas.{same_number, width_small, word_fits}
use Rattle.sp_listing.proofs.cells.kept.register.Goals as goal

pub returns-in_err-net : goal.returns-in_err-net
returns-in_err-net c = rw c.from_residual.ensures (λ net width first next enable f same. c.in_err-net.ensures net f.0 (word_is c.args.parts.now _ 0 same))

pub returns-in_err-width : goal.returns-in_err-width
returns-in_err-width c = rw c.from_residual-in_err-width.ensures (λ net width first next enable f same. c.in_err-width.ensures width f.1 (word_is c.args.parts.now _ 1 same))

pub returns-in_err-first : goal.returns-in_err-first
returns-in_err-first c = rw c.from_residual-in_err-first.ensures (λ net width first next enable f same.
    let width_same : c.in_ok-width.width ≡ width =
    same_number _ c.in_ok-width.width width (width_small c.in_ok-width.width c.in_ok-width.ensures.0) (width_small width f.1) c.in_ok-width.ensures.1 (word_is c.args.parts.now _ 1 same) in
    c.in_err-first.ensures first (word_fits c.in_ok-width.width width first width_same f.2) (word_is c.args.parts.now _ 2 same))

pub returns-in_err-next : goal.returns-in_err-next
returns-in_err-next c = rw c.from_residual-in_err-next.ensures (λ net width first next enable f same. c.in_err-next.ensures next f.3 (word_is c.args.parts.now _ 3 same))

pub returns-in_err-enable : goal.returns-in_err-enable
returns-in_err-enable c = rw c.from_residual-in_err-enable.ensures (λ net width first next enable f same. c.in_err-enable.ensures enable f.4 (word_is c.args.parts.now _ 4 same))

pub returns : goal.returns
returns c = record {
  of_kind = refl;
  formed = (c.in_ok-net.ensures.0, c.in_ok-width.ensures.0, c.in_ok-first.ensures.0, c.in_ok-next.ensures.0, c.in_ok-enable.ensures.0);
  same = texts_are c.args.parts.now _ (omega (arith, c.in-len5.len_at_least, c.in-len5.len_below)) (c.in_ok-net.ensures.1, (c.in_ok-width.ensures.1, (c.in_ok-first.ensures.1, (c.in_ok-next.ensures.1, (c.in_ok-enable.ensures.1, tt)))));
}
