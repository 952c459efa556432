use Rattle.std.proofs.Common.{[], refl, sym, ap, ap₂, subst, ◌∙◌, lit≤, lit<}
use Rattle.sp_words.specs.Words.{word_add}
use Rattle.sp_gates.proofs.Growing.{Fills-none, Fills-join}
use Rattle.sp_gates.proofs.Running.{runs_earlier}
use Rattle.sp_slices.specs.declared.part.Move.TheVariants.{Range}
use Rattle.sp_slices.specs.Fits.{MoveFits}
use Rattle.sp_slices.specs.Slices.{first_net, until_word}
use Rattle.sp_slices.proofs.counts.count_move.Goals as goal

pub returns-in_ok-until-in-One-clause-fills : goal.returns-in_ok-until-in-One-clause-fills
returns-in_ok-until-in-One-clause-fills c = Fills-join _ _ _ [] [] c.in_ok-one-in-One.ensures.fills c.in_ok-until-in-One.ensures.fills

pub returns-in_ok-until-in-One-clause-counts : goal.returns-in_ok-until-in-One-clause-counts
returns-in_ok-until-in-One-clause-counts c = λ s run.
    let before = runs_earlier _ _ s c.in_ok-until-in-One.ensures.fills.grows run in
    record {
      from = sym (ap first_net c.in-One.is);
      until = λ t. c.in_ok-until-in-One.ensures.word s run t ∙ ap₂ (λ ty n. word_add ty (s.net t c.in-One.index) n) c.int.ensures (c.in_ok-one-in-One.ensures.word s before t) ∙ sym (ap (λ m. until_word s m t) c.in-One.is);
      by = refl;
      par = refl;
    }

pub returns-in-Range-clause-fills : goal.returns-in-Range-clause-fills
returns-in-Range-clause-fills c = Fills-none _

pub returns-in-Range-clause-fits : goal.returns-in-Range-clause-fits
returns-in-Range-clause-fits c =
    let h : MoveFits c.args.builder.now (Range c.in-Range.from c.in-Range.until) = subst (MoveFits c.args.builder.now) c.in-Range.is c.requires in
    record { from = h.0; until = h.1; goes_on = lit≤ tt; small = lit< tt }
