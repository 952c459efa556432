use Rattle.std.proofs.Common.{◌||◌, not, [], sym, ap, ap₂, subst, ◌∙◌}
use Rattle.std.proofs.lemmas.List.{append-nil}
use Rattle.sp_gates.specs.Grows.{Fills}
use Rattle.sp_gates.specs.Tested.{is_on}
use Rattle.sp_gates.proofs.Growing.{Fills-join, HasNet-stays, IsOne-stays}
use Rattle.sp_gates.proofs.Running.{runs_earlier}
use Rattle.sp_sequence.specs.Fits.{chain_starts, AreChains}
use Rattle.sp_sequence.specs.Joins.{chains_over, ChainsStart}
use Rattle.sp_sequence.proofs.Waiting.{chains_kept, no_nets}
use Rattle.sp_beats.proofs.slots.run_slot.Goals as goal

pub keep_group-requires-clause-one : goal.keep_group-requires-clause-one
keep_group-requires-clause-one c = IsOne-stays _ _ _ c.in_ok-first.ensures.fills.grows (c.requires.one)

pub emit_chains-requires-clause-chains : goal.emit_chains-requires-clause-chains
emit_chains-requires-clause-chains c = subst (AreChains c.keep_group.new.builder) (sym c.deref.ensures.value) (chains_kept _ _ [] _ c.in_ok-has.ensures.fills (no_nets _) (chains_kept _ _ [] _ c.in_ok-first.ensures.fills (no_nets _) c.requires.slot))

pub emit_chains-requires-clause-one : goal.emit_chains-requires-clause-one
emit_chains-requires-clause-one c = IsOne-stays _ _ _ c.in_ok-has.ensures.fills.grows (IsOne-stays _ _ _ c.in_ok-first.ensures.fills.grows (c.requires.one))

pub on_not-requires : goal.on_not-requires
on_not-requires c = HasNet-stays _ _ _ _ c.in_ok-all.ensures.fills.grows (c.in_ok-has.ensures.net)

pub on_either-requires-clause-left : goal.on_either-requires-clause-left
on_either-requires-clause-left c = HasNet-stays _ _ _ _ c.in_ok-without.ensures.fills.grows (c.in_ok-all.ensures.net)

pub returns-clause-fills : goal.returns-clause-fills
returns-clause-fills c = Fills-join _ _ _ [] _ c.in_ok-first.ensures.fills
    (Fills-join _ _ _ [] _ c.in_ok-has.ensures.fills
    (subst (Fills c.keep_group.new.builder c.on_either.new.builder) (append-nil (chain_starts c.args.slot.now.chains.items))
    (Fills-join _ _ _ (chain_starts c.args.slot.now.chains.items) [] (subst (λ xs. Fills c.keep_group.new.builder c.emit_chains.new.builder (chain_starts xs)) c.deref.ensures.value c.in_ok-all.ensures.fills)
    (Fills-join _ _ _ [] _ c.in_ok-without.ensures.fills c.in_ok-over.ensures.fills))))

pub returns-clause-first : goal.returns-clause-first
returns-clause-first c = HasNet-stays _ _ _ _ c.in_ok-over.ensures.fills.grows (HasNet-stays _ _ _ _ c.in_ok-without.ensures.fills.grows (HasNet-stays _ _ _ _ c.in_ok-all.ensures.fills.grows (HasNet-stays _ _ _ _ c.in_ok-has.ensures.fills.grows (c.in_ok-first.ensures.net))))

pub returns-clause-has : goal.returns-clause-has
returns-clause-has c = HasNet-stays _ _ _ _ c.in_ok-over.ensures.fills.grows (HasNet-stays _ _ _ _ c.in_ok-without.ensures.fills.grows (HasNet-stays _ _ _ _ c.in_ok-all.ensures.fills.grows (c.in_ok-has.ensures.net)))

pub returns-clause-runs : goal.returns-clause-runs
returns-clause-runs c = λ s r.
    let r_without = runs_earlier _ _ s c.in_ok-over.ensures.fills.grows r in
    let r_all = runs_earlier _ _ s c.in_ok-without.ensures.fills.grows r_without in
    let r_has = runs_earlier _ _ s c.in_ok-all.ensures.fills.grows r_all in
    let r_first = runs_earlier _ _ s c.in_ok-has.ensures.fills.grows r_has in
    record {
      gets = c.in_ok-first.ensures.on s r_first;
      keeps = c.in_ok-has.ensures.has s r_has;
      starts = subst (ChainsStart s (is_on s c.in_ok-first.first)) c.deref.ensures.value (c.in_ok-all.ensures.starts s r_all);
      ends = λ t. c.in_ok-over.ensures.on s r t
          ∙ ap₂ (λ a b. a || b) (c.in_ok-all.ensures.over s r_all t ∙ ap (λ xs. chains_over s (is_on s c.in_ok-first.first) xs t) c.deref.ensures.value)
          (c.in_ok-without.ensures.on s r_without t ∙ ap not (c.in_ok-has.ensures.has s r_has t));
    }
