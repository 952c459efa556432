use Rattle.std.proofs.Common.{◌-◌, [], length, take, drop, rules, sym, ap, subst, ◌∙◌, arith}
use Rattle.sp_gates.specs.Grows.{Fills}
use Rattle.sp_gates.specs.Tested.{is_on}
use Rattle.sp_gates.proofs.Growing.{Fills-join, HasNet-stays, IsOne-stays}
use Rattle.sp_gates.proofs.Running.{runs_earlier}
use Rattle.sp_sequence.specs.Fits.{chain_starts, slot_starts, AreChains, AreSlots}
use Rattle.sp_sequence.specs.Joins.{chains_over, ChainsStart}
use Rattle.sp_sequence.specs.Slots.{RunsSlots, AreFirsts}
use Rattle.sp_sequence.proofs.Cycles.{first_and_rest, empty}
use Rattle.sp_sequence.proofs.SlotLemmas.{no_firsts, more_firsts, no_slots, more_slots}
use Rattle.sp_sequence.proofs.Waiting.{chains_kept, slots_kept, slot_parts, no_nets}
use Rattle.sp_sequence.proofs.slots.+run_slots.Goals as goal

pub returns-in_default-clause-fills : goal.returns-in_default-clause-fills
returns-in_default-clause-fills t c = subst (λ xs. Fills c.args.builder.now c.later.new.builder (slot_starts xs)) (sym (empty c.args.slots.now (let l = c.in_default.len_below in omega (arith, l)))) c.in_ok-first.ensures.fills

pub returns-in_default-clause-firsts : goal.returns-in_default-clause-firsts
returns-in_default-clause-firsts t c = no_firsts _ _ _ (empty c.args.slots.now (let l = c.in_default.len_below in omega (arith, l))) c.new.ensures.items

pub returns-in_default-clause-runs : goal.returns-in_default-clause-runs
returns-in_default-clause-runs t c = λ s r. no_slots s _ _ _ _ (empty c.args.slots.now (let l = c.in_default.len_below in omega (arith, l))) c.new.ensures.items (c.in_ok-first.ensures.after s r)

pub emit_chains-requires-clause-chains : goal.emit_chains-requires-clause-chains
emit_chains-requires-clause-chains t c = subst (AreChains c.later.new.builder) (sym c.deref.ensures.value) (chains_kept _ _ [] _ c.in_ok-first.ensures.fills (no_nets _) (slot_parts c.args.builder.now c.slot-item.result (take (length c.args.slots.now - 1) (drop 1 c.args.slots.now)) (subst (AreSlots c.args.builder.now) (first_and_rest c.args.slots.now c.slot-item.result c.in-len1-up.len_at_least c.slot-item.is) c.requires.slots)).0)

pub emit_chains-requires-clause-one : goal.emit_chains-requires-clause-one
emit_chains-requires-clause-one t c = IsOne-stays _ _ _ c.in_ok-first.ensures.fills.grows (c.requires.one)

pub emit_end-requires-clause-first : goal.emit_end-requires-clause-first
emit_end-requires-clause-first t c = HasNet-stays _ _ _ _ c.in_ok-all.ensures.fills.grows (c.in_ok-first.ensures.net)

pub emit_end-requires-clause-one : goal.emit_end-requires-clause-one
emit_end-requires-clause-one t c = IsOne-stays _ _ _ c.in_ok-all.ensures.fills.grows (IsOne-stays _ _ _ c.in_ok-first.ensures.fills.grows (c.requires.one))

pub run_slots-requires : goal.run_slots-requires
run_slots-requires t c = (search rules, (c.in_ok-end.ensures.net, (slots_kept _ _ [] _ c.in_ok-end.ensures.fills (no_nets _) (slots_kept _ _ _ _ (subst (λ xs. Fills c.later.new.builder c.emit_chains.new.builder (chain_starts xs)) c.deref.ensures.value c.in_ok-all.ensures.fills) (slot_parts c.args.builder.now c.slot-item.result (take (length c.args.slots.now - 1) (drop 1 c.args.slots.now)) (subst (AreSlots c.args.builder.now) (first_and_rest c.args.slots.now c.slot-item.result c.in-len1-up.len_at_least c.slot-item.is) c.requires.slots)).1 (slots_kept _ _ [] _ c.in_ok-first.ensures.fills (no_nets _) (slot_parts c.args.builder.now c.slot-item.result (take (length c.args.slots.now - 1) (drop 1 c.args.slots.now)) (subst (AreSlots c.args.builder.now) (first_and_rest c.args.slots.now c.slot-item.result c.in-len1-up.len_at_least c.slot-item.is) c.requires.slots)).2)), IsOne-stays _ _ _ c.in_ok-end.ensures.fills.grows (IsOne-stays _ _ _ c.in_ok-all.ensures.fills.grows (IsOne-stays _ _ _ c.in_ok-first.ensures.fills.grows (c.requires.one))))))

pub returns-clause-fills : goal.returns-clause-fills
returns-clause-fills t c = subst (λ xs. Fills c.args.builder.now c.run_slots.new.builder (slot_starts xs)) (sym (first_and_rest c.args.slots.now c.slot-item.result c.in-len1-up.len_at_least c.slot-item.is))
    (Fills-join _ _ _ [] _ c.in_ok-first.ensures.fills (Fills-join _ _ _ (chain_starts c.slot-item.result.chains.items) (slot_starts (take (length c.args.slots.now - 1) (drop 1 c.args.slots.now))) (subst (λ xs. Fills c.later.new.builder c.emit_chains.new.builder (chain_starts xs)) c.deref.ensures.value c.in_ok-all.ensures.fills) (Fills-join _ _ _ [] _ c.in_ok-end.ensures.fills c.in_ok-others.ensures.fills)))

pub returns-clause-firsts : goal.returns-clause-firsts
returns-clause-firsts t c = subst (λ xs. AreFirsts c.run_slots.new.builder xs c.insert.new.self.items) (sym (first_and_rest c.args.slots.now c.slot-item.result c.in-len1-up.len_at_least c.slot-item.is))
    (rw c.in_ok-insert.ensures.items (more_firsts _ _ _ _ _ (HasNet-stays _ _ _ _ c.in_ok-others.ensures.fills.grows (HasNet-stays _ _ _ _ c.in_ok-end.ensures.fills.grows (HasNet-stays _ _ _ _ c.in_ok-all.ensures.fills.grows (c.in_ok-first.ensures.net)))) c.in_ok-others.ensures.firsts))

pub returns-clause-runs : goal.returns-clause-runs
returns-clause-runs t c = λ s r.
    let r_end = runs_earlier _ _ s c.in_ok-others.ensures.fills.grows r in
    let r_all = runs_earlier _ _ s c.in_ok-end.ensures.fills.grows r_end in
    let r_first = runs_earlier _ _ s c.in_ok-all.ensures.fills.grows r_all in
    subst (λ xs. RunsSlots s (is_on s c.args.cause) xs c.insert.new.self.items (is_on s c.in_ok-others.others.done)) (sym (first_and_rest c.args.slots.now c.slot-item.result c.in-len1-up.len_at_least c.slot-item.is))
    (rw c.in_ok-insert.ensures.items
    (more_slots s (is_on s c.args.cause) (is_on s c.in_ok-others.others.done) (is_on s c.in_ok-all.all) (is_on s c.in_ok-end.end) c.slot-item.result (take (length c.args.slots.now - 1) (drop 1 c.args.slots.now)) c.in_ok-first.first c.in_ok-others.others.firsts.items
    (c.in_ok-first.ensures.after s r_first) (subst (ChainsStart s (is_on s c.in_ok-first.first)) c.deref.ensures.value (c.in_ok-all.ensures.starts s r_all))
    (λ u. c.in_ok-all.ensures.over s r_all u ∙ ap (λ xs. chains_over s (is_on s c.in_ok-first.first) xs u) c.deref.ensures.value) (c.in_ok-end.ensures.end s r_end) (c.in_ok-others.ensures.runs s r)))
