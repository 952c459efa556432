use Rattle.std.proofs.Common.{◌≡◌, ◌==◌, ◌-◌, not, [], length, take, drop, rules, sym, ap, subst, ◌∙◌, arith}
use Rattle.std.proofs.lemmas.List.{append-nil}
use Rattle.sp_gates.specs.Grows.{Fills}
use Rattle.sp_gates.specs.Tested.{is_on}
use Rattle.sp_gates.proofs.Growing.{Fills-join, HasNet-stays, IsOne-stays}
use Rattle.sp_gates.proofs.Running.{runs_earlier}
use Rattle.sp_sequence.specs.Fits.{chain_starts, slot_starts, AreSlots}
use Rattle.sp_sequence.specs.Slots.{AreFirsts}
use Rattle.sp_sequence.proofs.Cycles.{first_and_rest, empty}
use Rattle.sp_sequence.proofs.SlotLemmas.{no_firsts, more_firsts, firsts_stay}
use Rattle.sp_sequence.proofs.Waiting.{slots_kept, slot_parts}
use Rattle.sp_beats.specs.Beats.{StartsSlots, some_comes, slots_over}
use Rattle.sp_beats.proofs.Keeping.{more_comes, more_over, more_starts, no_starts}
use Rattle.sp_beats.proofs.slots.+run_slots.Goals as goal

pub returns-in_default-clause-fills : goal.returns-in_default-clause-fills
returns-in_default-clause-fills t c = subst (λ xs. Fills c.args.builder.now c.on_not.new.builder (slot_starts xs)) (sym (empty c.args.slots.now (let l = c.in_default.len_below in omega (arith, l)))) c.in_ok-none.ensures.fills

pub returns-in_default-clause-over_net : goal.returns-in_default-clause-over_net
returns-in_default-clause-over_net t c = HasNet-stays _ _ _ _ c.in_ok-none.ensures.fills.grows c.requires.one.net_stands

pub returns-in_default-clause-firsts : goal.returns-in_default-clause-firsts
returns-in_default-clause-firsts t c = no_firsts _ _ _ (empty c.args.slots.now (let l = c.in_default.len_below in omega (arith, l))) c.new.ensures.items

pub returns-in_default-clause-comes : goal.returns-in_default-clause-comes
returns-in_default-clause-comes t c = λ s r u. subst (λ xs. is_on s c.in_ok-none.none u ≡ some_comes (is_on s c.args.start) (is_on s c.args.step) (is_on s c.args.comes) xs u) (sym (empty c.args.slots.now (let l = c.in_default.len_below in omega (arith, l)))) (c.in_ok-none.ensures.on s r u ∙ ap (λ n. not (n == 1)) (c.requires.one.always s (runs_earlier _ _ s c.in_ok-none.ensures.fills.grows r) u))

pub returns-in_default-clause-over : goal.returns-in_default-clause-over
returns-in_default-clause-over t c = λ s r u. subst (λ xs. is_on s c.args.one u ≡ slots_over (is_on s c.args.start) (is_on s c.args.step) s (is_on s c.args.comes) xs u) (sym (empty c.args.slots.now (let l = c.in_default.len_below in omega (arith, l)))) (ap (λ n. n == 1) (c.requires.one.always s (runs_earlier _ _ s c.in_ok-none.ensures.fills.grows r) u))

pub returns-in_default-clause-starts : goal.returns-in_default-clause-starts
returns-in_default-clause-starts t c = λ s r. no_starts s (is_on s c.args.start) (is_on s c.args.step) (is_on s c.args.comes) _ _ (empty c.args.slots.now (let l = c.in_default.len_below in omega (arith, l))) c.new.ensures.items

pub run_slot-requires-clause-slot : goal.run_slot-requires-clause-slot
run_slot-requires-clause-slot t c = (slot_parts c.args.builder.now c.slot-item.result (take (length c.args.slots.now - 1) (drop 1 c.args.slots.now)) (subst (AreSlots c.args.builder.now) (first_and_rest c.args.slots.now c.slot-item.result c.in-len1-up.len_at_least c.slot-item.is) c.requires.slots)).0

pub run_slots-requires : goal.run_slots-requires
run_slots-requires t c = (search rules, (HasNet-stays _ _ _ _ c.in_ok-own.ensures.fills.grows (c.requires.start), (HasNet-stays _ _ _ _ c.in_ok-own.ensures.fills.grows (c.requires.step), (c.in_ok-own.ensures.has, (slots_kept _ _ _ _ c.in_ok-own.ensures.fills (slot_parts c.args.builder.now c.slot-item.result (take (length c.args.slots.now - 1) (drop 1 c.args.slots.now)) (subst (AreSlots c.args.builder.now) (first_and_rest c.args.slots.now c.slot-item.result c.in-len1-up.len_at_least c.slot-item.is) c.requires.slots)).1 (slot_parts c.args.builder.now c.slot-item.result (take (length c.args.slots.now - 1) (drop 1 c.args.slots.now)) (subst (AreSlots c.args.builder.now) (first_and_rest c.args.slots.now c.slot-item.result c.in-len1-up.len_at_least c.slot-item.is) c.requires.slots)).2, IsOne-stays _ _ _ c.in_ok-own.ensures.fills.grows (c.requires.one))))))

pub on_either-requires-clause-left : goal.on_either-requires-clause-left
on_either-requires-clause-left t c = HasNet-stays _ _ _ _ c.in_ok-others.ensures.fills.grows (HasNet-stays _ _ _ _ c.in_ok-own.ensures.fills.grows (c.requires.comes))

pub on_both-requires-clause-left : goal.on_both-requires-clause-left
on_both-requires-clause-left t c = HasNet-stays _ _ _ _ c.in_ok-some.ensures.fills.grows (HasNet-stays _ _ _ _ c.in_ok-others.ensures.fills.grows (c.in_ok-own.ensures.over))

pub on_both-requires-clause-right : goal.on_both-requires-clause-right
on_both-requires-clause-right t c = HasNet-stays _ _ _ _ c.in_ok-some.ensures.fills.grows (c.in_ok-others.ensures.over_net)

pub returns-clause-fills : goal.returns-clause-fills
returns-clause-fills t c = subst (λ xs. Fills c.args.builder.now c.on_both.new.builder (slot_starts xs)) (sym (first_and_rest c.args.slots.now c.slot-item.result c.in-len1-up.len_at_least c.slot-item.is))
    (Fills-join _ _ _ (chain_starts c.slot-item.result.chains.items) (slot_starts (take (length c.args.slots.now - 1) (drop 1 c.args.slots.now))) c.in_ok-own.ensures.fills
    (subst (Fills c.run_slot.new.builder c.on_both.new.builder) (append-nil (slot_starts (take (length c.args.slots.now - 1) (drop 1 c.args.slots.now))))
    (Fills-join _ _ _ (slot_starts (take (length c.args.slots.now - 1) (drop 1 c.args.slots.now))) [] c.in_ok-others.ensures.fills (Fills-join _ _ _ [] _ c.in_ok-some.ensures.fills c.in_ok-all.ensures.fills))))

pub returns-clause-comes_net : goal.returns-clause-comes_net
returns-clause-comes_net t c = HasNet-stays _ _ _ _ c.in_ok-all.ensures.fills.grows (c.in_ok-some.ensures.net)

pub returns-clause-firsts : goal.returns-clause-firsts
returns-clause-firsts t c = subst (λ xs. AreFirsts c.on_both.new.builder xs c.insert.new.self.items) (sym (first_and_rest c.args.slots.now c.slot-item.result c.in-len1-up.len_at_least c.slot-item.is))
    (rw c.in_ok-insert.ensures.items (more_firsts _ _ _ _ _ (HasNet-stays _ _ _ _ c.in_ok-all.ensures.fills.grows (HasNet-stays _ _ _ _ c.in_ok-some.ensures.fills.grows (HasNet-stays _ _ _ _ c.in_ok-others.ensures.fills.grows (c.in_ok-own.ensures.first)))) (firsts_stay _ _ _ _ c.in_ok-all.ensures.fills.grows (firsts_stay _ _ _ _ c.in_ok-some.ensures.fills.grows c.in_ok-others.ensures.firsts))))

pub returns-clause-comes : goal.returns-clause-comes
returns-clause-comes t c = λ s r u.
    let r_some = runs_earlier _ _ s c.in_ok-all.ensures.fills.grows r in
    let r_others = runs_earlier _ _ s c.in_ok-some.ensures.fills.grows r_some in
    let r_own = runs_earlier _ _ s c.in_ok-others.ensures.fills.grows r_others in
    subst (λ xs. is_on s c.in_ok-some.some u ≡ some_comes (is_on s c.args.start) (is_on s c.args.step) (is_on s c.args.comes) xs u) (sym (first_and_rest c.args.slots.now c.slot-item.result c.in-len1-up.len_at_least c.slot-item.is))
    (more_comes s (is_on s c.args.start) (is_on s c.args.step) (is_on s c.args.comes) c.slot-item.result (take (length c.args.slots.now - 1) (drop 1 c.args.slots.now)) c.in_ok-own.own.first c.in_ok-own.own.has c.in_ok-own.own.over (c.in_ok-own.ensures.runs s r_own) c.in_ok-others.others.comes c.in_ok-some.some (c.in_ok-others.ensures.comes s r_others) (c.in_ok-some.ensures.on s r_some) u)

pub returns-clause-over : goal.returns-clause-over
returns-clause-over t c = λ s r u.
    let r_some = runs_earlier _ _ s c.in_ok-all.ensures.fills.grows r in
    let r_others = runs_earlier _ _ s c.in_ok-some.ensures.fills.grows r_some in
    let r_own = runs_earlier _ _ s c.in_ok-others.ensures.fills.grows r_others in
    subst (λ xs. is_on s c.in_ok-all.all u ≡ slots_over (is_on s c.args.start) (is_on s c.args.step) s (is_on s c.args.comes) xs u) (sym (first_and_rest c.args.slots.now c.slot-item.result c.in-len1-up.len_at_least c.slot-item.is))
    (more_over s (is_on s c.args.start) (is_on s c.args.step) (is_on s c.args.comes) c.slot-item.result (take (length c.args.slots.now - 1) (drop 1 c.args.slots.now)) c.in_ok-own.own.first c.in_ok-own.own.has c.in_ok-own.own.over (c.in_ok-own.ensures.runs s r_own) c.in_ok-others.others.over c.in_ok-all.all (c.in_ok-others.ensures.over s r_others) (c.in_ok-all.ensures.on s r) u)

pub returns-clause-starts : goal.returns-clause-starts
returns-clause-starts t c = λ s r.
    let r_some = runs_earlier _ _ s c.in_ok-all.ensures.fills.grows r in
    let r_others = runs_earlier _ _ s c.in_ok-some.ensures.fills.grows r_some in
    let r_own = runs_earlier _ _ s c.in_ok-others.ensures.fills.grows r_others in
    subst (λ xs. StartsSlots (is_on s c.args.start) (is_on s c.args.step) s (is_on s c.args.comes) xs c.insert.new.self.items) (sym (first_and_rest c.args.slots.now c.slot-item.result c.in-len1-up.len_at_least c.slot-item.is))
    (rw c.in_ok-insert.ensures.items (more_starts s (is_on s c.args.start) (is_on s c.args.step) (is_on s c.args.comes) c.slot-item.result (take (length c.args.slots.now - 1) (drop 1 c.args.slots.now)) c.in_ok-own.own.first c.in_ok-own.own.has c.in_ok-own.own.over (c.in_ok-own.ensures.runs s r_own) c.in_ok-others.others.firsts.items (c.in_ok-others.ensures.starts s r_others)))
