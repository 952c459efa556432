use Rattle.std.proofs.Common.{◌≡◌, ◌≤◌, [], length, map, All, sym, ap, subst, ◌∙◌, arith}
use Rattle.std.proofs.lemmas.List.{append-nil, length-map}
use Rattle.std.specs.Prelude.{slice_index}
use Rattle.sp_gates.specs.Grows.{Fills}
use Rattle.sp_gates.specs.Nets.{HasNet}
use Rattle.sp_gates.proofs.Growing.{HasNet-stays}
use Rattle.sp_plan.specs.Plain.{plain_plan}
use Rattle.sp_tree_events.specs.CopiesStanding.{HaveNumbers}
use Rattle.sp_copy_nets.specs.Fits.{number_nets}
use Rattle.sp_copy_nets.specs.Numbers.{HaveComing}
use Rattle.sp_copy_nets.specs.Table.{own_numbers, slot_numbers}
use Rattle.sp_tree_copies.specs.Loops.{some_copies}
use Rattle.sp_tree_copies.proofs.Emitting.{all_at, all_some, depths_are, slot_long, stand_later}
use Rattle.sp_tree_copies.proofs.numbers.loop_numbers.Goals as goal

pub open_numbers-requires : goal.open_numbers-requires
open_numbers-requires c = subst (All (λ n. 1 ≤ n)) (sym (c.deref-2.ensures.value ∙ c.in_ok-copies.ensures)) (all_some (plain_plan c.args.plan.now) c.deref.result.now)

pub close_numbers-requires-clause-firsts : goal.close_numbers-requires-clause-firsts
close_numbers-requires-clause-firsts c x lt =
    let same = c.deref-3.ensures.value in
    HasNet-stays c.args.builder.now c.open_numbers.new.builder _ 1 c.in_ok-numbers.ensures.reserves.grows
    (subst (λ ns. HasNet c.args.builder.now (slice_index ns x) 1) (sym same) (all_at (λ net. HasNet c.args.builder.now net 1) c.args.turns.now.firsts.items c.requires.firsts x (let l = lt in let e = ap (λ xs. length xs) same in omega (arith, l, e))))

pub returns-clause-fills : goal.returns-clause-fills
returns-clause-fills c =
    let items = c.in_ok-numbers.numbers.items in
    c.reserved_are_driven.ensures c.args.builder.now c.open_numbers.new.builder c.close_numbers.new.builder (number_nets items) [] c.in_ok-numbers.ensures.reserves
    (subst (Fills c.open_numbers.new.builder c.close_numbers.new.builder) (sym (append-nil (number_nets items))) (subst (λ ns. Fills c.open_numbers.new.builder c.close_numbers.new.builder (number_nets ns)) c.deref-5.ensures.value c.in_ok-coming.ensures.fills))

pub returns-clause-copies : goal.returns-clause-copies
returns-clause-copies c s run have =
    let plan = plain_plan c.args.plan.now in
    let turns = c.args.turns.now in
    let owned = turns.owned.items in
    let items = c.in_ok-numbers.numbers.items in
    let same = c.deref-3.ensures.value in
    let numbers = c.deref-5.ensures.value in
    let copies : c.in_ok-copies.copies.items ≡ map (some_copies plan) owned = c.in_ok-copies.ensures ∙ ap (λ o. map (some_copies plan) o) c.deref.ensures.value in
    let depths = depths_are plan owned c.deref-4.result.now (c.deref-4.ensures.value ∙ copies) have in
    let each : length items ≡ length turns.firsts.items = (let a = c.in_ok-numbers.ensures.each in let l = c.len.ensures in let v = turns.firsts.ok.0 in omega (arith, a, l, v)) in
    let many = ap (λ xs. length xs) same in
    record {
      stand = λ x lt.
          subst (λ ns. HaveNumbers plan s turns.start (slice_index ns x) owned (own_numbers owned (slot_numbers items x))) same
          (subst (λ ns. HaveNumbers plan s turns.start (slice_index c.deref-3.result.now x) owned (own_numbers owned (slot_numbers ns x))) numbers (c.in_ok-coming.ensures.numbers plan owned depths s run x (let l = lt in omega (arith, l, many))));
      come = λ x lt.
          subst (λ ns. HaveComing plan s turns.start (slice_index ns x) owned (own_numbers owned (slot_numbers c.in_ok-coming.coming.items x))) same (c.in_ok-coming.ensures.coming plan owned depths s run x (let l = lt in omega (arith, l, many)));
      each = each;
      long = λ x lt.
          slot_long c.deref-2.result.now items x (let l = lt in omega (arith, l, each)) c.in_ok-numbers.ensures.fits.copied ∙ ap (λ xs. length xs) (c.deref-2.ensures.value ∙ copies) ∙ length-map owned (some_copies plan);
    }

pub returns-clause-stand : goal.returns-clause-stand
returns-clause-stand c =
    let items = c.in_ok-numbers.numbers.items in
    let each : length items ≡ length c.args.turns.now.firsts.items = (let a = c.in_ok-numbers.ensures.each in let l = c.len.ensures in let v = c.args.turns.now.firsts.ok.0 in omega (arith, a, l, v)) in
    let many = ap (λ xs. length xs) c.deref-3.ensures.value in
    record {
      numbers = λ x. stand_later c.open_numbers.new.builder c.close_numbers.new.builder (slot_numbers items x) c.in_ok-coming.ensures.fills.grows (c.numbers_stand.ensures c.open_numbers.new.builder c.deref-2.result.now items x c.in_ok-numbers.ensures.fits);
      coming = λ x lt. c.in_ok-coming.ensures.stand x (let l = lt in omega (arith, l, each, many));
    }
