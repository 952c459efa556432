use Rattle.std.proofs.Common.{◌<◌, ◌-◌, map, length, get_or, sym, ◌∙◌, ap, subst, arith}
use Rattle.std.proofs.lemmas.List.{length-set}
use Rattle.sp_tree.specs.PlainTree.{plain_counter}
use Rattle.sp_tree.specs.Sequential.{count_now}
use Rattle.sp_tree.specs.Store.{set_counter}
use Rattle.sp_tree.specs.Typing.{with_counter, with_counters}
use Rattle.sp_seq.specs.declared.digit.Digit.{Digit}
use Rattle.sp_seq.specs.Looping.{current}
use Rattle.sp_seq.specs.Running.{Stands}
use Rattle.sp_seq.specs.States.{store_of}
use Rattle.sp_seq.proofs.CountLemmas.{split_first, split_get, length-tail, inside_first, inside_tail, digits_tail, count_first, count_none, stands_counted}
use Rattle.sp_seq.proofs.ScopeLemmas.{stands_on}
use Rattle.sp_seq.proofs.SliceLemmas.{tail}
use Rattle.sp_seq.proofs.state.State.+count_all.Goals as goal

abbrev none : Digit
none = record { from = 0; by = 0; count = 0; at = 0 }

pub returns-in_default-clause-ran : goal.returns-in_default-clause-ran
returns-in_default-clause-ran t c =
    let a = c.args in
    count_none a.counters.now a.digits.now a.self.now.left (store_of a.self.now) (omega arith)

pub count-requires : goal.count-requires
count-requires t c =
    let a = c.args in
    let x = c.counter-item.result in
    let e = split_first a.counters.now x (omega arith) c.counter-item.is in
    subst (λ n. n < length a.self.now.counts.items) (sym c.number.ensures) (inside_first a.counters.now x (length a.self.now.counts.items) e c.requires.inside)

pub count_all-requires : goal.count_all-requires
count_all-requires t c =
    let a = c.args in
    let x = c.counter-item.result in
    let e = split_first a.counters.now x (omega arith) c.counter-item.is in
    let same = ap length c.count.ensures.counts ∙ length-set a.self.now.counts.items c.number.result c.word_of.result in (
      omega (arith, length-tail a.counters.now),
      (
        length-tail a.digits.now ∙ ap (λ n. n - 1) c.requires.each ∙ sym (length-tail a.counters.now),
        (
          digits_tail a.digits.now (get_or a.digits.now 0 none) (split_get a.digits.now none (omega arith)) c.requires.digits,
          inside_tail a.counters.now x (length c.count.new.self.counts.items) e (λ k h. subst (λ n. k < n) (sym same) (c.requires.inside k h)),
        ),
      ),
    )

pub returns-clause-ran : goal.returns-clause-ran
returns-clause-ran t c =
    let a = c.args in
    let x = c.counter-item.result in
    let d = get_or a.digits.now 0 none in
    let s = a.self.now in
    let u = c.count.new.self in
    let v = c.count_all.new.self in
    let e = split_first a.counters.now x (omega arith) c.counter-item.is in
    let f = split_get a.digits.now none (omega arith) in
    let store = ap (λ n. set_counter (store_of s) n c.word_of.result) (sym c.number.ensures) ∙ sym c.count.ensures.store in
    count_first a.counters.now a.digits.now x d e f c.word_of.result s.left s u c.word_of.ensures.value store
    ∙ ap (λ n. count_now (map plain_counter (tail a.counters.now)) (current (tail a.digits.now)) n (store_of u)) (sym c.count.ensures.others.2)
    ∙ c.count_all.ensures.ran

pub returns-clause-stands : goal.returns-clause-stands
returns-clause-stands t c = λ mems roomy scope h.
    let a = c.args in
    let x = c.counter-item.result in
    let s = a.self.now in
    let u = c.count.new.self in
    let v = c.count_all.new.self in
    let n = c.number.result in
    let e = split_first a.counters.now x (omega arith) c.counter-item.is in
    let inside = subst (λ k. k < length s.counts.items) (sym c.number.ensures) (inside_first a.counters.now x (length s.counts.items) e c.requires.inside) in
    let one : Stands mems roomy (with_counter scope n) s u = stands_counted n c.word_of.result h inside c.word_of.ensures.is_word c.count.ensures.counts c.count.ensures.others.0 c.count.ensures.others.1 c.count.ensures.others.2 in
    let rest = c.count_all.ensures.stands mems roomy (with_counter scope n) one.sees in
    subst (λ sc. Stands mems roomy sc s v) (ap (λ k. with_counters (with_counter scope k) (map plain_counter (tail a.counters.now))) c.number.ensures ∙ ap (λ cs. with_counters scope (map plain_counter cs)) (sym e)) (stands_on one rest)
