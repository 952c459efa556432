use Rattle.std.proofs.Common.{◌≡◌, ◌<◌, ◌+◌, ◌∷◌, map, length, take, drop, refl, sym, ◌∙◌, ap, subst, arith}
use Rattle.std.proofs.lemmas.List.{length-map, take_all, take_more_set, drop_more, drop_all, get_or-map}
use Rattle.sp_tree.specs.Plain.{plain_mem}
use Rattle.sp_tree.specs.PlainTree.{plain_span}
use Rattle.sp_tree.specs.Sequential.{part}
use Rattle.sp_tree.specs.Step.{went}
use Rattle.sp_tree.specs.Transfers as transfers
use Rattle.sp_tree.specs.Typing.{range_count}
use Rattle.sp_seq.specs.Slices.{plain_part, plain_parts}
use Rattle.sp_seq.specs.States.{store_of}
use Rattle.sp_seq.proofs.LoopLemmas.{left_of, left_none, left_over, left_more, left_halted}
use Rattle.sp_seq.proofs.SeesLemmas.{setting_later, keeps_same, keeps_on}
use Rattle.sp_seq.proofs.StepLemmas.{ran_stop_with}
use Rattle.sp_seq.proofs.TransferLemmas.{one_more_range, span_typed, parts-push}
use Rattle.sp_seq.proofs.state.State.parts.Goals as goal

pub loop-k-init : goal.loop-k-init
loop-k-init c =
    let a = c.args in
    let mems = map plain_mem a.decls.now in
    let s = a.self.now in
    record { so_far = left_none (part mems) s.left (store_of s) (map plain_span a.spans.now); keeps = keeps_same s; ranges = refl }

pub part-requires : goal.part-requires
part-requires c =
    let a = c.args in
    let mems = map plain_mem a.decls.now in
    let s = a.self.now in
    let spans = a.spans.now in
    let now = c.loop-k.self in
    let inv = c.loop-k.invariant in
    let k = c.loop-k.k in
    let found = c.loop-k.found in
    let xs = map plain_span spans in
    let can = c.requires.can in
    record { setting = setting_later can.setting inv.keeps; typed = span_typed can.setting.program can.setting.scope spans can.typed k c.index-spans-k.result c.loop-k-test.true c.index-spans-k.is }

pub returns-in_err-part-clause-ran : goal.returns-in_err-part-clause-ran
returns-in_err-part-clause-ran c =
    let a = c.args in
    let mems = map plain_mem a.decls.now in
    let s = a.self.now in
    let spans = a.spans.now in
    let now = c.loop-k.self in
    let inv = c.loop-k.invariant in
    let k = c.loop-k.k in
    let found = c.loop-k.found in
    let xs = map plain_span spans in
    let x = c.index-spans-k.result in
    let inside : k < length xs = omega (arith, c.loop-k-test.true, length-map spans plain_span) in
    let split = drop_more xs k (plain_span x) inside ∙ ap (λ y. y ∷ drop (k + 1) xs) (get_or-map plain_span spans k x (plain_span x) c.loop-k-test.true ∙ ap plain_span (sym c.index-spans-k.is)) in
    let here = inv.so_far ∙ ap (λ ys. left_of (part mems) (plain_parts (take k found)) ys now.left (store_of now)) split in
    ran_stop_with _ _ _ _ c.in_err-part.field-0.0 c.from_residual.ensures.1
    (here ∙ left_halted (part mems) now.left (store_of now) (plain_parts (take k found)) (plain_span x) (drop (k + 1) xs) c.in_err-part.field-0.0 c.in_err-part.ensures.ran)

pub loop-k-preserved : goal.loop-k-preserved
loop-k-preserved c =
    let a = c.args in
    let mems = map plain_mem a.decls.now in
    let s = a.self.now in
    let spans = a.spans.now in
    let now = c.loop-k.self in
    let inv = c.loop-k.invariant in
    let k = c.loop-k.k in
    let found = c.loop-k.found in
    let xs = map plain_span spans in
    let x = c.index-spans-k.result in
    let inside : k < length xs = omega (arith, c.loop-k-test.true, length-map spans plain_span) in
    let split = drop_more xs k (plain_span x) inside ∙ ap (λ y. y ∷ drop (k + 1) xs) (get_or-map plain_span spans k x (plain_span x) c.loop-k-test.true ∙ ap plain_span (sym c.index-spans-k.is)) in
    let here = inv.so_far ∙ ap (λ ys. left_of (part mems) (plain_parts (take k found)) ys now.left (store_of now)) split in
    let t = c.part.new.self in
    let p = c.in_ok-part.part in
    let more = take_more_set found k p (omega arith) in
    record {
      so_far = here ∙ left_more (part mems) now.left (store_of now) (plain_parts (take k found)) (plain_span x) (drop (k + 1) xs) (plain_part p) t.left (store_of t) c.in_ok-part.ensures.ran
          ∙ ap (λ ps. left_of (part mems) ps (drop (k + 1) xs) t.left (store_of t)) (sym (ap plain_parts more ∙ parts-push (take k found) p));
      keeps = keeps_on _ _ _ inv.keeps c.in_ok-part.ensures.keeps;
      ranges = one_more_range found k p spans x c.loop-k-test.true (omega arith) c.index-spans-k.is inv.ranges c.in_ok-part.ensures.ranges;
    }

pub returns-clause-ran : goal.returns-clause-ran
returns-clause-ran c =
    let a = c.args in
    let mems = map plain_mem a.decls.now in
    let s = a.self.now in
    let spans = a.spans.now in
    let now = c.loop-k.self in
    let inv = c.loop-k.invariant in
    let k = c.loop-k.k in
    let found = c.loop-k.found in
    let xs = map plain_span spans in
    let over : k ≡ length spans = omega arith in
    inv.so_far ∙ ap (λ ys. left_of (part mems) (plain_parts (take k found)) ys now.left (store_of now)) (drop_all k xs (omega (arith, length-map spans plain_span)))
    ∙ left_over (part mems) now.left (store_of now) (plain_parts (take k found)) ∙ ap (λ n. went (plain_parts (take n found)) now.left (store_of now)) over

pub returns-clause-keeps : goal.returns-clause-keeps
returns-clause-keeps c =
    c.loop-k.invariant.keeps

pub returns-clause-ranges : goal.returns-clause-ranges
returns-clause-ranges c =
    let over : c.loop-k.k ≡ length c.args.spans.now = omega arith in
    subst (λ n. length (transfers.lengths (plain_parts (take n c.loop-k.found))) ≡ range_count (map plain_span c.args.spans.now)) over
    (c.loop-k.invariant.ranges ∙ ap (λ n. range_count (map plain_span (take n c.args.spans.now))) over ∙ ap (λ xs. range_count (map plain_span xs)) (take_all (length c.args.spans.now) c.args.spans.now (omega arith)))
