use Rattle.std.proofs.Common.{◌≡◌, ◌<◌, ap₂, [], ◌∷◌, map, length, take, sym, ◌∙◌, ap, subst, arith, All, length-take-le}
use Rattle.std.specs.Prelude.{Ok}
use Rattle.std.proofs.lemmas.List.{length-map}
use Rattle.sp_words.specs.Interface.{IsCount}
use Rattle.sp_tree.specs.declared.statement.FaultKind.TheVariants.{Bounds}
use Rattle.sp_tree.specs.Expressions.{dims}
use Rattle.sp_tree.specs.Plain.{plain_mem}
use Rattle.sp_tree.specs.PlainTree.{plain_span}
use Rattle.sp_tree.specs.Shape.{moved}
use Rattle.sp_tree.specs.Structure.{slice_lanes}
use Rattle.sp_tree.specs.Transfers as transfers
use Rattle.sp_tree.specs.Typing.{mem_at, range_count}
use Rattle.sp_seq.specs.Slices.{plain_parts, extent_of}
use Rattle.sp_seq.specs.States.{store_of}
use Rattle.sp_seq.proofs.RunningLemmas.{finished_stop, stands_kept}
use Rattle.sp_seq.proofs.SeesLemmas.{setting_later, seen_mem, counts_of, dims_at, dram_rank}
use Rattle.sp_seq.proofs.TransferLemmas.{load_halted, load_stops, load_done, finished_moved, extent_stops, extent_nothing, extent_moves}
use Rattle.sp_seq.proofs.state.State.load_sram.Goals as goal

pub returns-in_err-parts : goal.returns-in_err-parts
returns-in_err-parts c =
    let a = c.args in
    let mems = map plain_mem a.decls.now in
    let s = a.self.now in
    let spans = map plain_span a.spans.now in
    let h = c.requires in
    let p = h.setting.program in
    let ty = (mem_at p a.sram).ty in
    let chip = seen_mem h.setting a.sram _ ty h.typed.0 in
    let dram = seen_mem h.setting a.dram _ ty h.typed.1.from_dram in
    let few = dram_rank h.setting a.dram ty dram in
    let each = subst (λ ms. length spans ≡ length (dims ms a.dram)) h.setting.same h.typed.1.span_for_each in
    let ranged = subst (λ ms. range_count spans ≡ length (dims ms a.sram)) h.setting.same h.typed.2 in
    let plain_length = length-map a.spans.now plain_span in
    let n = length a.spans.now in
    λ can. finished_stop mems can.setting.roomy _ s _ _ _ c.in_err-parts.field-0.0 c.from_residual.ensures.1 (load_halted mems can.setting.roomy a.at s.left (store_of s) a.sram a.dram spans c.in_err-parts.field-0.0 c.in_err-parts.ensures.ran)

pub extent-requires-clause-spans : goal.extent-requires-clause-spans
extent-requires-clause-spans c =
    let a = c.args in
    let mems = map plain_mem a.decls.now in
    let s = a.self.now in
    let spans = map plain_span a.spans.now in
    let h = c.requires in
    let p = h.setting.program in
    let ty = (mem_at p a.sram).ty in
    let chip = seen_mem h.setting a.sram _ ty h.typed.0 in
    let dram = seen_mem h.setting a.dram _ ty h.typed.1.from_dram in
    let few = dram_rank h.setting a.dram ty dram in
    let each = subst (λ ms. length spans ≡ length (dims ms a.dram)) h.setting.same h.typed.1.span_for_each in
    let ranged = subst (λ ms. range_count spans ≡ length (dims ms a.sram)) h.setting.same h.typed.2 in
    let plain_length = length-map a.spans.now plain_span in
    let n = length a.spans.now in
    let u = c.parts.new.self in
    let ps = plain_parts (take n c.parts.new.found) in
    let chip_in : a.sram < length a.decls.now = omega (arith, chip.inside, length-map a.decls.now plain_mem) in
    let dram_in : a.dram < length a.decls.now = omega (arith, dram.inside, length-map a.decls.now plain_mem) in
    let dram_dims = dims_at a.decls.now a.dram c.index-decls-dram.result dram_in ∙ sym c.deref.ensures.value in
    let chip_dims = dims_at a.decls.now a.sram c.index-decls-sram.result chip_in ∙ sym c.deref-2.ensures.value in
    length-take-le n c.parts.new.found (omega arith) ∙ sym plain_length ∙ each ∙ ap length dram_dims

pub extent-requires-clause-ranges : goal.extent-requires-clause-ranges
extent-requires-clause-ranges c =
    let a = c.args in
    let mems = map plain_mem a.decls.now in
    let s = a.self.now in
    let spans = map plain_span a.spans.now in
    let h = c.requires in
    let p = h.setting.program in
    let ty = (mem_at p a.sram).ty in
    let chip = seen_mem h.setting a.sram _ ty h.typed.0 in
    let dram = seen_mem h.setting a.dram _ ty h.typed.1.from_dram in
    let few = dram_rank h.setting a.dram ty dram in
    let each = subst (λ ms. length spans ≡ length (dims ms a.dram)) h.setting.same h.typed.1.span_for_each in
    let ranged = subst (λ ms. range_count spans ≡ length (dims ms a.sram)) h.setting.same h.typed.2 in
    let plain_length = length-map a.spans.now plain_span in
    let n = length a.spans.now in
    let u = c.parts.new.self in
    let ps = plain_parts (take n c.parts.new.found) in
    let chip_in : a.sram < length a.decls.now = omega (arith, chip.inside, length-map a.decls.now plain_mem) in
    let dram_in : a.dram < length a.decls.now = omega (arith, dram.inside, length-map a.decls.now plain_mem) in
    let dram_dims = dims_at a.decls.now a.dram c.index-decls-dram.result dram_in ∙ sym c.deref.ensures.value in
    let chip_dims = dims_at a.decls.now a.sram c.index-decls-sram.result chip_in ∙ sym c.deref-2.ensures.value in
    c.in_ok-parts.ensures.ranges ∙ ranged ∙ ap length chip_dims

pub extent-requires-clause-counts : goal.extent-requires-clause-counts
extent-requires-clause-counts c =
    let a = c.args in
    let mems = map plain_mem a.decls.now in
    let s = a.self.now in
    let spans = map plain_span a.spans.now in
    let h = c.requires in
    let p = h.setting.program in
    let ty = (mem_at p a.sram).ty in
    let chip = seen_mem h.setting a.sram _ ty h.typed.0 in
    let dram = seen_mem h.setting a.dram _ ty h.typed.1.from_dram in
    let few = dram_rank h.setting a.dram ty dram in
    let each = subst (λ ms. length spans ≡ length (dims ms a.dram)) h.setting.same h.typed.1.span_for_each in
    let ranged = subst (λ ms. range_count spans ≡ length (dims ms a.sram)) h.setting.same h.typed.2 in
    let plain_length = length-map a.spans.now plain_span in
    let n = length a.spans.now in
    let u = c.parts.new.self in
    let ps = plain_parts (take n c.parts.new.found) in
    let chip_in : a.sram < length a.decls.now = omega (arith, chip.inside, length-map a.decls.now plain_mem) in
    let dram_in : a.dram < length a.decls.now = omega (arith, dram.inside, length-map a.decls.now plain_mem) in
    let dram_dims = dims_at a.decls.now a.dram c.index-decls-dram.result dram_in ∙ sym c.deref.ensures.value in
    let chip_dims = dims_at a.decls.now a.sram c.index-decls-sram.result chip_in ∙ sym c.deref-2.ensures.value in
    subst (All IsCount) chip_dims (counts_of h.setting a.sram chip.inside)

pub returns-in_err-words : goal.returns-in_err-words
returns-in_err-words c =
    let a = c.args in
    let mems = map plain_mem a.decls.now in
    let s = a.self.now in
    let spans = map plain_span a.spans.now in
    let h = c.requires in
    let p = h.setting.program in
    let ty = (mem_at p a.sram).ty in
    let chip = seen_mem h.setting a.sram _ ty h.typed.0 in
    let dram = seen_mem h.setting a.dram _ ty h.typed.1.from_dram in
    let few = dram_rank h.setting a.dram ty dram in
    let each = subst (λ ms. length spans ≡ length (dims ms a.dram)) h.setting.same h.typed.1.span_for_each in
    let ranged = subst (λ ms. range_count spans ≡ length (dims ms a.sram)) h.setting.same h.typed.2 in
    let plain_length = length-map a.spans.now plain_span in
    let n = length a.spans.now in
    let u = c.parts.new.self in
    let ps = plain_parts (take n c.parts.new.found) in
    let chip_in : a.sram < length a.decls.now = omega (arith, chip.inside, length-map a.decls.now plain_mem) in
    let dram_in : a.dram < length a.decls.now = omega (arith, dram.inside, length-map a.decls.now plain_mem) in
    let dram_dims = dims_at a.decls.now a.dram c.index-decls-dram.result dram_in ∙ sym c.deref.ensures.value in
    let chip_dims = dims_at a.decls.now a.sram c.index-decls-sram.result chip_in ∙ sym c.deref-2.ensures.value in
    let told = ap₂ (λ d l. extent_of d ps Bounds l a.at) dram_dims chip_dims in
    let move = transfers.load_words a.sram (dims mems a.sram) a.dram (dims mems a.dram) ps in
    λ can. finished_stop mems can.setting.roomy _ s _ _ _ c.in_err-words.field-0.0 c.from_residual-in_err-words.ensures.1
    (load_stops mems can.setting.roomy a.at s.left (store_of s) a.sram a.dram spans ps u.left (store_of u) c.in_ok-parts.ensures.ran c.in_err-words.field-0.0 (extent_stops a.at (dims mems a.dram) ps Bounds (dims mems a.sram) move u.left (store_of u) c.in_err-words.field-0.0 (told ∙ sym c.in_err-words.ensures)))

pub returns-then-words-eq0 : goal.returns-then-words-eq0
returns-then-words-eq0 c =
    let a = c.args in
    let mems = map plain_mem a.decls.now in
    let s = a.self.now in
    let spans = map plain_span a.spans.now in
    let h = c.requires in
    let p = h.setting.program in
    let ty = (mem_at p a.sram).ty in
    let chip = seen_mem h.setting a.sram _ ty h.typed.0 in
    let dram = seen_mem h.setting a.dram _ ty h.typed.1.from_dram in
    let few = dram_rank h.setting a.dram ty dram in
    let each = subst (λ ms. length spans ≡ length (dims ms a.dram)) h.setting.same h.typed.1.span_for_each in
    let ranged = subst (λ ms. range_count spans ≡ length (dims ms a.sram)) h.setting.same h.typed.2 in
    let plain_length = length-map a.spans.now plain_span in
    let n = length a.spans.now in
    let u = c.parts.new.self in
    let ps = plain_parts (take n c.parts.new.found) in
    let chip_in : a.sram < length a.decls.now = omega (arith, chip.inside, length-map a.decls.now plain_mem) in
    let dram_in : a.dram < length a.decls.now = omega (arith, dram.inside, length-map a.decls.now plain_mem) in
    let dram_dims = dims_at a.decls.now a.dram c.index-decls-dram.result dram_in ∙ sym c.deref.ensures.value in
    let chip_dims = dims_at a.decls.now a.sram c.index-decls-sram.result chip_in ∙ sym c.deref-2.ensures.value in
    let told = ap₂ (λ d l. extent_of d ps Bounds l a.at) dram_dims chip_dims in
    let move = transfers.load_words a.sram (dims mems a.sram) a.dram (dims mems a.dram) ps in
    λ can. (moved (transfers.words_by_lane (slice_lanes spans) (transfers.lengths ps)) ∷ [], load_done mems can.setting.roomy a.at s.left (store_of s) a.sram a.dram spans ps u.left (store_of u) c.in_ok-parts.ensures.ran u.left (store_of u) (extent_nothing a.at (dims mems a.dram) ps Bounds (dims mems a.sram) move u.left (store_of u) (told ∙ sym c.in_ok-words.ensures ∙ ap (λ x. Ok x) c.if-words-eq0.true)), stands_kept can.setting.sees c.in_ok-parts.ensures.keeps)

pub load_words-requires-clause-can : goal.load_words-requires-clause-can
load_words-requires-clause-can c =
    let a = c.args in
    let mems = map plain_mem a.decls.now in
    let s = a.self.now in
    let spans = map plain_span a.spans.now in
    let h = c.requires in
    let p = h.setting.program in
    let ty = (mem_at p a.sram).ty in
    let chip = seen_mem h.setting a.sram _ ty h.typed.0 in
    let dram = seen_mem h.setting a.dram _ ty h.typed.1.from_dram in
    let few = dram_rank h.setting a.dram ty dram in
    let each = subst (λ ms. length spans ≡ length (dims ms a.dram)) h.setting.same h.typed.1.span_for_each in
    let ranged = subst (λ ms. range_count spans ≡ length (dims ms a.sram)) h.setting.same h.typed.2 in
    let plain_length = length-map a.spans.now plain_span in
    let n = length a.spans.now in
    let u = c.parts.new.self in
    let ps = plain_parts (take n c.parts.new.found) in
    let chip_in : a.sram < length a.decls.now = omega (arith, chip.inside, length-map a.decls.now plain_mem) in
    let dram_in : a.dram < length a.decls.now = omega (arith, dram.inside, length-map a.decls.now plain_mem) in
    let dram_dims = dims_at a.decls.now a.dram c.index-decls-dram.result dram_in ∙ sym c.deref.ensures.value in
    let chip_dims = dims_at a.decls.now a.sram c.index-decls-sram.result chip_in ∙ sym c.deref-2.ensures.value in
    let told = ap₂ (λ d l. extent_of d ps Bounds l a.at) dram_dims chip_dims in
    let move = transfers.load_words a.sram (dims mems a.sram) a.dram (dims mems a.dram) ps in
    let count = c.in_ok-words.words in
    let moves = extent_moves a.at (dims mems a.dram) ps Bounds (dims mems a.sram) move u.left (store_of u) count (told ∙ sym c.in_ok-words.ensures) (omega arith) in
    record {
      setting = setting_later h.setting c.in_ok-parts.ensures.keeps;
      ty = ty;
      on_chip = h.typed.0;
      outside = h.typed.1.from_dram;
      inside = moves.0;
      limited = record { counts = counts_of h.setting a.sram chip.inside; small = h.setting.sees.sizes a.sram; fit = moves.1; same = c.in_ok-parts.ensures.ranges ∙ ranged };
    }

pub returns : goal.returns
returns c =
    let a = c.args in
    let mems = map plain_mem a.decls.now in
    let s = a.self.now in
    let spans = map plain_span a.spans.now in
    let h = c.requires in
    let p = h.setting.program in
    let ty = (mem_at p a.sram).ty in
    let chip = seen_mem h.setting a.sram _ ty h.typed.0 in
    let dram = seen_mem h.setting a.dram _ ty h.typed.1.from_dram in
    let few = dram_rank h.setting a.dram ty dram in
    let each = subst (λ ms. length spans ≡ length (dims ms a.dram)) h.setting.same h.typed.1.span_for_each in
    let ranged = subst (λ ms. range_count spans ≡ length (dims ms a.sram)) h.setting.same h.typed.2 in
    let plain_length = length-map a.spans.now plain_span in
    let n = length a.spans.now in
    let u = c.parts.new.self in
    let ps = plain_parts (take n c.parts.new.found) in
    let chip_in : a.sram < length a.decls.now = omega (arith, chip.inside, length-map a.decls.now plain_mem) in
    let dram_in : a.dram < length a.decls.now = omega (arith, dram.inside, length-map a.decls.now plain_mem) in
    let dram_dims = dims_at a.decls.now a.dram c.index-decls-dram.result dram_in ∙ sym c.deref.ensures.value in
    let chip_dims = dims_at a.decls.now a.sram c.index-decls-sram.result chip_in ∙ sym c.deref-2.ensures.value in
    let told = ap₂ (λ d l. extent_of d ps Bounds l a.at) dram_dims chip_dims in
    let move = transfers.load_words a.sram (dims mems a.sram) a.dram (dims mems a.dram) ps in
    let count = c.in_ok-words.words in
    let moves = extent_moves a.at (dims mems a.dram) ps Bounds (dims mems a.sram) move u.left (store_of u) count (told ∙ sym c.in_ok-words.ensures) (omega arith) in
    λ can. finished_moved mems can.setting.roomy can.setting.scope s u c.load_words.new.self _ (moved (transfers.words_by_lane (slice_lanes spans) (transfers.lengths ps)) ∷ []) move c.load_words.result
    can.setting.sees c.in_ok-parts.ensures.keeps c.load_words.ensures.ran c.load_words.ensures.keeps
    (λ stop x. load_stops mems can.setting.roomy a.at s.left (store_of s) a.sram a.dram spans ps u.left (store_of u) c.in_ok-parts.ensures.ran stop (moves.3 ∙ x)) (λ m v x. load_done mems can.setting.roomy a.at s.left (store_of s) a.sram a.dram spans ps u.left (store_of u) c.in_ok-parts.ensures.ran m v (moves.3 ∙ x))
