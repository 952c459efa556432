use Rattle.std.proofs.Common.{◌≡◌, ◌<◌, ◌^◌, [], ◌∷◌, ap₂, map, length, take, drop, get_or, sym, ◌∙◌, ap, subst, arith, All, length-take-le}
use Rattle.std.specs.Prelude.{Ok}
use Rattle.std.proofs.lemmas.List.{length-map, take_rest}
use Rattle.sp_words.specs.Interface.{IsCount, word_count}
use Rattle.sp_tree.specs.declared.statement.FaultKind.TheVariants.{RowLength}
use Rattle.sp_tree.specs.Expressions.{dims}
use Rattle.sp_tree.specs.Plain.{plain_mem}
use Rattle.sp_tree.specs.PlainTree.{plain_span}
use Rattle.sp_tree.specs.Shape.{moved}
use Rattle.sp_tree.specs.Structure.{slice_lanes}
use Rattle.sp_tree.specs.Transfers as transfers
use Rattle.sp_tree.specs.Typing.{mem_at}
use Rattle.sp_seq.specs.Slices.{plain_parts, extent_of}
use Rattle.sp_seq.specs.States.{store_of}
use Rattle.sp_seq.proofs.LineLemmas.{facts, column_limits, one_range, line_halted, line_stops, line_done}
use Rattle.sp_seq.proofs.RunningLemmas.{finished_stop, stands_kept}
use Rattle.sp_seq.proofs.SeesLemmas.{setting_later, dims_at}
use Rattle.sp_seq.proofs.TransferLemmas.{finished_moved, extent_stops, extent_nothing, extent_moves}
use Rattle.sp_seq.proofs.state.State.load_line.Goals as goal

pub returns-in_err-parts : goal.returns-in_err-parts
returns-in_err-parts c =
    let a = c.args in
    let mems = map plain_mem a.decls.now in
    let s = a.self.now in
    let stop = c.in_err-parts.field-0.0 in
    λ can. finished_stop mems can.setting.roomy _ s _ _ _ stop c.from_residual.ensures.1 (line_halted mems can.setting.roomy a.at s.left (store_of s) a.line a.dram (map plain_span a.spans.now) stop c.in_err-parts.ensures.ran)

pub extent-requires-clause-spans : goal.extent-requires-clause-spans
extent-requires-clause-spans c =
    let a = c.args in
    let mems = map plain_mem a.decls.now in
    let s = a.self.now in
    let spans = map plain_span a.spans.now in
    let h = c.requires in
    let ty = (mem_at h.setting.program a.line).ty in
    let f = facts h.setting a.line a.dram ty h.typed.0 h.typed.1.from_dram in
    let dram_in : a.dram < length a.decls.now = omega (arith, f.dram_inside, length-map a.decls.now plain_mem) in
    let dram_dims = dims_at a.decls.now a.dram c.index-decls-dram.result dram_in ∙ sym c.deref.ensures.value in
    let few = f.few in
    let each = subst (λ ms. length spans ≡ length (dims ms a.dram)) h.setting.same h.typed.1.span_for_each in
    let plain_length = length-map a.spans.now plain_span in
    let n = length a.spans.now in
    length-take-le n c.parts.new.found (omega arith) ∙ sym plain_length ∙ each ∙ ap length dram_dims

pub extent-requires-clause-ranges : goal.extent-requires-clause-ranges
extent-requires-clause-ranges c =
    let a = c.args in
    let mems = map plain_mem a.decls.now in
    let s = a.self.now in
    let spans = map plain_span a.spans.now in
    let h = c.requires in
    let ty = (mem_at h.setting.program a.line).ty in
    let f = facts h.setting a.line a.dram ty h.typed.0 h.typed.1.from_dram in
    let line_in : a.line < length a.decls.now = omega (arith, f.line_inside, length-map a.decls.now plain_mem) in
    let line_dims = dims_at a.decls.now a.line c.index-decls-line.result line_in ∙ sym c.deref-2.ensures.value in
    let limits = ap (drop 1) line_dims ∙ sym (take_rest c.deref-2.result.now 1) in
    let columns = column_limits (dims mems a.line) f.rank f.line_counts in
    c.in_ok-parts.ensures.ranges ∙ one_range spans h.typed.2 ∙ sym columns.2 ∙ ap length limits

pub extent-requires-clause-counts : goal.extent-requires-clause-counts
extent-requires-clause-counts c =
    let a = c.args in
    let mems = map plain_mem a.decls.now in
    let s = a.self.now in
    let spans = map plain_span a.spans.now in
    let h = c.requires in
    let ty = (mem_at h.setting.program a.line).ty in
    let f = facts h.setting a.line a.dram ty h.typed.0 h.typed.1.from_dram in
    let line_in : a.line < length a.decls.now = omega (arith, f.line_inside, length-map a.decls.now plain_mem) in
    let line_dims = dims_at a.decls.now a.line c.index-decls-line.result line_in ∙ sym c.deref-2.ensures.value in
    let limits = ap (drop 1) line_dims ∙ sym (take_rest c.deref-2.result.now 1) in
    let columns = column_limits (dims mems a.line) f.rank f.line_counts in
    subst (All IsCount) limits columns.0

pub extent-requires-clause-small : goal.extent-requires-clause-small
extent-requires-clause-small c =
    let a = c.args in
    let mems = map plain_mem a.decls.now in
    let s = a.self.now in
    let spans = map plain_span a.spans.now in
    let h = c.requires in
    let ty = (mem_at h.setting.program a.line).ty in
    let f = facts h.setting a.line a.dram ty h.typed.0 h.typed.1.from_dram in
    let line_in : a.line < length a.decls.now = omega (arith, f.line_inside, length-map a.decls.now plain_mem) in
    let line_dims = dims_at a.decls.now a.line c.index-decls-line.result line_in ∙ sym c.deref-2.ensures.value in
    let limits = ap (drop 1) line_dims ∙ sym (take_rest c.deref-2.result.now 1) in
    let columns = column_limits (dims mems a.line) f.rank f.line_counts in
    subst (λ ds. word_count ds < 2 ^ 32) limits columns.1

pub returns-in_err-words : goal.returns-in_err-words
returns-in_err-words c =
    let a = c.args in
    let mems = map plain_mem a.decls.now in
    let s = a.self.now in
    let spans = map plain_span a.spans.now in
    let h = c.requires in
    let ty = (mem_at h.setting.program a.line).ty in
    let f = facts h.setting a.line a.dram ty h.typed.0 h.typed.1.from_dram in
    let dram_in : a.dram < length a.decls.now = omega (arith, f.dram_inside, length-map a.decls.now plain_mem) in
    let dram_dims = dims_at a.decls.now a.dram c.index-decls-dram.result dram_in ∙ sym c.deref.ensures.value in
    let line_in : a.line < length a.decls.now = omega (arith, f.line_inside, length-map a.decls.now plain_mem) in
    let line_dims = dims_at a.decls.now a.line c.index-decls-line.result line_in ∙ sym c.deref-2.ensures.value in
    let limits = ap (drop 1) line_dims ∙ sym (take_rest c.deref-2.result.now 1) in
    let columns = column_limits (dims mems a.line) f.rank f.line_counts in
    let u = c.parts.new.self in
    let ps = plain_parts (take (length a.spans.now) c.parts.new.found) in
    let told = ap₂ (λ d l. extent_of d ps RowLength l a.at) dram_dims limits in
    let move = transfers.load_row a.line (get_or (dims mems a.line) 1 0) a.dram (dims mems a.dram) ps in
    let stop = c.in_err-words.field-0.0 in
    λ can. finished_stop mems can.setting.roomy _ s _ _ _ stop c.from_residual-in_err-words.ensures.1
    (line_stops mems can.setting.roomy a.at s.left (store_of s) a.line a.dram spans ps u.left (store_of u) c.in_ok-parts.ensures.ran stop (extent_stops a.at (dims mems a.dram) ps RowLength (drop 1 (dims mems a.line)) move u.left (store_of u) stop (told ∙ sym c.in_err-words.ensures)))

pub returns-then-words-eq0 : goal.returns-then-words-eq0
returns-then-words-eq0 c =
    let a = c.args in
    let mems = map plain_mem a.decls.now in
    let s = a.self.now in
    let spans = map plain_span a.spans.now in
    let h = c.requires in
    let ty = (mem_at h.setting.program a.line).ty in
    let f = facts h.setting a.line a.dram ty h.typed.0 h.typed.1.from_dram in
    let dram_in : a.dram < length a.decls.now = omega (arith, f.dram_inside, length-map a.decls.now plain_mem) in
    let dram_dims = dims_at a.decls.now a.dram c.index-decls-dram.result dram_in ∙ sym c.deref.ensures.value in
    let line_in : a.line < length a.decls.now = omega (arith, f.line_inside, length-map a.decls.now plain_mem) in
    let line_dims = dims_at a.decls.now a.line c.index-decls-line.result line_in ∙ sym c.deref-2.ensures.value in
    let limits = ap (drop 1) line_dims ∙ sym (take_rest c.deref-2.result.now 1) in
    let columns = column_limits (dims mems a.line) f.rank f.line_counts in
    let u = c.parts.new.self in
    let ps = plain_parts (take (length a.spans.now) c.parts.new.found) in
    let told = ap₂ (λ d l. extent_of d ps RowLength l a.at) dram_dims limits in
    let move = transfers.load_row a.line (get_or (dims mems a.line) 1 0) a.dram (dims mems a.dram) ps in
    let none = extent_nothing a.at (dims mems a.dram) ps RowLength (drop 1 (dims mems a.line)) move u.left (store_of u) (told ∙ sym c.in_ok-words.ensures ∙ ap (λ x. Ok x) c.if-words-eq0.true) in
    λ can. (
      moved (transfers.words_by_lane (slice_lanes spans) (transfers.lengths ps)) ∷ [],
      line_done mems can.setting.roomy a.at s.left (store_of s) a.line a.dram spans ps u.left (store_of u) c.in_ok-parts.ensures.ran u.left (store_of u) none,
      stands_kept can.setting.sees c.in_ok-parts.ensures.keeps,
    )

pub load_row-requires-clause-can : goal.load_row-requires-clause-can
load_row-requires-clause-can c =
    let a = c.args in
    let mems = map plain_mem a.decls.now in
    let s = a.self.now in
    let spans = map plain_span a.spans.now in
    let h = c.requires in
    let ty = (mem_at h.setting.program a.line).ty in
    let f = facts h.setting a.line a.dram ty h.typed.0 h.typed.1.from_dram in
    let dram_in : a.dram < length a.decls.now = omega (arith, f.dram_inside, length-map a.decls.now plain_mem) in
    let dram_dims = dims_at a.decls.now a.dram c.index-decls-dram.result dram_in ∙ sym c.deref.ensures.value in
    let line_in : a.line < length a.decls.now = omega (arith, f.line_inside, length-map a.decls.now plain_mem) in
    let line_dims = dims_at a.decls.now a.line c.index-decls-line.result line_in ∙ sym c.deref-2.ensures.value in
    let limits = ap (drop 1) line_dims ∙ sym (take_rest c.deref-2.result.now 1) in
    let columns = column_limits (dims mems a.line) f.rank f.line_counts in
    let u = c.parts.new.self in
    let ps = plain_parts (take (length a.spans.now) c.parts.new.found) in
    let told = ap₂ (λ d l. extent_of d ps RowLength l a.at) dram_dims limits in
    let move = transfers.load_row a.line (get_or (dims mems a.line) 1 0) a.dram (dims mems a.dram) ps in
    let count = c.in_ok-words.words in
    let moves = extent_moves a.at (dims mems a.dram) ps RowLength (drop 1 (dims mems a.line)) move u.left (store_of u) count (told ∙ sym c.in_ok-words.ensures) (omega arith) in
    record {
      setting = setting_later h.setting c.in_ok-parts.ensures.keeps;
      ty = ty;
      on_chip = h.typed.0;
      outside = h.typed.1.from_dram;
      inside = moves.0;
      limited = record { counts = columns.0; small = columns.1; fit = moves.1; same = c.in_ok-parts.ensures.ranges ∙ one_range spans h.typed.2 ∙ sym columns.2 };
    }

pub returns : goal.returns
returns c =
    let a = c.args in
    let mems = map plain_mem a.decls.now in
    let s = a.self.now in
    let spans = map plain_span a.spans.now in
    let h = c.requires in
    let ty = (mem_at h.setting.program a.line).ty in
    let f = facts h.setting a.line a.dram ty h.typed.0 h.typed.1.from_dram in
    let dram_in : a.dram < length a.decls.now = omega (arith, f.dram_inside, length-map a.decls.now plain_mem) in
    let dram_dims = dims_at a.decls.now a.dram c.index-decls-dram.result dram_in ∙ sym c.deref.ensures.value in
    let line_in : a.line < length a.decls.now = omega (arith, f.line_inside, length-map a.decls.now plain_mem) in
    let line_dims = dims_at a.decls.now a.line c.index-decls-line.result line_in ∙ sym c.deref-2.ensures.value in
    let limits = ap (drop 1) line_dims ∙ sym (take_rest c.deref-2.result.now 1) in
    let columns = column_limits (dims mems a.line) f.rank f.line_counts in
    let u = c.parts.new.self in
    let ps = plain_parts (take (length a.spans.now) c.parts.new.found) in
    let told = ap₂ (λ d l. extent_of d ps RowLength l a.at) dram_dims limits in
    let move = transfers.load_row a.line (get_or (dims mems a.line) 1 0) a.dram (dims mems a.dram) ps in
    let count = c.in_ok-words.words in
    let moves = extent_moves a.at (dims mems a.dram) ps RowLength (drop 1 (dims mems a.line)) move u.left (store_of u) count (told ∙ sym c.in_ok-words.ensures) (omega arith) in
    λ can. finished_moved mems can.setting.roomy can.setting.scope s u c.load_row.new.self _ (moved (transfers.words_by_lane (slice_lanes spans) (transfers.lengths ps)) ∷ []) move c.load_row.result
    can.setting.sees c.in_ok-parts.ensures.keeps c.load_row.ensures.ran c.load_row.ensures.keeps
    (λ stop x. line_stops mems can.setting.roomy a.at s.left (store_of s) a.line a.dram spans ps u.left (store_of u) c.in_ok-parts.ensures.ran stop (moves.3 ∙ x)) (λ m v x. line_done mems can.setting.roomy a.at s.left (store_of s) a.line a.dram spans ps u.left (store_of u) c.in_ok-parts.ensures.ran m v (moves.3 ∙ x))
