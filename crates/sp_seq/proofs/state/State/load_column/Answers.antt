use Rattle.std.proofs.Common.{◌<◌, ◌^◌, length, drop, get_or, sym, ◌∙◌, ap, subst, arith, All}
use Rattle.std.proofs.lemmas.List.{length-map, take_rest}
use Rattle.sp_words.specs.Interface.{IsCount, word_count}
use Rattle.sp_tree.specs.Elements.{row_major}
use Rattle.sp_tree.specs.Plain.{plain_mem}
use Rattle.sp_tree.specs.Store.{words_of}
use Rattle.sp_tree.specs.Transfers as transfers
use Rattle.sp_seq.specs.Lines.{Wrote}
use Rattle.sp_seq.specs.Slices.{plain_parts, offsets_at, Limited}
use Rattle.sp_seq.specs.States.{store_of}
use Rattle.sp_seq.proofs.LineLemmas.{facts, column_inside, word_read}
use Rattle.sp_seq.proofs.SeesLemmas.{dims_at}
use Rattle.sp_seq.proofs.state.State.load_column.Goals as goal

pub word_places-places-requires-clause-dims : goal.word_places-places-requires-clause-dims
word_places-places-requires-clause-dims c =
    let a = c.args in
    let h = c.requires.can in
    let f = facts h.setting a.line a.dram h.ty h.on_chip h.outside in
    let inside : a.dram < length a.decls.now = omega (arith, f.dram_inside, length-map a.decls.now plain_mem) in
    let dram_dims = dims_at a.decls.now a.dram c.index-decls-dram.result inside ∙ sym c.deref-2.ensures.value in
    subst (All IsCount) dram_dims f.dram_counts

pub word_places-places-requires-clause-limits : goal.word_places-places-requires-clause-limits
word_places-places-requires-clause-limits c =
    let a = c.args in
    let h = c.requires.can in
    let f = facts h.setting a.line a.dram h.ty h.on_chip h.outside in
    let inside : a.line < length a.decls.now = omega (arith, f.line_inside, length-map a.decls.now plain_mem) in
    let line_dims = dims_at a.decls.now a.line c.index-decls-line.result inside ∙ sym c.deref.ensures.value in
    subst (Limited (plain_parts a.parts.now)) (ap (drop 1) line_dims ∙ sym (take_rest c.deref.result.now 1)) h.limited

pub read_word-word-requires : goal.read_word-word-requires
read_word-word-requires c =
    let a = c.args in
    let h = c.requires.can in
    let f = facts h.setting a.line a.dram h.ty h.on_chip h.outside in
    let inside : a.dram < length a.decls.now = omega (arith, f.dram_inside, length-map a.decls.now plain_mem) in
    let dram_dims = dims_at a.decls.now a.dram c.index-decls-dram.result inside ∙ sym c.deref-2.ensures.value in
    (f.words, f.words_live, omega (arith, f.size, ap word_count dram_dims, c.word_places-places.ensures.in_dram))

pub write_line-requires : goal.write_line-requires
write_line-requires c =
    let a = c.args in
    let h = c.requires.can in
    let f = facts h.setting a.line a.dram h.ty h.on_chip h.outside in
    let column = column_inside _ _ a.k f.rank h.limited.same h.limited.fit c.requires.below in
    (f.buffer, f.buffer_live, f.some, omega (arith, f.newest_columns, column), subst (λ n. c.read_word-word.result < 2 ^ n) (f.words_width ∙ sym f.newest_width) (c.read_word-word.ensures.fits f.words f.words_live))

pub returns-clause-wrote : goal.returns-clause-wrote
returns-clause-wrote c =
    let a = c.args in
    let s = a.self.now in
    let h = c.requires.can in
    let f = facts h.setting a.line a.dram h.ty h.on_chip h.outside in
    let inside : a.dram < length a.decls.now = omega (arith, f.dram_inside, length-map a.decls.now plain_mem) in
    let dram_dims = dims_at a.decls.now a.dram c.index-decls-dram.result inside ∙ sym c.deref-2.ensures.value in
    let parts = plain_parts a.parts.now in
    let at = c.word_places-places.ensures.dram ∙ ap (λ ds. row_major ds (transfers.places_of parts (offsets_at parts a.k))) (sym dram_dims) in
    let word = word_read a.dram c.word_places-places.result.dram s.left c.read_word-word.result s.left (store_of s) (store_of s) c.read_word-word.ensures.ran ∙ ap (λ i. get_or (words_of ((store_of s).held a.dram)) i 0) at in
    subst (λ w. Wrote a.line a.k w (store_of s) (store_of c.write_line.new.self)) word c.write_line.ensures.wrote
