use Rattle.std.proofs.Common.{◌<◌, ◌^◌, map, length, sym, ◌∙◌, ap, subst, arith, All}
use Rattle.std.proofs.lemmas.List.{length-map}
use Rattle.sp_words.specs.Interface.{IsCount, word_count}
use Rattle.sp_tree.specs.Elements.{row_major}
use Rattle.sp_tree.specs.Plain.{plain_mem}
use Rattle.sp_tree.specs.Transfers as transfers
use Rattle.sp_seq.specs.Slices.{plain_parts, offsets_at, Limited}
use Rattle.sp_seq.specs.States.{store_of}
use Rattle.sp_seq.proofs.SeesLemmas.{setting_later, seen_mem, live_sram, live_dram, counts_of, dims_at}
use Rattle.sp_seq.proofs.StepLemmas.{ran_stop}
use Rattle.sp_seq.proofs.TransferLemmas.{stored_unread, stored_spent, stored_went}
use Rattle.sp_seq.proofs.state.State.store_one.Goals as goal

pub word_places-places-requires-clause-dims : goal.word_places-places-requires-clause-dims
word_places-places-requires-clause-dims c =
    let a = c.args in
    let mems = map plain_mem a.decls.now in
    let s = a.self.now in
    let h = c.requires.can in
    let ps = plain_parts a.parts.now in
    let chip = seen_mem h.setting a.sram _ h.ty h.on_chip in
    let dram = seen_mem h.setting a.dram _ h.ty h.outside in
    let chip_in : a.sram < length a.decls.now = omega (arith, chip.inside, length-map a.decls.now plain_mem) in
    let dram_in : a.dram < length a.decls.now = omega (arith, dram.inside, length-map a.decls.now plain_mem) in
    let dram_dims = dims_at a.decls.now a.dram c.index-decls-dram.result dram_in ∙ sym c.deref.ensures.value in
    let chip_dims = dims_at a.decls.now a.sram c.index-decls-sram.result chip_in ∙ sym c.deref-2.ensures.value in
    subst (All IsCount) dram_dims (counts_of h.setting a.dram dram.inside)

pub word_places-places-requires-clause-limits : goal.word_places-places-requires-clause-limits
word_places-places-requires-clause-limits c =
    let a = c.args in
    let mems = map plain_mem a.decls.now in
    let s = a.self.now in
    let h = c.requires.can in
    let ps = plain_parts a.parts.now in
    let chip = seen_mem h.setting a.sram _ h.ty h.on_chip in
    let dram = seen_mem h.setting a.dram _ h.ty h.outside in
    let chip_in : a.sram < length a.decls.now = omega (arith, chip.inside, length-map a.decls.now plain_mem) in
    let dram_in : a.dram < length a.decls.now = omega (arith, dram.inside, length-map a.decls.now plain_mem) in
    let dram_dims = dims_at a.decls.now a.dram c.index-decls-dram.result dram_in ∙ sym c.deref.ensures.value in
    let chip_dims = dims_at a.decls.now a.sram c.index-decls-sram.result chip_in ∙ sym c.deref-2.ensures.value in
    subst (Limited ps) chip_dims h.limited

pub read_cell-requires : goal.read_cell-requires
read_cell-requires c =
    let a = c.args in
    let mems = map plain_mem a.decls.now in
    let s = a.self.now in
    let h = c.requires.can in
    let ps = plain_parts a.parts.now in
    let chip = seen_mem h.setting a.sram _ h.ty h.on_chip in
    let dram = seen_mem h.setting a.dram _ h.ty h.outside in
    let chip_in : a.sram < length a.decls.now = omega (arith, chip.inside, length-map a.decls.now plain_mem) in
    let dram_in : a.dram < length a.decls.now = omega (arith, dram.inside, length-map a.decls.now plain_mem) in
    let dram_dims = dims_at a.decls.now a.dram c.index-decls-dram.result dram_in ∙ sym c.deref.ensures.value in
    let chip_dims = dims_at a.decls.now a.sram c.index-decls-sram.result chip_in ∙ sym c.deref-2.ensures.value in
    let places = c.word_places-places in
    let offsets = offsets_at ps a.k in
    let at_dram = places.ensures.dram ∙ ap (λ ds. row_major ds (transfers.places_of ps offsets)) (sym dram_dims) in
    let at_chip = places.ensures.chip ∙ ap (λ ds. row_major ds offsets) (sym chip_dims) in
    let dram_size = ap word_count dram_dims in
    let chip_size = ap word_count chip_dims in
    let dram_live = live_dram dram in
    let chip_live = live_sram chip in
    (chip_live.0, chip_live.1, omega (arith, chip_live.3, chip_size, places.ensures.in_chip))

pub returns-in_err-word-clause-ran : goal.returns-in_err-word-clause-ran
returns-in_err-word-clause-ran c =
    let a = c.args in
    let mems = map plain_mem a.decls.now in
    let s = a.self.now in
    let h = c.requires.can in
    let ps = plain_parts a.parts.now in
    let chip = seen_mem h.setting a.sram _ h.ty h.on_chip in
    let dram = seen_mem h.setting a.dram _ h.ty h.outside in
    let chip_in : a.sram < length a.decls.now = omega (arith, chip.inside, length-map a.decls.now plain_mem) in
    let dram_in : a.dram < length a.decls.now = omega (arith, dram.inside, length-map a.decls.now plain_mem) in
    let dram_dims = dims_at a.decls.now a.dram c.index-decls-dram.result dram_in ∙ sym c.deref.ensures.value in
    let chip_dims = dims_at a.decls.now a.sram c.index-decls-sram.result chip_in ∙ sym c.deref-2.ensures.value in
    let places = c.word_places-places in
    let offsets = offsets_at ps a.k in
    let at_dram = places.ensures.dram ∙ ap (λ ds. row_major ds (transfers.places_of ps offsets)) (sym dram_dims) in
    let at_chip = places.ensures.chip ∙ ap (λ ds. row_major ds offsets) (sym chip_dims) in
    let dram_size = ap word_count dram_dims in
    let chip_size = ap word_count chip_dims in
    let dram_live = live_dram dram in
    let chip_live = live_sram chip in
    ran_stop _ _ _ c.in_err-word.field-0.0 c.from_residual.ensures.1 (stored_unread mems a.at a.sram a.dram ps offsets s.left (store_of s) places.result.dram places.result.chip at_dram at_chip c.in_err-word.field-0.0 c.in_err-word.ensures.ran)

pub returns-in_err-turn-clause-ran : goal.returns-in_err-turn-clause-ran
returns-in_err-turn-clause-ran c =
    let a = c.args in
    let mems = map plain_mem a.decls.now in
    let s = a.self.now in
    let h = c.requires.can in
    let ps = plain_parts a.parts.now in
    let chip = seen_mem h.setting a.sram _ h.ty h.on_chip in
    let dram = seen_mem h.setting a.dram _ h.ty h.outside in
    let chip_in : a.sram < length a.decls.now = omega (arith, chip.inside, length-map a.decls.now plain_mem) in
    let dram_in : a.dram < length a.decls.now = omega (arith, dram.inside, length-map a.decls.now plain_mem) in
    let dram_dims = dims_at a.decls.now a.dram c.index-decls-dram.result dram_in ∙ sym c.deref.ensures.value in
    let chip_dims = dims_at a.decls.now a.sram c.index-decls-sram.result chip_in ∙ sym c.deref-2.ensures.value in
    let places = c.word_places-places in
    let offsets = offsets_at ps a.k in
    let at_dram = places.ensures.dram ∙ ap (λ ds. row_major ds (transfers.places_of ps offsets)) (sym dram_dims) in
    let at_chip = places.ensures.chip ∙ ap (λ ds. row_major ds offsets) (sym chip_dims) in
    let dram_size = ap word_count dram_dims in
    let chip_size = ap word_count chip_dims in
    let dram_live = live_dram dram in
    let chip_live = live_sram chip in
    ran_stop _ _ _ c.in_err-turn.field-0.0 c.from_residual-in_err-turn.ensures.1 (stored_spent mems a.at a.sram a.dram ps offsets s.left (store_of s) places.result.dram places.result.chip at_dram at_chip c.in_ok-word.word c.in_err-turn.field-0.0 c.in_ok-word.ensures.ran c.in_err-turn.ensures.ran)

pub write_word-requires : goal.write_word-requires
write_word-requires c =
    let a = c.args in
    let mems = map plain_mem a.decls.now in
    let s = a.self.now in
    let h = c.requires.can in
    let ps = plain_parts a.parts.now in
    let chip = seen_mem h.setting a.sram _ h.ty h.on_chip in
    let dram = seen_mem h.setting a.dram _ h.ty h.outside in
    let chip_in : a.sram < length a.decls.now = omega (arith, chip.inside, length-map a.decls.now plain_mem) in
    let dram_in : a.dram < length a.decls.now = omega (arith, dram.inside, length-map a.decls.now plain_mem) in
    let dram_dims = dims_at a.decls.now a.dram c.index-decls-dram.result dram_in ∙ sym c.deref.ensures.value in
    let chip_dims = dims_at a.decls.now a.sram c.index-decls-sram.result chip_in ∙ sym c.deref-2.ensures.value in
    let places = c.word_places-places in
    let offsets = offsets_at ps a.k in
    let at_dram = places.ensures.dram ∙ ap (λ ds. row_major ds (transfers.places_of ps offsets)) (sym dram_dims) in
    let at_chip = places.ensures.chip ∙ ap (λ ds. row_major ds offsets) (sym chip_dims) in
    let dram_size = ap word_count dram_dims in
    let chip_size = ap word_count chip_dims in
    let dram_live = live_dram dram in
    let chip_live = live_sram chip in
    let live = live_dram (seen_mem (setting_later h.setting c.in_ok-turn.ensures.keeps) a.dram _ h.ty h.outside) in
    (live.0, live.1, omega (arith, live.3, dram_size, places.ensures.in_dram), subst (λ n. c.in_ok-word.word < 2 ^ n) (chip_live.2 ∙ sym live.2) (c.in_ok-word.ensures.fits chip_live.0 chip_live.1))

pub returns-clause-ran : goal.returns-clause-ran
returns-clause-ran c =
    let a = c.args in
    let mems = map plain_mem a.decls.now in
    let s = a.self.now in
    let h = c.requires.can in
    let ps = plain_parts a.parts.now in
    let chip = seen_mem h.setting a.sram _ h.ty h.on_chip in
    let dram = seen_mem h.setting a.dram _ h.ty h.outside in
    let chip_in : a.sram < length a.decls.now = omega (arith, chip.inside, length-map a.decls.now plain_mem) in
    let dram_in : a.dram < length a.decls.now = omega (arith, dram.inside, length-map a.decls.now plain_mem) in
    let dram_dims = dims_at a.decls.now a.dram c.index-decls-dram.result dram_in ∙ sym c.deref.ensures.value in
    let chip_dims = dims_at a.decls.now a.sram c.index-decls-sram.result chip_in ∙ sym c.deref-2.ensures.value in
    let places = c.word_places-places in
    let offsets = offsets_at ps a.k in
    let at_dram = places.ensures.dram ∙ ap (λ ds. row_major ds (transfers.places_of ps offsets)) (sym dram_dims) in
    let at_chip = places.ensures.chip ∙ ap (λ ds. row_major ds offsets) (sym chip_dims) in
    let dram_size = ap word_count dram_dims in
    let chip_size = ap word_count chip_dims in
    let dram_live = live_dram dram in
    let chip_live = live_sram chip in
    let t = c.turn.new.self in
    let u = c.write_word.new.self in
    stored_went mems a.at a.sram a.dram ps offsets s.left (store_of s) places.result.dram places.result.chip at_dram at_chip c.in_ok-word.word t.left (store_of t) u.left (store_of u) c.in_ok-word.ensures.ran c.in_ok-turn.ensures.ran c.write_word.ensures.ran
