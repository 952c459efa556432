use Rattle.std.proofs.Common.{◌≡◌, ◌<◌, ◌^◌, [], map, length, take, sym, ◌∙◌, ap, subst, arith, All, length-take-le}
use Rattle.std.proofs.lemmas.List.{length-map}
use Rattle.sp_words.specs.Interface.{IsCount, word_count}
use Rattle.sp_tree.specs.Expressions.{dims, element}
use Rattle.sp_tree.specs.Plain.{plain_expr, plain_exprs, plain_mem}
use Rattle.sp_tree.specs.Typing.{expr_count}
use Rattle.sp_tree.specs.declared.statement.FaultKind.TheVariants.{Bounds}
use Rattle.sp_seq.specs.declared.state.Stop.TheVariants.{Fault}
use Rattle.sp_seq.specs.Places.{place_in}
use Rattle.sp_seq.specs.States.{store_of}
use Rattle.sp_seq.proofs.EvaluationLemmas.{count-exprs, element_went, element_outside}
use Rattle.sp_seq.proofs.PlaceLemmas.{place_below}
use Rattle.sp_seq.proofs.RunningLemmas.{wrote, finished_stop, stands_kept, set_sram_is, set_sram_halted, set_sram_halted_later}
use Rattle.sp_seq.proofs.SeesLemmas.{setting_later, seen_mem, live_sram, keeps_on, dims_at, counts_of, sram_rank}
use Rattle.sp_seq.proofs.StepLemmas.{bind_went, bind_halted}
use Rattle.sp_seq.proofs.state.State.set_sram.Goals as goal

pub words-requires-clause-few : goal.words-requires-clause-few
words-requires-clause-few c =
    let a = c.args in
    let mems = map plain_mem a.decls.now in
    let s = a.self.now in
    let h = c.requires in
    let ty = a.e.now.ty in
    let seen = seen_mem h.setting a.memory _ ty h.typed.0 in
    let few = sram_rank h.setting a.memory ty seen in
    let rank = subst (λ ms. expr_count (plain_exprs a.indices.now) ≡ length (dims ms a.memory)) h.setting.same h.typed.1 in
    let count = count-exprs a.indices.now in
    omega arith

pub returns-in_err-words : goal.returns-in_err-words
returns-in_err-words c =
    let a = c.args in
    let mems = map plain_mem a.decls.now in
    let s = a.self.now in
    λ can. finished_stop mems can.setting.roomy _ s _ _ _ c.in_err-words.field-0.0 c.from_residual.ensures.1 (set_sram_halted mems can.setting.roomy a.at s.left (store_of s) a.memory (plain_exprs a.indices.now) (plain_expr a.e.now) c.in_err-words.field-0.0 c.in_err-words.ensures.ran)

pub word-requires : goal.word-requires
word-requires c =
    let a = c.args in
    let mems = map plain_mem a.decls.now in
    let s = a.self.now in
    record { setting = setting_later c.requires.setting c.in_ok-words.ensures.keeps; typed = c.requires.typed.3 }

pub returns-in_err-word : goal.returns-in_err-word
returns-in_err-word c =
    let a = c.args in
    let mems = map plain_mem a.decls.now in
    let s = a.self.now in
    let u = c.words.new.self in
    λ can. finished_stop mems can.setting.roomy _ s _ _ _ c.in_err-word.field-0.0 c.from_residual-in_err-word.ensures.1 (set_sram_halted_later mems can.setting.roomy a.at s.left (store_of s) a.memory (plain_exprs a.indices.now) (plain_expr a.e.now) (take (length a.indices.now) c.words.new.found) u.left (store_of u) c.in_err-word.field-0.0 c.in_ok-words.ensures.ran c.in_err-word.ensures.ran)

pub slice_bounds-found-end : goal.slice_bounds-found-end
slice_bounds-found-end c =
    let a = c.args in
    let mems = map plain_mem a.decls.now in
    let s = a.self.now in
    let h = c.requires in
    let ty = a.e.now.ty in
    let seen = seen_mem h.setting a.memory _ ty h.typed.0 in
    let few = sram_rank h.setting a.memory ty seen in
    let rank = subst (λ ms. expr_count (plain_exprs a.indices.now) ≡ length (dims ms a.memory)) h.setting.same h.typed.1 in
    let count = count-exprs a.indices.now in
    omega arith

pub slice_bounds-place-end : goal.slice_bounds-place-end
slice_bounds-place-end c =
    let a = c.args in
    let mems = map plain_mem a.decls.now in
    let s = a.self.now in
    let h = c.requires in
    let ty = a.e.now.ty in
    let seen = seen_mem h.setting a.memory _ ty h.typed.0 in
    let few = sram_rank h.setting a.memory ty seen in
    let rank = subst (λ ms. expr_count (plain_exprs a.indices.now) ≡ length (dims ms a.memory)) h.setting.same h.typed.1 in
    let count = count-exprs a.indices.now in
    sym (length-take-le (length a.indices.now) c.words.new.found (omega arith))

pub place-requires-clause-dims : goal.place-requires-clause-dims
place-requires-clause-dims c =
    let a = c.args in
    let mems = map plain_mem a.decls.now in
    let s = a.self.now in
    let h = c.requires in
    let ty = a.e.now.ty in
    let seen = seen_mem h.setting a.memory _ ty h.typed.0 in
    let few = sram_rank h.setting a.memory ty seen in
    let rank = subst (λ ms. expr_count (plain_exprs a.indices.now) ≡ length (dims ms a.memory)) h.setting.same h.typed.1 in
    let count = count-exprs a.indices.now in
    let inside : a.memory < length a.decls.now = omega (arith, seen.inside, length-map a.decls.now plain_mem) in
    let same = dims_at a.decls.now a.memory c.index-decls-memory.result inside ∙ sym c.deref.ensures.value in
    let u = c.words.new.self in
    let v = c.word.new.self in
    let is = take (length a.indices.now) c.words.new.found in
    let w = c.in_ok-word.word in
    let keeps = keeps_on _ _ _ c.in_ok-words.ensures.keeps c.in_ok-word.ensures.keeps in
    subst (λ ds. All IsCount ds) same (counts_of h.setting a.memory seen.inside)

pub place-requires-clause-size : goal.place-requires-clause-size
place-requires-clause-size c =
    let a = c.args in
    let mems = map plain_mem a.decls.now in
    let s = a.self.now in
    let h = c.requires in
    let ty = a.e.now.ty in
    let seen = seen_mem h.setting a.memory _ ty h.typed.0 in
    let few = sram_rank h.setting a.memory ty seen in
    let rank = subst (λ ms. expr_count (plain_exprs a.indices.now) ≡ length (dims ms a.memory)) h.setting.same h.typed.1 in
    let count = count-exprs a.indices.now in
    let inside : a.memory < length a.decls.now = omega (arith, seen.inside, length-map a.decls.now plain_mem) in
    let same = dims_at a.decls.now a.memory c.index-decls-memory.result inside ∙ sym c.deref.ensures.value in
    let u = c.words.new.self in
    let v = c.word.new.self in
    let is = take (length a.indices.now) c.words.new.found in
    let w = c.in_ok-word.word in
    let keeps = keeps_on _ _ _ c.in_ok-words.ensures.keeps c.in_ok-word.ensures.keeps in
    subst (λ ds. word_count ds < 2 ^ 32) same (h.setting.sees.sizes a.memory)

pub write_cell-requires : goal.write_cell-requires
write_cell-requires c =
    let a = c.args in
    let mems = map plain_mem a.decls.now in
    let s = a.self.now in
    let h = c.requires in
    let ty = a.e.now.ty in
    let seen = seen_mem h.setting a.memory _ ty h.typed.0 in
    let few = sram_rank h.setting a.memory ty seen in
    let rank = subst (λ ms. expr_count (plain_exprs a.indices.now) ≡ length (dims ms a.memory)) h.setting.same h.typed.1 in
    let count = count-exprs a.indices.now in
    let inside : a.memory < length a.decls.now = omega (arith, seen.inside, length-map a.decls.now plain_mem) in
    let same = dims_at a.decls.now a.memory c.index-decls-memory.result inside ∙ sym c.deref.ensures.value in
    let u = c.words.new.self in
    let v = c.word.new.self in
    let is = take (length a.indices.now) c.words.new.found in
    let w = c.in_ok-word.word in
    let keeps = keeps_on _ _ _ c.in_ok-words.ensures.keeps c.in_ok-word.ensures.keeps in
    let live = live_sram (seen_mem (setting_later h.setting keeps) a.memory _ ty h.typed.0) in
    let below = place_below (dims mems a.memory) is c.in-Some.k (ap (λ ds. place_in ds is) same ∙ sym c.in-Some.ensures) in
    (live.0, live.1, omega (arith, live.3, below), subst (λ n. w < 2 ^ n) (sym live.2) c.in_ok-word.ensures.fits)

pub returns-in-None : goal.returns-in-None
returns-in-None c =
    let a = c.args in
    let mems = map plain_mem a.decls.now in
    let s = a.self.now in
    let h = c.requires in
    let ty = a.e.now.ty in
    let seen = seen_mem h.setting a.memory _ ty h.typed.0 in
    let few = sram_rank h.setting a.memory ty seen in
    let rank = subst (λ ms. expr_count (plain_exprs a.indices.now) ≡ length (dims ms a.memory)) h.setting.same h.typed.1 in
    let count = count-exprs a.indices.now in
    let inside : a.memory < length a.decls.now = omega (arith, seen.inside, length-map a.decls.now plain_mem) in
    let same = dims_at a.decls.now a.memory c.index-decls-memory.result inside ∙ sym c.deref.ensures.value in
    let u = c.words.new.self in
    let v = c.word.new.self in
    let is = take (length a.indices.now) c.words.new.found in
    let w = c.in_ok-word.word in
    let keeps = keeps_on _ _ _ c.in_ok-words.ensures.keeps c.in_ok-word.ensures.keeps in
    λ can.
    set_sram_is mems can.setting.roomy a.at s.left (store_of s) a.memory (plain_exprs a.indices.now) (plain_expr a.e.now) is u.left (store_of u) c.in_ok-words.ensures.ran w v.left (store_of v) c.in_ok-word.ensures.ran
    ∙ bind_halted (element mems a.memory a.at is) _ v.left (store_of v) (Fault Bounds a.at) (element_outside mems a.memory a.at is v.left (store_of v) (ap (λ ds. place_in ds is) same ∙ sym c.in-None.ensures))

pub returns : goal.returns
returns c =
    let a = c.args in
    let mems = map plain_mem a.decls.now in
    let s = a.self.now in
    let h = c.requires in
    let ty = a.e.now.ty in
    let seen = seen_mem h.setting a.memory _ ty h.typed.0 in
    let few = sram_rank h.setting a.memory ty seen in
    let rank = subst (λ ms. expr_count (plain_exprs a.indices.now) ≡ length (dims ms a.memory)) h.setting.same h.typed.1 in
    let count = count-exprs a.indices.now in
    let inside : a.memory < length a.decls.now = omega (arith, seen.inside, length-map a.decls.now plain_mem) in
    let same = dims_at a.decls.now a.memory c.index-decls-memory.result inside ∙ sym c.deref.ensures.value in
    let u = c.words.new.self in
    let v = c.word.new.self in
    let is = take (length a.indices.now) c.words.new.found in
    let w = c.in_ok-word.word in
    let keeps = keeps_on _ _ _ c.in_ok-words.ensures.keeps c.in_ok-word.ensures.keeps in
    λ can.
    let t = c.write_cell.new.self in (
      [],
      set_sram_is mems can.setting.roomy a.at s.left (store_of s) a.memory (plain_exprs a.indices.now) (plain_expr a.e.now) is u.left (store_of u) c.in_ok-words.ensures.ran w v.left (store_of v) c.in_ok-word.ensures.ran
          ∙ bind_went (element mems a.memory a.at is) _ v.left (store_of v) c.in-Some.k v.left (store_of v) (element_went mems a.memory a.at is v.left (store_of v) c.in-Some.k (ap (λ ds. place_in ds is) same ∙ sym c.in-Some.ensures))
          ∙ wrote a.memory c.in-Some.k w v.left (store_of v) t.left (store_of t) c.write_cell.ensures.ran,
      stands_kept can.setting.sees (keeps_on _ _ _ keeps c.write_cell.ensures.keeps),
    )
