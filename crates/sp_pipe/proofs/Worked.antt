-- The worked body: it can be emitted, and puts 7.
use Rattle.std.proofs.Common.{◌≡◌, ℕ, zero, suc, ◌<◌, ◌^◌, ◌&&◌, if◌then◌else◌, Bool, true, false, IsTrue, IfSome, List, [], ◌∷◌, ◌++◌, map, length, slice_index, slice_index_or, refl, sym, ap, ap₂, subst, ◌∙◌, arith, lit<}
use Rattle.sp_words.specs.Types.{int_type, width_of}
use Rattle.sp_netlist.specs.Draft.{Draft}
use Rattle.sp_netlist.specs.Signals.{Signals}
use Rattle.sp_gates.specs.Runs.{RunsOn}
use Rattle.sp_gates.specs.Tested.{is_on}
use Rattle.sp_pipe.specs.declared.part.PipeOp.{PipeOp}
use Rattle.sp_pipe.specs.Acts.{ActsAt, AreActs, none, passed, acted}
use Rattle.sp_pipe.specs.Examples.{IsSeven, IsPut, PutsSeven}
use Rattle.sp_pipe.specs.Issues.{after}
use Rattle.sp_pipe.specs.Right.{IsTaken, ActFits, OpFits, OpsFit}
use Rattle.sp_pipe.specs.Values.{gives_word, is_access, time_of, given_width, taken_width, takes, act_word, words_of, is_wanted}
use Rattle.sp_pipe.proofs.WordLemmas.{word_at}

and_true : (b : Bool) → (b && true) ≡ b
and_true true = refl
and_true false = refl

module _ (first : PipeOp) (a : IsSeven first) where
  first_fits : (d : Draft) → OpFits d [] first
  first_fits d = record {
    act = subst (λ t. ActFits d t first.act) (sym a.ty) (subst (ActFits d int_type) (sym a.act) (lit< tt));
    count = ap₂ takes a.act (ap length a.args);
    args = λ i l. let e = ap length a.args in absurd (omega (arith, l, e));
    mask = subst (λ m. IfSome m (λ k. IsTaken [] k 1 first.time)) (sym a.mask) tt;
    time = subst (λ n. n < 2 ^ 32) (sym (ap₂ (λ x m. time_of x m first.time) a.act a.mask)) (lit< tt);
  }

  pub first_taken : (p width time : ℕ) → p ≡ 0 → width ≡ 32 → IsTaken (first ∷ []) p width time
  first_taken p width time e w = record {
    op = first;
    at = record { within = omega (arith, e); is = λ other. ap (λ x. slice_index_or (first ∷ []) x other) e };
    gives = subst (λ x. IsTrue (gives_word x)) (sym a.act) refl;
    wide = ap₂ given_width a.act a.ty ∙ sym w;
    in_time = let t = ap₂ (λ x m. time_of x m first.time) a.act a.mask in omega (arith, t);
  }

  pub one_fits : (d : Draft) → OpsFit d (first ∷ [])
  one_fits d zero op at = subst (OpFits d []) (at.is op) (first_fits d)
  one_fits d (suc k) op at = let l = at.within in absurd (omega (arith, l))

  module _ (second : PipeOp) (b : IsPut second) where
    second_fits : (d : Draft) → OpFits d (first ∷ []) second
    second_fits d = record {
      act = subst (ActFits d second.ty) (sym b.act) tt;
      count = ap₂ takes b.act (ap length b.args);
      args = λ i l.
          let e = ap length b.args in
          let z : i ≡ 0 = omega (arith, l, e) in
          first_taken (slice_index second.args.items i) (taken_width second.act second.ty (length second.args.items) i) second.time (ap₂ slice_index b.args z)
          (ap (λ x. taken_width x second.ty (length second.args.items) i) b.act ∙ ap width_of b.ty);
      mask = subst (λ m. IfSome m (λ k. IsTaken (first ∷ []) k 1 second.time)) (sym b.mask) tt;
      time = subst (λ n. n < 2 ^ 32) (sym (ap₂ (λ x m. time_of x m second.time) b.act b.mask ∙ b.time)) (lit< tt);
    }

    pub both_fit : (d : Draft) → OpsFit d (first ∷ second ∷ [])
    both_fit d zero op at = subst (OpFits d []) (at.is op) (first_fits d)
    both_fit d (suc zero) op at = subst (OpFits d (first ∷ [])) (at.is op) (second_fits d)
    both_fit d (suc (suc k)) op at = let l = at.within in absurd (omega (arith, l))

    module _ (d : Draft) (start issue : ℕ) (issues : (s : Signals) → RunsOn s d.cells → (t : ℕ) → is_on s issue t ≡ after (is_on s start) t) where
      of_one : (enable w : ℕ) → ActsAt d issue (first ∷ second ∷ []) second enable (w ∷ []) → PutsSeven d start (enable ∷ w ∷ [])
      of_one enable w at = record {
        enable = enable;
        word = w;
        both = refl;
        puts = λ s r t. on_later s r (suc t) ∙ issues s r (suc t);
        early = λ s r t l. before s r t l;
        seven = λ s r t.
            ap (λ u. s.net u w) (let e = b.time in omega (arith, e)) ∙ at.taken.words 0 (let e = ap length b.args in omega (arith, e)) s r t
            ∙ ap (slice_index (words_of s t (first ∷ second ∷ []))) (ap (λ xs. slice_index xs 0) b.args)
            ∙ word_at s t (first ∷ second ∷ []) 0 first (record { within = omega arith; is = λ other. refl })
            ∙ ap (λ m. if is_wanted (words_of s t []) m then act_word s t first.ty first.time first.act (map (slice_index (words_of s t [])) first.args.items) else 0) a.mask
            ∙ ap (λ x. act_word s t first.ty first.time x (map (slice_index (words_of s t [])) first.args.items)) a.act;
      }
        where
          on_later : (s : Signals) → RunsOn s d.cells → (u : ℕ) → is_on s enable (suc u) ≡ is_on s issue u
          on_later s r u =
              ap (is_on s enable) (let e = b.time in omega (arith, e)) ∙ at.enabled s r u
              ∙ ap (λ m. is_on s issue u && is_wanted (words_of s u (first ∷ second ∷ [])) m) b.mask ∙ and_true (is_on s issue u)

          before : (s : Signals) → RunsOn s d.cells → (t : ℕ) → t < 2 → is_on s enable t ≡ false
          before s r zero l = at.early s r 0 (let e = b.time in omega (arith, e))
          before s r (suc zero) l = on_later s r 0 ∙ issues s r 0
          before s r (suc (suc t)) l = absurd (omega (arith, l))

      of_operands : (enable : ℕ) (operands : List ℕ) → ActsAt d issue (first ∷ second ∷ []) second enable operands → length operands ≡ 1 → PutsSeven d start (enable ∷ operands ++ [])
      of_operands enable [] at e = absurd (omega (arith, e))
      of_operands enable (w ∷ []) at e = of_one enable w at
      of_operands enable (w ∷ x ∷ rest) at e = absurd (omega (arith, e))

      of_second : (nets : List ℕ) → AreActs d issue (first ∷ second ∷ []) (second ∷ []) nets → PutsSeven d start nets
      of_second nets (passed e h) = absurd (let f = sym (ap is_access b.act) ∙ e in cc (f))
      of_second _ (acted {enable = enable} {operands = operands} e at none) = of_operands enable operands at (at.taken.each ∙ ap length b.args)

      pub puts_seven : (nets : List ℕ) → AreActs d issue (first ∷ second ∷ []) (first ∷ second ∷ []) nets → PutsSeven d start nets
      puts_seven nets (passed e h) = of_second nets h
      puts_seven _ (acted e at h) = absurd (let f = sym (ap is_access a.act) ∙ e in cc (f))

-- the word of the first operation of a list
pub first_is_seven : (first : PipeOp) (a : IsSeven first) (s : Signals) (t : ℕ) → slice_index (words_of s t (first ∷ [])) 0 ≡ 7
first_is_seven first a s t =
    word_at s t (first ∷ []) 0 first (record { within = omega arith; is = λ other. refl })
    ∙ ap (λ m. if is_wanted (words_of s t []) m then act_word s t first.ty first.time first.act (map (slice_index (words_of s t [])) first.args.items) else 0) a.mask
    ∙ ap (λ x. act_word s t first.ty first.time x (map (slice_index (words_of s t [])) first.args.items)) a.act
