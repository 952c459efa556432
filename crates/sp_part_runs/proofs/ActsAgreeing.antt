-- In a group the words over the nets of a run are those of the entries, as far as accesses are answered.
use Rattle.std.proofs.Common.{◌≡◌, ℕ, zero, suc, ◌+◌, ◌*◌, ◌<◌, ◌≤◌, ◌==◌, ◌&&◌, ◌⊎◌, inl, inr, Bool, true, false, not, if◌then◌else◌, IsTrue, IfSome, List, [], ◌∷◌, length, map, take, slice_index, slice_index_or, Option, Some, None, refl, sym, ap, ap₂, subst, ◌∙◌, arith, length-take, get_or-take}
use Rattle.std.proofs.lemmas.Bool.{eqb-true}
use Rattle.sp_netlist.specs.Draft.{Draft}
use Rattle.sp_netlist.specs.Signals.{Signals}
use Rattle.sp_gates.specs.Runs.{RunsOn}
use Rattle.sp_gates.specs.Tested.{is_on}
use Rattle.sp_words.specs.declared.types.Ty.{Ty}
use Rattle.sp_core.specs.declared.operation.OpKind.{OpKind}
use Rattle.sp_core.specs.declared.operation.OpKind.TheVariants as kind
use Rattle.sp_core.specs.History.{Entry, left_out, gave, touched, word_of, word_at}
use Rattle.sp_core.specs.Operations.{is_masked}
use Rattle.sp_core.specs.PlainCore.{PlainOp}
use Rattle.sp_core.specs.Scope.{Scope}
use Rattle.sp_fitting.specs.Fitting.{MasksAreBits}
use Rattle.sp_pipe.specs.declared.part.Act.{Act}
use Rattle.sp_pipe.specs.declared.part.Act.TheVariants as act
use Rattle.sp_pipe.specs.declared.part.PipeOp.{PipeOp}
use Rattle.sp_pipe.specs.Acts.{ActsAt}
use Rattle.sp_pipe.specs.Right.{IsAt, IsTaken, OpFits}
use Rattle.sp_pipe.specs.Values.{gives_word, takes, word_time, masked_time, time_of, act_word, is_wanted, op_word, words_of}
use Rattle.sp_pipe.proofs.WordLemmas.{map_same, earlier_word, word_at as pipe_word}
use Rattle.sp_part_runs.specs.ActsCircuits.{IsActOf, of_word, of_count, of_live, of_read, of_write, of_enq, of_deq, of_reset, of_one, of_two, of_shift, of_mux, of_cast, IsOpOf, is_given, is_answered, net_of, answer_of, AreGiven, AreAnswered}
use Rattle.sp_part_runs.specs.ActsEntries.{touches_memory, computed_word, touched_at, IsTouch, Did, IsOpAt, entry_at}
use Rattle.sp_part_runs.specs.ActsLaws.{IsGroup, is_made, ActsAsMade}

-- an operation that takes words isn't over before its time
late_unmasked : (a : Act) (n time : ℕ) → takes a n ≡ true → 0 < n → time ≤ word_time a time
late_unmasked (act.Given net) zero time h l = absurd (omega (arith, l))
late_unmasked (act.Given net) (suc n) time h l = let e = eqb-true (suc n) 0 h in absurd (omega (arith, e))
late_unmasked (act.Word w) zero time h l = absurd (omega (arith, l))
late_unmasked (act.Word w) (suc n) time h l = let e = eqb-true (suc n) 0 h in absurd (omega (arith, e))
late_unmasked (act.Read net after) n time h l = omega arith
late_unmasked (act.Deq net after) n time h l = omega arith
late_unmasked (act.One op) n time h l = omega arith
late_unmasked (act.Two op) n time h l = omega arith
late_unmasked (act.Shift left by) n time h l = omega arith
late_unmasked act.Mux n time h l = omega arith
late_unmasked (act.Cast to) n time h l = omega arith
late_unmasked act.Write n time h l = omega arith
late_unmasked act.Enq n time h l = omega arith
late_unmasked act.Reset n time h l = omega arith

late_masked : (a : Act) (time : ℕ) → time ≤ masked_time a time
late_masked (act.Given net) time = omega arith
late_masked (act.Word w) time = omega arith
late_masked (act.Read net after) time = omega arith
late_masked (act.Deq net after) time = omega arith
late_masked (act.One op) time = omega arith
late_masked (act.Two op) time = omega arith
late_masked (act.Shift left by) time = omega arith
late_masked act.Mux time = omega arith
late_masked (act.Cast to) time = omega arith
late_masked act.Write time = omega arith
late_masked act.Enq time = omega arith
late_masked act.Reset time = omega arith

late_with_words : (a : Act) (mask : Option ℕ) (n time : ℕ) → takes a n ≡ true → 0 < n → time ≤ time_of a mask time
late_with_words a None n time h l = late_unmasked a n time h l
late_with_words a (Some m) n time h l = late_masked a time

-- an answer stands where the word does
answer_time : (a : Act) (mask : Option ℕ) (time : ℕ) → is_answered a ≡ true → time + answer_of a ≡ time_of a mask time
answer_time (act.Read net after) None time h = refl
answer_time (act.Read net after) (Some m) time h = refl
answer_time (act.Deq net after) None time h = refl
answer_time (act.Deq net after) (Some m) time h = refl
answer_time (act.Given net) mask time h = absurd (cc)
answer_time (act.Word w) mask time h = absurd (cc)
answer_time (act.One op) mask time h = absurd (cc)
answer_time (act.Two op) mask time h = absurd (cc)
answer_time (act.Shift left by) mask time h = absurd (cc)
answer_time act.Mux mask time h = absurd (cc)
answer_time (act.Cast to) mask time h = absurd (cc)
answer_time act.Write mask time h = absurd (cc)
answer_time act.Enq mask time h = absurd (cc)
answer_time act.Reset mask time h = absurd (cc)

-- what an act gives that isn't masked, by what its operation did
module _ (s : Signals) (u : ℕ) (scope : Scope) (ty : Ty) (time : ℕ) (ws : List ℕ) (e : Entry) where
  pub act_gives : (k : OpKind) (a : Act) → IsActOf k a → IsTrue (gives_word a) → (touches_memory k ≡ false → e ≡ gave (computed_word scope k ty ws)) → (touches_memory k ≡ true → IsTouch k ws e)
      → (is_given a ≡ true → s.net u (net_of a) ≡ computed_word scope k ty []) → ((indices : List ℕ) (w : ℕ) → is_answered a ≡ true → e ≡ touched indices w → s.net (u + (time + answer_of a)) (net_of a) ≡ w)
      → act_word s u ty time a ws ≡ word_of e
  act_gives _ _ (of_word w) g computes touches given answered = sym (ap word_of (computes refl))
  act_gives _ _ (of_count c lane net) g computes touches given answered = given refl ∙ sym (ap word_of (computes refl))
  act_gives _ _ (of_live c first last net) g computes touches given answered = given refl ∙ sym (ap word_of (computes refl))
  act_gives _ _ (of_one op) g computes touches given answered = sym (ap word_of (computes refl))
  act_gives _ _ (of_two op) g computes touches given answered = sym (ap word_of (computes refl))
  act_gives _ _ (of_shift left by) g computes touches given answered = sym (ap word_of (computes refl))
  act_gives _ _ of_mux g computes touches given answered = sym (ap word_of (computes refl))
  act_gives _ _ (of_cast to) g computes touches given answered = sym (ap word_of (computes refl))
  act_gives _ _ (of_read net after) g computes touches given answered =
      let t = touches refl in answered _ t.word refl t.entry ∙ sym (ap word_of t.entry)
  act_gives _ _ (of_deq net after) g computes touches given answered =
      let t = touches refl in answered _ t.word refl t.entry ∙ sym (ap word_of t.entry)
  act_gives _ _ of_write g computes touches given answered = absurd (cc)
  act_gives _ _ of_enq g computes touches given answered = absurd (cc)
  act_gives _ _ of_reset g computes touches given answered = absurd (cc)

bit_test : (w : ℕ) → w < 2 → (w == 1) ≡ not (w == 0)
bit_test zero l = refl
bit_test (suc zero) l = refl
bit_test (suc (suc w)) l = absurd (omega (arith, l))

-- the mask of the operation at a place is a bit
bits_at : (ops : List PlainOp) (es : List Entry) → MasksAreBits ops es → (k : ℕ) (op : PlainOp) → IsOpAt ops k op → (m : ℕ) → op.mask ≡ Some m → word_at es m < 2
bits_at [] es h k op at m e = let l = at.within in absurd (omega (arith, l))
bits_at (o ∷ ops) es h zero op at m e = h.0 m (ap (λ (x : PlainOp). x.mask) (at.is op) ∙ e)
bits_at (o ∷ ops) es h (suc k) op at m e = bits_at ops es h.1 k op (record { within = (let l = at.within in omega (arith, l)); is = at.is }) m e

op_at : (ops : List PlainOp) (k : ℕ) (other : PlainOp) → k < length ops → IsOpAt ops k (slice_index_or ops k other)
op_at [] k other l = absurd (omega (arith, l))
op_at (o ∷ ops) zero other l = record { within = l; is = λ x. refl }
op_at (o ∷ ops) (suc k) other l = let r = op_at ops k other (omega (arith, l)) in record { within = l; is = r.is }

module _ (d : Draft) (scope : Scope) (ops : List PlainOp) (ps : List PipeOp) (es : List Entry) (s : Signals) (u last : ℕ) (group : IsGroup d scope ops ps es)
    (given : AreGiven s u scope ops ps) (answered : AreAnswered s u last ps es) where
  abbrev AgreesAt : (k : ℕ) → Type 0
  AgreesAt k = (p : PipeOp) → IsAt ps k p → IsTrue (gives_word p.act) → u + time_of p.act p.mask p.time ≤ last → slice_index (words_of s u ps) k ≡ word_at es k

  -- the words of the operations before one
  module _ (k : ℕ) (p : PipeOp) (at : IsAt ps k p) (before : (j : ℕ) → j < k → AgreesAt j) where
    abbrev op : PlainOp
    op = slice_index_or ops k (record { kind = kind.Mux; ty = p.ty; args = []; mem = None; mask = None })

    op_there : IsOpAt ops k op
    op_there = op_at ops k _ (let l = at.within in let e = group.ops_of.each in omega (arith, l, e))

    alike : IsOpOf op p
    alike = group.ops_of.alike k op p op_there at

    fits : OpFits d (take k ps) p
    fits = group.fits k p at

    did : Did scope op (take k es) (entry_at es k)
    did = group.entries.did k op op_there

    earlier_entry : (j : ℕ) → j < k → word_at (take k es) j ≡ word_at es j
    earlier_entry j l = ap word_of (get_or-take k es j left_out l)

    taken_word : (j width time : ℕ) → IsTaken (take k ps) j width time → u + time ≤ last → (j < k) × (slice_index (words_of s u ps) j ≡ word_at es j)
    taken_word j width time t late =
        let l = t.at.within in
        let n = length-take k ps in
        let w = at.within in
        let below : j < k = omega (arith, l, n, w) in
        let i = t.in_time in
        (below, before j below t.op (record { within = omega (arith, below, w); is = λ other. sym (get_or-take k ps j other below) ∙ t.at.is other }) t.gives (omega (arith, i, late)))

    -- as they stand after those before it
    taken_here : (j width time : ℕ) → IsTaken (take k ps) j width time → u + time ≤ last → slice_index (words_of s u (take k ps)) j ≡ word_at (take k es) j
    taken_here j width time t late =
        let w = taken_word j width time t late in
        let l = at.within in
        sym (earlier_word s u ps k j (omega (arith, l)) w.0) ∙ w.1 ∙ sym (earlier_entry j w.0)

    -- the mask says the same, as it stands after those before the operation and after all
    wanted_by : (mask : Option ℕ) → mask ≡ op.mask → IfSome mask (λ m. IsTaken (take k ps) m 1 p.time) → u + p.time ≤ last
        → (is_wanted (words_of s u ps) mask ≡ not (is_masked op.mask (take k es))) × (is_wanted (words_of s u (take k ps)) mask ≡ not (is_masked op.mask (take k es)))
    wanted_by None e t late = (ap (λ m. not (is_masked m (take k es))) e, ap (λ m. not (is_masked m (take k es))) e)
    wanted_by (Some m) e t late =
        let w = taken_word m 1 p.time t late in
        let h = taken_here m 1 p.time t late in
        let bit = bit_test (word_at es m) (bits_at ops es group.bits k op op_there m (sym e)) in
        let same = ap (λ x. not (x == 0)) (sym (earlier_entry m w.0)) ∙ ap (λ x. not (is_masked x (take k es))) e in
        (ap (λ x. x == 1) w.1 ∙ bit ∙ same, ap (λ x. x == 1) (h ∙ earlier_entry m w.0) ∙ bit ∙ same)

    module _ (late : u + p.time ≤ last) where
      words_taken : map (slice_index (words_of s u (take k ps))) p.args.items ≡ map (word_at (take k es)) op.args
      words_taken =
          map_same (slice_index (words_of s u (take k ps))) (word_at (take k es)) p.args.items p.args.items refl (λ i l. taken_here _ _ p.time (fits.args i l) late)
          ∙ ap (map (word_at (take k es))) alike.taken

      pub made : is_wanted (words_of s u ps) p.mask ≡ is_made (entry_at es k)
      made = (wanted_by p.mask alike.masks fits.mask late).0 ∙ by_mask (is_masked op.mask (take k es)) refl (touches_memory op.kind) refl
        where
          by_mask : (b : Bool) → is_masked op.mask (take k es) ≡ b → (c : Bool) → touches_memory op.kind ≡ c → not b ≡ is_made (entry_at es k)
          by_mask true e c f = sym (ap is_made (did.masked e))
          by_mask false e true f = sym (ap is_made (did.touches e f).entry)
          by_mask false e false f = sym (ap is_made (did.computes e f))

    -- the word of the operation itself
    module _ (gives : IsTrue (gives_word p.act)) (over : u + time_of p.act p.mask p.time ≤ last) where
      -- one that takes words is in time to take them
      no_words : (n : ℕ) → n ≡ length p.args.items → (n ≡ 0) ⊎ (u + p.time ≤ last)
      no_words zero e = inl refl
      no_words (suc n) e = inr (let l = late_with_words p.act p.mask (length p.args.items) p.time fits.count (omega (arith, e)) in omega (arith, l, over))

      in_time_masked : (mask : Option ℕ) → p.mask ≡ mask → (mask ≡ None) ⊎ (u + p.time ≤ last)
      in_time_masked None e = inl refl
      in_time_masked (Some m) e = inr (let l = late_masked p.act p.time in let o = ap (λ x. time_of p.act x p.time) e in omega (arith, l, o, over))

      words_same : map (slice_index (words_of s u (take k ps))) p.args.items ≡ map (word_at (take k es)) op.args
      words_same = by_count (no_words (length p.args.items) refl)
        where
          none_taken : (args : List ℕ) (f g : ℕ → ℕ) → length args ≡ 0 → map f args ≡ map g args
          none_taken [] f g e = refl
          none_taken (a ∷ args) f g e = absurd (omega (arith, e))

          by_count : (length p.args.items ≡ 0) ⊎ (u + p.time ≤ last) → map (slice_index (words_of s u (take k ps))) p.args.items ≡ map (word_at (take k es)) op.args
          by_count (inl e) = none_taken p.args.items _ (word_at (take k es)) e ∙ ap (map (word_at (take k es))) alike.taken
          by_count (inr l) = words_taken l

      wanted_same : is_wanted (words_of s u (take k ps)) p.mask ≡ not (is_masked op.mask (take k es))
      wanted_same = by_side (in_time_masked p.mask refl)
        where
          by_side : (p.mask ≡ None) ⊎ (u + p.time ≤ last) → is_wanted (words_of s u (take k ps)) p.mask ≡ not (is_masked op.mask (take k es))
          by_side (inl e) = ap (is_wanted (words_of s u (take k ps))) e ∙ ap (λ m. not (is_masked m (take k es))) (sym e ∙ alike.masks)
          by_side (inr l) = (wanted_by p.mask alike.masks fits.mask l).1

      given_here : is_given p.act ≡ true → s.net u (net_of p.act) ≡ computed_word scope op.kind op.ty []
      given_here f = given k op p op_there at f

      answered_here : (indices : List ℕ) (w : ℕ) → is_answered p.act ≡ true → entry_at es k ≡ touched indices w → s.net (u + (p.time + answer_of p.act)) (net_of p.act) ≡ w
      answered_here indices w f e = answered k p indices w at f e (let t = answer_time p.act p.mask p.time f in omega (arith, t, over))

      pub agrees : slice_index (words_of s u ps) k ≡ word_at es k
      agrees =
          pipe_word s u ps k p at
          ∙ ap (λ ws. if is_wanted (words_of s u (take k ps)) p.mask then act_word s u p.ty p.time p.act ws else 0) words_same
          ∙ ap (λ b. if b then act_word s u p.ty p.time p.act (map (word_at (take k es)) op.args) else 0) wanted_same
          ∙ by_mask (is_masked op.mask (take k es)) refl
        where
          by_mask : (b : Bool) → is_masked op.mask (take k es) ≡ b → (if not b then act_word s u p.ty p.time p.act (map (word_at (take k es)) op.args) else 0) ≡ word_at es k
          by_mask true e = sym (ap word_of (did.masked e))
          by_mask false e =
              ap (λ ty. act_word s u ty p.time p.act (map (word_at (take k es)) op.args)) alike.types
              ∙ act_gives s u scope op.ty p.time (map (word_at (take k es)) op.args) (entry_at es k) op.kind p.act alike.kinds gives (did.computes e) (did.touches e) given_here answered_here

  all_agree : (n k : ℕ) → k < n → AgreesAt k
  all_agree zero k l = absurd (omega (arith, l))
  all_agree (suc n) k l = λ p at gives over. agrees k p at (λ j m. all_agree n j (omega (arith, l, m))) gives over

  pub words_agree : (k : ℕ) (p : PipeOp) → IsAt ps k p → IsTrue (gives_word p.act) → u + time_of p.act p.mask p.time ≤ last → slice_index (words_of s u ps) k ≡ word_at es k
  words_agree k p at gives over = all_agree (suc k) k (omega arith) p at gives over

  pub acts_agree : RunsOn s d.cells → (issue enable : ℕ) (operands : List ℕ) (k : ℕ) (p : PipeOp) → IsAt ps k p → ActsAt d issue ps p enable operands → u + p.time ≤ last → ActsAsMade s issue u p es (entry_at es k) enable operands
  acts_agree r issue enable operands k p at acts late = record {
    enabled = acts.enabled s r u ∙ ap (λ b. is_on s issue u && b) (made k p at (λ j m. all_agree (suc j) j (omega arith)) late);
    words = map_same (s.net (u + p.time)) (word_at es) operands p.args.items acts.taken.each (λ i l. one i (let e = acts.taken.each in omega (arith, e, l)));
  }
    where
      one : (i : ℕ) → i < length p.args.items → s.net (u + p.time) (slice_index operands i) ≡ word_at es (slice_index p.args.items i)
      one i l =
          let t = (group.fits k p at).args i l in
          acts.taken.words i l s r u ∙ (taken_word k p at (λ j m. all_agree (suc j) j (omega arith)) (slice_index p.args.items i) _ p.time t late).1
