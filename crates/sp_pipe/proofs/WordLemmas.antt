-- The words of operations, one by one.
use Rattle.std.proofs.Common.{◌≡◌, ℕ, zero, suc, ◌+◌, ◌-◌, ◌==◌, ◌<◌, ◌≤◌, if◌then◌else◌, IsTrue, IfSome, Option, Some, None, List, [], ◌∷◌, ◌++◌, map, length, take, drop, slice_index, slice_index_or, refl, sym, ap, ap₂, subst, ◌∙◌, arith, length-append, length-take, take-append-drop, drop-cons, get_or-take}
use Rattle.std.proofs.lemmas.List.{get_or_append_left, get_or_push}
use Rattle.sp_netlist.specs.Signals.{Signals}
use Rattle.sp_netlist.specs.Draft.{Draft}
use Rattle.sp_gates.specs.Grows.{Grows}
use Rattle.sp_gates.specs.Nets.{HasNet}
use Rattle.sp_gates.specs.Runs.{RunsOn}
use Rattle.sp_gates.proofs.Running.{runs_earlier}
use Rattle.sp_pipe.specs.declared.part.PipeOp.{PipeOp}
use Rattle.sp_pipe.specs.declared.words.Stage.{Stage}
use Rattle.sp_pipe.specs.Acts.{HasWord, IsStage, StageAt, AreStages, AreOperands, IsComputed, IsMasked}
use Rattle.sp_pipe.specs.Right.{IsAt, IsTaken, OpFits}
use Rattle.sp_pipe.specs.Values.{gives_word, given_width, word_time, time_of, act_word, is_wanted, op_word, words_after, words_of}

-- two lists that are alike place by place under two functions
pub map_same : (f g : ℕ → ℕ) (xs ys : List ℕ) → length xs ≡ length ys → ((i : ℕ) → i < length xs → f (slice_index xs i) ≡ g (slice_index ys i)) → map f xs ≡ map g ys
map_same f g [] [] e h = refl
map_same f g (x ∷ xs) (y ∷ ys) e h = ap₂ (λ a b. a ∷ b) (h 0 (omega arith)) (map_same f g xs ys (omega (arith, e)) (λ i l. h (suc i) (omega (arith, l))))
map_same f g [] (y ∷ ys) e h = absurd (omega (arith, e))
map_same f g (x ∷ xs) [] e h = absurd (omega (arith, e))

pub map_at : (f : ℕ → ℕ) (xs : List ℕ) (i : ℕ) → i < length xs → slice_index (map f xs) i ≡ f (slice_index xs i)
map_at f [] i l = absurd (omega (arith, l))
map_at f (x ∷ xs) zero l = refl
map_at f (x ∷ xs) (suc i) l = map_at f xs i (omega (arith, l))

module _ (s : Signals) (u : ℕ) where
  after_append : (ws : List ℕ) (xs ys : List PipeOp) → words_after s u ws (xs ++ ys) ≡ words_after s u (words_after s u ws xs) ys
  unfolding words_after
  after_append ws [] ys = refl
  after_append ws (x ∷ xs) ys = after_append (ws ++ op_word s u ws x ∷ []) xs ys

  after_length : (ws : List ℕ) (xs : List PipeOp) → length (words_after s u ws xs) ≡ length ws + length xs
  unfolding words_after
  after_length ws [] = omega arith
  after_length ws (x ∷ xs) =
      let e = after_length (ws ++ op_word s u ws x ∷ []) xs in
      let n = length-append ws (op_word s u ws x ∷ []) in omega (arith, e, n)

  -- words that stand are kept
  after_kept : (ws : List ℕ) (xs : List PipeOp) (k : ℕ) → k < length ws → slice_index (words_after s u ws xs) k ≡ slice_index ws k
  unfolding words_after
  after_kept ws [] k l = refl
  after_kept ws (x ∷ xs) k l =
      after_kept (ws ++ op_word s u ws x ∷ []) xs k (let n = length-append ws (op_word s u ws x ∷ []) in omega (arith, n, l))
      ∙ get_or_append_left ws (op_word s u ws x ∷ []) 0 k l

  -- the words of all operations and of those before one
  pub earlier_word : (ops : List PipeOp) (k j : ℕ) → k ≤ length ops → j < k → slice_index (words_of s u ops) j ≡ slice_index (words_of s u (take k ops)) j
  earlier_word ops k j l m =
      ap (λ os. slice_index (words_of s u os) j) (sym (take-append-drop k ops))
      ∙ ap (λ ws. slice_index ws j) (after_append [] (take k ops) (drop k ops))
      ∙ after_kept (words_of s u (take k ops)) (drop k ops) j (let n = after_length [] (take k ops) in let h = length-take k ops in omega (arith, n, h, l, m))

  -- the word of one operation, from those before it
  pub word_at : (ops : List PipeOp) (k : ℕ) (op : PipeOp) → IsAt ops k op → slice_index (words_of s u ops) k ≡ op_word s u (words_of s u (take k ops)) op
  unfolding words_after
  word_at ops k op at =
      ap (λ os. slice_index (words_of s u os) k) (sym (take-append-drop k ops) ∙ ap (λ r. take k ops ++ r) (drop-cons ops k op at.within ∙ ap (λ o. o ∷ drop (suc k) ops) (at.is op)))
      ∙ ap (λ ws. slice_index ws k) (after_append [] (take k ops) (op ∷ drop (suc k) ops))
      ∙ after_kept (words_of s u (take k ops) ++ here ∷ []) (drop (suc k) ops) k (let n = length-append (words_of s u (take k ops)) (here ∷ []) in let m = size in omega (arith, n, m))
      ∙ get_or_push (words_of s u (take k ops)) here 0 k size
    where
      here : ℕ
      here = op_word s u (words_of s u (take k ops)) op

      size : length (words_of s u (take k ops)) ≡ k
      size = let n = after_length [] (take k ops) in let h = length-take k ops in let l = at.within in omega (arith, n, h, l)

-- an operation's stage, from the nets of the words that it takes
module _ (d first : Draft) (ops : List PipeOp) (k : ℕ) (op : PipeOp) (at : IsAt ops k op) (operands : List ℕ) where
  wanted_before : (s : Signals) (u : ℕ) (mask : Option ℕ) → IfSome mask (λ m. IsTaken (take k ops) m 1 op.time) → is_wanted (words_of s u ops) mask ≡ is_wanted (words_of s u (take k ops)) mask
  wanted_before s u None h = refl
  wanted_before s u (Some m) h =
      let below = h.at.within in
      let n = length-take k ops in
      let l = at.within in
      ap (λ w. w == 1) (earlier_word s u ops k m (omega (arith, l)) (omega (arith, below, n, l)))

  pub stage_at : OpFits first (take k ops) op → AreOperands d ops op operands → (given net time : ℕ) → time ≡ time_of op.act op.mask op.time
      → (IsTrue (gives_word op.act) → HasNet d net (given_width op.act op.ty)) → (IsTrue (gives_word op.act) → IsComputed d given op operands) → (IsTrue (gives_word op.act) → IsMasked d net given ops op)
      → StageAt d (record { net = net; time = time }) ops k
  stage_at fits taken given net time e stands computes masks = λ other there.
      subst (λ o. IsTrue (gives_word o.act) → IsStage d (record { net = net; time = time }) (given_width o.act o.ty) (time_of o.act o.mask o.time) ops k) (sym (at.is op) ∙ there.is op) (λ gives. record {
        net = stands gives;
        when = e;
        gives = λ s r u.
            masks gives s r u
            ∙ ap (λ w. if is_wanted (words_of s u ops) op.mask then w else 0) (computes gives s r u
            ∙ ap (act_word s u op.ty op.time op.act) (map_same (s.net (u + op.time)) (slice_index (words_of s u (take k ops))) operands op.args.items taken.each (λ i l.
            let within : i < length op.args.items = (let n = taken.each in omega (arith, n, l)) in
            let below = (fits.args i within).at.within in
            let n = length-take k ops in
            let m = at.within in
            taken.words i within s r u ∙ earlier_word s u ops k (slice_index op.args.items i) (omega (arith, m)) (omega (arith, below, n, m)))))
            ∙ ap (λ b. if b then act_word s u op.ty op.time op.act (map (slice_index (words_of s u (take k ops))) op.args.items) else 0) (wanted_before s u op.mask fits.mask)
            ∙ sym (word_at s u ops k op at);
      })

-- an earlier operation whose word is taken
module _ (d : Draft) (stages : List Stage) (ops : List PipeOp) (k width time : ℕ) (fits : length stages ≤ length ops) (is : IsTaken (take (length stages) ops) k width time) (h : AreStages d stages ops)
    (stage : Stage) (stage_is : stage ≡ slice_index_or stages k stage) where
  pub taken_within : k < length stages
  taken_within = let e = is.at.within in let n = length-take (length stages) ops in omega (arith, e, n, fits)

  same_op : IsAt ops k is.op
  same_op = let l = taken_within in record { within = omega (arith, l, fits); is = λ other. sym (get_or-take (length stages) ops k other l) ∙ is.at.is other }

  the_stage : IsStage d stage width (time_of is.op.act is.op.mask is.op.time) ops k
  the_stage = subst (λ x. IsStage d x width (time_of is.op.act is.op.mask is.op.time) ops k) (sym stage_is)
      (subst (λ w. IsStage d (slice_index_or stages k stage) w (time_of is.op.act is.op.mask is.op.time) ops k) is.wide (h k stage taken_within is.op same_op is.gives))

  pub taken_net : HasNet d stage.net width
  taken_net = the_stage.net

  pub taken_in_time : stage.time ≤ time
  taken_in_time = let e = the_stage.when in let l = is.in_time in omega (arith, e, l)

  pub taken_late : (new : Draft) (late : ℕ) → Grows d new → ((s : Signals) → RunsOn s new.cells → (t : ℕ) → s.net (t + (time - stage.time)) late ≡ s.net t stage.net) → HasWord new late time ops k
  taken_late new late g later = λ s r u.
      let l = taken_in_time in
      let e : u + time ≡ (u + stage.time) + (time - stage.time) = omega (arith, l) in
      let w : u + stage.time ≡ u + time_of is.op.act is.op.mask is.op.time = ap (λ n. u + n) the_stage.when in
      ap (λ x. s.net x late) e ∙ later s r (u + stage.time) ∙ ap (λ x. s.net x stage.net) w ∙ the_stage.gives s (runs_earlier d new s g r) u
