-- The words that an operation takes, one more at a time.
use Rattle.std.proofs.Common.{◌≡◌, ℕ, ◌+◌, ◌<◌, ◌⊎◌, inl, inr, List, [], ◌∷◌, ◌++◌, length, slice_index, slice_index_or, take, refl, sym, ap, subst, ◌∙◌, arith}
use Rattle.std.proofs.lemmas.List.{length_push, get_or_append_left, get_or_push, get_or_default}
use Rattle.sp_netlist.specs.Draft.{Draft}
use Rattle.sp_gates.specs.Nets.{HasNet}
use Rattle.sp_words.specs.declared.types.Ty.{Ty}
use Rattle.sp_pipe.specs.declared.part.Act.{Act}
use Rattle.sp_pipe.specs.declared.part.PipeOp.{PipeOp}
use Rattle.sp_pipe.specs.declared.words.Stage.{Stage}
use Rattle.sp_pipe.specs.Right.{IsAt, IsTaken}
use Rattle.sp_pipe.specs.Acts.{HasWord, StageAt, AreStages, AreOperandsTo}
use Rattle.sp_pipe.specs.Values.{taken_width}

pub no_operands : (d : Draft) (ops : List PipeOp) (op : PipeOp) (nets : List ℕ) → nets ≡ [] → AreOperandsTo d ops op nets 0
no_operands d ops op nets e = record { each = ap length e; nets = λ i l. absurd (omega (arith, l)); words = λ i l. absurd (omega (arith, l)) }

module _ (d : Draft) (ops : List PipeOp) (op : PipeOp) (nets : List ℕ) (n : ℕ) (h : AreOperandsTo d ops op nets n) (net : ℕ) where
  pub operand_pushed : HasNet d net (taken_width op.act op.ty (length op.args.items) n) → HasWord d net op.time ops (slice_index op.args.items n) → AreOperandsTo d ops op (nets ++ net ∷ []) (n + 1)
  operand_pushed stands word = record {
    each = length_push nets net ∙ ap (λ k. k + 1) h.each;
    nets = λ i l. place (λ x j. HasNet d x (taken_width op.act op.ty (length op.args.items) j)) stands h.nets i (split i l);
    words = λ i l. place (λ x j. HasWord d x op.time ops (slice_index op.args.items j)) word h.words i (split i l);
  }
    where
      split : (i : ℕ) → i < n + 1 → (i < n) ⊎ (i ≡ n)
      split i l = grind arith

      place : (P : ℕ → ℕ → Type 0) → P net n → ((i : ℕ) → i < n → P (slice_index nets i) i) → (i : ℕ) → (i < n) ⊎ (i ≡ n) → P (slice_index (nets ++ net ∷ []) i) i
      place P new old i (inl below) = subst (λ x. P x i) (sym (get_or_append_left nets (net ∷ []) 0 i (let e = h.each in omega (arith, e, below)))) (old i below)
      place P new old i (inr same) = subst (λ x. P x i) (sym (get_or_push nets net 0 i (h.each ∙ sym same))) (subst (P net) (sym same) new)

pub operand_taken : (earlier : List PipeOp) (args : List ℕ) (act : Act) (ty : Ty) (time i r count width : ℕ) → i < length args → count ≡ length args → r ≡ slice_index_or args i r → width ≡ taken_width act ty count i
    → ((j : ℕ) → j < length args → IsTaken earlier (slice_index args j) (taken_width act ty (length args) j) time) → IsTaken earlier r width time
operand_taken earlier args act ty time i r count width l e is w h =
    subst (λ p. IsTaken earlier p width time) (sym (is ∙ get_or_default args i r 0 l))
    (subst (λ v. IsTaken earlier (slice_index args i) v time) (sym (w ∙ ap (λ n. taken_width act ty n i) e)) (h i l))

-- what is known of the net of the word at a place
pub operand_more : (d : Draft) (ops : List PipeOp) (op : PipeOp) (nets : List ℕ) (n : ℕ) → AreOperandsTo d ops op nets n → (net r count width : ℕ) → n < length op.args.items → count ≡ length op.args.items → r ≡ slice_index_or op.args.items n r
    → width ≡ taken_width op.act op.ty count n → HasNet d net width → HasWord d net op.time ops r → AreOperandsTo d ops op (nets ++ net ∷ []) (n + 1)
operand_more d ops op nets n h net r count width l e is w stands word =
    operand_pushed d ops op nets n h net (subst (λ v. HasNet d net v) (w ∙ ap (λ k. taken_width op.act op.ty k n) e) stands)
    (subst (λ p. HasWord d net op.time ops p) (is ∙ get_or_default op.args.items n r 0 l) word)

-- the operation at a place of a list
pub item_at : (ops : List PipeOp) (k j : ℕ) (op : PipeOp) → k ≡ j → j < length ops → op ≡ slice_index_or ops j op → IsAt ops k op
item_at ops k j op same l e = record { within = subst (λ x. x < length ops) (sym same) l; is = λ other. ap (λ x. slice_index_or ops x other) same ∙ get_or_default ops j other op l ∙ sym e }

-- one more stage
pub stage_pushed : (d : Draft) (stages : List Stage) (ops : List PipeOp) (stage : Stage) → AreStages d stages ops → StageAt d stage ops (length stages) → AreStages d (stages ++ stage ∷ []) ops
stage_pushed d stages ops stage h here = λ k other l. go k other (split k (let n = length_push stages stage in omega (arith, n, l)))
  where
    split : (k : ℕ) → k < length stages + 1 → (k < length stages) ⊎ (k ≡ length stages)
    split k l = grind arith

    go : (k : ℕ) (other : Stage) → (k < length stages) ⊎ (k ≡ length stages) → StageAt d (slice_index_or (stages ++ stage ∷ []) k other) ops k
    go k other (inl below) = subst (λ x. StageAt d x ops k) (sym (get_or_append_left stages (stage ∷ []) other k below)) (h k other below)
    go k other (inr same) = subst (λ x. StageAt d x ops k) (sym (get_or_push stages stage other k (sym same))) (subst (StageAt d stage ops) (sym same) here)

-- an operation is taken from a list of which all are done
pub taken_of_all : (ops : List PipeOp) (n k width time : ℕ) → n ≡ length ops → IsTaken ops k width time → IsTaken (take n ops) k width time
taken_of_all ops n k width time e h = subst (λ os. IsTaken os k width time) (sym (ap (λ m. take m ops) e ∙ take_whole ops)) h
  where
    take_whole : (xs : List PipeOp) → take (length xs) xs ≡ xs
    take_whole [] = refl
    take_whole (x ∷ xs) = ap (λ ys. x ∷ ys) (take_whole xs)
