-- The operations of the worked loop, and the nets that they act on.
use Rattle.std.proofs.Common.{◌≡◌, ℕ, zero, suc, ◌<◌, ◌≤◌, ◌^◌, ◌==◌, true, false, IsTrue, IfSome, List, [], ◌∷◌, ◌++◌, length, slice_index, slice_index_or, None, refl, sym, ap, ap₂, subst, ◌∙◌, arith, lit<}
use Rattle.std.proofs.lemmas.List.{get_or_default}
use Rattle.sp_words.specs.Types.{int_type}
use Rattle.sp_words.specs.declared.kind.BinOp.TheVariants.{Add}
use Rattle.sp_netlist.specs.Draft.{Draft}
use Rattle.sp_gates.specs.Nets.{HasNet}
use Rattle.sp_pipe.specs.declared.part.Act.{Act}
use Rattle.sp_pipe.specs.declared.part.Act.TheVariants.{Given, Two, Write}
use Rattle.sp_pipe.specs.declared.part.PipeOp.{PipeOp}
use Rattle.sp_pipe.specs.Acts.{AreActs, none, passed, acted}
use Rattle.sp_pipe.specs.Right.{IsTaken, ActFits, OpFits, OpsFit}
use Rattle.sp_pipe.specs.Values.{gives_word, is_access, time_of, given_width, taken_width, takes}
use Rattle.sp_worked_parts.specs.Counted.{IsOp, AreDoubled}

module _ (act : Act) (args : List ℕ) (time : ℕ) (op : PipeOp) (h : IsOp act args time op) where
  fits_act : (d : Draft) → ActFits d int_type act → ActFits d op.ty op.act
  fits_act d k = subst (λ t. ActFits d t op.act) (sym h.ty_is) (subst (ActFits d int_type) (sym h.act_is) k)

  fits_count : takes act (length args) ≡ true → takes op.act (length op.args.items) ≡ true
  fits_count e = ap₂ takes h.act_is (ap length h.args_is) ∙ e

  fits_mask : (earlier : List PipeOp) → IfSome op.mask (λ m. IsTaken earlier m 1 op.time)
  fits_mask earlier = subst (λ m. IfSome m (λ k. IsTaken earlier k 1 op.time)) (sym h.mask_is) tt

  own_time : time_of op.act op.mask op.time ≡ time_of act None time
  own_time = ap₂ (λ x m. time_of x m op.time) h.act_is h.mask_is ∙ ap (time_of act None) h.time_is

  -- the operation's word is taken
  taken : (earlier : List PipeOp) (k width late : ℕ) → k < length earlier → ((other : PipeOp) → slice_index_or earlier k other ≡ op) → IsTrue (gives_word act) → given_width act int_type ≡ width → time_of act None time ≤ late
      → IsTaken earlier k width late
  taken earlier k width late within is gives wide in_time = record {
    op = op;
    at = record { within = within; is = is };
    gives = subst (λ x. IsTrue (gives_word x)) (sym h.act_is) gives;
    wide = ap₂ given_width h.act_is h.ty_is ∙ wide;
    in_time = let t = own_time in omega (arith, t, in_time);
  }

  fits : (d : Draft) (earlier : List PipeOp) → ActFits d int_type act → takes act (length args) ≡ true → ((i : ℕ) → i < length args → IsTaken earlier (slice_index args i) (taken_width act int_type (length args) i) time) → time_of act None time < 2 ^ 32
      → OpFits d earlier op
  fits d earlier k count each small = record {
    act = fits_act d k;
    count = fits_count count;
    args = λ i l.
        let m : i < length args = (let e = ap length h.args_is in omega (arith, l, e)) in
        subst (λ n. IsTaken earlier (slice_index op.args.items i) (taken_width op.act op.ty (length op.args.items) i) n) (sym h.time_is)
        (subst (λ n. IsTaken earlier (slice_index op.args.items i) n time) (sym (ap₂ (λ x y. taken_width x y (length op.args.items) i) h.act_is h.ty_is ∙ ap (λ n. taken_width act int_type n i) (ap length h.args_is)))
        (subst (λ xs. IsTaken earlier (slice_index xs i) (taken_width act int_type (length args) i) time) (sym h.args_is) (each i m)));
    mask = fits_mask earlier;
    time = let t = own_time in omega (arith, t, small);
  }

module _ (value : ℕ) (given sum write : PipeOp) (a : IsOp (Given value) [] 0 given) (b : IsOp (Two Add) (0 ∷ 0 ∷ []) 0 sum) (c : IsOp Write (0 ∷ 1 ∷ []) 1 write) (d : Draft) (stands : HasNet d value 32) where
  given_fits : OpFits d [] given
  given_fits = fits (Given value) [] 0 given a d [] stands refl (λ i l. absurd (omega (arith, l))) (lit< tt)

  sum_fits : OpFits d (given ∷ []) sum
  sum_fits = fits (Two Add) (0 ∷ 0 ∷ []) 0 sum b d (given ∷ []) tt refl each (lit< tt)
    where
      each : (i : ℕ) → i < 2 → IsTaken (given ∷ []) (slice_index (0 ∷ 0 ∷ []) i) (taken_width (Two Add) int_type 2 i) 0
      each zero l = taken (Given value) [] 0 given a (given ∷ []) 0 32 0 (omega arith) (λ other. refl) refl refl (omega arith)
      each (suc zero) l = taken (Given value) [] 0 given a (given ∷ []) 0 32 0 (omega arith) (λ other. refl) refl refl (omega arith)
      each (suc (suc i)) l = absurd (omega (arith, l))

  write_fits : OpFits d (given ∷ sum ∷ []) write
  write_fits = fits Write (0 ∷ 1 ∷ []) 1 write c d (given ∷ sum ∷ []) tt refl each (lit< tt)
    where
      each : (i : ℕ) → i < 2 → IsTaken (given ∷ sum ∷ []) (slice_index (0 ∷ 1 ∷ []) i) (taken_width Write int_type 2 i) 1
      each zero l = taken (Given value) [] 0 given a (given ∷ sum ∷ []) 0 32 1 (omega arith) (λ other. refl) refl refl (omega arith)
      each (suc zero) l = taken (Two Add) (0 ∷ 0 ∷ []) 0 sum b (given ∷ sum ∷ []) 1 32 1 (omega arith) (λ other. refl) refl refl (omega arith)
      each (suc (suc i)) l = absurd (omega (arith, l))

  three_fit : OpsFit d (given ∷ sum ∷ write ∷ [])
  three_fit zero op at = subst (OpFits d []) (at.is op) given_fits
  three_fit (suc zero) op at = subst (OpFits d (given ∷ [])) (at.is op) sum_fits
  three_fit (suc (suc zero)) op at = subst (OpFits d (given ∷ sum ∷ [])) (at.is op) write_fits
  three_fit (suc (suc (suc k))) op at = let l = at.within in absurd (omega (arith, l))

pub doubled_fit : (value : ℕ) (ops : List PipeOp) (d : Draft) → AreDoubled value ops → HasNet d value 32 → OpsFit d ops
doubled_fit value ops d h stands = subst (OpsFit d) (sym h.are) (three_fit value h.given h.sum h.write h.given_is h.sum_is h.write_is d stands)

-- the nets of the one access: its enable, its index and its word
pub record AreThree (d : Draft) (nets : List ℕ) : Type 0 where
  pub long : length nets ≡ 3
  pub enable : HasNet d (slice_index nets 0) 1
  pub index : HasNet d (slice_index nets 1) 32
  pub word : HasNet d (slice_index nets 2) 32

module _ (d : Draft) (issue : ℕ) (all : List PipeOp) (value : ℕ) (given sum write : PipeOp) (a : IsOp (Given value) [] 0 given) (b : IsOp (Two Add) (0 ∷ 0 ∷ []) 0 sum) (c : IsOp Write (0 ∷ 1 ∷ []) 1 write) where
  operands_are : (enable : ℕ) (operands : List ℕ) → HasNet d enable 1 → length operands ≡ 2 → ((i : ℕ) → i < 2 → HasNet d (slice_index operands i) (taken_width write.act write.ty (length write.args.items) i)) → AreThree d (enable ∷ operands ++ [])
  operands_are enable [] e long h = absurd (omega (arith, long))
  operands_are enable (x ∷ []) e long h = absurd (omega (arith, long))
  operands_are enable (x ∷ y ∷ z ∷ xs) e long h = absurd (omega (arith, long))
  operands_are enable (x ∷ y ∷ []) e long h = record {
    long = refl;
    enable = e;
    index = subst (HasNet d x) (wide 0) (h 0 (omega arith));
    word = subst (HasNet d y) (wide 1) (h 1 (omega arith));
  }
    where
      wide : (i : ℕ) → taken_width write.act write.ty (length write.args.items) i ≡ taken_width Write int_type 2 i
      wide i = ap₂ (λ x y. taken_width x y (length write.args.items) i) c.act_is c.ty_is ∙ ap (λ n. taken_width Write int_type n i) (ap length c.args_is)

  acts_are : (nets : List ℕ) → AreActs d issue all (given ∷ sum ∷ write ∷ []) nets → AreThree d nets
  acts_are _ (passed h (passed k (acted {enable = enable} {operands = operands} m at none))) =
      let two = ap length c.args_is in
      let each = at.taken.each in
      operands_are enable operands at.net (omega (arith, each, two)) (λ i l. at.taken.nets i (omega (arith, l, two)))
  acts_are _ (passed h (passed k (passed m rest))) = absurd (let e : true ≡ false = sym (ap is_access c.act_is) ∙ m in cc)
  acts_are _ (passed h (acted k at rest)) = absurd (let e : false ≡ true = sym (ap is_access b.act_is) ∙ k in cc)
  acts_are _ (acted h at rest) = absurd (let e : false ≡ true = sym (ap is_access a.act_is) ∙ h in cc)

pub doubled_nets : (d : Draft) (issue value : ℕ) (ops nets_of : List PipeOp) (nets : List ℕ) → AreDoubled value ops → AreActs d issue nets_of ops nets → AreThree d nets
doubled_nets d issue value ops all nets h acts = acts_are d issue all value h.given h.sum h.write h.given_is h.sum_is h.write_is nets (subst (λ os. AreActs d issue all os nets) h.are acts)

-- a net of a list
pub net_at : (d : Draft) (width : ℕ) (nets : List ℕ) (k net : ℕ) → k < length nets → net ≡ slice_index_or nets k net → HasNet d (slice_index nets k) width → HasNet d net width
net_at d width nets k net l e h = subst (λ n. HasNet d n width) (sym (e ∙ get_or_default nets k net 0 l)) h

pub some_there : (n : ℕ) → (n == 0) ≡ false → 0 < n
some_there zero e = absurd (let f : true ≡ false = e in cc)
some_there (suc n) e = omega arith
