-- Which accesses are picked.
use Rattle.std.proofs.Common.{◌≡◌, ◌==◌, Bool, true, false, ◌&&◌, refl, sym, ◌∙◌, ap}
use Rattle.std.proofs.lemmas.Bool.{true≢false, and_parts, eqb-true, eq-eqb}
use Rattle.sp_core.specs.declared.operation.OpKind.{OpKind}
use Rattle.sp_core.specs.declared.operation.OpKind.TheVariants.{Read, Write, Enq, Deq, Reset}
use Rattle.sp_core.specs.OperationRules.{is_access}
use Rattle.sp_access_nets.specs.Picking.{is_read, is_write, is_put, is_take, is_reset, is_same_access, PicksAccessesTo}

read_is : (o : OpKind) → is_read o ≡ true → o ≡ Read
read_is Read e = refl
read_is _ e = absurd (true≢false (sym e))

write_is : (o : OpKind) → is_write o ≡ true → o ≡ Write
write_is Write e = refl
write_is _ e = absurd (true≢false (sym e))

put_is : (o : OpKind) → is_put o ≡ true → o ≡ Enq
put_is Enq e = refl
put_is _ e = absurd (true≢false (sym e))

take_is : (o : OpKind) → is_take o ≡ true → o ≡ Deq
take_is Deq e = refl
take_is _ e = absurd (true≢false (sym e))

reset_is : (o : OpKind) → is_reset o ≡ true → o ≡ Reset
reset_is Reset e = refl
reset_is _ e = absurd (true≢false (sym e))

same_is : (kind o : OpKind) → is_same_access kind o ≡ true → o ≡ kind
same_is Read o e = read_is o e
same_is Write o e = write_is o e
same_is Enq o e = put_is o e
same_is Deq o e = take_is o e
same_is Reset o e = reset_is o e
same_is _ o e = absurd (true≢false (sym e))

is_itself : (kind : OpKind) → is_access kind ≡ true → is_same_access kind kind ≡ true
is_itself Read e = refl
is_itself Write e = refl
is_itself Enq e = refl
is_itself Deq e = refl
is_itself Reset e = refl
is_itself _ e = absurd (true≢false (sym e))

both_true : (a b : Bool) → a ≡ true → b ≡ true → (a && b) ≡ true
both_true true b e f = f
both_true false b e f = e

pub picks : PicksAccessesTo
picks mem kind a e = (
  λ h. let p = and_parts (a.mem == mem) (is_same_access kind a.kind) h in (eqb-true a.mem mem p.0, same_is kind a.kind p.1),
  λ m k. both_true (a.mem == mem) (is_same_access kind a.kind) (eq-eqb a.mem mem m) (ap (is_same_access kind) k ∙ is_itself kind e),
)
