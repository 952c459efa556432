use Rattle.std.proofs.Common.{true, ap, lit≤}
use Rattle.sp_words.specs.declared.types.FixTy.{FixTy}
use Rattle.sp_words.specs.declared.types.Ty.TheVariants.{Fix}
use Rattle.sp_words.proofs.TypeLemmas.{same_fix}
use Rattle.sp_slices.proofs.wide.wide.Goals as goal

abbrev fix64 : FixTy
fix64 = record { signed = true; whole = 64; frac = 0; has_bits = lit≤ tt; in_a_word = lit≤ tt }

pub returns-in-Some : goal.returns-in-Some
returns-in-Some c = let h = c.in-Some.ensures in ap Fix (same_fix c.in-Some.fix fix64 h.sign h.whole_bits h.frac_bits)

pub returns-in-None : goal.returns-in-None
returns-in-None c = let e = c.in-None.ensures.exists.1 (lit≤ tt, lit≤ tt) in absurd (cc (e))
