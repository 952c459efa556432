-- A text that spells a program spells no other, and has no cause to be refused.
use Rattle.std.proofs.Common.{◌≡◌, ◌∙◌, ℕ, List, [], Some, None, Ok, Err, refl, sym, ap, subst}
use Rattle.sp_counts.proofs.OverLemmas.{limits_tell}
use Rattle.sp_counts.specs.declared.over.Over.{Over}
use Rattle.sp_counts.specs.Over.{first_over}
use Rattle.sp_reader.specs.declared.error.ReadError.{ReadError}
use Rattle.sp_reader.specs.declared.error.ReadError.TheVariants as read
use Rattle.sp_reader.specs.Limits.{read_of}
use Rattle.sp_reader.specs.PlainStatement.{PlainSyntax}
use Rattle.sp_tree.specs.PlainProgram.{PlainProgram}
use Rattle.sp_typed.specs.Programs.{program_of}
use Rattle.sp_types.specs.declared.refusal.Refusal.{Refusal}
use Rattle.sp_types.specs.First.{notes}
use Rattle.sp_types.specs.Statements.{refusals, first_refusal}
use Rattle.sp_check.specs.declared.error.TypeError.{TypeError}
use Rattle.sp_check.specs.declared.error.TypeError.TheVariants as types
use Rattle.sp_check.specs.Refused.{IsRight, IsCause}
use Rattle.sp_source.specs.declared.error.SourceError.{SourceError}
use Rattle.sp_source.specs.declared.error.SourceError.TheVariants.{Read, Types, Memory}
use Rattle.sp_source.specs.Texts.{Spells, BreaksRule, IsCauseOf}

one_tree : (text : List ℕ) (s t : PlainSyntax) → read_of text ≡ Ok s → read_of text ≡ Ok t → s ≡ t
one_tree text s t p q = let same = sym p ∙ q in cc

pub one_program : (text : List ℕ) (p q : PlainProgram) → Spells text p → Spells text q → p ≡ q
one_program text p q a b = a.is_program ∙ ap program_of (one_tree text a.tree b.tree a.is_read b.is_read) ∙ sym b.is_program

-- a tree without refusals has no first one
none_is_first : (s : PlainSyntax) (r : Refusal) → refusals s ≡ [] → first_refusal s ≡ Some r → ⊥
unfolding notes
none_is_first s r e h = let first : notes None [] ≡ Some r = ap (notes None) (sym e) ∙ h in absurd (cc)

none_is_over : (s : PlainSyntax) (o : Over) → IsRight s → first_over (program_of s) ≡ Some o → ⊥
none_is_over s o right h = let none = (limits_tell (program_of s) (first_over (program_of s)) refl).1 right.within in let bad = sym none ∙ h in absurd (cc)

no_cause : (s : PlainSyntax) (e : TypeError) → IsRight s → IsCause s e → e ≡ types.Memory
no_cause s (types.UnknownName at) right h = absurd (none_is_first s _ right.unrefused h)
no_cause s (types.Twice at) right h = absurd (none_is_first s _ right.unrefused h)
no_cause s (types.TypeClash at want got) right h = absurd (none_is_first s _ right.unrefused h)
no_cause s (types.Rank at want got) right h = absurd (none_is_first s _ right.unrefused h)
no_cause s (types.Misused at) right h = absurd (none_is_first s _ right.unrefused h)
no_cause s (types.ParPlace at) right h = absurd (none_is_first s _ right.unrefused h)
no_cause s (types.Limit which count) right h = absurd (none_is_over s _ right h.1)
no_cause s types.Memory right h = refl

module _ (text : List ℕ) (p : PlainProgram) (spells : Spells text p) where
  not_read : (e : ReadError) → read_of text ≡ Err e → ⊥
  not_read e h = let bad = sym spells.is_read ∙ h in absurd (cc)

  no_break : (e : TypeError) → BreaksRule text e → e ≡ types.Memory
  no_break e b = no_cause spells.tree e spells.is_right (subst (λ t. IsCause t e) (one_tree text b.tree spells.tree b.is_read spells.is_read) b.is_cause)

  pub not_refused : (error : SourceError) → IsCauseOf text error → error ≡ Memory
  not_refused (Read (read.NotText at)) h = absurd (not_read _ h)
  not_refused (Read (read.NoParse at)) h = absurd (not_read _ h)
  not_refused (Read (read.TooDeep at)) h = absurd (not_read _ h)
  not_refused (Read (read.LiteralTooWide at)) h = absurd (not_read _ h)
  not_refused (Read read.Memory) h = absurd h
  not_refused (Types types.Memory) h = absurd h
  not_refused (Types (types.UnknownName at)) h = let bad = no_break _ h in absurd (cc)
  not_refused (Types (types.Twice at)) h = let bad = no_break _ h in absurd (cc)
  not_refused (Types (types.TypeClash at want got)) h = let bad = no_break _ h in absurd (cc)
  not_refused (Types (types.Rank at want got)) h = let bad = no_break _ h in absurd (cc)
  not_refused (Types (types.Misused at)) h = let bad = no_break _ h in absurd (cc)
  not_refused (Types (types.ParPlace at)) h = let bad = no_break _ h in absurd (cc)
  not_refused (Types (types.Limit which count)) h = let bad = no_break _ h in absurd (cc)
  not_refused Memory h = refl
