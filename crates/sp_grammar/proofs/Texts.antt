-- What is read of a text, by its tokens.
use Rattle.std.proofs.Common.{◌≡◌, ℕ, List, Option, Some, None, Result, Ok, Err, refl, Bool, true, false, ◌==◌, ◌-◌, if◌then◌else◌}
use Rattle.sp_reader.specs.declared.error.ReadError.{ReadError}
use Rattle.sp_reader.specs.declared.error.ReadError.TheVariants.{NoParse}
use Rattle.sp_reader.specs.declared.limits.Limit.{Limit}
use Rattle.sp_reader.specs.declared.token.Token.{Token}
use Rattle.sp_reader.specs.Limits.{first_passed, fault_of, read_all, read_before, read_within, read_past, read_of, refusal_of, place_in}
use Rattle.sp_reader.specs.PlainStatement.{PlainSyntax}
use Rattle.sp_reader.specs.ProgramRules.{program}
use Rattle.sp_reader.specs.Steps.{Text}
use Rattle.sp_reader.specs.Tokens.{tokens_of}
use Rattle.std.specs.Prelude.{take}
use Rattle.sp_grammar.specs.Laws.{Spells}
use Rattle.sp_grammar.proofs.AgainPrograms.{program_again}
use Rattle.sp_grammar.proofs.Programs.{program_is}

all_read : (source : Text) (ts : List Token) (o : Result PlainSyntax ℕ) (tree : PlainSyntax) → read_all source ts o ≡ Ok tree → o ≡ Ok tree
all_read source ts (Ok s) tree h = cc
all_read source ts (Err left) tree h = absurd (cc)

none_read : (source : Text) (ts : List Token) (n : ℕ) (l : Limit) (o : Result PlainSyntax ℕ) (tree : PlainSyntax) → read_before source ts n l o ≡ Ok tree → ⊥
none_read source ts n l (Ok s) tree h = absurd (cc)
none_read source ts n l (Err left) tree h = by_left (left == 0) h
  where
    by_left : (b : Bool) → if◌then◌else◌ {A = Result PlainSyntax ReadError} b (Err (refusal_of l (place_in source ts n))) (Err (NoParse (place_in source ts (n - left)))) ≡ Ok tree → ⊥
    by_left true h = absurd (cc)
    by_left false h = absurd (cc)

pub spelled_is_read : (source : Text) (tree : PlainSyntax) → Spells source tree → read_of source ≡ Ok tree
unfolding read_of
spelled_is_read source tree h = rw (h.0.is_text, h.0.within, program_again source h.1) refl

pub read_is_spelled : (source : Text) (tree : PlainSyntax) → read_of source ≡ Ok tree → Spells source tree
unfolding read_of
read_is_spelled source tree h = by_fault (fault_of source) refl h
  where
    by_limit : fault_of source ≡ None → (o : Option (ℕ × Limit)) → first_passed source (tokens_of source) ≡ o → read_within source (tokens_of source) o ≡ Ok tree → Spells source tree
    by_limit text None is h = (record { is_text = text; within = is }, program_is source (tokens_of source) tree (all_read source (tokens_of source) (program source (tokens_of source)) tree h))
    by_limit text (Some p) is h = absurd (none_read source (tokens_of source) p.0 p.1 (program source (take p.0 (tokens_of source))) tree h)

    by_fault : (o : Option ℕ) → fault_of source ≡ o → read_past source o ≡ Ok tree → Spells source tree
    by_fault None is h = by_limit is (first_passed source (tokens_of source)) refl h
    by_fault (Some at) is h = absurd (cc)
