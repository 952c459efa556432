-- Texts that are read whole.
use Rattle.std.proofs.Common.{◌≡◌, ◌==◌, ℕ, Bool, true, false, take, if◌then◌else◌, List, [], Option, Some, None, Result, Ok, Err, refl, arith}
use Rattle.sp_reader.specs.declared.error.ReadError.{ReadError}
use Rattle.sp_reader.specs.declared.limits.Limit.{Limit}
use Rattle.sp_reader.specs.declared.token.Token.{Token}
use Rattle.sp_reader.specs.Limits.{first_passed, fault_of, read_all, read_before, read_within, read_past, read_of}
use Rattle.sp_reader.specs.PlainStatement.{PlainSyntax}
use Rattle.sp_reader.specs.ProgramRules.{program}
use Rattle.sp_reader.specs.Steps.{Text}
use Rattle.sp_reader.specs.Tokens.{tokens_of}
use Rattle.sp_typed.specs.ReadTree.{IsReadTree}
use Rattle.sp_read_trees.proofs.Levels.{Good}
use Rattle.sp_read_trees.proofs.Named.{tokens_named}
use Rattle.sp_read_trees.proofs.Programs.{program_keeps}

module _ (source : Text) where
  -- tokens of which none passes a limit, before the first of which no bracket is open
  good : first_passed source (tokens_of source) ≡ None → Good source 0 (tokens_of source)
  unfolding first_passed
  good h = record {
    named = tokens_named source;
    few = omega arith;
    at = record { counts = record { around = []; here = 0 }; number = 0; open_brackets = refl; none_passes = h };
  }

  of_all : (ts : List Token) (r : Result PlainSyntax ℕ) (tree : PlainSyntax) → read_all source ts r ≡ Ok tree → r ≡ Ok tree
  of_all ts (Ok s) tree h = let same : s ≡ tree = cc in cc
  of_all ts (Err left) tree h = absurd (cc)

  neither : (b : Bool) (e f : ReadError) (tree : PlainSyntax) → if◌then◌else◌ {A = Result PlainSyntax ReadError} b (Err e) (Err f) ≡ Ok tree → ⊥
  neither true e f tree h = absurd (cc)
  neither false e f tree h = absurd (cc)

  none_before : (ts : List Token) (number : ℕ) (limit : Limit) (r : Result PlainSyntax ℕ) (tree : PlainSyntax) → read_before source ts number limit r ≡ Ok tree → ⊥
  none_before ts number limit (Ok s) tree h = absurd (cc)
  none_before ts number limit (Err left) tree h = neither (left == 0) _ _ tree h

  within : (o : Option (ℕ × Limit)) → first_passed source (tokens_of source) ≡ o → (tree : PlainSyntax) → read_within source (tokens_of source) o ≡ Ok tree → IsReadTree tree
  within None is tree h = program_keeps source (tokens_of source) tree (good is) (of_all (tokens_of source) (program source (tokens_of source)) tree h)
  within (Some p) is tree h = absurd (none_before (tokens_of source) p.0 p.1 (program source (take p.0 (tokens_of source))) tree h)

  past_fault : (o : Option ℕ) (tree : PlainSyntax) → read_past source o ≡ Ok tree → IsReadTree tree
  past_fault None tree h = within (first_passed source (tokens_of source)) refl tree h
  past_fault (Some at) tree h = absurd (cc)

  pub tree_keeps : (tree : PlainSyntax) → read_of source ≡ Ok tree → IsReadTree tree
  unfolding read_of
  tree_keeps tree h = past_fault (fault_of source) tree h
