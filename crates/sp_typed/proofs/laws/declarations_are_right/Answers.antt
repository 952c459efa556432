use Rattle.std.proofs.Common.{◌≤◌, refl, sym, subst}
use Rattle.std.proofs.lemmas.List.Elements.{All-append}
use Rattle.sp_reader.specs.PlainStatement.{body}
use Rattle.sp_tree.specs.Declarations.{IsDeclaration}
use Rattle.sp_typed.specs.Declarations.{at_block, mems_declared, ports_declared}
use Rattle.sp_typed.proofs.DeclaredLemmas.{ports_right, mems_right, vals_right, counters_right, same_depth}
use Rattle.sp_typed.proofs.laws.declarations_are_right.Goals as goal

pub returns : goal.returns
returns c = λ s is.
    let ss = body s.body in
    record {
      declarations = All-append IsDeclaration (ports_declared s.decls) (mems_declared ss) (ports_right s.decls is.decls) (mems_right ss is.block);
      val_names = vals_right ss is.block;
      counter_names = counters_right ss is.block;
      ports = refl;
      nested = subst (λ n. n ≤ 64) (sym (same_depth (at_block s.decls) ss)) is.nested;
    }
