use Rattle.std.proofs.Common.{[], refl, codes, pos, arith}
use Rattle.std.proofs.lemmas.Str.{IsUtf8-from_ascii}
use Rattle.std.proofs.lemmas.Str.Ascii.{IsAscii-nil, IsAscii-cons}
use Rattle.toml.specs.Data.{no_members, member, integer}
use Rattle.toml.proofs.OnLiterals.{toml_on_literals}
use Rattle.sp_setup.proofs.laws.documents_are_told_apart.Goals as goal

pub returns-clause-one : goal.returns-clause-one
unfolding toml_on_literals
returns-clause-one c =
    let ascii = IsAscii-cons 116 (codes "urns = 7") (omega arith) (IsAscii-cons 117 (codes "rns = 7") (omega arith) (IsAscii-cons 114 (codes "ns = 7") (omega arith) (IsAscii-cons 110 (codes "s = 7") (omega arith) (IsAscii-cons 115 (codes " = 7") (omega arith) (IsAscii-cons 32 (codes "= 7") (omega arith) (IsAscii-cons 61 (codes " 7") (omega arith) (IsAscii-cons 32 (codes "7") (omega arith) (IsAscii-cons 55 [] (omega arith) IsAscii-nil)))))))) in
    (member (codes "turns") (integer (pos 7)) no_members, record { text = IsUtf8-from_ascii (codes "turns = 7") ascii; document = refl }, refl)

pub returns-clause-none : goal.returns-clause-none
unfolding toml_on_literals
returns-clause-none c = λ _. refl
